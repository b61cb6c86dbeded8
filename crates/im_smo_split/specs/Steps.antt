-- What the steps of a split keep.
use Rattle.std.specs.Prelude.{◌≡◌, ℕ, Bool, List}
use Rattle.im_base_types.specs.Keys.{Key}
use Rattle.im_base_types.specs.Pages.{Body}
use Rattle.im_theory_page.specs.Entry.{entry_at, Rises}
use Rattle.im_theory_page.specs.Child.{IsChild}
use Rattle.im_page_writer.specs.Outcome.{AllPages}
use Rattle.im_theory_tree.specs.Levels.{walk}
use Rattle.im_smo_pages.specs.Images.{Numbered, Has, KeepsAll}
use Rattle.im_smo_pages.specs.OnImages.{PartsInner, PartsRootInner}
use Rattle.im_smo_pages.specs.OnWay.{IsHalf}
use Rattle.im_smo_pages.specs.Seen.{seen}
use Rattle.im_theory_tree.specs.Ways.{KeepsAllWays}
use Rattle.im_smo_split.specs.Pages.{newest_first}
use Rattle.im_smo_split.specs.PendingSplits.{IsPending}
use Rattle.im_smo_split.specs.declared.pending_split.PendingSplit.{PendingSplit}

-- Inner page p, which held this body, is split, and `half` is the part that the key belongs to; `child` is the child on the key's way.
pub record HalvesInner (old new : List Numbered) (page : Body) (key : Key) (parent p q half child : ℕ) : Type 0 where
  pub point : ℕ
  pub parts : PartsInner old new page parent p q point
  pub rises : Rises page.entries
  pub child_is : IsChild page key child
  pub half_is : IsHalf (entry_at page.entries point).0 key p q half

-- the same of the root, which is split into pages l and r
pub record HalvesRoot (old new : List Numbered) (page : Body) (key : Key) (l r half child : ℕ) : Type 0 where
  pub point : ℕ
  pub parts : PartsRootInner old new page l r point
  pub rises : Rises page.entries
  pub child_is : IsChild page key child
  pub half_is : IsHalf (entry_at page.entries point).0 key l r half

-- The page of this number is among the images, and what is seen of each page is as it was.
pub record Brought (store : AllPages) (images : List Numbered) (number : ℕ) (new : List Numbered) : Type 0 where
  pub there : Has new number
  pub kept : KeepsAll images new
  pub same : seen store new ≡ seen store images

-- A page is to be split whose parent is among the images, and the walk is that of before.
pub record LeavesPending (dense : Bool) (store : AllPages) (key : Key) (images : List Numbered) (pending : PendingSplit) (new : List Numbered) (numbers : List ℕ) : Type 0 where
  pub pending_is : IsPending dense (seen store new) (newest_first numbers) key pending.level pending.parent pending.page
  pub parent : Has new pending.parent
  pub same : walk (seen store new) ≡ walk (seen store images)
  pub ways : KeepsAllWays (seen store images) (seen store new)
