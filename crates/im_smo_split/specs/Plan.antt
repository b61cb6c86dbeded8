-- What a plan of a split answers, and when it is refused.
use Rattle.std.specs.Prelude.{◌≡◌, ◌⊎◌, ◌+◌, ◌-◌, ◌^◌, ◌<◌, ◌≤◌, ℕ, zero, true, Bool, List, [], length, Option, Some}
use Rattle.im_base_types.specs.declared.fault.Fault.{Fault}
use Rattle.im_base_types.specs.declared.fault.Fault.TheVariants.{Capacity, PagesFull}
use Rattle.im_base_types.specs.Keys.{Key}
use Rattle.im_page_writer.specs.Outcome.{AllPages}
use Rattle.im_theory_page.specs.Split.{HasRoom}
use Rattle.im_theory_tree.specs.Levels.{Pages, height, walk}
use Rattle.im_theory_tree.specs.Good.{IsGoodTree}
use Rattle.im_theory_tree.specs.Search.{IsOnWay}
use Rattle.im_theory_tree.specs.KeySplits.{HasRoomOnWay}
use Rattle.im_smo_pages.specs.Images.{Numbered, Has}
use Rattle.im_smo_pages.specs.OnWay.{IsApart}
use Rattle.im_smo_pages.specs.Seen.{bodies, seen}
use Rattle.im_theory_tree.specs.Ways.{KeepsWays}
use Rattle.im_smo_split.specs.Paths.{OnPath, IsPath, new_pages}
use Rattle.im_smo_split.specs.Tops.{HasRoomFor, LacksRoomFor}
use Rattle.im_smo_split.specs.PendingSplits.{SplitsDown}

-- the pages that a key's entry needs, beside those that there are and are not free, are at most so many
pub record IsWithin (dense : Bool) (pages : Pages) (key : Key) (max : ℕ) : Type 0 where
  pub path : List OnPath
  pub is_path : IsPath dense pages key 0 path
  pub few : (pages 0).leftmost + new_pages pages key path ≤ max + (pages 0).prev

-- or they are more
pub record IsOver (dense : Bool) (pages : Pages) (key : Key) (max : ℕ) : Type 0 where
  pub path : List OnPath
  pub is_path : IsPath dense pages key 0 path
  pub many : max + (pages 0).prev < (pages 0).leftmost + new_pages pages key path

-- the key's entry has room in each leaf that is the key's
abbrev pub FitsInLeaf : Pages → Key → Type 0
FitsInLeaf pages key = (p : ℕ) → IsOnWay pages zero key p → HasRoom true (pages p).entries (key, 0)

-- The images, put in the place of the pages, are a good tree with the same walk and no page spare, in which the key's leaf has room for its entry. There are none only where it had that room already, and some where it had not; then this page, one of them, is that leaf. Each leaf that is none of them keeps its keys.
pub record Planned (dense : Bool) (store : AllPages) (key : Key) (max : Option ℕ) (images : List Numbered) (leaf : ℕ) : Type 0 where
  pub good : IsGoodTree (seen store images) []
  pub same : walk (seen store images) ≡ walk (bodies store)
  pub ways : KeepsWays (bodies store) (seen store images) (IsApart images)
  pub room : HasRoomFor (seen store images) key
  pub fits : FitsInLeaf (seen store images) key
  pub way : 1 ≤ length images → IsOnWay (seen store images) zero key leaf
  pub has : 1 ≤ length images → Has images leaf
  pub any : (images ≡ []) ⊎ HasRoomOnWay (seen store images) zero key
  pub none : images ≡ [] → HasRoomFor (bodies store) key
  pub some : (p : ℕ) → IsOnWay (bodies store) zero key p → (HasRoom true (bodies store p).entries (key, 0) → ⊥) → 1 ≤ length images
  pub lacks : 1 ≤ length images → LacksRoomFor (bodies store) key
  pub within : (m : ℕ) → max ≡ Some m → (images ≡ []) ⊎ IsWithin dense (bodies store) key m

-- Pages or page numbers are wanted only where the key's leaf lacks room for its entry, and those that the split takes are too many; or where the root is of the last level and has to be split.
pub record WantsPages (dense : Bool) (pages : Pages) (key : Key) (max : Option ℕ) (e : Fault) : Type 0 where
  pub full : e ≡ PagesFull → (m : ℕ) × (max ≡ Some m) × IsOver dense pages key m
  pub used_up : e ≡ Capacity → IsOver dense pages key (2 ^ 32 - 1) ⊎ (height pages ≡ 255)
  pub whole_way : e ≡ Capacity → IsOver dense pages key (2 ^ 32 - 1) ⊎ SplitsDown dense pages key 255 1
  pub lacks : (e ≡ Capacity) ⊎ (e ≡ PagesFull) → LacksRoomFor pages key
