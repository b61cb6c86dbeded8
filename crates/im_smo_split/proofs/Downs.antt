-- One split after another, down to the leaf.
use Rattle.std.proofs.Common.{◌≡◌, ℕ, ◌≤◌, Bool, List, length, None, subst, ◌∙◌}
use Rattle.im_base_types.specs.Keys.{Key}
use Rattle.im_base_disk.specs.declared.disk.Disk.{Ghosts}
use Rattle.im_page_writer.specs.declared.page_writer.PageWriter.{PageWriter}
use Rattle.im_page_writer.specs.Outcome.{AllPages, AreLoaded, HasPages}
use Rattle.im_smo_pages.specs.Images.{Numbered, image_of, Has}
use Rattle.im_smo_pages.specs.Seen.{seen}
use Rattle.im_smo_pages.specs.Kept.{HasImages}
use Rattle.im_smo_pages.proofs.PlanWays.{has_none}
use Rattle.im_smo_split.specs.Pages.{newest_first}
use Rattle.im_smo_split.specs.Steps.{LeavesPending}
use Rattle.im_smo_split.specs.Ends.{Ended}
use Rattle.im_smo_split.specs.declared.pending_split.PendingSplit.{PendingSplit}
use Rattle.im_smo_split.proofs.Ends.{IsEnd}

module _ (s : AllPages) (key : Key) (images : List Numbered) where
  -- the split of the leaf among the images
  pub ended : (new : List Numbered) (leaf g : ℕ) → IsEnd (seen s images) (seen s new) key g leaf × (1 ≤ length new) × Has new g × Has new leaf → Ended s key images new leaf
  ended new leaf g end = record {
    good = end.0.good;
    same = end.0.same;
    room = end.0.room;
    way = end.0.way;
    ways = λ k q way apart. end.0.ways k q way (λ e. has_none (image_of new g) end.2 (subst (λ x. image_of new x ≡ None) e apart));
    some = end.1;
    has = end.3;
  }

  module _ {dense : Bool} (pending : PendingSplit) (mid : List Numbered) (numbers : List ℕ) (one : LeavesPending dense s key images pending mid numbers) where
    pub has_split : {D : Type 0} (d : Ghosts D) {w : PageWriter} {disk : D} → HasPages d AreLoaded s w disk → HasImages d s mid (newest_first numbers) w disk
    has_split {D} d {w} {disk} has = record { has = has; good = one.pending_is.good }

    -- the next one
    pub split_then : (next : PendingSplit) (new : List Numbered) (left : List ℕ) → LeavesPending dense s key mid next new left → LeavesPending dense s key images next new left
    split_then next new left two = record { pending_is = two.pending_is; parent = two.parent; same = two.same ∙ one.same; ways = λ k q way all. two.ways k q (one.ways k q way tt) tt }

    -- the end
    pub end_then : (new : List Numbered) (leaf : ℕ) → Ended s key mid new leaf → Ended s key images new leaf
    end_then new leaf two = record { good = two.good; same = two.same ∙ one.same; room = two.room; way = two.way; ways = λ k q way apart. two.ways k q (one.ways k q way tt) apart; some = two.some; has = two.has }
