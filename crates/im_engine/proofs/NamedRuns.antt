-- Runs over a disk whose logs get their names on the way.
use Rattle.std.proofs.Common.{◌⊎◌, inl, inr, ⊎_elim, ℕ, Bool, true, false, sym, ◌∙◌, ap, arith}
use Rattle.im_base_disk.specs.declared.disk.Disk.{Ghosts}
use Rattle.im_base_disk.specs.Disk.{Files}
use Rattle.im_base_disk.specs.Runs.{IsSynced, Reads}
use Rattle.im_base_two_logs.specs.Renamed.{file_named, named, same_files}
use Rattle.im_base_two_logs.specs.Runs.{IsNameless, LeavesNamed}
use Rattle.im_base_two_logs.proofs.Runs.{back}
use Rattle.im_log_choice.specs.Switching.{ReadsNamed}

-- what holds by some names holds by those of the files
pub by_names : (P : Files → Type 0) → IsNameless P → (swapped : Bool) (c : Files) → P (named swapped c) → P c
by_names P nameless true c is = back P c (nameless (named true c) is)
by_names P nameless false c is = is

module _ {D : Type 0} (d : Ghosts D) where
  -- a weaker fact
  pub named_weakened : (old new : D) (P Q : Files → Type 0) → LeavesNamed d old new P → (d.tells → (c : Files) → P c → Q c) → LeavesNamed d old new Q
  named_weakened old new P Q run within = record {
    later = run.later;
    each = λ told c left. within told c (run.each told c left);
    before = λ told t c le left. ⊎_elim (λ past. inl past) (λ now. inr (within told c now)) (run.before told t c le left);
  }

  module _ (old mid : D) (reads : ReadsNamed d old mid) where
    -- of files that are all on the disk
    pub names_synced : IsSynced d old → IsSynced d mid
    names_synced synced file c left =
        ap (λ (f : Files). f file) (sym (same_files reads.swapped c)) ∙ synced (file_named reads.swapped file) (named reads.swapped c) ((reads.outcomes c).0 left) ∙ ap (λ (f : Files). f file) (sym reads.seen)

    -- what was read and named leaves what was left before
    pub names_leave : (P : Files → Type 0) → IsNameless P → (d.tells → (c : Files) → d.left_since old (d.moment old) c → P c) → LeavesNamed d old mid P
    names_leave P nameless here = record {
      later = reads.later;
      each = λ told c left. by_names P nameless reads.swapped c (here told (named reads.swapped c) ((reads.since (d.moment old) c (omega arith)).0 left));
      before = λ told t c le left. inl (by t c reads.swapped ((reads.since t c le).0 left));
    }
      where
        by : (t : ℕ) (c : Files) (swapped : Bool) → d.left_since old t (named swapped c) → d.left_since old t c ⊎ d.left_since old t (named true c)
        by t c true left = inr left
        by t c false left = inl left

    -- and reads after it
    pub names_then : (new : D) → Reads d mid new → ReadsNamed d old new
    names_then new more = record {
      swapped = reads.swapped;
      seen = more.seen ∙ reads.seen;
      outcomes = λ c. (λ left. (reads.outcomes c).0 (more.outcomes c left), λ left. more.no_fewer c ((reads.outcomes c).1 left));
      later = omega (arith, reads.later, more.later);
      since = λ t c le. (λ left. (reads.since t c le).0 (more.since t c (omega (arith, le, reads.later)) left), λ left. more.keeps t c (omega (arith, le, reads.later)) ((reads.since t c le).1 left));
      writes = more.writes ∙ reads.writes;
      syncs = more.syncs ∙ reads.syncs;
    }
