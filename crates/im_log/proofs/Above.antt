-- What the layers above compose.
use Rattle.std.proofs.Common.{false, ◌≡◌, ℕ, ◌≤◌, List, [], ◌∷◌, ◌++◌, refl, sym, ◌∙◌, ap, subst, append_assoc}
use Rattle.im_base_types.specs.declared.file_id.FileId.TheVariants.{Log}
use Rattle.im_base_types.specs.Records.{Logged}
use Rattle.im_theory_log.specs.Histories.{IsFront}
use Rattle.im_base_disk.specs.declared.disk.Disk.{Ghosts}
use Rattle.im_base_disk.specs.Disk.{Files}
use Rattle.im_base_disk.specs.Runs.{LeavesOnly, Spares}
use Rattle.im_log_gate.specs.Gate.{StartsAs}
use Rattle.im_log_gate.specs.Header.{base_of, IsMade}
use Rattle.im_log_gate.proofs.Frames.{ready_spared}
use Rattle.im_log.specs.declared.log_file.LogFile.{LogFile}
use Rattle.im_log.specs.Spelled.{log_of}
use Rattle.im_log.specs.LogFile.{IsOpen, IsLog}

pub front_none : (log : List Logged) → IsFront log log
front_none log = record { newer = []; is = refl }

pub front_one : (r : Logged) (log : List Logged) → IsFront log (r ∷ log)
front_one r log = record { newer = r ∷ []; is = refl }

pub front_then : (a b c : List Logged) → IsFront a b → IsFront b c → IsFront a c
front_then a b c first second = record {
  newer = second.newer ++ first.newer;
  is = append_assoc second.newer first.newer a ∙ ap (λ (l : List Logged). second.newer ++ l) first.is ∙ second.is;
}

module _ {D : Type 0} (d : Ghosts D) where
  -- what a stop leaves once the calls are made
  pub left_now : (old new : D) (P : Files → Type 0) → ((t : ℕ) (c : Files) → t ≤ d.moment new → d.may_leave new c → d.left_since new t c) → LeavesOnly d old new P → d.tells
      → (c : Files) → d.may_leave new c → P c
  left_now old new P counts_now run told c left = run.each told c (counts_now (d.moment old) c run.later left)

  -- what holds of a log outlives calls on the other file
  pub log_spared : (base : ℕ) (all durable : List Logged) (file : LogFile) (old new : D) → Spares d Log old new → IsLog d base all durable file old → IsLog d base all durable file new
  log_spared base all durable file old new spares h = record {
    tells = h.tells;
    working = h.working;
    based = h.based;
    made = subst IsMade (sym spares.seen) h.made;
    starts = ap base_of spares.seen ∙ h.starts;
    on_disk = ap (log_of base) spares.seen ∙ h.on_disk;
    sealed = h.sealed;
    mid = h.mid;
    in_sealed = h.in_sealed;
    in_buffer = h.in_buffer;
    front = h.front;
    below = h.below;
  }

  pub open_spared : (file : LogFile) (old new : D) → Spares d Log old new → d.failed new ≡ false → IsOpen d file old → IsOpen d file new
  open_spared file old new spares works is_open = record {
    ready = ready_spared d file.gate old new (subst (λ f. Spares d f old new) (sym file.of_log.file) spares) works is_open.ready;
    starts = λ told. subst (λ (l : List ℕ). StartsAs file.gate l) (sym spares.seen) (is_open.starts told);
    working = is_open.working;
    placed = is_open.placed;
    room = is_open.room;
    sealed = is_open.sealed;
    filling = is_open.filling;
  }
