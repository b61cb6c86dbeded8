-- What a gate knows outlives calls on the other files.
use Rattle.im_log_gate.proofs.Places.{ends}
use Rattle.std.proofs.Common.{Some, ◌+◌, ◌≡◌, ◌≢◌, ℕ, false, List, get_or, sym, ◌∙◌, ap, subst}
use Rattle.im_base_disk.specs.declared.disk.Disk.{Ghosts}
use Rattle.im_base_disk.specs.Runs.{Spares}
use Rattle.im_log_gate.specs.declared.gate.Gate.{Gate}
use Rattle.im_log_gate.specs.Batches.{batches, batches_from, size_of, in_front_of, Reaches}
use Rattle.im_log_gate.specs.Gate.{file_of, first_of, place_of, has_failed, logged, unread, IsReading, IsReady}

module _ {D : Type 0} (d : Ghosts D) (gate : Gate) (old new : D) (spares : Spares d (file_of gate) old new) (works : d.failed new ≡ false) where
  pub logged_spared : logged d gate new ≡ logged d gate old
  logged_spared = ap (batches (first_of gate)) spares.seen

  pub unread_spared : unread d gate new ≡ unread d gate old
  unread_spared = ap (batches_from (place_of gate)) spares.seen

  pub reading_spared : IsReading d gate old → IsReading d gate new
  reading_spared reading = record {
    working = λ _. works;
    reaches = λ usable told. subst (λ (l : List ℕ). Reaches gate.first l gate.place) (sym spares.seen) (reading.reaches usable told);
    durable = λ usable c left. let e = spares.outcomes c left in e.2 ∙ reading.durable usable e.0 e.1 ∙ sym spares.seen;
  }

  pub ready_spared : IsReady d gate old → IsReady d gate new
  ready_spared ready = record {
    reading = reading_spared ready.reading;
    closed = λ usable told. subst (λ (l : List ℕ). get_or l gate.place 0 ≢ 1) (sym spares.seen) (ready.closed usable told);
  }

-- where a closed gate stands
pub ready_place : {D : Type 0} (d : Ghosts D) (gate : Gate) (disk : D) → IsReady d gate disk → has_failed gate ≡ false → d.tells → (before : List (List ℕ)) × (logged d gate disk ≡ Some before) × (place_of gate ≡ first_of gate + size_of before)
ready_place d gate disk ready works told =
    let r = ready.reading.reaches works told in
    (in_front_of gate.first gate.place (d.seen disk gate.file), ends gate.first (d.seen disk gate.file) gate.place r (ready.closed works told), r.placed)
