-- A gate outlives calls on the other files.
use Rattle.std.proofs.Common.{◌≡◌, ◌≢◌, ℕ, List, [], ◌∷◌, ◌++◌, take, false, get_or, sym, ◌∙◌, subst}
use Rattle.im_base_disk.specs.declared.disk.Disk.{Ghosts}
use Rattle.im_base_disk.specs.Runs.{Spares}
use Rattle.im_log_sum_gate.specs.declared.gate.SumGate.{SumGate}
use Rattle.im_log_sum_gate.specs.Batches.{batches, Ends, IsClearTo, Reaches}
use Rattle.im_log_sum_gate.specs.Gate.{IsReading, IsReady}

module _ {D : Type 0} (d : Ghosts D) (gate : SumGate) (old new : D) (works : d.failed new ≡ false) (spares : Spares d gate.file old new) where
  pub reading_spared : IsReading d gate old → IsReading d gate new
  reading_spared reading = record {
    log = reading.log;
    working = λ _. works;
    reaches = λ usable told. subst (λ (l : List ℕ). Reaches gate.header gate.place (batches gate.header (take gate.place l ++ 0 ∷ [])) l) (sym spares.seen) (reading.reaches usable told);
    durable = λ usable c left. let e = spares.outcomes c left in e.2 ∙ reading.durable usable e.0 e.1 ∙ sym spares.seen;
  }

  pub ready_spared : IsReady d gate old → IsReady d gate new
  ready_spared ready = record {
    log = ready.log;
    working = λ _. works;
    ends = λ usable told. subst (λ (l : List ℕ). Ends gate.header gate.place (batches gate.header l) l) (sym spares.seen) (ready.ends usable told);
    shut = λ usable is told. subst (λ (l : List ℕ). get_or l gate.place 0 ≢ 1) (sym spares.seen) (ready.shut usable is told);
    opened = λ usable is told. subst (λ (l : List ℕ). get_or l gate.place 0 ≡ 1) (sym spares.seen) (ready.opened usable is told);
    clear = λ usable told. subst (λ (l : List ℕ). IsClearTo gate.header gate.clear gate.place l) (sym spares.seen) (ready.clear usable told);
    durable = λ usable c left. let e = spares.outcomes c left in e.2 ∙ ready.durable usable e.0 e.1 ∙ sym spares.seen;
  }
