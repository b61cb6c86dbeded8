use Rattle.std.proofs.Common.{◌≡◌, ◌+◌, ℕ, List, [], ◌∷◌, take, drop, ◌∙◌, ap, arith, subst}
use Rattle.im_log_gate.specs.Batches.{batches_from, in_front, Reaches}
use Rattle.im_log_gate.proofs.BatchesAhead.{goes_past, next_ahead}
use Rattle.im_log_gate.proofs.gate.Gate.pass.Goals as goal

pub returns-clause-reading : goal.returns-clause-reading
returns-clause-reading g c =
    let old = c.args.self.now in
    let file : List ℕ = g.D.Disk.seen c.args.disk.now old.file in
    let size = c.in_ok-size.size in
    let batch = c.in_ok-size.ensures.whole in
    let e : old.place + (size + 5) ≡ c.in_ok-place.place = omega (arith, c.in_ok-place.ensures) in
    record {
      working = c.requires.reading.working;
      reaches = λ works told.
          subst (λ (k : ℕ). Reaches old.first file k) e
          (goes_past file old.place c.args.ahead.now (c.requires.ahead works told) old.first size (c.requires.reading.reaches works told) batch.0 batch.1);
      durable = c.requires.reading.durable;
    }

pub returns-clause-next : goal.returns-clause-next
returns-clause-next g c told =
    let old = c.args.self.now in
    let file : List ℕ = g.D.Disk.seen c.args.disk.now old.file in
    let size = c.in_ok-size.size in
    let batch = c.in_ok-size.ensures.whole in
    let e : old.place + (size + 5) ≡ c.in_ok-place.place = omega (arith, c.in_ok-place.ensures) in
    let works = c.if-self.false in
    next_ahead file old.place c.args.ahead.now (c.requires.ahead works told) old.first size (c.requires.reading.reaches works told) batch.0 batch.1
    ∙ ap (λ (k : ℕ). in_front (take size (drop 5 c.args.ahead.now) ∷ []) (batches_from k file)) e
