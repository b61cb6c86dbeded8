use Rattle.std.proofs.Common.{◌≡◌, refl, rules, arith}
use Rattle.im_base_types.specs.declared.fault.Fault.TheVariants.{LogFull}
use Rattle.im_base_disk.proofs.Costs.{most_none}
use Rattle.im_log_gate.specs.Batches.{size_of}
use Rattle.im_base_disk.proofs.Ends.{not_failed, device_refused}
use Rattle.im_log_gate.proofs.Puts.{lays_all, ready_behind, used_is}
use Rattle.im_log_gate.proofs.gate.Gate.put_batches.Goals as goal
use Rattle.im_log_gate.proofs.gate.Gate.put_batches.Goals.{then-is_within, else-is_within}

pub returns-in_err-put_laid-clause-any_moment : goal.returns-in_err-put_laid-clause-any_moment
returns-in_err-put_laid-clause-any_moment g c works bs l =
    c.put_laid.ensures.any_moment c.args.self.now.first bs (lays_all bs c.args.room.now c.clear.new.room c.args.used c.if-is_within.written l c.clear.ensures.front
    (elim c.if-is_within.branch [
      | then-is_within w ↦ omega (arith, w.written-is)
      | else-is_within w ↦ omega (arith, w.written-is, c.requires.used)
    ]))
    (c.requires.ready.reading.reaches works)

pub returns-clause-any_moment : goal.returns-clause-any_moment
returns-clause-any_moment g c works bs l =
    c.put_laid.ensures.any_moment c.args.self.now.first bs (lays_all bs c.args.room.now c.clear.new.room c.args.used c.if-is_within.written l c.clear.ensures.front
    (elim c.if-is_within.branch [
      | then-is_within w ↦ omega (arith, w.written-is)
      | else-is_within w ↦ omega (arith, w.written-is, c.requires.used)
    ]))
    (c.requires.ready.reading.reaches works)

pub returns-clause-put : goal.returns-clause-put
returns-clause-put g c bs l told =
    (c.in_ok-put_laid.ensures.put c.args.self.now.first bs (lays_all bs c.args.room.now c.clear.new.room c.args.used c.if-is_within.written l c.clear.ensures.front
    (elim c.if-is_within.branch [
      | then-is_within w ↦ omega (arith, w.written-is)
      | else-is_within w ↦ omega (arith, w.written-is, c.requires.used)
    ]))
    (c.requires.ready.reading.reaches c.if-self.false) told).added

pub returns-in_err-put_laid-clause-outcome : goal.returns-in_err-put_laid-clause-outcome
returns-in_err-put_laid-clause-outcome g c = record {
  ready = search rules;
  same = search rules;
  changes = c.put_laid.ensures.changes.only;
  front = λ works. c.put_laid.ensures.changes.front c.args.self.now.first (λ told. let r = c.requires.ready.reading.reaches works told in omega (arith, r.placed));
  untouched = λ same. absurd (not_failed c.in_err-put_laid.field-0.0 c.from_residual.result c.from_residual.ensures.1 c.in_err-put_laid.ensures.answers.device same);
  failed = search rules;
  refusals = device_refused (λ e. e ≡ LogFull) c.args.self.now.failed (g.D.Disk.failed c.put_laid.new.disk) c.in_err-put_laid.field-0.0 c.from_residual.result c.from_residual.ensures.1 c.in_err-put_laid.ensures.answers.device c.if-self.false c.in_err-put_laid.ensures.answers.noted;
}

pub returns-clause-outcome : goal.returns-clause-outcome
returns-clause-outcome g c =
    let gate = c.args.self.now in
    let bs = c.requires.laid.0 in
    let l = c.requires.laid.1 in
    let size : size_of bs ≡ c.args.used = used_is bs c.args.room.now c.args.used (omega (arith, c.requires.used, c.requires.most)) l in
    let put = c.in_ok-put_laid.ensures.put gate.first bs (lays_all bs c.args.room.now c.clear.new.room c.args.used c.if-is_within.written l c.clear.ensures.front
    (elim c.if-is_within.branch [
      | then-is_within w ↦ omega (arith, w.written-is)
      | else-is_within w ↦ omega (arith, w.written-is, c.requires.used)
    ]))
    (c.requires.ready.reading.reaches c.if-self.false) in
    record {
      ready = ready_behind g.D.Disk _ c.put_laid.new.disk gate.first gate.place bs (g.D.Disk.seen c.args.disk.now gate.file) refl (omega (arith, size)) c.in_ok-put_laid.ensures.answers.noted put c.in_ok-put_laid.ensures.durable;
      same = search rules;
      changes = c.put_laid.ensures.changes.only;
      front = λ works. c.put_laid.ensures.changes.front c.args.self.now.first (λ told. let r = c.requires.ready.reading.reaches works told in omega (arith, r.placed));
      untouched = search rules;
      failed = search rules;
      refusals = search rules;
    }

pub returns-then-self-clause-costs : goal.returns-then-self-clause-costs
returns-then-self-clause-costs g c = record { ok = search rules; most = most_none g.D.Disk 2 2 c.args.disk.now }
