use Rattle.std.proofs.Common.{◌≡◌, ◌∙◌, [], ◌∷◌, refl, rules, arith}
use Rattle.im_base_types.specs.declared.fault.Fault.TheVariants.{LogFull}
use Rattle.im_base_disk.proofs.Costs.{most_none}
use Rattle.im_log_gate.specs.Batches.{batches}
use Rattle.im_base_disk.proofs.Ends.{not_failed, device_refused}
use Rattle.im_log_gate.proofs.Puts.{ready_behind}
use Rattle.im_log_gate.proofs.Several.{with_one}
use Rattle.im_log_gate.proofs.gate.Gate.put_batch.Goals as goal

pub returns-in_err-put_behind-clause-any_moment : goal.returns-in_err-put_behind-clause-any_moment
returns-in_err-put_behind-clause-any_moment g c works = c.put_behind.ensures.any_moment c.args.self.now.first (c.requires.ready.reading.reaches works)

pub returns-clause-any_moment : goal.returns-clause-any_moment
returns-clause-any_moment g c works = c.put_behind.ensures.any_moment c.args.self.now.first (c.requires.ready.reading.reaches works)

pub returns-clause-put : goal.returns-clause-put
returns-clause-put g c told =
    let gate = c.args.self.now in
    (c.in_ok-put_behind.ensures.put gate.first (c.requires.ready.reading.reaches c.if-self.false) told).added ∙ with_one c.args.records.now (batches gate.first (g.D.Disk.seen c.args.disk.now gate.file))

pub returns-in_err-put_behind-clause-outcome : goal.returns-in_err-put_behind-clause-outcome
returns-in_err-put_behind-clause-outcome g c = record {
  ready = search rules;
  same = search rules;
  changes = c.put_behind.ensures.changes.only;
  front = λ works. c.put_behind.ensures.changes.front c.args.self.now.first (λ told. let r = c.requires.ready.reading.reaches works told in omega (arith, r.placed));
  untouched = λ same. absurd (not_failed c.in_err-put_behind.field-0.0 c.from_residual.result c.from_residual.ensures.1 c.in_err-put_behind.ensures.answers.device same);
  failed = search rules;
  refusals = device_refused (λ e. e ≡ LogFull) c.args.self.now.failed (g.D.Disk.failed c.put_behind.new.disk) c.in_err-put_behind.field-0.0 c.from_residual.result c.from_residual.ensures.1 c.in_err-put_behind.ensures.answers.device c.if-self.false c.in_err-put_behind.ensures.answers.noted;
}

pub returns-clause-outcome : goal.returns-clause-outcome
returns-clause-outcome g c =
    let gate = c.args.self.now in
    let put = c.in_ok-put_behind.ensures.put gate.first (c.requires.ready.reading.reaches c.if-self.false) in
    record {
      ready = ready_behind g.D.Disk _ c.put_behind.new.disk gate.first gate.place (c.args.records.now ∷ []) (g.D.Disk.seen c.args.disk.now gate.file) refl (omega arith) c.in_ok-put_behind.ensures.answers.noted put c.in_ok-put_behind.ensures.durable;
      same = search rules;
      changes = c.put_behind.ensures.changes.only;
      front = λ works. c.put_behind.ensures.changes.front c.args.self.now.first (λ told. let r = c.requires.ready.reading.reaches works told in omega (arith, r.placed));
      untouched = search rules;
      failed = search rules;
      refusals = search rules;
    }

pub returns-then-self-clause-costs : goal.returns-then-self-clause-costs
returns-then-self-clause-costs g c = record { ok = search rules; most = most_none g.D.Disk 2 2 c.args.disk.now }
