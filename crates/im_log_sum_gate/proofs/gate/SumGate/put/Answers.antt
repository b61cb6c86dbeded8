use Rattle.std.proofs.Common.{◌≡◌, ℕ, List, ◌+◌, length, sym, ◌∙◌, subst, rules, arith}
use Rattle.im_base_types.specs.declared.fault.Fault.TheVariants.{LogFull}
use Rattle.im_base_disk.proofs.Ends.{not_failed, device_refused}
use Rattle.im_log_sum_gate.specs.Batches.{batches, IsClearTo}
use Rattle.im_log_sum_gate.proofs.Gates.{may_put, put_clear, put_ends, put_logged, put_shut, sealed_opens, unmoved}
use Rattle.im_log_sum_gate.proofs.gate.SumGate.put.Goals as goal

pub put-requires-clause-within : goal.put-requires-clause-within
put-requires-clause-within g c told = (c.requires.ready.ends c.if-self.false told).reaches.last.within

pub put-requires-clause-opens : goal.put-requires-clause-opens
put-requires-clause-opens g c =
    let l = c.requires.sealed.1 in
    (omega (arith, c.requires.used, c.blank.ensures.length), sealed_opens c.args.self.now.header.salt _ c.args.used c.requires.sealed.0 c.blank.new.room l.some (c.blank.ensures.front ∙ l.is))

pub returns-then-self-gt-LAST_LSN-clause-any_moment : goal.returns-then-self-gt-LAST_LSN-clause-any_moment
returns-then-self-gt-LAST_LSN-clause-any_moment g c works bs l = unmoved g.D.Disk c.args.self.now.file c.args.disk.now c.args.self.now.header bs (g.met.D.Disk.only_now c.args.disk.now) (c.requires.ready.durable works)
    (λ told. (c.requires.ready.ends works told).reaches.header)

pub returns-in_err-put-clause-any_moment : goal.returns-in_err-put-clause-any_moment
returns-in_err-put-clause-any_moment g c works bs l =
    let gate = c.args.self.now in
    let old : List ℕ = g.D.Disk.seen c.args.disk.now gate.file in
    c.put.ensures.any_moment gate.header (batches gate.header old) bs (c.requires.ready.ends works)
    (λ told once p from upto. let end = (c.is_once-once.ensures.0 once).0 in c.requires.ready.clear works told p from (omega (arith, upto, end)))
    (λ told. may_put gate.header gate.place c.args.used (batches gate.header old) bs c.blank.new.room old (c.requires.ready.ends works told) l.some l.may l.size (c.blank.ensures.front ∙ l.is))

pub returns-clause-any_moment : goal.returns-clause-any_moment
returns-clause-any_moment g c works bs l =
    let gate = c.args.self.now in
    let old : List ℕ = g.D.Disk.seen c.args.disk.now gate.file in
    c.put.ensures.any_moment gate.header (batches gate.header old) bs (c.requires.ready.ends works)
    (λ told once p from upto. let end = (c.is_once-once.ensures.0 once).0 in c.requires.ready.clear works told p from (omega (arith, upto, end)))
    (λ told. may_put gate.header gate.place c.args.used (batches gate.header old) bs c.blank.new.room old (c.requires.ready.ends works told) l.some l.may l.size (c.blank.ensures.front ∙ l.is))

pub returns-clause-put : goal.returns-clause-put
returns-clause-put g c bs l told =
    let gate = c.args.self.now in
    let old : List ℕ = g.D.Disk.seen c.args.disk.now gate.file in
    put_logged gate.header gate.place c.args.used (batches gate.header old) bs c.blank.new.room old (c.requires.ready.ends c.if-self.false told) l.some l.may l.size (c.blank.ensures.front ∙ l.is)
    (g.D.Disk.seen c.put.new.disk gate.file) (c.in_ok-put.ensures.written told)

pub returns-clause-ready : goal.returns-clause-ready
returns-clause-ready g c =
    let gate = c.args.self.now in
    let old : List ℕ = g.D.Disk.seen c.args.disk.now gate.file in
    let new : List ℕ = g.D.Disk.seen c.put.new.disk gate.file in
    let bs = c.requires.sealed.0 in
    let l = c.requires.sealed.1 in
    record {
      log = c.requires.ready.log;
      working = search rules;
      ends = λ works told.
          put_ends gate.header gate.place c.args.used (batches gate.header old) bs c.blank.new.room old (c.requires.ready.ends c.if-self.false told) l.some l.may l.size (c.blank.ensures.front ∙ l.is) new (c.in_ok-put.ensures.written told);
      shut = λ works is told.
          put_shut gate.header gate.place c.args.used (batches gate.header old) bs c.blank.new.room old (c.requires.ready.ends c.if-self.false told) l.some l.may l.size (c.blank.ensures.front ∙ l.is) new (c.in_ok-put.ensures.written told);
      opened = search rules;
      clear = λ works told.
          subst (λ (n : ℕ). IsClearTo gate.header n (gate.place + c.args.used) new) (sym c.later-self.ensures)
          (put_clear gate.header gate.place c.args.used (batches gate.header old) bs c.blank.new.room old (c.requires.ready.ends c.if-self.false told) l.some l.may l.size (c.blank.ensures.front ∙ l.is) new (c.in_ok-put.ensures.written told)
          gate.clear (c.requires.ready.clear c.if-self.false told) c.blank.ensures.zeros);
      durable = λ works. c.in_ok-put.ensures.durable;
    }

pub returns-in_err-put-clause-outcome : goal.returns-in_err-put-clause-outcome
returns-in_err-put-clause-outcome g c = record {
  same = search rules;
  changes = c.put.ensures.changes;
  untouched = λ same. absurd (not_failed c.in_err-put.field-0.0 c.from_residual.result c.from_residual.ensures.1 c.in_err-put.ensures.answers.device same);
  failed = search rules;
  refusals = device_refused (λ e. e ≡ LogFull) c.args.self.now.failed (g.D.Disk.failed c.put.new.disk) c.in_err-put.field-0.0 c.from_residual.result c.from_residual.ensures.1 c.in_err-put.ensures.answers.device c.if-self.false c.in_err-put.ensures.answers.noted;
}
