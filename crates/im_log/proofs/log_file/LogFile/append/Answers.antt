use Rattle.std.proofs.Common.{List, ℕ, [], ap, refl, sym, ◌∙◌, take, rules, arith, append-nil}
use Rattle.std.specs.Int.{w32, from_be_bytes}
use Rattle.im_base_types.specs.declared.file_id.FileId.TheVariants.{Log}
use Rattle.im_log_record.specs.Entry.{view}
use Rattle.im_log_record.specs.Spelling.{spelling, size_of}
use Rattle.im_log.proofs.Spells.{whole}
use Rattle.im_log.proofs.Runs.{unmoved, appended, batch_begun, no_more}
use Rattle.im_base_disk.proofs.Costs.{forces_by, forces_none, most_none}
use Rattle.im_base_types.specs.Outcomes.{none_own}
use Rattle.im_base_types.proofs.Outcomes.{end_on}
use Rattle.im_log.proofs.Outcomes.{end_broken, end_cause}
use Rattle.im_log.specs.Outcome.{LacksRoom}
use Rattle.im_log.proofs.log_file.LogFile.append.Goals as goal

pub returns-then-is_full-clause-kept : goal.returns-then-is_full-clause-kept
returns-then-is_full-clause-kept g c base all durable h = record {
  ok = search rules;
  stops = unmoved g.D.Disk base all durable c.args.self.now c.args.disk.now (g.met.D.Disk.only_now c.args.disk.now) c.requires.ready h;
}

pub returns-in_err-force-clause-kept : goal.returns-in_err-force-clause-kept
returns-in_err-force-clause-kept g c base all durable h = record {
  ok = search rules;
  stops = (c.force.ensures.kept base all durable h).stops;
}

pub returns-then-self-size-le-LONGEST_BATCH-clause-kept : goal.returns-then-self-size-le-LONGEST_BATCH-clause-kept
returns-then-self-size-le-LONGEST_BATCH-clause-kept g c base all durable h =
    let put = c.put_in.ensures in
    let laws = c.law_spellings.ensures in
    let entry = view c.args.record.now in
    let size = laws.size entry in
    record {
      ok = appended g.D.Disk base all durable durable (record { newer = []; is = refl }) c.args.self.now c.put_in.new.self c.args.disk.now c.args.disk.now (no_more (g.D.Disk.seen c.args.disk.now Log)) (spelling entry) entry c.put_in.result h
          (laws.read entry (spelling entry) (record { fits = c.requires.entry; spelled = refl }))
          (whole (spelling entry) (omega (arith, size, laws.least entry)) (ap (λ (l : List ℕ). from_be_bytes w32 (take 4 l)) (sym (append-nil (spelling entry))) ∙ laws.length_first entry [] c.requires.entry ∙ sym size))
          put.lsn put.buffered (omega (arith, put.used, size)) put.sealed put.same.base put.same.gate put.same.failed;
      stops = unmoved g.D.Disk base all durable c.args.self.now c.args.disk.now (g.met.D.Disk.only_now c.args.disk.now) c.requires.ready h;
    }

pub returns-then-begins_next-clause-kept : goal.returns-then-begins_next-clause-kept
returns-then-begins_next-clause-kept g c base all durable h =
    let put = c.put_in-then-begins_next.ensures in
    let new = c.begin_batch.ensures in
    let laws = c.law_spellings.ensures in
    let entry = view c.args.record.now in
    let size = laws.size entry in
    let begun = batch_begun g.D.Disk base all durable c.args.self.now c.begin_batch.new.self c.args.disk.now h (new.sealed h.sealed.batches h.sealed.filled) new.start new.used new.same.base new.same.gate new.same.failed in
    record {
      ok = appended g.D.Disk base all durable durable (record { newer = []; is = refl }) c.begin_batch.new.self c.put_in-then-begins_next.new.self c.args.disk.now c.args.disk.now (no_more (g.D.Disk.seen c.args.disk.now Log)) (spelling entry) entry c.put_in-then-begins_next.result begun
          (laws.read entry (spelling entry) (record { fits = c.requires.entry; spelled = refl }))
          (whole (spelling entry) (omega (arith, size, laws.least entry)) (ap (λ (l : List ℕ). from_be_bytes w32 (take 4 l)) (sym (append-nil (spelling entry))) ∙ laws.length_first entry [] c.requires.entry ∙ sym size))
          put.lsn put.buffered (omega (arith, put.used, size)) put.sealed put.same.base put.same.gate put.same.failed;
      stops = unmoved g.D.Disk base all durable c.args.self.now c.args.disk.now (g.met.D.Disk.only_now c.args.disk.now) c.requires.ready h;
    }

pub returns-clause-kept : goal.returns-clause-kept
returns-clause-kept g c base all durable h =
    let put = c.put_in-2.ensures in
    let laws = c.law_spellings.ensures in
    let entry = view c.args.record.now in
    let size = laws.size entry in
    let forced = c.in_ok-force.ensures.kept base all durable h in
    record {
      ok = appended g.D.Disk base all all durable h.front c.force.new.self c.put_in-2.new.self c.args.disk.now c.force.new.disk forced.ok.file (spelling entry) entry c.put_in-2.result forced.ok.log
          (laws.read entry (spelling entry) (record { fits = c.requires.entry; spelled = refl }))
          (whole (spelling entry) (omega (arith, size, laws.least entry)) (ap (λ (l : List ℕ). from_be_bytes w32 (take 4 l)) (sym (append-nil (spelling entry))) ∙ laws.length_first entry [] c.requires.entry ∙ sym size))
          put.lsn put.buffered (omega (arith, put.used, size)) put.sealed put.same.base put.same.gate put.same.failed;
      stops = forced.stops;
    }

pub returns-then-self-size-le-LONGEST_BATCH-clause-forces : goal.returns-then-self-size-le-LONGEST_BATCH-clause-forces
returns-then-self-size-le-LONGEST_BATCH-clause-forces g c = forces_none g.D.Disk 1 c.args.disk.now

pub returns-clause-forces : goal.returns-clause-forces
returns-clause-forces g c = forces_by g.D.Disk c.args.self.now.used c.args.disk.now c.force.new.disk c.in_ok-force.ensures.costs (λ nothing. (c.force.ensures.none nothing).0)

pub returns-then-begins_next-clause-forces : goal.returns-then-begins_next-clause-forces
returns-then-begins_next-clause-forces g c = forces_none g.D.Disk 1 c.args.disk.now

pub returns-then-self-clause-outcome : goal.returns-then-self-clause-outcome
returns-then-self-clause-outcome g c =
    record { ready = c.requires.ready; changes = search rules; few = most_none g.D.Disk 2 2 c.args.disk.now; base = refl; generation = refl; ends = (c.if-self.true, c.if-self.true) }

pub returns-in_err-force-clause-outcome : goal.returns-in_err-force-clause-outcome
returns-in_err-force-clause-outcome g c =
    let one = c.in_err-force.ensures.outcome in
    let w = c.force.new.self in
    let lost = g.D.Disk.failed c.force.new.disk in
    record {
      ready = one.ready;
      changes = one.changes;
      few = one.few;
      base = one.base;
      generation = one.generation;
      ends = end_on none_own c.args.self.now.failed w.failed lost (LacksRoom (size_of (view c.args.record.now)) w) w.failed c.in_err-force.field-0.0 c.from_residual.result c.from_residual.ensures.1 (λ e is. absurd is)
          (end_broken none_own c.args.self.now.failed w.failed lost c.in_err-force.field-0.0 one.ends) one.ends;
    }

pub returns-in_err-force-clause-full : goal.returns-in_err-force-clause-full
returns-in_err-force-clause-full g c =
    let cause = end_cause none_own c.args.self.now.failed c.force.new.self.failed (g.D.Disk.failed c.force.new.disk) c.in_err-force.field-0.0 c.in_err-force.ensures.outcome.ends in
    search (rules, cause)
