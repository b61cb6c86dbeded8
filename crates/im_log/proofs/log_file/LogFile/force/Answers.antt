use Rattle.std.proofs.Common.{◌≤◌, ◌∙◌, true, refl, rules, arith}
use Rattle.im_base_types.specs.declared.file_id.FileId.TheVariants.{Log}
use Rattle.im_log.specs.Kept.{SpellsEither}
use Rattle.im_log.proofs.Runs.{waits, nothing_sealed, force_stops, forced, seen_now, either_made, alike_now, generation_now, starts_kept, all_durable, no_more, unmoved, laid_all, written_back, none_begun}
use Rattle.im_base_disk.proofs.Costs.{most_none}
use Rattle.im_base_types.specs.Outcomes.{none_own}
use Rattle.im_base_types.proofs.Outcomes.{end_told}
use Rattle.im_log.proofs.log_file.LogFile.force.Goals as goal

pub put_batches-requires-clause-laid : goal.put_batches-requires-clause-laid
put_batches-requires-clause-laid g c =
    let s = c.requires.ready.sealed c.if-self.false in (
      waits c.args.self.now s,
      laid_all c.args.self.now c.deref_mut.result.now c.seal.new.room c.deref_mut-2.result.now c.deref_mut.ensures.value
          (c.deref_mut-2.ensures.value ∙ written_back c.args.self.now.buffer.items c.seal.new.room c.args.self.now.buffer.len (omega (arith, c.seal.ensures.room, c.deref_mut.ensures.len)))
          (c.seal.ensures.closed refl) s,
    )

pub returns-in_err-put_batches-clause-kept : goal.returns-in_err-put_batches-clause-kept
returns-in_err-put_batches-clause-kept g c base all durable h =
    let works = c.requires.ready.working h.working in
    record {
      ok = search rules;
      stops = force_stops g.D.Disk base all durable c.args.self.now c.args.disk.now c.put_batches.new.disk (omega arith) c.requires.ready h
          (c.put_batches.ensures.any_moment works (waits c.args.self.now h.sealed) (laid_all c.args.self.now c.deref_mut.result.now c.seal.new.room c.deref_mut-2.result.now c.deref_mut.ensures.value
          (c.deref_mut-2.ensures.value ∙ written_back c.args.self.now.buffer.items c.seal.new.room c.args.self.now.buffer.len (omega (arith, c.seal.ensures.room, c.deref_mut.ensures.len)))
          (c.seal.ensures.closed refl) h.sealed)) (c.put_batches.ensures.outcome.front works);
    }

pub returns-clause-kept : goal.returns-clause-kept
returns-clause-kept g c base all durable h =
    let works = c.requires.ready.working h.working in
    let disk = c.put_batches.new.disk in
    let laid = laid_all c.args.self.now c.deref_mut.result.now c.seal.new.room c.deref_mut-2.result.now c.deref_mut.ensures.value
    (c.deref_mut-2.ensures.value ∙ written_back c.args.self.now.buffer.items c.seal.new.room c.args.self.now.buffer.len (omega (arith, c.seal.ensures.room, c.deref_mut.ensures.len)))
    (c.seal.ensures.closed refl) h.sealed in
    let stops = force_stops g.D.Disk base all durable c.args.self.now c.args.disk.now disk (omega arith) c.requires.ready h
    (c.put_batches.ensures.any_moment works (waits c.args.self.now h.sealed) laid) (c.put_batches.ensures.outcome.front works) in
    let made = either_made base durable all (g.D.Disk.seen c.args.disk.now Log) (g.D.Disk.seen disk Log) (seen_now g.D.Disk Log c.args.disk.now disk (SpellsEither base durable all (g.D.Disk.seen c.args.disk.now Log)) (g.met.D.Disk.counts_now disk) (g.met.D.Disk.seen_may_stay disk) stops h.tells) in
    let alike = alike_now g.D.Disk c.args.self.now.gate c.args.disk.now disk c.args.self.now.of_log (c.requires.ready.starts h.tells) (g.met.D.Disk.counts_now disk) (g.met.D.Disk.seen_may_stay disk) (c.put_batches.ensures.outcome.front works) h.tells in
    let as_before = generation_now g.D.Disk c.args.self.now.gate c.args.disk.now disk c.args.self.now.of_log (c.requires.ready.starts h.tells) (g.met.D.Disk.counts_now disk) (g.met.D.Disk.seen_may_stay disk) (c.put_batches.ensures.outcome.front works) h.tells in
    record {
      ok = forced g.D.Disk base all durable c.args.self.now _ c.args.disk.now disk (omega arith)
          c.requires.ready h (c.in_ok-put_batches.ensures.put (waits c.args.self.now h.sealed) laid) c.put_batches.ensures.outcome.same.first alike as_before made refl refl refl refl c.in_ok-put_batches.ensures.moves.place;
      stops = stops;
    }

pub returns-then-self-eq0-clause-kept : goal.returns-then-self-eq0-clause-kept
returns-then-self-eq0-clause-kept g c base all durable h = record {
  ok = record { log = all_durable g.D.Disk base all durable c.args.self.now c.args.disk.now (none_begun c.args.self.now.start c.args.self.now.used (c.requires.ready.filling h.working) c.if-self-eq0.true) c.if-self-eq0.true h; file = no_more (g.D.Disk.seen c.args.disk.now Log) };
  stops = unmoved g.D.Disk base all durable c.args.self.now c.args.disk.now (g.met.D.Disk.only_now c.args.disk.now) c.requires.ready h;
}

pub returns-then-self-clause-outcome : goal.returns-then-self-clause-outcome
returns-then-self-clause-outcome g c =
    record { ready = c.requires.ready; changes = search rules; few = most_none g.D.Disk 2 2 c.args.disk.now; base = refl; generation = refl; ends = (c.if-self.true, c.if-self.true) }

pub returns-then-self-eq0-clause-outcome : goal.returns-then-self-eq0-clause-outcome
returns-then-self-eq0-clause-outcome g c = record {
  ready = c.requires.ready;
  changes = search rules;
  few = most_none g.D.Disk 2 2 c.args.disk.now;
  base = refl;
  generation = refl;
  ends = (c.if-self.false, c.if-self.false, c.requires.ready.ready.reading.working (c.requires.ready.working c.if-self.false));
}

pub returns-in_err-put_batches-clause-outcome : goal.returns-in_err-put_batches-clause-outcome
returns-in_err-put_batches-clause-outcome g c =
    let old = c.args.disk.now in
    let new = c.put_batches.new.disk in
    let works = c.requires.ready.working c.if-self.false in
    record {
      ready = record {
        ready = c.put_batches.ensures.outcome.ready;
        starts = λ told.
            starts_kept c.args.self.now.gate c.put_batches.new.self (g.D.Disk.seen old Log) (g.D.Disk.seen new Log) (c.requires.ready.starts told) c.put_batches.ensures.outcome.same
            (alike_now g.D.Disk c.args.self.now.gate old new c.args.self.now.of_log (c.requires.ready.starts told) (g.met.D.Disk.counts_now new) (g.met.D.Disk.seen_may_stay new) (c.put_batches.ensures.outcome.front works) told)
            (generation_now g.D.Disk c.args.self.now.gate old new c.args.self.now.of_log (c.requires.ready.starts told) (g.met.D.Disk.counts_now new) (g.met.D.Disk.seen_may_stay new) (c.put_batches.ensures.outcome.front works) told);
        working = search rules;
        placed = search rules;
        room = search rules;
        sealed = search rules;
        filling = search rules;
      };
      changes = search rules;
      few = c.put_batches.ensures.costs.most;
      base = search rules;
      generation = c.put_batches.ensures.outcome.same.generation;
      ends = end_told none_own c.args.self.now.failed true (g.D.Disk.failed new) c.from_residual.result (search rules) (search rules) (search rules) (search rules);
    }

pub returns-clause-outcome : goal.returns-clause-outcome
returns-clause-outcome g c =
    let old = c.args.disk.now in
    let new = c.put_batches.new.disk in
    let works = c.requires.ready.working c.if-self.false in
    let some : 1 ≤ c.args.self.now.used = omega (arith, c.if-self-eq0.false) in
    let at = c.in_ok-put_batches.ensures.moves.place in
    let room = c.requires.ready.room c.if-self.false some in
    record {
      ready = record {
        ready = c.put_batches.ensures.outcome.ready;
        starts = λ told.
            starts_kept c.args.self.now.gate c.put_batches.new.self (g.D.Disk.seen old Log) (g.D.Disk.seen new Log) (c.requires.ready.starts told) c.put_batches.ensures.outcome.same
            (alike_now g.D.Disk c.args.self.now.gate old new c.args.self.now.of_log (c.requires.ready.starts told) (g.met.D.Disk.counts_now new) (g.met.D.Disk.seen_may_stay new) (c.put_batches.ensures.outcome.front works) told)
            (generation_now g.D.Disk c.args.self.now.gate old new c.args.self.now.of_log (c.requires.ready.starts told) (g.met.D.Disk.counts_now new) (g.met.D.Disk.seen_may_stay new) (c.put_batches.ensures.outcome.front works) told);
        working = search rules;
        placed = search (rules, at, room);
        room = search rules;
        sealed = λ working. nothing_sealed _ refl;
        filling = search rules;
      };
      changes = search rules;
      few = c.put_batches.ensures.costs.most;
      base = search rules;
      generation = c.put_batches.ensures.outcome.same.generation;
      ends = (c.if-self.false, refl, search rules);
    }
