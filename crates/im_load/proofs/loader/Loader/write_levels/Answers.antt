use Rattle.std.proofs.Common.{◌≡◌, ◌<◌, suc, ℕ, length, subst, rules, arith}
use Rattle.im_base_types.specs.declared.file_id.FileId.TheVariants.{Pages}
use Rattle.im_load.specs.Files.{WritesPageAt}
use Rattle.im_load.specs.Held.{held_page}
use Rattle.im_load.specs.Loading.{HasWritten}
use Rattle.im_load.proofs.Endings.{above_written}
use Rattle.im_load.proofs.Goings.{goes_none, goes_then}
use Rattle.im_load.proofs.loader.Loader.write_levels.Goals as goal

pub loop-i-init : goal.loop-i-init
loop-i-init g c = record {
  working = search rules;
  written = λ file es t begun told. begun told;
  run = goes_none g.D.Disk c.args.disk.now (g.met.D.Disk.only_now c.args.disk.now);
}

pub loop-i-preserved : goal.loop-i-preserved
loop-i-preserved g c = record {
  working = search rules;
  written = λ file es t begun told.
      let s = c.args.self.now in
      let place : c.loop-i.i < length s.above.items = omega (arith, c.loop-i-test.true, c.len-len.ensures) in
      above_written s.leaf s.above.items s.count g.D.Disk.tells file es t c.loop-i.i place (g.D.Disk.seen c.loop-i.disk Pages) (g.D.Disk.seen c.write_above.new.disk Pages)
      (c.loop-i.invariant.written file es t begun told)
      (subst (λ (n : ℕ). WritesPageAt (g.D.Disk.seen c.loop-i.disk Pages) (g.D.Disk.seen c.write_above.new.disk Pages) n (held_page s.above.items c.loop-i.i).1) c.number_above-number.ensures (c.in_ok-write_above.ensures.written told));
  run = goes_then g.D.Disk c.args.disk.now c.loop-i.disk c.write_above.new.disk c.loop-i.invariant.run c.in_ok-write_above.ensures.run;
}

pub returns-in_err-write_above-clause-run : goal.returns-in_err-write_above-clause-run
returns-in_err-write_above-clause-run g c = goes_then g.D.Disk c.args.disk.now c.loop-i.disk c.write_above.new.disk c.loop-i.invariant.run c.write_above.ensures.run

pub returns-clause-written : goal.returns-clause-written
returns-clause-written g c file es t begun told =
    let s = c.args.self.now in
    let all : c.loop-i.i ≡ length s.above.items = omega (arith, c.loop-i-test.false, c.loop-i.auto.i-end, c.len-len.ensures) in
    subst (λ (n : ℕ). HasWritten t.pages t.at (suc n) (length s.above.items) s.count (g.D.Disk.seen c.loop-i.disk Pages)) all (c.loop-i.invariant.written file es t begun told)
