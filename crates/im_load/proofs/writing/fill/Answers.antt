use Rattle.std.proofs.Common.{◌≡◌, ◌≤◌, ◌/◌, ℕ, min, arith, subst, sym, ◌∙◌, ap, rules, List}
use Rattle.im_base_disk.specs.Disk.{Files}
use Rattle.im_base_types.specs.declared.file_id.FileId.TheVariants.{Pages}
use Rattle.im_load.specs.Files.{Fills}
use Rattle.im_load.proofs.Goings.{goes_write, goes_then, goes_reads}
use Rattle.im_load.proofs.Fillings.{fills_none, fills_more}
use Rattle.im_load.proofs.writing.fill.Goals as goal

pub loop-missing-init : goal.loop-missing-init
loop-missing-init g c =
    let d = g.D.Disk in
    let reads = c.in_ok-pages.ensures.reads in
    let old : List ℕ = d.seen c.args.disk.now Pages in
    record {
      working = search rules;
      from = λ told. c.min-end.ensures ∙ ap (λ (n : ℕ). min (n / 4096) c.args.number) (c.in_ok-pages.ensures.len told);
      filled = λ told.
          let len = c.in_ok-pages.ensures.len told in
          subst (λ (f : List ℕ). Fills old f c.min-end.result) (sym (ap (λ (s : Files). s Pages) reads.seen)) (fills_none old c.min-end.result (omega (arith, c.min-end.ensures, len)));
      run = goes_reads d c.args.disk.now c.len.new.self (g.met.D.Disk.only_now c.args.disk.now) reads;
    }

pub loop-missing-preserved : goal.loop-missing-preserved
loop-missing-preserved g c =
    let d = g.D.Disk in
    record {
      working = search rules;
      from = c.loop-missing.invariant.from;
      filled = λ told.
          let from = c.loop-missing.invariant.from told in
          fills_more (d.seen c.args.disk.now Pages) (d.seen c.loop-missing.disk Pages) (d.seen c.write.new.disk Pages) c.blank.result.now c.loop-missing.missing
          (omega (arith, from, c.loop-missing-test.true, c.loop-missing.auto.missing)) (c.loop-missing.invariant.filled told) c.blank.ensures (c.in_ok-write.ensures.written told);
      run = goes_then d c.args.disk.now c.loop-missing.disk c.write.new.disk c.loop-missing.invariant.run (goes_write d c.loop-missing.disk c.write.new.disk _ _ c.write.ensures.changes c.write.ensures.any_moment);
    }

pub returns-in_err-write-clause-run : goal.returns-in_err-write-clause-run
returns-in_err-write-clause-run g c =
    let d = g.D.Disk in
    goes_then d c.args.disk.now c.loop-missing.disk c.write.new.disk c.loop-missing.invariant.run (goes_write d c.loop-missing.disk c.write.new.disk _ _ c.write.ensures.changes c.write.ensures.any_moment)

pub returns-clause-filled : goal.returns-clause-filled
returns-clause-filled g c told =
    let d = g.D.Disk in
    let within : c.min-end.result ≤ c.args.number = omega (arith, c.min-end.ensures) in
    let last = c.loop-missing.auto.missing-end within in
    let same : c.loop-missing.missing ≡ c.args.number = omega (arith, c.loop-missing-test.false, last) in
    subst (λ (p : ℕ). Fills (d.seen c.args.disk.now Pages) (d.seen c.loop-missing.disk Pages) p) same (c.loop-missing.invariant.filled told)
