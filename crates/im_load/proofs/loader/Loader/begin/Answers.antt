use Rattle.std.proofs.Common.{Ok, ap, sym, ◌∙◌, rules, false}
use Rattle.im_base_types.specs.declared.file_id.FileId.TheVariants.{Log, Pages, Log2}
use Rattle.im_base_disk.specs.Disk.{Files}
use Rattle.im_base_disk.proofs.Ends.{own_answered}
use Rattle.im_load.proofs.Beginnings.{begun_by}
use Rattle.im_load.proofs.Faults.{refused_there, is_memory}
use Rattle.im_load.proofs.Goings.{goes_reads}
use Rattle.im_load.proofs.loader.Loader.begin.Goals as goal

pub returns-in_err-empty-clause-outcome : goal.returns-in_err-empty-clause-outcome
returns-in_err-empty-clause-outcome g c = refused_there _ _ c.in_err-empty.field-0.0 c.from_residual.result c.from_residual.ensures.1 c.in_err-empty.ensures.answers

pub returns-then-not-empty-clause-none : goal.returns-then-not-empty-clause-none
returns-then-not-empty-clause-none g c same told = c.in_ok-empty.ensures.some (ap Ok c.if-not-empty.true) told

pub returns-in_err-leaf-clause-outcome : goal.returns-in_err-leaf-clause-outcome
returns-in_err-leaf-clause-outcome g c =
    own_answered _ false _ c.in_err-leaf.field-0.0 c.from_residual-in_err-leaf.result c.from_residual-in_err-leaf.ensures.1 c.in_err-leaf.ensures.causes (is_memory c.in_err-leaf.field-0.0 c.in_err-leaf.ensures.causes)
    c.in_ok-empty.ensures.answers.noted

pub returns-clause-begun : goal.returns-clause-begun
returns-clause-begun g c =
    let d = g.D.Disk in
    let reads = c.in_ok-empty.ensures.reads in (
      (λ told. c.in_ok-empty.ensures.empty (ap Ok c.if-not-empty.false) told),
      (λ synced. record {
        taken = begun_by c.in_ok-leaf.leaf c.new.result.items d.tells (d.seen c.are_empty.new.disk Pages) c.in_ok-leaf.ensures.leaf (search rules) (λ told. (c.in_ok-empty.ensures.empty (ap Ok c.if-not-empty.false) told).1);
        synced = synced;
        bare = λ told.
            let all = c.in_ok-empty.ensures.empty (ap Ok c.if-not-empty.false) told in
            (ap (λ (f : Files). f Log) (sym reads.seen) ∙ all.0.0, ap (λ (f : Files). f Log2) (sym reads.seen) ∙ all.0.1);
        run = goes_reads d c.args.disk.now c.are_empty.new.disk (g.met.D.Disk.only_now c.args.disk.now) reads;
      }),
    )
