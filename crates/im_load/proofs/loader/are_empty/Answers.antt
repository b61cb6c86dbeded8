use Rattle.std.proofs.Common.{Ok, ◌∙◌, ap}
use Rattle.im_base_types.specs.declared.file_id.FileId.TheVariants.{Log, Pages}
use Rattle.im_base_disk.specs.Disk.{Files}
use Rattle.im_load.proofs.loader.are_empty.Goals as goal

pub returns-then-not-log-clause-some : goal.returns-then-not-log-clause-some
returns-then-not-log-clause-some g c same told all = c.in_ok-log.ensures.some (ap Ok c.if-not-log.true) told all.0.0

pub returns-then-not-pages-clause-some : goal.returns-then-not-pages-clause-some
returns-then-not-pages-clause-some g c same told all = c.in_ok-pages.ensures.some (ap Ok c.if-not-pages.true) told all.1

pub returns-clause-some : goal.returns-clause-some
returns-clause-some g c same told all = c.in_ok-other.ensures.some same told all.0.1

pub returns-clause-empty : goal.returns-clause-empty
returns-clause-empty g c same told =
    let one = c.in_ok-pages.ensures.reads.seen in
    let two = c.in_ok-other.ensures.reads.seen in (
      (
        ap (λ (f : Files). f Log) two ∙ ap (λ (f : Files). f Log) one ∙ c.in_ok-log.ensures.empty (ap Ok c.if-not-log.false) told,
        c.in_ok-other.ensures.empty same told,
      ),
      ap (λ (f : Files). f Pages) two ∙ c.in_ok-pages.ensures.empty (ap Ok c.if-not-pages.false) told,
    )
