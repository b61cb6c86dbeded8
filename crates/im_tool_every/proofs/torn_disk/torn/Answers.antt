use Rattle.std.proofs.Common.{sym, subst, ◌∙◌}
use Rattle.im_base_types.specs.declared.file_id.FileId.TheVariants.{Pages, Log2}
use Rattle.im_base_disk.specs.Disk.{Files}
use Rattle.im_base_model_disk.specs.contracts.model_disk.ModelDiskDisk.TheImpl.{ghosts}
use Rattle.im_tool_every.specs.Torn.{IsTornOf}
use Rattle.im_tool_every.proofs.TornFiles.{torn_before, torn_files}
use Rattle.im_tool_every.proofs.torn_disk.torn.Goals as goal

pub returns-clause-torn : goal.returns-clause-torn
returns-clause-torn c file =
    let first = ghosts.seen c.args.filled in
    let second = ghosts.seen c.args.written in
    let log = c.in_ok-log.log.items in
    let pages = c.in_ok-pages.pages.items in
    let log2 = c.in_ok-log2.log2.items in
    subst (λ (s : Files). IsTornOf (first file) (second file) (s file)) (sym c.with_log2.ensures.seen)
    (torn_files first second log pages log2 (c.in_ok-log.ensures.torn (tt {0}))
    (torn_before first second (ghosts.seen c.torn_file.new.filled) (ghosts.seen c.torn_file.new.written) Pages pages c.in_ok-log.ensures.filled_stays c.in_ok-log.ensures.written_stays (c.in_ok-pages.ensures.torn (tt {0})))
    (torn_before first second (ghosts.seen c.torn_file-2.new.filled) (ghosts.seen c.torn_file-2.new.written) Log2 log2 (c.in_ok-pages.ensures.filled_stays ∙ c.in_ok-log.ensures.filled_stays)
    (c.in_ok-pages.ensures.written_stays ∙ c.in_ok-log.ensures.written_stays) (c.in_ok-log2.ensures.torn (tt {0})))
    file)
