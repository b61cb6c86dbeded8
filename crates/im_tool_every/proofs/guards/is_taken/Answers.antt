use Rattle.std.proofs.Common.{◌≡◌, ◌∙◌, ap, rules}
use Rattle.im_base_types.specs.declared.file_id.FileId.TheVariants.{Pages, Log2}
use Rattle.im_base_disk.specs.Disk.{three, Files}
use Rattle.im_base_model_disk.specs.contracts.model_disk.ModelDiskDisk.TheImpl.{ghosts}
use Rattle.im_tool_every.proofs.LeftFiles.{left_files}
use Rattle.im_tool_every.proofs.guards.is_taken.Goals as goal

pub returns : goal.returns
returns c =
    let log : c.deref.result.now ≡ c.in_ok-log.log.items = search rules in
    let log2 : c.deref-2.result.now ≡ c.in_ok-log2.log2.items = search rules in
    let pages : c.deref-3.result.now ≡ c.in_ok-pages.pages.items = search rules in
    record {
      files = three c.deref.result.now c.deref-3.result.now c.deref-2.result.now;
      left =
          left_files c.args.disk.now (ghosts.seen c.in_ok-files.files) c.deref.result.now c.deref-3.result.now c.deref-2.result.now
          (log ∙ c.in_ok-log.ensures.bytes (tt {0}))
          (pages ∙ c.in_ok-pages.ensures.bytes (tt {0}) ∙ ap (λ (s : Files). s Pages) (c.bytes_of-2.ensures.stays ∙ c.bytes_of.ensures.stays))
          (log2 ∙ c.in_ok-log2.ensures.bytes (tt {0}) ∙ ap (λ (s : Files). s Log2) c.bytes_of.ensures.stays)
          c.in_ok-files.ensures.bytes;
      verdict = c.are_taken.ensures;
    }
