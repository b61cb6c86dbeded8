-- How far each file is copied.
use Rattle.std.specs.Prelude.{ℕ}
use Rattle.im_base_types.specs.declared.file_id.FileId.{FileId}
use Rattle.im_base_types.specs.declared.file_id.FileId.TheVariants.{Log, Pages, Log2}
use Rattle.im_base_mirror_disk.specs.declared.marks.Marks.{Marks}

-- how many bytes of a file are copied
abbrev pub mark_of : Marks → FileId → ℕ
mark_of m Log = m.log
mark_of m Pages = m.pages
mark_of m Log2 = m.log2
