-- What a stop leaves byte for byte is one of the things that it may leave.
use Rattle.std.proofs.Common.{◌≡◌, ℕ, ◌≤◌, List, length, sym, subst, arith}
use Rattle.im_base_types.specs.declared.file_id.FileId.{FileId}
use Rattle.im_base_types.specs.declared.file_id.FileId.TheVariants.{Log, Pages, Log2}
use Rattle.im_base_model_disk.specs.declared.model_file.ModelFile.{ModelFile}
use Rattle.im_base_model_disk.specs.declared.stop.Length.{Length}
use Rattle.im_base_model_disk.specs.declared.stop.Length.TheVariants.{Long, Short}
use Rattle.im_base_model_disk.specs.declared.stop.Fill.{Fill}
use Rattle.im_base_disk.specs.Disk.{Files, three}
use Rattle.im_base_model_disk.specs.Past.{FileMayHold, MayLeave, either}
use Rattle.im_base_model_disk.specs.Left.{IsLeft, left_length}

no_shorter : (choice : Length) (file : ModelFile) → file.synced ≤ left_length choice file
no_shorter Long file = file.synced_within
no_shorter Short file = omega arith

no_longer : (choice : Length) (file : ModelFile) → left_length choice file ≤ length file.bytes.items
no_longer Long file = omega arith
no_longer Short file = file.synced_within

left_may : (choice : Length) (fill : Fill) (file : ModelFile) (left : List ℕ) → IsLeft choice fill file left → FileMayHold file left
left_may choice fill file left is = record {
  no_shorter = omega (arith, is.long, no_shorter choice file);
  no_longer = omega (arith, is.long, no_longer choice file);
  same = λ i lt out. is.kept i (omega (arith, lt, is.long, no_shorter choice file)) (lt, out);
}

module _ (choice : Length) (fill : Fill) (log pages log2 : ModelFile) (log_left pages_left log2_left : List ℕ) (seen : Files) (is : seen ≡ three log_left pages_left log2_left)
    (of_log : IsLeft choice fill log log_left) (of_pages : IsLeft choice fill pages pages_left) (of_log2 : IsLeft choice fill log2 log2_left) where
  -- of each file
  left_each : (file : FileId) → IsLeft choice fill (either log pages log2 file) (three log_left pages_left log2_left file)
  left_each Log = of_log
  left_each Pages = of_pages
  left_each Log2 = of_log2

  pub left_both : (file : FileId) → IsLeft choice fill (either log pages log2 file) (seen file)
  left_both file = subst (λ (s : Files). IsLeft choice fill (either log pages log2 file) (s file)) (sym is) (left_each file)

  pub left_may_both : MayLeave log pages log2 seen
  left_may_both = subst (MayLeave log pages log2) (sym is) (left_may choice fill log log_left of_log, left_may choice fill pages pages_left of_pages, left_may choice fill log2 log2_left of_log2)
