-- What the guards of a folder are asked.
use Rattle.std.proofs.Common.{◌≡◌, ℕ, List, sym, subst}
use Rattle.im_base_types.specs.declared.file_id.FileId.{FileId}
use Rattle.im_base_types.specs.declared.file_id.FileId.TheVariants.{Log, Pages, Log2}
use Rattle.im_base_disk.specs.Disk.{three, Files}
use Rattle.im_base_model_disk.specs.declared.model_disk.ModelDisk.{ModelDisk}
use Rattle.im_base_model_disk.specs.Left.{IsLeftBy}
use Rattle.im_base_model_disk.specs.Model.{file_of, model_stop}

-- files that were read of the disk that is left
pub left_files : (disk : ModelDisk) (seen : Files) (log pages log2 : List ℕ) → log ≡ seen Log → pages ≡ seen Pages → log2 ≡ seen Log2 → ((file : FileId) → IsLeftBy (model_stop disk) (file_of disk file) (seen file))
    → (file : FileId) → IsLeftBy (model_stop disk) (file_of disk file) (three log pages log2 file)
left_files disk seen log pages log2 is_log is_pages is_log2 left Log = subst (λ (bytes : List ℕ). IsLeftBy (model_stop disk) (file_of disk Log) bytes) (sym is_log) (left Log)
left_files disk seen log pages log2 is_log is_pages is_log2 left Pages = subst (λ (bytes : List ℕ). IsLeftBy (model_stop disk) (file_of disk Pages) bytes) (sym is_pages) (left Pages)
left_files disk seen log pages log2 is_log is_pages is_log2 left Log2 = subst (λ (bytes : List ℕ). IsLeftBy (model_stop disk) (file_of disk Log2) bytes) (sym is_log2) (left Log2)
