-- What a stop leaves of one file of the model disk, byte for byte.
use Rattle.std.specs.Prelude.{◌≡◌, ℕ, ◌<◌, ◌%◌, List, length, slice_index, Option, None, Some}
use Rattle.im_base_model_disk.specs.declared.model_file.ModelFile.{ModelFile}
use Rattle.im_base_model_disk.specs.declared.stop.Length.{Length}
use Rattle.im_base_model_disk.specs.declared.stop.Length.TheVariants.{Long, Short}
use Rattle.im_base_model_disk.specs.declared.stop.Fill.{Fill}
use Rattle.im_base_model_disk.specs.declared.stop.Fill.TheVariants.{Written, Bytes}
use Rattle.im_base_model_disk.specs.declared.stop.Stop.{Stop}
use Rattle.im_base_model_disk.specs.ModelFile.{IsOutside}

-- the greatest written end, which is the length as it reads, or the synced length
abbrev pub left_length : Length → ModelFile → ℕ
left_length Long file = length file.bytes.items
left_length Short file = file.synced

-- the byte at a place that is not as synced: as written, or by the pattern
abbrev pub fill_at : Fill → List ℕ → ℕ → ℕ
fill_at Written bytes place = slice_index bytes place
fill_at (Bytes pattern) bytes place = slice_index pattern.items (place % length pattern.items)

-- The place was synced, and no write since then has touched it.
abbrev pub IsKept : ModelFile → ℕ → Type 0
IsKept file place = (place < file.synced) × IsOutside file.written.items place

-- So many bytes, those that are kept as they read, and all others as the fill has them.
pub record IsLeft (choice : Length) (fill : Fill) (file : ModelFile) (left : List ℕ) : Type 0 where
  pub long : length left ≡ left_length choice file
  pub kept : (place : ℕ) → place < length left → IsKept file place → slice_index left place ≡ slice_index file.bytes.items place
  pub filled : (place : ℕ) → place < length left → ¬ (IsKept file place) → slice_index left place ≡ fill_at fill file.bytes.items place

-- The same by the stop that was armed. With none, a stop leaves all as written.
abbrev pub IsLeftBy : Option Stop → ModelFile → List ℕ → Type 0
IsLeftBy None file left = IsLeft Long Written file left
IsLeftBy (Some stop) file left = IsLeft stop.length stop.fill file left
