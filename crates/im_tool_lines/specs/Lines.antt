-- How lines are spelled.
use Rattle.std.specs.Prelude.{◌≡◌, ◌≢◌, ◌⊎◌, ℕ, ◌≤◌, List, [], ◌∷◌, ◌++◌, length, codes, Option, None, Some, Ok}
use Rattle.std.specs.Borrow.{Bor}
use Rattle.hex.specs.Hex.{decode_of}
use Rattle.im_base_model_disk.specs.declared.stop.Fill.{Fill}
use Rattle.im_base_model_disk.specs.declared.stop.Fill.TheVariants as fills
use Rattle.im_base_model_disk.specs.declared.stop.Length.{Length}
use Rattle.im_base_model_disk.specs.declared.stop.Length.TheVariants as lengths
use Rattle.im_base_types.specs.declared.file_id.FileId.{FileId}
use Rattle.im_base_types.specs.declared.file_id.FileId.TheVariants as files
use Rattle.im_tool_words.specs.Words.{IsNumber}
use Rattle.im_tool_lines.specs.declared.line.Line.{Line}
use Rattle.im_tool_lines.specs.declared.line.Line.TheVariants as lines

-- what is left of a line after a word: nothing, or a space and what stands after it
abbrev pub behind_word : Option (Bor (List ℕ)) → List ℕ
behind_word None = []
behind_word (Some rest) = 32 ∷ rest.now

-- a device call's number, or `end`, which is no call's
abbrev pub IsCall : List ℕ → ℕ → Type 0
IsCall word n = ((word ≡ codes "end") × (n ≡ 0)) ⊎ IsNumber word n

abbrev pub IsLengthWord : List ℕ → Length → Type 0
IsLengthWord word lengths.Long = word ≡ codes "long"
IsLengthWord word lengths.Short = word ≡ codes "short"

-- what was written, or 1 to 64 bytes in hexadecimal digits
abbrev pub IsFillWord : List ℕ → Fill → Type 0
IsFillWord word fills.Written = word ≡ codes "written"
IsFillWord word (fills.Bytes bytes) = (decode_of word ≡ Ok bytes.items) × (1 ≤ length bytes.items) × (length bytes.items ≤ 64)

-- a file's name in a line that sets it
abbrev pub file_word : FileId → List ℕ
file_word files.Log = codes "log"
file_word files.Pages = codes "pages"
file_word files.Log2 = codes "log2"

-- The bytes of a line that says this. Its words stand apart by single spaces; a batch has 1 to 16,384 bytes.
abbrev pub SpellsLine : List ℕ → Line → Type 0
SpellsLine text lines.Raw = text ≡ codes "raw"
SpellsLine text lines.Calls = text ≡ codes "calls"
SpellsLine text (lines.Put batch) = (hex : List ℕ) × (text ≡ codes "put " ++ hex) × (decode_of hex ≡ Ok batch.records.items) × (1 ≤ length batch.records.items) × (length batch.records.items ≤ 16384)
SpellsLine text (lines.Set file bytes) = (hex : List ℕ) × (text ≡ codes "set " ++ (file_word file ++ 32 ∷ hex)) × (hex ≢ []) × (decode_of hex ≡ Ok bytes.items)
SpellsLine text (lines.Stop stop) =
    (call : List ℕ) × (size : List ℕ) × (fill : List ℕ) × (text ≡ codes "stop " ++ (call ++ 32 ∷ (size ++ 32 ∷ fill)))
    × IsCall call stop.call × IsLengthWord size stop.length × IsFillWord fill stop.fill
