-- A disk whose files were made of those of two.
use Rattle.std.proofs.Common.{◌≡◌, Bool, true, false, true≢false, not, ℕ, List, refl, sym, subst}
use Rattle.im_base_types.specs.declared.file_id.FileId.{FileId}
use Rattle.im_base_types.specs.declared.file_id.FileId.TheVariants.{Log, Pages, Log2}
use Rattle.im_base_disk.specs.Disk.{three, Files}
use Rattle.im_tool_every.specs.Torn.{IsTornOf}

-- whether single bytes are as written
pub keeps : (b : Bool) → not b ≡ false → b ≡ true
keeps true e = refl
keeps false e = absurd (true≢false e)

pub keeps_not : (b : Bool) → not b ≡ true → b ≡ false
keeps_not true e = absurd (true≢false (sym e))
keeps_not false e = refl

-- files that were the same before
pub torn_before : (first second first_then second_then : Files) (file : FileId) (bytes : List ℕ) → first_then ≡ first → second_then ≡ second → IsTornOf (first_then file) (second_then file) bytes → IsTornOf (first file) (second file) bytes
torn_before first second first_then second_then file bytes is_first is_second torn =
    subst (λ (s : Files). IsTornOf (first file) (s file) bytes) is_second (subst (λ (f : Files). IsTornOf (f file) (second_then file) bytes) is_first torn)

pub torn_files : (first second : Files) (log pages log2 : List ℕ) → IsTornOf (first Log) (second Log) log → IsTornOf (first Pages) (second Pages) pages → IsTornOf (first Log2) (second Log2) log2
    → (file : FileId) → IsTornOf (first file) (second file) (three log pages log2 file)
torn_files first second log pages log2 of_log of_pages of_log2 Log = of_log
torn_files first second log pages log2 of_log of_pages of_log2 Pages = of_pages
torn_files first second log pages log2 of_log of_pages of_log2 Log2 = of_log2
