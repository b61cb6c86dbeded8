-- What lines that set a file spell, and what they do not.
use Rattle.std.proofs.Common.{◌≡◌, ◌≢◌, ℕ, List, [], ◌∷◌, ◌++◌, Ok, codes, sym, ◌∙◌, ap, subst, arith}
use Rattle.hex.specs.Hex.{decode_of}
use Rattle.im_base_types.specs.declared.file_id.FileId.{FileId}
use Rattle.im_base_types.specs.declared.file_id.FileId.TheVariants as files
use Rattle.im_tool_lines.specs.declared.line.Line.{Line}
use Rattle.im_tool_lines.specs.declared.line.Line.TheVariants as lines
use Rattle.im_tool_words.specs.Words.{LacksByte}
use Rattle.im_tool_lines.specs.Lines.{file_word, SpellsLine}
use Rattle.im_tool_lines.specs.Scripts.{Sets, Begins, Puts, Counts, Stops}
use Rattle.im_tool_words.proofs.Texts.{lacks_mid, cut_once}
use Rattle.im_tool_lines.proofs.Spelled.{spelled_kind}

-- What stands after `set `: a file's name and digits.
pub record SetWords (rest : List ℕ) : Type 0 where
  pub file : FileId
  pub hex : List ℕ
  pub bytes : List ℕ
  pub is : rest ≡ file_word file ++ 32 ∷ hex
  pub some : hex ≢ []
  pub decoded : decode_of hex ≡ Ok bytes

pub set_said : (rest : List ℕ) (said : Line) → SpellsLine (codes "set " ++ rest) said → SetWords rest
set_said rest lines.Raw s = let e : Begins ≡ Sets = spelled_kind (codes "set " ++ rest) lines.Raw s in absurd (cc)
set_said rest lines.Calls s = let e : Counts ≡ Sets = spelled_kind (codes "set " ++ rest) lines.Calls s in absurd (cc)
set_said rest (lines.Put batch) s = let e : Puts ≡ Sets = spelled_kind (codes "set " ++ rest) (lines.Put batch) s in absurd (cc)
set_said rest (lines.Set file bytes) s =
    let e : codes "set " ++ rest ≡ codes "set " ++ (file_word file ++ 32 ∷ s.0) = s.1 in
    let same : rest ≡ file_word file ++ 32 ∷ s.0 = cc in
    record {
      file = file;
      hex = s.0;
      bytes = bytes.items;
      is = same;
      some = s.2;
      decoded = s.3;
    }
set_said rest (lines.Stop stop) s = let e : Stops ≡ Sets = spelled_kind (codes "set " ++ rest) (lines.Stop stop) s in absurd (cc)

file_lacks : (file : FileId) → LacksByte 32 (file_word file)
file_lacks files.Log = (λ x. omega arith, (λ x. omega arith, (λ x. omega arith, tt)))
file_lacks files.Pages = (λ x. omega arith, (λ x. omega arith, (λ x. omega arith, (λ x. omega arith, (λ x. omega arith, tt)))))
file_lacks files.Log2 = (λ x. omega arith, (λ x. omega arith, (λ x. omega arith, (λ x. omega arith, tt))))

set_cut : (rest word more : List ℕ) (said : Line) → SpellsLine (codes "set " ++ rest) said → rest ≡ word ++ 32 ∷ more → LacksByte 32 word → (w : SetWords rest) × (word ≡ file_word w.file) × (more ≡ w.hex)
set_cut rest word more said s cut l = let w = set_said rest said s in let e = cut_once 32 word (file_word w.file) more w.hex l (file_lacks w.file) (sym cut ∙ w.is) in (w, e.0, e.1)

-- why the words after `set ` are bad
pub set_two : (rest : List ℕ) (said : Line) → SpellsLine (codes "set " ++ rest) said → LacksByte 32 rest → ⊥
set_two rest said s l = let w = set_said rest said s in lacks_mid 32 (file_word w.file) w.hex (subst (λ (x : List ℕ). LacksByte 32 x) w.is l)

pub set_file : (rest word more : List ℕ) (said : Line) → SpellsLine (codes "set " ++ rest) said → rest ≡ word ++ 32 ∷ more → LacksByte 32 word → ((file : FileId) → word ≢ file_word file) → ⊥
set_file rest word more said s cut l n = let w = set_cut rest word more said s cut l in n w.0.file w.1

pub set_hex : (rest word more : List ℕ) (said : Line) → SpellsLine (codes "set " ++ rest) said → rest ≡ word ++ 32 ∷ more → LacksByte 32 word → more ≡ [] → ⊥
set_hex rest word more said s cut l n = let w = set_cut rest word more said s cut l in w.0.some (sym w.2 ∙ n)

pub set_bytes : (rest word more : List ℕ) (said : Line) → SpellsLine (codes "set " ++ rest) said → rest ≡ word ++ 32 ∷ more → LacksByte 32 word → ((bytes : List ℕ) → decode_of more ≢ Ok bytes) → ⊥
set_bytes rest word more said s cut l n = let w = set_cut rest word more said s cut l in n w.0.bytes (ap decode_of w.2 ∙ w.0.decoded)
