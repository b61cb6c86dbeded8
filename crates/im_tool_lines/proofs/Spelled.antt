-- What lines spell, and what they do not.
use Rattle.std.proofs.Common.{◌≡◌, ◌≢◌, inl, inr, ℕ, ◌≤◌, List, ◌∷◌, ◌++◌, length, slice_index, if◌then◌else◌, ◌==◌, Ok, codes, sym, ◌∙◌, ap, subst, arith}
use Rattle.hex.specs.Hex.{decode_of}
use Rattle.im_base_model_disk.specs.declared.stop.Stop.{Stop}
use Rattle.im_base_model_disk.specs.declared.stop.Fill.{Fill}
use Rattle.im_base_model_disk.specs.declared.stop.Length.{Length}
use Rattle.im_base_model_disk.specs.declared.stop.Length.TheVariants as lengths
use Rattle.im_tool_lines.specs.declared.line.Line.{Line}
use Rattle.im_tool_lines.specs.declared.line.Line.TheVariants as lines
use Rattle.im_tool_words.specs.Words.{LacksByte}
use Rattle.im_tool_lines.specs.Lines.{IsCall, IsLengthWord, IsFillWord, file_word, SpellsLine}
use Rattle.im_tool_lines.specs.Scripts.{Kind, Sets, Begins, Puts, Counts, Stops, kind_of}
use Rattle.im_tool_words.proofs.Texts.{lacks_mid, cut_once, digits_lack}

-- the kind of a good line, by its first bytes
abbrev pub text_kind : List ℕ → Kind
text_kind text =
    if slice_index text 0 == 114 then Begins
    else if slice_index text 0 == 99 then Counts
    else if slice_index text 0 == 112 then Puts
    else if slice_index text 1 == 101 then Sets
    else Stops

pub spelled_kind : (text : List ℕ) (said : Line) → SpellsLine text said → kind_of said ≡ text_kind text
spelled_kind text lines.Raw s = sym (ap text_kind s)
spelled_kind text lines.Calls s = sym (ap text_kind s)
spelled_kind text (lines.Put batch) s = sym (ap text_kind s.1)
spelled_kind text (lines.Set file bytes) s = sym (ap text_kind s.1)
spelled_kind text (lines.Stop stop) s = sym (ap text_kind s.3)

-- a line is of one kind, however it is read
pub one_kind : (text : List ℕ) (l m : Line) → SpellsLine text l → SpellsLine text m → kind_of l ≡ kind_of m
one_kind text l m s o = spelled_kind text l s ∙ sym (spelled_kind text m o)

-- a word alone is `raw`, `calls` or no line
pub lone_bad : (word : List ℕ) (said : Line) → SpellsLine word said → LacksByte 32 word → word ≢ codes "raw" → word ≢ codes "calls" → ⊥
lone_bad word lines.Raw s l r c = r s
lone_bad word lines.Calls s l r c = c s
lone_bad word (lines.Put batch) s l r c = lacks_mid 32 (codes "put") s.0 (subst (λ (t : List ℕ). LacksByte 32 t) s.1 l)
lone_bad word (lines.Set file bytes) s l r c = lacks_mid 32 (codes "set") (file_word file ++ 32 ∷ s.0) (subst (λ (t : List ℕ). LacksByte 32 t) s.1 l)
lone_bad word (lines.Stop stop) s l r c = lacks_mid 32 (codes "stop") (s.0 ++ 32 ∷ (s.1 ++ 32 ∷ s.2)) (subst (λ (t : List ℕ). LacksByte 32 t) s.3 l)

-- what stands after `put `
pub put_said : (rest : List ℕ) (said : Line) → SpellsLine (codes "put " ++ rest) said → (bytes : List ℕ) × (decode_of rest ≡ Ok bytes) × (1 ≤ length bytes) × (length bytes ≤ 16384)
put_said rest lines.Raw s = let e : Begins ≡ Puts = spelled_kind (codes "put " ++ rest) lines.Raw s in absurd (cc)
put_said rest lines.Calls s = let e : Counts ≡ Puts = spelled_kind (codes "put " ++ rest) lines.Calls s in absurd (cc)
put_said rest (lines.Put batch) s =
    let e : codes "put " ++ rest ≡ codes "put " ++ s.0 = s.1 in
    let same : rest ≡ s.0 = cc in (batch.records.items, ap decode_of same ∙ s.2, s.3, s.4)
put_said rest (lines.Set file bytes) s = let e : Sets ≡ Puts = spelled_kind (codes "put " ++ rest) (lines.Set file bytes) s in absurd (cc)
put_said rest (lines.Stop stop) s = let e : Stops ≡ Puts = spelled_kind (codes "put " ++ rest) (lines.Stop stop) s in absurd (cc)

call_lacks : (word : List ℕ) (n : ℕ) → IsCall word n → LacksByte 32 word
call_lacks word n (inl e) = subst (λ (t : List ℕ). LacksByte 32 t) (sym e.0) (λ x. omega arith, (λ x. omega arith, (λ x. omega arith, tt)))
call_lacks word n (inr d) = digits_lack word d.0.1

length_lacks : (word : List ℕ) (size : Length) → IsLengthWord word size → LacksByte 32 word
length_lacks word lengths.Long e = subst (λ (t : List ℕ). LacksByte 32 t) (sym e) (λ x. omega arith, (λ x. omega arith, (λ x. omega arith, (λ x. omega arith, tt))))
length_lacks word lengths.Short e = subst (λ (t : List ℕ). LacksByte 32 t) (sym e) (λ x. omega arith, (λ x. omega arith, (λ x. omega arith, (λ x. omega arith, (λ x. omega arith, tt)))))

-- What stands after `stop `: three words.
pub record StopWords (rest : List ℕ) : Type 0 where
  pub call : List ℕ
  pub size : List ℕ
  pub fill : List ℕ
  pub stop : Stop
  pub is : rest ≡ call ++ 32 ∷ (size ++ 32 ∷ fill)
  pub is_call : IsCall call stop.call
  pub is_length : IsLengthWord size stop.length
  pub is_fill : IsFillWord fill stop.fill
  pub call_lacks : LacksByte 32 call
  pub size_lacks : LacksByte 32 size

pub stop_said : (rest : List ℕ) (said : Line) → SpellsLine (codes "stop " ++ rest) said → StopWords rest
stop_said rest lines.Raw s = let e : Begins ≡ Stops = spelled_kind (codes "stop " ++ rest) lines.Raw s in absurd (cc)
stop_said rest lines.Calls s = let e : Counts ≡ Stops = spelled_kind (codes "stop " ++ rest) lines.Calls s in absurd (cc)
stop_said rest (lines.Put batch) s = let e : Puts ≡ Stops = spelled_kind (codes "stop " ++ rest) (lines.Put batch) s in absurd (cc)
stop_said rest (lines.Set file bytes) s = let e : Sets ≡ Stops = spelled_kind (codes "stop " ++ rest) (lines.Set file bytes) s in absurd (cc)
stop_said rest (lines.Stop stop) s =
    let e : codes "stop " ++ rest ≡ codes "stop " ++ (s.0 ++ 32 ∷ (s.1 ++ 32 ∷ s.2)) = s.3 in
    let same : rest ≡ s.0 ++ 32 ∷ (s.1 ++ 32 ∷ s.2) = cc in
    record {
      call = s.0;
      size = s.1;
      fill = s.2;
      stop = stop;
      is = same;
      is_call = s.4;
      is_length = s.5;
      is_fill = s.6;
      call_lacks = call_lacks s.0 stop.call s.4;
      size_lacks = length_lacks s.1 stop.length s.5;
    }

-- a line of several words begins with `put`, `set` or `stop`
pub word_said : (word rest : List ℕ) (said : Line) → SpellsLine (word ++ 32 ∷ rest) said → LacksByte 32 word → word ≢ codes "put" → word ≢ codes "set" → word ≢ codes "stop" → ⊥
word_said word rest lines.Raw s l p t o = lacks_mid 32 word rest (subst (λ (x : List ℕ). LacksByte 32 x) (sym s) (λ x. omega arith, (λ x. omega arith, (λ x. omega arith, tt))))
word_said word rest lines.Calls s l p t o = lacks_mid 32 word rest (subst (λ (x : List ℕ). LacksByte 32 x) (sym s) (λ x. omega arith, (λ x. omega arith, (λ x. omega arith, (λ x. omega arith, (λ x. omega arith, tt))))))
word_said word rest (lines.Put batch) s l p t o = p (cut_once 32 word (codes "put") rest s.0 l (λ x. omega arith, (λ x. omega arith, (λ x. omega arith, tt))) s.1).0
word_said word rest (lines.Set file bytes) s l p t o = t (cut_once 32 word (codes "set") rest (file_word file ++ 32 ∷ s.0) l (λ x. omega arith, (λ x. omega arith, (λ x. omega arith, tt))) s.1).0
word_said word rest (lines.Stop stop) s l p t o = o (cut_once 32 word (codes "stop") rest (s.0 ++ 32 ∷ (s.1 ++ 32 ∷ s.2)) l (λ x. omega arith, (λ x. omega arith, (λ x. omega arith, (λ x. omega arith, tt)))) s.3).0

-- why the words after `stop ` are bad
pub stop_one : (rest : List ℕ) (said : Line) → SpellsLine (codes "stop " ++ rest) said → LacksByte 32 rest → ⊥
stop_one rest said s l = let w = stop_said rest said s in lacks_mid 32 w.call (w.size ++ 32 ∷ w.fill) (subst (λ (x : List ℕ). LacksByte 32 x) w.is l)

stop_cut : (rest call more : List ℕ) (said : Line) → SpellsLine (codes "stop " ++ rest) said → rest ≡ call ++ 32 ∷ more → LacksByte 32 call → (w : StopWords rest) × (call ≡ w.call) × (more ≡ w.size ++ 32 ∷ w.fill)
stop_cut rest call more said s cut l = let w = stop_said rest said s in let e = cut_once 32 call w.call more (w.size ++ 32 ∷ w.fill) l w.call_lacks (sym cut ∙ w.is) in (w, e.0, e.1)

pub stop_call : (rest call more : List ℕ) (said : Line) → SpellsLine (codes "stop " ++ rest) said → rest ≡ call ++ 32 ∷ more → LacksByte 32 call → ((n : ℕ) → IsCall call n → ⊥) → ⊥
stop_call rest call more said s cut l n = let w = stop_cut rest call more said s cut l in n w.0.stop.call (subst (λ (x : List ℕ). IsCall x w.0.stop.call) (sym w.1) w.0.is_call)

pub stop_two : (rest call more : List ℕ) (said : Line) → SpellsLine (codes "stop " ++ rest) said → rest ≡ call ++ 32 ∷ more → LacksByte 32 call → LacksByte 32 more → ⊥
stop_two rest call more said s cut l m = let w = stop_cut rest call more said s cut l in lacks_mid 32 w.0.size w.0.fill (subst (λ (x : List ℕ). LacksByte 32 x) w.2 m)

pub stop_length : (rest call more size fill : List ℕ) (said : Line) → SpellsLine (codes "stop " ++ rest) said → rest ≡ call ++ 32 ∷ more → LacksByte 32 call → more ≡ size ++ 32 ∷ fill → LacksByte 32 size → ((n : Length) → IsLengthWord size n → ⊥) → ⊥
stop_length rest call more size fill said s cut l next m n =
    let w = stop_cut rest call more said s cut l in
    let e = cut_once 32 size w.0.size fill w.0.fill m w.0.size_lacks (sym next ∙ w.2) in n w.0.stop.length (subst (λ (x : List ℕ). IsLengthWord x w.0.stop.length) (sym e.0) w.0.is_length)

pub stop_fill : (rest call more size fill : List ℕ) (said : Line) → SpellsLine (codes "stop " ++ rest) said → rest ≡ call ++ 32 ∷ more → LacksByte 32 call → more ≡ size ++ 32 ∷ fill → LacksByte 32 size → ((n : Fill) → IsFillWord fill n → ⊥) → ⊥
stop_fill rest call more size fill said s cut l next m n =
    let w = stop_cut rest call more said s cut l in
    let e = cut_once 32 size w.0.size fill w.0.fill m w.0.size_lacks (sym next ∙ w.2) in n w.0.stop.fill (subst (λ (x : List ℕ). IsFillWord x w.0.stop.fill) (sym e.1) w.0.is_fill)
