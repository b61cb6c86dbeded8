-- What words of keys write, and what they do not.
use Rattle.std.proofs.Common.{◌≡◌, ◌≢◌, inl, inr, ℕ, ◌<◌, ◌≤◌, Bool, true, false, List, [], ◌∷◌, ◌++◌, length, slice_index, replicate, Option, Some, None, Bor, MatchOption, refl, sym, ◌∙◌, ap, subst, arith}
use Rattle.std.specs.Prelude.{◌&&◌}
use Rattle.std.specs.Char.{IsAsciiAlphanumeric}
use Rattle.im_tool_words.specs.Words.{LacksByte, IsNumber}
use Rattle.im_tool_words.specs.Steps.{is_plain, is_text, IsRepeated, IsRepeating, IsPlainKey, IsKeyWord}
use Rattle.im_tool_words.proofs.Texts.{lacks_mid, cut_once, digits_lack}

both_first : (a b : Bool) → (a && b) ≡ true → a ≡ true
both_first true b e = refl
both_first false b e = absurd (cc)

both_second : (a b : Bool) → (a && b) ≡ true → b ≡ true
both_second true b e = e
both_second false b e = absurd (cc)

-- a text of plain bytes lacks each byte that is not
pub text_lacks : (b : ℕ) (text : List ℕ) → is_plain b ≡ false → is_text text ≡ true → LacksByte b text
text_lacks b [] bad e = tt
text_lacks b (c ∷ text) bad e = (
  λ (same : c ≡ b). let good : is_plain b ≡ true = ap is_plain (sym same) ∙ both_first (is_plain c) (is_text text) e in
      let clash : true ≡ false = sym good ∙ bad in absurd (cc),
  text_lacks b text bad (both_second (is_plain c) (is_text text) e),
)

lacks_append : (b : ℕ) (xs ys : List ℕ) → LacksByte b xs → LacksByte b ys → LacksByte b (xs ++ ys)
lacks_append b [] ys l m = m
lacks_append b (x ∷ xs) ys l m = (l.0, lacks_append b xs ys l.1 m)

-- a letter or digit is none of the bytes below the digits
above_signs : (c b : ℕ) → IsAsciiAlphanumeric c → b < 48 → c ≢ b
above_signs c b (inl (inl r)) low e = omega arith
above_signs c b (inl (inr r)) low e = omega arith
above_signs c b (inr r) low e = omega arith

repeated_lacks : (more : List ℕ) (letter times : ℕ) → IsRepeated more letter times → LacksByte 32 more
repeated_lacks more letter times r = subst (λ (x : List ℕ). LacksByte 32 x) (sym r.is) (above_signs letter 32 r.sign (omega arith), (λ x. omega arith, digits_lack r.digits r.number.0.1))

-- the word of a key has no space
pub key_lacks : (word key : List ℕ) → IsKeyWord word key → LacksByte 32 word
key_lacks word key (inl p) = text_lacks 32 word refl p.plain
key_lacks word key (inr r) = subst (λ (x : List ℕ). LacksByte 32 x) (sym r.is) (lacks_append 32 r.text (43 ∷ r.more) (text_lacks 32 r.text refl r.plain) (λ x. omega arith, repeated_lacks r.more r.letter r.times r.repeated))

-- a plain key has no `+`
plain_whole : (text more key : List ℕ) → IsPlainKey (text ++ 43 ∷ more) key → ⊥
plain_whole text more key p = lacks_mid 43 text more (text_lacks 43 (text ++ 43 ∷ more) refl p.plain)

-- a key that repeats is cut at its `+`
repeating_cut : (text more key : List ℕ) → LacksByte 43 text → (r : IsRepeating (text ++ 43 ∷ more) key) → (text ≡ r.text) × (more ≡ r.more)
repeating_cut text more key l r = cut_once 43 text r.text more r.more l (text_lacks 43 r.text refl r.plain) r.is

-- a text with other bytes writes no key
pub key_bad : (word text : List ℕ) (more : Option (Bor (List ℕ))) → MatchOption more (text ≡ word) (λ rest. word ≡ text ++ 43 ∷ rest.now) → LacksByte 43 text → is_text text ≡ false → (key : List ℕ) → IsKeyWord word key → ⊥
key_bad word text None cut l bad key (inl p) = let clash : true ≡ false = sym p.plain ∙ ap is_text (sym cut) ∙ bad in absurd (cc)
key_bad word text None cut l bad key (inr r) = lacks_mid 43 r.text r.more (subst (λ (x : List ℕ). LacksByte 43 x) (cut ∙ r.is) l)
key_bad word text (Some rest) cut l bad key (inl p) = plain_whole text rest.now key (subst (λ (x : List ℕ). IsPlainKey x key) cut p)
key_bad word text (Some rest) cut l bad key (inr r) =
    let same = (cut_once 43 text r.text rest.now r.more l (text_lacks 43 r.text refl r.plain) (sym cut ∙ r.is)).0 in
    let clash : true ≡ false = sym r.plain ∙ ap is_text (sym same) ∙ bad in absurd (cc)

pub empty_bad : (text key : List ℕ) → text ≡ [] → LacksByte 43 text → IsKeyWord text key → ⊥
empty_bad text key none l (inl p) = p.some none
empty_bad text key none l (inr r) = lacks_mid 43 r.text r.more (subst (λ (x : List ℕ). LacksByte 43 x) r.is l)

-- what stands after the `+`
pub repeating_said : (text more key : List ℕ) → LacksByte 43 text → IsKeyWord (text ++ 43 ∷ more) key → (letter : ℕ) × (times : ℕ) × IsRepeated more letter times
repeating_said text more key l (inl p) = absurd (plain_whole text more key p)
repeating_said text more key l (inr r) = (r.letter, r.times, subst (λ (x : List ℕ). IsRepeated x r.letter r.times) (sym (repeating_cut text more key l r).1) r.repeated)

pub repeating_is : (text more key : List ℕ) (letter times : ℕ) → is_text text ≡ true → IsRepeated more letter times → key ≡ text ++ replicate times letter → IsKeyWord (text ++ 43 ∷ more) key
repeating_is text more key letter times plain repeated is = inr (record { text = text; more = more; letter = letter; times = times; is = refl; plain = plain; repeated = repeated; key_is = is })

pub plain_is : (text key : List ℕ) → is_text text ≡ true → text ≢ [] → key ≡ text → IsKeyWord text key
plain_is text key plain some is = inl (record { plain = plain; some = some; key_is = is })

-- `C*N` is cut at its `*`
pub repeated_cut : (word sign times : List ℕ) (letter n : ℕ) → IsRepeated word letter n → word ≡ sign ++ 42 ∷ times → LacksByte 42 sign → (sign ≡ letter ∷ []) × IsNumber times n × IsAsciiAlphanumeric letter × (n ≤ 1000)
repeated_cut word sign times letter n r cut l =
    let e = cut_once 42 sign (letter ∷ []) times r.digits l (above_signs letter 42 r.sign (omega arith), tt) (sym cut ∙ r.is) in
    (e.0, subst (λ (x : List ℕ). IsNumber x n) (sym e.1) r.number, r.sign, r.most)

pub repeated_alone : (word sign : List ℕ) (letter n : ℕ) → IsRepeated word letter n → sign ≡ word → LacksByte 42 sign → ⊥
repeated_alone word sign letter n r cut l = lacks_mid 42 (letter ∷ []) r.digits (subst (λ (x : List ℕ). LacksByte 42 x) (cut ∙ r.is) l)

one_sign : (sign : List ℕ) → length sign ≡ 1 → sign ≡ slice_index sign 0 ∷ []
one_sign [] e = absurd (omega arith)
one_sign (c ∷ []) e = refl
one_sign (c ∷ d ∷ sign) e = absurd (omega arith)

pub repeated_is : (word sign times : List ℕ) (n : ℕ) → word ≡ sign ++ 42 ∷ times → length sign ≡ 1 → IsAsciiAlphanumeric (slice_index sign 0) → IsNumber times n → n ≤ 1000 → IsRepeated word (slice_index sign 0) n
repeated_is word sign times n cut one is number most = record {
  digits = times;
  is = cut ∙ ap (λ (x : List ℕ). x ++ 42 ∷ times) (one_sign sign one);
  sign = is;
  number = number;
  most = most;
}

-- a word writes one number
pub number_once : (word : List ℕ) (n m : ℕ) → IsNumber word n → IsNumber word m → n ≡ m
number_once word n m a b = sym a.1 ∙ b.1
