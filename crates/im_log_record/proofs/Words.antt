-- A field that is read is the field that was written, and what was written is read again.
use Rattle.std.proofs.Common.{◌≡◌, ℕ, suc, ◌+◌, ◌^◌, ◌<◌, ◌≤◌, true, leb, List, [], ◌∷◌, ◌++◌, length, take, drop, Option, Some, None, refl, sym, ap, subst, ◌∙◌, append_assoc, arith, inl, inr}
use Rattle.std.specs.Int.{Width, w16, w32, w64, byte_len, from_be_bytes, to_be_bytes}
use Rattle.std.proofs.lemmas.Bool.{cases_lt, leb-true, le-leb}
use Rattle.std.proofs.lemmas.Option.{cond_some, same_Some}
use Rattle.std.proofs.lemmas.List.{take_at, drop_at, take-append-drop, length-append, length-take, length-take-le, get_or-drop, get_or-take, get_or_past}
use Rattle.std.proofs.lemmas.Nat.{be_bytes_2, be_bytes_4, be_bytes_8, from_be_bytes-to_be_bytes_2, from_be_bytes-to_be_bytes_4, from_be_bytes-to_be_bytes_8}
use Rattle.im_log_record.specs.Spelling.{word16, word32, word64, Is16, Is32, Is64}
use Rattle.im_log_record.specs.Reading.{IsBytes, ◌>>=◌, part_at, byte_at, word16_at, word32_at, word64_at}

pub IsBytes-drop : (n : ℕ) (bytes : List ℕ) → IsBytes bytes → IsBytes (drop n bytes)
IsBytes-drop n bytes h i = rw get_or-drop (h (n + i))

pub IsBytes-take : (n : ℕ) (bytes : List ℕ) → IsBytes bytes → IsBytes (take n bytes)
IsBytes-take n bytes h i =
    elim (cases_lt i n) [
      | inl lt ↦ rw (get_or-take n bytes i 0 lt) (h i)
      | inr le ↦ rw (get_or_past (take n bytes) i 0 (omega (arith, length-take n bytes))) (omega arith)
    ]

-- the value of a step that did not fail
pub bind_some : {A B : Type 0} (r : Option A) (f : A → Option B) (y : B) → (r >>= f) ≡ Some y → (x : A) × (r ≡ Some x) × (f x ≡ Some y)
bind_some (Some x) f y e = (x, refl, e)
bind_some None f y e = absurd cc

-- what a reader took from the front
pub record Takes (bytes text rest : List ℕ) : Type 0 where
  pub parts : bytes ≡ text ++ rest
  pub rest_fits : IsBytes rest

pub Takes-then : (a x b y c : List ℕ) → Takes a x b → Takes b y c → Takes a (x ++ y) c
Takes-then a x b y c p q = record { parts = p.parts ∙ ap (λ (t : List ℕ). x ++ t) q.parts ∙ sym (append_assoc x y c); rest_fits = q.rest_fits }

-- a reader and a spelling that belong together
pub record IsField {X : Type 0} (read : List ℕ → Option (X × List ℕ)) (spell : X → List ℕ) (Is : X → Type 0) : Type 0 where
  pub takes : (bytes : List ℕ) (x : X × List ℕ) → IsBytes bytes → read bytes ≡ Some x → Takes bytes (spell x.0) x.1 × Is x.0
  pub again : (x : X) (rest : List ℕ) → Is x → read (spell x ++ rest) ≡ Some (x, rest)

-- ---- parts

pub part_takes : (n : ℕ) (bytes : List ℕ) (x : List ℕ × List ℕ) → IsBytes bytes → part_at n bytes ≡ Some x → Takes bytes x.0 x.1 × (length x.0 ≡ n) × IsBytes x.0
unfolding part_at
part_takes n bytes x fits e =
    let g = cond_some (leb n (length bytes)) (take n bytes, drop n bytes) x e in
    let long : n ≤ length bytes = leb-true n (length bytes) g.0 in
    subst (λ (y : List ℕ × List ℕ). Takes bytes y.0 y.1 × (length y.0 ≡ n) × IsBytes y.0) g.1
    (record { parts = sym (take-append-drop n bytes); rest_fits = IsBytes-drop n bytes fits }, length-take-le n bytes long, IsBytes-take n bytes fits)

pub part_again : (n : ℕ) (part rest : List ℕ) → length part ≡ n → part_at n (part ++ rest) ≡ Some (part, rest)
unfolding part_at
part_again n part rest len =
    let long : leb n (length (part ++ rest)) ≡ true = le-leb _ _ (omega (arith, length-append part rest)) in
    rw (long, take_at part rest n len, drop_at part rest n len) refl

IsBytes-rest : (b : ℕ) (bytes : List ℕ) → IsBytes (b ∷ bytes) → IsBytes bytes
IsBytes-rest b bytes h i = h (suc i)

pub byte_takes : (bytes : List ℕ) (x : ℕ × List ℕ) → IsBytes bytes → byte_at bytes ≡ Some x → Takes bytes (x.0 ∷ []) x.1 × (x.0 < 256)
unfolding byte_at
byte_takes [] x fits e = absurd cc
byte_takes (b ∷ bytes) x fits e =
    subst (λ (y : ℕ × List ℕ). Takes (b ∷ bytes) (y.0 ∷ []) y.1 × (y.0 < 256)) (same_Some (b, bytes) x e) (record { parts = refl; rest_fits = IsBytes-rest b bytes fits }, fits 0)

pub byte_again : (b : ℕ) (rest : List ℕ) → byte_at ((b ∷ []) ++ rest) ≡ Some (b, rest)
unfolding byte_at
byte_again b rest = refl

-- ---- numbers

word_from : Width → List ℕ → Option (ℕ × List ℕ)
word_from w bytes = part_at (byte_len w) bytes >>= λ word. Some (from_be_bytes w word.0, word.1)

record IsWide (w : Width) (limit : ℕ) : Type 0 where
  pub len : (n : ℕ) → length (to_be_bytes w n) ≡ byte_len w
  pub back : (bytes : List ℕ) → length bytes ≡ byte_len w → IsBytes bytes → to_be_bytes w (from_be_bytes w bytes) ≡ bytes
  pub again : (n : ℕ) → n < limit → from_be_bytes w (to_be_bytes w n) ≡ n
  pub below : (bytes : List ℕ) → IsBytes bytes → from_be_bytes w bytes < limit

wide16 : IsWide w16 (2 ^ 16)
wide16 = record {
  len = λ n. refl;
  back = λ bytes len fits. be_bytes_2 bytes _ len fits refl;
  again = λ n lt. from_be_bytes-to_be_bytes_2 n lt;
  below = λ bytes fits. omega (arith, fits 0, fits 1);
}

wide32 : IsWide w32 (2 ^ 32)
wide32 = record {
  len = λ n. refl;
  back = λ bytes len fits. be_bytes_4 bytes _ len fits refl;
  again = λ n lt. from_be_bytes-to_be_bytes_4 n lt;
  below = λ bytes fits. omega (arith, fits 0, fits 1, fits 2, fits 3);
}

wide64 : IsWide w64 (2 ^ 64)
wide64 = record {
  len = λ n. refl;
  back = λ bytes len fits. be_bytes_8 bytes _ len fits refl;
  again = λ n lt. from_be_bytes-to_be_bytes_8 n lt;
  below = λ bytes fits. omega (arith, fits 0, fits 1, fits 2, fits 3, fits 4, fits 5, fits 6, fits 7);
}

word_field : (w : Width) (limit : ℕ) → IsWide w limit → IsField (word_from w) (to_be_bytes w) (λ n. n < limit)
unfolding word_from
word_field w limit wide = record {
  takes = λ bytes x fits e.
      (let a = bind_some (part_at (byte_len w) bytes) (λ word. Some (from_be_bytes w word.0, word.1)) x e in
      let t = part_takes (byte_len w) bytes a.0 fits a.1 in
      let front : a.0.0 ≡ to_be_bytes w (from_be_bytes w a.0.0) = sym (wide.back a.0.0 t.1 t.2) in
      subst (λ (y : ℕ × List ℕ). Takes bytes (to_be_bytes w y.0) y.1 × (y.0 < limit)) (same_Some (from_be_bytes w a.0.0, a.0.1) x a.2)
      (subst (λ (text : List ℕ). Takes bytes text a.0.1) front t.0, wide.below a.0.0 t.2));
  again = λ n rest lt.
      rw (part_again (byte_len w) (to_be_bytes w n) rest (wide.len n), wide.again n lt) refl;
}

pub word16_field : IsField word16_at word16 Is16
unfolding word16_at word16 word_from
word16_field = word_field w16 (2 ^ 16) wide16

pub word32_field : IsField word32_at word32 Is32
unfolding word32_at word32 word_from
word32_field = word_field w32 (2 ^ 32) wide32

pub word64_field : IsField word64_at word64 Is64
unfolding word64_at word64 word_from
word64_field = word_field w64 (2 ^ 64) wide64

pub length-word16 : (n : ℕ) → length (word16 n) ≡ 2
unfolding word16
length-word16 n = refl

pub length-word32 : (n : ℕ) → length (word32 n) ≡ 4
unfolding word32
length-word32 n = refl

pub length-word64 : (n : ℕ) → length (word64 n) ≡ 8
unfolding word64
length-word64 n = refl

-- ---- words alone

pub word64_back : (bytes : List ℕ) → length bytes ≡ 8 → IsBytes bytes → (word64 (from_be_bytes w64 bytes) ≡ bytes) × Is64 (from_be_bytes w64 bytes)
unfolding word64
word64_back bytes len fits = (wide64.back bytes len fits, wide64.below bytes fits)

pub word64_value : (n : ℕ) → Is64 n → from_be_bytes w64 (word64 n) ≡ n
unfolding word64
word64_value n lt = wide64.again n lt

pub word32_back : (bytes : List ℕ) → length bytes ≡ 4 → IsBytes bytes → (word32 (from_be_bytes w32 bytes) ≡ bytes) × Is32 (from_be_bytes w32 bytes)
unfolding word32
word32_back bytes len fits = (wide32.back bytes len fits, wide32.below bytes fits)

pub word32_value : (n : ℕ) → Is32 n → from_be_bytes w32 (word32 n) ≡ n
unfolding word32
word32_value n lt = wide32.again n lt
