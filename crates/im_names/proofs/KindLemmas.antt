-- Kinds of keys by their bytes, and the keys of long values in their parts.
use Rattle.std.proofs.Common.{◌≡◌, ℕ, suc, zero, ◌+◌, ◌<◌, ◌≤◌, List, [], ◌∷◌, ◌++◌, length, take, drop, get_or, cond, Bool, true, false, refl, sym, ap, subst, ◌∙◌, arith, set, append_assoc, length-drop, add-zero, Some, None, Option}
use Rattle.std.specs.Prelude.{◌≢◌, ◌==◌}
use Rattle.std.proofs.lemmas.Bool.{ne_eqb}
use Rattle.std.proofs.lemmas.List.{append-nil, drop_at, drop_more, get_or-drop, take_more_set}
use Rattle.std.proofs.Math.ListN.{drop_of_length-le}
use Rattle.im_names.specs.declared.key_kind.KeyKind.{KeyKind}
use Rattle.im_names.specs.declared.key_kind.KeyKind.TheVariants.{Other}
use Rattle.im_names.specs.Kinds.{kind_by, kind_by_bytes, with_byte, long_key, key_of_part}
use Rattle.im_names.specs.Layout.{escape, escaped, front_of}

pub kind_of_none : (key : List ℕ) → length key ≡ 0 → kind_by_bytes key ≡ Other
kind_of_none [] e = refl
kind_of_none (b ∷ key) e = absurd (omega arith)

pub kind_of_some : (key : List ℕ) (d : ℕ) → 0 < length key → kind_by_bytes key ≡ kind_by (get_or key 0 d) (length key)
kind_of_some [] d l = absurd (omega arith)
kind_of_some (b ∷ key) d l = ap (kind_by b) (let e : length key + 1 ≡ suc (length key) = omega arith in e)

-- ---- the key's bytes, one after the other

pub byte_alone : (b : ℕ) (rest : List ℕ) → b ≢ 0 → long_key (b ∷ rest) ≡ with_byte b (long_key rest)
byte_alone zero rest n = absurd (n refl)
byte_alone (suc b) rest n = refl

pub byte_zero : (b : ℕ) (rest : List ℕ) → b ≡ 255 → long_key (0 ∷ (b ∷ rest)) ≡ with_byte 0 (long_key rest)
byte_zero b rest e = ap (λ (c : ℕ). long_key (0 ∷ (c ∷ rest))) e

pub key_ends : (rest : List ℕ) (d : ℕ) → (0 < length rest → get_or rest 0 d ≢ 255) → long_key (0 ∷ rest) ≡ Some ([], rest)
key_ends [] d n = refl
key_ends (b ∷ rest) d n = ap (λ (t : Bool). cond t (with_byte 0 (long_key rest)) (Some ([], b ∷ rest))) (ne_eqb b 255 (n (omega arith)))

at_place : (part : List ℕ) (at : ℕ) → at < length part → drop at part ≡ get_or part at 0 ∷ drop (at + 1) part
at_place part at room = drop_more part at 0 room

pub size_one : (part : List ℕ) (at : ℕ) → at < length part → get_or part at 0 ≢ 0 → long_key (drop at part) ≡ with_byte (get_or part at 0) (long_key (drop (at + 1) part))
size_one part at room n = ap long_key (at_place part at room) ∙ byte_alone (get_or part at 0) (drop (at + 1) part) n

pub size_two : (part : List ℕ) (at : ℕ) → at + 1 < length part → get_or part at 0 ≡ 0 → get_or part (at + 1) 0 ≡ 255 → long_key (drop at part) ≡ with_byte (get_or part at 0) (long_key (drop (at + 2) part))
size_two part at room zero_there ff =
    ap long_key (at_place part at (omega arith) ∙ ap (λ (b : ℕ). b ∷ drop (at + 1) part) zero_there ∙ ap (λ (l : List ℕ). 0 ∷ l) (at_place part (at + 1) room))
    ∙ byte_zero (get_or part (at + 1) 0) (drop ((at + 1) + 1) part) ff
    ∙ ap (λ (n : ℕ). with_byte 0 (long_key (drop n part))) (let e : (at + 1) + 1 ≡ at + 2 = omega arith in e)
    ∙ ap (λ (b : ℕ). with_byte b (long_key (drop (at + 2) part))) (sym zero_there)

pub size_end : (part : List ℕ) (at : ℕ) → at < length part → get_or part at 0 ≡ 0 → (at + 1 < length part → get_or part (at + 1) 0 ≢ 255) → long_key (drop at part) ≡ Some ([], drop (at + 1) part)
size_end part at room zero_there other =
    ap long_key (at_place part at room ∙ ap (λ (b : ℕ). b ∷ drop (at + 1) part) zero_there)
    ∙ key_ends (drop (at + 1) part) 0 (λ some e. other (let l = length-drop (at + 1) part in omega arith)
    (sym (ap (λ (n : ℕ). get_or part n 0) (add-zero (at + 1))) ∙ sym (get_or-drop (at + 1) part 0 0) ∙ e))

-- several bytes in front of a key that was read
abbrev pub with_bytes : List ℕ → Option (List ℕ × List ℕ) → Option (List ℕ × List ℕ)
with_bytes bytes None = None
with_bytes bytes (Some x) = Some (bytes ++ x.0, x.1)

pub with_none : (o : Option (List ℕ × List ℕ)) → with_bytes [] o ≡ o
with_none None = refl
with_none (Some x) = refl

with_more : (bytes : List ℕ) (b : ℕ) (o : Option (List ℕ × List ℕ)) → with_bytes bytes (with_byte b o) ≡ with_bytes (bytes ++ (b ∷ [])) o
with_more bytes b None = refl
with_more bytes b (Some x) = ap (λ (l : List ℕ). Some (l, x.1)) (sym (append_assoc bytes (b ∷ []) x.0))

pub key_more : (whole now next : Option (List ℕ × List ℕ)) (to : List ℕ) (len b : ℕ) → len < length to → whole ≡ with_bytes (take len to) now → now ≡ with_byte b next → whole ≡ with_bytes (take (len + 1) (set to len b)) next
key_more whole now next to len b room e f =
    e ∙ ap (with_bytes (take len to)) f ∙ with_more (take len to) b next ∙ ap (λ (l : List ℕ). with_bytes l next) (sym (take_more_set to len b room))

pub key_end : (whole now : Option (List ℕ × List ℕ)) (bytes rest : List ℕ) → whole ≡ with_bytes bytes now → now ≡ Some ([], rest) → whole ≡ Some (bytes, rest)
key_end whole now bytes rest e f = e ∙ ap (with_bytes bytes) f ∙ ap (λ (l : List ℕ). Some (l, rest)) (append-nil bytes)

pub key_none : (whole : Option (List ℕ × List ℕ)) (bytes part : List ℕ) (at : ℕ) → length part ≤ at → whole ≡ with_bytes bytes (long_key (drop at part)) → whole ≡ None
key_none whole bytes part at past e = e ∙ ap (λ (l : List ℕ). with_bytes bytes (long_key l)) (drop_of_length-le part {i = at} past)

pub key_of_none : (part : List ℕ) → length part ≡ 0 → key_of_part part ≡ None
key_of_none [] e = refl
key_of_none (b ∷ part) e = absurd (omega arith)

-- ---- whole keys

-- what may follow the 0 that ends a key
pub record NoFF (rest : List ℕ) : Type 0 where
  pub other : 0 < length rest → get_or rest 0 0 ≢ 255

pub key_again : (key rest : List ℕ) → NoFF rest → long_key (escaped key ++ (0 ∷ rest)) ≡ Some (key, rest)
key_again [] rest n = key_ends rest 0 n.other
key_again (zero ∷ key) rest n = ap (with_byte 0) (key_again key rest n)
key_again (suc b ∷ key) rest n = ap (with_byte (suc b)) (key_again key rest n)

pub front_again : (name key rest : List ℕ) → NoFF rest → key_of_part (front_of name key ++ rest) ≡ Some (key, rest)
front_again name key rest n =
    ap long_key (ap (λ (m : ℕ). drop m (front_of name key ++ rest)) (let e : length name + 1 ≡ suc (length name) = omega arith in e)
    ∙ ap (drop (length name)) (append_assoc name (escaped key ++ (0 ∷ [])) rest) ∙ drop_at name ((escaped key ++ (0 ∷ [])) ++ rest) (length name) refl
    ∙ append_assoc (escaped key) (0 ∷ []) rest)
    ∙ key_again key rest n
