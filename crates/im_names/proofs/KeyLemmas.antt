-- What is read of a key that was written, and which keys ranges hold.
use Rattle.std.proofs.Common.{◌≡◌, ℕ, suc, zero, ◌+◌, ◌-◌, ◌*◌, ◌/◌, ◌%◌, ◌<◌, ◌≤◌, List, [], ◌∷◌, ◌++◌, length, take, drop, get_or, replicate, refl, sym, ap, subst, ◌∙◌, arith, length-append, append_assoc, Some, None}
use Rattle.std.specs.Prelude.{◌≢◌}
use Rattle.std.specs.declared.cmp.Ordering.{Ordering}
use Rattle.std.specs.declared.cmp.Ordering.TheVariants.{Less, Greater}
use Rattle.std.proofs.lemmas.Bool.Decides.{nat_tests}
use Rattle.std.proofs.lemmas.List.{append-nil, drop_at, get_or_at, get_or-append-add, append_cancel_left, length-replicate}
use Rattle.im_base_types.specs.Keys.{key_order}
use Rattle.im_names.specs.declared.key_kind.KeyKind.{KeyKind}
use Rattle.im_names.specs.declared.key_kind.KeyKind.TheVariants.{Row, Guard, Named}
use Rattle.im_names.specs.Kinds.{kind_by, kind_by_bytes, key_of_part}
use Rattle.im_names.specs.Layout.{prefix_of, catalogue_key, entry_of, guard_of, front_of, part_of, number_of, filled, escaped, IsName, IsEntryKey, IsLongKey}
use Rattle.im_names.specs.Parts.{room_of}
use Rattle.im_names.specs.Readings.{part_number, bytes_in}
use Rattle.im_names.specs.Ranges.{LiesIn, HasPrefix, AreBytes}
use Rattle.im_names.proofs.Buffers.{length_filled}
use Rattle.im_names.proofs.KindLemmas.{NoFF, front_again, kind_of_some}
use Rattle.im_names.proofs.Orders.{by_numbers, same_first, same_front, escaped_rise, under_ff, not_below, between, less_first, greater_first}

-- ---- kinds

by_row : (size : ℕ) → 2 ≤ size → size ≤ 32 → kind_by 0 size ≡ Row
by_row size low high = grind (arith, nat_tests)

by_guard : (first : ℕ) → first ≤ 31 → kind_by first 255 ≡ Guard
by_guard first low = grind (arith, nat_tests)

by_named : (first size : ℕ) → 1 ≤ first → first ≤ 31 → first + 1 < size → size < 255 → kind_by first size ≡ Named
by_named first size some few more short = grind (arith, nat_tests)

pub row_kind : (name : List ℕ) → IsName name → kind_by_bytes (catalogue_key name) ≡ Row
row_kind name is = by_row (length name + 1) (let a = is.0 in omega arith) (let a = is.1 in omega arith)

pub guard_kind : (name : List ℕ) → length name ≤ 31 → kind_by_bytes (guard_of name) ≡ Guard
unfolding filled
guard_kind name short =
    let l : suc (length (name ++ replicate (255 - suc (length name)) 255)) ≡ 255 = length_filled 255 (prefix_of name) (let s : suc (length name) ≤ 255 = omega arith in s) in
    let size : length (name ++ replicate (255 - suc (length name)) 255) + 1 ≡ 255 = omega arith in
    ap (kind_by (length name)) size ∙ by_guard (length name) short

pub entry_kind : (name key : List ℕ) → IsName name → IsEntryKey name key → kind_by_bytes (entry_of name key) ≡ Named
entry_kind name key is also =
    let l = length-append name key in let a = is.0 in let b = is.1 in let c = also.0 in let d = also.1 in
    by_named (length name) (length (name ++ key) + 1) (omega arith) (omega arith) (omega arith) (omega arith)

pub length_front : (name key : List ℕ) → length (front_of name key) ≡ 2 + length name + length (escaped key)
length_front name key = let l = length-append name (escaped key ++ (0 ∷ [])) in let m = length-append (escaped key) (0 ∷ []) in omega arith

pub length_part : (front bytes : List ℕ) (number : ℕ) → length (part_of front number bytes) ≡ length front + 3 + length bytes
unfolding number_of
length_part front bytes number = let l = length-append front (number_of number ++ bytes) in omega arith

pub part_kind : (name key bytes : List ℕ) (number : ℕ) → IsName name → IsLongKey name key → length bytes ≤ room_of (length (front_of name key)) → kind_by_bytes (part_of (front_of name key) number bytes) ≡ Named
unfolding room_of
part_kind name key bytes number is also room =
    let l = length_part (front_of name key) bytes number in let f = length_front name key in let a = is.0 in let b = is.1 in let d = also.1 in
    kind_of_some (part_of (front_of name key) number bytes) 0 (omega arith)
    ∙ by_named (length name) (length (part_of (front_of name key) number bytes)) (omega arith) (omega arith) (omega arith) (omega arith)

-- ---- what is read again

pub names_again : (one other more rest : List ℕ) → prefix_of one ++ more ≡ prefix_of other ++ rest → (one ≡ other) × (more ≡ rest)
names_again one other more rest e = by one other (let h : length one ≡ length other = cc in h) (let t : one ++ more ≡ other ++ rest = cc in t)
  where
    by : (a b : List ℕ) → length a ≡ length b → a ++ more ≡ b ++ rest → (a ≡ b) × (more ≡ rest)
    by [] [] l t = (refl, t)
    by [] (y ∷ b) l t = absurd (omega arith)
    by (x ∷ a) [] l t = absurd (omega arith)
    by (x ∷ a) (y ∷ b) l t =
        let r = by a b (omega arith) (let u : a ++ more ≡ b ++ rest = cc in u) in let h : x ≡ y = cc in
        (ap (λ (z : ℕ). z ∷ a) h ∙ ap (λ (z : List ℕ). y ∷ z) r.0, r.1)

digits : (n : ℕ) → n / 65536 * 65536 + n / 256 % 256 * 256 + n % 256 ≡ n
digits n = omega arith

pub number_again : (front bytes : List ℕ) (number : ℕ) → part_number (length front) (part_of front number bytes) ≡ number
unfolding number_of part_number
number_again front bytes number =
    let all = number_of number ++ bytes in
    let a : get_or (front ++ all) (length front) 0 ≡ number / 65536 = get_or_at front (number / 65536) (number / 256 % 256 ∷ (number % 256 ∷ bytes)) 0 (length front) refl in
    let b : get_or (front ++ all) (length front + 1) 0 ≡ number / 256 % 256 = get_or-append-add front all 1 0 in
    let c : get_or (front ++ all) (length front + 2) 0 ≡ number % 256 = get_or-append-add front all 2 0 in
    ap (λ (x : ℕ). x * 65536 + get_or (front ++ all) (length front + 1) 0 * 256 + get_or (front ++ all) (length front + 2) 0) a
    ∙ ap (λ (x : ℕ). number / 65536 * 65536 + x * 256 + get_or (front ++ all) (length front + 2) 0) b
    ∙ ap (λ (x : ℕ). number / 65536 * 65536 + number / 256 % 256 * 256 + x) c ∙ digits number

pub bytes_again : (front bytes : List ℕ) (number : ℕ) → bytes_in (length front) (part_of front number bytes) ≡ bytes
unfolding number_of
bytes_again front bytes number =
    ap (drop (length front + 3)) (sym (append_assoc front (number_of number) bytes))
    ∙ drop_at (front ++ number_of number) bytes (length front + 3) (length-append front (number_of number))

-- ---- ranges

pub begins_in : (n : ℕ) (front key : List ℕ) → length front ≤ n → length key ≤ n → AreBytes key → HasPrefix front key → LiesIn front (filled n front) key
unfolding filled
begins_in n front key room short all is =
    let rest = is.0 in
    let low = λ (e : key_order key front ≡ Less). not_below front rest (ap (λ (k : List ℕ). key_order k front) (sym is.1) ∙ e) in
    let long : length rest ≤ n - length front = (let l = length-append front rest in let k = ap length is.1 in omega arith) in (
      low,
      λ e. under_ff (n - length front) rest long (tail_bytes front rest (subst AreBytes is.1 all))
          (sym (ap (λ (k : List ℕ). key_order k (front ++ replicate (n - length front) 255)) is.1 ∙ same_front front rest (replicate (n - length front) 255)) ∙ e),
    )
  where
    tail_bytes : (xs ys : List ℕ) → AreBytes (xs ++ ys) → AreBytes ys
    tail_bytes [] ys h = h
    tail_bytes (x ∷ xs) ys h = tail_bytes xs ys h.1

pub in_begins : (n : ℕ) (front key : List ℕ) → LiesIn front (filled n front) key → HasPrefix front key
unfolding filled
in_begins n front key is = let b = between front (replicate (n - length front) 255) key is.0 is.1 in (b.0, b.1.0)

longer_above : (m n : ℕ) → n < m → key_order (replicate m 255) (replicate n 255) ≡ Greater
longer_above zero n l = absurd (omega arith)
longer_above (suc m) zero l = refl
longer_above (suc m) (suc n) l = longer_above m n (omega arith)

-- a guard is above all
pub guard_above : (front : List ℕ) → length front ≤ 254 → key_order (filled 255 front) (filled 254 front) ≡ Greater
unfolding filled
guard_above front short = same_front front (replicate (255 - length front) 255) (replicate (254 - length front) 255) ∙ longer_above (255 - length front) (254 - length front) (omega arith)

-- the range of the parts of a value
pub of_one_value : (name key found : List ℕ) → LiesIn (front_of name key) (filled 255 (front_of name key ++ (254 ∷ []))) found
    → key_of_part found ≡ Some (key, drop (length (front_of name key)) found)
unfolding filled
of_one_value name key found is =
    let tail = replicate (255 - length (front_of name key ++ (254 ∷ []))) 255 in
    let high = λ (e : key_order found (front_of name key ++ (254 ∷ tail)) ≡ Greater). is.1 (ap (key_order found) (append_assoc (front_of name key) (254 ∷ []) tail) ∙ e) in
    let b = between (front_of name key) (254 ∷ tail) found is.0 high in
    let rest : List ℕ = b.0 in
    let e : found ≡ front_of name key ++ rest = b.1.0 in
    let other : NoFF rest = no_ff rest tail b.1.1 in
    ap key_of_part e ∙ front_again name key rest other
    ∙ ap (λ (r : List ℕ). Some (key, r)) (sym (ap (drop (length (front_of name key))) e ∙ drop_at (front_of name key) rest (length (front_of name key)) refl))
  where
    no_ff : (rest tail : List ℕ) → key_order rest (254 ∷ tail) ≢ Greater → NoFF rest
    no_ff [] tail h = record { other = λ l _. (let z : 0 < 0 = l in omega arith) }
    no_ff (c ∷ rest) tail h = record { other = λ _ e. h (greater_first c 254 rest tail (let s : c ≡ 255 = e in omega arith)) }

-- a part's number begins with a byte below FF
pub top_small : (number : ℕ) → number < 16711680 → number / 65536 < 255
top_small number l = omega arith

pub values_rise : (name one other : List ℕ) (m n : ℕ) (xs ys : List ℕ) → m < 16711680 → key_order one other ≡ Less
    → key_order (part_of (front_of name one) m xs) (part_of (front_of name other) n ys) ≡ Less
unfolding number_of
values_rise name one other m n xs ys few l =
    let apart = λ (key tail : List ℕ).
    (let e : front_of name key ++ tail ≡ prefix_of name ++ (escaped key ++ (0 ∷ tail)) =
    append_assoc (prefix_of name) (escaped key ++ (0 ∷ [])) tail ∙ ap (λ (k : List ℕ). prefix_of name ++ k) (append_assoc (escaped key) (0 ∷ []) tail) in e) in
    ap (λ (k : List ℕ). key_order k (front_of name other ++ (number_of n ++ ys))) (apart one (number_of m ++ xs))
    ∙ ap (key_order (prefix_of name ++ (escaped one ++ (0 ∷ (number_of m ++ xs))))) (apart other (number_of n ++ ys))
    ∙ same_front (prefix_of name) (escaped one ++ (0 ∷ (number_of m ++ xs))) (escaped other ++ (0 ∷ (number_of n ++ ys)))
    ∙ escaped_rise one other (m / 65536) (m / 256 % 256 ∷ (m % 256 ∷ xs)) (number_of n ++ ys) (top_small m few) l

-- below FE and as many FF
under_end : (b : ℕ) (xs tail : List ℕ) → b < 254 → key_order (b ∷ xs) (254 ∷ tail) ≢ Greater
under_end b xs tail small e = absurd (cc (sym (less_first b 254 xs tail small) ∙ e))

pub part_in : (front bytes : List ℕ) (number : ℕ) → number < 16711680 → length front + 3 + length bytes ≤ 255 → AreBytes bytes
    → LiesIn front (filled 255 (front ++ (254 ∷ []))) (part_of front number bytes)
unfolding filled number_of
part_in front bytes number few room all =
    let tail = replicate (255 - length (front ++ (254 ∷ []))) 255 in
    let rest = number / 256 % 256 ∷ (number % 256 ∷ bytes) in
    let l : length (front ++ (254 ∷ [])) ≡ length front + 1 = length-append front (254 ∷ []) in
    let same : key_order (part_of front number bytes) ((front ++ (254 ∷ [])) ++ tail) ≡ key_order (number / 65536 ∷ rest) (254 ∷ tail) =
    ap (key_order (part_of front number bytes)) (append_assoc front (254 ∷ []) tail) ∙ same_front front (number / 65536 ∷ rest) (254 ∷ tail) in
    let top = top_small number few in
    let digits_small : AreBytes rest = ((let a : number / 256 % 256 < 256 = omega arith in a), ((let b : number % 256 < 256 = omega arith in b), all)) in (
      λ e. not_below front (number / 65536 ∷ rest) e,
      λ e. by_numbers (number / 65536) 254 (λ less. under_end (number / 65536) rest tail less (sym same ∙ e))
          (λ level. under_ff (255 - length (front ++ (254 ∷ []))) rest (omega arith) digits_small
          (sym (same_first 254 rest tail) ∙ ap (λ (b : ℕ). key_order (b ∷ rest) (254 ∷ tail)) (sym level) ∙ sym same ∙ e))
          (λ more. absurd (omega arith)),
    )
