-- What a reading of a value's parts finds, and of some of them.
use Rattle.std.proofs.Common.{◌≡◌, ℕ, suc, zero, ◌+◌, ◌-◌, ◌*◌, ◌/◌, ◌%◌, ◌<◌, ◌≤◌, min, Bool, true, false, cond, List, [], ◌∷◌, ◌++◌, length, take, drop, refl, sym, ap, subst, ◌∙◌, arith, inl, inr, ◌⊎◌, Option, Some, None, length-append, length-drop, length-take}
use Rattle.std.specs.Prelude.{◌≢◌, ◌==◌, ◌&&◌, ◌||◌, not, nat_le}
use Rattle.std.specs.List.{AllByRecursion}
use Rattle.std.specs.declared.cmp.Ordering.TheVariants.{Less}
use Rattle.std.proofs.lemmas.Bool.{and_from, and_left, and_right, or_left, or_right, le-leb, eq-eqb, ne_eqb, not_from_true, not_from_false, cond-true, cond-false, cases_Bool}
use Rattle.std.proofs.lemmas.List.{take-append-drop, drop-drop}
use Rattle.std.proofs.lemmas.Nat.{div-add-mod'}
use Rattle.std.proofs.Math.Nat.{mod-lt, add-mul, one-mul}
use Rattle.std.proofs.Math.ListN.{drop_of_length-le}
use Rattle.im_base_types.specs.Keys.{key_order}
use Rattle.im_names.specs.declared.reading.Found.{Found}
use Rattle.im_names.specs.declared.reading.Found.TheVariants.{Nothing, Whole, Half}
use Rattle.im_names.specs.declared.reading.Reading.{Reading}
use Rattle.im_names.specs.Layout.{part_of, number_of}
use Rattle.im_names.specs.Parts.{Entry, room_of, count_of, long_part, parts_from, parts_of}
use Rattle.im_names.specs.Readings.{part_number, bytes_in, no_part, is_next, read_on, read_all, found_by, found_among, value_in}
use Rattle.im_names.specs.LongValues.{IsSomeOf, RisesByKey, Write, with_writes, Replaces, parts_or_none, FindsOneOf}
use Rattle.im_names.proofs.KeyLemmas.{number_again, bytes_again, length_part}
use Rattle.im_names.proofs.Orders.{parts_rise}
use Rattle.im_names.proofs.PartLemmas.{begins_within}
use Rattle.im_names.proofs.SomeOf.{moment}

-- ---- where the parts lie

-- what a part carries
abbrev carried : (front value : List ℕ) (number : ℕ) → List ℕ
carried front value number = take (room_of (length front)) (drop (number * room_of (length front)) value)

length_carried : (front value : List ℕ) (number : ℕ) → length (carried front value number) ≡ min (room_of (length front)) (length value - number * room_of (length front))
length_carried front value number =
    length-take (room_of (length front)) (drop (number * room_of (length front)) value) ∙ ap (min (room_of (length front))) (length-drop (number * room_of (length front)) value)

next_place : (number room : ℕ) → (number + 1) * room ≡ number * room + room
next_place number room = add-mul number 1 room ∙ ap (λ (n : ℕ). number * room + n) (one-mul room)

all_covered : (front size : ℕ) → 0 < room_of front → size ≤ count_of front size * room_of front
unfolding count_of
all_covered front size some =
    let q = div-add-mod' (size - 1) (room_of front) in let m = mod-lt (size - 1) {m = room_of front} some in
    let p = next_place ((size - 1) / room_of front) (room_of front) in omega arith

more_left : (front size number : ℕ) → 0 < room_of front → 0 < number → number < count_of front size → 0 < size - number * room_of front
unfolding count_of
more_left front size number some begun there = by number begun there
  where
    by : (n : ℕ) → 0 < n → n < (size - 1) / room_of front + 1 → 0 < size - n * room_of front
    by zero b t = absurd (omega arith)
    by (suc n) b t = let w = begins_within size (room_of front) (suc n) t in let p = next_place n (room_of front) in
        let e : suc n * room_of front ≡ n * room_of front + room_of front = (let s : suc n ≡ n + 1 = omega arith in ap (λ (m : ℕ). m * room_of front) s ∙ p) in omega arith

-- ---- a reading before the part of a number

pub record At (front value : List ℕ) (number : ℕ) (r : Reading) : Type 0 where
  pub next : r.number ≡ number
  pub good : r.is_half ≡ false
  pub rest : (number ≡ 0) ⊎ (r.left ≡ length value - number * room_of (length front))

at_start : (front value : List ℕ) → At front value 0 no_part
at_start front value = record { next = refl; good = refl; rest = inl refl }

next_at : (front value : List ℕ) (number : ℕ) (r : Reading) → At front value number r → is_next (length front) r (long_part front value number) ≡ true
unfolding long_part
next_at front value number r at =
    let k = number * room_of (length front) in
    let key = part_of front number (carried front value number) in
    let long : length key ≡ length front + 3 + length (carried front value number) = length_part front (carried front value number) number in
    let c = length_carried front value number in
    let left = length value - k in
    let a : not r.is_half ≡ true = not_from_false r.is_half at.good in
    let b : nat_le (length front + 3) (length key) ≡ true = le-leb (length front + 3) (length key) (omega arith) in
    let d : (part_number (length front) key == r.number) ≡ true = eq-eqb (part_number (length front) key) r.number (number_again front (carried front value number) number ∙ sym at.next) in
    let e : ((r.number == 0) || (left == r.left)) ≡ true =
    elim at.rest [ inl z ↦ or_left (r.number == 0) (left == r.left) (eq-eqb r.number 0 (at.next ∙ z)) | inr l ↦ or_right (r.number == 0) (left == r.left) (eq-eqb left r.left (sym l)) ] in
    let f : nat_le (length key - (length front + 3)) left ≡ true = le-leb (length key - (length front + 3)) left (omega arith) in
    let de = and_from ((r.number == 0) || (left == r.left)) (nat_le (length key - (length front + 3)) left) e f in
    and_from (not r.is_half) (nat_le (length front + 3) (length key) && ((part_number (length front) key == r.number) && (((r.number == 0) || (left == r.left)) && nat_le (length key - (length front + 3)) left))) a
    (and_from (nat_le (length front + 3) (length key)) ((part_number (length front) key == r.number) && (((r.number == 0) || (left == r.left)) && nat_le (length key - (length front + 3)) left)) b
    (and_from (part_number (length front) key == r.number) (((r.number == 0) || (left == r.left)) && nat_le (length key - (length front + 3)) left) d de))

abbrev gone_on : (front : ℕ) → Reading → Entry → Reading
gone_on front r e = record { left = e.1 - (length e.0 - (front + 3)); number = r.number + 1; is_half = false }

abbrev refused : Reading → Reading
refused r = record { left = r.left; number = r.number; is_half = true }

step_at : (front value : List ℕ) (number : ℕ) (r : Reading) → At front value number r → At front value (number + 1) (read_on (length front) r (long_part front value number))
unfolding long_part
step_at front value number r at =
    let e = long_part front value number in
    let key = part_of front number (carried front value number) in
    let long : length key ≡ length front + 3 + length (carried front value number) = length_part front (carried front value number) number in
    let c = length_carried front value number in
    let p = next_place number (room_of (length front)) in
    let left : (length value - number * room_of (length front)) - (length key - (length front + 3)) ≡ length value - (number + 1) * room_of (length front) = omega arith in
    subst (At front value (number + 1)) (sym (cond-true (is_next (length front) r e) (gone_on (length front) r e) (refused r) (next_at front value number r at)))
    (record { next = ap (λ (n : ℕ). n + 1) at.next; good = refl; rest = inr left })

-- what is found where no more follows
found_good : (r : Reading) → r.is_half ≡ false → found_by r ≡ cond (r.number == 0) Nothing (cond (r.left == 0) Whole Half)
found_good r good = cond-false r.is_half Half (cond (r.number == 0) Nothing (cond (r.left == 0) Whole Half)) good

found_later : (r : Reading) → r.is_half ≡ false → 0 < r.number → found_by r ≡ cond (r.left == 0) Whole Half
found_later r good begun = found_good r good ∙ cond-false (r.number == 0) Nothing (cond (r.left == 0) Whole Half) (ne_eqb r.number 0 (λ e. (let z : r.number ≡ 0 = e in omega arith)))

-- ---- all parts

count_some : (front size : ℕ) → 0 < count_of front size
unfolding count_of
count_some front size = omega arith

whole_from : (front value : List ℕ) (count number : ℕ) (r : Reading) → 0 < room_of (length front) → At front value number r → number + count ≡ count_of (length front) (length value)
    → found_by (read_all (length front) r (parts_from front value count number)) ≡ Whole
whole_from front value zero number r some at e =
    let c = all_covered (length front) (length value) some in
    let n : number ≡ count_of (length front) (length value) = omega arith in
    let begun : 0 < number = subst (λ (m : ℕ). 0 < m) (sym n) (count_some (length front) (length value)) in
    let left : r.left ≡ 0 = elim at.rest [
      | inl z ↦ absurd (let y : number ≡ 0 = z in omega arith)
      | inr l ↦ l ∙ (let d : length value ≤ number * room_of (length front) = subst (λ (m : ℕ). length value ≤ m * room_of (length front)) (sym n) c in omega arith)
    ] in
    found_later r at.good (subst (λ (m : ℕ). 0 < m) (sym at.next) begun) ∙ cond-true (r.left == 0) Whole Half (eq-eqb r.left 0 left)
whole_from front value (suc count) number r some at e =
    whole_from front value count (number + 1) (read_on (length front) r (long_part front value number)) some (step_at front value number r at) (omega arith)

pub whole : (front value : List ℕ) → 0 < room_of (length front) → found_among (length front) (parts_of front value) ≡ Whole
unfolding parts_of
whole front value some = whole_from front value (count_of (length front) (length value)) 0 no_part some (at_start front value) (omega arith)

value_from : (front value : List ℕ) (count number : ℕ) → 0 < room_of (length front) → number + count ≡ count_of (length front) (length value)
    → value_in (length front) (parts_from front value count number) ≡ drop (number * room_of (length front)) value
unfolding long_part
value_from front value zero number some e =
    let n : number ≡ count_of (length front) (length value) = omega arith in
    sym (drop_of_length-le value {i = number * room_of (length front)} (subst (λ (m : ℕ). length value ≤ m * room_of (length front)) (sym n) (all_covered (length front) (length value) some)))
value_from front value (suc count) number some e =
    let room = room_of (length front) in
    let rest = value_from front value count (number + 1) some (omega arith) in
    let place : drop ((number + 1) * room) value ≡ drop room (drop (number * room) value) =
    ap (λ (k : ℕ). drop k value) (next_place number room) ∙ sym (drop-drop room (number * room) value) in
    ap (λ (l : List ℕ). l ++ value_in (length front) (parts_from front value count (number + 1))) (bytes_again front (carried front value number) number)
    ∙ ap (λ (l : List ℕ). carried front value number ++ l) (rest ∙ place) ∙ take-append-drop room (drop (number * room) value)

pub value_again : (front value : List ℕ) → 0 < room_of (length front) → value_in (length front) (parts_of front value) ≡ value
unfolding parts_of
value_again front value some =
    value_from front value (count_of (length front) (length value)) 0 some (omega arith)
    ∙ ap (λ (n : ℕ). drop n value) (let z : 0 * room_of (length front) ≡ 0 = omega arith in z)

-- ---- some of them

half_read : (front : ℕ) (r : Reading) (e : Entry) → is_next front r e ≡ false → (read_on front r e).is_half ≡ true
half_read front r e h = ap (λ (x : Reading). x.is_half) (cond-false (is_next front r e) (gone_on front r e) (refused r) h)

half_stays : (front : ℕ) (r : Reading) (es : List Entry) → r.is_half ≡ true → found_by (read_all front r es) ≡ Half
half_stays front r [] h = cond-true r.is_half Half (cond (r.number == 0) Nothing (cond (r.left == 0) Whole Half)) h
half_stays front r (e ∷ es) h =
    half_stays front (read_on front r e) es (half_read front r e (and_left (not r.is_half) (nat_le (front + 3) (length e.0) && ((part_number front e.0 == r.number) && (((r.number == 0) || (e.1 == r.left)) && nat_le (length e.0 - (front + 3)) e.1))) (not_from_true r.is_half h)))

-- an entry of a later number is not the next part
not_next : (front : ℕ) (r : Reading) (e : Entry) → part_number front e.0 ≢ r.number → is_next front r e ≡ false
not_next front r e apart =
    let c = ((r.number == 0) || (e.1 == r.left)) && nat_le (length e.0 - (front + 3)) e.1 in
    and_right (not r.is_half) (nat_le (front + 3) (length e.0) && ((part_number front e.0 == r.number) && c))
    (and_right (nat_le (front + 3) (length e.0)) ((part_number front e.0 == r.number) && c) (and_left (part_number front e.0 == r.number) c (ne_eqb (part_number front e.0) r.number apart)))

later : (front value : List ℕ) (count number : ℕ) (e : Entry) (es : List Entry) → IsSomeOf (e ∷ es) (parts_from front value count number) → number ≤ part_number (length front) e.0
unfolding long_part
later front value zero number e es is = absurd (cc is)
later front value (suc count) number e es is =
    elim is [
      | inl s ↦ (let l = later front value count (number + 1) e es s in omega arith)
      | inr r ↦ (let same : e ≡ long_part front value number = (let q : e ∷ es ≡ long_part front value number ∷ r.0 = r.1.0 in cc) in
          let n : part_number (length front) e.0 ≡ number = ap (λ (x : Entry). part_number (length front) x.0) same ∙ number_again front (carried front value number) number in omega arith)
    ]

-- before all parts are read, no whole value is found
not_yet : (front value : List ℕ) (number : ℕ) (r : Reading) → 0 < room_of (length front) → At front value number r → number < count_of (length front) (length value) → found_by r ≢ Whole
not_yet front value zero r some at there e =
    let f = found_good r at.good ∙ cond-true (r.number == 0) Nothing (cond (r.left == 0) Whole Half) (eq-eqb r.number 0 at.next) in
    absurd (cc (sym f ∙ e))
not_yet front value (suc number) r some at there e =
    let m = more_left (length front) (length value) (suc number) some (omega arith) there in
    let left : r.left ≢ 0 = λ z. (let y : r.left ≡ 0 = z in elim at.rest [ inl s ↦ absurd (let t : suc number ≡ 0 = s in omega arith) | inr l ↦ absurd (let u : r.left ≡ length value - suc number * room_of (length front) = l in omega arith) ]) in
    let f = found_later r at.good (subst (λ (n : ℕ). 0 < n) (sym at.next) (let p : 0 < suc number = omega arith in p)) ∙ cond-false (r.left == 0) Whole Half (ne_eqb r.left 0 left) in
    absurd (cc (sym f ∙ e))

only_all_from : (front value : List ℕ) (count number : ℕ) (es : List Entry) (r : Reading) → 0 < room_of (length front) → At front value number r → number + count ≡ count_of (length front) (length value)
    → IsSomeOf es (parts_from front value count number) → found_by (read_all (length front) r es) ≡ Whole → es ≡ parts_from front value count number
only_all_from front value zero number es r some at e is found = is
only_all_from front value (suc count) number es r some at e is found =
    elim is [
      | inl s ↦ absurd (by es s found)
      | inr x ↦ (let rest = only_all_from front value count (number + 1) x.0 (read_on (length front) r (long_part front value number)) some (step_at front value number r at) (omega arith) x.1.1
          (subst (λ (l : List Entry). found_by (read_all (length front) r l) ≡ Whole) x.1.0 found) in
          x.1.0 ∙ ap (λ (l : List Entry). long_part front value number ∷ l) rest)
    ]
  where
    by : (l : List Entry) → IsSomeOf l (parts_from front value count (number + 1)) → found_by (read_all (length front) r l) ≡ Whole → ⊥
    by [] s f = not_yet front value number r some at (omega arith) f
    by (x ∷ l) s f =
        let n = later front value count (number + 1) x l s in
        let bad = half_read (length front) r x (not_next (length front) r x (λ q. (let same : part_number (length front) x.0 ≡ r.number = q in let at_number = at.next in omega arith))) in
        absurd (cc (sym (half_stays (length front) (read_on (length front) r x) l bad) ∙ f))

pub only_all : (front value : List ℕ) (es : List Entry) → 0 < room_of (length front) → IsSomeOf es (parts_of front value) → found_among (length front) es ≡ Whole → es ≡ parts_of front value
unfolding parts_of
only_all front value es some is found =
    only_all_from front value (count_of (length front) (length value)) 0 es no_part some (at_start front value) (omega arith) is found

-- ---- none of them

begun_stays : (front : ℕ) (es : List Entry) (r : Reading) → 0 < r.number → found_by (read_all front r es) ≢ Nothing
begun_stays front [] r begun e =
    elim (cases_Bool r.is_half) [
      | inl h ↦ absurd (cc (sym (half_stays front r [] h) ∙ e))
      | inr h ↦ by (r.left == 0) (sym (found_later r h begun) ∙ e)
    ]
  where
    by : (b : Bool) → cond b Whole Half ≢ Nothing
    by true x = absurd cc
    by false x = absurd cc
begun_stays front (x ∷ es) r begun e =
    begun_stays front es (read_on front r x) (by (is_next front r x)) e
  where
    by : (b : Bool) → 0 < (cond b (gone_on front r x) (refused r)).number
    by true = omega arith
    by false = begun

pub only_none : (front : ℕ) (es : List Entry) → found_among front es ≡ Nothing → es ≡ []
only_none front [] found = refl
only_none front (x ∷ es) found =
    elim (cases_Bool (is_next front no_part x)) [
      | inl t ↦ absurd (begun_stays front es (read_on front no_part x)
          (subst (λ (r : Reading). 0 < r.number) (sym (cond-true (is_next front no_part x) (gone_on front no_part x) (refused no_part) t)) (let one : 0 < 0 + 1 = omega arith in one)) found)
      | inr f ↦ absurd (cc (sym (half_stays front (read_on front no_part x) es (half_read front no_part x f)) ∙ found))
    ]

pub nothing_of_none : (front : ℕ) → found_among front [] ≡ Nothing
nothing_of_none front = refl

-- ---- parts rise, and a writer's changes

above : (front value : List ℕ) (count number m : ℕ) → m < number → AllByRecursion (λ (x : Entry). key_order (long_part front value m).0 x.0 ≡ Less) (parts_from front value count number)
unfolding long_part
above front value zero number m l = tt
above front value (suc count) number m l = (parts_rise front m number (carried front value m) (carried front value number) l, above front value count (number + 1) m (omega arith))

rising_from : (front value : List ℕ) (count number : ℕ) → RisesByKey (parts_from front value count number)
rising_from front value zero number = tt
rising_from front value (suc count) number = (above front value count (number + 1) number (omega arith), rising_from front value count (number + 1))

pub rising : (front value : List ℕ) → RisesByKey (parts_of front value)
unfolding parts_of
rising front value = rising_from front value (count_of (length front) (length value)) 0

pub rising_or_none : (front : List ℕ) (value : Option (List ℕ)) → RisesByKey (parts_or_none front value)
rising_or_none front None = tt
rising_or_none front (Some value) = rising front value

-- some parts of a value are it, none, or half
some_found : (front : List ℕ) (value : Option (List ℕ)) (es : List Entry) → 0 < room_of (length front) → IsSomeOf es (parts_or_none front value) → found_among (length front) es ≡ Whole → value ≡ Some (value_in (length front) es)
some_found front None es some is found = absurd (cc (sym (nothing_of_none (length front)) ∙ ap (found_among (length front)) (sym is) ∙ found))
some_found front (Some value) es some is found = ap Some (sym (ap (value_in (length front)) (only_all front value es some is found) ∙ value_again front value some))

one_found : (front : List ℕ) (old new : Option (List ℕ)) (es : List Entry) → (found_among (length front) es ≡ Whole → (old ≡ Some (value_in (length front) es)) ⊎ (new ≡ Some (value_in (length front) es))) → FindsOneOf front old new es
one_found front old new es whose = by (found_among (length front) es) refl
  where
    by : (f : Found) → found_among (length front) es ≡ f → FindsOneOf front old new es
    by Half e = inl e
    by Nothing e = inr (inl e)
    by Whole e = inr (inr (e, whose e))

pub one_of_both : (front : List ℕ) (old new : Option (List ℕ)) (outs ins : List Write) (n : ℕ) → 0 < room_of (length front) → Replaces (parts_or_none front old) (parts_or_none front new) outs ins
    → FindsOneOf front old new (with_writes (take n (outs ++ ins)) (parts_or_none front old))
one_of_both front old new outs ins n some r =
    let there = with_writes (take n (outs ++ ins)) (parts_or_none front old) in
    let m = moment outs ins (parts_or_none front old) (parts_or_none front new) (rising_or_none front old) (rising_or_none front new) r n in
    one_found front old new there (λ f. elim m [ inl a ↦ inl (some_found front old there some a f) | inr b ↦ inr (some_found front new there some b f) ])
