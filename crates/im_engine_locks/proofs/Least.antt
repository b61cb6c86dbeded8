-- The least number that passes one of two tests.
use Rattle.std.proofs.Common.{◌≡◌, ℕ, ◌≤◌, Bool, true, false, ◌&&◌, ◌||◌, cond, nat_lt, nat_eq, List, [], ◌∷◌, ◌++◌, Option, None, Some, length, take, get_or, ◌<◌, ◌+◌, refl, ap, sym, subst, ◌∙◌, inl, inr, arith, eq-eqb}
use Rattle.std.proofs.lemmas.List.{take_more, map-append, take_all}
use Rattle.std.proofs.lemmas.Bool.Decides.{nat_tests}
use Rattle.im_theory_machine.specs.Locks.{Name, Request}
use Rattle.im_theory_machine.specs.Table.{Table}
use Rattle.im_engine_locks.specs.Index.{IsLeast, smaller_of}
use Rattle.im_engine_locks.specs.Places.{is_rival, is_rival_of, is_against, rival_in, places_at}
use Rattle.im_engine_locks.specs.Requests.{row, requested, named}
use Rattle.im_engine_locks.specs.declared.request.Request.{Request as RequestInCode}
use Rattle.im_engine_locks.specs.declared.place.Place.{Place}
use Rattle.im_engine_locks.specs.declared.name_index.NameIndex.{NameIndex}
use Rattle.im_theory_machine.specs.declared.lock_kind.Mode.{Mode}
use Rattle.im_theory_machine.proofs.Bools.{or_assoc, or_false, or_true, either, neither, first_of_and, second_of_and, and_true, false_unless}

least_of_two : (f g h : ℕ → Bool) (x y : ℕ) → ((s : ℕ) → h s ≡ (f s || g s)) → IsLeast f (Some x) → IsLeast g (Some y) → (b : Bool) → nat_lt y x ≡ b → IsLeast h (Some (cond b y x))
least_of_two f g h x y both p q true e = (
  both y ∙ or_true (f y) (g y) q.0,
  λ s hs. elim (either (f s) (g s) (sym (both s) ∙ hs)) [
    | inl fs ↦ (let a : x ≤ s = p.1 s fs in grind (arith, nat_tests))
    | inr gs ↦ q.1 s gs
  ],
)
least_of_two f g h x y both p q false e = (
  both x ∙ ap (λ b. b || g x) p.0,
  λ s hs. elim (either (f s) (g s) (sym (both s) ∙ hs)) [
    | inl fs ↦ p.1 s fs
    | inr gs ↦ (let a : y ≤ s = q.1 s gs in grind (arith, nat_tests))
  ],
)

-- the least of both is the smaller of the two least
pub least-smaller : (f g h : ℕ → Bool) (a b : Option ℕ) → ((s : ℕ) → h s ≡ (f s || g s)) → IsLeast f a → IsLeast g b → IsLeast h (smaller_of a b)
least-smaller f g h None None both p q = λ s. both s ∙ neither (f s) (g s) (p s) (q s)
least-smaller f g h None (Some y) both p q =
    (both y ∙ or_true (f y) (g y) q.0, λ s hs. q.1 s (sym (ap (λ b. b || g s) (p s)) ∙ (sym (both s) ∙ hs)))
least-smaller f g h (Some x) None both p q =
    (both x ∙ ap (λ b. b || g x) p.0, λ s hs. p.1 s (sym (ap (λ b. f s || b) (q s) ∙ or_false (f s)) ∙ (sym (both s) ∙ hs)))
least-smaller f g h (Some x) (Some y) both p q = least_of_two f g h x y both p q (nat_lt y x) refl

-- ---- rivals

pub is_rival-append : (ps qs : List Place) (table : Table) (t : ℕ) (n : Name) (m : Mode) (s : ℕ) → is_rival (ps ++ qs) table t n m s ≡ (is_rival ps table t n m s || is_rival qs table t n m s)
is_rival-append [] qs table t n m s = refl
is_rival-append (p ∷ ps) qs table t n m s =
    ap (λ b. (nat_eq p.owner s && is_against p table t n m) || b) (is_rival-append ps qs table t n m s) ∙ sym (or_assoc (nat_eq p.owner s && is_against p table t n m) (is_rival ps table t n m s) (is_rival qs table t n m s))

pub is_rival_of-append : (ix : NameIndex) (table : Table) (t : ℕ) (qs rs : List Request) (s : ℕ) → is_rival_of ix table t (qs ++ rs) s ≡ (is_rival_of ix table t qs s || is_rival_of ix table t rs s)
is_rival_of-append ix table t [] rs s = refl
is_rival_of-append ix table t (q ∷ qs) rs s =
    ap (λ b. is_rival (places_at ix q.name) table t q.name q.mode s || b) (is_rival_of-append ix table t qs rs s) ∙ sym (or_assoc (is_rival (places_at ix q.name) table t q.name q.mode s) (is_rival_of ix table t qs s) (is_rival_of ix table t rs s))

rival_in-cases : (p : Place) (table : Table) (t : ℕ) (n : Name) (m : Mode) (b : Bool) → is_against p table t n m ≡ b → IsLeast (is_rival (p ∷ []) table t n m) (cond b (Some p.owner) None)
rival_in-cases p table t n m true e =
    (or_false _ ∙ and_true (nat_eq p.owner p.owner) (is_against p table t n m) (eq-eqb p.owner p.owner refl) e, λ s hs. let same : nat_eq p.owner s ≡ true = first_of_and (nat_eq p.owner s) (is_against p table t n m) (sym (or_false _) ∙ hs) in grind (arith, nat_tests))
rival_in-cases p table t n m false e = λ s. or_false _ ∙ false_unless (nat_eq p.owner s && is_against p table t n m) (λ k. let bad : true ≡ false = sym (second_of_and (nat_eq p.owner s) (is_against p table t n m) k) ∙ e in cc)

-- the least rival at one place
pub rival_in-least : (p : Place) (table : Table) (t : ℕ) (n : Name) (m : Mode) → IsLeast (is_rival (p ∷ []) table t n m) (rival_in p table t n m)
rival_in-least p table t n m = rival_in-cases p table t n m (is_against p table t n m) refl

-- one place more is looked at
pub is_rival-step : (ps : List Place) (i : ℕ) (d : Place) (table : Table) (t : ℕ) (n : Name) (m : Mode) (least : Option ℕ) → i < length ps → IsLeast (is_rival (take i ps) table t n m) least → IsLeast (is_rival (take (i + 1) ps) table t n m) (smaller_of least (rival_in (get_or ps i d) table t n m))
is_rival-step ps i d table t n m least lt h =
    least-smaller (is_rival (take i ps) table t n m) (is_rival (get_or ps i d ∷ []) table t n m) (is_rival (take (i + 1) ps) table t n m) least (rival_in (get_or ps i d) table t n m)
    (λ s. ap (λ ks. is_rival ks table t n m s) (take_more ps i d lt) ∙ is_rival-append (take i ps) (get_or ps i d ∷ []) table t n m s)
    h
    (rival_in-least (get_or ps i d) table t n m)

pub all-places : (ps : List Place) (i : ℕ) (table : Table) (t : ℕ) (n : Name) (m : Mode) (least : Option ℕ) → length ps ≤ i → IsLeast (is_rival (take i ps) table t n m) least → IsLeast (is_rival ps table t n m) least
all-places ps i table t n m least le h = subst (λ (xs : List Place). IsLeast (is_rival xs table t n m) least) (take_all i ps le) h

-- the first place, and the others
pub rival-first : (p : Place) (ps : List Place) (table : Table) (t : ℕ) (n : Name) (m : Mode) (b : Option ℕ) → IsLeast (is_rival ps table t n m) b → IsLeast (is_rival (p ∷ ps) table t n m) (smaller_of (rival_in p table t n m) b)
rival-first p ps table t n m b h =
    least-smaller (is_rival (p ∷ []) table t n m) (is_rival ps table t n m) (is_rival (p ∷ ps) table t n m) (rival_in p table t n m) b
    (λ s. is_rival-append (p ∷ []) ps table t n m s)
    (rival_in-least p table t n m)
    h

pub row-step : (qs : List RequestInCode) (i : ℕ) (d : RequestInCode) → i < length qs → row (take (i + 1) qs) ≡ row (take i qs) ++ requested (get_or qs i d) ∷ []
row-step qs i d lt = ap row (take_more qs i d lt) ∙ map-append requested (take i qs) (get_or qs i d ∷ [])

-- one request more is looked at
pub is_rival_of-step : (ix : NameIndex) (table : Table) (t : ℕ) (qs : List RequestInCode) (i : ℕ) (d : RequestInCode) (least one : Option ℕ) → i < length qs → IsLeast (is_rival_of ix table t (row (take i qs))) least → IsLeast (is_rival (places_at ix (named ((get_or qs i d).name))) table t (named ((get_or qs i d).name)) ((get_or qs i d).mode)) one → IsLeast (is_rival_of ix table t (row (take (i + 1) qs))) (smaller_of least one)
is_rival_of-step ix table t qs i d least one lt h k =
    least-smaller (is_rival_of ix table t (row (take i qs))) (is_rival (places_at ix (named ((get_or qs i d).name))) table t (named ((get_or qs i d).name)) ((get_or qs i d).mode)) (is_rival_of ix table t (row (take (i + 1) qs))) least one
    (λ s. ap (λ rs. is_rival_of ix table t rs s) (row-step qs i d lt)
    ∙ (is_rival_of-append ix table t (row (take i qs)) (requested (get_or qs i d) ∷ []) s
    ∙ ap (λ b. is_rival_of ix table t (row (take i qs)) s || b) (or_false (is_rival (places_at ix (named ((get_or qs i d).name))) table t (named ((get_or qs i d).name)) ((get_or qs i d).mode) s))))
    h
    k

pub all-requests : (ix : NameIndex) (table : Table) (t : ℕ) (qs : List RequestInCode) (i : ℕ) (least : Option ℕ) → length qs ≤ i → IsLeast (is_rival_of ix table t (row (take i qs))) least → IsLeast (is_rival_of ix table t (row qs)) least
all-requests ix table t qs i least le h = subst (λ (rs : List RequestInCode). IsLeast (is_rival_of ix table t (row rs)) least) (take_all i qs le) h
