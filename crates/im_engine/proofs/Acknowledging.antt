-- What was acknowledged stays so, whatever is shown later.
use Rattle.std.proofs.Common.{◌≡◌, ◌⊎◌, inl, inr, ⊎_elim, ℕ, Bool, true, false, true≢false, List, [], ◌∷◌, ◌++◌, Contains, None, refl, sym, ◌∙◌, ap, subst, arith}
use Rattle.std.specs.Prelude.{if◌then◌else◌, ◌||◌, ◌==◌}
use Rattle.std.proofs.lemmas.List.Elements.{Contains-append_left, Contains-append_right, Contains-append_cases, Contains-push_cases}
use Rattle.im_base_types.specs.Answers.{Insert, Delete, Step, Begin, Do, Commit, Rollback, Continue, RollTo, FlushPage, Force, Checkpoint, Switch, Reply, Started, Inserted, Deleted, Committed, RolledBack, More, Die, Done, Refused}
use Rattle.im_base_types.specs.Lives.{Asked, Shown, NoneAcked, all_acked, answered, asks, breaks, cut_off, effect_asked, refused, shows}
use Rattle.im_base_types.specs.Refusals.{memory, unfinished}

-- each that is acknowledged in the one list stands in the other
abbrev pub StayAcked : List Asked → List Asked → Type 0
StayAcked xs ys = (a : Asked) → Contains xs a → a.acked ≡ true → Contains ys a

pub all_stay : (xs : List Asked) → StayAcked xs xs
all_stay xs a h acked = h

pub stay_then : (xs ys zs : List Asked) → StayAcked xs ys → StayAcked ys zs → StayAcked xs zs
stay_then xs ys zs first second a h acked = second a (first a h acked) acked

behind_stay : (xs ys : List Asked) → StayAcked xs (xs ++ ys)
behind_stay xs ys a h acked = Contains-append_left xs ys a h

none_in : (x : Asked) → Contains [] x → ⊥
none_in x h = let lt = h.1 in omega (arith, lt)

first_or_rest : (x : Asked) (xs : List Asked) (a : Asked) → Contains (x ∷ xs) a → (x ≡ a) ⊎ Contains xs a
first_or_rest x xs a h = ⊎_elim (λ here. ⊎_elim (λ none. absurd (none_in a none)) (λ is. inl is) (Contains-push_cases [] x a here)) (λ rest. inr rest) (Contains-append_cases (x ∷ []) xs a h)

here_in : (x : Asked) (xs : List Asked) → Contains (x ∷ xs) x
here_in x xs = (0, omega arith, refl)

later_in : (x : Asked) (xs : List Asked) (a : Asked) → Contains xs a → Contains (x ∷ xs) a
later_in x xs a h = Contains-append_right (x ∷ []) xs a h

-- those that wait are acknowledged too
waiting_stay : (xs : List Asked) → StayAcked xs (all_acked xs)
waiting_stay [] a h acked = absurd (none_in a h)
waiting_stay (x ∷ xs) a h acked =
    ⊎_elim
    (λ is.
    let same : record x { acked = true } ≡ a = ap (λ (y : Asked). record y { acked = true }) is ∙ ap (λ (b : Bool). record a { acked = b }) (sym acked) in
    subst (λ (y : Asked). Contains (record x { acked = true } ∷ all_acked xs) y) same (here_in (record x { acked = true }) (all_acked xs)))
    (λ rest. later_in (record x { acked = true }) (all_acked xs) a (waiting_stay xs a rest acked))
    (first_or_rest x xs a h)

asking_stays : (t : ℕ) (acked : Bool) (s : Shown) → StayAcked s.asked (asks t acked s).asked
asking_stays t acked s = behind_stay s.asked (effect_asked t acked (s.running t).mark (s.running t).effect)

refused_stays : (t n : ℕ) (s : Shown) → StayAcked s.asked (refused n (Commit t) s).asked
refused_stays t n s = go (s.failed || n == memory || n == unfinished)
  where
    go : (b : Bool) → StayAcked s.asked (if b then s else record (asks t false s) { failed = breaks n }).asked
    go true = all_stay s.asked
    go false = asking_stays t false s

cut_stays : (t : ℕ) (s : Shown) → StayAcked s.asked (cut_off (Commit t) s).asked
cut_stays t s = go s.failed
  where
    go : (b : Bool) → StayAcked s.asked (if b then s else asks t false s).asked
    go true = all_stay s.asked
    go false = asking_stays t false s

pub answered_stays : (step : Step) (reply : Reply) (s : Shown) → StayAcked s.asked (answered step reply s).asked
answered_stays (FlushPage p) (Refused n) s = all_stay s.asked
answered_stays Checkpoint (Refused n) s = all_stay s.asked
answered_stays Switch (Refused n) s = all_stay s.asked
answered_stays (Commit t) (Refused n) s = refused_stays t n s
answered_stays (Commit t) Committed s = asking_stays t true s
answered_stays (Commit t) More s = asking_stays t false s
answered_stays Force Done s = waiting_stay s.asked
answered_stays Begin (Started t) s = all_stay s.asked
answered_stays (Do t (Insert k r)) Inserted s = all_stay s.asked
answered_stays (Do t (Delete k)) Deleted s = all_stay s.asked
answered_stays (Do t a) Die s = all_stay s.asked
answered_stays (Rollback t) RolledBack s = all_stay s.asked
answered_stays (Rollback t) More s = all_stay s.asked
answered_stays (RollTo t n) Done s = all_stay s.asked
answered_stays (RollTo t n) More s = all_stay s.asked
answered_stays (Continue t) RolledBack s = all_stay s.asked
answered_stays step reply s = all_stay s.asked

-- a stop within a step
pub stopped_stays : (step : Step) (s : Shown) → StayAcked s.asked (shows s step None).asked
stopped_stays (Commit t) s = cut_stays t s
stopped_stays step s = all_stay s.asked

-- no acknowledged one is among those that are lost
unacked_in : (xs : List Asked) (a : Asked) → NoneAcked xs → Contains xs a → a.acked ≡ false
unacked_in [] a none h = absurd (none_in a h)
unacked_in (x ∷ xs) a none h = ⊎_elim (λ is. ap (λ (y : Asked). y.acked) (sym is) ∙ none.0) (λ rest. unacked_in xs a none.1 rest) (first_or_rest x xs a h)

pub kept_of : (kept lost asked : List Asked) → kept ++ lost ≡ asked → NoneAcked lost → StayAcked asked kept
kept_of kept lost asked all none a h acked =
    ⊎_elim (λ in_front. in_front) (λ in_rest. absurd (true≢false (sym acked ∙ unacked_in lost a none in_rest))) (Contains-append_cases kept lost a (subst (λ (l : List Asked). Contains l a) (sym all) h))
