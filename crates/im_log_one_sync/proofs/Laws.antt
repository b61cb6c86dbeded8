-- The laws.
use Rattle.std.proofs.Common.{◌≡◌, ◌⊎◌, inl, inr, ⊎_elim, ℕ, zero, suc, ◌+◌, ◌<◌, ◌≤◌, Bool, List, [], ◌∷◌, ◌++◌, length, take, drop, get_or, Some, None, refl, sym, ◌∙◌, ap, arith, append_assoc, append-nil, length-drop, take-append-drop}
use Rattle.std.proofs.lemmas.List.{drop-drop, take_at, length-take-le, get_or-drop}
use Rattle.std.proofs.lemmas.Option.{none-some, same_Some}
use Rattle.im_base_disk.specs.Disk.{Torn, Unforged, whole}
use Rattle.im_base_disk.specs.Sums.{shows}
use Rattle.im_base_disk.proofs.Runs.{unforged_not}
use Rattle.im_base_disk.proofs.Stops.{torn_over, unforged_whole}
use Rattle.im_log_one_sync.specs.Batches.{batches_from, IsLast, IsClear, LaysFrom}
use Rattle.im_log_one_sync.specs.Laws.{OneOrNone, FrontOfAll, AreThere, ZerosAreClear, CanBeKept, NoReader, NoneIsZero}
use Rattle.im_log_one_sync.proofs.Reading.{none_or_some, ends, passes, zero_shows}

-- The batches of a file from this place on.
abbrev pub from_place : (ℕ → ℕ → List ℕ → Bool) → ℕ → ℕ → List ℕ → List (List ℕ)
from_place fits base place file = batches_from fits 0 (base + place) (drop place file)

taken : (k : ℕ) (b : List ℕ) (bs : List (List ℕ)) → b ∷ take k bs ≡ take (k + 1) (b ∷ bs)
taken k b bs = ap (λ (n : ℕ). take n (b ∷ bs)) (let more : suc k ≡ k + 1 = omega arith in more)

take_none : (k : ℕ) → ◌≡◌ {A = List (List ℕ)} (take k []) []
take_none zero = refl
take_none (suc k) = refl

module _ (fits : ℕ → ℕ → List ℕ → Bool) (base : ℕ) where
  ends_at : (place : ℕ) (file : List ℕ) → shows fits base place file ≡ None → from_place fits base place file ≡ []
  ends_at place file none = ends fits (base + place) (drop place file) none

  pub passes_at : (place : ℕ) (file r : List ℕ) → shows fits base place file ≡ Some r → from_place fits base place file ≡ r ∷ from_place fits base (place + (13 + length r)) file
  passes_at place file r is =
      let at : base + place + (13 + length r) ≡ base + (place + (13 + length r)) = omega arith in
      passes fits (base + place) (drop place file) r is
      ∙ ap (λ (l : List ℕ). r ∷ batches_from fits 0 (base + place + (13 + length r)) l) (drop-drop (13 + length r) place file)
      ∙ ap (λ (n : ℕ). r ∷ batches_from fits 0 n (drop (place + (13 + length r)) file)) at

  -- a file that shows batches one after another has them
  pub has_all : (end place : ℕ) (bs : List (List ℕ)) (file : List ℕ) → LaysFrom fits base end place bs file → from_place fits base place file ≡ bs
  has_all end place [] file lays = ends_at place file lays.1
  has_all end place (b ∷ bs) file lays =
      passes_at place file b lays.1 ∙ ap (λ (l : List (List ℕ)). b ∷ l) (has_all end (place + (13 + length b)) bs file lays.2)

  module _ (start end : ℕ) (all new : List ℕ) (only : (p : ℕ) (r : List ℕ) → start ≤ p → p < end → shows fits base p new ≡ Some r → shows fits base p all ≡ Some r) where
    -- one that shows only these has a front of them
    has_front : (place : ℕ) (bs : List (List ℕ)) → start ≤ place → LaysFrom fits base end place bs all → (k : ℕ) × (from_place fits base place new ≡ take k bs)
    has_front place [] from lays =
        ⊎_elim
        (λ none. (0, ends_at place new none))
        (λ some. absurd (none-some some.0 (sym lays.1 ∙ only place some.0 from lays.0 some.1)))
        (none_or_some (shows fits base place new))
    has_front place (b ∷ bs) from lays =
        ⊎_elim
        (λ none. (0, ends_at place new none))
        (λ some.
        let is : b ≡ some.0 = same_Some b some.0 (sym lays.1 ∙ only place some.0 from lays.0 some.1) in
        let more = has_front (place + (13 + length b)) bs (omega (arith, from)) lays.2 in
        (more.0 + 1, passes_at place new b (some.1 ∙ ap Some (sym is)) ∙ ap (λ (l : List (List ℕ)). b ∷ l) more.1 ∙ taken more.0 b bs))
        (none_or_some (shows fits base place new))

  module _ (first place : ℕ) (old : List ℕ) (before : List (List ℕ)) (last : IsLast fits first base place old before) where
    -- a file with the same front reads on from the gate
    pub reads_on : (new : List ℕ) → take place new ≡ take place old → place < length new → batches_from fits first base new ≡ before ++ from_place fits base place new
    reads_on new same long =
        ap (batches_from fits first base) (sym (take-append-drop place new) ∙ ap (λ (l : List ℕ). l ++ drop place new) same)
        ∙ last.front (drop place new) (omega (arith, length-drop place new, long))

    pub stays : (new : List ℕ) → take place new ≡ take place old → place < length new → shows fits base place new ≡ None → batches_from fits first base new ≡ before
    stays new same long none = reads_on new same long ∙ ap (λ (l : List (List ℕ)). before ++ l) (ends_at place new none) ∙ append-nil before

    pub whole_front : (bytes : List ℕ) → take place (whole place bytes old) ≡ take place old
    whole_front bytes =
        ap (λ (l : List ℕ). take place l) (append_assoc (take place old) bytes (drop (place + length bytes) old))
        ∙ take_at (take place old) (bytes ++ drop (place + length bytes) old) place (length-take-le place old (omega (arith, last.within)))

    whole_long : (bytes : List ℕ) → place < length (whole place bytes old)
    whole_long bytes = let torn : Torn place (length bytes) old (whole place bytes old) = torn_over place bytes bytes old (omega (arith, last.within)) refl in omega (arith, last.within, torn.no_shorter)

    pub there : (bs : List (List ℕ)) (bytes : List ℕ) → LaysFrom fits base (place + length bytes) place bs (whole place bytes old) → batches_from fits first base (whole place bytes old) ≡ before ++ bs
    there bs bytes lays =
        reads_on (whole place bytes old) (whole_front bytes) (whole_long bytes)
        ∙ ap (λ (l : List (List ℕ)). before ++ l) (has_all (place + length bytes) place bs (whole place bytes old) lays)

    pub front_of : (bs : List (List ℕ)) (bytes new : List ℕ) → IsClear fits base place (place + length bytes) old → LaysFrom fits base (place + length bytes) place bs (whole place bytes old)
        → Unforged (shows fits base) place bytes old new → (k : ℕ) × (batches_from fits first base new ≡ before ++ take k bs)
    front_of bs bytes new clear lays left =
        let only : (p : ℕ) (r : List ℕ) → place ≤ p → p < place + length bytes → shows fits base p new ≡ Some r → shows fits base p (whole place bytes old) ≡ Some r =
        λ p r from upto is. ⊎_elim (λ as_before. absurd (none-some r (sym (clear p from upto) ∙ as_before))) (λ as_written. as_written) (left.shown p r from upto is) in
        let has = has_front place (place + length bytes) (whole place bytes old) new only place bs (omega arith) lays in
        (has.0, reads_on new left.torn.before (omega (arith, last.within, left.torn.no_shorter)) ∙ ap (λ (l : List (List ℕ)). before ++ l) has.1)

pub front_of_all : FrontOfAll
front_of_all fits first base place bs bytes old new before last clear lays left = front_of fits base first place old before last bs bytes new clear lays left

take_one : (k : ℕ) (r : List ℕ) (all before : List (List ℕ)) → all ≡ before ++ take k (r ∷ []) → (all ≡ before) ⊎ (all ≡ before ++ r ∷ [])
take_one zero r all before is = inl (is ∙ append-nil before)
take_one (suc k) r all before is = inr (is ∙ ap (λ (l : List (List ℕ)). before ++ r ∷ l) (take_none k))

pub one_or_none : OneOrNone
one_or_none fits first base place batch bytes old new before last clear lays left =
    let some = front_of fits base first place old before last (batch ∷ []) bytes new clear lays left in
    take_one some.0 batch (batches_from fits first base new) before some.1

pub are_there : AreThere
are_there fits first base place bs bytes old before last lays = there fits base first place old before last bs bytes lays

pub zeros_are_clear : ZerosAreClear
zeros_are_clear fits base place end file zeros p from upto =
    zero_shows fits (base + p) (drop p file) (get_or-drop p file 0 0 ∙ ap (λ (n : ℕ). get_or file n 0) (let same : p + 0 ≡ p = omega arith in same) ∙ zeros p from upto)

pub no_reader : NoReader
no_reader at one other old within same = torn_over at one other old within same

pub none_is_zero : NoneIsZero
none_is_zero at bytes old new mixed zeros some i from upto =
    ⊎_elim (λ as_before. absurd (some i from upto (as_before ∙ zeros i from upto))) (λ as_written. as_written) (mixed.each i)

-- a file to which nothing was done yet
pub as_it_was : (fits : ℕ → ℕ → List ℕ → Bool) (first base place : ℕ) (bs : List (List ℕ)) (bytes old : List ℕ) (before : List (List ℕ))
    → IsLast fits first base place old before → IsClear fits base place (place + length bytes) old → LaysFrom fits base (place + length bytes) place bs (whole place bytes old)
    → (k : ℕ) × (batches_from fits first base old ≡ before ++ take k bs)
as_it_was fits first base place bs bytes old before last clear lays =
    front_of fits base first place old before last bs bytes old clear lays (unforged_not (shows fits base) place bytes old)

pub can_be_kept : CanBeKept
can_be_kept reader at bytes old within = (unforged_not reader at bytes old, unforged_whole reader at bytes old within)
