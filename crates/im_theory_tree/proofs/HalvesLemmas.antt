-- The two parts of a page that is split.
use Rattle.std.proofs.Common.{◌≡◌, ℕ, ◌+◌, ◌<◌, ◌≤◌, Bool, List, [], ◌∷◌, ◌++◌, length, take, drop, Option, Some, None, refl, sym, ap₂, subst, ◌∙◌, ⊎_elim, arith, take-append-drop}
use Rattle.std.proofs.lemmas.List.{drop_more}
use Rattle.std.proofs.lemmas.List.Sums.{sum_by-take-drop, sum_by_more}
use Rattle.im_base_types.specs.Keys.{Key, IsBelow}
use Rattle.im_base_types.specs.Pages.{Entry}
use Rattle.im_theory_page.specs.Entry.{no_entry, entry_at, size, taken, Rises}
use Rattle.im_theory_page.specs.Split.{IsSplitBound, IsSplitPoint, HasRoomForAny}
use Rattle.im_theory_page.proofs.Order.{below_trans}
use Rattle.im_theory_page.proofs.SplitLemmas.{left_has_room, right_has_room, both_parts}
use Rattle.im_theory_tree.specs.Good.{AllOf, AtOrAbove, IsUnder, InRange, IsAfter}
use Rattle.im_theory_tree.specs.Splits.{Halves}
use Rattle.im_theory_tree.specs.Halves.{FitsPage, LacksRoom, SplitsWell}
use Rattle.im_theory_tree.proofs.Way.{split_at}
use Rattle.im_theory_tree.proofs.Ascent.{Ascends, ascends_from_rises, at_all}

-- fewer entries leave more room
less_taken : (leaf : Bool) (es fs : List Entry) → taken leaf fs ≤ taken leaf es → HasRoomForAny leaf es → HasRoomForAny leaf fs
less_taken leaf es fs le h e short = omega (arith, le, h e short)

pub splits_well : (bound : ℕ) (leaf : Bool) (es : List Entry) (n : ℕ) (e : Entry) → IsSplitBound bound → FitsPage leaf es → IsSplitPoint bound leaf es n → LacksRoom leaf es e → SplitsWell leaf es n
splits_well bound leaf es n e within page point full =
    let f : Entry → ℕ = λ x. size leaf x + 2 in
    let parts = both_parts bound leaf es n within point page.short (omega (arith, full.more, full.key)) in
    let next = sum_by_more f es n no_entry (omega (arith, parts.1)) in
    let right = right_has_room bound leaf es n within point page.fits page.short in
    record {
      left = parts.0;
      right = parts.1;
      left_room = left_has_room bound leaf es n within point;
      right_room = right;
      rest_room = less_taken leaf (drop n es) (drop (n + 1) es) (omega (arith, sum_by-take-drop f es n, sum_by-take-drop f es (n + 1), next)) right;
    }

-- ---- keys on each side

pub ascends_before : (u : List Entry) (e : Entry) (v : List Entry) → Ascends (u ++ e ∷ v) → AllOf (λ (x : Entry). IsBelow x.0 e.0) u
ascends_before [] e v h = tt
ascends_before (x ∷ u) e v h = (in_it u h.0, ascends_before u e v h.1)
  where
    in_it : (w : List Entry) → AllOf (λ (y : Entry). IsBelow x.0 y.0) (w ++ e ∷ v) → IsBelow x.0 e.0
    in_it [] k = k.0
    in_it (y ∷ w) k = in_it w k.1

pub ascends_after : (u : List Entry) (e : Entry) (v : List Entry) → Ascends (u ++ e ∷ v) → AllOf (λ (x : Entry). IsBelow e.0 x.0) v
ascends_after [] e v h = h.0
ascends_after (x ∷ u) e v h = ascends_after u e v h.1

-- a leaf's parts, from place n on
pub halves_at : (es left right : List Entry) (n : ℕ) → Rises es → n < length es → left ≡ take n es → right ≡ drop n es → Halves es left right (entry_at es n).0
halves_at es left right n rises lt is_left is_right =
    let e = entry_at es n in
    let up : Ascends (take n es ++ e ∷ drop (n + 1) es) = subst Ascends (split_at es n lt) (ascends_from_rises es rises) in
    record {
      joined = ap₂ ◌++◌ is_left is_right ∙ take-append-drop n es;
      below = subst (AllOf (λ (x : Entry). IsBelow x.0 e.0)) (sym is_left) (ascends_before (take n es) e (drop (n + 1) es) up);
      first = e;
      others = drop (n + 1) es;
      starts = is_right ∙ drop_more es n no_entry lt;
      at = refl;
      above = ascends_after (take n es) e (drop (n + 1) es) up;
    }

pub after_from : (low : Option Key) (x s : Key) → AtOrAbove low x → IsBelow x s → IsAfter low (Some s)
after_from None x s at less = tt
after_from (Some b) x s at less = ⊎_elim (λ (e : b ≡ x). rw e less) (λ (l : IsBelow b x). below_trans b x s l less) at

-- the separator of a split that leaves an entry on the left is above the leaf's bound
pub separator_after : (low high : Option Key) (es : List Entry) (n : ℕ) → Rises es → InRange low high es → 1 ≤ n → n < length es → IsAfter low (Some (entry_at es n).0)
separator_after low high es n rises range some lt =
    after_from low (entry_at es 0).0 (entry_at es n).0 (at_all (λ (e : Entry). AtOrAbove low e.0 × IsUnder e.0 high) es 0 range (omega arith)).0 (rises 0 n (omega arith) lt)
