-- A range through an overlay, an entry at a time.
use Rattle.std.proofs.Common.{◌≡◌, ℕ, true, Option, Some, None, ap, subst, ◌∙◌, inl, inr}
use Rattle.std.specs.FinMap.{get}
use Rattle.im_base_types.specs.Keys.{Key}
use Rattle.im_base_types.specs.Maps.{IndexMap, Start, Above, is_past, is_below, first, last_below}
use Rattle.im_theory_machine.proofs.Order.{cases_keys, below-trans, not_below_of}
use Rattle.im_theory_machine.proofs.Guards.{past_up}
use Rattle.im_theory_machine.proofs.Search.{IsFirst, UpTo, first-is, first-by, first-same, IsLast, IsBetween, last-is, last-by, last-same}
use Rattle.im_theory_machine.specs.Overlays.{Overlay, laid, Has, IsNext, IsPrev}
use Rattle.im_theory_machine.specs.OverlayLaws.{Merges}
use Rattle.im_theory_machine.proofs.Overlays.{laid_off}

off : (w : IndexMap) (o : Overlay) (x : Key) → (get w x ≡ None) × (Has o x → ⊥) → get (laid w o) x ≡ None
off w o x h = laid_off w o x h.1 ∙ h.0

at_first : (s : Start) (w n : IndexMap) (o : Option (Key × ℕ)) → first s w ≡ o → ((x : Key) → UpTo s o x → get n x ≡ get w x) → first s n ≡ o
at_first s w n o is same = first-same s w n (λ x u. same x (subst (λ (p : Option (Key × ℕ)). UpTo s p x) is u)) ∙ is

at_last : (k : Key) (w n : IndexMap) (o : Option (Key × ℕ)) → last_below k w ≡ o → ((x : Key) → IsBetween o k x → get n x ≡ get w x) → last_below k n ≡ o
at_last k w n o is same = last-same k w n (λ x u. same x (subst (λ (p : Option (Key × ℕ)). IsBetween p k x) is u)) ∙ is

module _ (w : IndexMap) (o : Overlay) (s : Start) (k : Key) (next : IsNext s k w o) (none : get (laid w o) k ≡ None) where
  -- up to k there is nothing
  upto_none : (x : Key) → is_past s x ≡ true → (is_below k x ≡ true → get (laid w o) x ≡ None) → get (laid w o) x ≡ None
  upto_none x p above =
      elim (cases_keys x k) [
        | inl l ↦ off w o x (next.clear x p l)
        | inr (inl q) ↦ ap (get (laid w o)) q ∙ none
        | inr (inr l) ↦ above l
      ]

  passes : (e : Option (Key × ℕ)) → IsFirst (get (laid w o)) (Above k) e → IsFirst (get (laid w o)) s e
  passes None h = λ x p. upto_none x p (λ l. h x l)
  passes (Some e) h = record {
    there = h.there;
    past_it = past_up s e.0 k next.past (not_below_of k e.0 h.past_it);
    least = λ x p l. upto_none x p (λ a. h.least x a l);
  }

module _ (w : IndexMap) (o : Overlay) (k j : Key) (prev : IsPrev k j w o) (none : get (laid w o) j ≡ None) where
  from_none : (x : Key) → is_below x k ≡ true → (is_below x j ≡ true → get (laid w o) x ≡ None) → get (laid w o) x ≡ None
  from_none x p under =
      elim (cases_keys x j) [
        | inl l ↦ under l
        | inr (inl q) ↦ ap (get (laid w o)) q ∙ none
        | inr (inr l) ↦ off w o x (prev.clear x l p)
      ]

  passes_back : (e : Option (Key × ℕ)) → IsLast (get (laid w o)) j e → IsLast (get (laid w o)) k e
  passes_back None h = λ x p. from_none x p (λ l. h x l)
  passes_back (Some e) h = record {
    there = h.there;
    below = below-trans e.0 j k h.below prev.below;
    greatest = λ x p l. from_none x l (λ a. h.greatest x p a);
  }

pub merges : Merges
merges = record {
  walk = λ w o s e is free. at_first s w (laid w o) (Some e) is (λ x u. laid_off w o x (free x u.0 u.1));
  end = λ w o s is free. at_first s w (laid w o) None is (λ x u. laid_off w o x (free x u));
  note = λ w o s k r next is. first-by s (laid w o) (Some (k, r)) (record { there = is; past_it = next.past; least = λ x p l. off w o x (next.clear x p l) });
  hidden = λ w o s k next none. first-by s (laid w o) (first (Above k) (laid w o)) (passes w o s k next none (first (Above k) (laid w o)) (first-is (Above k) (laid w o)));
  walk_back = λ w o k e is free. at_last k w (laid w o) (Some e) is (λ x u. laid_off w o x (free x u.0 u.1));
  end_back = λ w o k is free. at_last k w (laid w o) None is (λ x u. laid_off w o x (free x u));
  note_back = λ w o k j r prev is. last-by k (laid w o) (Some (j, r)) (record { there = is; below = prev.below; greatest = λ x p l. off w o x (prev.clear x p l) });
  hidden_back = λ w o k j prev none. last-by k (laid w o) (last_below j (laid w o)) (passes_back w o k j prev none (last_below j (laid w o)) (last-is j (laid w o)));
}
