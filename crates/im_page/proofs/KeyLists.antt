-- What an insertion and a removal at a place do to a page's sorted list.
use Rattle.std.proofs.Common.{◌≡◌, ℕ, zero, suc, ◌<◌, List, [], ◌∷◌, length, insert, remove, true, false, not, refl, ap, subst, ◌∙◌, None, Some, arith}
use Rattle.std.specs.Ordering.{eq_by_cmp, ordering_reverse}
use Rattle.std.specs.declared.cmp.Ordering.TheVariants.{Greater}
use Rattle.std.specs.FinMap.Entries.{put, find, where_key}
use Rattle.std.proofs.lemmas.Cmp.{nat_list_cmp_total, tied_itself}
use Rattle.im_base_types.specs.Keys.{Key, key_order, IsBelow}
use Rattle.im_base_types.specs.Pages.{Entry}
use Rattle.im_theory_page.specs.Entry.{entry_at, Rises, Parts}

-- ---- the parts of a list without its first entry

parts_behind : (e : Entry) (es : List Entry) (k : Key) (i : ℕ) (from : ℕ) → Parts (e ∷ es) k (suc i) (suc from) → Parts es k i from
parts_behind e es k i from h = record { within = omega (arith, h.within); below = λ j lt. h.below (suc j) (omega arith); above = λ j le lt. h.above (suc j) (omega arith) (omega arith) }

rises_behind : (e : Entry) (es : List Entry) → Rises (e ∷ es) → Rises es
rises_behind e es h i j lt l = h (suc i) (suc j) (omega arith) (omega arith)

turned : (a b : Key) → IsBelow a b → key_order b a ≡ Greater
turned a b h = nat_list_cmp_total.antisymm b a ∙ ap ordering_reverse h.less

differs : (a b : Key) → IsBelow a b → eq_by_cmp key_order a b ≡ false
differs a b h = rw h.less refl

differs_too : (a b : Key) → IsBelow a b → eq_by_cmp key_order b a ≡ false
differs_too a b h = rw (turned a b h) refl

ties : (a : Key) → eq_by_cmp key_order a a ≡ true
ties a = rw (tied_itself nat_list_cmp_total a) refl

-- ---- a key put at the place where it would stand

pub put_at : (es : List Entry) (k : Key) (v : ℕ) (i : ℕ) → Parts es k i i → put key_order k v es ≡ insert es i (k, v)
put_at [] k v zero h = refl
put_at [] k v (suc i) h = absurd (omega (arith, h.within))
put_at (e ∷ es) k v zero h = let above = h.above zero (omega arith) (omega arith) in rw above.less refl
put_at (e ∷ es) k v (suc i) h =
    let below = h.below zero (omega arith) in
    let rest = put_at es k v i (parts_behind e es k i i h) in
    rw (turned e.0 k below) (ap (λ (l : List Entry). e ∷ l) rest)

-- ---- a key taken out at its place

keep_above : (k : Key) (es : List Entry) → ((j : ℕ) → j < length es → IsBelow k (entry_at es j).0) → where_key key_order (λ x. not (eq_by_cmp key_order k x)) es ≡ es
keep_above k [] h = refl
keep_above k (e ∷ es) h = rw (differs k e.0 (h zero (omega arith))) (ap (λ (l : List Entry). e ∷ l) (keep_above k es (λ j lt. h (suc j) (omega arith))))

pub without_at : (es : List Entry) (k : Key) (i : ℕ) → Rises es → i < length es → (entry_at es i).0 ≡ k → where_key key_order (λ x. not (eq_by_cmp key_order k x)) es ≡ remove es i
without_at [] k i rises lt is = absurd (omega arith)
without_at (e ∷ es) k zero rises lt is =
    subst (λ (x : Key). where_key key_order (λ y. not (eq_by_cmp key_order x y)) (e ∷ es) ≡ es) is (rw (ties e.0) (keep_above e.0 es (λ j l. rises zero (suc j) (omega arith) (omega arith))))
without_at (e ∷ es) k (suc i) rises lt is =
    let below : IsBelow e.0 k = subst (λ (x : Key). IsBelow e.0 x) is (rises zero (suc i) (omega arith) lt) in
    rw (differs_too e.0 k below) (ap (λ (l : List Entry). e ∷ l) (without_at es k i (rises_behind e es rises) (omega arith) is))

-- ---- what a search finds

pub found_at : (es : List Entry) (k : Key) (i : ℕ) → Rises es → i < length es → (entry_at es i).0 ≡ k → find key_order k es ≡ Some (entry_at es i).1
found_at [] k i rises lt is = absurd (omega arith)
found_at (e ∷ es) k zero rises lt is = rw (← is, ties e.0) refl
found_at (e ∷ es) k (suc i) rises lt is =
    let below : IsBelow e.0 k = subst (λ (x : Key). IsBelow e.0 x) is (rises zero (suc i) (omega arith) lt) in
    rw (differs_too e.0 k below) (found_at es k i (rises_behind e es rises) (omega arith) is)

pub absent_at : (es : List Entry) (k : Key) (i : ℕ) → Parts es k i i → find key_order k es ≡ None
absent_at [] k i h = refl
absent_at (e ∷ es) k zero h =
    let above = h.above zero (omega arith) (omega arith) in
    rw (differs k e.0 above) (absent_at es k zero (record { within = omega arith; below = λ j lt. absurd (omega arith); above = λ j le lt. h.above (suc j) (omega arith) (omega arith) }))
absent_at (e ∷ es) k (suc i) h =
    let below = h.below zero (omega arith) in
    rw (differs_too e.0 k below) (absent_at es k i (parts_behind e es k i i h))
