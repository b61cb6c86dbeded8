-- The order of keys over the leaves.
use Rattle.std.proofs.Common.{◌≡◌, ℕ, List, [], ◌∷◌, ◌++◌, Option, Some, None, refl, sym, ap, ap₂, ◌∙◌, append_assoc, inr, ⊎_elim}
use Rattle.std.proofs.lemmas.List.Concat.{flat_map-append}
use Rattle.im_theory_tree.specs.Changes.{PutsIn}
use Rattle.im_theory_tree.specs.Good.{AllOf, AtOrAbove, IsUnder, next_bound, IsAfter, BoundsFollow, AreOrdered}
use Rattle.im_theory_tree.specs.Levels.{Pages, Node, below, entries_in, page_numbers}
use Rattle.im_theory_tree.specs.Same.{SameOn}
use Rattle.im_base_types.specs.Keys.{IsBelow}
use Rattle.im_base_types.specs.Pages.{Entry}
use Rattle.im_theory_page.proofs.Order.{below_trans}
use Rattle.im_theory_tree.proofs.Frame.{AllOf-append, entries_same}

pub AllOf-from : {X : Type 0} (P Q : X → Type 0) (f : (x : X) → P x → Q x) (xs : List X) → AllOf P xs → AllOf Q xs
AllOf-from P Q f [] h = tt
AllOf-from P Q f (x ∷ xs) h = (f x h.0, AllOf-from P Q f xs h.1)

pub AllOf-both : {X : Type 0} (P Q R : X → Type 0) (f : (x : X) → P x → Q x → R x) (xs : List X) → AllOf P xs → AllOf Q xs → AllOf R xs
AllOf-both P Q R f [] h k = tt
AllOf-both P Q R f (x ∷ xs) h k = (f x h.0 k.0, AllOf-both P Q R f xs h.1 k.1)

-- a key under a bound that another key reaches
pub under_reached : (a key : List ℕ) (bound : Option (List ℕ)) → IsUnder a bound → AtOrAbove bound key → (b : List ℕ) → bound ≡ Some b → IsBelow a key
under_reached a key None u r b e = cc
under_reached a key (Some c) u r b e = ⊎_elim (λ (x : c ≡ key). rw (← x) u) (λ (x : IsBelow c key). below_trans a c key u x) r

pub after_reached : (low high : Option (List ℕ)) (key : List ℕ) → IsAfter low high → AtOrAbove high key → AtOrAbove low key
after_reached low None key h r = absurd h
after_reached None (Some b) key h r = tt
after_reached (Some a) (Some b) key h r = ⊎_elim (λ (x : b ≡ key). inr (rw (← x) h)) (λ (x : IsBelow b key). inr (below_trans a b key h x)) r

-- the bounds of a level rise
pub bound_reached : (pages : Pages) (y n : Node) (a b : List Node) (key : List ℕ) → AreOrdered pages (y ∷ a ++ n ∷ b) → AtOrAbove n.bound key → AtOrAbove y.bound key
bound_reached pages y n [] b key h r = after_reached y.bound n.bound key h.1 r
bound_reached pages y n (x ∷ a) b key h r = after_reached y.bound x.bound key h.1 (bound_reached pages x n a b key h.2 r)

-- a separator, as there is one after another node
pub is_separator : (low high : Option (List ℕ)) → IsAfter low high → (b : List ℕ) × (high ≡ Some b)
is_separator low None h = absurd h
is_separator low (Some b) h = (b, refl)

-- what stands before the leaf of a key is below the key
pub before_below : (pages : Pages) (a b : List Node) (n : Node) (key : List ℕ) → AreOrdered pages (a ++ n ∷ b) → AtOrAbove n.bound key
    → AllOf (λ (e : Entry). IsBelow e.0 key) (entries_in pages a)
before_below pages [] b n key h r = tt
before_below pages (x ∷ []) b n key h r =
    let s = is_separator x.bound n.bound h.1 in
    AllOf-append (λ (e : Entry). IsBelow e.0 key) (pages x.page).entries []
    (AllOf-from (λ e. AtOrAbove x.bound e.0 × IsUnder e.0 n.bound) (λ e. IsBelow e.0 key) (λ e p. under_reached e.0 key n.bound p.1 r s.0 s.1) (pages x.page).entries h.0)
    tt
before_below pages (x ∷ y ∷ a) b n key h r =
    let s = is_separator x.bound y.bound h.1 in
    let reached = bound_reached pages y n a b key h.2 r in
    AllOf-append (λ (e : Entry). IsBelow e.0 key) (pages x.page).entries (entries_in pages (y ∷ a))
    (AllOf-from (λ e. AtOrAbove x.bound e.0 × IsUnder e.0 y.bound) (λ e. IsBelow e.0 key) (λ e p. under_reached e.0 key y.bound p.1 reached s.0 s.1) (pages x.page).entries h.0)
    (before_below pages (y ∷ a) b n key h.2 r)

-- a key at or above a separator that is above another key
pub above_bound : (key k b : List ℕ) → IsBelow key b → AtOrAbove (Some b) k → IsBelow key k
above_bound key k b u r = ⊎_elim (λ (x : b ≡ k). rw (← x) u) (λ (x : IsBelow b k). below_trans key b k u x) r

pub under_after : (key : List ℕ) (low high : Option (List ℕ)) (b : List ℕ) → low ≡ Some b → IsBelow key b → IsAfter low high → IsUnder key high
under_after key low None b e u h = absurd h
under_after key None (Some c) b e u h = cc
under_after key (Some a) (Some c) b e u h = let same : a ≡ b = cc in below_trans key a c (rw same u) h

-- what stands after the leaf of a key is above the key
pub after_above : (pages : Pages) (low : Option (List ℕ)) (b : List Node) (key : List ℕ) → BoundsFollow low b → AreOrdered pages b → IsUnder key (next_bound b)
    → AllOf (λ (e : Entry). IsBelow key e.0) (entries_in pages b)
after_above pages low [] key f h u = tt
after_above pages low (x ∷ []) key f h u =
    let s = is_separator low x.bound f in
    let under : IsBelow key s.0 = rw s.1 at u in
    AllOf-append (λ (e : Entry). IsBelow key e.0) (pages x.page).entries []
    (AllOf-from (λ e. AtOrAbove x.bound e.0 × IsUnder e.0 None) (λ e. IsBelow key e.0) (λ e p. above_bound key e.0 s.0 under (rw s.1 at p.0)) (pages x.page).entries h.0)
    tt
after_above pages low (x ∷ y ∷ b) key f h u =
    let s = is_separator low x.bound f in
    let under : IsBelow key s.0 = rw s.1 at u in
    AllOf-append (λ (e : Entry). IsBelow key e.0) (pages x.page).entries (entries_in pages (y ∷ b))
    (AllOf-from (λ e. AtOrAbove x.bound e.0 × IsUnder e.0 y.bound) (λ e. IsBelow key e.0) (λ e p. above_bound key e.0 s.0 under (rw s.1 at p.0)) (pages x.page).entries h.0)
    (after_above pages x.bound (y ∷ b) key h.1 h.2 (under_after key x.bound y.bound s.0 s.1 under h.1))

pub ordered_right : (pages : Pages) (a b : List Node) → AreOrdered pages (a ++ b) → AreOrdered pages b
ordered_right pages [] b h = h
ordered_right pages (x ∷ a) b h = ordered_right pages a b h.2

-- AN INSERTION INTO THE LEAF OF A KEY IS ONE INTO THE WALK
pub walk_put : (pages new : Pages) (a b : List Node) (n : Node) (e : Entry) → AreOrdered pages (a ++ n ∷ b) → AtOrAbove n.bound e.0 → IsUnder e.0 (next_bound b)
    → SameOn pages new (page_numbers a) → SameOn pages new (page_numbers b) → PutsIn (pages n.page).entries (new n.page).entries e
    → PutsIn (entries_in pages (a ++ n ∷ b)) (entries_in new (a ++ n ∷ b)) e
walk_put pages new a b n e ordered at under sa sb put =
    let f : Pages → Node → List Entry = λ ps x. (ps x.page).entries in
    let u : List Entry = entries_in pages a ++ put.before in
    let v : List Entry = put.after ++ entries_in pages b in
    let here = ordered_right pages a (n ∷ b) ordered in
    record {
      before = u;
      after = v;
      was = flat_map-append (f pages) a (n ∷ b)
          ∙ ap (λ es. entries_in pages a ++ (es ++ entries_in pages b)) put.was
          ∙ ap (λ es. entries_in pages a ++ es) (append_assoc put.before put.after (entries_in pages b))
          ∙ sym (append_assoc (entries_in pages a) put.before v);
      now = flat_map-append (f new) a (n ∷ b)
          ∙ ap₂ (λ x y. x ++ ((new n.page).entries ++ y)) (entries_same pages new a sa) (entries_same pages new b sb)
          ∙ ap (λ es. entries_in pages a ++ (es ++ entries_in pages b)) put.now
          ∙ ap (λ es. entries_in pages a ++ es) (append_assoc put.before (e ∷ put.after) (entries_in pages b))
          ∙ sym (append_assoc (entries_in pages a) put.before (e ∷ v));
      below = AllOf-append (λ (x : Entry). IsBelow x.0 e.0) (entries_in pages a) put.before (before_below pages a b n e.0 ordered at) put.below;
      above = AllOf-append (λ (x : Entry). IsBelow e.0 x.0) put.after (entries_in pages b) put.above (after_above pages n.bound b e.0 here.1 here.2 under);
    }

-- the range of a leaf that a level above gives to its first child
pub next_bound-below : (pages : Pages) (b : List Node) → next_bound (below pages b) ≡ next_bound b
next_bound-below pages [] = refl
next_bound-below pages (n ∷ b) = refl
