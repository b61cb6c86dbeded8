-- A key has one leaf.
use Rattle.std.proofs.Common.{◌≡◌, ℕ, List, [], ◌∷◌, ◌++◌, Option, Some, None, refl, sym, ap, subst, ◌∙◌, ⊎_elim}
use Rattle.im_base_types.specs.Keys.{Key, IsBelow}
use Rattle.im_theory_page.proofs.Order.{below_trans, below_irrefl}
use Rattle.im_theory_tree.specs.Levels.{Pages, Node}
use Rattle.im_theory_tree.specs.Good.{AtOrAbove, IsUnder, next_bound, IsAfter, BoundsFollow, AreOrdered, IsGoodTree}
use Rattle.im_theory_tree.specs.Search.{IsOnWay}

-- what is above a bound that a key is under does not reach it
not_reached : (key : Key) (low : Option Key) → IsUnder key low → AtOrAbove low key → (low ≡ None → ⊥) → ⊥
not_reached key None under at some = some refl
not_reached key (Some x) under at some =
    ⊎_elim (λ (same : x ≡ key). below_irrefl key (subst (λ (y : Key). IsBelow key y) same under)) (λ (less : IsBelow x key). below_irrefl key (below_trans key x key under less)) at

-- a separator is one, and above what is before it
after_some : (low high : Option Key) → IsAfter low high → high ≡ None → ⊥
after_some low None after is = after
after_some low (Some x) after is = absurd (cc is)

after_under : (key : Key) (low high : Option Key) → (low ≡ None → ⊥) → IsUnder key low → IsAfter low high → IsUnder key high
after_under key None high some under after = absurd (some refl)
after_under key (Some a) None some under after = tt
after_under key (Some a) (Some x) some under after = below_trans key a x under after

-- no node from here on reaches a key that is under the first one's bound
none_later : (pages : Pages) (key : Key) (l : List Node) (n : Node) (r : List Node) → AreOrdered pages (l ++ n ∷ r) → (next_bound (l ++ n ∷ r) ≡ None → ⊥) → IsUnder key (next_bound (l ++ n ∷ r)) → AtOrAbove n.bound key → ⊥
none_later pages key [] n r ordered some under at = not_reached key n.bound under at some
none_later pages key (m ∷ []) n r ordered some under at =
    none_later pages key [] n r ordered.2 (after_some m.bound n.bound ordered.1) (after_under key m.bound n.bound some under ordered.1) at
none_later pages key (m ∷ k ∷ l) n r ordered some under at =
    none_later pages key (k ∷ l) n r ordered.2 (after_some m.bound k.bound ordered.1) (after_under key m.bound k.bound some under ordered.1) at

-- the bound after a node is a separator
follows_some : (low : Option Key) (l : List Node) (n : Node) (r : List Node) → BoundsFollow low (l ++ n ∷ r) → next_bound (l ++ n ∷ r) ≡ None → ⊥
follows_some low [] n r after = after_some low n.bound after
follows_some low (m ∷ l) n r after = after_some low m.bound after

head_is : (a b : Node) (x y : List Node) → a ∷ x ≡ b ∷ y → a ≡ b
head_is a b x y is = cc is

tail_is : (a b : Node) (x y : List Node) → a ∷ x ≡ b ∷ y → x ≡ y
tail_is a b x y is = cc is

-- the one before reaches the key, and then no later one does
clash : (pages : Pages) (key : Key) (n : Node) (r : List Node) (l : List Node) (m : Node) (q : List Node) → AreOrdered pages (n ∷ r) → IsUnder key (next_bound r) → r ≡ l ++ m ∷ q → AtOrAbove m.bound key → ⊥
clash pages key n r l m q ordered under is at =
    let rest : AreOrdered pages (l ++ m ∷ q) = subst (AreOrdered pages) is ordered.2 in
    let follow : BoundsFollow n.bound (l ++ m ∷ q) = subst (BoundsFollow n.bound) is ordered.1 in
    none_later pages key l m q rest (follows_some n.bound l m q follow) (subst (λ (ns : List Node). IsUnder key (next_bound ns)) is under) at

one_node : (pages : Pages) (key : Key) (l : List Node) (n : Node) (r : List Node) (k : List Node) (m : Node) (q : List Node) → l ++ n ∷ r ≡ k ++ m ∷ q → AreOrdered pages (l ++ n ∷ r)
    → AtOrAbove n.bound key → IsUnder key (next_bound r) → AtOrAbove m.bound key → IsUnder key (next_bound q) → n ≡ m
one_node pages key [] n r [] m q is ordered at under too below = head_is n m r q is
one_node pages key [] n r (k ∷ ks) m q is ordered at under too below = absurd (clash pages key n r ks m q ordered under (tail_is n k r (ks ++ m ∷ q) is) too)
one_node pages key (l ∷ ls) n r [] m q is ordered at under too below =
    absurd (clash pages key m q ls n r (subst (AreOrdered pages) is ordered) below (sym (tail_is l m (ls ++ n ∷ r) q is)) at)
one_node pages key (l ∷ ls) n r (k ∷ ks) m q is ordered at under too below = one_node pages key ls n r ks m q (tail_is l k (ls ++ n ∷ r) (ks ++ m ∷ q) is) ordered.2 at under too below

pub one_leaf : (pages : Pages) (spare : List ℕ) (key : Key) (p q : ℕ) → IsGoodTree pages spare → IsOnWay pages 0 key p → IsOnWay pages 0 key q → p ≡ q
one_leaf pages spare key p q good one two =
    let ordered : AreOrdered pages (one.left ++ one.node ∷ one.right) = subst (AreOrdered pages) (sym one.leaves) good.ordered in
    sym one.page
    ∙ ap (λ (n : Node). n.page) (one_node pages key one.left one.node one.right two.left two.node two.right (one.leaves ∙ sym two.leaves) ordered one.at one.under two.at two.under)
    ∙ two.page
