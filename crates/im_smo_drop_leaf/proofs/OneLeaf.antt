-- A key has one leaf.
use Rattle.std.proofs.Common.{◌≡◌, ℕ, List, [], ◌∷◌, ◌++◌, Option, Some, None, ⊎_elim, sym, ap, subst, ◌∙◌}
use Rattle.im_base_types.specs.Keys.{Key, IsBelow}
use Rattle.im_theory_page.proofs.Order.{below_trans, below_irrefl}
use Rattle.im_theory_tree.specs.Levels.{Pages, Node}
use Rattle.im_theory_tree.specs.Good.{AtOrAbove, IsUnder, IsAfter, next_bound, AreOrdered, IsGoodTree}
use Rattle.im_theory_tree.specs.Search.{IsOnWay}
use Rattle.im_theory_tree.proofs.Order.{bound_reached}

-- a separator that a key reaches is not above the key
reached_not_under : (key : Key) (low high : Option Key) → IsAfter low high → AtOrAbove high key → IsUnder key high → ⊥
reached_not_under key low None after at under = absurd after
reached_not_under key low (Some b) after at under =
    ⊎_elim (λ (e : b ≡ key). below_irrefl key (subst (λ (x : Key). IsBelow key x) e under)) (λ (l : IsBelow b key). below_irrefl key (below_trans key b key under l)) at

-- no leaf after that of a key is the key's
none_behind : (pages : Pages) (key : Key) (n : Node) (c : List Node) (m : Node) (d : List Node) → AreOrdered pages (n ∷ c ++ m ∷ d) → IsUnder key (next_bound (c ++ m ∷ d)) → AtOrAbove m.bound key → ⊥
none_behind pages key n [] m d ordered under at = reached_not_under key n.bound m.bound ordered.1 at under
none_behind pages key n (y ∷ c) m d ordered under at = reached_not_under key n.bound y.bound ordered.1 (bound_reached pages y m c d key ordered.2 at) under

abbrev first_of : Node → List Node → Node
first_of x [] = x
first_of x (n ∷ ns) = n

abbrev rest_of : List Node → List Node
rest_of [] = []
rest_of (n ∷ ns) = ns

one_node : (pages : Pages) (key : Key) (a : List Node) (n : Node) (b c : List Node) (m : Node) (d : List Node) → AreOrdered pages (a ++ n ∷ b) → a ++ n ∷ b ≡ c ++ m ∷ d
    → AtOrAbove n.bound key → IsUnder key (next_bound b) → AtOrAbove m.bound key → IsUnder key (next_bound d) → n ≡ m
one_node pages key [] n b [] m d ordered are at_n under_b at_m under_d = ap (first_of n) are
one_node pages key [] n b (y ∷ c) m d ordered are at_n under_b at_m under_d =
    let rest : b ≡ c ++ m ∷ d = ap rest_of are in
    absurd (none_behind pages key n c m d (subst (λ (ns : List Node). AreOrdered pages (n ∷ ns)) rest ordered) (subst (λ (ns : List Node). IsUnder key (next_bound ns)) rest under_b) at_m)
one_node pages key (x ∷ a) n b [] m d ordered are at_n under_b at_m under_d =
    let rest : a ++ n ∷ b ≡ d = ap rest_of are in
    absurd (none_behind pages key x a n b ordered (subst (λ (ns : List Node). IsUnder key (next_bound ns)) (sym rest) under_d) at_n)
one_node pages key (x ∷ a) n b (y ∷ c) m d ordered are at_n under_b at_m under_d = one_node pages key a n b c m d ordered.2 (ap rest_of are) at_n under_b at_m under_d

pub one_leaf : (pages : Pages) (spare : List ℕ) (key : Key) (p q : ℕ) → IsGoodTree pages spare → IsOnWay pages 0 key p → IsOnWay pages 0 key q → p ≡ q
one_leaf pages spare key p q good one two =
    sym one.page
    ∙ ap (λ (n : Node). n.page)
    (one_node pages key one.left one.node one.right two.left two.node two.right (subst (AreOrdered pages) (sym one.leaves) good.ordered) (one.leaves ∙ sym two.leaves) one.at one.under two.at two.under)
    ∙ two.page
