-- Look-ups on the walk, backward: the last entry below a key.
use Rattle.std.proofs.Common.{◌≡◌, ◌⊎◌, inl, inr, ℕ, suc, ◌<◌, ◌≤◌, Bool, true, false, cond, List, [], ◌∷◌, ◌++◌, length, length-append, Option, Some, None, refl, sym, ap, subst, ◌∙◌, arith, append_assoc, append-nil}
use Rattle.std.specs.Ordering.{is_lt}
use Rattle.std.specs.declared.cmp.Ordering.{Ordering}
use Rattle.std.specs.declared.cmp.Ordering.TheVariants.{Less, Equal, Greater}
use Rattle.im_base_types.specs.Keys.{Key, key_order, IsBelow}
use Rattle.im_base_types.specs.Pages.{Entry}
use Rattle.im_base_types.specs.declared.page_kind.PageKind.TheVariants.{Leaf}
use Rattle.im_base_types.specs.Maps.{Above, is_below, or_this, last_in}
use Rattle.im_theory_page.proofs.Order.{below_trans}
use Rattle.im_theory_tree.specs.Levels.{Pages, Node, leaves_under, entries_in, the_root, height, walk}
use Rattle.im_theory_tree.specs.Good.{AllOf, AreOrdered, AreChained, AtOrAbove, IsLeafPage, IsUnder, next_bound, IsGoodTree}
use Rattle.im_theory_tree.specs.Search.{IsOnWay}
use Rattle.im_theory_tree.specs.Lookups.{IsLeafAhead, last_page, IsBehind}
use Rattle.im_theory_tree.proofs.Order.{before_below, after_above, ordered_right}
use Rattle.im_theory_tree.proofs.Frame.{AllOf-right}
use Rattle.im_theory_tree.proofs.LeafWalk.{entries_around}
use Rattle.im_theory_tree.proofs.LookupLemmas.{leaf_in_tree, leaves_are_leaves, not_past, past}
use Rattle.im_theory_tree.proofs.Counting.{leaves_counted}

-- ---- keys

pub below_yes : (a b : Key) → IsBelow a b → is_below a b ≡ true
below_yes a b h = past (Above a) b h

pub below_no : (a b : Key) → IsBelow b a → is_below a b ≡ false
below_no a b h = not_past (Above a) b h

pub below_is : (a b : Key) → is_below a b ≡ true → IsBelow a b
unfolding is_below
below_is a b h = by (key_order a b) refl h
  where
    by : (o : Ordering) → key_order a b ≡ o → is_lt o ≡ true → IsBelow a b
    by Less e t = record { less = e }
    by Equal e t = absurd (cc t)
    by Greater e t = absurd (cc t)

-- ---- the last of lists that are joined

-- entries above the key count for nothing
pub last_under : (k : Key) (es high : List Entry) → AllOf (λ (e : Entry). IsBelow k e.0) high → last_in k (es ++ high) ≡ last_in k es
last_under k [] [] h = refl
last_under k [] (e ∷ high) h = rw (below_no e.0 k h.0) refl
last_under k (e ∷ es) high h = ap (λ (o : Option Entry). cond (is_below e.0 k) (or_this e o) None) (last_under k es high h)

-- nor do entries of which none is below it
pub last_over : (k : Key) (low es : List Entry) → last_in k es ≡ None → last_in k (low ++ es) ≡ last_in k low
last_over k [] es none = none
last_over k (e ∷ low) es none = ap (λ (o : Option Entry). cond (is_below e.0 k) (or_this e o) None) (last_over k low es none)

-- after entries that are all below it the answer is that of the rest
pub last_behind : (k : Key) (low es : List Entry) (d : Entry) → AllOf (λ (e : Entry). IsBelow e.0 k) low → last_in k es ≡ Some d → last_in k (low ++ es) ≡ Some d
last_behind k [] es d h is = is
last_behind k (e ∷ low) es d h is = rw (below_yes e.0 k h.0) (ap (or_this e) (last_behind k low es d h.1 is))

-- what is found is below the key, and one of them
pub found_below : (k : Key) (es : List Entry) (d : Entry) (P : Entry → Type 0) → AllOf P es → last_in k es ≡ Some d → P d × IsBelow d.0 k
found_below k [] d P all is = absurd (cc is)
found_below k (e ∷ es) d P all is = by (is_below e.0 k) refl (last_in k es) (λ found. found_below k es d P all.1 found) is
  where
    by : (b : Bool) → is_below e.0 k ≡ b → (o : Option Entry) → (o ≡ Some d → P d × IsBelow d.0 k) → cond b (or_this e o) None ≡ Some d → P d × IsBelow d.0 k
    by false t o rec is = absurd (cc is)
    by true t None rec is = let same : e ≡ d = cc is in subst (λ (x : Entry). P x × IsBelow x.0 k) same (all.0, below_is e.0 k t)
    by true t (Some c) rec is = rec is

-- ---- the last of the leaves

pub split_last : (ns : List Node) → (ns ≡ []) ⊎ ((b : List Node) × (n : Node) × (ns ≡ b ++ n ∷ []))
split_last [] = inl refl
split_last (n ∷ ns) = by (split_last ns)
  where
    by : (ns ≡ []) ⊎ ((b : List Node) × (m : Node) × (ns ≡ b ++ m ∷ [])) → (n ∷ ns ≡ []) ⊎ ((b : List Node) × (m : Node) × (n ∷ ns ≡ b ++ m ∷ []))
    by (inl none) = inr ([], n, ap (λ (l : List Node). n ∷ l) none)
    by (inr (b, m, is)) = inr (n ∷ b, m, ap (λ (l : List Node). n ∷ l) is)

pub page_last : (p : ℕ) (b : List Node) (n : Node) → last_page p (b ++ n ∷ []) ≡ n.page
page_last p [] n = refl
page_last p (x ∷ b) n = page_last x.page b n

pub chained_last : (pages : Pages) (p : ℕ) (b : List Node) (n : Node) (rest : List Node) → AreChained pages p (b ++ n ∷ rest) → (pages n.page).prev ≡ last_page p b
chained_last pages p [] n rest h = h.0
chained_last pages p (x ∷ b) n rest h = chained_last pages x.page b n rest h.2

-- the leaf that stands after, with what is before and after it
pub record HasLast (pages : Pages) (k : Key) (passed p : ℕ) : Type 0 where
  pub before : List Node
  pub node : Node
  pub after : List Node
  pub leaves : leaves_under pages (height pages) the_root ≡ before ++ node ∷ after
  pub page : node.page ≡ p
  pub count : passed ≤ length after
  pub last : last_in k (walk pages) ≡ last_in k (entries_in pages before ++ (pages node.page).entries)

pub leaf_behind : (pages : Pages) (k : Key) (passed p : ℕ) → IsBehind pages k passed p → 1 ≤ p → HasLast pages k passed p
leaf_behind pages k passed p h some = by (split_last h.before)
  where
    by : (h.before ≡ []) ⊎ ((b : List Node) × (n : Node) × (h.before ≡ b ++ n ∷ [])) → HasLast pages k passed p
    by (inl none) = absurd (let zero_is : last_page 0 h.before ≡ 0 = ap (last_page 0) none in let page = h.page in omega (arith, zero_is, page, some))
    by (inr (b, n, is)) = record {
      before = b;
      node = n;
      after = h.rest;
      leaves = h.leaves ∙ ap (λ (l : List Node). l ++ h.rest) is ∙ append_assoc b (n ∷ []) h.rest;
      page = sym (page_last 0 b n) ∙ ap (last_page 0) (sym is) ∙ h.page;
      count = h.count;
      last = h.last ∙ ap (λ (l : List Node). last_in k (entries_in pages l)) is ∙ ap (last_in k) (entries_around pages b n [] ∙ ap (λ (l : List Entry). entries_in pages b ++ l) (append-nil (pages n.page).entries));
    }

pub behind_begins : (pages : Pages) (spare : List ℕ) (k : Key) (p : ℕ) → IsGoodTree pages spare → IsOnWay pages 0 k p → IsBehind pages k 0 p
behind_begins pages spare k p good way =
    let left = way.left in
    let n = way.node in
    let right = way.right in
    let ordered : AreOrdered pages (left ++ n ∷ right) = subst (AreOrdered pages) (sym way.leaves) good.ordered in
    let here = ordered_right pages left (n ∷ right) ordered in
    let high = after_above pages n.bound right k here.1 here.2 way.under in
    record {
      before = left ++ n ∷ [];
      rest = right;
      leaves = sym way.leaves ∙ sym (append_assoc left (n ∷ []) right);
      page = page_last 0 left n ∙ way.page;
      count = omega arith;
      last = ap (last_in k) (ap (entries_in pages) (sym way.leaves) ∙ entries_around pages left n right ∙ sym (append_assoc (entries_in pages left) (pages n.page).entries (entries_in pages right)))
          ∙ last_under k (entries_in pages left ++ (pages n.page).entries) (entries_in pages right) high
          ∙ ap (last_in k) (sym (entries_around pages left n [] ∙ ap (λ (l : List Entry). entries_in pages left ++ l) (append-nil (pages n.page).entries)));
    }

pub behind_goes_on : (pages : Pages) (spare : List ℕ) (k : Key) (passed p : ℕ) → IsGoodTree pages spare → IsBehind pages k passed p → 1 ≤ p → last_in k (pages p).entries ≡ None → IsBehind pages k (suc passed) (pages p).prev
behind_goes_on pages spare k passed p good h some none =
    let x = leaf_behind pages k passed p h some in
    let here : last_in k (pages x.node.page).entries ≡ None = subst (λ q. last_in k (pages q).entries ≡ None) (sym x.page) none in
    let chain : AreChained pages 0 (x.before ++ x.node ∷ x.after) = subst (AreChained pages 0) x.leaves good.chained in
    record {
      before = x.before;
      rest = x.node ∷ x.after;
      leaves = x.leaves;
      page = sym (chained_last pages 0 x.before x.node x.after chain) ∙ ap (λ q. (pages q).prev) x.page;
      count = omega (arith, x.count);
      last = x.last ∙ last_over k (entries_in pages x.before) (pages x.node.page).entries here;
    }

pub reached : (low : Option Key) (e : Entry) (k : Key) → AtOrAbove low e.0 → IsBelow e.0 k → AtOrAbove low k
reached None e k at less = tt
reached (Some b) e k (inl same) less = inr (subst (λ (x : Key). IsBelow x k) (sym same) less)
reached (Some b) e k (inr under) less = inr (below_trans b e.0 k under less)

pub behind_answers : (pages : Pages) (spare : List ℕ) (k : Key) (passed p : ℕ) (e : Entry) → IsGoodTree pages spare → IsBehind pages k passed p → 1 ≤ p → last_in k (pages p).entries ≡ Some e → last_in k (walk pages) ≡ Some e
behind_answers pages spare k passed p e good h some is =
    let x = leaf_behind pages k passed p h some in
    let here : last_in k (pages x.node.page).entries ≡ Some e = subst (λ q. last_in k (pages q).entries ≡ Some e) (sym x.page) is in
    let ordered : AreOrdered pages (x.before ++ x.node ∷ x.after) = subst (AreOrdered pages) x.leaves good.ordered in
    let range = (ordered_right pages x.before (x.node ∷ x.after) ordered).0 in
    let found = found_below k (pages x.node.page).entries e (λ (d : Entry). AtOrAbove x.node.bound d.0 × IsUnder d.0 (next_bound x.after)) range here in
    let low = before_below pages x.before x.after x.node k ordered (reached x.node.bound e k found.0.0 found.1) in
    x.last ∙ last_behind k (entries_in pages x.before) (pages x.node.page).entries e low here

pub behind_ends : (pages : Pages) (spare : List ℕ) (k : Key) (passed : ℕ) → IsGoodTree pages spare → IsBehind pages k passed 0 → last_in k (walk pages) ≡ None
behind_ends pages spare k passed good h = by (split_last h.before)
  where
    by : (h.before ≡ []) ⊎ ((b : List Node) × (n : Node) × (h.before ≡ b ++ n ∷ [])) → last_in k (walk pages) ≡ None
    by (inl none) = h.last ∙ ap (λ (l : List Node). last_in k (entries_in pages l)) none
    by (inr (b, n, is)) = absurd (
        let leaves : leaves_under pages (height pages) the_root ≡ b ++ n ∷ h.rest = h.leaves ∙ ap (λ (l : List Node). l ++ h.rest) is ∙ append_assoc b (n ∷ []) h.rest in
        let page : n.page ≡ 0 = sym (page_last 0 b n) ∙ ap (last_page 0) (sym is) ∙ h.page in
        let known = (leaf_in_tree pages spare b n h.rest good leaves).0 in
        omega (arith, page, known))

pub behind_is_leaf : (pages : Pages) (spare : List ℕ) (k : Key) (passed p : ℕ) → IsGoodTree pages spare → IsBehind pages k passed p → 1 ≤ p → IsLeafAhead pages passed p
behind_is_leaf pages spare k passed p good h some =
    let x = leaf_behind pages k passed p h some in
    let leaves : AllOf (IsLeafPage pages) (x.before ++ x.node ∷ x.after) = subst (AllOf (IsLeafPage pages)) x.leaves (leaves_are_leaves pages (height pages) the_root good.levels) in
    let here = (AllOf-right (IsLeafPage pages) x.before (x.node ∷ x.after) leaves).0 in
    record {
      kind = subst (λ q. (pages q).kind ≡ Leaf) x.page here.0;
      level = subst (λ q. (pages q).level ≡ 0) x.page here.1;
      known = subst (λ q. q < (pages 0).leftmost) x.page (leaf_in_tree pages spare x.before x.node x.after good x.leaves).1;
      few = omega (arith, x.count, leaves_counted pages spare good, ap (λ (ns : List Node). length ns) x.leaves, length-append x.before (x.node ∷ x.after));
    }
