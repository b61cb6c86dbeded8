-- Look-ups on the walk: the value of a key, and the first entry past a start.
use Rattle.std.proofs.Common.{◌≡◌, ℕ, zero, suc, ◌+◌, ◌<◌, ◌≤◌, Bool, true, false, cond, not, List, [], ◌∷◌, ◌++◌, length, Option, Some, None, Ok, Err, refl, sym, ap, subst, ◌∙◌, arith, append_assoc, insert, remove}
use Rattle.std.specs.Ordering.{is_lt, eq_by_cmp}
use Rattle.std.specs.FinMap.Entries.{find}
use Rattle.std.proofs.lemmas.Cmp.{nat_list_cmp_total, tied_itself}
use Rattle.std.proofs.lemmas.List.{length-append, map-append}
use Rattle.im_base_types.specs.Keys.{Key, key_order, IsBelow}
use Rattle.im_base_types.specs.Pages.{Entry}
use Rattle.im_base_types.specs.declared.page_kind.PageKind.TheVariants.{Leaf, Inner}
use Rattle.im_base_types.specs.Maps.{Start, From, Above, is_below, is_past, first_in, with_key, without_key}
use Rattle.im_theory_page.specs.Entry.{entry_at, Rises, Parts, IsPlace}
use Rattle.im_theory_tree.proofs.Ascent.{all_at}
use Rattle.im_theory_tree.specs.Levels.{Pages, Node, below, leaves_under, pages_under, entries_in, the_root, height, walk, page_numbers, descend}
use Rattle.im_theory_tree.specs.Good.{AllOf, AreOrdered, AreChained, HaveLevels, IsLeafPage, IsInnerPage, first_page, times, IsGoodTree}
use Rattle.im_theory_tree.specs.Search.{IsOnWay}
use Rattle.im_theory_tree.specs.Lookups.{key_of, IsFirstAt, IsAhead, IsLeafAhead}
use Rattle.im_theory_tree.proofs.Order.{before_below, after_above, ordered_right}
use Rattle.im_theory_tree.proofs.Frame.{AllOf-right}
use Rattle.im_theory_tree.proofs.Keeps.{times-append}
use Rattle.im_theory_tree.proofs.Descent.{times-here, pages_above, pages_descend}
use Rattle.im_theory_tree.proofs.DropChild.{leaves_among}
use Rattle.im_theory_tree.proofs.LeafSplit.{chained_right}
use Rattle.im_theory_tree.proofs.KeyLemmas.{turned, differs_above, differs_below, find_behind, without_above}
use Rattle.im_theory_tree.proofs.LeafWalk.{entries_around}
use Rattle.im_theory_tree.proofs.Counting.{leaves_counted, below_count}

-- ---- the value of a key

find_none : (k : Key) (es : List Entry) → AllOf (λ (e : Entry). IsBelow k e.0) es → find key_order k es ≡ None
find_none k [] h = refl
find_none k (e ∷ es) h = rw (differs_above k e.0 h.0) (find_none k es h.1)

same_cond : (t : Bool) (x : Option ℕ) (y z : Option ℕ) → y ≡ z → cond t x y ≡ cond t x z
same_cond true x y z e = refl
same_cond false x y z e = e

find_within : (k : Key) (es high : List Entry) → AllOf (λ (e : Entry). IsBelow k e.0) high → find key_order k (es ++ high) ≡ find key_order k es
find_within k [] high h = find_none k high h
find_within k (e ∷ es) high h =
    same_cond (eq_by_cmp key_order k e.0) (Some e.1) (find key_order k (es ++ high)) (find key_order k es) (find_within k es high h)

-- the walk has of a key what its leaf has
pub leaf_value : (pages : Pages) (spare : List ℕ) (k : Key) (p : ℕ) → IsGoodTree pages spare → IsOnWay pages 0 k p → find key_order k (walk pages) ≡ find key_order k (pages p).entries
leaf_value pages spare k p good way =
    let left = way.left in
    let n = way.node in
    let right = way.right in
    let es = (pages n.page).entries in
    let ordered : AreOrdered pages (left ++ n ∷ right) = subst (AreOrdered pages) (sym way.leaves) good.ordered in
    let here = ordered_right pages left (n ∷ right) ordered in
    ap (find key_order k) (ap (entries_in pages) (sym way.leaves) ∙ entries_around pages left n right)
    ∙ find_behind k (entries_in pages left) (es ++ entries_in pages right) (before_below pages left right n k ordered way.at)
    ∙ find_within k es (entries_in pages right) (after_above pages n.bound right k here.1 here.2 way.under)
    ∙ ap (λ q. find key_order k (pages q).entries) way.page

-- ---- places

parts_behind : (e : Entry) (es : List Entry) (k : Key) (i from : ℕ) → Parts (e ∷ es) k (suc i) (suc from) → Parts es k i from
parts_behind e es k i from h = record { within = omega (arith, h.within); below = λ j lt. h.below (suc j) (omega arith); above = λ j le lt. h.above (suc j) (omega arith) (omega arith) }

parts_after : (e : Entry) (es : List Entry) (k : Key) → Parts (e ∷ es) k zero zero → Parts es k zero zero
parts_after e es k h = record { within = omega arith; below = λ j lt. absurd (omega arith); above = λ j le lt. h.above (suc j) (omega arith) (omega arith) }

rises_behind : (e : Entry) (es : List Entry) → Rises (e ∷ es) → Rises es
rises_behind e es h i j lt l = h (suc i) (suc j) (omega arith) (omega arith)

ties : (a : Key) → eq_by_cmp key_order a a ≡ true
ties a = rw (tied_itself nat_list_cmp_total a) refl

pub found_at : (es : List Entry) (k : Key) (i : ℕ) → Rises es → IsPlace es k (Ok i) → find key_order k es ≡ Some (entry_at es i).1
found_at [] k i rises h = absurd (omega (arith, h.0))
found_at (e ∷ es) k zero rises h = rw (← h.1, ties e.0) refl
found_at (e ∷ es) k (suc i) rises h =
    let below : IsBelow e.0 k = subst (λ (x : Key). IsBelow e.0 x) h.1 (rises zero (suc i) (omega arith) h.0) in
    rw (differs_below k e.0 below) (found_at es k i (rises_behind e es rises) (omega (arith, h.0), h.1))

pub absent_at : (es : List Entry) (k : Key) (i : ℕ) → IsPlace es k (Err i) → find key_order k es ≡ None
absent_at [] k i h = refl
absent_at (e ∷ es) k zero h = rw (differs_above k e.0 (h.above zero (omega arith) (omega arith))) (absent_at es k zero (parts_after e es k h))
absent_at (e ∷ es) k (suc i) h = rw (differs_below k e.0 (h.below zero (omega arith))) (absent_at es k i (parts_behind e es k i i h))

-- a key put where it would stand
pub put_at : (es : List Entry) (k : Key) (v i : ℕ) → IsPlace es k (Err i) → with_key k v es ≡ insert es i (k, v)
put_at [] k v zero h = refl
put_at [] k v (suc i) h = absurd (omega (arith, h.within))
put_at (e ∷ es) k v zero h = rw (h.above zero (omega arith) (omega arith)).less refl
put_at (e ∷ es) k v (suc i) h = rw (turned e.0 k (h.below zero (omega arith))) (ap (λ (l : List Entry). e ∷ l) (put_at es k v i (parts_behind e es k i i h)))

-- a key taken out where it stands
pub taken_at : (es : List Entry) (k : Key) (i : ℕ) → Rises es → IsPlace es k (Ok i) → without_key k es ≡ remove es i
taken_at [] k i rises h = absurd (omega (arith, h.0))
taken_at (e ∷ es) k zero rises h =
    subst (λ (x : Key). without_key x (e ∷ es) ≡ es) h.1
    (rw (ties e.0) (without_above e.0 es (all_at (λ (x : Entry). IsBelow e.0 x.0) es (λ j l. rises zero (suc j) (omega arith) (omega arith)))))
taken_at (e ∷ es) k (suc i) rises h =
    let below : IsBelow e.0 k = subst (λ (x : Key). IsBelow e.0 x) h.1 (rises zero (suc i) (omega arith) h.0) in
    rw (differs_below k e.0 below) (ap (λ (l : List Entry). e ∷ l) (taken_at es k i (rises_behind e es rises) (omega (arith, h.0), h.1)))

-- ---- past a start

is_below_yes : (a b : Key) → IsBelow a b → is_below a b ≡ true
unfolding is_below
is_below_yes a b h = ap is_lt h.less

is_below_no : (a b : Key) → IsBelow b a → is_below a b ≡ false
unfolding is_below
is_below_no a b h = ap is_lt (turned b a h)

pub is_below_itself : (a : Key) → is_below a a ≡ false
unfolding is_below
is_below_itself a = ap is_lt (tied_itself nat_list_cmp_total a)

pub past : (s : Start) (x : Key) → IsBelow (key_of s) x → is_past s x ≡ true
past (From k) x h = ap not (is_below_no x k h)
past (Above k) x h = is_below_yes k x h

pub not_past : (s : Start) (x : Key) → IsBelow x (key_of s) → is_past s x ≡ false
not_past (From k) x h = ap not (is_below_yes x k h)
not_past (Above k) x h = is_below_no k x h

pub first_behind : (s : Start) (low es : List Entry) → AllOf (λ (e : Entry). IsBelow e.0 (key_of s)) low → first_in s (low ++ es) ≡ first_in s es
first_behind s [] es h = refl
first_behind s (e ∷ low) es h = rw (not_past s e.0 h.0) (first_behind s low es h.1)

some_first : (t : Bool) (e d : Entry) (x y : Option Entry) → (x ≡ Some d → y ≡ Some d) → cond t (Some e) x ≡ Some d → cond t (Some e) y ≡ Some d
some_first true e d x y f h = h
some_first false e d x y f h = f h

pub first_within : (s : Start) (es high : List Entry) (d : Entry) → first_in s es ≡ Some d → first_in s (es ++ high) ≡ Some d
first_within s [] high d h = let none : None ≡ Some d = h in cc
first_within s (e ∷ es) high d h = some_first (is_past s e.0) e d (first_in s es) (first_in s (es ++ high)) (first_within s es high d) h

none_first : (t : Bool) (e : Entry) (x y z : Option Entry) → (x ≡ None → y ≡ z) → cond t (Some e) x ≡ None → cond t (Some e) y ≡ z
none_first true e x y z f h = let none : Some e ≡ None = h in cc
none_first false e x y z f h = f h

pub first_over : (s : Start) (es high : List Entry) → first_in s es ≡ None → first_in s (es ++ high) ≡ first_in s high
first_over s [] high h = refl
first_over s (e ∷ es) high h = none_first (is_past s e.0) e (first_in s es) (first_in s (es ++ high)) (first_in s high) (first_over s es high) h

-- where the key would stand, the first entry past it stands
pub first_at_gap : (s : Start) (es : List Entry) (i : ℕ) → IsPlace es (key_of s) (Err i) → IsFirstAt s es i
first_at_gap s [] i h = (λ lt. absurd (omega arith), λ le. refl)
first_at_gap s (e ∷ es) zero h = (λ lt. rw (past s e.0 (h.above zero (omega arith) (omega arith))) refl, λ le. absurd (omega arith))
first_at_gap s (e ∷ es) (suc i) h =
    let rest = first_at_gap s es i (parts_behind e es (key_of s) i i h) in
    let off = not_past s e.0 (h.below zero (omega arith)) in
    (λ lt. rw off (rest.0 (omega arith)), λ le. rw off (rest.1 (omega arith)))

-- where the key stands, the first entry at or above it is its own
pub first_at_key : (k : Key) (es : List Entry) (i : ℕ) → Rises es → IsPlace es k (Ok i) → first_in (From k) es ≡ Some (entry_at es i)
first_at_key k [] i rises h = absurd (omega (arith, h.0))
first_at_key k (e ∷ es) zero rises h =
    let here : is_past (From k) e.0 ≡ true = subst (λ (x : Key). is_past (From x) e.0 ≡ true) h.1 (ap not (is_below_itself e.0)) in
    rw here refl
first_at_key k (e ∷ es) (suc i) rises h =
    let below : IsBelow e.0 k = subst (λ (x : Key). IsBelow e.0 x) h.1 (rises zero (suc i) (omega arith) h.0) in
    rw (not_past (From k) e.0 below) (first_at_key k es i (rises_behind e es rises) (omega (arith, h.0), h.1))

first_of_rest : (k : Key) (e : Entry) (es : List Entry) → Rises (e ∷ es) → e.0 ≡ k → IsFirstAt (Above k) es 0
first_of_rest k e [] rises is = (λ lt. absurd (omega arith), λ le. refl)
first_of_rest k e (d ∷ es) rises is =
    let above : IsBelow k d.0 = subst (λ (x : Key). IsBelow x d.0) is (rises zero (suc zero) (omega arith) (omega arith)) in
    (λ lt. rw (past (Above k) d.0 above) refl, λ le. absurd (omega arith))

-- and the first above it is the next one
next_above_key : (k : Key) (es : List Entry) (i : ℕ) → Rises es → IsPlace es k (Ok i) → IsFirstAt (Above k) es (suc i)
next_above_key k [] i rises h = absurd (omega (arith, h.0))
next_above_key k (e ∷ es) zero rises h =
    let here : is_past (Above k) e.0 ≡ false = subst (λ (x : Key). is_past (Above x) e.0 ≡ false) h.1 (is_below_itself e.0) in
    let rest = first_of_rest k e es rises h.1 in
    (λ lt. rw here (rest.0 (omega arith)), λ le. rw here (rest.1 (omega arith)))
next_above_key k (e ∷ es) (suc i) rises h =
    let below : IsBelow e.0 k = subst (λ (x : Key). IsBelow e.0 x) h.1 (rises zero (suc i) (omega arith) h.0) in
    let off = not_past (Above k) e.0 below in
    let rest = next_above_key k es i (rises_behind e es rises) (omega (arith, h.0), h.1) in
    (λ lt. rw off (rest.0 (omega arith)), λ le. rw off (rest.1 (omega arith)))

pub first_above_key : (k : Key) (es : List Entry) (i : ℕ) → Rises es → IsPlace es k (Ok i) → IsFirstAt (Above k) es (i + 1)
first_above_key k es i rises h = let next : suc i ≡ i + 1 = omega arith in subst (IsFirstAt (Above k) es) next (next_above_key k es i rises h)

-- ---- along the chain

-- the search for a start begins at the leaf of its key
pub ahead_begins : (pages : Pages) (spare : List ℕ) (s : Start) (p : ℕ) → IsGoodTree pages spare → IsOnWay pages 0 (key_of s) p → IsAhead pages s 0 p
ahead_begins pages spare s p good way =
    let left = way.left in
    let n = way.node in
    let right = way.right in
    let ordered : AreOrdered pages (left ++ n ∷ right) = subst (AreOrdered pages) (sym way.leaves) good.ordered in
    record {
      before = left;
      rest = n ∷ right;
      leaves = sym way.leaves;
      page = way.page;
      count = omega arith;
      first = ap (first_in s) (ap (entries_in pages) (sym way.leaves) ∙ entries_around pages left n right)
          ∙ first_behind s (entries_in pages left) ((pages n.page).entries ++ entries_in pages right) (before_below pages left right n (key_of s) ordered way.at);
    }

-- the leaf that stands ahead, with what is before and after it
pub record HasLeaf (pages : Pages) (s : Start) (passed p : ℕ) : Type 0 where
  pub before : List Node
  pub node : Node
  pub after : List Node
  pub leaves : leaves_under pages (height pages) the_root ≡ before ++ node ∷ after
  pub page : node.page ≡ p
  pub count : passed ≤ length before
  pub first : first_in s (walk pages) ≡ first_in s ((pages node.page).entries ++ entries_in pages after)

leaf_ahead_in : (pages : Pages) (s : Start) (passed p : ℕ) (before rest : List Node) → leaves_under pages (height pages) the_root ≡ before ++ rest → first_page rest ≡ p
    → passed ≤ length before → first_in s (walk pages) ≡ first_in s (entries_in pages rest) → 1 ≤ p → HasLeaf pages s passed p
leaf_ahead_in pages s passed p before [] leaves page count first some = absurd (omega (arith, page, some))
leaf_ahead_in pages s passed p before (n ∷ after) leaves page count first some =
    record { before = before; node = n; after = after; leaves = leaves; page = page; count = count; first = first }

pub leaf_ahead : (pages : Pages) (s : Start) (passed p : ℕ) → IsAhead pages s passed p → 1 ≤ p → HasLeaf pages s passed p
leaf_ahead pages s passed p h some = leaf_ahead_in pages s passed p h.before h.rest h.leaves h.page h.count h.first some

-- it goes on to the next leaf where this one has no entry past the start
pub ahead_goes_on : (pages : Pages) (spare : List ℕ) (s : Start) (passed p : ℕ) → IsGoodTree pages spare → IsAhead pages s passed p → 1 ≤ p → first_in s (pages p).entries ≡ None
    → IsAhead pages s (suc passed) (pages p).next
ahead_goes_on pages spare s passed p good h some none =
    let x = leaf_ahead pages s passed p h some in
    let here : first_in s (pages x.node.page).entries ≡ None = subst (λ q. first_in s (pages q).entries ≡ None) (sym x.page) none in
    let chain = chained_right pages 0 x.before (x.node ∷ x.after) (subst (AreChained pages 0) x.leaves good.chained) in
    let next : (pages x.node.page).next ≡ first_page x.after = chain.1.1 in
    record {
      before = x.before ++ x.node ∷ [];
      rest = x.after;
      leaves = x.leaves ∙ sym (append_assoc x.before (x.node ∷ []) x.after);
      page = sym next ∙ ap (λ q. (pages q).next) x.page;
      count = omega (arith, x.count, length-append x.before (x.node ∷ []));
      first = x.first ∙ first_over s (pages x.node.page).entries (entries_in pages x.after) here;
    }

-- the leaf's first entry past the start is the walk's
pub ahead_answers : (pages : Pages) (s : Start) (passed p : ℕ) (e : Entry) → IsAhead pages s passed p → 1 ≤ p → first_in s (pages p).entries ≡ Some e → first_in s (walk pages) ≡ Some e
ahead_answers pages s passed p e h some is =
    let x = leaf_ahead pages s passed p h some in
    x.first ∙ first_within s (pages x.node.page).entries (entries_in pages x.after) e (subst (λ q. first_in s (pages q).entries ≡ Some e) (sym x.page) is)

leaf_times : (pages : Pages) (before : List Node) (n : Node) (after : List Node) (x : ℕ) → n.page ≡ x → 1 ≤ times x (page_numbers (before ++ n ∷ after))
leaf_times pages before n after x e =
    omega (
      arith,
      ap (times x) (map-append (λ (m : Node). m.page) before (n ∷ after)) ∙ times-append x (page_numbers before) (page_numbers (n ∷ after)),
      times-here x (page_numbers after),
      ap (λ y. times x (y ∷ page_numbers after)) e,
    )

-- a leaf of the tree: a page below the page count, and not the meta page
pub leaf_in_tree : (pages : Pages) (spare : List ℕ) (before : List Node) (n : Node) (after : List Node) → IsGoodTree pages spare → leaves_under pages (height pages) the_root ≡ before ++ n ∷ after
    → (1 ≤ n.page) × (n.page < (pages 0).leftmost)
leaf_in_tree pages spare before n after good leaves =
    below_count pages spare n.page good
    (omega (arith, leaves_among pages (height pages) the_root n.page, ap (λ ns. times n.page (page_numbers ns)) leaves, leaf_times pages before n after n.page refl))

-- after the last leaf nothing is left
pub ahead_ends : (pages : Pages) (spare : List ℕ) (s : Start) (passed : ℕ) → IsGoodTree pages spare → IsAhead pages s passed 0 → first_in s (walk pages) ≡ None
ahead_ends pages spare s passed good h = end h.rest h.leaves h.page h.first
  where
    end : (rest : List Node) → leaves_under pages (height pages) the_root ≡ h.before ++ rest → first_page rest ≡ 0 → first_in s (walk pages) ≡ first_in s (entries_in pages rest)
        → first_in s (walk pages) ≡ None
    end [] leaves page first = first
    end (n ∷ after) leaves page first = absurd (omega (arith, page, (leaf_in_tree pages spare h.before n after good leaves).0))

pub leaves_are_leaves : (pages : Pages) (h : ℕ) (ns : List Node) → HaveLevels pages h ns → AllOf (IsLeafPage pages) (leaves_under pages h ns)
leaves_are_leaves pages zero ns have = have
leaves_are_leaves pages (suc h) ns have = leaves_are_leaves pages h (below pages ns) have.1

-- the page ahead is a leaf below the page count, and fewer leaves than pages have been passed
pub ahead_is_leaf : (pages : Pages) (spare : List ℕ) (s : Start) (passed p : ℕ) → IsGoodTree pages spare → IsAhead pages s passed p → 1 ≤ p → IsLeafAhead pages passed p
ahead_is_leaf pages spare s passed p good h some =
    let x = leaf_ahead pages s passed p h some in
    let leaves : AllOf (IsLeafPage pages) (x.before ++ x.node ∷ x.after) =
    subst (AllOf (IsLeafPage pages)) x.leaves (leaves_are_leaves pages (height pages) the_root good.levels) in
    let here = (AllOf-right (IsLeafPage pages) x.before (x.node ∷ x.after) leaves).0 in
    record {
      kind = subst (λ q. (pages q).kind ≡ Leaf) x.page here.0;
      level = subst (λ q. (pages q).level ≡ 0) x.page here.1;
      known = subst (λ q. q < (pages 0).leftmost) x.page (leaf_in_tree pages spare x.before x.node x.after good x.leaves).1;
      few = omega (arith, x.count, leaves_counted pages spare good, ap (λ (ns : List Node). length ns) x.leaves, length-append x.before (x.node ∷ x.after));
    }

-- ---- the pages on the way

pub level_times : (pages : Pages) (k : ℕ) (ns : List Node) (x : ℕ) → times x (page_numbers ns) ≤ times x (pages_under pages k ns)
level_times pages zero ns x = omega arith
level_times pages (suc k) ns x = omega (arith, times-append x (page_numbers ns) (pages_under pages k (below pages ns)))

-- a page on the way is below the page count, and not the meta page
pub way_known : (pages : Pages) (spare : List ℕ) (k : ℕ) (key : Key) (p : ℕ) → IsGoodTree pages spare → IsOnWay pages k key p → (1 ≤ p) × (p < (pages 0).leftmost)
way_known pages spare k key p good way =
    let level = way.left ++ way.node ∷ way.right in
    below_count pages spare p good
    (omega (
      arith,
      leaf_times pages way.left way.node way.right p way.page,
      level_times pages k level p,
      ap (λ h. times p (pages_under pages h the_root)) way.tall ∙ ap (times p) (pages_descend pages way.above k the_root)
          ∙ times-append p (pages_above pages way.above the_root) (pages_under pages k (descend pages way.above the_root))
          ∙ ap (λ ns. times p (pages_above pages way.above the_root) + times p (pages_under pages k ns)) way.down,
    ))

-- a page on the way is of its level
pub way_leaf : (pages : Pages) (key : Key) (p : ℕ) → IsOnWay pages zero key p → ((pages p).kind ≡ Leaf) × ((pages p).level ≡ 0)
way_leaf pages key p way =
    let here = (AllOf-right (IsLeafPage pages) way.left (way.node ∷ way.right) way.levels).0 in
    (subst (λ q. (pages q).kind ≡ Leaf) way.page here.0, subst (λ q. (pages q).level ≡ 0) way.page here.1)

pub way_inner : (pages : Pages) (k : ℕ) (key : Key) (p : ℕ) → IsOnWay pages (suc k) key p → ((pages p).kind ≡ Inner) × ((pages p).level ≡ suc k)
way_inner pages k key p way =
    let here = (AllOf-right (IsInnerPage pages (suc k)) way.left (way.node ∷ way.right) way.levels.0).0 in
    (subst (λ q. (pages q).kind ≡ Inner) way.page here.0, subst (λ q. (pages q).level ≡ suc k) way.page here.1)
