-- A split of a leaf whose parent has room, at any height: the tree stays good, and the walk stays.
use Rattle.std.proofs.Common.{◌≡◌, ℕ, zero, suc, ◌+◌, ◌≤◌, Bool, true, false, List, [], ◌∷◌, ◌++◌, Some, None, refl, sym, ap, ap₂, subst, ◌∙◌, arith, nat_lt, if◌then◌else◌}
use Rattle.std.proofs.lemmas.List.{map-append}
use Rattle.im_theory_tree.specs.Good.{AllOf, IsLeafPage, IsInnerPage, HaveLevels, AreOrdered, first_page, AreChained, free_from, AreFree, times, IsGoodTree}
use Rattle.im_theory_tree.specs.Levels.{Pages, Node, below, leaves_under, pages_under, entries_in, the_root, height, walk, page_numbers, descend, lifted}
use Rattle.im_theory_tree.specs.Same.{SameTree, SameOn, SameLinks}
use Rattle.im_theory_tree.specs.Splits.{SplitsLeafOf}
use Rattle.im_base_types.specs.Pages.{Entry}
use Rattle.im_theory_tree.proofs.Frame.{AllOf-left, AllOf-right, AllOf-append}
use Rattle.im_theory_tree.proofs.Split.{below_put, below_was, walk_split_leaf}
use Rattle.im_theory_tree.proofs.Order.{ordered_right}
use Rattle.im_theory_tree.proofs.Keeps.{ordered_front, ordered_halves, leaf_pages_same, inner_pages_same, chained_front, rechained, times-append, free_same}
use Rattle.im_theory_tree.proofs.Descent.{pages_above, leaves_descend, pages_descend, descend_same, levels_descend, all_elsewhere, times-here}
use Rattle.im_theory_tree.proofs.PastCount.{past_kept}

-- the level of the leaves, before and after
abbrev pub front : Pages → List Node → List Node → List Node
front pages a before = below pages a ++ before

abbrev pub back : Pages → List Node → List Node → List Node
back pages b after = after ++ below pages b

abbrev pub the_new : ℕ → List ℕ → Node
the_new q s = record { bound = Some s; page = q }

-- how often each page stands in the parts of the tree
pub parts : (pages new : Pages) (spare : List ℕ) (d : ℕ) (a b : List Node) (parent : Node) (before after : List Node) (n : Node) (q : ℕ) (s : List ℕ)
    → SplitsLeafOf pages new spare d a b parent before after n q s → (x : ℕ)
    → times x (pages_under pages (height pages) the_root)
    ≡ times x (pages_above pages d the_root) + times x (page_numbers a) + times x (parent.page ∷ []) + times x (page_numbers b)
    + times x (page_numbers (front pages a before)) + times x (n.page ∷ []) + times x (page_numbers (back pages b after))
parts pages new spare d a b parent before after n q s h x =
    let f : Node → ℕ = λ y. y.page in
    let level = a ++ parent ∷ b in
    let leaves = below pages level in
    let one = ap (λ k. times x (pages_under pages k the_root)) h.tall ∙ ap (times x) (pages_descend pages d (suc zero) the_root)
    ∙ times-append x (pages_above pages d the_root) (pages_under pages (suc zero) (descend pages d the_root))
    ∙ ap (λ ns. times x (pages_above pages d the_root) + times x (pages_under pages (suc zero) ns)) h.at in
    let two = times-append x (page_numbers level) (page_numbers leaves) in
    let three = ap (times x) (map-append f a (parent ∷ b)) ∙ times-append x (page_numbers a) (page_numbers (parent ∷ b)) in
    let four = ap (λ ns. times x (page_numbers ns)) (below_was pages new a b parent before after n (s, q) h.put)
    ∙ ap (times x) (map-append f (front pages a before) (n ∷ back pages b after)) ∙ times-append x (page_numbers (front pages a before)) (page_numbers (n ∷ back pages b after)) in
    omega (arith, one, two, three, four)

-- no page stands twice
pub once : (pages new : Pages) (spare : List ℕ) (d : ℕ) (a b : List Node) (parent : Node) (before after : List Node) (n : Node) (q : ℕ) (s : List ℕ)
    → SplitsLeafOf pages new spare d a b parent before after n q s → (x : ℕ)
    → times x (pages_under pages (height pages) the_root) + times x (0 ∷ []) + times x (free_from pages (pages 0).prev (pages 0).next) + times x (q ∷ []) + times x spare ≤ 1
once pages new spare d a b parent before after n q s h x =
    let free = free_from pages (pages 0).prev (pages 0).next in
    let tree = pages_under pages (height pages) the_root in
    let one = times-append x (tree ++ free) (q ∷ spare) in
    let two = times-append x tree free in
    omega (arith, h.good.cover x, at_most (nat_lt x (pages 0).leftmost), one, two)
  where
    at_most : (t : Bool) → (if t then 1 else 0) ≤ 1
    at_most true = omega arith
    at_most false = omega arith

pub chained_right : (pages : Pages) (prev : ℕ) (a b : List Node) → AreChained pages prev (a ++ b) → (p : ℕ) × AreChained pages p b
chained_right pages prev [] b h = (prev, h)
chained_right pages prev (x ∷ a) b h = chained_right pages x.page a b h.2

-- the first page of a list, or 0
pub first_there : (ns : List Node) (x : ℕ) → x ≡ first_page ns → times x (page_numbers ns) ≡ 0 → x ≡ 0
first_there [] x e t = e
first_there (n ∷ ns) x e t = absurd (omega (arith, times-here n.page (page_numbers ns), ap (λ y. times y (page_numbers (n ∷ ns))) e))

pub leaves_are : (pages new : Pages) (spare : List ℕ) (d : ℕ) (a b : List Node) (parent : Node) (before after : List Node) (n : Node) (q : ℕ) (s : List ℕ)
    → SplitsLeafOf pages new spare d a b parent before after n q s
    → leaves_under pages (height pages) the_root ≡ front pages a before ++ n ∷ back pages b after
leaves_are pages new spare d a b parent before after n q s h =
    ap (λ k. leaves_under pages k the_root) h.tall ∙ leaves_descend pages d (suc zero) the_root ∙ ap (below pages) h.at
    ∙ below_was pages new a b parent before after n (s, q) h.put

pub only_one : (n p : Node) (a b : List Node) → n ∷ [] ≡ a ++ p ∷ b → n ≡ p
only_one n p [] b e = cc
only_one n p (x ∷ []) b e = cc
only_one n p (x ∷ y ∷ a) b e = cc

-- the height is that of the same page 1
pub height_same : (pages new : Pages) (d : ℕ) (a b : List Node) (parent : Node) → descend pages d the_root ≡ a ++ parent ∷ b → (new parent.page).level ≡ (pages parent.page).level
    → SameOn pages new (pages_above pages d the_root) → height new ≡ height pages
height_same pages new zero a b parent at level s =
    let root : Node = record { bound = None; page = 1 } in
    let is : root ≡ parent = only_one root parent a b at in
    let page : 1 ≡ parent.page = ap (λ (n : Node). n.page) is in
    subst (λ x. (new x).level ≡ (pages x).level) (sym page) level
height_same pages new (suc d) a b parent at level s = s.0.level

-- levels 1 and 0, where a node comes in after its left half
pub levels_put : (pages new : Pages) (a b : List Node) (parent : Node) (u v : List Node) (n m : Node) → SameOn pages new (page_numbers a) → SameOn pages new (page_numbers b)
    → SameOn pages new (page_numbers u) → SameOn pages new (page_numbers v)
    → (new parent.page).kind ≡ (pages parent.page).kind → (new parent.page).level ≡ (pages parent.page).level → IsLeafPage new n → IsLeafPage new m
    → below pages (a ++ parent ∷ b) ≡ u ++ n ∷ v → below new (a ++ parent ∷ b) ≡ u ++ n ∷ m ∷ v
    → HaveLevels pages (suc zero) (a ++ parent ∷ b) → HaveLevels new (suc zero) (a ++ parent ∷ b)
levels_put pages new a b parent u v n m sa sb su sv kind level left right was now h =
    let I : Pages → Node → Type 0 = λ ps. IsInnerPage ps (suc zero) in
    let i_b : AllOf (I pages) (parent ∷ b) = AllOf-right (I pages) a (parent ∷ b) h.0 in
    let leaves : AllOf (IsLeafPage pages) (u ++ n ∷ v) = subst (AllOf (IsLeafPage pages)) was h.1 in
    let l_v : AllOf (IsLeafPage pages) (n ∷ v) = AllOf-right (IsLeafPage pages) u (n ∷ v) leaves in (
      AllOf-append (I new) a (parent ∷ b) (inner_pages_same pages new (suc zero) a sa (AllOf-left (I pages) a (parent ∷ b) h.0))
          ((kind ∙ i_b.0.0, level ∙ i_b.0.1), inner_pages_same pages new (suc zero) b sb i_b.1),
      subst (AllOf (IsLeafPage new)) (sym now)
          (AllOf-append (IsLeafPage new) u (n ∷ m ∷ v) (leaf_pages_same pages new u su (AllOf-left (IsLeafPage pages) u (n ∷ v) leaves)) (left, (right, leaf_pages_same pages new v sv l_v.1))),
    )

pub free_links : (pages new : Pages) (qs : List ℕ) → SameOn pages new qs → AllOf (λ x. SameLinks (pages x) (new x)) qs
    → AllOf (λ q. ((new q).kind ≡ (pages q).kind) × ((new q).next ≡ (pages q).next)) qs
free_links pages new [] s l = tt
free_links pages new (q ∷ qs) s l = ((s.0.kind, l.0.next), free_links pages new qs s.1 l.1)

pub free_kept : (pages new : Pages) → SameLinks (pages 0) (new 0) → SameOn pages new (free_from pages (pages 0).prev (pages 0).next)
    → AllOf (λ x. SameLinks (pages x) (new x)) (free_from pages (pages 0).prev (pages 0).next) → AreFree pages (pages 0).prev (pages 0).next
    → (free_from new (new 0).prev (new 0).next ≡ free_from pages (pages 0).prev (pages 0).next) × AreFree new (new 0).prev (new 0).next
free_kept pages new z s l h =
    let same = free_same pages new (pages 0).prev (pages 0).next (free_links pages new (free_from pages (pages 0).prev (pages 0).next) s l) in
    (ap₂ (free_from new) z.prev z.next ∙ same.0, subst (λ n. AreFree new n (new 0).next) (sym z.prev) (subst (AreFree new (pages 0).prev) (sym z.next) (same.1 h)))

pub nonzero : (n : ℕ) → (n ≡ 0 → ⊥) → 1 ≤ n
nonzero zero f = absurd (f refl)
nonzero (suc n) f = omega arith

-- the page that was spare is in the tree now, and all else stands where it did
pub cover_after : (pages new : Pages) (spare : List ℕ) (d : ℕ) (a b : List Node) (parent : Node) (before after : List Node) (n : Node) (q : ℕ) (s : List ℕ)
    → SplitsLeafOf pages new spare d a b parent before after n q s → (fr bk : List Node) → (new 0).leftmost ≡ (pages 0).leftmost
    → height new ≡ lifted d (suc zero) → descend new d the_root ≡ descend pages d the_root → pages_above new d the_root ≡ pages_above pages d the_root
    → free_from new (new 0).prev (new 0).next ≡ free_from pages (pages 0).prev (pages 0).next
    → below new (a ++ parent ∷ b) ≡ fr ++ n ∷ the_new q s ∷ bk → fr ≡ front pages a before → bk ≡ back pages b after
    → (x : ℕ) → times x (0 ∷ pages_under new (height new) the_root ++ free_from new (new 0).prev (new 0).next ++ spare) ≡ (if nat_lt x (new 0).leftmost then 1 else 0)
cover_after pages new spare d a b parent before after n q s h fr bk leftmost tall down above free now is_fr is_bk x =
    let f : Node → ℕ = λ y. y.page in
    let level = a ++ parent ∷ b in
    let free_old = free_from pages (pages 0).prev (pages 0).next in
    let free_new = free_from new (new 0).prev (new 0).next in
    let tree_old = pages_under pages (height pages) the_root in
    let tree_new = pages_under new (height new) the_root in
    let one : times x tree_new ≡ times x (pages_above pages d the_root) + times x (pages_under new (suc zero) level) =
    ap (λ k. times x (pages_under new k the_root)) tall ∙ ap (times x) (pages_descend new d (suc zero) the_root)
    ∙ times-append x (pages_above new d the_root) (pages_under new (suc zero) (descend new d the_root))
    ∙ ap₂ (λ t ns. times x t + times x (pages_under new (suc zero) ns)) above (down ∙ h.at) in
    let two = times-append x (page_numbers level) (page_numbers (below new level)) in
    let three = ap (times x) (map-append f a (parent ∷ b)) ∙ times-append x (page_numbers a) (page_numbers (parent ∷ b)) in
    let four : times x (page_numbers (below new level)) ≡ times x (page_numbers (front pages a before)) + times x (n.page ∷ q ∷ page_numbers (back pages b after)) =
    ap (λ ns. times x (page_numbers ns)) now ∙ ap (times x) (map-append f fr (n ∷ the_new q s ∷ bk)) ∙ times-append x (page_numbers fr) (page_numbers (n ∷ the_new q s ∷ bk))
    ∙ ap₂ (λ u v. times x (page_numbers u) + times x (n.page ∷ q ∷ page_numbers v)) is_fr is_bk in
    let old1 = times-append x (tree_old ++ free_old) (q ∷ spare) in
    let old2 = times-append x tree_old free_old in
    let new1 = times-append x (tree_new ++ free_new) spare in
    let new2 = times-append x tree_new free_new in
    let same_free = ap (times x) free in
    let was : times x (0 ∷ tree_old ++ free_old ++ (q ∷ spare)) ≡ (if nat_lt x (new 0).leftmost then 1 else 0) = h.good.cover x ∙ ap (λ c. if nat_lt x c then 1 else 0) (sym leftmost) in
    let total : times x (0 ∷ tree_new ++ free_new ++ spare) ≡ times x (0 ∷ tree_old ++ free_old ++ (q ∷ spare)) =
    omega (arith, parts pages new spare d a b parent before after n q s h x, one, two, three, four, old1, old2, new1, new2, same_free) in
    total ∙ was

-- THE TREE STAYS GOOD, AND THE WALK STAYS
pub leaf_split : (pages new : Pages) (spare : List ℕ) (d : ℕ) (a b : List Node) (parent : Node) (before after : List Node) (n : Node) (q : ℕ) (s : List ℕ)
    → SplitsLeafOf pages new spare d a b parent before after n q s → IsGoodTree new spare × (walk new ≡ walk pages)
leaf_split pages new spare d a b parent before after n q s h =
    let m : Node = the_new q s in
    let sep : Entry = (s, q) in
    let changed : List ℕ = parent.page ∷ n.page ∷ q ∷ [] in
    let fr = front pages a before in
    let bk = back pages b after in
    let P : ℕ → Type 0 = λ x. SameTree (pages x) (new x) in
    let L : ℕ → Type 0 = λ x. SameLinks (pages x) (new x) in
    let free = free_from pages (pages 0).prev (pages 0).next in
    let split_parts = parts pages new spare d a b parent before after n q s h in
    let all_once = once pages new spare d a b parent before after n q s h in
    let s_above : SameOn pages new (pages_above pages d the_root) = all_elsewhere P changed (pages_above pages d the_root) h.others (λ x. omega (arith, split_parts x, all_once x)) in
    let s_a : SameOn pages new (page_numbers a) = all_elsewhere P changed (page_numbers a) h.others (λ x. omega (arith, split_parts x, all_once x)) in
    let s_b : SameOn pages new (page_numbers b) = all_elsewhere P changed (page_numbers b) h.others (λ x. omega (arith, split_parts x, all_once x)) in
    let s_fr : SameOn pages new (page_numbers fr) = all_elsewhere P changed (page_numbers fr) h.others (λ x. omega (arith, split_parts x, all_once x)) in
    let s_bk : SameOn pages new (page_numbers bk) = all_elsewhere P changed (page_numbers bk) h.others (λ x. omega (arith, split_parts x, all_once x)) in
    let s_free : SameOn pages new free = all_elsewhere P changed free h.others (λ x. omega (arith, split_parts x, all_once x)) in
    let s_zero : SameTree (pages 0) (new 0) = (all_elsewhere P changed (0 ∷ []) h.others (λ x. omega (arith, split_parts x, all_once x))).0 in
    let was = leaves_are pages new spare d a b parent before after n q s h in
    let chain : AreChained pages 0 (fr ++ n ∷ bk) = subst (AreChained pages 0) was h.good.chained in
    let ordered : AreOrdered pages (fr ++ n ∷ bk) = subst (AreOrdered pages) was h.good.ordered in
    let here = chained_right pages 0 fr (n ∷ bk) chain in
    let next_is : (pages n.page).next ≡ first_page bk = here.1.1 in
    let outside : List ℕ = n.page ∷ q ∷ page_numbers bk in
    let away : (x : ℕ) → times x outside ≡ 0 → L x = λ x t. h.links x (omega (arith, t)) (λ e. first_there bk x (e ∙ next_is) (omega (arith, t))) in
    let l_fr = all_elsewhere L outside (page_numbers fr) away (λ x. omega (arith, split_parts x, all_once x)) in
    let l_free = all_elsewhere L outside free away (λ x. omega (arith, split_parts x, all_once x)) in
    let l_zero : SameLinks (pages 0) (new 0) = h.links 0 (omega (arith, split_parts 0, all_once 0, times-here 0 [])) (λ e. refl) in
    let down = descend_same pages new d the_root s_above in
    let level : height new ≡ height pages = height_same pages new d a b parent h.at h.parent_level s_above in
    let now : leaves_under new (height new) the_root ≡ fr ++ n ∷ m ∷ bk =
    ap (λ k. leaves_under new k the_root) (level ∙ h.tall) ∙ leaves_descend new d (suc zero) the_root ∙ ap (below new) (down.0 ∙ h.at)
    ∙ below_put pages new a b parent before after n sep h.put s_a s_b in
    let neighbours : (r : Node) (rest : List Node) → bk ≡ r ∷ rest → ((new r.page).prev ≡ q) × ((new r.page).next ≡ (pages r.page).next) × AllOf L (page_numbers rest) =
    λ r rest e.
    let r_is : r.page ≡ (pages n.page).next = sym (next_is ∙ ap first_page e) in
    let count : (x : ℕ) → times x (page_numbers bk) ≡ times x (r.page ∷ page_numbers rest) = λ x. ap (λ ns. times x (page_numbers ns)) e in
    let positive : 1 ≤ r.page = nonzero r.page (λ z. omega (arith, split_parts 0, all_once 0, count 0, times-here 0 [], times-here 0 (page_numbers rest), ap (λ y. times 0 (y ∷ page_numbers rest)) z)) in
    let near = h.neighbour r.page r_is positive in
    let away_rest : (x : ℕ) → times x (n.page ∷ q ∷ r.page ∷ []) ≡ 0 → L x =
    λ x t. h.links x (omega (arith, t)) (λ z. absurd (omega (arith, t, ap (λ y. times y (r.page ∷ [])) (z ∙ sym r_is), times-here r.page []))) in
    (near.0, near.1, all_elsewhere L (n.page ∷ q ∷ r.page ∷ []) (page_numbers rest) away_rest (λ x. omega (arith, split_parts x, all_once x, count x))) in
    let freed = free_kept pages new l_zero s_free l_free h.good.free in
    let walks : walk new ≡ walk pages =
    ap (entries_in new) now ∙ walk_split_leaf pages new fr bk n m s (record { joined = h.halves.joined }) s_fr s_bk ∙ ap (entries_in pages) (sym was) in (
      record {
        meta = s_zero.kind ∙ h.good.meta;
        levels = subst (λ k. HaveLevels new k the_root) (sym (level ∙ h.tall))
            (levels_descend pages new d (suc zero) the_root s_above (subst (λ k. HaveLevels pages k the_root) h.tall h.good.levels)
            (λ have. subst (HaveLevels new (suc zero)) (sym h.at)
            (levels_put pages new a b parent fr bk n m s_a s_b s_fr s_bk h.parent_kind h.parent_level h.left h.right
            (below_was pages new a b parent before after n sep h.put) (below_put pages new a b parent before after n sep h.put s_a s_b)
            (subst (HaveLevels pages (suc zero)) h.at have))));
        ordered = subst (AreOrdered new) (sym now)
            (ordered_front pages new fr bk (m ∷ bk) n s_fr ordered
            (ordered_halves pages new bk n q s h.halves s_bk h.above (ordered_right pages fr (n ∷ bk) ordered)));
        chained = subst (AreChained new 0) (sym now)
            (chained_front pages new 0 fr bk (m ∷ bk) n l_fr chain
            (λ p e. (h.left_prev ∙ e, h.left_next, (h.right_prev, h.right_next ∙ next_is, rechained pages new n.page q bk here.1.2 neighbours))));
        free = freed.1;
        cover = λ x. cover_after pages new spare d a b parent before after n q s h fr bk s_zero.leftmost (level ∙ h.tall) down.0 down.1 freed.0
            (below_put pages new a b parent before after n sep h.put s_a s_b) refl refl x;
        past = past_kept pages new (q ∷ spare) changed h.good (omega (arith, s_zero.leftmost)) h.others (λ x none. omega (arith, split_parts x, none));
      },
      walks,
    )
