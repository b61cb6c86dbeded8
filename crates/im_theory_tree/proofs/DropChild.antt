-- An empty leaf goes, with the pages above it that have no other child: the tree stays good, and the walk stays.
use Rattle.std.proofs.Common.{◌≡◌, ℕ, zero, suc, ◌+◌, ◌≤◌, List, [], ◌∷◌, ◌++◌, map, refl, sym, ap, ap₂, subst, ◌∙◌, append_assoc, arith, nat_lt, if◌then◌else◌}
use Rattle.std.proofs.lemmas.List.{map-append}
use Rattle.std.proofs.lemmas.List.Concat.{flat_map-append}
use Rattle.im_theory_tree.specs.Deletions.{IsBare, bare_leaf, DropsChildOf}
use Rattle.im_theory_tree.specs.Good.{AllOf, IsLeafPage, IsInnerPage, HaveLevels, AreOrdered, first_page, AreChained, free_from, times, IsGoodTree}
use Rattle.im_theory_tree.specs.Levels.{Pages, Node, child_of, children, below, leaves_under, pages_under, entries_in, the_root, height, walk, page_numbers, descend, lifted}
use Rattle.im_theory_tree.specs.Same.{SameTree, SameOn, SameLinks}
use Rattle.im_theory_tree.proofs.Frame.{AllOf-left, AllOf-right, AllOf-append, below_same, leaves_same, pages_same, leaf_pages, leaves_under-append}
use Rattle.im_theory_tree.proofs.Keeps.{levels_same, inner_pages_same, chained_front, rechained, times-append}
use Rattle.im_theory_tree.proofs.Descent.{pages_above, leaves_descend, pages_descend, descend_same, levels_descend, all_elsewhere, times-here}
use Rattle.im_theory_tree.proofs.LeafSplit.{height_same, free_kept, first_there, nonzero, chained_right}
use Rattle.im_theory_tree.proofs.PastCount.{past_kept}
use Rattle.im_theory_tree.proofs.InnerSplit.{good_once}
use Rattle.im_theory_tree.proofs.DropLeaf.{walk_drop, ordered_drop}

pub times_under-append : (pages : Pages) (h : ℕ) (u v : List Node) (x : ℕ) → times x (pages_under pages h (u ++ v)) ≡ times x (pages_under pages h u) + times x (pages_under pages h v)
times_under-append pages zero u v x = ap (times x) (map-append (λ (n : Node). n.page) u v) ∙ times-append x (page_numbers u) (page_numbers v)
times_under-append pages (suc h) u v x =
    let f : Node → ℕ = λ n. n.page in
    omega (
      arith,
      times-append x (page_numbers (u ++ v)) (pages_under pages h (below pages (u ++ v))),
      ap (times x) (map-append f u v) ∙ times-append x (page_numbers u) (page_numbers v),
      ap (λ ns. times x (pages_under pages h ns)) (flat_map-append (children pages) u v) ∙ times_under-append pages h (below pages u) (below pages v) x,
      times-append x (page_numbers u) (pages_under pages h (below pages u)),
      times-append x (page_numbers v) (pages_under pages h (below pages v)),
    )

pub levels-append : (pages : Pages) (h : ℕ) (u v : List Node) → HaveLevels pages h u → HaveLevels pages h v → HaveLevels pages h (u ++ v)
levels-append pages zero u v a b = AllOf-append (IsLeafPage pages) u v a b
levels-append pages (suc h) u v a b =
    (AllOf-append (IsInnerPage pages (suc h)) u v a.0 b.0, subst (HaveLevels pages h) (sym (flat_map-append (children pages) u v)) (levels-append pages h (below pages u) (below pages v) a.1 b.1))

pub levels-left : (pages : Pages) (h : ℕ) (u v : List Node) → HaveLevels pages h (u ++ v) → HaveLevels pages h u
levels-left pages zero u v a = AllOf-left (IsLeafPage pages) u v a
levels-left pages (suc h) u v a = (AllOf-left (IsInnerPage pages (suc h)) u v a.0, levels-left pages h (below pages u) (below pages v) (subst (HaveLevels pages h) (flat_map-append (children pages) u v) a.1))

pub levels-right : (pages : Pages) (h : ℕ) (u v : List Node) → HaveLevels pages h (u ++ v) → HaveLevels pages h v
levels-right pages zero u v a = AllOf-right (IsLeafPage pages) u v a
levels-right pages (suc h) u v a = (AllOf-right (IsInnerPage pages (suc h)) u v a.0, levels-right pages h (below pages u) (below pages v) (subst (HaveLevels pages h) (flat_map-append (children pages) u v) a.1))

-- a bare page has one leaf under it, without entries
pub bare_leaves : (pages : Pages) (h : ℕ) (c : Node) → IsBare pages h c → (leaves_under pages h (c ∷ []) ≡ bare_leaf pages h c ∷ []) × ((pages (bare_leaf pages h c).page).entries ≡ [])
bare_leaves pages zero c h = (refl, h)
bare_leaves pages (suc l) c h =
    let d : Node = record { bound = c.bound; page = (pages c.page).leftmost } in
    let one : below pages (c ∷ []) ≡ d ∷ [] = ap (λ es. (d ∷ map child_of es) ++ []) h.0 in
    let rest = bare_leaves pages l d h.1 in
    (ap (leaves_under pages l) one ∙ rest.0, rest.1)

pub last_of : (n : Node) (ns : List Node) → (u : List Node) × (m : Node) × (n ∷ ns ≡ u ++ m ∷ [])
last_of n [] = ([], n, refl)
last_of n (m ∷ ns) = let r = last_of m ns in (n ∷ r.0, r.1, ap (λ t. n ∷ t) r.2)

-- under a node stands a leaf
pub some_leaf : (pages : Pages) (h : ℕ) (n : Node) (ns : List Node) → (u : List Node) × (m : Node) × (leaves_under pages h (n ∷ ns) ≡ u ++ m ∷ [])
some_leaf pages zero n ns = last_of n ns
some_leaf pages (suc h) n ns = some_leaf pages h (record { bound = n.bound; page = (pages n.page).leftmost }) (map child_of (pages n.page).entries ++ below pages ns)

-- the leaves are among the pages
pub leaves_among : (pages : Pages) (h : ℕ) (ns : List Node) (x : ℕ) → times x (page_numbers (leaves_under pages h ns)) ≤ times x (pages_under pages h ns)
leaves_among pages zero ns x = omega arith
leaves_among pages (suc h) ns x = omega (arith, leaves_among pages h (below pages ns) x, times-append x (page_numbers ns) (pages_under pages h (below pages ns)))

-- the chain closes over a leaf that goes
pub chain_over : (pages new : Pages) (u w : List Node) (m leaf : Node) → AreChained pages 0 (u ++ m ∷ leaf ∷ w) → AllOf (λ x. SameLinks (pages x) (new x)) (page_numbers u)
    → ((new m.page).next ≡ (pages leaf.page).next) → ((new m.page).prev ≡ (pages m.page).prev)
    → ((r : Node) (rest : List Node) → w ≡ r ∷ rest → ((new r.page).prev ≡ m.page) × ((new r.page).next ≡ (pages r.page).next) × AllOf (λ x. SameLinks (pages x) (new x)) (page_numbers rest))
    → AreChained new 0 (u ++ m ∷ w)
chain_over pages new u w m leaf h lu next prev f =
    let here = chained_right pages 0 u (m ∷ leaf ∷ w) h in
    chained_front pages new 0 u (leaf ∷ w) w m lu h (λ p e. (prev ∙ e, next ∙ here.1.2.1, rechained pages new leaf.page m.page w here.1.2.2 f))

-- A leaf without entries is gone from after another: the tree is good, with the same walk.
pub record IsGone (pages new : Pages) (spare : List ℕ) (leaf : Node) : Type 0 where
  pub good : IsGoodTree new spare
  pub same : walk new ≡ walk pages
  pub front : List Node
  pub last : Node
  pub back : List Node
  pub was : leaves_under pages (height pages) the_root ≡ front ++ last ∷ leaf ∷ back
  pub now : leaves_under new (height new) the_root ≡ front ++ last ∷ back

pub child_gone : (pages new : Pages) (spare : List ℕ) (d h : ℕ) (a b : List Node) (parent : Node) (before after : List Node) (last c : Node)
    → DropsChildOf pages new spare d h a b parent before after last c → IsGone pages new (pages_under pages h (c ∷ []) ++ spare) (bare_leaf pages h c)
child_gone pages new spare d h a b parent before after last c s =
    let f : Node → ℕ = λ y. y.page in
    let P : ℕ → Type 0 = λ x. SameTree (pages x) (new x) in
    let L : ℕ → Type 0 = λ x. SameLinks (pages x) (new x) in
    let level = a ++ parent ∷ b in
    let gone = pages_under pages h (c ∷ []) in
    let changed : List ℕ = parent.page ∷ gone in
    let fr = below pages a ++ (before ++ last ∷ []) in
    let bk = after ++ below pages b in
    let leaf = bare_leaf pages h c in
    let free = free_from pages (pages 0).prev (pages 0).next in
    let tree = pages_under pages (height pages) the_root in
    let joined : (t : List Node) → before ++ last ∷ t ≡ (before ++ last ∷ []) ++ t = λ t. sym (append_assoc before (last ∷ []) t) in
    let was : below pages level ≡ fr ++ c ∷ bk =
    flat_map-append (children pages) a (parent ∷ b)
    ∙ ap (λ cs. below pages a ++ (cs ++ below pages b)) (s.was ∙ joined (c ∷ after))
    ∙ ap (λ cs. below pages a ++ cs) (append_assoc (before ++ last ∷ []) (c ∷ after) (below pages b))
    ∙ sym (append_assoc (below pages a) (before ++ last ∷ []) (c ∷ bk)) in
    let all_once = good_once pages spare s.good in
    let in_level : (x : ℕ) → times x (page_numbers level) ≡ times x (page_numbers a) + times x (parent.page ∷ page_numbers b) =
    λ x. ap (times x) (map-append f a (parent ∷ b)) ∙ times-append x (page_numbers a) (page_numbers (parent ∷ b)) in
    let part : (x : ℕ) → times x tree ≡ times x (pages_above pages d the_root) + (times x (page_numbers level)
    + (times x (pages_under pages h fr) + (times x gone + times x (pages_under pages h bk)))) =
    λ x. ap (λ k. times x (pages_under pages k the_root)) s.tall ∙ ap (times x) (pages_descend pages d (suc h) the_root)
    ∙ times-append x (pages_above pages d the_root) (pages_under pages (suc h) (descend pages d the_root))
    ∙ ap (λ ns. times x (pages_above pages d the_root) + times x (pages_under pages (suc h) ns)) s.at
    ∙ ap (λ t. times x (pages_above pages d the_root) + t)
    (times-append x (page_numbers level) (pages_under pages h (below pages level))
    ∙ ap (λ ns. times x (page_numbers level) + times x (pages_under pages h ns)) was
    ∙ ap (λ t. times x (page_numbers level) + t) (times_under-append pages h fr (c ∷ bk) x
    ∙ ap (λ t. times x (pages_under pages h fr) + t) (times_under-append pages h (c ∷ []) bk x))) in
    let s_above = all_elsewhere P changed (pages_above pages d the_root) s.others (λ x. omega (arith, part x, all_once x, in_level x)) in
    let s_a = all_elsewhere P changed (page_numbers a) s.others (λ x. omega (arith, part x, all_once x, in_level x)) in
    let s_b = all_elsewhere P changed (page_numbers b) s.others (λ x. omega (arith, part x, all_once x, in_level x)) in
    let s_fr = all_elsewhere P changed (pages_under pages h fr) s.others (λ x. omega (arith, part x, all_once x, in_level x)) in
    let s_bk = all_elsewhere P changed (pages_under pages h bk) s.others (λ x. omega (arith, part x, all_once x, in_level x)) in
    let s_free = all_elsewhere P changed free s.others (λ x. omega (arith, part x, all_once x, in_level x)) in
    let s_zero : SameTree (pages 0) (new 0) = (all_elsewhere P changed (0 ∷ []) s.others (λ x. omega (arith, part x, all_once x, in_level x))).0 in
    let down = descend_same pages new d the_root s_above in
    let tall : height new ≡ lifted d (suc h) = height_same pages new d a b parent s.at s.parent_level s_above ∙ s.tall in
    let at_new : descend new d the_root ≡ level = down.0 ∙ s.at in
    let now : below new level ≡ fr ++ bk =
    flat_map-append (children new) a (parent ∷ b)
    ∙ ap₂ ◌++◌ (below_same pages new a s_a) (ap₂ ◌++◌ (s.now ∙ joined after) (below_same pages new b s_b) ∙ append_assoc (before ++ last ∷ []) after (below pages b))
    ∙ sym (append_assoc (below pages a) (before ++ last ∷ []) bk) in
    let bare = bare_leaves pages h c s.bare in
    let lf = leaves_under pages h fr in
    let lb = leaves_under pages h bk in
    let leaves_was : leaves_under pages (height pages) the_root ≡ lf ++ leaf ∷ lb =
    ap (λ k. leaves_under pages k the_root) s.tall ∙ leaves_descend pages d (suc h) the_root ∙ ap (leaves_under pages (suc h)) s.at ∙ ap (leaves_under pages h) was
    ∙ leaves_under-append pages h fr (c ∷ bk) ∙ ap (λ t. lf ++ t) (leaves_under-append pages h (c ∷ []) bk ∙ ap (λ t. t ++ lb) bare.0) in
    let leaves_now : leaves_under new (height new) the_root ≡ lf ++ lb =
    ap (λ k. leaves_under new k the_root) tall ∙ leaves_descend new d (suc h) the_root ∙ ap (leaves_under new (suc h)) at_new ∙ ap (leaves_under new h) now
    ∙ leaves_under-append new h fr bk ∙ ap₂ ◌++◌ (leaves_same pages new h fr s_fr) (leaves_same pages new h bk s_bk) in
    let t_lf = leaf_pages pages P h fr s_fr in
    let t_lb = leaf_pages pages P h bk s_bk in
    let walks : walk new ≡ walk pages =
    ap (entries_in new) leaves_now ∙ walk_drop pages new lf lb leaf bare.1 t_lf t_lb ∙ ap (entries_in pages) (sym leaves_was) in
    let some = some_leaf pages h last [] in
    let head = below pages a ++ before in
    let u = leaves_under pages h head ++ some.0 in
    let m : Node = some.1 in
    let lf_is : lf ≡ u ++ m ∷ [] =
    ap (leaves_under pages h) (sym (append_assoc (below pages a) before (last ∷ []))) ∙ leaves_under-append pages h head (last ∷ [])
    ∙ ap (λ t. leaves_under pages h head ++ t) some.2 ∙ sym (append_assoc (leaves_under pages h head) some.0 (m ∷ [])) in
    let split_was : (t : List Node) → lf ++ t ≡ u ++ m ∷ t = λ t. ap (λ v. v ++ t) lf_is ∙ append_assoc u (m ∷ []) t in
    let chain : AreChained pages 0 (u ++ m ∷ leaf ∷ lb) = subst (AreChained pages 0) (leaves_was ∙ split_was (leaf ∷ lb)) s.good.chained in
    let ordered : AreOrdered pages (u ++ m ∷ leaf ∷ lb) = subst (AreOrdered pages) (leaves_was ∙ split_was (leaf ∷ lb)) s.good.ordered in
    let t_um : SameOn pages new (page_numbers (u ++ m ∷ [])) = subst (λ v. SameOn pages new (page_numbers v)) lf_is t_lf in
    let here = chained_right pages 0 u (m ∷ leaf ∷ lb) chain in
    let m_next : (pages m.page).next ≡ leaf.page = here.1.1 in
    let leaf_prev : (pages leaf.page).prev ≡ m.page = here.1.2.0 in
    let leaf_next : (pages leaf.page).next ≡ first_page lb = here.1.2.1 in
    let in_lf : (x : ℕ) → times x (page_numbers u) + times x (m.page ∷ []) ≤ times x (pages_under pages h fr) =
    λ x. omega (arith, leaves_among pages h fr x, ap (λ v. times x (page_numbers v)) lf_is, ap (times x) (map-append f u (m ∷ [])) ∙ times-append x (page_numbers u) (page_numbers (m ∷ []))) in
    let in_lb : (x : ℕ) → times x (page_numbers lb) ≤ times x (pages_under pages h bk) = λ x. leaves_among pages h bk x in
    -- a page that is not gone, not m and not the first of lb keeps its links
    let outside : List ℕ = gone ++ (m.page ∷ page_numbers lb) in
    let away : (x : ℕ) → times x outside ≡ 0 → L x =
    λ x t.
    let two = times-append x gone (m.page ∷ page_numbers lb) in
    s.links x (omega arith) (λ e. absurd (omega (arith, two, t, ap (λ y. times y (m.page ∷ [])) (e ∙ leaf_prev), times-here m.page [])))
    (λ e. first_there lb x (e ∙ leaf_next) (omega arith)) in
    let outside_is : (x : ℕ) → times x outside ≡ times x gone + (times x (m.page ∷ []) + times x (page_numbers lb)) =
    λ x. omega (arith, times-append x gone (m.page ∷ page_numbers lb)) in
    let l_u = all_elsewhere L outside (page_numbers u) away (λ x. omega (arith, part x, all_once x, in_lf x, in_lb x, outside_is x)) in
    let l_free = all_elsewhere L outside free away (λ x. omega (arith, part x, all_once x, in_lf x, in_lb x, outside_is x)) in
    let l_zero : SameLinks (pages 0) (new 0) = s.links 0 (omega (arith, part 0, all_once 0, times-here 0 [])) (λ e. refl) (λ e. refl) in
    let m_positive : 1 ≤ m.page = nonzero m.page (λ z. omega (arith, part 0, all_once 0, in_lf 0, times-here 0 [], ap (λ y. times 0 (y ∷ [])) z)) in
    let left = s.left m.page (sym leaf_prev) m_positive in
    let neighbours : (r : Node) (rest : List Node) → lb ≡ r ∷ rest → ((new r.page).prev ≡ m.page) × ((new r.page).next ≡ (pages r.page).next) × AllOf L (page_numbers rest) =
    λ r rest e.
    let r_is : r.page ≡ (pages leaf.page).next = sym (leaf_next ∙ ap first_page e) in
    let count : (x : ℕ) → times x (page_numbers lb) ≡ times x (r.page ∷ page_numbers rest) = λ x. ap (λ ns. times x (page_numbers ns)) e in
    let positive : 1 ≤ r.page = nonzero r.page (λ z. omega (arith, part 0, all_once 0, in_lb 0, count 0, times-here 0 [], ap (λ y. times 0 (y ∷ page_numbers rest)) z, times-here 0 (page_numbers rest))) in
    let near = s.right r.page r_is positive in
    let away_rest : (x : ℕ) → times x (gone ++ (m.page ∷ r.page ∷ [])) ≡ 0 → L x =
    λ x t.
    let two = times-append x gone (m.page ∷ r.page ∷ []) in
    s.links x (omega arith) (λ z. absurd (omega (arith, two, t, ap (λ y. times y (m.page ∷ [])) (z ∙ leaf_prev), times-here m.page [])))
    (λ z. absurd (omega (arith, two, t, ap (λ y. times y (r.page ∷ [])) (z ∙ sym r_is), times-here r.page []))) in (
      near.0 ∙ leaf_prev,
      near.1,
      all_elsewhere L (gone ++ (m.page ∷ r.page ∷ [])) (page_numbers rest) away_rest
          (λ x. omega (arith, part x, all_once x, in_lf x, in_lb x, count x, times-append x gone (m.page ∷ r.page ∷ []))),
    ) in
    let freed = free_kept pages new l_zero s_free l_free s.good.free in
    record {
      good = record {
        meta = s_zero.kind ∙ s.good.meta;
        levels = subst (λ k. HaveLevels new k the_root) (sym tall)
            (levels_descend pages new d (suc h) the_root s_above (subst (λ k. HaveLevels pages k the_root) s.tall s.good.levels)
            (λ have0.
            let have : HaveLevels pages (suc h) level = subst (HaveLevels pages (suc h)) s.at have0 in
            let I : Pages → Node → Type 0 = λ ps. IsInnerPage ps (suc h) in
            let i_b : AllOf (I pages) (parent ∷ b) = AllOf-right (I pages) a (parent ∷ b) have.0 in
            let under : HaveLevels pages h (fr ++ c ∷ bk) = subst (HaveLevels pages h) was have.1 in
            let right : HaveLevels pages h (c ∷ bk) = levels-right pages h fr (c ∷ bk) under in
            subst (HaveLevels new (suc h)) (sym s.at) (
              AllOf-append (I new) a (parent ∷ b) (inner_pages_same pages new (suc h) a s_a (AllOf-left (I pages) a (parent ∷ b) have.0))
                  ((s.parent_kind ∙ i_b.0.0, s.parent_level ∙ i_b.0.1), inner_pages_same pages new (suc h) b s_b i_b.1),
              subst (HaveLevels new h) (sym now)
                  (levels-append new h fr bk (levels_same pages new h fr s_fr (levels-left pages h fr (c ∷ bk) under))
                  (levels_same pages new h bk s_bk (levels-right pages h (c ∷ []) bk right))),
            )));
        ordered = subst (AreOrdered new) (sym (leaves_now ∙ split_was lb)) (ordered_drop pages new u lb m leaf t_um t_lb ordered);
        chained = subst (AreChained new 0) (sym (leaves_now ∙ split_was lb)) (chain_over pages new u lb m leaf chain l_u left.0 left.1 neighbours);
        free = freed.1;
        cover = λ x.
            let tree_new = pages_under new (height new) the_root in
            let free_new = free_from new (new 0).prev (new 0).next in
            let was_cover : times x (0 ∷ tree ++ free ++ spare) ≡ (if nat_lt x (new 0).leftmost then 1 else 0) = s.good.cover x ∙ ap (λ n. if nat_lt x n then 1 else 0) (sym s_zero.leftmost) in
            let one : times x tree_new ≡ times x (pages_above pages d the_root) + (times x (page_numbers level) + (times x (pages_under pages h fr) + times x (pages_under pages h bk))) =
            ap (λ k. times x (pages_under new k the_root)) tall ∙ ap (times x) (pages_descend new d (suc h) the_root)
            ∙ times-append x (pages_above new d the_root) (pages_under new (suc h) (descend new d the_root))
            ∙ ap₂ (λ t ns. times x t + times x (pages_under new (suc h) ns)) down.1 at_new
            ∙ ap (λ t. times x (pages_above pages d the_root) + t)
            (times-append x (page_numbers level) (pages_under new h (below new level))
            ∙ ap (λ ns. times x (page_numbers level) + times x (pages_under new h ns)) now
            ∙ ap (λ t. times x (page_numbers level) + t) (times_under-append new h fr bk x
            ∙ ap₂ (λ v w. times x v + times x w) (pages_same pages new h fr s_fr) (pages_same pages new h bk s_bk))) in
            let same : times x (0 ∷ tree_new ++ free_new ++ (gone ++ spare)) ≡ times x (0 ∷ tree ++ free ++ spare) =
            omega (
              arith,
              one,
              part x,
              ap (times x) freed.0,
              times-append x (tree ++ free) spare,
              times-append x tree free,
              times-append x (tree_new ++ free_new) (gone ++ spare),
              times-append x tree_new free_new,
              times-append x gone spare,
            ) in
            same ∙ was_cover;
        past = past_kept pages new spare changed s.good (omega (arith, s_zero.leftmost)) s.others (λ x none. omega (arith, part x, none, in_level x));
      };
      same = walks;
      front = u;
      last = m;
      back = lb;
      was = leaves_was ∙ split_was (leaf ∷ lb);
      now = leaves_now ∙ split_was lb;
    }

pub drop_child : (pages new : Pages) (spare : List ℕ) (d h : ℕ) (a b : List Node) (parent : Node) (before after : List Node) (last c : Node)
    → DropsChildOf pages new spare d h a b parent before after last c → IsGoodTree new (pages_under pages h (c ∷ []) ++ spare) × (walk new ≡ walk pages)
drop_child pages new spare d h a b parent before after last c s = let gone = child_gone pages new spare d h a b parent before after last c s in (gone.good, gone.same)
