-- The same where the page is its parent's first child.
use Rattle.std.proofs.Common.{◌≡◌, ◌⊎◌, ℕ, zero, suc, ◌+◌, ◌≤◌, List, [], ◌∷◌, ◌++◌, map, Option, refl, sym, ap, ap₂, subst, inl, inr, ⊎_elim, ◌∙◌, append_assoc, arith, nat_lt, if◌then◌else◌}
use Rattle.std.proofs.lemmas.List.{map-append}
use Rattle.std.proofs.lemmas.List.Concat.{flat_map-append}
use Rattle.im_theory_tree.specs.Deletions.{bare_leaf, DropsFirstOf}
use Rattle.im_theory_tree.specs.Good.{AllOf, IsInnerPage, HaveLevels, AreOrdered, first_page, AreChained, free_from, times, IsGoodTree}
use Rattle.im_theory_tree.specs.Levels.{Pages, Node, child_of, children, below, leaves_under, pages_under, entries_in, the_root, height, walk, page_numbers, descend, lifted}
use Rattle.im_theory_tree.specs.Same.{SameTree, SameOn, SameLinks}
use Rattle.im_theory_tree.proofs.Frame.{AllOf-left, AllOf-right, AllOf-append, below_same, leaves_same, pages_same, leaf_pages, leaves_under-append}
use Rattle.im_theory_tree.proofs.Keeps.{levels_same, inner_pages_same, chained_front, chained_same, times-append}
use Rattle.im_theory_tree.proofs.Descent.{pages_above, leaves_descend, pages_descend, descend_same, levels_descend, all_elsewhere, times-here}
use Rattle.im_theory_tree.proofs.LeafSplit.{height_same, free_kept, nonzero, chained_right}
use Rattle.im_theory_tree.proofs.PastCount.{past_kept}
use Rattle.im_theory_tree.proofs.InnerSplit.{good_once}
use Rattle.im_theory_tree.proofs.DropLeaf.{walk_drop, ordered_rebind}
use Rattle.im_theory_tree.proofs.DropChild.{times_under-append, levels-append, levels-left, levels-right, bare_leaves, last_of, leaves_among}

-- a node with another bound
abbrev pub rebound : Option (List ℕ) → Node → Node
rebound f n = record { bound = f; page = n.page }

abbrev pub rebind : Option (List ℕ) → List Node → List Node
rebind f [] = []
rebind f (n ∷ ns) = rebound f n ∷ ns

abbrev pub first_child : Pages → Node → Node
first_child pages n = record { bound = n.bound; page = (pages n.page).leftmost }

abbrev pub rest_below : Pages → Node → List Node → List Node
rest_below pages n ns = map child_of (pages n.page).entries ++ below pages ns

pub leaves_rebind : (pages : Pages) (h : ℕ) (f : Option (List ℕ)) (n : Node) (ns : List Node) → leaves_under pages h (rebound f n ∷ ns) ≡ rebind f (leaves_under pages h (n ∷ ns))
leaves_rebind pages zero f n ns = refl
leaves_rebind pages (suc h) f n ns = leaves_rebind pages h f (first_child pages n) (rest_below pages n ns)

pub pages_rebind : (pages : Pages) (h : ℕ) (f : Option (List ℕ)) (n : Node) (ns : List Node) → pages_under pages h (rebound f n ∷ ns) ≡ pages_under pages h (n ∷ ns)
pages_rebind pages zero f n ns = refl
pages_rebind pages (suc h) f n ns = ap (λ t. page_numbers (n ∷ ns) ++ t) (pages_rebind pages h f (first_child pages n) (rest_below pages n ns))

pub levels_rebind : (pages : Pages) (h : ℕ) (f : Option (List ℕ)) (n : Node) (ns : List Node) → HaveLevels pages h (n ∷ ns) → HaveLevels pages h (rebound f n ∷ ns)
levels_rebind pages zero f n ns a = a
levels_rebind pages (suc h) f n ns a = (a.0, levels_rebind pages h f (first_child pages n) (rest_below pages n ns) a.1)

pub first_leaf : (pages : Pages) (h : ℕ) (n : Node) (ns : List Node) → (x : Node) × (xs : List Node) × (leaves_under pages h (n ∷ ns) ≡ x ∷ xs)
first_leaf pages zero n ns = (n, ns, refl)
first_leaf pages (suc h) n ns = first_leaf pages h (first_child pages n) (rest_below pages n ns)

pub bare_bound : (pages : Pages) (h : ℕ) (c : Node) → (bare_leaf pages h c).bound ≡ c.bound
bare_bound pages zero c = refl
bare_bound pages (suc h) c = bare_bound pages h (first_child pages c)

pub ordered_first : (pages new : Pages) (u w : List Node) (leaf q : Node) → SameOn pages new (page_numbers u) → SameTree (pages q.page) (new q.page) → SameOn pages new (page_numbers w)
    → AreOrdered pages (u ++ leaf ∷ q ∷ w) → AreOrdered new (u ++ rebound leaf.bound q ∷ w)
ordered_first pages new [] w leaf q su sq sw h = ordered_rebind pages new w leaf q sq sw h
ordered_first pages new (x ∷ []) w leaf q su sq sw h = (rw su.0.entries h.0, h.1, ordered_first pages new [] w leaf q su.1 sq sw h.2)
ordered_first pages new (x ∷ y ∷ u) w leaf q su sq sw h = (rw su.0.entries h.0, h.1, ordered_first pages new (y ∷ u) w leaf q su.1 sq sw h.2)

pub first_page-rebound : (u w : List Node) (f : Option (List ℕ)) (q : Node) → first_page (u ++ q ∷ w) ≡ first_page (u ++ rebound f q ∷ w)
first_page-rebound [] w f q = refl
first_page-rebound (x ∷ u) w f q = refl

pub chained_rebound : (pages : Pages) (prev : ℕ) (u w : List Node) (f : Option (List ℕ)) (q : Node) → AreChained pages prev (u ++ q ∷ w) → AreChained pages prev (u ++ rebound f q ∷ w)
chained_rebound pages prev [] w f q h = h
chained_rebound pages prev (x ∷ u) w f q h = (h.0, h.1 ∙ first_page-rebound u w f q, chained_rebound pages x.page u w f q h.2)

pub empty_or_last : (ns : List Node) → (ns ≡ []) ⊎ ((u : List Node) × (m : Node) × (ns ≡ u ++ m ∷ []))
empty_or_last [] = inl refl
empty_or_last (n ∷ ns) = inr (last_of n ns)

pub same_entries : (pages : Pages) (u w : List Node) (f : Option (List ℕ)) (q : Node) → entries_in pages (u ++ rebound f q ∷ w) ≡ entries_in pages (u ++ q ∷ w)
same_entries pages [] w f q = refl
same_entries pages (x ∷ u) w f q = ap (λ t. (pages x.page).entries ++ t) (same_entries pages u w f q)

-- A leaf without entries is gone from before another, which takes its bound: the tree is good, with the same walk.
pub record IsGoneFirst (pages new : Pages) (spare : List ℕ) (leaf : Node) : Type 0 where
  pub good : IsGoodTree new spare
  pub same : walk new ≡ walk pages
  pub front : List Node
  pub next : Node
  pub back : List Node
  pub was : leaves_under pages (height pages) the_root ≡ front ++ leaf ∷ next ∷ back
  pub now : leaves_under new (height new) the_root ≡ front ++ rebound leaf.bound next ∷ back

pub first_gone : (pages new : Pages) (spare : List ℕ) (d h : ℕ) (a b : List Node) (parent : Node) (after : List Node) (c r : Node)
    → DropsFirstOf pages new spare d h a b parent after c r → IsGoneFirst pages new (pages_under pages h (c ∷ []) ++ spare) (bare_leaf pages h c)
first_gone pages new spare d h a b parent after c r s =
    let f : Node → ℕ = λ y. y.page in
    let P : ℕ → Type 0 = λ x. SameTree (pages x) (new x) in
    let L : ℕ → Type 0 = λ x. SameLinks (pages x) (new x) in
    let level = a ++ parent ∷ b in
    let gone = pages_under pages h (c ∷ []) in
    let changed : List ℕ = parent.page ∷ gone in
    let fr = below pages a in
    let more = after ++ below pages b in
    let bk = r ∷ more in
    let rb = rebound c.bound r in
    let leaf = bare_leaf pages h c in
    let free = free_from pages (pages 0).prev (pages 0).next in
    let tree = pages_under pages (height pages) the_root in
    let was : below pages level ≡ fr ++ c ∷ bk = flat_map-append (children pages) a (parent ∷ b) ∙ ap (λ cs. fr ++ (cs ++ below pages b)) s.was in
    let all_once = good_once pages spare s.good in
    let in_level : (x : ℕ) → times x (page_numbers level) ≡ times x (page_numbers a) + times x (parent.page ∷ page_numbers b) =
    λ x. ap (times x) (map-append f a (parent ∷ b)) ∙ times-append x (page_numbers a) (page_numbers (parent ∷ b)) in
    let part : (x : ℕ) → times x tree ≡ times x (pages_above pages d the_root) + (times x (page_numbers level)
    + (times x (pages_under pages h fr) + (times x gone + times x (pages_under pages h bk)))) =
    λ x. ap (λ k. times x (pages_under pages k the_root)) s.tall ∙ ap (times x) (pages_descend pages d (suc h) the_root)
    ∙ times-append x (pages_above pages d the_root) (pages_under pages (suc h) (descend pages d the_root))
    ∙ ap (λ ns. times x (pages_above pages d the_root) + times x (pages_under pages (suc h) ns)) s.at
    ∙ ap (λ t. times x (pages_above pages d the_root) + t)
    (times-append x (page_numbers level) (pages_under pages h (below pages level))
    ∙ ap (λ ns. times x (page_numbers level) + times x (pages_under pages h ns)) was
    ∙ ap (λ t. times x (page_numbers level) + t) (times_under-append pages h fr (c ∷ bk) x
    ∙ ap (λ t. times x (pages_under pages h fr) + t) (times_under-append pages h (c ∷ []) bk x))) in
    let s_above = all_elsewhere P changed (pages_above pages d the_root) s.others (λ x. omega (arith, part x, all_once x, in_level x)) in
    let s_a = all_elsewhere P changed (page_numbers a) s.others (λ x. omega (arith, part x, all_once x, in_level x)) in
    let s_b = all_elsewhere P changed (page_numbers b) s.others (λ x. omega (arith, part x, all_once x, in_level x)) in
    let s_fr = all_elsewhere P changed (pages_under pages h fr) s.others (λ x. omega (arith, part x, all_once x, in_level x)) in
    let s_bk = all_elsewhere P changed (pages_under pages h bk) s.others (λ x. omega (arith, part x, all_once x, in_level x)) in
    let s_free = all_elsewhere P changed free s.others (λ x. omega (arith, part x, all_once x, in_level x)) in
    let s_zero : SameTree (pages 0) (new 0) = (all_elsewhere P changed (0 ∷ []) s.others (λ x. omega (arith, part x, all_once x, in_level x))).0 in
    let down = descend_same pages new d the_root s_above in
    let tall : height new ≡ lifted d (suc h) = height_same pages new d a b parent s.at s.parent_level s_above ∙ s.tall in
    let at_new : descend new d the_root ≡ level = down.0 ∙ s.at in
    let now : below new level ≡ fr ++ rb ∷ more =
    flat_map-append (children new) a (parent ∷ b) ∙ ap₂ ◌++◌ (below_same pages new a s_a) (ap₂ ◌++◌ s.now (below_same pages new b s_b)) in
    let s_rb : SameOn pages new (pages_under pages h (rb ∷ more)) = subst (λ ps. SameOn pages new ps) (sym (pages_rebind pages h c.bound r more)) s_bk in
    let bare = bare_leaves pages h c s.bare in
    let lf = leaves_under pages h fr in
    let lb = leaves_under pages h bk in
    let leaves_was : leaves_under pages (height pages) the_root ≡ lf ++ leaf ∷ lb =
    ap (λ k. leaves_under pages k the_root) s.tall ∙ leaves_descend pages d (suc h) the_root ∙ ap (leaves_under pages (suc h)) s.at ∙ ap (leaves_under pages h) was
    ∙ leaves_under-append pages h fr (c ∷ bk) ∙ ap (λ t. lf ++ t) (leaves_under-append pages h (c ∷ []) bk ∙ ap (λ t. t ++ lb) bare.0) in
    let leaf_bound : leaf.bound ≡ c.bound = bare_bound pages h c in
    let some = first_leaf pages h r more in
    let q : Node = some.0 in
    let w = some.1 in
    let lb_is : lb ≡ q ∷ w = some.2 in
    let leaves_now : leaves_under new (height new) the_root ≡ lf ++ rebound leaf.bound q ∷ w =
    ap (λ k. leaves_under new k the_root) tall ∙ leaves_descend new d (suc h) the_root ∙ ap (leaves_under new (suc h)) at_new ∙ ap (leaves_under new h) now
    ∙ leaves_under-append new h fr (rb ∷ more)
    ∙ ap₂ ◌++◌ (leaves_same pages new h fr s_fr) (leaves_same pages new h (rb ∷ more) s_rb ∙ leaves_rebind pages h c.bound r more ∙ ap (rebind c.bound) lb_is
    ∙ ap (λ f. rebound f q ∷ w) (sym leaf_bound)) in
    let t_lf = leaf_pages pages P h fr s_fr in
    let t_lb = leaf_pages pages P h bk s_bk in
    let t_qw : SameOn pages new (page_numbers (q ∷ w)) = subst (λ v. SameOn pages new (page_numbers v)) lb_is t_lb in
    let was_all : leaves_under pages (height pages) the_root ≡ lf ++ leaf ∷ q ∷ w = leaves_was ∙ ap (λ t. lf ++ leaf ∷ t) lb_is in
    let walks : walk new ≡ walk pages =
    ap (entries_in new) leaves_now ∙ same_entries new lf w leaf.bound q ∙ walk_drop pages new lf (q ∷ w) leaf bare.1 t_lf t_qw ∙ ap (entries_in pages) (sym was_all) in
    let chain : AreChained pages 0 (lf ++ leaf ∷ q ∷ w) = subst (AreChained pages 0) was_all s.good.chained in
    let ordered : AreOrdered pages (lf ++ leaf ∷ q ∷ w) = subst (AreOrdered pages) was_all s.good.ordered in
    let leaf_links = chained_right pages 0 lf (leaf ∷ q ∷ w) chain in
    let leaf_next : (pages leaf.page).next ≡ q.page = leaf_links.1.1 in
    let q_prev : (pages q.page).prev ≡ leaf.page = leaf_links.1.2.0 in
    let in_qw : (x : ℕ) → times x (q.page ∷ page_numbers w) ≤ times x (pages_under pages h bk) =
    λ x. omega (arith, leaves_among pages h bk x, ap (λ v. times x (page_numbers v)) lb_is) in
    let in_lf : (x : ℕ) → times x (page_numbers lf) ≤ times x (pages_under pages h fr) = λ x. leaves_among pages h fr x in
    let l_zero : SameLinks (pages 0) (new 0) = s.links 0 (omega (arith, part 0, all_once 0, times-here 0 [])) (λ e. refl) (λ e. refl) in
    let q_positive : 1 ≤ q.page = nonzero q.page (λ z. omega (arith, part 0, all_once 0, in_qw 0, times-here 0 [], ap (λ y. times 0 (y ∷ page_numbers w)) z, times-here 0 (page_numbers w))) in
    let near = s.right q.page (sym leaf_next) q_positive in
    let Q : Type 0 = AreChained new 0 (lf ++ q ∷ w) × AllOf L free in
    let result : Q = ⊎_elim
    (λ (e : lf ≡ []).
    let none : AreChained pages 0 (leaf ∷ q ∷ w) = subst (λ v. AreChained pages 0 (v ++ leaf ∷ q ∷ w)) e chain in
    let away : (x : ℕ) → times x (gone ++ (q.page ∷ [])) ≡ 0 → L x =
    λ x t. let two = times-append x gone (q.page ∷ []) in
    s.links x (omega arith) (λ z. z ∙ none.0)
    (λ z. absurd (omega (arith, two, t, ap (λ y. times y (q.page ∷ [])) (z ∙ leaf_next), times-here q.page []))) in
    let l_w = all_elsewhere L (gone ++ (q.page ∷ [])) (page_numbers w) away (λ x. omega (arith, part x, all_once x, in_qw x, times-append x gone (q.page ∷ []))) in
    let l_free = all_elsewhere L (gone ++ (q.page ∷ [])) free away (λ x. omega (arith, part x, all_once x, in_qw x, times-append x gone (q.page ∷ []))) in
    (subst (λ v. AreChained new 0 (v ++ q ∷ w)) (sym e) (near.0 ∙ none.0, near.1 ∙ none.2.1, chained_same pages new q.page w l_w none.2.2), l_free))
    (λ (e : (u : List Node) × (m : Node) × (lf ≡ u ++ m ∷ [])).
    let u = e.0 in
    let m : Node = e.1 in
    let split_was : (t : List Node) → lf ++ t ≡ u ++ m ∷ t = λ t. ap (λ v. v ++ t) e.2 ∙ append_assoc u (m ∷ []) t in
    let chain_m : AreChained pages 0 (u ++ m ∷ leaf ∷ q ∷ w) = subst (AreChained pages 0) (split_was (leaf ∷ q ∷ w)) chain in
    let here = chained_right pages 0 u (m ∷ leaf ∷ q ∷ w) chain_m in
    let leaf_prev : (pages leaf.page).prev ≡ m.page = here.1.2.0 in
    let in_um : (x : ℕ) → times x (page_numbers u) + times x (m.page ∷ []) ≤ times x (pages_under pages h fr) =
    λ x. omega (arith, in_lf x, ap (λ v. times x (page_numbers v)) e.2, ap (times x) (map-append f u (m ∷ [])) ∙ times-append x (page_numbers u) (page_numbers (m ∷ []))) in
    let outside : List ℕ = gone ++ (m.page ∷ q.page ∷ []) in
    let away : (x : ℕ) → times x outside ≡ 0 → L x =
    λ x t. let two = times-append x gone (m.page ∷ q.page ∷ []) in
    s.links x (omega arith) (λ z. absurd (omega (arith, two, t, ap (λ y. times y (m.page ∷ [])) (z ∙ leaf_prev), times-here m.page [])))
    (λ z. absurd (omega (arith, two, t, ap (λ y. times y (q.page ∷ [])) (z ∙ leaf_next), times-here q.page []))) in
    let l_u = all_elsewhere L outside (page_numbers u) away (λ x. omega (arith, part x, all_once x, in_um x, in_qw x, times-append x gone (m.page ∷ q.page ∷ []))) in
    let l_w = all_elsewhere L outside (page_numbers w) away (λ x. omega (arith, part x, all_once x, in_um x, in_qw x, times-append x gone (m.page ∷ q.page ∷ []))) in
    let l_free = all_elsewhere L outside free away (λ x. omega (arith, part x, all_once x, in_um x, in_qw x, times-append x gone (m.page ∷ q.page ∷ []))) in
    let m_positive : 1 ≤ m.page = nonzero m.page (λ z. omega (arith, part 0, all_once 0, in_um 0, times-here 0 [], ap (λ y. times 0 (y ∷ [])) z)) in
    let left = s.left m.page (sym leaf_prev) m_positive in
    let tail : AreChained new m.page (q ∷ w) = (near.0 ∙ leaf_prev, near.1 ∙ leaf_links.1.2.1, chained_same pages new q.page w l_w leaf_links.1.2.2) in
    let all : AreChained new 0 (u ++ m ∷ q ∷ w) = chained_front pages new 0 u (leaf ∷ q ∷ w) (q ∷ w) m l_u chain_m (λ p z. (left.1 ∙ z, left.0 ∙ leaf_next, tail)) in
    (subst (AreChained new 0) (sym (split_was (q ∷ w))) all, l_free))
    (empty_or_last lf) in
    let freed = free_kept pages new l_zero s_free result.1 s.good.free in
    record {
      good = record {
        meta = s_zero.kind ∙ s.good.meta;
        levels = subst (λ k. HaveLevels new k the_root) (sym tall)
            (levels_descend pages new d (suc h) the_root s_above (subst (λ k. HaveLevels pages k the_root) s.tall s.good.levels)
            (λ have0.
            let have : HaveLevels pages (suc h) level = subst (HaveLevels pages (suc h)) s.at have0 in
            let I : Pages → Node → Type 0 = λ ps. IsInnerPage ps (suc h) in
            let i_b : AllOf (I pages) (parent ∷ b) = AllOf-right (I pages) a (parent ∷ b) have.0 in
            let under : HaveLevels pages h (fr ++ c ∷ bk) = subst (HaveLevels pages h) was have.1 in
            let right : HaveLevels pages h (c ∷ bk) = levels-right pages h fr (c ∷ bk) under in
            subst (HaveLevels new (suc h)) (sym s.at) (
              AllOf-append (I new) a (parent ∷ b) (inner_pages_same pages new (suc h) a s_a (AllOf-left (I pages) a (parent ∷ b) have.0))
                  ((s.parent_kind ∙ i_b.0.0, s.parent_level ∙ i_b.0.1), inner_pages_same pages new (suc h) b s_b i_b.1),
              subst (HaveLevels new h) (sym now)
                  (levels-append new h fr (rb ∷ more) (levels_same pages new h fr s_fr (levels-left pages h fr (c ∷ bk) under))
                  (levels_same pages new h (rb ∷ more) s_rb (levels_rebind pages h c.bound r more (levels-right pages h (c ∷ []) bk right)))),
            )));
        ordered = subst (AreOrdered new) (sym leaves_now) (ordered_first pages new lf w leaf q t_lf t_qw.0 t_qw.1 ordered);
        chained = subst (AreChained new 0) (sym leaves_now) (chained_rebound new 0 lf w leaf.bound q result.0);
        free = freed.1;
        cover = λ x.
            let tree_new = pages_under new (height new) the_root in
            let free_new = free_from new (new 0).prev (new 0).next in
            let was_cover : times x (0 ∷ tree ++ free ++ spare) ≡ (if nat_lt x (new 0).leftmost then 1 else 0) = s.good.cover x ∙ ap (λ n. if nat_lt x n then 1 else 0) (sym s_zero.leftmost) in
            let one : times x tree_new ≡ times x (pages_above pages d the_root) + (times x (page_numbers level) + (times x (pages_under pages h fr) + times x (pages_under pages h bk))) =
            ap (λ k. times x (pages_under new k the_root)) tall ∙ ap (times x) (pages_descend new d (suc h) the_root)
            ∙ times-append x (pages_above new d the_root) (pages_under new (suc h) (descend new d the_root))
            ∙ ap₂ (λ t ns. times x t + times x (pages_under new (suc h) ns)) down.1 at_new
            ∙ ap (λ t. times x (pages_above pages d the_root) + t)
            (times-append x (page_numbers level) (pages_under new h (below new level))
            ∙ ap (λ ns. times x (page_numbers level) + times x (pages_under new h ns)) now
            ∙ ap (λ t. times x (page_numbers level) + t) (times_under-append new h fr (rb ∷ more) x
            ∙ ap₂ (λ v t. times x v + times x t) (pages_same pages new h fr s_fr) (pages_same pages new h (rb ∷ more) s_rb ∙ pages_rebind pages h c.bound r more))) in
            let same : times x (0 ∷ tree_new ++ free_new ++ (gone ++ spare)) ≡ times x (0 ∷ tree ++ free ++ spare) =
            omega (
              arith,
              one,
              part x,
              ap (times x) freed.0,
              times-append x (tree ++ free) spare,
              times-append x tree free,
              times-append x (tree_new ++ free_new) (gone ++ spare),
              times-append x tree_new free_new,
              times-append x gone spare,
            ) in
            same ∙ was_cover;
        past = past_kept pages new spare changed s.good (omega (arith, s_zero.leftmost)) s.others (λ x none. omega (arith, part x, none, in_level x));
      };
      same = walks;
      front = lf;
      next = q;
      back = w;
      was = was_all;
      now = leaves_now;
    }

pub drop_first : (pages new : Pages) (spare : List ℕ) (d h : ℕ) (a b : List Node) (parent : Node) (after : List Node) (c r : Node)
    → DropsFirstOf pages new spare d h a b parent after c r → IsGoodTree new (pages_under pages h (c ∷ []) ++ spare) × (walk new ≡ walk pages)
drop_first pages new spare d h a b parent after c r s = let gone = first_gone pages new spare d h a b parent after c r s in (gone.good, gone.same)
