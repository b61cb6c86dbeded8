-- A split of an inner page whose parent has room, and of an inner root: the tree stays good, and the walk stays.
use Rattle.std.proofs.Common.{◌≡◌, ℕ, suc, ◌+◌, ◌≤◌, List, [], ◌∷◌, ◌++◌, map, Some, None, sym, ap, ap₂, subst, ◌∙◌, append_assoc, arith, nat_lt, if◌then◌else◌}
use Rattle.std.proofs.lemmas.List.{map-append}
use Rattle.im_base_types.specs.declared.page_kind.PageKind.TheVariants.{Free}
use Rattle.im_theory_tree.specs.Good.{AllOf, IsInnerPage, HaveLevels, AreOrdered, AreChained, free_from, times, IsGoodTree}
use Rattle.im_theory_tree.specs.Levels.{Pages, Node, child_of, children, below, leaves_under, pages_under, entries_in, the_root, height, walk, page_numbers, descend, lifted}
use Rattle.im_theory_tree.specs.Same.{SameTree, SameOn, SameLinks}
use Rattle.im_theory_tree.specs.Splits.{SplitsInnerOf, SplitsRootOf}
use Rattle.im_base_types.specs.Pages.{Entry}
use Rattle.im_theory_tree.proofs.Frame.{AllOf-left, AllOf-right, AllOf-append, entries_same, leaves_same, pages_same, leaf_pages}
use Rattle.im_theory_tree.proofs.Split.{below_put, below_was, below_split, below_root}
use Rattle.im_theory_tree.proofs.Keeps.{ordered_same, levels_same, inner_pages_same, chained_same, times-append}
use Rattle.im_theory_tree.proofs.Descent.{pages_above, leaves_descend, pages_descend, descend_same, levels_descend, all_elsewhere}
use Rattle.im_theory_tree.proofs.LeafSplit.{height_same, free_kept}
use Rattle.im_theory_tree.proofs.PastCount.{past_kept}

-- What is left to show once the leaves are the same list: the pages that stay, the levels and the count.
pub record Rest (pages new : Pages) (old_spare spare : List ℕ) (leaves : List Node) : Type 0 where
  pub good : IsGoodTree pages old_spare
  pub was : leaves_under pages (height pages) the_root ≡ leaves
  pub now : leaves_under new (height new) the_root ≡ leaves
  pub tree : SameOn pages new (page_numbers leaves)
  pub links : AllOf (λ x. SameLinks (pages x) (new x)) (page_numbers leaves)
  pub zero_tree : SameTree (pages 0) (new 0)
  pub zero_links : SameLinks (pages 0) (new 0)
  pub free_tree : SameOn pages new (free_from pages (pages 0).prev (pages 0).next)
  pub free_links : AllOf (λ x. SameLinks (pages x) (new x)) (free_from pages (pages 0).prev (pages 0).next)
  pub levels : HaveLevels new (height new) the_root
  pub past : (x : ℕ) → (new 0).leftmost ≤ x → (new x).kind ≡ Free
  pub count : (x : ℕ) → times x (pages_under new (height new) the_root) + times x spare ≡ times x (pages_under pages (height pages) the_root) + times x old_spare

pub rest_good : (pages new : Pages) (old_spare spare : List ℕ) (leaves : List Node) → Rest pages new old_spare spare leaves → IsGoodTree new spare × (walk new ≡ walk pages)
rest_good pages new old_spare spare leaves h =
    let freed = free_kept pages new h.zero_links h.free_tree h.free_links h.good.free in (
      record {
        meta = h.zero_tree.kind ∙ h.good.meta;
        levels = h.levels;
        ordered = subst (AreOrdered new) (sym h.now) (ordered_same pages new leaves h.tree (subst (AreOrdered pages) h.was h.good.ordered));
        chained = subst (AreChained new 0) (sym h.now) (chained_same pages new 0 leaves h.links (subst (AreChained pages 0) h.was h.good.chained));
        free = freed.1;
        cover = λ x.
            let tree_old = pages_under pages (height pages) the_root in
            let tree_new = pages_under new (height new) the_root in
            let free_old = free_from pages (pages 0).prev (pages 0).next in
            let free_new = free_from new (new 0).prev (new 0).next in
            let was : times x (0 ∷ tree_old ++ free_old ++ old_spare) ≡ (if nat_lt x (new 0).leftmost then 1 else 0) = h.good.cover x ∙ ap (λ c. if nat_lt x c then 1 else 0) (sym h.zero_tree.leftmost) in
            let same : times x (0 ∷ tree_new ++ free_new ++ spare) ≡ times x (0 ∷ tree_old ++ free_old ++ old_spare) =
            omega (
              arith,
              h.count x,
              times-append x (tree_old ++ free_old) old_spare,
              times-append x tree_old free_old,
              times-append x (tree_new ++ free_new) spare,
              times-append x tree_new free_new,
              ap (times x) freed.0,
            ) in
            same ∙ was;
        past = h.past;
      },
      ap (entries_in new) h.now ∙ entries_same pages new leaves h.tree ∙ ap (entries_in pages) (sym h.was),
    )

-- the leaves are the same
pub rest_leaves : (pages new : Pages) (old_spare spare : List ℕ) (leaves : List Node) → Rest pages new old_spare spare leaves → leaves_under new (height new) the_root ≡ leaves_under pages (height pages) the_root
rest_leaves pages new old_spare spare leaves h = h.now ∙ sym h.was

-- no page stands twice
pub good_once : (pages : Pages) (spare : List ℕ) → IsGoodTree pages spare → (x : ℕ)
    → times x (pages_under pages (height pages) the_root) + times x (0 ∷ []) + times x (free_from pages (pages 0).prev (pages 0).next) + times x spare ≤ 1
good_once pages spare good x =
    let free = free_from pages (pages 0).prev (pages 0).next in
    let tree = pages_under pages (height pages) the_root in
    let one = times-append x (tree ++ free) spare in
    let two = times-append x tree free in
    grind (arith, good.cover x, one, two)

-- THE ROOT
pub root_rest : (pages new : Pages) (spare : List ℕ) (h left right : ℕ) (up : Entry) → SplitsRootOf pages new spare h left right up → Rest pages new (left ∷ right ∷ spare) spare (leaves_under pages h (below pages the_root))
root_rest pages new spare h left right up s =
    let changed : List ℕ = 1 ∷ left ∷ right ∷ [] in
    let under = pages_under pages h (below pages the_root) in
    let leaves = leaves_under pages h (below pages the_root) in
    let free = free_from pages (pages 0).prev (pages 0).next in
    let P : ℕ → Type 0 = λ x. SameTree (pages x) (new x) in
    let L : ℕ → Type 0 = λ x. SameLinks (pages x) (new x) in
    let all_once = good_once pages (left ∷ right ∷ spare) s.good in
    let part : (x : ℕ) → times x (pages_under pages (height pages) the_root) ≡ times x (1 ∷ []) + times x under =
    λ x. ap (λ k. times x (pages_under pages k the_root)) s.tall ∙ times-append x (1 ∷ []) under in
    let s_under : SameOn pages new under = all_elsewhere P changed under s.others (λ x. omega (arith, part x, all_once x)) in
    let s_free : SameOn pages new free = all_elsewhere P changed free s.others (λ x. omega (arith, part x, all_once x)) in
    let s_zero : SameTree (pages 0) (new 0) = (all_elsewhere P changed (0 ∷ []) s.others (λ x. omega (arith, part x, all_once x))).0 in
    let l_under = all_elsewhere L (left ∷ right ∷ []) under s.links (λ x. omega (arith, part x, all_once x)) in
    let l_free = all_elsewhere L (left ∷ right ∷ []) free s.links (λ x. omega (arith, part x, all_once x)) in
    let l_zero : SameLinks (pages 0) (new 0) = (all_elsewhere L (left ∷ right ∷ []) (0 ∷ []) s.links (λ x. omega (arith, part x, all_once x))).0 in
    let l : Node = record { bound = None; page = left } in
    let r : Node = record { bound = Some up.0; page = right } in
    let two : below new the_root ≡ l ∷ r ∷ [] = below_root pages new left right up.0 (record { leftmost = s.leftmost; entries = s.entries }) in
    let moved = map-append child_of (new left).entries (up ∷ (new right).entries) in
    let halves : children new l ++ children new r ≡ children pages (record { bound = None; page = 1 }) =
    ap₂ (λ x y. (record { bound = None; page = x } ∷ map child_of (new left).entries) ++ record { bound = Some up.0; page = y } ∷ map child_of (new right).entries) s.left_leftmost s.right_leftmost
    ∙ ap (λ es. record { bound = None; page = (pages 1).leftmost } ∷ es) (sym moved ∙ ap (map child_of) (sym s.joined)) in
    let down : below new (below new the_root) ≡ below pages the_root =
    ap (below new) two ∙ sym (append_assoc (children new l) (children new r) []) ∙ ap (λ c. c ++ []) halves in
    let tall : height new ≡ suc (suc h) = s.root.1 in
    record {
      good = s.good;
      was = ap (λ k. leaves_under pages k the_root) s.tall;
      now = ap (λ k. leaves_under new k the_root) tall ∙ ap (leaves_under new h) down ∙ leaves_same pages new h (below pages the_root) s_under;
      tree = leaf_pages pages P h (below pages the_root) s_under;
      links = leaf_pages pages L h (below pages the_root) l_under;
      zero_tree = s_zero;
      zero_links = l_zero;
      free_tree = s_free;
      free_links = l_free;
      levels = subst (λ k. HaveLevels new k the_root) (sym tall) (
        (s.root, tt),
        (
          subst (λ ns. AllOf (IsInnerPage new (suc h)) ns) (sym two) (s.is_left, (s.is_right, tt)),
          subst (HaveLevels new h) (sym down) (levels_same pages new h (below pages the_root) s_under (subst (λ k. HaveLevels pages k the_root) s.tall s.good.levels).1),
        ),
      );
      past = past_kept pages new (left ∷ right ∷ spare) changed s.good (omega (arith, s_zero.leftmost)) s.others (λ x none. omega (arith, part x, none));
      count = λ x.
          let one : times x (pages_under new (height new) the_root) ≡ times x (1 ∷ []) + (times x (left ∷ right ∷ []) + times x under) =
          ap (λ k. times x (pages_under new k the_root)) tall
          ∙ times-append x (1 ∷ []) (pages_under new (suc h) (below new the_root))
          ∙ ap (λ t. times x (1 ∷ []) + t)
          (times-append x (page_numbers (below new the_root)) (pages_under new h (below new (below new the_root)))
          ∙ ap₂ (λ u v. times x (page_numbers u) + times x v) two (ap (pages_under new h) down ∙ pages_same pages new h (below pages the_root) s_under)) in
          omega (arith, one, part x);
    }

pub root_split : (pages new : Pages) (spare : List ℕ) (h left right : ℕ) (up : Entry) → SplitsRootOf pages new spare h left right up → IsGoodTree new spare × (walk new ≡ walk pages)
root_split pages new spare h left right up s = rest_good pages new (left ∷ right ∷ spare) spare (leaves_under pages h (below pages the_root)) (root_rest pages new spare h left right up s)

-- AN INNER PAGE
-- the level that is split
abbrev pub inner_level : Pages → (a b before after : List Node) → Node → List Node
inner_level pages a b before after n = (below pages a ++ before) ++ n ∷ (after ++ below pages b)

pub inner_rest : (pages new : Pages) (spare : List ℕ) (d h : ℕ) (a b : List Node) (parent : Node) (before after : List Node) (n : Node) (q : ℕ) (up : Entry)
    → SplitsInnerOf pages new spare d h a b parent before after n q up → Rest pages new (q ∷ spare) spare (leaves_under pages h (below pages (inner_level pages a b before after n)))
inner_rest pages new spare d h a b parent before after n q up s =
    let f : Node → ℕ = λ y. y.page in
    let m : Node = record { bound = Some up.0; page = q } in
    let sep : Entry = (up.0, q) in
    let changed : List ℕ = parent.page ∷ n.page ∷ q ∷ [] in
    let level = a ++ parent ∷ b in
    let fr = below pages a ++ before in
    let bk = after ++ below pages b in
    let mine = fr ++ n ∷ bk in
    let under = pages_under pages h (below pages mine) in
    let leaves = leaves_under pages h (below pages mine) in
    let free = free_from pages (pages 0).prev (pages 0).next in
    let P : ℕ → Type 0 = λ x. SameTree (pages x) (new x) in
    let L : ℕ → Type 0 = λ x. SameLinks (pages x) (new x) in
    let was : below pages level ≡ mine = below_was pages new a b parent before after n sep s.put in
    let all_once = good_once pages (q ∷ spare) s.good in
    let in_level : (x : ℕ) → times x (page_numbers level) ≡ times x (page_numbers a) + times x (parent.page ∷ page_numbers b) =
    λ x. ap (times x) (map-append f a (parent ∷ b)) ∙ times-append x (page_numbers a) (page_numbers (parent ∷ b)) in
    let in_mine : (x : ℕ) → times x (page_numbers mine) ≡ times x (page_numbers fr) + times x (n.page ∷ page_numbers bk) =
    λ x. ap (times x) (map-append f fr (n ∷ bk)) ∙ times-append x (page_numbers fr) (page_numbers (n ∷ bk)) in
    let part : (x : ℕ) → times x (pages_under pages (height pages) the_root)
    ≡ times x (pages_above pages d the_root) + (times x (page_numbers level) + (times x (page_numbers mine) + times x under)) =
    λ x. ap (λ k. times x (pages_under pages k the_root)) s.tall ∙ ap (times x) (pages_descend pages d (suc (suc h)) the_root)
    ∙ times-append x (pages_above pages d the_root) (pages_under pages (suc (suc h)) (descend pages d the_root))
    ∙ ap (λ ns. times x (pages_above pages d the_root) + times x (pages_under pages (suc (suc h)) ns)) s.at
    ∙ ap (λ t. times x (pages_above pages d the_root) + t)
    (times-append x (page_numbers level) (pages_under pages (suc h) (below pages level))
    ∙ ap (λ ns. times x (page_numbers level) + times x (pages_under pages (suc h) ns)) was
    ∙ ap (λ t. times x (page_numbers level) + t) (times-append x (page_numbers mine) under)) in
    let s_above = all_elsewhere P changed (pages_above pages d the_root) s.others (λ x. omega (arith, part x, all_once x, in_level x, in_mine x)) in
    let s_a = all_elsewhere P changed (page_numbers a) s.others (λ x. omega (arith, part x, all_once x, in_level x, in_mine x)) in
    let s_b = all_elsewhere P changed (page_numbers b) s.others (λ x. omega (arith, part x, all_once x, in_level x, in_mine x)) in
    let s_fr = all_elsewhere P changed (page_numbers fr) s.others (λ x. omega (arith, part x, all_once x, in_level x, in_mine x)) in
    let s_bk = all_elsewhere P changed (page_numbers bk) s.others (λ x. omega (arith, part x, all_once x, in_level x, in_mine x)) in
    let s_under = all_elsewhere P changed under s.others (λ x. omega (arith, part x, all_once x, in_level x, in_mine x)) in
    let s_free = all_elsewhere P changed free s.others (λ x. omega (arith, part x, all_once x, in_level x, in_mine x)) in
    let s_zero : SameTree (pages 0) (new 0) = (all_elsewhere P changed (0 ∷ []) s.others (λ x. omega (arith, part x, all_once x, in_level x, in_mine x))).0 in
    let l_under = all_elsewhere L (q ∷ []) under s.links (λ x. omega (arith, part x, all_once x)) in
    let l_free = all_elsewhere L (q ∷ []) free s.links (λ x. omega (arith, part x, all_once x)) in
    let l_zero : SameLinks (pages 0) (new 0) = (all_elsewhere L (q ∷ []) (0 ∷ []) s.links (λ x. omega (arith, part x, all_once x))).0 in
    let down = descend_same pages new d the_root s_above in
    let tall : height new ≡ lifted d (suc (suc h)) = height_same pages new d a b parent s.at s.parent_level s_above ∙ s.tall in
    let now : below new level ≡ fr ++ n ∷ m ∷ bk = below_put pages new a b parent before after n sep s.put s_a s_b in
    let same_below : below new (fr ++ n ∷ m ∷ bk) ≡ below pages mine = below_split pages new fr bk n q up s.split s_fr s_bk in
    let at_new : descend new d the_root ≡ level = down.0 ∙ s.at in
    let bottom : leaves_under new h (below new (below new level)) ≡ leaves =
    ap (λ ns. leaves_under new h (below new ns)) now ∙ ap (leaves_under new h) same_below ∙ leaves_same pages new h (below pages mine) s_under in
    record {
      good = s.good;
      was = ap (λ k. leaves_under pages k the_root) s.tall ∙ leaves_descend pages d (suc (suc h)) the_root ∙ ap (leaves_under pages (suc (suc h))) s.at ∙ ap (λ ns. leaves_under pages h (below pages ns)) was;
      now = ap (λ k. leaves_under new k the_root) tall ∙ leaves_descend new d (suc (suc h)) the_root ∙ ap (leaves_under new (suc (suc h))) at_new ∙ bottom;
      tree = leaf_pages pages P h (below pages mine) s_under;
      links = leaf_pages pages L h (below pages mine) l_under;
      zero_tree = s_zero;
      zero_links = l_zero;
      free_tree = s_free;
      free_links = l_free;
      levels = subst (λ k. HaveLevels new k the_root) (sym tall)
          (levels_descend pages new d (suc (suc h)) the_root s_above (subst (λ k. HaveLevels pages k the_root) s.tall s.good.levels)
          (λ have0.
          let have : HaveLevels pages (suc (suc h)) level = subst (HaveLevels pages (suc (suc h))) s.at have0 in
          let I : Pages → ℕ → Node → Type 0 = λ ps k. IsInnerPage ps k in
          let i_b : AllOf (I pages (suc (suc h))) (parent ∷ b) = AllOf-right (I pages (suc (suc h))) a (parent ∷ b) have.0 in
          let have1 : HaveLevels pages (suc h) mine = subst (HaveLevels pages (suc h)) was have.1 in
          let i_v : AllOf (I pages (suc h)) (n ∷ bk) = AllOf-right (I pages (suc h)) fr (n ∷ bk) have1.0 in
          subst (HaveLevels new (suc (suc h))) (sym s.at) (
            AllOf-append (I new (suc (suc h))) a (parent ∷ b) (inner_pages_same pages new (suc (suc h)) a s_a (AllOf-left (I pages (suc (suc h))) a (parent ∷ b) have.0))
                ((s.parent_kind ∙ i_b.0.0, s.parent_level ∙ i_b.0.1), inner_pages_same pages new (suc (suc h)) b s_b i_b.1),
            subst (HaveLevels new (suc h)) (sym now) (
              AllOf-append (I new (suc h)) fr (n ∷ m ∷ bk) (inner_pages_same pages new (suc h) fr s_fr (AllOf-left (I pages (suc h)) fr (n ∷ bk) have1.0))
                  (s.left, (s.right, inner_pages_same pages new (suc h) bk s_bk i_v.1)),
              subst (HaveLevels new h) (sym same_below) (levels_same pages new h (below pages mine) s_under have1.1),
            ),
          )));
      past = past_kept pages new (q ∷ spare) changed s.good (omega (arith, s_zero.leftmost)) s.others (λ x none. omega (arith, part x, none, in_level x, in_mine x));
      count = λ x.
          let in_new : times x (page_numbers (fr ++ n ∷ m ∷ bk)) ≡ times x (page_numbers fr) + times x (n.page ∷ q ∷ page_numbers bk) =
          ap (times x) (map-append f fr (n ∷ m ∷ bk)) ∙ times-append x (page_numbers fr) (page_numbers (n ∷ m ∷ bk)) in
          let one : times x (pages_under new (height new) the_root)
          ≡ times x (pages_above pages d the_root) + (times x (page_numbers level) + (times x (page_numbers (fr ++ n ∷ m ∷ bk)) + times x under)) =
          ap (λ k. times x (pages_under new k the_root)) tall ∙ ap (times x) (pages_descend new d (suc (suc h)) the_root)
          ∙ times-append x (pages_above new d the_root) (pages_under new (suc (suc h)) (descend new d the_root))
          ∙ ap₂ (λ t ns. times x t + times x (pages_under new (suc (suc h)) ns)) down.1 at_new
          ∙ ap (λ t. times x (pages_above pages d the_root) + t)
          (times-append x (page_numbers level) (pages_under new (suc h) (below new level))
          ∙ ap (λ ns. times x (page_numbers level) + times x (pages_under new (suc h) ns)) now
          ∙ ap (λ t. times x (page_numbers level) + t)
          (times-append x (page_numbers (fr ++ n ∷ m ∷ bk)) (pages_under new h (below new (fr ++ n ∷ m ∷ bk)))
          ∙ ap (λ ps. times x (page_numbers (fr ++ n ∷ m ∷ bk)) + times x ps) (ap (pages_under new h) same_below ∙ pages_same pages new h (below pages mine) s_under))) in
          omega (arith, one, part x, in_new, in_mine x);
    }

pub inner_split : (pages new : Pages) (spare : List ℕ) (d h : ℕ) (a b : List Node) (parent : Node) (before after : List Node) (n : Node) (q : ℕ) (up : Entry)
    → SplitsInnerOf pages new spare d h a b parent before after n q up → IsGoodTree new spare × (walk new ≡ walk pages)
inner_split pages new spare d h a b parent before after n q up s =
    rest_good pages new (q ∷ spare) spare (leaves_under pages h (below pages (inner_level pages a b before after n))) (inner_rest pages new spare d h a b parent before after n q up s)
