-- The pages of an inner page's split that the code makes are those of a split of the tree.
use Rattle.std.proofs.Common.{◌≡◌, ℕ, suc, ◌+◌, false, List, [], ◌∷◌, take, drop, refl, sym, ap, ◌∙◌, arith}
use Rattle.im_base_types.specs.Keys.{Key}
use Rattle.im_base_types.specs.Pages.{Body}
use Rattle.im_theory_log.specs.Tree.{with_body, with_entries}
use Rattle.im_base_types.specs.declared.page_kind.PageKind.TheVariants.{Inner}
use Rattle.im_theory_page.specs.Entry.{entry_at, Rises}
use Rattle.im_theory_page.specs.Child.{IsChild}
use Rattle.im_theory_tree.specs.Levels.{Pages}
use Rattle.im_theory_tree.specs.Good.{IsGoodTree}
use Rattle.im_theory_tree.specs.Search.{IsOnWay}
use Rattle.im_theory_tree.specs.KeySplits.{SplitsInnerPages, SplitsKeyInner}
use Rattle.im_theory_tree.proofs.Cited.{way_inner, step_way}
use Rattle.im_smo_pages.specs.Bodies.{inner_body, with_separator}
use Rattle.im_smo_pages.specs.Parts.{SplitsAt}
use Rattle.im_smo_pages.specs.Changed.{SamePages, inner_split_pages}
use Rattle.im_smo_pages.proofs.Updates.{at_here, at_other, tree_of, links_of, links_then, links_with, not_first, not_later}
use Rattle.im_smo_pages.proofs.LeafSplitSteps.{way_not_spare}

-- the pages of the split are different ones
pub record InnerApart (parent p q : ℕ) : Type 0 where
  pub right_left : q ≡ p → ⊥
  pub parent_left : parent ≡ p → ⊥
  pub parent_right : parent ≡ q → ⊥

-- a level above is another level
other_level : (pages : Pages) (h a b : ℕ) → (pages a).level ≡ suc (suc h) → (pages b).level ≡ suc h → a ≡ b → ⊥
other_level pages h a b high low e = absurd (omega (arith, high, low, ap (λ x. (pages x).level) e))

pub inner_apart : (pages : Pages) (spare : List ℕ) (h : ℕ) (key : Key) (parent p q : ℕ) → IsGoodTree pages (q ∷ spare) → IsOnWay pages (suc (suc h)) key parent → IsChild (pages parent) key p
    → InnerApart parent p q
inner_apart pages spare h key parent p q good way child =
    let down = step_way pages (suc h) key parent p way child in
    record {
      right_left = not_first p q spare (way_not_spare pages (q ∷ spare) (suc h) key p good down);
      parent_left = other_level pages h parent p (way_inner pages (suc h) key parent way).1 (way_inner pages h key p down).1;
      parent_right = λ e. not_first parent q spare (way_not_spare pages (q ∷ spare) (suc (suc h)) key parent good way) (sym e);
    }

module _ (pages new : Pages) (h parent p q n : ℕ) (apart : InnerApart parent p q) (kind : (pages p).kind ≡ Inner) (level : (pages p).level ≡ suc h) (is : SamePages new (inner_split_pages pages parent p q n)) where
  abbrev inner_left : Body
  inner_left = with_entries (pages p) (take n (pages p).entries)

  abbrev inner_right : Body
  inner_right = inner_body (pages p).level (entry_at (pages p).entries n).1 (drop (n + 1) (pages p).entries)

  abbrev inner_above : Body
  inner_above = with_separator (pages parent) (entry_at (pages p).entries n).0 q

  abbrev inner_first : Pages
  inner_first = with_body pages parent inner_above

  abbrev inner_second : Pages
  inner_second = with_body inner_first q inner_right

  inner_at_left : new p ≡ inner_left
  inner_at_left = is p ∙ at_here inner_second p inner_left

  inner_at_right : new q ≡ inner_right
  inner_at_right = is q ∙ at_other inner_second p inner_left q (λ e. apart.right_left (sym e)) ∙ at_here inner_first q inner_right

  inner_at_parent : new parent ≡ inner_above
  inner_at_parent =
      is parent ∙ at_other inner_second p inner_left parent (λ e. apart.parent_left (sym e))
      ∙ at_other inner_first q inner_right parent (λ e. apart.parent_right (sym e)) ∙ at_here pages parent inner_above

  pub inner_pages_split : SplitsInnerPages pages new h parent p q n
  inner_pages_split = record {
    left = (ap (λ (b : Body). b.kind) inner_at_left ∙ kind, ap (λ (b : Body). b.level) inner_at_left ∙ level);
    left_leftmost = ap (λ (b : Body). b.leftmost) inner_at_left;
    left_entries = ap (λ (b : Body). b.entries) inner_at_left;
    right = (ap (λ (b : Body). b.kind) inner_at_right, ap (λ (b : Body). b.level) inner_at_right ∙ level);
    right_leftmost = ap (λ (b : Body). b.leftmost) inner_at_right;
    right_entries = ap (λ (b : Body). b.entries) inner_at_right;
    adds = record {
      kind = ap (λ (b : Body). b.kind) inner_at_parent;
      level = ap (λ (b : Body). b.level) inner_at_parent;
      leftmost = ap (λ (b : Body). b.leftmost) inner_at_parent;
      entries = ap (λ (b : Body). b.entries) inner_at_parent;
    };
    others = λ x t.
        let t1 = not_later x parent (p ∷ q ∷ []) t in
        tree_of (pages x) (new x)
        (is x ∙ at_other inner_second p inner_left x (not_first x p (q ∷ []) t1) ∙ at_other inner_first q inner_right x (not_first x q [] (not_later x p (q ∷ []) t1))
        ∙ at_other pages parent inner_above x (not_first x parent (p ∷ q ∷ []) t));
    links = λ x t.
        links_then (pages x) (inner_first x) (new x) (links_with pages parent inner_above (record { prev = refl; next = refl }) x)
        (links_then (inner_first x) (inner_second x) (new x) (links_of (inner_first x) (inner_second x) (at_other inner_first q inner_right x (not_first x q [] t)))
        (links_then (inner_second x) (with_body inner_second p inner_left x) (new x)
        (links_with inner_second p inner_left (links_then (inner_second p) (pages p) inner_left (links_of (inner_second p) (pages p) (sym at_p)) (record { prev = refl; next = refl })) x)
        (links_of (with_body inner_second p inner_left x) (new x) (is x))));
  }
    where
      at_p : inner_second p ≡ pages p
      at_p = at_other inner_first q inner_right p apart.right_left ∙ at_other pages parent inner_above p apart.parent_left

-- the images of an inner page's split, in a good tree, are a split of the page on the key's way
pub inner_step : (pages new : Pages) (spare : List ℕ) (h : ℕ) (key : Key) (parent p q n : ℕ) → IsGoodTree pages (q ∷ spare) → IsOnWay pages (suc (suc h)) key parent
    → IsChild (pages parent) key p → Rises (pages parent).entries → Rises (pages p).entries → SplitsAt false Inner (pages p) n → SamePages new (inner_split_pages pages parent p q n)
    → SplitsKeyInner pages new spare h key parent p q n
inner_step pages new spare h key parent p q n good way child parent_rises rises at is =
    let down = way_inner pages h key p (step_way pages (suc h) key parent p way child) in
    record {
      good = good;
      way = way;
      child = child;
      parent_rises = parent_rises;
      rises = rises;
      within = omega (arith, at.well.right);
      pages_split = inner_pages_split pages new h parent p q n (inner_apart pages spare h key parent p q good way child) down.0 down.1 is;
    }
