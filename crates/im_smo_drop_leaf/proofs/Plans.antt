-- The parts of a plan put together.
use Rattle.std.proofs.Common.{◌≡◌, ◌≢◌, ℕ, List, [], ◌∷◌, ◌++◌, length, ⊎_elim, sym, ap, subst, ◌∙◌}
use Rattle.im_base_types.specs.declared.page_kind.PageKind.TheVariants.{Inner}
use Rattle.im_base_types.specs.Keys.{Key}
use Rattle.im_page_writer.specs.Outcome.{AllPages}
use Rattle.im_theory_tree.specs.Levels.{Pages, walk}
use Rattle.im_theory_tree.specs.Good.{IsGoodTree}
use Rattle.im_theory_tree.specs.Search.{IsOnWay}
use Rattle.im_theory_tree.specs.Steps.{DropsChain}
use Rattle.im_theory_tree.proofs.LookupLemmas.{way_inner}
use Rattle.im_smo_pages.specs.Images.{Numbered}
use Rattle.im_smo_pages.specs.Changed.{SamePages}
use Rattle.im_smo_pages.specs.Seen.{bodies, seen}
use Rattle.im_tree_search.specs.Levels.{HasLevel}
use Rattle.im_tree_search.specs.declared.child_place.ChildPlace.{ChildPlace}
use Rattle.im_tree_search.specs.Children.{StandsAt}
use Rattle.im_tree_search.proofs.Steps.{way_level}
use Rattle.im_smo_drop_leaf.specs.declared.beside.Beside.{Beside}
use Rattle.im_smo_drop_leaf.specs.Chains.{IsBeside, AreLeavesBeside, out_of_tree}
use Rattle.im_smo_drop_leaf.specs.Ways.{Hangs, IsPlaced}
use Rattle.im_smo_drop_leaf.specs.Emptied.{SameBut}
use Rattle.im_smo_drop_leaf.specs.Given.{given_pages, IsGiven}
use Rattle.im_smo_drop_leaf.specs.Plan.{IsPlan}
use Rattle.im_smo_drop_leaf.proofs.WithoutEntries.{seen_same}
use Rattle.im_smo_drop_leaf.proofs.OneLeaf.{one_leaf}
use Rattle.im_smo_drop_leaf.proofs.Leaving.{chain_drops, chain_keeps, leaves_beside}

-- the leaf that was reached is that of the key
pub the_leaf : (pages : Pages) (key : Key) (parent : ℕ) (place : ChildPlace) (n : ℕ) (above : List ℕ) (p : ℕ) → IsGoodTree pages [] → IsPlaced pages key parent place 0 n above → IsOnWay pages 0 key p → n ≡ p
the_leaf pages key parent place n above p good at way = one_leaf pages [] key n p good at.way way

-- the leaf of a key, where it has one entry and is not page 1
pub record IsLast (pages : Pages) (n p : ℕ) : Type 0 where
  pub is : n ≡ p
  pub level : HasLevel 0 (pages n)
  pub one : length (pages n).entries ≡ 1
  pub other : n ≢ 1

pub last_leaf : (pages : Pages) (key : Key) (parent : ℕ) (place : ChildPlace) (n : ℕ) (above : List ℕ) (p : ℕ) → IsGoodTree pages [] → IsPlaced pages key parent place 0 n above → IsOnWay pages 0 key p → length (pages p).entries ≡ 1 → p ≢ 1
    → IsLast pages n p
last_leaf pages key parent place n above p good at way one other =
    let is : n ≡ p = the_leaf pages key parent place n above p good at way in
    record {
      is = is;
      level = way_level pages 0 key n at.way;
      one = ap (λ (x : ℕ). length (pages x).entries) is ∙ one;
      other = λ root. other (sym is ∙ root);
    }

-- ---- the chain taken out, over the images of a plan that has just begun

-- what `take_out` asks of the pages
pub record MayTakeOut (now : Pages) (parent : ℕ) (place : ChildPlace) (near : Beside) : Type 0 where
  pub child : ℕ
  pub inner : (now parent).kind ≡ Inner
  pub at : StandsAt (now parent) place child
  pub are : AreLeavesBeside now near.prev near.next

module _ (store : AllPages) (first : List Numbered) (tree : Pages) (key : Key) (parent : ℕ) (place : ChildPlace) (n : ℕ) (above : List ℕ) (near : Beside) (is : seen store first ≡ tree) (good : IsGoodTree tree []) (hangs : Hangs tree key parent place 0 n above)
    (beside : IsBeside (tree n) near) where
  pub may_take_out : IsOnWay tree 0 key n → MayTakeOut (seen store first) parent place near
  may_take_out way =
      subst (λ (f : Pages). MayTakeOut f parent place near) (sym is)
      (record {
        child = hangs.p;
        inner = (way_inner tree hangs.h key parent hangs.up).0;
        at = hangs.at;
        are = leaves_beside tree key n near.prev near.next good way beside.prev beside.next;
      })

  -- it is out of the tree, and its pages are spare
  pub taken_out : (new : List Numbered) → SamePages (seen store new) (out_of_tree (seen store first) parent place near.prev near.next) → DropsChain tree (seen store new) (above ++ n ∷ [])
  taken_out new same =
      chain_drops tree (seen store new) key parent place n above near.prev near.next good hangs beside.none beside.prev beside.next
      (subst (λ (f : Pages). SamePages (seen store new) (out_of_tree f parent place near.prev near.next)) is same)

-- the chain hangs, unless it is the root's
pub not_root : (pages : Pages) (key : Key) (parent : ℕ) (place : ChildPlace) (n : ℕ) (above : List ℕ) → IsPlaced pages key parent place 0 n above → n ≢ 1 → Hangs pages key parent place 0 n above
not_root pages key parent place n above at other = ⊎_elim (λ (root : n ≡ 1). absurd (other root)) (λ (hangs : Hangs pages key parent place 0 n above). hangs) at.from

-- what the images are once all pages of the chain are given back, over pages that they make the same
pub planned : (store now : AllPages) (mid new : List Numbered) (n : ℕ) (above : List ℕ) → SameBut n (bodies store) (bodies now) → DropsChain (bodies now) (seen store mid) (above ++ n ∷ []) → IsGiven store mid new n above [] → IsPlan now n new
planned store now mid new n above but drops given =
    let same : seen now new ≡ seen store new = seen_same store now n new but given.gone in
    record {
      good = subst (λ (f : Pages). IsGoodTree f []) (sym same) given.good;
      same = ap walk same ∙ given.same ∙ (chain_keeps (bodies now) (seen store mid) (above ++ n ∷ []) drops).1;
      some = given.some;
      gone = ap (λ (f : Pages). (f n).kind) same ∙ given.gone;
      by = record {
        mid = seen store mid;
        above = above;
        drops = drops;
        gives = λ x. ap (λ (f : Pages). f x) same ∙ given.pages x ∙ ap (λ (xs : List ℕ). given_pages (seen store mid) (xs ++ n ∷ []) x) (sym given.parts);
      };
    }
