-- A way reads inner pages alone: pages that differ in the entries of a leaf have the same ways to leaves.
use Rattle.std.proofs.Common.{◌≡◌, ℕ, zero, true, List, [], ◌∷◌, ◌++◌, sym, ap, subst, ◌∙◌}
use Rattle.im_base_types.specs.Keys.{Key}
use Rattle.im_base_types.specs.Pages.{Entry}
use Rattle.im_base_types.specs.Maps.{with_key, without_key}
use Rattle.im_theory_tree.specs.Levels.{Pages, Node, leaves_under, the_root, height}
use Rattle.im_theory_tree.specs.Good.{AtOrAbove, IsUnder, InRange, next_bound, AreOrdered, IsGoodTree}
use Rattle.im_theory_tree.specs.Search.{IsOnWay}
use Rattle.im_theory_tree.proofs.LeafChange.{leaf_change}
use Rattle.im_theory_tree.proofs.Order.{ordered_right}
use Rattle.im_theory_tree.proofs.KeyLemmas.{all_with, all_without}
use Rattle.im_theory_tree.proofs.TheoryLaws.{changes_leaf, key_put, key_dropped}
use Rattle.im_theory_tree.specs.Ways.{StandsFor, IsCarried, KeysKeepWays, with_leaf}
use Rattle.im_theory_tree.proofs.LeafByKey.{in_range_on_way}

-- trees with the same leaves have the same ways to them
pub same_leaves_same_ways : (pages new : Pages) (key : Key) (p : ℕ) → IsGoodTree new [] → leaves_under new (height new) the_root ≡ leaves_under pages (height pages) the_root
    → IsOnWay pages zero key p → IsOnWay new zero key p
same_leaves_same_ways pages new key p good same way =
    subst (IsOnWay new zero key) way.page
    (in_range_on_way new key way.left way.node way.right good (same ∙ sym way.leaves) way.at way.under)

-- WAY IS BLIND: a leaf with other entries within its range leaves the leaves as they were
leaves_stay : (pages : Pages) (left : List Node) (n : Node) (right : List Node) (es : List Entry) → IsGoodTree pages [] → leaves_under pages (height pages) the_root ≡ left ++ n ∷ right
    → InRange n.bound (next_bound right) es → leaves_under (with_leaf pages n.page es) (height (with_leaf pages n.page es)) the_root ≡ leaves_under pages (height pages) the_root
leaves_stay pages left n right es good are range =
    (leaf_change pages (with_leaf pages n.page es) [] left n right (changes_leaf pages [] left n right es good are range)).1 ∙ sym are

range_of : (pages : Pages) (p : ℕ) (k : Key) (good : IsGoodTree pages []) (way : IsOnWay pages zero k p) → InRange way.node.bound (next_bound way.right) (pages way.node.page).entries
range_of pages p k good way = (ordered_right pages way.left (way.node ∷ way.right) (subst (AreOrdered pages) (sym way.leaves) good.ordered)).0

pub leaves_put : (pages : Pages) (p : ℕ) (k : Key) (i : ℕ) → IsGoodTree pages [] → IsOnWay pages zero k p
    → leaves_under (with_leaf pages p (with_key k i (pages p).entries)) (height (with_leaf pages p (with_key k i (pages p).entries))) the_root ≡ leaves_under pages (height pages) the_root
leaves_put pages p k i good way =
    subst (λ (q : ℕ). leaves_under (with_leaf pages q (with_key k i (pages q).entries)) (height (with_leaf pages q (with_key k i (pages q).entries))) the_root ≡ leaves_under pages (height pages) the_root) way.page
    (leaves_stay pages way.left way.node way.right (with_key k i (pages way.node.page).entries) good (sym way.leaves)
    (all_with (λ x. AtOrAbove way.node.bound x × IsUnder x (next_bound way.right)) k i (pages way.node.page).entries (way.at, way.under) (range_of pages p k good way)))

pub leaves_dropped : (pages : Pages) (p : ℕ) (k : Key) → IsGoodTree pages [] → IsOnWay pages zero k p
    → leaves_under (with_leaf pages p (without_key k (pages p).entries)) (height (with_leaf pages p (without_key k (pages p).entries))) the_root ≡ leaves_under pages (height pages) the_root
leaves_dropped pages p k good way =
    subst (λ (q : ℕ). leaves_under (with_leaf pages q (without_key k (pages q).entries)) (height (with_leaf pages q (without_key k (pages q).entries))) the_root ≡ leaves_under pages (height pages) the_root) way.page
    (leaves_stay pages way.left way.node way.right (without_key k (pages way.node.page).entries) good (sym way.leaves)
    (all_without (λ e. AtOrAbove way.node.bound e.0 × IsUnder e.0 (next_bound way.right)) k (pages way.node.page).entries (range_of pages p k good way)))

-- A KEY OF ANOTHER, put into a leaf that stands apart
pub carried_put : (pages new : Pages) (Apart : ℕ → Type 0) (q : ℕ) (k : Key) (i : ℕ) → IsGoodTree pages [] → StandsFor pages new Apart → Apart q → IsOnWay pages zero k q
    → IsCarried new (with_leaf pages q (with_key k i (pages q).entries)) (with_leaf new q (with_key k i (new q).entries)) Apart
carried_put pages new Apart q k i good stands apart way =
    let there : IsOnWay new zero k q = stands.ways k q way apart in
    let one = key_put pages q k i good way in
    let two = key_put new q k i stands.good there in
    let on : (key : Key) (x : ℕ) → IsOnWay new zero key x → IsOnWay (with_leaf new q (with_key k i (new q).entries)) zero key x =
    λ key x to. same_leaves_same_ways new (with_leaf new q (with_key k i (new q).entries)) key x two.good (leaves_put new q k i stands.good there) to in
    record {
      stands = record {
        good = two.good;
        same = two.walks ∙ ap (with_key k i) stands.same ∙ sym one.walks;
        ways = λ key x to alone.
            on key x (stands.ways key x (same_leaves_same_ways (with_leaf pages q (with_key k i (pages q).entries)) pages key x good (sym (leaves_put pages q k i good way)) to) alone);
      };
      ways = λ key x to all. on key x to;
    }

-- and one taken out
pub carried_dropped : (pages new : Pages) (Apart : ℕ → Type 0) (q : ℕ) (k : Key) → IsGoodTree pages [] → StandsFor pages new Apart → Apart q → IsOnWay pages zero k q
    → IsCarried new (with_leaf pages q (without_key k (pages q).entries)) (with_leaf new q (without_key k (new q).entries)) Apart
carried_dropped pages new Apart q k good stands apart way =
    let there : IsOnWay new zero k q = stands.ways k q way apart in
    let one = key_dropped pages q k good way in
    let two = key_dropped new q k stands.good there in
    let on : (key : Key) (x : ℕ) → IsOnWay new zero key x → IsOnWay (with_leaf new q (without_key k (new q).entries)) zero key x =
    λ key x to. same_leaves_same_ways new (with_leaf new q (without_key k (new q).entries)) key x two.good (leaves_dropped new q k stands.good there) to in
    record {
      stands = record {
        good = two.good;
        same = two.walks ∙ ap (without_key k) stands.same ∙ sym one.walks;
        ways = λ key x to alone.
            on key x (stands.ways key x (same_leaves_same_ways (with_leaf pages q (without_key k (pages q).entries)) pages key x good (sym (leaves_dropped pages q k good way)) to) alone);
      };
      ways = λ key x to all. on key x to;
    }

pub keys_keep_ways : KeysKeepWays
keys_keep_ways = record {
  same = same_leaves_same_ways;
  put = λ pages new alone. carried_put pages new (λ (x : ℕ). alone x ≡ true);
  dropped = λ pages new alone. carried_dropped pages new (λ (x : ℕ). alone x ≡ true);
}
