-- Pages that stand in the place of others: a good tree with the same walk, in which the leaves that a structure change leaves alone are the leaves of their keys still.
use Rattle.std.specs.Prelude.{◌≡◌, ◌≢◌, ℕ, zero, suc, Bool, true, List, []}
use Rattle.im_base_types.specs.Keys.{Key}
use Rattle.im_base_types.specs.Pages.{Entry}
use Rattle.im_base_types.specs.Maps.{with_key, without_key}
use Rattle.im_theory_log.specs.Tree.{with_body, with_entries}
use Rattle.im_theory_tree.specs.Levels.{Pages, height, leaves_under, the_root, walk}
use Rattle.im_theory_tree.specs.Good.{times, IsGoodTree}
use Rattle.im_theory_tree.specs.Search.{IsOnWay}
use Rattle.im_theory_tree.specs.Allocations.{TakesFree, TakesCount, GivesFree}
use Rattle.im_theory_tree.specs.KeySplits.{SplitsKeyLeaf, SplitsKeyInner, SplitsKeyRootLeaf, SplitsKeyRootInner}
use Rattle.im_theory_tree.specs.KeyDeletions.{DropsEntry, DropsLeftmost, DropsAll, leaf_down}
use Rattle.im_theory_tree.specs.Steps.{DropsChain}

-- the leaf of a key, where it stands apart, is the key's leaf in the new pages too
abbrev pub KeepsWays : Pages → Pages → (ℕ → Type 0) → Type 0
KeepsWays pages new Apart = (key : Key) (q : ℕ) → IsOnWay pages zero key q → Apart q → IsOnWay new zero key q

-- each way to a leaf stays
abbrev pub KeepsAllWays : Pages → Pages → Type 0
KeepsAllWays pages new = KeepsWays pages new (λ q. Unit {0})

-- the new pages are a good tree with the walk of the old ones, and keep the ways of keys whose leaf stands apart
pub record StandsFor (pages new : Pages) (Apart : ℕ → Type 0) : Type 0 where
  pub good : IsGoodTree new []
  pub same : walk new ≡ walk pages
  pub ways : KeepsWays pages new Apart

-- ---- the laws

-- Splits: of a leaf, of an inner page, of a root of either kind.
pub record SplitsKeepWays : Type 0 where
  pub leaf : (pages new : Pages) (spare : List ℕ) (key : Key) (parent p q n : ℕ) → SplitsKeyLeaf pages new spare key parent p q n → KeepsWays pages new (λ x. x ≢ p)
  pub inner : (pages new : Pages) (spare : List ℕ) (h : ℕ) (key : Key) (parent p q n : ℕ) → SplitsKeyInner pages new spare h key parent p q n → KeepsAllWays pages new
  pub root_leaf : (pages new : Pages) (spare : List ℕ) (left right n : ℕ) → SplitsKeyRootLeaf pages new spare left right n → KeepsWays pages new (λ x. x ≢ 1)
  pub root_inner : (pages new : Pages) (spare : List ℕ) (h left right n : ℕ) → SplitsKeyRootInner pages new spare h left right n → KeepsAllWays pages new

-- Deletions, and what is given back after them; allocations.
pub record DeletionsKeepWays : Type 0 where
  pub entry : (pages new : Pages) (spare : List ℕ) (h : ℕ) (key : Key) (parent p i : ℕ) → DropsEntry pages new spare h key parent p i → KeepsWays pages new (λ x. x ≢ leaf_down pages h p)
  pub leftmost : (pages new : Pages) (spare : List ℕ) (h : ℕ) (key : Key) (parent p : ℕ) → DropsLeftmost pages new spare h key parent p → KeepsWays pages new (λ x. x ≢ leaf_down pages h p)
  pub all : (pages new : Pages) (spare : List ℕ) (h : ℕ) → DropsAll pages new spare h → KeepsWays pages new (λ x. x ≢ leaf_down pages (suc h) 1)
  pub chain : (pages new : Pages) (gone : List ℕ) → DropsChain pages new gone → KeepsWays pages new (λ x. times x gone ≡ 0)
  pub takes_free : (pages new : Pages) (spare : List ℕ) (n q : ℕ) → TakesFree pages new spare n q → KeepsAllWays pages new
  pub takes_count : (pages new : Pages) (spare : List ℕ) → TakesCount pages new spare → KeepsAllWays pages new
  pub gives : (pages new : Pages) (spare : List ℕ) (q : ℕ) → GivesFree pages new spare q → KeepsAllWays pages new

-- the pages, with other entries of one leaf
abbrev pub with_leaf : Pages → ℕ → List Entry → Pages
with_leaf pages p es = with_body pages p (with_entries (pages p) es)

-- a key joined a leaf that stands apart, or left it: what stood for the old pages stands for the new ones, and has each way that it had
pub record IsCarried (new pages_after new_after : Pages) (Apart : ℕ → Type 0) : Type 0 where
  pub stands : StandsFor pages_after new_after Apart
  pub ways : KeepsAllWays new new_after

-- A way reads inner pages alone: trees with the same leaves have the same ways to them. So a key that joins its leaf, or leaves it, changes no way; and where the leaf stands apart from what a structure change
-- makes of the pages, it may join or leave on both sides.
pub record KeysKeepWays : Type 0 where
  pub same : (pages new : Pages) (key : Key) (p : ℕ) → IsGoodTree new [] → leaves_under new (height new) the_root ≡ leaves_under pages (height pages) the_root → IsOnWay pages zero key p → IsOnWay new zero key p
  pub put : (pages new : Pages) (alone : ℕ → Bool) (q : ℕ) (k : Key) (i : ℕ) → IsGoodTree pages [] → StandsFor pages new (λ x. alone x ≡ true) → alone q ≡ true → IsOnWay pages zero k q
      → IsCarried new (with_leaf pages q (with_key k i (pages q).entries)) (with_leaf new q (with_key k i (new q).entries)) (λ x. alone x ≡ true)
  pub dropped : (pages new : Pages) (alone : ℕ → Bool) (q : ℕ) (k : Key) → IsGoodTree pages [] → StandsFor pages new (λ x. alone x ≡ true) → alone q ≡ true → IsOnWay pages zero k q
      → IsCarried new (with_leaf pages q (without_key k (pages q).entries)) (with_leaf new q (without_key k (new q).entries)) (λ x. alone x ≡ true)
