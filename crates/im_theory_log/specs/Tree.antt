-- What the theory of logs asks of the tree of pages: its words, and the laws of one key put or taken out.
use Rattle.std.specs.Prelude.{◌≡◌, ◌⊎◌, ◌<◌, ℕ, List, false, if◌then◌else◌, ◌==◌}
use Rattle.im_base_types.specs.Keys.{Key}
use Rattle.im_base_types.specs.Maps.{with_key, without_key}
use Rattle.im_base_types.specs.Pages.{Entry, Body}

-- a page with other entries. A change of entries clears the mark of a structure change
abbrev pub with_entries : Body → List Entry → Body
with_entries b es = record b { marked = false; entries = es }

-- pages with one of them changed
abbrev pub with_body : (ℕ → Body) → ℕ → Body → ℕ → Body
with_body pages p new q = if p == q then new else pages q

-- What the crate of the tree says of pages.
pub record Tree : Type 1 where
  -- the entries of the leaves, from left to right
  pub walk : (ℕ → Body) → List Entry
  pub Good : (ℕ → Body) → Type 0
  -- the page is the key's leaf; it lacks the key and has room for the entry
  pub CanPut : (ℕ → Body) → (page : ℕ) → Key → (rid : ℕ) → Type 0
  -- the page is the key's leaf, and has the entry
  pub CanDrop : (ℕ → Body) → (page : ℕ) → Key → (rid : ℕ) → Type 0

-- What it proves: a key put into its leaf, or taken out, leaves a good tree, and the walk with the key or without; and the leaf's number is below
-- the page count that page 0 says, unless it is 0 or 1.
pub record TreeLaws (tree : Tree) : Type 0 where
  pub put_good : (pages : ℕ → Body) (p : ℕ) (k : Key) (i : ℕ) → tree.Good pages → tree.CanPut pages p k i
      → tree.Good (with_body pages p (with_entries (pages p) (with_key k i (pages p).entries)))
  pub put_walk : (pages : ℕ → Body) (p : ℕ) (k : Key) (i : ℕ) → tree.Good pages → tree.CanPut pages p k i
      → tree.walk (with_body pages p (with_entries (pages p) (with_key k i (pages p).entries))) ≡ with_key k i (tree.walk pages)
  pub drop_good : (pages : ℕ → Body) (p : ℕ) (k : Key) (i : ℕ) → tree.Good pages → tree.CanDrop pages p k i
      → tree.Good (with_body pages p (with_entries (pages p) (without_key k (pages p).entries)))
  pub drop_walk : (pages : ℕ → Body) (p : ℕ) (k : Key) (i : ℕ) → tree.Good pages → tree.CanDrop pages p k i
      → tree.walk (with_body pages p (with_entries (pages p) (without_key k (pages p).entries))) ≡ without_key k (tree.walk pages)
  pub put_within : (pages : ℕ → Body) (p : ℕ) (k : Key) (i : ℕ) → tree.Good pages → tree.CanPut pages p k i → (p < 2) ⊎ (p < (pages 0).leftmost)
  pub drop_within : (pages : ℕ → Body) (p : ℕ) (k : Key) (i : ℕ) → tree.Good pages → tree.CanDrop pages p k i → (p < 2) ⊎ (p < (pages 0).leftmost)
