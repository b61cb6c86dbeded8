-- Pages whose leaf of a key is about to lose its last entry.
use Rattle.std.specs.Prelude.{◌≡◌, ◌≢◌, ℕ, [], if◌then◌else◌, ◌==◌}
use Rattle.im_base_types.specs.declared.page_kind.PageKind.TheVariants.{Leaf, Inner}
use Rattle.im_theory_log.specs.Tree.{with_entries}
use Rattle.im_page_writer.specs.Outcome.{AllPages}
use Rattle.im_theory_tree.specs.Levels.{Pages}
use Rattle.im_smo_pages.specs.Bodies.{says}

-- the pages where page p has no entry, as after a record that takes its last one out, and so no mark of a structure change
abbrev pub emptied : AllPages → ℕ → AllPages
emptied pages p q = if p == q then says (pages q) (with_entries (pages q).body []) else pages q

-- Pages that are the same but for what leaves hold: the kinds and levels of all, and the inner pages.
pub record SameAbove (pages tree : Pages) : Type 0 where
  pub kind : (q : ℕ) → (pages q).kind ≡ (tree q).kind
  pub level : (q : ℕ) → (pages q).level ≡ (tree q).level
  pub inner : (q : ℕ) → (tree q).kind ≡ Inner → pages q ≡ tree q

-- Pages that are the same but for one of them, which is a leaf.
pub record SameBut (n : ℕ) (pages tree : Pages) : Type 0 where
  pub leaf : (pages n).kind ≡ Leaf
  pub others : (q : ℕ) → n ≢ q → pages q ≡ tree q
