-- Which kind of page stands at a level of the tree, and what a writer's pages say.
use Rattle.std.specs.Prelude.{◌≡◌, ℕ, ◌==◌, Bool, if◌then◌else◌}
use Rattle.im_base_types.specs.Keys.{Key}
use Rattle.im_base_types.specs.Pages.{Body}
use Rattle.im_base_types.specs.declared.page_kind.PageKind.{PageKind}
use Rattle.im_base_types.specs.declared.page_kind.PageKind.TheVariants.{Leaf, Inner}
use Rattle.im_base_types.specs.Maps.{Start, From, Above}
use Rattle.im_theory_log.specs.Writer.{Writer}
use Rattle.im_page_writer.specs.Outcome.{AllPages}
use Rattle.im_theory_tree.specs.Levels.{Pages}

-- leaves stand at level 0, inner pages above
abbrev pub kind_at : ℕ → PageKind
kind_at level = if level == 0 then Leaf else Inner

-- The page is one of the tree, of this level.
pub record HasLevel (h : ℕ) (body : Body) : Type 0 where
  pub kind : body.kind ≡ kind_at h
  pub level : body.level ≡ h

-- what the pages say
abbrev pub bodies_of : AllPages → Pages
bodies_of pages = λ p. (pages p).body

-- what a writer's pages say
abbrev pub bodies : Writer → Pages
bodies s = λ p. (s.pages p).page.body

-- a search for the first entry begins at the key, or above it
abbrev pub start_at : Bool → Key → Start
start_at inclusive key = if inclusive then From key else Above key
