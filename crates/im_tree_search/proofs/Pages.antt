-- The tree after calls that change no page, and a page that was got.
use Rattle.std.proofs.Common.{◌≡◌, ℕ, Bool, None, ◌∙◌, ap}
use Rattle.im_base_types.specs.declared.fault.Fault.{Fault}
use Rattle.im_base_types.specs.Pages.{Page}
use Rattle.im_base_disk.specs.declared.disk.Disk.{Ghosts}
use Rattle.im_page_pool.specs.declared.frame.Frame.{Frame}
use Rattle.im_page_pool.specs.Pool.{PoolView, page_at}
use Rattle.im_page_writer.specs.declared.page_writer.PageWriter.{PageWriter}
use Rattle.im_page_writer.specs.Outcome.{AllPages, AreLoaded, Outcome}
use Rattle.im_page_writer.proofs.Outcomes.{pages_still}
use Rattle.im_tree_search.specs.Levels.{bodies_of}
use Rattle.im_tree_search.specs.Found.{HasTree}

-- the tree is there still
pub tree_still : {D : Type 0} (d : Ghosts D) {m : Fault → Bool} {pages : AllPages} {v : PageWriter} {old : D} {w : PageWriter} {mid : D} → HasTree d pages v old → Outcome d AreLoaded m v old w mid None → HasTree d pages w mid
tree_still {D} d {m} {pages} {v} {old} {w} {mid} tree one = record { has = pages_still d tree.has one; spare = tree.spare; good = tree.good }

-- what a page says that was got
pub got_says : (pages : AllPages) (p : ℕ) (pool : PoolView) (frame : Frame) → page_at pool p ≡ pages p → frame.number ≡ p → (page_at pool frame.number).body ≡ bodies_of pages p
got_says pages p pool frame shown is = ap (λ (n : ℕ). (page_at pool n).body) is ∙ ap (λ (x : Page). x.body) shown
