-- What a search answers beside a structure change of which some pages are made.
use Rattle.std.specs.Prelude.{◌≡◌, ◌==◌, ℕ, Bool, true, false, List, take, Result, IfOk, IfErr, Ok, Err}
use Rattle.std.specs.List.{list_any}
use Rattle.im_base_types.specs.declared.fault.Fault.{Fault}
use Rattle.im_base_types.specs.Keys.{Key}
use Rattle.im_base_disk.specs.declared.disk.Disk.{Ghosts}
use Rattle.im_page_pool.specs.declared.frame.Frame.{Frame}
use Rattle.im_page_pool.specs.Pool.{PoolView, page_at, IsAt}
use Rattle.im_page_writer.specs.declared.page_writer.PageWriter.{PageWriter}
use Rattle.im_page_writer.specs.Outcome.{AllPages, AreLoaded, HasPages}
use Rattle.im_theory_tree.specs.Levels.{Pages}
use Rattle.im_theory_tree.specs.Good.{IsGoodTree}
use Rattle.im_theory_tree.specs.Search.{IsOnWay}
use Rattle.im_tree_search.specs.declared.change_beside.Beside.{Beside}
use Rattle.im_tree_search.specs.declared.sight.Sight.{Sight}
use Rattle.im_tree_search.specs.declared.sight.Sight.TheVariants.{Seen, Hidden}
use Rattle.im_tree_search.specs.Levels.{HasLevel, bodies_of}

-- ---- a structure change beside

-- whether a page is one of those that are made
abbrev pub is_done : Beside → ℕ → Bool
is_done beside p = list_any (λ (q : ℕ). q == p) (take beside.done beside.pages.now)

-- The writer has some pages, all with their copies. But for those that are made they are these, which are a good tree; where page 0 is made, its page count of before is told.
pub record HasTreeBut {D : Type 0} (d : Ghosts D) (pages : AllPages) (beside : Beside) (w : PageWriter) (disk : D) : Type 0 where
  pub now : AllPages
  pub has : HasPages d AreLoaded now w disk
  pub agrees : (p : ℕ) → is_done beside p ≡ false → now p ≡ pages p
  pub count : is_done beside 0 ≡ true → beside.count ≡ (pages 0).body.leftmost
  pub spare : List ℕ
  pub good : IsGoodTree (bodies_of pages) spare

-- ---- what is answered

-- of what is seen this, and where it is hidden that
abbrev pub IfSeen : {A : Type 0} → (A → Type 0) → Type 0 → Sight A → Type 0
IfSeen P Why (Seen a) = P a
IfSeen P Why Hidden = Why

-- the answer of a search beside nothing is what is seen, and its refusal the same
pub record IsSeenOf {A : Type 0} (sight : Result (Sight A) Fault) (result : Result A Fault) : Type 0 where
  pub ok : IfOk result (λ a. sight ≡ Ok (Seen a))
  pub err : IfErr result (λ e. sight ≡ Err e)

-- A page of this level is held in the frame, and is none of those that are made.
pub record IsSettled (h : ℕ) (beside : Beside) (pool : PoolView) (frame : Frame) : Type 0 where
  pub at : IsAt pool frame
  pub level : HasLevel h (page_at pool frame.number).body
  pub clear : is_done beside frame.number ≡ false

-- A page on the way to a key is made.
pub record IsWayMade (pages : Pages) (beside : Beside) (key : Key) : Type 0 where
  pub level : ℕ
  pub page : ℕ
  pub way : IsOnWay pages level key page
  pub made : is_done beside page ≡ true
