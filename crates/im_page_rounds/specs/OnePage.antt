-- A record of redo, applied to its page alone.
use Rattle.std.specs.Prelude.{◌≡◌, ℕ, Bool, true}
use Rattle.im_base_types.specs.Pages.{Page}
use Rattle.im_base_types.specs.Records.{Logged, What, InsertKey, DeleteKey, UndoInsert, UndoDelete}
use Rattle.im_theory_log.specs.Histories.{changes_page, page_after}
use Rattle.im_theory_log.specs.Copies.{redo_one}
use Rattle.im_theory_log.specs.WriterSteps.{applies}
use Rattle.im_page.specs.LeafChange.{CanPutKey, CanTakeKey}

-- a page takes a record: a key to be put is lacking and has room in the leaf, one to be taken out is there; an image is always taken
abbrev pub PageTakes : What → Page → Type 0
PageTakes (InsertKey k i) g = CanPutKey g k
PageTakes (UndoDelete k i) g = CanPutKey g k
PageTakes (DeleteKey k i) g = CanTakeKey g k
PageTakes (UndoInsert k i) g = CanTakeKey g k
PageTakes _ g = Unit {0}

-- It is said whether a record of this kind changes a page. Where it does, the page is changed by it, and otherwise it is as it was.
pub record PageChanges (lsn : ℕ) (what : What) (old : Page) (done : Bool) (new : Page) : Type 0 where
  pub changes : done ≡ changes_page what
  pub is : new ≡ page_after lsn what old

-- Redo went past a record of the page, and it is said whether it was applied.
pub record PageRedone (r : Logged) (old : Page) (done : Bool) (new : Page) : Type 0 where
  pub applied : done ≡ applies r r.page old
  pub is : new ≡ redo_one r r.page old

-- The page needs the record, and does not take it.
pub record PageRefuses (r : Logged) (page : Page) : Type 0 where
  pub needs : applies r r.page page ≡ true
  pub lacks : ¬ (PageTakes r.what page)
