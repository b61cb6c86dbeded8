-- Records by their kinds.
use Rattle.std.proofs.Common.{◌≡◌, ℕ, Bor, List, Option, None, Some, true}
use Rattle.im_theory_log.specs.Transactions.{is_smo}
use Rattle.im_theory_page.specs.Page.{page_of}
use Rattle.im_base_types.specs.Pages.{Page}
use Rattle.im_log_record.specs.declared.record.Record.{Record}
use Rattle.im_log_record.specs.declared.record.Record.TheVariants as records
use Rattle.im_log_record.specs.Entry.{view}
use Rattle.im_log.specs.Whats.{image_of, page_behind, undo_smo_of, what_of}

undo_smo_no_smo : (x : Option Page) → is_smo (undo_smo_of x) ≡ true → ⊥
undo_smo_no_smo (Some x) is = cc is
undo_smo_no_smo None is = cc is

image_no_smo : (x : Option Page) → is_smo (image_of x) ≡ true → ⊥
image_no_smo (Some x) is = cc is
image_no_smo None is = cc is

-- a record of a structure change is an Smo
pub no_smo : (r : Record) → ((t p g : ℕ) (x y : Bor (List ℕ)) → r ≡ records.Smo t p g x y → ⊥) → is_smo (what_of (view r)) ≡ true → ⊥
no_smo (records.Smo t p g x y) smo is = smo t p g x y (λ _. records.Smo t p g x y)
no_smo (records.InsertKey t p g k i) smo is = cc is
no_smo (records.DeleteKey t p g k i) smo is = cc is
no_smo (records.UndoInsert t p u g k i) smo is = cc is
no_smo (records.UndoDelete t p u g k i) smo is = cc is
no_smo (records.UndoSmo t p u g y) smo is = undo_smo_no_smo (page_behind y.now) is
no_smo (records.DummyClr t p u) smo is = cc is
no_smo (records.Commit t p) smo is = cc is
no_smo (records.End t p) smo is = cc is
no_smo (records.Image g x) smo is = image_no_smo (page_of x.now) is
no_smo (records.Checkpoint n a d) smo is = cc is
