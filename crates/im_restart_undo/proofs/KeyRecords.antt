-- Records of keys by their kinds.
use Rattle.std.proofs.Common.{◌≡◌, ℕ, Bor, List, Option, None, Some, true, refl}
use Rattle.im_base_types.specs.Keys.{Key}
use Rattle.im_base_types.specs.Pages.{Page}
use Rattle.im_base_types.specs.Records.{DeleteKey}
use Rattle.im_theory_log.specs.Transactions.{is_key}
use Rattle.im_theory_page.specs.Page.{page_of}
use Rattle.im_log_record.specs.declared.record.Record.{Record}
use Rattle.im_log_record.specs.declared.record.Record.TheVariants as records
use Rattle.im_log_record.specs.Entry.{view}
use Rattle.im_log.specs.Whats.{image_of, page_behind, smo_of, undo_smo_of, what_of}

smo_no_key : (x y : Option Page) → is_key (smo_of x y) ≡ true → ⊥
smo_no_key (Some x) (Some y) is = cc is
smo_no_key (Some x) None is = cc is
smo_no_key None y is = cc is

undo_smo_no_key : (x : Option Page) → is_key (undo_smo_of x) ≡ true → ⊥
undo_smo_no_key (Some x) is = cc is
undo_smo_no_key None is = cc is

image_no_key : (x : Option Page) → is_key (image_of x) ≡ true → ⊥
image_no_key (Some x) is = cc is
image_no_key None is = cc is

-- a record of a key is an insert or a delete
pub no_key : (r : Record) → ((t p g : ℕ) (k : Bor (List ℕ)) (i : ℕ) → r ≡ records.InsertKey t p g k i → ⊥) → ((t p g : ℕ) (k : Bor (List ℕ)) (i : ℕ) → r ≡ records.DeleteKey t p g k i → ⊥) → is_key (what_of (view r)) ≡ true → ⊥
no_key (records.InsertKey t p g k i) insert delete is = insert t p g k i (λ _. records.InsertKey t p g k i)
no_key (records.DeleteKey t p g k i) insert delete is = delete t p g k i (λ _. records.DeleteKey t p g k i)
no_key (records.UndoInsert t p u g k i) insert delete is = cc is
no_key (records.UndoDelete t p u g k i) insert delete is = cc is
no_key (records.Smo t p g x y) insert delete is = smo_no_key (page_behind x.now) (page_behind y.now) is
no_key (records.UndoSmo t p u g y) insert delete is = undo_smo_no_key (page_behind y.now) is
no_key (records.DummyClr t p u) insert delete is = cc is
no_key (records.Commit t p) insert delete is = cc is
no_key (records.End t p) insert delete is = cc is
no_key (records.Image g x) insert delete is = image_no_key (page_of x.now) is
no_key (records.Checkpoint n a d) insert delete is = cc is

-- so one that is no insert is a delete
pub delete_of : (r : Record) → ((t p g : ℕ) (k : Bor (List ℕ)) (i : ℕ) → r ≡ records.InsertKey t p g k i → ⊥) → is_key (what_of (view r)) ≡ true → (k : Key) × (i : ℕ) × (what_of (view r) ≡ DeleteKey k i)
delete_of (records.DeleteKey t p g k i) insert is = (k.now, i, refl)
delete_of (records.InsertKey t p g k i) insert is = absurd (insert t p g k i (λ _. records.InsertKey t p g k i))
delete_of (records.UndoInsert t p u g k i) insert is = absurd (let never : ⊥ = cc is in never)
delete_of (records.UndoDelete t p u g k i) insert is = absurd (let never : ⊥ = cc is in never)
delete_of (records.Smo t p g x y) insert is = absurd (smo_no_key (page_behind x.now) (page_behind y.now) is)
delete_of (records.UndoSmo t p u g y) insert is = absurd (undo_smo_no_key (page_behind y.now) is)
delete_of (records.DummyClr t p u) insert is = absurd (let never : ⊥ = cc is in never)
delete_of (records.Commit t p) insert is = absurd (let never : ⊥ = cc is in never)
delete_of (records.End t p) insert is = absurd (let never : ⊥ = cc is in never)
delete_of (records.Image g x) insert is = absurd (image_no_key (page_of x.now) is)
delete_of (records.Checkpoint n a d) insert is = absurd (let never : ⊥ = cc is in never)
