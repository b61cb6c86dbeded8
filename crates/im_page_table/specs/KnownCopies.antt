-- Full copies that are known of pages without an entry in the dirty table.
use Rattle.std.specs.Prelude.{◌≡◌, ◌≤◌, ◌<◌, ◌+◌, ◌||◌, ℕ, [], ◌∷◌, Bool, true, if◌then◌else◌, Option, None, Some}
use Rattle.im_base_types.specs.Records.{Logged}
use Rattle.im_theory_log.specs.Histories.{History, page_after}
use Rattle.im_theory_log.specs.Copies.{HasCopy, redo_one}
use Rattle.im_theory_log.specs.RedoPoints.{is_checkpoint, redo_point}
use Rattle.im_theory_log.specs.Writer.{IsLeft, PageState, Writer}
use Rattle.im_theory_log.specs.WriterSteps.{applies, at_point, changed_entry, is_copied, only, passed}

-- the LSN of the last Checkpoint, 0 where there is none
abbrev pub checkpoint_lsn : History → ℕ
checkpoint_lsn [] = 0
checkpoint_lsn (r ∷ older) = if is_checkpoint r.what then r.lsn else checkpoint_lsn older

-- A page without an entry that was changed since redo ended, and since the last Checkpoint, was written since: in each log that a stop
-- can leave it has a full copy at or after the redo point.
pub record KnowsCopies (s : Writer) : Type 0 where
  pub copies : (e : ℕ) → s.redo_end ≡ Some e → (p : ℕ) → (s.pages p).entry ≡ None → e < (s.pages p).page.lsn → checkpoint_lsn s.log < (s.pages p).page.lsn
      → (left : History) → IsLeft s.durable s.log left → HasCopy s.durable p (redo_point left)

-- ---- copies that are known to be durable

-- an LSN is below those of all these records
abbrev pub AreAbove : ℕ → History → Type 0
AreAbove l [] = Unit {0}
AreAbove l (r ∷ newer) = (l < r.lsn) × AreAbove l newer

-- Of a page that was changed since redo ended, a full copy that is known comes no later than its last change: each front of the log that a stop can leave, and that has the page's changes, has
-- a copy at or after the redo point of each log that has that front.
abbrev pub KnowsDurable : Writer → Type 0
KnowsDurable s = (e : ℕ) → s.redo_end ≡ Some e → (p : ℕ) → is_copied (s.pages p).entry ≡ true → e < (s.pages p).page.lsn
    → (left : History) → (w : IsLeft s.durable s.log left) → AreAbove (s.pages p).page.lsn w.upto.newer → (h : History) → IsLeft left s.log h → HasCopy left p (redo_point h)

-- redo has ended, and this LSN is above the log's end then, and above the last Checkpoint
pub record IsKnownLsn (s : Writer) (from : ℕ) : Type 0 where
  pub redo_end : ℕ
  pub over : s.redo_end ≡ Some redo_end
  pub ended : redo_end < from
  pub checkpoint : checkpoint_lsn s.log < from

-- the LSN from which on a page without an entry is known to have its copy, if there is one
abbrev pub IsKnownFrom : Writer → Option ℕ → Type 0
IsKnownFrom s None = Unit {0}
IsKnownFrom s (Some from) = IsKnownLsn s from

-- a page's LSN is at or after it
abbrev pub IsAtOrAfter : Option ℕ → ℕ → Type 0
IsAtOrAfter None l = ⊥
IsAtOrAfter (Some from) l = from ≤ l

-- the first LSN, if there is none yet
abbrev pub or_from : Option ℕ → ℕ → Option ℕ
or_from None l = Some l
or_from (Some from) l = Some from

-- ---- a record that changes its page, of which a full copy is known or is not

abbrev pub changed_page_as : Bool → Logged → PageState → PageState
changed_page_as known r x = record x { page = page_after r.lsn r.what x.page; entry = Some (changed_entry known r.lsn x.entry) }

abbrev pub changed_as : Bool → Logged → Writer → Writer
changed_as known r s = record s { log = r ∷ s.log; pages = λ q. passed r.lsn (only r.page (changed_page_as known r) s.pages q) }

-- ---- redo goes past a record, of whose page a full copy is known or is not

abbrev pub redone_page_as : Bool → ℕ → Logged → ℕ → PageState → PageState
redone_page_as known point r p x =
    record x { page = redo_one r p x.page; upto = r.lsn + 1; entry = if applies r p x.page then Some (at_point (known || is_copied x.entry) point) else x.entry }

abbrev pub redone_as : Bool → Logged → Writer → Writer
redone_as known r s = record s { pages = λ q. redone_page_as known s.point r q (s.pages q) }

-- redo deals a record to every page
abbrev pub every_page : ℕ → Bool
every_page p = true
