-- Redo and undo as they must not be. Edits that have to be refused put them in place of the right ones, and worked logs show what goes wrong.
use Rattle.std.specs.Prelude.{ℕ, List, [], ◌∷◌, Bool, true, false, ◌||◌, if◌then◌else◌, ◌==◌, Option, None, Some}
use Rattle.im_base_types.specs.Pages.{Page}
use Rattle.im_base_types.specs.Records.{Logged}
use Rattle.im_theory_log.specs.Histories.{History}
use Rattle.im_theory_log.specs.Transactions.{reads_on}
use Rattle.im_theory_log.specs.Copies.{copy_in, redo_one}

abbrev pub is_copy : Option Page → Bool
is_copy None = false
is_copy (Some c) = true

-- whether one of the records holds a full copy of the page
abbrev pub has_copy_among : List Logged → ℕ → Bool
has_copy_among [] p = false
has_copy_among (r ∷ newer) p = (if r.page == p then is_copy (copy_in r.lsn r.what) else false) || has_copy_among newer p

-- a redo that skips each record before a later copy of its page, though that copy may be older than the record
abbrev pub redo_skipping : List Logged → ℕ → Page → Page
redo_skipping [] p g = g
redo_skipping (r ∷ newer) p g = redo_skipping newer p (if has_copy_among newer p then g else redo_one r p g)

-- an undo that goes from a compensation to the record before it, below what it leads past
abbrev pub undo_reads_below : ℕ → History → Option Logged
undo_reads_below l [] = None
undo_reads_below l (r ∷ older) = if r.lsn == l then reads_on r r.what (undo_reads_below r.prev older) else undo_reads_below l older
