-- Undo of the losers, record by record: what it comes to, which record comes next, and what that leaves.
use Rattle.std.specs.Prelude.{◌≡◌, ◌≢◌, ◌≤◌, ◌<◌, ◌+◌, ◌⊎◌, ℕ, zero, suc, [], ◌∷◌, length, Bool, true, false, if◌then◌else◌, Option, None, Some}
use Rattle.im_base_types.specs.Pages.{Body}
use Rattle.im_base_types.specs.Records.{What, InsertKey, DeleteKey, UndoInsert, UndoDelete, Smo, UndoSmo, DummyClr, End, Unreadable, Logged}
use Rattle.im_theory_log.specs.Tree.{Tree}
use Rattle.im_theory_log.specs.Histories.{History, Base, IsRecordOf, end_of}
use Rattle.im_theory_log.specs.Structure.{open_smo}
use Rattle.im_theory_log.specs.Transactions.{last_of, undo_next_of, to_undo, undo_reads, reads_on, is_key, committed}
use Rattle.im_theory_log.specs.Lawful.{IsLawful, IsOutside}
use Rattle.im_theory_log.specs.LogLaws.{bodies, HoldsCommitted}
use Rattle.im_log_record.specs.Entry.{Entry, prev_of, undo_next_of as named_next}
use Rattle.im_log.specs.Whats.{what_of}
use Rattle.im_restart_analysis.specs.Losers.{is_loser, row_of}
use Rattle.im_restart_analysis.specs.Analysis.{Continues}
use Rattle.im_restart_analysis.specs.Orderly.{FitsBehind, IsCountedBy}

-- ---- what is left

-- what undo has to do for a transaction: to take each record back that is left, and to end it
abbrev pub left_of : ℕ → History → ℕ
left_of t log = if is_loser t log then length (to_undo t log) + 1 else 0

-- and for all with a number below this
abbrev pub left_below : ℕ → History → ℕ
left_below zero log = 0
left_below (suc n) log = left_below n log + left_of n log

-- a lawful log whose structure changes are all closed or taken back
pub record IsUndoable (b : Base) (tree : Tree) (log : History) : Type 0 where
  pub lawful : IsLawful b tree log
  pub closed : open_smo log ≡ []

-- what a loser has to have undone next: a key record of its own, no later than where undo goes on, which leads further back
pub record IsNext (t : ℕ) (log : History) (s : Logged) : Type 0 where
  pub rest : History
  pub stack : to_undo t log ≡ s ∷ rest
  pub key : is_key s.what ≡ true
  pub owner : s.txn ≡ t
  pub logged : IsRecordOf s log
  pub behind : s.lsn ≤ undo_next_of t log
  pub falls : s.prev < s.lsn

-- whether a record leads undo on to an earlier one: a compensation or a DummyClr
abbrev pub leads_on : What → Bool
leads_on (UndoInsert k i) = true
leads_on (UndoDelete k i) = true
leads_on (UndoSmo after) = true
leads_on DummyClr = true
leads_on _ = false

-- a compensation, or the end of a structure change; or bytes that hold no page, which no lawful log has
abbrev pub MayLeadOn : What → Type 0
MayLeadOn w = (leads_on w ≡ true) ⊎ (w ≡ Unreadable)

-- It says no earlier LSN at which undo goes on.
pub record LeadsNowhere (entry : Entry) (lsn : ℕ) : Type 0 where
  pub key : is_key (what_of entry) ≡ true → lsn ≤ prev_of entry
  pub on : leads_on (what_of entry) ≡ true → lsn ≤ named_next entry

-- the transaction has a record at the LSN
pub record HasRecordAt (t l : ℕ) (log : History) : Type 0 where
  pub found : Logged
  pub logged : IsRecordOf found log
  pub owner : found.txn ≡ t
  pub here : found.lsn ≡ l

-- what reading comes to: a record, or none where nothing is left
abbrev pub ComesTo : ℕ → History → Option Logged → Type 0
ComesTo t log None = to_undo t log ≡ []
ComesTo t log (Some s) = IsNext t log s

-- ---- the records of undo

-- the record comes next in the log and in its transaction
pub record IsLinked (b : Base) (t : ℕ) (log : History) (r : Logged) : Type 0 where
  pub rises : end_of b log < r.lsn
  pub owner : r.txn ≡ t
  pub prev : r.prev ≡ last_of t log

-- the kind is the one that takes a key record back, and the page takes that
abbrev pub TakesBack : Tree → (ℕ → Body) → ℕ → What → What → Type 0
TakesBack tree pages p (InsertKey k i) w = (w ≡ UndoInsert k i) × tree.CanDrop pages p k i
TakesBack tree pages p (DeleteKey k i) w = (w ≡ UndoDelete k i) × tree.CanPut pages p k i
TakesBack tree pages p _ w = ⊥

-- The compensation of a key record, on the page that is the key's leaf now.
pub record Compensates (b : Base) (tree : Tree) (t : ℕ) (log : History) (s r : Logged) : Type 0 where
  pub linked : IsLinked b t log r
  pub takes_back : TakesBack tree (bodies b log) r.page s.what r.what
  pub leads : r.undo_next ≡ s.prev

-- The End of a transaction.
pub record Ends (b : Base) (t : ℕ) (log : History) (r : Logged) : Type 0 where
  pub linked : IsLinked b t log r
  pub what : r.what ≡ End
  pub leads : r.undo_next ≡ 0

-- The undo of one page of a structure change, to what it was.
pub record UndoesPage (b : Base) (log : History) (s r : Logged) : Type 0 where
  pub linked : IsLinked b s.txn log r
  pub page : r.page ≡ s.page
  pub was : Body
  pub now : Body
  pub undone : s.what ≡ Smo was now
  pub what : r.what ≡ UndoSmo was
  pub leads : r.undo_next ≡ s.prev

-- ---- what they leave

-- the other transactions are as they were, and so is what was committed
pub record LeavesOthers (t : ℕ) (r : Logged) (log : History) : Type 0 where
  pub committed : committed (r ∷ log) ≡ committed log
  pub stacks : (u : ℕ) → u ≢ t → to_undo u (r ∷ log) ≡ to_undo u log
  pub losers : (u : ℕ) → u ≢ t → is_loser u (r ∷ log) ≡ is_loser u log
  pub rows : (u : ℕ) → u ≢ t → row_of u (r ∷ log) ≡ row_of u log

-- one record of a transaction's stack was taken off, and it is still a loser, whose undo goes on where that record leads
pub record TakesOff (t : ℕ) (log : History) (s r : Logged) : Type 0 where
  pub others : LeavesOthers t r log
  pub stack : to_undo t log ≡ s ∷ to_undo t (r ∷ log)
  pub loser : is_loser t (r ∷ log) ≡ true
  pub row : row_of t (r ∷ log) ≡ record { last = r.lsn; undo_next = s.prev }
  pub less : (n : ℕ) → t < n → left_below n (r ∷ log) + 1 ≡ left_below n log

-- the transaction is no loser any more
pub record HasEnded (t : ℕ) (log : History) (r : Logged) : Type 0 where
  pub others : LeavesOthers t r log
  pub ended : is_loser t (r ∷ log) ≡ false
  pub less : (n : ℕ) → t < n → left_below n (r ∷ log) + 1 ≡ left_below n log

-- ---- the laws

-- Undo goes on to the end: of losers in any order, by a compensation or an End at a time, each of which takes one off what is left.
pub record UndoGoesOn (tree : Tree) : Type 0 where
  -- an open structure change first, its newest page first
  pub undoes_page : (b : Base) (log : History) (s : Logged) (rest : History) (r : Logged) → IsLawful b tree log → open_smo log ≡ s ∷ rest → UndoesPage b log s r
      → IsLawful b tree (r ∷ log) × (open_smo (r ∷ log) ≡ rest) × TakesOff s.txn log s r
  -- reading from a loser's next LSN to undo
  pub reads : (b : Base) (log : History) (t : ℕ) → IsUndoable b tree log → is_loser t log ≡ true → ComesTo t log (undo_reads (undo_next_of t log) log)
  -- beside an open structure change of another too
  pub reads_beside : (b : Base) (log : History) (t : ℕ) → IsLawful b tree log → IsOutside t (open_smo log) → 1 ≤ t → ComesTo t log (undo_reads (undo_next_of t log) log)
  -- where a transaction's undo goes on it has a record; there reading stops or is led on, to an earlier record of the transaction
  pub goes_on_at : (b : Base) (log : History) (t : ℕ) → IsLawful b tree log → 1 ≤ t → undo_next_of t log ≢ 0 → HasRecordAt t (undo_next_of t log) log
  pub reads_record : (b : Base) (log : History) (r : Logged) → IsLawful b tree log → IsRecordOf r log → undo_reads r.lsn log ≡ reads_on r r.what (undo_reads r.undo_next log)
  pub leads_back : (b : Base) (log : History) (r : Logged) → IsLawful b tree log → IsRecordOf r log → leads_on r.what ≡ true → r.undo_next < r.lsn
  pub leads_to : (b : Base) (log : History) (r : Logged) → IsLawful b tree log → IsRecordOf r log → leads_on r.what ≡ true → r.undo_next ≢ 0 → HasRecordAt r.txn r.undo_next log
  -- a compensation, and an End
  pub compensates : (b : Base) (log : History) (t : ℕ) (s r : Logged) → IsUndoable b tree log → is_loser t log ≡ true → IsNext t log s → Compensates b tree t log s r
      → IsUndoable b tree (r ∷ log) × TakesOff t log s r
  pub ends : (b : Base) (log : History) (t : ℕ) (r : Logged) → IsUndoable b tree log → is_loser t log ≡ true → to_undo t log ≡ [] → Ends b t log r
      → IsUndoable b tree (r ∷ log) × HasEnded t log r
  -- an End beside an open structure change of another, which it leaves open
  pub ends_beside : (b : Base) (log : History) (t : ℕ) (r : Logged) → IsLawful b tree log → is_loser t log ≡ true → to_undo t log ≡ [] → Ends b t log r
      → IsLawful b tree (r ∷ log) × (open_smo (r ∷ log) ≡ open_smo log) × HasEnded t log r
  -- no loser is left: the tree has the committed effects alone
  pub finishes : (b : Base) (log : History) → IsLawful b tree log → ((t : ℕ) → is_loser t log ≡ false) → HoldsCommitted b tree log

-- Each record of a lawful log is taken by analysis, and never refused as no store, where the page count that analysis begins with is no less than that of the pages that the log is over, or bounds nothing.
abbrev pub LawfulLogsAreTaken : Tree → Type 0
LawfulLogsAreTaken tree = (b : Base) (n : ℕ) (older : History) (r : Logged) → IsCountedBy n b → IsLawful b tree (r ∷ older) → Continues r older × FitsBehind n r older
