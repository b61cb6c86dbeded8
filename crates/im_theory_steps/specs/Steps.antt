-- Each kind of step keeps what holds between steps.
use Rattle.std.specs.Prelude.{◌≡◌, ◌≢◌, ◌≤◌, ◌<◌, ◌+◌, ◌-◌, ◌^◌, ◌⊎◌, ℕ, suc, nat_lt, if◌then◌else◌, Bool, true, false, List, [], ◌∷◌, ◌++◌, None, Some, length, find, map}
use Rattle.std.specs.FinMap.{empty, get}
use Rattle.im_base_types.specs.Keys.{Key}
use Rattle.im_base_types.specs.Maps.{IndexMap}
use Rattle.im_base_types.specs.Changes.{Change, Effect, apply_all, seen}
use Rattle.im_base_types.specs.Records.{What, InsertKey, DeleteKey, Commit as CommitRecord, End, Logged}
use Rattle.im_theory_log.specs.Tree.{Tree}
use Rattle.im_theory_log.specs.Structure.{open_smo, settled}
use Rattle.im_theory_log.specs.Lawful as lawful
use Rattle.im_theory_log.specs.Lawful.{IsLawful, IsOutside, IsNotIn}
use Rattle.im_theory_log.specs.Histories.{History, Base, Rises, end_of}
use Rattle.im_theory_log.specs.Transactions.{committed, last_of, undo_next_of, to_undo, net, is_finished, contents}
use Rattle.im_base_types.specs.Answers.{Access, Insert, Delete, Inserted, Deleted, Step, Begin, Started, Do, Commit, Committed, Rollback, RolledBack, Continue, RollTo, More, Blocked, BlockedTree, Die, FlushPage, Force, Checkpoint, Done, Refused, answer, changes}
use Rattle.im_base_types.specs.Answers as answers
use Rattle.im_base_types.specs.Lives.{Shown, nothing_shown}
use Rattle.im_base_txn.specs.declared.transaction.Mark.TheVariants.{Going, MustRollBack, RollingBack, Returning, Committing}
use Rattle.im_base_txn.specs.declared.transaction.Transaction.{Transaction}
use Rattle.im_base_txn.specs.Rows.{begun as row_begun, is_of, changed, with_changes, with_mark, with_record}
use Rattle.im_base_txn.specs.LookUps.{without}
use Rattle.im_theory_machine.specs.Table.{Table, lasting_of, Decides, HasFallen, IsReleased, AreReleased}
use Rattle.im_theory_machine.specs.Changing.{asked_begun}
use Rattle.im_theory_machine.specs.declared.verdict.Verdict.TheVariants.{Granted, Wait, Die as MustDie}
use Rattle.im_theory_machine.specs.Rows.{asked}
use Rattle.im_theory_machine.specs.View.{View, Under, Aim, pending_of, Puts, Drops, TakesBack as TakesLater, TookBack, owner_in, own_locks, begun, did, locked, marked, committed_by, dropped_by, undid_more, undid_last, with_change, change_made, queued, forced_by, is_among}
use Rattle.im_theory_machine.specs.Machine.{IsReached, keys_fit, barred, start, Wants}
use Rattle.im_theory_steps.specs.Growth.{Stays, Adds, TakesBack, Commits, IsOfOthers, IsOfAll, IsOver, HasNone, IsCheckpoint, GrowsByImages, GrowsByStructure}
use Rattle.im_theory_steps.specs.Serving.{IsRow, IsServing, IsServed, mark_of}

-- ---- what an opening leaves

-- A new store serves: nothing is logged, active or held.
abbrev pub NewStoresServe : Type 0
NewStoresServe = (b : Base) (earlier : List Effect) → apply_all empty earlier ≡ b.map → IsServing b earlier earlier nothing_shown (start b.map 1) [] [] 1 []

-- So does one that was opened: no transaction is going on, and the tree holds what is committed.
abbrev pub OpenedStoresServe : Type 0
OpenedStoresServe = (b : Base) (earlier before : List Effect) (log : History) (next : ℕ) → apply_all empty earlier ≡ b.map → earlier ++ seen (committed log) ≡ before
    → ((t : ℕ) → IsOver t log) → ((t : ℕ) → to_undo t log ≡ []) → contents b log ≡ apply_all b.map (committed log)
    → IsServing b earlier before nothing_shown (start (apply_all empty before) next) log [] next []

-- A lawful log in which nothing is left to undo says that of the tree.
abbrev pub QuietLogsHoldCommitted : Tree → Type 0
QuietLogsHoldCommitted tree = (b : Base) (log : History) → IsLawful b tree log → ((t : ℕ) → to_undo t log ≡ []) → contents b log ≡ apply_all b.map (committed log)

-- ---- within a step

-- Images that joined the log leave all as it is.
abbrev pub ImagesKeepServing : Type 0
ImagesKeepServing = (b : Base) (earlier before : List Effect) (s : Shown) (v : View) (older longer : History) (rows : List Transaction) (next : ℕ) (held : Table)
    → IsServing b earlier before s v older rows next held → GrowsByImages older longer → IsServing b earlier before s v longer rows next held

-- So do records of a structure change of a transaction, and its row notes them.
abbrev pub StructureKeepsServing : Type 0
StructureKeepsServing = (b : Base) (earlier before : List Effect) (s : Shown) (v : View) (older longer : History) (rows : List Transaction) (next : ℕ) (held : Table) (t : ℕ) (row : Transaction)
    → IsServing b earlier before s v older rows next held → find (is_of t) rows ≡ Some row → row.mark ≢ Committing → GrowsByStructure t older longer
    → IsServing b earlier before s v longer (map (changed t (with_record (last_of t longer) (undo_next_of t longer))) rows) next held

-- The log has grown on the way to a change of t, whose records now end at this LSN: the tree's map, the nets and the other transactions are as they were.
pub record IsOnTheWay (b : Base) (t last : ℕ) (older between : History) : Type 0 where
  pub stays : Stays b older between
  pub others : IsOfOthers t older between
  pub newest : last_of t between ≡ last
  pub unfinished : is_finished t between ≡ false

-- A change begins there, for a transaction that is going, and structure changes of its own lead on.
pub record WaysLeadOn : Type 0 where
  pub begins : (b : Base) (earlier before : List Effect) (s : Shown) (v : View) (log : History) (rows : List Transaction) (next : ℕ) (held : Table) (t : ℕ) (row : Transaction)
      → IsServing b earlier before s v log rows next held → find (is_of t) rows ≡ Some row → row.mark ≡ Going → IsOnTheWay b t row.last log log
  pub leads : (b : Base) (t last : ℕ) (older between longer : History) → IsOnTheWay b t last older between → GrowsByStructure t between longer → IsOnTheWay b t (last_of t longer) older longer

-- ---- accesses

-- A row after the record of a key at this LSN: one change more stands. No transaction has as many as LSNs, so that the count does not come to one.
abbrev pub with_made : (lsn : ℕ) → Transaction → Transaction
with_made lsn row = with_changes lsn lsn (if nat_lt row.changes lsn then row.changes + 1 else row.changes) row

-- the rows, where that of t is so
abbrev pub counted : (t lsn : ℕ) → List Transaction → List Transaction
counted t lsn rows = map (changed t (with_made lsn)) rows

-- a row after a change was taken back
abbrev pub with_undone : (last undo_next : ℕ) → Transaction → Transaction
with_undone last undo_next row = with_changes last undo_next (row.changes - 1) row

-- A change that was granted and logged.
abbrev pub ChangesAreServed : Type 0
ChangesAreServed = (b : Base) (earlier before : List Effect) (s : Shown) (v : View) (older longer : History) (rows : List Transaction) (next : ℕ) (old new : Table) (t lsn : ℕ) (row : Transaction) (a : Access) (c : Change)
    → IsServing b earlier before s v older rows next old → find (is_of t) rows ≡ Some row → row.mark ≡ Going → owner_in v ≢ Some t → keys_fit a ≡ true → changes a v.walk ≡ c ∷ []
    → Decides old t (asked a v.walk) Granted new → Adds b t c older longer → IsOfOthers t older longer → IsRow (with_made lsn row) next longer
    → IsServed b earlier before s v (Do t a) (answer a v.walk) (did v t a (lasting_of new t)) longer (counted t lsn rows) next new

-- the record of a key of t, after its record at an LSN
abbrev pub key_record : (t last lsn page : ℕ) → What → Logged
key_record t last lsn page w = record { lsn = lsn; txn = t; prev = last; undo_next = 0; page = page; what = w }

-- A record that was logged leaves a lawful log, and is a step of the machine.
pub record IsLogged (b : Base) (tree : Tree) (earlier before : List Effect) (s : Shown) (v : View) (step : Step) (reply : answers.Reply) (w : View) (longer : History) (rows : List Transaction) (next : ℕ) (new : Table) : Type 0 where
  pub lawful : IsLawful b tree longer
  pub served : IsServed b earlier before s v step reply w longer rows next new

-- An insert of a key that the tree lacks, logged on the page that takes it, after whatever led there.
abbrev pub InsertsAreServed : Tree → Type 0
InsertsAreServed tree = (b : Base) (earlier before : List Effect) (s : Shown) (v : View) (older between : History) (rows : List Transaction) (next : ℕ) (old new : Table) (t last lsn page : ℕ) (row : Transaction) (k : Key) (i : ℕ)
    → IsServing b earlier before s v older rows next old → find (is_of t) rows ≡ Some row → row.mark ≡ Going → owner_in v ≢ Some t → keys_fit (Insert k i) ≡ true → IsOnTheWay b t last older between
    → IsLawful b tree between → IsOutside t (open_smo between) → IsNotIn page (open_smo between) → get (contents b older) k ≡ None → Decides old t (asked (Insert k i) v.walk) Granted new → tree.CanPut (settled b between) page k i → end_of b between < lsn
    → IsLogged b tree earlier before s v (Do t (Insert k i)) Inserted (did v t (Insert k i) (lasting_of new t)) (key_record t last lsn page (InsertKey k i) ∷ between) (counted t lsn rows) next new

-- A delete of a key that is there.
abbrev pub DeletesAreServed : Tree → Type 0
DeletesAreServed tree = (b : Base) (earlier before : List Effect) (s : Shown) (v : View) (older between : History) (rows : List Transaction) (next : ℕ) (old new : Table) (t last lsn page : ℕ) (row : Transaction) (k : Key) (i : ℕ)
    → IsServing b earlier before s v older rows next old → find (is_of t) rows ≡ Some row → row.mark ≡ Going → owner_in v ≢ Some t → keys_fit (Delete k) ≡ true → IsOnTheWay b t last older between
    → IsLawful b tree between → IsOutside t (open_smo between) → IsNotIn page (open_smo between) → get (contents b older) k ≡ Some i → Decides old t (asked (Delete k) v.walk) Granted new → tree.CanDrop (settled b between) page k i → end_of b between < lsn
    → IsLogged b tree earlier before s v (Do t (Delete k)) Deleted (did v t (Delete k) (lasting_of new t)) (key_record t last lsn page (DeleteKey k i) ∷ between) (counted t lsn rows) next new

-- An access that was granted and changes nothing; the log may have grown by Images.
abbrev pub ReadsAreServed : Type 0
ReadsAreServed = (b : Base) (earlier before : List Effect) (s : Shown) (v : View) (older longer : History) (rows : List Transaction) (next : ℕ) (old new : Table) (t : ℕ) (row : Transaction) (a : Access)
    → IsServing b earlier before s v older rows next old → find (is_of t) rows ≡ Some row → row.mark ≡ Going → owner_in v ≢ Some t → keys_fit a ≡ true → changes a v.walk ≡ []
    → Decides old t (asked a v.walk) Granted new → Stays b older longer → IsOfAll older longer
    → IsServed b earlier before s v (Do t a) (answer a v.walk) (did v t a (lasting_of new t)) longer rows next new

-- An access that has to wait changes nothing.
abbrev pub WaitsAreServed : Type 0
WaitsAreServed = (b : Base) (earlier before : List Effect) (s : Shown) (v : View) (older longer : History) (rows : List Transaction) (next : ℕ) (old new : Table) (t holder : ℕ) (row : Transaction) (a : Access)
    → IsServing b earlier before s v older rows next old → find (is_of t) rows ≡ Some row → row.mark ≡ Going → owner_in v ≢ Some t → keys_fit a ≡ true
    → Decides old t (asked a v.walk) (Wait holder) new → Stays b older longer → IsOfAll older longer
    → IsServed b earlier before s v (Do t a) (Blocked holder) v longer rows next new

-- One that must die marks its transaction.
abbrev pub DiesAreServed : Type 0
DiesAreServed = (b : Base) (earlier before : List Effect) (s : Shown) (v : View) (older longer : History) (rows : List Transaction) (next : ℕ) (old new : Table) (t : ℕ) (row : Transaction) (a : Access)
    → IsServing b earlier before s v older rows next old → find (is_of t) rows ≡ Some row → row.mark ≡ Going → owner_in v ≢ Some t → keys_fit a ≡ true
    → Decides old t (asked a v.walk) MustDie new → Stays b older longer → IsOfAll older longer
    → IsServed b earlier before s v (Do t a) Die (marked v t answers.MustRollBack) longer (map (changed t (with_mark MustRollBack)) rows) next new

-- ---- transactions

-- A transaction begins, with a number that no record has.
abbrev pub BeginsAreServed : Type 0
BeginsAreServed = (b : Base) (earlier before : List Effect) (s : Shown) (v : View) (log : History) (rows : List Transaction) (next : ℕ) (held : Table)
    → IsServing b earlier before s v log rows next held → HasNone next log → 1 ≤ next → next ≤ 2 ^ 62 → length rows < 64
    → IsServed b earlier before s v Begin (Started next) (begun v) log (rows ++ row_begun next ∷ []) (suc next) held

-- A Commit of changes that stand was logged, with its locks released and its row taken out.
abbrev pub CommitsAreServed : Type 0
CommitsAreServed = (b : Base) (earlier before : List Effect) (s : Shown) (v : View) (older longer : History) (rows : List Transaction) (next : ℕ) (old new : Table) (t : ℕ) (row : Transaction)
    → IsServing b earlier before s v older rows next old → find (is_of t) rows ≡ Some row → row.mark ≡ Going → 1 ≤ row.changes → owner_in v ≢ Some t → v.queue ≡ [] → IsReleased old t new → Commits b t older longer → IsOfOthers t older longer
    → IsOver t longer → to_undo t longer ≡ [] → length rows ≡ length (without t rows) + 1
    → IsServed b earlier before s v (Commit t) Committed (committed_by v t) longer (without t rows) next new

-- the record of a Commit of t, after its record at an LSN
abbrev pub commit_record : (t last lsn : ℕ) → Logged
commit_record t last lsn = record { lsn = lsn; txn = t; prev = last; undo_next = 0; page = 0; what = CommitRecord }

-- The record of a Commit leaves a lawful log, and with its locks released and its row taken out it is a step of the machine.
abbrev pub LoggedCommitsAreServed : Tree → Type 0
LoggedCommitsAreServed tree = (b : Base) (earlier before : List Effect) (s : Shown) (v : View) (older : History) (rows : List Transaction) (next : ℕ) (old new : Table) (t lsn : ℕ) (row : Transaction)
    → IsServing b earlier before s v older rows next old → find (is_of t) rows ≡ Some row → row.mark ≡ Going → 1 ≤ row.changes → owner_in v ≢ Some t → IsLawful b tree older → IsOutside t (open_smo older) → end_of b older < lsn
    → v.queue ≡ [] → IsReleased old t new → length rows ≡ length (without t rows) + 1
    → IsLogged b tree earlier before s v (Commit t) Committed (committed_by v t) (commit_record t row.last lsn ∷ older) (without t rows) next new

-- A Commit that was logged and waits for a force: its row is marked, and it keeps its locks.
abbrev pub CommitsWait : Type 0
CommitsWait = (b : Base) (earlier before : List Effect) (s : Shown) (v : View) (older longer : History) (rows : List Transaction) (next : ℕ) (held : Table) (t : ℕ) (row : Transaction)
    → IsServing b earlier before s v older rows next held → find (is_of t) rows ≡ Some row → row.mark ≡ Going → 1 ≤ row.changes → owner_in v ≢ Some t → Commits b t older longer → IsOfOthers t older longer
    → is_finished t longer ≡ true → to_undo t longer ≡ []
    → IsServed b earlier before s v (Commit t) More (queued v t) longer (map (changed t (with_mark Committing)) rows) next held

abbrev pub LoggedCommitsWait : Tree → Type 0
LoggedCommitsWait tree = (b : Base) (earlier before : List Effect) (s : Shown) (v : View) (older : History) (rows : List Transaction) (next : ℕ) (held : Table) (t lsn : ℕ) (row : Transaction)
    → IsServing b earlier before s v older rows next held → find (is_of t) rows ≡ Some row → row.mark ≡ Going → 1 ≤ row.changes → owner_in v ≢ Some t → IsLawful b tree older → IsOutside t (open_smo older) → end_of b older < lsn
    → IsLogged b tree earlier before s v (Commit t) More (queued v t) (commit_record t row.last lsn ∷ older) (map (changed t (with_mark Committing)) rows) next held

-- A Commit of a transaction without a record.
abbrev pub UnloggedCommitsAreServed : Type 0
UnloggedCommitsAreServed = (b : Base) (earlier before : List Effect) (s : Shown) (v : View) (log : History) (rows : List Transaction) (next : ℕ) (old new : Table) (t : ℕ) (row : Transaction)
    → IsServing b earlier before s v log rows next old → Rises b log → find (is_of t) rows ≡ Some row → row.mark ≡ Going → owner_in v ≢ Some t → row.last ≡ 0 → IsReleased old t new → length rows ≡ length (without t rows) + 1
    → IsServed b earlier before s v (Commit t) Committed (committed_by v t) log (without t rows) next new

-- the record of an End of t, after its record at an LSN
abbrev pub end_record : (t last lsn : ℕ) → Logged
end_record t last lsn = record { lsn = lsn; txn = t; prev = last; undo_next = 0; page = 0; what = End }

-- A Commit and a Rollback of one that has records, but no change that stands: its End leaves a lawful log, and no effect joins the others.
abbrev pub EmptyCommitsAreServed : Tree → Type 0
EmptyCommitsAreServed tree = (b : Base) (earlier before : List Effect) (s : Shown) (v : View) (older : History) (rows : List Transaction) (next : ℕ) (old new : Table) (t lsn : ℕ) (row : Transaction)
    → IsServing b earlier before s v older rows next old → find (is_of t) rows ≡ Some row → row.mark ≡ Going → row.changes ≡ 0 → owner_in v ≢ Some t → IsLawful b tree older → IsOutside t (open_smo older) → end_of b older < lsn
    → IsReleased old t new → length rows ≡ length (without t rows) + 1
    → IsLogged b tree earlier before s v (Commit t) Committed (committed_by v t) (end_record t row.last lsn ∷ older) (without t rows) next new

abbrev pub EmptyRollbacksAreServed : Tree → Type 0
EmptyRollbacksAreServed tree = (b : Base) (earlier before : List Effect) (s : Shown) (v : View) (older : History) (rows : List Transaction) (next : ℕ) (old new : Table) (t lsn : ℕ) (row : Transaction)
    → IsServing b earlier before s v older rows next old → find (is_of t) rows ≡ Some row → (row.mark ≡ Going) ⊎ (row.mark ≡ MustRollBack) → row.changes ≡ 0 → owner_in v ≢ Some t → IsLawful b tree older → IsOutside t (open_smo older) → end_of b older < lsn
    → IsReleased old t new → length rows ≡ length (without t rows) + 1
    → IsLogged b tree earlier before s v (Rollback t) RolledBack (dropped_by v t) (end_record t row.last lsn ∷ older) (without t rows) next new

-- A RollTo of one that has no more changes lets it go on, also where it was told to die; one of more marks it.
abbrev pub ReturnsStay : Type 0
ReturnsStay = (b : Base) (earlier before : List Effect) (s : Shown) (v : View) (log : History) (rows : List Transaction) (next : ℕ) (held : Table) (t n : ℕ) (row : Transaction)
    → IsServing b earlier before s v log rows next held → find (is_of t) rows ≡ Some row → (row.mark ≡ Going) ⊎ (row.mark ≡ MustRollBack) → row.changes ≤ n → owner_in v ≢ Some t
    → IsServed b earlier before s v (RollTo t n) Done (marked v t answers.Going) log (map (changed t (with_mark Going)) rows) next held

abbrev pub ReturnsTurn : Type 0
ReturnsTurn = (b : Base) (earlier before : List Effect) (s : Shown) (v : View) (log : History) (rows : List Transaction) (next : ℕ) (held : Table) (t n : ℕ) (row : Transaction)
    → IsServing b earlier before s v log rows next held → find (is_of t) rows ≡ Some row → (row.mark ≡ Going) ⊎ (row.mark ≡ MustRollBack) → n < row.changes → owner_in v ≢ Some t
    → IsServed b earlier before s v (RollTo t n) More (marked v t (answers.Returning n)) log (map (changed t (with_mark (Returning n))) rows) next held

-- A Rollback of a transaction without a record.
abbrev pub DropsAreServed : Type 0
DropsAreServed = (b : Base) (earlier before : List Effect) (s : Shown) (v : View) (log : History) (rows : List Transaction) (next : ℕ) (old new : Table) (t : ℕ) (row : Transaction)
    → IsServing b earlier before s v log rows next old → Rises b log → find (is_of t) rows ≡ Some row → (row.mark ≡ Going) ⊎ (row.mark ≡ MustRollBack) → owner_in v ≢ Some t → row.last ≡ 0 → IsReleased old t new → length rows ≡ length (without t rows) + 1
    → IsServed b earlier before s v (Rollback t) RolledBack (dropped_by v t) log (without t rows) next new

-- A Rollback of one that has changes left marks it.
abbrev pub TurnsAreServed : Type 0
TurnsAreServed = (b : Base) (earlier before : List Effect) (s : Shown) (v : View) (log : History) (rows : List Transaction) (next : ℕ) (held : Table) (t : ℕ) (row : Transaction)
    → IsServing b earlier before s v log rows next held → find (is_of t) rows ≡ Some row → (row.mark ≡ Going) ⊎ (row.mark ≡ MustRollBack) → 1 ≤ row.changes → owner_in v ≢ Some t
    → IsServed b earlier before s v (Rollback t) More (marked v t answers.RollingBack) log (map (changed t (with_mark RollingBack)) rows) next held

-- A change that was taken back, with others left to take back.
abbrev pub UndoIsServed : Type 0
UndoIsServed = (b : Base) (earlier before : List Effect) (s : Shown) (v : View) (older longer : History) (rows : List Transaction) (next : ℕ) (held : Table) (t last undo_next : ℕ) (row : Transaction) (c : Change)
    → IsServing b earlier before s v older rows next held → find (is_of t) rows ≡ Some row → row.mark ≡ RollingBack → TakesBack b t c older longer → net t longer ≢ [] → IsOfOthers t older longer → IsRow (with_undone last undo_next row) next longer
    → IsServed b earlier before s v (Continue t) More (undid_more v t c (net t longer)) longer (map (changed t (with_undone last undo_next)) rows) next held

-- The last change was taken back, and the transaction ended.
abbrev pub EndsAreServed : Type 0
EndsAreServed = (b : Base) (earlier before : List Effect) (s : Shown) (v : View) (older longer : History) (rows : List Transaction) (next : ℕ) (old new : Table) (t : ℕ) (row : Transaction) (c : Change)
    → IsServing b earlier before s v older rows next old → find (is_of t) rows ≡ Some row → row.mark ≡ RollingBack → TakesBack b t c older longer → net t longer ≡ [] → IsOfOthers t older longer
    → IsOver t longer → to_undo t longer ≡ [] → IsReleased old t new → length rows ≡ length (without t rows) + 1
    → IsServed b earlier before s v (Continue t) RolledBack (undid_last v t c) longer (without t rows) next new

-- ---- the store

-- the table without the rows of these
abbrev pub without_all : List ℕ → List Transaction → List Transaction
without_all [] rows = rows
without_all (t ∷ ts) rows = without_all ts (without t rows)

-- A page was written, after Images.
abbrev pub FlushesAreServed : Type 0
FlushesAreServed = (b : Base) (earlier before : List Effect) (s : Shown) (v : View) (older longer : History) (rows : List Transaction) (next : ℕ) (held : Table) (p : ℕ)
    → IsServing b earlier before s v older rows next held → Stays b older longer → IsOfAll older longer → IsServed b earlier before s v (FlushPage p) Done v longer rows next held

-- The log was forced: who waited has ended, with row and locks.
abbrev pub ForcesAreServed : Type 0
ForcesAreServed = (b : Base) (earlier before : List Effect) (s : Shown) (v : View) (older longer : History) (rows : List Transaction) (next : ℕ) (old new : Table)
    → IsServing b earlier before s v older rows next old → Stays b older longer → IsOfAll older longer → AreReleased old (λ t. is_among t v.queue) new → length rows ≡ length (without_all v.queue rows) + length v.queue
    → IsServed b earlier before s v Force Done (forced_by v) longer (without_all v.queue rows) next new

-- A Checkpoint was answered, after records that are no transaction's.
abbrev pub CheckpointsAreServed : Type 0
CheckpointsAreServed = (b : Base) (earlier before : List Effect) (s : Shown) (v : View) (older longer : History) (rows : List Transaction) (next : ℕ) (held : Table)
    → IsServing b earlier before s v older rows next held → Stays b older longer → IsOfAll older longer → IsServed b earlier before s v Checkpoint Done v longer rows next held

-- The record of a Checkpoint on top leaves a lawful log, and is a step of the machine.
abbrev pub LoggedCheckpointsAreServed : Tree → Type 0
LoggedCheckpointsAreServed tree = (b : Base) (earlier before : List Effect) (s : Shown) (v : View) (r : Logged) (older : History) (rows : List Transaction) (next : ℕ) (held : Table)
    → IsServing b earlier before s v older rows next held → IsLawful b tree older → IsCheckpoint r → end_of b older < r.lsn → IsLogged b tree earlier before s v Checkpoint Done v (r ∷ older) rows next held

-- ---- refusals

-- A step that a check bars is refused, and changes nothing.
abbrev pub BarredStepsAreServed : Type 0
BarredStepsAreServed = (b : Base) (earlier before : List Effect) (s : Shown) (v : View) (log : History) (rows : List Transaction) (next : ℕ) (held : Table) (step : Step) (fault : ℕ)
    → IsServing b earlier before s v log rows next held → barred v step ≡ Some fault → IsServed b earlier before s v step (Refused fault) v log rows next held

-- A step for which pages or memory are wanting is refused, and no more than Images join the log.
abbrev pub LacksAreServed : Type 0
LacksAreServed = (b : Base) (earlier before : List Effect) (s : Shown) (v : View) (older longer : History) (rows : List Transaction) (next : ℕ) (held : Table) (step : Step) (fault : ℕ)
    → IsServing b earlier before s v older rows next held → barred v step ≡ None → Wants step fault → Stays b older longer → IsOfAll older longer
    → IsServed b earlier before s v step (Refused fault) v longer rows next held

-- ---- structure changes that are made page by page, in several steps

-- the rows, where that of t notes its records as the log has them
abbrev pub noted : ℕ → History → List Transaction → List Transaction
noted t log rows = map (changed t (with_record (last_of t log) (undo_next_of t log))) rows

-- An Insert that wants a structure change: it has its locks, that of the next name until it ends, and its first page is logged.
abbrev pub InsertsBegin : Type 0
InsertsBegin = (b : Base) (earlier before : List Effect) (s : Shown) (v : View) (older longer : History) (rows : List Transaction) (next : ℕ) (old new : Table) (t : ℕ) (row : Transaction) (k : Key) (i : ℕ)
    → IsServing b earlier before s v older rows next old → find (is_of t) rows ≡ Some row → row.mark ≡ Going → v.under ≡ None → keys_fit (Insert k i) ≡ true → get v.walk k ≡ None
    → Decides old t (asked_begun k v.walk) Granted new → GrowsByStructure t older longer
    → IsServed b earlier before s v (Do t (Insert k i)) More (with_change (locked v t (lasting_of new t)) t (Puts k i)) longer (noted t longer rows) next new

-- Its owner's next page, of whatever change.
abbrev pub PagesAreServed : Type 0
PagesAreServed = (b : Base) (earlier before : List Effect) (s : Shown) (v : View) (older longer : History) (rows : List Transaction) (next : ℕ) (held : Table) (t : ℕ) (row : Transaction)
    → IsServing b earlier before s v older rows next held → find (is_of t) rows ≡ Some row → row.mark ≢ Committing → owner_in v ≡ Some t → barred v (Continue t) ≡ None → GrowsByStructure t older longer
    → IsServed b earlier before s v (Continue t) More v longer (noted t longer rows) next held

-- Its key is free in the log too, when the change is closed.
abbrev pub InsertsStayFree : Type 0
InsertsStayFree = (b : Base) (earlier before : List Effect) (s : Shown) (v : View) (older : History) (rows : List Transaction) (next : ℕ) (held : Table) (t : ℕ) (row : Transaction) (k : Key) (i : ℕ)
    → IsServing b earlier before s v older rows next held → find (is_of t) rows ≡ Some row → row.mark ≡ Going → v.under ≡ Some (record { owner = t; aim = Puts k i }) → (get (contents b older) k ≡ None) × lawful.IsFree t k older

-- The Insert ends: the record that closes the change and that of the key leave a lawful log, and its lock on the next name falls back.
abbrev pub InsertsEnd : Tree → Type 0
InsertsEnd tree = (b : Base) (earlier before : List Effect) (s : Shown) (v : View) (older between : History) (rows : List Transaction) (next : ℕ) (old new : Table) (t last lsn page : ℕ) (row : Transaction) (k : Key) (i : ℕ)
    → IsServing b earlier before s v older rows next old → find (is_of t) rows ≡ Some row → row.mark ≡ Going → v.under ≡ Some (record { owner = t; aim = Puts k i }) → IsOnTheWay b t last older between
    → IsLawful b tree between → IsOutside t (open_smo between) → IsNotIn page (open_smo between) → tree.CanPut (settled b between) page k i → end_of b between < lsn → HasFallen old t new
    → IsLogged b tree earlier before s v (Continue t) Inserted (change_made (did v t (Insert k i) (own_locks v t))) (key_record t last lsn page (InsertKey k i) ∷ between) (counted t lsn rows) next new

-- A Delete that leaves a leaf empty: the key goes, and the change begins, with no page logged.
abbrev pub DeletesBegin : Tree → Type 0
DeletesBegin tree = (b : Base) (earlier before : List Effect) (s : Shown) (v : View) (older between : History) (rows : List Transaction) (next : ℕ) (old new : Table) (t last lsn page : ℕ) (row : Transaction) (k : Key) (i : ℕ)
    → IsServing b earlier before s v older rows next old → find (is_of t) rows ≡ Some row → row.mark ≡ Going → v.under ≡ None → keys_fit (Delete k) ≡ true → IsOnTheWay b t last older between
    → IsLawful b tree between → IsOutside t (open_smo between) → IsNotIn page (open_smo between) → get (contents b older) k ≡ Some i → Decides old t (asked (Delete k) v.walk) Granted new → tree.CanDrop (settled b between) page k i → end_of b between < lsn
    → IsLogged b tree earlier before s v (Do t (Delete k)) More (with_change (did v t (Delete k) (lasting_of new t)) t (Drops k)) (key_record t last lsn page (DeleteKey k i) ∷ between) (counted t lsn rows) next new

-- It ends with the record that closes the change.
abbrev pub DeletesEnd : Type 0
DeletesEnd = (b : Base) (earlier before : List Effect) (s : Shown) (v : View) (older longer : History) (rows : List Transaction) (next : ℕ) (held : Table) (t : ℕ) (row : Transaction) (k : Key)
    → IsServing b earlier before s v older rows next held → find (is_of t) rows ≡ Some row → row.mark ≡ Going → v.under ≡ Some (record { owner = t; aim = Drops k }) → GrowsByStructure t older longer
    → IsServed b earlier before s v (Continue t) Deleted (change_made v) longer (noted t longer rows) next held

-- one that takes its changes back: it rolls back, or returns
abbrev pub takes_back : answers.Mark → Bool
takes_back answers.RollingBack = true
takes_back (answers.Returning n) = true
takes_back _ = false

-- one that has a change more to take back: it rolls back, or returns to fewer changes than it has
abbrev pub TurnsOn : Transaction → Type 0
TurnsOn row = (row.mark ≡ RollingBack) ⊎ ((n : ℕ) × (row.mark ≡ Returning n) × (n < row.changes))

-- A change to be taken back whose key wants a split: its first page is logged. At the end it is taken back as ever.
abbrev pub TurnsBegin : Type 0
TurnsBegin = (b : Base) (earlier before : List Effect) (s : Shown) (v : View) (older longer : History) (rows : List Transaction) (next : ℕ) (held : Table) (t : ℕ) (row : Transaction)
    → IsServing b earlier before s v older rows next held → find (is_of t) rows ≡ Some row → TurnsOn row → v.under ≡ None → GrowsByStructure t older longer
    → IsServed b earlier before s v (Continue t) More (with_change v t TakesLater) longer (noted t longer rows) next held

-- One that leaves a leaf empty: it is taken back, and the change begins, with no page logged.
abbrev pub TurnsEmpty : Type 0
TurnsEmpty = (b : Base) (earlier before : List Effect) (s : Shown) (v : View) (older longer : History) (rows : List Transaction) (next : ℕ) (held : Table) (t last undo_next : ℕ) (row : Transaction) (c : Change)
    → IsServing b earlier before s v older rows next held → find (is_of t) rows ≡ Some row → TurnsOn row → v.under ≡ None → TakesBack b t c older longer → IsOfOthers t older longer → IsRow (with_undone last undo_next row) next longer
    → IsServed b earlier before s v (Continue t) More (with_change (undid_more v t c (net t longer)) t TookBack) longer (map (changed t (with_undone last undo_next)) rows) next held

-- It ends with the record that closes it, where others are left to take back, or else, of a rollback, with an End.
abbrev pub TurnsDrop : Type 0
TurnsDrop = (b : Base) (earlier before : List Effect) (s : Shown) (v : View) (older longer : History) (rows : List Transaction) (next : ℕ) (held : Table) (t : ℕ) (row : Transaction)
    → IsServing b earlier before s v older rows next held → find (is_of t) rows ≡ Some row → TurnsOn row → v.under ≡ Some (record { owner = t; aim = TookBack }) → net t longer ≢ [] → GrowsByStructure t older longer
    → IsServed b earlier before s v (Continue t) More (change_made v) longer (noted t longer rows) next held

abbrev pub TurnsEnd : Type 0
TurnsEnd = (b : Base) (earlier before : List Effect) (s : Shown) (v : View) (older longer : History) (rows : List Transaction) (next : ℕ) (old new : Table) (t : ℕ) (row : Transaction)
    → IsServing b earlier before s v older rows next old → find (is_of t) rows ≡ Some row → row.mark ≡ RollingBack → v.under ≡ Some (record { owner = t; aim = TookBack }) → net t longer ≡ [] → Stays b older longer → IsOfOthers t older longer
    → IsOver t longer → to_undo t longer ≡ [] → IsReleased old t new → length rows ≡ length (without t rows) + 1
    → IsServed b earlier before s v (Continue t) RolledBack (change_made (dropped_by v t)) longer (without t rows) next new

-- The change of another stands in the way of an access, and of a change that is taken back.
abbrev pub TreesBlock : Type 0
TreesBlock = (b : Base) (earlier before : List Effect) (s : Shown) (v : View) (older longer : History) (rows : List Transaction) (next : ℕ) (held : Table) (t : ℕ) (row : Transaction) (a : Access) (u : Under)
    → IsServing b earlier before s v older rows next held → find (is_of t) rows ≡ Some row → row.mark ≡ Going → v.under ≡ Some u → t ≢ u.owner → keys_fit a ≡ true → Stays b older longer → IsOfAll older longer
    → IsServed b earlier before s v (Do t a) BlockedTree v longer rows next held

abbrev pub TreesHalt : Type 0
TreesHalt = (b : Base) (earlier before : List Effect) (s : Shown) (v : View) (older longer : History) (rows : List Transaction) (next : ℕ) (held : Table) (t : ℕ) (row : Transaction) (u : Under)
    → IsServing b earlier before s v older rows next held → find (is_of t) rows ≡ Some row → takes_back (mark_of row.mark) ≡ true → v.under ≡ Some u → t ≢ u.owner → Stays b older longer → IsOfAll older longer
    → IsServed b earlier before s v (Continue t) BlockedTree v longer rows next held

-- An Insert that would end in a later step waits, and dies, as one that ends at once.
pub record BegunAskTheSame : Type 0 where
  pub waits : (w : IndexMap) (k : Key) (i : ℕ) → get w k ≡ None → (old new : Table) (t holder : ℕ) → Decides old t (asked_begun k w) (Wait holder) new → Decides old t (asked (Insert k i) w) (Wait holder) new
  pub dies : (w : IndexMap) (k : Key) (i : ℕ) → get w k ≡ None → (old new : Table) (t : ℕ) → Decides old t (asked_begun k w) MustDie new → Decides old t (asked (Insert k i) w) MustDie new

-- what its owner is while a structure change is under way
abbrev pub IsMarkFor : Aim → answers.Mark → Type 0
IsMarkFor (Puts k r) mark = mark ≡ answers.Going
IsMarkFor (Drops k) mark = mark ≡ answers.Going
IsMarkFor TakesLater mark = takes_back mark ≡ true
IsMarkFor TookBack mark = takes_back mark ≡ true

-- So a transaction that takes nothing back, and for which no Insert or Delete goes on, has none under way: what the checks let through.
pub record OwnersAreMarked : Type 0 where
  pub marked : (base : IndexMap) (v : View) → IsReached base v → (u : Under) → v.under ≡ Some u → IsMarkFor u.aim ((v.txns u.owner).mark)
  pub free : (base : IndexMap) (v : View) → IsReached base v → (t : ℕ) → pending_of v.under t ≡ None → takes_back ((v.txns t).mark) ≡ false → owner_in v ≢ Some t
