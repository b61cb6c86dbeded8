-- Which records join the log in a step.
use Rattle.std.specs.Prelude.{◌≡◌, ◌≢◌, ◌≤◌, ℕ, true, false, [], ◌∷◌, length, Option, None, Some}
use Rattle.im_base_types.specs.Answers.{Step, Reply, Do, Insert, Delete, Commit, Rollback, Continue, RollTo, Force, Checkpoint, Switch, Started, Inserted, Deleted, Committed, RolledBack, More, Done}
use Rattle.im_base_types.specs.Keys.{Key}
use Rattle.im_base_types.specs.Pages.{Body}
use Rattle.im_base_types.specs.Records.{InsertKey, DeleteKey, Logged}
use Rattle.im_theory_log.specs.Histories.{Base, History}
use Rattle.im_theory_log.specs.Copies.{GrowsByImages}
use Rattle.im_theory_log.specs.LogLaws.{bodies}
use Rattle.im_theory_log.specs.Structure.{settled}
use Rattle.im_theory_log.specs.Transactions.{last_of, net}
use Rattle.im_log_record.specs.Entry as entries
use Rattle.im_log.specs.Spelled.{logged_at}
use Rattle.im_theory_machine.specs.View.{Under, Aim, Puts, TakesBack, TookBack, owner_of}
use Rattle.im_theory_tree.specs.Good.{AllOf}
use Rattle.im_smo_log.specs.Changes.{GrowsByChange, HasRecordOf}
use Rattle.im_smo_log.specs.Logged.{smo_at, dummy_at}
use Rattle.im_smo_log.specs.Under.{is_structural}
use Rattle.im_smo_split.specs.Tops.{LacksRoomFor}
use Rattle.im_smo_actions.specs.DropPlan.{IsSpare}
use Rattle.im_restart_undo.specs.Records.{GrowsByUndo, compensations}
use Rattle.im_theory_steps.specs.Growth.{IsCheckpoint}
use Rattle.im_theory_steps.specs.Steps.{commit_record, end_record, key_record}
use Rattle.im_engine_access.specs.Edits.{HasOne}

-- A key came: its record is the newest, after Images and, just where its leaf lacked room, a structure change of the transaction.
pub record PutsKey (b : Base) (t : ℕ) (key : Key) (rid : ℕ) (older longer : History) : Type 0 where
  pub between : History
  pub change : GrowsByChange t older between
  pub some : LacksRoomFor (settled b older) key → HasRecordOf t change.more
  pub only : HasRecordOf t change.more → LacksRoomFor (settled b older) key
  pub last : ℕ
  pub lsn : ℕ
  pub page : ℕ
  pub is : longer ≡ key_record t last lsn page (InsertKey key rid) ∷ between

-- A key went: its record is after Images, and in front of Images and, just where it left the key's leaf empty, which is not the root, a structure change of the transaction.
pub record DropsKey (b : Base) (t : ℕ) (key : Key) (older longer : History) : Type 0 where
  pub before : History
  pub images : GrowsByImages b older before
  pub rid : ℕ
  pub last : ℕ
  pub lsn : ℕ
  pub page : ℕ
  pub change : GrowsByChange t (key_record t last lsn page (DeleteKey key rid) ∷ before) longer
  pub only : HasRecordOf t change.more → IsSpare (bodies b (key_record t last lsn page (DeleteKey key rid) ∷ before)) key
  pub some : HasOne (settled b older) key → HasRecordOf t change.more

-- One change of the transaction was taken back: one compensation joined, with Images and structure changes of the transaction.
pub record TakesOneBack (t : ℕ) (older longer : History) : Type 0 where
  pub grows : GrowsByUndo t older longer
  pub once : length (compensations grows.more) ≡ 1

-- It was the last one: after it the transaction has its End.
pub record TakesLastBack (t : ℕ) (older longer : History) : Type 0 where
  pub between : History
  pub one : TakesOneBack t older between
  pub last : ℕ
  pub lsn : ℕ
  pub is : longer ≡ logged_at lsn (entries.End t last) ∷ between

-- The transaction has its Commit, after its last record; one without a record has none, and one of which no change stands has an End.
pub data AddsCommit (t : ℕ) (older longer : History) : Type 0 where
  without_records : last_of t older ≡ 0 → longer ≡ older → AddsCommit t older longer
  with_records : (lsn : ℕ) → 1 ≤ last_of t older → net t older ≢ [] → longer ≡ commit_record t (last_of t older) lsn ∷ older → AddsCommit t older longer
  emptied : (lsn : ℕ) → 1 ≤ last_of t older → net t older ≡ [] → longer ≡ end_record t (last_of t older) lsn ∷ older → AddsCommit t older longer

-- What a Rollback adds that ends its transaction: nothing, or its End where it has records.
pub data AddsEnd (t : ℕ) (older longer : History) : Type 0 where
  no_records : last_of t older ≡ 0 → longer ≡ older → AddsEnd t older longer
  some_records : (lsn : ℕ) → 1 ≤ last_of t older → net t older ≡ [] → longer ≡ end_record t (last_of t older) lsn ∷ older → AddsEnd t older longer

-- One Checkpoint joined: its record is the newest, after Images where pages were written first, and after none where the changed pages were few.
pub record AddsCheckpoint (b : Base) (Few : Type 0) (older longer : History) : Type 0 where
  pub between : History
  pub images : GrowsByImages b older between
  pub alone : Few → between ≡ older
  pub newest : Logged
  pub checkpoint : IsCheckpoint newest
  pub is : longer ≡ newest ∷ between

-- ---- structure changes that are made page by page

-- One page of a structure change of the transaction, with the mark of one under way, as others have to see it: its record is the newest, after Images.
pub record LogsPage (b : Base) (t : ℕ) (older longer : History) : Type 0 where
  pub between : History
  pub images : GrowsByImages b older between
  pub last : ℕ
  pub lsn : ℕ
  pub page : ℕ
  pub was : Body
  pub now : Body
  pub marked : now.marked ≡ true
  pub is : longer ≡ smo_at lsn t last page was now ∷ between

-- The record that closes a structure change of the transaction, and no other.
pub record Closes (t : ℕ) (older longer : History) : Type 0 where
  pub last : ℕ
  pub lsn : ℕ
  pub undo_next : ℕ
  pub is : longer ≡ dummy_at lsn t last undo_next ∷ older

-- The record of a key, after Images alone: no structure change is made.
pub record PutsAlone (b : Base) (t : ℕ) (key : Key) (rid : ℕ) (older longer : History) : Type 0 where
  pub between : History
  pub images : GrowsByImages b older between
  pub last : ℕ
  pub lsn : ℕ
  pub page : ℕ
  pub is : longer ≡ key_record t last lsn page (InsertKey key rid) ∷ between

pub record DropsAlone (b : Base) (t : ℕ) (key : Key) (older longer : History) : Type 0 where
  pub between : History
  pub images : GrowsByImages b older between
  pub rid : ℕ
  pub last : ℕ
  pub lsn : ℕ
  pub page : ℕ
  pub is : longer ≡ key_record t last lsn page (DeleteKey key rid) ∷ between

-- The compensation of one change, after Images alone.
pub record TakesAlone (t : ℕ) (older longer : History) : Type 0 where
  pub one : TakesOneBack t older longer
  pub plain : AllOf (λ (r : Logged). is_structural r.what ≡ false) one.grows.more

-- The End, after which nothing is left.
pub record EndsAlone (t : ℕ) (older longer : History) : Type 0 where
  pub last : ℕ
  pub lsn : ℕ
  pub is : longer ≡ logged_at lsn (entries.End t last) ∷ older

-- the key that was to come comes
abbrev pub PutsFor : Base → ℕ → Aim → History → History → Type 0
PutsFor b t (Puts key rid) older longer = PutsAlone b t key rid older longer
PutsFor b t _ older longer = ⊥

abbrev pub PutsPending : Base → Option Under → History → History → Type 0
PutsPending b None older longer = ⊥
PutsPending b (Some u) older longer = PutsFor b u.owner u.aim older longer

-- first the record that closes the change, and then this
pub record ClosesThen (t : ℕ) (Behind : History → Type 0) (older : History) : Type 0 where
  pub closed : History
  pub closes : Closes t older closed
  pub behind : Behind closed

-- What a Continue adds that is answered More, or Done where a return ends, by whose structure change was under way, and is.
pub data GoesOnBy (b : Base) (was now : Option Under) (t : ℕ) (older longer : History) : Type 0 where
  -- a change is taken back, beside the structure change of another or none
  turns : owner_of was ≢ Some t → owner_of now ≢ Some t → TakesOneBack t older longer → GoesOnBy b was now t older longer
  -- a structure change begins with its first page, after which a change is taken back; or a change is taken back, and after it one begins
  splits : was ≡ None → now ≡ Some (record { owner = t; aim = TakesBack }) → LogsPage b t older longer → GoesOnBy b was now t older longer
  empties : was ≡ None → now ≡ Some (record { owner = t; aim = TookBack }) → TakesAlone t older longer → GoesOnBy b was now t older longer
  -- the next page of its own
  pages : owner_of was ≡ Some t → now ≡ was → LogsPage b t older longer → GoesOnBy b was now t older longer
  -- the end of its own
  takes_behind : was ≡ Some (record { owner = t; aim = TakesBack }) → now ≡ None → ClosesThen t (λ between. TakesAlone t between longer) older → GoesOnBy b was now t older longer
  drops : was ≡ Some (record { owner = t; aim = TookBack }) → now ≡ None → Closes t older longer → GoesOnBy b was now t older longer

-- What one adds with which a rollback ends.
pub data EndsBy (was : Option Under) (t : ℕ) (older longer : History) : Type 0 where
  ends_by_turn : owner_of was ≢ Some t → TakesLastBack t older longer → EndsBy was t older longer
  ends_behind : was ≡ Some (record { owner = t; aim = TakesBack }) → ClosesThen t (λ between. TakesLastBack t between longer) older → EndsBy was t older longer
  ends_drop : was ≡ Some (record { owner = t; aim = TookBack }) → ClosesThen t (λ between. EndsAlone t between longer) older → EndsBy was t older longer

-- By the reply and the step, by whether a Checkpoint may list each changed page, and by the structure change that was under way before the step and is after it. A step that is not named here adds Images alone, which writes of pages want, and a Begin, a Rollback that begins, a RollTo and a Force add nothing.
abbrev pub GrowsAs : Base → (Few : Type 0) → (was now : Option Under) → Reply → Step → History → History → Type 0
GrowsAs b Few was now Inserted (Do t (Insert key rid)) older longer = PutsKey b t key rid older longer
GrowsAs b Few was now Inserted (Continue t) older longer = ClosesThen t (λ between. PutsPending b was between longer) older
GrowsAs b Few was now Deleted (Do t (Delete key)) older longer = DropsKey b t key older longer
GrowsAs b Few was now Deleted (Continue t) older longer = Closes t older longer
GrowsAs b Few was now Committed (Commit t) older longer = AddsCommit t older longer
GrowsAs b Few was now More (Do t (Insert key rid)) older longer = LogsPage b t older longer
GrowsAs b Few was now More (Do t (Delete key)) older longer = DropsAlone b t key older longer
GrowsAs b Few was now More (Commit t) older longer = AddsCommit t older longer
GrowsAs b Few was now More (Rollback t) older longer = longer ≡ older
GrowsAs b Few was now More (RollTo t n) older longer = longer ≡ older
GrowsAs b Few was now More (Continue t) older longer = GoesOnBy b was now t older longer
GrowsAs b Few was now Done (Continue t) older longer = GoesOnBy b was now t older longer
GrowsAs b Few was now RolledBack (Rollback t) older longer = AddsEnd t older longer
GrowsAs b Few was now RolledBack (Continue t) older longer = EndsBy was t older longer
GrowsAs b Few was now (Started n) step older longer = longer ≡ older
GrowsAs b Few was now Done (RollTo t n) older longer = longer ≡ older
GrowsAs b Few was now Done Force older longer = longer ≡ older
GrowsAs b Few was now Done Checkpoint older longer = AddsCheckpoint b Few older longer
GrowsAs b Few was now Done Switch older longer = ⊥  -- the log goes on in the other file
GrowsAs b Few was now reply step older longer = GrowsByImages b older longer
