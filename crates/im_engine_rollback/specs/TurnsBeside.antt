-- One turn of a rollback, beside a structure change of another transaction.
use Rattle.std.specs.Prelude.{◌≡◌, ◌≢◌, ◌⊎◌, ℕ, Bool, true, false, [], Result, IfErr}
use Rattle.im_base_types.specs.declared.fault.Fault.{Fault}
use Rattle.im_base_types.specs.declared.fault.Fault.TheVariants.{Capacity, Failed, Memory}
use Rattle.im_theory_log.specs.Histories.{Base}
use Rattle.im_theory_log.specs.Structure.{settled}
use Rattle.im_theory_log.specs.Transactions.{net}
use Rattle.im_theory_log.specs.Writer.{Writer}
use Rattle.im_base_disk.specs.declared.disk.Disk.{Ghosts}
use Rattle.im_log_record.specs.Entry.{Entry, page_of, prev_of}
use Rattle.im_log.specs.Whats.{what_of}
use Rattle.im_page_writer.specs.declared.page_writer.PageWriter.{PageWriter}
use Rattle.im_page_writer.specs.PageWriter.{Evicted, GoesOn}
use Rattle.im_page_writer.specs.Outcome.{IsSound}
use Rattle.im_tree_search.specs.declared.change_beside.Beside.{Beside}
use Rattle.im_tree_search.specs.declared.sight.Sight.{Sight}
use Rattle.im_tree_search.specs.Sights.{is_done, IfSeen}
use Rattle.im_smo_log.specs.Under.{IsUnderWay}
use Rattle.im_smo_actions.specs.declared.planned_change.PlannedChange.{PlannedChange}
use Rattle.im_smo_actions.specs.GoingBeside.{settled_pages}
use Rattle.im_restart_undo.specs.declared.back.Back.TheVariants.{Plain, Split, Drop}
use Rattle.im_restart_undo.specs.GoingBeside.{TakenBeside}
use Rattle.im_restart_undo.specs.Planning.{HiddenBack, IsBack, NeedsChange}
use Rattle.im_restart_undo.specs.Undoing.{IsToUndo, LeavesUndo, UsesUp}
use Rattle.im_engine_rollback.specs.declared.logged_back.LoggedBack.{LoggedBack}
use Rattle.im_engine_rollback.specs.declared.logged_back.LoggedBack.TheVariants as backs
use Rattle.im_engine_rollback.specs.declared.undone.Undone.{Undone}
use Rattle.im_engine_rollback.specs.declared.undone.Undone.TheVariants.{More, Ended}
use Rattle.im_engine_rollback.specs.declared.undone_beside.UndoneBeside.{UndoneBeside}
use Rattle.im_engine_rollback.specs.declared.undone_beside.UndoneBeside.TheVariants.{Made, Splits, Drops}
use Rattle.im_engine_rollback.specs.EndsBeside.{EndedBeside}

module _ {D : Type 0} (d : Ghosts D) (b : Base) (base : ℕ) where
  -- ---- one record, by its plan over the settled tree

  -- The record is taken back by its compensation alone: the transaction's records end at this LSN, and its undo goes on at this one.
  pub record TakesPlain (s : Writer) (e t last undo_next : ℕ) (beside : Beside) (entry : Entry) (old : D) (w : PageWriter) (disk : D) : Type 0 where
    pub page : ℕ
    pub planned : IsBack (settled_pages b s) beside (what_of entry) (Plain page)
    pub taken : TakenBeside d b base s e t entry (Plain page) last old w disk
    pub leads : undo_next ≡ prev_of entry

  -- The leaf of its key is split first: Images alone were logged, and the split may begin, as a change of the transaction.
  pub record SplitsFirst (s : Writer) (e t last undo_next : ℕ) (beside : Beside) (entry : Entry) (change : PlannedChange) (old : D) (w : PageWriter) (disk : D) : Type 0 where
    pub leaf : ℕ
    pub planned : IsBack (settled_pages b s) beside (what_of entry) (Split (record { images = change.images; leaf = leaf }))
    pub now : Writer
    pub on : GoesOn d b base s old now w disk
    pub begins : IsUnderWay b t undo_next change.images 0 last now.log
    pub count : change.count ≡ (settled b now.log 0).leftmost

  -- It is taken back, and the deletion of its leaf may begin after it.
  pub record DropsBehind (s : Writer) (e t last undo_next : ℕ) (beside : Beside) (entry : Entry) (change : PlannedChange) (old : D) (w : PageWriter) (disk : D) : Type 0 where
    pub page : ℕ
    pub planned : IsBack (settled_pages b s) beside (what_of entry) (Drop page change.images)
    pub taken : TakenBeside d b base s e t entry (Plain page) last old w disk
    pub leads : undo_next ≡ prev_of entry
    pub begins : IsUnderWay b t undo_next change.images 0 last taken.now.log
    pub count : change.count ≡ (settled b taken.now.log 0).leftmost

  abbrev pub IsLoggedBack : (s : Writer) (e t last undo_next : ℕ) (beside : Beside) (entry : Entry) (old : D) (w : PageWriter) (disk : D) → LoggedBack → Type 0
  IsLoggedBack s e t last undo_next beside entry old w disk (backs.Taken l n) = TakesPlain s e t l n beside entry old w disk
  IsLoggedBack s e t last undo_next beside entry old w disk (backs.Splits change) = SplitsFirst s e t last undo_next beside entry change old w disk
  IsLoggedBack s e t last undo_next beside entry old w disk (backs.Drops change l n) = DropsBehind s e t l n beside entry change old w disk

  -- What that keeps. It is refused `Memory` with all as it was, and only for a structure change, beside none; never `Capacity`, nor `Failed`.
  pub record LoggedBackKept (s : Writer) (e t last undo_next : ℕ) (beside : Beside) (entry : Entry) (old : D) (w : PageWriter) (disk : D) (result : Result LoggedBack Fault) : Type 0 where
    pub sound : IsSound result (IsLoggedBack s e t last undo_next beside entry old w disk)
    pub stops : LeavesUndo d b base s t old disk
    pub again : IfErr result (λ e. e ≡ Memory → Evicted d b base s old w disk)
    pub short : IfErr result (λ e. e ≡ Memory → NeedsChange (settled b s.log) (what_of entry))
    pub alone : IfErr result (λ e. e ≡ Memory → beside.pages.now ≡ [])
    pub used_up : IfErr result (λ e. e ≡ Capacity → ⊥)
    pub early : IfErr result (λ e. e ≡ Failed → ⊥)

  -- ---- what is to be undone next

  -- It takes a structure change.
  pub record NeedsChangeBack (s : Writer) (t : ℕ) : Type 0 where
    pub entry : Entry
    pub next : IsToUndo d b base s t entry
    pub needs : NeedsChange (settled b s.log) (what_of entry)

  -- And page numbers or levels are used up.
  pub record HasNoWayBack (s : Writer) (t : ℕ) : Type 0 where
    pub entry : Entry
    pub next : IsToUndo d b base s t entry
    pub used_up : UsesUp (settled b s.log) (what_of entry)

  -- It is seen beside the change, which has not made the page that it names.
  pub record IsSeenNext (s : Writer) (t : ℕ) (beside : Beside) (entry : Entry) : Type 0 where
    pub next : IsToUndo d b base s t entry
    pub page : is_done beside (page_of entry) ≡ false

  -- It is hidden beside the change, for this cause, and Images alone were logged.
  pub record IsHiddenBack (s : Writer) (t : ℕ) (beside : Beside) (old : D) (w : PageWriter) (disk : D) : Type 0 where
    pub entry : Entry
    pub next : IsToUndo d b base s t entry
    pub why : HiddenBack (settled b s.log) beside (page_of entry) (what_of entry)
    pub evicted : Evicted d b base s old w disk

  -- It is logged as planned.
  pub record HasLoggedBack (s : Writer) (e t last undo_next : ℕ) (beside : Beside) (old : D) (w : PageWriter) (disk : D) (back : LoggedBack) : Type 0 where
    pub entry : Entry
    pub next : IsSeenNext s t beside entry
    pub logged : IsLoggedBack s e t last undo_next beside entry old w disk back

  -- what planning and logging it keeps
  pub record BackBesideKept (s : Writer) (e t last undo_next : ℕ) (beside : Beside) (old : D) (w : PageWriter) (disk : D) (result : Result (Sight LoggedBack) Fault) : Type 0 where
    pub sound : IsSound result (IfSeen (HasLoggedBack s e t last undo_next beside old w disk) (IsHiddenBack s t beside old w disk))
    pub stops : LeavesUndo d b base s t old disk
    pub again : IfErr result (λ e. e ≡ Memory → Evicted d b base s old w disk)
    pub short : IfErr result (λ e. e ≡ Memory → NeedsChangeBack s t)
    pub used_up : IfErr result (λ e. e ≡ Capacity → HasNoWayBack s t)
    pub alone : IfErr result (λ e. (e ≡ Memory) ⊎ (e ≡ Capacity) → beside.pages.now ≡ [])
    pub early : IfErr result (λ e. e ≡ Failed → ⊥)

  -- ---- a turn

  -- One change was taken back, and others are left.
  pub record HasMoreBeside (s : Writer) (e t last undo_next : ℕ) (beside : Beside) (old : D) (w : PageWriter) (disk : D) : Type 0 where
    pub entry : Entry
    pub next : IsSeenNext s t beside entry
    pub took : TakesPlain s e t last undo_next beside entry old w disk
    pub left : net t took.taken.now.log ≢ []

  -- The last change was taken back, and then the transaction ended.
  pub record HasEndedBeside (s : Writer) (e t : ℕ) (beside : Beside) (old : D) (w : PageWriter) (disk : D) : Type 0 where
    pub entry : Entry
    pub next : IsSeenNext s t beside entry
    pub last : ℕ
    pub undo_next : ℕ
    pub between : PageWriter
    pub mid : D
    pub took : TakesPlain s e t last undo_next beside entry old between mid
    pub none : net t took.taken.now.log ≡ []
    pub end : EndedBeside d b base took.taken.now e t last w disk

  -- One change was taken back, whatever is left.
  pub record TookBeside (s : Writer) (e t last undo_next : ℕ) (beside : Beside) (old : D) (w : PageWriter) (disk : D) : Type 0 where
    pub entry : Entry
    pub next : IsSeenNext s t beside entry
    pub took : TakesPlain s e t last undo_next beside entry old w disk

  -- A split has to be made first.
  pub record MustSplitFirst (s : Writer) (e t last undo_next : ℕ) (beside : Beside) (change : PlannedChange) (old : D) (w : PageWriter) (disk : D) : Type 0 where
    pub entry : Entry
    pub next : IsSeenNext s t beside entry
    pub splits : SplitsFirst s e t last undo_next beside entry change old w disk

  -- One change was taken back, and a leaf has to leave the tree.
  pub record MustDropBehind (s : Writer) (e t last undo_next : ℕ) (beside : Beside) (change : PlannedChange) (old : D) (w : PageWriter) (disk : D) : Type 0 where
    pub entry : Entry
    pub next : IsSeenNext s t beside entry
    pub drops : DropsBehind s e t last undo_next beside entry change old w disk

  -- It was taken back at once: of a transaction that ends with its last change others are left, or it has ended; of one that does not end so no other record joined the log.
  abbrev pub MadeBeside : (ends : Bool) (s : Writer) (e t : ℕ) (beside : Beside) (old : D) (w : PageWriter) (disk : D) → Undone → Type 0
  MadeBeside true s e t beside old w disk (More l n) = HasMoreBeside s e t l n beside old w disk
  MadeBeside true s e t beside old w disk Ended = HasEndedBeside s e t beside old w disk
  MadeBeside false s e t beside old w disk (More l n) = TookBeside s e t l n beside old w disk
  MadeBeside false s e t beside old w disk Ended = ⊥

  abbrev pub TurnedBeside : (ends : Bool) (s : Writer) (e t last undo_next : ℕ) (beside : Beside) (old : D) (w : PageWriter) (disk : D) → UndoneBeside → Type 0
  TurnedBeside ends s e t last undo_next beside old w disk (Made undone) = MadeBeside ends s e t beside old w disk undone
  TurnedBeside ends s e t last undo_next beside old w disk (Splits change) = MustSplitFirst s e t last undo_next beside change old w disk
  TurnedBeside ends s e t last undo_next beside old w disk (Drops change l n) = MustDropBehind s e t l n beside change old w disk

  -- What a turn keeps. Refused `Memory` it leaves all as it was, and only a structure change wants it, beside none; `Capacity` comes only where page numbers or levels are used up too; `Failed` never.
  pub record TurnBesideKept (ends : Bool) (s : Writer) (e t last undo_next : ℕ) (beside : Beside) (old : D) (w : PageWriter) (disk : D) (result : Result (Sight UndoneBeside) Fault) : Type 0 where
    pub sound : IsSound result (IfSeen (TurnedBeside ends s e t last undo_next beside old w disk) (IsHiddenBack s t beside old w disk))
    pub stops : LeavesUndo d b base s t old disk
    pub again : IfErr result (λ e. e ≡ Memory → Evicted d b base s old w disk)
    pub short : IfErr result (λ e. e ≡ Memory → NeedsChangeBack s t)
    pub used_up : IfErr result (λ e. e ≡ Capacity → HasNoWayBack s t)
    pub alone : IfErr result (λ e. (e ≡ Memory) ⊎ (e ≡ Capacity) → beside.pages.now ≡ [])
    pub early : IfErr result (λ e. e ≡ Failed → ⊥)
