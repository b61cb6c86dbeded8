-- How the log stands, and what is kept, where a structure change of another transaction may be open.
use Rattle.std.specs.Prelude.{◌≡◌, ◌≢◌, ◌≤◌, ℕ, true, false, List, [], ◌∷◌, length, Some, Result, IfErr}
use Rattle.im_base_types.specs.declared.fault.Fault.{Fault}
use Rattle.im_base_types.specs.declared.fault.Fault.TheVariants.{Failed, Memory}
use Rattle.im_base_types.specs.Maps.{with_key, without_key}
use Rattle.im_base_types.specs.Pages.{Entry}
use Rattle.im_base_types.specs.Records.{What, InsertKey, DeleteKey, Logged}
use Rattle.im_theory_log.specs.Histories.{Base, IsFront, changes_page}
use Rattle.im_theory_log.specs.Lawful.{IsLawful, IsOutside}
use Rattle.im_theory_log.specs.Structure.{open_smo, settled}
use Rattle.im_theory_log.specs.Transactions.{to_undo, contents, contents_after, is_finished}
use Rattle.im_theory_log.specs.Writer.{Writer}
use Rattle.im_base_disk.specs.declared.disk.Disk.{Ghosts}
use Rattle.im_log_record.specs.Entry.{Entry as Said, prev_of}
use Rattle.im_log.specs.Whats.{what_of}
use Rattle.im_log.specs.Spelled.{logged_at}
use Rattle.im_page_writer.specs.declared.page_writer.PageWriter.{PageWriter}
use Rattle.im_page_writer.specs.PageWriter.{StandsAs}
use Rattle.im_page_writer.specs.Outcome.{AllPages, IsSound}
use Rattle.im_theory_tree.specs.Levels.{Pages}
use Rattle.im_theory_tree.specs.Good.{AllOf, IsGoodTree}
use Rattle.im_theory_tree.specs.Theory.{page_tree}
use Rattle.im_theory_tree.specs.Ways.{with_leaf}
use Rattle.im_tree_search.specs.declared.change_beside.Beside.{Beside}
use Rattle.im_tree_search.specs.Levels.{bodies_of}
use Rattle.im_smo_log.specs.Under.{is_structural}
use Rattle.im_smo_actions.specs.GoingBeside.{is_planned, settled_pages, IsToldOf}
use Rattle.im_restart_analysis.specs.Losers.{row_of}
use Rattle.im_restart_undo.specs.declared.back.Back.{Back}
use Rattle.im_restart_undo.specs.declared.back.Back.TheVariants.{Plain, Split, Drop}
use Rattle.im_restart_undo.specs.Planning.{IsBack, IsLeafOf, IsOutOf, NeedsChange}
use Rattle.im_restart_undo.specs.Records.{GrowsByUndo, compensations, inverse_of}
use Rattle.im_restart_undo.specs.Undoing.{HasBegun, LeavesUndo}

-- the record is as planned: where no change of the structure is, it is none of one, and changes no other page than this
abbrev pub IsAsPlanned : Back → Logged → Type 0
IsAsPlanned (Plain p) r = (is_structural r.what ≡ false) × (changes_page r.what ≡ true → r.page ≡ p)
IsAsPlanned (Split plan) r = Unit {0}
IsAsPlanned (Drop p images) r = Unit {0}

-- the entries of a leaf after the compensation of a record on it
abbrev pub entries_behind : What → List Entry → List Entry
entries_behind (InsertKey k i) es = without_key k es
entries_behind (DeleteKey k i) es = with_key k i es
entries_behind _ es = es

-- where the compensation is all, its leaf alone is another
abbrev pub HasLeafBehind : Back → What → Pages → Pages → Type 0
HasLeafBehind (Plain p) w old new = with_leaf old p (entries_behind w (old p).entries) ≡ new
HasLeafBehind (Split plan) w old new = Unit {0}
HasLeafBehind (Drop p images) w old new = Unit {0}

-- the split of a leaf is in the plan
abbrev pub HasSplit : Back → Type 0
HasSplit (Plain p) = ⊥
HasSplit (Split plan) = Unit {0}
HasSplit (Drop p images) = ⊥

-- a structure change is in the plan
abbrev pub HasChange : Back → Type 0
HasChange (Plain p) = ⊥
HasChange (Split plan) = Unit {0}
HasChange (Drop p images) = Unit {0}

module _ {D : Type 0} (d : Ghosts D) (b : Base) (base : ℕ) where
  -- Redo is over, the log lawful, and the open structure change, if there is one, another's; the transaction is not finished, its records end at this LSN, and its undo goes on at this one.
  pub record IsGoingBeside (s : Writer) (e t last undo_next : ℕ) (w : PageWriter) (disk : D) : Type 0 where
    pub stands : StandsAs d b base s w disk
    pub over : s.redo_end ≡ Some e
    pub lawful : IsLawful b page_tree s.log
    pub outside : IsOutside t (open_smo s.log)
    pub owner : 1 ≤ t
    pub unfinished : is_finished t s.log ≡ false
    pub row : row_of t s.log ≡ record { last = last; undo_next = undo_next }

  -- It is taken back by one compensation, as planned: the transaction has one record less to undo, its undo goes on where that one leads, the tree's map lacks its change alone, and the open structure change is as it was.
  pub record TakenBeside (s : Writer) (e t : ℕ) (entry : Said) (back : Back) (last : ℕ) (old : D) (w : PageWriter) (disk : D) : Type 0 where
    pub now : Writer
    pub going : IsGoingBeside now e t last (prev_of entry) w disk
    pub point : now.point ≡ s.point
    pub durable : IsFront s.durable now.durable
    pub grows : GrowsByUndo t s.log now.log
    pub stops : LeavesUndo d b base s t old disk
    pub lsn : ℕ
    pub stack : to_undo t s.log ≡ logged_at lsn entry ∷ to_undo t now.log
    pub map : contents b now.log ≡ contents_after (inverse_of (what_of entry)) (contents b s.log)
    pub once : length (compensations grows.more) ≡ 1
    pub going_on : open_smo now.log ≡ open_smo s.log
    pub planned : AllOf (IsAsPlanned back) grows.more
    pub pages : HasLeafBehind back (what_of entry) (settled b s.log) (settled b now.log)

  -- What that keeps. It is refused `Memory` only for a split, with all as it was, and `Failed` after a record of the transaction.
  pub record BackKept (s : Writer) (e t : ℕ) (entry : Said) (back : Back) (old : D) (w : PageWriter) (disk : D) (result : Result ℕ Fault) : Type 0 where
    pub sound : IsSound result (λ last. TakenBeside s e t entry back last old w disk)
    pub stops : LeavesUndo d b base s t old disk
    pub short : IfErr result (λ e. e ≡ Memory → HasSplit back)
    pub begun : IfErr result (λ e. e ≡ Failed → HasBegun d b base s t w disk)

-- ---- where a plan may be logged

-- What was planned beside the change that is told of may be logged.
abbrev pub PlansMayBeLogged : Type 0
PlansMayBeLogged = (b : Base) (s : Writer) (beside : Beside) (w : What) (back : Back) → IsToldOf b beside s.log → IsBack (settled_pages b s) beside w back → IsOutOf (open_smo s.log) back

-- Where the key's leaf is one of the change beside, or a change is needed beside it, nothing can be planned.
abbrev pub BarredPlansAreHidden : Type 0
BarredPlansAreHidden = (pages : AllPages) (beside : Beside) (w : What) (back : Back) → IsGoodTree (bodies_of pages) [] → IsBack pages beside w back
    → ((leaf : ℕ) → IsLeafOf (bodies_of pages) w leaf → is_planned beside leaf ≡ true → ⊥) × (beside.pages.now ≢ [] → NeedsChange (bodies_of pages) w → ⊥)
