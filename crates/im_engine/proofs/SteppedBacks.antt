-- A change that is taken back in a store whose structure changes are made page by page: its records in the words of steps, and beside the structure change of another.
use Rattle.std.proofs.Common.{◌≡◌, ◌≢◌, ◌⊎◌, inl, inr, ℕ, ◌≤◌, List, [], ◌∷◌, Bool, true, false, Option, Some, None, refl, sym, ap, subst, ◌∙◌, arith}
use Rattle.std.specs.Prelude.{cond, find, is_some, take, ◌==◌}
use Rattle.std.specs.List.{list_any}
use Rattle.std.proofs.lemmas.Bool.{cond-false, ne_eqb}
use Rattle.im_base_types.specs.Answers.{Continue}
use Rattle.im_base_txn.specs.Rows.{is_of}
use Rattle.im_base_txn.specs.declared.transaction.Transaction.{Transaction}
use Rattle.im_base_types.specs.Changes.{Change}
use Rattle.im_base_types.specs.Records.{What, InsertKey, DeleteKey, UndoInsert, UndoDelete, Smo, UndoSmo, DummyClr, Commit, End, Image, Checkpoint, Unreadable, Logged}
use Rattle.im_theory_log.specs.Histories.{Base, History}
use Rattle.im_theory_log.specs.Lawful.{IsLawful}
use Rattle.im_theory_log.specs.Structure.{open_smo}
use Rattle.im_theory_log.specs.Transactions.{contents, last_of, undo_next_of}
use Rattle.im_theory_log.specs.Writer.{Writer}
use Rattle.im_base_disk.specs.declared.disk.Disk.{Ghosts}
use Rattle.im_log_record.specs.Entry as entries
use Rattle.im_log_record.specs.Entry.{Entry, prev_of}
use Rattle.im_log.specs.Whats.{what_of}
use Rattle.im_log.specs.Spelled.{logged_at}
use Rattle.im_page_writer.specs.declared.page_writer.PageWriter.{PageWriter}
use Rattle.im_theory_tree.specs.Good.{AllOf}
use Rattle.im_theory_tree.specs.Theory.{page_tree}
use Rattle.im_tree_search.specs.declared.change_beside.Beside.{Beside}
use Rattle.im_tree_search.specs.Sights.{is_done}
use Rattle.im_smo_pages.specs.Images.{Numbered}
use Rattle.im_smo_pages.specs.OnWay.{IsApart}
use Rattle.im_smo_log.specs.BetweenSteps.{AreBeside}
use Rattle.im_smo_log.specs.Under.{is_structural}
use Rattle.im_smo_actions.specs.GoingBeside.{is_planned}
use Rattle.im_restart_analysis.specs.Undo.{IsNext}
use Rattle.im_restart_analysis.specs.declared.rows.Loser.{Loser}
use Rattle.im_restart_undo.specs.declared.back.Back.{Back}
use Rattle.im_restart_undo.specs.declared.back.Back.TheVariants.{Plain}
use Rattle.im_restart_undo.specs.GoingBeside.{IsAsPlanned, TakenBeside}
use Rattle.im_restart_undo.specs.Records.{IsOfUndo, GrowsByUndo}
use Rattle.im_restart_undo.specs.Undoing.{IsToUndo}
use Rattle.im_theory_machine.specs.View as views
use Rattle.im_theory_machine.specs.View.{owner_of, owns_in, pending_for, pending_of}
use Rattle.im_theory_steps.specs.Checks.{checked_by}
use Rattle.im_theory_steps.specs.Undone.{UndoesNewest}
use Rattle.im_engine.specs.declared.stepped.Aim.{Aim}
use Rattle.im_engine.specs.declared.stepped.Under.{Under}
use Rattle.im_engine.specs.Aims.{IsBesideOf, IsChanging, IsGoing, aim_of, owned, under_of}
use Rattle.im_engine.specs.Growing.{TakesAlone, TakesOneBack}
use Rattle.im_engine.specs.TurningBack.{EndsBack, aim_back}
use Rattle.im_engine.proofs.GoingOn.{others_go}
use Rattle.im_engine.proofs.SteppedLogs.{none_of}
use Rattle.im_engine.proofs.Turning.{continue_found, made_by, undo_grows}

-- ---- who may go on

-- one that has no structure change under way has no access that goes on
pub pending_other : (u : Option views.Under) (t : ℕ) → owner_of u ≢ Some t → pending_of u t ≡ None
pending_other None t other = refl
pending_other (Some u) t other = cond-false (u.owner == t) (pending_for u.aim) None (ne_eqb u.owner t (λ e. other (ap (λ (n : ℕ). Some n) e)))

pub owns_other : (u : Option views.Under) (t : ℕ) → owner_of u ≢ Some t → owns_in u (Continue t) ≡ false
owns_other u t other = ap (λ (o : Option _). is_some o) (pending_other u t other)

-- nor has one whose change is of a rollback
pub owns_back : (u : views.Under) (t : ℕ) → pending_for u.aim ≡ None → owns_in (Some u) (Continue t) ≡ false
owns_back u t none = by (u.owner == t)
  where
    by : (b : Bool) → is_some (cond b (pending_for u.aim) None) ≡ false
    by true = ap (λ (o : Option _). is_some o) none
    by false = refl

-- ---- what is told of a change beside

pub same_done : (one two : Beside) → one.pages.now ≡ two.pages.now → one.done ≡ two.done → (p : ℕ) → is_done one p ≡ is_done two p
same_done one two pages done p = λ i. list_any (λ (q : ℕ). q == p) (take (done i) (pages i))

pub same_planned : (one two : Beside) → one.pages.now ≡ two.pages.now → (p : ℕ) → is_planned one p ≡ is_planned two p
same_planned one two pages p = ap (λ (ps : List ℕ). list_any (λ (q : ℕ). q == p) ps) pages

-- ---- what is logged beside the change of another

owned_by : (t : ℕ) (r : Logged) (w : What) → IsOfUndo t r w → (r.txn ≡ t) ⊎ (r.txn ≡ 0)
owned_by t r (UndoInsert k i) own = inl own
owned_by t r (UndoDelete k i) own = inl own
owned_by t r (Smo was now) own = inl own
owned_by t r DummyClr own = inl own
owned_by t r (Image c) own = inr own
owned_by t r (InsertKey k i) own = absurd own
owned_by t r (DeleteKey k i) own = absurd own
owned_by t r (UndoSmo now) own = absurd own
owned_by t r Commit own = absurd own
owned_by t r End own = absurd own
owned_by t r (Checkpoint n a dirty) own = absurd own
owned_by t r Unreadable own = absurd own

not_by : (t owner : ℕ) (r : Logged) → owner ≢ t → owner ≢ 0 → (r.txn ≡ t) ⊎ (r.txn ≡ 0) → r.txn ≢ owner
not_by t owner r other some (inl own) = λ is. other (sym is ∙ own)
not_by t owner r other some (inr none) = λ is. some (sym is ∙ none)

turn_beside : (t owner p : ℕ) (images : List Numbered) (more : History) → AllOf (λ (r : Logged). IsOfUndo t r r.what) more → AllOf (IsAsPlanned (Plain p)) more → owner ≢ t → owner ≢ 0 → IsApart images p → AreBeside owner images more
turn_beside t owner p images [] mine planned other some apart = tt
turn_beside t owner p images (r ∷ more) mine planned other some apart = (
  record {
    other = not_by t owner r other some (owned_by t r r.what mine.0);
    plain = planned.0.0;
    apart = λ changes. subst (λ (q : ℕ). IsApart images q) (sym (planned.0.1 changes)) apart;
  },
  turn_beside t owner p images more mine.1 planned.1 other some apart,
)

-- the owner of a change is some transaction
pub owner_some : (u : Under) → u.begun.change.transaction ≢ 0
owner_some u none = let some : 1 ≤ u.begun.change.transaction = u.begun.change.owned in absurd (omega (arith, some, none))

not_owner : (u : Under) (t : ℕ) → owner_of (under_of (Some u)) ≢ Some t → u.begun.change.transaction ≢ t
not_owner u t other is = other (ap (λ (n : ℕ). Some n) is)

-- a compensation on a page of its own leaves the change of another under way
pub turn_changing : (b : Base) (under : Option Under) (beside : Beside) (t p : ℕ) (older longer : History) (grows : GrowsByUndo t older longer) → IsBesideOf under beside → is_planned beside p ≡ false → AllOf (IsAsPlanned (Plain p)) grows.more → owner_of (under_of under) ≢ Some t
    → open_smo longer ≡ open_smo older → IsLawful b page_tree longer → IsChanging b under older → IsChanging b under longer
turn_changing b None beside t p older longer grows is clear planned other same law changing = same ∙ changing
turn_changing b (Some u) beside t p older longer grows is clear planned other same law changing =
    subst (λ (l : History). IsGoing b u l) (sym grows.is)
    (others_go b u grows.more older changing (subst (λ (l : History). IsLawful b page_tree l) grows.is law)
    (turn_beside t u.begun.change.transaction p u.begun.change.images grows.more grows.all planned (not_owner u t other) (owner_some u) (none_of u.begun.change.images p (ap (λ (ps : List ℕ). list_any (λ (q : ℕ). q == p) ps) (sym is.pages) ∙ clear))))

-- and so does the End after it
pub end_changing : (b : Base) (under : Option Under) (t lsn last : ℕ) (older : History) → owner_of (under_of under) ≢ Some t → IsLawful b page_tree (logged_at lsn (entries.End t last) ∷ older) → IsChanging b under older → IsChanging b under (logged_at lsn (entries.End t last) ∷ older)
end_changing b None t lsn last older other law changing = changing
end_changing b (Some u) t lsn last older other law changing =
    others_go b u (logged_at lsn (entries.End t last) ∷ []) older changing law (record { other = λ is. not_owner u t other (sym is); plain = refl; apart = λ changes. absurd (cc changes) }, tt)

-- ---- one change that is taken back

module _ {D : Type 0} (d : Ghosts D) (b : Base) (base : ℕ) (s : Writer) (e t : ℕ) (entry : Entry) (to : IsToUndo d b base s t entry) (back : Back) (last : ℕ) (old : D) (w : PageWriter) (disk : D) (taken : TakenBeside d b base s e t entry back last old w disk) where
  pub change_back : Change
  change_back = (made_by (what_of entry) to.next.key).0

  -- by its compensation
  pub taken_newest : UndoesNewest b t change_back s.log taken.now.log
  unfolding change_back
  taken_newest =
      let made = made_by (what_of entry) to.next.key in
      record {
        grows = undo_grows t s.log taken.now.log taken.grows;
        newest = logged_at taken.lsn entry;
        made = made.1;
        stack = taken.stack;
        walk = taken.map ∙ made.2 (contents b s.log);
      }

  -- after which its row says so
  pub taken_last : last_of t taken.now.log ≡ last
  taken_last = ap (λ (x : Loser). x.last) taken.going.row

  pub taken_next : undo_next_of t taken.now.log ≡ prev_of entry
  taken_next = ap (λ (x : Loser). x.undo_next) taken.going.row

  pub takes_one : TakesOneBack t s.log taken.now.log
  takes_one = record { grows = taken.grows; once = taken.once }

plain_records : (p : ℕ) (more : History) → AllOf (IsAsPlanned (Plain p)) more → AllOf (λ (r : Logged). is_structural r.what ≡ false) more
plain_records p [] all = tt
plain_records p (r ∷ more) all = (all.0.0, plain_records p more all.1)

-- with no record of a structure change
pub takes_alone : {D : Type 0} (d : Ghosts D) (b : Base) (base : ℕ) (s : Writer) (e t : ℕ) (entry : Entry) (p last : ℕ) (old : D) (w : PageWriter) (disk : D) → (taken : TakenBeside d b base s e t entry (Plain p) last old w disk) → TakesAlone t s.log taken.now.log
takes_alone d b base s e t entry p last old w disk taken = record { one = record { grows = taken.grows; once = taken.once }; plain = plain_records p taken.grows.more taken.planned }

-- ---- which record it is

-- what is undone next is one record
pub next_same : {D : Type 0} (d : Ghosts D) (b : Base) (base : ℕ) (s : Writer) (t : ℕ) (entry : Entry) (to : IsToUndo d b base s t entry) (found : Logged) → IsNext t s.log found → found ≡ logged_at to.lsn entry
next_same d b base s t entry to found next =
    let stacks : found ∷ next.rest ≡ logged_at to.lsn entry ∷ to.next.rest = sym next.stack ∙ to.next.stack in
    let same : found ≡ logged_at to.lsn entry = cc stacks in
    same

-- ---- who goes on

-- a Continue that was let through with no access of its own names a transaction of the table
pub continue_row : (rows : List Transaction) (t : ℕ) → checked_by rows false (Continue t) ≡ None → (row : Transaction) × (find (is_of t) rows ≡ Some row)
continue_row rows t is = by (find (is_of t) rows) refl
  where
    by : (o : Option Transaction) → find (is_of t) rows ≡ o → (row : Transaction) × (find (is_of t) rows ≡ Some row)
    by None none = absurd (continue_found rows t none is)
    by (Some row) some = (row, some)

-- whose change is another's passes the check of its mark alone
pub other_checked : (rows : List Transaction) (u : Option views.Under) (t : ℕ) → owner_of u ≢ Some t → checked_by rows (owns_in u (Continue t)) (Continue t) ≡ None → checked_by rows false (Continue t) ≡ None
other_checked rows u t other is = subst (λ (o : Bool). checked_by rows o (Continue t) ≡ None) (owns_other u t other) is

-- and so does one whose own is of a rollback
pub ends_free : (splits : Bool) (t : ℕ) (under : Option Under) → EndsBack splits t under → owns_in (under_of under) (Continue t) ≡ false
ends_free splits t under ends = ap (λ (u : Option Under). owns_in (under_of u) (Continue t)) ends.is ∙ owns_back (owned ends.u) t (ap (λ (a : Aim). pending_for (aim_of a)) ends.aim_is ∙ none splits)
  where
    none : (is : Bool) → pending_for (aim_of (aim_back is)) ≡ None
    none true = refl
    none false = refl

pub ends_checked : (rows : List Transaction) (splits : Bool) (t : ℕ) (under : Option Under) → EndsBack splits t under → checked_by rows (owns_in (under_of under) (Continue t)) (Continue t) ≡ None → checked_by rows false (Continue t) ≡ None
ends_checked rows splits t under ends is = subst (λ (o : Bool). checked_by rows o (Continue t) ≡ None) (ends_free splits t under ends) is
