-- A transaction all of whose changes are taken back, and that ends with its End.
use Rattle.std.proofs.Common.{◌≡◌, ◌≢◌, ◌≤◌, ◌<◌, ℕ, Bool, true, false, inl, inr, [], ◌∷◌, ◌++◌, refl, sym, ◌∙◌, ap, subst}
use Rattle.std.specs.Prelude.{◌==◌, ◌||◌, if◌then◌else◌}
use Rattle.im_base_types.specs.Changes.{Effect}
use Rattle.im_base_types.specs.Records.{What, InsertKey, DeleteKey, UndoInsert, UndoDelete, Smo, UndoSmo, DummyClr, Commit as CommitRecord, End, Image, Checkpoint, Unreadable, Logged}
use Rattle.im_base_txn.specs.declared.transaction.Mark.TheVariants.{Going}
use Rattle.im_base_txn.specs.declared.transaction.Transaction.{Transaction}
use Rattle.im_theory_log.specs.Tree.{Tree, TreeLaws}
use Rattle.im_theory_log.specs.Histories.{History, Base, end_of}
use Rattle.im_theory_log.specs.Lawful.{Follows, IsLawful, IsOutside}
use Rattle.im_theory_log.specs.LogLaws.{NoSmo}
use Rattle.im_theory_log.specs.Structure.{open_smo}
use Rattle.im_theory_log.specs.Transactions.{change_of, changes_of, is_finished, is_key, is_smo, last_of, net, rest_of, stack_after, to_undo, without_smo}
use Rattle.im_theory_log.proofs.LogLaws.{logs_stay_lawful}
use Rattle.im_theory_log.proofs.OpenSmo.{not_part, split}
use Rattle.im_theory_machine.proofs.Cited.{cases_number}
use Rattle.im_theory_steps.specs.Growth.{Stays, IsOfOthers}
use Rattle.im_theory_steps.specs.Serving.{IsRow}
use Rattle.im_theory_steps.specs.Steps.{EmptyCommitsAreServed, EmptyRollbacksAreServed, end_record}
use Rattle.im_theory_steps.proofs.Growth.{same_by}
use Rattle.im_theory_steps.proofs.Rows.{none_stands}
use Rattle.im_theory_steps.proofs.Steps.{at, either_free, empty_commits, empty_rollbacks, mark_free}
use Rattle.im_theory_steps.proofs.Undone.{end_commits, end_over, end_stack, end_walk}

-- ---- what is left to undo

-- each is a record of a key, or of a page of a structure change
abbrev AreChanges : History → Type 0
AreChanges [] = Unit {0}
AreChanges (s ∷ rest) = ((is_key s.what || is_smo s.what) ≡ true) × AreChanges rest

changes_rest : (stack : History) → AreChanges stack → AreChanges (rest_of stack)
changes_rest [] ok = tt
changes_rest (s ∷ rest) ok = ok.1

changes_plain : (stack : History) → AreChanges stack → AreChanges (without_smo stack)
changes_plain [] ok = tt
changes_plain (s ∷ rest) ok = by (is_smo s.what) (changes_plain rest ok.1)
  where
    by : (b : Bool) → AreChanges (without_smo rest) → AreChanges (if b then without_smo rest else s ∷ rest)
    by true later = later
    by false later = ok

changes_after : (r : Logged) (w : What) → r.what ≡ w → (stack : History) → AreChanges stack → AreChanges (stack_after r w stack)
changes_after r (InsertKey k i) is stack ok = (ap (λ (w : What). is_key w || is_smo w) is, ok)
changes_after r (DeleteKey k i) is stack ok = (ap (λ (w : What). is_key w || is_smo w) is, ok)
changes_after r (Smo was now) is stack ok = (ap (λ (w : What). is_key w || is_smo w) is, ok)
changes_after r (UndoInsert k i) is stack ok = changes_rest stack ok
changes_after r (UndoDelete k i) is stack ok = changes_rest stack ok
changes_after r (UndoSmo now) is stack ok = changes_rest stack ok
changes_after r DummyClr is stack ok = changes_plain stack ok
changes_after r CommitRecord is stack ok = tt
changes_after r End is stack ok = tt
changes_after r (Image c) is stack ok = ok
changes_after r (Checkpoint n a d) is stack ok = ok
changes_after r Unreadable is stack ok = ok

are_changes : (t : ℕ) (log : History) → AreChanges (to_undo t log)
are_changes t [] = tt
are_changes t (r ∷ older) = by (r.txn == t) (are_changes t older)
  where
    by : (b : Bool) → AreChanges (to_undo t older) → AreChanges (if b then stack_after r r.what (to_undo t older) else to_undo t older)
    by true rest = changes_after r r.what refl (to_undo t older) rest
    by false rest = rest

-- none is left where none is of a structure change, and they make no change
makes_one : (w : What) (rest : Effect) → is_smo w ≡ false → (is_key w || is_smo w) ≡ true → change_of w ++ rest ≢ []
makes_one (InsertKey k i) rest plain is none = cc none
makes_one (DeleteKey k i) rest plain is none = cc none
makes_one (Smo was now) rest plain is none = cc plain
makes_one (UndoInsert k i) rest plain is none = cc is
makes_one (UndoDelete k i) rest plain is none = cc is
makes_one (UndoSmo now) rest plain is none = cc is
makes_one DummyClr rest plain is none = cc is
makes_one CommitRecord rest plain is none = cc is
makes_one End rest plain is none = cc is
makes_one (Image c) rest plain is none = cc is
makes_one (Checkpoint n a d) rest plain is none = cc is
makes_one Unreadable rest plain is none = cc is

none_of : (stack : History) → NoSmo stack → AreChanges stack → changes_of stack ≡ [] → stack ≡ []
none_of [] plain ok none = refl
none_of (s ∷ rest) plain ok none = absurd (makes_one s.what (changes_of rest) plain.0 ok.0 none)

-- A transaction that has no change left, and no structure change open, has nothing left to undo.
pub nothing_to_undo : (b : Base) (tree : Tree) (log : History) (t : ℕ) → IsLawful b tree log → IsOutside t (open_smo log) → net t log ≡ [] → to_undo t log ≡ []
nothing_to_undo b tree log t law out none =
    let s = split b tree log t law in
    let is : to_undo t log ≡ s.bottom = s.is ∙ ap (λ (l : History). l ++ s.bottom) (not_part t (open_smo log) out) in
    is ∙ none_of s.bottom s.plain (subst AreChanges is (are_changes t log)) (ap changes_of (sym is) ∙ none)

-- ---- its End

-- leaves what is committed, the map, the nets and the others
pub end_leaves : (b : Base) (t : ℕ) (older : History) (last : Logged) → last.txn ≡ t → last.what ≡ End → net t older ≡ [] → Stays b older (last ∷ older) × IsOfOthers t older (last ∷ older)
end_leaves b t older last mine is none = (
  record {
    commits = end_commits b t older last mine is;
    walk = end_walk b t older last mine is;
    nets = λ u. elim (cases_number u t) [
      | inl same ↦ ap (λ (n : ℕ). net n (last ∷ older)) same ∙ ap changes_of (end_stack b t older last mine is) ∙ sym none ∙ ap (λ (n : ℕ). net n older) (sym same)
      | inr differ ↦ ap changes_of (others u differ).stack
    ];
  },
  others,
)
  where
    others : IsOfOthers t older (last ∷ older)
    others u differ = same_by u last older (λ e. differ (sym e ∙ mine))

module _ (tree : Tree) (laws : TreeLaws tree) (b : Base) (older : History) (t next lsn : ℕ) (row : Transaction) (is : row.number ≡ t) (r : IsRow row next older) (law : IsLawful b tree older) (out : IsOutside t (open_smo older)) (rises : end_of b older < lsn) (none : net t older ≡ []) where
  pub end_lawful : IsLawful b tree (end_record t row.last lsn ∷ older)
  end_lawful =
      let newest = end_record t row.last lsn in
      let follows : Follows b tree newest older = record {
        rises = rises;
        chained = λ owned. record {
          number = subst (λ (n : ℕ). 1 ≤ n) is r.number;
          prev = r.last ∙ ap (λ (n : ℕ). last_of n older) is;
          unfinished = ap (λ (n : ℕ). is_finished n older) (sym is) ∙ r.unfinished;
        };
        may = record { no_undo_next = refl; nothing_left = nothing_to_undo b tree older t law out none };
      } in
      logs_stay_lawful tree laws b older newest law follows (λ e. absurd cc)

pub empty_commits_served : (tree : Tree) → TreeLaws tree → EmptyCommitsAreServed tree
empty_commits_served tree laws b earlier before s v older rows next old new t lsn row h found mark count free law out rises released once =
    let at_row = at b earlier before s v older rows next old h t row found (mark_free row.mark Going mark (λ x. cc x)) in
    let none = none_stands t next older row at_row.0 at_row.1 count in
    let last = end_record t row.last lsn in
    let on = end_leaves b t older last refl refl none in
    record {
      lawful = end_lawful tree laws b older t next lsn row at_row.0 at_row.1 law out rises none;
      served = empty_commits b earlier before s v older (last ∷ older) rows next old new t row h found mark free on.0 on.1 (end_over b t older last refl refl) (end_stack b t older last refl refl) released once;
    }

pub empty_rollbacks_served : (tree : Tree) → TreeLaws tree → EmptyRollbacksAreServed tree
empty_rollbacks_served tree laws b earlier before s v older rows next old new t lsn row h found mark count free law out rises released once =
    let at_row = at b earlier before s v older rows next old h t row found (either_free row.mark mark) in
    let none = none_stands t next older row at_row.0 at_row.1 count in
    let last = end_record t row.last lsn in
    let on = end_leaves b t older last refl refl none in
    record {
      lawful = end_lawful tree laws b older t next lsn row at_row.0 at_row.1 law out rises none;
      served = empty_rollbacks b earlier before s v older (last ∷ older) rows next old new t row h found mark free on.0 on.1 (end_over b t older last refl refl) (end_stack b t older last refl refl) released once;
    }
