-- What the records of an undo leave as it was.
use Rattle.std.proofs.Common.{◌≡◌, ◌≢◌, ℕ, false, List, [], ◌∷◌, ◌++◌, refl, sym, ap, subst, ◌∙◌, ◌==◌}
use Rattle.std.specs.Prelude.{◌||◌}
use Rattle.std.proofs.lemmas.Bool.{cond-false, ne_eqb}
use Rattle.im_base_types.specs.Changes.{Effect}
use Rattle.im_base_types.specs.Records.{What, InsertKey, DeleteKey, UndoInsert, UndoDelete, Smo, UndoSmo, DummyClr, Commit, End, Image, Checkpoint, Unreadable, Logged}
use Rattle.im_theory_log.specs.Histories.{History}
use Rattle.im_theory_log.specs.Transactions.{committed, committed_after, is_end, is_finished, last_of, net, stack_after, to_undo, undo_from, undo_next_of}
use Rattle.im_theory_tree.specs.Good.{AllOf}
use Rattle.im_smo_log.specs.Changes.{IsSameOf}
use Rattle.im_restart_undo.specs.Records.{IsOfUndo, GrowsByUndo}

-- none of them is a Commit
same_committed : (t : ℕ) (r : Logged) (w : What) (e : Effect) (es : List Effect) → IsOfUndo t r w → committed_after w e es ≡ es
same_committed t r (UndoInsert k i) e es is = refl
same_committed t r (UndoDelete k i) e es is = refl
same_committed t r (Smo was now) e es is = refl
same_committed t r DummyClr e es is = refl
same_committed t r (Image c) e es is = refl
same_committed t r (InsertKey k i) e es is = absurd is
same_committed t r (DeleteKey k i) e es is = absurd is
same_committed t r (UndoSmo now) e es is = absurd is
same_committed t r Commit e es is = absurd is
same_committed t r End e es is = absurd is
same_committed t r (Checkpoint n a dirty) e es is = absurd is
same_committed t r Unreadable e es is = absurd is

more_committed : (t : ℕ) (more older : History) → AllOf (λ (r : Logged). IsOfUndo t r r.what) more → committed (more ++ older) ≡ committed older
more_committed t [] older all = refl
more_committed t (r ∷ more) older all = same_committed t r r.what (net r.txn (more ++ older)) (committed (more ++ older)) all.0 ∙ more_committed t more older all.1

pub undo_committed : (t : ℕ) (older longer : History) → GrowsByUndo t older longer → committed longer ≡ committed older
undo_committed t older longer grows = ap committed grows.is ∙ more_committed t grows.more older grows.all

-- no other transaction wrote one of them
other_owner : (t u : ℕ) (r : Logged) (w : What) → u ≢ 0 → u ≢ t → IsOfUndo t r w → r.txn ≡ u → ⊥
other_owner t u r (UndoInsert k i) some other is e = other (sym e ∙ is)
other_owner t u r (UndoDelete k i) some other is e = other (sym e ∙ is)
other_owner t u r (Smo was now) some other is e = other (sym e ∙ is)
other_owner t u r DummyClr some other is e = other (sym e ∙ is)
other_owner t u r (Image c) some other is e = some (sym e ∙ is)
other_owner t u r (InsertKey k i) some other is e = absurd is
other_owner t u r (DeleteKey k i) some other is e = absurd is
other_owner t u r (UndoSmo now) some other is e = absurd is
other_owner t u r Commit some other is e = absurd is
other_owner t u r End some other is e = absurd is
other_owner t u r (Checkpoint n a dirty) some other is e = absurd is
other_owner t u r Unreadable some other is e = absurd is

more_others : (t u : ℕ) (more older : History) → u ≢ 0 → u ≢ t → AllOf (λ (r : Logged). IsOfUndo t r r.what) more → IsSameOf u older (more ++ older)
more_others t u [] older some other all = record { last = refl; undo = refl; stack = refl; finished = refl }
more_others t u (r ∷ more) older some other all =
    let rest = more_others t u more older some other all.1 in
    let not : (r.txn == u) ≡ false = ne_eqb r.txn u (other_owner t u r r.what some other all.0) in
    let log : History = more ++ older in
    record {
      last = cond-false (r.txn == u) r.lsn (last_of u log) not ∙ rest.last;
      undo = cond-false (r.txn == u) (undo_from r r.what) (undo_next_of u log) not ∙ rest.undo;
      stack = cond-false (r.txn == u) (stack_after r r.what (to_undo u log)) (to_undo u log) not ∙ rest.stack;
      finished = cond-false (r.txn == u) (is_end r.what || is_finished u log) (is_finished u log) not ∙ rest.finished;
    }

pub undo_others : (t u : ℕ) (older longer : History) → u ≢ 0 → u ≢ t → GrowsByUndo t older longer → IsSameOf u older longer
undo_others t u older longer some other grows = subst (IsSameOf u older) (sym grows.is) (more_others t u grows.more older some other grows.all)
