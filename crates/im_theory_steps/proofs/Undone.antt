-- What taking back one change leaves of a log, and the steps that do so.
use Rattle.std.proofs.Common.{◌≡◌, ◌≤◌, suc, ℕ, false, inl, inr, [], ◌∷◌, ◌++◌, length, sym, ◌∙◌, ap, subst, arith}
use Rattle.std.specs.Prelude.{◌==◌, ◌||◌, if◌then◌else◌}
use Rattle.std.proofs.lemmas.Bool.{cases_lt, eq-eqb, cond-true}
use Rattle.im_base_types.specs.Changes.{Change, Effect}
use Rattle.im_base_types.specs.Records.{What, End, Logged}
use Rattle.im_theory_log.specs.Histories.{History, Base}
use Rattle.im_theory_log.specs.Transactions.{changes_of, committed, committed_after, contents, contents_after, net, is_end, is_finished, last_of, undo_next_of, stack_after, to_undo}
use Rattle.im_base_txn.specs.declared.transaction.Transaction.{Transaction}
use Rattle.im_theory_machine.specs.View.{owner_of}
use Rattle.im_theory_steps.specs.Growth.{IsOver, IsOfOthers}
use Rattle.im_theory_steps.specs.Serving.{IsRow, mark_of}
use Rattle.im_theory_steps.specs.Steps.{with_undone}
use Rattle.im_theory_steps.specs.Undone.{UndoTakesBack, EndsLeaveNothing, RollingBackHasMore, UndoneChangesAreServed, LastUndoneChangesAreServed, ReturningHasMore, ReturnsGoOn, ReturnsEnd}
use Rattle.im_theory_steps.proofs.Growth.{within_leaves_others, same_by, same_then}
use Rattle.im_theory_steps.proofs.Rolling.{left_of, rolling_is, taking_is}
use Rattle.im_theory_steps.proofs.Rows.{counted_at}
use Rattle.im_base_txn.specs.declared.transaction.Mark.TheVariants.{RollingBack, Returning}
use Rattle.im_base_types.specs.Answers as answers
use Rattle.im_base_types.specs.Answers.{RollingBack as AnsweredRolling}
use Rattle.im_theory_steps.proofs.Steps.{at, mark_free, new_by, ends_served, gives_served, is_back_served, undo_served}

pub undo_takes_back : UndoTakesBack
undo_takes_back b t c older longer is =
    let on = within_leaves_others t older longer is.grows in (
      record {
        commits = on.1;
        walk = is.walk;
        own = ap changes_of is.stack ∙ ap (λ (e : Effect). e ++ net t longer) is.made;
        others = λ u differ. ap changes_of (on.0 u differ).stack;
      },
      on.0,
    )

-- the End of a transaction
module _ (b : Base) (t : ℕ) (log : History) (last : Logged) (mine : last.txn ≡ t) (is : last.what ≡ End) where
  own : {A : Type 0} (x y : A) → (if last.txn == t then x else y) ≡ x
  own x y = cond-true (last.txn == t) x y (eq-eqb last.txn t mine)

  pub end_stack : to_undo t (last ∷ log) ≡ []
  end_stack = own (stack_after last last.what (to_undo t log)) (to_undo t log) ∙ ap (λ (w : What). stack_after last w (to_undo t log)) is

  pub end_over : IsOver t (last ∷ log)
  end_over one le = own (is_end last.what || is_finished t log) (is_finished t log) ∙ ap (λ (w : What). is_end w || is_finished t log) is

  pub end_commits : committed (last ∷ log) ≡ committed log
  end_commits = ap (λ (w : What). committed_after w (net last.txn log) (committed log)) is

  pub end_walk : contents b (last ∷ log) ≡ contents b log
  end_walk = ap (λ (w : What). contents_after w (contents b log)) is

pub ends_leave_nothing : EndsLeaveNothing
ends_leave_nothing b t c older between last undoes none mine is =
    let on = undo_takes_back b t c older between undoes in
    let back = on.0 in
    let stack = end_stack b t between last mine is in
    let others : IsOfOthers t older (last ∷ between) = λ u differ. same_then u older between (last ∷ between) (on.1 u differ) (same_by u last between (λ e. differ (sym e ∙ mine))) in
    record {
      back = record {
        commits = end_commits b t between last mine is ∙ back.commits;
        walk = end_walk b t between last mine is ∙ back.walk;
        own = back.own ∙ ap (λ (e : Effect). c ∷ e) (none ∙ sym (ap changes_of stack));
        others = λ u differ. ap changes_of (others u differ).stack;
      };
      others = others;
      none = ap changes_of stack;
      over = end_over b t between last mine is;
      stack = stack;
    }

pub rolling_has_more : RollingBackHasMore
rolling_has_more b earlier before s v log rows next held t row h found mark free none =
    let is = at b earlier before s v log rows next held h t row found (mark_free row.mark RollingBack mark (λ x. cc x)) in
    free (ap owner_of (rolling_is _ v h.reached t (is.2 ∙ ap mark_of mark) (h.seen_by.nets t (new_by b earlier before s v log rows next held h t AnsweredRolling (is.2 ∙ ap mark_of mark) (λ x. cc x)) ∙ ap changes_of none)))

-- the row after a change that was taken back
back_row : (t next : ℕ) (older longer : History) (row : Transaction) (c : Change) → row.number ≡ t → IsRow row next older → net t older ≡ c ∷ net t longer → is_finished t longer ≡ false → IsRow (with_undone (last_of t longer) (undo_next_of t longer) row) next longer
back_row t next older longer row c is r own going = record {
  number = r.number;
  below = r.below;
  last = ap (λ (n : ℕ). last_of n longer) (sym is);
  undo = ap (λ (n : ℕ). undo_next_of n longer) (sym is);
  unfinished = ap (λ (n : ℕ). is_finished n longer) is ∙ going;
  changes =
      let was : row.changes ≡ suc (length (net t longer)) = counted_at t next older row is r ∙ ap (λ (e : Effect). length e) own in
      let now : length (net row.number longer) ≡ length (net t longer) = ap (λ (n : ℕ). length (net n longer)) is in
      omega (arith, was, now);
}

pub undone_served : UndoneChangesAreServed
undone_served b earlier before s v older longer rows next held t row c h found mark undoes left going =
    let is = at b earlier before s v older rows next held h t row found (mark_free row.mark RollingBack mark (λ x. cc x)) in
    let on = undo_takes_back b t c older longer undoes in
    undo_served b earlier before s v older longer rows next held t (last_of t longer) (undo_next_of t longer) row c h found mark on.0 left on.1 (back_row t next older longer row c is.0 is.1 on.0.own going)

pub last_undone_served : LastUndoneChangesAreServed
last_undone_served b earlier before s v older between rows next old new t row c last h found mark undoes none mine is released once =
    let over = ends_leave_nothing b t c older between last undoes none mine is in
    ends_served b earlier before s v older (last ∷ between) rows next old new t row c h found mark over.back over.none over.others over.over over.stack released once

-- ---- of one that returns to its first n changes

pub returning_more : ReturningHasMore
returning_more b earlier before s v log rows next held t n row h found mark free =
    let is = at b earlier before s v log rows next held h t row found (mark_free row.mark (Returning n) mark (λ x. cc x)) in
    let back : (v.txns t).mark ≡ answers.Returning n = is.2 ∙ ap mark_of mark in
    let new = new_by b earlier before s v log rows next held h t (answers.Returning n) back (λ x. cc x) in
    let count : row.changes ≡ length ((v.txns t).net) = counted_at t next log row is.0 is.1 ∙ ap (λ (e : Effect). length e) (sym (h.seen_by.nets t new)) in
    elim (cases_lt n row.changes) [
      | inl more ↦ more
      | inr few ↦ absurd (free (ap owner_of (taking_is _ v h.reached t n (ap left_of back) (subst (λ (k : ℕ). k ≤ n) count few))))
    ]

pub returns_go_on : ReturnsGoOn
returns_go_on b earlier before s v older longer rows next held t n row c h found mark undoes left going =
    let is = at b earlier before s v older rows next held h t row found (mark_free row.mark (Returning n) mark (λ x. cc x)) in
    let on = undo_takes_back b t c older longer undoes in
    gives_served b earlier before s v older longer rows next held t n (last_of t longer) (undo_next_of t longer) row c h found mark on.0 left on.1 (back_row t next older longer row c is.0 is.1 on.0.own going)

pub returns_end : ReturnsEnd
returns_end b earlier before s v older longer rows next held t n row c h found mark undoes left going =
    let is = at b earlier before s v older rows next held h t row found (mark_free row.mark (Returning n) mark (λ x. cc x)) in
    let on = undo_takes_back b t c older longer undoes in
    is_back_served b earlier before s v older longer rows next held t n (last_of t longer) (undo_next_of t longer) row c h found mark on.0 left on.1 (back_row t next older longer row c is.0 is.1 on.0.own going)
