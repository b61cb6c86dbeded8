-- Whose structure change is under way: its row, and what its Continue is told.
use Rattle.std.proofs.Common.{◌≡◌, ◌≢◌, ◌⊎◌, ℕ, ◌<◌, List, true, false, Option, None, Some, refl, sym, ap, subst, ◌∙◌, eq-eqb}
use Rattle.std.specs.Prelude.{find}
use Rattle.std.specs.FinMap.{empty}
use Rattle.im_base_types.specs.Answers as answers
use Rattle.im_base_types.specs.Answers.{Continue}
use Rattle.im_base_types.specs.Changes.{Effect, apply_all}
use Rattle.im_base_types.specs.Lives.{Shown}
use Rattle.im_base_disk.specs.declared.disk.Disk.{Ghosts}
use Rattle.im_base_steps.specs.declared.reply.Reply.{Reply}
use Rattle.im_base_steps.specs.declared.reply.Reply.TheVariants.{More}
use Rattle.im_base_steps.specs.Calls.{told_by}
use Rattle.im_base_txn.specs.declared.transaction.Mark as declared
use Rattle.im_base_txn.specs.declared.transaction.Mark.TheVariants as marks
use Rattle.im_base_txn.specs.declared.transaction.Transaction.{Transaction}
use Rattle.im_base_txn.specs.Rows.{is_of}
use Rattle.im_theory_log.specs.Histories.{Base}
use Rattle.im_theory_machine.specs.View as views
use Rattle.im_theory_machine.specs.View.{View, Txn, owner_in, owner_of}
use Rattle.im_theory_steps.specs.Serving.{IsAt, IsRow, mark_of}
use Rattle.im_theory_steps.specs.Steps.{IsMarkFor, takes_back}
use Rattle.im_theory_steps.proofs.Cited.{owners_marked, at}
use Rattle.im_engine.specs.declared.engine.Engine.{Engine}
use Rattle.im_engine.specs.declared.stepped.Under.{Under}
use Rattle.im_engine.specs.Aims.{IsGoing, IsChanging, aim_of, under_of}
use Rattle.im_engine.specs.Paces.{EndsAs, GoesOnWith, IsRefusal}
use Rattle.im_engine.specs.Running.{IsRunning}
use Rattle.im_engine.specs.Told.{IsPaced}

under_in : Under → Option Under → Under
under_in other None = other
under_in other (Some u) = u

pub some_inj : (u x : Under) → Some u ≡ Some x → u ≡ x
unfolding under_in
some_inj u x same = ap (under_in u) same

-- its mark lets it wait for no force
never_waits : (aim : views.Aim) (m : declared.Mark) → IsMarkFor aim (mark_of m) → m ≡ marks.Committing → ⊥
never_waits (views.Puts k r) m is so = let clash : answers.Committing ≡ answers.Going = sym (ap mark_of so) ∙ is in cc clash
never_waits (views.Drops k) m is so = let clash : answers.Committing ≡ answers.Going = sym (ap mark_of so) ∙ is in cc clash
never_waits views.TakesBack m is so = let clash : false ≡ true = sym (ap (λ (x : declared.Mark). takes_back (mark_of x)) so) ∙ is in cc clash
never_waits views.TookBack m is so = let clash : false ≡ true = sym (ap (λ (x : declared.Mark). takes_back (mark_of x)) so) ∙ is in cc clash

never_idle : (aim : views.Aim) → IsMarkFor aim answers.Idle → ⊥
never_idle (views.Puts k r) is = cc is
never_idle (views.Drops k) is = cc is
never_idle views.TakesBack is = cc is
never_idle views.TookBack is = cc is

-- the row of the owner
pub record OwnsRow (rows : List Transaction) (t : ℕ) (aim : views.Aim) : Type 0 where
  pub row : Transaction
  pub found : find (is_of t) rows ≡ Some row
  pub mark : IsMarkFor aim (mark_of row.mark)
  pub free : row.mark ≢ marks.Committing

module _ {D : Type 0} (d : Ghosts D) {b : Base} (before : List Effect) (s : Shown) (v : View) (old : Engine D d) (r : IsRunning d b before s v old) (u : Under) (was : old.under ≡ Some u) (t : ℕ) (owner : u.begun.change.transaction ≡ t) where
  pub view_has : v.under ≡ Some (record { owner = t; aim = aim_of u.aim })
  view_has = r.same ∙ ap under_of was ∙ ap (λ (n : ℕ). Some (record { owner = n; aim = aim_of u.aim })) owner

  pub owns_it : owner_in v ≡ Some t
  owns_it = ap owner_of view_has

  pub goes_here : IsGoing b u r.now.log
  goes_here = subst (λ (x : Option Under). IsChanging b x r.now.log) was r.changing

  marked : IsMarkFor (aim_of u.aim) ((v.txns t).mark)
  marked = owners_marked.marked (apply_all empty before) v r.serving.reached (record { owner = t; aim = aim_of u.aim }) view_has

  pub owner_row : OwnsRow old.txns.rows t (aim_of u.aim)
  owner_row = by (find (is_of t) old.txns.rows) refl (r.serving.table.each t)
    where
      by : (o : Option Transaction) → find (is_of t) old.txns.rows ≡ o → IsAt t o old.txns.next r.now.log (v.txns t) → OwnsRow old.txns.rows t (aim_of u.aim)
      by None none is = absurd (never_idle (aim_of u.aim) (subst (λ (x : Txn). IsMarkFor (aim_of u.aim) (x.mark)) is.2 marked))
      by (Some row) found is = let same = subst (λ (m : answers.Mark). IsMarkFor (aim_of u.aim) m) is.2 marked in record { row = row; found = found; mark = same; free = never_waits (aim_of u.aim) row.mark same }

  is_at : (owner_row.row.number ≡ t) × IsRow owner_row.row old.txns.next r.now.log × ((v.txns t).mark ≡ mark_of owner_row.row.mark)
  is_at = at b r.earlier before s v r.now.log old.txns.rows old.txns.next old.locks r.serving t owner_row.row owner_row.found owner_row.free

  pub owner_below : t < old.txns.next
  owner_below = subst (λ (n : ℕ). n < old.txns.next) is_at.0 is_at.1.below

-- what its Continue says of how it goes on
pub paced_own : {D : Type 0} (d : Ghosts D) (old new : Engine D d) (u : Under) → old.under ≡ Some u → (t : ℕ) → u.begun.change.transaction ≡ t → (reply : Reply) → (told_by reply ≢ answers.BlockedTree) → IsRefusal reply ⊎ ((reply ≡ More) ⊎ EndsAs u.aim reply)
    → ((b : Base) (before : List Effect) (s : Shown) (v : View) (r : IsRunning d b before s v old) → GoesOnWith u reply new.under) → IsPaced d (Continue t) reply old new
paced_own d old new u was t owner reply unblocked said goes = record {
  tree = λ clash. absurd (unblocked clash);
  first = λ none b before s v r x under other beside told bars.
      let same : x.begun.change.transaction ≡ t = ap (λ (y : Under). y.begun.change.transaction) (some_inj x u (sym under ∙ was)) ∙ owner in
      absurd (let clash : true ≡ false = sym (eq-eqb x.begun.change.transaction t same) ∙ other in cc clash);
  told = λ none x under is. subst (λ (y : Under). IsRefusal reply ⊎ ((reply ≡ More) ⊎ EndsAs y.aim reply)) (some_inj u x (sym was ∙ under)) said;
  own = λ none b before s v r x under is. subst (λ (y : Under). GoesOnWith y reply new.under) (some_inj u x (sym was ∙ under)) (goes b before s v r);
  others = λ b before s v r not. absurd (not u was (ap Continue (sym owner)));
}
