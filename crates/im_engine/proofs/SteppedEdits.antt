-- Steps that change a key beside a structure change: what their calls below ask, and the log after the key's record.
use Rattle.std.proofs.Common.{◌≡◌, ◌≢◌, inr, ℕ, zero, suc, ◌≤◌, ◌<◌, List, ◌∷◌, ◌++◌, Bool, true, false, Option, Some, None, Result, Ok, Err, refl, sym, ap, subst, ◌∙◌, arith, ltb-true}
use Rattle.std.specs.Prelude.{◌↔◌, IsOk, find, ◌==◌, ◌&&◌, nat_lt, not, length}
use Rattle.std.specs.List.{list_any}
use Rattle.im_base_types.specs.Answers.{Access, Do, changes}
use Rattle.im_base_types.specs.Changes.{Effect}
use Rattle.im_base_types.specs.Lives.{Shown}
use Rattle.im_base_types.specs.declared.fault.Fault.{Fault}
use Rattle.im_base_types.specs.Maps.{IndexMap}
use Rattle.im_base_types.specs.Records.{What, Logged}
use Rattle.im_base_disk.specs.declared.disk.Disk.{Ghosts}
use Rattle.im_base_txn.specs.Rows.{is_of}
use Rattle.im_base_txn.specs.declared.transaction.Mark.TheVariants.{Going}
use Rattle.im_base_txn.specs.declared.transaction.Transaction.{Transaction}
use Rattle.im_base_txn.proofs.LookUps.{look_ups_follow}
use Rattle.im_theory_log.specs.Histories.{Base, History}
use Rattle.im_theory_log.specs.Lawful.{IsLawful}
use Rattle.im_theory_log.specs.Structure.{open_smo}
use Rattle.im_theory_log.specs.Transactions.{contents, is_end, undo_next_of}
use Rattle.im_page_writer.specs.declared.page_writer.PageWriter.{PageWriter}
use Rattle.im_theory_machine.specs.Locks as locks
use Rattle.im_theory_machine.specs.Machine.{fits}
use Rattle.im_theory_machine.specs.Rows.{asked}
use Rattle.im_theory_machine.specs.Table.{Table, Decides, locks_of}
use Rattle.im_theory_machine.specs.declared.verdict.Verdict.{Verdict}
use Rattle.im_theory_machine.specs.View.{View, owner_in, owner_of, owns_in}
use Rattle.im_theory_steps.specs.Checks.{checked_by}
use Rattle.im_theory_steps.specs.Growth.{GrowsWithin}
use Rattle.im_theory_steps.specs.Serving.{IsRow, mark_of}
use Rattle.im_theory_steps.specs.Steps.{IsOnTheWay, key_record}
use Rattle.im_theory_steps.proofs.Cited.{free_by_table, granted_keys_free, at, mark_free, ways_lead_on}
use Rattle.im_theory_tree.specs.Theory.{page_tree}
use Rattle.im_tree_search.specs.declared.change_beside.Beside.{Beside}
use Rattle.im_smo_log.specs.Under.{is_structural}
use Rattle.im_smo_actions.specs.GoingBeside.{is_planned}
use Rattle.im_smo_actions.proofs.Growth.{images_as_change}
use Rattle.im_engine_access.specs.EditsBeside.{MayEditBeside}
use Rattle.im_engine_access.specs.KeyLogs.{IsGoingOn, KeyLogged}
use Rattle.im_engine_access.proofs.KeyLogs.{grows_within}
use Rattle.im_engine.specs.declared.engine.Engine.{Engine}
use Rattle.im_engine.specs.declared.stepped.Under.{Under}
use Rattle.im_engine.specs.Aims.{IsBesideOf, IsChanging, under_of}
use Rattle.im_engine.specs.Running.{IsRunning}
use Rattle.im_engine.proofs.Deleting.{access_mark}
use Rattle.im_engine.proofs.GoingOn.{images_beside, others_go}
use Rattle.im_engine.proofs.Running.{outside_of}
use Rattle.im_engine.proofs.SteppedLogs.{none_of}
use Rattle.im_engine.proofs.SteppedMade.{alone}
use Rattle.im_engine.proofs.SteppedTold.{told_here}

module _ {D : Type 0} (d : Ghosts D) (t : ℕ) (a : Access) (old : Engine D d) (row : Transaction) (found : find (is_of t) old.txns.rows ≡ Some row) (checked : checked_by old.txns.rows (owns_in (under_of old.under) (Do t a)) (Do t a) ≡ None) where
  pub its_mark : row.mark ≡ Going
  its_mark = access_mark old.txns.rows _ t a row found checked

  pub its_number : row.number ≡ t
  its_number = look_ups_follow.found t old.txns.rows row found

  module _ {b : Base} (before : List Effect) (s : Shown) (v : View) (r : IsRunning d b before s v old) where
    pub by_itself : owner_in v ≢ Some t
    by_itself = alone d t a old checked before s v r

    pub way_here : IsOnTheWay b t row.last r.now.log r.now.log
    way_here = ways_lead_on.begins b r.earlier before s v r.now.log old.txns.rows old.txns.next old.locks t row r.serving found its_mark

    is_at : (row.number ≡ t) × IsRow row old.txns.next r.now.log × ((v.txns t).mark ≡ mark_of row.mark)
    is_at = at b r.earlier before s v r.now.log old.txns.rows old.txns.next old.locks r.serving t row found (mark_free row.mark Going its_mark (λ x. cc x))

    pub below_next : t < old.txns.next
    below_next = subst (λ (n : ℕ). n < old.txns.next) is_at.0 is_at.1.below

    pub owned_by : 1 ≤ t
    owned_by = subst (λ (n : ℕ). 1 ≤ n) is_at.0 is_at.1.number

    pub walk_of : v.walk ≡ contents b r.now.log
    walk_of = r.serving.seen_by.walk

    module _ (beside : Beside) (is : IsBesideOf old.under beside) where
      -- how its transaction stands in front of it
      pub goes_on : IsGoingOn d b r.base r.now r.redo_end t row.last row.undo_next old.writer old.disk
      goes_on = record {
        stands = r.stands;
        over = r.over;
        lawful = r.lawful;
        outside = outside_of d before s v old r t by_itself;
        newest = way_here.newest;
        undo = sym (is_at.1.undo ∙ ap (λ (n : ℕ). undo_next_of n r.now.log) is_at.0);
        unfinished = way_here.unfinished;
      }

      -- what an insert or a delete below asks
      pub may_edit_here : MayEditBeside d b r.base r.now r.redo_end t row.last row.undo_next a beside old.locks old.writer old.disk
      may_edit_here = record {
        going = goes_on;
        told = told_here d before s v old r beside is;
        free = λ c free one.
            granted_keys_free _ b r.now.log v t a c r.serving.reached r.serving.seen_by r.serving.works (is_at.2 ∙ ap mark_of its_mark)
            (free_by_table v old.locks t (asked a v.walk) r.serving.locks (subst (λ (m : IndexMap). locks.IsFree (locks_of old.locks) t (asked a m)) (sym walk_of) free))
            (ap (changes a) walk_of ∙ one);
      }

      -- ---- after the record of its key, on a page that is none of the change's

      module _ (page : ℕ) (what : What) (lsn : ℕ) (w : PageWriter) (disk : D) (k : KeyLogged d b r.base r.now r.redo_end t row.last page what lsn w disk) where
        abbrev pub newest : Logged
        newest = key_record t row.last lsn page what

        pub key_law : IsLawful b page_tree (newest ∷ k.before)
        key_law = subst (λ (l : History). IsLawful b page_tree l) k.is k.stands.lawful

        log_is : k.now.log ≡ (newest ∷ k.images.images) ++ r.now.log
        log_is = k.is ∙ ap (λ (l : History). newest ∷ l) k.images.is

        pub key_grows : is_end what ≡ false → GrowsWithin t r.now.log k.now.log
        key_grows no_end =
            let images = grows_within t r.now.log k.before (images_as_change b t r.now.log k.before k.images) in
            record { more = newest ∷ images.more; is = ap (λ (l : History). newest ∷ l) images.is ∙ sym k.is; within = (inr (refl, no_end), images.within) }

        pub key_changing : is_structural what ≡ false → is_planned beside page ≡ false → IsChanging b old.under k.now.log
        key_changing plain apart =
            subst (λ (l : History). IsChanging b old.under l) (sym log_is) (by old.under refl is r.changing)
          where
            law : IsLawful b page_tree ((newest ∷ k.images.images) ++ r.now.log)
            law = subst (λ (l : History). IsLawful b page_tree l) log_is k.stands.lawful

            by : (under : Option Under) → old.under ≡ under → IsBesideOf under beside → IsChanging b under r.now.log → IsChanging b under ((newest ∷ k.images.images) ++ r.now.log)
            by None so told closed = ap (λ (l : History). open_smo l) (sym log_is) ∙ k.opened ∙ closed
            by (Some u) so told going =
                let c = u.begun.change in
                let other : t ≢ c.transaction = λ same. by_itself (ap owner_of (r.same ∙ ap under_of so) ∙ ap (λ (n : ℕ). Some n) (sym same)) in
                others_go b u (newest ∷ k.images.images) r.now.log going law (
                  record { other = other; plain = plain; apart = λ changes. none_of c.images page (ap (λ (ps : List ℕ). list_any (λ (q : ℕ). q == page) ps) (sym told.pages) ∙ apart) },
                  images_beside b c.transaction c.owned c.images k.images.images r.now.log k.images.all,
                )

      -- what the table decided
      pub decided_here : (verdict : Verdict) (new : Table) → Decides old.locks t (asked a (contents b r.now.log)) verdict new → Decides old.locks t (asked a v.walk) verdict new
      decided_here verdict new decides = subst (λ (m : IndexMap). Decides old.locks t (asked a m) verdict new) (sym walk_of) decides

-- ---- a key that fits has 1 to 255 bytes

both_on : (a b : Bool) → (a && b) ≡ true → (a ≡ true) × (b ≡ true)
both_on true b is = (refl, is)
both_on false b is = absurd (cc is)

not_off : (a : Bool) → not a ≡ true → a ≡ false
not_off true is = absurd (cc is)
not_off false is = refl

some_long : (n : ℕ) → (n == 0) ≡ false → 1 ≤ n
some_long zero is = absurd (cc is)
some_long (suc n) is = omega arith

pub key_some : (key : List ℕ) → fits key ≡ true → 1 ≤ length key
key_some key is = some_long (length key) (not_off (length key == 0) (both_on (not (length key == 0)) (nat_lt (length key) 256) is).0)

pub key_short : (key : List ℕ) → fits key ≡ true → length key ≤ 255
key_short key is = let under : length key < 256 = ltb-true (length key) 256 (both_on (not (length key == 0)) (nat_lt (length key) 256) is).1 in omega (arith, under)

-- so a key is made of it
pub never_refused_key : (key : List ℕ) (r : Result (List ℕ) Fault) → fits key ≡ true → (IsOk r ↔ ((1 ≤ length key) × (length key ≤ 255))) → ((k : List ℕ) → r ≡ Ok k → ⊥) → ⊥
never_refused_key key (Ok k) is taken other = other k refl
never_refused_key key (Err e) is taken other = let never : false ≡ true = taken.1 (key_some key is, key_short key is) in cc never
