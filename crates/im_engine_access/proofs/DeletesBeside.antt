-- A delete beside a structure change of another, by how it goes on after what was laid down.
use Rattle.std.proofs.Common.{◌≡◌, ◌≢◌, ◌≤◌, ℕ, true, false, Option, None, Some, Result, Ok, Err, refl, sym, ◌∙◌, ap, subst}
use Rattle.std.specs.Prelude.{IsErrAnd}
use Rattle.std.specs.FinMap.{entries, get}
use Rattle.im_base_types.specs.declared.fault.Fault.{Fault}
use Rattle.im_base_types.specs.declared.fault.Fault.TheVariants.{Memory}
use Rattle.im_base_types.specs.Keys.{Key}
use Rattle.im_base_types.specs.Changes.{Drop}
use Rattle.im_base_types.specs.Answers.{Delete, dropped}
use Rattle.im_base_types.specs.Records.{DeleteKey}
use Rattle.im_theory_log.specs.Histories.{Base, History}
use Rattle.im_theory_log.specs.Structure.{settled}
use Rattle.im_theory_log.specs.Lawful.{IsNotIn}
use Rattle.im_theory_log.specs.Transactions.{contents}
use Rattle.im_theory_log.specs.Writer.{Writer}
use Rattle.im_base_disk.specs.declared.disk.Disk.{Ghosts}
use Rattle.im_page_writer.specs.declared.page_writer.PageWriter.{PageWriter}
use Rattle.im_page_writer.specs.Outcome.{mild, no_page, AreLoaded, Logs, Outcome as Ends}
use Rattle.im_page_writer.specs.PageWriter.{Evicted}
use Rattle.im_theory_machine.specs.Rows.{asked}
use Rattle.im_theory_machine.specs.Table.{Table, Decides}
use Rattle.im_theory_machine.specs.declared.verdict.Verdict.TheVariants.{Granted as GrantedAll}
use Rattle.im_theory_tree.specs.Levels.{walk}
use Rattle.im_tree_search.specs.declared.change_beside.Beside.{Beside}
use Rattle.im_tree_search.specs.declared.sight.Sight.{Sight}
use Rattle.im_tree_search.specs.declared.sight.Sight.TheVariants.{Seen, Hidden}
use Rattle.im_tree_search.specs.Levels.{bodies_of}
use Rattle.im_tree_search.specs.Sights.{IfSeen}
use Rattle.im_smo_actions.specs.declared.begun_change.BegunChange.{BegunChange}
use Rattle.im_smo_actions.specs.declared.planned_change.PlannedChange.{PlannedChange}
use Rattle.im_smo_actions.specs.GoingBeside.{settled_pages, HasWholeTreeBut}
use Rattle.im_engine_access.specs.declared.begun.Deleting as deleting
use Rattle.im_engine_access.specs.declared.begun.Deleting.{Deleting}
use Rattle.im_engine_access.specs.declared.change_plan.Leaving.{Leaving}
use Rattle.im_engine_access.specs.declared.change_plan.Leaving.TheVariants.{Gone, Takes, Empties}
use Rattle.im_engine_access.specs.declared.lock_answer.LockAnswer.{LockAnswer}
use Rattle.im_engine_access.specs.declared.lock_answer.LockAnswer.TheVariants.{Granted, Wait, Die}
use Rattle.im_engine_access.specs.Barred.{Bars, TreeCause}
use Rattle.im_engine_access.specs.ChangePlans.{IsLeaving, IsLeavingDecided, KeyEmpties, KeyTakes, LeavingKept}
use Rattle.im_engine_access.specs.EditsBeside.{DeleteBesideKept, LeavingLogKept, MayEditBeside, MayLeave}
use Rattle.im_engine_access.specs.KeyLogs.{KeyLogKept, LeavesEdit, MayTake}
use Rattle.im_engine_access.specs.LockAnswers.{verdict_of, IfGranted}
use Rattle.im_engine_access.proofs.OwnChanges.{delete_begun}
use Rattle.im_engine_access.proofs.EditsBeside.{going_evicted, going_left, going_tree, left_on, logged_on, may_take_on}
use Rattle.im_engine_access.proofs.KeyLogs.{settled_walk}
use Rattle.im_engine_access.proofs.Leavings.{some_there}

pub some_of : (o : Option ℕ) → o ≢ None → (i : ℕ) × (o ≡ Some i)
some_of None some = absurd (some refl)
some_of (Some i) some = (i, refl)

-- the record of a key has no refusal for want of memory
pub taken_never : {D : Type 0} (d : Ghosts D) {v : PageWriter} {old : D} {w : PageWriter} {new : D} {f : Fault} → Logs d false no_page v old w new (Some f) → f ≢ Memory
taken_never {D} d {v} {old} {w} {new} {f} one is =
    let moved : Logs d false no_page v old w new (Some Memory) = subst (λ (x : Fault). Logs d false no_page v old w new (Some x)) is one in
    let clash : false ≡ true = moved.ends.0 in
    cc clash

module _ {D : Type 0} (d : Ghosts D) (b : Base) (base : ℕ) where
  -- ---- what was laid down is logged

  module _ (s : Writer) (e t last undo_next : ℕ) (key : Key) (beside : Beside) (leaving : Leaving) (w : PageWriter) (disk : D) (may : MayLeave d b base s e t last undo_next key beside leaving w disk) (owner : 1 ≤ t) where
    pub from : Evicted d b base s may.since w disk
    from = going_evicted d b base s e t last undo_next may.start may.since may.going may.calls

    leaves_as : (known : Leaving) → leaving ≡ known → IsLeaving (settled_pages b s) beside key (contents b s.log) known
    leaves_as known is = subst (IsLeaving (settled_pages b s) beside key (contents b s.log)) is may.leaves

    behind : (new : D) → LeavesEdit d b base from.now t disk new → LeavesEdit d b base s t may.since new
    behind new stops = left_on d b base s e t last undo_next may.start may.since may.going owner from.now w disk from.on may.calls new stops

    -- it is not there
    pub logs_gone : leaving ≡ Gone → LeavingLogKept d b base s e t last key beside may.since w disk (Ok deleting.TheVariants.Gone)
    logs_gone is = record { sound = (leaves_as Gone is, from); stops = going_left d b base s e t last undo_next may.start may.since may.going may.calls }

    pub take_fails : (f : Fault) (page rid : ℕ) (x : PageWriter) (new : D) (r : Result Deleting Fault) → IsErrAnd r (λ y. y ≡ f) → KeyLogKept d b base from.now e t last page (DeleteKey key rid) disk x new (Err f) → LeavingLogKept d b base s e t last key beside may.since x new r
    take_fails f page rid x new (Ok y) same kept = absurd same
    take_fails f page rid x new (Err y) same kept = record { sound = λ z. kept.sound (sym same ∙ z); stops = behind new kept.stops }

    -- it is taken
    module _ (page rid : ℕ) (is : leaving ≡ Takes page rid) where
      takes : KeyTakes (settled_pages b s) beside key (contents b s.log) page rid
      takes = leaves_as (Takes page rid) is

      pub may_take_one : MayTake d b base from.now e t last undo_next page key rid w disk
      may_take_one = may_take_on d b base s e t last undo_next may.start may.since may.going owner from.now w disk from.on key (may.free (some_there (contents b s.log) key rid takes.there)) page (may.told.apart page takes.apart) takes.way rid takes.there

      pub logs_taken : (lsn : ℕ) (x : PageWriter) (new : D) → KeyLogKept d b base from.now e t last page (DeleteKey key rid) disk x new (Ok lsn) → LeavingLogKept d b base s e t last key beside may.since x new (Ok (deleting.TheVariants.Taken lsn))
      logs_taken lsn x new kept = record {
        sound = record {
          rid = rid;
          there = takes.there;
          page = page;
          apart = takes.apart;
          more = record { page = page; way = takes.way; more = takes.more };
          logged = logged_on d b base s e t last undo_next may.start may.since may.going owner from.now w disk from.on page (DeleteKey key rid) lsn x new kept.sound;
        };
        stops = behind new kept.stops;
      }

    -- and leaves its leaf empty
    module _ (page rid : ℕ) (plan : PlannedChange) (is : leaving ≡ Empties page rid plan) where
      empties : KeyEmpties (settled_pages b s) beside key (contents b s.log) page rid plan
      empties = leaves_as (Empties page rid plan) is

      pub may_take_last : MayTake d b base from.now e t last undo_next page key rid w disk
      may_take_last = may_take_on d b base s e t last undo_next may.start may.since may.going owner from.now w disk from.on key (may.free (some_there (contents b s.log) key rid empties.there)) page
          (subst (λ (l : History). IsNotIn page l) (sym (may.told.none empties.alone)) tt) empties.way rid empties.there

      pub logs_dropping : (lsn : ℕ) (x : PageWriter) (new : D) → KeyLogKept d b base from.now e t last page (DeleteKey key rid) disk x new (Ok lsn) → (begun : BegunChange) → (begun.change.images ≡ plan.images) × (begun.change.done ≡ 0)
          → (begun.change.transaction ≡ t) × (begun.change.last ≡ lsn) × (begun.change.undo_next ≡ lsn) → begun.count ≡ plan.count → LeavingLogKept d b base s e t last key beside may.since x new (Ok (deleting.TheVariants.Dropping begun))
      logs_dropping lsn x new kept begun same whose counts = record {
        sound = delete_begun d b base s e t last undo_next may.start may.since may.going owner beside may.told key page rid plan empties lsn x new
            (logged_on d b base s e t last undo_next may.start may.since may.going owner from.now w disk from.on page (DeleteKey key rid) lsn x new kept.sound) begun same.0 same.1 whose.0 whose.1 whose.2 counts;
        stops = behind new kept.stops;
      }

  -- ---- the whole

  module _ (s : Writer) (e t last undo_next : ℕ) (key : Key) (beside : Beside) (table : Table) (v : PageWriter) (old : D) (may : MayEditBeside d b base s e t last undo_next (Delete key) beside table v old) (owner : 1 ≤ t) where
    pub has_tree_but : HasWholeTreeBut d (settled_pages b s) beside v old
    has_tree_but = going_tree d b base s e t last undo_next v old may.going beside may.told

    pub map_beside : walk (bodies_of (settled_pages b s)) ≡ entries (contents b s.log)
    map_beside = settled_walk b s.log may.going.lawful

    module _ (new : Table) (w : PageWriter) (disk : D) where
      abbrev Kept : Result (Sight (LockAnswer Leaving)) Fault → Type 0
      Kept r = LeavingKept (settled_pages b s) beside t key (contents b s.log) table new r

      -- refused in front of the grant
      pub beside_refused : (f : Fault) → Ends d AreLoaded mild v old w disk (Some f) → Kept (Err f) → (r : Result (Sight (LockAnswer Deleting)) Fault) → IsErrAnd r (λ y. y ≡ f) → DeleteBesideKept d b base s e t last key beside table new old w disk r
      beside_refused f one kept (Ok x) is = absurd is
      beside_refused f one kept (Err y) is = subst (λ (z : Fault). DeleteBesideKept d b base s e t last key beside table new old w disk (Err z)) (sym is)
          (record { sound = kept.sound; stops = going_left d b base s e t last undo_next v old may.going one; first = λ bars. (tt, (kept.first bars).1) })

      module _ (one : Ends d AreLoaded mild v old w disk None) (sight : Sight (LockAnswer Leaving)) (kept : Kept (Ok sight)) where
        at : Evicted d b base s old w disk
        at = going_evicted d b base s e t last undo_next v old may.going one

        left : LeavesEdit d b base s t old disk
        left = going_left d b base s e t last undo_next v old may.going one

        pub beside_hidden : sight ≡ Hidden → DeleteBesideKept d b base s e t last key beside table new old w disk (Ok Hidden)
        beside_hidden is =
            let why = subst (IfSeen (IsLeavingDecided (IsLeaving (settled_pages b s) beside key (contents b s.log)) table t key (contents b s.log) new) (TreeCause (settled b s.log) beside (Delete key) (contents b s.log) × (new ≡ table))) is kept.sound in
            record { sound = (why.0, why.1, at); stops = left; first = λ bars. (tt, tt) }

        module _ (answer : LockAnswer Leaving) (seen : sight ≡ Seen answer) where
          decided : IsLeavingDecided (IsLeaving (settled_pages b s) beside key (contents b s.log)) table t key (contents b s.log) new answer
          decided = subst (IfSeen (IsLeavingDecided (IsLeaving (settled_pages b s) beside key (contents b s.log)) table t key (contents b s.log) new) (TreeCause (settled b s.log) beside (Delete key) (contents b s.log) × (new ≡ table))) seen kept.sound

          -- the change beside bars nothing
          not_barred : Bars (settled b s.log) beside (Delete key) (contents b s.log) → ⊥
          not_barred bars = subst (IfSeen (λ x. ⊥) (Unit {0})) seen (kept.first bars).0

          verdict_as : (known : LockAnswer Leaving) → answer ≡ known → Decides table t (asked (Delete key) (contents b s.log)) (verdict_of known) new
          verdict_as known is = subst (λ (x : LockAnswer Leaving). Decides table t (asked (Delete key) (contents b s.log)) (verdict_of x) new) is decided.decides

          pub beside_waits : (holder : ℕ) → answer ≡ Wait holder → DeleteBesideKept d b base s e t last key beside table new old w disk (Ok (Seen (Wait holder)))
          beside_waits holder is = record { sound = (verdict_as (Wait holder) is, at); stops = left; first = λ bars. absurd (not_barred bars) }

          pub beside_dies : answer ≡ Die → DeleteBesideKept d b base s e t last key beside table new old w disk (Ok (Seen Die))
          beside_dies is = record { sound = (verdict_as Die is, at); stops = left; first = λ bars. absurd (not_barred bars) }

          -- it is granted
          module _ (leaving : Leaving) (granted : answer ≡ Granted leaving) where
            pub leaves : IsLeaving (settled_pages b s) beside key (contents b s.log) leaving
            leaves = subst (λ (x : LockAnswer Leaving). IfGranted x (IsLeaving (settled_pages b s) beside key (contents b s.log))) granted decided.so

            pub decides : Decides table t (asked (Delete key) (contents b s.log)) GrantedAll new
            decides = verdict_as (Granted leaving) granted

            abbrev pub may_leave : MayLeave d b base s e t last undo_next key beside leaving w disk
            may_leave = record {
              start = v;
              since = old;
              going = may.going;
              told = may.told;
              free = λ some. (let i = some_of (get (contents b s.log) key) some in may.free (Drop key i.0) decides.0 (ap (dropped key) i.1));
              calls = one;
              leaves = leaves;
            }

            pub beside_granted : (x : Deleting) (y : PageWriter) (end : D) → LeavingLogKept d b base s e t last key beside old y end (Ok x) → DeleteBesideKept d b base s e t last key beside table new old y end (Ok (Seen (Granted x)))
            beside_granted x y end log = record { sound = (decides, log.sound); stops = log.stops; first = λ bars. absurd (not_barred bars) }

            pub beside_fails : (f : Fault) (y : PageWriter) (end : D) → LeavingLogKept d b base s e t last key beside old y end (Err f) → (r : Result (Sight (LockAnswer Deleting)) Fault) → IsErrAnd r (λ z. z ≡ f) → DeleteBesideKept d b base s e t last key beside table new old y end r
            beside_fails f y end log (Ok x) is = absurd is
            beside_fails f y end log (Err z) is = record { sound = λ same. log.sound (sym is ∙ same); stops = log.stops; first = λ bars. absurd (not_barred bars) }
