-- An insert that is logged at once, where no structure change is under way.
use Rattle.std.proofs.Common.{◌≡◌, ◌≢◌, ◌⊎◌, inl, inr, ◌∷◌, ℕ, Bool, false, [], is_some, Option, None, Some, Result, Ok, Err, sym, ap, subst, cond}
use Rattle.std.specs.Prelude.{IsErrAnd}
use Rattle.std.specs.FinMap.{entries, get}
use Rattle.im_base_types.specs.declared.fault.Fault.{Fault}
use Rattle.im_base_types.specs.declared.fault.Fault.TheVariants.{Capacity, Failed, Memory, PagesFull}
use Rattle.im_base_types.specs.Keys.{Key}
use Rattle.im_base_types.specs.Changes.{Put}
use Rattle.im_base_types.specs.Maps.{IndexMap}
use Rattle.im_base_types.specs.Answers.{Insert}
use Rattle.im_theory_log.specs.Histories.{Base}
use Rattle.im_theory_log.specs.Structure.{settled}
use Rattle.im_theory_log.specs.Transactions.{contents}
use Rattle.im_theory_log.specs.Writer.{Writer}
use Rattle.im_base_disk.specs.declared.disk.Disk.{Ghosts}
use Rattle.im_page_writer.specs.declared.page_writer.PageWriter.{PageWriter}
use Rattle.im_page_writer.specs.Outcome.{AreLoaded, Outcome as Ends}
use Rattle.im_page_writer.specs.PageWriter.{Evicted}
use Rattle.im_theory_machine.specs.Rows.{asked}
use Rattle.im_theory_machine.specs.Table.{Table, Decides}
use Rattle.im_theory_machine.specs.declared.verdict.Verdict.TheVariants.{Granted as GrantedAll}
use Rattle.im_theory_tree.specs.Levels.{Pages, walk}
use Rattle.im_tree_search.specs.declared.change_beside.Beside.{Beside}
use Rattle.im_tree_search.specs.declared.sight.Sight.{Sight}
use Rattle.im_tree_search.specs.declared.sight.Sight.TheVariants.{Seen, Hidden}
use Rattle.im_tree_search.specs.Levels.{bodies, bodies_of}
use Rattle.im_tree_search.specs.Sights.{IfSeen}
use Rattle.im_smo_split.specs.Kept.{mild_to_split}
use Rattle.im_smo_split.specs.Plan.{IsOver}
use Rattle.im_smo_split.specs.Tops.{LacksRoomFor}
use Rattle.im_smo_actions.specs.GoingBeside.{settled_pages, HasWholeTreeBut}
use Rattle.im_smo_actions.proofs.Changes.{never_failed}
use Rattle.im_smo_actions.proofs.Told.{none_is_told}
use Rattle.im_engine_access.specs.declared.change_plan.Coming.{Coming}
use Rattle.im_engine_access.specs.declared.change_plan.Coming.TheVariants.{There, Fits, Splits, UsedUp}
use Rattle.im_engine_access.specs.declared.lock_answer.LockAnswer.{LockAnswer}
use Rattle.im_engine_access.specs.declared.lock_answer.LockAnswer.TheVariants.{Granted, Wait, Die}
use Rattle.im_engine_access.specs.declared.noted.Noted.{Noted}
use Rattle.im_engine_access.specs.AtOnce.{AtOnceKept, MayInsert}
use Rattle.im_engine_access.specs.Barred.{TreeCause}
use Rattle.im_engine_access.specs.ChangePlans.{ComingKept, IsComing, IsComingDecided, asks_of}
use Rattle.im_engine_access.specs.Edits.{InsertKept, IsLimited, MayEdit}
use Rattle.im_engine_access.specs.KeyLogs.{LeavesEdit}
use Rattle.im_engine_access.proofs.EditsBeside.{going_tree}
use Rattle.im_engine_access.proofs.Inserts.{calls_left, late_sound, stands_behind}
use Rattle.im_engine_access.proofs.KeyLogs.{is_going_on, settled_are, settled_walk}
use Rattle.im_engine_access.proofs.NoneBeside.{cause_none}
use Rattle.im_engine_access.proofs.Planning.{late_is, late_why}

-- no lock outlasts it
asks_once : (coming : Coming) (table : Table) (t : ℕ) (key : Key) (rid : ℕ) (m : IndexMap) (new : Table) → Decides table t (asks_of false coming key rid m) GrantedAll new → Decides table t (asked (Insert key rid) m) GrantedAll new
asks_once There table t key rid m new decides = decides
asks_once (Fits page) table t key rid m new decides = decides
asks_once (Splits plan leaf) table t key rid m new decides = decides
asks_once UsedUp table t key rid m new decides = decides

pub never_short : (Failed ≡ Memory) ⊎ (Failed ≡ PagesFull) → ⊥
never_short (inl is) = cc is
never_short (inr is) = cc is

module _ {D : Type 0} (d : Ghosts D) (b : Base) (base : ℕ) (s : Writer) (e t last undo_next : ℕ) (v : PageWriter) (old : D) (key : Key) (rid : ℕ) (dense : Bool) (max : ℕ) (table new : Table) (may : MayEdit d b base s e t last undo_next (Insert key rid) table v old) (beside : Beside)
    (none : beside.pages.now ≡ []) where
  pub tree_here : HasWholeTreeBut d (settled_pages b s) beside v old
  tree_here = going_tree d b base s e t last undo_next v old (is_going_on d b base s e t last undo_next v old may.unfinished) beside (none_is_told b beside s.log none may.unfinished.closed)

  pub map_here : walk (bodies_of (settled_pages b s)) ≡ entries (contents b s.log)
  map_here = settled_walk b s.log may.unfinished.lawful

  settled_here : settled b s.log ≡ bodies s
  settled_here = settled_are d b base s e t last undo_next v old may.unfinished

  module _ (w : PageWriter) (mid : D) where
    abbrev Laid : Result (Sight (LockAnswer Coming)) Fault → Type 0
    Laid r = ComingKept false (settled_pages b s) beside t key rid dense max (contents b s.log) table new r

    abbrev Kept : PageWriter → D → Result (LockAnswer (Option Noted)) Fault → Type 0
    Kept y end r = InsertKept d b base s e t key rid dense max table new old y end r

    -- nothing was laid down
    pub not_laid : (f : Fault) → Ends d AreLoaded (mild_to_split (Some max)) v old w mid (Some f) → f ≢ Capacity → Laid (Err f) → (r : Result (LockAnswer (Option Noted)) Fault) → IsErrAnd r (λ y. y ≡ f) → Kept w mid r
    not_laid f one numbers laid (Ok x) is = absurd is
    not_laid f one numbers laid (Err y) is = subst (λ (z : Fault). Kept w mid (Err z)) (sym is) (record {
      sound = laid.sound;
      stops = calls_left d b base s e t last undo_next v old may.unfinished one;
      full = λ same. (let over = laid.full same in (over.0, subst (λ (f : Pages). LacksRoomFor f key) settled_here over.1, subst (λ (f : Pages). IsOver dense f key max) settled_here over.2));
      used_up = λ same. absurd (numbers same);
      limited = tt;
      begun = λ same. absurd (never_failed d f may.unfinished.stands.working one same);
    })

    module _ (one : Ends d AreLoaded (mild_to_split (Some max)) v old w mid None) (sight : Sight (LockAnswer Coming)) (laid : Laid (Ok sight)) where
      at : Evicted d b base s old w mid
      at = stands_behind d b base s e t last undo_next v old may.unfinished one

      left : LeavesEdit d b base s t old mid
      left = calls_left d b base s e t last undo_next v old may.unfinished one

      abbrev Says : Sight (LockAnswer Coming) → Type 0
      Says x = IfSeen (IsComingDecided false (IsComing (settled_pages b s) beside key dense max (contents b s.log)) table t key rid (contents b s.log) new) (TreeCause (settled b s.log) beside (Insert key rid) (contents b s.log) × (new ≡ table)) x

      -- nothing is hidden
      never_hidden : sight ≡ Hidden → ⊥
      never_hidden is = let why = subst Says is laid.sound in cause_none (settled b s.log) beside (Insert key rid) (contents b s.log) none why.0

      pub hides : sight ≡ Hidden → Kept w mid (Err Failed)
      hides is = absurd (never_hidden is)

      module _ (answer : LockAnswer Coming) (seen : sight ≡ Seen answer) where
        decided : IsComingDecided false (IsComing (settled_pages b s) beside key dense max (contents b s.log)) table t key rid (contents b s.log) new answer
        decided = subst Says seen laid.sound

        decided_as : (known : LockAnswer Coming) → answer ≡ known → IsComingDecided false (IsComing (settled_pages b s) beside key dense max (contents b s.log)) table t key rid (contents b s.log) new known
        decided_as known is = subst (IsComingDecided false (IsComing (settled_pages b s) beside key dense max (contents b s.log)) table t key rid (contents b s.log) new) is decided

        within : get (contents b s.log) key ≡ None → IsLimited dense (bodies s) key max
        within = subst (λ (f : Pages). get (contents b s.log) key ≡ None → IsLimited dense f key max) settled_here (subst (IfSeen (λ _. get (contents b s.log) key ≡ None → IsLimited dense (settled b s.log) key max) (Unit {0})) seen laid.limited)

        pub waits : (holder : ℕ) → answer ≡ Wait holder → Kept w mid (Ok (Wait holder))
        waits holder is = record { sound = (decided_as (Wait holder) is, at); stops = left; full = tt; used_up = tt; limited = within; begun = tt }

        pub dies : answer ≡ Die → Kept w mid (Ok Die)
        dies is = record { sound = (decided_as Die is, at); stops = left; full = tt; used_up = tt; limited = within; begun = tt }

        -- it is granted
        module _ (coming : Coming) (granted : answer ≡ Granted coming) where
          pub asks : Decides table t (asks_of false coming key rid (contents b s.log)) GrantedAll new × IsComing (settled_pages b s) beside key dense max (contents b s.log) coming
          asks = decided_as (Granted coming) granted

          pub locked : Decides table t (asked (Insert key rid) (contents b s.log)) GrantedAll new
          locked = asks_once coming table t key rid (contents b s.log) new asks.0

          abbrev pub may_insert : MayInsert d b base s e t last undo_next key dense max beside coming w mid
          may_insert = record {
            start = v;
            since = old;
            unfinished = may.unfinished;
            free = λ absent. may.free (Put key rid) locked.0 (ap (λ (o : Option ℕ). cond (is_some o) [] (Put key rid ∷ [])) absent);
            calls = one;
            comes = asks.1;
          }

          pub put_once : (noted : Option Noted) (y : PageWriter) (end : D) → AtOnceKept d b base s e t key rid dense max old y end (Ok noted) → Kept y end (Ok (Granted noted))
          put_once noted y end log = record { sound = (locked, log.sound); stops = log.stops; full = tt; used_up = tt; limited = within; begun = tt }

          -- after the grant a want of memory is answered late
          pub fails_once : (f g : Fault) → (f ≡ Memory → g ≡ Failed) → (f ≢ Memory → g ≡ f) → f ≢ PagesFull → (y : PageWriter) (end : D) → AtOnceKept d b base s e t key rid dense max old y end (Err f) → Kept y end (Err g)
          fails_once f g memory other never y end log = record {
            sound = late_sound f g memory other log.sound;
            stops = log.stops;
            full = λ is. absurd (never (late_is f g PagesFull memory other (λ clash. let no_such : ⊥ = cc clash in no_such) is));
            used_up = λ is. (let up = log.used_up (late_is f g Capacity memory other (λ clash. let no_such : ⊥ = cc clash in no_such) is) in (log.absent, up.0, up.1, locked));
            limited = tt;
            begun = λ failed. (log.absent, locked, inl (log.begun (late_why f g memory other failed)));
          }
