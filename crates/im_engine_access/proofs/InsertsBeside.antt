-- An insert beside a structure change of another, by how it goes on after what was laid down.
use Rattle.std.proofs.Common.{◌≡◌, ◌≢◌, ◌⊎◌, inl, inr, ◌∷◌, ◌≤◌, ℕ, Bool, true, false, [], is_some, Option, None, Some, Result, Ok, Err, refl, sym, ◌∙◌, ap, subst, cond}
use Rattle.std.specs.Prelude.{IsErrAnd, IfErr}
use Rattle.std.specs.FinMap.{entries, get}
use Rattle.im_base_types.specs.declared.fault.Fault.{Fault}
use Rattle.im_base_types.specs.declared.fault.Fault.TheVariants.{Capacity, Device, Failed, LogFull, Memory, NotAStore, PagesFull}
use Rattle.im_base_types.specs.Keys.{Key}
use Rattle.im_base_types.specs.Changes.{Put}
use Rattle.im_base_types.specs.Answers.{Insert}
use Rattle.im_base_types.specs.Records.{InsertKey}
use Rattle.im_theory_log.specs.Histories.{Base}
use Rattle.im_theory_log.specs.Structure.{settled}
use Rattle.im_theory_log.specs.Transactions.{contents}
use Rattle.im_theory_log.specs.Writer.{Writer}
use Rattle.im_base_disk.specs.declared.disk.Disk.{Ghosts}
use Rattle.im_page_writer.specs.declared.page_writer.PageWriter.{PageWriter}
use Rattle.im_page_writer.specs.Outcome.{fault_of, mild, no_page, none_mild, AreLoaded, LogEnds, Logs, Outcome as Ends}
use Rattle.im_page_writer.specs.PageWriter.{Evicted, StandsAs}
use Rattle.im_page_flush.specs.Writing.{LeavesGrown}
use Rattle.im_page_writer.proofs.Writers.{goes_on_then}
use Rattle.im_theory_machine.specs.Table.{Table, Decides}
use Rattle.im_theory_machine.specs.declared.verdict.Verdict.TheVariants.{Granted as GrantedAll}
use Rattle.im_theory_tree.specs.Levels.{walk}
use Rattle.im_tree_search.specs.declared.change_beside.Beside.{Beside}
use Rattle.im_tree_search.specs.declared.sight.Sight.{Sight}
use Rattle.im_tree_search.specs.declared.sight.Sight.TheVariants.{Seen, Hidden}
use Rattle.im_tree_search.specs.Levels.{bodies_of}
use Rattle.im_tree_search.specs.Sights.{IfSeen}
use Rattle.im_smo_split.specs.Kept.{mild_to_split}
use Rattle.im_smo_actions.specs.declared.begun_change.BegunChange.{BegunChange}
use Rattle.im_smo_actions.specs.declared.planned_change.PlannedChange.{PlannedChange}
use Rattle.im_smo_actions.specs.GoingBeside.{settled_pages, HasWholeTreeBut}
use Rattle.im_smo_actions.proofs.Changes.{never_failed}
use Rattle.im_smo_actions.proofs.Standing.{left_images, stands_ready}
use Rattle.im_engine_access.specs.declared.begun.Inserting as inserting
use Rattle.im_engine_access.specs.declared.begun.Inserting.{Inserting}
use Rattle.im_engine_access.specs.declared.change_plan.Coming.{Coming}
use Rattle.im_engine_access.specs.declared.change_plan.Coming.TheVariants.{There, Fits, Splits, UsedUp}
use Rattle.im_engine_access.specs.declared.lock_answer.LockAnswer.{LockAnswer}
use Rattle.im_engine_access.specs.declared.lock_answer.LockAnswer.TheVariants.{Granted, Wait, Die}
use Rattle.im_engine_access.specs.Barred.{Bars, TreeCause}
use Rattle.im_engine_access.specs.ChangePlans.{ComingKept, IsComing, IsComingDecided, KeyFits, KeySplits, asks_of, asks_row, begins, wants_numbers}
use Rattle.im_engine_access.specs.Edits.{IsLimited}
use Rattle.im_engine_access.specs.EditsBeside.{has_begun, ComingLogKept, FirstKept, InsertBesideKept, IsAskedFor, MayCome, MayEditBeside}
use Rattle.im_engine_access.specs.KeyLogs.{IsGoingOn, KeyLogKept, LeavesEdit, MayPut}
use Rattle.im_engine_access.proofs.Deletes.{log_works}
use Rattle.im_engine_access.proofs.Planning.{late_why}
use Rattle.im_engine_access.proofs.OwnChanges.{insert_begun}
use Rattle.im_engine_access.proofs.EditsBeside.{going_evicted, going_left, going_on, going_tree, left_on, logged_on, may_put_on}
use Rattle.im_engine_access.proofs.KeyLogs.{left_edit, settled_walk}

-- ---- which locks it has

asked_by : (b : Base) (s : Writer) (t : ℕ) (key : Key) (rid : ℕ) (table new : Table) (x : Inserting) → Decides table t (asks_row (has_begun x) key rid (contents b s.log)) GrantedAll new → IsAskedFor b s t key rid table new x
asked_by b s t key rid table new inserting.TheVariants.There decides = decides
asked_by b s t key rid table new (inserting.TheVariants.Put lsn) decides = decides
asked_by b s t key rid table new (inserting.TheVariants.Split begun leaf) decides = decides

pub hidden_is : {A : Type 0} (s : Sight A) → ((a : A) → s ≡ Seen a → ⊥) → s ≡ Hidden
hidden_is (Seen a) not = absurd (not a refl)
hidden_is Hidden not = refl

-- ---- refusals

-- the record of a key after the one that closes a change
pub end_logs : {D : Type 0} (d : Ghosts D) {v : PageWriter} {old : D} {w : PageWriter} {mid : D} {x : PageWriter} {new : D} (why : Option Fault) → Logs d false none_mild v old w mid None → Logs d false no_page w mid x new why → Logs d true none_mild v old x new why
end_logs {D} d {v} {old} {w} {mid} {x} {new} why one two = record { ready = two.ready; frames = two.frames ∙ one.frames; ends = by why two.ends }
  where
    by : (o : Option Fault) → LogEnds d false no_page w mid x new o → LogEnds d true none_mild v old x new o
    by None ends = record { began = one.ends.began; works = ends.works; alive = ends.alive }
    by (Some Failed) ends = absurd (let clash : false ≡ true = sym one.ends.works ∙ ends.0 in let never : ⊥ = cc clash in never)
    by (Some NotAStore) ends = record { began = one.ends.began; works = ends.1.works; alive = ends.1.alive }
    by (Some Device) ends = (record { began = one.ends.began; broken = ends.0.broken }, ends.1)
    by (Some LogFull) ends = (record { began = one.ends.began; broken = ends.0.broken }, ends.1, ends.2)
    by (Some f) ends = absurd (let clash : false ≡ true = ends.0 in let never : ⊥ = cc clash in never)

-- a call with none after which it goes on
pub none_more : (e : Fault) → none_mild e ≡ true → wants_numbers e ≡ true
none_more e is = absurd (let clash : false ≡ true = is in cc clash)

-- a call that wants no page numbers
pub no_numbers : {D : Type 0} (d : Ghosts D) {late : Bool} {m : Fault → Bool} {v : PageWriter} {old : D} {w : PageWriter} {new : D} {f : Fault} → m Capacity ≡ false → Logs d late m v old w new (Some f) → f ≢ Capacity
no_numbers {D} d {late} {m} {v} {old} {w} {new} {f} none one is =
    let moved : Logs d late m v old w new (Some Capacity) = subst (λ (x : Fault). Logs d late m v old w new (Some x)) is one in
    let clash : false ≡ true = sym none ∙ moved.ends.0 in
    cc clash

pub lacks_numbers : {D : Type 0} (d : Ghosts D) {m : Fault → Bool} {v : PageWriter} {old : D} {w : PageWriter} {new : D} → Ends d AreLoaded m v old w new None → Logs d true wants_numbers v old w new (Some Capacity)
lacks_numbers {D} d {m} {v} {old} {w} {new} one = record { ready = one.ready; frames = one.frames; ends = (refl, one.ends) }

-- the record of a key over a writer that works
pub put_logs : {D : Type 0} (d : Ghosts D) {v : PageWriter} {old : D} {w : PageWriter} {new : D} {why : Option Fault} → v.failed ≡ false → Logs d false no_page v old w new why → Logs d true wants_numbers v old w new why
put_logs {D} d {v} {old} {w} {new} {why} works one = record { ready = one.ready; frames = one.frames; ends = by why one.ends }
  where
    by : (o : Option Fault) → LogEnds d false no_page v old w new o → LogEnds d true wants_numbers v old w new o
    by None ends = ends
    by (Some Failed) ends = absurd (let clash : false ≡ true = sym works ∙ ends.0 in let never : ⊥ = cc clash in never)
    by (Some NotAStore) ends = record { began = ends.1.began; works = ends.1.works; alive = ends.1.alive }
    by (Some Device) ends = ends
    by (Some LogFull) ends = ends
    by (Some f) ends = absurd (let clash : false ≡ true = ends.0 in let never : ⊥ = cc clash in never)

-- and so it never fails
pub put_works : {D : Type 0} (d : Ghosts D) {A : Type 0} {v : PageWriter} {old : D} {w : PageWriter} {new : D} (r : Result A Fault) → v.failed ≡ false → Logs d false no_page v old w new (fault_of r) → IfErr r (λ e. e ≢ Failed)
put_works {D} d {A} {v} {old} {w} {new} (Ok a) works one = tt
put_works {D} d {A} {v} {old} {w} {new} (Err e) works one = log_works d works one

-- what is laid down has no refusal for want of memory or pages
pub laid_never : {D : Type 0} (d : Ghosts D) {v : PageWriter} {old : D} {w : PageWriter} {new : D} {f : Fault} → Logs d true wants_numbers v old w new (Some f) → (f ≡ Memory) ⊎ (f ≡ PagesFull) → ⊥
laid_never {D} d {v} {old} {w} {new} {f} one (inl is) =
    let moved : Logs d true wants_numbers v old w new (Some Memory) = subst (λ (x : Fault). Logs d true wants_numbers v old w new (Some x)) is one in
    let clash : false ≡ true = moved.ends.0 in
    cc clash
laid_never {D} d {v} {old} {w} {new} {f} one (inr is) =
    let moved : Logs d true wants_numbers v old w new (Some PagesFull) = subst (λ (x : Fault). Logs d true wants_numbers v old w new (Some x)) is one in
    let clash : false ≡ true = moved.ends.0 in
    cc clash

pub numbers_more : (max : ℕ) (e : Fault) → wants_numbers e ≡ true → mild_to_split (Some max) e ≡ true
numbers_more max Capacity is = refl
numbers_more max e is = absurd (let clash : false ≡ true = is in cc clash)

-- the first page of a change that was refused for want of memory, in front of it
pub first_late : {D : Type 0} (d : Ghosts D) (b : Base) (base : ℕ) (s : Writer) (e : ℕ) (v : PageWriter) (old : D) (w : PageWriter) (new : D) (f g : Fault) → StandsAs d b base s v old → s.redo_end ≡ Some e → v.failed ≡ false → Logs d false mild v old w new (Some f)
    → (f ≡ Memory → g ≡ Failed) → (f ≢ Memory → g ≡ f) → g ≡ Failed → Evicted d b base s old w new
first_late {D} d b base s e v old w new f g stands over works one memory other is = by (late_why f g memory other is)
  where
    by : (f ≡ Memory) ⊎ (f ≡ Failed) → Evicted d b base s old w new
    by (inl short) = let moved : Logs d false mild v old w new (Some Memory) = subst (λ (x : Fault). Logs d false mild v old w new (Some x)) short one in moved.ends.1.goes b base s stands (stands_ready d b base s e v old stands over)
    by (inr failed) = absurd (log_works d works one failed)

module _ {D : Type 0} (d : Ghosts D) (b : Base) (base : ℕ) where
  -- ---- what was laid down is logged

  module _ (s : Writer) (e t last undo_next : ℕ) (key : Key) (rid : ℕ) (dense : Bool) (max : ℕ) (beside : Beside) (coming : Coming) (w : PageWriter) (disk : D) (may : MayCome d b base s e t last undo_next key dense max beside coming w disk) (owner : 1 ≤ t) where
    pub from : Evicted d b base s may.since w disk
    from = going_evicted d b base s e t last undo_next may.start may.since may.going may.calls

    so_far : LeavesEdit d b base s t may.since disk
    so_far = going_left d b base s e t last undo_next may.start may.since may.going may.calls

    pub comes_as : (known : Coming) → coming ≡ known → IsComing (settled_pages b s) beside key dense max (contents b s.log) known
    comes_as known is = subst (IsComing (settled_pages b s) beside key dense max (contents b s.log)) is may.comes

    pub going_now : IsGoingOn d b base from.now e t last undo_next w disk
    going_now = going_on d b base s e t last undo_next may.start may.since may.going owner from.now w disk from.on

    -- it is there
    pub logs_there : coming ≡ There → ComingLogKept d b base s e t last undo_next key rid dense max beside coming may.since w disk (Ok inserting.TheVariants.There)
    logs_there is = let found = comes_as There is in record { laid = sym (ap (begins true) is); sound = (found.0, found.1, from); stops = so_far; used_up = tt; begun = tt }

    -- page numbers are used up
    pub logs_none : coming ≡ UsedUp → ComingLogKept d b base s e t last undo_next key rid dense max beside coming may.since w disk (Err Capacity)
    logs_none is = record { laid = tt; sound = λ same. (let never : ⊥ = cc same in never); stops = so_far; used_up = λ same. is; begun = λ same. absurd (let never : ⊥ = cc same in never) }

    -- its leaf has room
    module _ (page : ℕ) (is : coming ≡ Fits page) where
      fits : KeyFits (settled_pages b s) beside key (contents b s.log) page
      fits = comes_as (Fits page) is

      pub may_put_fits : MayPut d b base from.now e t last undo_next page key w disk
      may_put_fits = may_put_on d b base s e t last undo_next may.start may.since may.going owner from.now w disk from.on key (may.free page is) page (may.told.apart page fits.apart) fits.way fits.absent fits.room

      behind : (new : D) → LeavesEdit d b base from.now t disk new → LeavesEdit d b base s t may.since new
      behind new stops = left_on d b base s e t last undo_next may.start may.since may.going owner from.now w disk from.on may.calls new stops

      pub logs_put : (lsn : ℕ) (x : PageWriter) (new : D) → KeyLogKept d b base from.now e t last page (InsertKey key rid) disk x new (Ok lsn) → ComingLogKept d b base s e t last undo_next key rid dense max beside coming may.since x new (Ok (inserting.TheVariants.Put lsn))
      logs_put lsn x new kept = record {
        laid = sym (ap (begins true) is);
        sound = record {
          absent = fits.absent;
          page = page;
          apart = fits.apart;
          room = record { page = page; way = fits.way; room = fits.room };
          logged = logged_on d b base s e t last undo_next may.start may.since may.going owner from.now w disk from.on page (InsertKey key rid) lsn x new kept.sound;
        };
        stops = behind new kept.stops;
        used_up = tt;
        begun = tt;
      }

      pub put_fails : (f : Fault) (x : PageWriter) (new : D) (r : Result Inserting Fault) → IsErrAnd r (λ y. y ≡ f) → f ≢ Capacity → f ≢ Failed → KeyLogKept d b base from.now e t last page (InsertKey key rid) disk x new (Err f)
          → ComingLogKept d b base s e t last undo_next key rid dense max beside coming may.since x new r
      put_fails f x new (Ok y) same numbers failed kept = absurd same
      put_fails f x new (Err y) same numbers failed kept = record { laid = tt; sound = λ z. kept.sound (sym same ∙ z); stops = behind new kept.stops; used_up = λ z. absurd (numbers (sym same ∙ z)); begun = λ z. absurd (failed (sym same ∙ z)) }

    -- it is split first
    module _ (plan : PlannedChange) (leaf : ℕ) (is : coming ≡ Splits plan leaf) (begun : BegunChange) (same : (begun.change.images ≡ plan.images) × (begun.change.done ≡ 0)) (whose : (begun.change.transaction ≡ t) × (begun.change.last ≡ last) × (begun.change.undo_next ≡ undo_next))
        (counts : begun.count ≡ plan.count) where
      splits : KeySplits (settled_pages b s) beside key dense max (contents b s.log) plan leaf
      splits = comes_as (Splits plan leaf) is

      grown : (new : D) → LeavesGrown d b base from.now disk new → LeavesEdit d b base s t may.since new
      grown new stops = left_on d b base s e t last undo_next may.start may.since may.going owner from.now w disk from.on may.calls new (left_edit d b base from.now t disk new (left_images d b base from.now t disk new going_now.lawful stops))

      pub logs_split : (more : BegunChange) (x : PageWriter) (new : D) → FirstKept d b base from.now begun disk x new (Ok more) → more.count ≡ begun.count
          → ComingLogKept d b base s e t last undo_next key rid dense max beside coming may.since x new (Ok (inserting.TheVariants.Split more leaf))
      logs_split more x new kept count = record {
        laid = sym (ap (begins true) is);
        sound = insert_begun d b base s e t last undo_next may.start may.since may.going owner beside may.told key dense max plan leaf splits from.now w disk from.on begun same.0 same.1 whose.0 whose.1 whose.2 counts more x new kept.sound count;
        stops = grown new kept.stops;
        used_up = tt;
        begun = tt;
      }

      pub split_fails : (f : Fault) (x : PageWriter) (new : D) (r : Result Inserting Fault) → IsErrAnd r (λ y. y ≡ f) → f ≢ Capacity → FirstKept d b base from.now begun disk x new (Err f)
          → ComingLogKept d b base s e t last undo_next key rid dense max beside coming may.since x new r
      split_fails f x new (Ok y) that numbers kept = absurd that
      split_fails f x new (Err y) that numbers kept = record {
        laid = tt;
        sound = λ z. kept.sound (sym that ∙ z);
        stops = grown new kept.stops;
        used_up = λ z. absurd (numbers (sym that ∙ z));
        begun = λ z. (plan, leaf, is, (let two = kept.late (sym that ∙ z) in record { now = two.now; on = goes_on_then d b base s may.since from.now w disk from.on two.now x new two.on }));
      }

  -- ---- the whole

  module _ (s : Writer) (e t last undo_next : ℕ) (key : Key) (rid : ℕ) (dense : Bool) (max : ℕ) (beside : Beside) (table : Table) (v : PageWriter) (old : D) (may : MayEditBeside d b base s e t last undo_next (Insert key rid) beside table v old) (owner : 1 ≤ t) where
    pub has_tree_but : HasWholeTreeBut d (settled_pages b s) beside v old
    has_tree_but = going_tree d b base s e t last undo_next v old may.going beside may.told

    pub map_beside : walk (bodies_of (settled_pages b s)) ≡ entries (contents b s.log)
    map_beside = settled_walk b s.log may.going.lawful

    module _ (new : Table) (w : PageWriter) (disk : D) where
      abbrev Kept : Result (Sight (LockAnswer Coming)) Fault → Type 0
      Kept r = ComingKept true (settled_pages b s) beside t key rid dense max (contents b s.log) table new r

      -- refused in front of the grant
      pub beside_refused : (f : Fault) → Ends d AreLoaded (mild_to_split (Some max)) v old w disk (Some f) → f ≢ Capacity → Kept (Err f) → (r : Result (Sight (LockAnswer Inserting)) Fault) → IsErrAnd r (λ y. y ≡ f)
          → InsertBesideKept d b base s e t last undo_next key rid dense max beside table new old w disk r
      beside_refused f one numbers kept (Ok x) is = absurd is
      beside_refused f one numbers kept (Err y) is = subst (λ (z : Fault). InsertBesideKept d b base s e t last undo_next key rid dense max beside table new old w disk (Err z)) (sym is) (record {
        sound = kept.sound;
        stops = going_left d b base s e t last undo_next v old may.going one;
        full = kept.full;
        used_up = λ same. absurd (numbers same);
        limited = tt;
        begun = λ same. absurd (never_failed d f may.going.stands.working one same);
        first = λ bars. (tt, (kept.first bars).1);
      })

      module _ (one : Ends d AreLoaded (mild_to_split (Some max)) v old w disk None) (sight : Sight (LockAnswer Coming)) (kept : Kept (Ok sight)) where
        at : Evicted d b base s old w disk
        at = going_evicted d b base s e t last undo_next v old may.going one

        left : LeavesEdit d b base s t old disk
        left = going_left d b base s e t last undo_next v old may.going one

        pub beside_hidden : sight ≡ Hidden → InsertBesideKept d b base s e t last undo_next key rid dense max beside table new old w disk (Ok Hidden)
        beside_hidden is =
            let why = subst (IfSeen (IsComingDecided true (IsComing (settled_pages b s) beside key dense max (contents b s.log)) table t key rid (contents b s.log) new) (TreeCause (settled b s.log) beside (Insert key rid) (contents b s.log) × (new ≡ table))) is kept.sound in
            record { sound = (why.0, why.1, at); stops = left; full = tt; used_up = tt; limited = tt; begun = tt; first = λ bars. (tt, tt) }

        module _ (answer : LockAnswer Coming) (seen : sight ≡ Seen answer) where
          decided : IsComingDecided true (IsComing (settled_pages b s) beside key dense max (contents b s.log)) table t key rid (contents b s.log) new answer
          decided = subst (IfSeen (IsComingDecided true (IsComing (settled_pages b s) beside key dense max (contents b s.log)) table t key rid (contents b s.log) new) (TreeCause (settled b s.log) beside (Insert key rid) (contents b s.log) × (new ≡ table))) seen kept.sound

          within : get (contents b s.log) key ≡ None → IsLimited dense (settled b s.log) key max
          within = subst (IfSeen (λ _. get (contents b s.log) key ≡ None → IsLimited dense (settled b s.log) key max) (Unit {0})) seen kept.limited

          -- the change beside bars nothing
          not_barred : Bars (settled b s.log) beside (Insert key rid) (contents b s.log) → ⊥
          not_barred bars = subst (IfSeen (λ x. ⊥) (Unit {0})) seen (kept.first bars).0

          pub beside_waits : (holder : ℕ) → answer ≡ Wait holder → InsertBesideKept d b base s e t last undo_next key rid dense max beside table new old w disk (Ok (Seen (Wait holder)))
          beside_waits holder is = record {
            sound = (subst (IsComingDecided true (IsComing (settled_pages b s) beside key dense max (contents b s.log)) table t key rid (contents b s.log) new) is decided, at);
            stops = left;
            full = tt;
            used_up = tt;
            limited = within;
            begun = tt;
            first = λ bars. absurd (not_barred bars);
          }

          pub beside_dies : answer ≡ Die → InsertBesideKept d b base s e t last undo_next key rid dense max beside table new old w disk (Ok (Seen Die))
          beside_dies is = record {
            sound = (subst (IsComingDecided true (IsComing (settled_pages b s) beside key dense max (contents b s.log)) table t key rid (contents b s.log) new) is decided, at);
            stops = left;
            full = tt;
            used_up = tt;
            limited = within;
            begun = tt;
            first = λ bars. absurd (not_barred bars);
          }

          -- it is granted
          module _ (coming : Coming) (granted : answer ≡ Granted coming) where
            pub asks : Decides table t (asks_of true coming key rid (contents b s.log)) GrantedAll new × IsComing (settled_pages b s) beside key dense max (contents b s.log) coming
            asks = subst (IsComingDecided true (IsComing (settled_pages b s) beside key dense max (contents b s.log)) table t key rid (contents b s.log) new) granted decided

            pub asks_as : (known : Coming) → coming ≡ known → Decides table t (asks_of true known key rid (contents b s.log)) GrantedAll new
            asks_as known is = subst (λ (x : Coming). Decides table t (asks_of true x key rid (contents b s.log)) GrantedAll new) is asks.0

            pub comes_known : (known : Coming) → coming ≡ known → IsComing (settled_pages b s) beside key dense max (contents b s.log) known
            comes_known known is = subst (IsComing (settled_pages b s) beside key dense max (contents b s.log)) is asks.1

            abbrev pub may_come : MayCome d b base s e t last undo_next key dense max beside coming w disk
            may_come = record {
              start = v;
              since = old;
              going = may.going;
              told = may.told;
              free = λ page is. may.free (Put key rid) (asks_as (Fits page) is).0 (ap (λ (o : Option ℕ). cond (is_some o) [] (Put key rid ∷ [])) (comes_known (Fits page) is).absent);
              calls = one;
              comes = asks.1;
            }

            pub beside_granted : (x : Inserting) (y : PageWriter) (end : D) → ComingLogKept d b base s e t last undo_next key rid dense max beside coming old y end (Ok x) → InsertBesideKept d b base s e t last undo_next key rid dense max beside table new old y end (Ok (Seen (Granted x)))
            beside_granted x y end log = record {
              sound = (asked_by b s t key rid table new x (subst (λ (begins : Bool). Decides table t (asks_row begins key rid (contents b s.log)) GrantedAll new) (sym log.laid) asks.0), log.sound);
              stops = log.stops;
              full = tt;
              used_up = tt;
              limited = within;
              begun = tt;
              first = λ bars. absurd (not_barred bars);
            }

            -- it could not be logged
            pub beside_fails : (f : Fault) (y : PageWriter) (end : D) → f ≢ PagesFull → ComingLogKept d b base s e t last undo_next key rid dense max beside coming old y end (Err f) → (r : Result (Sight (LockAnswer Inserting)) Fault) → IsErrAnd r (λ z. z ≡ f)
                → InsertBesideKept d b base s e t last undo_next key rid dense max beside table new old y end r
            beside_fails f y end never log (Ok x) is = absurd is
            beside_fails f y end never log (Err z) is = subst (λ (q : Fault). InsertBesideKept d b base s e t last undo_next key rid dense max beside table new old y end (Err q)) (sym is) (record {
              sound = log.sound;
              stops = log.stops;
              full = λ same. absurd (never same);
              used_up = λ same. (let used = log.used_up same in let none = comes_known UsedUp used in (none.absent, none.lacks, none.used_up, asks_as UsedUp used));
              limited = tt;
              begun = λ same. (let it = log.begun same in let split = comes_known (Splits it.0 it.1) it.2 in (split.absent, split.lacks, asks_as (Splits it.0 it.1) it.2, it.3));
              first = λ bars. absurd (not_barred bars);
            })
