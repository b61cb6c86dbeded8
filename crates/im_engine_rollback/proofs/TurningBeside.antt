-- A turn beside a structure change: reading, planning, logging and the end, in a row.
use Rattle.std.proofs.Common.{◌≡◌, ◌≢◌, ◌⊎◌, inl, inr, ℕ, Bool, false, true, [], Some, Result, Ok, Err, refl, sym, ◌∙◌, ap, subst}
use Rattle.std.specs.Prelude.{IfErr, IsErrAnd}
use Rattle.im_base_types.specs.declared.fault.Fault.{Fault}
use Rattle.im_base_types.specs.declared.fault.Fault.TheVariants.{Capacity, Memory}
use Rattle.im_theory_log.specs.Copies.{GrowsByImages}
use Rattle.im_theory_log.specs.Histories.{Base}
use Rattle.im_theory_log.specs.Lawful.{IsLawful}
use Rattle.im_theory_log.specs.Structure.{settled}
use Rattle.im_theory_log.specs.Transactions.{net}
use Rattle.im_theory_log.specs.Writer.{Writer}
use Rattle.im_base_disk.specs.declared.disk.Disk.{Ghosts}
use Rattle.im_log_record.specs.Entry.{Entry, page_of, transaction_of}
use Rattle.im_log.specs.Whats.{what_of}
use Rattle.im_log.specs.Spelled.{logged_at}
use Rattle.im_page_writer.specs.declared.page_writer.PageWriter.{PageWriter}
use Rattle.im_page_writer.specs.PageWriter.{Evicted, GoesOn, StandsAs}
use Rattle.im_page_writer.specs.Outcome.{AllPages, AreLoaded, Outcome}
use Rattle.im_page_writer.proofs.Writers.{goes_on_then}
use Rattle.im_theory_tree.specs.Levels.{Pages}
use Rattle.im_theory_tree.specs.Theory.{page_tree}
use Rattle.im_tree_search.specs.declared.change_beside.Beside.{Beside}
use Rattle.im_tree_search.specs.declared.sight.Sight.{Sight}
use Rattle.im_tree_search.specs.declared.sight.Sight.TheVariants.{Seen, Hidden}
use Rattle.im_tree_search.specs.Sights.{is_done}
use Rattle.im_smo_pages.specs.Kept.{mild_to_take}
use Rattle.im_smo_actions.specs.declared.planned_change.PlannedChange.{PlannedChange}
use Rattle.im_smo_actions.specs.GoingBeside.{settled_pages}
use Rattle.im_smo_actions.proofs.Changes.{never_failed}
use Rattle.im_smo_actions.proofs.Standing.{stands_ready}
use Rattle.im_restart_analysis.specs.Losers.{is_loser}
use Rattle.im_restart_undo.specs.declared.back.Back.{Back}
use Rattle.im_restart_undo.specs.declared.back.Back.TheVariants.{Plain, Split, Drop}
use Rattle.im_restart_undo.specs.GoingBeside.{IsGoingBeside}
use Rattle.im_restart_undo.specs.Planning.{BackPlanned, HiddenBack, IsBack, NeedsChange}
use Rattle.im_restart_undo.specs.Undoing.{IsToUndo, LeavesUndo}
use Rattle.im_restart_undo.proofs.Beside.{left_behind, left_beside, settled_longer, settled_pages_stay, taken_behind}
use Rattle.im_restart_undo.proofs.Ends.{left_reading}
use Rattle.im_restart_undo.proofs.Growth.{left_both, left_from, left_images, loser_of, loser_still, owner_some}
use Rattle.im_engine_rollback.specs.declared.logged_back.LoggedBack.{LoggedBack}
use Rattle.im_engine_rollback.specs.declared.logged_back.LoggedBack.TheVariants as backs
use Rattle.im_engine_rollback.specs.declared.undone.Undone.{Undone}
use Rattle.im_engine_rollback.specs.declared.undone.Undone.TheVariants.{More, Ended}
use Rattle.im_engine_rollback.specs.declared.undone_beside.UndoneBeside.{UndoneBeside}
use Rattle.im_engine_rollback.specs.declared.undone_beside.UndoneBeside.TheVariants.{Made, Splits, Drops}
use Rattle.im_engine_rollback.specs.Ends.{may_be_full, TurnOutcome}
use Rattle.im_engine_rollback.specs.EndsBeside.{EndIfUndoneBesideKept}
use Rattle.im_engine_rollback.specs.TurnsBeside.{BackBesideKept, HasMoreBeside, IsLoggedBack, LoggedBackKept, TakesPlain, TookBeside, TurnBesideKept}
use Rattle.im_engine_rollback.proofs.Ends.{never_capacity, never_failed as never_late, never_memory}
use Rattle.im_engine_rollback.proofs.LoggingBack.{evicted_short}

-- one clause for two refusals
pub either_none : {A : Type 0} (r : Result A Fault) (P : Type 0) → IfErr r (λ e. e ≡ Memory → P) → IfErr r (λ e. e ≡ Capacity → P) → IfErr r (λ e. (e ≡ Memory) ⊎ (e ≡ Capacity) → P)
either_none {A} (Ok a) P short used_up = tt
either_none {A} (Err e) P short used_up = λ is. elim is [ inl one ↦ short one | inr two ↦ used_up two ]

-- what is seen was not hidden at first
abbrev pub answered : Sight Back → Result (Sight Back) Fault
answered sight = Ok sight

pub seen_open : (sight : Sight Back) (back : Back) (made : Bool) → sight ≡ Seen back → (made ≡ true → answered sight ≡ answered Hidden) → made ≡ false
seen_open sight back false is first = refl
seen_open sight back true is first = let clash : answered (Seen back) ≡ answered Hidden = ap answered (sym is) ∙ first refl in absurd (cc clash)

-- what is not seen is hidden
pub hidden_is : (sight : Sight LoggedBack) → ((back : LoggedBack) → sight ≡ Seen back → ⊥) → sight ≡ Hidden
hidden_is (Seen back) not = absurd (not back refl)
hidden_is Hidden not = refl

module _ {D : Type 0} (d : Ghosts D) (b : Base) (base : ℕ) where
  -- ---- after calls that only read, or that logged Images

  logged_behind : (s : Writer) (old : D) (now : Writer) (v : PageWriter) (mid : D) → GoesOn d b base s old now v mid → (e t last undo_next : ℕ) (beside : Beside) (entry : Entry) → t ≢ 0 → IsLawful b page_tree s.log
      → (w : PageWriter) (new : D) (back : LoggedBack) → IsLoggedBack d b base now e t last undo_next beside entry mid w new back → IsLoggedBack d b base s e t last undo_next beside entry old w new back
  unfolding taken_behind
  logged_behind s old now v mid on e t last undo_next beside entry some law w new (backs.Taken l n) is = record {
    page = is.page;
    planned = subst (λ (pages : AllPages). IsBack pages beside (what_of entry) (Plain is.page)) (settled_pages_stay d b base s old now v mid on) is.planned;
    taken = taken_behind d b base s old now v mid on e t entry is.page l w new some law is.taken;
    leads = is.leads;
  }
  logged_behind s old now v mid on e t last undo_next beside entry some law w new (backs.Splits change) is = record {
    leaf = is.leaf;
    planned = subst (λ (pages : AllPages). IsBack pages beside (what_of entry) (Split (record { images = change.images; leaf = is.leaf }))) (settled_pages_stay d b base s old now v mid on) is.planned;
    now = is.now;
    on = goes_on_then d b base s old now v mid on is.now w new is.on;
    begins = is.begins;
    count = is.count;
  }
  logged_behind s old now v mid on e t last undo_next beside entry some law w new (backs.Drops change l n) is = record {
    page = is.page;
    planned = subst (λ (pages : AllPages). IsBack pages beside (what_of entry) (Drop is.page change.images)) (settled_pages_stay d b base s old now v mid on) is.planned;
    taken = taken_behind d b base s old now v mid on e t entry is.page l w new some law is.taken;
    leads = is.leads;
    begins = is.begins;
    count = is.count;
  }

  evicted_behind : (s : Writer) (old : D) (now : Writer) (v : PageWriter) (mid : D) → GoesOn d b base s old now v mid → (w : PageWriter) (new : D) → Evicted d b base now mid w new → Evicted d b base s old w new
  evicted_behind s old now v mid on w new ev = record { now = ev.now; on = goes_on_then d b base s old now v mid on ev.now w new ev.on }

  -- ---- the plan of one record

  module _ (s : Writer) (e t last undo_next : ℕ) (beside : Beside) (start : PageWriter) (old : D) (g : IsGoingBeside d b base s e t last undo_next start old) (entry : Entry) (to : IsToUndo d b base s t entry) where
    loaded : AreLoaded s
    loaded = stands_ready d b base s e start old g.stands g.over

    pub plan_hidden : (v : PageWriter) (mid : D) → Evicted d b base s old v mid → HiddenBack (settled b s.log) beside (page_of entry) (what_of entry) → BackBesideKept d b base s e t last undo_next beside old v mid (Ok Hidden)
    plan_hidden v mid ev why = record {
      sound = record { entry = entry; next = to; why = why; evicted = ev };
      stops = left_beside d b base s old ev.now v mid ev.on t g.lawful;
      again = tt;
      short = tt;
      used_up = tt;
      alone = tt;
      early = tt;
    }

    pub plan_refused : (w : PageWriter) (new : D) (f : Fault) → Outcome d AreLoaded mild_to_take start old w new (Some f) → BackPlanned (settled_pages b s) beside (page_of entry) (what_of entry) (Err f)
        → ((f ≡ Memory) ⊎ (f ≡ Capacity) → beside.pages.now ≡ []) → BackBesideKept d b base s e t last undo_next beside old w new (Err f)
    plan_refused w new f one planned alone = record {
      sound = planned.sound;
      stops = left_images d b base s t old new g.lawful (left_reading d b base s g.stands loaded one);
      again = λ is. evicted_short d b base f is one s g.stands loaded;
      short = λ is. record { entry = entry; next = to; needs = planned.short is };
      used_up = λ is. record { entry = entry; next = to; used_up = planned.used_up is };
      alone = alone;
      early = λ is. never_failed d f g.stands.working one is;
    }

    -- and what is logged after it
    module _ (v : PageWriter) (mid : D) (ev : Evicted d b base s old v mid) (w : PageWriter) (new : D) where
      by : GrowsByImages b s.log ev.now.log
      by = ev.on.goes.keeps.log

      pub plan_logged : (back : LoggedBack) → is_done beside (page_of entry) ≡ false → LoggedBackKept d b base ev.now e t last undo_next beside entry mid w new (Ok back) → BackBesideKept d b base s e t last undo_next beside old w new (Ok (Seen back))
      plan_logged back clear k = record {
        sound = record { entry = entry; next = record { next = to; page = clear }; logged = logged_behind s old ev.now v mid ev.on e t last undo_next beside entry (owner_some t g.owner) g.lawful w new back k.sound };
        stops = left_behind d b base s old ev.now v mid ev.on t g.lawful new k.stops;
        again = tt;
        short = tt;
        used_up = tt;
        alone = tt;
        early = tt;
      }

      pub plan_not_logged : (f : Fault) → LoggedBackKept d b base ev.now e t last undo_next beside entry mid w new (Err f) → BackBesideKept d b base s e t last undo_next beside old w new (Err f)
      plan_not_logged f k = record {
        sound = k.sound;
        stops = left_behind d b base s old ev.now v mid ev.on t g.lawful new k.stops;
        again = λ is. evicted_behind s old ev.now v mid ev.on w new (k.again is);
        short = λ is. record { entry = entry; next = to; needs = subst (λ (pages : Pages). NeedsChange pages (what_of entry)) (settled_longer b t s.log ev.now.log by) (k.short is) };
        used_up = λ is. absurd (k.used_up is);
        alone = either_none {A = LoggedBack} (Err f) (beside.pages.now ≡ []) k.alone (λ is. absurd (k.used_up is));
        early = k.early;
      }

  -- ---- the record that is read first

  -- the one record of a transaction, as a record of its own transaction
  pub back_as : (s : Writer) (e t last undo_next : ℕ) (beside : Beside) (entry : Entry) (start : PageWriter) (old : D) (w : PageWriter) (new : D) (result : Result (Sight LoggedBack) Fault) → transaction_of entry ≡ t
      → (IsGoingBeside d b base s e (transaction_of entry) last undo_next start old → IsToUndo d b base s (transaction_of entry) entry → BackBesideKept d b base s e (transaction_of entry) last undo_next beside old w new result)
      → IsGoingBeside d b base s e t last undo_next start old → IsToUndo d b base s t entry → BackBesideKept d b base s e t last undo_next beside old w new result
  back_as s e t last undo_next beside entry start old w new result mine kept =
      subst (λ (n : ℕ). IsGoingBeside d b base s e n last undo_next start old → IsToUndo d b base s n entry → BackBesideKept d b base s e n last undo_next beside old w new result) mine kept

  module _ (s : Writer) (e t last undo_next : ℕ) (beside : Beside) (some : t ≢ 0) (law : IsLawful b page_tree s.log) (old : D) (v : PageWriter) (mid : D) (on : GoesOn d b base s old s v mid) (left : LeavesUndo d b base s t old mid) (w : PageWriter) (new : D) where
    pub back_read : (result : Result (Sight LoggedBack) Fault) → BackBesideKept d b base s e t last undo_next beside mid w new result → BackBesideKept d b base s e t last undo_next beside old w new result
    back_read (Ok (Seen back)) k = record {
      sound = record { entry = k.sound.entry; next = k.sound.next; logged = logged_behind s old s v mid on e t last undo_next beside k.sound.entry some law w new back k.sound.logged };
      stops = left_both d b base s t old mid new left k.stops;
      again = tt;
      short = tt;
      used_up = tt;
      alone = tt;
      early = tt;
    }
    back_read (Ok Hidden) k = record {
      sound = record { entry = k.sound.entry; next = k.sound.next; why = k.sound.why; evicted = evicted_behind s old s v mid on w new k.sound.evicted };
      stops = left_both d b base s t old mid new left k.stops;
      again = tt;
      short = tt;
      used_up = tt;
      alone = tt;
      early = tt;
    }
    back_read (Err f) k = record {
      sound = k.sound;
      stops = left_both d b base s t old mid new left k.stops;
      again = λ is. evicted_behind s old s v mid on w new (k.again is);
      short = k.short;
      used_up = k.used_up;
      alone = k.alone;
      early = k.early;
    }

  -- ---- refusals that are handed on

  module _ (s : Writer) (e t last undo_next : ℕ) (beside : Beside) (old : D) (w : PageWriter) (new : D) (f : Fault) where
    pub logged_on : (entry : Entry) (result : Result LoggedBack Fault) → IsErrAnd result (λ x. x ≡ f) → LoggedBackKept d b base s e t last undo_next beside entry old w new (Err f) → LoggedBackKept d b base s e t last undo_next beside entry old w new result
    logged_on entry (Ok a) is k = absurd is
    logged_on entry (Err x) is k = subst (λ (y : Fault). LoggedBackKept d b base s e t last undo_next beside entry old w new (Err y)) (sym is) k

    pub back_on : (result : Result (Sight LoggedBack) Fault) → IsErrAnd result (λ x. x ≡ f) → BackBesideKept d b base s e t last undo_next beside old w new (Err f) → BackBesideKept d b base s e t last undo_next beside old w new result
    back_on (Ok a) is k = absurd is
    back_on (Err x) is k = subst (λ (y : Fault). BackBesideKept d b base s e t last undo_next beside old w new (Err y)) (sym is) k

    pub turn_on : (ends : Bool) → (result : Result (Sight UndoneBeside) Fault) → IsErrAnd result (λ x. x ≡ f) → TurnBesideKept d b base ends s e t last undo_next beside old w new (Err f) → TurnBesideKept d b base ends s e t last undo_next beside old w new result
    turn_on ends (Ok a) is k = absurd is
    turn_on ends (Err x) is k = subst (λ (y : Fault). TurnBesideKept d b base ends s e t last undo_next beside old w new (Err y)) (sym is) k

  -- ---- the turn

  module _ (s : Writer) (e t last undo_next : ℕ) (beside : Beside) (start : PageWriter) (old : D) (g : IsGoingBeside d b base s e t last undo_next start old) (v : PageWriter) (mid : D) where
    pub turn_refused : (ends : Bool) → (f : Fault) → BackBesideKept d b base s e t last undo_next beside old v mid (Err f) → TurnBesideKept d b base ends s e t last undo_next beside old v mid (Err f)
    turn_refused ends f k = record { sound = k.sound; stops = k.stops; again = k.again; short = k.short; used_up = k.used_up; alone = k.alone; early = k.early }

    pub turn_hidden : (ends : Bool) → BackBesideKept d b base s e t last undo_next beside old v mid (Ok Hidden) → TurnBesideKept d b base ends s e t last undo_next beside old v mid (Ok Hidden)
    turn_hidden ends k = record { sound = k.sound; stops = k.stops; again = tt; short = tt; used_up = tt; alone = tt; early = tt }

    pub turn_splits : (ends : Bool) → (change : PlannedChange) → BackBesideKept d b base s e t last undo_next beside old v mid (Ok (Seen (backs.Splits change))) → TurnBesideKept d b base ends s e t last undo_next beside old v mid (Ok (Seen (Splits change)))
    turn_splits ends change k = record { sound = record { entry = k.sound.entry; next = k.sound.next; splits = k.sound.logged }; stops = k.stops; again = tt; short = tt; used_up = tt; alone = tt; early = tt }

    pub turn_drops : (ends : Bool) → (change : PlannedChange) (l n : ℕ) → BackBesideKept d b base s e t last undo_next beside old v mid (Ok (Seen (backs.Drops change l n))) → TurnBesideKept d b base ends s e t last undo_next beside old v mid (Ok (Seen (Drops change l n)))
    turn_drops ends change l n k = record { sound = record { entry = k.sound.entry; next = k.sound.next; drops = k.sound.logged }; stops = k.stops; again = tt; short = tt; used_up = tt; alone = tt; early = tt }

    -- ---- the end after a compensation

    module _ (l n : ℕ) (k : BackBesideKept d b base s e t last undo_next beside old v mid (Ok (Seen (backs.Taken l n)))) where
      abbrev pub took : TakesPlain d b base s e t l n beside k.sound.entry old v mid
      took = k.sound.logged

      -- undo of the transaction goes on where the record led
      pub goes_on : IsGoingBeside d b base took.taken.now e t l n v mid
      goes_on = subst (λ (x : ℕ). IsGoingBeside d b base took.taken.now e t l x v mid) (sym took.leads) took.taken.going

      pub still_loser : is_loser t took.taken.now.log ≡ true
      still_loser = loser_still t s.log took.taken.now.log took.taken.grows (loser_of t s.log (logged_at k.sound.next.next.lsn k.sound.entry) g.owner g.unfinished k.sound.next.next.next) took.taken.going.unfinished

      module _ (w : PageWriter) (new : D) where
        stops : LeavesUndo d b base took.taken.now t mid new → LeavesUndo d b base s t old new
        stops later = left_both d b base s t old mid new k.stops (left_from d b base s t took.taken.now mid new took.taken.durable took.taken.grows later)

        abbrev still : StandsAs d b base took.taken.now w new → LeavesUndo d b base s t old new → TakesPlain d b base s e t l n beside k.sound.entry old w new
        still stands left = record {
          page = took.page;
          planned = took.planned;
          taken = record {
            now = took.taken.now;
            going = record { stands = stands; over = took.taken.going.over; lawful = took.taken.going.lawful; outside = took.taken.going.outside; owner = took.taken.going.owner; unfinished = took.taken.going.unfinished; row = took.taken.going.row };
            point = took.taken.point;
            durable = took.taken.durable;
            grows = took.taken.grows;
            stops = left;
            lsn = took.taken.lsn;
            stack = took.taken.stack;
            map = took.taken.map;
            once = took.taken.once;
            going_on = took.taken.going_on;
            planned = took.taken.planned;
            pages = took.taken.pages;
          };
          leads = took.leads;
        }

        more : StandsAs d b base took.taken.now w new → LeavesUndo d b base s t old new → net t took.taken.now.log ≢ [] → (m u : ℕ) → m ≡ l → u ≡ n → HasMoreBeside d b base s e t m u beside old w new
        more stands left some m u is at =
            subst (λ (x : ℕ). HasMoreBeside d b base s e t x u beside old w new) (sym is)
            (subst (λ (x : ℕ). HasMoreBeside d b base s e t l x beside old w new) (sym at) (record { entry = k.sound.entry; next = k.sound.next; took = still stands left; left = some }))

        again : StandsAs d b base took.taken.now w new → LeavesUndo d b base s t old new → (m u : ℕ) → m ≡ l → u ≡ n → TookBeside d b base s e t m u beside old w new
        again stands left m u is at =
            subst (λ (x : ℕ). TookBeside d b base s e t x u beside old w new) (sym is)
            (subst (λ (x : ℕ). TookBeside d b base s e t l x beside old w new) (sym at) (record { entry = k.sound.entry; next = k.sound.next; took = still stands left }))

        pub turn_ends : (ends : Bool) (undone : Undone) → EndIfUndoneBesideKept d b base ends took.taken.now e t l n mid w new (Ok undone) → TurnBesideKept d b base ends s e t last undo_next beside old w new (Ok (Seen (Made undone)))
        turn_ends false (More m u) kept = record {
          sound = again kept.sound.2 (stops kept.stops) m u kept.sound.0 kept.sound.1;
          stops = stops kept.stops;
          again = tt;
          short = tt;
          used_up = tt;
          alone = tt;
          early = tt;
        }
        turn_ends false Ended kept = absurd kept.sound
        turn_ends true (More m u) kept = record {
          sound = more kept.sound.3 (stops kept.stops) kept.sound.2 m u kept.sound.0 kept.sound.1;
          stops = stops kept.stops;
          again = tt;
          short = tt;
          used_up = tt;
          alone = tt;
          early = tt;
        }
        turn_ends true Ended kept = record {
          sound = record { entry = k.sound.entry; next = k.sound.next; last = l; undo_next = n; between = v; mid = mid; took = took; none = kept.sound.0; end = kept.sound.1 };
          stops = stops kept.stops;
          again = tt;
          short = tt;
          used_up = tt;
          alone = tt;
          early = tt;
        }

        pub turn_not_ended : (ends : Bool) (f : Fault) → TurnOutcome d may_be_full v w new (Some f) → EndIfUndoneBesideKept d b base ends took.taken.now e t l n mid w new (Err f) → TurnBesideKept d b base ends s e t last undo_next beside old w new (Err f)
        turn_not_ended ends f one kept = record {
          sound = kept.sound;
          stops = stops kept.stops;
          again = never_memory d {A = Undone} _ (Err f) refl one;
          short = never_memory d {A = Undone} _ (Err f) refl one;
          used_up = never_capacity d {A = Undone} _ (Err f) refl one;
          alone = either_none {A = Undone} (Err f) (beside.pages.now ≡ []) (never_memory d {A = Undone} _ (Err f) refl one) (never_capacity d {A = Undone} _ (Err f) refl one);
          early = never_late d {A = Undone} _ (Err f) refl one;
        }
