-- A delete whose change is made at once, where none is under way.
use Rattle.std.proofs.Common.{◌≡◌, ◌≢◌, inl, ◌≤◌, ℕ, Bool, false, true, [], ◌∷◌, length, Option, None, Some, Result, Ok, Err, refl, sym, ◌∙◌, ap, subst, ◌==◌}
use Rattle.std.specs.Prelude.{◌⊎◌, IsErrAnd}
use Rattle.std.specs.FinMap.{get}
use Rattle.std.proofs.Math.Path.{fun_ext}
use Rattle.std.proofs.lemmas.Bool.{cond-true, eq-eqb}
use Rattle.im_base_types.specs.declared.fault.Fault.{Fault}
use Rattle.im_base_types.specs.declared.fault.Fault.TheVariants.{Failed, Memory}
use Rattle.im_base_types.specs.Keys.{Key}
use Rattle.im_base_types.specs.Maps.{without_key}
use Rattle.im_base_types.specs.Pages.{Body}
use Rattle.im_base_types.specs.Answers.{Delete}
use Rattle.im_base_types.specs.Records.{DeleteKey}
use Rattle.im_theory_log.specs.Histories.{Base, History}
use Rattle.im_theory_log.specs.Lawful.{IsLawful, IsNotIn, resumes}
use Rattle.im_theory_log.specs.Structure.{open_smo, settled}
use Rattle.im_theory_log.specs.Transactions.{contents}
use Rattle.im_theory_log.specs.Tree.{with_entries}
use Rattle.im_theory_log.specs.Writer.{Writer}
use Rattle.im_base_disk.specs.declared.disk.Disk.{Ghosts}
use Rattle.im_page_writer.specs.declared.page_writer.PageWriter.{PageWriter}
use Rattle.im_page_writer.specs.Outcome.{mild, Logs}
use Rattle.im_page_writer.specs.PageWriter.{Evicted}
use Rattle.im_page_writer.proofs.Cited.{err_on, sound_on}
use Rattle.im_theory_tree.specs.Good.{IsGoodTree}
use Rattle.im_theory_tree.specs.Levels.{Pages, walk}
use Rattle.im_theory_tree.specs.Search.{IsOnWay}
use Rattle.im_theory_tree.specs.Theory.{page_tree}
use Rattle.im_theory_tree.specs.Ways.{KeepsWays, with_leaf}
use Rattle.im_theory_tree.proofs.WayBlind.{carried_dropped}
use Rattle.im_theory_steps.specs.Steps.{key_record}
use Rattle.im_theory_machine.specs.Rows.{asked}
use Rattle.im_theory_machine.specs.Table.{Table, Decides}
use Rattle.im_theory_machine.specs.declared.verdict.Verdict.TheVariants.{Granted as GrantedAll}
use Rattle.im_tree_search.specs.declared.change_beside.Beside.{Beside}
use Rattle.im_tree_search.specs.declared.sight.Sight.{Sight}
use Rattle.im_tree_search.specs.declared.sight.Sight.TheVariants.{Seen, Hidden}
use Rattle.im_tree_search.specs.Levels.{bodies}
use Rattle.im_smo_pages.specs.Images.{held}
use Rattle.im_smo_pages.specs.OnWay.{IsApart}
use Rattle.im_smo_log.specs.Changes.{ChangeKept, Changed, HasRecordOf, LeavesChange, MayChange, image_marks}
use Rattle.im_smo_log.proofs.Others.{key_pages}
use Rattle.im_smo_log.proofs.Runs.{marked_is}
use Rattle.im_smo_split.proofs.OneLeaf.{one_leaf}
use Rattle.im_smo_actions.specs.declared.begun_change.BegunChange.{BegunChange}
use Rattle.im_smo_actions.specs.DropPlan.{IsSpare}
use Rattle.im_smo_actions.specs.Structure.{IsUnfinished, Restructured}
use Rattle.im_smo_actions.proofs.Told.{none_is_told}
use Rattle.im_engine_access.specs.declared.begun.Deleting.{Deleting}
use Rattle.im_engine_access.specs.declared.begun.Deleting.TheVariants as goes
use Rattle.im_engine_access.specs.declared.lock_answer.LockAnswer.{LockAnswer}
use Rattle.im_engine_access.specs.declared.lock_answer.LockAnswer.TheVariants.{Granted, Wait, Die}
use Rattle.im_engine_access.specs.declared.noted.Noted.{Noted}
use Rattle.im_engine_access.specs.Edits.{Deleted, DeleteKept, HasOne, MayEdit}
use Rattle.im_engine_access.specs.EditsBeside.{DeleteBegun, DeleteBesideKept, IsDeleteBeside, IsDeleting, MayEditBeside}
use Rattle.im_engine_access.specs.KeyLogs.{LeavesEdit}
use Rattle.im_engine_access.proofs.Deletes.{deleted_here, deleted_spare, late_cause, log_works, stops_behind}
use Rattle.im_engine_access.proofs.EditsBeside.{none_left}
use Rattle.im_engine_access.proofs.KeyLogs.{good_pages, is_going_on, leaf_has, open_longer, settled_are, settled_longer, still_closed}
use Rattle.im_engine_access.proofs.NoneBeside.{cause_none}

-- what came to nothing else than it may is told as failed
pub failed_after : {D : Type 0} (d : Ghosts D) {m n : Fault → Bool} {v : PageWriter} {old : D} {w : PageWriter} {mid : D} → Logs d false m v old w mid None → Logs d true n v old w mid (Some Failed)
failed_after {D} d {m} {n} {v} {old} {w} {mid} one = record { ready = one.ready; frames = one.frames; ends = record { began = one.ends.began; works = one.ends.works; alive = one.ends.alive } }

-- ---- the change that begins, made at once

module _ {D : Type 0} (d : Ghosts D) (b : Base) (base : ℕ) (s : Writer) (e t last : ℕ) (law : IsLawful b page_tree s.log) (key : Key) (beside : Beside) (owner : 1 ≤ t) (begun : BegunChange) (w : PageWriter) (mid : D) (was : DeleteBegun d b base s e t last key beside begun w mid) where
  abbrev after : Writer
  after = was.logged.now

  alone : IsUnfinished d b base after e t was.lsn was.lsn w mid
  alone = still_closed d b base s e t last was.page (DeleteKey key was.rid) was.lsn w mid was.closed was.logged

  -- the settled pages are the writer's
  settled_after : settled b after.log ≡ bodies after
  settled_after = settled_are d b base after e t was.lsn was.lsn w mid alone

  pub may_run : MayChange d b base after e begun.change.images begun.change.transaction begun.change.last begun.change.undo_next w mid
  may_run =
      let c = begun.change in
      let under = was.goes in
      record {
        stands = alone.stands;
        over = alone.over;
        lawful = alone.lawful;
        closed = alone.closed;
        newest = under.last;
        undo = sym (ap (resumes after.log c.transaction) alone.closed) ∙ under.leads;
        unfinished = under.unfinished;
        some = c.counted.0;
        good = subst (λ (f : Pages). IsGoodTree (held f c.images) []) settled_after under.stands.good;
        same = subst (λ (f : Pages). walk (held f c.images) ≡ walk f) settled_after under.stands.same;
        ways = subst (λ (f : Pages). KeepsWays f (held f c.images) (IsApart c.images)) settled_after under.stands.ways;
      }

  -- ---- the leaf that it is for

  law_after : IsLawful b page_tree (key_record t last was.lsn was.page (DeleteKey key was.rid) ∷ was.logged.before)
  law_after = subst (IsLawful b page_tree) was.logged.is was.logged.stands.lawful

  before_same : settled b was.logged.before ≡ settled b s.log
  before_same = settled_longer b s.log was.logged.before was.logged.images

  the_way : IsOnWay (settled b s.log) 0 key was.page
  the_way = subst (λ (f : Pages). IsOnWay f 0 key was.page) before_same law_after.1.may.can_drop.leaf

  good : IsGoodTree (settled b s.log) []
  good = good_pages b s.log law

  out : IsNotIn was.page (open_smo was.logged.before)
  out = subst (λ (l : History). IsNotIn was.page l) (sym (open_longer b s.log was.logged.before was.logged.images ∙ was.closed)) tt

  gone : settled b after.log ≡ with_leaf (settled b s.log) was.page (without_key key (settled b s.log was.page).entries)
  gone =
      ap (λ (l : History). settled b l) was.logged.is
      ∙ sym (key_pages b (key_record t last was.lsn was.page (DeleteKey key was.rid)) was.logged.before (without_key key) (DeleteKey key was.rid) (λ l g. refl) refl refl out)
      ∙ ap (λ (f : Pages). with_leaf f was.page (without_key key (f was.page).entries)) before_same

  here : was.one.page ≡ was.page
  here = one_leaf (settled b s.log) [] key was.one.page was.page good was.one.way the_way

  none_is : without_key key (settled b s.log was.page).entries ≡ []
  none_is =
      none_left key was.rid (settled b s.log was.page).entries (subst (λ (p : ℕ). length (settled b s.log p).entries ≡ 1) here was.one.one)
      (leaf_has b s.log law key was.page the_way ∙ was.there)

  empty : (settled b after.log was.page).entries ≡ []
  empty =
      ap (λ (f : Pages). (f was.page).entries) gone
      ∙ ap (λ (x : Body). x.entries) (cond-true (was.page == was.page) (with_entries (settled b s.log was.page) (without_key key (settled b s.log was.page).entries)) (settled b s.log was.page) (eq-eqb was.page was.page refl))
      ∙ none_is

  way_after : IsOnWay (settled b after.log) 0 key was.page
  way_after =
      let kept = carried_dropped (settled b s.log) (settled b s.log) (λ (q : ℕ). Unit {0}) was.page key good (record { good = good; same = refl; ways = λ k q on any. on }) tt the_way in
      subst (λ (f : Pages). IsOnWay f 0 key was.page) (sym gone) (kept.ways key was.page the_way tt)

  -- it has no entry now
  spare_after : IsSpare (bodies after) key
  spare_after = subst (λ (f : Pages). IsSpare f key) settled_after (record { page = was.page; way = way_after; other = subst (λ (p : ℕ). p ≢ 1) here was.one.under; none = empty })

  -- ---- the change is made

  abbrev IsMade : (u m l : ℕ) → PageWriter → D → Type 0
  IsMade u m l x new = (made : Restructured d b base after e u l m x new) × HasRecordOf u made.grows.more

  made_as : (u m l : ℕ) (x : PageWriter) (new : D) → Changed d b base after e begun.change.images u m l mid x new → IsMade u m l x new
  made_as u m l x new ch = (
    record {
      now = ch.now;
      stands = record { stands = ch.stands; over = ch.over; lawful = ch.lawful; closed = ch.closed; newest = ch.last; undo = ch.undo; unfinished = ch.unfinished };
      point = ch.point;
      durable = ch.durable;
      grows = ch.grows;
      same = ap walk (fun_ext ch.pages) ∙ may_run.same;
    },
    marked_is u ch.grows.more None (image_marks (length begun.change.images) begun.change.images) ch.grows.all ch.order,
  )

  pub run_done : (l n : ℕ) → n ≡ begun.change.undo_next → (x : PageWriter) (new : D) → ChangeKept d b base after e begun.change.images begun.change.transaction begun.change.undo_next mid x new (Ok l)
      → Deleted d b base s e t last key (record { last = l; undo_next = n }) x new
  run_done l n leads x new kept =
      let made : IsMade t was.lsn l x new =
      subst (λ (m : ℕ). IsMade t m l x new) was.leads (subst (λ (u : ℕ). IsMade u begun.change.undo_next l x new) was.owner (made_as begun.change.transaction begun.change.undo_next l x new kept.sound)) in
      subst (λ (m : ℕ). Deleted d b base s e t last key (record { last = l; undo_next = m }) x new) (sym (leads ∙ was.leads))
      (deleted_spare d b base s e t last was.page key was.rid owner was.there was.lsn w mid was.logged was.closed l x new made.0 spare_after made.1)

  pub run_left : (old new : D) → LeavesEdit d b base s t old mid → LeavesChange d b base after begun.change.transaction mid new → LeavesEdit d b base s t old new
  run_left old new first stops =
      stops_behind d b base s e t last was.page key was.rid owner was.lsn old w mid new was.logged first (subst (λ (u : ℕ). LeavesChange d b base after u mid new) was.owner stops)

-- ---- the whole delete

module _ {D : Type 0} (d : Ghosts D) (b : Base) (base : ℕ) (s : Writer) (e t last undo_next : ℕ) (v : PageWriter) (old : D) (key : Key) (table new : Table) (may : MayEdit d b base s e t last undo_next (Delete key) table v old) (owner : 1 ≤ t) (beside : Beside) (none : beside.pages.now ≡ []) where
  pub may_beside : MayEditBeside d b base s e t last undo_next (Delete key) beside table v old
  may_beside = record { going = is_going_on d b base s e t last undo_next v old may.unfinished; told = none_is_told b beside s.log none may.unfinished.closed; free = may.free }

  settled_here : settled b s.log ≡ bodies s
  settled_here = settled_are d b base s e t last undo_next v old may.unfinished

  module _ (w : PageWriter) (mid : D) where
    -- nothing was laid down
    pub not_laid : (f : Fault) (result : Result (LockAnswer (Option Noted)) Fault) → IsErrAnd result (λ x. x ≡ f) → Logs d false mild v old w mid (Some f) → DeleteBesideKept d b base s e t last key beside table new old w mid (Err f)
        → DeleteKept d b base s e t last key table new old w mid result
    not_laid f result is one k = record {
      sound = sound_on result f _ is k.sound;
      stops = k.stops;
      begun = err_on result f (λ x. x ≡ Failed → (get (contents b s.log) key ≢ None) × Decides table t (asked (Delete key) (contents b s.log)) GrantedAll new × (HasOne (bodies s) key ⊎ Evicted d b base s old w mid)) is
          (λ failed. absurd (log_works d may.unfinished.stands.working one failed));
    }

    module _ (sight : Sight (LockAnswer Deleting)) (k : DeleteBesideKept d b base s e t last key beside table new old w mid (Ok sight)) where
      -- nothing is hidden
      pub never_hidden : sight ≡ Hidden → ⊥
      never_hidden is =
          let why = subst (λ (x : Sight (LockAnswer Deleting)). IsDeleteBeside d b base s e t last key beside table new old w mid x) is k.sound in
          cause_none (settled b s.log) beside (Delete key) (contents b s.log) none why.0

      module _ (answer : LockAnswer Deleting) (seen : sight ≡ Seen answer) where
        says : (a : LockAnswer Deleting) → answer ≡ a → IsDeleteBeside d b base s e t last key beside table new old w mid (Seen a)
        says a is =
            subst (λ (x : LockAnswer Deleting). IsDeleteBeside d b base s e t last key beside table new old w mid (Seen x)) is
            (subst (λ (x : Sight (LockAnswer Deleting)). IsDeleteBeside d b base s e t last key beside table new old w mid x) seen k.sound)

        pub waits : (holder : ℕ) → answer ≡ Wait holder → DeleteKept d b base s e t last key table new old w mid (Ok (Wait holder))
        waits holder is = record { sound = says (Wait holder) is; stops = k.stops; begun = tt }

        pub dies : answer ≡ Die → DeleteKept d b base s e t last key table new old w mid (Ok Die)
        dies is = record { sound = says Die is; stops = k.stops; begun = tt }

        module _ (deleting : Deleting) (granted : answer ≡ Granted deleting) where
          grants : (x : Deleting) → deleting ≡ x → Decides table t (asked (Delete key) (contents b s.log)) GrantedAll new × IsDeleting d b base s e t last key beside old w mid x
          grants x is =
              subst (λ (y : Deleting). Decides table t (asked (Delete key) (contents b s.log)) GrantedAll new × IsDeleting d b base s e t last key beside old w mid y) is (says (Granted deleting) granted)

          pub gone_once : deleting ≡ goes.Gone → DeleteKept d b base s e t last key table new old w mid (Ok (Granted None))
          gone_once is = record { sound = grants goes.Gone is; stops = k.stops; begun = tt }

          pub taken_once : (lsn : ℕ) → deleting ≡ goes.Taken lsn → DeleteKept d b base s e t last key table new old w mid (Ok (Granted (Some (record { last = lsn; undo_next = lsn }))))
          taken_once lsn is =
              let one = grants (goes.Taken lsn) is in
              let by = one.1 in
              record {
                sound = (
                  one.0,
                  deleted_here d b base s e t last by.page key by.rid owner by.there lsn w mid by.logged may.unfinished.closed by.more,
                );
                stops = k.stops;
                begun = tt;
              }

          module _ (begun : BegunChange) (is : deleting ≡ goes.Dropping begun) where
            pub was : DeleteBegun d b base s e t last key beside begun w mid
            was = (grants (goes.Dropping begun) is).1

            pub dropping_once : (l n : ℕ) → n ≡ begun.change.undo_next → (x : PageWriter) (disk : D) → (MayChange d b base was.logged.now e begun.change.images begun.change.transaction begun.change.last begun.change.undo_next w mid
                → ChangeKept d b base was.logged.now e begun.change.images begun.change.transaction begun.change.undo_next mid x disk (Ok l))
                → DeleteKept d b base s e t last key table new old x disk (Ok (Granted (Some (record { last = l; undo_next = n }))))
            dropping_once l n leads x disk run =
                let kept = run (may_run d b base s e t last may.unfinished.lawful key beside owner begun w mid was) in
                record {
                  sound = ((grants (goes.Dropping begun) is).0, run_done d b base s e t last may.unfinished.lawful key beside owner begun w mid was l n leads x disk kept);
                  stops = run_left d b base s e t last may.unfinished.lawful key beside owner begun w mid was old disk k.stops kept.stops;
                  begun = tt;
                }

            pub dropping_late : (f answered : Fault) → (f ≡ Memory → answered ≡ Failed) → (f ≢ Memory → answered ≡ f) → (x : PageWriter) (disk : D)
                → (MayChange d b base was.logged.now e begun.change.images begun.change.transaction begun.change.last begun.change.undo_next w mid
                → ChangeKept d b base was.logged.now e begun.change.images begun.change.transaction begun.change.undo_next mid x disk (Err f))
                → DeleteKept d b base s e t last key table new old x disk (Err answered)
            dropping_late f answered memory others x disk run =
                let kept = run (may_run d b base s e t last may.unfinished.lawful key beside owner begun w mid was) in
                record {
                  sound = late_cause f answered memory others kept.sound;
                  stops = run_left d b base s e t last may.unfinished.lawful key beside owner begun w mid was old disk k.stops kept.stops;
                  begun = λ failed. (
                    λ lacks. (let clash : Some was.rid ≡ None = sym was.there ∙ lacks in cc clash),
                    (grants (goes.Dropping begun) is).0,
                    inl (subst (λ (f : Pages). HasOne f key) settled_here was.one),
                  );
                }
