-- A Checkpoint: its record joins the log after a sync of the file of pages, before which pages may have been written, and every record is durable.
use Rattle.std.proofs.Common.{◌≡◌, inl, inr, ℕ, ◌≤◌, ◌<◌, ◌^◌, List, ◌∷◌, true, false, Option, Some, None, Result, Ok, Err, refl, sym, ap, subst, ◌∙◌, arith}
use Rattle.std.specs.Prelude.{◌⊎◌}
use Rattle.im_base_types.specs.Answers.{Checkpoint, Done, Refused}
use Rattle.im_base_types.specs.Changes.{Effect}
use Rattle.im_theory_log.specs.Histories.{Base, History, end_of}
use Rattle.im_theory_log.specs.Copies.{GrowsByImages}
use Rattle.im_theory_log.specs.Lawful.{IsLawful}
use Rattle.im_base_types.specs.Records.{Logged}
use Rattle.im_theory_log.specs.Transactions.{committed}
use Rattle.im_base_types.specs.declared.fault.Fault.{Fault}
use Rattle.im_base_types.specs.declared.tables.DirtyPage.{DirtyPage}
use Rattle.im_theory_log.specs.Writer.{DirtyEntry, PageState, Writer}
use Rattle.im_theory_log.specs.WriterSteps.{IsIn, Lists, appended, forced, forgotten, forgotten_entry, forgotten_page, passed, synced}
use Rattle.im_base_types.specs.Lives.{Shown}
use Rattle.im_base_disk.specs.declared.disk.Disk.{Ghosts}
use Rattle.im_base_disk.specs.Disk.{Files}
use Rattle.im_base_disk.specs.Runs.{LeavesOnly}
use Rattle.im_base_disk.proofs.Runs.{weakened}
use Rattle.im_page_table.specs.DirtyTable.{dirty_pages, synced_entries, FitsRecord}
use Rattle.im_page_table.specs.Growth.{Keeps}
use Rattle.im_page_table.proofs.Growing.{keeps_none}
use Rattle.im_page_file.specs.Stands.{IsCovered, LeavesCovered}
use Rattle.im_page_writer.specs.Checkpoints.{checkpoint_at, CheckpointFromKept, Checkpointed, CheckpointKept, HasCheckpoint}
use Rattle.im_theory_tree.specs.Theory.{page_tree}
use Rattle.im_engine_checkpoint.specs.Rows.{listed}
use Rattle.im_base_types.specs.Faults.{number_of}
use Rattle.im_theory_machine.specs.View.{View}
use Rattle.im_theory_steps.specs.Growth.{AreBelow, IsCheckpointed, IsAfterCopies}
use Rattle.im_theory_steps.specs.Serving.{IsServing}
use Rattle.im_theory_steps.proofs.Cited.{checkpoints_change_nothing, copies_are_images, images_change_nothing, commits_stand, logged_checkpoints_served, images_keep}
use Rattle.im_engine.specs.declared.engine.Engine.{Engine}
use Rattle.im_engine.specs.Faults.{told_as}
use Rattle.im_engine.specs.Numbered.{Numbered}
use Rattle.im_engine.specs.Stands.{Allowed}
use Rattle.im_engine.specs.Running.{IsRunning, IsLife}
use Rattle.im_engine.specs.Kept.{StepKept}
use Rattle.im_engine.specs.declared.stepped.Under.{Under}
use Rattle.im_engine.specs.Aims.{IsChanging, under_of}
use Rattle.im_engine.proofs.Causes.{few_or_many}
use Rattle.im_engine.proofs.GoingOn.{images_go, record_goes}
use Rattle.im_engine.proofs.Running.{checks_tell, left_on}
use Rattle.im_engine.proofs.Made.{step_made}
use Rattle.im_engine.proofs.Refused.{breaks_with}
use Rattle.im_engine.proofs.Ending.{IsOfLog}

-- the list says the same of the pages after its record, of which no copy counts as known
lists_on : (lsn : ℕ) (pages : ℕ → PageState) (dirty : List DirtyPage) → Lists pages dirty → Lists (λ (q : ℕ). passed lsn (forgotten_page (pages q))) dirty
lists_on lsn pages dirty lists = record {
  all = λ p e is. of p (pages p).entry refl e is;
  each = λ x within. let has = lists.each x within in record { entry = record has.entry { copied = false }; is = ap forgotten_entry has.is; rec_lsn = has.rec_lsn };
}
  where
    of : (p : ℕ) (o : Option DirtyEntry) → (pages p).entry ≡ o → (e : DirtyEntry) → forgotten_entry (pages p).entry ≡ Some e → IsIn (record { page = p; rec_lsn = e.rec_lsn }) dirty
    of p None none e is = absurd (let clash : None ≡ Some e = sym (ap forgotten_entry none) ∙ is in cc clash)
    of p (Some x) some e is =
        let same : Some (record x { copied = false }) ≡ Some e = sym (ap forgotten_entry some) ∙ is in
        let entry : record x { copied = false } ≡ e = cc same in
        let lsn_is : x.rec_lsn ≡ e.rec_lsn = ap (λ (y : DirtyEntry). y.rec_lsn) entry in
        subst (λ (l : ℕ). IsIn (record { page = p; rec_lsn = l }) dirty) lsn_is (lists.all p x some)

module _ {D : Type 0} (d : Ghosts D) (before : List Effect) (s : Shown) (v : View) (old new : Engine D d) (life : IsLife d before s v old) (works : old.failed ≡ false) (dirty : List DirtyPage) where
  abbrev run : (b : Base) × IsRunning d b before s v old
  run = life.running works

  -- its record
  abbrev taken_at : ℕ → Logged
  taken_at lsn = checkpoint_at lsn old.txns.next (listed old.txns.rows) dirty

  -- pages may have been written first, for which Images joined the log
  module _ (between : History) (grows : GrowsByImages run.0 run.1.now.log between) where
    copied : IsAfterCopies run.0 page_tree run.1.now.log between
    copied = copies_are_images page_tree run.0 run.1.now.log between grows

    behind_lawful : IsLawful run.0 page_tree between
    behind_lawful = copied.lawful run.1.lawful

    behind_commits : committed between ≡ committed run.1.now.log
    behind_commits = (images_change_nothing run.0 run.1.now.log between copied.images).0.commits

    behind_serving : IsServing run.0 run.1.earlier before s v between old.txns.rows old.txns.next old.locks
    behind_serving = images_keep run.0 run.1.earlier before s v run.1.now.log between old.txns.rows old.txns.next old.locks run.1.serving copied.images

    -- what its record leaves of the log
    changes : (lsn : ℕ) → end_of run.0 between < lsn → IsCheckpointed run.0 page_tree (taken_at lsn) between
    changes lsn high = checkpoints_change_nothing page_tree run.0 (taken_at lsn) between (record { next = old.txns.next; active = listed old.txns.rows; dirty = dirty; what = refl; no_owner = refl }) high

    -- that log, or it with the record, is lawful, and commits no more
    left_log : (high : History) → (high ≡ between) ⊎ HasCheckpoint run.0 old.txns.next (listed old.txns.rows) dirty between high → IsLawful run.0 page_tree high × (committed high ≡ committed run.1.now.log)
    left_log high (inl same) = (subst (λ (l : History). IsLawful run.0 page_tree l) (sym same) behind_lawful, ap committed same ∙ behind_commits)
    left_log high (inr has) =
        let on = changes has.lsn has.high in
        (subst (λ (l : History). IsLawful run.0 page_tree l) (sym has.is) (on.lawful behind_lawful), ap committed has.is ∙ on.stays.commits ∙ behind_commits)

    -- what a stop within it leaves
    taken_stops : (high : History) → (high ≡ between) ⊎ HasCheckpoint run.0 old.txns.next (listed old.txns.rows) dirty between high → LeavesCovered d run.0 run.1.base run.1.now.durable high old.disk new.disk → LeavesOnly d old.disk new.disk (Allowed before s)
    taken_stops high is leaves =
        let r = run.1 in
        let law = left_log high is in
        weakened d old.disk new.disk (IsCovered run.0 r.base r.now.durable high) (Allowed before s) leaves (λ told c is. left_on d before s v old r high law.0 law.1 c is)

  -- it was taken, after such writes as left the writer so
  checkpointed : (mid : Writer) → Keeps run.0 run.1.now mid → (FitsRecord old.writer.table → mid.log ≡ run.1.now.log) → (lsn : ℕ) → Checkpointed d run.0 run.1.base mid old.txns.next (listed old.txns.rows) dirty lsn new.writer new.disk
      → LeavesOnly d old.disk new.disk (Allowed before s) → new.txns ≡ old.txns → new.locks ≡ old.locks → new.failed ≡ false → new.under ≡ old.under → StepKept d before s v Checkpoint Done old new
  checkpointed mid keeps alone lsn taken leaves table locks works_on stays =
      let r = run.1 in
      let newest = taken_at lsn in
      let longer : History = newest ∷ mid.log in
      let images = copied mid.log keeps.log in
      let on = changes mid.log keeps.log lsn taken.high in
      let law = logged_checkpoints_served page_tree run.0 r.earlier before s v newest mid.log old.txns.rows old.txns.next old.locks (behind_serving mid.log keeps.log) (behind_lawful mid.log keeps.log)
      (record { next = old.txns.next; active = listed old.txns.rows; dirty = dirty; what = refl; no_owner = refl }) taken.high in
      let going : IsChanging run.0 old.under mid.log = images_go run.0 old.under r.now.log mid.log keeps.log (behind_lawful mid.log keeps.log) images.opened r.changing in
      let running : IsRunning d run.0 before s v new = record {
        base = r.base;
        start = r.start;
        counted = r.counted;
        earlier = r.earlier;
        now = forced (appended newest (forgotten (synced mid)));
        stands = taken.stands;
        redo_end = r.redo_end;
        over = keeps.redo_end ∙ r.over;
        lawful = law.lawful;
        changing = subst (λ (u : Option Under). IsChanging run.0 u longer) (sym stays) (record_goes run.0 old.under newest mid.log law.lawful on.opened (λ u is same. absurd (let owned = u.begun.change.owned in omega (arith, same, owned))) refl refl going);
        serving = subst (λ (x : Numbered). IsServing run.0 r.earlier before s v longer x.rows x.next new.locks) (sym table)
            (subst (λ (l : _). IsServing run.0 r.earlier before s v longer old.txns.rows old.txns.next l) (sym locks) law.served.1);
        commits = commits_stand.all r.earlier before s.asked longer law.served.1.says;
        numbered = subst (λ (n : ℕ). n ≤ 2 ^ 62 → AreBelow n longer) (sym (ap (λ (x : Numbered). x.next) table)) (λ le. on.below old.txns.next old.numbered (images.below old.txns.next old.numbered (r.numbered le)));
        same = r.same ∙ ap under_of (sym stays);
      } in
      step_made d before s v Checkpoint Done old new v law.served.0 running works_on leaves (record {
        b = run.0;
        running = running;
        all = refl;
        lsn = lsn;
        dirty = dirty;
        older = mid.log;
        newest = ap (λ (x : Numbered). checkpoint_at lsn x.next (listed x.rows) dirty ∷ mid.log) (sym table);
        lists = lists_on lsn (synced mid).pages dirty taken.lists;
        synced = λ p. refl;
      }) r (record {
        between = mid.log;
        images = keeps.log;
        alone = alone;
        newest = newest;
        checkpoint = record { next = old.txns.next; active = listed old.txns.rows; dirty = dirty; what = refl; no_owner = refl };
        is = refl;
      })

module _ {D : Type 0} (d : Ghosts D) (before : List Effect) (s : Shown) (v : View) (old new : Engine D d) (life : IsLife d before s v old) (works : old.failed ≡ false) where
  abbrev from : (b : Base) × IsRunning d b before s v old
  from = life.running works

  -- what the calls below kept, where no page was written first, and in any case
  abbrev Alone : Result ℕ Fault → Type 0
  Alone result = FitsRecord old.writer.table → CheckpointKept d from.0 from.1.base from.1.now old.txns.next (listed old.txns.rows) (dirty_pages (synced_entries old.writer.table)) old.disk new.writer new.disk result

  abbrev Always : Result ℕ Fault → Type 0
  Always result = CheckpointFromKept d from.0 from.1.base from.1.now old.txns.next (listed old.txns.rows) old.disk new.writer new.disk result

  always_stops : (result : Result ℕ Fault) → Always result → LeavesOnly d old.disk new.disk (Allowed before s)
  always_stops result kept = taken_stops d before s v old new life works kept.stops.dirty kept.stops.grown kept.stops.grows kept.stops.high kept.stops.is kept.stops.stops

  -- it was taken
  pub checkpoint_taken : (lsn : ℕ) → Alone (Ok lsn) → Always (Ok lsn) → new.txns ≡ old.txns → new.locks ≡ old.locks → new.failed ≡ false → new.under ≡ old.under → StepKept d before s v Checkpoint Done old new
  checkpoint_taken lsn alone always table locks works_on stays = elim (few_or_many old.writer.table) [
    | inl few ↦
        let r = from.1 in
        let kept = alone few in
        checkpointed d before s v old new life works (dirty_pages (synced_entries old.writer.table)) r.now (keeps_none from.0 r.now) (λ _. refl) lsn kept.ok (always_stops (Ok lsn) always) table locks works_on stays
    | inr many ↦ checkpointed d before s v old new life works always.ok.dirty always.ok.before always.ok.keeps (λ few. absurd (many few)) lsn always.ok.taken (always_stops (Ok lsn) always) table locks works_on stays
  ]

  -- a call within it was refused
  pub checkpoint_refused : (f : Fault) → IsOfLog f → (told : Fault) → told ≡ told_as f → new.failed ≡ true → Always (Err f) → ((u : ℕ) (c : Files) → u ≤ d.moment new.disk → d.may_leave new.disk c → d.left_since new.disk u c)
      → StepKept d before s v Checkpoint (Refused (number_of told)) old new
  checkpoint_refused f of told is fails always counts_now =
      subst (λ (y : Fault). StepKept d before s v Checkpoint (Refused (number_of y)) old new) (sym is)
      (breaks_with d before s v Checkpoint (λ u e. cc e) (checks_tell d before s v old from.1 Checkpoint) old new life works counts_now (number_of (told_as f)) of.broken fails (always_stops (Err f) always))
