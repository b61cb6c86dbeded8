-- A step beside a structure change that logs records of its own, and one in whose way the change stands.
use Rattle.std.proofs.Common.{inl, ◌≡◌, ◌≢◌, ℕ, ◌≤◌, ◌<◌, ◌^◌, List, false, None, Some, refl, sym, ap, subst, ◌∙◌}
use Rattle.im_base_types.specs.Answers.{Access, Step, Do, Reply, BlockedTree}
use Rattle.im_base_types.specs.Changes.{Effect}
use Rattle.im_base_types.specs.Lives.{Asked, Shown, shows}
use Rattle.im_base_disk.specs.declared.disk.Disk.{Ghosts}
use Rattle.im_base_disk.specs.Runs.{LeavesOnly}
use Rattle.im_base_disk.proofs.Runs.{weakened}
use Rattle.im_base_txn.specs.declared.transaction.Transaction.{Transaction}
use Rattle.im_theory_log.specs.Histories.{Base, IsFront}
use Rattle.im_theory_log.specs.Lawful.{IsLawful}
use Rattle.im_theory_log.specs.Writer.{Writer}
use Rattle.im_page_table.specs.DirtyTable.{FitsRecord}
use Rattle.im_page_writer.specs.PageWriter.{Evicted, StandsAs}
use Rattle.im_theory_tree.specs.Theory.{page_tree}
use Rattle.im_theory_machine.specs.Table.{Table}
use Rattle.im_theory_machine.specs.View.{View, owner_in, owner_of, owns_in, pending_of}
use Rattle.im_theory_steps.specs.Checks.{checked_by}
use Rattle.im_theory_steps.specs.Durable.{AreCommitted}
use Rattle.im_theory_steps.specs.Growth.{AreBelow, GrowsWithin}
use Rattle.im_theory_steps.specs.Serving.{IsServed, IsServing}
use Rattle.im_theory_steps.proofs.Cited.{trees_ask_nothing, trees_block, commits_stand, numbers_stay_new, within_leaves_others}
use Rattle.im_engine_access.specs.KeyLogs.{LeavesEdit, LeftByEdit}
use Rattle.im_engine.specs.declared.engine.Engine.{Engine}
use Rattle.im_engine.specs.declared.stepped.Under.{Under}
use Rattle.im_engine.specs.Aims.{IsChanging, owned, under_of}
use Rattle.im_engine.specs.Growing.{GrowsAs}
use Rattle.im_engine.specs.Kept.{IsDone, StepKept}
use Rattle.im_engine.specs.Numbered.{Numbered}
use Rattle.im_engine.specs.Running.{IsRunning}
use Rattle.im_engine.specs.Stands.{Allowed}
use Rattle.im_engine.proofs.Checked.{IsGoing, access_fits, access_going, access_unowned}
use Rattle.im_engine.proofs.Made.{grown_made, leaves_as, step_made}
use Rattle.im_engine.proofs.Running.{left_on, none_if, not_owner}

module _ {D : Type 0} (d : Ghosts D) (before : List Effect) {b : Base} (s : Shown) (v w : View) (step : Step) (reply : Reply) (old new : Engine D d) (r : IsRunning d b before s v old) (t : ℕ) (below : t < old.txns.next)
    (now : Writer) (stands : StandsAs d b r.base now new.writer new.disk) (over : now.redo_end ≡ Some r.redo_end) (lawful : IsLawful b page_tree now.log) (changing : IsChanging b new.under now.log) (durable : IsFront r.now.durable now.durable) (grows : GrowsWithin t r.now.log now.log)
    (rows : List Transaction) (table : new.txns ≡ record old.txns { rows = rows }) (served : IsServed b r.earlier before s v step reply w now.log rows old.txns.next new.locks) (same : w.under ≡ under_of new.under) (asks : (shows s step (Some reply)).asked ≡ s.asked) where
  unfoldable pub logged_runs : IsRunning d b before (shows s step (Some reply)) w new
  logged_runs =
      let commits = commits_stand.more r.earlier before s.asked r.now.durable now.log now.durable
      (commits_stand.stay r.earlier before s.asked r.now.durable r.now.log now.log r.commits (within_leaves_others t r.now.log now.log grows).1)
      (record { from = durable; upto = stands.writing.stands.kept.front }) in
      record {
        base = r.base;
        start = r.start;
        counted = r.counted;
        earlier = r.earlier;
        now = now;
        stands = stands;
        redo_end = r.redo_end;
        over = over;
        lawful = lawful;
        changing = changing;
        serving = subst (λ (x : Numbered). IsServing b r.earlier before (shows s step (Some reply)) w now.log x.rows x.next new.locks) (sym table) served.1;
        commits = subst (λ (l : List Asked). AreCommitted r.earlier before l now.durable now.log) (sym asks) commits;
        numbered = subst (λ (n : ℕ). n ≤ 2 ^ 62 → AreBelow n now.log) (sym (ap (λ (x : Numbered). x.next) table))
            (λ le. numbers_stay_new.within old.txns.next t r.now.log now.log below (r.numbered le) grows);
        same = same;
      }

  pub logged_made : (shows s step None).asked ≡ s.asked → LeavesOnly d old.disk new.disk (Allowed before s) → new.failed ≡ false → IsDone d before (shows s step (Some reply)) w step reply new
      → GrowsAs b (FitsRecord old.writer.table) (under_of old.under) (under_of new.under) reply step r.now.log now.log → StepKept d before s v step reply old new
  unfolding logged_runs
  logged_made cut stops works done adds = step_made d before s v step reply old new w served.0 logged_runs works (leaves_as d before s (shows s step None) old.disk new.disk cut stops) done r adds

-- ---- a stop within an edit

pub left_by_edit : {D : Type 0} (d : Ghosts D) {b : Base} (before : List Effect) (s : Shown) (v : View) (old : Engine D d) (r : IsRunning d b before s v old) (t : ℕ) (new : D) → LeavesEdit d b r.base r.now t old.disk new → LeavesOnly d old.disk new (Allowed before s)
left_by_edit d {b} before s v old r t new run = weakened d old.disk new (LeftByEdit d b r.base r.now t) (Allowed before s) run
    (λ told c is. left_on d before s v old r is.high is.lawful (within_leaves_others t r.now.log is.high is.grows).1 c is.covered)

-- ---- an access

module _ {D : Type 0} (d : Ghosts D) (t : ℕ) (a : Access) (old : Engine D d) (checked : checked_by old.txns.rows (owns_in (under_of old.under) (Do t a)) (Do t a) ≡ None) where
  going : IsGoing old.txns.rows t
  going = access_going old.txns.rows _ t a checked

  module _ {b : Base} (before : List Effect) (s : Shown) (v : View) (r : IsRunning d b before s v old) where
    -- that was let through has no structure change of its own beside it
    pub alone : owner_in v ≢ Some t
    alone = not_owner d before s v old r t going.row going.found (inl going.mark) (none_if (pending_of (under_of old.under) t) (access_unowned old.txns.rows t a checked))

    -- the structure change of another stands in its way
    pub tree_made : (new : Engine D d) → new.under ≡ old.under → Evicted d b r.base r.now old.disk new.writer new.disk → LeavesOnly d old.disk new.disk (Allowed before s) → new.failed ≡ false → (u : Under) → old.under ≡ Some u → new.locks ≡ old.locks → new.txns ≡ old.txns
        → StepKept d before s v (Do t a) BlockedTree old new
    tree_made new stays ev stops works_on u under locks table =
        let has : v.under ≡ Some (owned u) = r.same ∙ ap under_of under in
        grown_made d before s v v (Do t a) BlockedTree old new r old.txns refl ev
        (λ longer keeps all. subst (λ (x : Table). IsServed b r.earlier before s v (Do t a) BlockedTree v longer old.txns.rows old.txns.next x) (sym locks)
        (trees_block b r.earlier before s v r.now.log longer old.txns.rows old.txns.next old.locks t going.row a (owned u) r.serving going.found going.mark has (λ same. alone (ap owner_of has ∙ ap (λ (n : ℕ). Some n) (sym same))) (access_fits old.txns.rows _ t a checked) keeps all))
        (trees_ask_nothing s t a) refl table refl stops works_on tt (λ longer images. images) stays
