-- What is known of an engine that works, of its tree, of stops within calls that log nothing of their own, and of the engine after them.
use Rattle.std.proofs.Common.{◌≡◌, ◌≢◌, ◌⊎◌, inl, inr, ℕ, ◌≤◌, ◌^◌, List, [], false, is_some, Option, None, Some, refl, sym, ap, subst, ◌∙◌}
use Rattle.std.proofs.Math.Path.{fun_ext}
use Rattle.std.specs.Prelude.{find}
use Rattle.std.specs.FinMap.{empty, entries}
use Rattle.im_base_types.specs.declared.fault.Fault.{Fault}
use Rattle.im_base_types.specs.Maps.{IndexMap}
use Rattle.im_base_types.specs.Pages.{Page}
use Rattle.im_theory_log.specs.Structure.{open_smo, settled, taken_back}
use Rattle.im_theory_log.proofs.Cited.{reached_end, has_tree}
use Rattle.im_engine_access.specs.LockCalls.{AsksLocks}
use Rattle.im_page_writer.specs.Outcome.{AreLoaded, HasPages, Stays, pages_of}
use Rattle.im_page_writer.proofs.Outcomes.{leaves_of_end, pages_here}
use Rattle.im_theory_tree.specs.Levels.{Pages, walk}
use Rattle.im_theory_tree.specs.Good.{IsGoodTree}
use Rattle.im_tree_search.specs.Found.{HasTree}
use Rattle.im_tree_search.specs.Levels.{bodies_of}
use Rattle.im_base_types.specs.Changes.{Effect, apply_all}
use Rattle.im_theory_log.specs.Histories.{Base, History, end_of, page_at}
use Rattle.im_theory_log.specs.Lawful.{IsLawful, IsOutside, IsNotIn}
use Rattle.im_theory_log.specs.Transactions.{committed}
use Rattle.im_theory_log.specs.Writer.{Writer, WriterKept}
use Rattle.im_base_types.specs.Lives.{Asked, Shown, StandsForMore}
use Rattle.im_base_disk.specs.declared.disk.Disk.{Ghosts}
use Rattle.im_base_disk.specs.Disk.{Files}
use Rattle.im_base_disk.specs.Runs.{LeavesOnly}
use Rattle.im_base_disk.proofs.Runs.{started, weakened}
use Rattle.im_page_file.specs.Stands.{IsCovered, LeavesCovered}
use Rattle.im_page_flush.specs.Writing.{LeavesGrown}
use Rattle.im_page_writer.specs.declared.page_writer.PageWriter.{PageWriter}
use Rattle.im_page_writer.specs.PageWriter.{GoesOn, Evicted}
use Rattle.im_page_file.proofs.Standing.{stop_now}
use Rattle.im_theory_tree.specs.Theory.{page_tree}
use Rattle.im_base_txn.specs.declared.transaction.Mark as declared
use Rattle.im_base_txn.specs.declared.transaction.Mark.TheVariants as marks
use Rattle.im_base_txn.specs.declared.transaction.Transaction.{Transaction}
use Rattle.im_base_txn.specs.Rows.{is_of}
use Rattle.im_theory_machine.specs.View as views
use Rattle.im_theory_machine.specs.View.{View, owner_of, owner_in, owns_in, pending_of}
use Rattle.im_theory_machine.specs.Machine.{barred}
use Rattle.im_theory_steps.specs.Checks.{checked_by}
use Rattle.im_theory_steps.proofs.Cited.{rows_tell, owners_marked, copies_are_images, images_change_nothing, commits_stand}
use Rattle.im_theory_steps.specs.Growth.{AreBelow}
use Rattle.im_theory_steps.specs.Steps.{takes_back}
use Rattle.im_theory_steps.specs.Serving.{IsAt, IsServing, mark_of}
use Rattle.im_theory_steps.specs.Durable.{AreCommitted}
use Rattle.im_engine.specs.declared.engine.Engine.{Engine}
use Rattle.im_engine.specs.Stands.{StandsFor, Allowed}
use Rattle.im_engine.specs.declared.stepped.Under.{Under}
use Rattle.im_engine.specs.Aims.{IsChanging, under_of}
use Rattle.im_engine.specs.Running.{IsRunning}
use Rattle.im_engine.proofs.GoingOn.{images_go, other_than}
use Rattle.im_engine.proofs.Stands.{covered_allowed}
use Rattle.im_base_types.specs.Answers.{Step}

-- what may be left where the same is asked
pub allowed_as : (before : List Effect) (s t : Shown) (c : Files) → t.asked ≡ s.asked → Allowed before s c → Allowed before t c
allowed_as before s t c same h = subst (λ (l : List Asked). StandsForMore StandsFor before l c) (sym same) h

-- outside structure changes, and on no page of one, where none is open
pub outside : (t : ℕ) (l : History) → l ≡ [] → IsOutside t l
outside t l closed = subst (λ (x : History). IsOutside t x) (sym closed) tt

pub not_in : (page : ℕ) (l : History) → l ≡ [] → IsNotIn page l
not_in page l closed = subst (λ (x : History). IsNotIn page x) (sym closed) tt

pub none_if : {A : Type 0} (o : Option A) → is_some o ≡ false → o ≡ None
none_if None is = refl
none_if (Some a) is = absurd (cc is)

-- an engine that makes each structure change within a step has none under way
pub plain_under : {D : Type 0} (d : Ghosts D) (e : Engine D d) → e.stepped ≡ false → e.under ≡ None
plain_under d e plain = none_if e.under (e.whole plain)

-- who is going, or must roll back, takes nothing back
takes_none : (m : declared.Mark) → (m ≡ marks.Going) ⊎ (m ≡ marks.MustRollBack) → takes_back (mark_of m) ≡ false
takes_none m (inl is) = ap (λ (x : declared.Mark). takes_back (mark_of x)) is
takes_none m (inr is) = ap (λ (x : declared.Mark). takes_back (mark_of x)) is

module _ {D : Type 0} (d : Ghosts D) {b : Base} (before : List Effect) (s : Shown) (v : View) (e : Engine D d) (r : IsRunning d b before s v e) where
  -- what the table, and the structure change under way, tell of the checks
  pub checks_tell : (step : Step) → barred v step ≡ checked_by e.txns.rows (owns_in (under_of e.under) step) step
  checks_tell step = rows_tell b r.earlier before s v r.now.log e.txns.rows e.txns.next e.locks step r.serving ∙ ap (λ (u : Option views.Under). checked_by e.txns.rows (owns_in u step) step) r.same

  -- whose Insert or Delete does not go on
  pub nothing_pending : (t : ℕ) → pending_of (under_of e.under) t ≡ None → pending_of v.under t ≡ None
  nothing_pending t none = ap (λ (u : Option views.Under). pending_of u t) r.same ∙ none

  -- and who takes nothing back has no structure change under way
  pub not_owner : (t : ℕ) (row : Transaction) → find (is_of t) e.txns.rows ≡ Some row → (row.mark ≡ marks.Going) ⊎ (row.mark ≡ marks.MustRollBack) → pending_of (under_of e.under) t ≡ None → owner_in v ≢ Some t
  not_owner t row found mark none =
      let is = subst (λ (o : Option Transaction). IsAt t o e.txns.next r.now.log (v.txns t)) found (r.serving.table.each t) in
      owners_marked.free (apply_all empty before) v r.serving.reached t (nothing_pending t none) (ap takes_back is.2 ∙ takes_none row.mark mark)

  -- so the open one is another's
  pub outside_of : (t : ℕ) → owner_in v ≢ Some t → IsOutside t (open_smo r.now.log)
  outside_of t free = by e.under refl r.changing
    where
      by : (under : Option Under) → e.under ≡ under → IsChanging b under r.now.log → IsOutside t (open_smo r.now.log)
      by None is closed = outside t (open_smo r.now.log) closed
      by (Some u) is going = other_than u.begun.change.transaction t (λ same. free (ap owner_of (r.same ∙ ap under_of is) ∙ ap (λ (n : ℕ). Some n) same)) u.begun.change.images (end_of b r.now.log) u.begun.change.done (open_smo r.now.log) going.goes.logged

  -- of an engine that has none under way nobody has one
  pub nobody_owner : e.under ≡ None → (t : ℕ) → owner_in v ≢ Some t
  nobody_owner none t is = let never : None ≡ Some t = sym (ap owner_of (r.same ∙ ap under_of none)) ∙ is in cc never

  -- and none is open
  pub closed_now : e.under ≡ None → open_smo r.now.log ≡ []
  closed_now none = subst (λ (u : Option Under). IsChanging b u r.now.log) none r.changing

  pub writer_kept : WriterKept b r.now
  writer_kept = r.stands.writing.stands.kept

  -- redo is over: no page waits for a copy
  pub none_waits : (p : ℕ) → (r.now.pages p).waits ≡ false
  none_waits p = ((writer_kept.pages p).run r.redo_end r.over).0

  -- each page is as the log's records have made it
  pub page_is : (p : ℕ) → (r.now.pages p).page ≡ page_at b r.now.log p
  page_is p =
      let kept = writer_kept.pages p in
      let run = kept.run r.redo_end r.over in
      reached_end b r.now.log (r.now.pages p).upto p (r.now.pages p).page run.1 (kept.now run.0)

  -- the writer has its pages, all with their copies
  pub has_pages : HasPages d AreLoaded (pages_of r.now) e.writer e.disk
  has_pages = pages_here d b r.base r.now e.writer e.disk r.stands none_waits

  -- the walk of the settled pages is the machine's
  pub settled_walk : walk (settled b r.now.log) ≡ entries v.walk
  settled_walk = (has_tree b page_tree r.now.log r.lawful).walk ∙ ap (λ (m : IndexMap). entries m) (sym r.serving.seen_by.walk)

  module _ (none : e.under ≡ None) where
    -- with no structure change under way the pages are the settled ones
    pub bodies_are : bodies_of (pages_of r.now) ≡ settled b r.now.log
    bodies_are = fun_ext (λ (p : ℕ). ap (λ (g : Page). g.body) (page_is p) ∙ sym (ap (λ (l : History). taken_back l p (page_at b r.now.log p).body) (closed_now none)))

    -- the writer's pages are a good tree
    pub has_good_tree : HasTree d (pages_of r.now) e.writer e.disk
    has_good_tree = record {
      has = has_pages;
      spare = [];
      good = subst (λ (pages : Pages). IsGoodTree pages []) (sym bodies_are) (has_tree b page_tree r.now.log r.lawful).good;
    }

    -- its walk is the machine's
    pub walk_is : walk (bodies_of (pages_of r.now)) ≡ entries v.walk
    walk_is = ap walk bodies_are ∙ settled_walk

  -- the files of pages read as they are
  pub tells : d.tells
  tells = r.stands.writing.stands.log_is.tells

  -- what a stop leaves of a longer log that committed no more
  pub left_on : (high : History) → IsLawful b page_tree high → committed high ≡ committed r.now.log → (c : Files) → IsCovered b r.base r.now.durable high c → Allowed before s c
  left_on high law same c is =
      covered_allowed b r.base r.earlier before s r.now.durable high r.start r.counted r.serving.made law (commits_stand.stay r.earlier before s.asked r.now.durable r.now.log high r.commits same) c is

  -- a stop now
  pub stops_now : (c : Files) → d.may_leave e.disk c → Allowed before s c
  stops_now c left = left_on r.now.log r.lawful refl c (stop_now d b r.base r.now e.writer.log e.writer.table e.disk r.stands.writing.stands c left)

  -- a stop within calls that add Images
  pub grown_stops : (new : D) → LeavesGrown d b r.base r.now e.disk new → LeavesOnly d e.disk new (Allowed before s)
  grown_stops new run =
      let same = copies_are_images page_tree b r.now.log run.high run.grows in
      let stays = images_change_nothing b r.now.log run.high same.images in
      weakened d e.disk new (IsCovered b r.base r.now.durable run.high) (Allowed before s) run.stops (λ told c is. left_on run.high (same.lawful r.lawful) stays.0.commits c is)

  -- a stop within a search
  pub read_stops : {why : Option Fault} (w : PageWriter) (new : D) → AsksLocks d e.writer e.disk w new why → LeavesOnly d e.disk new (Allowed before s)
  read_stops {why} w new one = grown_stops new (leaves_of_end d one b r.base r.now r.stands none_waits)

  -- where it is not refused the writer goes on from where it stood
  pub read_on : (w : PageWriter) (new : D) → Stays d AreLoaded e.writer e.disk w new → Evicted d b r.base r.now e.disk w new
  read_on w new one = one.goes b r.base r.now r.stands none_waits

  -- a stop where no call was made
  pub idle_stops : ((c : Files) → d.left_since e.disk (d.moment e.disk) c → d.may_leave e.disk c) → LeavesOnly d e.disk e.disk (Allowed before s)
  idle_stops only_now = started d e.disk (Allowed before s) (λ told c left. stops_now c (only_now c left))

  -- and within a call that adds none
  pub covered_stops : (new : D) → LeavesCovered d b r.base r.now.durable r.now.log e.disk new → LeavesOnly d e.disk new (Allowed before s)
  covered_stops new run = weakened d e.disk new (IsCovered b r.base r.now.durable r.now.log) (Allowed before s) run (λ told c is. left_on r.now.log r.lawful refl c is)

  -- the same engine, where its log has grown by Images, its structure change is as it was, and table, locks and next number have gone on to what a step made of them
  unfoldable pub runs_on : (t : Shown) (w : View) (new : Engine D d) (now : Writer) (on : GoesOn d b r.base r.now e.disk now new.writer new.disk) → IsServing b r.earlier before t w now.log new.txns.rows new.txns.next new.locks
      → AreCommitted r.earlier before t.asked now.durable now.log → (new.txns.next ≤ 2 ^ 62 → AreBelow new.txns.next now.log) → w.under ≡ v.under → new.under ≡ e.under → IsRunning d b before t w new
  runs_on t w new now on serving commits numbered goes_on stays =
      let same = copies_are_images page_tree b r.now.log now.log on.goes.keeps.log in
      record {
        base = r.base;
        start = r.start;
        counted = r.counted;
        earlier = r.earlier;
        now = now;
        stands = record { working = on.working; writing = on.goes.writing; known = on.known };
        redo_end = r.redo_end;
        over = on.goes.keeps.redo_end ∙ r.over;
        lawful = same.lawful r.lawful;
        changing = subst (λ (u : Option Under). IsChanging b u now.log) (sym stays) (images_go b e.under r.now.log now.log on.goes.keeps.log (same.lawful r.lawful) same.opened r.changing);
        serving = serving;
        commits = commits;
        numbered = numbered;
        same = goes_on ∙ r.same ∙ ap under_of (sym stays);
      }
