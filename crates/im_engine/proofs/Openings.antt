-- An opening.
use Rattle.std.proofs.Common.{◌≡◌, ℕ, List, ◌++◌, false, sym, ap, subst, ◌∙◌}
use Rattle.im_base_types.specs.declared.file_id.FileId.TheVariants.{Log, Pages}
use Rattle.im_base_types.specs.Changes.{Effect, seen}
use Rattle.im_base_types.specs.Lives.{nothing_shown}
use Rattle.im_theory_log.proofs.Lives.{survives_none}
use Rattle.im_base_disk.specs.declared.disk.Disk.{Ghosts}
use Rattle.im_base_disk.specs.Disk.{Files}
use Rattle.im_base_disk.specs.Runs.{LeavesOnly, IsSynced}
use Rattle.im_base_disk.proofs.Runs.{started, weakened}
use Rattle.im_theory_page.specs.PageFile.{file_page}
use Rattle.im_base_two_logs.specs.Renamed.{named}
use Rattle.im_base_two_logs.specs.Runs.{LeavesNamed}
use Rattle.im_base_two_logs.proofs.Runs.{then_named, unnamed}
use Rattle.im_log_choice.specs.Current.{IsCurrent}
use Rattle.im_log_choice.specs.Switching.{ReadsNamed}
use Rattle.im_restart.specs.Restart.{MayRestart, IsLeftUndoing, IsOpened, IsReport}
use Rattle.im_restart.specs.declared.restarted.Restarted.{Restarted}
use Rattle.im_log_gate.specs.Header.{least_number}
use Rattle.im_restart_analysis.specs.Numbers.{IsNextNumber}
use Rattle.im_engine.specs.Restarting.{IsAtRest}
use Rattle.im_engine.specs.Stands.{StandsFor, Allowed}
use Rattle.im_engine.proofs.AtRest.{rest_restarted}
use Rattle.im_engine.proofs.Named.{allowed_nameless, may_by, newest_current}
use Rattle.im_engine.proofs.NamedRuns.{names_leave}
use Rattle.im_engine.proofs.Reopened.{leaves_logs}
use Rattle.im_page_writer.proofs.Switching.{named_pages as same_pages}

module _ {D : Type 0} (d : Ghosts D) (before : List Effect) (old : D) (l : StandsFor before (d.seen old)) where
  -- a stop within the restart
  pub restart_stops : (mid new : D) → LeavesOnly d mid new (IsLeftUndoing l.b l.base l.log) → LeavesOnly d mid new (Allowed before nothing_shown)
  restart_stops mid new run =
      weakened d mid new (IsLeftUndoing l.b l.base l.log) (Allowed before nothing_shown) run
      (λ told c is. (
        before,
        survives_none before,
        record {
          swapped = false;
          current = newest_current c is.has.newest;
          b = l.b;
          base = l.base;
          start = l.start;
          counted = l.counted;
          log = is.left;
          has = is.has;
          lawful = is.lawful;
          earlier = l.earlier;
          made = l.made;
          is = l.is ∙ sym (ap (λ es. l.earlier ++ seen es) (leaves_logs l.log is.left is.grown).committed);
        },
      ))

  module _ (synced : IsSynced d old) (only_now : (c : Files) → d.left_since old (d.moment old) c → d.may_leave old c) where
    -- one before the first device call
    stands_still : d.tells → (c : Files) → d.left_since old (d.moment old) c → Allowed before nothing_shown c
    stands_still told c left = (before, survives_none before, subst (λ (files : Files). StandsFor before files) (sym (λ j file. synced file c (only_now c left) j)) l)

    pub none_opened : LeavesNamed d old old (Allowed before nothing_shown)
    none_opened = unnamed d (Allowed before nothing_shown) (allowed_nameless before nothing_shown) old old (started d old (Allowed before nothing_shown) stands_still)

    -- the logs have got their names
    pub named_stops : (mid : D) → ReadsNamed d old mid → LeavesNamed d old mid (Allowed before nothing_shown)
    named_stops mid reads = names_leave d old mid reads (Allowed before nothing_shown) (allowed_nameless before nothing_shown) stands_still

    -- and the restart has begun
    pub current_stops : (mid new : D) → ReadsNamed d old mid → LeavesOnly d mid new (IsLeftUndoing l.b l.base l.log) → LeavesNamed d old new (Allowed before nothing_shown)
    current_stops mid new reads run =
        then_named d (Allowed before nothing_shown) (allowed_nameless before nothing_shown) old mid new (named_stops mid reads)
        (unnamed d (Allowed before nothing_shown) (allowed_nameless before nothing_shown) mid new (restart_stops mid new run))

    -- and its log goes on
    pub upgrade_stops : (mid near new : D) → ReadsNamed d old mid → LeavesOnly d mid near (IsLeftUndoing l.b l.base l.log) → LeavesNamed d near new (Allowed before nothing_shown) → LeavesNamed d old new (Allowed before nothing_shown)
    upgrade_stops mid near new reads run last = then_named d (Allowed before nothing_shown) (allowed_nameless before nothing_shown) old near new (current_stops mid near reads run) last

  module _ (mid : D) (reads : ReadsNamed d old mid) (current : IsCurrent false (d.seen mid)) where
    by_current : IsCurrent false (named reads.swapped (d.seen old))
    by_current = subst (λ (f : Files). IsCurrent false f) reads.seen current

    -- the restart may begin
    pub may_restart : MayRestart l.b l.base l.log (d.seen mid)
    may_restart = subst (λ (f : Files). MayRestart l.b l.base l.log f) (sym reads.seen) (may_by before (d.seen old) l reads.swapped by_current).0

    least_same : least_number (d.seen mid Log) ≡ least_number (named l.swapped (d.seen old) Log)
    least_same = ap (λ (f : Files). least_number (f Log)) reads.seen ∙ (may_by before (d.seen old) l reads.swapped by_current).1

    pages_same : d.seen mid Pages ≡ d.seen old Pages
    pages_same = ap (λ (f : Files). f Pages) reads.seen ∙ same_pages reads.swapped (d.seen old)

    module _ (r : Restarted) (new : D) (is : IsOpened d l.b l.base l.log mid r new) where
      -- the store after it
      pub opened_rest : IsAtRest d before r.next r.writer new
      opened_rest = rest_restarted d before old l (least_number (d.seen mid Log)) r new is.restarted is.next

      -- the number that comes next
      pub opened_next : IsNextNumber (least_number (named l.swapped (d.seen old) Log)) r.next l.log
      opened_next = subst (λ (n : ℕ). IsNextNumber n r.next l.log) least_same is.next

      -- what redo did
      pub opened_report : IsReport l.b l.log (file_page (d.seen old Pages)) r.report
      opened_report = subst (λ (bytes : List ℕ). IsReport l.b l.log (file_page bytes) r.report) pages_same is.report
