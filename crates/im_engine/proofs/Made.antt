-- A step that was made, and one that broke the engine.
use Rattle.std.proofs.Common.{◌≡◌, inl, ℕ, ◌≤◌, ◌^◌, List, true, false, None, Some, sym, ap, subst, ◌∙◌}
use Rattle.std.specs.FinMap.{empty}
use Rattle.im_base_types.specs.Answers.{Step, Reply, Refused}
use Rattle.im_base_types.specs.Changes.{Effect, apply_all}
use Rattle.im_theory_log.specs.Histories.{Base, History}
use Rattle.im_theory_log.specs.Copies as copies
use Rattle.im_base_types.specs.Lives.{Asked, Shown, shows}
use Rattle.im_base_disk.specs.declared.disk.Disk.{Ghosts}
use Rattle.im_base_disk.specs.Disk.{Files}
use Rattle.im_base_disk.specs.Runs.{LeavesOnly}
use Rattle.im_base_disk.proofs.Runs.{weakened}
use Rattle.im_base_two_logs.specs.Runs.{LeavesNamed}
use Rattle.im_base_two_logs.proofs.Runs.{unnamed}
use Rattle.im_page_table.specs.DirtyTable.{FitsRecord}
use Rattle.im_page_writer.specs.PageWriter.{Evicted}
use Rattle.im_theory_tree.specs.Theory.{page_tree}
use Rattle.im_theory_machine.specs.Locks.{Lock}
use Rattle.im_theory_machine.specs.View.{View, broken}
use Rattle.im_theory_machine.specs.Machine.{Moves, Breaks, barred}
use Rattle.im_theory_steps.specs.Growth.{AreBelow, Stays, IsOfAll}
use Rattle.im_theory_steps.specs.Serving.{IsServing, IsServed}
use Rattle.im_theory_steps.specs.Durable.{AreCommitted}
use Rattle.im_theory_steps.proofs.Cited.{copies_are_images, images_change_nothing, commits_stand, lives_go_on}
use Rattle.im_engine.specs.declared.engine.Engine.{Engine}
use Rattle.im_engine.specs.Aims.{under_of}
use Rattle.im_engine.specs.Stands.{Allowed}
use Rattle.im_engine.specs.Numbered.{Numbered}
use Rattle.im_engine.specs.Running.{IsRunning, IsLife}
use Rattle.im_engine.specs.Growing.{GrowsAs}
use Rattle.im_engine.specs.Kept.{StepKept, IsDone}
use Rattle.im_engine.proofs.Named.{allowed_nameless}
use Rattle.im_engine.proofs.Running.{allowed_as, runs_on, stops_now}

module _ {D : Type 0} (d : Ghosts D) (before : List Effect) where
  -- a stop within a step that is no Commit leaves what was asked before it
  pub leaves_as : (s t : Shown) (old new : D) → t.asked ≡ s.asked → LeavesOnly d old new (Allowed before s) → LeavesOnly d old new (Allowed before t)
  leaves_as s t old new same run = weakened d old new (Allowed before s) (Allowed before t) run (λ told c h. allowed_as before s t c same h)

  module _ (s : Shown) (v : View) (step : Step) (reply : Reply) (old new : Engine D d) where
    -- a step after which the engine works
    pub step_made : {b : Base} (w : View) → Moves v step reply w → (running : IsRunning d b before (shows s step (Some reply)) w new) → new.failed ≡ false → LeavesOnly d old.disk new.disk (Allowed before (shows s step None))
        → IsDone d before (shows s step (Some reply)) w step reply new → (was : IsRunning d b before s v old) → GrowsAs b (FitsRecord old.writer.table) (under_of old.under) (under_of new.under) reply step was.now.log running.now.log → StepKept d before s v step reply old new
    step_made {b = b} w moves running works stops done was grows = record {
      next = w;
      moves = moves;
      after = record {
        stops = stops_now d before (shows s step (Some reply)) w new running;
        failed = running.serving.works ∙ sym works;
        lived = record { shows = running.serving.shows; reached = running.serving.reached };
        running = λ _. (b, running);
      };
      stops = unnamed d (Allowed before (shows s step None)) (allowed_nameless before (shows s step None)) old.disk new.disk stops;
      done = done;
      grown = λ _. inl (record { b = b; was = was; now = running; grows = grows });
    }

  -- a step after calls that added no more than Images, which asks no effect
  module _ {b : Base} (s : Shown) (v w : View) (step : Step) (reply : Reply) (old new : Engine D d) (r : IsRunning d b before s v old) (txns : Numbered) (goes_on : w.under ≡ v.under) where
    pub grown_made : Evicted d b r.base r.now old.disk new.writer new.disk
        → ((longer : History) → Stays b r.now.log longer → IsOfAll r.now.log longer → IsServed b r.earlier before s v step reply w longer txns.rows txns.next new.locks)
        → (shows s step (Some reply)).asked ≡ s.asked → (shows s step None).asked ≡ s.asked → new.txns ≡ txns → txns.next ≡ old.txns.next → LeavesOnly d old.disk new.disk (Allowed before s)
        → new.failed ≡ false → IsDone d before (shows s step (Some reply)) w step reply new → ((longer : History) → copies.GrowsByImages b r.now.log longer → GrowsAs b (FitsRecord old.writer.table) (under_of old.under) (under_of new.under) reply step r.now.log longer) → new.under ≡ old.under → StepKept d before s v step reply old new
    unfolding runs_on
    grown_made is serves asks cut table next stops works done bare stays =
        let same = copies_are_images page_tree b r.now.log is.now.log is.on.goes.keeps.log in
        let on = images_change_nothing b r.now.log is.now.log same.images in
        let served = serves is.now.log on.0 on.1 in
        let commits = commits_stand.more r.earlier before s.asked r.now.durable is.now.log is.now.durable
        (commits_stand.stay r.earlier before s.asked r.now.durable r.now.log is.now.log r.commits on.0.commits)
        (record { from = is.on.goes.keeps.durable; upto = is.on.goes.writing.stands.kept.front }) in
        let running = runs_on d before s v old r (shows s step (Some reply)) w new is.now is.on
        (subst (λ (x : Numbered). IsServing b r.earlier before (shows s step (Some reply)) w is.now.log x.rows x.next new.locks) (sym table) served.1)
        (subst (λ (l : List Asked). AreCommitted r.earlier before l is.now.durable is.now.log) (sym asks) commits)
        (subst (λ (n : ℕ). n ≤ 2 ^ 62 → AreBelow n is.now.log) (sym (ap (λ (x : Numbered). x.next) table ∙ next)) (λ le. same.below old.txns.next old.numbered (r.numbered le))) goes_on stays in
        step_made s v step reply old new w served.0 running works (leaves_as s (shows s step None) old.disk new.disk cut stops) done r
        (bare is.now.log is.on.goes.keeps.log)

  -- a step that broke the engine: no Commit, or one whose record is not in the log; the logs may have changed names
  pub step_broke_named : (s : Shown) (v : View) (step : Step) (fault : ℕ) (old new : Engine D d) (ls : ℕ → List Lock) → IsLife d before s v old → barred v step ≡ None → Breaks fault → new.failed ≡ true
      → LeavesNamed d old.disk new.disk (Allowed before (shows s step None)) → ((c : Files) → d.may_leave new.disk c → Allowed before (shows s step (Some (Refused fault))) c)
      → IsDone d before (shows s step (Some (Refused fault))) (broken v ls) step (Refused fault) new → StepKept d before s v step (Refused fault) old new
  step_broke_named s v step fault old new ls life checked is fails stops now done =
      let on = lives_go_on.breaks (apply_all empty before) s v step fault ls life.lived checked is in
      record {
        next = broken v ls;
        moves = on.0;
        after = record {
          stops = now;
          failed = sym fails;
          lived = on.1;
          running = λ works. let never : true ≡ false = sym fails ∙ works in cc;
        };
        stops = stops;
        done = done;
        grown = λ works. let never : true ≡ false = sym fails ∙ works in cc;
      }

  -- and where they have not
  pub step_broke : (s : Shown) (v : View) (step : Step) (fault : ℕ) (old new : Engine D d) (ls : ℕ → List Lock) → IsLife d before s v old → barred v step ≡ None → Breaks fault → new.failed ≡ true
      → LeavesOnly d old.disk new.disk (Allowed before (shows s step None)) → ((c : Files) → d.may_leave new.disk c → Allowed before (shows s step (Some (Refused fault))) c)
      → IsDone d before (shows s step (Some (Refused fault))) (broken v ls) step (Refused fault) new → StepKept d before s v step (Refused fault) old new
  step_broke s v step fault old new ls life checked is fails stops now done =
      step_broke_named s v step fault old new ls life checked is fails (unnamed d (Allowed before (shows s step None)) (allowed_nameless before (shows s step None)) old.disk new.disk stops) now done
