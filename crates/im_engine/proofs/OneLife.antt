-- One life, from its opening on.
use Rattle.std.proofs.Common.{ℕ, zero, suc, ◌≤◌, List, [], length, take, Ok, refl, arith}
use Rattle.im_base_types.specs.Lives.{nothing_shown}
use Rattle.im_base_steps.specs.declared.step.Step.{Step}
use Rattle.im_base_steps.specs.declared.reply.Reply.{Reply}
use Rattle.im_base_disk.specs.declared.disk.Disk.{Ghosts}
use Rattle.im_base_disk.specs.Disk.{Files}
use Rattle.im_base_two_logs.proofs.Runs.{then_named}
use Rattle.im_engine.specs.declared.config.Config.{Config}
use Rattle.im_engine.specs.declared.engine.Engine.{Engine}
use Rattle.im_engine.specs.Opening.{IsOpening}
use Rattle.im_engine.specs.Stands.{Allowed}
use Rattle.im_engine.specs.Turns.{behind, AreSteps, IsCutOff}
use Rattle.im_engine.specs.Lived.{TakesFiles, IsLived, disk_at}
use Rattle.im_engine.proofs.Named.{cut_nameless}
use Rattle.im_engine.proofs.NamedRuns.{named_weakened}
use Rattle.im_engine.proofs.LivedLives.{left_before, runs_on}
use Rattle.im_engine.proofs.Stopping.{alive_at_end, cut_behind, cut_between, cut_at_end}

module _ {D : Type 0} (d : Ghosts D) (only_now : (disk : D) (c : Files) → d.left_since disk (d.moment disk) c → d.may_leave disk c) where
  module _ (config : Config) (steps : List Step) (replies : List Reply) (old : D) (opened last : Engine D d) (opening : IsOpening d config old (Ok opened)) (turns : AreSteps d steps replies opened last) where
    stops_since : d.tells → (n : ℕ) → n ≤ length replies → (c : Files) → d.left_since last.disk (d.moment (disk_at d old n steps replies opened last turns)) c → TakesFiles steps replies n (d.seen old) c
    stops_since told zero le c left before stands =
        let kept = opening.kept before told stands in
        let cut = IsCutOff before nothing_shown steps replies in
        (then_named d cut (cut_nameless before nothing_shown steps replies) old opened.disk last.disk
        (named_weakened d old opened.disk (Allowed before nothing_shown) cut kept.stops (λ on x h. left_before before nothing_shown steps replies x h))
        (cut_behind d only_now before steps replies nothing_shown _ opened last turns kept.ok.0 zero (omega arith))).each told c left
    stops_since told (suc n) le c left before stands =
        let kept = opening.kept before told stands in
        (cut_behind d only_now before steps replies nothing_shown _ opened last turns kept.ok.0 (suc n) le).each told c left

    stops_within : d.tells → (n m : ℕ) → n ≤ m → m ≤ length replies → (c : Files) → d.left_since (behind d m steps replies opened last turns).disk (d.moment (disk_at d old n steps replies opened last turns)) c
        → TakesFiles (take m steps) (take m replies) n (d.seen old) c
    stops_within told zero m le most c left before stands =
        let kept = opening.kept before told stands in
        let cut = IsCutOff before nothing_shown (take m steps) (take m replies) in
        (then_named d cut (cut_nameless before nothing_shown (take m steps) (take m replies)) old opened.disk (behind d m steps replies opened last turns).disk
        (named_weakened d old opened.disk (Allowed before nothing_shown) cut kept.stops (λ on x h. left_before before nothing_shown (take m steps) (take m replies) x h))
        (cut_between d only_now before steps replies nothing_shown _ opened last turns kept.ok.0 zero m le most)).each told c left
    stops_within told (suc n) m le most c left before stands =
        let kept = opening.kept before told stands in
        (cut_between d only_now before steps replies nothing_shown _ opened last turns kept.ok.0 (suc n) m le most).each told c left

    pub lived : IsLived d config steps replies old last.disk
    lived = record {
      opened = opened;
      opening = opening;
      last = last;
      turns = turns;
      disk = refl;
      since = stops_since;
      within = stops_within;
      run = λ told n m le most c left. runs_on (d.seen old) (take m steps) (take m replies) n c (stops_within told n m le most c left);
      ends = λ told c left before stands. let kept = opening.kept before told stands in cut_at_end d only_now before steps replies nothing_shown _ opened last turns kept.ok.0 c left;
      alive = alive_at_end d steps replies opened last turns opening.opened.3;
    }

  -- before the first step
  pub unlived : (config : Config) (old : D) (opened : Engine D d) → IsOpening d config old (Ok opened) → d.tells → (c : Files) → d.left_since opened.disk (d.moment old) c → TakesFiles [] [] 0 (d.seen old) c
  unlived config old opened opening told c left before stands = (opening.kept before told stands).stops.each told c left
