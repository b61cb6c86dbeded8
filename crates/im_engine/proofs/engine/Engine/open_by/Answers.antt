use Rattle.std.proofs.Common.{◌≡◌, false, inl, inr, ℕ, true, refl, sym, subst, ◌∙◌, ⊎_elim}
use Rattle.im_base_types.specs.declared.fault.Fault.TheVariants.{Capacity, Device, LogFull, NotAStore}
use Rattle.im_base_types.specs.declared.file_id.FileId.TheVariants.{Log}
use Rattle.im_base_disk.proofs.Runs.{reads_none}
use Rattle.im_base_two_logs.specs.Renamed.{named}
use Rattle.im_log_choice.proofs.Names.{reads_kept}
use Rattle.im_log_gate.specs.Header.{least_number}
use Rattle.im_restart_analysis.specs.Numbers.{IsNextNumber}
use Rattle.im_engine.proofs.AtRest.{engine_opened}
use Rattle.im_engine.proofs.Limits.{limits_alone, not_frames, not_workers}
use Rattle.im_engine.proofs.Openings.{none_opened}
use Rattle.im_engine.proofs.engine.Engine.open_by.Goals as goal

-- ---- the limits are refused

pub returns-in-Some-clause-kept : goal.returns-in-Some-clause-kept
returns-in-Some-clause-kept g c before told synced stands = record {
  ok = tt;
  next = tt;
  report = tt;
  second = tt;
  stops = none_opened g.D.Disk before c.args.disk stands synced (g.met.D.Disk.only_now c.args.disk);
  cause = λ is. limits_alone c.in-Some.fault NotAStore c.in-Some.ensures.causes (λ never. cc never) (λ never. cc never) is;
  used_up = λ is. absurd (limits_alone c.in-Some.fault Capacity c.in-Some.ensures.causes (λ never. cc never) (λ never. cc never) is);
}

pub returns-in-Some-clause-frames : goal.returns-in-Some-clause-frames
returns-in-Some-clause-frames g c = c.in-Some.ensures.frames

pub returns-in-Some-clause-workers : goal.returns-in-Some-clause-workers
returns-in-Some-clause-workers g c = c.in-Some.ensures.workers

pub returns-in-Some-clause-causes : goal.returns-in-Some-clause-causes
returns-in-Some-clause-causes g c = ⊎_elim (λ frames. inl frames) (λ workers. inr (inl workers)) c.in-Some.ensures.causes

pub returns-in-Some-clause-full : goal.returns-in-Some-clause-full
returns-in-Some-clause-full g c = λ is. absurd (limits_alone c.in-Some.fault LogFull c.in-Some.ensures.causes (λ never. cc never) (λ never. cc never) is)

pub returns-in-Some-clause-device : goal.returns-in-Some-clause-device
returns-in-Some-clause-device g c = (
  λ is. absurd (limits_alone c.in-Some.fault Device c.in-Some.ensures.causes (λ never. cc never) (λ never. cc never) is),
  λ failed. absurd (let clash : false ≡ true = sym c.requires.working ∙ failed in cc clash),
)

-- the names stay where no call was made
pub returns-in-Some-clause-unspelled : goal.returns-in-Some-clause-unspelled
returns-in-Some-clause-unspelled g c told none =
    (reads_kept g.D.Disk c.args.disk c.args.disk (reads_none g.D.Disk c.args.disk), ⊎_elim (λ frames. inl frames) (λ workers. inr (inl workers)) c.in-Some.ensures.causes)

-- ---- no memory for the room

pub returns-in-Err-clause-kept : goal.returns-in-Err-clause-kept
returns-in-Err-clause-kept g c before told synced stands = record {
  ok = tt;
  next = tt;
  report = tt;
  second = tt;
  stops = none_opened g.D.Disk before c.args.disk stands synced (g.met.D.Disk.only_now c.args.disk);
  cause = λ e. let never = sym c.in-Err.ensures.causes ∙ e in cc never;
  used_up = λ e. absurd (let never = sym c.in-Err.ensures.causes ∙ e in cc never);
}

pub returns-in-Err-clause-frames : goal.returns-in-Err-clause-frames
returns-in-Err-clause-frames g c = (λ is. absurd (let never = sym c.in-Err.ensures.causes ∙ is in cc never), λ few. absurd (c.in_default.ensures.frames.1 few))

pub returns-in-Err-clause-workers : goal.returns-in-Err-clause-workers
returns-in-Err-clause-workers g c = (λ is. absurd (let never = sym c.in-Err.ensures.causes ∙ is in cc never), λ few. absurd (c.in_default.ensures.workers.1 few))

pub returns-in-Err-clause-unspelled : goal.returns-in-Err-clause-unspelled
returns-in-Err-clause-unspelled g c told none = (reads_kept g.D.Disk c.args.disk c.args.disk (reads_none g.D.Disk c.args.disk), inr (inr (inl c.in-Err.ensures.causes)))

-- ---- the restart is refused

pub returns-in-Err-restart_current-clause-kept : goal.returns-in-Err-restart_current-clause-kept
returns-in-Err-restart_current-clause-kept g c before told synced stands =
    let kept = c.in-Err-restart_current.ensures.kept before told stands in
    record { ok = tt; next = tt; report = tt; second = tt; stops = kept.stops; cause = kept.sound; used_up = kept.used_up }

pub returns-in-Err-restart_current-clause-frames : goal.returns-in-Err-restart_current-clause-frames
returns-in-Err-restart_current-clause-frames g c =
    (λ is. absurd (not_frames g.D.Disk c.restart_current.new.disk c.in-Err-restart_current.fault c.in-Err-restart_current.ensures.outcome is), λ few. absurd (c.in_default.ensures.frames.1 few))

pub returns-in-Err-restart_current-clause-workers : goal.returns-in-Err-restart_current-clause-workers
returns-in-Err-restart_current-clause-workers g c =
    (λ is. absurd (not_workers g.D.Disk c.restart_current.new.disk c.in-Err-restart_current.fault c.in-Err-restart_current.ensures.outcome is), λ few. absurd (c.in_default.ensures.workers.1 few))

pub returns-in-Err-restart_current-clause-unspelled : goal.returns-in-Err-restart_current-clause-unspelled
returns-in-Err-restart_current-clause-unspelled g c told none = let k = c.in-Err-restart_current.ensures.unspelled told none in (k.0, inr (inr k.1))

-- ---- the store is open

pub returns-in-Ok-restart_current-clause-kept : goal.returns-in-Ok-restart_current-clause-kept
returns-in-Ok-restart_current-clause-kept g c before told synced stands =
    let kept = c.in-Ok-restart_current.ensures.kept before told stands in
    let made = c.in-Ok-restart_current.current.restarted in
    record {
      ok = (engine_opened g.D.Disk before _ made.next made.writer kept.sound.rest refl c.starting_at.ensures.starts.0 c.starting_at.ensures.starts.1 c.new.ensures refl refl, refl);
      next = subst (λ (n : ℕ). IsNextNumber (least_number (named stands.swapped (g.D.Disk.seen c.args.disk) Log)) n stands.log) (sym c.starting_at.ensures.starts.1) kept.sound.next;
      report = kept.sound.report;
      second = kept.sound.second;
      stops = kept.stops;
      cause = tt;
      used_up = tt;
    }

pub returns-in-Ok-restart_current-clause-frames : goal.returns-in-Ok-restart_current-clause-frames
returns-in-Ok-restart_current-clause-frames g c = c.in_default.ensures.frames

pub returns-in-Ok-restart_current-clause-workers : goal.returns-in-Ok-restart_current-clause-workers
returns-in-Ok-restart_current-clause-workers g c = c.in_default.ensures.workers

pub returns-in-Ok-restart_current-clause-unspelled : goal.returns-in-Ok-restart_current-clause-unspelled
returns-in-Ok-restart_current-clause-unspelled g c told none = let k = c.in-Ok-restart_current.ensures.unspelled told none in (k.0, tt)
