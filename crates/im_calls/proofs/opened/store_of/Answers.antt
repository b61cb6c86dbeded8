use Rattle.std.proofs.Common.{inl, inr, refl, rules}
use Rattle.im_calls.proofs.Causes.{but_workers}
use Rattle.im_calls.proofs.Limits.{frames_refused, not_taken, opened_on}
use Rattle.im_calls.proofs.opened.store_of.Goals as goal

-- more frames are asked than there may be
pub returns-in_default-new-clause-causes : goal.returns-in_default-new-clause-causes
returns-in_default-new-clause-causes g c =
    record { pages = search rules; frames = λ _. (λ _. inr (inr (not_taken _ c.in_default-new.ensures.taken.1)), λ _. refl); any = inl refl }

pub returns-in-Err-clause-causes : goal.returns-in-Err-clause-causes
returns-in-Err-clause-causes g c =
    let is = c.in-Err.ensures in
    record { pages = search rules; frames = λ _. frames_refused _ _ (c.in-Some.ensures.taken.0 refl) is.frames; any = but_workers c.in-Err.fault is.workers.0 is.causes }

pub returns-in-Ok-open_alone-clause-opened : goal.returns-in-Ok-open_alone-clause-opened
returns-in-Ok-open_alone-clause-opened g c =
    opened_on g.D.Disk c.args.asked.now c.args.disk _ _ c.in-Ok-open_alone.store refl c.in-Some.ensures.same (search rules) c.waits.ensures refl refl c.bounds_of.ensures c.in-Ok-open_alone.ensures
