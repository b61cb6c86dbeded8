use Rattle.std.proofs.Common.{inl, inr, ⊎_elim, refl}
use Rattle.im_log_choice.proofs.logs.Logs.has_first_format.Goals as goal

pub returns-then-log : goal.returns-then-log
returns-then-log c = (λ is. inl (c.is_first-log.ensures.0 c.if-log.true), λ says. refl)

pub returns : goal.returns
returns c = (
  λ is. inr (c.is_first.ensures.0 is),
  λ says. ⊎_elim (λ log. absurd (let never = c.is_first-log.ensures.1 log in cc (never, c.if-log.false))) (λ other. c.is_first.ensures.1 other) says,
)
