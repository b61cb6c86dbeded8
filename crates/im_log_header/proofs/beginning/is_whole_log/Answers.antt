use Rattle.std.proofs.Common.{refl, sym, ◌∙◌, true≢false}
use Rattle.std.proofs.lemmas.Bool.{iff_false}
use Rattle.im_log_header.proofs.Beginnings.{whole_first, whole_made, whole_second, whole_as}
use Rattle.im_log_header.proofs.beginning.is_whole_log.Goals as goal

pub returns-then-not-made : goal.returns-then-not-made
returns-then-not-made c = ((λ yes. absurd (true≢false (sym yes))), (λ whole. absurd (true≢false (sym (whole_made c.args.head.now whole) ∙ sym c.is_made_log-made.ensures ∙ c.if-not-made.true))))

pub returns-then-first : goal.returns-then-first
returns-then-first c = ((λ yes. whole_first c.args.head.now (sym c.is_made_log-made.ensures ∙ c.if-not-made.false) (c.has_first_header-first.ensures.0 c.if-first.true)), (λ whole. refl))

pub returns : goal.returns
returns c = (
  (λ yes. whole_second c.args.head.now (sym c.is_made_log-made.ensures ∙ c.if-not-made.false) (c.has_second_header.ensures.0 yes)),
  (λ whole. c.has_second_header.ensures.1 (whole_as c.args.head.now whole (iff_false c.has_first_header-first.ensures c.if-first.false))),
)
