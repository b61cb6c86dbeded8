use Rattle.std.proofs.Common.{arith}
use Rattle.im_page_writer.proofs.Outcomes.{pages_still, sound_also, sound_on, then}
use Rattle.im_smo_pages.specs.Seen.{bodies}
use Rattle.im_smo_split.proofs.Bringing.{both_here, both_then}
use Rattle.im_smo_split.proofs.leaves.bring_both.Goals as goal

pub returns-in_err-bring-clause-kept : goal.returns-in_err-bring-clause-kept
returns-in_err-bring-clause-kept g c store has = sound_on c.from_residual.result _ _ c.from_residual.ensures.1 (c.in_err-bring.ensures.kept store has)

pub returns-then-next-eq0-clause-kept : goal.returns-then-next-eq0-clause-kept
returns-then-next-eq0-clause-kept g c store has =
    let one = c.in_ok-bring.ensures.kept store has in
    both_here store c.args.images.now c.args.number c.bring.new.images one c.next_in-next.result (c.next_in-next.ensures (bodies store) one.there) (omega (arith, c.if-next-eq0.true))

pub returns-clause-outcome : goal.returns-clause-outcome
returns-clause-outcome g c = then g.D.Disk c.in_ok-bring.ensures.outcome c.bring-2.ensures.outcome

pub returns-clause-kept : goal.returns-clause-kept
returns-clause-kept g c store has =
    let one = c.in_ok-bring.ensures.kept store has in
    sound_also c.bring-2.result _ _ (c.bring-2.ensures.kept store (pages_still g.D.Disk has c.in_ok-bring.ensures.outcome))
    (λ _ more. both_then store c.args.images.now c.args.number c.bring.new.images one c.next_in-next.result (c.next_in-next.ensures (bodies store) one.there) c.bring-2.new.images more)
