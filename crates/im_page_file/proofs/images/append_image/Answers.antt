use Rattle.std.proofs.Common.{◌≡◌, ℕ, ◌+◌, ◌≤◌, inl, inr, length, subst, rules, arith}
use Rattle.im_base_types.specs.Outcomes.{fault_of}
use Rattle.im_log.specs.Outcome.{LacksRoom, LogOutcome}
use Rattle.im_page_file.proofs.ImageCalls.{appended_image}
use Rattle.im_page_file.proofs.ImageSteps.{image_appended}
use Rattle.im_page_file.proofs.images.append_image.Goals as goal

pub returns-clause-kept : goal.returns-clause-kept
returns-clause-kept g c b base s table starts st may =
    image_appended g.D.Disk b base s c.args.log.now table c.args.disk.now st c.args.page c.args.bytes.now c.append.new.self c.append.new.disk c.append.result starts may
    (c.append.ensures.kept base s.log s.durable st.log_is) c.append.ensures.outcome.ready c.append.ensures.outcome.changes

pub returns-clause-outcome : goal.returns-clause-outcome
returns-clause-outcome g c works =
    let size : 33 + length c.args.bytes.now ≡ 4129 = omega (arith, c.requires.whole) in
    let one = subst (λ (n : ℕ). LogOutcome g.D.Disk (LacksRoom n c.append.new.self) c.args.log.now c.args.disk.now c.append.new.self c.append.new.disk (fault_of c.append.result)) size c.append.ensures.outcome in
    appended_image g.D.Disk c.append.result works one (search rules)

pub returns-clause-quiet : goal.returns-clause-quiet
returns-clause-quiet g c takes = elim takes [
  | inl fits ↦ let small : c.args.log.now.used + (33 + length c.args.bytes.now) ≤ 16384 = omega (arith, c.requires.whole, fits) in c.append.ensures.fits (inl small)
  | inr room ↦ c.append.ensures.fits (inr room)
]
