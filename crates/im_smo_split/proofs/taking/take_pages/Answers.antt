use Rattle.std.proofs.Common.{◌≡◌, ℕ, length, ◌∷◌, [], ◌+◌, refl, sym, ap, ◌∙◌, arith, rules, length-append}
use Rattle.im_base_types.specs.declared.fault.Fault.TheVariants.{Capacity, Memory}
use Rattle.im_page_writer.proofs.Cited.{err_on, ends_own, idle, pages_still, refused, sound_on, then}
use Rattle.im_smo_pages.specs.Kept.{mild_to_take}
use Rattle.im_smo_pages.proofs.Results.{memory_not}
use Rattle.im_smo_split.proofs.Takings.{has_taken, none_left, none_taken, taken_more}
use Rattle.im_smo_split.proofs.taking.take_pages.Goals as goal

pub loop-taken-init : goal.loop-taken-init
loop-taken-init g c = record {
  outcome = idle g.D.Disk g.met.D.Disk.only_now c.args.writer.now c.args.disk.now c.requires.working c.requires.ready;
  within = omega arith;
  len = search (rules, c.new-numbers.ensures.items);
  kept = λ store has. none_taken store c.args.images.now _ c.new-numbers.ensures.items has.good;
}

pub returns-in_err-number-clause-outcome : goal.returns-in_err-number-clause-outcome
returns-in_err-number-clause-outcome g c = refused g.D.Disk c.from_residual.result c.from_residual.ensures.1 (then g.D.Disk c.loop-taken.invariant.outcome c.in_err-number.ensures.outcome)

pub returns-in_err-number-clause-kept : goal.returns-in_err-number-clause-kept
returns-in_err-number-clause-kept g c store has =
    let l = c.loop-taken in
    sound_on c.from_residual.result _ _ c.from_residual.ensures.1
    (c.in_err-number.ensures.kept store _ (has_taken store c.args.images.now l.numbers.items l.images (l.invariant.kept store has) g.D.Disk (pages_still g.D.Disk has.has l.invariant.outcome)))

pub returns-in_err-number-clause-used_up : goal.returns-in_err-number-clause-used_up
returns-in_err-number-clause-used_up g c store has =
    let l = c.loop-taken in
    let so = l.invariant.kept store has in
    err_on c.from_residual.result _ _ c.from_residual.ensures.1
    (λ same. none_left store c.args.images.now l.numbers.items l.images so c.args.count (omega (arith, l.invariant.len, c.loop-taken-test.true))
    (c.in_err-number.ensures.used_up store _ (has_taken store c.args.images.now l.numbers.items l.images so g.D.Disk (pages_still g.D.Disk has.has l.invariant.outcome)) same))

pub returns-in_err-push_number-clause-outcome : goal.returns-in_err-push_number-clause-outcome
returns-in_err-push_number-clause-outcome g c =
    ends_own g.D.Disk mild_to_take refl refl refl c.from_residual-in_err-push_number.result (then g.D.Disk c.loop-taken.invariant.outcome c.in_ok-number.ensures.outcome)
    (err_on c.from_residual-in_err-push_number.result _ _ c.from_residual-in_err-push_number.ensures.1 (ap mild_to_take c.in_err-push_number.ensures.refused))

pub returns-in_err-push_number-clause-kept : goal.returns-in_err-push_number-clause-kept
returns-in_err-push_number-clause-kept g c store has = sound_on c.from_residual-in_err-push_number.result _ _ c.from_residual-in_err-push_number.ensures.1 (memory_not _ c.in_err-push_number.ensures.refused)

pub returns-in_err-push_number-clause-used_up : goal.returns-in_err-push_number-clause-used_up
returns-in_err-push_number-clause-used_up g c store has =
    err_on c.from_residual-in_err-push_number.result _ _ c.from_residual-in_err-push_number.ensures.1 (λ same. let clash : Memory ≡ Capacity = sym c.in_err-push_number.ensures.refused ∙ same in let never : ⊥ = cc clash in absurd never)

pub loop-taken-preserved : goal.loop-taken-preserved
loop-taken-preserved g c =
    let l = c.loop-taken in
    let e = c.in_ok-number.ensures in
    record {
      outcome = then g.D.Disk l.invariant.outcome e.outcome;
      within = omega (arith, c.loop-taken-test.true);
      len = ap length c.in_ok-push_number.ensures.new ∙ length-append l.numbers.items (c.in_ok-number.number ∷ []) ∙ ap (λ (n : ℕ). n + 1) l.invariant.len;
      kept = λ store has.
          let so = l.invariant.kept store has in
          taken_more store c.args.images.now l.numbers.items l.images so c.in_ok-number.number c.push_number.new.numbers.items c.allocate.new.images c.in_ok-push_number.ensures.new
          (e.kept store _ (has_taken store c.args.images.now l.numbers.items l.images so g.D.Disk (pages_still g.D.Disk has.has l.invariant.outcome)));
    }

pub returns-clause-kept : goal.returns-clause-kept
returns-clause-kept g c store has = c.loop-taken.invariant.kept store has
