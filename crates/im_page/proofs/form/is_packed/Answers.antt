use Rattle.std.proofs.Common.{arith, refl, sym, ◌∙◌}
use Rattle.im_page.specs.Sound.{SlotsSound}
use Rattle.im_page.proofs.SoundLemmas.{packed_from, slots_from}
use Rattle.im_page.proofs.form.is_packed.Goals.{then-is_run, else-is_run}
use Rattle.im_page.proofs.form.is_packed.Goals as goal

pub returns-then-is_uniform : goal.returns-then-is_uniform
returns-then-is_uniform c =
    let sound : SlotsSound c.args.leaf c.args.bytes.now = elim c.if-is_run.branch [
      | then-is_run w ↦ c.is_run.ensures w.if-is_run.true
      | else-is_run w ↦ w.is_uniform.ensures (sym w.value-is ∙ c.if-is_uniform.true)
    ] in (
      λ t. packed_from c.args.leaf c.args.bytes.now c.requires (omega arith) (omega arith) (λ k low high. c.if-not-is_zero.ensures.0 refl k (omega arith) (omega arith)) sound,
      λ h. c.if-is_uniform.true,
    )

pub returns-else-is_uniform : goal.returns-else-is_uniform
returns-else-is_uniform c = (
  λ t. packed_from c.args.leaf c.args.bytes.now c.requires (omega arith) (omega arith)
      (λ k low high. c.if-not-is_zero.ensures.0 refl k (omega arith) (omega arith)) (c.are_any_sound.ensures.0 t),
  λ h. c.are_any_sound.ensures.1 (slots_from c.args.leaf c.args.bytes.now h),
)
