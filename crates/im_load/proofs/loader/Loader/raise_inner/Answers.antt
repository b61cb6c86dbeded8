use Rattle.std.proofs.Common.{◌≡◌, inl, inr, ⊎_elim, Err, ap, rules, false}
use Rattle.im_base_types.specs.declared.fault.Fault.TheVariants.{Memory, NotAStore}
use Rattle.im_base_types.specs.declared.file_id.FileId.TheVariants.{Pages}
use Rattle.im_base_disk.proofs.Ends.{own_answered}
use Rattle.im_load.proofs.Calls.{raise_inner_made}
use Rattle.im_load.proofs.Faults.{refused_there, is_capacity, is_either}
use Rattle.im_load.proofs.loader.Loader.raise_inner.Goals as goal

pub returns-clause-taken : goal.returns-clause-taken
returns-clause-taken g c es t =
    let d = g.D.Disk in
    raise_inner_made c.args.self.now c.new_page.new.self c.in_ok-left.left c.in_ok-left.ensures.page c.in_ok-left.ensures.more c.new_page-2.new.self c.in_ok-right.right c.in_ok-right.ensures.page c.in_ok-right.ensures.more
    c.begin_inner.new.self c.put_root.new.self d.tells (d.seen c.args.disk.now Pages) (d.seen c.write_above.new.disk Pages) es c.args.i c.args.level c.args.key.now c.args.child
    c.in_ok-write_above.ensures.written c.begin_inner.ensures.begun c.begin_inner.ensures.above c.requires.level c.in_ok-put_root.ensures.root c.in_ok-put_root.ensures.above t c.requires.place

pub returns-in_err-left-clause-outcome : goal.returns-in_err-left-clause-outcome
returns-in_err-left-clause-outcome g c =
    own_answered _ false _ c.in_err-left.field-0.0 c.from_residual.result c.from_residual.ensures.1 (inr (inl c.in_err-left.ensures.refused)) (is_capacity c.in_err-left.field-0.0 c.in_err-left.ensures.refused.0) (search rules)

pub returns-in_err-right-clause-outcome : goal.returns-in_err-right-clause-outcome
returns-in_err-right-clause-outcome g c =
    own_answered _ false _ c.in_err-right.field-0.0 c.from_residual-in_err-right.result c.from_residual-in_err-right.ensures.1 (inr (inl c.in_err-right.ensures.refused))
    (is_capacity c.in_err-right.field-0.0 c.in_err-right.ensures.refused.0) (search rules)

pub returns-in_err-write_above-clause-outcome : goal.returns-in_err-write_above-clause-outcome
returns-in_err-write_above-clause-outcome g c =
    refused_there _ _ c.in_err-write_above.field-0.0 c.from_residual-in_err-write_above.result c.from_residual-in_err-write_above.ensures.1 c.in_err-write_above.ensures.answers

pub returns-in_err-put_root-clause-outcome : goal.returns-in_err-put_root-clause-outcome
returns-in_err-put_root-clause-outcome g c =
    own_answered _ false _ c.in_err-put_root.field-0.0 c.from_residual-in_err-put_root.result c.from_residual-in_err-put_root.ensures.1
    (⊎_elim (λ (m : c.in_err-put_root.field-0.0 ≡ Memory). inl m)
    (λ (n : c.in_err-put_root.field-0.0 ≡ NotAStore). inr (inr (n, λ some short. c.in_err-put_root.ensures.sound some short (ap Err n)))) c.in_err-put_root.ensures.refused)
    (is_either c.in_err-put_root.field-0.0 c.in_err-put_root.ensures.refused) c.in_ok-write_above.ensures.answers.noted
