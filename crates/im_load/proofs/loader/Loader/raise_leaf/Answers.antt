use Rattle.std.proofs.Common.{◌≡◌, inl, inr, ⊎_elim, Err, ap, rules, false}
use Rattle.im_base_types.specs.declared.fault.Fault.TheVariants.{Memory, NotAStore}
use Rattle.im_base_types.specs.declared.file_id.FileId.TheVariants.{Pages}
use Rattle.im_base_disk.proofs.Ends.{own_answered}
use Rattle.im_load.proofs.Calls.{raise_leaf_made, both_kind}
use Rattle.im_load.proofs.Faults.{passed_on, is_capacity, is_either, works_on}
use Rattle.im_load.proofs.loader.Loader.raise_leaf.Goals as goal

pub returns-clause-taken : goal.returns-clause-taken
returns-clause-taken g c es t none top full =
    let d = g.D.Disk in
    raise_leaf_made c.args.self.now c.new_page.new.self c.in_ok-left.left c.in_ok-left.ensures.page c.in_ok-left.ensures.more c.new_page-2.new.self c.in_ok-right.right c.in_ok-right.ensures.page c.in_ok-right.ensures.more
    c.close_leaf.new.self c.put_root.new.self d.tells (d.seen c.args.disk.now Pages) (d.seen c.close_leaf.new.disk Pages) es (c.args.key.now, c.args.rid)
    c.in_ok-close_leaf.ensures.closed c.in_ok-close_leaf.ensures.written c.in_ok-put_root.ensures.root c.in_ok-put_root.ensures.above t none top full

pub returns-in_err-left-clause-outcome : goal.returns-in_err-left-clause-outcome
returns-in_err-left-clause-outcome g c =
    own_answered _ false _ c.in_err-left.field-0.0 c.from_residual.result c.from_residual.ensures.1 (inr (inl c.in_err-left.ensures.refused)) (is_capacity c.in_err-left.field-0.0 c.in_err-left.ensures.refused.0) (search rules)

pub returns-in_err-right-clause-outcome : goal.returns-in_err-right-clause-outcome
returns-in_err-right-clause-outcome g c =
    own_answered _ false _ c.in_err-right.field-0.0 c.from_residual-in_err-right.result c.from_residual-in_err-right.ensures.1 (inr (inl c.in_err-right.ensures.refused))
    (is_capacity c.in_err-right.field-0.0 c.in_err-right.ensures.refused.0) (search rules)

pub returns-in_err-close_leaf-clause-outcome : goal.returns-in_err-close_leaf-clause-outcome
returns-in_err-close_leaf-clause-outcome g c =
    passed_on _ _ _ c.in_err-close_leaf.field-0.0 c.from_residual-in_err-close_leaf.result c.from_residual-in_err-close_leaf.ensures.1 c.in_err-close_leaf.ensures.outcome
    (λ is. inr (inr (
      is,
      λ es t some short.
          c.in_err-close_leaf.ensures.sound
          (both_kind c.args.self.now c.new_page.new.self c.in_ok-left.left c.in_ok-left.ensures.page c.in_ok-left.ensures.more c.new_page-2.new.self c.in_ok-right.right c.in_ok-right.ensures.page c.in_ok-right.ensures.more g.D.Disk.tells
          (g.D.Disk.seen c.args.disk.now Pages) es t)
          some short (ap Err is),
    )))

pub returns-in_err-put_root-clause-outcome : goal.returns-in_err-put_root-clause-outcome
returns-in_err-put_root-clause-outcome g c =
    own_answered _ false _ c.in_err-put_root.field-0.0 c.from_residual-in_err-put_root.result c.from_residual-in_err-put_root.ensures.1
    (⊎_elim (λ (m : c.in_err-put_root.field-0.0 ≡ Memory). inl m)
    (λ (n : c.in_err-put_root.field-0.0 ≡ NotAStore). inr (inr (n, λ es t some short. c.in_err-put_root.ensures.sound some short (ap Err n)))) c.in_err-put_root.ensures.refused)
    (is_either c.in_err-put_root.field-0.0 c.in_err-put_root.ensures.refused) (works_on _ _ _ c.in_ok-close_leaf.ensures.outcome)
