use Rattle.std.proofs.Common.{inl, sym, ◌∙◌}
use Rattle.im_page_writer.proofs.Outcomes.{idle, sound_on}
use Rattle.im_tree_search.proofs.Sighted.{some_done}
use Rattle.im_restart_undo.proofs.PlaceCalls.{place_held}
use Rattle.im_restart_undo.proofs.Plans.{leaf_seen, whole_but_still}
use Rattle.im_restart_undo.proofs.place.leaf_with.Goals as goal
use Rattle.im_smo_actions.proofs.Changes.{none_of}

pub returns-then-is_done-clause-outcome : goal.returns-then-is_done-clause-outcome
returns-then-is_done-clause-outcome g c = idle g.D.Disk g.met.D.Disk.only_now c.args.writer.now c.args.disk.now c.requires.working c.requires.ready

pub returns-then-is_done-clause-kept : goal.returns-then-is_done-clause-kept
returns-then-is_done-clause-kept g c pages whole = inl (sym c.is_done.ensures ∙ c.if-is_done.true)

pub returns-then-is_done-clause-leaf : goal.returns-then-is_done-clause-leaf
returns-then-is_done-clause-leaf g c = some_done c.args.beside c.args.page (sym c.is_done.ensures ∙ c.if-is_done.true)

pub returns-in_err-frame-clause-kept : goal.returns-in_err-frame-clause-kept
returns-in_err-frame-clause-kept g c pages whole = sound_on c.from_residual.result _ _ c.from_residual.ensures.1 (c.in_err-frame.ensures.kept pages whole)

pub returns-in-Some-clause-kept : goal.returns-in-Some-clause-kept
returns-in-Some-clause-kept g c pages whole =
    place_held pages c.page_with.new.writer.pool c.in_ok-frame.field-0 c.in-Some.frame c.in-Some.is c.args.key.now _ (c.in_ok-frame.ensures.kept pages whole)

pub returns-clause-kept : goal.returns-clause-kept
returns-clause-kept g c pages whole =
    leaf_seen c.leaf_beside.result pages c.args.beside c.args.page c.args.key.now _ _ c.leaf_beside.new.writer.pool (λ known. (c.in_ok-frame.ensures.kept pages whole).none (none_of c.in_ok-frame.field-0 c.in_default.not-Some) known)
    (c.leaf_beside.ensures.kept pages (whole_but_still g.D.Disk whole c.in_ok-frame.ensures.outcome).tree)

pub returns-clause-quick : goal.returns-clause-quick
returns-clause-quick g c pages whole known wanted = absurd ((c.in_ok-frame.ensures.kept pages whole).none (none_of c.in_ok-frame.field-0 c.in_default.not-Some) (known, wanted))
