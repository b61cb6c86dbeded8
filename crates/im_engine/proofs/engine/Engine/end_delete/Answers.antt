use Rattle.std.proofs.Common.{◌≡◌, refl, sym, ap, ◌∙◌}
use Rattle.im_engine.specs.declared.stepped.Under.{Under}
use Rattle.im_engine.proofs.SteppedFinishes.{delete_not_ended, made_deleted}
use Rattle.im_engine.proofs.SteppedOwners.{some_inj}
use Rattle.im_engine.proofs.engine.Engine.end_delete.Goals as goal

pub returns-in-Ok : goal.returns-in-Ok
returns-in-Ok g c =
    let same : c.change-change.result.now ≡ c.requires.owned.owns.u.begun.change = c.change-change.ensures ∙ ap (λ (y : Under). y.begun.change) (some_inj c.in-Some.under c.requires.owned.owns.u (sym c.in-Some.is ∙ c.requires.owned.owns.is)) in
    made_deleted g.D.Disk c.args.self.now _ c.requires.works c.requires.owned.owns.u c.requires.owned.owns.is c.requires.owned.owns.end refl refl refl c.args.t c.requires.owned.owns.owner
    c.change-change.result.now same c.requires.owned.key c.requires.owned.aim c.in-Ok.lsn c.in-Ok.ensures.kept c.in-Ok.ensures.outcome refl c.requires.checked c.undo_next.result c.undo_next.ensures c.note_record.ensures.table

pub returns-in-Err : goal.returns-in-Err
returns-in-Err g c =
    let same : c.change-change.result.now ≡ c.requires.owned.owns.u.begun.change = c.change-change.ensures ∙ ap (λ (y : Under). y.begun.change) (some_inj c.in-Some.under c.requires.owned.owns.u (sym c.in-Some.is ∙ c.requires.owned.owns.is)) in
    delete_not_ended g.D.Disk c.args.self.now _ c.requires.works c.args.t c.requires.owned.owns.u c.requires.owned.owns.is c.requires.owned.owns.owner c.requires.owned.owns.end refl c.requires.checked refl
    (λ u f le left. g.met.D.Disk.counts_now c.close.new.disk u f le left) c.change-change.result.now same c.in-Err.fault c.in-Err.ensures.kept c.in-Err.ensures.outcome c.breaks-self.ensures c.told.result c.told.ensures
