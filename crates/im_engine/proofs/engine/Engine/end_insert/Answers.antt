use Rattle.std.proofs.Common.{◌≡◌, refl, sym, ap, ◌∙◌}
use Rattle.im_engine.specs.declared.stepped.Under.{Under}
use Rattle.im_engine.proofs.SteppedFinishes.{insert_not_ended, made_inserted}
use Rattle.im_engine.proofs.SteppedOwners.{some_inj}
use Rattle.im_engine.proofs.engine.Engine.end_insert.Goals as goal

pub returns-in-Ok : goal.returns-in-Ok
returns-in-Ok g c =
    let u : c.in-Some.under ≡ c.requires.owned.owns.u = some_inj c.in-Some.under c.requires.owned.owns.u (sym c.in-Some.is ∙ c.requires.owned.owns.is) in
    let same : c.change.result.now ≡ c.requires.owned.owns.u.begun.change = c.change.ensures ∙ ap (λ (y : Under). y.begun.change) u in
    made_inserted g.D.Disk c.args.self.now _ c.requires.works c.requires.owned.owns.u c.requires.owned.owns.is c.requires.owned.owns.end refl refl refl c.args.t c.requires.owned.owns.owner
    c.change.result.now same c.in-Puts.key c.bytes.result.now c.bytes.ensures.bytes c.in-Puts.rid c.in-Puts.leaf (ap (λ (y : Under). y.aim) (sym u) ∙ c.in-Puts.is) c.in-Ok.lsn c.in-Ok.ensures.kept c.in-Ok.ensures.outcome c.requires.checked c.fall_back.ensures c.note_made.ensures.table

pub returns-in-Err : goal.returns-in-Err
returns-in-Err g c =
    let u : c.in-Some.under ≡ c.requires.owned.owns.u = some_inj c.in-Some.under c.requires.owned.owns.u (sym c.in-Some.is ∙ c.requires.owned.owns.is) in
    let same : c.change.result.now ≡ c.requires.owned.owns.u.begun.change = c.change.ensures ∙ ap (λ (y : Under). y.begun.change) u in
    insert_not_ended g.D.Disk c.args.self.now _ c.requires.works c.args.t c.requires.owned.owns.u c.requires.owned.owns.is c.requires.owned.owns.owner c.requires.owned.owns.end refl c.requires.checked refl
    (λ u f le left. g.met.D.Disk.counts_now c.insert_end.new.disk u f le left) c.change.result.now same c.in-Puts.key c.bytes.result.now c.bytes.ensures.bytes c.in-Puts.rid c.in-Puts.leaf (ap (λ (y : Under). y.aim) (sym u) ∙ c.in-Puts.is)
    c.in-Err.fault c.in-Err.ensures.kept c.in-Err.ensures.outcome c.in-Err.ensures.never c.breaks-self.ensures c.told.result c.told.ensures
