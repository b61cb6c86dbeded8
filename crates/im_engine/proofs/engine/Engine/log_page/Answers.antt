use Rattle.std.proofs.Common.{◌≡◌, ◌<◌, ℕ, Some, length, map, refl, sym, ap, subst, ◌∙◌}
use Rattle.im_base_txn.specs.Rows.{changed, with_record}
use Rattle.im_smo_log.specs.declared.change.Change.{Change}
use Rattle.im_engine.specs.declared.stepped.Under.{Under}
use Rattle.im_engine.proofs.SteppedOwners.{some_inj}
use Rattle.im_engine.proofs.SteppedPages.{made_page, not_made_page}
use Rattle.im_engine.proofs.engine.Engine.log_page.Goals as goal

pub returns-in-Ok : goal.returns-in-Ok
returns-in-Ok g c =
    let u : Under = c.in-Some.under in
    let was : c.args.self.now.under ≡ Some u = sym c.take.ensures.value ∙ c.in-Some.is in
    let owns : c.requires.owned.u ≡ u = some_inj c.requires.owned.u u (sym c.requires.owned.is ∙ was) in
    let last : c.last-last.result ≡ c.step.new.self.change.last = c.last-last.ensures ∙ ap (λ (y : Change). y.last) c.change.ensures in
    made_page g.D.Disk c.args.t c.args.self.now _ c.requires.works u (record { begun = c.step.new.self; aim = u.aim }) was refl (ap (λ (y : Under). y.begun.change.transaction) (sym owns) ∙ c.requires.owned.owner)
    (subst (λ (y : Under). y.begun.change.done < length y.begun.change.images) owns c.requires.owned.left) c.requires.checked refl c.in-Ok.ensures.plan.0 c.in-Ok.ensures.plan.1 c.in-Ok.ensures.plan.2 c.in-Ok.ensures.plan.3 refl
    c.in-Ok.ensures.kept c.in-Ok.ensures.outcome refl (c.note_record.ensures.table ∙ ap (λ (n : ℕ). record c.args.self.now.txns { rows = map (changed c.args.t (with_record n n)) c.args.self.now.txns.rows }) last) refl

pub returns-in-Err : goal.returns-in-Err
returns-in-Err g c =
    let u : Under = c.in-Some.under in
    let was : c.args.self.now.under ≡ Some u = sym c.take.ensures.value ∙ c.in-Some.is in
    let owns : c.requires.owned.u ≡ u = some_inj c.requires.owned.u u (sym c.requires.owned.is ∙ was) in
    not_made_page g.D.Disk c.args.t c.args.self.now _ c.requires.works u (record { begun = c.step.new.self; aim = u.aim }) was refl (ap (λ (y : Under). y.begun.change.transaction) (sym owns) ∙ c.requires.owned.owner)
    (subst (λ (y : Under). y.begun.change.done < length y.begun.change.images) owns c.requires.owned.left) c.requires.checked refl c.in-Err.ensures.plan.0 c.in-Err.ensures.plan.1 c.in-Err.ensures.plan.2 c.in-Err.ensures.plan.3 refl
    c.in-Err.fault c.in-Err.ensures.kept c.in-Err.ensures.outcome c.in-Err.ensures.same refl refl c.breaks-self.ensures c.told.result c.told.ensures (λ n files le left. g.met.D.Disk.counts_now c.step.new.disk n files le left)
