use Rattle.std.proofs.Common.{◌∙◌, ◌||◌, Bool, ap, subst, sym}
use Rattle.im_page_pool.specs.Pool.{PoolView, held_of}
use Rattle.im_page_writer.specs.Rounds.{IsBack}
use Rattle.im_page_writer.proofs.Loans.{back_one, found, not_lacking, set_others}
use Rattle.im_page_writer.proofs.page_writer.PageWriter.take_back.Goals as goal

pub returns-in-Some-clause-back : goal.returns-in-Some-clause-back
returns-in-Some-clause-back c was held =
    let pool = c.args.self.now.pool in
    let f = found pool c.args.number c.in-Some.frame c.in-Some.ensures.found in
    subst (λ (x : PoolView). IsBack was c.args.out.now x c.args.number) (sym c.enter_changed.ensures.pool)
    (back_one pool c.exchange.new.self c.args.number c.in-Some.frame f c.args.out.now _ (c.either-changed.ensures ∙ ap (λ (b : Bool). b || c.args.out.now.changed) c.is_changed.ensures) c.exchange.ensures.here was held)

pub returns-in-Some-clause-others : goal.returns-in-Some-clause-others
returns-in-Some-clause-others c q ne =
    let pool = c.args.self.now.pool in
    ap (λ (x : PoolView). held_of x q) c.enter_changed.ensures.pool ∙ set_others pool c.exchange.new.self c.args.number c.in-Some.frame (found pool c.args.number c.in-Some.frame c.in-Some.ensures.found) _ _ c.exchange.ensures.here q ne

pub returns-in-None-clause-back : goal.returns-in-None-clause-back
returns-in-None-clause-back c was held = absurd (not_lacking c.args.self.now.pool c.args.number c.in-None.ensures.found c.requires.held)

pub returns-in-None-clause-entry : goal.returns-in-None-clause-entry
returns-in-None-clause-entry c = absurd (not_lacking c.args.self.now.pool c.args.number c.in-None.ensures.found c.requires.held)
