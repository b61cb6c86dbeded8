use Rattle.std.proofs.Common.{rules}
use Rattle.im_page_writer.proofs.Loans.{found, lend_one, not_lacking, set_others}
use Rattle.im_page_writer.proofs.page_writer.PageWriter.lend.Goals as goal

pub returns-in-Some-clause-lent : goal.returns-in-Some-clause-lent
returns-in-Some-clause-lent c =
    let pool = c.args.self.now.pool in
    let f = found pool c.args.number c.in-Some.frame c.in-Some.ensures.found in
    lend_one pool c.exchange.new.self c.args.number c.in-Some.frame f _ c.args.out.now.page.value c.is_changed-changed.result c.is_changed-changed.ensures c.exchange.ensures.out (search rules) c.exchange.ensures.here

pub returns-in-Some-clause-others : goal.returns-in-Some-clause-others
returns-in-Some-clause-others c =
    let pool = c.args.self.now.pool in
    set_others pool c.exchange.new.self c.args.number c.in-Some.frame (found pool c.args.number c.in-Some.frame c.in-Some.ensures.found) _ _ c.exchange.ensures.here

pub returns-in-None-clause-lent : goal.returns-in-None-clause-lent
returns-in-None-clause-lent c = absurd (not_lacking c.args.self.now.pool c.args.number c.in-None.ensures.found c.requires.held)
