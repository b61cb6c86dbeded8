use Rattle.std.proofs.Common.{sym, ◌∙◌}
use Rattle.im_page.proofs.WordLemmas.{order_of_words}
use Rattle.im_page.proofs.cells.order.Goals as goal

pub returns-then-word-first : goal.returns-then-word-first
returns-then-word-first c =
    c.cmp.ensures ∙ sym (order_of_words c.args.other.now c.args.key.now c.foot_of-word.result c.args.first
    (λ i. (c.type_inv.other i).fits) (λ i. (c.type_inv.key i).fits)
    c.foot_of-word.ensures c.requires c.if-other-ge8.true c.if-key-ge8.true c.if-word-first.true)
