use Rattle.std.proofs.Common.{sym, ◌∙◌}
use Rattle.std.proofs.lemmas.Option.{IfSome_then}
use Rattle.im_page_pool.specs.Pool.{last_changed}
use Rattle.im_page_writer.proofs.TableRoom.{if_number, next_large, next_small, no_number}
use Rattle.im_page_writer.proofs.page_writer.PageWriter.first_changed.Goals as goal

pub returns-then-is_large-clause-next : goal.returns-then-is_large-clause-next
returns-then-is_large-clause-next c =
    IfSome_then c.find_oldest_change.result c.find_oldest_change.ensures.next (λ f is. next_large c.args.self.now (sym c.is_large.ensures ∙ c.if-is_large.true) ∙ is)

pub returns-then-is_large-clause-none : goal.returns-then-is_large-clause-none
returns-then-is_large-clause-none c p none is = c.find_oldest_change.ensures.none p none (sym (next_large c.args.self.now (sym c.is_large.ensures ∙ c.if-is_large.true)) ∙ is)

pub returns-else-is_large-clause-next : goal.returns-else-is_large-clause-next
returns-else-is_large-clause-next c =
    IfSome_then c.oldest_changed.result (if_number (last_changed c.args.self.now.pool.held) c.oldest_changed.result c.oldest_changed.ensures.oldest)
    (λ f is. next_small c.args.self.now (sym c.is_large.ensures ∙ c.if-is_large.false) ∙ is)

pub returns-else-is_large-clause-none : goal.returns-else-is_large-clause-none
returns-else-is_large-clause-none c p none is =
    absurd (no_number (last_changed c.args.self.now.pool.held) p (sym none ∙ c.oldest_changed.ensures.oldest) (sym (next_small c.args.self.now (sym c.is_large.ensures ∙ c.if-is_large.false)) ∙ is))
