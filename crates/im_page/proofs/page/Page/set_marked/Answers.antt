use Rattle.std.proofs.Common.{◌∙◌}
use Rattle.im_page.proofs.FieldLemmas.{mark_written}
use Rattle.im_page.proofs.page.Page.set_marked.Goals as goal

pub invariant_of-self : goal.invariant_of-self
invariant_of-self c = (mark_written c.self.inside.bytes c.put_u8.new.bytes c.args.marked c.self.invariant c.put_u8.ensures.rest (c.put_u8.ensures.value ∙ c.flags.ensures)).0

pub returns : goal.returns
returns c = rw (← c.self.view_is) (mark_written c.self.inside.bytes c.put_u8.new.bytes c.args.marked c.self.invariant c.put_u8.ensures.rest (c.put_u8.ensures.value ∙ c.flags.ensures)).1
