use Rattle.im_page.proofs.FieldLemmas.{prev_written}
use Rattle.im_page.proofs.page.Page.set_prev.Goals as goal

pub invariant_of-self : goal.invariant_of-self
invariant_of-self c = (prev_written c.self.inside.bytes c.put_u32.new.bytes c.args.prev c.self.invariant (rw (← c.self.view_is) at c.requires) c.put_u32.ensures.rest c.put_u32.ensures.value).0

pub returns : goal.returns
returns c = rw (← c.self.view_is) (prev_written c.self.inside.bytes c.put_u32.new.bytes c.args.prev c.self.invariant (rw (← c.self.view_is) at c.requires) c.put_u32.ensures.rest c.put_u32.ensures.value).1
