use Rattle.im_page.proofs.FieldLemmas.{next_written}
use Rattle.im_page.proofs.page.Page.set_next.Goals as goal

pub invariant_of-self : goal.invariant_of-self
invariant_of-self c = (next_written c.self.inside.bytes c.put_u32.new.bytes c.args.next c.self.invariant (rw (← c.self.view_is) at c.requires) c.put_u32.ensures.rest c.put_u32.ensures.value).0

pub returns : goal.returns
returns c = rw (← c.self.view_is) (next_written c.self.inside.bytes c.put_u32.new.bytes c.args.next c.self.invariant (rw (← c.self.view_is) at c.requires) c.put_u32.ensures.rest c.put_u32.ensures.value).1
