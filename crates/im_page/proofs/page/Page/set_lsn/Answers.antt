use Rattle.im_page.proofs.FieldLemmas.{lsn_written}
use Rattle.im_page.proofs.page.Page.set_lsn.Goals as goal

pub invariant_of-self : goal.invariant_of-self
invariant_of-self c = (lsn_written c.self.inside.bytes c.put_u64.new.bytes c.args.lsn c.self.invariant c.put_u64.ensures.rest c.put_u64.ensures.value).0

pub returns : goal.returns
returns c = rw (← c.self.view_is) (lsn_written c.self.inside.bytes c.put_u64.new.bytes c.args.lsn c.self.invariant c.put_u64.ensures.rest c.put_u64.ensures.value).1
