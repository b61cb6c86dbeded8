use Rattle.im_engine_locks.proofs.Digests.{there-more, kept-more}
use Rattle.im_engine_locks.proofs.name_places.add_to.Goals as goal

pub returns-clause-there : goal.returns-clause-there
returns-clause-there c = λ yes. there-more c.args.places.now.items c.push.new.self.items c.args.place c.in_ok-push.ensures.items

pub returns-clause-kept : goal.returns-clause-kept
returns-clause-kept c = kept-more c.args.places.now.items c.push.new.self.items c.args.place c.in_ok-push.ensures.items
