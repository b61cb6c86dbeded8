use Rattle.im_engine_locks.specs.Places.{listed}
use Rattle.im_engine_locks.proofs.Digests.{there-more, kept-more}
use Rattle.im_engine_locks.proofs.name_places.add_in.Goals as goal

pub returns-clause-there : goal.returns-clause-there
returns-clause-there c = λ yes. there-more (listed c.args.bucket.now) (listed c.push.new.self) c.args.place c.in_ok-push.ensures.ok

pub returns-clause-kept : goal.returns-clause-kept
returns-clause-kept c = kept-more (listed c.args.bucket.now) (listed c.push.new.self) c.args.place c.in_ok-push.ensures.ok
