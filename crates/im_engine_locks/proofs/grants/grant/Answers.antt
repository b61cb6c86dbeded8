use Rattle.im_engine_locks.specs.Index.{is_kept, is_to_commit, seen_all}
use Rattle.im_engine_locks.specs.Owned.{all_in}
use Rattle.im_engine_locks.proofs.Held.{front-on, held-step}
use Rattle.im_engine_locks.proofs.Places.{others-on}
use Rattle.im_engine_locks.proofs.grants.grant.Goals as goal

pub loop-request-preserved : goal.loop-request-preserved
loop-request-preserved c = record {
  known = c.in_default.ensures.known;
  others = others-on c.args.names.now c.loop-request.names c.keep.new.names c.args.t c.loop-request.invariant.others c.in_default.ensures.others;
  front = front-on c.args.locks.now.lasting.items c.loop-request.locks.lasting.items c.keep.new.locks.lasting.items c.loop-request.invariant.front c.in_default.ensures.front.lasting;
  front_falling = front-on c.args.locks.now.falling.items c.loop-request.locks.falling.items c.keep.new.locks.falling.items c.loop-request.invariant.front_falling c.in_default.ensures.front.falling;
  held = held-step is_kept (all_in c.args.locks.now) (all_in c.loop-request.locks) (all_in c.keep.new.locks) c.args.requests.now c.loop-request.request-index _ c.loop-request-test.true c.loop-request.invariant.held c.in_default.ensures.held;
  lasting = held-step is_to_commit (seen_all c.args.locks.now.lasting) (seen_all c.loop-request.locks.lasting) (seen_all c.keep.new.locks.lasting) c.args.requests.now c.loop-request.request-index _ c.loop-request-test.true c.loop-request.invariant.lasting c.in_default.ensures.lasting;
}
