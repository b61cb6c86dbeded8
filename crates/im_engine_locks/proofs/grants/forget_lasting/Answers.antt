use Rattle.std.proofs.Common.{refl}
use Rattle.im_engine_locks.specs.Index.{seen_all}
use Rattle.im_engine_locks.specs.declared.place.Span.TheVariants.{Lasting, Falling}
use Rattle.im_engine_locks.proofs.Places.{covers-other, others-apart}
use Rattle.im_engine_locks.proofs.grants.forget_lasting.Goals as goal

pub returns-clause-known : goal.returns-clause-known
returns-clause-known c = record {
  lasting = c.forget.ensures.known;
  falling = covers-other c.args.names.now c.forget.new.names c.args.t Lasting Falling (seen_all c.args.locks.now.falling) refl c.forget.ensures.apart c.requires.known.falling;
  once = c.forget.ensures.once;
  once_falling = c.requires.known.once_falling;
}

pub returns-clause-others : goal.returns-clause-others
returns-clause-others c = others-apart c.args.names.now c.forget.new.names c.args.t Lasting c.forget.ensures.apart
