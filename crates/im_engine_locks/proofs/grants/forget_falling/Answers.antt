use Rattle.std.proofs.Common.{refl}
use Rattle.im_engine_locks.specs.Index.{seen_all}
use Rattle.im_engine_locks.specs.declared.place.Span.TheVariants.{Lasting, Falling}
use Rattle.im_engine_locks.proofs.Places.{covers-other, others-apart}
use Rattle.im_engine_locks.proofs.grants.forget_falling.Goals as goal

pub returns-clause-known : goal.returns-clause-known
returns-clause-known c = record {
  lasting = covers-other c.args.names.now c.forget.new.names c.args.t Falling Lasting (seen_all c.args.locks.now.lasting) refl c.forget.ensures.apart c.requires.known.lasting;
  falling = c.forget.ensures.known;
  once = c.requires.known.once;
  once_falling = c.forget.ensures.once;
}

pub returns-clause-others : goal.returns-clause-others
returns-clause-others c = others-apart c.args.names.now c.forget.new.names c.args.t Falling c.forget.ensures.apart
