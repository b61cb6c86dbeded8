use Rattle.std.proofs.Common.{refl}
use Rattle.im_engine_locks.specs.Requests.{named}
use Rattle.im_engine_locks.specs.Index.{seen_all}
use Rattle.im_engine_locks.specs.declared.place.Span.TheVariants.{Lasting, Falling}
use Rattle.im_engine_locks.proofs.Owners.{on_ok}
use Rattle.im_engine_locks.proofs.Held.{held-second}
use Rattle.im_engine_locks.proofs.Places.{covers-other, others-apart}
use Rattle.im_engine_locks.proofs.grants.keep_falling.Goals as goal

pub returns-clause-known : goal.returns-clause-known
returns-clause-known c = record {
  lasting = covers-other c.args.names.now c.add.new.names c.args.t Falling Lasting (seen_all c.args.locks.now.lasting) refl c.add.ensures.apart c.requires.known.lasting;
  falling = c.add.ensures.known;
  once = c.requires.known.once;
  once_falling = c.add.ensures.once;
}

pub returns-clause-others : goal.returns-clause-others
returns-clause-others c = others-apart c.args.names.now c.add.new.names c.args.t Falling c.add.ensures.apart

pub returns-clause-held : goal.returns-clause-held
returns-clause-held c =
    on_ok c.add.result (held-second (seen_all c.args.locks.now.lasting) (seen_all c.args.locks.now.falling) (seen_all c.add.new.locks) (record { name = named c.args.name; mode = c.args.mode })) c.add.ensures.held
