use Rattle.std.proofs.Common.{refl}
use Rattle.im_engine_locks.specs.Requests.{named}
use Rattle.im_engine_locks.specs.Index.{seen_all}
use Rattle.im_engine_locks.specs.declared.place.Span.TheVariants.{Lasting, Falling}
use Rattle.im_engine_locks.proofs.Owners.{on_ok}
use Rattle.im_engine_locks.proofs.Held.{held-first}
use Rattle.im_engine_locks.proofs.Places.{covers-other, others-apart}
use Rattle.im_engine_locks.proofs.grants.keep_lasting.Goals as goal

pub returns-clause-known : goal.returns-clause-known
returns-clause-known c = record {
  lasting = c.add.ensures.known;
  falling = covers-other c.args.names.now c.add.new.names c.args.t Lasting Falling (seen_all c.args.locks.now.falling) refl c.add.ensures.apart c.requires.known.falling;
  once = c.add.ensures.once;
  once_falling = c.requires.known.once_falling;
}

pub returns-clause-others : goal.returns-clause-others
returns-clause-others c = others-apart c.args.names.now c.add.new.names c.args.t Lasting c.add.ensures.apart

pub returns-clause-held : goal.returns-clause-held
returns-clause-held c =
    on_ok c.add.result (held-first (seen_all c.args.locks.now.lasting) (seen_all c.add.new.locks) (seen_all c.args.locks.now.falling) (record { name = named c.args.name; mode = c.args.mode })) c.add.ensures.held
