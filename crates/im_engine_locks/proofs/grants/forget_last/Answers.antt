use Rattle.std.proofs.Common.{◌∙◌}
use Rattle.im_engine_locks.specs.declared.place.Place.{Place}
use Rattle.im_engine_locks.proofs.Places.{apart-but}
use Rattle.im_engine_locks.proofs.Added.{popped-known, popped-once}
use Rattle.im_engine_locks.proofs.grants.forget_last.Goals as goal
use Rattle.im_engine_locks.proofs.grants.forget_last.Goals.{Joined-lock}

abbrev place : Joined-lock → Place
place c = record { owner = c.args.t; span = c.args.span; at = c.len.result }

pub returns-clause-known : goal.returns-clause-known
returns-clause-known c =
    popped-known c.args.names.now c.remove.new.self (place c) c.args.locks.now.items c.pop.new.self.items c.in-Some.lock c.in-Some.ensures.items c.requires.known (c.len.ensures ∙ c.pop.new.self.ok.0) c.remove.ensures.kept

pub returns-clause-once : goal.returns-clause-once
returns-clause-once c = popped-once c.args.locks.now.items c.pop.new.self.items c.in-Some.lock c.in-Some.ensures.items c.requires.once

pub returns-clause-apart : goal.returns-clause-apart
returns-clause-apart c = apart-but c.args.names.now c.remove.new.self (place c) c.remove.ensures.kept
