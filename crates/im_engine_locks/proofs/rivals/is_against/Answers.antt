use Rattle.std.proofs.Common.{rules, List, ap, sym, ◌∙◌}
use Rattle.im_theory_machine.specs.Locks.{Lock}
use Rattle.im_theory_machine.specs.Table.{Held}
use Rattle.im_engine_locks.specs.Requests.{named}
use Rattle.im_engine_locks.specs.Places.{is_barred, list_in}
use Rattle.im_engine_locks.proofs.Owners.{held_of-there, held_of-absent}
use Rattle.im_engine_locks.proofs.Conflicts.{barred-nothing}
use Rattle.im_engine_locks.proofs.rivals.is_against.Goals as goal

pub returns-in-Some : goal.returns-in-Some
returns-in-Some c =
    c.is_barred.ensures
    ∙ ap (λ (ls : List Lock). is_barred ls c.args.place.now.at (named c.args.name) c.args.mode)
    (c.list.ensures ∙ ap (λ (h : Held). list_in h c.args.place.now.span) (sym (held_of-there c.args.owners.now c.args.place.now.owner c.in-Some.own.now (search rules))))

pub returns-in-None : goal.returns-in-None
returns-in-None c =
    barred-nothing c.args.place.now.span c.args.place.now.at (named c.args.name) c.args.mode
    ∙ ap (λ (h : Held). is_barred (list_in h c.args.place.now.span) c.args.place.now.at (named c.args.name) c.args.mode) (sym (held_of-absent c.args.owners.now c.args.place.now.owner (search rules)))
