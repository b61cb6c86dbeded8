use Rattle.std.proofs.Common.{rules, Ok, Option, IfSome, ap, subst, ◌≡◌, true, false}
use Rattle.im_restart.specs.declared.found.Found.{Found}
use Rattle.im_restart.specs.Reading.{IsFound}
use Rattle.im_restart.proofs.read_log.read_whole.Goals as goal

pub returns-in_err-found-clause-kept : goal.returns-in_err-found-clause-kept
returns-in_err-found-clause-kept g c base all told is bare taken =
    let k = c.in_err-found.ensures.kept base all told is bare taken in
    record { ok = search rules; stops = k.stops; cause = search (rules, k.cause) }

pub returns-in-Some-clause-kept : goal.returns-in-Some-clause-kept
returns-in-Some-clause-kept g c base all told is bare taken =
    let k = c.in_ok-found.ensures.kept base all told is bare taken in
    record { ok = subst (λ (o : Option Found). IfSome o (λ f. IsFound g.D.Disk base all f c.read_log.new.disk)) c.in-Some.is k.ok.1; stops = k.stops; cause = search rules }

pub returns-in-Some-clause-had : goal.returns-in-Some-clause-had
returns-in-Some-clause-had g c = c.in_ok-found.ensures.again.had

pub returns-in-None-clause-kept : goal.returns-in-None-clause-kept
returns-in-None-clause-kept g c base all told is bare taken =
    let never : false ≡ true = c.in_ok-found.ensures.whole (ap Ok c.in-None.is) in
    absurd (cc never)
