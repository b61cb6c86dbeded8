use Rattle.std.proofs.Common.{◌≡◌, ◌<◌, ◌≤◌, ◌+◌, ◌++◌, ℕ, List, drop, take, length, sym, ◌∙◌, ap, arith, subst, rules, Option, Ok}
use Rattle.std.specs.Prelude.{IfSome}
use Rattle.im_page_rounds.specs.Hand.{AreAmong, StandIn}
use Rattle.im_page_rounds.specs.Rounds.{AreFrom}
use Rattle.im_page_writer.proofs.Outcomes.{sound_on}
use Rattle.im_restart_redo.specs.declared.rounds.Passed.{Passed}
use Rattle.im_restart_redo.specs.Rounds.{passed_of}
use Rattle.im_restart_redo.specs.Segments.{IsWithinSegment, lsns_in}
use Rattle.im_restart_redo.proofs.Applying.{noted_still}
use Rattle.im_restart_redo.proofs.Between.{part_durable, part_had, part_records, part_sound, part_taken, part_those, part_who, passed_few, segment_records, some_redone}
use Rattle.im_restart_redo.proofs.Ordered.{whole_take}
use Rattle.im_restart_redo.proofs.Planned.{some_page}
use Rattle.im_restart_redo.proofs.Recoveries.{recovery_refused, redone}
use Rattle.im_restart_redo.proofs.RoundsApplied.{stand_in}
use Rattle.im_restart_redo.proofs.Within.{leaves_more}
use Rattle.im_restart_redo.proofs.rounds.redo_pages.Goals as goal

pub returns-in_err-redone-clause-outcome : goal.returns-in_err-redone-clause-outcome
returns-in_err-redone-clause-outcome g c = recovery_refused g.D.Disk c.from_residual.result c.from_residual.ensures.1 (redone g.D.Disk c.in_err-redone.ensures.outcome)

pub returns-in_err-redone-clause-kept : goal.returns-in_err-redone-clause-kept
returns-in_err-redone-clause-kept g c b base begun file from all later count so whole shows can at are =
    let d = g.D.Disk in
    let w = c.args.writer.now in
    let disk = c.args.disk.now in
    let left = c.args.changes.now in
    let plan = c.plan.ensures in
    let rounds = c.plan.new.self in
    let k : ℕ = length rounds.lsns.items in
    let span : List ℕ = take c.args.window.used c.args.room.now in
    let within = so.passed.within in
    let part = part_records d b base begun file from all left later count w disk so k plan.apart (segment_records d b base begun file from all left later count w disk so) in
    let stand = stand_in begun c.args.window.from span part.own (lsns_in (take k left)) part.lsns part.records shows (whole_take c.args.window.from span k left whole) in
    let one = c.in_err-redone.ensures.kept b base so.passed.now (within.durable.newer ++ so.after) so.front so.rs part.own (part_who d b base begun file from all left later count w disk so k plan.apart) within.stands within.going (within.point ∙ sym at)
    (part_durable d b base begun file from all left later count w disk so) (subst (λ (n : ℕ). AreFrom n so.rs) (sym at) so.above) (part_had d b base begun file from all left later count w disk so)
    (part_those d b base begun file from all left later count w disk so k plan.apart part)
    (subst (λ (ls : List ℕ). StandIn c.args.window.from span ls part.own) (sym (c.deref-2.ensures.value ∙ plan.lsns)) stand)
    (λ p noted. noted_still b begun so.passed.now p c.args.point c.args.copies.now are at within.durable within.point noted) in
    let among = subst (λ (ns : List ℕ). AreAmong ns part.own) (sym c.deref.ensures.value) (part.among rounds.numbers.items plan.on) in
    record {
      stops = leaves_more d b base begun from so.passed.now w disk within c.redo_round.new.disk one.stops;
      sound = sound_on c.from_residual.result _ _ c.from_residual.ensures.1 (one.cause among (part_taken d b base begun file from all left later count w disk so k plan.apart part can));
    }

pub returns-clause-outcome : goal.returns-clause-outcome
returns-clause-outcome g c = redone g.D.Disk c.in_ok-redone.ensures.outcome

pub returns-clause-kept : goal.returns-clause-kept
returns-clause-kept g c b base begun file from all later count so whole shows can at are =
    let d = g.D.Disk in
    let w = c.args.writer.now in
    let disk = c.args.disk.now in
    let left = c.args.changes.now in
    let plan = c.plan.ensures in
    let rounds = c.plan.new.self in
    let k : ℕ = length rounds.lsns.items in
    let span : List ℕ = take c.args.window.used c.args.room.now in
    let within = so.passed.within in
    let part = part_records d b base begun file from all left later count w disk so k plan.apart (segment_records d b base begun file from all left later count w disk so) in
    let stand = stand_in begun c.args.window.from span part.own (lsns_in (take k left)) part.lsns part.records shows (whole_take c.args.window.from span k left whole) in
    let one = c.in_ok-redone.ensures.kept b base so.passed.now (within.durable.newer ++ so.after) so.front so.rs part.own (part_who d b base begun file from all left later count w disk so k plan.apart) within.stands within.going (within.point ∙ sym at)
    (part_durable d b base begun file from all left later count w disk so) (subst (λ (n : ℕ). AreFrom n so.rs) (sym at) so.above) (part_had d b base begun file from all left later count w disk so)
    (part_those d b base begun file from all left later count w disk so k plan.apart part)
    (subst (λ (ls : List ℕ). StandIn c.args.window.from span ls part.own) (sym (c.deref-2.ensures.value ∙ plan.lsns)) stand)
    (λ p noted. noted_still b begun so.passed.now p c.args.point c.args.copies.now are at within.durable within.point noted) in
    let planned : c.len-planned.result ≡ k = search rules in
    let is : c.passed_by.result ≡ passed_of k c.in_ok-redone.redone = c.passed_by.ensures ∙ ap (λ (n : ℕ). passed_of n c.in_ok-redone.redone) planned in
    record {
      stops = leaves_more d b base begun from so.passed.now w disk within c.redo_round.new.disk one.stops;
      sound = subst (λ (p : Passed). IsWithinSegment d b base begun file all (drop p.changes left) later (count + p.applied) from c.redo_round.new.self c.redo_round.new.disk) (sym is)
          (part_sound d b base begun file from all left later count w disk so k plan.apart part _ c.redo_round.new.self c.redo_round.new.disk c.in_ok-redone.redone one
          (λ none. c.in_ok-redone.ensures.none b base so.passed.now within.stands (λ q. (so.passed.had q).0) (ap (λ (o : Option ℕ). Ok o) none)));
    }

pub returns-clause-passed : goal.returns-clause-passed
returns-clause-passed g c =
    let k : ℕ = length c.plan.new.self.lsns.items in
    let redone : Option ℕ = c.in_ok-redone.redone in
    let long : length c.deref-2.result.now ≡ k = ap (λ (ls : List ℕ). length ls) c.deref-2.ensures.value in
    let planned : c.len-planned.result ≡ k = search rules in
    let is : c.passed_by.result ≡ passed_of k redone = c.passed_by.ensures ∙ ap (λ (n : ℕ). passed_of n redone) planned in
    subst (λ (p : Passed). (p.changes ≤ length c.args.changes.now) × (p.applied ≤ p.changes)) (sym is)
    (passed_few k (length c.args.changes.now) redone c.plan.ensures.within (subst (λ (n : ℕ). IfSome redone (λ a. a ≤ n)) long c.in_ok-redone.ensures.few))

pub returns-clause-one : goal.returns-clause-one
returns-clause-one g c b base begun file from all later count so single =
    let plan = c.plan.ensures in
    let rounds = c.plan.new.self in
    let left = c.args.changes.now in
    let k : ℕ = length rounds.lsns.items in
    let some : 0 < k = plan.some c.requires.some in
    let pages : 0 < length rounds.numbers.items = some_page rounds.numbers.items k left some c.requires.some plan.on in
    let one : length rounds.numbers.items ≡ 1 = omega (arith, pages, plan.few, single) in
    let here = ap (λ (ns : List ℕ). length ns) c.deref.ensures.value ∙ one in
    let planned : c.len-planned.result ≡ k = search rules in
    let is : c.passed_by.result ≡ passed_of k c.in_ok-redone.redone = c.passed_by.ensures ∙ ap (λ (n : ℕ). passed_of n c.in_ok-redone.redone) planned in
    subst (λ (p : Passed). 0 < p.changes) (sym is)
    (some_redone k c.in_ok-redone.redone some (λ none. c.in_ok-redone.ensures.one b base so.passed.now so.passed.within.stands (λ q. (so.passed.had q).0) here (ap (λ (o : Option ℕ). Ok o) none)))
