use Rattle.std.proofs.Common.{rules, refl, sym, ◌∙◌, ap}
use Rattle.im_page_writer.proofs.Outcomes.{sound_on}
use Rattle.im_restart_redo.proofs.Recoveries.{recovers_then, unmoved}
use Rattle.im_theory_log.specs.Structure.{open_smo}
use Rattle.im_restart_analysis.specs.OpenChange.{oldest_first}
use Rattle.im_restart.proofs.Bounds.{empty_list, last_of_none}
use Rattle.im_restart.proofs.OpenChanges.{change_start, change_then, last_is, none_open}
use Rattle.im_restart.proofs.Steps.{left_then}
use Rattle.im_restart.proofs.structure_change.undo_change.Goals as goal

pub loop-newest-init : goal.loop-newest-init
loop-newest-init g c = record {
  outcome = unmoved g.D.Disk c.args.writer.now c.args.disk.now c.requires.working c.requires.ready;
  same_room = search rules;
  none = λ is. (is, refl, refl, refl);
  kept = λ b base all s stands is rows are. (s, change_start g.D.Disk b base all s c.args.writer.now c.args.disk.now (g.met.D.Disk.only_now c.args.disk.now) stands is, rows, are);
}

pub loop-newest-preserved : goal.loop-newest-preserved
loop-newest-preserved g c = record {
  outcome = recovers_then g.D.Disk c.loop-newest.invariant.outcome c.in_ok-undo_page_at.ensures.outcome;
  same_room = c.undo_page_at.ensures.room ∙ c.loop-newest.invariant.same_room;
  none = λ is. absurd (last_of_none c.loop-newest.open_change.items c.pop.new.self.items c.in-Some.newest (c.loop-newest.invariant.none is).0 c.in-Some.ensures.items);
  kept = λ b base all s stands is rows are. (
      let h = c.loop-newest.invariant.kept b base all s stands is rows are in
      let row = last_is (open_smo h.0.log) c.loop-newest.open_change.items c.pop.new.self.items c.in-Some.newest h.2 c.in-Some.ensures.items in
      let k = c.in_ok-undo_page_at.ensures.kept b base all h.0 row.rest h.1.stands h.1.taking (record { newest = row.newest; going = row.is; here = row.here }) h.3 in (
        k.sound.now,
        change_then g.D.Disk b base all s c.args.disk.now h.0 c.loop-newest.writer c.loop-newest.disk k.sound.now c.undo_page_at.new.writer c.undo_page_at.new.disk h.1 k.sound.goes,
        row.rows_are ∙ ap oldest_first (sym k.sound.going),
        k.sound.are,
      )
      );
}

pub returns-in_err-undo_page_at-clause-kept : goal.returns-in_err-undo_page_at-clause-kept
returns-in_err-undo_page_at-clause-kept g c b base all s stands is rows are =
    let h = c.loop-newest.invariant.kept b base all s stands is rows are in
    let row = last_is (open_smo h.0.log) c.loop-newest.open_change.items c.pop.new.self.items c.in-Some.newest h.2 c.in-Some.ensures.items in
    let k = c.in_err-undo_page_at.ensures.kept b base all h.0 row.rest h.1.stands h.1.taking (record { newest = row.newest; going = row.is; here = row.here }) h.3 in
    record { sound = sound_on c.from_residual.result _ _ c.from_residual.ensures.1 k.sound; stops = left_then g.D.Disk b base all c.args.disk.now c.loop-newest.disk c.undo_page_at.new.disk h.1.stops k.stops }

pub returns-clause-kept : goal.returns-clause-kept
returns-clause-kept g c b base all s stands is rows are =
    let h = c.loop-newest.invariant.kept b base all s stands is rows are in
    let none = empty_list c.loop-newest.open_change.len c.loop-newest.open_change.items c.loop-newest.open_change.ok.0 c.in_default.ensures.cases.0 in
    record { sound = record { now = h.0; goes = h.1; going = none_open (open_smo h.0.log) c.loop-newest.open_change.items h.2 none; are = h.3 }; stops = h.1.stops }

pub returns-in_err-undo_page_at-clause-none : goal.returns-in_err-undo_page_at-clause-none
returns-in_err-undo_page_at-clause-none g c is = absurd (last_of_none c.loop-newest.open_change.items c.pop.new.self.items c.in-Some.newest (c.loop-newest.invariant.none is).0 c.in-Some.ensures.items)

pub returns-clause-none : goal.returns-clause-none
returns-clause-none g c is = let h = c.loop-newest.invariant.none is in (refl, h.1, h.2, h.3)
