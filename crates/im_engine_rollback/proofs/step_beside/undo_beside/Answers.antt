use Rattle.std.proofs.Common.{Ok, Err, refl, ◌∙◌, ap, subst}
use Rattle.im_page_writer.proofs.Outcomes.{sound_on}
use Rattle.im_tree_search.specs.declared.sight.Sight.{Sight}
use Rattle.im_tree_search.specs.declared.sight.Sight.TheVariants.{Seen, Hidden}
use Rattle.im_restart_undo.proofs.Growth.{owner_some}
use Rattle.im_engine_rollback.specs.declared.logged_back.LoggedBack.{LoggedBack}
use Rattle.im_engine_rollback.specs.declared.logged_back.LoggedBack.TheVariants as backs
use Rattle.im_engine_rollback.specs.Ends.{may_turn}
use Rattle.im_engine_rollback.specs.TurnsBeside.{BackBesideKept}
use Rattle.im_engine_rollback.proofs.Ends.{full_may, never_capacity, never_failed, never_memory, none_may, not_a_store, turn_behind, turn_more, turn_refused_on}
use Rattle.im_engine_rollback.proofs.Turning.{beside_read, read_on, read_stops_beside}
use Rattle.im_engine_rollback.proofs.TurningBeside.{back_read, either_none, goes_on, hidden_is, still_loser, turn_drops, turn_ends, turn_hidden, turn_not_ended, turn_on, turn_refused, turn_splits}
use Rattle.im_engine_rollback.proofs.step_beside.undo_beside.Goals as goal

pub returns-in_err-lsn-clause-outcome : goal.returns-in_err-lsn-clause-outcome
returns-in_err-lsn-clause-outcome g c = turn_refused_on g.D.Disk c.from_residual.result c.from_residual.ensures.1 (turn_more g.D.Disk (none_may may_turn) c.in_err-lsn.ensures.outcome)

pub returns-in_err-lsn-clause-kept : goal.returns-in_err-lsn-clause-kept
returns-in_err-lsn-clause-kept g c b base s e going some told =
    let t = c.args.transaction in
    let k = c.in_err-lsn.ensures.kept b base s e c.args.last going in
    let one = turn_refused_on g.D.Disk c.from_residual.result c.from_residual.ensures.1 c.in_err-lsn.ensures.outcome in
    record {
      sound = sound_on c.from_residual.result _ _ c.from_residual.ensures.1 k;
      stops = read_stops_beside g.D.Disk b base s e t c.args.last c.args.undo_next c.args.writer.now c.args.disk.now c.next_key_record.new.disk (g.met.D.Disk.only_now c.args.disk.now) going c.next_key_record.ensures.reads;
      again = never_memory g.D.Disk _ c.from_residual.result refl one;
      short = never_memory g.D.Disk _ c.from_residual.result refl one;
      used_up = never_capacity g.D.Disk _ c.from_residual.result refl one;
      alone = either_none c.from_residual.result _ (never_memory g.D.Disk _ c.from_residual.result refl one) (never_capacity g.D.Disk _ c.from_residual.result refl one);
      early = never_failed g.D.Disk _ c.from_residual.result refl one;
    }

pub returns-then-lsn-eq0-clause-outcome : goal.returns-then-lsn-eq0-clause-outcome
returns-then-lsn-eq0-clause-outcome g c = not_a_store g.D.Disk c.in_ok-lsn.ensures.outcome

pub returns-then-lsn-eq0-clause-kept : goal.returns-then-lsn-eq0-clause-kept
returns-then-lsn-eq0-clause-kept g c b base s e going some told =
    let k = c.in_ok-lsn.ensures.kept b base s e c.args.last going in
    absurd (some (k.1.none c.if-lsn-eq0.true))

pub returns-in_err-logged-clause-outcome : goal.returns-in_err-logged-clause-outcome
returns-in_err-logged-clause-outcome g c = turn_refused_on g.D.Disk c.from_residual-in_err-logged.result c.from_residual-in_err-logged.ensures.1 (turn_behind g.D.Disk (λ f is. is) c.in_ok-lsn.ensures.outcome c.in_err-logged.ensures.outcome)

pub returns-in_err-logged-clause-kept : goal.returns-in_err-logged-clause-kept
returns-in_err-logged-clause-kept g c b base s e going some told =
    let t = c.args.transaction in
    let last = c.args.last in
    let next = c.args.undo_next in
    let w = c.args.writer.now in
    let old = c.args.disk.now in
    let v = c.next_key_record.new.writer in
    let mid = c.next_key_record.new.disk in
    let x = c.back_at.new.writer in
    let late = c.back_at.new.disk in
    let found = c.in_ok-lsn.ensures.kept b base s e last going in
    let only_now = g.met.D.Disk.only_now old in
    let still = beside_read g.D.Disk b base s e t last next w v old mid going found.0 in
    let on = read_on g.D.Disk b base s w v old mid only_now going.stands c.next_key_record.ensures.reads found.0 in
    let left = read_stops_beside g.D.Disk b base s e t last next w old mid only_now going c.next_key_record.ensures.reads in
    let k : BackBesideKept g.D.Disk b base s e t last next c.args.beside old x late (Err c.in_err-logged.field-0.0) =
    back_read g.D.Disk b base s e t last next c.args.beside (owner_some t going.owner) going.lawful old v mid on left x late (Err c.in_err-logged.field-0.0) (c.in_err-logged.ensures.kept b base s e still (found.1.some c.if-lsn-eq0.false) told) in
    turn_on g.D.Disk b base s e t last next c.args.beside old x late c.in_err-logged.field-0.0 c.args.ends c.from_residual-in_err-logged.result c.from_residual-in_err-logged.ensures.1 (turn_refused g.D.Disk b base s e t last next c.args.beside w old going x late c.args.ends c.in_err-logged.field-0.0 k)

pub returns-in_default-clause-outcome : goal.returns-in_default-clause-outcome
returns-in_default-clause-outcome g c = turn_behind g.D.Disk (λ f is. is) c.in_ok-lsn.ensures.outcome c.in_ok-logged.ensures.outcome

pub returns-in_default-clause-kept : goal.returns-in_default-clause-kept
returns-in_default-clause-kept g c b base s e going some told =
    let t = c.args.transaction in
    let last = c.args.last in
    let next = c.args.undo_next in
    let w = c.args.writer.now in
    let old = c.args.disk.now in
    let v = c.next_key_record.new.writer in
    let mid = c.next_key_record.new.disk in
    let x = c.back_at.new.writer in
    let late = c.back_at.new.disk in
    let found = c.in_ok-lsn.ensures.kept b base s e last going in
    let only_now = g.met.D.Disk.only_now old in
    let still = beside_read g.D.Disk b base s e t last next w v old mid going found.0 in
    let on = read_on g.D.Disk b base s w v old mid only_now going.stands c.next_key_record.ensures.reads found.0 in
    let left = read_stops_beside g.D.Disk b base s e t last next w old mid only_now going c.next_key_record.ensures.reads in
    let k : BackBesideKept g.D.Disk b base s e t last next c.args.beside old x late (Ok (Hidden)) =
    back_read g.D.Disk b base s e t last next c.args.beside (owner_some t going.owner) going.lawful old v mid on left x late (Ok (Hidden)) (subst (λ (y : Sight LoggedBack). BackBesideKept g.D.Disk b base s e t last next c.args.beside mid x late (Ok y)) (hidden_is c.in_ok-logged.field-0 c.in_default.not-Seen)
    (c.in_ok-logged.ensures.kept b base s e still (found.1.some c.if-lsn-eq0.false) told)) in
    turn_hidden g.D.Disk b base s e t last next c.args.beside w old going x late c.args.ends k

pub returns-in_err-undone-in-Taken-clause-outcome : goal.returns-in_err-undone-in-Taken-clause-outcome
returns-in_err-undone-in-Taken-clause-outcome g c =
    turn_refused_on g.D.Disk c.from_residual-in_err-undone-in-Taken.result c.from_residual-in_err-undone-in-Taken.ensures.1 (turn_behind g.D.Disk full_may (turn_behind g.D.Disk (λ f is. is) c.in_ok-lsn.ensures.outcome c.in_ok-logged.ensures.outcome) c.in_err-undone-in-Taken.ensures.outcome)

pub returns-in_err-undone-in-Taken-clause-kept : goal.returns-in_err-undone-in-Taken-clause-kept
returns-in_err-undone-in-Taken-clause-kept g c b base s e going some told =
    let t = c.args.transaction in
    let last = c.args.last in
    let next = c.args.undo_next in
    let w = c.args.writer.now in
    let old = c.args.disk.now in
    let v = c.next_key_record.new.writer in
    let mid = c.next_key_record.new.disk in
    let x = c.back_at.new.writer in
    let late = c.back_at.new.disk in
    let found = c.in_ok-lsn.ensures.kept b base s e last going in
    let only_now = g.met.D.Disk.only_now old in
    let still = beside_read g.D.Disk b base s e t last next w v old mid going found.0 in
    let on = read_on g.D.Disk b base s w v old mid only_now going.stands c.next_key_record.ensures.reads found.0 in
    let left = read_stops_beside g.D.Disk b base s e t last next w old mid only_now going c.next_key_record.ensures.reads in
    let k : BackBesideKept g.D.Disk b base s e t last next c.args.beside old x late (Ok (Seen (backs.Taken c.in-Taken.last c.in-Taken.undo_next))) =
    back_read g.D.Disk b base s e t last next c.args.beside (owner_some t going.owner) going.lawful old v mid on left x late (Ok (Seen (backs.Taken c.in-Taken.last c.in-Taken.undo_next))) (subst (λ (y : Sight LoggedBack). BackBesideKept g.D.Disk b base s e t last next c.args.beside mid x late (Ok y)) (c.in-Seen.is ∙ ap Seen c.in-Taken.is)
    (c.in_ok-logged.ensures.kept b base s e still (found.1.some c.if-lsn-eq0.false) told)) in
    let f = c.in_err-undone-in-Taken.field-0.0 in
    let end = c.in_err-undone-in-Taken.ensures.beside b base k.sound.logged.taken.now e (goes_on g.D.Disk b base s e t last next c.args.beside w old going x late c.in-Taken.last c.in-Taken.undo_next k) (still_loser g.D.Disk b base s e t last next c.args.beside w old going x late c.in-Taken.last c.in-Taken.undo_next k) in
    turn_on g.D.Disk b base s e t last next c.args.beside old c.end_or_go_on.new.writer c.end_or_go_on.new.disk f c.args.ends c.from_residual-in_err-undone-in-Taken.result c.from_residual-in_err-undone-in-Taken.ensures.1
    (turn_not_ended g.D.Disk b base s e t last next c.args.beside w old going x late c.in-Taken.last c.in-Taken.undo_next k c.end_or_go_on.new.writer c.end_or_go_on.new.disk c.args.ends f c.in_err-undone-in-Taken.ensures.outcome end)

pub returns-in_ok-undone-in-Taken-clause-outcome : goal.returns-in_ok-undone-in-Taken-clause-outcome
returns-in_ok-undone-in-Taken-clause-outcome g c = turn_behind g.D.Disk full_may (turn_behind g.D.Disk (λ f is. is) c.in_ok-lsn.ensures.outcome c.in_ok-logged.ensures.outcome) c.in_ok-undone-in-Taken.ensures.outcome

pub returns-in_ok-undone-in-Taken-clause-kept : goal.returns-in_ok-undone-in-Taken-clause-kept
returns-in_ok-undone-in-Taken-clause-kept g c b base s e going some told =
    let t = c.args.transaction in
    let last = c.args.last in
    let next = c.args.undo_next in
    let w = c.args.writer.now in
    let old = c.args.disk.now in
    let v = c.next_key_record.new.writer in
    let mid = c.next_key_record.new.disk in
    let x = c.back_at.new.writer in
    let late = c.back_at.new.disk in
    let found = c.in_ok-lsn.ensures.kept b base s e last going in
    let only_now = g.met.D.Disk.only_now old in
    let still = beside_read g.D.Disk b base s e t last next w v old mid going found.0 in
    let on = read_on g.D.Disk b base s w v old mid only_now going.stands c.next_key_record.ensures.reads found.0 in
    let left = read_stops_beside g.D.Disk b base s e t last next w old mid only_now going c.next_key_record.ensures.reads in
    let k : BackBesideKept g.D.Disk b base s e t last next c.args.beside old x late (Ok (Seen (backs.Taken c.in-Taken.last c.in-Taken.undo_next))) =
    back_read g.D.Disk b base s e t last next c.args.beside (owner_some t going.owner) going.lawful old v mid on left x late (Ok (Seen (backs.Taken c.in-Taken.last c.in-Taken.undo_next))) (subst (λ (y : Sight LoggedBack). BackBesideKept g.D.Disk b base s e t last next c.args.beside mid x late (Ok y)) (c.in-Seen.is ∙ ap Seen c.in-Taken.is)
    (c.in_ok-logged.ensures.kept b base s e still (found.1.some c.if-lsn-eq0.false) told)) in
    let end = c.in_ok-undone-in-Taken.ensures.beside b base k.sound.logged.taken.now e (goes_on g.D.Disk b base s e t last next c.args.beside w old going x late c.in-Taken.last c.in-Taken.undo_next k) (still_loser g.D.Disk b base s e t last next c.args.beside w old going x late c.in-Taken.last c.in-Taken.undo_next k) in
    turn_ends g.D.Disk b base s e t last next c.args.beside w old going x late c.in-Taken.last c.in-Taken.undo_next k c.end_or_go_on.new.writer c.end_or_go_on.new.disk c.args.ends c.in_ok-undone-in-Taken.undone end

pub returns-in-Splits-clause-outcome : goal.returns-in-Splits-clause-outcome
returns-in-Splits-clause-outcome g c = turn_behind g.D.Disk (λ f is. is) c.in_ok-lsn.ensures.outcome c.in_ok-logged.ensures.outcome

pub returns-in-Splits-clause-kept : goal.returns-in-Splits-clause-kept
returns-in-Splits-clause-kept g c b base s e going some told =
    let t = c.args.transaction in
    let last = c.args.last in
    let next = c.args.undo_next in
    let w = c.args.writer.now in
    let old = c.args.disk.now in
    let v = c.next_key_record.new.writer in
    let mid = c.next_key_record.new.disk in
    let x = c.back_at.new.writer in
    let late = c.back_at.new.disk in
    let found = c.in_ok-lsn.ensures.kept b base s e last going in
    let only_now = g.met.D.Disk.only_now old in
    let still = beside_read g.D.Disk b base s e t last next w v old mid going found.0 in
    let on = read_on g.D.Disk b base s w v old mid only_now going.stands c.next_key_record.ensures.reads found.0 in
    let left = read_stops_beside g.D.Disk b base s e t last next w old mid only_now going c.next_key_record.ensures.reads in
    let k : BackBesideKept g.D.Disk b base s e t last next c.args.beside old x late (Ok (Seen (backs.Splits c.in-Splits.change))) =
    back_read g.D.Disk b base s e t last next c.args.beside (owner_some t going.owner) going.lawful old v mid on left x late (Ok (Seen (backs.Splits c.in-Splits.change))) (subst (λ (y : Sight LoggedBack). BackBesideKept g.D.Disk b base s e t last next c.args.beside mid x late (Ok y)) (c.in-Seen.is ∙ ap Seen c.in-Splits.is)
    (c.in_ok-logged.ensures.kept b base s e still (found.1.some c.if-lsn-eq0.false) told)) in
    turn_splits g.D.Disk b base s e t last next c.args.beside w old going x late c.args.ends c.in-Splits.change k

pub returns-in-Drops-clause-outcome : goal.returns-in-Drops-clause-outcome
returns-in-Drops-clause-outcome g c = turn_behind g.D.Disk (λ f is. is) c.in_ok-lsn.ensures.outcome c.in_ok-logged.ensures.outcome

pub returns-in-Drops-clause-kept : goal.returns-in-Drops-clause-kept
returns-in-Drops-clause-kept g c b base s e going some told =
    let t = c.args.transaction in
    let last = c.args.last in
    let next = c.args.undo_next in
    let w = c.args.writer.now in
    let old = c.args.disk.now in
    let v = c.next_key_record.new.writer in
    let mid = c.next_key_record.new.disk in
    let x = c.back_at.new.writer in
    let late = c.back_at.new.disk in
    let found = c.in_ok-lsn.ensures.kept b base s e last going in
    let only_now = g.met.D.Disk.only_now old in
    let still = beside_read g.D.Disk b base s e t last next w v old mid going found.0 in
    let on = read_on g.D.Disk b base s w v old mid only_now going.stands c.next_key_record.ensures.reads found.0 in
    let left = read_stops_beside g.D.Disk b base s e t last next w old mid only_now going c.next_key_record.ensures.reads in
    let k : BackBesideKept g.D.Disk b base s e t last next c.args.beside old x late (Ok (Seen (backs.Drops c.in-Drops.change c.in-Drops.last c.in-Drops.undo_next))) =
    back_read g.D.Disk b base s e t last next c.args.beside (owner_some t going.owner) going.lawful old v mid on left x late (Ok (Seen (backs.Drops c.in-Drops.change c.in-Drops.last c.in-Drops.undo_next))) (subst (λ (y : Sight LoggedBack). BackBesideKept g.D.Disk b base s e t last next c.args.beside mid x late (Ok y)) (c.in-Seen.is ∙ ap Seen c.in-Drops.is)
    (c.in_ok-logged.ensures.kept b base s e still (found.1.some c.if-lsn-eq0.false) told)) in
    turn_drops g.D.Disk b base s e t last next c.args.beside w old going x late c.args.ends c.in-Drops.change c.in-Drops.last c.in-Drops.undo_next k
