use Rattle.std.proofs.Common.{ℕ, ◌≤◌, refl, sym, subst}
use Rattle.im_base_txn.specs.Rows.{with_record}
use Rattle.im_theory_steps.specs.Steps.{with_made}
use Rattle.im_base_types.specs.Answers as answers
use Rattle.im_base_txn.proofs.LookUps.{look_ups_follow}
use Rattle.im_engine.proofs.AtOnce.{delete_granted, delete_needless, delete_otherwise}
use Rattle.im_engine.proofs.Checked.{access_free}
use Rattle.im_engine.proofs.Numbers.{fused_in}
use Rattle.im_engine.proofs.engine.Engine.delete_at_once.Goals as goal

pub delete-came-requires-clause-owner : goal.delete-came-requires-clause-owner
delete-came-requires-clause-owner g c = subst (λ (n : ℕ). 1 ≤ n) (sym (look_ups_follow.found c.args.t c.args.self.now.txns.rows c.in-Some.row (sym c.in-Some.ensures.found))) c.in-Some.ensures.owned

pub answered-requires-clause-free : goal.answered-requires-clause-free
answered-requires-clause-free g c = access_free c.args.self.now.txns.rows _ c.args.t (answers.Delete c.args.key.now) c.requires.checked

pub returns-in-Ok-Some : goal.returns-in-Ok-Some
returns-in-Ok-Some g c =
    let below = c.delete-came in
    delete_granted g.D.Disk c.args.t c.args.key.now c.args.self.now c.in-Some.row (sym c.in-Some.ensures.found) c.requires.checked c.requires.plain _ c.requires.works c.in-Ok-Some.ensures.under below.new.writer below.new.disk below.new.locks c.in-Ok-Some.ensures.rest below.result
    (record { outcome = below.ensures.outcome; kept = below.ensures.kept; table = below.ensures.table; lasting = below.ensures.lasting }) c.as_seen.result c.as_seen.ensures c.in-Ok-Some.ensures.failed
    c.in-Ok-Some.field-0 c.in-Ok-Some.ensures.answer c.in-Ok-Some.taken c.in-Ok-Some.field-0-is c.answered.new.self.txns c.in-Ok-Some.ensures.table
    (fused_in c.args.t (with_made c.in-Ok-Some.taken.undo_next) (with_record c.in-Ok-Some.taken.last c.in-Ok-Some.taken.undo_next) (λ x. refl) c.answered.new.self.txns c.note_made.new.self _ c.note_made.ensures.table c.note_record.ensures.table)

pub returns-in-Ok-None : goal.returns-in-Ok-None
returns-in-Ok-None g c =
    let below = c.delete-came in
    delete_needless g.D.Disk c.args.t c.args.key.now c.args.self.now c.in-Some.row (sym c.in-Some.ensures.found) c.requires.checked c.requires.plain _ c.requires.works c.in-Ok-None.ensures.under below.new.writer below.new.disk below.new.locks c.in-Ok-None.ensures.rest below.result
    (record { outcome = below.ensures.outcome; kept = below.ensures.kept; table = below.ensures.table; lasting = below.ensures.lasting }) c.as_seen.result c.as_seen.ensures c.in-Ok-None.ensures.failed
    c.in-Ok-None.field-0 c.in-Ok-None.ensures.answer c.in-Ok-None.field-0-is c.in-Ok-None.ensures.table

pub returns-in-Err : goal.returns-in-Err
returns-in-Err g c =
    let below = c.delete-came in
    delete_otherwise g.D.Disk c.args.t c.args.key.now c.args.self.now c.in-Some.row (sym c.in-Some.ensures.found) c.requires.checked c.requires.plain _ c.requires.works c.in-Err.ensures.under below.new.writer below.new.disk below.new.locks c.in-Err.ensures.rest below.result
    (record { outcome = below.ensures.outcome; kept = below.ensures.kept; table = below.ensures.table; lasting = below.ensures.lasting }) c.as_seen.result c.as_seen.ensures c.in-Err.ensures.failed
    c.in-Err.ensures.table (λ u f le left. g.met.D.Disk.counts_now c.answered.new.self.disk u f le left) c.in-Err.reply c.in-Err.ensures.answer
