use Rattle.std.proofs.Common.{ℕ, ◌≤◌, sym, subst}
use Rattle.im_base_types.specs.Answers as answers
use Rattle.im_base_txn.proofs.LookUps.{look_ups_follow}
use Rattle.im_engine.proofs.AtOnce.{insert_granted, insert_needless, insert_otherwise}
use Rattle.im_engine.proofs.Checked.{access_free}
use Rattle.im_engine.proofs.engine.Engine.insert_at_once.Goals as goal

pub insert-came-requires-clause-owner : goal.insert-came-requires-clause-owner
insert-came-requires-clause-owner g c = subst (λ (n : ℕ). 1 ≤ n) (sym (look_ups_follow.found c.args.t c.args.self.now.txns.rows c.in-Some.row (sym c.in-Some.ensures.found))) c.in-Some.ensures.owned

pub answered-requires-clause-free : goal.answered-requires-clause-free
answered-requires-clause-free g c = access_free c.args.self.now.txns.rows _ c.args.t (answers.Insert c.args.key.now c.args.rid) c.requires.checked

pub returns-in-Ok-Some : goal.returns-in-Ok-Some
returns-in-Ok-Some g c =
    let below = c.insert-came in
    insert_granted g.D.Disk c.args.t c.args.key.now c.args.rid c.args.self.now c.in-Some.row (sym c.in-Some.ensures.found) c.requires.checked c.requires.plain _ c.requires.works c.in-Ok-Some.ensures.under below.new.writer below.new.disk below.new.locks c.in-Ok-Some.ensures.rest below.result
    (record { outcome = below.ensures.outcome; kept = below.ensures.kept; table = below.ensures.table; lasting = below.ensures.lasting }) c.as_seen.result c.as_seen.ensures c.in-Ok-Some.ensures.failed
    c.in-Ok-Some.field-0 c.in-Ok-Some.ensures.answer c.in-Ok-Some.noted c.in-Ok-Some.field-0-is c.answered.new.self.txns c.in-Ok-Some.ensures.table c.note_made.ensures.table

pub returns-in-Ok-None : goal.returns-in-Ok-None
returns-in-Ok-None g c =
    let below = c.insert-came in
    insert_needless g.D.Disk c.args.t c.args.key.now c.args.rid c.args.self.now c.in-Some.row (sym c.in-Some.ensures.found) c.requires.checked c.requires.plain _ c.requires.works c.in-Ok-None.ensures.under below.new.writer below.new.disk below.new.locks c.in-Ok-None.ensures.rest below.result
    (record { outcome = below.ensures.outcome; kept = below.ensures.kept; table = below.ensures.table; lasting = below.ensures.lasting }) c.as_seen.result c.as_seen.ensures c.in-Ok-None.ensures.failed
    c.in-Ok-None.field-0 c.in-Ok-None.ensures.answer c.in-Ok-None.field-0-is c.in-Ok-None.ensures.table

pub returns-in-Err : goal.returns-in-Err
returns-in-Err g c =
    let below = c.insert-came in
    insert_otherwise g.D.Disk c.args.t c.args.key.now c.args.rid c.args.self.now c.in-Some.row (sym c.in-Some.ensures.found) c.requires.checked c.requires.plain _ c.requires.works c.in-Err.ensures.under below.new.writer below.new.disk below.new.locks c.in-Err.ensures.rest below.result
    (record { outcome = below.ensures.outcome; kept = below.ensures.kept; table = below.ensures.table; lasting = below.ensures.lasting }) c.as_seen.result c.as_seen.ensures c.in-Err.ensures.failed
    c.in-Err.ensures.table (λ u f le left. g.met.D.Disk.counts_now c.answered.new.self.disk u f le left) c.in-Err.reply c.in-Err.ensures.answer
