use Rattle.std.proofs.Common.{◌≡◌, ℕ, ◌≤◌, List, Some, map, sym, subst, ap, ◌∙◌}
use Rattle.im_base_types.specs.Answers as answers
use Rattle.im_base_txn.specs.Rows.{changed, with_record}
use Rattle.im_base_txn.proofs.LookUps.{look_ups_follow}
use Rattle.im_smo_log.specs.declared.change.Change.{Change}
use Rattle.im_engine.specs.declared.stepped.Aim.TheVariants.{Puts}
use Rattle.im_engine.proofs.Checked.{access_fits, access_free}
use Rattle.im_engine.proofs.SteppedEdits.{key_short, key_some, never_refused_key}
use Rattle.im_engine.proofs.SteppedAnswered.{insert_begins, insert_granted, insert_needless, insert_otherwise}
use Rattle.im_engine.proofs.engine.Engine.insert_stepped.Goals as goal

pub insert_beside-came-requires-clause-owner : goal.insert_beside-came-requires-clause-owner
insert_beside-came-requires-clause-owner g c = subst (λ (n : ℕ). 1 ≤ n) (sym (look_ups_follow.found c.args.t c.args.self.now.txns.rows c.in-Some.row (sym c.in-Some.ensures.found))) c.in-Some.ensures.owned

pub insert_beside-came-requires-clause-keyed : goal.insert_beside-came-requires-clause-keyed
insert_beside-came-requires-clause-keyed g c = key_some c.args.key.now (access_fits c.args.self.now.txns.rows _ c.args.t (answers.Insert c.args.key.now c.args.rid) c.requires.checked)

pub insert_beside-came-requires-clause-short : goal.insert_beside-came-requires-clause-short
insert_beside-came-requires-clause-short g c = key_short c.args.key.now (access_fits c.args.self.now.txns.rows _ c.args.t (answers.Insert c.args.key.now c.args.rid) c.requires.checked)

pub answered-requires-clause-free : goal.answered-requires-clause-free
answered-requires-clause-free g c = access_free c.args.self.now.txns.rows _ c.args.t (answers.Insert c.args.key.now c.args.rid) c.requires.checked

pub returns-in-Ok-There : goal.returns-in-Ok-There
returns-in-Ok-There g c =
    let below = c.insert_beside-came in
    insert_needless g.D.Disk c.args.t c.args.key.now c.args.rid c.args.self.now c.in-Some.row (sym c.in-Some.ensures.found) c.requires.checked c.beside_of.result c.beside_of.ensures _ c.requires.works below.new.writer below.new.disk below.new.locks c.in-Ok-There.ensures.rest below.result
    (record { outcome = below.ensures.outcome; kept = below.ensures.kept; table = below.ensures.table; lasting = below.ensures.lasting }) c.in-Ok-There.ensures.failed c.in-Ok-There.field-0 c.in-Ok-There.ensures.answer c.in-Ok-There.field-0-is c.in-Ok-There.ensures.under c.in-Ok-There.ensures.table

pub returns-in-Ok-Put : goal.returns-in-Ok-Put
returns-in-Ok-Put g c =
    let below = c.insert_beside-came in
    insert_granted g.D.Disk c.args.t c.args.key.now c.args.rid c.args.self.now c.in-Some.row (sym c.in-Some.ensures.found) c.requires.checked c.beside_of.result c.beside_of.ensures _ c.requires.works below.new.writer below.new.disk below.new.locks c.in-Ok-Put.ensures.rest below.result
    (record { outcome = below.ensures.outcome; kept = below.ensures.kept; table = below.ensures.table; lasting = below.ensures.lasting }) c.in-Ok-Put.ensures.failed c.in-Ok-Put.field-0 c.in-Ok-Put.ensures.answer c.in-Ok-Put.lsn c.in-Ok-Put.field-0-is c.in-Ok-Put.ensures.under
    c.answered.new.self.txns c.in-Ok-Put.ensures.table c.note_made.ensures.table

pub returns-in-Err : goal.returns-in-Err
returns-in-Err g c =
    let below = c.insert_beside-came in
    insert_otherwise g.D.Disk c.args.t c.args.key.now c.args.rid c.args.self.now c.in-Some.row (sym c.in-Some.ensures.found) c.requires.checked c.beside_of.result c.beside_of.ensures _ c.requires.works below.new.writer below.new.disk below.new.locks c.in-Err.ensures.rest below.result
    (record { outcome = below.ensures.outcome; kept = below.ensures.kept; table = below.ensures.table; lasting = below.ensures.lasting }) c.in-Err.ensures.failed c.in-Err.ensures.under c.in-Err.ensures.table
    (λ u f le left. g.met.D.Disk.counts_now c.answered.new.self.disk u f le left) c.in-Err.reply c.in-Err.ensures.answer

pub returns-in_default-new : goal.returns-in_default-new
returns-in_default-new g c = absurd (never_refused_key c.args.key.now c.new.result (access_fits c.args.self.now.txns.rows _ c.args.t (answers.Insert c.args.key.now c.args.rid) c.requires.checked) c.new.ensures.taken c.in_default-new.not-Ok)

pub returns-in-Ok : goal.returns-in-Ok
returns-in-Ok g c =
    let last : c.last-last.result ≡ c.in-Ok-Split.begun.change.last = c.last-last.ensures ∙ ap (λ (y : Change). y.last) c.change.ensures in
    let below = c.insert_beside-came in
    insert_begins g.D.Disk c.args.t c.args.key.now c.args.rid c.args.self.now c.in-Some.row (sym c.in-Some.ensures.found) c.requires.checked c.beside_of.result c.beside_of.ensures _ c.requires.works below.new.writer below.new.disk below.new.locks c.in-Ok-Split.ensures.rest below.result
    (record { outcome = below.ensures.outcome; kept = below.ensures.kept; table = below.ensures.table; lasting = below.ensures.lasting }) c.in-Ok-Split.ensures.failed c.requires.stepped c.in-Ok-Split.field-0 c.in-Ok-Split.ensures.answer c.in-Ok-Split.begun c.in-Ok-Split.leaf c.in-Ok-Split.field-0-is
    (ap (λ (k : List ℕ). Some (record { begun = c.in-Ok-Split.begun; aim = Puts k c.args.rid c.in-Ok-Split.leaf })) c.in-Ok.ensures.key) c.answered.new.self.txns c.in-Ok-Split.ensures.table
    (c.note_record.ensures.table ∙ ap (λ (n : ℕ). record c.answered.new.self.txns { rows = map (changed c.args.t (with_record n n)) c.answered.new.self.txns.rows }) last)
