use Rattle.std.proofs.Common.{◌≡◌, ℕ, ◌≤◌, List, Some, map, sym, subst, ap, ◌∙◌}
use Rattle.im_base_types.specs.Answers as answers
use Rattle.im_base_txn.specs.Rows.{changed}
use Rattle.im_theory_steps.specs.Steps.{with_made}
use Rattle.im_base_txn.proofs.LookUps.{look_ups_follow}
use Rattle.im_smo_log.specs.declared.change.Change.{Change}
use Rattle.im_engine.specs.declared.stepped.Aim.TheVariants.{Drops}
use Rattle.im_engine.proofs.Checked.{access_fits, access_free}
use Rattle.im_engine.proofs.SteppedEdits.{key_short, key_some, never_refused_key}
use Rattle.im_engine.proofs.SteppedAnswered.{delete_begins, delete_granted, delete_needless, delete_otherwise}
use Rattle.im_engine.proofs.engine.Engine.delete_stepped.Goals as goal

pub delete_beside-came-requires-clause-owner : goal.delete_beside-came-requires-clause-owner
delete_beside-came-requires-clause-owner g c = subst (λ (n : ℕ). 1 ≤ n) (sym (look_ups_follow.found c.args.t c.args.self.now.txns.rows c.in-Some.row (sym c.in-Some.ensures.found))) c.in-Some.ensures.owned

pub delete_beside-came-requires-clause-keyed : goal.delete_beside-came-requires-clause-keyed
delete_beside-came-requires-clause-keyed g c = key_some c.args.key.now (access_fits c.args.self.now.txns.rows _ c.args.t (answers.Delete c.args.key.now) c.requires.checked)

pub delete_beside-came-requires-clause-short : goal.delete_beside-came-requires-clause-short
delete_beside-came-requires-clause-short g c = key_short c.args.key.now (access_fits c.args.self.now.txns.rows _ c.args.t (answers.Delete c.args.key.now) c.requires.checked)

pub answered-requires-clause-free : goal.answered-requires-clause-free
answered-requires-clause-free g c = access_free c.args.self.now.txns.rows _ c.args.t (answers.Delete c.args.key.now) c.requires.checked

pub returns-in-Ok-Gone : goal.returns-in-Ok-Gone
returns-in-Ok-Gone g c =
    let below = c.delete_beside-came in
    delete_needless g.D.Disk c.args.t c.args.key.now c.args.self.now c.in-Some.row (sym c.in-Some.ensures.found) c.requires.checked c.beside_of.result c.beside_of.ensures _ c.requires.works below.new.writer below.new.disk below.new.locks c.in-Ok-Gone.ensures.rest below.result
    (record { outcome = below.ensures.outcome; kept = below.ensures.kept; table = below.ensures.table; lasting = below.ensures.lasting }) c.in-Ok-Gone.ensures.failed c.in-Ok-Gone.field-0 c.in-Ok-Gone.ensures.answer c.in-Ok-Gone.field-0-is c.in-Ok-Gone.ensures.under c.in-Ok-Gone.ensures.table

pub returns-in-Ok-Taken : goal.returns-in-Ok-Taken
returns-in-Ok-Taken g c =
    let below = c.delete_beside-came in
    delete_granted g.D.Disk c.args.t c.args.key.now c.args.self.now c.in-Some.row (sym c.in-Some.ensures.found) c.requires.checked c.beside_of.result c.beside_of.ensures _ c.requires.works below.new.writer below.new.disk below.new.locks c.in-Ok-Taken.ensures.rest below.result
    (record { outcome = below.ensures.outcome; kept = below.ensures.kept; table = below.ensures.table; lasting = below.ensures.lasting }) c.in-Ok-Taken.ensures.failed c.in-Ok-Taken.field-0 c.in-Ok-Taken.ensures.answer c.in-Ok-Taken.lsn c.in-Ok-Taken.field-0-is c.in-Ok-Taken.ensures.under
    c.answered.new.self.txns c.in-Ok-Taken.ensures.table c.note_made.ensures.table

pub returns-in-Err : goal.returns-in-Err
returns-in-Err g c =
    let below = c.delete_beside-came in
    delete_otherwise g.D.Disk c.args.t c.args.key.now c.args.self.now c.in-Some.row (sym c.in-Some.ensures.found) c.requires.checked c.beside_of.result c.beside_of.ensures _ c.requires.works below.new.writer below.new.disk below.new.locks c.in-Err.ensures.rest below.result
    (record { outcome = below.ensures.outcome; kept = below.ensures.kept; table = below.ensures.table; lasting = below.ensures.lasting }) c.in-Err.ensures.failed c.in-Err.ensures.under c.in-Err.ensures.table
    (λ u f le left. g.met.D.Disk.counts_now c.answered.new.self.disk u f le left) c.in-Err.reply c.in-Err.ensures.answer

pub returns-in_default-new : goal.returns-in_default-new
returns-in_default-new g c = absurd (never_refused_key c.args.key.now c.new.result (access_fits c.args.self.now.txns.rows _ c.args.t (answers.Delete c.args.key.now) c.requires.checked) c.new.ensures.taken c.in_default-new.not-Ok)

pub returns-in-Ok : goal.returns-in-Ok
returns-in-Ok g c =
    let last : c.last-last.result ≡ c.in-Ok-Dropping.begun.change.last = c.last-last.ensures ∙ ap (λ (y : Change). y.last) c.change.ensures in
    let below = c.delete_beside-came in
    delete_begins g.D.Disk c.args.t c.args.key.now c.args.self.now c.in-Some.row (sym c.in-Some.ensures.found) c.requires.checked c.beside_of.result c.beside_of.ensures _ c.requires.works below.new.writer below.new.disk below.new.locks c.in-Ok-Dropping.ensures.rest below.result
    (record { outcome = below.ensures.outcome; kept = below.ensures.kept; table = below.ensures.table; lasting = below.ensures.lasting }) c.in-Ok-Dropping.ensures.failed c.requires.stepped c.in-Ok-Dropping.field-0 c.in-Ok-Dropping.ensures.answer c.in-Ok-Dropping.begun c.in-Ok-Dropping.field-0-is
    (ap (λ (k : List ℕ). Some (record { begun = c.in-Ok-Dropping.begun; aim = Drops k })) c.in-Ok.ensures.key) c.answered.new.self.txns c.in-Ok-Dropping.ensures.table
    (c.note_made-in-Ok-Dropping.ensures.table ∙ ap (λ (n : ℕ). record c.answered.new.self.txns { rows = map (changed c.args.t (with_made n)) c.answered.new.self.txns.rows }) last)
