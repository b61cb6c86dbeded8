use Rattle.std.proofs.Common.{◌≡◌, ◌∷◌, refl, sym, ap, subst}
use Rattle.im_theory_log.specs.Structure.{open_smo}
use Rattle.im_theory_log.specs.Transactions.{is_smo, last_of}
use Rattle.im_log_record.specs.Entry.{Entry, Smo, view, prev_of, transaction_of}
use Rattle.im_log_record.specs.declared.record.Record.{Record}
use Rattle.im_log.specs.Spelled.{logged_at}
use Rattle.im_theory_tree.specs.Theory.{page_tree}
use Rattle.im_restart.specs.StructureChange.{TakeBackKept}
use Rattle.im_restart_redo.proofs.Recoveries.{logs_recover, recovers_more}
use Rattle.im_restart.proofs.Ends.{no_store}
use Rattle.im_restart.proofs.KeyRecords.{no_smo}
use Rattle.im_restart.proofs.OpenChanges.{open_is_smo, taken_so}
use Rattle.im_page_writer.proofs.Outcomes.{no_page_for}
use Rattle.im_page_writer.specs.Outcome.{mild}
use Rattle.im_restart.proofs.structure_change.take_back.Goals as goal

pub returns-in-Smo-clause-outcome : goal.returns-in-Smo-clause-outcome
returns-in-Smo-clause-outcome g c = recovers_more g.D.Disk (no_page_for mild refl) (logs_recover g.D.Disk c.log_smo.ensures.outcome)

pub returns-in_default-clause-outcome : goal.returns-in_default-clause-outcome
returns-in_default-clause-outcome g c = no_store g.D.Disk c.args.writer.now c.args.disk.now refl c.requires.working c.requires.ready

pub returns-in-Smo-clause-kept : goal.returns-in-Smo-clause-kept
returns-in-Smo-clause-kept g c b base all s lsn rest stands is =
    let a = c.in-Smo in
    let e : Entry = Smo a.transaction a.prev a.page a.before.now a.after.now in
    let same : view c.args.«record».now ≡ e = ap (λ (x : Record). view x) a.is in
    let k = c.log_smo.ensures.kept b base s is.redo_end stands is.over in
    subst
    (λ (x : Entry). open_smo s.log ≡ logged_at lsn x ∷ rest → c.args.last ≡ last_of (transaction_of x) s.log
    → TakeBackKept g.D.Disk b base all s (transaction_of x) (prev_of x) rest c.args.disk.now c.log_smo.new.self c.log_smo.new.disk c.log_smo.result)
    (sym same)
    (λ going behind. taken_so g.D.Disk b base all s is a.transaction c.args.last a.prev a.page a.before.now a.after.now lsn rest going behind c.args.disk.now c.log_smo.new.self c.log_smo.new.disk c.log_smo.result k)

pub returns-in_default-clause-kept : goal.returns-in_default-clause-kept
returns-in_default-clause-kept g c b base all s lsn rest stands is going behind =
    let smo = open_is_smo b page_tree s.log (logged_at lsn (view c.args.«record».now)) rest is.lawful going in
    absurd (no_smo c.args.«record».now c.in_default.not-Smo (ap is_smo smo.2))
