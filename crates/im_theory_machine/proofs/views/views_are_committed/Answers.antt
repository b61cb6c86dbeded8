use Rattle.im_theory_machine.proofs.Overlays.{steps_keep, asked_is_enough, undos_keep, runs_keep, notes_keep, view_begins, serves, reads, reads_key, chains, joins}
use Rattle.im_theory_machine.proofs.OverlaysBegun.{begins_from_log}
use Rattle.im_theory_machine.proofs.OverlaysMerged.{merges}
use Rattle.im_theory_machine.proofs.OverlaysTogether.{many}
use Rattle.im_theory_machine.proofs.views.views_are_committed.Goals as goal

pub returns-clause-steps : goal.returns-clause-steps
returns-clause-steps c = steps_keep

pub returns-clause-runs : goal.returns-clause-runs
returns-clause-runs c = runs_keep

pub returns-clause-notes : goal.returns-clause-notes
returns-clause-notes c = notes_keep

pub returns-clause-begins : goal.returns-clause-begins
returns-clause-begins c = view_begins

pub returns-clause-reads : goal.returns-clause-reads
returns-clause-reads c = reads

pub returns-clause-key : goal.returns-clause-key
returns-clause-key c = reads_key

pub returns-clause-chains : goal.returns-clause-chains
returns-clause-chains c = chains

pub returns-clause-joins : goal.returns-clause-joins
returns-clause-joins c = joins

pub returns-clause-serves : goal.returns-clause-serves
returns-clause-serves c = serves

pub returns-clause-log : goal.returns-clause-log
returns-clause-log c = begins_from_log

pub returns-clause-undos : goal.returns-clause-undos
returns-clause-undos c = undos_keep

pub returns-clause-merges : goal.returns-clause-merges
returns-clause-merges c = merges

pub returns-clause-many : goal.returns-clause-many
returns-clause-many c = many

pub returns-clause-asked : goal.returns-clause-asked
returns-clause-asked c = asked_is_enough
