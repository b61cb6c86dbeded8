use Rattle.std.proofs.Common.{inr, refl, sym, subst}
use Rattle.im_tool_lines.specs.declared.store_life.StoreLine.{StoreLine}
use Rattle.im_tool_lines.specs.declared.store_answers.StoreReply.TheVariants as replies
use Rattle.im_tool_lines.specs.StoreShown.{IsStoreReply}
use Rattle.im_tool_drill.specs.StoreLives.{LineKept}
use Rattle.im_tool_drill.specs.StoreRuns.{IsLineRun}
use Rattle.im_tool_drill.proofs.NamedDisk.{named_ghosts}
use Rattle.im_tool_drill.proofs.store_lives.run_store_line.Goals as goal

pub returns-in-Calls-clause-kept : goal.returns-in-Calls-clause-kept
returns-in-Calls-clause-kept c before s life =
    subst (λ (line : StoreLine). LineKept named_ghosts before s line (replies.Calls c.calls.result) c.args.engine.now) (sym c.in-Calls.is)
    (record { after = λ going. life; stops = λ files left. life.1.stops files left })

pub returns-in-Redo-clause-kept : goal.returns-in-Redo-clause-kept
returns-in-Redo-clause-kept c before s life =
    subst (λ (line : StoreLine). LineKept named_ghosts before s line (replies.Redo c.redo_report.result) c.args.engine.now) (sym c.in-Redo.is)
    (record { after = λ going. life; stops = λ files left. life.1.stops files left })

pub returns-in-Log-clause-kept : goal.returns-in-Log-clause-kept
returns-in-Log-clause-kept c before s life =
    subst (λ (line : StoreLine). LineKept named_ghosts before s line (replies.Log c.log_length.result) c.args.engine.now) (sym c.in-Log.is)
    (record { after = λ going. life; stops = λ files left. life.1.stops files left })

pub returns-in-Changes-clause-run : goal.returns-in-Changes-clause-run
returns-in-Changes-clause-run c =
    subst (λ (line : StoreLine). IsLineRun named_ghosts c.args.stop.now line c.count_changes.result c.args.engine.now c.args.engine.now) (sym c.in-Changes.is) (c.count_changes.ensures.run, refl)

pub returns-in-Changes-clause-fits : goal.returns-in-Changes-clause-fits
returns-in-Changes-clause-fits c = inr (subst (λ (line : StoreLine). IsStoreReply line c.count_changes.result) (sym c.in-Changes.is) c.count_changes.ensures.fits)

pub returns-in-Changes-clause-kept : goal.returns-in-Changes-clause-kept
returns-in-Changes-clause-kept c before s life = subst (λ (line : StoreLine). LineKept named_ghosts before s line c.count_changes.result c.args.engine.now) (sym c.in-Changes.is) (c.count_changes.ensures.kept before s life)
