use Rattle.im_page_writer.specs.Outcome.{no_page, AreLoadedTo}
use Rattle.im_page_writer.proofs.Outcomes.{behind, flush_asks, flush_sound, handed_on, has_still, loaded_to_still, sound_on}
use Rattle.im_page_writer.proofs.page_writer.PageWriter.get_absent.Goals as goal

pub returns-in_err-make_frame-clause-outcome : goal.returns-in_err-make_frame-clause-outcome
returns-in_err-make_frame-clause-outcome g c = handed_on g.D.Disk c.from_residual.result c.from_residual.ensures.1 (flush_asks g.D.Disk c.in_err-make_frame.ensures.outcome)

pub returns-in_err-make_frame-clause-kept : goal.returns-in_err-make_frame-clause-kept
returns-in_err-make_frame-clause-kept g c pages has = sound_on c.from_residual.result _ _ c.from_residual.ensures.1 (flush_sound g.D.Disk c.in_err-make_frame.ensures.outcome)

pub returns-clause-outcome : goal.returns-clause-outcome
returns-clause-outcome g c = behind g.D.Disk (AreLoadedTo c.args.number) (loaded_to_still c.args.number) {m = no_page} (flush_asks g.D.Disk c.in_ok-make_frame.ensures.outcome) c.hold.ensures.outcome

pub returns-clause-kept : goal.returns-clause-kept
returns-clause-kept g c pages has = c.hold.ensures.kept pages (has_still g.D.Disk (AreLoadedTo c.args.number) (loaded_to_still c.args.number) {m = no_page} has (flush_asks g.D.Disk c.in_ok-make_frame.ensures.outcome))
