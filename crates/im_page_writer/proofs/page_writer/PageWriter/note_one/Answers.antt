use Rattle.std.proofs.Common.{true, refl, rules}
use Rattle.im_page_writer.proofs.SyncedPages.{known_grown}
use Rattle.im_page_writer.proofs.ImageCalls.{imaging_broke}
use Rattle.im_page_writer.proofs.page_writer.PageWriter.note_one.Goals as goal

pub returns-in_err-note_changed-clause-outcome : goal.returns-in_err-note_changed-clause-outcome
returns-in_err-note_changed-clause-outcome g c =
    let e = c.in_err-note_changed.ensures in
    imaging_broke g.D.Disk {log = c.args.self.now.log} c.from_residual.result c.from_residual.ensures.1 e.outcome c.requires.working refl (λ b base s is asked. (e.kept b base s is.writing).stops) refl

pub returns-clause-outcome : goal.returns-clause-outcome
returns-clause-outcome g c =
    let one = c.in_ok-note_changed.ensures.outcome in
    let works = one.ends.0 in
    let alive = one.ends.1 in
    let opened = one.still alive in
    record {
      ready = search (rules, works, opened);
      frames = refl;
      ends = record {
        began = c.requires.working;
        works = refl;
        alive = alive;
        later = one.ends.2;
        goes = λ b base s is asked.
            let f = (c.in_ok-note_changed.ensures.kept b base s is.writing).ok in
            record { now = f.now; on = record { working = refl; goes = f.goes; known = known_grown true b s f.now c.args.self.now.known f.goes.keeps.redo_end f.goes.keeps.log f.goes.keeps.point (λ none. absurd (cc none)) is.known } };
      };
    }
