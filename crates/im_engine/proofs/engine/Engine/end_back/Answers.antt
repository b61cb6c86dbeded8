use Rattle.std.proofs.Common.{Ok, Err, inl, inr, true, false, refl, sym, ap, ◌∙◌, ◌+◌, length, rules}
use Rattle.im_base_steps.specs.declared.reply.Reply.TheVariants as replies
use Rattle.im_base_types.specs.declared.fault.Fault.TheVariants as faults
use Rattle.im_engine_rollback.proofs.Ends.{close_may, turn_more}
use Rattle.im_engine_rollback.specs.declared.undone.Undone.TheVariants as turns
use Rattle.im_engine.specs.Numbered.{Numbered, besides_rows, with_back}
use Rattle.im_engine.proofs.Causes.{refused_inj}
use Rattle.im_engine.proofs.SteppedBacks.{continue_row, ends_checked, ends_free}
use Rattle.im_engine.proofs.SteppedBackPaces.{ends_pace, ends_some, ends_want}
use Rattle.im_engine.proofs.Returning.{again_by, again_in, back_keeps, back_waits, continue_back}
use Rattle.im_engine.proofs.SteppedCloses.{back_ended, back_kept}
use Rattle.im_engine.proofs.SteppedReturns.{closed_made}
use Rattle.im_engine.proofs.SteppedTurns.{back_refused}
use Rattle.im_engine.proofs.Telling.{told_refused, told_rolled_back}
use Rattle.im_engine.proofs.Turning.{continue_made, continue_refused, told_capacity, told_failed, turn_lost}
use Rattle.im_engine.proofs.Waits.{not_waiting}
use Rattle.im_engine.proofs.engine.Engine.end_back.Goals as goal
use Rattle.im_engine.proofs.Looked.{not_true}

pub end-requires : goal.end-requires
end-requires g c =
    let rows = c.args.self.now.txns.rows in
    let t = c.args.t in
    let checked = ends_checked rows c.args.splits t c.args.self.now.under c.requires.end c.requires.checked in
    let its = continue_row rows t checked in
    not_waiting rows t its.0 its.1 (back_waits its.0 (continue_back rows t its.0 its.1 checked))

pub returns-in_default : goal.returns-in_default
returns-in_default g c =
    let rows = c.args.self.now.txns.rows in
    let its = continue_row rows c.args.t (ends_checked rows c.args.splits c.args.t c.args.self.now.under c.requires.end c.requires.checked) in
    absurd (c.in_default.not-Some its.0 (c.find.ensures.found ∙ its.1))

pub returns-then-end_return : goal.returns-then-end_return
returns-then-end_return g c =
    let old = c.args.self.now in
    let t = c.args.t in
    let row = c.in-Some.row in
    let splits = c.args.splits in
    let own = c.requires.end in
    let same = c.change.ensures ∙ ap (λ u. u.begun.change) (ends_some splits t old.under own c.in-Some-under.under c.in-Some-under.is) in
    let found = sym c.in-Some.ensures.found in
    let free = ends_checked old.txns.rows splits t old.under own c.requires.checked in
    let last = c.in-Ok-More.last in
    let next = c.in-Ok-More.undo_next in
    let w = c.close_back.new.writer in
    let disk = c.close_back.new.disk in
    closed_made g.D.Disk t row old _ c.requires.works splits own c.requires.checked found free c.ends_back.result c.ends_back.ensures last next
    (λ b before s v r. back_kept g.D.Disk before s v t row old r found free splits own c.ends_back.result c.change.result.now same w disk (Ok c.in-Ok-More.field-0) (Ok (turns.More last next)) (ap Ok c.in-Ok-More.field-0-is) (c.in-Ok-More.ensures.kept b r.base r.now r.redo_end r.stands r.over))
    refl c.in-Ok-More.ensures.outcome.ends.alive c.in-Ok-More.ensures.outcome.frames refl refl refl (again_in t (with_back splits last next) old.txns _ _ c.note_back.ensures.table c.end_return.ensures.table)
    true (sym c.if-end_return.true ∙ again_by t (with_back splits last next) (back_keeps splits last next) old.txns _ row c.end_return.result found c.note_back.ensures.table c.end_return.ensures.done)

pub returns-else-end_return : goal.returns-else-end_return
returns-else-end_return g c =
    let old = c.args.self.now in
    let t = c.args.t in
    let row = c.in-Some.row in
    let splits = c.args.splits in
    let own = c.requires.end in
    let same = c.change.ensures ∙ ap (λ u. u.begun.change) (ends_some splits t old.under own c.in-Some-under.under c.in-Some-under.is) in
    let found = sym c.in-Some.ensures.found in
    let free = ends_checked old.txns.rows splits t old.under own c.requires.checked in
    let last = c.in-Ok-More.last in
    let next = c.in-Ok-More.undo_next in
    let w = c.close_back.new.writer in
    let disk = c.close_back.new.disk in
    closed_made g.D.Disk t row old _ c.requires.works splits own c.requires.checked found free c.ends_back.result c.ends_back.ensures last next
    (λ b before s v r. back_kept g.D.Disk before s v t row old r found free splits own c.ends_back.result c.change.result.now same w disk (Ok c.in-Ok-More.field-0) (Ok (turns.More last next)) (ap Ok c.in-Ok-More.field-0-is) (c.in-Ok-More.ensures.kept b r.base r.now r.redo_end r.stands r.over))
    refl c.in-Ok-More.ensures.outcome.ends.alive c.in-Ok-More.ensures.outcome.frames refl refl refl (again_in t (with_back splits last next) old.txns _ _ c.note_back.ensures.table c.end_return.ensures.table)
    false (sym c.if-end_return.false ∙ again_by t (with_back splits last next) (back_keeps splits last next) old.txns _ row c.end_return.result found c.note_back.ensures.table c.end_return.ensures.done)

pub returns-in-Ok-Ended : goal.returns-in-Ok-Ended
returns-in-Ok-Ended g c =
    let old = c.args.self.now in
    let t = c.args.t in
    let ends = c.requires.end in
    let same = c.change.ensures ∙ ap (λ u. u.begun.change) (ends_some c.args.splits t old.under ends c.in-Some-under.under c.in-Some-under.is) in
    let checked = ends_checked old.txns.rows c.args.splits t old.under ends c.requires.checked in
    let row = c.in-Some.row in
    let found = sym c.in-Some.ensures.found in
    record {
      kept = λ before s v life.
          let b = (life.running c.requires.works).0 in
          let r = (life.running c.requires.works).1 in
          let kept = back_kept g.D.Disk before s v t row old r found checked c.args.splits ends c.ends_back.result c.change.result.now same c.close_back.new.writer c.close_back.new.disk (Ok c.in-Ok-Ended.field-0) (Ok turns.Ended) (ap Ok c.in-Ok-Ended.field-0-is) (c.in-Ok-Ended.ensures.kept b r.base r.now r.redo_end r.stands r.over) in
          back_ended g.D.Disk before s v t row old r found checked c.args.splits ends _ refl kept.stops refl c.args.splits ends.aim_is c.ends_back.result c.ends_back.ensures kept.sound c.release_all.ensures
          (c.end.ensures.one row found ∙ ap (λ (x : Numbered). length x.rows + 1) c.end.ensures.left) c.end.ensures.left;
      told =
          told_rolled_back g.D.Disk old _ c.requires.works (ap besides_rows c.end.ensures.left) refl (c.end.ensures.one row found) refl
          (λ lost. absurd (not_true (g.D.Disk.failed c.close_back.new.disk) c.in-Ok-Ended.ensures.outcome.ends.alive lost));
      answered = continue_made g.D.Disk old c.requires.works t c.requires.checked c.close_back.new.writer.log c.close_back.new.disk replies.RolledBack (λ x e. cc e);
      suits = search rules;
      at_once = λ _. search rules;
      paced = ends_pace g.D.Disk t c.args.splits old ends _ replies.RolledBack (λ is. cc is) (inl (inr (inl refl), refl));
      grouped = tt;
      frames = search rules;
      wants = λ b before s v r. ends_want g.D.Disk t c.args.splits old ends _ _ v.walk _ _ replies.RolledBack (λ is. cc is) (λ is. cc is);
      quiet = λ none. absurd (none tt);
      costs = tt;
    }

pub returns-in-Err : goal.returns-in-Err
returns-in-Err g c =
    let old = c.args.self.now in
    let t = c.args.t in
    let f = c.in-Err.fault in
    let ends = c.requires.end in
    let same = c.change.ensures ∙ ap (λ u. u.begun.change) (ends_some c.args.splits t old.under ends c.in-Some-under.under c.in-Some-under.is) in
    let free = ends_free c.args.splits t old.under ends in
    let checked = ends_checked old.txns.rows c.args.splits t old.under ends c.requires.checked in
    let refused = (turn_more g.D.Disk (close_may c.args.splits) c.in-Err.ensures.outcome).ends in
    let row = c.in-Some.row in
    let found = sym c.in-Some.ensures.found in
    record {
      kept = λ before s v life.
          let b = (life.running c.requires.works).0 in
          let r = (life.running c.requires.works).1 in
          let kept = back_kept g.D.Disk before s v t row old r found checked c.args.splits ends c.ends_back.result c.change.result.now same c.close_back.new.writer c.close_back.new.disk (Err f) (Err f) refl (c.in-Err.ensures.kept b r.base r.now r.redo_end r.stands r.over) in
          back_refused g.D.Disk before s v t row old _ life c.requires.works found checked free f refused kept.sound (λ memory. absurd (kept.never (inl memory))) kept.stops c.breaks-self.ensures refl refl refl
          c.told.result c.told.ensures (λ t f le left. g.met.D.Disk.counts_now c.close_back.new.disk t f le left);
      told =
          told_refused g.D.Disk old _ c.requires.works refl refl f c.told.result c.told.ensures c.breaks-self.ensures refl (λ _ u. refl)
          (λ lost. turn_lost g.D.Disk old.writer c.close_back.new.writer c.close_back.new.disk lost f refused);
      answered = continue_refused g.D.Disk old c.requires.works t c.requires.checked c.close_back.new.writer c.close_back.new.disk f c.told.result c.told.ensures refused;
      suits = search rules;
      at_once = λ _. search rules;
      paced = ends_pace g.D.Disk t c.args.splits old ends _ (replies.Refused c.told.result) (λ is. cc is) (inr (c.told.result, refl));
      grouped = tt;
      frames = search rules;
      wants = λ b before s v r.
          let kept = back_kept g.D.Disk before s v t row old r found checked c.args.splits ends c.ends_back.result c.change.result.now same c.close_back.new.writer c.close_back.new.disk (Err f) (Err f) refl (c.in-Err.ensures.kept b r.base r.now r.redo_end r.stands r.over) in
          ends_want g.D.Disk t c.args.splits old ends _ _ v.walk _ _ (replies.Refused c.told.result)
          (λ full. kept.never (inr (inl (told_capacity f (sym c.told.ensures ∙ refused_inj c.told.result faults.Capacity full)))))
          (λ late. kept.never (inr (inr (told_failed g.D.Disk old.writer c.close_back.new.writer c.close_back.new.disk f refused (sym c.told.ensures ∙ refused_inj c.told.result faults.Failed late)))));
      quiet = λ none. absurd (none tt);
      costs = tt;
    }
