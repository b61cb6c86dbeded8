use Rattle.std.proofs.Common.{inl, inr, true, false, refl, sym, ap, ◌∙◌, ◌+◌, length, map, rules}
use Rattle.std.proofs.lemmas.List.{length-map}
use Rattle.im_base_txn.specs.Rows.{changed, with_record}
use Rattle.im_theory_steps.specs.Steps.{with_undone}
use Rattle.im_base_steps.specs.declared.reply.Reply.TheVariants as replies
use Rattle.im_base_types.specs.declared.fault.Fault.TheVariants as faults
use Rattle.im_tree_search.specs.declared.sight.Sight.TheVariants.{Seen, Hidden}
use Rattle.im_restart_undo.specs.declared.back.Back.TheVariants.{Plain}
use Rattle.im_engine_rollback.specs.declared.undone.Undone.TheVariants as turns
use Rattle.im_engine_rollback.specs.declared.undone_in_steps.UndoneInSteps.TheVariants as steps
use Rattle.im_engine.specs.Aims.{under_of}
use Rattle.im_engine.specs.Numbered.{Numbered, besides_rows}
use Rattle.im_engine.proofs.Causes.{refused_inj}
use Rattle.im_engine.proofs.SteppedBacks.{continue_row, other_checked, owns_other}
use Rattle.im_engine.proofs.SteppedBackPaces.{answered_want, begins_pace, blocked, first_refused, lacks_numbers, needs_memory, needs_next, never_barred, some_told, stays_pace}
use Rattle.im_engine.proofs.SteppedReturns.{taken_made}
use Rattle.im_engine.proofs.SteppedTold.{none_under, told_of}
use Rattle.im_engine.proofs.Returning.{again_by, again_in, back_waits, continue_back}
use Rattle.im_engine.proofs.SteppedTurns.{back_refused, kept_as, dropping, going_beside, halted, made_ended, some_left, splitting, turned_ended}
use Rattle.im_engine.proofs.Telling.{told_answered, told_refused, told_rolled_back}
use Rattle.im_engine.proofs.Turning.{continue_made, continue_refused, told_capacity, told_failed, told_memory, turn_lost}
use Rattle.im_engine.proofs.Waits.{not_waiting}
use Rattle.im_engine.proofs.engine.Engine.take_back.Goals as goal
use Rattle.im_engine.proofs.Looked.{not_true}

pub end-requires : goal.end-requires
end-requires g c =
    let old = c.args.self.now in
    let found = sym c.in-Some.ensures.found in
    not_waiting old.txns.rows c.args.t c.in-Some.row found (back_waits c.in-Some.row (continue_back old.txns.rows c.args.t c.in-Some.row found (other_checked old.txns.rows (under_of old.under) c.args.t c.requires.other c.requires.checked)))

pub returns-in_default : goal.returns-in_default
returns-in_default g c =
    let old = c.args.self.now in
    let its = continue_row old.txns.rows c.args.t (other_checked old.txns.rows (under_of old.under) c.args.t c.requires.other c.requires.checked) in
    absurd (c.in_default.not-Some its.0 (c.find.ensures.found ∙ its.1))

pub returns-then-end_return : goal.returns-then-end_return
returns-then-end_return g c =
    let old = c.args.self.now in
    let t = c.args.t in
    let row = c.in-Some.row in
    let other = c.requires.other in
    let found = sym c.in-Some.ensures.found in
    let free = other_checked old.txns.rows (under_of old.under) t other c.requires.checked in
    let last = c.in-Ok-Seen-Made-More.last in
    let next = c.in-Ok-Seen-Made-More.undo_next in
    let w = c.undo_in_steps.new.writer in
    let disk = c.undo_in_steps.new.disk in
    taken_made g.D.Disk t row old _ c.requires.works other c.requires.checked found free c.beside_of.result c.beside_of.ensures c.ends_back.result c.ends_back.ensures last next
    (λ b base s e going some told.
    kept_as g.D.Disk b base c.ends_back.result s e t row.last row.undo_next c.beside_of.result old.disk w disk c.in-Ok-Seen-Made-More.field-0 (Seen (steps.Made (turns.More last next)))
    (c.in-Ok-Seen-Made-More.field-0-is ∙ ap Seen (c.in-Ok-Seen-Made-More.field-0-0-is ∙ ap steps.Made c.in-Ok-Seen-Made-More.field-0-0-0-is)) (c.in-Ok-Seen-Made-More.ensures.kept b base s e going some told))
    refl c.in-Ok-Seen-Made-More.ensures.outcome.ends.alive c.in-Ok-Seen-Made-More.ensures.outcome.frames refl refl refl (again_in t (with_undone last next) old.txns _ _ c.note_undone.ensures.table c.end_return.ensures.table)
    true (sym c.if-end_return.true ∙ again_by t (with_undone last next) (λ x. refl) old.txns _ row c.end_return.result found c.note_undone.ensures.table c.end_return.ensures.done)

pub returns-else-end_return : goal.returns-else-end_return
returns-else-end_return g c =
    let old = c.args.self.now in
    let t = c.args.t in
    let row = c.in-Some.row in
    let other = c.requires.other in
    let found = sym c.in-Some.ensures.found in
    let free = other_checked old.txns.rows (under_of old.under) t other c.requires.checked in
    let last = c.in-Ok-Seen-Made-More.last in
    let next = c.in-Ok-Seen-Made-More.undo_next in
    let w = c.undo_in_steps.new.writer in
    let disk = c.undo_in_steps.new.disk in
    taken_made g.D.Disk t row old _ c.requires.works other c.requires.checked found free c.beside_of.result c.beside_of.ensures c.ends_back.result c.ends_back.ensures last next
    (λ b base s e going some told.
    kept_as g.D.Disk b base c.ends_back.result s e t row.last row.undo_next c.beside_of.result old.disk w disk c.in-Ok-Seen-Made-More.field-0 (Seen (steps.Made (turns.More last next)))
    (c.in-Ok-Seen-Made-More.field-0-is ∙ ap Seen (c.in-Ok-Seen-Made-More.field-0-0-is ∙ ap steps.Made c.in-Ok-Seen-Made-More.field-0-0-0-is)) (c.in-Ok-Seen-Made-More.ensures.kept b base s e going some told))
    refl c.in-Ok-Seen-Made-More.ensures.outcome.ends.alive c.in-Ok-Seen-Made-More.ensures.outcome.frames refl refl refl (again_in t (with_undone last next) old.txns _ _ c.note_undone.ensures.table c.end_return.ensures.table)
    false (sym c.if-end_return.false ∙ again_by t (with_undone last next) (λ x. refl) old.txns _ row c.end_return.result found c.note_undone.ensures.table c.end_return.ensures.done)

pub returns-in-Ok-Seen-Made-Ended : goal.returns-in-Ok-Seen-Made-Ended
returns-in-Ok-Seen-Made-Ended g c =
    let old = c.args.self.now in
    let t = c.args.t in
    let row = c.in-Some.row in
    let other = c.requires.other in
    let found = sym c.in-Some.ensures.found in
    let checked = other_checked old.txns.rows (under_of old.under) t other c.requires.checked in
    let beside = c.beside_of.result in
    let told_is = c.beside_of.ensures in
    record {
      kept = λ before s v life.
          let b = (life.running c.requires.works).0 in
          let r = (life.running c.requires.works).1 in
          let kept = kept_as g.D.Disk b r.base c.ends_back.result r.now r.redo_end t row.last row.undo_next beside old.disk c.undo_in_steps.new.writer c.undo_in_steps.new.disk c.in-Ok-Seen-Made-Ended.field-0 (Seen (steps.Made turns.Ended)) (c.in-Ok-Seen-Made-Ended.field-0-is ∙ ap Seen (c.in-Ok-Seen-Made-Ended.field-0-0-is ∙ ap steps.Made c.in-Ok-Seen-Made-Ended.field-0-0-0-is)) (c.in-Ok-Seen-Made-Ended.ensures.kept b r.base r.now r.redo_end (going_beside g.D.Disk before s v t row old r found checked other) (some_left g.D.Disk before s v t row old r found checked other) (told_of b old.under beside r.now.log told_is r.changing)) in
          turned_ended g.D.Disk before s v t row old _ life c.requires.works found checked other refl kept.stops beside told_is c.ends_back.result c.ends_back.ensures kept.sound refl c.release_all.ensures
          (c.end.ensures.one row found ∙ ap (λ (x : Numbered). length x.rows + 1) c.end.ensures.left) c.end.ensures.left;
      told =
          told_rolled_back g.D.Disk old _ c.requires.works (ap besides_rows c.end.ensures.left) refl (c.end.ensures.one row found) refl
          (λ lost. absurd (not_true (g.D.Disk.failed c.undo_in_steps.new.disk) c.in-Ok-Seen-Made-Ended.ensures.outcome.ends.alive lost));
      answered = continue_made g.D.Disk old c.requires.works t c.requires.checked c.undo_in_steps.new.writer.log c.undo_in_steps.new.disk replies.RolledBack (λ x e. cc e);
      suits = search rules;
      at_once = λ _. search rules;
      paced = stays_pace g.D.Disk t old _ other replies.RolledBack refl (λ is. absurd (cc is))
          (λ b before s v r u some two told_two bars.
          let kept = kept_as g.D.Disk b r.base c.ends_back.result r.now r.redo_end t row.last row.undo_next beside old.disk c.undo_in_steps.new.writer c.undo_in_steps.new.disk c.in-Ok-Seen-Made-Ended.field-0 (Seen (steps.Made turns.Ended)) (c.in-Ok-Seen-Made-Ended.field-0-is ∙ ap Seen (c.in-Ok-Seen-Made-Ended.field-0-0-is ∙ ap steps.Made c.in-Ok-Seen-Made-Ended.field-0-0-0-is)) (c.in-Ok-Seen-Made-Ended.ensures.kept b r.base r.now r.redo_end (going_beside g.D.Disk before s v t row old r found checked other) (some_left g.D.Disk before s v t row old r found checked other) (told_of b old.under beside r.now.log told_is r.changing)) in
          let is = (made_ended g.D.Disk b r.base c.ends_back.result r.now r.redo_end t beside old.disk c.undo_in_steps.new.writer c.undo_in_steps.new.disk kept.sound).1 in
          absurd (never_barred g.D.Disk before s v t old r other beside told_is u some two told_two is.entry is.next (Plain is.took.page) is.took.planned bars));
      grouped = tt;
      frames = search rules;
      wants = λ b before s v r.
          let kept = kept_as g.D.Disk b r.base c.ends_back.result r.now r.redo_end t row.last row.undo_next beside old.disk c.undo_in_steps.new.writer c.undo_in_steps.new.disk c.in-Ok-Seen-Made-Ended.field-0 (Seen (steps.Made turns.Ended)) (c.in-Ok-Seen-Made-Ended.field-0-is ∙ ap Seen (c.in-Ok-Seen-Made-Ended.field-0-0-is ∙ ap steps.Made c.in-Ok-Seen-Made-Ended.field-0-0-0-is)) (c.in-Ok-Seen-Made-Ended.ensures.kept b r.base r.now r.redo_end (going_beside g.D.Disk before s v t row old r found checked other) (some_left g.D.Disk before s v t row old r found checked other) (told_of b old.under beside r.now.log told_is r.changing)) in
          let is = (made_ended g.D.Disk b r.base c.ends_back.result r.now r.redo_end t beside old.disk c.undo_in_steps.new.writer c.undo_in_steps.new.disk kept.sound).1 in
          answered_want _ v.walk old.stepped _ _ t _ _ replies.RolledBack (λ x e. cc e) (λ needs. absurd (is.took.planned.whole (needs_next g.D.Disk before s v t row old r found checked is.entry is.next.next needs)));
      quiet = λ none. absurd (none tt);
      costs = tt;
    }

-- ---- a structure change begins

pub returns-in-Ok-Seen-Splitting : goal.returns-in-Ok-Seen-Splitting
returns-in-Ok-Seen-Splitting g c =
    let old = c.args.self.now in
    let t = c.args.t in
    let row = c.in-Some.row in
    let other = c.requires.other in
    let found = sym c.in-Some.ensures.found in
    let checked = other_checked old.txns.rows (under_of old.under) t other c.requires.checked in
    let beside = c.beside_of.result in
    let told_is = c.beside_of.ensures in
    let last_is = c.last-last.ensures ∙ ap (λ x. x.last) c.change.ensures in
    record {
      kept = λ before s v life.
          let b = (life.running c.requires.works).0 in
          let r = (life.running c.requires.works).1 in
          let kept = kept_as g.D.Disk b r.base c.ends_back.result r.now r.redo_end t row.last row.undo_next beside old.disk c.undo_in_steps.new.writer c.undo_in_steps.new.disk c.in-Ok-Seen-Splitting.field-0 (Seen (steps.Splitting c.in-Ok-Seen-Splitting.begun)) (c.in-Ok-Seen-Splitting.field-0-is ∙ ap Seen c.in-Ok-Seen-Splitting.field-0-0-is) (c.in-Ok-Seen-Splitting.ensures.kept b r.base r.now r.redo_end (going_beside g.D.Disk before s v t row old r found checked other) (some_left g.D.Disk before s v t row old r found checked other) (told_of b old.under beside r.now.log told_is r.changing)) in
          splitting g.D.Disk before s v t row old _ life c.requires.works found checked other refl kept.stops beside told_is (none_under old.under beside told_is kept.sound.alone) c.in-Ok-Seen-Splitting.begun kept.sound refl refl
          (c.note_record.ensures.table ∙ ap (λ n. record old.txns { rows = map (changed t (with_record n n)) old.txns.rows }) last_is);
      told =
          told_answered g.D.Disk old _ c.requires.works (ap besides_rows c.note_record.ensures.table) refl replies.More (λ k. refl) refl refl tt refl
          (ap (λ (x : Numbered). length x.rows) c.note_record.ensures.table ∙ length-map old.txns.rows (changed t (with_record c.last-last.result c.last-last.result))) c.in-Ok-Seen-Splitting.ensures.outcome.ends.alive;
      answered = continue_made g.D.Disk old c.requires.works t c.requires.checked c.undo_in_steps.new.writer.log c.undo_in_steps.new.disk replies.More (λ x e. cc e);
      suits = search rules;
      at_once = λ _. search rules;
      paced = begins_pace g.D.Disk t old _ other c.requires.stepped refl
          (λ b before s v r.
          let kept = kept_as g.D.Disk b r.base c.ends_back.result r.now r.redo_end t row.last row.undo_next beside old.disk c.undo_in_steps.new.writer c.undo_in_steps.new.disk c.in-Ok-Seen-Splitting.field-0 (Seen (steps.Splitting c.in-Ok-Seen-Splitting.begun)) (c.in-Ok-Seen-Splitting.field-0-is ∙ ap Seen c.in-Ok-Seen-Splitting.field-0-0-is) (c.in-Ok-Seen-Splitting.ensures.kept b r.base r.now r.redo_end (going_beside g.D.Disk before s v t row old r found checked other) (some_left g.D.Disk before s v t row old r found checked other) (told_of b old.under beside r.now.log told_is r.changing)) in
          none_under old.under beside told_is kept.sound.alone);
      grouped = tt;
      frames = search rules;
      wants = λ b before s v r. answered_want _ v.walk old.stepped _ _ t _ _ replies.More (λ x e. cc e) (λ needs. (refl, refl));
      quiet = λ none. absurd (none tt);
      costs = tt;
    }

pub returns-in-Ok-Seen-Dropping : goal.returns-in-Ok-Seen-Dropping
returns-in-Ok-Seen-Dropping g c =
    let old = c.args.self.now in
    let t = c.args.t in
    let row = c.in-Some.row in
    let other = c.requires.other in
    let found = sym c.in-Some.ensures.found in
    let checked = other_checked old.txns.rows (under_of old.under) t other c.requires.checked in
    let beside = c.beside_of.result in
    let told_is = c.beside_of.ensures in
    let last_is = c.last.ensures ∙ ap (λ x. x.last) c.change-change.ensures in
    let next_is = c.undo_next.ensures ∙ ap (λ x. x.undo_next) c.change-change.ensures in
    record {
      kept = λ before s v life.
          let b = (life.running c.requires.works).0 in
          let r = (life.running c.requires.works).1 in
          let kept = kept_as g.D.Disk b r.base c.ends_back.result r.now r.redo_end t row.last row.undo_next beside old.disk c.undo_in_steps.new.writer c.undo_in_steps.new.disk c.in-Ok-Seen-Dropping.field-0 (Seen (steps.Dropping c.in-Ok-Seen-Dropping.begun)) (c.in-Ok-Seen-Dropping.field-0-is ∙ ap Seen c.in-Ok-Seen-Dropping.field-0-0-is) (c.in-Ok-Seen-Dropping.ensures.kept b r.base r.now r.redo_end (going_beside g.D.Disk before s v t row old r found checked other) (some_left g.D.Disk before s v t row old r found checked other) (told_of b old.under beside r.now.log told_is r.changing)) in
          dropping g.D.Disk before s v t row old _ life c.requires.works found checked other refl kept.stops beside told_is (none_under old.under beside told_is kept.sound.alone) c.in-Ok-Seen-Dropping.begun kept.sound refl refl
          (c.note_undone-in-Ok-Seen-Dropping.ensures.table ∙ ap (λ n. record old.txns { rows = map (changed t (with_undone n c.undo_next.result)) old.txns.rows }) last_is ∙ ap (λ n. record old.txns { rows = map (changed t (with_undone c.in-Ok-Seen-Dropping.begun.change.last n)) old.txns.rows }) next_is);
      told =
          told_answered g.D.Disk old _ c.requires.works (ap besides_rows c.note_undone-in-Ok-Seen-Dropping.ensures.table) refl replies.More (λ k. refl) refl refl tt refl
          (ap (λ (x : Numbered). length x.rows) c.note_undone-in-Ok-Seen-Dropping.ensures.table ∙ length-map old.txns.rows (changed t (with_undone c.last.result c.undo_next.result))) c.in-Ok-Seen-Dropping.ensures.outcome.ends.alive;
      answered = continue_made g.D.Disk old c.requires.works t c.requires.checked c.undo_in_steps.new.writer.log c.undo_in_steps.new.disk replies.More (λ x e. cc e);
      suits = search rules;
      at_once = λ _. search rules;
      paced = begins_pace g.D.Disk t old _ other c.requires.stepped refl
          (λ b before s v r.
          let kept = kept_as g.D.Disk b r.base c.ends_back.result r.now r.redo_end t row.last row.undo_next beside old.disk c.undo_in_steps.new.writer c.undo_in_steps.new.disk c.in-Ok-Seen-Dropping.field-0 (Seen (steps.Dropping c.in-Ok-Seen-Dropping.begun)) (c.in-Ok-Seen-Dropping.field-0-is ∙ ap Seen c.in-Ok-Seen-Dropping.field-0-0-is) (c.in-Ok-Seen-Dropping.ensures.kept b r.base r.now r.redo_end (going_beside g.D.Disk before s v t row old r found checked other) (some_left g.D.Disk before s v t row old r found checked other) (told_of b old.under beside r.now.log told_is r.changing)) in
          none_under old.under beside told_is kept.sound.alone);
      grouped = tt;
      frames = search rules;
      wants = λ b before s v r. answered_want _ v.walk old.stepped _ _ t _ _ replies.More (λ x e. cc e) (λ needs. (refl, refl));
      quiet = λ none. absurd (none tt);
      costs = tt;
    }

-- ---- another's is in the way

pub returns-in-Ok-Hidden : goal.returns-in-Ok-Hidden
returns-in-Ok-Hidden g c =
    let old = c.args.self.now in
    let t = c.args.t in
    let row = c.in-Some.row in
    let other = c.requires.other in
    let found = sym c.in-Some.ensures.found in
    let checked = other_checked old.txns.rows (under_of old.under) t other c.requires.checked in
    let beside = c.beside_of.result in
    let told_is = c.beside_of.ensures in
    record {
      kept = λ before s v life.
          let b = (life.running c.requires.works).0 in
          let r = (life.running c.requires.works).1 in
          let kept = kept_as g.D.Disk b r.base c.ends_back.result r.now r.redo_end t row.last row.undo_next beside old.disk c.undo_in_steps.new.writer c.undo_in_steps.new.disk c.in-Ok-Hidden.field-0 Hidden c.in-Ok-Hidden.field-0-is (c.in-Ok-Hidden.ensures.kept b r.base r.now r.redo_end (going_beside g.D.Disk before s v t row old r found checked other) (some_left g.D.Disk before s v t row old r found checked other) (told_of b old.under beside r.now.log told_is r.changing)) in
          let by = blocked g.D.Disk before s v t old r other beside told_is c.undo_in_steps.new.writer c.undo_in_steps.new.disk kept.sound in
          halted g.D.Disk before s v t row old _ life c.requires.works found checked other refl kept.stops beside told_is by.u by.under kept.sound refl refl refl;
      told = told_answered g.D.Disk old _ c.requires.works refl refl (replies.Blocked _) (λ k. refl) refl refl tt refl refl c.in-Ok-Hidden.ensures.outcome.ends.alive;
      answered = continue_made g.D.Disk old c.requires.works t c.requires.checked c.undo_in_steps.new.writer.log c.undo_in_steps.new.disk (replies.Blocked _) (λ x e. cc e);
      suits = search rules;
      at_once = λ plain. absurd (not_true old.stepped plain c.requires.stepped);
      paced = stays_pace g.D.Disk t old _ other (replies.Blocked _) refl
          (λ is b before s v r.
          let kept = kept_as g.D.Disk b r.base c.ends_back.result r.now r.redo_end t row.last row.undo_next beside old.disk c.undo_in_steps.new.writer c.undo_in_steps.new.disk c.in-Ok-Hidden.field-0 Hidden c.in-Ok-Hidden.field-0-is (c.in-Ok-Hidden.ensures.kept b r.base r.now r.redo_end (going_beside g.D.Disk before s v t row old r found checked other) (some_left g.D.Disk before s v t row old r found checked other) (told_of b old.under beside r.now.log told_is r.changing)) in
          blocked g.D.Disk before s v t old r other beside told_is c.undo_in_steps.new.writer c.undo_in_steps.new.disk kept.sound)
          (λ b before s v r u some two told_two bars. inl refl);
      grouped = tt;
      frames = search rules;
      wants = λ b before s v r.
          let kept = kept_as g.D.Disk b r.base c.ends_back.result r.now r.redo_end t row.last row.undo_next beside old.disk c.undo_in_steps.new.writer c.undo_in_steps.new.disk c.in-Ok-Hidden.field-0 Hidden c.in-Ok-Hidden.field-0-is (c.in-Ok-Hidden.ensures.kept b r.base r.now r.redo_end (going_beside g.D.Disk before s v t row old r found checked other) (some_left g.D.Disk before s v t row old r found checked other) (told_of b old.under beside r.now.log told_is r.changing)) in
          let by = blocked g.D.Disk before s v t old r other beside told_is c.undo_in_steps.new.writer c.undo_in_steps.new.disk kept.sound in
          record {
            short = λ is. absurd (let never : ⊥ = cc is in never);
            used_up = λ is. absurd (let never : ⊥ = cc is in never);
            broken = λ is. absurd (let never : ⊥ = cc is in never);
            begun = λ steps none needs. absurd (let clash = sym none ∙ ap under_of by.under in let never : ⊥ = cc clash in never);
          };
      quiet = λ none. absurd (none tt);
      costs = tt;
    }

pub returns-in-Err : goal.returns-in-Err
returns-in-Err g c =
    let old = c.args.self.now in
    let t = c.args.t in
    let f = c.in-Err.fault in
    let row = c.in-Some.row in
    let other = c.requires.other in
    let found = sym c.in-Some.ensures.found in
    let checked = other_checked old.txns.rows (under_of old.under) t other c.requires.checked in
    let beside = c.beside_of.result in
    let told_is = c.beside_of.ensures in
    let w = c.undo_in_steps.new.writer in
    let disk = c.undo_in_steps.new.disk in
    record {
      kept = λ before s v life.
          let b = (life.running c.requires.works).0 in
          let r = (life.running c.requires.works).1 in
          let kept = c.in-Err.ensures.kept b r.base r.now r.redo_end (going_beside g.D.Disk before s v t row old r found checked other) (some_left g.D.Disk before s v t row old r found checked other) (told_of b old.under beside r.now.log told_is r.changing) in
          back_refused g.D.Disk before s v t row old _ life c.requires.works found checked (owns_other (under_of old.under) t other) f c.in-Err.ensures.outcome.ends kept.sound kept.again kept.stops c.breaks-self.ensures refl refl refl
          c.told.result c.told.ensures (λ t f le left. g.met.D.Disk.counts_now disk t f le left);
      told =
          told_refused g.D.Disk old _ c.requires.works refl refl f c.told.result c.told.ensures c.breaks-self.ensures refl (λ _ u. refl)
          (λ lost. turn_lost g.D.Disk old.writer w disk lost f c.in-Err.ensures.outcome.ends);
      answered = continue_refused g.D.Disk old c.requires.works t c.requires.checked w disk f c.told.result c.told.ensures c.in-Err.ensures.outcome.ends;
      suits = search rules;
      at_once = λ _. search rules;
      paced = stays_pace g.D.Disk t old _ other (replies.Refused c.told.result) refl (λ is. absurd (cc is))
          (λ b before s v r u some two told_two bars.
          let kept = c.in-Err.ensures.kept b r.base r.now r.redo_end (going_beside g.D.Disk before s v t row old r found checked other) (some_left g.D.Disk before s v t row old r found checked other) (told_of b old.under beside r.now.log told_is r.changing) in
          inr (first_refused g.D.Disk old.writer w disk f c.in-Err.ensures.outcome.ends kept.sound (λ is. some_told g.D.Disk before s v t old r other beside told_is u some (kept.alone is)) kept.early c.told.result c.told.ensures));
      grouped = tt;
      frames = search rules;
      wants = λ b before s v r.
          let kept = c.in-Err.ensures.kept b r.base r.now r.redo_end (going_beside g.D.Disk before s v t row old r found checked other) (some_left g.D.Disk before s v t row old r found checked other) (told_of b old.under beside r.now.log told_is r.changing) in
          record {
            short = λ wants differ. inr (c.requires.stepped, needs_memory g.D.Disk before s v t row old r found checked (kept.short (told_memory f (sym c.told.ensures ∙ refused_inj c.told.result faults.Memory wants))));
            used_up = λ full.
                let is = told_capacity f (sym c.told.ensures ∙ refused_inj c.told.result faults.Capacity full) in
                lacks_numbers g.D.Disk before s v t row old r found checked (none_under old.under beside told_is (kept.alone (inr is))) (kept.used_up is);
            broken = λ late. absurd (kept.early (told_failed g.D.Disk old.writer w disk f c.in-Err.ensures.outcome.ends (sym c.told.ensures ∙ refused_inj c.told.result faults.Failed late)));
            begun = λ steps none needs. inr (c.told.result, refl);
          };
      quiet = λ none. absurd (none tt);
      costs = tt;
    }
