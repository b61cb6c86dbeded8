use Rattle.std.proofs.Common.{inl, refl, sym, ap, ◌∙◌, ◌+◌, length, map, rules}
use Rattle.std.proofs.lemmas.List.{length-map}
use Rattle.im_base_txn.specs.Rows.{changed, with_mark}
use Rattle.im_base_txn.specs.declared.transaction.Mark.TheVariants.{Going}
use Rattle.im_theory_steps.specs.Steps.{with_undone}
use Rattle.im_engine.proofs.Waits.{not_waiting}
use Rattle.im_base_steps.specs.declared.reply.Reply.TheVariants as replies
use Rattle.im_engine.specs.Numbered.{Numbered, besides_rows}
use Rattle.im_base_types.specs.declared.fault.Fault.TheVariants as faults
use Rattle.im_engine.proofs.Causes.{refused_inj}
use Rattle.im_engine.proofs.Telling.{told_answered, told_refused, told_rolled_back}
use Rattle.im_engine.proofs.Running.{plain_under}
use Rattle.im_engine.proofs.Numbers.{said_of}
use Rattle.im_engine.proofs.Returning.{back_waits, continue_back}
use Rattle.im_engine.proofs.Turning.{alone_checked, continue_found, continue_made, continue_refused, has_ended, has_gone_back, has_more, has_more_to_undo, lacks_way, stands_going, told_capacity, told_failed, turn_lost, turn_refused, lacks_room, told_memory}
use Rattle.im_engine.proofs.Paced.{paced_alone}
use Rattle.im_engine.proofs.engine.Engine.go_on_at_once.Goals as goal
use Rattle.im_engine.proofs.Looked.{not_true}

pub end-requires : goal.end-requires
end-requires g c =
    let found = sym c.in-Some.ensures.found in
    not_waiting c.args.self.now.txns.rows c.args.t c.in-Some.row found (back_waits c.in-Some.row (continue_back c.args.self.now.txns.rows c.args.t c.in-Some.row found (alone_checked g.D.Disk c.args.self.now c.args.t (plain_under g.D.Disk c.args.self.now c.requires.plain) c.requires.checked)))

pub returns-in_default : goal.returns-in_default
returns-in_default g c =
    let old = c.args.self.now in
    absurd (continue_found old.txns.rows c.args.t (sym c.find.ensures.found ∙ c.in_default.is) (alone_checked g.D.Disk old c.args.t (plain_under g.D.Disk old c.requires.plain) c.requires.checked))

pub returns-then-end_return : goal.returns-then-end_return
returns-then-end_return g c =
    let old = c.args.self.now in
    let row = c.in-Some.row in
    let found = sym c.in-Some.ensures.found in
    let f = with_undone c.in-Ok-More.last c.in-Ok-More.undo_next in
    let table = c.note_undone.ensures.table in
    let said = said_of c.args.t f (λ x. refl) old.txns.rows row found _ (ap (λ (x : Numbered). x.rows) table) c.end_return.result c.end_return.ensures.done in
    let now = c.end_return.ensures.on c.if-end_return.true ∙ ap (λ (x : Numbered). record x { rows = map (changed c.args.t (with_mark Going)) x.rows }) table in
    record {
      kept = λ before s v life.
          let b = (life.running c.requires.works).0 in
          let r = (life.running c.requires.works).1 in
          let kept = c.in-Ok-More.ensures.kept b r.base r.now r.redo_end (stands_going g.D.Disk before s v c.args.t row old r found c.requires.checked (plain_under g.D.Disk old c.requires.plain)) (has_more_to_undo g.D.Disk before s v c.args.t row old r found c.requires.checked (plain_under g.D.Disk old c.requires.plain)) in
          has_gone_back g.D.Disk before s v c.args.t row old _ life c.requires.works found c.requires.checked (plain_under g.D.Disk old c.requires.plain) refl refl kept.stops c.ends_back.result c.ends_back.ensures c.in-Ok-More.field-0 c.in-Ok-More.last c.in-Ok-More.undo_next c.in-Ok-More.field-0-is kept.sound
          (sym said ∙ c.if-end_return.true) refl now;
      told =
          told_answered g.D.Disk old _ c.requires.works (ap besides_rows now) refl replies.Done (λ k. refl) refl refl tt refl
          (ap (λ (x : Numbered). length x.rows) now ∙ length-map (map (changed c.args.t f) old.txns.rows) (changed c.args.t (with_mark Going)) ∙ length-map old.txns.rows (changed c.args.t f)) c.in-Ok-More.ensures.outcome.ends.alive;
      answered = continue_made g.D.Disk old c.requires.works c.args.t c.requires.checked c.undo_next.new.writer.log c.undo_next.new.disk replies.Done (λ x e. cc e);
      suits = search rules;
      at_once = λ _. search rules;
      paced = paced_alone g.D.Disk _ _ old _ refl (λ is. cc is) c.requires.plain;
      grouped = tt;
      frames = search rules;
      wants = λ b before s v r. record { short = λ is. absurd (let never : ⊥ = cc is in never); used_up = λ is. absurd (let never : ⊥ = cc is in never); broken = λ is. absurd (let never : ⊥ = cc is in never); begun = λ steps _ _. absurd (not_true old.stepped c.requires.plain steps) };
      quiet = λ none. absurd (none tt);
      costs = tt;
    }

pub returns-else-end_return : goal.returns-else-end_return
returns-else-end_return g c =
    let old = c.args.self.now in
    let row = c.in-Some.row in
    let found = sym c.in-Some.ensures.found in
    let f = with_undone c.in-Ok-More.last c.in-Ok-More.undo_next in
    let table = c.note_undone.ensures.table in
    let said = said_of c.args.t f (λ x. refl) old.txns.rows row found _ (ap (λ (x : Numbered). x.rows) table) c.end_return.result c.end_return.ensures.done in
    let now = c.end_return.ensures.still c.if-end_return.false ∙ table in
    record {
      kept = λ before s v life.
          let b = (life.running c.requires.works).0 in
          let r = (life.running c.requires.works).1 in
          let kept = c.in-Ok-More.ensures.kept b r.base r.now r.redo_end (stands_going g.D.Disk before s v c.args.t row old r found c.requires.checked (plain_under g.D.Disk old c.requires.plain)) (has_more_to_undo g.D.Disk before s v c.args.t row old r found c.requires.checked (plain_under g.D.Disk old c.requires.plain)) in
          has_more g.D.Disk before s v c.args.t row old _ life c.requires.works found c.requires.checked (plain_under g.D.Disk old c.requires.plain) refl refl kept.stops c.ends_back.result c.ends_back.ensures c.in-Ok-More.field-0 c.in-Ok-More.last c.in-Ok-More.undo_next c.in-Ok-More.field-0-is kept.sound
          (sym said ∙ c.if-end_return.false) refl now;
      told =
          told_answered g.D.Disk old _ c.requires.works (ap besides_rows now) refl replies.More (λ k. refl) refl refl tt refl
          (ap (λ (x : Numbered). length x.rows) now ∙ length-map old.txns.rows (changed c.args.t f)) c.in-Ok-More.ensures.outcome.ends.alive;
      answered = continue_made g.D.Disk old c.requires.works c.args.t c.requires.checked c.undo_next.new.writer.log c.undo_next.new.disk replies.More (λ x e. cc e);
      suits = search rules;
      at_once = λ _. search rules;
      paced = paced_alone g.D.Disk _ _ old _ refl (λ is. cc is) c.requires.plain;
      grouped = tt;
      frames = search rules;
      wants = λ b before s v r. record { short = λ is. absurd (let never : ⊥ = cc is in never); used_up = λ is. absurd (let never : ⊥ = cc is in never); broken = λ is. absurd (let never : ⊥ = cc is in never); begun = λ steps _ _. absurd (not_true old.stepped c.requires.plain steps) };
      quiet = λ none. absurd (none tt);
      costs = tt;
    }

pub returns-in-Ok-Ended : goal.returns-in-Ok-Ended
returns-in-Ok-Ended g c =
    let old = c.args.self.now in
    let found = sym c.in-Some.ensures.found in
    let row = c.in-Some.row in
    record {
      kept = λ before s v life.
          let b = (life.running c.requires.works).0 in
          let r = (life.running c.requires.works).1 in
          let kept = c.in-Ok-Ended.ensures.kept b r.base r.now r.redo_end (stands_going g.D.Disk before s v c.args.t row old r found c.requires.checked (plain_under g.D.Disk old c.requires.plain)) (has_more_to_undo g.D.Disk before s v c.args.t row old r found c.requires.checked (plain_under g.D.Disk old c.requires.plain)) in
          has_ended g.D.Disk before s v c.args.t row old _ life c.requires.works found c.requires.checked (plain_under g.D.Disk old c.requires.plain) refl refl kept.stops c.ends_back.result c.ends_back.ensures c.in-Ok-Ended.field-0 c.in-Ok-Ended.field-0-is kept.sound c.release_all.ensures
          (c.end.ensures.one row found ∙ ap (λ (x : Numbered). length x.rows + 1) c.end.ensures.left) c.end.ensures.left;
      told =
          told_rolled_back g.D.Disk old _ c.requires.works (ap besides_rows c.end.ensures.left) refl (c.end.ensures.one c.in-Some.row found) refl
          (λ lost. absurd (not_true (g.D.Disk.failed c.undo_next.new.disk) c.in-Ok-Ended.ensures.outcome.ends.alive lost));
      answered = continue_made g.D.Disk old c.requires.works c.args.t c.requires.checked c.undo_next.new.writer.log c.undo_next.new.disk replies.RolledBack (λ x e. cc e);
      suits = search rules;
      at_once = λ _. search rules;
      paced = paced_alone g.D.Disk _ _ old _ refl (λ is. cc is) c.requires.plain;
      grouped = tt;
      frames = search rules;
      wants = λ b before s v r. record { short = λ is. absurd (let never : ⊥ = cc is in never); used_up = λ is. absurd (let never : ⊥ = cc is in never); broken = λ is. absurd (let never : ⊥ = cc is in never); begun = λ steps _ _. absurd (not_true old.stepped c.requires.plain steps) };
      quiet = λ none. absurd (none tt);
      costs = tt;
    }

pub returns-in-Err : goal.returns-in-Err
returns-in-Err g c =
    let old = c.args.self.now in
    let row = c.in-Some.row in
    let found = sym c.in-Some.ensures.found in
    record {
      kept = λ before s v life.
          let b = (life.running c.requires.works).0 in
          let r = (life.running c.requires.works).1 in
          let kept = c.in-Err.ensures.kept b r.base r.now r.redo_end (stands_going g.D.Disk before s v c.args.t row old r found c.requires.checked (plain_under g.D.Disk old c.requires.plain)) (has_more_to_undo g.D.Disk before s v c.args.t row old r found c.requires.checked (plain_under g.D.Disk old c.requires.plain)) in
          turn_refused g.D.Disk before s v c.args.t row old _ life c.requires.works found c.requires.checked (plain_under g.D.Disk old c.requires.plain) refl c.in-Err.fault c.in-Err.ensures.outcome.ends kept.sound kept.again kept.stops c.breaks-self.ensures refl refl
          c.told.result c.told.ensures (λ t f le left. g.met.D.Disk.counts_now c.undo_next.new.disk t f le left);
      told =
          told_refused g.D.Disk old _ c.requires.works refl refl c.in-Err.fault c.told.result c.told.ensures c.breaks-self.ensures refl (λ _ u. refl)
          (λ lost. turn_lost g.D.Disk old.writer c.undo_next.new.writer c.undo_next.new.disk lost c.in-Err.fault c.in-Err.ensures.outcome.ends);
      answered = continue_refused g.D.Disk old c.requires.works c.args.t c.requires.checked c.undo_next.new.writer c.undo_next.new.disk c.in-Err.fault c.told.result c.told.ensures c.in-Err.ensures.outcome.ends;
      suits = search rules;
      at_once = λ _. search rules;
      paced = paced_alone g.D.Disk _ _ old _ refl (λ is. cc is) c.requires.plain;
      grouped = tt;
      frames = search rules;
      wants = λ b before s v r.
          let kept = c.in-Err.ensures.kept b r.base r.now r.redo_end (stands_going g.D.Disk before s v c.args.t row old r found c.requires.checked (plain_under g.D.Disk old c.requires.plain)) (has_more_to_undo g.D.Disk before s v c.args.t row old r found c.requires.checked (plain_under g.D.Disk old c.requires.plain)) in
          record {
            short = λ wants _. inl (lacks_room g.D.Disk before s v c.args.t row old r found c.requires.checked (plain_under g.D.Disk old c.requires.plain) (kept.short (told_memory c.in-Err.fault (sym c.told.ensures ∙ refused_inj c.told.result faults.Memory wants))));
            used_up = λ full. lacks_way g.D.Disk before s v c.args.t row old r found c.requires.checked (plain_under g.D.Disk old c.requires.plain) (kept.used_up (told_capacity c.in-Err.fault (sym c.told.ensures ∙ refused_inj c.told.result faults.Capacity full)));
            broken = λ late. kept.begun (told_failed g.D.Disk old.writer c.undo_next.new.writer c.undo_next.new.disk c.in-Err.fault c.in-Err.ensures.outcome.ends (sym c.told.ensures ∙ refused_inj c.told.result faults.Failed late));
            begun = λ steps _ _. absurd (not_true old.stepped c.requires.plain steps);
          };
      quiet = λ none. absurd (none tt);
      costs = tt;
    }
