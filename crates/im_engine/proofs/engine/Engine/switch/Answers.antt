use Rattle.std.proofs.Common.{◌≡◌, ℕ, Bool, true, false, Result, Ok, Err, refl, sym, ap, subst, ◌∙◌, rules}
use Rattle.std.specs.Prelude.{◌↔◌}
use Rattle.im_base_types.specs.Answers as answers
use Rattle.im_base_types.specs.declared.fault.Fault.{Fault}
use Rattle.im_base_types.specs.declared.fault.Fault.TheVariants.{Device}
use Rattle.im_theory_switch.proofs.Left.{lawful_readable}
use Rattle.im_theory_log.specs.Histories.{Base}
use Rattle.im_theory_tree.specs.Theory.{page_tree}
use Rattle.im_page_writer.specs.Switching.{RefusesSwitch, SwitchKept}
use Rattle.im_base_steps.specs.declared.reply.Reply.TheVariants as replies
use Rattle.im_engine.specs.Faults.{told_as}
use Rattle.im_engine.proofs.Causes.{behind, goes_on, switch_breaks, switch_ends, switch_lost, switch_made, switch_quiet}
use Rattle.im_engine.proofs.Switching.{gone_on, switch_refused}
use Rattle.im_engine.proofs.Telling.{told_answered, told_refused}
use Rattle.im_engine.proofs.Paced.{paced_beside}
use Rattle.im_engine.proofs.engine.Engine.switch.Goals as goal

-- the disk works on where the call was not refused `Device`
works_on : (failed : Bool) (result : Result Unit Fault) → result ≡ Ok tt → (result ≡ Err Device) ↔ (failed ≡ true) → failed ≡ false
works_on true result is tells = absurd (let never : Ok tt ≡ Err Device = sym is ∙ tells.1 refl in cc never)
works_on false result is tells = refl

-- the fault of a refusal
abbrev fault_in : Fault → Result Unit Fault → Fault
fault_in other (Ok x) = other
fault_in other (Err e) = e

-- and else that is told
lost_as : (failed : Bool) (f : Fault) (result : Result Unit Fault) → result ≡ Err f → (result ≡ Err Device) ↔ (failed ≡ true) → failed ≡ true → told_as f ≡ told_as Device
lost_as failed f result is tells lost = ap told_as (ap (fault_in f) (sym is ∙ tells.1 lost))

pub returns-in-Ok : goal.returns-in-Ok
returns-in-Ok g c =
    let old = c.args.self.now in
    let new_writer = c.switch.new.self in
    let disk = c.switch.new.disk in
    let below = old.working c.requires.works in
    let may = goes_on g.D.Disk old new_writer.log disk (λ e no. (let never : Ok tt ≡ Err e = (c.in-Ok.ensures.early e below no).0 in cc never)) in
    record {
      kept = λ before s v life.
          let b : Base = (life.running c.requires.works).0 in
          let r = (life.running c.requires.works).1 in
          let kept = subst (λ (n : ℕ). SwitchKept g.D.Disk b r.base r.now n old.disk new_writer disk (Ok tt)) c.next.ensures (c.in-Ok.ensures.kept b r.base r.now r.redo_end r.stands r.over (lawful_readable b page_tree r.now.log r.lawful)) in
          gone_on g.D.Disk before s v old _ life c.requires.works c.requires.checked kept.ok kept.stops refl refl refl refl;
      told = told_answered g.D.Disk old _ c.requires.works refl refl replies.Done (λ k. refl) refl refl tt refl refl (works_on (g.D.Disk.failed disk) (Ok tt) refl (c.in-Ok.ensures.device below));
      answered = behind g.D.Disk old new_writer.log disk c.requires.works answers.Switch replies.Done c.requires.checked (λ fault. switch_made g.D.Disk old new_writer.log disk replies.Done may (λ x e. cc e) fault);
      suits = search rules;
      at_once = λ _. search rules;
      paced = paced_beside g.D.Disk _ _ old _ refl (λ is. cc is) refl;
      grouped = tt;
      frames = c.switch.ensures.frames;
      wants = λ b before s v r. tt;
      quiet = λ none. absurd (none may);
      costs = c.switch.ensures.few;
    }

pub returns-in-Err : goal.returns-in-Err
returns-in-Err g c =
    let old = c.args.self.now in
    let new_writer = c.switch.new.self in
    let disk = c.switch.new.disk in
    let below = old.working c.requires.works in
    let f = c.in-Err.fault in
    let causes = subst (λ (broken : Bool). RefusesSwitch g.D.Disk broken new_writer.log disk f) below c.in-Err.ensures.causes in
    record {
      kept = λ before s v life.
          let b : Base = (life.running c.requires.works).0 in
          let r = (life.running c.requires.works).1 in
          let kept = subst (λ (n : ℕ). SwitchKept g.D.Disk b r.base r.now n old.disk new_writer disk (Err f)) c.next.ensures (c.in-Err.ensures.kept b r.base r.now r.redo_end r.stands r.over (lawful_readable b page_tree r.now.log r.lawful)) in
          switch_refused g.D.Disk before s v old _ life c.requires.works c.requires.checked f (switch_breaks g.D.Disk new_writer.log disk f causes) c.told.result c.told.ensures refl kept.stops (λ t x le left. g.met.D.Disk.counts_now disk t x le left);
      told = told_refused g.D.Disk old _ c.requires.works refl refl f c.told.result c.told.ensures (switch_ends g.D.Disk new_writer.log disk f causes) refl (λ _ u. refl) (λ lost. lost_as (g.D.Disk.failed disk) f (Err f) refl (c.in-Err.ensures.device below) lost);
      answered =
          behind g.D.Disk old new_writer.log disk c.requires.works answers.Switch (replies.Refused c.told.result) c.requires.checked
          (switch_lost g.D.Disk old new_writer.log disk f c.told.result c.told.ensures (λ e no. ap (fault_in f) (c.in-Err.ensures.early e below no).0) (λ is. c.in-Err.ensures.last (λ j. Err (is j))) causes);
      suits = search rules;
      at_once = λ _. search rules;
      paced = paced_beside g.D.Disk _ _ old _ refl (λ is. cc is) refl;
      grouped = tt;
      frames = c.switch.ensures.frames;
      wants = λ b before s v r. tt;
      quiet = switch_quiet g.D.Disk old new_writer.log disk (λ e no. (c.in-Err.ensures.early e below no).2);
      costs = c.switch.ensures.few;
    }
