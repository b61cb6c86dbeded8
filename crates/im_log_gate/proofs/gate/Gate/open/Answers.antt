use Rattle.std.proofs.Common.{◌≡◌, Bool, true, false, Option, IfSome, refl, sym, subst}
use Rattle.im_base_types.specs.declared.file_id.FileId.{FileId}
use Rattle.im_base_disk.specs.Disk.{Files, Only}
use Rattle.im_base_disk.proofs.Runs.{only_reads}
use Rattle.im_log_header.specs.declared.header.LogStart.{LogStart}
use Rattle.im_log_gate.specs.Batches.{Reaches}
use Rattle.im_log_gate.specs.Header.{IsMade, Says}
use Rattle.im_log_gate.specs.Gate.{first_of, place_of}
use Rattle.im_log_gate.proofs.Starts.{start_reaches}
use Rattle.im_log_gate.proofs.gate.Gate.open.Goals as goal

not_true : (b : Bool) → (b ≡ true → ⊥) → b ≡ false
not_true true never = absurd (never refl)
not_true false never = refl

pub returns-clause-reading : goal.returns-clause-reading
returns-clause-reading g c =
    let old = c.args.disk.now in
    let new = c.read_start.new.disk in
    let gate = c.at_start.result in
    let file = g.D.Disk.seen old c.args.file in
    let reads = c.in_ok-start.ensures.outcome.reads in
    record {
      working = λ works. not_true (g.D.Disk.failed new) (λ failed. let clash = c.in_ok-start.ensures.outcome.answers.device.1 failed in cc (clash));
      reaches = λ works told.
          let says = subst (λ (o : Option LogStart). IfSome o (λ start. g.D.Disk.tells → Says start.first_gate start.header.generation start.header.base start.header.next file)) c.in-Some.is c.in_ok-start.ensures.says told in
          let made : IsMade file = subst (λ (o : Option LogStart). IfSome o (λ start. g.D.Disk.tells → IsMade file)) c.in-Some.is c.in_ok-start.ensures.made told in
          let starts = c.at_start.ensures.starts file says in
          subst (λ (f : Files). Reaches (first_of gate) (f gate.file) (place_of gate)) (sym reads.seen)
          (subst (λ (f : FileId). Reaches (first_of gate) (g.D.Disk.seen old f) (place_of gate)) (sym c.at_start.ensures.gate.0)
          (start_reaches (first_of gate) (place_of gate) file starts.first c.at_start.ensures.gate.1 made.within));
      durable = λ works. subst (λ (f : FileId). Only f (g.D.Disk.seen new) (g.D.Disk.may_leave new)) (sym c.at_start.ensures.gate.0) (only_reads g.D.Disk c.args.file old new reads c.requires.durable);
    }
