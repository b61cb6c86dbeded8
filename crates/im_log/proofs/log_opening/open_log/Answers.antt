use Rattle.std.proofs.Common.{◌≡◌, [], ◌∷◌, Some, None, refl, sym, ◌∙◌, rules}
use Rattle.im_base_disk.proofs.Runs.{reads_none, reads_then}
use Rattle.im_base_types.specs.declared.file_id.FileId.TheVariants.{Log}
use Rattle.im_log_gate.specs.Header.{base_of}
use Rattle.im_log.specs.Spelled.{logged_at}
use Rattle.im_log.proofs.Openings.{started, begun_start, none_kept, some_kept}
use Rattle.im_log_record.specs.Entry.{view}
use Rattle.im_log.proofs.Backward.{read_none, none_read, some_read, has_read}
use Rattle.im_log.proofs.log_opening.open_log.Goals as goal

pub loop-opening-init : goal.loop-opening-init
loop-opening-init g c =
    let is = c.in_ok-opening.ensures.opening in
    record {
      begun = begun_start g.D.Disk c.args.gate c.in_ok-opening.opening c.args.disk.now c.requires.starts c.requires.usable c.requires.reading is;
      reads = reads_none g.D.Disk c.args.disk.now;
      working = is.5;
      based = is.1;
      reading = λ base all told has. ([], started g.D.Disk base all c.args.gate c.in_ok-opening.opening c.args.disk.now c.requires.of_log (c.requires.starts told) c.requires.first told has is);
      back = λ told made. ([], read_none g.D.Disk (base_of (g.D.Disk.seen c.args.disk.now Log)) c.args.gate c.in_ok-opening.opening c.args.disk.now c.requires.of_log (c.requires.starts told) refl c.requires.first told made is);
    }

pub returns-in_err-next-clause-kept : goal.returns-in_err-next-clause-kept
returns-in_err-next-clause-kept g c base all told has =
    let h = c.loop-opening.invariant.reading base all told has in
    let cause = (c.in_err-next.ensures.kept base all h.0 h.1).cause in
    record { ok = search rules; cause = search (rules, cause) }

pub returns-in-None-clause-kept : goal.returns-in-None-clause-kept
returns-in-None-clause-kept g c base all told has =
    let h = c.loop-opening.invariant.reading base all told has in
    let e = none_kept g.D.Disk base all h.0 c.next.new.self c.next.new.disk c.in_ok-next.field-0 c.in-None.is (c.in_ok-next.ensures.kept base all h.0 h.1) in
    record { ok = c.finish.ensures.kept base all h.0 e; cause = search rules }

pub returns-in_err-record-in-Some-clause-kept : goal.returns-in_err-record-in-Some-clause-kept
returns-in_err-record-in-Some-clause-kept g c base all told has =
    let h = c.loop-opening.invariant.reading base all told has in
    let n = some_kept g.D.Disk base all h.0 c.next.new.self c.next.new.disk c.in_ok-next.field-0 c.in-Some.field-0 c.in-Some.is (c.in_ok-next.ensures.kept base all h.0 h.1) in
    let never : None ≡ Some n.entry = sym c.in_err-record-in-Some.ensures.record.1 ∙ n.is in
    let bottom : ⊥ = cc in
    absurd bottom

pub loop-opening-preserved : goal.loop-opening-preserved
loop-opening-preserved g c = record {
  begun = c.next.ensures.outcome.begun;
  reads = reads_then g.D.Disk c.args.disk.now c.loop-opening.disk c.next.new.disk c.loop-opening.invariant.reads c.next.ensures.outcome.reads;
  working = c.in_ok-next.ensures.outcome.failed;
  based = c.next.ensures.outcome.base ∙ c.loop-opening.invariant.based;
  reading = λ base all told has.
      let h = c.loop-opening.invariant.reading base all told has in
      let n = some_kept g.D.Disk base all h.0 c.next.new.self c.next.new.disk c.in_ok-next.field-0 c.in-Some.field-0 c.in-Some.is (c.in_ok-next.ensures.kept base all h.0 h.1) in
      (logged_at c.in-Some.field-0 n.entry ∷ h.0, n.opening);
  back = λ told made.
      let h = c.loop-opening.invariant.back told made in
      let entry = view c.in_ok-record-in-Some.field-0 in
      (logged_at c.in-Some.field-0 entry ∷ h.0, some_read g.D.Disk (base_of (g.D.Disk.seen c.args.disk.now Log)) h.0 c.next.new.self c.next.new.disk c.in_ok-next.field-0 c.in-Some.field-0 entry c.in-Some.is (c.in_ok-next.ensures.reads_on (base_of (g.D.Disk.seen c.args.disk.now Log)) h.0 h.1) c.in_ok-record-in-Some.ensures.record);
}

pub returns-in-None-clause-spelled : goal.returns-in-None-clause-spelled
returns-in-None-clause-spelled g c told made =
    let h = c.loop-opening.invariant.back told made in
    let e = none_read g.D.Disk (base_of (g.D.Disk.seen c.args.disk.now Log)) h.0 c.next.new.self c.next.new.disk c.in_ok-next.field-0 c.in-None.is (c.in_ok-next.ensures.reads_on (base_of (g.D.Disk.seen c.args.disk.now Log)) h.0 h.1) in
    let seen = c.next.ensures.outcome.reads.seen ∙ c.loop-opening.invariant.reads.seen in
    (h.0, has_read g.D.Disk (base_of (g.D.Disk.seen c.args.disk.now Log)) h.0 c.next.new.self c.args.disk.now c.next.new.disk seen e, c.finish.ensures.kept (base_of (g.D.Disk.seen c.args.disk.now Log)) h.0 h.0 e)
