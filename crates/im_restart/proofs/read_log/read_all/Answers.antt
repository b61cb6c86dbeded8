use Rattle.std.proofs.Common.{rules, ◌≡◌, ◌≢◌, ◌≤◌, ℕ, ◌∷◌, None, Some, sym, ap, ◌∙◌, subst}
use Rattle.im_base_types.specs.declared.fault.Fault.TheVariants.{Device, NotAStore}
use Rattle.im_base_types.specs.declared.file_id.FileId.TheVariants.{Log}
use Rattle.im_theory_log.specs.Histories.{History}
use Rattle.im_base_disk.specs.Disk.{Files}
use Rattle.im_base_disk.proofs.Runs.{reads_then}
use Rattle.im_log_record.specs.Entry.{view}
use Rattle.im_log.specs.Spelled.{logged_at}
use Rattle.im_log.proofs.Backward.{has_read, none_read, some_read}
use Rattle.im_log.proofs.Openings.{none_kept, some_kept}
use Rattle.im_log_gate.specs.Header.{least_number}
use Rattle.im_restart_analysis.specs.Analysis.{IsAnalysed, IsAnalysis}
use Rattle.im_restart_analysis.specs.Changes.{AreChanges, AreLastBelow, changes_from}
use Rattle.im_restart.proofs.Openings.{drops_only, next_read, same_entry}
use Rattle.im_restart.proofs.read_log.read_all.Goals as goal

pub loop-changes-preserved : goal.loop-changes-preserved
loop-changes-preserved g c = record {
  begun = c.next.ensures.outcome.begun;
  reads = reads_then g.D.Disk c.args.disk.now c.loop-changes.disk c.next.new.disk c.loop-changes.invariant.reads c.next.ensures.outcome.reads;
  working = c.in_ok-next.ensures.outcome.failed;
  whole = λ all. c.in_ok-drop_changes-in-Some.ensures.whole all ∙ c.in_ok-note-in-Some.ensures.start ∙ c.loop-changes.invariant.whole all;
  kept = λ base all start taken low some. (
      let h = c.loop-changes.invariant.kept base all start taken low some in
      let n = some_kept g.D.Disk base all h.0 c.next.new.self c.next.new.disk c.in_ok-next.field-0 c.in-Some.lsn c.in-Some.is (c.in_ok-next.ensures.kept base all h.0 h.1) in
      let said = view c.in_ok-record-in-Some.record in
      let same : n.entry ≡ said = same_entry _ n.entry said n.is c.in_ok-record-in-Some.ensures.record in
      let next = next_read g.D.Disk c.args.pages base all h.0 c.in-Some.lsn n.entry said c.next.new.self c.next.new.disk same taken n.front n.opening in
      (logged_at c.in-Some.lsn said ∷ h.0, next.2, (c.in_ok-take-in-Some.ensures.kept c.args.least c.args.pages h.0 h.2 next.0 next.1.leads next.1.counted).ok, c.in_ok-drop_changes-in-Some.ensures.kept (logged_at c.in-Some.lsn said ∷ h.0) (c.in_ok-note-in-Some.ensures.kept h.0 next.0.readable h.3))
      );
  back = λ base start.
      let h = c.loop-changes.invariant.back base start in
      let said = view c.in_ok-record-in-Some.record in (
        logged_at c.in-Some.lsn said ∷ h.0,
        some_read g.D.Disk base h.0 c.next.new.self c.next.new.disk c.in_ok-next.field-0 c.in-Some.lsn said c.in-Some.is (c.in_ok-next.ensures.reads_on base h.0 h.1) c.in_ok-record-in-Some.ensures.record,
        λ readable. (let rest = h.2 readable.1 in let fits = (c.in_ok-take-in-Some.ensures.fits c.args.pages h.0 rest.1 readable.0).ok in ((fits.0, rest.0), fits.1)),
      );
}

pub returns-in_err-next-clause-kept : goal.returns-in_err-next-clause-kept
returns-in_err-next-clause-kept g c base all start taken low some =
    let h = c.loop-changes.invariant.kept base all start taken low some in
    let cause : c.in_err-next.field-0.0 ≡ Device = (c.in_err-next.ensures.kept base all h.0 h.1).cause in
    let other : c.in_err-next.field-0.0 ≢ NotAStore = λ e. (let clash : Device ≡ NotAStore = sym cause ∙ e in cc clash) in
    record { ok = search rules; cause = search (rules, other) }

pub returns-in_err-record-in-Some-clause-kept : goal.returns-in_err-record-in-Some-clause-kept
returns-in_err-record-in-Some-clause-kept g c base all start taken low some =
    let h = c.loop-changes.invariant.kept base all start taken low some in
    let n = some_kept g.D.Disk base all h.0 c.next.new.self c.next.new.disk c.in_ok-next.field-0 c.in-Some.lsn c.in-Some.is (c.in_ok-next.ensures.kept base all h.0 h.1) in
    let never : None ≡ Some n.entry = sym c.in_err-record-in-Some.ensures.record.1 ∙ n.is in
    let bottom : ⊥ = cc never in
    absurd bottom

pub returns-in_err-take-in-Some-clause-kept : goal.returns-in_err-take-in-Some-clause-kept
returns-in_err-take-in-Some-clause-kept g c base all start taken low some =
    let h = c.loop-changes.invariant.kept base all start taken low some in
    let n = some_kept g.D.Disk base all h.0 c.next.new.self c.next.new.disk c.in_ok-next.field-0 c.in-Some.lsn c.in-Some.is (c.in_ok-next.ensures.kept base all h.0 h.1) in
    let said = view c.in_ok-record-in-Some.record in
    let same : n.entry ≡ said = same_entry _ n.entry said n.is c.in_ok-record-in-Some.ensures.record in
    let next = next_read g.D.Disk c.args.pages base all h.0 c.in-Some.lsn n.entry said c.next.new.self c.next.new.disk same taken n.front n.opening in
    let k = c.in_err-take-in-Some.ensures.kept c.args.least c.args.pages h.0 h.2 next.0 next.1.leads next.1.counted in
    let other : c.in_err-take-in-Some.field-0.0 ≢ NotAStore = λ e. next.1.alone (k.refused.0 (ap Rattle.std.proofs.Common.Err e)) in
    record { ok = search rules; cause = search (rules, other) }

pub returns-clause-kept : goal.returns-clause-kept
returns-clause-kept g c base all start taken low some =
    let h = c.loop-changes.invariant.kept base all start taken low some in
    let e = none_kept g.D.Disk base all h.0 c.next.new.self c.next.new.disk c.in_ok-next.field-0 c.in-None.is (c.in_ok-next.ensures.kept base all h.0 h.1) in
    let whole = subst (λ (l : History). IsAnalysed c.args.least c.args.pages l c.loop-changes.analysis × AreChanges l c.loop-changes.changes) e.all_read (h.2, h.3) in
    let analysis = c.finish-analysed.ensures c.args.least c.args.pages all whole.0 in
    let parts = c.in_ok-last.ensures.kept (c.reaches.ensures.0 (search rules)) all whole.1 in
    let seen = c.next.ensures.outcome.reads.seen ∙ c.loop-changes.invariant.reads.seen in
    let number : c.args.least ≡ least_number (g.D.Disk.seen c.next.new.disk Log) = low ∙ sym (ap (λ (f : Files). least_number (f Log)) seen) in
    record {
      ok = record {
        log = c.finish.ensures.kept base all h.0 e;
        analysis = subst (λ (n : ℕ). IsAnalysis n all c.finish-analysed.result) number analysis;
        numbers = subst (λ (n : ℕ). 1 ≤ n) number some;
        last = subst (λ (n : ℕ). AreLastBelow all n c.in_ok-last.last) analysis.point parts.0;
        changes = parts.1 ∙ ap (λ n. changes_from n all) analysis.point;
      };
      cause = tt;
    }

pub returns-clause-spelled : goal.returns-clause-spelled
returns-clause-spelled g c base start =
    let h = c.loop-changes.invariant.back base start in
    let e = none_read g.D.Disk base h.0 c.next.new.self c.next.new.disk c.in_ok-next.field-0 c.in-None.is (c.in_ok-next.ensures.reads_on base h.0 h.1) in
    let seen = c.next.ensures.outcome.reads.seen ∙ c.loop-changes.invariant.reads.seen in
    (h.0, has_read g.D.Disk base h.0 c.next.new.self c.args.disk.now c.next.new.disk seen e, λ readable. (h.2 readable).0)

pub returns-then-not-reaches-clause-spelled : goal.returns-then-not-reaches-clause-spelled
returns-then-not-reaches-clause-spelled g c base start =
    let h = c.loop-changes.invariant.back base start in
    let e = none_read g.D.Disk base h.0 c.next.new.self c.next.new.disk c.in_ok-next.field-0 c.in-None.is (c.in_ok-next.ensures.reads_on base h.0 h.1) in
    let seen = c.next.ensures.outcome.reads.seen ∙ c.loop-changes.invariant.reads.seen in
    (h.0, has_read g.D.Disk base h.0 c.next.new.self c.args.disk.now c.next.new.disk seen e, λ readable. (h.2 readable).0)

pub returns-then-not-reaches-clause-whole : goal.returns-then-not-reaches-clause-whole
returns-then-not-reaches-clause-whole g c is =
    drops_only c.args.drops c.loop-changes.changes.start c.finish-analysed.result.redo_point c.reaches.result c.loop-changes.invariant.whole c.reaches.ensures (search rules)
