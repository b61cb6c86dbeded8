use Rattle.std.proofs.Common.{◌≡◌, ℕ, List, [], Option, IfSome, Ok, Err, Some, sym, ◌∙◌, ap, subst, rules}
use Rattle.im_base_types.specs.declared.fault.Fault.{Fault}
use Rattle.im_base_types.specs.declared.file_id.FileId.{FileId}
use Rattle.im_base_types.specs.declared.file_id.FileId.TheVariants.{Log, Pages}
use Rattle.im_base_types.specs.Records.{Logged}
use Rattle.im_base_disk.specs.Disk.{Files, Stepped, InFile}
use Rattle.im_base_disk.proofs.Runs.{reads_on}
use Rattle.im_log_gate.specs.declared.gate.Gate.{Gate}
use Rattle.im_log_gate.specs.Batches.{batches}
use Rattle.im_log_gate.specs.Gate.{IsFirstGate}
use Rattle.im_log_gate.specs.Header.{base_of, first_gate, IsMade}
use Rattle.im_log_gate.proofs.Starts.{blank_starts}
use Rattle.im_log.specs.Kept.{HasLog, IsLogOf}
use Rattle.im_log.proofs.Creations.{made_has, unmade_none, unmade_starts, blank_has, reads_stops, creation_stops, store_opened, store_made, is_store, not_refused_so, refused_otherwise}
use Rattle.im_log.proofs.Runs.{of_log}
use Rattle.im_log.proofs.creation.open_or_create.Goals as goal

pub returns-in_err-gate-clause-kept : goal.returns-in_err-gate-clause-kept
returns-in_err-gate-clause-kept g c base all told is empty =
    let old = c.args.disk.now in
    record {
      ok = search rules;
      stops = reads_stops g.D.Disk base all old c.open.new.disk (g.met.D.Disk.only_now old) c.requires.durable is c.open.ensures.outcome.reads;
      cause = refused_otherwise c.from_residual.result c.in_err-gate.field-0.0 c.from_residual.ensures.1
          (λ same.
          let none = c.in_err-gate.ensures.refused (ap (λ (y : Fault). Err y) same) told in
          is_store base all (g.D.Disk.seen old Log) (g.D.Disk.seen old Pages) is empty none.0 none.1);
    }

pub returns-in_err-gate-in-None-clause-kept : goal.returns-in_err-gate-in-None-clause-kept
returns-in_err-gate-in-None-clause-kept g c base all told is empty =
    let unmade = c.in_ok-gate.ensures.unmade (ap Ok c.in-None.is) told in
    let none = unmade_none base all (g.D.Disk.seen c.args.disk.now Log) unmade.0 is in
    let low = unmade_starts base all (g.D.Disk.seen c.args.disk.now Log) unmade.0 is in
    let opened = reads_stops g.D.Disk base all c.args.disk.now c.open.new.disk (g.met.D.Disk.only_now c.args.disk.now) c.requires.durable is c.open.ensures.outcome.reads in
    record {
      ok = search rules;
      stops = creation_stops g.D.Disk base all c.args.disk.now c.open.new.disk c.create.new.disk opened c.open.ensures.outcome.reads none unmade.0 low c.create.ensures.any_moment;
      cause = search rules;
    }

pub returns-in-Some-clause-kept : goal.returns-in-Some-clause-kept
returns-in-Some-clause-kept g c base all told is empty =
    let old = c.args.disk.now in
    let mid = c.open.new.disk in
    let made : IsMade (g.D.Disk.seen old Log) = (subst (λ (o : Option Gate). IfSome o (λ gate. IsFirstGate g.D.Disk Log gate old)) c.in-Some.is c.in_ok-gate.ensures.first).made told in
    let has = subst (λ (s : Files). HasLog base all (s Log)) (sym c.open.ensures.outcome.reads.seen) (made_has base all (g.D.Disk.seen old Log) made is) in
    let kept = c.open_log.ensures.kept base all told has in
    record {
      ok = kept.ok;
      stops = reads_on g.D.Disk old mid c.open_log.new.disk (Stepped (InFile Log (λ _ bytes. IsLogOf base all bytes)) (g.D.Disk.may_leave old))
          (reads_stops g.D.Disk base all old mid (g.met.D.Disk.only_now old) c.requires.durable is c.open.ensures.outcome.reads) c.open_log.ensures.outcome.reads;
      cause = kept.cause;
    }

pub returns-in_ok-gate-in-None-clause-kept : goal.returns-in_ok-gate-in-None-clause-kept
returns-in_ok-gate-in-None-clause-kept g c base all told is empty =
    let unmade = c.in_ok-gate.ensures.unmade (ap Ok c.in-None.is) told in
    let none = unmade_none base all (g.D.Disk.seen c.args.disk.now Log) unmade.0 is in
    let low = unmade_starts base all (g.D.Disk.seen c.args.disk.now Log) unmade.0 is in
    let opened = reads_stops g.D.Disk base all c.args.disk.now c.open.new.disk (g.met.D.Disk.only_now c.args.disk.now) c.requires.durable is c.open.ensures.outcome.reads in
    let gate = c.in_ok-gate-in-None.gate in
    let mid = c.create.new.disk in
    let starts = c.in_ok-gate-in-None.ensures.gate.first.starts told in
    let batches_none : batches (first_gate (g.D.Disk.seen mid Log)) (g.D.Disk.seen mid Log) ≡ Some [] =
    of_log gate (first_gate (g.D.Disk.seen mid Log)) (record { file = c.in_ok-gate-in-None.ensures.gate.first.of_file }) starts.first (λ (f : FileId) (n : ℕ). batches n (g.D.Disk.seen mid f) ≡ Some []) (c.in_ok-gate-in-None.ensures.gate.empty told) in
    let made = c.in_ok-gate-in-None.ensures.gate.first.made told in
    let low_now = (blank_starts (g.D.Disk.seen c.args.disk.now Log) (g.D.Disk.seen mid Log) unmade.0 (c.in_ok-gate-in-None.ensures.gate.blank told)).base ∙ low in
    let has = subst (λ (l : List Logged). HasLog base l (g.D.Disk.seen mid Log)) (sym none) (blank_has base (g.D.Disk.seen mid Log) made low_now batches_none) in
    let kept = c.open_log-in-None.ensures.kept base all told has in
    record {
      ok = kept.ok;
      stops = reads_on g.D.Disk c.args.disk.now mid c.open_log-in-None.new.disk (Stepped (InFile Log (λ _ bytes. IsLogOf base all bytes)) (g.D.Disk.may_leave c.args.disk.now))
          (creation_stops g.D.Disk base all c.args.disk.now c.open.new.disk mid opened c.open.ensures.outcome.reads none unmade.0 low c.create.ensures.any_moment) c.open_log-in-None.ensures.outcome.reads;
      cause = kept.cause;
    }

pub returns-in-Some-clause-store : goal.returns-in-Some-clause-store
returns-in-Some-clause-store g c =
    let old = c.args.disk.now in
    let made = (subst (λ (o : Option Gate). IfSome o (λ gate. IsFirstGate g.D.Disk Log gate old)) c.in-Some.is c.in_ok-gate.ensures.first).made in
    store_opened g.D.Disk old c.open.new.disk c.open_log.new.disk c.open_log.result made c.open.ensures.outcome.reads.seen c.open_log.ensures.spelled

pub returns-in-Some-clause-refused : goal.returns-in-Some-clause-refused
returns-in-Some-clause-refused g c is told store = not_refused_so c.open_log.result (returns-in-Some-clause-kept g c (base_of (g.D.Disk.seen c.args.disk.now Log)) store.all told store.spelled store.bare).cause is

pub returns-in_ok-gate-in-None-clause-store : goal.returns-in_ok-gate-in-None-clause-store
returns-in_ok-gate-in-None-clause-store g c =
    store_made g.D.Disk c.args.disk.now c.open_log-in-None.new.disk c.open_log-in-None.result (c.in_ok-gate.ensures.unmade (ap Ok c.in-None.is)) (λ told is bare. (returns-in_ok-gate-in-None-clause-kept g c (base_of (g.D.Disk.seen c.args.disk.now Log)) [] told is bare).ok)

pub returns-in_ok-gate-in-None-clause-refused : goal.returns-in_ok-gate-in-None-clause-refused
returns-in_ok-gate-in-None-clause-refused g c is told store = not_refused_so c.open_log-in-None.result (returns-in_ok-gate-in-None-clause-kept g c (base_of (g.D.Disk.seen c.args.disk.now Log)) store.all told store.spelled store.bare).cause is
