use Rattle.std.proofs.Common.{◌≡◌, ℕ, Ok, Err, true, false, refl, sym, ◌∙◌, ap}
use Rattle.im_theory_log.specs.Transactions.{is_key}
use Rattle.im_base_types.specs.Records.{Logged}
use Rattle.im_log_record.specs.Entry.{view, transaction_of}
use Rattle.im_log.specs.Whats.{what_of}
use Rattle.im_page_writer.proofs.Cited.{err_on, sound_on}
use Rattle.im_restart_undo.specs.Undoing.{IsToUndo}
use Rattle.im_restart_undo.proofs.Growth.{going_ready}
use Rattle.im_engine_rollback.specs.Ends.{may_turn}
use Rattle.im_engine_rollback.proofs.Ends.{device_not_store, never_capacity, never_failed, never_memory, no_record, none_may, not_a_store, read_ends, taken_turn, turn_behind, turn_more, turn_refused_on}
use Rattle.im_restart_analysis.proofs.RecordsRead.{spelled_is, spelled_none}
use Rattle.im_engine_rollback.proofs.Turning.{going_read, read_on, read_stops, take_done, take_refused, taken_as, to_undo_so}
use Rattle.im_engine_rollback.proofs.undo_step.undo_at.Goals as goal

pub returns-in_err-size-clause-outcome : goal.returns-in_err-size-clause-outcome
returns-in_err-size-clause-outcome g c = turn_refused_on g.D.Disk c.from_residual.result c.from_residual.ensures.1 (turn_more g.D.Disk (none_may may_turn) (read_ends g.D.Disk {A = ℕ} (Err c.in_err-size.field-0.0) c.in_err-size.ensures.ready c.requires.working c.in_err-size.ensures.failed c.in_err-size.ensures.causes c.in_err-size.ensures.already (c.in_err-size.ensures.device c.requires.working) c.in_err-size.ensures.frames))

pub returns-in_err-size-clause-kept : goal.returns-in_err-size-clause-kept
returns-in_err-size-clause-kept g c b base s e going at =
    let t = c.args.transaction in
    let f = c.in_err-size.field-0.0 in
    let found = c.in_err-size.ensures.found b base s at.found going.stands at.next.logged (sym at.here) in
    let one = turn_refused_on g.D.Disk c.from_residual.result c.from_residual.ensures.1 (read_ends g.D.Disk {A = ℕ} {v = c.args.writer.now} (Err c.in_err-size.field-0.0) c.in_err-size.ensures.ready c.requires.working c.in_err-size.ensures.failed c.in_err-size.ensures.causes c.in_err-size.ensures.already (c.in_err-size.ensures.device c.requires.working) c.in_err-size.ensures.frames) in
    record {
      sound = sound_on c.from_residual.result _ _ c.from_residual.ensures.1 (device_not_store f found.cause);
      stops = read_stops g.D.Disk b base s e t c.args.last c.args.undo_next c.args.writer.now c.args.disk.now c.read_at.new.disk (g.met.D.Disk.only_now c.args.disk.now) going c.read_at.ensures.reads;
      again = never_memory g.D.Disk _ c.from_residual.result refl one;
      short = never_memory g.D.Disk _ c.from_residual.result refl one;
      used_up = never_capacity g.D.Disk _ c.from_residual.result refl one;
      begun = never_failed g.D.Disk _ c.from_residual.result refl one;
    }

pub returns-in_err-record-clause-outcome : goal.returns-in_err-record-clause-outcome
returns-in_err-record-clause-outcome g c = turn_refused_on g.D.Disk c.from_residual-in_err-record.result c.from_residual-in_err-record.ensures.1 (no_record g.D.Disk c.in_err-record.ensures.entry.0 (read_ends g.D.Disk {A = ℕ} (Ok c.in_ok-size.size) c.in_ok-size.ensures.ready c.requires.working c.in_ok-size.ensures.failed tt c.in_ok-size.ensures.already (c.in_ok-size.ensures.device c.requires.working) c.in_ok-size.ensures.frames))

pub returns-in_err-record-clause-kept : goal.returns-in_err-record-clause-kept
returns-in_err-record-clause-kept g c b base s e going at =
    let found = c.in_ok-size.ensures.found b base s at.found going.stands at.next.logged (sym at.here) in
    absurd (spelled_none at.found _ found.ok c.in_err-record.ensures.entry.1)

pub returns-then-transaction-clause-outcome : goal.returns-then-transaction-clause-outcome
returns-then-transaction-clause-outcome g c = not_a_store g.D.Disk (read_ends g.D.Disk {A = ℕ} (Ok c.in_ok-size.size) c.in_ok-size.ensures.ready c.requires.working c.in_ok-size.ensures.failed tt c.in_ok-size.ensures.already (c.in_ok-size.ensures.device c.requires.working) c.in_ok-size.ensures.frames)

pub returns-then-transaction-clause-kept : goal.returns-then-transaction-clause-kept
returns-then-transaction-clause-kept g c b base s e going at =
    let said = view c.in_ok-record.record in
    let found = c.in_ok-size.ensures.found b base s at.found going.stands at.next.logged (sym at.here) in
    let same = spelled_is at.found c.args.lsn _ found.ok at.here said c.in_ok-record.ensures.entry in
    absurd (c.if-transaction.true (c.transaction.ensures ∙ ap (λ (x : Logged). x.txn) same ∙ at.next.owner))

pub returns-then-not-is_key_record-clause-outcome : goal.returns-then-not-is_key_record-clause-outcome
returns-then-not-is_key_record-clause-outcome g c = not_a_store g.D.Disk (read_ends g.D.Disk {A = ℕ} (Ok c.in_ok-size.size) c.in_ok-size.ensures.ready c.requires.working c.in_ok-size.ensures.failed tt c.in_ok-size.ensures.already (c.in_ok-size.ensures.device c.requires.working) c.in_ok-size.ensures.frames)

pub returns-then-not-is_key_record-clause-kept : goal.returns-then-not-is_key_record-clause-kept
returns-then-not-is_key_record-clause-kept g c b base s e going at =
    let said = view c.in_ok-record.record in
    let found = c.in_ok-size.ensures.found b base s at.found going.stands at.next.logged (sym at.here) in
    let same = spelled_is at.found c.args.lsn _ found.ok at.here said c.in_ok-record.ensures.entry in
    let key : is_key (what_of said) ≡ true = ap (λ (x : Logged). is_key x.what) same ∙ at.next.key in
    let other : is_key (what_of said) ≡ false = sym c.if-not-is_key_record.ensures in
    absurd (let clash : true ≡ false = sym key ∙ other in cc clash)

pub returns-in_err-behind-clause-outcome : goal.returns-in_err-behind-clause-outcome
returns-in_err-behind-clause-outcome g c =
    turn_refused_on g.D.Disk c.from_residual-in_err-behind.result c.from_residual-in_err-behind.ensures.1
    (turn_behind g.D.Disk (λ f is. is) (read_ends g.D.Disk {A = ℕ} (Ok c.in_ok-size.size) c.in_ok-size.ensures.ready c.requires.working c.in_ok-size.ensures.failed tt c.in_ok-size.ensures.already (c.in_ok-size.ensures.device c.requires.working) c.in_ok-size.ensures.frames) (taken_turn g.D.Disk c.in_err-behind.ensures.outcome))

pub returns-in_err-behind-clause-kept : goal.returns-in_err-behind-clause-kept
returns-in_err-behind-clause-kept g c b base s e going at =
    let t = c.args.transaction in
    let last = c.args.last in
    let next = c.args.undo_next in
    let w = c.args.writer.now in
    let old = c.args.disk.now in
    let v = c.read_at.new.self in
    let mid = c.read_at.new.disk in
    let said = view c.in_ok-record.record in
    let f = c.in_err-behind.field-0.0 in
    let found = c.in_ok-size.ensures.found b base s at.found going.stands at.next.logged (sym at.here) in
    let same = spelled_is at.found c.args.lsn _ found.ok at.here said c.in_ok-record.ensures.entry in
    let mine : transaction_of said ≡ t = ap (λ (x : Logged). x.txn) same ∙ at.next.owner in
    let to : IsToUndo g.D.Disk b base s t said = to_undo_so g.D.Disk b base s t c.args.lsn said at same in
    let after = c.in_ok-size.ensures.kept b base s going.stands in
    let only_now = g.met.D.Disk.only_now old in
    let still = going_read g.D.Disk b base s e t last next w v old mid going after in
    let k = taken_as g.D.Disk b base s e t last next said v mid c.undo_one.new.writer c.undo_one.new.disk _ mine (λ goes to_undo. c.in_err-behind.ensures.kept b base s e goes to_undo) still to in
    let r = take_refused g.D.Disk b base s e t old v mid (read_on g.D.Disk b base s w v old mid only_now going.stands c.read_at.ensures.reads after) (going_ready g.D.Disk b base s e t last next w old going) (read_stops g.D.Disk b base s e t last next w old mid only_now going c.read_at.ensures.reads) said to
    c.undo_one.new.writer c.undo_one.new.disk f c.in_err-behind.ensures.outcome k in
    record {
      sound = sound_on c.from_residual-in_err-behind.result _ _ c.from_residual-in_err-behind.ensures.1 r.sound;
      stops = r.stops;
      again = err_on c.from_residual-in_err-behind.result f _ c.from_residual-in_err-behind.ensures.1 r.again;
      short = err_on c.from_residual-in_err-behind.result f _ c.from_residual-in_err-behind.ensures.1 r.short;
      used_up = err_on c.from_residual-in_err-behind.result f _ c.from_residual-in_err-behind.ensures.1 r.used_up;
      begun = err_on c.from_residual-in_err-behind.result f _ c.from_residual-in_err-behind.ensures.1 r.begun;
    }

pub returns-clause-outcome : goal.returns-clause-outcome
returns-clause-outcome g c =
    turn_behind g.D.Disk (λ f is. is) (read_ends g.D.Disk {A = ℕ} (Ok c.in_ok-size.size) c.in_ok-size.ensures.ready c.requires.working c.in_ok-size.ensures.failed tt c.in_ok-size.ensures.already (c.in_ok-size.ensures.device c.requires.working) c.in_ok-size.ensures.frames) (taken_turn g.D.Disk c.in_ok-behind.ensures.outcome)

pub returns-clause-kept : goal.returns-clause-kept
returns-clause-kept g c b base s e going at =
    let t = c.args.transaction in
    let last = c.args.last in
    let next = c.args.undo_next in
    let w = c.args.writer.now in
    let old = c.args.disk.now in
    let v = c.read_at.new.self in
    let mid = c.read_at.new.disk in
    let said = view c.in_ok-record.record in
    let found = c.in_ok-size.ensures.found b base s at.found going.stands at.next.logged (sym at.here) in
    let same = spelled_is at.found c.args.lsn _ found.ok at.here said c.in_ok-record.ensures.entry in
    let mine : transaction_of said ≡ t = ap (λ (x : Logged). x.txn) same ∙ at.next.owner in
    let to : IsToUndo g.D.Disk b base s t said = to_undo_so g.D.Disk b base s t c.args.lsn said at same in
    let after = c.in_ok-size.ensures.kept b base s going.stands in
    let only_now = g.met.D.Disk.only_now old in
    let still = going_read g.D.Disk b base s e t last next w v old mid going after in
    let k = taken_as g.D.Disk b base s e t last next said v mid c.undo_one.new.writer c.undo_one.new.disk _ mine (λ goes to_undo. c.in_ok-behind.ensures.kept b base s e goes to_undo) still to in
    take_done g.D.Disk b base s e t old v mid (read_on g.D.Disk b base s w v old mid only_now going.stands c.read_at.ensures.reads after) (going_ready g.D.Disk b base s e t last next w old going) (read_stops g.D.Disk b base s e t last next w old mid only_now going c.read_at.ensures.reads) said to
    c.undo_one.new.writer c.undo_one.new.disk c.in_ok-behind.behind c.prev.result c.prev.ensures k
