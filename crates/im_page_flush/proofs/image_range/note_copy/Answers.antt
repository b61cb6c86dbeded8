use Rattle.std.proofs.Common.{◌≡◌, Bool, true, None, Some, sym, ◌∙◌, ap, rules}
use Rattle.std.specs.Prelude.{not}
use Rattle.im_page_table.specs.DirtyTable.{dirty_entry}
use Rattle.im_page_flush.proofs.Goings.{goes_start, leaves_of}
use Rattle.im_page_flush.proofs.Imaging.{image_copies}
use Rattle.im_page_file.proofs.ImageCalls.{imaging_none}
use Rattle.im_page_flush.proofs.NotedCopies.{goes_told, may_note, since_some, told_of}
use Rattle.im_theory_log.specs.WriterSteps.{changed_entry}
use Rattle.im_page_flush.proofs.InCompany.{room_put}
use Rattle.im_page_flush.proofs.image_range.note_copy.Goals as goal

pub returns-in_default-clause-outcome : goal.returns-in_default-clause-outcome
returns-in_default-clause-outcome g c = imaging_none g.D.Disk c.args.log.now c.args.disk.now c.requires.ready c.requires.working

pub returns-in_default-clause-kept : goal.returns-in_default-clause-kept
returns-in_default-clause-kept g c b base s w =
    let goes = goes_start g.D.Disk b base s c.args.log.now c.args.table.now c.args.pool.now c.args.disk.now (g.met.D.Disk.only_now c.args.disk.now) w in
    record { ok = record { now = s; goes = goes }; stops = leaves_of g.D.Disk b base s c.args.disk.now c.args.disk.now goes.stops }

pub returns-then-is_none-clause-outcome : goal.returns-then-is_none-clause-outcome
returns-then-is_none-clause-outcome g c = imaging_none g.D.Disk c.args.log.now c.args.disk.now c.requires.ready c.requires.working

pub returns-then-is_none-clause-kept : goal.returns-then-is_none-clause-kept
returns-then-is_none-clause-kept g c b base s w =
    let goes = goes_start g.D.Disk b base s c.args.log.now c.args.table.now c.args.pool.now c.args.disk.now (g.met.D.Disk.only_now c.args.disk.now) w in
    record { ok = record { now = s; goes = goes }; stops = leaves_of g.D.Disk b base s c.args.disk.now c.args.disk.now goes.stops }

pub enter-requires : goal.enter-requires
enter-requires g c = record { room = λ none. absurd (let clash : None ≡ Some (dirty_entry c.in-Some.entry) = sym none ∙ c.in-Some.ensures.some in cc clash) }

pub returns-in_err-lsn-clause-kept : goal.returns-in_err-lsn-clause-kept
returns-in_err-lsn-clause-kept g c b base s w =
    let l = since_some c.in-Some.entry.since (c.is_none.ensures ∙ ap (λ (t : Bool). not t) c.if-is_none.false) in
    let may = may_note g.D.Disk b base s c.args.log.now c.args.table.now c.args.pool.now c.args.disk.now c.args.number l.0 (dirty_entry c.in-Some.entry) w c.in-Some.ensures.some l.1 in
    record { ok = search rules; stops = leaves_of g.D.Disk b base s c.args.disk.now c.append_page.new.disk (c.in_err-lsn.ensures.kept b base s c.args.table.now w may).stops }

pub returns-clause-kept : goal.returns-clause-kept
returns-clause-kept g c b base s w =
    let p = c.args.number in
    let l = since_some c.in-Some.entry.since (c.is_none.ensures ∙ ap (λ (t : Bool). not t) c.if-is_none.false) in
    let e = dirty_entry c.in-Some.entry in
    let may = may_note g.D.Disk b base s c.args.log.now c.args.table.now c.args.pool.now c.args.disk.now p l.0 e w c.in-Some.ensures.some l.1 in
    let k = c.in_ok-lsn.ensures.kept b base s c.args.table.now w may in
    let new = c.append_page.new.disk in
    let done = image_copies g.D.Disk b base s p c.args.table.now c.args.pool.now c.args.disk.now c.in_ok-lsn.lsn c.append_page.new.log new w.stands.kept may k.ok in
    let goes = goes_told g.D.Disk b base s p c.in_ok-lsn.lsn l.0 e c.args.disk.now new c.append_page.new.log c.args.table.now c.enter.new.self c.args.pool.now done c.in-Some.ensures.some l.1 c.enter.ensures.entry in
    record { ok = record { now = told_of p done.now; goes = goes }; stops = leaves_of g.D.Disk b base s c.args.disk.now new k.stops }

pub returns-clause-room : goal.returns-clause-room
returns-clause-room g c q has =
    room_put (changed_entry true c.in_ok-lsn.lsn) c.args.number q c.args.table.now c.enter.new.self (dirty_entry c.in-Some.entry) c.in-Some.ensures.some c.enter.ensures.table has
