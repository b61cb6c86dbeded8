use Rattle.std.proofs.Common.{refl}
use Rattle.im_page_file.proofs.LogEnds.{still_working}
use Rattle.im_page_flush.proofs.Flushing.{goes_read}
use Rattle.im_page_writer.proofs.page_writer.PageWriter.read_span.Goals as goal

pub returns-clause-span : goal.returns-clause-span
returns-clause-span g c b base s st = c.in_ok-size.ensures.span base s.log s.durable st.writing.stands.log_is

pub returns-clause-kept : goal.returns-clause-kept
returns-clause-kept g c b base s is =
    let w = c.args.self.now in
    let old = c.args.disk.now in
    let alive = still_working (g.D.Disk.failed c.read_span.new.disk) (λ failed. let clash = (c.in_ok-size.ensures.outcome.refusals.device (c.requires.ready.works c.if-self.false)).1 failed in let never : ⊥ = cc clash in never) in
    record { working = refl; known = is.known; writing = (goes_read g.D.Disk b base s w.log w.table w.pool old c.read_span.new.disk (g.met.D.Disk.only_now old) is.writing c.read_span.ensures.outcome.reads alive).writing }
