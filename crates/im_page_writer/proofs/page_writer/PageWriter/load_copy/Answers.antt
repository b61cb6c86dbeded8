use Rattle.std.proofs.Common.{refl, sym, subst, ◌∙◌, rules}
use Rattle.im_log_record.specs.Entry.{view, page_of}
use Rattle.im_log.specs.Whats.{what_of}
use Rattle.im_theory_log.specs.WriterSteps.{loaded}
use Rattle.im_page_writer.specs.Synced.{IsKnown}
use Rattle.im_page_writer.specs.declared.known.Known.{Known}
use Rattle.im_page_writer.proofs.SyncedPages.{known_redone}
use Rattle.im_page_table.proofs.Growing.{on_ok}
use Rattle.im_page_flush.proofs.Goings.{leaves_so_far}
use Rattle.im_page_writer.proofs.LoggedChanges.{err_on}
use Rattle.im_page_writer.proofs.Outcomes.{flush_sound, leaves_of_end, none_mildly, redo_of, redo_own, redo_refused}
use Rattle.im_page_writer.proofs.Redoing.{copy_loaded, has_rooms, load_taken, not_no_store}
use Rattle.im_page_writer.proofs.page_writer.PageWriter.load_copy.Goals as goal

pub returns-in_err-make_rooms-clause-outcome : goal.returns-in_err-make_rooms-clause-outcome
returns-in_err-make_rooms-clause-outcome g c = redo_refused g.D.Disk c.from_residual.result c.from_residual.ensures.1 (redo_of g.D.Disk (none_mildly _) c.in_err-make_rooms.ensures.outcome)

pub returns-in_err-make_rooms-clause-kept : goal.returns-in_err-make_rooms-clause-kept
returns-in_err-make_rooms-clause-kept g c b base s copy is over at holds waits found low =
    record { ok = search rules; stops = leaves_of_end g.D.Disk c.in_err-make_rooms.ensures.outcome b base s is tt; cause = err_on c.from_residual.result c.in_err-make_rooms.field-0.0 _ c.from_residual.ensures.1 (flush_sound g.D.Disk c.in_err-make_rooms.ensures.outcome) }

pub returns-clause-outcome : goal.returns-clause-outcome
returns-clause-outcome g c =
    let room = c.in_ok-make_rooms.ensures.outcome in
    redo_own g.D.Disk _ c.put_copy.result (search rules) room.ends.began (c.put_copy.ensures.failed ∙ room.ends.works) room.ends.alive c.put_copy.ensures.refused (c.put_copy.ensures.frames ∙ room.frames)

pub returns-clause-kept : goal.returns-clause-kept
returns-clause-kept g c b base s copy is over at holds waits found low =
    let room = c.in_ok-make_rooms.ensures.outcome.ends.goes b base s is tt in
    let mid = c.make_rooms.new.self in
    let disk = c.make_rooms.new.disk in
    let new = c.put_copy.new.self in
    let t = room.now in
    let keeps = room.on.goes.keeps in
    let p = page_of (view c.args.record.now) in
    let what = what_of (view c.args.record.now) in
    let going = keeps.redo_end ∙ over in
    let waits_still = (keeps.pages p).waits ∙ waits in
    record {
      ok = on_ok c.put_copy.result _ _ c.put_copy.ensures.ok (λ here. record {
        before = t;
        keeps = keeps;
        stops = room.on.goes.stops;
        stands = record {
          working = c.put_copy.ensures.failed ∙ room.on.working;
          known = known_redone t (loaded p copy t) new.known going refl refl refl (subst (λ (known : Known). IsKnown t known) (sym c.put_copy.ensures.known) room.on.known);
          writing = copy_loaded g.D.Disk b base t mid.log mid.table mid.pool disk room.on.goes.writing going p c.args.lsn c.page-number.result copy what c.args.point mid new (keeps.point ∙ at) holds waits_still ((keeps.pages p).found ∙ found)
              (λ q lt. (keeps.pages q).waits ∙ low q lt) refl refl refl c.put_copy.ensures.log c.page-number.ensures here;
        };
      });
      stops = leaves_so_far g.D.Disk b base s c.args.disk.now t mid.log mid.table mid.pool disk room.on.goes;
      cause = not_no_store c.put_copy.result _ (has_rooms c.page-number.result mid.pool mid.table _ (c.in_ok-make_rooms.ensures.rooms b base s is) (load_taken g.D.Disk b base t mid.log mid.table mid.pool disk room.on.goes.writing going p c.args.lsn c.page-number.result copy what holds waits_still c.page-number.ensures)) c.put_copy.ensures.refused;
    }
