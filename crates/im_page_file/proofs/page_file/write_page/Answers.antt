use Rattle.std.proofs.Common.{rules, ◌≡◌, ◌*◌, ◌≤◌, true, length, sym, ◌∙◌}
use Rattle.im_base_types.specs.declared.file_id.FileId.TheVariants.{Pages}
use Rattle.im_theory_log.specs.WriterSteps.{written_entry}
use Rattle.im_theory_log.proofs.WriterWrites.{written_kept}
use Rattle.im_theory_page.proofs.PageFileLemmas.{place_within}
use Rattle.im_page_table.specs.DirtyTable.{has_room, ChangesEntry}
use Rattle.im_page_file.proofs.Standing.{open_written, stands_written, write_stops}
use Rattle.im_page_table.proofs.TableSteps.{entries_written}
use Rattle.im_page_file.proofs.page_file.write_page.Goals as goal

pub returns-in_err-write-clause-kept : goal.returns-in_err-write-clause-kept
returns-in_err-write-clause-kept g c b base s log st may = record {
  ok = search rules;
  entries = search rules;
  stops = write_stops g.D.Disk b base s log c.args.table.now c.args.disk.now st c.args.page c.args.lsn (length c.args.bytes.now) c.write.new.disk c.requires.whole (written_kept b s c.args.page c.args.lsn st.kept may.may) c.write.ensures.any_moment;
}

pub returns-clause-kept : goal.returns-clause-kept
returns-clause-kept g c b base s log st may =
    let told = st.log_is.tells in
    let place : c.args.page * 4096 ≤ length (g.D.Disk.seen c.args.disk.now Pages) = place_within (g.D.Disk.seen c.args.disk.now Pages) c.args.page (c.requires.place told) in
    let table = c.write-entered.ensures in
    let enters : has_room c.args.page c.args.table.now ≡ true → ChangesEntry c.args.page (written_entry c.args.lsn) c.args.table.now c.write-entered.new.self = λ room. table.entry (table.entered ∙ room) in
    record {
      ok = stands_written g.D.Disk b base s log c.args.table.now c.args.disk.now st c.args.page c.args.lsn c.args.bytes.now c.write-entered.new.self c.write.new.disk may place c.requires.whole (c.in_ok-write.ensures.written told)
          c.write.ensures.crash c.write.ensures.changes c.in_ok-write.ensures.answers.noted table.table enters;
      entries = λ entered has. entries_written s.pages c.args.page c.args.lsn c.args.table.now c.write-entered.new.self may.entry table.table enters (sym table.entered ∙ entered) has;
      stops = write_stops g.D.Disk b base s log c.args.table.now c.args.disk.now st c.args.page c.args.lsn (length c.args.bytes.now) c.write.new.disk c.requires.whole (written_kept b s c.args.page c.args.lsn st.kept may.may) c.write.ensures.any_moment;
    }

pub returns-in_err-write-clause-ready : goal.returns-in_err-write-clause-ready
returns-in_err-write-clause-ready g c log is_open works = open_written g.D.Disk log c.args.disk.now c.write.new.disk c.write.ensures.changes works is_open

pub returns-clause-ready : goal.returns-clause-ready
returns-clause-ready g c log is_open works = open_written g.D.Disk log c.args.disk.now c.write.new.disk c.write.ensures.changes works is_open
