use Rattle.std.proofs.Common.{◌≡◌, ◌≤◌, ◌+◌, ℕ, true, inl, inr, refl, sym, ap, subst, ◌∙◌, rules, arith}
use Rattle.std.specs.Prelude.{is_some, OnOk}
use Rattle.im_base_types.specs.declared.file_id.FileId.TheVariants.{Pages}
use Rattle.im_base_disk.specs.Disk.{Files}
use Rattle.im_theory_page.specs.PageFile.{page_count}
use Rattle.im_page_table.specs.DirtyTable.{entry_in, has_room}
use Rattle.im_page_table.proofs.Growing.{on_ok}
use Rattle.im_page_flush.proofs.Goings.{leaves_then}
use Rattle.im_page_flush.proofs.Flushing.{flushed_last, flushed_then, goes_read, leaves_read, may_flush}
use Rattle.im_page_file.proofs.ImageCalls.{imaging_lost}
use Rattle.im_base_disk.proofs.Costs.{costs_as, costs_reads, costs_then}
use Rattle.im_page_flush.proofs.Costs.{page_past, page_within}
use Rattle.im_page_flush.proofs.flush.flush_page.Goals as goal

pub returns-in_err-count-clause-outcome : goal.returns-in_err-count-clause-outcome
returns-in_err-count-clause-outcome g c = let e = c.in_err-count.ensures.answers in imaging_lost g.D.Disk c.from_residual.result c.from_residual.ensures.1 e.device e.noted

pub returns-in_err-count-clause-kept : goal.returns-in_err-count-clause-kept
returns-in_err-count-clause-kept g c b base s w may = record {
  ok = search rules;
  stops = leaves_read g.D.Disk b base s c.args.log.now c.args.table.now c.args.pool.now c.args.disk.now c.count_pages.new.disk (g.met.D.Disk.only_now c.args.disk.now) w c.count_pages.ensures.reads;
}

pub returns-then-number-count-clause-kept : goal.returns-then-number-count-clause-kept
returns-then-number-count-clause-kept g c b base s w may =
    let goes =
    goes_read g.D.Disk b base s c.args.log.now c.args.table.now c.args.pool.now c.args.disk.now c.count_pages.new.disk (g.met.D.Disk.only_now c.args.disk.now) w c.count_pages.ensures.reads c.in_ok-count.ensures.answers.noted in
    let asks = may_flush g.D.Disk b base s c.args.log.now c.args.table.now c.args.pool.now c.count_pages.new.disk c.args.number c.args.number goes.writing c.requires.changed (inl refl) in
    let k = c.flush_in_file.ensures.kept b base s goes.writing may asks in
    record {
      ok = on_ok c.flush_in_file.result _ _ k.ok
          (λ is. flushed_then g.D.Disk b base s s c.args.number c.args.number c.args.disk.now c.count_pages.new.disk c.flush_in_file.new.disk c.args.log.now c.flush_in_file.new.log c.args.table.now c.flush_in_file.new.table c.args.pool.now
          c.flush_in_file.new.pool goes is);
      stops = leaves_then g.D.Disk b base s c.args.disk.now s c.args.log.now c.args.table.now c.args.pool.now c.count_pages.new.disk goes c.flush_in_file.new.disk k.stops;
    }

pub returns-then-number-count-2-clause-kept : goal.returns-then-number-count-2-clause-kept
returns-then-number-count-2-clause-kept g c b base s w may =
    let goes =
    goes_read g.D.Disk b base s c.args.log.now c.args.table.now c.args.pool.now c.args.disk.now c.count_pages.new.disk (g.met.D.Disk.only_now c.args.disk.now) w c.count_pages.ensures.reads c.in_ok-count.ensures.answers.noted in
    let asks = may_flush g.D.Disk b base s c.args.log.now c.args.table.now c.args.pool.now c.count_pages.new.disk c.args.number c.args.number goes.writing c.requires.changed (inl refl) in
    let k = c.flush_in_file-then-number-count-2.ensures.kept b base s goes.writing may asks in
    record {
      ok = on_ok c.flush_in_file-then-number-count-2.result _ _ k.ok
          (λ is. flushed_then g.D.Disk b base s s c.args.number c.args.number c.args.disk.now c.count_pages.new.disk c.flush_in_file-then-number-count-2.new.disk c.args.log.now c.flush_in_file-then-number-count-2.new.log c.args.table.now c.flush_in_file-then-number-count-2.new.table c.args.pool.now
          c.flush_in_file-then-number-count-2.new.pool goes is);
      stops = leaves_then g.D.Disk b base s c.args.disk.now s c.args.log.now c.args.table.now c.args.pool.now c.count_pages.new.disk goes c.flush_in_file-then-number-count-2.new.disk k.stops;
    }

pub returns-clause-kept : goal.returns-clause-kept
returns-clause-kept g c b base s w may =
    let goes =
    goes_read g.D.Disk b base s c.args.log.now c.args.table.now c.args.pool.now c.args.disk.now c.count_pages.new.disk (g.met.D.Disk.only_now c.args.disk.now) w c.count_pages.ensures.reads c.in_ok-count.ensures.answers.noted in
    let first = c.in_ok-count.count in
    let counted : page_count (g.D.Disk.seen c.count_pages.new.disk Pages) ≡ first = ap (λ (f : Files). page_count (f Pages)) c.count_pages.ensures.reads.seen ∙ sym (c.in_ok-count.ensures.count w.stands.log_is.tells) in
    let asks = may_flush g.D.Disk b base s c.args.log.now c.args.table.now c.args.pool.now c.count_pages.new.disk first c.args.number goes.writing c.requires.changed (inr (omega (arith, counted))) in
    let k = c.flush_range.ensures.kept b base s goes.writing asks in
    record {
      ok = on_ok c.flush_range.result _ _ k.ok
          (λ is. flushed_last g.D.Disk b base s first c.args.number c.args.disk.now c.flush_range.new.log c.flush_range.new.table c.flush_range.new.pool c.flush_range.new.disk c.if-number-count.false
          (flushed_then g.D.Disk b base s s first c.args.number c.args.disk.now c.count_pages.new.disk c.flush_range.new.disk c.args.log.now c.flush_range.new.log c.args.table.now c.flush_range.new.table c.args.pool.now
          c.flush_range.new.pool goes is));
      stops = leaves_then g.D.Disk b base s c.args.disk.now s c.args.log.now c.args.table.now c.args.pool.now c.count_pages.new.disk goes c.flush_range.new.disk k.stops;
    }

pub returns-then-number-count-clause-stays : goal.returns-then-number-count-clause-stays
returns-then-number-count-clause-stays g c tells within some = c.flush_in_file.ensures.stays some

pub returns-clause-stays : goal.returns-clause-stays
returns-clause-stays g c tells within some =
    let is : c.in_ok-count.count ≡ page_count (g.D.Disk.seen c.args.disk.now Pages) = c.in_ok-count.ensures.count tells in
    let past : c.in_ok-count.count ≤ c.args.number = c.if-number-count.false in
    let at : c.args.number ≡ c.in_ok-count.count = omega (arith, is, past, within) in
    subst (λ (n : ℕ). OnOk c.flush_range.result (is_some (entry_in c.flush_range.new.table n) ≡ true)) (sym at)
    (c.flush_range.ensures.stays (sym at) (subst (λ (n : ℕ). is_some (entry_in c.args.table.now n) ≡ true) at some))

pub returns-then-number-count-clause-costs : goal.returns-then-number-count-clause-costs
returns-then-number-count-clause-costs g c = on_ok c.flush_in_file.result _ _ c.flush_in_file.ensures.costs (λ is.
    page_within g.D.Disk c.args.number (page_count (g.D.Disk.seen c.args.disk.now Pages)) c.in_ok-count.count (has_room c.args.number c.args.table.now) c.args.disk.now c.count_pages.new.disk c.flush_in_file.new.disk
    (λ told. c.in_ok-count.ensures.count told) (omega (arith, c.if-number-count.true)) (costs_reads g.D.Disk c.args.disk.now c.count_pages.new.disk c.count_pages.ensures.reads) is)

pub returns-clause-costs : goal.returns-clause-costs
returns-clause-costs g c = on_ok c.flush_range.result _ _ c.flush_range.ensures.costs (λ is.
    page_past g.D.Disk c.args.number (page_count (g.D.Disk.seen c.args.disk.now Pages)) c.in_ok-count.count (λ n. has_room n c.args.table.now) c.args.disk.now c.count_pages.new.disk c.flush_range.new.disk
    (λ told. c.in_ok-count.ensures.count told) c.if-number-count.false (costs_reads g.D.Disk c.args.disk.now c.count_pages.new.disk c.count_pages.ensures.reads) is)

pub returns-then-number-count-clause-unforced : goal.returns-then-number-count-clause-unforced
returns-then-number-count-clause-unforced g c tells within durable = on_ok c.flush_in_file.result _ _ (c.flush_in_file.ensures.unforced durable) (λ written.
    costs_as g.D.Disk (0 + 1) (0 + 0) 1 0 c.args.disk.now c.flush_in_file.new.disk (omega arith) (omega arith)
    (costs_then g.D.Disk 0 0 1 0 c.args.disk.now c.count_pages.new.disk c.flush_in_file.new.disk (costs_reads g.D.Disk c.args.disk.now c.count_pages.new.disk c.count_pages.ensures.reads) written))

pub returns-clause-unforced : goal.returns-clause-unforced
returns-clause-unforced g c tells within durable = absurd (omega (arith, c.in_ok-count.ensures.count tells, c.if-number-count.false, within))
