use Rattle.std.proofs.Common.{◌≡◌, true, ap, subst, sym, ◌∙◌}
use Rattle.im_base_types.specs.declared.file_id.FileId.TheVariants.{Pages}
use Rattle.im_base_disk.specs.Disk.{Files}
use Rattle.im_base_disk.proofs.Costs.{costs_reads}
use Rattle.im_theory_page.specs.PageFile.{page_count}
use Rattle.im_page_pool.specs.Pool.{PoolView, is_changed}
use Rattle.im_page_table.specs.DirtyTable.{has_room}
use Rattle.im_page_writer.specs.Outcome.{AsksNothing}
use Rattle.im_page_flush.specs.Writing.{SameHeld}
use Rattle.im_page_table.proofs.Growing.{on_ok}
use Rattle.im_page_flush.proofs.InCompany.{page_after}
use Rattle.im_page_writer.proofs.Outcomes.{behind, handed_on, none_still, stands_on}
use Rattle.im_page_writer.proofs.Writers.{goes_on_then}
use Rattle.im_page_writer.proofs.page_writer.PageWriter.flush_in_company.Goals as goal

pub returns-in_err-note_company-clause-outcome : goal.returns-in_err-note_company-clause-outcome
returns-in_err-note_company-clause-outcome g c = handed_on g.D.Disk c.from_residual.result c.from_residual.ensures.1 c.in_err-note_company.ensures.outcome

pub returns-clause-outcome : goal.returns-clause-outcome
returns-clause-outcome g c = behind g.D.Disk AsksNothing none_still c.in_ok-note_company.ensures.outcome c.flush_one.ensures.outcome

pub returns-clause-kept : goal.returns-clause-kept
returns-clause-kept g c b base s is =
    let old = c.args.disk.now in
    let mid = c.note_company.new.self in
    let disk = c.note_company.new.disk in
    let first = c.in_ok-note_company.ensures.outcome.ends.goes b base s is tt in
    let t = first.now in
    on_ok c.flush_one.result _ _ (c.flush_one.ensures.kept b base t (stands_on g.D.Disk b base s old t mid disk first.on))
    (λ f. record { now = f.now; on = goes_on_then g.D.Disk b base s old t mid disk first.on f.now c.flush_one.new.self c.flush_one.new.disk f.on; written = f.written; in_file = f.in_file })

pub returns-clause-held : goal.returns-clause-held
returns-clause-held g c = on_ok c.flush_one.result _ _ c.flush_one.ensures.held (λ held. subst (λ (pool : PoolView). SameHeld pool c.flush_one.new.self.pool) c.note_company.ensures.pool held)

pub returns-clause-costs : goal.returns-clause-costs
returns-clause-costs g c changed =
    let p = c.args.number in
    let old = c.args.disk.now in
    let mid = c.note_company.new.disk in
    let count : page_count (g.D.Disk.seen mid Pages) ≡ page_count (g.D.Disk.seen old Pages) = ap (λ (f : Files). page_count (f Pages)) c.note_company.ensures.reads.seen in
    let still : is_changed c.note_company.new.self.pool p ≡ true = subst (λ (pool : PoolView). is_changed pool p ≡ true) (sym c.note_company.ensures.pool) changed in
    on_ok c.flush_one.result _ _ (c.flush_one.ensures.costs still) (λ is.
    page_after g.D.Disk p (page_count (g.D.Disk.seen old Pages)) (page_count (g.D.Disk.seen mid Pages)) (has_room p c.args.self.now.table) (has_room p c.note_company.new.self.table) old mid c.flush_one.new.disk count
    (c.note_company.ensures.room p) (costs_reads g.D.Disk old mid c.note_company.ensures.reads) is)

pub returns-clause-numbers : goal.returns-clause-numbers
returns-clause-numbers g c = c.flush_one.ensures.numbers ∙ c.note_company.ensures.numbers
