use Rattle.std.proofs.Common.{◌+◌, ◌≤◌, ℕ, false, length, subst, sym}
use Rattle.std.specs.Prelude.{is_some}
use Rattle.std.specs.BTreeMap.{get}
use Rattle.std.specs.Ordering.{nat_cmp}
use Rattle.im_page_pool.specs.Pool.{page_at}
use Rattle.im_page_table.specs.DirtyTable.{TableView}
use Rattle.im_page_rounds.specs.declared.worker.Worker.{Worker}
use Rattle.im_page_rounds.specs.Workers.{page_in}
use Rattle.im_page_rounds.proofs.Places.{item_at, page_of, some_on}
use Rattle.im_page_table.proofs.Growing.{if_ok}
use Rattle.im_page_writer.proofs.Loans.{lent_held, lent_these, round_back, shown_here}
use Rattle.im_page_writer.proofs.RedoneRecords.{on_of}
use Rattle.im_page_writer.proofs.page_writer.PageWriter.redo_lent.Goals as goal

pub take_all_back-requires-clause-held : goal.take_all_back-requires-clause-held
take_all_back-requires-clause-held g c =
    let lent = c.lend_all.new.workers in
    let w : Worker = item_at c.args.workers.now 0 c.requires.some in
    lent_held c.args.numbers.now (λ k. page_in lent k w (page_of w)) c.args.self.now.pool c.lend_all.new.self.pool (c.lend_all.ensures.lends w (page_of w))

pub take_all_back-requires-clause-entries : goal.take_all_back-requires-clause-entries
take_all_back-requires-clause-entries g c = subst (λ (t : TableView). length t.entries + length c.args.numbers.now ≤ t.most) (sym c.lend_all.ensures.table) c.requires.entries

pub returns-clause-here : goal.returns-clause-here
returns-clause-here g c rs stand =
    let v = c.args.self.now in
    let numbers = c.args.numbers.now in
    let mid = c.lend_all.new.self in
    let lent = c.lend_all.new.workers in
    let lends = c.lend_all.ensures.lends in
    on_of c.redo_records-applied.result _ _ (c.redo_records-applied.ensures.redone rs (page_at v.pool) (λ q. false) stand (lent_these numbers lent v.pool mid.pool (page_at v.pool) (shown_here numbers v.pool) lends))
    (λ count done. round_back numbers c.args.point (λ (q : ℕ). is_some (get nat_cmp c.args.copies.now q)) rs v c.take_all_back.new.self mid.pool mid.table lent c.redo_records-applied.new.workers count (some_on c.args.workers.now lent c.lend_all.ensures.room c.requires.some) lends done
    c.lend_all.ensures.table c.take_all_back.ensures.takes)

pub returns-clause-count : goal.returns-clause-count
returns-clause-count g c rs pages stand shown =
    if_ok c.redo_records-applied.result _ _ (c.redo_records-applied.ensures.redone rs pages (λ q. false) stand (lent_these c.args.numbers.now c.lend_all.new.workers c.args.self.now.pool c.lend_all.new.self.pool pages shown c.lend_all.ensures.lends)) (λ count done. done.count)

pub returns-clause-taken : goal.returns-clause-taken
returns-clause-taken g c rs pages stand shown among all =
    c.redo_records-applied.ensures.taken rs pages (λ q. false) stand (lent_these c.args.numbers.now c.lend_all.new.workers c.args.self.now.pool c.lend_all.new.self.pool pages shown c.lend_all.ensures.lends) among all
