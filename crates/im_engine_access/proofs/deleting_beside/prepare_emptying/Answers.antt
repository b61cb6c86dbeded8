use Rattle.std.proofs.Common.{ap, is_some, refl, sym, subst}
use Rattle.im_page_writer.proofs.Outcomes.{pages_still, refused, then, read_more}
use Rattle.im_page_writer.specs.Outcome.{mild}
use Rattle.im_tree_search.specs.Found.{IsReached}
use Rattle.im_tree_search.specs.Levels.{bodies_of}
use Rattle.im_tree_search.proofs.Sighted.{but_still}
use Rattle.im_tree_search.proofs.Steps.{way_level}
use Rattle.im_smo_drop_leaf.specs.Emptied.{emptied}
use Rattle.im_smo_drop_leaf.specs.Plan.{IsPlan}
use Rattle.im_engine_access.specs.ChangePlans.{KeyEmpties}
use Rattle.im_engine_access.specs.declared.change_plan.Leaving.TheVariants.{Empties}
use Rattle.im_engine_access.specs.Edits.{HasOne}
use Rattle.im_engine_access.proofs.Comings.{alone_bars, alone_pages}
use Rattle.im_engine_access.proofs.Leavings.{leaving_refused, leaving_seen}
use Rattle.im_engine_access.proofs.deleting_beside.prepare_emptying.Goals as goal

pub returns-in_err-images-clause-outcome : goal.returns-in_err-images-clause-outcome
returns-in_err-images-clause-outcome g c = refused g.D.Disk c.from_residual.result c.from_residual.ensures.1 c.in_err-images.ensures.outcome

pub returns-in_err-images-clause-kept : goal.returns-in_err-images-clause-kept
returns-in_err-images-clause-kept g c pages m but is there way under one alone =
    let a = c.args in
    let has = alone_pages g.D.Disk pages a.beside a.writer.now a.disk.now but.tree alone in
    leaving_refused pages a.beside a.transaction a.key.now m a.locks.now a.locks.now c.in_err-images.field-0.0 c.from_residual.result c.from_residual.ensures.1 (c.in_err-images.ensures.kept pages has but.good a.page way one under)
    (λ bars. absurd (alone_bars (bodies_of pages) a.beside a.key.now (HasOne (bodies_of pages) a.key.now) alone bars.1))

pub returns-in_err-plan-clause-outcome : goal.returns-in_err-plan-clause-outcome
returns-in_err-plan-clause-outcome g c = refused g.D.Disk c.from_residual-in_err-plan.result c.from_residual-in_err-plan.ensures.1 (then g.D.Disk c.in_ok-images.ensures.outcome c.in_err-plan.ensures.outcome)

pub returns-in_err-plan-clause-kept : goal.returns-in_err-plan-clause-kept
returns-in_err-plan-clause-kept g c pages m but is there way under one alone =
    let a = c.args in
    let has = alone_pages g.D.Disk pages a.beside a.writer.now a.disk.now but.tree alone in
    leaving_refused pages a.beside a.transaction a.key.now m a.locks.now a.locks.now c.in_err-plan.field-0.0 c.from_residual-in_err-plan.result c.from_residual-in_err-plan.ensures.1 (c.in_err-plan.ensures.kept pages (pages_still g.D.Disk has c.in_ok-images.ensures.outcome))
    (λ bars. absurd (alone_bars (bodies_of pages) a.beside a.key.now (HasOne (bodies_of pages) a.key.now) alone bars.1))

pub returns-in_err-held-clause-outcome : goal.returns-in_err-held-clause-outcome
returns-in_err-held-clause-outcome g c =
    refused g.D.Disk c.from_residual-in_err-held.result c.from_residual-in_err-held.ensures.1 (then g.D.Disk (then g.D.Disk c.in_ok-images.ensures.outcome c.in_ok-plan.ensures.outcome) (read_more g.D.Disk mild refl c.in_err-held.ensures.outcome))

pub returns-in_err-held-clause-kept : goal.returns-in_err-held-clause-kept
returns-in_err-held-clause-kept g c pages m but is there way under one alone =
    let a = c.args in
    let has = alone_pages g.D.Disk pages a.beside a.writer.now a.disk.now but.tree alone in
    let still = pages_still g.D.Disk (pages_still g.D.Disk has c.in_ok-images.ensures.outcome) c.in_ok-plan.ensures.outcome in
    leaving_refused pages a.beside a.transaction a.key.now m a.locks.now a.locks.now c.in_err-held.field-0.0 c.from_residual-in_err-held.result c.from_residual-in_err-held.ensures.1 (c.in_err-held.ensures.kept pages still (way_level (bodies_of pages) 0 a.key.now a.page way))
    (λ bars. absurd (alone_bars (bodies_of pages) a.beside a.key.now (HasOne (bodies_of pages) a.key.now) alone bars.1))

pub returns-clause-outcome : goal.returns-clause-outcome
returns-clause-outcome g c = then g.D.Disk (then g.D.Disk (then g.D.Disk c.in_ok-images.ensures.outcome c.in_ok-plan.ensures.outcome) c.in_ok-held.ensures.outcome) c.ask_leaving.ensures.outcome

pub returns-clause-kept : goal.returns-clause-kept
returns-clause-kept g c pages m but is there way under one alone =
    let a = c.args in
    let key = a.key.now in
    let has = alone_pages g.D.Disk pages a.beside a.writer.now a.disk.now but.tree alone in
    let planned = pages_still g.D.Disk has c.in_ok-images.ensures.outcome in
    let shown = c.in_ok-held.ensures.kept pages (pages_still g.D.Disk planned c.in_ok-plan.ensures.outcome) (way_level (bodies_of pages) 0 key a.page way) in
    let pool = c.tree_page.new.writer.pool in
    let here : IsReached pages key 0 a.page pool = record { shown = shown; way = way } in
    let reached : IsReached pages key 0 c.in_ok-held.held.number pool = subst (λ n. IsReached pages key 0 n pool) (sym c.in_ok-held.ensures.frame) here in
    let tree = but_still g.D.Disk (but_still g.D.Disk (but_still g.D.Disk but.tree c.in_ok-images.ensures.outcome) c.in_ok-plan.ensures.outcome) c.in_ok-held.ensures.outcome in
    let empties : KeyEmpties pages a.beside key m a.page a.rid c.in_ok-plan.plan = record {
      there = there;
      alone = alone;
      way = way;
      under = under;
      one = one;
      planned = subst (λ xs. IsPlan (emptied pages a.page) a.page xs) (sym c.in_ok-plan.ensures.planned.0) (c.in_ok-images.ensures.kept pages has but.good a.page way one under);
      rising = c.in_ok-plan.ensures.planned.1;
      count = c.in_ok-plan.ensures.kept pages planned;
    } in
    leaving_seen pages a.beside a.transaction key m a.locks.now c.ask_leaving.new.locks (Empties a.page a.rid c.in_ok-plan.plan) c.ask_leaving.result empties
    (λ bars. alone_bars (bodies_of pages) a.beside key (HasOne (bodies_of pages) key) alone bars.1) (c.ask_leaving.ensures.kept pages m tree reached is (ap is_some there))
