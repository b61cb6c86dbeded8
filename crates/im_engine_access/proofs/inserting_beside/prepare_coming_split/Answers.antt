use Rattle.std.proofs.Common.{Some, refl, sym, subst}
use Rattle.im_page_writer.proofs.Cited.{err_on, pages_still, refused, then, with_more, read_more}
use Rattle.im_tree_search.specs.Found.{IsReached}
use Rattle.im_tree_search.specs.Levels.{bodies_of}
use Rattle.im_tree_search.proofs.Sighted.{but_still}
use Rattle.im_tree_search.proofs.Steps.{way_level}
use Rattle.im_smo_split.specs.Kept.{mild_to_split}
use Rattle.im_smo_split.specs.Tops.{LacksRoomFor}
use Rattle.im_smo_split.proofs.Reasons.{mild_splits, never_capacity, never_pages_full}
use Rattle.im_engine_access.proofs.Comings.{alone_bars, alone_pages, coming_refused, coming_seen}
use Rattle.im_engine_access.proofs.Planning.{none_used_up}
use Rattle.im_engine_access.proofs.inserting_beside.prepare_coming_split.Goals as goal

pub returns-in_err-coming-clause-outcome : goal.returns-in_err-coming-clause-outcome
returns-in_err-coming-clause-outcome g c = refused g.D.Disk c.from_residual.result c.from_residual.ensures.1 c.in_err-coming.ensures.outcome

pub returns-in_err-coming-clause-kept : goal.returns-in_err-coming-clause-kept
returns-in_err-coming-clause-kept g c pages m rid but is absent way full alone =
    let a = c.args in
    let key = a.key.now in
    let lacks : LacksRoomFor (bodies_of pages) key = record { page = a.page; way = way; lacks = full } in
    let plan = c.in_err-coming.ensures.kept pages a.beside m (alone_pages g.D.Disk pages a.beside a.writer.now a.disk.now but.tree alone) but.good is absent lacks alone in
    coming_refused a.stepped pages a.beside a.transaction key rid a.dense a.max m a.locks.now a.locks.now c.in_err-coming.field-0.0 c.from_residual.result c.from_residual.ensures.1 plan.sound (λ over. let more = plan.full over in (absent, more.0, more.1))
    (λ bars. absurd (alone_bars (bodies_of pages) a.beside key (LacksRoomFor (bodies_of pages) key) alone bars.1))

pub returns-in_err-coming-clause-never : goal.returns-in_err-coming-clause-never
returns-in_err-coming-clause-never g c = err_on c.from_residual.result _ _ c.from_residual.ensures.1 c.in_err-coming.ensures.never

pub returns-in_err-held-clause-outcome : goal.returns-in_err-held-clause-outcome
returns-in_err-held-clause-outcome g c =
    refused g.D.Disk c.from_residual-in_err-held.result c.from_residual-in_err-held.ensures.1 (then g.D.Disk c.in_ok-coming.ensures.outcome (read_more g.D.Disk (mild_to_split (Some c.args.max)) refl c.in_err-held.ensures.outcome))

pub returns-in_err-held-clause-kept : goal.returns-in_err-held-clause-kept
returns-in_err-held-clause-kept g c pages m rid but is absent way full alone =
    let a = c.args in
    let key = a.key.now in
    let has = alone_pages g.D.Disk pages a.beside a.writer.now a.disk.now but.tree alone in
    coming_refused a.stepped pages a.beside a.transaction key rid a.dense a.max m a.locks.now a.locks.now c.in_err-held.field-0.0 c.from_residual-in_err-held.result c.from_residual-in_err-held.ensures.1
    (c.in_err-held.ensures.kept pages (pages_still g.D.Disk has c.in_ok-coming.ensures.outcome) (way_level (bodies_of pages) 0 key a.page way))
    (λ over. absurd (never_pages_full g.D.Disk refl c.in_err-held.ensures.outcome over))
    (λ bars. absurd (alone_bars (bodies_of pages) a.beside key (LacksRoomFor (bodies_of pages) key) alone bars.1))

pub returns-in_err-held-clause-never : goal.returns-in_err-held-clause-never
returns-in_err-held-clause-never g c = err_on c.from_residual-in_err-held.result _ _ c.from_residual-in_err-held.ensures.1 (never_capacity g.D.Disk refl c.in_err-held.ensures.outcome)

pub returns-clause-outcome : goal.returns-clause-outcome
returns-clause-outcome g c = with_more g.D.Disk (mild_to_split (Some c.args.max)) (mild_splits (Some c.args.max)) (then g.D.Disk (then g.D.Disk c.in_ok-coming.ensures.outcome c.in_ok-held.ensures.outcome) c.ask_coming.ensures.outcome)

pub returns-clause-kept : goal.returns-clause-kept
returns-clause-kept g c pages m rid but is absent way full alone =
    let a = c.args in
    let key = a.key.now in
    let lacks : LacksRoomFor (bodies_of pages) key = record { page = a.page; way = way; lacks = full } in
    let has = alone_pages g.D.Disk pages a.beside a.writer.now a.disk.now but.tree alone in
    let plan = c.in_ok-coming.ensures.kept pages a.beside m has but.good is absent lacks alone in
    let shown = c.in_ok-held.ensures.kept pages (pages_still g.D.Disk has c.in_ok-coming.ensures.outcome) (way_level (bodies_of pages) 0 key a.page way) in
    let pool = c.tree_page.new.writer.pool in
    let here : IsReached pages key 0 a.page pool = record { shown = shown; way = way } in
    let reached : IsReached pages key 0 c.in_ok-held.held.number pool = subst (λ n. IsReached pages key 0 n pool) (sym c.in_ok-held.ensures.frame) here in
    let tree = but_still g.D.Disk (but_still g.D.Disk but.tree c.in_ok-coming.ensures.outcome) c.in_ok-held.ensures.outcome in
    coming_seen a.stepped pages a.beside a.transaction key rid a.dense a.max m a.locks.now c.ask_coming.new.locks g.D.Disk c.in_ok-coming.coming c.ask_coming.result c.ask_coming.ensures.outcome plan.sound (λ none. plan.limited)
    (λ bars. alone_bars (bodies_of pages) a.beside key (LacksRoomFor (bodies_of pages) key) alone bars.1) (c.ask_coming.ensures.kept pages m rid tree reached is absent)

pub returns-clause-never : goal.returns-clause-never
returns-clause-never g c = none_used_up g.D.Disk c.ask_coming.result c.ask_coming.ensures.outcome
