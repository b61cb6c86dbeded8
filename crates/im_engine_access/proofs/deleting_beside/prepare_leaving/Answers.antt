use Rattle.std.proofs.Common.{◌≡◌, None, Some, inl, inr, is_some, refl, sym, ◌∙◌, ap}
use Rattle.std.specs.FinMap.{get}
use Rattle.im_page_writer.specs.Outcome.{mild}
use Rattle.im_page_writer.proofs.Outcomes.{refused, then, read_more}
use Rattle.im_tree_search.specs.Beside.{on_way}
use Rattle.im_tree_search.specs.Levels.{bodies_of}
use Rattle.im_tree_search.proofs.Sighted.{at_hidden, at_seen, but_still}
use Rattle.im_engine_access.specs.Barred.{barred, meets, IsBarred}
use Rattle.im_engine_access.specs.ChangePlans.{KeyTakes}
use Rattle.im_engine_access.specs.declared.change_plan.Leaving.TheVariants.{Gone, Takes}
use Rattle.im_engine_access.specs.Edits.{HasOne}
use Rattle.im_engine_access.proofs.Comings.{apart_bars, files_refused, leaf_has_it}
use Rattle.im_engine_access.proofs.Leavings.{leaving_hidden, leaving_refused, leaving_seen, more_at, more_not, one_at, some_there}
use Rattle.im_engine_access.proofs.Names.{option_none}
use Rattle.im_engine_access.proofs.deleting_beside.prepare_leaving.Goals as goal

pub returns-in_err-leaf-clause-outcome : goal.returns-in_err-leaf-clause-outcome
returns-in_err-leaf-clause-outcome g c = refused g.D.Disk c.from_residual.result c.from_residual.ensures.1 (read_more g.D.Disk mild refl c.in_err-leaf.ensures.outcome)

pub returns-in_err-leaf-clause-kept : goal.returns-in_err-leaf-clause-kept
returns-in_err-leaf-clause-kept g c pages m but is =
    let a = c.args in
    let sound = c.in_err-leaf.ensures.kept pages but.tree in
    leaving_refused pages a.beside a.transaction a.key.now m a.locks.now a.locks.now c.in_err-leaf.field-0.0 c.from_residual.result c.from_residual.ensures.1 sound
    (λ bars. files_refused g.D.Disk a.writer.now a.disk.now c.leaf_beside.new.writer c.leaf_beside.new.disk c.in_err-leaf.field-0.0 c.requires.working c.in_err-leaf.ensures.outcome sound)

pub returns-in_default-clause-outcome : goal.returns-in_default-clause-outcome
returns-in_default-clause-outcome g c = read_more g.D.Disk mild refl c.in_ok-leaf.ensures.outcome

pub returns-in_default-clause-kept : goal.returns-in_default-clause-kept
returns-in_default-clause-kept g c pages m but is =
    let a = c.args in
    let made = at_hidden c.in_ok-leaf.field-0 _ _ c.in_default.not-Seen (c.in_ok-leaf.ensures.kept pages but.tree) in
    leaving_hidden pages a.beside a.transaction a.key.now m a.locks.now a.locks.now (meets (on_way made.level made.page made.way made.made)) refl

pub returns-in_default-found-clause-outcome : goal.returns-in_default-found-clause-outcome
returns-in_default-found-clause-outcome g c = then g.D.Disk c.in_ok-leaf.ensures.outcome c.ask_leaving.ensures.outcome

pub returns-in_default-found-clause-kept : goal.returns-in_default-found-clause-kept
returns-in_default-found-clause-kept g c pages m but is =
    let a = c.args in
    let key = a.key.now in
    let p = c.in-Seen.leaf.number in
    let r = (at_seen c.in_ok-leaf.field-0 c.in-Seen.leaf _ _ c.in-Seen.is (c.in_ok-leaf.ensures.kept pages but.tree)).reached in
    let map = leaf_has_it pages but.tree.spare m key p c.page.result.now c.leaf_beside.new.writer.pool c.rid_in-found.result but.tree.good is r c.page.ensures.page c.rid_in-found.ensures in
    let none : get m key ≡ None = map ∙ option_none c.rid_in-found.result c.in_default-found.not-Some in
    leaving_seen pages a.beside a.transaction key m a.locks.now c.ask_leaving.new.locks Gone c.ask_leaving.result none (λ bars. bars.0 none)
    (c.ask_leaving.ensures.kept pages m (but_still g.D.Disk but.tree c.in_ok-leaf.ensures.outcome) r is (ap is_some none))

pub returns-then-has-clause-outcome : goal.returns-then-has-clause-outcome
returns-then-has-clause-outcome g c = read_more g.D.Disk mild refl c.in_ok-leaf.ensures.outcome

pub returns-then-has-clause-kept : goal.returns-then-has-clause-kept
returns-then-has-clause-kept g c pages m but is =
    let a = c.args in
    let key = a.key.now in
    let p = c.in-Seen.leaf.number in
    let r = (at_seen c.in_ok-leaf.field-0 c.in-Seen.leaf _ _ c.in-Seen.is (c.in_ok-leaf.ensures.kept pages but.tree)).reached in
    let map = leaf_has_it pages but.tree.spare m key p c.page.result.now c.leaf_beside.new.writer.pool c.rid_in-found.result but.tree.good is r c.page.ensures.page c.rid_in-found.ensures in
    let there : get m key ≡ Some c.in-Some.rid = map ∙ c.in-Some.is in
    let bars : IsBarred (bodies_of pages) a.beside key (HasOne (bodies_of pages) key) = record { leaf = p; way = r.way; by = inl (sym c.has.ensures ∙ c.if-has.true) } in
    leaving_hidden pages a.beside a.transaction key m a.locks.now a.locks.now (barred (some_there m key c.in-Some.rid there, bars)) refl

pub returns-then-not-is_last_entry-clause-outcome : goal.returns-then-not-is_last_entry-clause-outcome
returns-then-not-is_last_entry-clause-outcome g c = then g.D.Disk c.in_ok-leaf.ensures.outcome c.ask_leaving-then-not-is_last_entry.ensures.outcome

pub returns-then-not-is_last_entry-clause-kept : goal.returns-then-not-is_last_entry-clause-kept
returns-then-not-is_last_entry-clause-kept g c pages m but is =
    let a = c.args in
    let key = a.key.now in
    let p = c.in-Seen.leaf.number in
    let r = (at_seen c.in_ok-leaf.field-0 c.in-Seen.leaf _ _ c.in-Seen.is (c.in_ok-leaf.ensures.kept pages but.tree)).reached in
    let map = leaf_has_it pages but.tree.spare m key p c.page.result.now c.leaf_beside.new.writer.pool c.rid_in-found.result but.tree.good is r c.page.ensures.page c.rid_in-found.ensures in
    let there : get m key ≡ Some c.in-Some.rid = map ∙ c.in-Some.is in
    let apart = sym c.has.ensures ∙ c.if-has.false in
    let more = more_at p (pages p) c.leaf_beside.new.writer.pool r.shown (c.is_last_entry.ensures.more c.if-not-is_last_entry.true) in
    let takes : KeyTakes pages a.beside key m p c.in-Some.rid = record { there = there; apart = apart; way = r.way; more = more } in
    leaving_seen pages a.beside a.transaction key m a.locks.now c.ask_leaving-then-not-is_last_entry.new.locks (Takes p c.in-Some.rid) c.ask_leaving-then-not-is_last_entry.result takes
    (λ bars. apart_bars (bodies_of pages) but.tree.spare a.beside key (HasOne (bodies_of pages) key) p but.tree.good r.way apart (more_not (bodies_of pages) but.tree.spare key p but.tree.good r.way more) bars.1)
    (c.ask_leaving-then-not-is_last_entry.ensures.kept pages m (but_still g.D.Disk but.tree c.in_ok-leaf.ensures.outcome) r is (ap is_some there))

pub returns-then-not-is_none-clause-outcome : goal.returns-then-not-is_none-clause-outcome
returns-then-not-is_none-clause-outcome g c = read_more g.D.Disk mild refl c.in_ok-leaf.ensures.outcome

pub returns-then-not-is_none-clause-kept : goal.returns-then-not-is_none-clause-kept
returns-then-not-is_none-clause-kept g c pages m but is =
    let a = c.args in
    let key = a.key.now in
    let p = c.in-Seen.leaf.number in
    let r = (at_seen c.in_ok-leaf.field-0 c.in-Seen.leaf _ _ c.in-Seen.is (c.in_ok-leaf.ensures.kept pages but.tree)).reached in
    let map = leaf_has_it pages but.tree.spare m key p c.page.result.now c.leaf_beside.new.writer.pool c.rid_in-found.result but.tree.good is r c.page.ensures.page c.rid_in-found.ensures in
    let there : get m key ≡ Some c.in-Some.rid = map ∙ c.in-Some.is in
    let last = one_at p (pages p) c.leaf_beside.new.writer.pool r.shown (c.is_last_entry.ensures.last c.if-not-is_last_entry.false) in
    let one : HasOne (bodies_of pages) key = record { page = p; way = r.way; under = last.0; one = last.1 } in
    let bars : IsBarred (bodies_of pages) a.beside key (HasOne (bodies_of pages) key) = record { leaf = p; way = r.way; by = inr (c.is_none.ensures.some c.if-not-is_none.true, one) } in
    leaving_hidden pages a.beside a.transaction key m a.locks.now a.locks.now (barred (some_there m key c.in-Some.rid there, bars)) refl

pub returns-clause-outcome : goal.returns-clause-outcome
returns-clause-outcome g c = then g.D.Disk c.in_ok-leaf.ensures.outcome c.prepare_emptying.ensures.outcome

pub returns-clause-kept : goal.returns-clause-kept
returns-clause-kept g c pages m but is =
    let a = c.args in
    let key = a.key.now in
    let p = c.in-Seen.leaf.number in
    let r = (at_seen c.in_ok-leaf.field-0 c.in-Seen.leaf _ _ c.in-Seen.is (c.in_ok-leaf.ensures.kept pages but.tree)).reached in
    let map = leaf_has_it pages but.tree.spare m key p c.page.result.now c.leaf_beside.new.writer.pool c.rid_in-found.result but.tree.good is r c.page.ensures.page c.rid_in-found.ensures in
    let there : get m key ≡ Some c.in-Some.rid = map ∙ c.in-Some.is in
    let last = one_at p (pages p) c.leaf_beside.new.writer.pool r.shown (c.is_last_entry.ensures.last c.if-not-is_last_entry.false) in
    c.prepare_emptying.ensures.kept pages m (record { tree = but_still g.D.Disk but.tree c.in_ok-leaf.ensures.outcome; good = but.good }) is there r.way last.0 last.1 (c.is_none.ensures.none c.if-not-is_none.false)
