use Rattle.std.proofs.Common.{◌≡◌, None, Some, true, inl, inr, refl, sym, ◌∙◌, subst}
use Rattle.std.specs.FinMap.{get}
use Rattle.im_base_types.specs.Pages.{Page}
use Rattle.im_page_writer.proofs.Cited.{err_on, out_of_memory, refused, then, with_more, read_more}
use Rattle.im_theory_page.specs.Split.{HasRoom}
use Rattle.im_tree_search.specs.Levels.{bodies_of}
use Rattle.im_tree_search.proofs.Sighted.{at_hidden, at_seen, but_still}
use Rattle.im_tree_search.proofs.Walks.{memory_not}
use Rattle.im_smo_split.specs.Kept.{mild_to_split}
use Rattle.im_smo_split.specs.Tops.{LacksRoomFor}
use Rattle.im_smo_split.proofs.Reasons.{mild_splits, never_capacity, never_pages_full}
use Rattle.im_engine_access.specs.Barred.{barred, meets, IsBarred}
use Rattle.im_engine_access.specs.ChangePlans.{KeyFits}
use Rattle.im_engine_access.specs.declared.change_plan.Coming.TheVariants.{Fits}
use Rattle.im_engine_access.proofs.Comings.{apart_bars, coming_hidden, coming_refused, coming_seen, files_refused, leaf_has_it, memory_full, memory_numbers, room_not, some_never, there_kept}
use Rattle.im_engine_access.proofs.Planning.{none_used_up, not_there, some_of}
use Rattle.im_engine_access.proofs.inserting_beside.prepare_coming.Goals as goal

pub returns-in_err-leaf-clause-outcome : goal.returns-in_err-leaf-clause-outcome
returns-in_err-leaf-clause-outcome g c = refused g.D.Disk c.from_residual.result c.from_residual.ensures.1 (read_more g.D.Disk (mild_to_split (Some c.args.max)) refl c.in_err-leaf.ensures.outcome)

pub returns-in_err-leaf-clause-kept : goal.returns-in_err-leaf-clause-kept
returns-in_err-leaf-clause-kept g c pages m rid but is =
    let a = c.args in
    let sound = c.in_err-leaf.ensures.kept pages but.tree in
    coming_refused a.stepped pages a.beside a.transaction a.key.now rid a.dense a.max m a.locks.now a.locks.now c.in_err-leaf.field-0.0 c.from_residual.result c.from_residual.ensures.1 sound
    (λ over. absurd (never_pages_full g.D.Disk refl c.in_err-leaf.ensures.outcome over)) (λ bars. files_refused g.D.Disk a.writer.now a.disk.now c.leaf_beside.new.writer c.leaf_beside.new.disk c.in_err-leaf.field-0.0 c.requires.working c.in_err-leaf.ensures.outcome sound)

pub returns-in_err-leaf-clause-never : goal.returns-in_err-leaf-clause-never
returns-in_err-leaf-clause-never g c = err_on c.from_residual.result _ _ c.from_residual.ensures.1 (never_capacity g.D.Disk refl c.in_err-leaf.ensures.outcome)

pub returns-in_default-clause-outcome : goal.returns-in_default-clause-outcome
returns-in_default-clause-outcome g c = read_more g.D.Disk (mild_to_split (Some c.args.max)) refl c.in_ok-leaf.ensures.outcome

pub returns-in_default-clause-kept : goal.returns-in_default-clause-kept
returns-in_default-clause-kept g c pages m rid but is =
    let a = c.args in
    coming_hidden a.stepped pages a.beside a.transaction a.key.now rid a.dense a.max m a.locks.now a.locks.now (meets (inl (at_hidden c.in_ok-leaf.field-0 _ _ c.in_default.not-Seen (c.in_ok-leaf.ensures.kept pages but.tree)))) refl

pub returns-in_err-answer-clause-outcome : goal.returns-in_err-answer-clause-outcome
returns-in_err-answer-clause-outcome g c =
    with_more g.D.Disk (mild_to_split (Some c.args.max)) (mild_splits (Some c.args.max)) (refused g.D.Disk c.from_residual-in_err-answer.result c.from_residual-in_err-answer.ensures.1 (out_of_memory g.D.Disk c.in_err-answer.ensures.memory c.in_ok-leaf.ensures.outcome))

pub returns-in_err-answer-clause-kept : goal.returns-in_err-answer-clause-kept
returns-in_err-answer-clause-kept g c pages m rid but is =
    let a = c.args in
    let key = a.key.now in
    let r = (at_seen c.in_ok-leaf.field-0 c.in-Seen.leaf _ _ c.in-Seen.is (c.in_ok-leaf.ensures.kept pages but.tree)).reached in
    let found = some_of c.rid_in-rid.result (sym c.is_there.ensures ∙ c.if-is_there.true) in
    let there : get m key ≡ Some found.0 = leaf_has_it pages but.tree.spare m key c.in-Seen.leaf.number c.page.result.now c.leaf_beside.new.writer.pool c.rid_in-rid.result but.tree.good is r c.page.ensures.page c.rid_in-rid.ensures ∙ found.1 in
    coming_refused a.stepped pages a.beside a.transaction key rid a.dense a.max m a.locks.now c.ask_duplicate.new.locks c.in_err-answer.field-0.0 c.from_residual-in_err-answer.result c.from_residual-in_err-answer.ensures.1 (memory_not _ c.in_err-answer.ensures.memory)
    (λ over. absurd (memory_full _ c.in_err-answer.ensures.memory over)) (λ bars. absurd (some_never m key found.0 there bars.0))

pub returns-in_err-answer-clause-never : goal.returns-in_err-answer-clause-never
returns-in_err-answer-clause-never g c = err_on c.from_residual-in_err-answer.result _ _ c.from_residual-in_err-answer.ensures.1 (memory_numbers _ c.in_err-answer.ensures.memory)

pub returns-then-is_there-clause-outcome : goal.returns-then-is_there-clause-outcome
returns-then-is_there-clause-outcome g c = read_more g.D.Disk (mild_to_split (Some c.args.max)) refl c.in_ok-leaf.ensures.outcome

pub returns-then-is_there-clause-kept : goal.returns-then-is_there-clause-kept
returns-then-is_there-clause-kept g c pages m rid but is =
    let a = c.args in
    let key = a.key.now in
    let r = (at_seen c.in_ok-leaf.field-0 c.in-Seen.leaf _ _ c.in-Seen.is (c.in_ok-leaf.ensures.kept pages but.tree)).reached in
    let found = some_of c.rid_in-rid.result (sym c.is_there.ensures ∙ c.if-is_there.true) in
    let there : get m key ≡ Some found.0 = leaf_has_it pages but.tree.spare m key c.in-Seen.leaf.number c.page.result.now c.leaf_beside.new.writer.pool c.rid_in-rid.result but.tree.good is r c.page.ensures.page c.rid_in-rid.ensures ∙ found.1 in
    there_kept a.stepped pages a.beside a.transaction key rid a.dense a.max m a.locks.now c.ask_duplicate.new.locks c.in_ok-answer.answer found.0 there (c.in_ok-answer.ensures.decided a.stepped m rid found.0 there)

pub returns-then-has-clause-outcome : goal.returns-then-has-clause-outcome
returns-then-has-clause-outcome g c = read_more g.D.Disk (mild_to_split (Some c.args.max)) refl c.in_ok-leaf.ensures.outcome

pub returns-then-has-clause-kept : goal.returns-then-has-clause-kept
returns-then-has-clause-kept g c pages m rid but is =
    let a = c.args in
    let key = a.key.now in
    let p = c.in-Seen.leaf.number in
    let r = (at_seen c.in_ok-leaf.field-0 c.in-Seen.leaf _ _ c.in-Seen.is (c.in_ok-leaf.ensures.kept pages but.tree)).reached in
    let absent : get m key ≡ None = leaf_has_it pages but.tree.spare m key p c.page.result.now c.leaf_beside.new.writer.pool c.rid_in-rid.result but.tree.good is r c.page.ensures.page c.rid_in-rid.ensures ∙ not_there c.rid_in-rid.result c.is_there.result c.is_there.ensures c.if-is_there.false in
    let bars : IsBarred (bodies_of pages) a.beside key (LacksRoomFor (bodies_of pages) key) = record { leaf = p; way = r.way; by = inl (sym c.has.ensures ∙ c.if-has.true) } in
    coming_hidden a.stepped pages a.beside a.transaction key rid a.dense a.max m a.locks.now a.locks.now (barred (absent, bars)) refl

pub returns-then-has_room-clause-outcome : goal.returns-then-has_room-clause-outcome
returns-then-has_room-clause-outcome g c = with_more g.D.Disk (mild_to_split (Some c.args.max)) (mild_splits (Some c.args.max)) (then g.D.Disk c.in_ok-leaf.ensures.outcome c.ask_coming.ensures.outcome)

pub returns-then-has_room-clause-kept : goal.returns-then-has_room-clause-kept
returns-then-has_room-clause-kept g c pages m rid but is =
    let a = c.args in
    let key = a.key.now in
    let p = c.in-Seen.leaf.number in
    let r = (at_seen c.in_ok-leaf.field-0 c.in-Seen.leaf _ _ c.in-Seen.is (c.in_ok-leaf.ensures.kept pages but.tree)).reached in
    let absent : get m key ≡ None = leaf_has_it pages but.tree.spare m key p c.page.result.now c.leaf_beside.new.writer.pool c.rid_in-rid.result but.tree.good is r c.page.ensures.page c.rid_in-rid.ensures ∙ not_there c.rid_in-rid.result c.is_there.result c.is_there.ensures c.if-is_there.false in
    let room = subst (λ (x : Page). HasRoom true x.body.entries (key, 0)) r.shown (c.has_room.ensures.room c.if-has_room.true) in
    let apart = sym c.has.ensures ∙ c.if-has.false in
    let fits : KeyFits pages a.beside key m p = record { absent = absent; apart = apart; way = r.way; room = room } in
    coming_seen a.stepped pages a.beside a.transaction key rid a.dense a.max m a.locks.now c.ask_coming.new.locks g.D.Disk (Fits p) c.ask_coming.result c.ask_coming.ensures.outcome fits
    (λ none lacks. absurd (room_not (bodies_of pages) but.tree.spare key p but.tree.good r.way room lacks))
    (λ bars. apart_bars (bodies_of pages) but.tree.spare a.beside key (LacksRoomFor (bodies_of pages) key) p but.tree.good r.way apart (room_not (bodies_of pages) but.tree.spare key p but.tree.good r.way room) bars.1)
    (c.ask_coming.ensures.kept pages m rid (but_still g.D.Disk but.tree c.in_ok-leaf.ensures.outcome) r is absent)

pub returns-then-has_room-clause-never : goal.returns-then-has_room-clause-never
returns-then-has_room-clause-never g c = none_used_up g.D.Disk c.ask_coming.result c.ask_coming.ensures.outcome

pub returns-then-not-is_none-clause-outcome : goal.returns-then-not-is_none-clause-outcome
returns-then-not-is_none-clause-outcome g c = read_more g.D.Disk (mild_to_split (Some c.args.max)) refl c.in_ok-leaf.ensures.outcome

pub returns-then-not-is_none-clause-kept : goal.returns-then-not-is_none-clause-kept
returns-then-not-is_none-clause-kept g c pages m rid but is =
    let a = c.args in
    let key = a.key.now in
    let p = c.in-Seen.leaf.number in
    let r = (at_seen c.in_ok-leaf.field-0 c.in-Seen.leaf _ _ c.in-Seen.is (c.in_ok-leaf.ensures.kept pages but.tree)).reached in
    let absent : get m key ≡ None = leaf_has_it pages but.tree.spare m key p c.page.result.now c.leaf_beside.new.writer.pool c.rid_in-rid.result but.tree.good is r c.page.ensures.page c.rid_in-rid.ensures ∙ not_there c.rid_in-rid.result c.is_there.result c.is_there.ensures c.if-is_there.false in
    let lacks : LacksRoomFor (bodies_of pages) key = record { page = p; way = r.way; lacks = λ (room : HasRoom true (pages p).body.entries (key, 0)). c.has_room.ensures.full c.if-has_room.false (subst (λ (x : Page). HasRoom true x.body.entries (key, 0)) (sym r.shown) room) } in
    let bars : IsBarred (bodies_of pages) a.beside key (LacksRoomFor (bodies_of pages) key) = record { leaf = p; way = r.way; by = inr (c.is_none.ensures.some c.if-not-is_none.true, lacks) } in
    coming_hidden a.stepped pages a.beside a.transaction key rid a.dense a.max m a.locks.now a.locks.now (barred (absent, bars)) refl

pub returns-clause-outcome : goal.returns-clause-outcome
returns-clause-outcome g c = then g.D.Disk c.in_ok-leaf.ensures.outcome c.prepare_coming_split.ensures.outcome

pub returns-clause-kept : goal.returns-clause-kept
returns-clause-kept g c pages m rid but is =
    let a = c.args in
    let key = a.key.now in
    let p = c.in-Seen.leaf.number in
    let r = (at_seen c.in_ok-leaf.field-0 c.in-Seen.leaf _ _ c.in-Seen.is (c.in_ok-leaf.ensures.kept pages but.tree)).reached in
    let absent : get m key ≡ None = leaf_has_it pages but.tree.spare m key p c.page.result.now c.leaf_beside.new.writer.pool c.rid_in-rid.result but.tree.good is r c.page.ensures.page c.rid_in-rid.ensures ∙ not_there c.rid_in-rid.result c.is_there.result c.is_there.ensures c.if-is_there.false in
    c.prepare_coming_split.ensures.kept pages m rid (record { tree = but_still g.D.Disk but.tree c.in_ok-leaf.ensures.outcome; good = but.good }) is absent r.way
    (λ (room : HasRoom true (pages p).body.entries (key, 0)). c.has_room.ensures.full c.if-has_room.false (subst (λ (x : Page). HasRoom true x.body.entries (key, 0)) (sym r.shown) room)) (c.is_none.ensures.none c.if-not-is_none.false)
