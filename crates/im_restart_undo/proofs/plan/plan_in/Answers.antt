use Rattle.std.proofs.Common.{refl, sym, ◌∙◌}
use Rattle.im_smo_pages.specs.Kept.{mild_to_take}
use Rattle.im_page_writer.proofs.Outcomes.{read_more, refused, then}
use Rattle.im_tree_search.proofs.Sighted.{at_hidden, at_seen}
use Rattle.im_restart_undo.specs.Planning.{change_needed, leaf_planned}
use Rattle.im_restart_undo.proofs.Plans.{err_alone, in_hidden, in_needs, in_plain, in_splits, never_first, never_planned, none_open, pages_alone, place_alone, place_refused, seen_first, split_refused, whole_but_still}
use Rattle.im_restart_undo.proofs.plan.plan_in.Goals as goal

pub has_room-requires-clause-at : goal.has_room-requires-clause-at
has_room-requires-clause-at g c = at_seen c.in_ok-frame.field-0 c.in-Seen.frame _ _ c.in-Seen.is c.in_ok-frame.ensures.at

pub has_room-requires-clause-leaf : goal.has_room-requires-clause-leaf
has_room-requires-clause-leaf g c = (at_seen c.in_ok-frame.field-0 c.in-Seen.frame _ _ c.in-Seen.is c.in_ok-frame.ensures.leaf).kind

pub returns-in_err-frame-clause-outcome : goal.returns-in_err-frame-clause-outcome
returns-in_err-frame-clause-outcome g c = refused g.D.Disk c.from_residual.result c.from_residual.ensures.1 (read_more g.D.Disk mild_to_take refl c.in_err-frame.ensures.outcome)

pub returns-in_err-frame-clause-kept : goal.returns-in_err-frame-clause-kept
returns-in_err-frame-clause-kept g c pages rid whole =
    place_refused g.D.Disk pages c.args.beside c.args.page _ c.in_err-frame.field-0.0 c.from_residual.result c.from_residual.ensures.1 (c.in_err-frame.ensures.kept pages whole) c.in_err-frame.ensures.outcome

pub returns-in_err-frame-clause-first : goal.returns-in_err-frame-clause-first
returns-in_err-frame-clause-first g c made = never_first (c.in_err-frame.ensures.first made)

pub returns-in_err-frame-clause-alone : goal.returns-in_err-frame-clause-alone
returns-in_err-frame-clause-alone g c = place_alone g.D.Disk c.args.beside c.in_err-frame.field-0.0 c.from_residual.result c.from_residual.ensures.1 c.in_err-frame.ensures.outcome

pub returns-in_default-clause-outcome : goal.returns-in_default-clause-outcome
returns-in_default-clause-outcome g c = read_more g.D.Disk mild_to_take refl c.in_ok-frame.ensures.outcome

pub returns-in_default-clause-kept : goal.returns-in_default-clause-kept
returns-in_default-clause-kept g c pages rid whole = record {
  sound = in_hidden pages c.args.beside c.args.page c.args.key.now rid (at_hidden c.in_ok-frame.field-0 _ _ c.in_default.not-Seen (c.in_ok-frame.ensures.kept pages whole));
  short = tt;
  used_up = tt;
}

pub returns-in_default-clause-open : goal.returns-in_default-clause-open
returns-in_default-clause-open g c none not = none_open c.args.beside not (at_hidden c.in_ok-frame.field-0 _ _ c.in_default.not-Seen c.in_ok-frame.ensures.leaf)

pub returns-then-has-clause-outcome : goal.returns-then-has-clause-outcome
returns-then-has-clause-outcome g c = read_more g.D.Disk mild_to_take refl c.in_ok-frame.ensures.outcome

pub returns-then-has-clause-kept : goal.returns-then-has-clause-kept
returns-then-has-clause-kept g c pages rid whole =
    let leaf = at_seen c.in_ok-frame.field-0 c.in-Seen.frame _ _ c.in-Seen.is (c.in_ok-frame.ensures.kept pages whole) in
    record { sound = leaf_planned c.in-Seen.frame.number leaf.way (sym c.has.ensures ∙ c.if-has.true); short = tt; used_up = tt }

pub returns-then-has-clause-open : goal.returns-then-has-clause-open
returns-then-has-clause-open g c none not = never_planned c.args.beside c.in-Seen.frame.number none (sym c.has.ensures ∙ c.if-has.true)

pub returns-then-has_room-clause-outcome : goal.returns-then-has_room-clause-outcome
returns-then-has_room-clause-outcome g c = read_more g.D.Disk mild_to_take refl c.in_ok-frame.ensures.outcome

pub returns-then-has_room-clause-kept : goal.returns-then-has_room-clause-kept
returns-then-has_room-clause-kept g c pages rid whole =
    let leaf = at_seen c.in_ok-frame.field-0 c.in-Seen.frame _ _ c.in-Seen.is (c.in_ok-frame.ensures.kept pages whole) in
    record {
      sound = in_plain pages c.args.beside c.args.page c.args.key.now rid c.in-Seen.frame.number c.leaf_around.new.writer.pool leaf whole.good (sym c.has.ensures ∙ c.if-has.false) (c.has_room.ensures.room c.if-has_room.true);
      short = tt;
      used_up = tt;
    }

pub returns-then-has_room-clause-first : goal.returns-then-has_room-clause-first
returns-then-has_room-clause-first g c made = seen_first c.in_ok-frame.field-0 c.in-Seen.frame c.in-Seen.is (c.in_ok-frame.ensures.first made)

pub returns-then-not-is_none-clause-outcome : goal.returns-then-not-is_none-clause-outcome
returns-then-not-is_none-clause-outcome g c = read_more g.D.Disk mild_to_take refl c.in_ok-frame.ensures.outcome

pub returns-then-not-is_none-clause-kept : goal.returns-then-not-is_none-clause-kept
returns-then-not-is_none-clause-kept g c pages rid whole =
    let leaf = at_seen c.in_ok-frame.field-0 c.in-Seen.frame _ _ c.in-Seen.is (c.in_ok-frame.ensures.kept pages whole) in
    record {
      sound = change_needed (c.is_none.ensures.some c.if-not-is_none.true)
          (in_needs pages c.args.beside c.args.page c.args.key.now rid c.in-Seen.frame.number c.leaf_around.new.writer.pool leaf (c.has_room.ensures.full c.if-has_room.false));
      short = tt;
      used_up = tt;
    }

pub returns-then-not-is_none-clause-open : goal.returns-then-not-is_none-clause-open
returns-then-not-is_none-clause-open g c none not = absurd (c.is_none.ensures.some c.if-not-is_none.true none)

pub returns-in_err-plan-clause-outcome : goal.returns-in_err-plan-clause-outcome
returns-in_err-plan-clause-outcome g c = then g.D.Disk c.in_ok-frame.ensures.outcome (refused g.D.Disk c.from_residual-in_err-plan.result c.from_residual-in_err-plan.ensures.1 c.in_err-plan.ensures.outcome)

pub returns-in_err-plan-clause-kept : goal.returns-in_err-plan-clause-kept
returns-in_err-plan-clause-kept g c pages rid whole =
    let p = c.in-Seen.frame.number in
    let leaf = at_seen c.in_ok-frame.field-0 c.in-Seen.frame _ _ c.in-Seen.is (c.in_ok-frame.ensures.kept pages whole) in
    let has = pages_alone g.D.Disk c.args.beside (c.is_none.ensures.none c.if-not-is_none.false) (whole_but_still g.D.Disk whole c.in_ok-frame.ensures.outcome) in
    split_refused pages c.args.beside c.args.page c.args.key.now rid c.in_err-plan.field-0.0 c.from_residual-in_err-plan.result c.from_residual-in_err-plan.ensures.1
    (in_needs pages c.args.beside c.args.page c.args.key.now rid p c.leaf_around.new.writer.pool leaf (c.has_room.ensures.full c.if-has_room.false)) (c.in_err-plan.ensures.kept pages has whole.good) (c.in_err-plan.ensures.wants pages has whole.good)

pub returns-in_err-plan-clause-first : goal.returns-in_err-plan-clause-first
returns-in_err-plan-clause-first g c made = seen_first c.in_ok-frame.field-0 c.in-Seen.frame c.in-Seen.is (c.in_ok-frame.ensures.first made)

pub returns-in_err-plan-clause-alone : goal.returns-in_err-plan-clause-alone
returns-in_err-plan-clause-alone g c = err_alone c.from_residual-in_err-plan.result (c.is_none.ensures.none c.if-not-is_none.false)

pub returns-clause-outcome : goal.returns-clause-outcome
returns-clause-outcome g c = then g.D.Disk c.in_ok-frame.ensures.outcome c.in_ok-plan.ensures.outcome

pub returns-clause-kept : goal.returns-clause-kept
returns-clause-kept g c pages rid whole =
    let leaf = at_seen c.in_ok-frame.field-0 c.in-Seen.frame _ _ c.in-Seen.is (c.in_ok-frame.ensures.kept pages whole) in
    let none = c.is_none.ensures.none c.if-not-is_none.false in
    record {
      sound = in_splits pages c.args.beside c.args.page c.args.key.now rid c.in-Seen.frame.number c.leaf_around.new.writer.pool leaf none (c.has_room.ensures.full c.if-has_room.false) c.in_ok-plan.plan
          (c.in_ok-plan.ensures.kept pages (pages_alone g.D.Disk c.args.beside none (whole_but_still g.D.Disk whole c.in_ok-frame.ensures.outcome)) whole.good);
      short = tt;
      used_up = tt;
    }

pub returns-clause-first : goal.returns-clause-first
returns-clause-first g c made = seen_first c.in_ok-frame.field-0 c.in-Seen.frame c.in-Seen.is (c.in_ok-frame.ensures.first made)
