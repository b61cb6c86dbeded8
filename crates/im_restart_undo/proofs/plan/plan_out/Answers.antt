use Rattle.std.proofs.Common.{refl, sym, ◌∙◌}
use Rattle.im_page_writer.specs.Outcome.{mild}
use Rattle.im_page_writer.proofs.Outcomes.{read_more, refused, then}
use Rattle.im_tree_search.proofs.Sighted.{at_hidden, at_seen}
use Rattle.im_restart_undo.specs.Planning.{change_needed, leaf_planned}
use Rattle.im_restart_undo.proofs.Plans.{drop_refused, err_alone, never_first, never_planned, none_open, out_drops, out_hidden, out_needs, out_one, out_plain, pages_alone, place_alone, place_refused, seen_first, whole_but_still}
use Rattle.im_restart_undo.proofs.plan.plan_out.Goals as goal

pub is_last_entry-requires : goal.is_last_entry-requires
is_last_entry-requires g c = record { at = at_seen c.in_ok-frame.field-0 c.in-Seen.frame _ _ c.in-Seen.is c.in_ok-frame.ensures.at }

pub returns-in_err-frame-clause-outcome : goal.returns-in_err-frame-clause-outcome
returns-in_err-frame-clause-outcome g c = refused g.D.Disk c.from_residual.result c.from_residual.ensures.1 (read_more g.D.Disk mild refl c.in_err-frame.ensures.outcome)

pub returns-in_err-frame-clause-kept : goal.returns-in_err-frame-clause-kept
returns-in_err-frame-clause-kept g c pages rid whole =
    place_refused g.D.Disk pages c.args.beside c.args.page _ c.in_err-frame.field-0.0 c.from_residual.result c.from_residual.ensures.1 (c.in_err-frame.ensures.kept pages whole) c.in_err-frame.ensures.outcome

pub returns-in_err-frame-clause-first : goal.returns-in_err-frame-clause-first
returns-in_err-frame-clause-first g c made = never_first (c.in_err-frame.ensures.first made)

pub returns-in_err-frame-clause-alone : goal.returns-in_err-frame-clause-alone
returns-in_err-frame-clause-alone g c = place_alone g.D.Disk c.args.beside c.in_err-frame.field-0.0 c.from_residual.result c.from_residual.ensures.1 c.in_err-frame.ensures.outcome

pub returns-in_default-clause-outcome : goal.returns-in_default-clause-outcome
returns-in_default-clause-outcome g c = read_more g.D.Disk mild refl c.in_ok-frame.ensures.outcome

pub returns-in_default-clause-kept : goal.returns-in_default-clause-kept
returns-in_default-clause-kept g c pages rid whole = record {
  sound = out_hidden pages c.args.beside c.args.page c.args.key.now rid (at_hidden c.in_ok-frame.field-0 _ _ c.in_default.not-Seen (c.in_ok-frame.ensures.kept pages whole));
  short = tt;
  used_up = tt;
}

pub returns-in_default-clause-open : goal.returns-in_default-clause-open
returns-in_default-clause-open g c none not = none_open c.args.beside not (at_hidden c.in_ok-frame.field-0 _ _ c.in_default.not-Seen c.in_ok-frame.ensures.leaf)

pub returns-then-has-clause-outcome : goal.returns-then-has-clause-outcome
returns-then-has-clause-outcome g c = read_more g.D.Disk mild refl c.in_ok-frame.ensures.outcome

pub returns-then-has-clause-kept : goal.returns-then-has-clause-kept
returns-then-has-clause-kept g c pages rid whole =
    let leaf = at_seen c.in_ok-frame.field-0 c.in-Seen.frame _ _ c.in-Seen.is (c.in_ok-frame.ensures.kept pages whole) in
    record { sound = leaf_planned c.in-Seen.frame.number leaf.way (sym c.has.ensures ∙ c.if-has.true); short = tt; used_up = tt }

pub returns-then-has-clause-open : goal.returns-then-has-clause-open
returns-then-has-clause-open g c none not = never_planned c.args.beside c.in-Seen.frame.number none (sym c.has.ensures ∙ c.if-has.true)

pub returns-then-not-is_last_entry-clause-outcome : goal.returns-then-not-is_last_entry-clause-outcome
returns-then-not-is_last_entry-clause-outcome g c = read_more g.D.Disk mild refl c.in_ok-frame.ensures.outcome

pub returns-then-not-is_last_entry-clause-kept : goal.returns-then-not-is_last_entry-clause-kept
returns-then-not-is_last_entry-clause-kept g c pages rid whole =
    let leaf = at_seen c.in_ok-frame.field-0 c.in-Seen.frame _ _ c.in-Seen.is (c.in_ok-frame.ensures.kept pages whole) in
    record {
      sound = out_plain pages c.args.beside c.args.page c.args.key.now rid c.in-Seen.frame.number c.leaf_with.new.writer.pool leaf whole.good (sym c.has.ensures ∙ c.if-has.false) (c.is_last_entry.ensures.more c.if-not-is_last_entry.true);
      short = tt;
      used_up = tt;
    }

pub returns-then-not-is_last_entry-clause-first : goal.returns-then-not-is_last_entry-clause-first
returns-then-not-is_last_entry-clause-first g c made = seen_first c.in_ok-frame.field-0 c.in-Seen.frame c.in-Seen.is (c.in_ok-frame.ensures.first made)

pub returns-then-not-is_none-clause-outcome : goal.returns-then-not-is_none-clause-outcome
returns-then-not-is_none-clause-outcome g c = read_more g.D.Disk mild refl c.in_ok-frame.ensures.outcome

pub returns-then-not-is_none-clause-kept : goal.returns-then-not-is_none-clause-kept
returns-then-not-is_none-clause-kept g c pages rid whole =
    let leaf = at_seen c.in_ok-frame.field-0 c.in-Seen.frame _ _ c.in-Seen.is (c.in_ok-frame.ensures.kept pages whole) in
    record {
      sound = change_needed (c.is_none.ensures.some c.if-not-is_none.true)
          (out_needs pages c.args.beside c.args.page c.args.key.now rid c.in-Seen.frame.number c.leaf_with.new.writer.pool leaf (c.is_last_entry.ensures.last c.if-not-is_last_entry.false));
      short = tt;
      used_up = tt;
    }

pub returns-then-not-is_none-clause-open : goal.returns-then-not-is_none-clause-open
returns-then-not-is_none-clause-open g c none not = absurd (c.is_none.ensures.some c.if-not-is_none.true none)

pub returns-in_err-images-clause-outcome : goal.returns-in_err-images-clause-outcome
returns-in_err-images-clause-outcome g c = then g.D.Disk c.in_ok-frame.ensures.outcome (refused g.D.Disk c.from_residual-in_err-images.result c.from_residual-in_err-images.ensures.1 c.in_err-images.ensures.outcome)

pub returns-in_err-images-clause-kept : goal.returns-in_err-images-clause-kept
returns-in_err-images-clause-kept g c pages rid whole =
    let p = c.in-Seen.frame.number in
    let pool = c.leaf_with.new.writer.pool in
    let leaf = at_seen c.in_ok-frame.field-0 c.in-Seen.frame _ _ c.in-Seen.is (c.in_ok-frame.ensures.kept pages whole) in
    let none = c.is_none.ensures.none c.if-not-is_none.false in
    let last = c.is_last_entry.ensures.last c.if-not-is_last_entry.false in
    let needs = out_needs pages c.args.beside c.args.page c.args.key.now rid p pool leaf last in
    let one = out_one pages c.args.beside c.args.page c.args.key.now rid p pool leaf last.1 in
    drop_refused g.D.Disk pages c.args.beside c.args.page c.args.key.now rid c.in_err-images.field-0.0 c.from_residual-in_err-images.result c.from_residual-in_err-images.ensures.1 needs
    (c.in_err-images.ensures.kept pages (pages_alone g.D.Disk c.args.beside none (whole_but_still g.D.Disk whole c.in_ok-frame.ensures.outcome)) whole.good p leaf.way one last.0) c.in_err-images.ensures.outcome

pub returns-in_err-images-clause-first : goal.returns-in_err-images-clause-first
returns-in_err-images-clause-first g c made = seen_first c.in_ok-frame.field-0 c.in-Seen.frame c.in-Seen.is (c.in_ok-frame.ensures.first made)

pub returns-in_err-images-clause-alone : goal.returns-in_err-images-clause-alone
returns-in_err-images-clause-alone g c = err_alone c.from_residual-in_err-images.result (c.is_none.ensures.none c.if-not-is_none.false)

pub returns-clause-outcome : goal.returns-clause-outcome
returns-clause-outcome g c = then g.D.Disk c.in_ok-frame.ensures.outcome c.in_ok-images.ensures.outcome

pub returns-clause-kept : goal.returns-clause-kept
returns-clause-kept g c pages rid whole =
    let p = c.in-Seen.frame.number in
    let pool = c.leaf_with.new.writer.pool in
    let leaf = at_seen c.in_ok-frame.field-0 c.in-Seen.frame _ _ c.in-Seen.is (c.in_ok-frame.ensures.kept pages whole) in
    let none = c.is_none.ensures.none c.if-not-is_none.false in
    let last = c.is_last_entry.ensures.last c.if-not-is_last_entry.false in
    let one = out_one pages c.args.beside c.args.page c.args.key.now rid p pool leaf last.1 in
    record {
      sound = out_drops pages c.args.beside c.args.page c.args.key.now rid p pool leaf none last c.in_ok-images.images
          (c.in_ok-images.ensures.kept pages (pages_alone g.D.Disk c.args.beside none (whole_but_still g.D.Disk whole c.in_ok-frame.ensures.outcome)) whole.good p leaf.way one last.0);
      short = tt;
      used_up = tt;
    }

pub returns-clause-first : goal.returns-clause-first
returns-clause-first g c made = seen_first c.in_ok-frame.field-0 c.in-Seen.frame c.in-Seen.is (c.in_ok-frame.ensures.first made)
