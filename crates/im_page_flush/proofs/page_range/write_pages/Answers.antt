use Rattle.std.proofs.Common.{◌≡◌, ℕ, ◌-◌, refl, sym, subst, arith, rules, ◌∙◌, ap, ◌+◌}
use Rattle.im_base_types.specs.declared.file_id.FileId.TheVariants.{Pages}
use Rattle.im_base_disk.proofs.Runs.{changes_reads, changes_then, reads_none}
use Rattle.im_page_table.specs.DirtyTable.{TableView, has_room, written_in}
use Rattle.im_page_flush.specs.Writing.{lsn_for, MayPlace, WrittenHere, WritesTo}
use Rattle.im_page_flush.proofs.Placing.{asked, held_none, held_then, held_unmarked, writes_left, writes_more, writes_start, writes_stop}
use Rattle.im_base_disk.proofs.Costs.{costs_as, costs_none, costs_then}
use Rattle.im_page_flush.proofs.page_range.write_pages.Goals as goal

pub loop-number-init : goal.loop-number-init
loop-number-init g c = record {
  low = omega arith;
  working = c.requires.working;
  place = c.requires.place;
  changes = changes_reads g.D.Disk Pages c.args.disk.now c.args.disk.now (reads_none g.D.Disk c.args.disk.now);
  costs = costs_as g.D.Disk 0 0 (c.args.first - c.args.first) 0 c.args.disk.now c.args.disk.now (omega arith) refl (costs_none g.D.Disk c.args.disk.now);
  held = held_none c.args.pool.now;
  most = refl;
  start = λ e. (refl, refl);
  one = λ e. absurd (omega (arith, e));
  kept = λ b base s log w all may. writes_start g.D.Disk b base s c.args.first c.args.last c.args.lsns.now c.args.disk.now log c.args.table.now c.args.pool.now (g.met.D.Disk.only_now c.args.disk.now) w all may;
}

pub loop-number-preserved : goal.loop-number-preserved
loop-number-preserved g c =
    let l = c.loop-number in
    let lsn = c.lsn_of-lsn.ensures in
    let one = c.in_ok-has.ensures in
    record {
      low = omega (arith, l.invariant.low);
      working = one.answers.noted;
      place = one.count;
      changes = changes_then g.D.Disk Pages c.args.disk.now l.disk c.write_one.new.disk l.invariant.changes one.changes;
      costs = costs_as g.D.Disk (l.number - c.args.first + 1) (0 + 0) (l.number + 1 - c.args.first) 0 c.args.disk.now c.write_one.new.disk (omega (arith, l.invariant.low)) refl
          (costs_then g.D.Disk (l.number - c.args.first) 0 1 0 c.args.disk.now l.disk c.write_one.new.disk l.invariant.costs one.costs);
      held = held_then c.args.pool.now l.pool c.write_one.new.pool l.invariant.held (held_unmarked l.number l.pool c.write_one.new.pool one.pool);
      most = one.most ∙ l.invariant.most;
      start = λ e. absurd (omega (arith, e, l.invariant.low));
      one = λ e.
          let at : l.number ≡ c.args.first = omega (arith, e) in
          let so = l.invariant.start at in (
            one.table
                ∙ ap (λ (m : ℕ). written_in l.number m l.table) lsn
                ∙ ap (λ (n : ℕ). written_in n (lsn_for c.args.lsns.now (n - c.args.first)) l.table) at
                ∙ ap (λ (m : ℕ). written_in c.args.first (lsn_for c.args.lsns.now m) l.table) (let none : c.args.first - c.args.first ≡ 0 = omega arith in none)
                ∙ ap (λ (t : TableView). written_in c.args.first (lsn_for c.args.lsns.now 0) t) so.0,
            c.both-entered.ensures.first so.1 ∙ one.entered ∙ ap (λ (n : ℕ). has_room n l.table) at ∙ ap (λ (t : TableView). has_room c.args.first t) so.0,
          );
      kept = λ b base s log w all may.
          let so = l.invariant.kept b base s log w all may in
          let asks = asked g.D.Disk b base s c.args.first c.args.last c.args.lsns.now c.args.disk.now log l.number l.table l.pool l.disk l.entered (omega (arith, c.loop-number-test.true)) l.invariant.low so in
          let done = one.kept b base so.now log so.run.stands so.pooled (subst (λ (m : ℕ). MayPlace b so.now l.table l.pool l.number m) (sym lsn) asks) in
          writes_more g.D.Disk b base s c.args.first c.args.last c.args.lsns.now c.args.disk.now log l.number l.table l.pool l.disk l.entered (omega (arith, c.loop-number-test.true)) l.invariant.low so
          c.write_one.new.table c.write_one.new.pool c.write_one.new.disk c.in_ok-has.has c.both-entered.result done.stops
          (subst (λ (m : ℕ). WrittenHere g.D.Disk b base so.now l.number m log l.table c.write_one.new.table c.write_one.new.pool c.write_one.new.disk c.in_ok-has.has) lsn done.ok) one.pool
          (one.table ∙ ap (λ (m : ℕ). written_in l.number m l.table) lsn) c.both-entered.ensures.both.0;
    }

pub returns-in_err-has-clause-kept : goal.returns-in_err-has-clause-kept
returns-in_err-has-clause-kept g c b base s log w all may =
    let l = c.loop-number in
    let so = l.invariant.kept b base s log w all may in
    let asks = asked g.D.Disk b base s c.args.first c.args.last c.args.lsns.now c.args.disk.now log l.number l.table l.pool l.disk l.entered (omega (arith, c.loop-number-test.true)) l.invariant.low so in
    let done = c.in_err-has.ensures.kept b base so.now log so.run.stands so.pooled (subst (λ (m : ℕ). MayPlace b so.now l.table l.pool l.number m) (sym c.lsn_of-lsn.ensures) asks) in
    record { ok = search rules; stops = writes_stop g.D.Disk b base s c.args.first c.args.last c.args.lsns.now c.args.disk.now log l.number l.table l.pool l.disk l.entered so c.write_one.new.disk done.stops }

pub returns-clause-kept : goal.returns-clause-kept
returns-clause-kept g c b base s log w all may =
    let l = c.loop-number in
    let so = l.invariant.kept b base s log w all may in
    record {
      ok = subst (λ (n : ℕ). WritesTo g.D.Disk b base s c.args.first n c.args.last c.args.lsns.now c.args.disk.now log l.table l.pool l.disk l.entered) (omega (arith, c.loop-number-test.false, c.requires.order)) so;
      stops = writes_left g.D.Disk b base s c.args.first c.args.last c.args.lsns.now c.args.disk.now log l.number l.table l.pool l.disk l.entered so;
    }

pub returns-clause-one : goal.returns-clause-one
returns-clause-one g c alone = c.loop-number.invariant.one (omega (arith, alone, c.loop-number-test.false, c.requires.order))

pub returns-clause-costs : goal.returns-clause-costs
returns-clause-costs g c =
    let l = c.loop-number in
    costs_as g.D.Disk (l.number - c.args.first) 0 (c.args.last + 1 - c.args.first) 0 c.args.disk.now l.disk (omega (arith, c.loop-number-test.false, c.requires.order)) refl l.invariant.costs

pub returns-in_err-has-clause-most : goal.returns-in_err-has-clause-most
returns-in_err-has-clause-most g c = c.write_one.ensures.most ∙ c.loop-number.invariant.most

pub returns-clause-most : goal.returns-clause-most
returns-clause-most g c = c.loop-number.invariant.most
