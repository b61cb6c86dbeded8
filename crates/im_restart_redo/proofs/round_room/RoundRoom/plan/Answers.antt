use Rattle.std.proofs.Common.{◌≡◌, ◌<◌, ℕ, List, false, true, get_or, length, arith, rules, subst, sym, ◌∙◌}
use Rattle.im_restart_redo.specs.Segments.{IsLast}
use Rattle.im_restart_redo.proofs.Planned.{planned_above, planned_all, planned_apart, planned_as, planned_lsns, planned_next, planned_none, planned_on, planned_some}
use Rattle.im_restart_redo.proofs.round_room.RoundRoom.plan.Goals as goal

pub loop-change-init : goal.loop-change-init
loop-change-init c = record {
  most = search rules;
  longest = search rules;
  planned = planned_none c.args.most c.args.changes.now _ _ (search rules) (search rules);
}

pub take_one-requires-clause-rising : goal.take_one-requires-clause-rising
take_one-requires-clause-rising c = c.loop-change.invariant.planned.rising

pub take_one-requires-clause-above : goal.take_one-requires-clause-above
take_one-requires-clause-above c p last =
    let l = c.loop-change in
    planned_above c.args.most c.args.changes.now c.requires.order (0, 0) l.change-index l.self.numbers.items l.self.lsns.items l.invariant.planned c.loop-change-test.true p last

pub take_one-requires-clause-room : goal.take_one-requires-clause-room
take_one-requires-clause-room c = omega (arith, c.loop-change.invariant.planned.long, c.loop-change.invariant.longest, c.loop-change-test.true, c.requires.room)

pub loop-change-preserved : goal.loop-change-preserved
loop-change-preserved c =
    let l = c.loop-change in
    let e = c.take_one.ensures in
    let yes : c.take_one.result ≡ true = c.if-not-take_one.false in
    record {
      most = e.most ∙ l.invariant.most;
      longest = e.longest ∙ l.invariant.longest;
      planned =
          planned_next c.args.most c.args.changes.now c.requires.order (0, 0) l.change-index l.self.numbers.items l.self.lsns.items c.take_one.new.self.numbers.items c.take_one.new.self.lsns.items l.invariant.planned c.loop-change-test.true
          (e.lsns yes) e.rising (e.few l.invariant.planned.few) (e.last yes) e.kept;
    }

-- where one was not taken

pub returns-then-not-take_one-clause-within : goal.returns-then-not-take_one-clause-within
returns-then-not-take_one-clause-within c =
    let l = c.loop-change in
    let so = planned_as _ _ l.self.numbers.items l.self.lsns.items (c.take_one.ensures.same c.if-not-take_one.true).0 (c.take_one.ensures.same c.if-not-take_one.true).1 l.invariant.planned in
    omega (arith, so.long, c.loop-change-test.true)

pub returns-then-not-take_one-clause-some : goal.returns-then-not-take_one-clause-some
returns-then-not-take_one-clause-some c some =
    let l = c.loop-change in
    let e = c.take_one.ensures in
    let so = planned_as _ _ l.self.numbers.items l.self.lsns.items (e.same c.if-not-take_one.true).0 (e.same c.if-not-take_one.true).1 l.invariant.planned in
    let full : length l.self.numbers.items < c.args.most → ⊥ = λ room. (let clash : false ≡ true = sym c.if-not-take_one.true ∙ e.room room in cc clash) in
    planned_some _ _ so c.requires.pages (λ room. full (subst (λ (ns : List ℕ). length ns < c.args.most) (e.same c.if-not-take_one.true).0 room))

pub returns-then-not-take_one-clause-lsns : goal.returns-then-not-take_one-clause-lsns
returns-then-not-take_one-clause-lsns c =
    let l = c.loop-change in
    let e = c.take_one.ensures in
    planned_lsns _ _ (planned_as _ _ l.self.numbers.items l.self.lsns.items (e.same c.if-not-take_one.true).0 (e.same c.if-not-take_one.true).1 l.invariant.planned)

pub returns-then-not-take_one-clause-few : goal.returns-then-not-take_one-clause-few
returns-then-not-take_one-clause-few c = c.take_one.ensures.few c.loop-change.invariant.planned.few

pub returns-then-not-take_one-clause-on : goal.returns-then-not-take_one-clause-on
returns-then-not-take_one-clause-on c =
    let l = c.loop-change in
    let e = c.take_one.ensures in
    planned_on _ _ (planned_as _ _ l.self.numbers.items l.self.lsns.items (e.same c.if-not-take_one.true).0 (e.same c.if-not-take_one.true).1 l.invariant.planned)

pub returns-then-not-take_one-clause-apart : goal.returns-then-not-take_one-clause-apart
returns-then-not-take_one-clause-apart c =
    let l = c.loop-change in
    let e = c.take_one.ensures in
    let same = e.same c.if-not-take_one.true in
    let so = planned_as c.take_one.new.self.numbers.items c.take_one.new.self.lsns.items l.self.numbers.items l.self.lsns.items same.0 same.1 l.invariant.planned in
    planned_apart c.args.most c.args.changes.now c.requires.order (0, 0) l.change-index c.take_one.new.self.numbers.items c.take_one.new.self.lsns.items so c.loop-change-test.true
    (λ last. e.other c.if-not-take_one.true (subst (λ (ns : List ℕ). IsLast ns (get_or c.args.changes.now l.change-index (0, 0)).0) same.0 last))

-- where all were taken

pub returns-after-loop-change-clause-within : goal.returns-after-loop-change-clause-within
returns-after-loop-change-clause-within c = omega (arith, c.loop-change.invariant.planned.long, c.loop-change.auto.change-index-end)

pub returns-after-loop-change-clause-some : goal.returns-after-loop-change-clause-some
returns-after-loop-change-clause-some c some = omega (arith, c.loop-change.invariant.planned.long, c.loop-change-test.false, some)

pub returns-after-loop-change-clause-lsns : goal.returns-after-loop-change-clause-lsns
returns-after-loop-change-clause-lsns c = planned_lsns _ _ c.loop-change.invariant.planned

pub returns-after-loop-change-clause-rising : goal.returns-after-loop-change-clause-rising
returns-after-loop-change-clause-rising c = c.loop-change.invariant.planned.rising

pub returns-after-loop-change-clause-few : goal.returns-after-loop-change-clause-few
returns-after-loop-change-clause-few c = c.loop-change.invariant.planned.few

pub returns-after-loop-change-clause-on : goal.returns-after-loop-change-clause-on
returns-after-loop-change-clause-on c = planned_on _ _ c.loop-change.invariant.planned

pub returns-after-loop-change-clause-apart : goal.returns-after-loop-change-clause-apart
returns-after-loop-change-clause-apart c = planned_all _ _ c.loop-change.invariant.planned (omega (arith, c.loop-change-test.false))
