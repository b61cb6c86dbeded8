use Rattle.std.proofs.Common.{◌≡◌, [], ◌∷◌, ◌++◌, subst}
use Rattle.im_page_writer.proofs.Outcomes.{refused, sound_on, then}
use Rattle.im_smo_drop_leaf.specs.Given.{IsGiven}
use Rattle.im_smo_drop_leaf.proofs.Frees.{last_first, given_first, given_more, next_given, none_left}
use Rattle.im_smo_drop_leaf.proofs.giving.give_back.Goals as goal

pub returns-in_err-free-clause-kept : goal.returns-in_err-free-clause-kept
returns-in_err-free-clause-kept g c pages tree =
    let above = c.args.above.now.items in
    sound_on c.from_residual.result _ _ c.from_residual.ensures.1
    (c.in_err-free.ensures.kept pages above (last_first g.D.Disk pages c.args.images.now above c.args.leaf c.args.writer.now c.args.disk.now tree))

pub loop-number-init : goal.loop-number-init
loop-number-init g c =
    let e = c.in_ok-free.ensures in
    let above = c.args.above.now.items in
    record {
      outcome = e.outcome;
      kept = λ pages tree. given_first pages c.args.images.now c.free.new.images above c.args.leaf
          (e.kept pages above (last_first g.D.Disk pages c.args.images.now above c.args.leaf c.args.writer.now c.args.disk.now tree));
    }

pub returns-in_err-free-2-clause-outcome : goal.returns-in_err-free-2-clause-outcome
returns-in_err-free-2-clause-outcome g c =
    refused g.D.Disk c.from_residual-in_err-free-2.result c.from_residual-in_err-free-2.ensures.1 (then g.D.Disk c.loop-number.invariant.outcome c.in_err-free-2.ensures.outcome)

pub returns-in_err-free-2-clause-kept : goal.returns-in_err-free-2-clause-kept
returns-in_err-free-2-clause-kept g c pages tree =
    let l = c.loop-number in
    let above = c.args.above.now.items in
    let rest = c.pop.new.self.items in
    sound_on c.from_residual-in_err-free-2.result _ _ c.from_residual-in_err-free-2.ensures.1
    (c.in_err-free-2.ensures.kept pages rest
    (next_given g.D.Disk pages c.args.images.now l.images c.args.leaf above l.above.items rest (above ++ c.args.leaf ∷ []) c.in-Some.number tree l.invariant.outcome (l.invariant.kept pages tree) c.in-Some.ensures.items))

pub loop-number-preserved : goal.loop-number-preserved
loop-number-preserved g c =
    let l = c.loop-number in
    let e = c.in_ok-free-2.ensures in
    let images = c.args.images.now in
    let leaf = c.args.leaf in
    let above = c.args.above.now.items in
    let rest = c.pop.new.self.items in
    let q = c.in-Some.number in
    record {
      outcome = then g.D.Disk l.invariant.outcome e.outcome;
      kept = λ pages tree.
          let so = l.invariant.kept pages tree in
          given_more pages images l.images c.free-in-Some.new.images above rest l.above.items leaf q c.in-Some.ensures.items so
          (e.kept pages rest (next_given g.D.Disk pages images l.images leaf above l.above.items rest (above ++ leaf ∷ []) q tree l.invariant.outcome so c.in-Some.ensures.items));
    }

pub returns-clause-outcome : goal.returns-clause-outcome
returns-clause-outcome g c = c.loop-number.invariant.outcome

pub returns-clause-kept : goal.returns-clause-kept
returns-clause-kept g c pages tree =
    let l = c.loop-number in
    let none : l.above.items ≡ [] = none_left l.above.len l.above.items l.above.ok.0 c.in_default.ensures.cases.0 in
    subst (IsGiven pages c.args.images.now l.images c.args.leaf c.args.above.now.items) none (l.invariant.kept pages tree)
