use Rattle.std.proofs.Common.{◌≡◌, ◌∙◌, false, sym}
use Rattle.im_base_txn.specs.Rows.{is_waiting}
use Rattle.im_engine.proofs.Standing.{counts_row}
use Rattle.im_engine.proofs.engine.Engine.changes.Goals as goal

pub returns-in-Some : goal.returns-in-Some
returns-in-Some g c =
    let free : is_waiting c.in-Some.row ≡ false = sym c.is_committing.ensures ∙ c.if-not-is_committing.true in
    counts_row g.D.Disk c.args.t c.args.self.now c.if-self.false c.in-Some.row (sym c.in-Some.ensures.found) free
