use Rattle.std.proofs.Common.{◌≡◌, length, ◌∙◌, ap, sym, arith}
use Rattle.std.proofs.lemmas.List.{nil_from_length}
use Rattle.im_base_disk.specs.Disk.{Files}
use Rattle.im_load.proofs.loader.is_empty.Goals as goal

pub returns-then-len-eq0-clause-empty : goal.returns-then-len-eq0-clause-empty
returns-then-len-eq0-clause-empty g c same told =
    ap (λ (f : Files). f c.args.file) c.in_ok-len.ensures.reads.seen
    ∙ nil_from_length (g.D.Disk.seen c.args.disk.now c.args.file) (let zero : length (g.D.Disk.seen c.args.disk.now c.args.file) ≡ 0 = omega (arith, c.in_ok-len.ensures.len told, c.if-len-eq0.true) in zero)

pub returns-clause-some : goal.returns-clause-some
returns-clause-some g c same told none =
    let was : length (g.D.Disk.seen c.args.disk.now c.args.file) ≡ 0 = ap length (sym (ap (λ (f : Files). f c.args.file) c.in_ok-len.ensures.reads.seen) ∙ none) in
    absurd (omega (arith, c.if-len-eq0.false, c.in_ok-len.ensures.len told, was))
