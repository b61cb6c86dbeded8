use Rattle.std.proofs.Common.{◌≡◌, ℕ, List, ◌+◌, length, take, drop, sym, ◌∙◌, ap, arith, length-drop}
use Rattle.im_base_disk.specs.Disk.{Files}
use Rattle.im_log_sum_gate.proofs.AtGates.{has_length, whole_test}
use Rattle.im_log_sum_gate.proofs.reading.whole_length.Goals as goal

pub returns-then-not-whole-clause-none : goal.returns-then-not-whole-clause-none
returns-then-not-whole-clause-none g c is told =
    let file : List ℕ = g.D.Disk.seen c.args.disk.now c.args.file in
    let seen = ap (λ (f : Files). take 4 (drop (c.args.place + 1) (f c.args.file))) c.in_ok-size.ensures.reads.seen in
    let long : length (drop (c.args.place + 1) file) + 1 ≡ c.rest_of-rest.result = omega (arith, c.requires.within told, c.in_ok-size.ensures.len told, c.rest_of-rest.ensures, length-drop (c.args.place + 1) file) in
    sym (whole_test c.length_in-length.result c.rest_of-rest.result _ (drop (c.args.place + 1) file) c.length_in-length.ensures (c.in_ok-read.ensures.read told ∙ seen) long) ∙ sym c.is_within-whole.ensures ∙ c.if-not-whole.true

pub returns-clause-some : goal.returns-clause-some
returns-clause-some g c told =
    let file : List ℕ = g.D.Disk.seen c.args.disk.now c.args.file in
    let seen = ap (λ (f : Files). take 4 (drop (c.args.place + 1) (f c.args.file))) c.in_ok-size.ensures.reads.seen in
    let long : length (drop (c.args.place + 1) file) + 1 ≡ c.rest_of-rest.result = omega (arith, c.requires.within told, c.in_ok-size.ensures.len told, c.rest_of-rest.ensures, length-drop (c.args.place + 1) file) in
    has_length c.length_in-length.result c.rest_of-rest.result _ (drop (c.args.place + 1) file) c.length_in-length.ensures (c.in_ok-read.ensures.read told ∙ seen) long (sym c.is_within-whole.ensures ∙ c.if-not-whole.false)
