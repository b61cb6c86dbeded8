use Rattle.std.proofs.Common.{◌≤◌, ℕ, List, Option, Some, IfSome, ◌+◌, length, take, drop, sym, ◌∙◌, ap, subst}
use Rattle.im_base_disk.specs.Disk.{Files}
use Rattle.im_log_sum_gate.specs.Sealed.{HasLength}
use Rattle.im_log_sum_gate.proofs.AtGates.{batch_read, in_buffer, none_there, read_long, shown_there}
use Rattle.im_log_sum_gate.proofs.reading.batch_at.Goals as goal

pub returns-then-not-fits-clause-none : goal.returns-then-not-fits-clause-none
returns-then-not-fits-clause-none g c is told =
    let file : List ℕ = g.D.Disk.seen c.args.disk.now c.args.file in
    let size : ℕ = c.in-Some.size in
    let ranged = subst (λ (o : Option ℕ). IfSome o (λ (s : ℕ). (9 ≤ s) × (s ≤ 16384))) c.in-Some.is c.in_ok-size.ensures.size in
    let has = subst (λ (o : Option ℕ). IfSome o (λ (s : ℕ). g.D.Disk.tells → HasLength s (drop (c.args.place + 1) file))) c.in-Some.is c.in_ok-size.ensures.some told in
    none_there c.args.header.now c.args.place file (c.requires.within told) (c.requires.opened told) size c.read.new.buf ranged.0 has.length has.whole
    (batch_read c.args.buffer.now c.read.new.buf file size c.args.place c.requires.room ranged.1 (c.in_ok-read.ensures.read told ∙ ap (λ (f : Files). take (length (take (size + 5) c.args.buffer.now)) (drop c.args.place (f c.args.file))) c.in_ok-size.ensures.reads.seen))
    (sym c.has_sum-fits.ensures ∙ c.if-not-fits.true)

pub returns-clause-some : goal.returns-clause-some
returns-clause-some g c told =
    let file : List ℕ = g.D.Disk.seen c.args.disk.now c.args.file in
    let size : ℕ = c.in-Some.size in
    let ranged = subst (λ (o : Option ℕ). IfSome o (λ (s : ℕ). (9 ≤ s) × (s ≤ 16384))) c.in-Some.is c.in_ok-size.ensures.size in
    let has = subst (λ (o : Option ℕ). IfSome o (λ (s : ℕ). g.D.Disk.tells → HasLength s (drop (c.args.place + 1) file))) c.in-Some.is c.in_ok-size.ensures.some told in
    let read = batch_read c.args.buffer.now c.read.new.buf file size c.args.place c.requires.room ranged.1 (c.in_ok-read.ensures.read told ∙ ap (λ (f : Files). take (length (take (size + 5) c.args.buffer.now)) (drop c.args.place (f c.args.file))) c.in_ok-size.ensures.reads.seen) in
    shown_there c.args.header.now c.args.place file (c.requires.within told) (c.requires.opened told) size c.read.new.buf ranged.0 has.length has.whole read (sym c.has_sum-fits.ensures ∙ c.if-not-fits.false)
    ∙ ap Some (sym (in_buffer c.read.new.buf (drop (size + 5) c.args.buffer.now) size (read_long file size c.args.place c.read.new.buf (c.requires.within told) has ranged.0 read) ranged.0))
