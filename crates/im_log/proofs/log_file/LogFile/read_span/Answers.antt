use Rattle.std.proofs.Common.{◌≡◌, ℕ, ◌-◌, ◌<◌, List, ◌++◌, length, take, drop, refl, sym, ◌∙◌, ap, subst, rules, arith, length-take-le, take_at}
use Rattle.im_base_types.specs.Outcomes.{none_own}
use Rattle.im_base_types.specs.declared.file_id.FileId.{FileId}
use Rattle.im_base_types.specs.declared.file_id.FileId.TheVariants.{Log}
use Rattle.im_log_gate.specs.Gate.{place_of}
use Rattle.im_log.specs.Span.{IsSpanOf}
use Rattle.im_log.proofs.Outcomes.{was_read}
use Rattle.im_log.proofs.Spans.{nothing_spans, spans}
use Rattle.im_log.proofs.log_file.LogFile.read_span.Goals as goal

pub returns-then-from-self-clause-span : goal.returns-then-from-self-clause-span
returns-then-from-self-clause-span g c base all durable h = nothing_spans all c.args.from (take 0 c.args.room.now) refl

pub returns-then-at-place-clause-span : goal.returns-then-at-place-clause-span
returns-then-at-place-clause-span g c base all durable h = nothing_spans all c.args.from (take 0 c.args.room.now) refl

pub read-requires-clause-within : goal.read-requires-clause-within
read-requires-clause-within g c told =
    let log = c.args.self.now in
    let n : ℕ = c.min-size.result in
    let gate_works = c.requires.ready.working c.if-self.false in
    let reach = (c.requires.ready.ready.reading.reaches gate_works told).within in
    let in_log : place_of log.gate < length (g.D.Disk.seen c.args.disk.now Log) = subst (λ (f : FileId). place_of log.gate < length (g.D.Disk.seen c.args.disk.now f)) log.of_log.file reach in
    let cut : length (take n c.args.room.now) ≡ n = length-take-le n c.args.room.now (omega (arith, c.min-size.ensures)) in
    omega (arith, in_log, cut, c.min-size.ensures)

pub returns-in_err-read-clause-outcome : goal.returns-in_err-read-clause-outcome
returns-in_err-read-clause-outcome g c =
    was_read g.D.Disk none_own c.args.self.now c.args.disk.now c.read.new.self c.from_residual.result c.requires.ready c.read.ensures.reads (search rules)

pub returns-clause-outcome : goal.returns-clause-outcome
returns-clause-outcome g c = was_read g.D.Disk none_own c.args.self.now c.args.disk.now c.read.new.self _ c.requires.ready c.read.ensures.reads (search rules)

pub returns-clause-span : goal.returns-clause-span
returns-clause-span g c base all durable h =
    let log = c.args.self.now in
    let at : ℕ = c.args.from - log.base in
    let n : ℕ = c.min-size.result in
    let room = c.args.room.now in
    let cut : length (take n room) ≡ n = length-take-le n room (omega (arith, c.min-size.ensures)) in
    let long : length c.read.new.buf ≡ n = c.read.auto.buf ∙ cut in
    let bytes : take n (c.read.new.buf ++ drop n room) ≡ take n (drop at (g.D.Disk.seen c.args.disk.now Log)) =
    take_at c.read.new.buf (drop n room) n long ∙ c.in_ok-read.ensures.read h.tells ∙ ap (λ (k : ℕ). take k (drop at (g.D.Disk.seen c.args.disk.now Log))) cut in
    subst (λ (l : List ℕ). IsSpanOf all c.args.from l) (sym bytes) (spans g.D.Disk base all durable log c.args.disk.now c.requires.ready h at n c.args.from (omega arith) (omega (arith, c.min-size.ensures)))
