use Rattle.std.proofs.Common.{◌≡◌, ℕ, ◌∙◌, ap, arith, length, take, drop, length-drop, length-take-le, take_at}
use Rattle.im_base_types.specs.declared.file_id.FileId.TheVariants.{Log}
use Rattle.im_base_disk.specs.Disk.{Files}
use Rattle.im_log.proofs.Places.{size_is}
use Rattle.im_log.proofs.read_front.read_front.Goals as goal
use Rattle.im_log.proofs.read_front.read_front.Goals.{then-size-lt4-via-then-size-lt4, then-size-lt4-via-else-size-lt4+then-size-gt-LONGEST, then-size-lt4-via-else-size-lt4+else-size-gt-LONGEST+then-size-end}

pub returns-then-size-lt4-clause-refused : goal.returns-then-size-lt4-clause-refused
returns-then-size-lt4-clause-refused g c is told f =
    let rest = drop c.args.place (g.D.Disk.seen c.args.disk.now Log) in
    let size = size_is c.from-size.result c.read.new.buf rest (c.from-size.ensures ∙ c.read_u32.ensures) (c.in_ok-read.ensures.read told ∙ ap (λ (s : Files). take 4 (drop c.args.place (s Log))) c.len.ensures.reads.seen) in
    let end = c.in_ok-end.ensures.len told in
    let long = length-drop c.args.place (g.D.Disk.seen c.args.disk.now Log) in
    elim c.then-size-lt4.branch [
      | then-size-lt4-via-then-size-lt4 w ↦ omega (arith, size, f.least)
      | then-size-lt4-via-else-size-lt4+then-size-gt-LONGEST w ↦ omega (arith, size, f.room)
      | then-size-lt4-via-else-size-lt4+else-size-gt-LONGEST+then-size-end w ↦ omega (arith, size, f.most, end, long)
    ]

pub returns-clause-read : goal.returns-clause-read
returns-clause-read g c told =
    let rest = drop c.args.place (g.D.Disk.seen c.args.disk.now Log) in
    let n = c.from-size.result in
    let room = c.args.room.now in
    let cut : length (take n room) ≡ n = length-take-le n room (omega (arith, c.requires.room)) in
    let long : length c.read-2.new.buf ≡ n = c.read-2.auto.buf ∙ cut in
    record {
      sized = size_is n c.read.new.buf rest (c.from-size.ensures ∙ c.read_u32.ensures) (c.in_ok-read.ensures.read told ∙ ap (λ (s : Files). take 4 (drop c.args.place (s Log))) c.len.ensures.reads.seen);
      same =
          take_at c.read-2.new.buf (drop n room) n long
          ∙ c.in_ok-read-2.ensures.read told
          ∙ ap (λ (k : ℕ). take k (drop c.args.place (g.D.Disk.seen c.read.new.self Log))) cut
          ∙ ap (λ (s : Files). take n (drop c.args.place (s Log))) (c.read.ensures.reads.seen ∙ c.len.ensures.reads.seen);
    }
