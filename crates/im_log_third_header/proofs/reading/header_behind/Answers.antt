use Rattle.std.proofs.Common.{take, drop, Option, None, Result, Ok, Err, ◌∙◌, ap}
use Rattle.im_base_types.specs.declared.fault.Fault.{Fault}
use Rattle.im_base_disk.specs.Disk.{Files}
use Rattle.im_log_third_header.specs.declared.header.ThirdHeader.{ThirdHeader}
use Rattle.im_log_third_header.proofs.reading.header_behind.Goals as goal

found_in : Result (Option ThirdHeader) Fault → Option ThirdHeader
found_in (Ok found) = found
found_in (Err fault) = None

pub returns-clause-none : goal.returns-clause-none
unfolding found_in
returns-clause-none g c is_none told long h may is =
    let seen = ap (λ (f : Files). take 46 (drop 1 (f c.args.file))) c.in_ok-len.ensures.reads.seen in
    c.parse.ensures.none (ap found_in is_none) h may (c.in_ok-read.ensures.read told ∙ seen ∙ is)
