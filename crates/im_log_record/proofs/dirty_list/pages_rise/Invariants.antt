use Rattle.std.proofs.Common.{◌≡◌, drop, map, None}
use Rattle.im_log_record.specs.Entry.{dirty_in}
use Rattle.im_log_record.specs.Reading.{rises}
use Rattle.im_log_record.proofs.dirty_list.pages_rise.Given as goal

-- the rows rise if those that are left rise after the last
abbrev pub invariant-loop-bytes : goal.invariant-loop-bytes
invariant-loop-bytes l =
    rises (λ d. d.page) None (map dirty_in l.list) ≡ rises (λ d. d.page) l.last (map dirty_in (drop l.bytes-index l.list))
