use Rattle.std.proofs.Common.{◌≡◌, drop, map, None}
use Rattle.im_log_record.specs.Entry.{active_in}
use Rattle.im_log_record.specs.Reading.{rises}
use Rattle.im_log_record.proofs.active_list.transactions_rise.Given as goal

-- the rows rise if those that are left rise after the last
abbrev pub invariant-loop-bytes : goal.invariant-loop-bytes
invariant-loop-bytes l =
    rises (λ a. a.transaction) None (map active_in l.list) ≡ rises (λ a. a.transaction) l.last (map active_in (drop l.bytes-index l.list))
