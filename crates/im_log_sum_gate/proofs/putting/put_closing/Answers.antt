use Rattle.im_base_disk.proofs.Runs.{changes_then}
use Rattle.im_log_sum_gate.proofs.Puts.{closed_then, may_again, shut_now, shut_within, whole_after}
use Rattle.im_log_sum_gate.proofs.putting.put_closing.Goals as goal

pub put_twice-requires-clause-within : goal.put_twice-requires-clause-within
put_twice-requires-clause-within g c told = shut_within c.args.place (g.D.Disk.seen c.args.disk.now c.args.file) (g.D.Disk.seen c.close.new.disk c.args.file) (c.requires.within told) (c.in_ok-close.ensures.written told)

pub put_twice-requires-clause-closed : goal.put_twice-requires-clause-closed
put_twice-requires-clause-closed g c told = shut_now c.args.place (g.D.Disk.seen c.args.disk.now c.args.file) (g.D.Disk.seen c.close.new.disk c.args.file) (c.requires.within told) (c.in_ok-close.ensures.written told)

pub returns-in_err-close-clause-any_moment : goal.returns-in_err-close-clause-any_moment
returns-in_err-close-clause-any_moment g c h before bs ends may = c.close.ensures.any_moment h before bs ends

pub returns-in_err-put_twice-clause-any_moment : goal.returns-in_err-put_twice-clause-any_moment
returns-in_err-put_twice-clause-any_moment g c h before bs ends may =
    closed_then g.D.Disk c.args.file c.args.disk.now c.close.new.disk c.put_twice.new.disk h before bs (c.close.ensures.any_moment h before bs ends) c.in_ok-close.ensures.changes
    (c.put_twice.ensures.any_moment h before bs
    (λ told. may_again h c.args.place before bs c.args.bytes.now (g.D.Disk.seen c.args.disk.now c.args.file) (g.D.Disk.seen c.close.new.disk c.args.file) (may told) (c.in_ok-close.ensures.written told) c.requires.opens.0))

pub returns-clause-any_moment : goal.returns-clause-any_moment
returns-clause-any_moment g c h before bs ends may =
    closed_then g.D.Disk c.args.file c.args.disk.now c.close.new.disk c.put_twice.new.disk h before bs (c.close.ensures.any_moment h before bs ends) c.in_ok-close.ensures.changes
    (c.put_twice.ensures.any_moment h before bs
    (λ told. may_again h c.args.place before bs c.args.bytes.now (g.D.Disk.seen c.args.disk.now c.args.file) (g.D.Disk.seen c.close.new.disk c.args.file) (may told) (c.in_ok-close.ensures.written told) c.requires.opens.0))

pub returns-clause-written : goal.returns-clause-written
returns-clause-written g c told =
    whole_after c.args.place c.args.bytes.now (g.D.Disk.seen c.args.disk.now c.args.file) (g.D.Disk.seen c.close.new.disk c.args.file) (g.D.Disk.seen c.put_twice.new.disk c.args.file) (c.requires.within told) c.requires.opens.0
    (c.in_ok-close.ensures.written told) (c.in_ok-put_twice.ensures.written told)

pub returns-in_err-put_twice-clause-changes : goal.returns-in_err-put_twice-clause-changes
returns-in_err-put_twice-clause-changes g c = changes_then g.D.Disk c.args.file c.args.disk.now c.close.new.disk c.put_twice.new.disk c.in_ok-close.ensures.changes c.in_err-put_twice.ensures.changes

pub returns-clause-changes : goal.returns-clause-changes
returns-clause-changes g c = changes_then g.D.Disk c.args.file c.args.disk.now c.close.new.disk c.put_twice.new.disk c.in_ok-close.ensures.changes c.in_ok-put_twice.ensures.changes
