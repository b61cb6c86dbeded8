use Rattle.std.proofs.Common.{Bool, subst, sym}
use Rattle.im_log_choice.specs.declared.choosing.Choice.{Choice}
use Rattle.im_log_choice.specs.Chosen.{IsChosen}
use Rattle.im_log_choice.specs.Current.{IsCurrent}
use Rattle.im_log_choice.proofs.Names.{current_kept, current_turned, found_kept, found_turned, has_kept, has_turned, none_turned, other_way, reads_kept, reads_turned, says_first}
use Rattle.im_log_choice.proofs.choosing.choose.Goals as goal

-- ---- the headers were not read

pub returns-in_err-logs-clause-reads : goal.returns-in_err-logs-clause-reads
returns-in_err-logs-clause-reads g c = reads_kept g.D.Disk c.args.disk.now c.read_both.new.disk c.in_err-logs.ensures.reads

-- ---- nothing says which

pub returns-in-Neither-clause-refused : goal.returns-in-Neither-clause-refused
returns-in-Neither-clause-refused g c is told =
    let files = g.D.Disk.seen c.args.disk.now in
    subst (λ (x : Choice). IsChosen x files) c.in-Neither.is (c.which_current.ensures files (c.in_ok-logs.ensures.found told))

pub returns-in-Neither-clause-reads : goal.returns-in-Neither-clause-reads
returns-in-Neither-clause-reads g c = reads_kept g.D.Disk c.args.disk.now c.read_both.new.disk c.in_ok-logs.ensures.reads

-- ---- the names stay

pub returns-in-First-clause-current : goal.returns-in-First-clause-current
returns-in-First-clause-current g c told =
    let files = g.D.Disk.seen c.args.disk.now in
    let is = subst (λ (x : Choice). IsChosen x files) c.in-First.is (c.which_current.ensures files (c.in_ok-logs.ensures.found told)) in
    let reads = c.in_ok-logs.ensures.reads in
    (current_kept g.D.Disk c.args.disk.now c.read_both.new.disk reads is.0, has_kept g.D.Disk c.args.disk.now c.read_both.new.disk reads is.1)

pub returns-in-First-clause-found : goal.returns-in-First-clause-found
returns-in-First-clause-found g c told = found_kept g.D.Disk c.args.disk.now c.read_both.new.disk c.in_ok-logs.ensures.reads c.in_ok-logs.logs (c.in_ok-logs.ensures.found told)

pub returns-in-First-clause-swapped : goal.returns-in-First-clause-swapped
returns-in-First-clause-swapped g c told =
    let files = g.D.Disk.seen c.args.disk.now in
    subst (λ (s : Bool). IsCurrent s files) (sym c.in_ok-logs.ensures.stays) (subst (λ (x : Choice). IsChosen x files) c.in-First.is (c.which_current.ensures files (c.in_ok-logs.ensures.found told))).0

pub returns-in-First-clause-first : goal.returns-in-First-clause-first
returns-in-First-clause-first g c told = says_first c.in_ok-logs.logs (g.D.Disk.seen c.args.disk.now) (c.in_ok-logs.ensures.found told)

pub returns-in-First-clause-reads : goal.returns-in-First-clause-reads
returns-in-First-clause-reads g c = reads_kept g.D.Disk c.args.disk.now c.read_both.new.disk c.in_ok-logs.ensures.reads

-- ---- they change

pub returns-in-Second-clause-current : goal.returns-in-Second-clause-current
returns-in-Second-clause-current g c told =
    let files = g.D.Disk.seen c.args.disk.now in
    let is = subst (λ (x : Choice). IsChosen x files) c.in-Second.is (c.which_current.ensures files (c.in_ok-logs.ensures.found told)) in
    let reads = c.in_ok-logs.ensures.reads in (
      current_turned g.D.Disk c.args.disk.now c.read_both.new.disk reads c.swap_logs.new.self c.swap_logs.ensures.seen is.0,
      has_turned g.D.Disk c.args.disk.now c.read_both.new.disk reads c.swap_logs.new.self c.swap_logs.ensures.seen is.1,
    )

pub returns-in-Second-clause-found : goal.returns-in-Second-clause-found
returns-in-Second-clause-found g c told =
    found_turned g.D.Disk c.args.disk.now c.read_both.new.disk c.in_ok-logs.ensures.reads c.swap_logs.new.self c.swap_logs.ensures.seen c.in_ok-logs.logs (c.in_ok-logs.ensures.found told)

pub returns-in-Second-clause-swapped : goal.returns-in-Second-clause-swapped
returns-in-Second-clause-swapped g c told =
    let files = g.D.Disk.seen c.args.disk.now in (subst (λ (x : Choice). IsChosen x files) c.in-Second.is (c.which_current.ensures files (c.in_ok-logs.ensures.found told))).0

pub returns-in-Second-clause-first : goal.returns-in-Second-clause-first
returns-in-Second-clause-first g c told = other_way (says_first c.in_ok-logs.logs (g.D.Disk.seen c.args.disk.now) (c.in_ok-logs.ensures.found told))

pub returns-in-Second-clause-reads : goal.returns-in-Second-clause-reads
returns-in-Second-clause-reads g c =
    reads_turned g.D.Disk c.args.disk.now c.read_both.new.disk c.in_ok-logs.ensures.reads c.swap_logs.new.self c.swap_logs.ensures.seen c.swap_logs.ensures.may_leave c.swap_logs.ensures.moment c.swap_logs.ensures.left_since
    c.swap_logs.ensures.writes c.swap_logs.ensures.syncs

pub returns-in-Second-clause-unmade : goal.returns-in-Second-clause-unmade
returns-in-Second-clause-unmade g c told log other =
    let files = g.D.Disk.seen c.args.disk.now in
    absurd (none_turned files log other (subst (λ (x : Choice). IsChosen x files) c.in-Second.is (c.which_current.ensures files (c.in_ok-logs.ensures.found told))).0)
