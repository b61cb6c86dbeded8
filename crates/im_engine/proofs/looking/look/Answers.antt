use Rattle.std.proofs.Common.{Ok, Err, refl, subst}
use Rattle.im_engine.specs.Listing.{IsListing}
use Rattle.im_engine.specs.Opening.{IsOpening}
use Rattle.im_engine.proofs.OneLook.{looked, unlooked, never_so, never_told, shows_so, shows_told}
use Rattle.im_engine.proofs.looking.look.Goals as goal

pub returns-in-Err-clause-look : goal.returns-in-Err-clause-look
returns-in-Err-clause-look g c =
    let is = c.in-Err.ensures in
    record {
      result = Err (c.in-Err.fault, c.in-Err.disk);
      opening = record {
        kept = λ before told stands. is.kept before told c.requires.synced stands;
        plain = is.plain;
        opened = is.opened;
        limit = is.limit;
        dense = is.dense;
        pool = is.pool;
        group = is.group;
        spelled = is.spelled;
        frames = is.frames;
        workers = is.workers;
        untouched = is.untouched;
        device = is.device;
        causes = is.causes;
        full = is.full;
        unspelled = is.unspelled;
      };
      by = (refl, refl);
    }

pub returns-in-Err-clause-run : goal.returns-in-Err-clause-run
returns-in-Err-clause-run g c =
    let is = c.in-Err.ensures in
    let opening : IsOpening g.D.Disk c.args.config c.args.disk (Err (c.in-Err.fault, c.in-Err.disk)) = record {
      kept = λ before told stands. is.kept before told c.requires.synced stands;
      plain = is.plain;
      opened = is.opened;
      limit = is.limit;
      dense = is.dense;
      pool = is.pool;
      group = is.group;
      spelled = is.spelled;
      frames = is.frames;
      workers = is.workers;
      untouched = is.untouched;
      device = is.device;
      causes = is.causes;
      full = is.full;
      unspelled = is.unspelled;
    } in
    unlooked g.D.Disk c.args.config c.args.disk c.in-Err.fault c.in-Err.disk opening

pub returns-in-Err-clause-never : goal.returns-in-Err-clause-never
returns-in-Err-clause-never g c before told stands = (c.in-Err.ensures.kept before told c.requires.synced stands).cause

pub returns-in-Ok-clause-look : goal.returns-in-Ok-clause-look
returns-in-Ok-clause-look g c =
    let is = c.in-Ok.ensures in
    let e = c.entries-list.ensures in
    record {
      result = Ok c.in-Ok.opened;
      opening = record {
        kept = λ before told stands. is.kept before told c.requires.synced stands;
        plain = is.plain;
        opened = is.opened;
        limit = is.limit;
        dense = is.dense;
        pool = is.pool;
        group = is.group;
        spelled = is.spelled;
        frames = is.frames;
        workers = is.workers;
        untouched = is.untouched;
        device = is.device;
        causes = is.causes;
        full = is.full;
        unspelled = is.unspelled;
      };
      by = (c.entries-list.new.self, record { outcome = e.outcome; kept = e.kept; entries = e.entries; never = e.never }, c.into_disk.ensures);
    }

pub returns-in-Ok-clause-run : goal.returns-in-Ok-clause-run
returns-in-Ok-clause-run g c told files left =
    let d = g.D.Disk in
    let is = c.in-Ok.ensures in
    let e = c.entries-list.ensures in
    let opening : IsOpening d c.args.config c.args.disk (Ok c.in-Ok.opened) = record {
      kept = λ before told stands. is.kept before told c.requires.synced stands;
      plain = is.plain;
      opened = is.opened;
      limit = is.limit;
      dense = is.dense;
      pool = is.pool;
      group = is.group;
      spelled = is.spelled;
      frames = is.frames;
      workers = is.workers;
      untouched = is.untouched;
      device = is.device;
      causes = is.causes;
      full = is.full;
      unspelled = is.unspelled;
    } in
    let listing : IsListing d c.entries-list.result c.in-Ok.opened c.entries-list.new.self = record { outcome = e.outcome; kept = e.kept; entries = e.entries; never = e.never } in
    looked d c.args.config c.args.disk c.in-Ok.opened c.entries-list.new.self opening c.entries-list.result listing told files (subst (λ x. d.left_since x (d.moment c.args.disk) files) c.into_disk.ensures left)

pub returns-in-Ok-clause-shows : goal.returns-in-Ok-clause-shows
returns-in-Ok-clause-shows g c =
    let d = g.D.Disk in
    let is = c.in-Ok.ensures in
    let e = c.entries-list.ensures in
    let opening : IsOpening d c.args.config c.args.disk (Ok c.in-Ok.opened) = record {
      kept = λ before told stands. is.kept before told c.requires.synced stands;
      plain = is.plain;
      opened = is.opened;
      limit = is.limit;
      dense = is.dense;
      pool = is.pool;
      group = is.group;
      spelled = is.spelled;
      frames = is.frames;
      workers = is.workers;
      untouched = is.untouched;
      device = is.device;
      causes = is.causes;
      full = is.full;
      unspelled = is.unspelled;
    } in
    let listing : IsListing d c.entries-list.result c.in-Ok.opened c.entries-list.new.self = record { outcome = e.outcome; kept = e.kept; entries = e.entries; never = e.never } in
    shows_told d c.args.config c.args.disk c.entries-list.result
    (λ told. shows_so d c.args.config c.args.disk c.in-Ok.opened c.entries-list.new.self opening c.entries-list.result listing told c.entries-list.result e.entries)

pub returns-in-Ok-clause-never : goal.returns-in-Ok-clause-never
returns-in-Ok-clause-never g c =
    let d = g.D.Disk in
    let is = c.in-Ok.ensures in
    let e = c.entries-list.ensures in
    let opening : IsOpening d c.args.config c.args.disk (Ok c.in-Ok.opened) = record {
      kept = λ before told stands. is.kept before told c.requires.synced stands;
      plain = is.plain;
      opened = is.opened;
      limit = is.limit;
      dense = is.dense;
      pool = is.pool;
      group = is.group;
      spelled = is.spelled;
      frames = is.frames;
      workers = is.workers;
      untouched = is.untouched;
      device = is.device;
      causes = is.causes;
      full = is.full;
      unspelled = is.unspelled;
    } in
    let listing : IsListing d c.entries-list.result c.in-Ok.opened c.entries-list.new.self = record { outcome = e.outcome; kept = e.kept; entries = e.entries; never = e.never } in
    never_told d c.args.config c.args.disk c.entries-list.result
    (λ told. never_so d c.args.config c.args.disk c.in-Ok.opened c.entries-list.new.self opening c.entries-list.result listing told c.entries-list.result e.never)
