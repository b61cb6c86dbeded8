use Rattle.im_engine.proofs.engine.Engine.open_alone.Goals as goal

pub returns-clause-opening : goal.returns-clause-opening
returns-clause-opening g c =
    let is = c.open_by.ensures in
    record {
      kept = λ before told stands. is.kept before told c.requires.synced stands;
      plain = is.plain;
      opened = is.opened;
      limit = is.limit;
      dense = is.dense;
      pool = is.pool;
      group = is.group;
      spelled = is.spelled;
      frames = is.frames;
      workers = is.workers;
      untouched = is.untouched;
      device = is.device;
      causes = is.causes;
      full = is.full;
      unspelled = is.unspelled;
    }
