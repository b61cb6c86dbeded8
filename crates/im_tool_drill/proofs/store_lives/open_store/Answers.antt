use Rattle.im_tool_drill.proofs.StoreRunning.{opened_as, opened_in_group}
use Rattle.im_tool_drill.proofs.NamedDisk.{named_ghosts}
use Rattle.im_tool_drill.proofs.store_lives.open_store.Goals as goal

pub returns-clause-opening : goal.returns-clause-opening
returns-clause-opening g c =
    let e = c.open_or_create.ensures in
    record {
      config = c.config_of.result;
      of = c.config_of.ensures.config;
      kept = λ before stands. e.kept before tt c.requires.synced stands;
      opened = opened_as named_ghosts c.config_of.result.max_pages c.open_or_create.result e.opened e.limit;
      pool = e.pool;
      frames = e.frames;
      workers = e.workers;
      device = e.device;
      causes = e.causes;
      spelled = e.spelled;
      unspelled = e.unspelled;
      full = e.full;
    }

pub returns-clause-group : goal.returns-clause-group
returns-clause-group g c = opened_in_group named_ghosts c.config_of.result.group _ c.open_or_create.result c.open_or_create.ensures.group c.config_of.ensures.config.group
