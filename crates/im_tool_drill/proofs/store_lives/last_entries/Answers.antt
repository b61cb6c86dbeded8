use Rattle.std.proofs.Common.{subst, sym}
use Rattle.im_base_disk.specs.Disk.{Files}
use Rattle.im_engine.specs.Stands.{StandsFor}
use Rattle.im_tool_drill.proofs.NamedDisk.{named_ghosts, own_seen, own_synced, own_working}
use Rattle.im_tool_drill.proofs.StoreRunning.{opened_as}
use Rattle.im_tool_drill.proofs.StoreLooks.{entries_match}
use Rattle.im_tool_drill.proofs.store_lives.last_entries.Goals as goal

pub look-found-requires-clause-working : goal.look-found-requires-clause-working
look-found-requires-clause-working g c lifetimes within = own_working c.args.disk c.new.result (c.new.ensures.disk, c.new.ensures.swapped) c.requires.working

pub look-found-requires-clause-synced : goal.look-found-requires-clause-synced
look-found-requires-clause-synced g c lifetimes within = own_synced c.args.disk c.new.result (c.new.ensures.disk, c.new.ensures.swapped) c.requires.synced

pub returns-clause-found : goal.returns-clause-found
returns-clause-found g c after stands =
    let seen = own_seen c.args.disk c.new.result (c.new.ensures.disk, c.new.ensures.swapped) in
    entries_match (λ l. l.items) c.look-found.result.0 after (λ b. StandsFor b (named_ghosts.seen c.new.result)) (subst (λ (f : Files). StandsFor after f) (sym seen) stands) c.look-found.ensures.shows c.look-found.ensures.never

pub returns-clause-run : goal.returns-clause-run
returns-clause-run g c =
    let is = c.look-found.ensures.look in
    let e = is.opening in
    record {
      named = c.new.result;
      own = (c.new.ensures.disk, c.new.ensures.swapped);
      result = is.result;
      opening = record {
        config = c.config_of.result;
        of = c.config_of.ensures.config;
        kept = λ before stands. e.kept before tt stands;
        opened = opened_as named_ghosts c.config_of.result.max_pages is.result e.opened e.limit;
        pool = e.pool;
        frames = e.frames;
        workers = e.workers;
        device = e.device;
        causes = e.causes;
        spelled = e.spelled;
        unspelled = e.unspelled;
        full = e.full;
      };
      end = c.look-found.result.1;
      found = is.by;
      left = c.into_disk.ensures;
    }
