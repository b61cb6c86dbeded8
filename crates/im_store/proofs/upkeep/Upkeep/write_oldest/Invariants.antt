use Rattle.std.proofs.Common.{◌≡◌}
use Rattle.im_store.specs.Noted.{IsStill}
use Rattle.im_store.specs.Rule.{IsWritten, KnowsPages}
use Rattle.im_store.proofs.upkeep.Upkeep.write_oldest.Given as goal

abbrev pub invariant-loop-written : goal.invariant-loop-written
invariant-loop-written g l = record {
  written : IsWritten g.D.Disk l.fn.engine l.engine;
  bounds : l.self.bounds ≡ l.fn.self.bounds;
  still : IsStill l.fn.self l.self;
  known : KnowsPages g.D.Disk l.fn.engine l.fn.self.pages l.self.pages;
}
