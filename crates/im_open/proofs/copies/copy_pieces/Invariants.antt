use Rattle.std.proofs.Common.{◌≡◌, length}
use Rattle.im_open.specs.Copied.{ArePieces, OnlyItsDisk}
use Rattle.im_open.proofs.copies.copy_pieces.Given as goal

abbrev pub invariant-loop-count : goal.invariant-loop-count
invariant-loop-count g l = record {
  only : OnlyItsDisk _ l.fn.store l.store;
  size : length l.room ≡ length l.fn.room;
  made : ArePieces _ _ _ (length l.fn.room) l.fn.store.engine l._count l.store.engine;
}
