use Rattle.im_test_writer.proofs.Rising.{pages_rise}
use Rattle.im_test_writer.proofs.rounds.redo.Goals as goal

pub redo_round-requires-clause-rising : goal.redo_round-requires-clause-rising
redo_round-requires-clause-rising g c lives outlive = pages_rise
