-- The laws of redo, of what logs cover and of page writes, from their lemmas.
use Rattle.im_theory_log.specs.Copies.{redo_all}
use Rattle.im_theory_log.specs.PageLaws.{CoverIsKept, PageWritesAreCovered, ReachedPagesMayBeCopied, RedoReachesThePage}
use Rattle.im_theory_log.proofs.Redo.{reaches_exact, redo_reaches}
use Rattle.im_theory_log.proofs.RedoPoints.{covers_append, covers_base, covers_checkpoint}
use Rattle.im_theory_log.proofs.WriterAppends.{appended_kept, changed_kept}
use Rattle.im_theory_log.proofs.WriterCheckpoints.{checkpoint_kept}
use Rattle.im_theory_log.proofs.WriterCovers.{covers, full_copy}
use Rattle.im_theory_log.proofs.WriterOpenings.{opened_kept, redo_ends}
use Rattle.im_theory_log.proofs.WriterRedo.{imaged_kept, loaded_kept, redone_kept}
use Rattle.im_theory_log.proofs.WriterWrites.{forced_kept, forgotten_kept, synced_kept, written_kept}

pub redo_reaches_the_page : RedoReachesThePage redo_all
redo_reaches_the_page b older records bound p g up low has = redo_reaches b records older bound p g up low has

pub reached_may_be_copied : ReachedPagesMayBeCopied
reached_may_be_copied b log bound p g up has = reaches_exact b log bound p g up has

pub cover_is_kept : CoverIsKept
cover_is_kept = record { base = covers_base; append = covers_append; checkpoint = covers_checkpoint }

pub page_writes_are_covered : PageWritesAreCovered
page_writes_are_covered = record {
  covers = λ b s kept file left_pages left is. covers b s kept file left_pages left is;
  full_copy = λ b s kept p unsynced. full_copy b s kept p unsynced;
  opens = opened_kept;
  forces = forced_kept;
  writes = written_kept;
  syncs = synced_kept;
  appends = λ b s r kept may same. appended_kept b s r kept may same;
  changes = λ b s r kept may names. changed_kept b s r kept may names;
  forgets = forgotten_kept;
  checkpoints = λ b s r e n a d kept over last is lists synced_all none. checkpoint_kept b s r e n a d kept over last is lists synced_all none;
  images = λ b s r kept going last c is ready exact same. imaged_kept b s r kept going last c is ready exact same;
  loads = λ b s p l c kept going waits found. loaded_kept b s p l c kept going waits found;
  redoes = redone_kept;
  ends = redo_ends;
}
