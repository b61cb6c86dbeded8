-- The lemmas that the crates above cite, passed on from one place. Declares nothing.
pub use Rattle.im_theory_log.proofs.Histories.{after_lsn, below_between, below_has, below_newest, below_older, end_below, end_le, front_of_front, front_self, no_change, none_below, page_here, page_lsn_le, page_lsn_up, page_other, page_same, rises_below, rises_in, start_low, whole_below}
pub use Rattle.im_theory_log.proofs.Redo.{reached_end, reaches_exact, reaches_one}
pub use Rattle.im_theory_log.proofs.Copies.{Joins, copies, copy_grows, joins, leaves, noted_here}
pub use Rattle.im_theory_log.proofs.RedoPoints.{covers_base, least_start, point_checkpoint, point_low, point_same}
pub use Rattle.im_theory_log.proofs.Fronts.{fronts_lawful, has_tree, rises}
pub use Rattle.im_theory_log.proofs.Named.{named_up}
pub use Rattle.im_theory_log.proofs.Committed.{nets_of}
pub use Rattle.im_theory_log.proofs.Settled.{settled_smo}
pub use Rattle.im_theory_log.proofs.Appends.{append_checkpoint, append_dummy, append_smo, left_alone}
pub use Rattle.im_theory_log.proofs.Stacks.{IsStack, is_stack, last_le}
pub use Rattle.im_theory_log.proofs.OpenSmo.{IsOpenSmo, IsOwned, is_open_smo, not_part, owned, part, split}
pub use Rattle.im_theory_log.proofs.Chains.{closed_place, leads_all, undone_place}
pub use Rattle.im_theory_log.proofs.UndoReads.{reads_past, undo_reads_top}
pub use Rattle.im_theory_log.proofs.Compensated.{in_log}
pub use Rattle.im_theory_log.proofs.PageCounts.{count_begun, count_front, count_grows, count_low, count_more, count_said, named_in, named_le_count, noted_named, page_count_le, record_within}
pub use Rattle.im_theory_log.proofs.Images.{images_last, images_open, images_pages, images_undo_next, lawful_images}
pub use Rattle.im_theory_log.proofs.WriterFronts.{left_all, left_split, whole}
pub use Rattle.im_theory_log.proofs.WriterCovers.{covers}
pub use Rattle.im_theory_log.proofs.WriterWrites.{forced_kept, forgotten_kept, may_after, only_kept, read_back, still_none, synced_kept, written_kept}
pub use Rattle.im_theory_log.proofs.WriterGrowth.{grown_kept, left_grown}
pub use Rattle.im_theory_log.proofs.WriterAppends.{appended_kept, changed_kept}
pub use Rattle.im_theory_log.proofs.WriterCheckpoints.{checkpoint_kept, next_point}
pub use Rattle.im_theory_log.proofs.WriterRedo.{imaged_kept, redone_kept}
pub use Rattle.im_theory_log.proofs.LogLaws.{finished_none, finished_tree, logs_stay_lawful, on_top}
pub use Rattle.im_theory_log.proofs.PageLaws.{redo_reaches_the_page}
