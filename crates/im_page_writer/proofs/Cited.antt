-- The lemmas that the crates above cite, passed on from one place. Declares nothing.
pub use Rattle.im_page_writer.proofs.OwnPages.{under_end}
pub use Rattle.im_page_writer.proofs.Writers.{goes_on_start, goes_on_then}
pub use Rattle.im_page_writer.proofs.LoggedChanges.{again_on, err_on}
pub use Rattle.im_page_writer.proofs.Structure.{refused_not}
pub use Rattle.im_page_writer.proofs.Restarting.{frames_opened, writer_opens}
pub use Rattle.im_page_writer.proofs.Outcomes.{changed_none, ends_own, flush_asks, held_is, idle, late_behind, leaves_of_end, log_refused, logs_both, logs_for_more, logs_late, logs_then, never_refused, no_page_for, none_mildly, out_of_memory, pages_here, pages_still, read_logs, read_more, refused, sound_also, sound_done, sound_on, sound_own, stands_on, then, with_more}
