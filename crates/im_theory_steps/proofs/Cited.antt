-- The lemmas that the crates above cite, passed on from one place. Declares nothing.
pub use Rattle.im_theory_steps.proofs.Together.{nets_else}
pub use Rattle.im_theory_steps.proofs.Records.{commit_commits}
pub use Rattle.im_theory_steps.proofs.Counts.{counts_fit}
pub use Rattle.im_theory_steps.proofs.Growth.{checkpoints_change_nothing, copies_are_images, images_change_nothing, numbers_stay_new, same_by, same_then, structure_changes_no_key, unlogged, within_leaves_others}
pub use Rattle.im_theory_steps.proofs.Showing.{effect_shown, is_shown_so}
pub use Rattle.im_theory_steps.proofs.Asking.{asks_nothing, dies_ask_nothing, effects_acked, empty_asked, refusals_ask_nothing, trees_ask_nothing, waits_ask_nothing}
pub use Rattle.im_theory_steps.proofs.Acknowledged.{going_free, no_effects, step_shows}
pub use Rattle.im_theory_steps.proofs.Promises.{granted_keys_free}
pub use Rattle.im_theory_steps.proofs.Holding.{free_by_table}
pub use Rattle.im_theory_steps.proofs.Owner.{owners_marked}
pub use Rattle.im_theory_steps.proofs.Steps.{at, barred_served, begins_served, dies_served, drops_served, flushes_served, forces_served, lacks_served, mark_free, moves_by, opened_serves, quiet_logs, reads_served, returns_stay, returns_turn, turns_served, unlogged_commits_served, waits_served}
pub use Rattle.im_theory_steps.proofs.Keeping.{images_keep, structure_keeps, ways_lead_on}
pub use Rattle.im_theory_steps.proofs.Changing.{deletes_begin, deletes_end, inserts_begin, inserts_end, inserts_free, pages_served, returns_drop, trees_block, trees_halt, turns_begin, turns_drop, turns_empty, turns_end}
pub use Rattle.im_theory_steps.proofs.Logging.{deletes_served, inserts_served, logged_checkpoints_served, logged_commits_served, logged_commits_wait}
pub use Rattle.im_theory_steps.proofs.Durable.{commits_stand, cut_commits_stand, others_ask_nothing, quiet_lives_settle}
pub use Rattle.im_theory_steps.proofs.GoingOn.{switches_served}
pub use Rattle.im_theory_steps.proofs.Lived.{lives_go_on, rows_tell}
pub use Rattle.im_theory_steps.proofs.Rows.{counted_at, none_stands, some_stand}
pub use Rattle.im_theory_steps.proofs.Emptied.{empty_commits_served, empty_rollbacks_served, end_leaves, end_lawful}
pub use Rattle.im_theory_steps.proofs.Undone.{end_over, end_stack, ends_leave_nothing, last_undone_served, returning_more, returns_end, returns_go_on, rolling_has_more, undo_takes_back, undone_served}
