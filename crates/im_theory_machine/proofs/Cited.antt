-- The lemmas that the crates above cite, passed on from one place. Declares nothing.
pub use Rattle.im_theory_machine.proofs.Bools.{cases_number, cases_test, neither, or_true}
pub use Rattle.im_theory_machine.proofs.Guards.{guard}
pub use Rattle.im_theory_machine.proofs.Invariant.{Chain-guards, Told, by_txn, set_txn-other, set_txn-same}
pub use Rattle.im_theory_machine.proofs.Queue.{among_one, among_other, among_pushed, by_force_txn, idle_gone, idle_others, nets_same, pushed_last, pushed_more}
pub use Rattle.im_theory_machine.proofs.Pending.{undo_stays}
pub use Rattle.im_theory_machine.proofs.Under.{IsFor, IsUnder, ahead, none_either, others_pending, unowned_clear}
pub use Rattle.im_theory_machine.proofs.Standing.{IsQueue, going_through, going_told, taking_clear}
pub use Rattle.im_theory_machine.proofs.Runs.{Moves-upheld, Upheld, clear_commit, clear_do, clear_return, clear_rollback, live_at, may_return, nothing_told, passes_as, given_mark, given_net, TellsNone, queue_breaks, queue_goes, run_upheld, stands_of, tell, tells}
pub use Rattle.im_theory_machine.proofs.Theorem.{after_story, finished_none, finished_one, going_replay}
pub use Rattle.im_theory_machine.proofs.Callers.{Run-push}
pub use Rattle.im_theory_machine.proofs.Isolates.{granted_free, isolates, next_idle, next_is_idle, nothing_goes_on, pending_absent, pending_granted, queue_marks}
pub use Rattle.im_theory_machine.proofs.Returns.{returns_stand}
pub use Rattle.im_theory_machine.proofs.Changing.{changes-serve}
