-- Two transactions at once, by computation: what the log, the replies and the serial run say of them.
use Rattle.std.proofs.Common.{◌≡◌, List, [], ◌∷◌, true, refl}
use Rattle.im_base_types.specs.Keys.{Key}
use Rattle.im_base_types.specs.Changes.{Put}
use Rattle.im_base_types.specs.Records.{InsertKey, UndoInsert, Commit as CommitRecord, End as EndRecord}
use Rattle.im_theory_log.specs.Histories.{History}
use Rattle.im_theory_log.specs.Transactions.{committed, net, last_of, is_finished}
use Rattle.im_base_types.specs.Answers.{Step, Reply, Begin, Do, Commit, Rollback, Continue, Insert, Started, Inserted, Committed, RolledBack, More}
use Rattle.im_base_types.specs.Lives.{nothing_shown, shown_by}
use Rattle.im_theory_machine.specs.Isolation.{finished, serial}
use Rattle.im_theory_steps.specs.Steps.{key_record}
use Rattle.im_theory_steps.specs.Acknowledged.{acked_effects}

abbrev a : Key
a = 97 ∷ []

abbrev b : Key
b = 98 ∷ []

-- 1 puts a, 2 puts b and commits
abbrev two : History
two = record { lsn = 3; txn = 2; prev = 2; undo_next = 0; page = 0; what = CommitRecord } ∷ key_record 2 0 2 1 (InsertKey b 2) ∷ key_record 1 0 1 1 (InsertKey a 1) ∷ []

-- then 1 takes its change back, and ends
abbrev undone : History
undone = record { lsn = 5; txn = 1; prev = 4; undo_next = 0; page = 0; what = EndRecord } ∷ record { lsn = 4; txn = 1; prev = 1; undo_next = 0; page = 1; what = UndoInsert a 1 } ∷ two

abbrev steps : List (Step × Reply)
steps =
    (Begin, Started 1) ∷ (Begin, Started 2) ∷ (Do 1 (Insert a 1), Inserted) ∷ (Do 2 (Insert b 2), Inserted) ∷ (Commit 2, Committed)
    ∷ (Rollback 1, More) ∷ (Continue 1, RolledBack) ∷ []

-- the log has committed what 2 did, and holds what 1 did until that is taken back
one_committed : committed two ≡ (Put b 2 ∷ []) ∷ []
one_committed = refl

one_left : net 1 two ≡ Put a 1 ∷ []
one_left = refl

none_left : (net 1 undone ≡ []) × (is_finished 1 undone ≡ true) × (last_of 1 undone ≡ 5)
none_left = (refl, refl, refl)

still_committed : committed undone ≡ (Put b 2 ∷ []) ∷ []
still_committed = refl

-- the replies have acknowledged it
one_acked : acked_effects (shown_by nothing_shown steps).asked ≡ (Put b 2 ∷ []) ∷ []
one_acked = refl

-- and the serial run is that of 2 alone
one_serial : serial [] steps ≡ (Insert b 2, Inserted) ∷ []
one_serial = refl

one_finished : finished 1 steps ≡ (Insert a 1, Inserted) ∷ []
one_finished = refl

-- an insert that goes on is finished by the reply to its last Continue, and a Commit does not come between
abbrev later : List (Step × Reply)
later = (Begin, Started 1) ∷ (Do 1 (Insert a 1), More) ∷ (Continue 1, More) ∷ (Continue 1, Inserted) ∷ (Commit 1, Committed) ∷ []

later_finished : finished 1 later ≡ (Insert a 1, Inserted) ∷ []
later_finished = refl

later_acked : acked_effects (shown_by nothing_shown later).asked ≡ (Put a 1 ∷ []) ∷ []
later_acked = refl
