-- Worked lives and answers, by computation: which Commits are asked, in each case; and the replies to one user alone.
use Rattle.std.proofs.Common.{◌≡◌, ℕ, List, [], ◌∷◌, Bool, true, false, refl, ◌∙◌, None, Some}
use Rattle.std.specs.FinMap.{empty, get, insert, get-empty}
use Rattle.im_base_types.specs.Answers.{Absent, Begin, Commit, Committed, Continue, Delete, Deleted, Die, Do, Done, Duplicate, Fetch, Force, Found, Insert, Inserted, More, Refused, Reply, RollTo, Rollback, RolledBack, Started, Step, replay}
use Rattle.im_base_types.specs.Changes.{Drop, Put}
use Rattle.im_base_types.specs.Keys.{key_order}
use Rattle.im_base_types.specs.Lives.{Asked, Shown, nothing_shown, shown_by, shows}
use Rattle.im_base_types.specs.Refusals.{capacity, device, failed, log_full, memory, must_roll_back, no_transaction, rolling_back, unfinished}
use Rattle.im_base_types.proofs.Maps.{get_put, get_put_other}

-- transaction 1 begins and puts a key
abbrev put_one : List (Step × Reply)
put_one = (Begin, Started 1) ∷ (Do 1 (Insert (97 ∷ []) 7), Inserted) ∷ []

abbrev going : Shown
going = shown_by nothing_shown put_one

abbrev asked_of : Shown → List Asked
asked_of s = s.asked

abbrev effect : Bool → List Asked
effect acked = record { txn = 1; effect = Put (97 ∷ []) 7 ∷ []; acked = acked } ∷ []

-- acknowledged; cut off by a stop; refused by the device, by a full log, at a limit, or for want of memory after its first record
commit_acked : asked_of (shows going (Commit 1) (Some Committed)) ≡ effect true
commit_acked = refl

commit_cut_off : asked_of (shows going (Commit 1) None) ≡ effect false
commit_cut_off = refl

commit_device : asked_of (shows going (Commit 1) (Some (Refused device))) ≡ effect false
commit_device = refl

commit_log_full : asked_of (shows going (Commit 1) (Some (Refused log_full))) ≡ effect false
commit_log_full = refl

commit_capacity : asked_of (shows going (Commit 1) (Some (Refused capacity))) ≡ effect false
commit_capacity = refl

commit_fails : (asked_of (shows going (Commit 1) (Some (Refused failed))) ≡ effect false) × ((shows going (Commit 1) (Some (Refused failed))).failed ≡ true)
commit_fails = (refl, refl)

-- an insert that goes on joins the effect with the reply that ends it, and a delete so too
abbrev put_later : List (Step × Reply)
put_later = (Begin, Started 1) ∷ (Do 1 (Insert (97 ∷ []) 7), More) ∷ (Continue 1, More) ∷ []

commit_going_on : asked_of (shows (shown_by nothing_shown put_later) (Commit 1) None) ≡ []
commit_going_on = refl

commit_put_later : asked_of (shows (shows (shown_by nothing_shown put_later) (Continue 1) (Some Inserted)) (Commit 1) (Some Committed)) ≡ effect true
commit_put_later = refl

commit_dropping : asked_of (shows (shows going (Do 1 (Delete (97 ∷ []))) (Some More)) (Commit 1) None) ≡ effect false
commit_dropping = refl

commit_dropped : asked_of (shows (shows (shows going (Do 1 (Delete (97 ∷ []))) (Some More)) (Continue 1) (Some Deleted)) (Commit 1) None) ≡ record { txn = 1; effect = Drop (97 ∷ []) 0 ∷ Put (97 ∷ []) 7 ∷ []; acked = false } ∷ []
commit_dropped = refl

-- not asked: for want of memory, within a structure change, of a failed engine, of no transaction, of one told to roll back, of one that rolls back
commit_memory : asked_of (shows going (Commit 1) (Some (Refused memory))) ≡ []
commit_memory = refl

commit_unfinished : asked_of (shows going (Commit 1) (Some (Refused unfinished))) ≡ []
commit_unfinished = refl

commit_of_failed : asked_of (shows (shows going Force (Some (Refused device))) (Commit 1) (Some (Refused failed))) ≡ []
commit_of_failed = refl

commit_of_none : asked_of (shows going (Commit 2) (Some (Refused no_transaction))) ≡ []
commit_of_none = refl

-- any access that is answered Die marks its transaction, a read too
commit_after_die : asked_of (shows (shows going (Do 1 (Fetch (98 ∷ []))) (Some Die)) (Commit 1) (Some (Refused must_roll_back))) ≡ []
commit_after_die = refl

commit_in_rollback : asked_of (shows (shows going (Rollback 1) (Some More)) (Commit 1) (Some (Refused rolling_back))) ≡ []
commit_in_rollback = refl

-- a return takes what came after the first n changes from what is asked; within it nothing is asked; and it lifts what Die left
commit_returned : asked_of (shown_by nothing_shown ((Begin, Started 1) ∷ (Do 1 (Insert (97 ∷ []) 7), Inserted) ∷ (Do 1 (Insert (98 ∷ []) 8), Inserted) ∷ (Do 1 (Insert (99 ∷ []) 9), Inserted) ∷ (RollTo 1 1, More) ∷ (Continue 1, More) ∷ (Continue 1, Done)
    ∷ (Do 1 (Insert (100 ∷ []) 6), Inserted) ∷ (Commit 1, Committed) ∷ [])) ≡ record { txn = 1; effect = Put (100 ∷ []) 6 ∷ Put (97 ∷ []) 7 ∷ []; acked = true } ∷ []
commit_returned = refl

commit_in_return : asked_of (shows (shows going (RollTo 1 0) (Some More)) (Commit 1) (Some (Refused rolling_back))) ≡ []
commit_in_return = refl

commit_of_all_taken_back : asked_of (shown_by going ((RollTo 1 0, More) ∷ (Continue 1, Done) ∷ (Commit 1, Committed) ∷ [])) ≡ []
commit_of_all_taken_back = refl

commit_after_return : asked_of (shown_by going ((Do 1 (Fetch (98 ∷ [])), Die) ∷ (RollTo 1 1, Done) ∷ (Commit 1, Committed) ∷ [])) ≡ effect true
commit_after_return = refl

-- a transaction that changed nothing asks for nothing
commit_empty : asked_of (shown_by nothing_shown ((Begin, Started 1) ∷ (Commit 1, Committed) ∷ [])) ≡ []
commit_empty = refl

-- answered More, it is asked, and acknowledged by the next Force that is done
commit_waits : (asked_of (shows going (Commit 1) (Some More)) ≡ effect false) × (asked_of (shown_by going ((Commit 1, More) ∷ (Force, Done) ∷ [])) ≡ effect true)
commit_waits = (refl, refl)

-- a rollback between: only what the other transaction committed is asked, and a drop's row id is forgotten
pair : asked_of (shown_by nothing_shown (
    (Begin, Started 1) ∷ (Begin, Started 2) ∷ (Do 1 (Insert (48 ∷ []) 1), Inserted) ∷ (Do 1 (Insert (98 ∷ []) 2), Inserted) ∷ (Rollback 1, More) ∷ (Continue 1, More)
    ∷ (Do 2 (Insert (97 ∷ []) 3), Inserted) ∷ (Do 2 (Delete (97 ∷ [])), Deleted) ∷ (Commit 2, Committed) ∷ (Continue 1, RolledBack) ∷ []))
    ≡ record { txn = 2; effect = Drop (97 ∷ []) 0 ∷ Put (97 ∷ []) 3 ∷ []; acked = true } ∷ []
pair = refl

-- ---- one user alone

-- a key that is put is found, and is a duplicate then; a key that is not there is absent
alone : replay empty (Fetch (2 ∷ []) ∷ Insert (1 ∷ []) 1 ∷ Insert (1 ∷ []) 2 ∷ Fetch (1 ∷ []) ∷ Delete (2 ∷ []) ∷ []) ≡ Absent ∷ Inserted ∷ Duplicate ∷ Found 1 ∷ Absent ∷ []
alone = rw (none 2, none 1, here, here, other) refl
  where
    none : (n : ℕ) → get (empty {X = ℕ} {R = key_order}) (n ∷ []) ≡ None
    none n = get-empty key_order (n ∷ [])

    here : get (insert (empty {X = ℕ} {R = key_order}) (1 ∷ []) 1) (1 ∷ []) ≡ Some 1
    here = get_put empty (1 ∷ []) 1 (1 ∷ []) refl

    other : get (insert (empty {X = ℕ} {R = key_order}) (1 ∷ []) 1) (2 ∷ []) ≡ None
    other = get_put_other empty (1 ∷ []) 1 (2 ∷ []) (λ e. cc e) ∙ none 2
