-- What a store answers that makes each structure change within one step.
use Rattle.std.proofs.Common.{◌≡◌, Bool, true, false, true≢false, refl, ap, sym}
use Rattle.std.specs.Prelude.{◌||◌}
use Rattle.im_base_types.specs.Answers.{Step, Reply, Started, Found, Absent, Entry, End, Entries, Inserted, Duplicate, Deleted, Committed, RolledBack, More, Blocked, BlockedTree, Die, Done, Refused}
use Rattle.im_base_steps.specs.Calls.{is_continue}
use Rattle.im_base_steps.specs.Replies.{is_insert, is_delete, is_commit, goes_back, SuitsAtOnce, Suits}

pub at_once : (s : Step) (r : Reply) → SuitsAtOnce s r → Suits s r
at_once s Inserted e = ap (λ (b : Bool). b || is_continue s) e
at_once s Deleted e = ap (λ (b : Bool). b || is_continue s) e
at_once s More e = by (goes_back s) (is_commit s) e
  where
    by : (b c : Bool) → (b || c) ≡ true → (b || (c || (is_insert s || is_delete s))) ≡ true
    by true c e = refl
    by false true e = refl
    by false false e = absurd (true≢false (sym e))
at_once s BlockedTree e = ap (λ (b : Bool). b || is_continue s) e
at_once s (Started t) e = e
at_once s (Found t) e = e
at_once s Absent e = e
at_once s (Entry k r) e = e
at_once s End e = e
at_once s (Entries l) e = e
at_once s Duplicate e = e
at_once s Committed e = e
at_once s RolledBack e = e
at_once s (Blocked t) e = e
at_once s Die e = e
at_once s Done e = e
at_once s (Refused f) e = e
