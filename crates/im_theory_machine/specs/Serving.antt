-- How the lock table and the machine go together.
use Rattle.std.specs.Prelude.{◌≡◌, ℕ, Option, []}
use Rattle.im_base_types.specs.Maps.{IndexMap}
use Rattle.im_base_types.specs.Changes.{Change}
use Rattle.im_base_types.specs.Answers.{Access, Do, Blocked, Die, Going, MustRollBack, answer}
use Rattle.im_theory_machine.specs.Rows.{asked}
use Rattle.im_theory_machine.specs.Table.{Table, locks_of, Decides, IsReleased, AreReleased}
use Rattle.im_theory_machine.specs.View.{View, Under, kept_lock, own_locks, did, marked, committed_by, dropped_by, undid_last, queued, forced_by, is_among}
use Rattle.im_theory_machine.specs.Machine.{Goes}
use Rattle.im_theory_machine.specs.declared.verdict.Verdict.{Verdict}
use Rattle.im_theory_machine.specs.declared.verdict.Verdict.TheVariants.{Granted, Wait, Die as MustDie}

-- nobody has an Insert that goes on and keeps a lock for it
abbrev pub KeepsNone : Option Under → Type 0
KeepsNone under = (w : IndexMap) (s : ℕ) → kept_lock under w s ≡ []

-- each transaction of the view holds what the table says, and none beside
abbrev pub Matches : View → Table → Type 0
Matches v table = ((s : ℕ) → own_locks v s ≡ locks_of table s) × KeepsNone v.under

-- the step of the machine that a verdict stands for, and the view that goes with the table after it
abbrev pub GoesBy : View → ℕ → Access → Verdict → Table → Type 0
GoesBy v t a Granted new = Goes v (Do t a) (answer a v.walk) (did v t a (locks_of new t)) × Matches (did v t a (locks_of new t)) new
GoesBy v t a (Wait holder) new = Goes v (Do t a) (Blocked holder) v × Matches v new
GoesBy v t a MustDie new = Goes v (Do t a) Die (marked v t MustRollBack) × Matches (marked v t MustRollBack) new

-- the table's three verdicts are the machine's three answers, and its releases are the machine's
pub record TableServes : Type 0 where
  -- where t asks for an access what the machine asks
  pub decided : (v : View) (old new : Table) → Matches v old → (t : ℕ) (a : Access) (verdict : Verdict) → (v.txns t).mark ≡ Going → Decides old t (asked a v.walk) verdict new → GoesBy v t a verdict new
  -- where t has committed, has nothing to undo, or has its last change taken back
  pub committed : (v : View) (old new : Table) → Matches v old → (t : ℕ) → IsReleased old t new → Matches (committed_by v t) new
  pub dropped : (v : View) (old new : Table) → Matches v old → (t : ℕ) → IsReleased old t new → Matches (dropped_by v t) new
  pub undone : (v : View) (old new : Table) → Matches v old → (t : ℕ) (c : Change) → IsReleased old t new → Matches (undid_last v t c) new
  -- where its Commit waits for a force, and where a force has finished those that waited
  pub queued : (v : View) (old : Table) → Matches v old → (t : ℕ) → Matches (queued v t) old
  pub forced : (v : View) (old new : Table) → Matches v old → AreReleased old (λ s. is_among s v.queue) new → Matches (forced_by v) new
