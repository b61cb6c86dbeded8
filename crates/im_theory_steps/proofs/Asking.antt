-- Which steps ask for a Commit.
use Rattle.std.proofs.Common.{◌≡◌, ◌≢◌, inl, inr, ◌⊎◌, ℕ, List, [], ◌∷◌, ◌++◌, refl, sym, ◌∙◌, ap, subst, true, false, Bool, cond, is_some, Option, None, Some, append-nil}
use Rattle.std.specs.Prelude.{if◌then◌else◌, ◌==◌, ◌||◌}
use Rattle.std.specs.FinMap.{get}
use Rattle.im_base_types.specs.Maps.{From, Above, first, last_below}
use Rattle.im_base_types.specs.Changes.{Effect}
use Rattle.im_base_types.specs.Answers.{Access, Fetch, Seek, Next, Prev, Scan, Insert, Delete, Step, Begin, Do, Commit, Rollback, Continue, RollTo, FlushPage, Force, Checkpoint, Switch, Mark, Idle, Going, MustRollBack, RollingBack, Returning, Committing, Blocked, BlockedTree, Die, Duplicate, Inserted, Deleted, Absent, answer, found, entry}
use Rattle.im_base_types.specs.Refusals.{memory, unfinished}
use Rattle.im_base_types.specs.Lives.{Asked, Shown, effects, effect_asked, all_acked, answered, refused, asks, breaks}
use Rattle.im_theory_machine.specs.View.{View}
use Rattle.im_theory_machine.specs.Machine.{Wants}

-- ---- the effects asked

pub effects_append : (xs ys : List Asked) → effects (xs ++ ys) ≡ effects xs ++ effects ys
effects_append [] ys = refl
effects_append (x ∷ xs) ys = ap (λ (l : List Effect). x.effect ∷ l) (effects_append xs ys)

pub effects_acked : (xs : List Asked) → effects (all_acked xs) ≡ effects xs
effects_acked [] = refl
effects_acked (x ∷ xs) = ap (λ (l : List Effect). x.effect ∷ l) (effects_acked xs)

pub asked_effect : (t : ℕ) (e : Effect) → e ≢ [] → effects (effect_asked t true Going e) ≡ e ∷ []
asked_effect t [] some = absurd (some refl)
asked_effect t (c ∷ cs) some = refl

pub none_asked : (t : ℕ) (acked : Bool) (m : Mark) (e : Effect) → (m ≡ Going → ⊥) → effect_asked t acked m e ≡ []
none_asked t acked Idle e ne = refl
none_asked t acked Going e ne = absurd (ne refl)
none_asked t acked MustRollBack e ne = refl
none_asked t acked RollingBack e ne = refl
none_asked t acked (Returning k) e ne = refl
none_asked t acked Committing e ne = refl

-- a transaction that changed nothing asks for nothing
pub empty_asked : (t : ℕ) (acked : Bool) (m : Mark) (e : Effect) → e ≡ [] → effect_asked t acked m e ≡ []
empty_asked t acked m e is = ap (effect_asked t acked m) is ∙ go m
  where
    go : (m : Mark) → effect_asked t acked m [] ≡ []
    go Idle = refl
    go Going = refl
    go MustRollBack = refl
    go RollingBack = refl
    go (Returning k) = refl
    go Committing = refl

-- ---- accesses

module _ (s : Shown) (t : ℕ) where
  pub asks_nothing : (a : Access) (v : View) → (answered (Do t a) (answer a v.walk) s).asked ≡ s.asked
  asks_nothing (Fetch k) v = go (get v.walk k)
    where
      go : (o : Option ℕ) → (answered (Do t (Fetch k)) (found o) s).asked ≡ s.asked
      go None = refl
      go (Some r) = refl
  asks_nothing (Seek k) v = go (first (From k) v.walk)
    where
      go : (o : Option _) → (answered (Do t (Seek k)) (entry o) s).asked ≡ s.asked
      go None = refl
      go (Some r) = refl
  asks_nothing (Next k) v = go (first (Above k) v.walk)
    where
      go : (o : Option _) → (answered (Do t (Next k)) (entry o) s).asked ≡ s.asked
      go None = refl
      go (Some r) = refl
  asks_nothing (Prev k) v = go (last_below k v.walk)
    where
      go : (o : Option _) → (answered (Do t (Prev k)) (entry o) s).asked ≡ s.asked
      go None = refl
      go (Some r) = refl
  asks_nothing (Scan lo hi n) v = refl
  asks_nothing (Insert k r) v = go (is_some (get v.walk k))
    where
      go : (b : Bool) → (answered (Do t (Insert k r)) (cond b Duplicate Inserted) s).asked ≡ s.asked
      go true = refl
      go false = refl
  asks_nothing (Delete k) v = go (is_some (get v.walk k))
    where
      go : (b : Bool) → (answered (Do t (Delete k)) (cond b Deleted Absent) s).asked ≡ s.asked
      go true = refl
      go false = refl

  pub waits_ask_nothing : (holder : ℕ) (a : Access) → (answered (Do t a) (Blocked holder) s).asked ≡ s.asked
  waits_ask_nothing holder (Fetch k) = refl
  waits_ask_nothing holder (Seek k) = refl
  waits_ask_nothing holder (Next k) = refl
  waits_ask_nothing holder (Prev k) = refl
  waits_ask_nothing holder (Scan lo hi n) = refl
  waits_ask_nothing holder (Insert k r) = refl
  waits_ask_nothing holder (Delete k) = refl

  pub trees_ask_nothing : (a : Access) → (answered (Do t a) (BlockedTree) s).asked ≡ s.asked
  trees_ask_nothing (Fetch k) = refl
  trees_ask_nothing (Seek k) = refl
  trees_ask_nothing (Next k) = refl
  trees_ask_nothing (Prev k) = refl
  trees_ask_nothing (Scan lo hi n) = refl
  trees_ask_nothing (Insert k r) = refl
  trees_ask_nothing (Delete k) = refl

  pub dies_ask_nothing : (a : Access) → (answered (Do t a) Die s).asked ≡ s.asked
  dies_ask_nothing (Fetch k) = refl
  dies_ask_nothing (Seek k) = refl
  dies_ask_nothing (Next k) = refl
  dies_ask_nothing (Prev k) = refl
  dies_ask_nothing (Scan lo hi n) = refl
  dies_ask_nothing (Insert k r) = refl
  dies_ask_nothing (Delete k) = refl

-- ---- refusals

-- a refusal for want of memory, within a structure change, or of a transaction that is not going, asks nothing
abbrev pub asks_none : ℕ → Bool
asks_none n = n == memory || n == unfinished

pub refusals_ask_nothing : (n : ℕ) (step : Step) (s : Shown) → ((t : ℕ) → step ≡ Commit t → (asks_none n ≡ true) ⊎ ((s.running t).mark ≡ Going → ⊥)) → (refused n step s).asked ≡ s.asked
refusals_ask_nothing n (Commit t) s how = by (how t refl)
  where
    quiet : (b : Bool) → effect_asked t false (s.running t).mark (s.running t).effect ≡ [] → (if b then s else record (asks t false s) { failed = breaks n }).asked ≡ s.asked
    quiet true none = refl
    quiet false none = ap (λ (l : List Asked). s.asked ++ l) none ∙ append-nil s.asked

    skip : (a b c : Bool) → (b || c) ≡ true → (if a || b || c then s else record (asks t false s) { failed = breaks n }).asked ≡ s.asked
    skip true b c e = refl
    skip false true c e = refl
    skip false false true e = refl
    skip false false false e = absurd cc

    by : (asks_none n ≡ true) ⊎ ((s.running t).mark ≡ Going → ⊥) → (refused n (Commit t) s).asked ≡ s.asked
    by (inl e) = skip s.failed (n == memory) (n == unfinished) e
    by (inr ne) = quiet (s.failed || n == memory || n == unfinished) (none_asked t false (s.running t).mark (s.running t).effect ne)
refusals_ask_nothing n Begin s how = refl
refusals_ask_nothing n (Do t a) s how = refl
refusals_ask_nothing n (Rollback t) s how = refl
refusals_ask_nothing n (Continue t) s how = refl
refusals_ask_nothing n (RollTo t k) s how = refl
refusals_ask_nothing n (FlushPage p) s how = refl
refusals_ask_nothing n Force s how = refl
refusals_ask_nothing n Checkpoint s how = refl
refusals_ask_nothing n Switch s how = refl

-- a Commit is refused for want of memory alone, where no check bars it and the engine does not fail
pub commit_wants : (step : Step) (f t : ℕ) → Wants step f → step ≡ Commit t → asks_none f ≡ true
commit_wants step f t wants is =
    let e : f ≡ memory = subst (λ (x : Step). Wants x f) is wants in
    subst (λ (k : ℕ). asks_none k ≡ true) (sym e) refl
