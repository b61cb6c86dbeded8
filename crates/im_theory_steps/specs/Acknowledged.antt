-- What a run commits is what its replies show as acknowledged.
use Rattle.std.specs.Prelude.{◌≡◌, ℕ, true, false, List, [], ◌∷◌, ◌++◌, if◌then◌else◌}
use Rattle.im_base_types.specs.Maps.{IndexMap}
use Rattle.im_base_types.specs.Changes.{Effect, apply_all, seen}
use Rattle.im_base_types.specs.Answers.{Step, Reply}
use Rattle.im_base_types.specs.Lives.{Asked, NoneAcked, Shown, effects, nothing_shown, shown_by}
use Rattle.im_theory_machine.specs.View.{View, nets_of}
use Rattle.im_theory_machine.specs.Machine.{Run, start}
use Rattle.im_theory_steps.specs.Seen.{IsShownBy}

-- the effects that were acknowledged, in the order of their Commits
abbrev pub acked_effects : List Asked → List Effect
acked_effects [] = []
acked_effects (a ∷ more) = if a.acked then a.effect ∷ acked_effects more else acked_effects more

-- each of these was acknowledged
abbrev pub AllAcked : List Asked → Type 0
AllAcked [] = Unit {0}
AllAcked (a ∷ more) = (a.acked ≡ true) × AllAcked more

-- What was asked was acknowledged, but what waits for a force, which came last: the effects of these nets.
pub record IsCleanBut (nets : List Effect) (asked : List Asked) : Type 0 where
  pub done : List Asked
  pub waiting : List Asked
  pub all : done ++ waiting ≡ asked
  pub acked : AllAcked done
  pub none : NoneAcked waiting
  pub are : effects waiting ≡ seen nets

-- What is shown is the machine's state, its committed map is the base with the acknowledged effects, and while the engine works nothing was asked that was not acknowledged, but what waits for a force.
pub record Shows (base : IndexMap) (s : Shown) (v : View) : Type 0 where
  pub shown : IsShownBy s v
  pub commits : v.committed ≡ apply_all base (acked_effects s.asked)
  pub clean : v.failed ≡ false → IsCleanBut (nets_of v.txns v.queue) s.asked

abbrev pub RunsCommitWhatTheyShow : Type 0
RunsCommitWhatTheyShow = (base : IndexMap) (first : ℕ) (trace : List (Step × Reply)) (v : View) → Run (start base first) trace v → Shows base (shown_by nothing_shown trace) v
