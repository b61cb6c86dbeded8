-- One page of all.
use Rattle.std.proofs.Common.{◌≡◌, ℕ}
use Rattle.std.specs.Prelude.{◌==◌}
use Rattle.std.proofs.lemmas.Bool.{cond-true, cond-false, eq-eqb, ne_eqb}
use Rattle.im_theory_log.specs.Writer.{PageState}
use Rattle.im_theory_log.specs.WriterSteps.{only}

pub only_here : (f : PageState → PageState) (pages : ℕ → PageState) (p q : ℕ) → p ≡ q → only p f pages q ≡ f (pages q)
only_here f pages p q here = cond-true (p == q) (f (pages q)) (pages q) (eq-eqb p q here)

pub only_other : (f : PageState → PageState) (pages : ℕ → PageState) (p q : ℕ) → (p ≡ q → ⊥) → only p f pages q ≡ pages q
only_other f pages p q other = cond-false (p == q) (f (pages q)) (pages q) (ne_eqb p q other)
