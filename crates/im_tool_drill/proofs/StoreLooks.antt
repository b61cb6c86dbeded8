-- What an engine hands out in a life of a store: its entries, and what a page is for.
use Rattle.std.proofs.Common.{◌⊎◌, inl, inr, ◌≡◌, ℕ, List, sym, ◌∙◌, ap, subst, Result, Ok, Err, IfOk, IfErr, MatchResult, ◌≢◌, Bool, true, false}
use Rattle.std.specs.FinMap.{empty, entries}
use Rattle.im_base_types.specs.declared.fault.Fault.{Fault}
use Rattle.im_base_types.specs.declared.fault.Fault.TheVariants.{NotAStore}
use Rattle.im_base_types.specs.Pages.{Entry}
use Rattle.im_base_types.specs.Changes.{Effect, apply_all}
use Rattle.im_base_types.specs.Lives.{Shown}
use Rattle.im_base_disk.specs.declared.disk.Disk.{Ghosts}
use Rattle.im_theory_machine.specs.Locks.{Lock}
use Rattle.im_theory_machine.specs.View.{View, broken}
use Rattle.im_engine.specs.declared.engine.Engine.{Engine}
use Rattle.im_engine.specs.Kept.{LookKept}
use Rattle.im_engine.specs.Running.{IsLife}
use Rattle.im_tool_drill.specs.StoreLives.{GoesOn}

-- the entries that a look hands out, or why it hands out none
pub entries_match : {A : Type 0} (items : A → List Entry) (r : Result A Fault) (after : List Effect) (Stands : List Effect → Type 0) → Stands after → IfOk r (λ l. (before : List Effect) → Unit {0} → Stands before → items l ≡ entries (apply_all empty before))
    → IfErr r (λ e. (before : List Effect) → Unit {0} → Stands before → e ≢ NotAStore) → MatchResult r (λ l. items l ≡ entries (apply_all empty after)) (λ e. e ≢ NotAStore)
entries_match items (Ok l) after Stands stands shows never = shows after tt stands
entries_match items (Err e) after Stands stands shows never = never after tt stands

-- what is shown of an engine that fails just where it did
same_shown : (s : Shown) (failed : Bool) → failed ≡ s.failed → record s { failed = failed } ≡ s
same_shown s failed is = ap (λ (f : Bool). record s { failed = f }) is

-- a look after which the engine works
pub looked_on : {D : Type 0} (d : Ghosts D) (before : List Effect) (s : Shown) (v : View) (old new : Engine D d) → LookKept d before s v old new → new.failed ≡ false → GoesOn d before s new
looked_on d before s v old new k works = by k.after
  where
    by : ((new.failed ≡ false) × IsLife d before s v new) ⊎ ((locks : ℕ → List Lock) × IsLife d before (record s { failed = true }) (broken v locks) new) → GoesOn d before s new
    by (inl on) = (v, on.1)
    by (inr gone) = let clash : true ≡ false = gone.1.failed ∙ works in absurd (cc)

-- a look after which the engine has failed, or works
pub looked_as : {D : Type 0} (d : Ghosts D) (before : List Effect) (s : Shown) (v : View) (old new : Engine D d) (failed : Bool) → LookKept d before s v old new → new.failed ≡ failed → GoesOn d before (record s { failed = failed }) new
looked_as d before s v old new failed k is = by k.after
  where
    by : ((new.failed ≡ false) × IsLife d before s v new) ⊎ ((locks : ℕ → List Lock) × IsLife d before (record s { failed = true }) (broken v locks) new) → GoesOn d before (record s { failed = failed }) new
    by (inl on) = (v, subst (λ (t : Shown). IsLife d before t v new) (sym (same_shown s failed (sym is ∙ sym on.1.failed ∙ sym on.1.lived.shows.shown.failed))) on.1)
    by (inr gone) = (broken v gone.0, subst (λ (f : Bool). IsLife d before (record s { failed = f }) (broken v gone.0) new) (gone.1.failed ∙ is) gone.1)
