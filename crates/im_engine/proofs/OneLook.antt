-- A look, from its opening on.
use Rattle.std.proofs.Common.{◌≡◌, ◌≢◌, List, [], Result, Ok, Err, IfOk, IfErr}
use Rattle.std.specs.Prelude.{IfSome}
use Rattle.std.specs.Global.{Vec}
use Rattle.std.specs.FinMap.{empty, entries}
use Rattle.im_base_types.specs.declared.fault.Fault.{Fault}
use Rattle.im_base_types.specs.declared.fault.Fault.TheVariants.{NotAStore}
use Rattle.im_base_types.specs.Changes.{Effect, apply_all}
use Rattle.im_base_types.specs.Lives.{Shown, nothing_shown}
use Rattle.im_base_types.specs.Pages.{Entry}
use Rattle.im_base_disk.specs.declared.disk.Disk.{Ghosts}
use Rattle.im_base_disk.specs.Disk.{Files}
use Rattle.im_base_two_logs.proofs.Runs.{then_named}
use Rattle.im_theory_machine.specs.View.{View}
use Rattle.im_theory_machine.specs.Machine.{start}
use Rattle.im_engine.specs.declared.config.Config.{Config}
use Rattle.im_engine.specs.declared.engine.Engine.{Engine}
use Rattle.im_engine.specs.Kept.{EntriesKept}
use Rattle.im_engine.specs.Listing.{IsListing, handed_out}
use Rattle.im_engine.specs.Opening.{IsOpening}
use Rattle.im_engine.specs.Promise.{IsRunOn}
use Rattle.im_engine.specs.Running.{IsLife}
use Rattle.im_engine.specs.Stands.{StandsFor, Allowed}
use Rattle.im_engine.proofs.Named.{allowed_nameless}
use Rattle.im_engine.proofs.LivedLives.{runs_on, takes_on}

module _ {D : Type 0} (d : Ghosts D) (config : Config) (old : D) where
  -- the opening was refused
  pub unlooked : (fault : Fault) (new : D) → IsOpening d config old (Err (fault, new)) → d.tells → (c : Files) → d.left_since new (d.moment old) c
      → IsRunOn StandsFor (d.seen old) (record { steps = []; replies = []; answered = 0; shown = handed_out (Err fault); left = c })
  unlooked fault new opening told c left = runs_on (d.seen old) [] [] 0 c (λ before stands. (opening.kept before told stands).stops.each told c left)

  module _ (opened listed : Engine D d) (opening : IsOpening d config old (Ok opened)) (found : Result (Vec Entry) Fault) (listing : IsListing d found opened listed) (told : d.tells) where
    -- whatever was handed out are the entries of what the files stood for
    pub shows_so : (r : Result (Vec Entry) Fault) → IfOk r (λ list. (before : List Effect) (s : Shown) (v : View) → IsLife d before s v opened → EntriesKept before s v list.items)
        → IfSome (handed_out r) (λ es. (before : List Effect) → StandsFor before (d.seen old) → es ≡ entries (apply_all empty before))
    shows_so (Ok list) kept = λ before stands. (kept before nothing_shown (start (apply_all empty before) opened.txns.next) (opening.kept before told stands).ok.0).walk
    shows_so (Err e) kept = tt

    pub never_so : (r : Result (Vec Entry) Fault) → IfErr r (λ e. (before : List Effect) (s : Shown) (v : View) → IsLife d before s v opened → e ≢ NotAStore) → IfErr r (λ e. (before : List Effect) → StandsFor before (d.seen old) → e ≢ NotAStore)
    never_so (Ok list) never = tt
    never_so (Err e) never = λ before stands. never before nothing_shown (start (apply_all empty before) opened.txns.next) (opening.kept before told stands).ok.0

    pub looked : (c : Files) → d.left_since listed.disk (d.moment old) c → IsRunOn StandsFor (d.seen old) (record { steps = []; replies = []; answered = 0; shown = handed_out found; left = c })
    looked c left = record {
      takes = takes_on (d.seen old) (record { steps = []; replies = []; answered = 0; shown = handed_out found; left = c })
          (λ before stands.
          let kept = opening.kept before told stands in
          let allowed = Allowed before nothing_shown in
          (then_named d allowed (allowed_nameless before nothing_shown) old opened.disk listed.disk kept.stops (listing.kept before nothing_shown (start (apply_all empty before) opened.txns.next) kept.ok.0).stops).each told c left);
      shows = shows_so found listing.entries;
    }

  -- a list, and a refusal, under a premise that comes later
  pub shows_told : (r : Result (Vec Entry) Fault) → (d.tells → IfSome (handed_out r) (λ es. (before : List Effect) → StandsFor before (d.seen old) → es ≡ entries (apply_all empty before)))
      → IfOk r (λ list. (before : List Effect) → d.tells → StandsFor before (d.seen old) → list.items ≡ entries (apply_all empty before))
  shows_told (Ok list) shows = λ before told stands. shows told before stands
  shows_told (Err e) shows = tt

  pub never_told : (r : Result (Vec Entry) Fault) → (d.tells → IfErr r (λ e. (before : List Effect) → StandsFor before (d.seen old) → e ≢ NotAStore)) → IfErr r (λ e. (before : List Effect) → d.tells → StandsFor before (d.seen old) → e ≢ NotAStore)
  never_told (Ok list) never = tt
  never_told (Err e) never = λ before told stands. never told before stands
