-- What upkeep leaves as it was.
use Rattle.std.proofs.Common.{◌∙◌, ap, refl, subst, sym, arith}
use Rattle.std.specs.Prelude.{◌≡◌, ◌+◌, ◌-◌, ◌∷◌, ℕ, Bool, true, false, List, [], length, if◌then◌else◌}
use Rattle.im_base_types.specs.Answers as answers
use Rattle.im_base_types.specs.declared.fault.Fault.{Fault}
use Rattle.im_base_disk.specs.declared.disk.Disk.{Ghosts}
use Rattle.im_base_steps.specs.declared.step.Step.{Step}
use Rattle.im_base_steps.specs.declared.step.Step.TheVariants.{Checkpoint, FlushPage, Switch}
use Rattle.im_base_steps.specs.declared.reply.Reply.{Reply}
use Rattle.im_base_steps.specs.declared.reply.Reply.TheVariants as replies
use Rattle.im_base_steps.specs.Calls.{asked_by, is_force, told_by}
use Rattle.im_base_steps.specs.Replies.{Suits, is_begin, is_commit, is_service}
use Rattle.im_engine.specs.declared.engine.Engine.{Engine}
use Rattle.im_engine.specs.Told.{IsStep, Known, after, known_of}
use Rattle.im_store.specs.declared.due.Due.{Due}
use Rattle.im_store.specs.declared.due.Due.TheVariants as due
use Rattle.im_store.specs.declared.upkeep.Upkeep.{Upkeep}
use Rattle.im_store.specs.Noted.{ahead_after, is_bare_after, is_done, is_left, noted, redo_from}
use Rattle.im_store.specs.Rule.{IsByRule, IsDue, IsTaken, IsWritten, WasRefused}
use Rattle.im_store.specs.Rule as rule
use Rattle.im_store.specs.Upkeep.{IsKeptUp, none, more}
use Rattle.im_store.specs.Stores.{SameLimits, follows}

chosen : (b : Bool) (x y : Known) → x.group ≡ y.group → (if b then x else y).group ≡ y.group
chosen true x y same = same
chosen false x y same = refl

-- no reply changes whether a Commit waits
pub after_group : (step : answers.Step) (reply : Reply) (k : Known) → (after step reply k).group ≡ k.group
after_group step (replies.Started n) k = refl
after_group step (replies.Found n) k = refl
after_group step replies.Absent k = refl
after_group step (replies.Entry key rid) k = refl
after_group step replies.End k = refl
after_group step (replies.Entries list) k = refl
after_group step replies.Inserted k = refl
after_group step replies.Duplicate k = refl
after_group step replies.Deleted k = refl
after_group step replies.Committed k = refl
after_group step replies.RolledBack k = refl
after_group step replies.More k = chosen (is_commit step) (record k { waiting = k.waiting + 1 }) k refl
after_group step (replies.Blocked by) k = refl
after_group step replies.Die k = refl
after_group step replies.Done k = chosen (is_force step) (record k { active = k.active - k.waiting; waiting = 0 }) k refl
after_group step (replies.Refused fault) k = refl

chosen_failed : (b : Bool) (x y : Known) → x.failed ≡ y.failed → (if b then x else y).failed ≡ y.failed
chosen_failed true x y same = same
chosen_failed false x y same = refl

-- only a refusal breaks an engine
after_failed : (step : answers.Step) (reply : Reply) (k : Known) → ((fault : Fault) → reply ≡ replies.Refused fault → ⊥) → (after step reply k).failed ≡ k.failed
after_failed step (replies.Started n) k taken = refl
after_failed step (replies.Found n) k taken = refl
after_failed step replies.Absent k taken = refl
after_failed step (replies.Entry key rid) k taken = refl
after_failed step replies.End k taken = refl
after_failed step (replies.Entries list) k taken = refl
after_failed step replies.Inserted k taken = refl
after_failed step replies.Duplicate k taken = refl
after_failed step replies.Deleted k taken = refl
after_failed step replies.Committed k taken = refl
after_failed step replies.RolledBack k taken = refl
after_failed step replies.More k taken = chosen_failed (is_commit step) (record k { waiting = k.waiting + 1 }) k refl
after_failed step (replies.Blocked by) k taken = refl
after_failed step replies.Die k taken = refl
after_failed step replies.Done k taken = chosen_failed (is_force step) (record k { active = k.active - k.waiting; waiting = 0 }) k refl
after_failed step (replies.Refused fault) k taken = absurd (taken fault refl)

-- a step that is of no transaction begins none
no_begin : (step : answers.Step) → is_service step ≡ true → is_begin step ≡ true → ⊥
no_begin answers.Begin service begins = cc service
no_begin (answers.Do t a) service begins = cc begins
no_begin (answers.Commit t) service begins = cc begins
no_begin (answers.Rollback t) service begins = cc begins
no_begin (answers.Continue t) service begins = cc begins
no_begin (answers.RollTo t n) service begins = cc begins
no_begin (answers.FlushPage p) service begins = cc begins
no_begin answers.Force service begins = cc begins
no_begin answers.Checkpoint service begins = cc begins
no_begin answers.Switch service begins = cc begins

chosen_active : (b : Bool) (x y : Known) → x.active ≡ 0 → y.active ≡ 0 → (if b then x else y).active ≡ 0
chosen_active true x y one other = one
chosen_active false x y one other = other

less : (a b : ℕ) → a ≡ 0 → a - b ≡ 0
less a b zero = omega (arith, zero)

-- and where nothing is active nothing is then
after_active : (step : answers.Step) (reply : Reply) (k : Known) → is_service step ≡ true → Suits step (told_by reply) → k.active ≡ 0 → (after step reply k).active ≡ 0
after_active step (replies.Started n) k service suits zero = absurd (no_begin step service suits)
after_active step (replies.Found n) k service suits zero = zero
after_active step replies.Absent k service suits zero = zero
after_active step (replies.Entry key rid) k service suits zero = zero
after_active step replies.End k service suits zero = zero
after_active step (replies.Entries list) k service suits zero = zero
after_active step replies.Inserted k service suits zero = zero
after_active step replies.Duplicate k service suits zero = zero
after_active step replies.Deleted k service suits zero = zero
after_active step replies.Committed k service suits zero = less k.active 1 zero
after_active step replies.RolledBack k service suits zero = less k.active 1 zero
after_active step replies.More k service suits zero = chosen_active (is_commit step) (record k { waiting = k.waiting + 1 }) k zero zero
after_active step (replies.Blocked by) k service suits zero = zero
after_active step replies.Die k service suits zero = zero
after_active step replies.Done k service suits zero = chosen_active (is_force step) (record k { active = k.active - k.waiting; waiting = 0 }) k (less k.active k.waiting zero) zero
after_active step (replies.Refused fault) k service suits zero = zero

none_of : {A : Type 0} (xs : List A) → length xs ≡ 0 → xs ≡ []
none_of [] zero = refl
none_of (x ∷ xs) zero = cc zero

-- a reply after which nothing is due is no Done
not_done : (reply : Reply) → follows reply ≡ false → is_done reply ≡ false
not_done (replies.Started n) not = refl
not_done (replies.Found n) not = refl
not_done replies.Absent not = refl
not_done (replies.Entry key rid) not = refl
not_done replies.End not = refl
not_done (replies.Entries list) not = refl
not_done replies.Inserted not = refl
not_done replies.Duplicate not = refl
not_done replies.Deleted not = refl
not_done replies.Committed not = refl
not_done replies.RolledBack not = refl
not_done replies.More not = refl
not_done (replies.Blocked by) not = refl
not_done replies.Die not = refl
not_done replies.Done not = cc not
not_done (replies.Refused fault) not = refl

module _ {D : Type 0} (d : Ghosts D) where
  -- and nothing is noted of it
  nothing_done : (done : Bool) (step : Step) (end length : ℕ) (new : Engine D d) (u : Upkeep) → done ≡ false
      → record u { from = redo_from d done step end new u.from; ahead = ahead_after done step u.ahead; is_upgraded = is_left done step u.is_upgraded; is_bare = is_bare_after done step length u.is_bare } ≡ u
  nothing_done false step end length new u is = refl
  nothing_done true step end length new u is = cc is

  pub nothing_noted : (step : Step) (reply : Reply) (end length : ℕ) (new : Engine D d) (u : Upkeep) → follows reply ≡ false → noted d step reply end length new u ≡ u
  nothing_noted step reply end length new u not = nothing_done (is_done reply) step end length new u (not_done reply not)

  pub step_limits : (step : Step) (reply : Reply) (old new : Engine D d) → IsStep d step reply old new → SameLimits d old new
  step_limits step reply old new made = record {
    max_pages = made.max_pages;
    dense = made.dense;
    frames = made.frames;
    group = ap (λ (k : Known). k.group) made.told.known ∙ after_group (asked_by step) reply (known_of d old);
  }

  pub limits_then : (old mid new : Engine D d) → SameLimits d old mid → SameLimits d mid new → SameLimits d old new
  limits_then old mid new one two = record {
    max_pages = two.max_pages ∙ one.max_pages;
    dense = two.dense ∙ one.dense;
    frames = two.frames ∙ one.frames;
    group = two.group ∙ one.group;
  }

  pub kept_limits : (old new : Engine D d) → IsKeptUp d old new → SameLimits d old new
  kept_limits old _ none = record { max_pages = refl; dense = refl; frames = refl; group = refl }
  kept_limits old _ (more mid new step reply before service made) = limits_then old mid new (kept_limits old mid before) (step_limits step reply mid new made)

  -- where nothing was active nothing is
  pub kept_rests : (old new : Engine D d) → IsKeptUp d old new → old.txns.rows ≡ [] → new.txns.rows ≡ []
  kept_rests old _ none rests = rests
  kept_rests old _ (more mid new step reply before service made) rests =
      let still = kept_rests old mid before rests in
      none_of new.txns.rows (ap (λ (k : Known). k.active) made.told.known ∙ after_active (asked_by step) reply (known_of d mid) service made.suits (subst (λ rows. length rows ≡ 0) (sym still) refl))

  -- an engine that works does so after what was not refused
  taken_works : (step : Step) (old new : Engine D d) → IsTaken d step old new → new.failed ≡ old.failed
  taken_works step old new it = ap (λ (k : Known). k.failed) it.made.told.known ∙ after_failed (asked_by step) it.reply (known_of d old) it.taken

  written_works : (old new : Engine D d) → IsWritten d old new → new.failed ≡ old.failed
  written_works old _ rule.none = refl
  written_works old _ (rule.more mid new page before taken) = taken_works (FlushPage page) mid new taken ∙ written_works old mid before

  pub works_by_rule : (what : Due) (u : Upkeep) (old new : Engine D d) → IsDue d u old what → IsByRule d u old new → old.failed ≡ false → new.failed ≡ false
  works_by_rule due.Switch u old new is by works = taken_works Switch old new (by.switched works is) ∙ works
  works_by_rule due.Checkpoint u old new is by works = (let made = by.taken works is in taken_works Checkpoint made.mid new made.taken ∙ written_works old made.mid made.written ∙ works)
  works_by_rule due.Nothing u old new is by works = written_works old new (by.nothing works is) ∙ works

  -- upkeep after upkeep
  pub kept_then : (old mid new : Engine D d) → IsKeptUp d old mid → IsKeptUp d mid new → IsKeptUp d old new
  kept_then old mid _ before none = before
  kept_then old mid _ before (more last new step reply later service made) = more last new step reply (kept_then old mid last before later) service made

  -- a refusal after upkeep
  pub refused_then : (old mid new : Engine D d) (fault : Fault) → IsKeptUp d old mid → WasRefused d mid new fault → WasRefused d old new fault
  refused_then old mid new fault before was = record { mid = was.mid; step = was.step; before = kept_then old mid was.mid before was.before; service = was.service; made = was.made }
