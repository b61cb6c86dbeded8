-- The exits of an access that may change a key, beside a structure change.
use Rattle.std.proofs.Common.{◌≡◌, ◌≢◌, ◌⊎◌, inl, inr, ⊎_elim, ℕ, List, [], true, Option, None, Some, Ok, refl, sym, ap, subst, ◌∙◌}
use Rattle.std.specs.Prelude.{is_some, ◌==◌}
use Rattle.std.specs.List.{list_any}
use Rattle.im_base_types.specs.Answers as answers
use Rattle.im_base_types.specs.Answers.{Access, Fetch, Seek, Next, Prev, Scan, Insert, Delete, Do, Continue}
use Rattle.im_base_types.specs.Changes.{Effect}
use Rattle.im_base_types.specs.Keys.{Key}
use Rattle.im_base_types.specs.Lives.{Shown}
use Rattle.im_base_types.specs.Maps.{IndexMap}
use Rattle.im_base_types.specs.declared.fault.Fault.TheVariants.{Device, LogFull}
use Rattle.im_base_disk.specs.declared.disk.Disk.{Ghosts}
use Rattle.im_base_steps.specs.declared.reply.Reply.{Reply}
use Rattle.im_base_steps.specs.declared.reply.Reply.TheVariants as replies
use Rattle.im_base_steps.specs.Calls.{told_by}
use Rattle.im_theory_log.specs.Histories.{Base, History}
use Rattle.im_theory_log.specs.Structure.{settled}
use Rattle.im_theory_machine.specs.View.{View, owns_in}
use Rattle.im_theory_steps.specs.Checks.{checked_by}
use Rattle.im_theory_tree.specs.Levels.{Pages}
use Rattle.im_tree_search.specs.declared.change_beside.Beside.{Beside}
use Rattle.im_tree_search.specs.declared.sight.Sight.{Sight}
use Rattle.im_tree_search.specs.declared.sight.Sight.TheVariants.{Seen}
use Rattle.im_smo_split.specs.Tops.{LacksRoomFor}
use Rattle.im_smo_actions.specs.GoingBeside.{is_planned}
use Rattle.im_engine_access.specs.Barred as below
use Rattle.im_engine_access.specs.Barred.{Bars, IsBarred, IsBarredOff}
use Rattle.im_engine_access.specs.Edits.{HasOne}
use Rattle.im_engine_access.proofs.NoneBeside.{cause_none}
use Rattle.im_engine.specs.declared.engine.Engine.{Engine}
use Rattle.im_engine.specs.declared.stepped.Under.{Under}
use Rattle.im_engine.specs.Aims.{IsBesideOf, IsSameUnder, IsToldTo, under_of}
use Rattle.im_engine.specs.Running.{IsRunning}
use Rattle.im_engine.specs.Told.{IsBlockedBy, IsPaced}
use Rattle.im_engine.specs.Paces.{BarsAccess, IsInTheWay, TreeCause}
use Rattle.im_engine.proofs.SteppedPaces.{blocked_by}
use Rattle.im_engine.proofs.SteppedTold.{none_under}

-- ---- in the words of the calls below

-- a change under way has pages, and what is told of it is always the same
some_told : (u : Under) (beside : Beside) → IsToldTo u beside → beside.pages.now ≢ []
some_told u beside told none = let clash : Some u ≡ None = none_under (Some u) beside told none in cc clash

planned_as : (u : Under) (one two : Beside) → IsToldTo u one → IsToldTo u two → (p : ℕ) → is_planned one p ≡ is_planned two p
planned_as u one two first second p = ap (λ (ps : List ℕ). list_any (λ (q : ℕ). q == p) ps) (first.pages ∙ sym second.pages)

in_the_way : (u : Under) (pages : Pages) (one two : Beside) (key : Key) (Needs : Type 0) → IsToldTo u one → IsToldTo u two → IsInTheWay pages one key Needs → IsBarred pages two key Needs
in_the_way u pages one two key Needs first second is = record { leaf = is.leaf; way = is.way; by = ⊎_elim (λ planned. inl (sym (planned_as u one two first second is.leaf) ∙ planned)) (λ needs. inr (some_told u two second, needs)) is.by }

-- which accesses it bars
pub bars_below : (u : Under) (pages : Pages) (one two : Beside) (a : Access) (m : IndexMap) → IsToldTo u one → IsToldTo u two → BarsAccess pages one a m → Bars pages two a m
bars_below u pages one two (Insert k i) m first second is = (is.0, in_the_way u pages one two k (LacksRoomFor pages k) first second is.1)
bars_below u pages one two (Delete k) m first second is = (is.0, in_the_way u pages one two k (HasOne pages k) first second is.1)
bars_below u pages one two (Fetch k) m first second is = is
bars_below u pages one two (Seek k) m first second is = is
bars_below u pages one two (Next k) m first second is = is
bars_below u pages one two (Prev k) m first second is = is
bars_below u pages one two (Scan lo hi n) m first second is = is

bars_above : (pages : Pages) (beside : Beside) (a : Access) (m : IndexMap) → Bars pages beside a m → BarsAccess pages beside a m
bars_above pages beside (Insert k i) m is = (is.0, record { leaf = is.1.leaf; way = is.1.way; by = ⊎_elim (λ planned. inl planned) (λ needs. inr needs.1) is.1.by })
bars_above pages beside (Delete k) m is = (is.0, record { leaf = is.1.leaf; way = is.1.way; by = ⊎_elim (λ planned. inl planned) (λ needs. inr needs.1) is.1.by })
bars_above pages beside (Fetch k) m is = is
bars_above pages beside (Seek k) m is = is
bars_above pages beside (Next k) m is = is
bars_above pages beside (Prev k) m is = is
bars_above pages beside (Scan lo hi n) m is = is

-- and why one is hidden
pub cause_above : (pages : Pages) (beside : Beside) (a : Access) (m : IndexMap) (log : History) (t : ℕ) → below.TreeCause pages beside a m → TreeCause pages beside m log (Do t a)
cause_above pages beside a m log t (below.meets is) = inl is
cause_above pages beside a m log t (below.barred is) = inr (bars_above pages beside a m is)

-- a call that is barred is hidden, or the files refused it
pub barred_seen : {X : Type 0} (o : Sight X) (x : X) → o ≡ Seen x → IsBarredOff (Ok o) → ⊥
barred_seen {X} o x seen off = (subst (λ (y : Sight X). IsBarredOff (Ok y)) seen off).0

module _ {D : Type 0} (d : Ghosts D) (t : ℕ) (a : Access) (old new : Engine D d) (checked : checked_by old.txns.rows (owns_in (under_of old.under) (Do t a)) (Do t a) ≡ None) (beside : Beside) (told : IsBesideOf old.under beside) where
  -- it is hidden only by the structure change under way
  pub hides : {b : Base} (before : List Effect) (s : Shown) (v : View) (r : IsRunning d b before s v old) → below.TreeCause (settled b r.now.log) beside a v.walk → (u : Under) × (old.under ≡ Some u) × IsBlockedBy d b before s v (Do t a) old r
  hides {b} before s v r cause = by old.under refl told
    where
      by : (under : Option Under) → old.under ≡ under → IsBesideOf under beside → (u : Under) × (old.under ≡ Some u) × IsBlockedBy d b before s v (Do t a) old r
      by None so none = absurd (cause_none (settled b r.now.log) beside a v.walk none cause)
      by (Some u) so it = (u, so, blocked_by d t a old checked before s v r u so beside it (cause_above (settled b r.now.log) beside a v.walk r.now.log t cause))

  -- how it goes on beside it, by what the call below says where it is barred
  pub paced_by : (reply : Reply) → (told_by reply ≡ answers.BlockedTree → (b : Base) (before : List Effect) (s : Shown) (v : View) (r : IsRunning d b before s v old) → IsBlockedBy d b before s v (Do t a) old r)
      → ((b : Base) (before : List Effect) (s : Shown) (v : View) (r : IsRunning d b before s v old) → Bars (settled b r.now.log) beside a v.walk → (told_by reply ≡ answers.BlockedTree) ⊎ (reply ≡ replies.Refused Device) ⊎ (reply ≡ replies.Refused LogFull))
      → ((b : Base) (before : List Effect) (s : Shown) (v : View) (r : IsRunning d b before s v old) → IsSameUnder old.under new.under ⊎ ((old.under ≡ None) × (old.stepped ≡ true) × (reply ≡ replies.More) × (is_some new.under ≡ true))) → IsPaced d (Do t a) reply old new
  paced_by reply tree first others = record {
    tree = tree;
    first = λ none b before s v r u under other two is bars. first b before s v r (bars_below u (settled b r.now.log) two beside a v.walk is (subst (λ (x : Option Under). IsBesideOf x beside) under told) bars);
    told = λ none u under clash. absurd (let never : Do t a ≡ Continue u.begun.change.transaction = clash in cc never);
    own = λ none b before s v r u under clash. absurd (let never : Do t a ≡ Continue u.begun.change.transaction = clash in cc never);
    others = λ b before s v r not. others b before s v r;
  }
