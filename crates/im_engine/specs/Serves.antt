-- An engine as a store that a front shares among threads.
use Rattle.std.specs.Prelude.{◌≡◌, ◌≤◌, ℕ, false, List, ◌++◌, [], ◌∷◌, length, find, Option, None, Some}
use Rattle.std.proofs.Common.{refl, sym, ap, subst, ◌∙◌, arith}
use Rattle.std.specs.FinMap.{empty}
use Rattle.im_base_types.specs.Answers.{Idle}
use Rattle.im_base_types.specs.Changes.{Effect, apply_all}
use Rattle.im_theory_log.specs.Histories.{Base}
use Rattle.im_base_types.specs.Lives.{Shown, Survives, effects, nothing_shown}
use Rattle.im_base_types.specs.declared.fault.Fault as below
use Rattle.im_base_disk.specs.declared.disk.Disk.{Ghosts}
use Rattle.im_base_disk.specs.Disk.{Files}
use Rattle.im_base_txn.specs.declared.transaction.Transaction.{Transaction}
use Rattle.im_base_txn.specs.Rows.{is_of}
use Rattle.im_theory_machine.specs.View as views
use Rattle.im_theory_machine.specs.View.{View, Txn}
use Rattle.im_theory_machine.specs.Machine.{start}
use Rattle.im_theory_steps.specs.Serving.{IsAt}
use Rattle.im_theory_steps.specs.Steps.{IsMarkFor}
use Rattle.im_theory_steps.proofs.Cited.{quiet_lives_settle, owners_marked}
use Rattle.im_base_types.specs.declared.fault.Fault.{Fault}
use Rattle.im_engine.specs.declared.engine.Engine.{Engine}
use Rattle.im_engine.specs.declared.stepped.Under.{Under}
use Rattle.im_engine.specs.Aims.{aim_of, owned, under_of}
use Rattle.im_engine.specs.Faults.{told_look}
use Rattle.im_engine.specs.Stands.{StandsFor}
use Rattle.im_engine.specs.Running.{IsRunning, IsLife}
use Rattle.im_engine.specs.Looking.{Looks}

module _ {D : Type 0} (d : Ghosts D) where
  -- Between two steps, and the table has as many transactions as the machine.
  pub record IsStoreLife (before : List Effect) (s : Shown) (v : View) (e : Engine D d) : Type 0 where
    pub life : IsLife d before s v e
    pub active : length e.txns.rows ≡ v.active

  -- Whatever files a stop now leaves stand for such effects.
  abbrev pub Leaves : Engine D d → (List Effect → Type 0) → Type 0
  Leaves e P = (c : Files) → d.may_leave e.disk c → (after : List Effect) × StandsFor after c × P after

  -- why the entries are refused
  pub record IsRefused (old new : Engine D d) (fault : Fault) : Type 0 where
    pub why : below.Fault
    pub told : fault ≡ told_look why
    pub looks : Looks d (Some why) old new

  -- its entries were looked at, and told or refused
  pub record WasLookedAt (old new : Engine D d) : Type 0 where
    pub why : Option below.Fault
    pub looks : Looks d why old new

no_rows : (rows : List Transaction) → length rows ≡ 0 → rows ≡ []
no_rows [] none = refl
no_rows (row ∷ rows) none = absurd (cc none)

-- who has a structure change under way is active
never_idle : (aim : views.Aim) → IsMarkFor aim Idle → ⊥
never_idle (views.Puts k i) is = cc is
never_idle (views.Drops k) is = cc is
never_idle views.TakesBack is = cc is
never_idle views.TookBack is = cc is

-- nobody waits for a force: who waits is active
pub none_waits : (active : ℕ) → 0 ≤ active
none_waits active = omega arith

-- where nobody is active no structure change is under way
module _ {D : Type 0} (d : Ghosts D) {b : Base} (before : List Effect) (s : Shown) (v : View) (e : Engine D d) (r : IsRunning d b before s v e) (none : v.active ≡ 0) where
  all_idle : (t : ℕ) → (v.txns t).mark ≡ Idle
  all_idle t =
      let empty : e.txns.rows ≡ [] = no_rows e.txns.rows (sym r.serving.table.active ∙ none) in
      ap (λ (x : Txn). x.mark) (subst (λ (rows : List Transaction). IsAt t (find (is_of t) rows) e.txns.next r.now.log (v.txns t)) empty (r.serving.table.each t)).2

  pub nobody_owns : e.under ≡ None
  nobody_owns = by e.under refl
    where
      by : (under : Option Under) → e.under ≡ under → e.under ≡ None
      by None is = is
      by (Some u) is = absurd (never_idle (aim_of u.aim) (subst (IsMarkFor (aim_of u.aim)) (all_idle u.begun.change.transaction) (owners_marked.marked (apply_all empty before) v r.serving.reached (owned u) (r.same ∙ ap under_of is))))

module _ {D : Type 0} {d : Ghosts D} where
  -- what was acknowledged survives a stop
  pub stops_keep : (before : List Effect) (s : Shown) (v : View) (e : Engine D d) → IsStoreLife d before s v e → Leaves d e (λ after. Survives before s.asked after)
  stops_keep before s v e h c left = let on = h.life.stops c left in (on.0, on.2, on.1)

  -- where nothing is active and the engine works, a new life begins with what was asked
  pub settled : (before : List Effect) (s : Shown) (v : View) (e : Engine D d) → IsStoreLife d before s v e → v.failed ≡ false → v.active ≡ 0
      → (v.committed ≡ apply_all empty (before ++ effects s.asked)) × IsStoreLife d (before ++ effects s.asked) nothing_shown (start v.committed v.next) e
  settled before s v e h works none =
      let run = h.life.running (sym h.life.failed ∙ works) in
      let r = run.1 in
      let on = quiet_lives_settle run.0 r.earlier before s v r.now.durable r.now.log e.txns.rows e.txns.next e.locks r.serving r.commits none in (
        on.committed,
        record {
          life = record {
            stops = λ c left. let was = h.life.stops c left in (was.0, on.stops was.0 was.1, was.2);
            failed = sym works ∙ h.life.failed;
            lived = record { shows = on.serving.shows; reached = on.serving.reached };
            running = λ _. (
              run.0,
              record {
                base = r.base;
                start = r.start;
                counted = r.counted;
                earlier = r.earlier;
                now = r.now;
                stands = r.stands;
                redo_end = r.redo_end;
                over = r.over;
                lawful = r.lawful;
                changing = r.changing;
                serving = on.serving;
                commits = on.commits;
                numbered = r.numbered;
                same = sym (ap under_of (nobody_owns d before s v e r none));
              },
            );
          };
          active = h.active ∙ none;
        },
      )
