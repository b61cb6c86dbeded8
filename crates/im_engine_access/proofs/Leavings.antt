-- A delete that is laid down beside a structure change of another: what is kept of it.
use Rattle.std.proofs.Common.{◌≡◌, ◌≢◌, ◌⊎◌, inl, inr, ℕ, List, length, None, Some, Result, Ok, Err, sym, ◌∙◌, ap, subst}
use Rattle.std.specs.Prelude.{IsErrAnd}
use Rattle.std.specs.FinMap.{get}
use Rattle.im_base_types.specs.declared.fault.Fault.{Fault}
use Rattle.im_base_types.specs.declared.fault.Fault.TheVariants.{Device, LogFull, NotAStore}
use Rattle.im_base_types.specs.Keys.{Key}
use Rattle.im_base_types.specs.Maps.{IndexMap}
use Rattle.im_base_types.specs.Answers.{Delete}
use Rattle.im_base_types.specs.Pages.{Page}
use Rattle.im_page_pool.specs.Pool.{PoolView, page_at}
use Rattle.im_page_writer.specs.Outcome.{AllPages, IsSound}
use Rattle.im_theory_machine.specs.Locks.{Request}
use Rattle.im_theory_machine.specs.Rows.{asked}
use Rattle.im_theory_machine.specs.Table.{Table, Decides}
use Rattle.im_theory_machine.specs.declared.verdict.Verdict.{Verdict}
use Rattle.im_theory_tree.specs.Good.{IsGoodTree}
use Rattle.im_theory_tree.specs.Levels.{Pages}
use Rattle.im_theory_tree.specs.Search.{IsOnWay}
use Rattle.im_tree_search.specs.declared.change_beside.Beside.{Beside}
use Rattle.im_tree_search.specs.declared.sight.Sight.{Sight}
use Rattle.im_tree_search.specs.declared.sight.Sight.TheVariants.{Seen, Hidden}
use Rattle.im_tree_search.specs.Levels.{bodies_of}
use Rattle.im_tree_search.specs.Sights.{IfSeen}
use Rattle.im_smo_split.proofs.OneLeaf.{one_leaf}
use Rattle.im_engine_access.specs.declared.change_plan.Leaving.{Leaving}
use Rattle.im_engine_access.specs.declared.lock_answer.LockAnswer.{LockAnswer}
use Rattle.im_engine_access.specs.declared.lock_answer.LockAnswer.TheVariants.{Granted, Wait, Die}
use Rattle.im_engine_access.specs.Barred.{Bars, TreeCause}
use Rattle.im_engine_access.specs.ChangePlans.{IsLeaving, IsLeavingDecided, LeavingKept}
use Rattle.im_engine_access.specs.Edits.{HasOne}
use Rattle.im_engine_access.specs.LockAnswers.{verdict_of, IfGranted}
use Rattle.im_engine_access.proofs.Calls.{decided_as}

-- what the lock table decided
pub leaving_decided : (leaving : Leaving) (old new : Table) (t : ℕ) (key : Key) (m : IndexMap) (row : List Request) (verdict : Verdict) (answer : LockAnswer Leaving) → Decides old t row verdict new → row ≡ asked (Delete key) m
    → verdict_of answer ≡ verdict → IfGranted answer (λ x. x ≡ leaving) → IsLeavingDecided (λ x. x ≡ leaving) old t key m new answer
leaving_decided leaving old new t key m row verdict answer decides is same value = record { decides = decided_as old new t row (asked (Delete key) m) verdict answer decides is same; so = value }

so_granted : (P : Leaving → Type 0) (leaving : Leaving) (answer : LockAnswer Leaving) → P leaving → IfGranted answer (λ x. x ≡ leaving) → IfGranted answer P
so_granted P leaving (Granted x) holds is = subst P (sym is) holds
so_granted P leaving (Wait holder) holds is = tt
so_granted P leaving Die holds is = tt

-- where the leaf has more, a key needs no change to go
pub more_not : (pages : Pages) (spare : List ℕ) (key : Key) (page : ℕ) → IsGoodTree pages spare → IsOnWay pages 0 key page → (page ≡ 1) ⊎ (length (pages page).entries ≢ 1) → HasOne pages key → ⊥
more_not pages spare key page good way (inl is) one = one.under (sym (one_leaf pages spare key page one.page good way one.way) ∙ is)
more_not pages spare key page good way (inr other) one = other (ap (λ (p : ℕ). length (pages p).entries) (one_leaf pages spare key page one.page good way one.way) ∙ one.one)

pub some_there : (m : IndexMap) (key : Key) (rid : ℕ) → get m key ≡ Some rid → get m key ≢ None
some_there m key rid there none = let clash : Some rid ≡ None = sym there ∙ none in cc clash

module _ (pages : AllPages) (beside : Beside) (t : ℕ) (key : Key) (m : IndexMap) (old new : Table) where
  abbrev Kept : Result (Sight (LockAnswer Leaving)) Fault → Type 0
  Kept r = LeavingKept pages beside t key m old new r

  -- where it is hidden
  pub leaving_hidden : TreeCause (bodies_of pages) beside (Delete key) m → new ≡ old → Kept (Ok Hidden)
  leaving_hidden why same = record { sound = (why, same); first = λ bars. (tt, tt) }

  -- where the change beside bars nothing
  pub leaving_seen : (leaving : Leaving) (r : Result (Sight (LockAnswer Leaving)) Fault) → IsLeaving pages beside key m leaving → (Bars (bodies_of pages) beside (Delete key) m → ⊥)
      → IsSound r (IfSeen (IsLeavingDecided (λ x. x ≡ leaving) old t key m new) (TreeCause (bodies_of pages) beside (Delete key) m × (new ≡ old))) → Kept r
  leaving_seen leaving (Ok (Seen answer)) may never sound = record { sound = record { decides = sound.decides; so = so_granted (IsLeaving pages beside key m) leaving answer may sound.so }; first = λ bars. absurd (never bars) }
  leaving_seen leaving (Ok Hidden) may never sound = record { sound = sound; first = λ bars. (tt, tt) }
  leaving_seen leaving (Err y) may never sound = record { sound = sound; first = λ bars. absurd (never bars) }

  -- where it is refused
  pub leaving_refused : (f : Fault) (r : Result (Sight (LockAnswer Leaving)) Fault) → IsErrAnd r (λ y. y ≡ f) → f ≢ NotAStore → (Bars (bodies_of pages) beside (Delete key) m → (f ≡ Device) ⊎ (f ≡ LogFull)) → Kept r
  leaving_refused f (Ok x) is sound first = absurd is
  leaving_refused f (Err y) is sound first = record { sound = λ same. sound (sym is ∙ same); first = λ bars. (tt, subst (λ (x : Fault). (x ≡ Device) ⊎ (x ≡ LogFull)) (sym is) (first bars)) }

-- ---- what a held leaf says of its entries, its page does

pub more_at : (p : ℕ) (page : Page) (pool : PoolView) → page_at pool p ≡ page → (p ≡ 1) ⊎ (length (page_at pool p).body.entries ≢ 1) → (p ≡ 1) ⊎ (length page.body.entries ≢ 1)
more_at p page pool is (inl root) = inl root
more_at p page pool is (inr other) = inr (λ one. other (ap (λ (x : Page). length x.body.entries) is ∙ one))

pub one_at : (p : ℕ) (page : Page) (pool : PoolView) → page_at pool p ≡ page → (p ≢ 1) × (length (page_at pool p).body.entries ≡ 1) → (p ≢ 1) × (length page.body.entries ≡ 1)
one_at p page pool is one = (one.0, ap (λ (x : Page). length x.body.entries) (sym is) ∙ one.1)
