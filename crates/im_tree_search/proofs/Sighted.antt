-- Sights that are handed on, and trees of which some pages are made.
use Rattle.std.proofs.Common.{◌≡◌, ◌≤◌, ℕ, Bool, true, false, List, [], ◌∷◌, take, None, refl, sym, ◌∙◌, ap, subst, arith, inl, inr}
use Rattle.std.specs.Prelude.{Option, Result, Ok, Err, IfOk, ◌==◌}
use Rattle.std.specs.List.{list_any}
use Rattle.std.proofs.lemmas.Bool.{cases_lt}
use Rattle.im_base_types.specs.declared.fault.Fault.{Fault}
use Rattle.im_base_types.specs.declared.fault.Fault.TheVariants.{Failed}
use Rattle.im_base_types.specs.Keys.{Key}
use Rattle.im_base_disk.specs.declared.disk.Disk.{Ghosts}
use Rattle.im_base_disk.specs.Disk.{Files}
use Rattle.im_page_pool.specs.declared.frame.Frame.{Frame}
use Rattle.im_page_pool.specs.Pool.{PoolView, page_at}
use Rattle.im_page_writer.specs.declared.page_writer.PageWriter.{PageWriter}
use Rattle.im_page_writer.specs.PageWriter.{IsReadyWriter}
use Rattle.im_page_writer.specs.Outcome.{fault_of, AllPages, AreLoaded, IsSound, Outcome, Reads}
use Rattle.im_page_writer.proofs.Outcomes.{idle, pages_still}
use Rattle.im_theory_tree.specs.Search.{IsOnWay}
use Rattle.im_tree_search.specs.declared.change_beside.Beside.{Beside}
use Rattle.im_tree_search.specs.declared.sight.Sight.{Sight}
use Rattle.im_tree_search.specs.declared.sight.Sight.TheVariants.{Seen, Hidden}
use Rattle.im_tree_search.specs.Levels.{bodies_of}
use Rattle.im_tree_search.specs.Found.{HasTree, IsReached}
use Rattle.im_tree_search.specs.Sights.{is_done, HasTreeBut, IfSeen, IsSeenOf, IsWayMade}

-- ---- which pages are made

none_taken : (n p : ℕ) (qs : List ℕ) → n ≡ 0 → list_any (λ (q : ℕ). q == p) (take n qs) ≡ false
none_taken n p qs none = ap (λ (m : ℕ). list_any (λ (q : ℕ). q == p) (take m qs)) none ∙ at_none qs
  where
    at_none : (ps : List ℕ) → list_any (λ (q : ℕ). q == p) (take 0 ps) ≡ false
    at_none [] = refl
    at_none (x ∷ ps) = refl

pub none_done : (beside : Beside) (p : ℕ) → beside.done ≡ 0 → is_done beside p ≡ false
none_done beside p none = none_taken beside.done p beside.pages.now none

pub some_done : (beside : Beside) (p : ℕ) → is_done beside p ≡ true → 1 ≤ beside.done
some_done beside p is = elim (cases_lt 0 beside.done) [
  | inl some ↦ omega (arith, some)
  | inr none ↦ (let clash : true ≡ false = sym is ∙ none_done beside p (omega (arith, none)) in absurd (cc clash))
]

-- ---- the tree

-- a tree beside which nothing is made
pub tree_but : {D : Type 0} (d : Ghosts D) {pages : AllPages} {w : PageWriter} {disk : D} (beside : Beside) → beside.done ≡ 0 → HasTree d pages w disk → HasTreeBut d pages beside w disk
tree_but {D} d {pages} {w} {disk} beside none tree = record {
  now = pages;
  has = tree.has;
  agrees = λ p not. refl;
  count = λ is. (let clash : true ≡ false = sym is ∙ none_done beside 0 none in absurd (cc clash));
  spare = tree.spare;
  good = tree.good;
}

-- it is there still
pub but_still : {D : Type 0} (d : Ghosts D) {m : Fault → Bool} {pages : AllPages} {beside : Beside} {v : PageWriter} {old : D} {w : PageWriter} {mid : D} → HasTreeBut d pages beside v old → Outcome d AreLoaded m v old w mid None → HasTreeBut d pages beside w mid
but_still {D} d {m} {pages} {beside} {v} {old} {w} {mid} tree one = record { now = tree.now; has = pages_still d tree.has one; agrees = tree.agrees; count = tree.count; spare = tree.spare; good = tree.good }

-- ---- what is seen where nothing is hidden

pub open_of : {A : Type 0} (r : Result (Sight A) Fault) (P : A → Type 0) (n : ℕ) → n ≡ 0 → IfOk r (IfSeen P (1 ≤ n)) → IfOk r (IfSeen (λ _. Unit {0}) ⊥)
open_of (Ok (Seen a)) P n none is = tt
open_of (Ok Hidden) P n none is = omega (arith, none, is)
open_of (Err e) P n none is = tt

seen_fault : {A : Type 0} (r : Result (Sight A) Fault) (s : Result A Fault) → IsSeenOf r s → fault_of r ≡ fault_of s
seen_fault r (Ok a) is = ap fault_of is.ok
seen_fault r (Err e) is = ap fault_of is.err

pub seen_reads : {D : Type 0} (d : Ghosts D) {A : Type 0} {m : Fault → Bool} {v : PageWriter} {old : D} {w : PageWriter} {new : D} (r : Result (Sight A) Fault) (s : Result A Fault) → IsSeenOf r s → Outcome d AreLoaded m v old w new (fault_of r) → Outcome d AreLoaded m v old w new (fault_of s)
seen_reads {D} d {A} {m} {v} {old} {w} {new} r s is one = subst (λ (why : Option Fault). Outcome d AreLoaded m v old w new why) (seen_fault r s is) one

pub seen_sound : {A : Type 0} (r : Result (Sight A) Fault) (s : Result A Fault) (P : A → Type 0) (W : Type 0) → IsSeenOf r s → IsSound r (IfSeen P W) → IsSound s P
seen_sound r (Ok a) P W is sound = subst (λ (x : Result (Sight _) Fault). IsSound x (IfSeen P W)) is.ok sound
seen_sound r (Err e) P W is sound = subst (λ (x : Result (Sight _) Fault). IsSound x (IfSeen P W)) is.err sound

pub seen_ok : {A : Type 0} (r : Result (Sight A) Fault) (s : Result A Fault) (P Q : A → Type 0) (W : Type 0) → IsSeenOf r s → IfOk r (IfSeen P W) → ((a : A) → P a → Q a) → IfOk s Q
seen_ok r (Ok a) P Q W is ok to = to a (subst (λ (x : Result (Sight _) Fault). IfOk x (IfSeen P W)) is.ok ok)
seen_ok r (Err e) P Q W is ok to = tt

-- ---- where a page that is made would be read

module _ {D : Type 0} (d : Ghosts D) {A : Type 0} (v : PageWriter) (old : D) (r : Result (Sight A) Fault) (works : v.failed ≡ false → r ≡ Ok Hidden) (fails : v.failed ≡ true → r ≡ Err Failed) where
  either : (P : Result (Sight A) Fault → Type 0) → (v.failed ≡ false → P (Ok Hidden)) → (v.failed ≡ true → P (Err Failed)) → P r
  either P shown refused = by v.failed refl
    where
      by : (b : Bool) → v.failed ≡ b → P r
      by false is = subst P (sym (works is)) (shown is)
      by true is = subst P (sym (fails is)) (refused is)

  pub hidden_reads : ((disk : D) (c : Files) → d.left_since disk (d.moment disk) c → d.may_leave disk c) → IsReadyWriter d v old → Reads d v old v old (fault_of r)
  hidden_reads only_now ready = either (λ x. Reads d v old v old (fault_of x)) (λ is. idle d only_now v old is ready) (λ is. record { ready = ready; frames = refl; ends = (is, is) })

  pub hidden_sound : (P : A → Type 0) (W : Type 0) → W → IsSound r (IfSeen P W)
  hidden_sound P W why = either (λ x. IsSound x (IfSeen P W)) (λ is. why) (λ is. λ same. (let never : ⊥ = cc same in never))

  pub hidden_ok : (P : A → Type 0) (W : Type 0) → W → IfOk r (IfSeen P W)
  hidden_ok P W why = either (λ x. IfOk x (IfSeen P W)) (λ is. why) (λ is. tt)

-- ---- a page on the way

-- a page on the way is got, or is made
pub reached_beside : (r : Result (Sight Frame) Fault) (pages : AllPages) (beside : Beside) (key : Key) (h p : ℕ) (pool : PoolView) → IsSound r (IfSeen (λ _. page_at pool p ≡ pages p) (is_done beside p ≡ true))
    → IfOk r (IfSeen (λ frame. frame.number ≡ p) (Unit {0})) → IsOnWay (bodies_of pages) h key p → IsSound r (IfSeen (λ frame. IsReached pages key h frame.number pool) (IsWayMade (bodies_of pages) beside key))
reached_beside (Ok (Seen frame)) pages beside key h p pool shown is way = subst (λ (n : ℕ). IsReached pages key h n pool) (sym is) (record { shown = shown; way = way })
reached_beside (Ok Hidden) pages beside key h p pool made is way = record { level = h; page = p; way = way; made = made }
reached_beside (Err e) pages beside key h p pool sound is way = sound

-- a page that was got is in the set where its number is
pub seen_in_set : (set : ℕ → Bool) (n : ℕ) (r : Result (Sight Frame) Fault) → set n ≡ true → IfOk r (IfSeen (λ frame. frame.number ≡ n) (Unit {0})) → IfOk r (IfSeen (λ frame. set frame.number ≡ true) (Unit {0}))
seen_in_set set n (Ok (Seen frame)) in_set is = subst (λ (m : ℕ). set m ≡ true) (sym is) in_set
seen_in_set set n (Ok Hidden) in_set is = tt
seen_in_set set n (Err e) in_set is = tt

-- ---- taking a sight apart

pub at_seen : {A : Type 0} (s : Sight A) (a : A) (P : A → Type 0) (W : Type 0) → s ≡ Seen a → IfSeen P W s → P a
at_seen s a P W is it = subst (IfSeen P W) is it

pub at_hidden : {A : Type 0} (s : Sight A) (P : A → Type 0) (W : Type 0) → ((a : A) → s ≡ Seen a → ⊥) → IfSeen P W s → W
at_hidden (Seen a) P W not it = absurd (not a refl)
at_hidden Hidden P W not it = it

-- a sight that says more
pub seen_also : {A : Type 0} (r : Result (Sight A) Fault) (P Q : A → Type 0) (W : Type 0) → IsSound r (IfSeen P W) → ((a : A) → P a → Q a) → IsSound r (IfSeen Q W)
seen_also (Ok (Seen a)) P Q W is to = to a is
seen_also (Ok Hidden) P Q W is to = is
seen_also (Err e) P Q W sound to = sound
