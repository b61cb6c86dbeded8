-- What the code above wants: views that look alike are equal, a run goes on by one step, the walk over a list of transactions, and the three verdicts exclude one another.
use Rattle.std.proofs.Common.{◌≡◌, ◌≢◌, ℕ, ◌≤◌, ◌<◌, List, [], ◌∷◌, ◌++◌, refl, ap, sym, subst, ◌∙◌, inl, inr, ◌⊎◌, arith}
use Rattle.std.specs.FinMap.{get}
use Rattle.im_base_types.specs.Keys.{Key}
use Rattle.im_base_types.specs.Maps.{IndexMap}
use Rattle.im_base_types.specs.Answers.{Step, Reply}
use Rattle.im_base_types.specs.Changes.{apply, Touches}
use Rattle.im_theory_machine.specs.View.{Txn, View}
use Rattle.im_theory_machine.specs.Machine.{Moves, Run}
use Rattle.im_theory_machine.specs.Isolation.{IsTogether}
use Rattle.im_theory_machine.specs.Locks.{Request, Lock, IsFree, WaitsFor, MustDie}
use Rattle.im_theory_machine.proofs.Changes.{same_maps, apply-agrees, apply-untouched, cases_touches}

pub view_is : (v w : View) → v.committed ≡ w.committed → v.walk ≡ w.walk → v.next ≡ w.next → v.active ≡ w.active → v.failed ≡ w.failed → ((t : ℕ) → v.txns t ≡ w.txns t) → v.queue ≡ w.queue → v.under ≡ w.under → v ≡ w
view_is v w a b c d e f g h = λ i. record { committed = a i; walk = b i; next = c i; active = d i; failed = e i; txns = λ t. f t i; queue = g i; under = h i }

pub Run-push : (v mid w : View) (front : List (Step × Reply)) (step : Step) (reply : Reply) → Run v front mid → Moves mid step reply w → Run v (front ++ (step, reply) ∷ []) w
Run-push v mid w [] step reply r m = (w, subst (λ (u : View). Moves u step reply w) r m, refl)
Run-push v mid w (e ∷ es) step reply r m = (r.0, r.1, Run-push r.0 mid w es step reply r.2 m)

pub Run-append : (v mid w : View) (front rest : List (Step × Reply)) → Run v front mid → Run mid rest w → Run v (front ++ rest) w
Run-append v mid w [] rest r s = subst (λ (u : View). Run u rest w) r s
Run-append v mid w (e ∷ es) rest r s = (r.0, r.1, Run-append r.0 mid w es rest r.2 s)

-- ---- the walk over a list of transactions

-- the nets of these transactions, one after another
abbrev pub with_nets : (ℕ → Txn) → IndexMap → List ℕ → IndexMap
with_nets txns m [] = m
with_nets txns m (t ∷ ts) = apply (with_nets txns m ts) ((txns t).net)

abbrev pub IsIn : ℕ → List ℕ → Type 0
IsIn t [] = ⊥
IsIn t (u ∷ us) = (u ≡ t) ⊎ IsIn t us

-- each number once
abbrev pub IsOnce : List ℕ → Type 0
IsOnce [] = Unit {0}
IsOnce (t ∷ ts) = (IsIn t ts → ⊥) × IsOnce ts

with_nets-untouched : (txns : ℕ → Txn) (m : IndexMap) (ts : List ℕ) (x : Key) → ((t : ℕ) → IsIn t ts → Touches ((txns t).net) x → ⊥) → get (with_nets txns m ts) x ≡ get m x
with_nets-untouched txns m [] x none = refl
with_nets-untouched txns m (t ∷ ts) x none =
    apply-untouched (with_nets txns m ts) ((txns t).net) x (none t (inl refl)) ∙ with_nets-untouched txns m ts x (λ u i. none u (inr i))

with_nets-touched : (txns : ℕ → Txn) (m : IndexMap) (ts : List ℕ) (x : Key) (t : ℕ) → IsOnce ts → IsIn t ts → ((u : ℕ) → u ≢ t → Touches ((txns u).net) x → ⊥) → get (with_nets txns m ts) x ≡ get (apply m ((txns t).net)) x
with_nets-touched txns m [] x t once i others = absurd i
with_nets-touched txns m (u ∷ us) x t once i others =
    elim i [
      | inl e ↦
          ap (λ s. get (apply (with_nets txns m us) ((txns s).net)) x) e
          ∙ apply-agrees m (with_nets txns m us) ((txns t).net) x (with_nets-untouched txns m us x (λ s j. others s (λ q. once.0 (subst (λ n. IsIn n us) (q ∙ sym e) j))))
      | inr j ↦
          apply-untouched (with_nets txns m us) ((txns u).net) x (others u (λ q. once.0 (subst (λ n. IsIn n us) (sym q) j)))
          ∙ with_nets-touched txns m us x t once.1 j others
    ]

toucher : (txns : ℕ → Txn) (ts : List ℕ) (x : Key) → ((t : ℕ) × IsIn t ts × Touches ((txns t).net) x) ⊎ ((t : ℕ) → IsIn t ts → Touches ((txns t).net) x → ⊥)
toucher txns [] x = inr (λ t i h. i)
toucher txns (u ∷ us) x =
    elim (cases_touches ((txns u).net) x) [
      | inl h ↦ inl (u, inl refl, h)
      | inr no_touch ↦ elim (toucher txns us x) [
        | inl p ↦ inl (p.0, inr p.1, p.2)
        | inr rest ↦ inr (λ t i h. elim i [ inl e ↦ no_touch (subst (λ s. Touches ((txns s).net) x) (sym e) h) | inr j ↦ rest t j h ])
      ]
    ]

-- the walk is the committed map with the nets of all transactions, in whatever order they are listed
pub walk-nets : (v : View) → IsTogether v → (ts : List ℕ) → IsOnce ts → ((t : ℕ) (x : Key) → Touches ((v.txns t).net) x → IsIn t ts) → v.walk ≡ with_nets v.txns v.committed ts
walk-nets v h ts once all = same_maps _ _ (λ x.
    elim (toucher v.txns ts x) [
      | inl p ↦ h.touched p.0 x p.2 ∙ sym (with_nets-touched v.txns v.committed ts x p.0 once p.1 (λ u ne touch. h.apart u p.0 ne x touch p.2))
      | inr none ↦ h.untouched x (λ t touch. none t (all t x touch) touch) ∙ sym (with_nets-untouched v.txns v.committed ts x none)
    ])

-- ---- granted, waiting and dying exclude one another, so one implication each says "exactly where"

pub free_or_waits : (locks : ℕ → List Lock) (t : ℕ) (row : List Request) (holder : ℕ) → IsFree locks t row → WaitsFor locks t row holder → ⊥
free_or_waits locks t row holder free waits = free holder waits.conflict

pub free_or_dies : (locks : ℕ → List Lock) (t : ℕ) (row : List Request) → IsFree locks t row → MustDie locks t row → ⊥
free_or_dies locks t row free dies = free dies.holder dies.conflict

pub waits_or_dies : (locks : ℕ → List Lock) (t : ℕ) (row : List Request) (holder : ℕ) → WaitsFor locks t row holder → MustDie locks t row → ⊥
waits_or_dies locks t row holder waits dies =
    let a : holder ≤ dies.holder = waits.smallest dies.holder dies.conflict in let b : t < holder = waits.older in let c : dies.holder < t = dies.older in omega arith

pub one_holder : (locks : ℕ → List Lock) (t : ℕ) (row : List Request) (a b : ℕ) → WaitsFor locks t row a → WaitsFor locks t row b → a ≡ b
one_holder locks t row a b p q =
    let x : a ≤ b = p.smallest b q.conflict in let y : b ≤ a = q.smallest a p.conflict in omega arith
