-- The least number of those for which something holds.
use Rattle.std.proofs.Common.{suc, zero, Bool, true, false, true≢false, ◌∙◌, ◌≡◌, ◌<◌, ◌≤◌, ◌+◌, ℕ, List, [], ◌↔◌, length, take, refl, inl, inr, sym, subst, arith, take-take, get_or-take, length-take-le}
use Rattle.std.specs.List.{All}
use Rattle.std.proofs.Math.ListN.{get_or}
use Rattle.std.proofs.lemmas.List.Elements.{All-nil, All-more, All-take, All-get_or, All-weaker}
use Rattle.im_base_admission.specs.declared.going.Going.{Going}
use Rattle.im_base_admission.specs.declared.asker.Asker.{Asker as OneAsking}
use Rattle.im_base_admission.specs.declared.precedence.Precedence.{Precedence}
use Rattle.im_base_admission.specs.declared.precedence.Precedence.TheVariants.{Nobody, Asker, Another}
use Rattle.im_base_admission.specs.Admission.{IsOwn, Owns, IsAwaitedBy, IsLeastOf, IsLeastWith, MayGoOn, Goes, MayBegin, came_for, precedence_of}

-- what holds of all up to a place holds of those before it
before_last : (P : Going → Type 0) (i : ℕ) (going : List Going) → All P (take (i + 1) going) → All P (take i going)
before_last P i going all = subst (λ (l : List Going). All P l) (take-take i (i + 1) going (omega arith)) (All-take P i (take (i + 1) going) all)

-- and of the one there
at_last : (P : Going → Type 0) (i : ℕ) (d : Going) (going : List Going) → i < length going → All P (take (i + 1) going) → P (get_or going i d)
at_last P i d going room all =
    let long = length-take-le (i + 1) going (omega arith) in
    subst P (get_or-take (i + 1) going i d (omega arith))
    (All-get_or P (take (i + 1) going) i d (subst (λ (n : ℕ). i < n) (sym long) (omega arith)) all)

-- one more is looked at
pub one_more : (P : Going → Type 0) (number : Going → ℕ) (old new i : ℕ) (d : Going) (going : List Going) → i < length going → IsLeastOf P number (take i going) old
    → IsLeastWith (P (get_or going i d)) (number (get_or going i d)) old new → IsLeastOf P number (take (i + 1) going) new
one_more P number old new i d going room before more = (
  All-more (λ g. P g → (0 < new) × (new ≤ number g)) going i d room
      (All-weaker (λ g. P g → (0 < old) × (old ≤ number g)) (λ g. P g → (0 < new) × (new ≤ number g))
      (λ g is holds. let low = is holds in let up = more.1.0 low.0 in (up.0, (let a = low.1 in let b = up.1 in omega arith))) (take i going) before.0) more.0,
  λ n all some. more.1.1 n (at_last (λ g. P g → n ≤ number g) i d going room all) (before.1 n (before_last (λ g. P g → n ≤ number g) i going all)) some,
)

-- before the first
pub at_none : (P : Going → Type 0) (number : Going → ℕ) → IsLeastOf P number [] 0
at_none P number = (All-nil (λ g. P g → (0 < 0) × (0 ≤ number g)), λ n all some. absurd ((let bad : 0 < 0 = some in omega arith)))

-- where there is none, it holds for none of them
pub none_at_zero : (P : Going → Type 0) (number : Going → ℕ) (going : List Going) → IsLeastOf P number going 0 → All (λ g. P g → ⊥) going
none_at_zero P number going least k d room holds = (let some : 0 < 0 = (least.0 k d room holds).0 in omega arith)

-- where there is some number, it holds for one of them
pub some_above_zero : (P : Going → Type 0) (number : Going → ℕ) (going : List Going) (least : ℕ) → 0 < least → IsLeastOf P number going least → All (λ g. P g → ⊥) going → ⊥
some_above_zero P number going least some is none =
    let more : least + 1 ≤ least = is.1 (least + 1) (λ k d room holds. absurd (none k d room holds)) some in omega arith

-- a thread has a transaction active where there is a least number of its own
pub owns_by : (thread : ℕ) (going : List Going) (least : ℕ) → IsLeastOf (IsOwn thread) (λ g. g.number) going least → 0 < least ↔ Owns thread going
owns_by thread going zero is = ((λ some. (let bad : 0 < 0 = some in omega arith)), (λ owns. absurd (owns (none_at_zero (IsOwn thread) (λ g. g.number) going is))))
owns_by thread going (suc n) is = ((λ some. some_above_zero (IsOwn thread) (λ g. g.number) going (suc n) some is), (λ owns. omega arith))

-- who may begin, by the least number of those that are waited for
pub goes_by : (going : List Going) (first : Precedence) (asker : OneAsking) (least : ℕ)
    → IsLeastOf (IsAwaitedBy asker (came_for first asker.came)) (λ g. g.number) going least → MayGoOn asker.mine least first ↔ Goes going first asker
goes_by going Another asker least is = ((λ never. never), (λ never. never))
goes_by going Asker asker zero is = ((λ _. none_at_zero (IsAwaitedBy asker 0) (λ g. g.number) going is), (λ all. refl))
goes_by going Asker asker (suc n) is =
    ((λ none. (let bad : suc n ≡ 0 = none in omega arith)), (λ all. absurd (some_above_zero (IsAwaitedBy asker 0) (λ g. g.number) going (suc n) (omega arith) is all)))
goes_by going Nobody asker zero is = (
  (λ _. inr (λ k d room waited. absurd (none_at_zero (IsAwaitedBy asker asker.came) (λ g. g.number) going is k d room waited))),
  (λ _. inr (inl refl)),
)
goes_by going Nobody asker (suc n) is = (
  (λ may. elim may [ inl new ↦ inl new | inr old ↦ elim old [ inl none ↦ absurd ((let bad : suc n ≡ 0 = none in omega arith)) | inr older ↦ inr (λ k d room waited. (let low = (is.0 k d room waited).1 in let up = older in omega arith)) ] ]),
  (λ goes. elim goes [ inl new ↦ inl new | inr all ↦ inr (inr ((let up = is.1 (asker.mine + 1) (λ k d room waited. (let a = all k d room waited in omega arith)) (omega arith) in omega arith))) ]),
)

-- the same where no other one of the thread is active
pub begins_by : (going : List Going) (first : ℕ) (asker : OneAsking) (whose : Precedence) (came least : ℕ) (own goes : Bool) → own ≡ false → own ≡ true ↔ Owns asker.thread going
    → whose ≡ precedence_of first asker.ticket → came ≡ came_for whose asker.came → IsLeastOf (IsAwaitedBy asker came) (λ g. g.number) going least
    → goes ≡ true ↔ MayGoOn asker.mine least whose → goes ≡ true ↔ MayBegin going first asker
begins_by going first asker whose came least own goes none owns who since is may =
    let by = goes_by going whose asker least (subst (λ (n : ℕ). IsLeastOf (IsAwaitedBy asker n) (λ g. g.number) going least) since is) in (
      (λ t. inr (subst (λ (p : Precedence). Goes going p asker) who (by.0 (may.0 t)))),
      (λ m. elim m [ inl o ↦ absurd (true≢false (sym (owns.1 o) ∙ none)) | inr g ↦ may.1 (by.1 (subst (λ (p : Precedence). Goes going p asker) (sym who) g)) ]),
    )
