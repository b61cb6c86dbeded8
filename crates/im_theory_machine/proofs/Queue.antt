-- Commits that wait for a force.
use Rattle.std.proofs.Common.{◌≡◌, ◌≢◌, ◌⊎◌, inl, inr, ℕ, Bool, true, false, List, [], ◌∷◌, ◌++◌, refl, sym, ◌∙◌, ap, subst, eq-eqb, ne_eqb}
use Rattle.std.specs.Prelude.{◌==◌, ◌||◌}
use Rattle.std.specs.FinMap.{get}
use Rattle.im_base_types.specs.Keys.{Key}
use Rattle.im_base_types.specs.Maps.{IndexMap}
use Rattle.im_base_types.specs.Changes.{Change, Effect, apply, apply_all}
use Rattle.im_base_types.specs.Answers.{Access, Reply, Mark, Committing}
use Rattle.im_theory_machine.specs.Locks.{Lock}
use Rattle.im_theory_machine.specs.View.{Txn, idle, set_txn, is_among, AreDifferent, nets_of, map_behind, idle_all}
use Rattle.im_theory_machine.proofs.Bools.{cases_number, cases_test, first_of_or, second_of_or, either, or_true, neither}
use Rattle.im_theory_machine.proofs.Changes.{apply-untouched}
use Rattle.im_theory_machine.proofs.Invariant.{Fits, Guards, StoryHolds, Told, Told-rebased, through_told, set_txn-same, set_txn-other, by_txn}
use Rattle.im_theory_machine.proofs.Keeping.{Sets-fits, commit_sets, guarded_apart}

-- who is not among others is none of them
pub among_other : (t s : ℕ) (ts : List ℕ) → is_among t (s ∷ ts) ≡ false → (t ≢ s) × (is_among t ts ≡ false)
among_other t s ts none = ((λ e. let yes = eq-eqb t s e in let out = first_of_or (t == s) (is_among t ts) none in let never : true ≡ false = sym yes ∙ out in cc never), second_of_or (t == s) (is_among t ts) none)

pub among_one : (t s : ℕ) (ts : List ℕ) → t ≡ s → is_among t (s ∷ ts) ≡ true
among_one t s ts e = ap (λ (b : Bool). b || is_among t ts) (eq-eqb t s e)

pub among_pushed : (s t : ℕ) (queue : List ℕ) → is_among s (queue ++ t ∷ []) ≡ true → (is_among s queue ≡ true) ⊎ (s ≡ t)
among_pushed s t [] some = elim (cases_number s t) [ inl e ↦ inr e | inr ne ↦ absurd (let none : false ≡ true = sym (ap (λ (b : Bool). b || false) (ne_eqb s t ne)) ∙ some in cc none) ]
among_pushed s t (q ∷ qs) some = elim (either (s == q) (is_among s (qs ++ t ∷ [])) some) [
  | inl here ↦ inl (ap (λ (b : Bool). b || is_among s qs) here)
  | inr there ↦ elim (among_pushed s t qs there) [ inl more ↦ inl (or_true (s == q) (is_among s qs) more) | inr e ↦ inr e ]
]

pub pushed_last : (s t : ℕ) (queue : List ℕ) → s ≡ t → is_among s (queue ++ t ∷ []) ≡ true
pushed_last s t [] e = among_one s t [] e
pushed_last s t (q ∷ qs) e = or_true (s == q) (is_among s (qs ++ t ∷ [])) (pushed_last s t qs e)

pub pushed_more : (s t : ℕ) (queue : List ℕ) → is_among s queue ≡ true → is_among s (queue ++ t ∷ []) ≡ true
pushed_more s t [] some = absurd (cc some)
pushed_more s t (q ∷ qs) some = elim (either (s == q) (is_among s qs) some) [
  | inl here ↦ ap (λ (b : Bool). b || is_among s (qs ++ t ∷ [])) here
  | inr there ↦ or_true (s == q) (is_among s (qs ++ t ∷ [])) (pushed_more s t qs there)
]

none_pushed : (q t : ℕ) (qs : List ℕ) → is_among q qs ≡ false → q ≢ t → is_among q (qs ++ t ∷ []) ≡ false
none_pushed q t qs none ne = elim (cases_test (is_among q (qs ++ t ∷ []))) [
  | inl some ↦ absurd (elim (among_pushed q t qs some) [ inl here ↦ (let never : true ≡ false = sym here ∙ none in cc never) | inr e ↦ ne e ])
  | inr out ↦ out
]

pub different_pushed : (t : ℕ) (queue : List ℕ) → AreDifferent queue → is_among t queue ≡ false → AreDifferent (queue ++ t ∷ [])
different_pushed t [] each new = (refl, tt)
different_pushed t (q ∷ qs) each new =
    let out = among_other t q qs new in
    (none_pushed q t qs each.0 (λ e. out.0 (sym e)), different_pushed t qs each.1 out.1)

-- ---- who is idle after a force

pub idle_others : (txns : ℕ → Txn) (queue : List ℕ) (t : ℕ) → is_among t queue ≡ false → idle_all txns queue t ≡ txns t
idle_others txns [] t none = refl
idle_others txns (s ∷ ts) t none = let out = among_other t s ts none in idle_others (set_txn txns s idle) ts t out.1 ∙ set_txn-other txns s idle t out.0

idle_stays : (txns : ℕ → Txn) (queue : List ℕ) (t : ℕ) → txns t ≡ idle → idle_all txns queue t ≡ idle
idle_stays txns [] t is = is
idle_stays txns (s ∷ ts) t is = idle_stays (set_txn txns s idle) ts t (by_txn (λ u y. u ≡ t → y ≡ idle) txns s idle (λ e. refl) (λ u differ e. ap txns e ∙ is) t refl)

pub idle_gone : (txns : ℕ → Txn) (queue : List ℕ) (t : ℕ) → is_among t queue ≡ true → idle_all txns queue t ≡ idle
idle_gone txns [] t some = absurd (cc some)
idle_gone txns (s ∷ ts) t some = elim (cases_number t s) [
  | inl e ↦ idle_stays (set_txn txns s idle) ts t (ap (set_txn txns s idle) e ∙ set_txn-same txns s idle)
  | inr ne ↦ idle_gone (set_txn txns s idle) ts t (ap (λ (b : Bool). b || is_among t ts) (sym (ne_eqb t s ne)) ∙ some)
]

-- what holds of an idle one and of each as it was holds after a force
pub by_force_txn : (P : ℕ → Txn → Type 0) (txns : ℕ → Txn) (queue : List ℕ) → ((t : ℕ) → is_among t queue ≡ true → P t idle) → ((t : ℕ) → is_among t queue ≡ false → P t (txns t)) → (t : ℕ) → P t (idle_all txns queue t)
by_force_txn P txns queue gone rest t = elim (cases_test (is_among t queue)) [
  | inl some ↦ subst (P t) (sym (idle_gone txns queue t some)) (gone t some)
  | inr none ↦ subst (P t) (sym (idle_others txns queue t none)) (rest t none)
]

-- ---- nets

pub nets_same : (old new : ℕ → Txn) (queue : List ℕ) → ((t : ℕ) → (new t).net ≡ (old t).net) → nets_of new queue ≡ nets_of old queue
nets_same old new [] same = refl
nets_same old new (t ∷ ts) same = ap (λ (e : Effect). e ∷ nets_of new ts) (same t) ∙ ap (λ (es : List Effect). (old t).net ∷ es) (nets_same old new ts same)

-- the nets of the others are as they were, where one is idle that is none of them
pub nets_idle : (f : ℕ → Txn) (t : ℕ) (ts : List ℕ) → is_among t ts ≡ false → nets_of (set_txn f t idle) ts ≡ nets_of f ts
nets_idle f t [] none = refl
nets_idle f t (s ∷ ss) none =
    let out = among_other t s ss none in
    ap (λ (x : Txn). x.net ∷ nets_of (set_txn f t idle) ss) (set_txn-other f t idle s (λ e. out.0 (sym e)))
    ∙ ap (λ (es : List Effect). (f s).net ∷ es) (nets_idle f t ss out.1)

-- ---- the force

pub forced_fits : (base w : IndexMap) (f : ℕ → Txn) (told : ℕ → List (Access × Reply)) (queue : List ℕ) → Fits base w f told → AreDifferent queue → Fits (map_behind base f queue) w (idle_all f queue) told
forced_fits base w f told [] fits each = fits
forced_fits base w f told (t ∷ ts) fits each =
    subst (λ (es : List Effect). Fits (apply_all (apply base ((f t).net)) es) w (idle_all (set_txn f t idle) ts) told) (nets_idle f t ts each.0)
    (forced_fits (apply base ((f t).net)) w (set_txn f t idle) told ts (Sets-fits (apply base ((f t).net)) w f told t idle (commit_sets base w f told fits t)) each.1)

-- the story of one that waits
pub waiting_told : (ls : List Lock) (base w : IndexMap) (story : List (Access × Reply)) (net : List Change) (m : Mark) → m ≡ Committing → StoryHolds m ls w base story net → Told ls w base story net
waiting_told ls base w story net m e h = through_told ls w base story net (subst (λ (m : Mark). StoryHolds m ls w base story net) e h)

-- what others of the queue change is none of what it guards
guarded_same : (base w : IndexMap) (f : ℕ → Txn) (told : ℕ → List (Access × Reply)) → Fits base w f told → (m : IndexMap) (front : List ℕ) (t : ℕ) → is_among t front ≡ false
    → (x : Key) → Guards ((f t).locks) w x → get (apply_all m (nets_of f front)) x ≡ get m x
guarded_same base w f told fits m [] t none x g = refl
guarded_same base w f told fits m (s ∷ ss) t none x g =
    let out = among_other t s ss none in
    guarded_same base w f told fits (apply m ((f s).net)) ss t out.1 x g
    ∙ apply-untouched m ((f s).net) x (λ touch. guarded_apart base w f told fits t s (λ e. out.0 (sym e)) x g touch)

-- one that waits is as good as alone at its place
pub told_behind : (base w : IndexMap) (f : ℕ → Txn) (told : ℕ → List (Access × Reply)) → Fits base w f told → (front : List ℕ) (t : ℕ) → is_among t front ≡ false
    → Told ((f t).locks) w base (told t) ((f t).net) → Told ((f t).locks) w (map_behind base f front) (told t) ((f t).net)
told_behind base w f told fits front t none story = Told-rebased ((f t).locks) w base (map_behind base f front) (told t) ((f t).net) (guarded_same base w f told fits base front t none) story

-- who stands in a list of different ones is none of those before it
pub none_before : (ts us : List ℕ) (t : ℕ) → AreDifferent (ts ++ t ∷ us) → is_among t ts ≡ false
none_before [] us t each = refl
none_before (s ∷ ss) us t each = neither (t == s) (is_among t ss) (ne_eqb t s (λ e. let here : is_among s (ss ++ t ∷ us) ≡ true = inside ss us s t (sym e) in let never : true ≡ false = sym here ∙ each.0 in cc never)) (none_before ss us t each.1)
  where
    inside : (ss us : List ℕ) (s t : ℕ) → s ≡ t → is_among s (ss ++ t ∷ us) ≡ true
    inside [] us s t e = among_one s t us e
    inside (q ∷ qs) us s t e = or_true (s == q) (is_among s (qs ++ t ∷ us)) (inside qs us s t e)

pub is_in_it : (ts us : List ℕ) (t : ℕ) → is_among t (ts ++ t ∷ us) ≡ true
is_in_it [] us t = among_one t t us refl
is_in_it (s ∷ ss) us t = or_true (t == s) (is_among t (ss ++ t ∷ us)) (is_in_it ss us t)
