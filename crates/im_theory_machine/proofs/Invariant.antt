-- What holds between any two steps.
use Rattle.std.proofs.Common.{◌≡◌, ◌≢◌, ◌⊎◌, ℕ, Bool, cond, List, [], ◌∷◌, ◌++◌, length, false, refl, ap, sym, subst, ◌∙◌, inl, inr, eq-eqb, ne_eqb}
use Rattle.std.specs.FinMap.{get}
use Rattle.im_base_types.specs.Keys.{Key}
use Rattle.im_base_types.specs.Maps.{IndexMap}
use Rattle.im_base_types.specs.Answers.{Access, Reply, changes, answer, map_after, map_after_all, replay, Mark, Idle, Going, MustRollBack, RollingBack, Returning, Committing}
use Rattle.im_base_types.specs.Changes.{Change, key_of, undone, apply, Touches}
use Rattle.im_theory_machine.specs.Locks.{Name, At, PastAll, Lock, Holds}
use Rattle.im_theory_machine.specs.declared.lock_kind.Mode.{Mode}
use Rattle.im_theory_machine.specs.declared.lock_kind.Mode.TheVariants.{Exclusive}
use Rattle.im_theory_machine.specs.View.{Txn, set_txn}
use Rattle.im_theory_machine.specs.Isolation.{is_change}
use Rattle.im_theory_machine.proofs.Bools.{cases_number}
use Rattle.im_theory_machine.proofs.Order.{same_key}
use Rattle.im_theory_machine.proofs.Guards.{guard, OnlyAt, guard-stable}
use Rattle.im_theory_machine.proofs.Changes.{was, undone_off, undone-both, apply-agrees, apply-append}
use Rattle.im_theory_machine.proofs.ReadKeys.{Reads, AgreeOn, reply-agrees, changes-agrees, Reads-agrees}

-- the locks ls guard x on w
abbrev pub Guards : List Lock → IndexMap → Key → Type 0
Guards ls w x = (md : Mode) × Holds ls (guard w x) md

-- each key of a net, and of each front of it on the walk with the rest taken back, is guarded exclusively; and an undo finds what it undoes
abbrev pub Chain : List Lock → IndexMap → IndexMap → List Change → Type 0
Chain ls w base [] = Unit {0}
Chain ls w base (c ∷ cs) = ((x : Key) → Touches (c ∷ cs) x → Holds ls (guard w x) Exclusive) × (get (apply base cs) (key_of c) ≡ was c) × Chain ls (undone w c) base cs

-- the story is that of the net on the base map, alone, and each key that a reply rests on is guarded
abbrev pub Told : List Lock → IndexMap → IndexMap → List (Access × Reply) → List Change → Type 0
Told ls w base [] net = net ≡ []
Told ls w base (f ∷ fs) net =
    (rest : List Change) × (net ≡ changes f.0 (apply base rest) ++ rest) × (answer f.0 (apply base rest) ≡ f.1)
    × ((x : Key) → Reads f.0 (apply base rest) x → Guards ls w x) × Told ls w base fs rest

-- ---- a change elsewhere

abbrev pub NotHeld : List Lock → Name → Type 0
NotHeld ls n = (md : Mode) → Holds ls n md → ⊥

not_same_guard : (ls : List Lock) (w : IndexMap) (x y : Key) (md : Mode) → NotHeld ls (guard w y) → Holds ls (guard w x) md → guard w y ≡ guard w x → ⊥
not_same_guard ls w x y md none h q = none md (subst (λ n. Holds ls n md) (sym q) h)

pub Guards-elsewhere : (ls : List Lock) (w w' : IndexMap) (y : Key) → OnlyAt y w w' → NotHeld ls (guard w y) → (x : Key) (md : Mode) → Holds ls (guard w x) md → Holds ls (guard w' x) md
Guards-elsewhere ls w w' y only none x md h = subst (λ n. Holds ls n md) (sym (guard-stable w w' x y only (not_same_guard ls w x y md none h))) h

pub Chain-elsewhere : (ls : List Lock) (w w' base : IndexMap) (y : Key) (net : List Change) → OnlyAt y w w' → NotHeld ls (guard w y) → Chain ls w base net → Chain ls w' base net
Chain-elsewhere ls w w' base y [] only none h = tt
Chain-elsewhere ls w w' base y (c ∷ cs) only none h =
    let held : Holds ls (guard w (key_of c)) Exclusive = h.0 (key_of c) (inl refl) in
    let stays : guard (undone w c) y ≡ guard w y = guard-stable w (undone w c) y (key_of c) (undone_off w c) (λ q. none Exclusive (subst (λ n. Holds ls n Exclusive) q held)) in (
      (λ x t. Guards-elsewhere ls w w' y only none x Exclusive (h.0 x t)),
      h.1,
      Chain-elsewhere ls (undone w c) (undone w' c) base y cs (undone-both w w' c y only) (λ md k. none md (subst (λ n. Holds ls n md) stays k)) h.2,
    )

pub Told-moved : (ls ls' : List Lock) (w w' base : IndexMap) (story : List (Access × Reply)) (net : List Change) → ((x : Key) → Guards ls w x → Guards ls' w' x) → Told ls w base story net → Told ls' w' base story net
Told-moved ls ls' w w' base [] net move h = h
Told-moved ls ls' w w' base (f ∷ fs) net move h = (h.0, h.1, h.2, (λ x r. move x (h.3 x r)), Told-moved ls ls' w w' base fs h.0 move h.4)

pub Told-elsewhere : (ls : List Lock) (w w' base : IndexMap) (y : Key) (story : List (Access × Reply)) (net : List Change) → OnlyAt y w w' → NotHeld ls (guard w y) → Told ls w base story net → Told ls w' base story net
Told-elsewhere ls w w' base y story net only none h =
    Told-moved ls ls w w' base story net (λ x g. (g.0, Guards-elsewhere ls w w' y only none x g.0 g.1)) h

-- ---- another base map that agrees on what is guarded

pub Told-rebased : (ls : List Lock) (w base base' : IndexMap) (story : List (Access × Reply)) (net : List Change) → ((x : Key) → Guards ls w x → get base' x ≡ get base x) → Told ls w base story net → Told ls w base' story net
Told-rebased ls w base base' [] net same h = h
Told-rebased ls w base base' (f ∷ fs) net same h =
    let agree : AgreeOn f.0 (apply base h.0) (apply base' h.0) = λ x r. apply-agrees base base' h.0 x (same x (h.3 x r)) in (
      h.0,
      h.1 ∙ ap (λ cs. cs ++ h.0) (sym (changes-agrees f.0 (apply base h.0) (apply base' h.0) agree)),
      reply-agrees f.0 (apply base h.0) (apply base' h.0) agree ∙ h.2,
      (λ x r. h.3 x (Reads-agrees f.0 (apply base h.0) (apply base' h.0) agree x r)),
      Told-rebased ls w base base' fs h.0 same h.4,
    )

pub Chain-rebased : (ls : List Lock) (w base base' : IndexMap) (net : List Change) → ((x : Key) → Touches net x → get base' x ≡ get base x) → Chain ls w base net → Chain ls w base' net
Chain-rebased ls w base base' [] same h = tt
Chain-rebased ls w base base' (c ∷ cs) same h =
    (h.0, apply-agrees base base' cs (key_of c) (same (key_of c) (inl refl)) ∙ h.1, Chain-rebased ls (undone w c) base base' cs (λ x t. same x (inr t)) h.2)

pub Chain-more : (ls ls' : List Lock) (w base : IndexMap) (net : List Change) → ((n : Name) → Holds ls n Exclusive → Holds ls' n Exclusive) → Chain ls w base net → Chain ls' w base net
Chain-more ls ls' w base [] more h = tt
Chain-more ls ls' w base (c ∷ cs) more h = ((λ x t. more (guard w x) (h.0 x t)), h.1, Chain-more ls ls' (undone w c) base cs more h.2)

pub Chain-guards : (ls : List Lock) (w base : IndexMap) (net : List Change) → Chain ls w base net → (x : Key) → Touches net x → Holds ls (guard w x) Exclusive
Chain-guards ls w base [] h x t = absurd t
Chain-guards ls w base (c ∷ cs) h x t = h.0 x t

-- ---- the story alone, in the order of its steps

after_all-push : (m : IndexMap) (as' : List Access) (a : Access) → map_after_all m (as' ++ a ∷ []) ≡ map_after a (map_after_all m as')
after_all-push m [] a = refl
after_all-push m (b ∷ as') a = after_all-push (map_after b m) as' a

replay-push : (m : IndexMap) (as' : List Access) (a : Access) → replay m (as' ++ a ∷ []) ≡ replay m as' ++ answer a (map_after_all m as') ∷ []
replay-push m [] a = refl
replay-push m (b ∷ as') a = ap (λ rs. answer b m ∷ rs) (replay-push (map_after b m) as' a)

-- a story newest first, in the order of its steps
abbrev pub accesses_of : List (Access × Reply) → List Access
accesses_of [] = []
accesses_of (f ∷ fs) = accesses_of fs ++ f.0 ∷ []

abbrev pub replies_of : List (Access × Reply) → List Reply
replies_of [] = []
replies_of (f ∷ fs) = replies_of fs ++ f.1 ∷ []

pub Told-after_all : (ls : List Lock) (w base : IndexMap) (story : List (Access × Reply)) (net : List Change) → Told ls w base story net → apply base net ≡ map_after_all base (accesses_of story)
Told-after_all ls w base [] net h = ap (apply base) h
Told-after_all ls w base (f ∷ fs) net h =
    ap (apply base) h.1 ∙ (apply-append base (changes f.0 (apply base h.0)) h.0
    ∙ (ap (map_after f.0) (Told-after_all ls w base fs h.0 h.4) ∙ sym (after_all-push base (accesses_of fs) f.0)))

pub Told-replay : (ls : List Lock) (w base : IndexMap) (story : List (Access × Reply)) (net : List Change) → Told ls w base story net → replay base (accesses_of story) ≡ replies_of story
Told-replay ls w base [] net h = refl
Told-replay ls w base (f ∷ fs) net h =
    replay-push base (accesses_of fs) f.0
    ∙ (ap (λ rs. rs ++ answer f.0 (map_after_all base (accesses_of fs)) ∷ []) (Told-replay ls w base fs h.0 h.4)
    ∙ ap (λ r. replies_of fs ++ r ∷ []) (ap (answer f.0) (sym (Told-after_all ls w base fs h.0 h.4)) ∙ h.2))

-- ---- the story of each front of a net

-- a story without all from its newest change on
abbrev pub before_last : List (Access × Reply) → List (Access × Reply)
before_last [] = []
before_last (f ∷ fs) = cond (is_change f.1) fs (before_last fs)

-- and without so many changes
abbrev pub before : List Change → List (Access × Reply) → List (Access × Reply)
before [] story = story
before (c ∷ cs) story = before cs (before_last story)

-- what is told so of the net, and of each front of it on the walk with the rest taken back
abbrev pub Through : List Lock → IndexMap → IndexMap → List (Access × Reply) → List Change → Type 0
Through ls w base story [] = Told ls w base story []
Through ls w base story (c ∷ cs) = Told ls w base story (c ∷ cs) × Through ls (undone w c) base (before_last story) cs

-- the story of the rest of a net, on the walk with its newest changes taken back
abbrev pub Behind : List Lock → IndexMap → IndexMap → List (Access × Reply) → List Change → List Change → Type 0
Behind ls w base story [] rest = Through ls w base story rest
Behind ls w base story (c ∷ more) rest = Behind ls (undone w c) base story more rest

-- one that returns to its first n changes: `more` are to be taken back, and the story is that of the rest
pub record IsReturning (n : ℕ) (ls : List Lock) (w base : IndexMap) (story : List (Access × Reply)) (net : List Change) : Type 0 where
  pub more : List Change
  pub rest : List Change
  pub is : net ≡ more ++ rest
  pub count : length rest ≡ n
  pub behind : Behind ls w base story more rest

pub through_told : (ls : List Lock) (w base : IndexMap) (story : List (Access × Reply)) (net : List Change) → Through ls w base story net → Told ls w base story net
through_told ls w base story [] h = h
through_told ls w base story (c ∷ cs) h = h.0

-- a reply of no change on top
pub through_plain : (ls : List Lock) (w base : IndexMap) (a : Access) (r : Reply) (story : List (Access × Reply)) (net : List Change) → is_change r ≡ false → Told ls w base ((a, r) ∷ story) net → Through ls w base story net → Through ls w base ((a, r) ∷ story) net
through_plain ls w base a r story [] plain told h = told
through_plain ls w base a r story (c ∷ cs) plain told h = (told, subst (λ (b : Bool). Through ls (undone w c) base (cond b story (before_last story)) cs) (sym plain) h.1)

-- ---- what is guarded with a change taken back is guarded with it

same_name : (m n : Name) → (m ≡ n) ⊎ (m ≡ n → ⊥)
same_name (At k) (At l) = elim (same_key k l) [
  | inl e ↦ inl (ap At e)
  | inr ne ↦ inr (λ (e : At k ≡ At l). ne (key_in k l e))
]
  where
    key_in : (k l : Key) → At k ≡ At l → k ≡ l
    key_in k l e = cc
same_name (At k) PastAll = inr (λ e. cc e)
same_name PastAll (At l) = inr (λ e. cc e)
same_name PastAll PastAll = inl refl

guards_up : (ls : List Lock) (w : IndexMap) (c : Change) (x : Key) → Holds ls (guard w (key_of c)) Exclusive → Guards ls (undone w c) x → Guards ls w x
guards_up ls w c x own g = elim (same_name (guard w (key_of c)) (guard w x)) [
  | inl e ↦ (Exclusive, subst (λ (n : Name). Holds ls n Exclusive) e own)
  | inr ne ↦ (g.0, subst (λ (n : Name). Holds ls n g.0) (guard-stable w (undone w c) x (key_of c) (undone_off w c) ne) g.1)
]

-- ---- a change elsewhere, beside each front

-- what is not held guards the same with a change taken back
still_not : (ls : List Lock) (w : IndexMap) (c : Change) (y : Key) → Holds ls (guard w (key_of c)) Exclusive → NotHeld ls (guard w y) → NotHeld ls (guard (undone w c) y)
still_not ls w c y held none md k =
    let stays : guard (undone w c) y ≡ guard w y = guard-stable w (undone w c) y (key_of c) (undone_off w c) (λ q. none Exclusive (subst (λ (n : Name). Holds ls n Exclusive) q held)) in
    none md (subst (λ (n : Name). Holds ls n md) stays k)

pub Through-elsewhere : (ls : List Lock) (w w' base : IndexMap) (y : Key) (story : List (Access × Reply)) (net : List Change) → OnlyAt y w w' → NotHeld ls (guard w y) → Chain ls w base net → Through ls w base story net → Through ls w' base story net
Through-elsewhere ls w w' base y story [] only none chain h = Told-elsewhere ls w w' base y story [] only none h
Through-elsewhere ls w w' base y story (c ∷ cs) only none chain h = (
  Told-elsewhere ls w w' base y story (c ∷ cs) only none h.0,
  Through-elsewhere ls (undone w c) (undone w' c) base y (before_last story) cs (undone-both w w' c y only) (still_not ls w c y (chain.0 (key_of c) (inl refl)) none) chain.2 h.1,
)

Behind-elsewhere : (ls : List Lock) (w w' base : IndexMap) (y : Key) (story : List (Access × Reply)) (more rest : List Change) → OnlyAt y w w' → NotHeld ls (guard w y) → Chain ls w base (more ++ rest) → Behind ls w base story more rest → Behind ls w' base story more rest
Behind-elsewhere ls w w' base y story [] rest only none chain h = Through-elsewhere ls w w' base y story rest only none chain h
Behind-elsewhere ls w w' base y story (c ∷ more) rest only none chain h =
    Behind-elsewhere ls (undone w c) (undone w' c) base y story more rest (undone-both w w' c y only) (still_not ls w c y (chain.0 (key_of c) (inl refl)) none) chain.2 h

-- ---- another base map, for each front

pub Through-rebased : (ls : List Lock) (w base base' : IndexMap) (story : List (Access × Reply)) (net : List Change) → ((x : Key) → Guards ls w x → get base' x ≡ get base x) → Chain ls w base net → Through ls w base story net → Through ls w base' story net
Through-rebased ls w base base' story [] same chain h = Told-rebased ls w base base' story [] same h
Through-rebased ls w base base' story (c ∷ cs) same chain h = (
  Told-rebased ls w base base' story (c ∷ cs) same h.0,
  Through-rebased ls (undone w c) base base' (before_last story) cs (λ x g. same x (guards_up ls w c x (chain.0 (key_of c) (inl refl)) g)) chain.2 h.1,
)

Behind-rebased : (ls : List Lock) (w base base' : IndexMap) (story : List (Access × Reply)) (more rest : List Change) → ((x : Key) → Guards ls w x → get base' x ≡ get base x) → Chain ls w base (more ++ rest) → Behind ls w base story more rest → Behind ls w base' story more rest
Behind-rebased ls w base base' story [] rest same chain h = Through-rebased ls w base base' story rest same chain h
Behind-rebased ls w base base' story (c ∷ more) rest same chain h =
    Behind-rebased ls (undone w c) base base' story more rest (λ x g. same x (guards_up ls w c x (chain.0 (key_of c) (inl refl)) g)) chain.2 h

-- ---- more locks, for each front

pub Through-more : (ls ks : List Lock) (w base : IndexMap) (story : List (Access × Reply)) (net : List Change) → ((n : Name) (md : Mode) → Holds ls n md → Holds ks n md) → Through ls w base story net → Through ks w base story net
Through-more ls ks w base story [] more h = Told-moved ls ks w w base story [] (λ x g. (g.0, more (guard w x) g.0 g.1)) h
Through-more ls ks w base story (c ∷ cs) more h = (
  Told-moved ls ks w w base story (c ∷ cs) (λ x g. (g.0, more (guard w x) g.0 g.1)) h.0,
  Through-more ls ks (undone w c) base (before_last story) cs more h.1,
)

Behind-more : (ls ks : List Lock) (w base : IndexMap) (story : List (Access × Reply)) (more rest : List Change) → ((n : Name) (md : Mode) → Holds ls n md → Holds ks n md) → Behind ls w base story more rest → Behind ks w base story more rest
Behind-more ls ks w base story [] rest more_locks h = Through-more ls ks w base story rest more_locks h
Behind-more ls ks w base story (c ∷ more) rest more_locks h = Behind-more ls ks (undone w c) base story more rest more_locks h

-- ---- all transactions

-- what is known of one transaction's story: nothing once it rolls back
abbrev pub StoryHolds : Mark → List Lock → IndexMap → IndexMap → List (Access × Reply) → List Change → Type 0
StoryHolds Idle ls w base story net = Unit {0}
StoryHolds Going ls w base story net = Through ls w base story net
StoryHolds MustRollBack ls w base story net = Through ls w base story net
StoryHolds RollingBack ls w base story net = Unit {0}
StoryHolds (Returning n) ls w base story net = IsReturning n ls w base story net
StoryHolds Committing ls w base story net = Through ls w base story net

pub story-elsewhere : (m : Mark) (ls : List Lock) (w w' base : IndexMap) (y : Key) (story : List (Access × Reply)) (net : List Change) → OnlyAt y w w' → NotHeld ls (guard w y) → Chain ls w base net → StoryHolds m ls w base story net → StoryHolds m ls w' base story net
story-elsewhere Idle ls w w' base y story net only none chain h = tt
story-elsewhere Going ls w w' base y story net only none chain h = Through-elsewhere ls w w' base y story net only none chain h
story-elsewhere MustRollBack ls w w' base y story net only none chain h = Through-elsewhere ls w w' base y story net only none chain h
story-elsewhere RollingBack ls w w' base y story net only none chain h = tt
story-elsewhere (Returning n) ls w w' base y story net only none chain h = record {
  more = h.more;
  rest = h.rest;
  is = h.is;
  count = h.count;
  behind = Behind-elsewhere ls w w' base y story h.more h.rest only none (subst (λ (l : List Change). Chain ls w base l) h.is chain) h.behind;
}
story-elsewhere Committing ls w w' base y story net only none chain h = Through-elsewhere ls w w' base y story net only none chain h

pub story-rebased : (m : Mark) (ls : List Lock) (w base base' : IndexMap) (story : List (Access × Reply)) (net : List Change) → ((x : Key) → Guards ls w x → get base' x ≡ get base x) → Chain ls w base net → StoryHolds m ls w base story net → StoryHolds m ls w base' story net
story-rebased Idle ls w base base' story net same chain h = tt
story-rebased Going ls w base base' story net same chain h = Through-rebased ls w base base' story net same chain h
story-rebased MustRollBack ls w base base' story net same chain h = Through-rebased ls w base base' story net same chain h
story-rebased RollingBack ls w base base' story net same chain h = tt
story-rebased (Returning n) ls w base base' story net same chain h = record {
  more = h.more;
  rest = h.rest;
  is = h.is;
  count = h.count;
  behind = Behind-rebased ls w base base' story h.more h.rest same (subst (λ (l : List Change). Chain ls w base l) h.is chain) h.behind;
}
story-rebased Committing ls w base base' story net same chain h = Through-rebased ls w base base' story net same chain h

pub story-more : (m : Mark) (ls ks : List Lock) (w base : IndexMap) (story : List (Access × Reply)) (net : List Change) → ((n : Name) (md : Mode) → Holds ls n md → Holds ks n md) → StoryHolds m ls w base story net → StoryHolds m ks w base story net
story-more Idle ls ks w base story net more h = tt
story-more Going ls ks w base story net more h = Through-more ls ks w base story net more h
story-more MustRollBack ls ks w base story net more h = Through-more ls ks w base story net more h
story-more RollingBack ls ks w base story net more h = tt
story-more (Returning n) ls ks w base story net more h = record {
  more = h.more;
  rest = h.rest;
  is = h.is;
  count = h.count;
  behind = Behind-more ls ks w base story h.more h.rest more h.behind;
}
story-more Committing ls ks w base story net more h = Through-more ls ks w base story net more h

pub record Fits (base w : IndexMap) (txns : ℕ → Txn) (told : ℕ → List (Access × Reply)) : Type 0 where
  -- no two owners hold locks in conflict
  pub apart : (s u : ℕ) → s ≢ u → (n : Name) (md : Mode) → Holds ((txns s).locks) n Exclusive → Holds ((txns u).locks) n md → ⊥
  pub chain : (s : ℕ) → Chain ((txns s).locks) w base ((txns s).net)
  -- where no other net touches a key, the walk is the committed map with this one's net
  pub walk : (s : ℕ) (x : Key) → ((u : ℕ) → u ≢ s → Touches ((txns u).net) x → ⊥) → get w x ≡ get (apply base ((txns s).net)) x
  pub story : (s : ℕ) → StoryHolds ((txns s).mark) ((txns s).locks) w base (told s) ((txns s).net)

pub set_txn-same : (txns : ℕ → Txn) (t : ℕ) (x : Txn) → set_txn txns t x t ≡ x
set_txn-same txns t x = rw (eq-eqb t t refl)

pub set_txn-other : (txns : ℕ → Txn) (t : ℕ) (x : Txn) (s : ℕ) → s ≢ t → set_txn txns t x s ≡ txns s
set_txn-other txns t x s ne = rw (ne_eqb s t ne)

-- what holds of the one that was set and of the others holds of all
pub by_txn : (P : ℕ → Txn → Type 0) (txns : ℕ → Txn) (t : ℕ) (x : Txn) → P t x → ((s : ℕ) → s ≢ t → P s (txns s)) → (s : ℕ) → P s (set_txn txns t x s)
by_txn P txns t x here rest s =
    elim (cases_number s t) [
      | inl e ↦ subst (λ u. P u (set_txn txns t x u)) (sym e) (subst (P t) (sym (set_txn-same txns t x)) here)
      | inr ne ↦ subst (P s) (sym (set_txn-other txns t x s ne)) (rest s ne)
    ]
