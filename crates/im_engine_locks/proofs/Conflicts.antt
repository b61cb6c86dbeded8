-- Rivals by the index of names are the holders in conflict, and what was kept is what is held.
use Rattle.std.proofs.Common.{◌≡◌, ◌≢◌, ℕ, ◌<◌, ◌≤◌, Bool, true, false, not, ◌&&◌, ◌||◌, nat_eq, List, [], ◌∷◌, ◌++◌, None, Some, refl, ap, sym, subst, ◌∙◌, ◌⊎◌, inl, inr, arith, eq-eqb, ne_eqb}
use Rattle.im_theory_machine.specs.Locks.{Name, Lock, Request, kept, kept_if, held_now, held_if, Holds, Asks, SameLocks, ConflictsWith, IsFree, WaitsFor, MustDie}
use Rattle.im_theory_machine.specs.Table.{Table, Held, nothing_held, held_of, locks_of}
use Rattle.im_engine_locks.specs.Index.{is_held, same_lock, is_exclusive, keeps, lasts, is_kept, is_to_commit, IsLeast}
use Rattle.im_engine_locks.specs.Places.{is_place, is_among, is_at, is_barred, is_against, is_rival, is_rival_of, list_in, places_at, same_span, Covers}
use Rattle.im_engine_locks.specs.Owned.{IsKnown}
use Rattle.im_engine_locks.specs.InStep.{IsInStep}
use Rattle.im_engine_locks.specs.declared.name_index.NameIndex.{NameIndex}
use Rattle.im_engine_locks.specs.declared.place.Place.{Place}
use Rattle.im_engine_locks.specs.declared.place.Span.{Span}
use Rattle.im_engine_locks.specs.declared.place.Span.TheVariants.{Lasting, Falling}
use Rattle.im_theory_machine.specs.declared.lock_kind.Mode.{Mode}
use Rattle.im_theory_machine.specs.declared.lock_kind.Mode.TheVariants.{Shared, Exclusive}
use Rattle.im_theory_machine.specs.declared.lock_kind.Duration.{Duration}
use Rattle.im_theory_machine.specs.declared.lock_kind.Duration.TheVariants.{Instant, ToFinish, ToCommit}
use Rattle.im_theory_machine.proofs.Bools.{or_true, either, first_of_and, second_of_and, and_true, not_true, false_unless}
use Rattle.im_engine_locks.proofs.Names.{same_lock-name, same_lock-mode, same_lock-itself}
use Rattle.im_engine_locks.proofs.Held.{is_held-append}
use Rattle.im_engine_locks.proofs.Places.{Stands, held-at, at-held, number_is, same_span-is}

-- ---- tests and facts of what is held

pub held-Holds : (ls : List Lock) (n : Name) (m : Mode) → is_held ls n m ≡ true → Holds ls n m
held-Holds [] n m h = cc
held-Holds (l ∷ ls) n m h =
    elim (either (same_lock l n m) (is_held ls n m) h) [
      | inl e ↦ inl (same_lock-name l n m e, same_lock-mode l n m e)
      | inr t ↦ inr (held-Holds ls n m t)
    ]

same_lock-by : (l : Lock) (n : Name) (m : Mode) → l.name ≡ n → l.mode ≡ m → same_lock l n m ≡ true
same_lock-by l n m e d = ap (λ k. same_lock l k m) (sym e) ∙ (ap (λ k. same_lock l l.name k) (sym d) ∙ same_lock-itself l)

pub Holds-held : (ls : List Lock) (n : Name) (m : Mode) → Holds ls n m → is_held ls n m ≡ true
Holds-held [] n m h = absurd h
Holds-held (l ∷ ls) n m h =
    elim h [
      | inl p ↦ ap (λ b. b || is_held ls n m) (same_lock-by l n m p.0 p.1)
      | inr t ↦ or_true (same_lock l n m) (is_held ls n m) (Holds-held ls n m t)
    ]

pub same-locks : (ls ks : List Lock) → ((n : Name) (m : Mode) → is_held ls n m ≡ is_held ks n m) → SameLocks ls ks
same-locks ls ks h n m =
    (λ p. held-Holds ks n m (sym (h n m) ∙ Holds-held ls n m p), λ p. held-Holds ls n m (h n m ∙ Holds-held ks n m p))

swapped : (a b c : Bool) → (a || (b || c)) ≡ (b || (a || c))
swapped true true c = refl
swapped true false c = refl
swapped false b c = refl

kept_if-held : (d : Duration) (l : Lock) (ls : List Lock) (n : Name) (m : Mode) (a k : Bool) → is_held ls n m ≡ (a || k) → is_held (kept_if d l ls) n m ≡ (a || ((is_to_commit d && same_lock l n m) || k))
kept_if-held Instant l ls n m a k h = h
kept_if-held ToFinish l ls n m a k h = h
kept_if-held ToCommit l ls n m a k h = ap (λ b. same_lock l n m || b) h ∙ swapped (same_lock l n m) a k

or_same : (b : Bool) → b ≡ (b || false)
or_same true = refl
or_same false = refl

-- what lasts after a grant lasted or is asked to commit
pub kept-lasts : (qs : List Request) (ls : List Lock) (n : Name) (m : Mode) → is_held (kept qs ls) n m ≡ (is_held ls n m || lasts qs n m)
kept-lasts [] ls n m = or_same (is_held ls n m)
kept-lasts (q ∷ qs) ls n m = kept_if-held q.duration (record { name = q.name; mode = q.mode }) (kept qs ls) n m (is_held ls n m) (lasts qs n m) (kept-lasts qs ls n m)

held_if-held : (d : Duration) (l : Lock) (ls : List Lock) (n : Name) (m : Mode) (a k : Bool) → is_held ls n m ≡ (a || k) → is_held (held_if d l ls) n m ≡ (a || ((is_kept d && same_lock l n m) || k))
held_if-held Instant l ls n m a k h = h
held_if-held ToFinish l ls n m a k h = ap (λ b. same_lock l n m || b) h ∙ swapped (same_lock l n m) a k
held_if-held ToCommit l ls n m a k h = ap (λ b. same_lock l n m || b) h ∙ swapped (same_lock l n m) a k

-- what is held after a grant was held or is kept
pub kept-held : (qs : List Request) (ls : List Lock) (n : Name) (m : Mode) → is_held (held_now qs ls) n m ≡ (is_held ls n m || keeps qs n m)
kept-held [] ls n m = or_same (is_held ls n m)
kept-held (q ∷ qs) ls n m = held_if-held q.duration (record { name = q.name; mode = q.mode }) (held_now qs ls) n m (is_held ls n m) (keeps qs n m) (kept-held qs ls n m)

-- ---- rivals

-- the lock at a place is against t
record Rivals (table : Table) (t : ℕ) (n : Name) (m : Mode) (s : ℕ) : Type 0 where
  theirs : Mode
  held : is_held (locks_of table s) n theirs ≡ true
  other : s ≢ t
  exclusive : (m ≡ Exclusive) ⊎ (theirs ≡ Exclusive)

exclusive-is : (m : Mode) → is_exclusive m ≡ true → m ≡ Exclusive
exclusive-is Shared h = cc
exclusive-is Exclusive h = refl

of-list : (h : Held) (f : Span) (n : Name) (m : Mode) → is_held (list_in h f) n m ≡ true → is_held (h.lasting ++ h.falling) n m ≡ true
of-list h Lasting n m e = is_held-append h.lasting h.falling n m ∙ ap (λ b. b || is_held h.falling n m) e
of-list h Falling n m e = is_held-append h.lasting h.falling n m ∙ or_true (is_held h.lasting n m) (is_held h.falling n m) e

rival-here : (p : Place) (table : Table) (t : ℕ) (n : Name) (m : Mode) (s : ℕ) → p.owner ≡ s → is_against p table t n m ≡ true → Rivals table t n m s
rival-here p table t n m s own a =
    let ls : List Lock = list_in (held_of table p.owner) p.span in
    let other : s ≢ t = (λ q.
    let f : nat_eq p.owner t ≡ false = not_true (nat_eq p.owner t) (first_of_and (not (nat_eq p.owner t)) (is_barred ls p.at n m) a) in
    let bad : true ≡ false = sym (eq-eqb p.owner t (own ∙ q)) ∙ f in
    cc) in
    elim (either (is_at ls p.at n Exclusive) (is_exclusive m && is_at ls p.at n Shared) (second_of_and (not (nat_eq p.owner t)) (is_barred ls p.at n m) a)) [
      | inl x ↦ record {
        theirs = Exclusive;
        held = ap (λ u. is_held (locks_of table u) n Exclusive) (sym own) ∙ of-list (held_of table p.owner) p.span n Exclusive (at-held ls p.at n Exclusive x);
        other = other;
        exclusive = inr refl;
      }
      | inr y ↦ record {
        theirs = Shared;
        held = ap (λ u. is_held (locks_of table u) n Shared) (sym own) ∙ of-list (held_of table p.owner) p.span n Shared (at-held ls p.at n Shared (second_of_and (is_exclusive m) (is_at ls p.at n Shared) y));
        other = other;
        exclusive = inl (exclusive-is m (first_of_and (is_exclusive m) (is_at ls p.at n Shared) y));
      }
    ]

rivals-from : (ps : List Place) (table : Table) (t : ℕ) (n : Name) (m : Mode) (s : ℕ) → is_rival ps table t n m s ≡ true → Rivals table t n m s
rivals-from [] table t n m s h = cc
rivals-from (p ∷ ps) table t n m s h =
    elim (either (nat_eq p.owner s && is_against p table t n m) (is_rival ps table t n m s) h) [
      | inl e ↦ rival-here p table t n m s (number_is p.owner s (first_of_and (nat_eq p.owner s) (is_against p table t n m) e)) (second_of_and (nat_eq p.owner s) (is_against p table t n m) e)
      | inr r ↦ rivals-from ps table t n m s r
    ]

barred-by : (ls : List Lock) (i : ℕ) (n : Name) (m theirs : Mode) → is_at ls i n theirs ≡ true → (m ≡ Exclusive) ⊎ (theirs ≡ Exclusive) → is_barred ls i n m ≡ true
barred-by ls i n m Exclusive here x = ap (λ b. b || (is_exclusive m && is_at ls i n Shared)) here
barred-by ls i n m Shared here x =
    elim x [
      | inl y ↦ or_true (is_at ls i n Exclusive) (is_exclusive m && is_at ls i n Shared) (and_true (is_exclusive m) (is_at ls i n Shared) (ap is_exclusive y) here)
      | inr y ↦ (let bad : is_exclusive Shared ≡ is_exclusive Exclusive = ap is_exclusive y in cc)
    ]

-- nothing is barred in a list of nothing
pub barred-nothing : (f : Span) (i : ℕ) (n : Name) (m : Mode) → false ≡ is_barred (list_in nothing_held f) i n m
barred-nothing Lasting i n Shared = refl
barred-nothing Lasting i n Exclusive = refl
barred-nothing Falling i n Shared = refl
barred-nothing Falling i n Exclusive = refl

rivals-to : (ps : List Place) (table : Table) (t : ℕ) (n : Name) (m theirs : Mode) (s : ℕ) (f : Span) (i : ℕ) → is_among ps s f i ≡ true → is_at (list_in (held_of table s) f) i n theirs ≡ true → s ≢ t → (m ≡ Exclusive) ⊎ (theirs ≡ Exclusive) → is_rival ps table t n m s ≡ true
rivals-to [] table t n m theirs s f i a here ne x = a
rivals-to (p ∷ ps) table t n m theirs s f i a here ne x =
    elim (either (is_place p s f i) (is_among ps s f i) a) [
      | inl e ↦ (
          let own : (nat_eq p.owner s && same_span p.span f) ≡ true = first_of_and (nat_eq p.owner s && same_span p.span f) (nat_eq p.at i) e in
          let same : p.owner ≡ s = number_is p.owner s (first_of_and (nat_eq p.owner s) (same_span p.span f) own) in
          let list : list_in (held_of table p.owner) p.span ≡ list_in (held_of table s) f = ap (λ u. list_in (held_of table u) p.span) same ∙ ap (λ g. list_in (held_of table s) g) (same_span-is p.span f (second_of_and (nat_eq p.owner s) (same_span p.span f) own)) in
          let there : is_at (list_in (held_of table p.owner) p.span) p.at n theirs ≡ true = ap (λ (ls : List Lock). is_at ls p.at n theirs) list ∙ (ap (λ j. is_at (list_in (held_of table s) f) j n theirs) (number_is p.at i (second_of_and (nat_eq p.owner s && same_span p.span f) (nat_eq p.at i) e)) ∙ here) in
          ap (λ b. b || is_rival ps table t n m s)
          (and_true (nat_eq p.owner s) (is_against p table t n m) (eq-eqb p.owner s same)
          (and_true (not (nat_eq p.owner t)) (is_barred (list_in (held_of table p.owner) p.span) p.at n m) (ap not (ne_eqb p.owner t (λ q. ne (sym same ∙ q)))) (barred-by (list_in (held_of table p.owner) p.span) p.at n m theirs there x))))
      | inr r ↦ or_true (nat_eq p.owner s && is_against p table t n m) (is_rival ps table t n m s) (rivals-to ps table t n m theirs s f i r here ne x)
    ]

-- ---- conflict

pub rival-conflict : (names : NameIndex) (table : Table) (t : ℕ) (qs : List Request) (s : ℕ) → is_rival_of names table t qs s ≡ true → ConflictsWith (locks_of table) t qs s
rival-conflict names table t [] s h = cc
rival-conflict names table t (q ∷ qs) s h =
    elim (either (is_rival (places_at names q.name) table t q.name q.mode s) (is_rival_of names table t qs s) h) [
      | inl r ↦ (let p : Rivals table t q.name q.mode s = rivals-from (places_at names q.name) table t q.name q.mode s r in record {
        name = q.name;
        mode = q.mode;
        theirs = p.theirs;
        other = p.other;
        ask = inl (refl, refl);
        held = held-Holds (locks_of table s) q.name p.theirs p.held;
        exclusive = p.exclusive;
      })
      | inr r ↦ (let p : ConflictsWith (locks_of table) t qs s = rival-conflict names table t qs s r in record {
        name = p.name;
        mode = p.mode;
        theirs = p.theirs;
        other = p.other;
        ask = inr p.ask;
        held = p.held;
        exclusive = p.exclusive;
      })
    ]

asked-rival : (names : NameIndex) (table : Table) (t : ℕ) (qs : List Request) (s : ℕ) (n : Name) (m : Mode) → Asks qs n m → is_rival (places_at names n) table t n m s ≡ true → is_rival_of names table t qs s ≡ true
asked-rival names table t [] s n m a r = absurd a
asked-rival names table t (q ∷ qs) s n m a r =
    elim a [
      | inl p ↦ ap (λ b. b || is_rival_of names table t qs s) (ap (λ k. is_rival (places_at names k) table t k q.mode s) p.0 ∙ (ap (λ k. is_rival (places_at names n) table t n k s) p.1 ∙ r))
      | inr i ↦ or_true (is_rival (places_at names q.name) table t q.name q.mode s) (is_rival_of names table t qs s) (asked-rival names table t qs s n m i r)
    ]

-- a lock of a list is found by its name
rival-there : (names : NameIndex) (table : Table) (t : ℕ) (n : Name) (m theirs : Mode) (s : ℕ) (f : Span) → Covers names s f (list_in (held_of table s) f) → is_held (list_in (held_of table s) f) n theirs ≡ true → s ≢ t → (m ≡ Exclusive) ⊎ (theirs ≡ Exclusive) → is_rival (places_at names n) table t n m s ≡ true
rival-there names table t n m theirs s f covers held ne x =
    let stands : Stands (list_in (held_of table s) f) n theirs = held-at (list_in (held_of table s) f) n theirs held in
    rivals-to (places_at names n) table t n m theirs s f stands.number (covers stands.number n theirs stands.there) stands.there ne x

pub conflict-rival : (names : NameIndex) (table : Table) → IsInStep names table → (t : ℕ) (qs : List Request) (s : ℕ) → ConflictsWith (locks_of table) t qs s → is_rival_of names table t qs s ≡ true
conflict-rival names table step t qs s p =
    let known : IsKnown names s (held_of table s) = step.known s in
    asked-rival names table t qs s p.name p.mode p.ask
    (elim (either (is_held (held_of table s).lasting p.name p.theirs) (is_held (held_of table s).falling p.name p.theirs) (sym (is_held-append (held_of table s).lasting (held_of table s).falling p.name p.theirs) ∙ Holds-held (locks_of table s) p.name p.theirs p.held)) [
      | inl h ↦ rival-there names table t p.name p.mode p.theirs s Lasting known.lasting h p.other p.exclusive
      | inr h ↦ rival-there names table t p.name p.mode p.theirs s Falling known.falling h p.other p.exclusive
    ])

-- nobody is against t, where nobody else holds a lock
pub no_rivals : (names : NameIndex) (table : Table) (t : ℕ) (qs : List Request) → ((s : ℕ) → s ≢ t → locks_of table s ≡ []) → IsLeast (is_rival_of names table t qs) None
no_rivals names table t qs none s = false_unless (is_rival_of names table t qs s) (λ h.
    let p : ConflictsWith (locks_of table) t qs s = rival-conflict names table t qs s h in
    subst (λ (ls : List Lock). Holds ls p.name p.theirs) (none s p.other) p.held)

-- ---- the three answers

pub free-by : (names : NameIndex) (table : Table) → IsInStep names table → (t : ℕ) (qs : List Request) → IsLeast (is_rival_of names table t qs) None → IsFree (locks_of table) t qs
free-by names table step t qs h s p = let bad : true ≡ false = sym (conflict-rival names table step t qs s p) ∙ h s in cc

pub waits-by : (names : NameIndex) (table : Table) → IsInStep names table → (t : ℕ) (qs : List Request) (holder : ℕ) → IsLeast (is_rival_of names table t qs) (Some holder) → t < holder → WaitsFor (locks_of table) t qs holder
waits-by names table step t qs holder h lt = record {
  conflict = rival-conflict names table t qs holder h.0;
  smallest = λ s p. h.1 s (conflict-rival names table step t qs s p);
  older = lt;
}

pub dies-by : (names : NameIndex) (table : Table) → IsInStep names table → (t : ℕ) (qs : List Request) (holder : ℕ) → IsLeast (is_rival_of names table t qs) (Some holder) → holder ≤ t → MustDie (locks_of table) t qs
dies-by names table step t qs holder h le =
    let p : ConflictsWith (locks_of table) t qs holder = rival-conflict names table t qs holder h.0 in
    let ne : holder ≢ t = p.other in
    record { holder = holder; conflict = p; older = omega arith }
