-- Where locks stand, by name, and what is read there.
use Rattle.std.specs.Prelude.{◌≡◌, ℕ, zero, suc, Bool, true, false, ◌&&◌, ◌||◌, not, nat_eq, cond, filter, List, [], ◌∷◌, Option, None, Some}
use Rattle.std.specs.HashMap.{HashMap, get}
use Rattle.im_theory_machine.specs.Locks.{Name, At, PastAll, Lock, Request}
use Rattle.im_theory_machine.specs.Table.{Table, Held, held_of}
use Rattle.im_theory_machine.specs.declared.lock_kind.Mode.{Mode}
use Rattle.im_theory_machine.specs.declared.lock_kind.Mode.TheVariants.{Shared, Exclusive}
use Rattle.im_engine_locks.specs.Keys.{digest}
use Rattle.im_engine_locks.specs.Index.{same_lock, is_exclusive}
use Rattle.im_engine_locks.specs.declared.place.Place.{Place}
use Rattle.im_engine_locks.specs.declared.place.Span.{Span}
use Rattle.im_engine_locks.specs.declared.place.Span.TheVariants.{Lasting, Falling}
use Rattle.im_engine_locks.specs.declared.bucket.Bucket.{Bucket}
use Rattle.im_engine_locks.specs.declared.name_index.NameIndex.{NameIndex}

-- the two are of the same list
abbrev pub same_span : Span → Span → Bool
same_span Lasting Lasting = true
same_span Lasting Falling = false
same_span Falling Lasting = false
same_span Falling Falling = true

-- one of an owner's two lists
abbrev pub list_in : Held → Span → List Lock
list_in h Lasting = h.lasting
list_in h Falling = h.falling

-- it is this place
abbrev pub is_place : Place → ℕ → Span → ℕ → Bool
is_place p s f i = (nat_eq p.owner s && same_span p.span f) && nat_eq p.at i

-- the place is among these
abbrev pub is_among : List Place → ℕ → Span → ℕ → Bool
is_among [] s f i = false
is_among (p ∷ ps) s f i = is_place p s f i || is_among ps s f i

-- all but this place
abbrev pub without : Place → List Place → List Place
without p ps = filter (λ q. not (is_place q p.owner p.span p.at)) ps

-- the lock of this number in the list is on this name, in this mode
abbrev pub is_at : List Lock → ℕ → Name → Mode → Bool
is_at [] i n m = false
is_at (l ∷ ls) zero n m = same_lock l n m
is_at (l ∷ ls) (suc i) n m = is_at ls i n m

-- the place is in this list of s, and the lock there is on this name, in this mode
abbrev pub is_there : Place → ℕ → Span → List Lock → Name → Mode → Bool
is_there p s f ls n m = (nat_eq p.owner s && same_span p.span f) && is_at ls p.at n m

-- so is one of these places
abbrev pub finds : List Place → ℕ → Span → List Lock → Name → Mode → Bool
finds [] s f ls n m = false
finds (p ∷ ps) s f ls n m = is_there p s f ls n m || finds ps s f ls n m

-- the lock of this number in the list is on this name, and conflicts with one of another owner in this mode
abbrev pub is_barred : List Lock → ℕ → Name → Mode → Bool
is_barred ls i n m = is_at ls i n Exclusive || (is_exclusive m && is_at ls i n Shared)

-- the lock at this place is against t, who asks for this name in this mode
abbrev pub is_against : Place → Table → ℕ → Name → Mode → Bool
is_against p table t n m = not (nat_eq p.owner t) && is_barred (list_in (held_of table p.owner) p.span) p.at n m

-- s has a lock at one of these places that is against t
abbrev pub is_rival : List Place → Table → ℕ → Name → Mode → ℕ → Bool
is_rival [] table t n m s = false
is_rival (p ∷ ps) table t n m s = (nat_eq p.owner s && is_against p table t n m) || is_rival ps table t n m s

-- the owner of the lock at this place, where it is against t
abbrev pub rival_in : Place → Table → ℕ → Name → Mode → Option ℕ
rival_in p table t n m = cond (is_against p table t n m) (Some p.owner) None

-- ---- by name

-- the places of one digest
abbrev pub listed : Bucket → List Place
listed b = b.first ∷ b.more.items

-- the same, or none where there is no bucket
abbrev pub listed_there : Option Bucket → List Place
listed_there None = []
listed_there (Some b) = listed b

abbrev pub places_in : {S : Type 0} → HashMap ℕ Bucket S → ℕ → List Place
places_in keys d = listed_there (get nat_eq keys d)

-- the places under a name: those of the locks on it are among them
abbrev pub places_at : NameIndex → Name → List Place
places_at ix (At k) = places_in ix.keys (digest k)
places_at ix PastAll = ix.end.items

-- s is against t, who asks this
abbrev pub is_rival_of : NameIndex → Table → ℕ → List Request → ℕ → Bool
is_rival_of ix table t [] s = false
is_rival_of ix table t (q ∷ qs) s = is_rival (places_at ix q.name) table t q.name q.mode s || is_rival_of ix table t qs s

-- under its name each lock of this list of s has its place
abbrev pub Covers : NameIndex → ℕ → Span → List Lock → Type 0
Covers ix s f ls = (i : ℕ) (n : Name) (m : Mode) → is_at ls i n m ≡ true → is_among (places_at ix n) s f i ≡ true

-- ---- what stays

abbrev pub KeepsList : List Place → List Place → Type 0
KeepsList ps qs = (s : ℕ) (f : Span) (i : ℕ) → is_among ps s f i ≡ true → is_among qs s f i ≡ true

abbrev pub KeepsListBut : Place → List Place → List Place → Type 0
KeepsListBut p ps qs = (s : ℕ) (f : Span) (i : ℕ) → is_place p s f i ≡ false → is_among ps s f i ≡ true → is_among qs s f i ≡ true

abbrev pub KeepsAllIn : {S : Type 0} → HashMap ℕ Bucket S → HashMap ℕ Bucket S → Type 0
KeepsAllIn old new = (d : ℕ) → KeepsList (places_in old d) (places_in new d)

abbrev pub KeepsButIn : {S : Type 0} → Place → HashMap ℕ Bucket S → HashMap ℕ Bucket S → Type 0
KeepsButIn p old new = (d : ℕ) → KeepsListBut p (places_in old d) (places_in new d)

-- each name keeps its places
abbrev pub KeepsAll : NameIndex → NameIndex → Type 0
KeepsAll old new = (n : Name) → KeepsList (places_at old n) (places_at new n)

-- but for this one
abbrev pub KeepsBut : Place → NameIndex → NameIndex → Type 0
KeepsBut p old new = (n : Name) → KeepsListBut p (places_at old n) (places_at new n)

-- but for those of this list of t
abbrev pub KeepsApart : NameIndex → ℕ → Span → NameIndex → Type 0
KeepsApart old t f new = (n : Name) (s : ℕ) (g : Span) (i : ℕ) → (nat_eq t s && same_span f g) ≡ false → is_among (places_at old n) s g i ≡ true → is_among (places_at new n) s g i ≡ true

-- but for those of t
abbrev pub KeepsOthers : NameIndex → ℕ → NameIndex → Type 0
KeepsOthers old t new = (n : Name) (s : ℕ) (g : Span) (i : ℕ) → nat_eq t s ≡ false → is_among (places_at old n) s g i ≡ true → is_among (places_at new n) s g i ≡ true
