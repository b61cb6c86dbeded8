-- A reader's view has one committed map while the walk is changed, and is not the machine's `View`, which is all that stands between two steps. What a key was at the view's moment is noted before its first change since;
-- what is noted, laid over the walk, is the map at that moment.
use Rattle.std.specs.Prelude.{◌≡◌, ◌⊎◌, ℕ, true, List, [], ◌∷◌, ◌++◌, Option, Some, None}
use Rattle.std.specs.FinMap.{get, insert, remove}
use Rattle.im_base_types.specs.Keys.{Key}
use Rattle.im_base_types.specs.Maps.{IndexMap, Start, is_past, is_below}
use Rattle.im_base_types.specs.Changes.{Effect, Touches, key_of, value_before}
use Rattle.im_base_types.specs.Answers.{Access, Insert, Delete, Step, Do}
use Rattle.im_theory_machine.specs.View.{View, Txn, Aim, Puts, Under}

-- what each of these keys was: at a row id, or absent
abbrev pub Overlay : Type 0
Overlay = List (Key × Option ℕ)

abbrev pub put_back : IndexMap → Key → Option ℕ → IndexMap
put_back m k None = remove m k
put_back m k (Some r) = insert m k r

-- a map with the overlay laid over it; what stands first counts
abbrev pub laid : IndexMap → Overlay → IndexMap
laid w [] = w
laid w (e ∷ es) = put_back (laid w es) e.0 e.1

-- it has an entry for the key
abbrev pub Has : Overlay → Key → Type 0
Has [] x = ⊥
Has (e ∷ es) x = (e.0 ≡ x) ⊎ Has es x

-- A reader's view of the map m, where the machine stands so: the overlay laid over the walk is m, and whatever an active transaction has changed is noted.
pub record IsOverlay (m : IndexMap) (v : View) (o : Overlay) : Type 0 where
  pub is : laid v.walk o ≡ m
  pub nets : (t : ℕ) (x : Key) → Touches ((v.txns t).net) x → Has o x

-- a key is noted as the walk has it, unless it was before
abbrev pub IsNoted : IndexMap → Key → Overlay → Overlay → Type 0
IsNoted w x o n = (Has o x × (n ≡ o)) ⊎ ((Has o x → ⊥) × (n ≡ (x, get w x) ∷ o))

-- at most one key is noted
abbrev pub NotesOne : IndexMap → Overlay → Overlay → Type 0
NotesOne w o n = (n ≡ o) ⊎ ((x : Key) × IsNoted w x o n)

-- each entry is what this map has at its key
abbrev pub SaysOf : IndexMap → Overlay → Type 0
SaysOf m [] = Unit {0}
SaysOf m (e ∷ es) = (e.1 ≡ get m e.0) × SaysOf m es

-- what the log says of a net, as a rollback reads it: what each key had before each change, the oldest change in front
abbrev pub befores : Effect → Overlay
befores [] = []
befores (c ∷ cs) = befores cs ++ (key_of c, value_before c) ∷ []

abbrev pub befores_all : (ℕ → Txn) → List ℕ → Overlay
befores_all txns [] = []
befores_all txns (t ∷ ts) = befores ((txns t).net) ++ befores_all txns ts

-- nothing lies between the start and this key, in the map or in the overlay
pub record IsNext (s : Start) (k : Key) (w : IndexMap) (o : Overlay) : Type 0 where
  pub past : is_past s k ≡ true
  pub clear : (x : Key) → is_past s x ≡ true → is_below x k ≡ true → (get w x ≡ None) × (Has o x → ⊥)

-- nor between this key j and the one k that it is below
pub record IsPrev (k j : Key) (w : IndexMap) (o : Overlay) : Type 0 where
  pub below : is_below j k ≡ true
  pub clear : (x : Key) → is_below j x ≡ true → is_below x k ≡ true → (get w x ≡ None) × (Has o x → ⊥)

-- ---- several views, the newest first

-- each older map is the newer one with the older one's overlay
abbrev pub Lies : IndexMap → List IndexMap → List Overlay → Type 0
Lies m [] [] = Unit {0}
Lies m (k ∷ ms) (o ∷ os) = (laid m o ≡ k) × Lies k ms os
Lies m _ _ = ⊥

-- these maps are read where the machine stands so, by these overlays
abbrev pub AreOverlays : List IndexMap → View → List Overlay → Type 0
AreOverlays [] v [] = Unit {0}
AreOverlays (m ∷ ms) v (o ∷ os) = IsOverlay m v o × Lies m ms os
AreOverlays _ v _ = ⊥

-- what the oldest of them reads through: its own overlay in front
abbrev pub through : List Overlay → Overlay
through [] = []
through (o ∷ os) = through os ++ o

-- the oldest of them
abbrev pub oldest : IndexMap → List IndexMap → IndexMap
oldest m [] = m
oldest m (k ∷ ms) = oldest k ms

-- how the overlays stand after a step: at most one note, in the newest
abbrev pub NotesNewest : IndexMap → List Overlay → List Overlay → Type 0
NotesNewest w [] ns = ns ≡ []
NotesNewest w (o ∷ os) ns = (n : Overlay) × NotesOne w o n × (ns ≡ n ∷ os)

-- ---- what the code notes: the key that a step asks to change, and at a view's begin that of an Insert that goes on

abbrev pub Alters : Access → Key → Type 0
Alters (Insert k r) x = k ≡ x
Alters (Delete k) x = k ≡ x
Alters _ x = ⊥

abbrev pub AsksChange : Step → Key → Type 0
AsksChange (Do t a) x = Alters a x
AsksChange _ x = ⊥

abbrev pub IsPut : Aim → Key → Type 0
IsPut (Puts k r) x = k ≡ x
IsPut _ x = ⊥

abbrev pub PutsLater : Option Under → Key → Type 0
PutsLater None x = ⊥
PutsLater (Some u) x = IsPut u.aim x
