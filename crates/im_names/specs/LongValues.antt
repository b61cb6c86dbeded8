-- What can be there of a long value while a transaction changes it, and what a reader makes of it.
use Rattle.std.specs.Prelude.{◌≡◌, ℕ, List, [], ◌∷◌, ◌++◌, length, take, Option, Some, None, ◌⊎◌}
use Rattle.std.specs.List.{AllByRecursion}
use Rattle.std.specs.declared.cmp.Ordering.TheVariants.{Less}
use Rattle.im_base_types.specs.Keys.{key_order}
use Rattle.im_base_types.specs.Maps.{with_key, without_key}
use Rattle.im_names.specs.declared.reading.Found.TheVariants.{Nothing, Whole, Half}
use Rattle.im_names.specs.Parts.{Entry, parts_of}
use Rattle.im_names.specs.Readings.{found_among, value_in}

-- some of these entries, in their order
abbrev pub IsSomeOf : (some all : List Entry) → Type 0
IsSomeOf some [] = some ≡ []
IsSomeOf some (e ∷ all) = IsSomeOf some all ⊎ ((rest : List Entry) × ((some ≡ e ∷ rest) × IsSomeOf rest all))

-- an entry is one of these
abbrev pub IsOneOf : Entry → List Entry → Type 0
IsOneOf e [] = ⊥
IsOneOf e (x ∷ all) = (e ≡ x) ⊎ IsOneOf e all

-- each key is below those after it
abbrev pub RisesByKey : List Entry → Type 0
RisesByKey [] = Unit {0}
RisesByKey (e ∷ all) = AllByRecursion (λ x. key_order e.0 x.0 ≡ Less) all × RisesByKey all

-- a change of the entries of a range
pub data Write : Type 0 where
  TakeOut : (key : List ℕ) → Write
  PutIn : (e : Entry) → Write

-- what it leaves of them: the index's own words
abbrev pub with_write : List Entry → Write → List Entry
with_write es (TakeOut key) = without_key key es
with_write es (PutIn e) = with_key e.0 e.1 es

-- several, one after the other
abbrev pub with_writes : List Write → List Entry → List Entry
with_writes [] es = es
with_writes (w ∷ ws) es = with_writes ws (with_write es w)

abbrev pub IsOut : Write → Type 0
IsOut (TakeOut key) = Unit {0}
IsOut (PutIn e) = ⊥

abbrev pub IsPutIn : List Entry → Write → Type 0
IsPutIn new (TakeOut key) = ⊥
IsPutIn new (PutIn e) = IsOneOf e new

-- A writer takes parts out first, until only such are left as the new value has too; then it puts parts of the new value in. Which, and in which order, does not matter.
pub record Replaces (old new : List Entry) (outs ins : List Write) : Type 0 where
  pub first_out : AllByRecursion IsOut outs
  pub then_in : AllByRecursion (IsPutIn new) ins
  pub of_new : AllByRecursion (λ e. IsOneOf e new) (with_writes outs old)

-- the plainest writer: all old parts are taken out, and all new ones put in
abbrev pub all_taken_out : List Entry → List Write
all_taken_out [] = []
all_taken_out (e ∷ es) = TakeOut e.0 ∷ all_taken_out es

abbrev pub all_put_in : List Entry → List Write
all_put_in [] = []
all_put_in (e ∷ es) = PutIn e ∷ all_put_in es

-- the parts of a value that is there, or is not
abbrev pub parts_or_none : (front : List ℕ) → Option (List ℕ) → List Entry
parts_or_none front None = []
parts_or_none front (Some value) = parts_of front value

-- a reader finds the old value, or the new one, or none, or is refused
abbrev pub FindsOneOf : (front : List ℕ) (old new : Option (List ℕ)) → List Entry → Type 0
FindsOneOf front old new there =
    (found_among (length front) there ≡ Half)
    ⊎ ((found_among (length front) there ≡ Nothing)
    ⊎ ((found_among (length front) there ≡ Whole) × ((old ≡ Some (value_in (length front) there)) ⊎ (new ≡ Some (value_in (length front) there)))))
