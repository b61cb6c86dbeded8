-- The place of a key among the slots of a page.
use Rattle.std.specs.Prelude.{◌≡◌, ℕ, ◌<◌, ◌≤◌, List, Result, Ok, Err}
use Rattle.im_base_types.specs.Keys.{IsBelow}
use Rattle.im_theory_page.specs.Form.{count_of, slot_at, key_from}

-- the keys before place i are below this key, and those from `above` on are above it
pub record Parts (bytes key : List ℕ) (i from : ℕ) : Type 0 where
  pub within : i ≤ count_of bytes
  pub below : (j : ℕ) → j < i → IsBelow (key_from bytes (slot_at bytes j)) key
  pub above : (j : ℕ) → from ≤ j → j < count_of bytes → IsBelow key (key_from bytes (slot_at bytes j))

abbrev pub IsPlace : List ℕ → List ℕ → Result ℕ ℕ → Type 0
IsPlace bytes key (Ok i) = (i < count_of bytes) × (key_from bytes (slot_at bytes i) ≡ key)
IsPlace bytes key (Err i) = Parts bytes key i i
