-- The key that is asked for, and whether there is one.
use Rattle.std.specs.Prelude.{ℕ, suc, zero, ◌+◌, Bool, ◌&&◌, nat_le, cond, List, [], ◌∷◌, ◌++◌, length, Option, Some, None}
use Rattle.im_names.specs.declared.which.Which.{Which}
use Rattle.im_names.specs.declared.which.Which.TheVariants.{Row, Guard, Entry, First, Last, Front, End}
use Rattle.im_names.specs.Layout.{prefix_of, catalogue_key, entry_of, guard_of, front_of, filled, escaped}

-- by its number, as C has it
abbrev pub which_at : ℕ → Option Which
which_at zero = Some Row
which_at (suc zero) = Some Guard
which_at (suc (suc zero)) = Some Entry
which_at (suc (suc (suc zero))) = Some First
which_at (suc (suc (suc (suc zero)))) = Some Last
which_at (suc (suc (suc (suc (suc zero))))) = Some Front
which_at (suc (suc (suc (suc (suc (suc zero)))))) = Some End
which_at _ = None

-- 1 to 31 bytes
abbrev pub is_name : List ℕ → Bool
is_name name = nat_le 1 (length name) && nat_le (length name) 31

-- whether it fits, under a name and with a key
abbrev pub key_fits : Which → (name key : List ℕ) → Bool
key_fits Row name key = is_name name
key_fits Guard name key = nat_le (length name) 31
key_fits Entry name key = is_name name && nat_le 1 (length key) && (nat_le (length name) 31 && nat_le (length name + length key) 253)
key_fits First name key = nat_le (length name) 31 && nat_le (length name + length key) 253
key_fits Last name key = nat_le (length name) 31 && nat_le (length name + length key) 253
key_fits Front name key = is_name name && nat_le 1 (length key) && nat_le (length name + length (escaped key)) 217
key_fits End name key = is_name name && nat_le 1 (length key) && nat_le (length name + length (escaped key)) 217

-- its bytes
abbrev pub spelled : Which → (name key : List ℕ) → List ℕ
spelled Row name key = catalogue_key name
spelled Guard name key = guard_of name
spelled Entry name key = entry_of name key
spelled First name key = prefix_of name ++ key
spelled Last name key = filled 254 (prefix_of name ++ key)
spelled Front name key = front_of name key
spelled End name key = filled 255 (front_of name key ++ (254 ∷ []))

-- them where it fits, and else none: no key has no byte
abbrev pub key_asked : Which → (name key : List ℕ) → List ℕ
key_asked which name key = cond (key_fits which name key) (spelled which name key) []

-- the same by its number, as C has it; none of a number that is none's
abbrev pub key_by : Option Which → (name key : List ℕ) → List ℕ
key_by None name key = []
key_by (Some which) name key = key_asked which name key

abbrev pub key_by_number : (number : ℕ) (name key : List ℕ) → List ℕ
key_by_number number name key = key_by (which_at number) name key
