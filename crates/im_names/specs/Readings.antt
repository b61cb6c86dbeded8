-- What the parts of a range say, read in their order.
use Rattle.std.specs.Prelude.{ℕ, ◌+◌, ◌-◌, ◌*◌, ◌==◌, Bool, true, false, not, ◌&&◌, ◌||◌, nat_le, cond, List, [], ◌∷◌, length, drop, slice_index}
use Rattle.std.specs.List.{flat_map}
use Rattle.im_names.specs.declared.reading.Found.{Found}
use Rattle.im_names.specs.declared.reading.Found.TheVariants.{Nothing, Whole, Half}
use Rattle.im_names.specs.declared.reading.Reading.{Reading}
use Rattle.im_names.specs.Parts.{Entry}

-- the number of a part, after a front of so many bytes
unfoldable pub part_number : (front : ℕ) → List ℕ → ℕ
part_number front key = slice_index key front * 65536 + slice_index key (front + 1) * 256 + slice_index key (front + 2)

-- what a part carries of its value
abbrev pub bytes_in : (front : ℕ) → List ℕ → List ℕ
bytes_in front key = drop (front + 3) key

-- before the first part
abbrev pub no_part : Reading
no_part = record { left = 0; number = 0; is_half = false }

-- whether an entry is the next part: it has the next number, says as many bytes as are left, and carries no more
abbrev pub is_next : (front : ℕ) → Reading → Entry → Bool
is_next front r e =
    not r.is_half && (nat_le (front + 3) (length e.0) && ((part_number front e.0 == r.number) && (((r.number == 0) || (e.1 == r.left)) && nat_le (length e.0 - (front + 3)) e.1)))

-- one more entry
abbrev pub read_on : (front : ℕ) → Reading → Entry → Reading
read_on front r e = cond (is_next front r e) (record { left = e.1 - (length e.0 - (front + 3)); number = r.number + 1; is_half = false }) (record { left = r.left; number = r.number; is_half = true })

-- several, one after the other
abbrev pub read_all : (front : ℕ) → Reading → List Entry → Reading
read_all front r [] = r
read_all front r (e ∷ es) = read_all front (read_on front r e) es

-- what was found, where no more parts follow
abbrev pub found_by : Reading → Found
found_by r = cond r.is_half Half (cond (r.number == 0) Nothing (cond (r.left == 0) Whole Half))

-- what the parts of a range say
abbrev pub found_among : (front : ℕ) → List Entry → Found
found_among front es = found_by (read_all front no_part es)

-- the bytes that they carry, joined
abbrev pub value_in : (front : ℕ) → List Entry → List ℕ
value_in front es = flat_map (λ e. bytes_in front e.0) es
