-- Which calls of the model disk fail, and in which of them it stops. Device calls are counted from 1 in a life,
-- and reads and length calls are counted from 1 by themselves.
use Rattle.std.specs.Prelude.{ℕ, ◌^◌, ◌==◌, ◌||◌, Bool, false, nat_lt, Option, None, Some}
use Rattle.im_base_model_disk.specs.declared.plan.Armed.{Armed}
use Rattle.im_base_model_disk.specs.declared.stop.Stop.{Stop}

-- the number was told
abbrev pub is_told : Option ℕ → ℕ → Bool
is_told None number = false
is_told (Some told) number = told == number

-- the stop falls in the device call of this number
abbrev pub falls_in : Option Stop → ℕ → Bool
falls_in None call = false
falls_in (Some stop) call = stop.call == call

abbrev pub stops_at : Armed → ℕ → Bool
stops_at armed call = falls_in armed.stop call

-- the device call of this number fails: the stop falls in it, it was told to fail, or its number is past the last
abbrev pub call_fails_at : Armed → ℕ → Bool
call_fails_at armed call = stops_at armed call || is_told armed.failing_call call || nat_lt (2 ^ 62) call

-- the read or length call of this number fails
abbrev pub read_fails_at : Armed → ℕ → Bool
read_fails_at armed read = is_told armed.failing_read read || nat_lt (2 ^ 62) read

-- no stop, and no call that fails
abbrev pub armed_with_nothing : Armed
armed_with_nothing = record { stop = None; failing_call = None; failing_read = None }
