-- Which log is the current one.
use Rattle.std.proofs.Common.{◌≡◌, inl, inr, ◌+◌, ◌<◌, ◌≤◌, not, Bool, true, false, refl, sym, ap, arith}
use Rattle.im_base_types.specs.declared.file_id.FileId.TheVariants.{Log, Log2}
use Rattle.im_base_disk.specs.Disk.{Files}
use Rattle.im_base_two_logs.specs.Renamed.{named}
use Rattle.im_log_header.specs.Header.{generation_of}
use Rattle.im_log_choice.specs.Current.{IsCurrent}
use Rattle.im_log_choice.specs.Laws.{ChoicesSwitch}

one : (s t : Bool) (files : Files) → IsCurrent s files → IsCurrent t files → s ≡ t
one true true files x y = refl
one false false files x y = refl
one true false files (inl x) (inl y) = absurd (omega (arith, x, y))
one true false files (inl x) (inr y) = let z = y.0 in let w = y.1 in absurd (omega (arith, x, z, w))
one true false files (inr x) y = x.2
one false true files (inl x) (inl y) = absurd (omega (arith, x, y))
one false true files x (inr y) = sym y.2
one false true files (inr x) (inl y) = let z = x.0 in let w = x.1 in absurd (omega (arith, y, z, w))

stays : (s : Bool) (old new : Files) → IsCurrent s old → 1 ≤ generation_of (named s old Log) → named s new Log ≡ named s old Log
    → generation_of (named s new Log2) < generation_of (named s old Log) → IsCurrent s new
stays s old new is some same less = let e = ap generation_of same in inl (omega (arith, e, less))

turns : (s : Bool) (old new : Files) → named s new Log ≡ named s old Log → generation_of (named s new Log2) ≡ generation_of (named s old Log) + 1 → IsCurrent (not s) new
turns true old new same next = let e = ap generation_of same in inl (omega (arith, e, next))
turns false old new same next = let e = ap generation_of same in inl (omega (arith, e, next))

pub choices : ChoicesSwitch
choices = record { one = one; stays = stays; turns = turns }
