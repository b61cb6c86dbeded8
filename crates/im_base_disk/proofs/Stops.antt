-- What is among the stops of a write: other bytes of its length, and those that it would write.
use Rattle.std.proofs.Common.{◌≡◌, inr, ℕ, ◌+◌, ◌≤◌, List, ◌++◌, length, take, drop, refl, ◌∙◌, ap, arith, append_assoc, length-append, length-drop}
use Rattle.std.proofs.lemmas.List.{take_at, drop_at, length-take-le}
use Rattle.im_base_disk.specs.Disk.{Torn, Shows, Unforged, whole}

pub torn_over : (at : ℕ) (one other old : List ℕ) → at ≤ length old → length other ≡ length one → Torn at (length one) old (whole at other old)
torn_over at one other old within same =
    let front : length (take at old) ≡ at = length-take-le at old within in
    let is : whole at other old ≡ take at old ++ (other ++ drop (at + length other) old) = append_assoc (take at old) other (drop (at + length other) old) in
    let long : length (whole at other old) ≡ at + length other + length (drop (at + length other) old) =
    omega (arith, ap length is, length-append (take at old) (other ++ drop (at + length other) old), length-append other (drop (at + length other) old), front) in
    record {
      before = ap (λ (l : List ℕ). take at l) is ∙ take_at (take at old) (other ++ drop (at + length other) old) at front;
      after =
          drop_at (take at old ++ other) (drop (at + length other) old) (at + length one) (omega (arith, length-append (take at old) other, front, same))
          ∙ ap (λ (n : ℕ). drop (at + n) old) same;
      no_shorter = omega (arith, long, length-drop (at + length other) old);
      no_longer = omega (arith, long, length-drop (at + length other) old, same);
    }

pub unforged_whole : (shows : Shows) (at : ℕ) (bytes old : List ℕ) → at ≤ length old → Unforged shows at bytes old (whole at bytes old)
unforged_whole shows at bytes old within = record { torn = torn_over at bytes bytes old within refl; shown = λ p r from upto is. inr is }
