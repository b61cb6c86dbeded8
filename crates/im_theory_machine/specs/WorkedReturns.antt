-- Two small runs with a return: what stands after one, and why no more is promised of what was taken back.
use Rattle.std.specs.Prelude.{◌≡◌, List, [], ◌∷◌}
use Rattle.im_base_types.specs.Keys.{Key}
use Rattle.im_base_types.specs.Changes.{Put, apply}
use Rattle.im_base_types.specs.Answers.{Access, Fetch, Insert, Step, Begin, Do, Commit, RollTo, Continue, Reply, Started, Inserted, Absent, More, Done, Committed}
use Rattle.im_theory_machine.specs.View.{View}
use Rattle.im_theory_machine.specs.Machine.{Moves, Run, start}
use Rattle.im_theory_machine.specs.Isolation.{IsReplay, finished}
use Rattle.im_theory_machine.specs.Worked.{empty_map}

abbrev pub a : Key
a = 97 ∷ []

abbrev pub b : Key
b = 98 ∷ []

abbrev pub c : Key
c = 99 ∷ []

-- One puts a and b, returns to its first change, puts c and commits.
abbrev pub returning : List (Step × Reply)
returning = (Begin, Started 1) ∷ (Do 1 (Insert a 7), Inserted) ∷ (Do 1 (Insert b 8), Inserted) ∷ (RollTo 1 1, More) ∷ (Continue 1, Done) ∷ (Do 1 (Insert c 9), Inserted) ∷ (Commit 1, Committed) ∷ []

-- What stands is a and c, and the committed map has these.
pub record AReturnIsTold : Type 0 where
  pub end : View
  pub run : Run (start empty_map 1) returning end
  pub told : finished 1 returning ≡ (Insert a 7, Inserted) ∷ (Insert c 9, Inserted) ∷ []
  pub committed : end.committed ≡ apply empty_map (Put c 9 ∷ Put a 7 ∷ [])

-- One puts b and finds a missing, a gap that ends at b; it takes b back. So the gap opens: another puts a and commits.
abbrev pub opening : List (Step × Reply)
opening = (Begin, Started 1) ∷ (Begin, Started 2) ∷ (Do 1 (Insert b 5), Inserted) ∷ (Do 1 (Fetch a), Absent) ∷ (RollTo 1 0, More) ∷ (Continue 1, Done) ∷ (Do 2 (Insert a 6), Inserted) ∷ (Commit 2, Committed) ∷ []

-- what the first was told before its return
abbrev pub taken_back : List (Access × Reply)
taken_back = (Insert b 5, Inserted) ∷ (Fetch a, Absent) ∷ []

-- Then the first commits, at whose place it would have found a: so what it took back was told on the map committed just then, and is not what it would be told where it commits.
pub record AGapOpens : Type 0 where
  pub before : View
  pub run : Run (start empty_map 1) opening before
  pub end : View
  pub commits : Moves before (Commit 1) Committed end
  pub stands : finished 1 opening ≡ []
  pub not_alone : IsReplay before.committed taken_back → ⊥
