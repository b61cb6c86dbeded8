-- How the device calls of a run are counted.
use Rattle.std.proofs.Common.{◌≡◌, ℕ, zero, suc, ◌+◌, ◌*◌, ◌≤◌, refl, subst, sym, arith}
use Rattle.im_base_disk.specs.declared.disk.Disk.{Ghosts}
use Rattle.im_base_disk.specs.Runs.{Reads, Costs, CostsAtMost, Forces}

-- ---- over plain numbers

more_then : (a b c m n : ℕ) → b ≡ a + m → c ≡ b + n → c ≡ a + (m + n)
more_then a b c m n one two = omega (arith, one, two)

twice_then : (m n : ℕ) → 2 * m + 2 * n ≡ 2 * (m + n)
twice_then m n = omega arith

module _ {D : Type 0} (d : Ghosts D) where
  -- ---- exactly

  pub costs_none : (old : D) → Costs d 0 0 old old
  costs_none old = record { writes = omega arith; syncs = omega arith }

  pub costs_reads : (old new : D) → Reads d old new → Costs d 0 0 old new
  costs_reads old new reads = record { writes = omega (arith, reads.writes); syncs = omega (arith, reads.syncs) }

  -- one run after another
  pub costs_then : (w s x y : ℕ) (old mid new : D) → Costs d w s old mid → Costs d x y mid new → Costs d (w + x) (s + y) old new
  costs_then w s x y old mid new one two = record {
    writes = more_then (d.writes old) (d.writes mid) (d.writes new) w x one.writes two.writes;
    syncs = more_then (d.syncs old) (d.syncs mid) (d.syncs new) s y one.syncs two.syncs;
  }

  -- the same numbers by other names
  pub costs_as : (w s x y : ℕ) (old new : D) → w ≡ x → s ≡ y → Costs d w s old new → Costs d x y old new
  costs_as w s x y old new is so one = record { writes = omega (arith, one.writes, is); syncs = omega (arith, one.syncs, so) }

  -- ---- at most

  pub most_none : (w s : ℕ) (old : D) → CostsAtMost d w s old old
  most_none w s old = record { writes = omega arith; syncs = omega arith }

  pub most_reads : (w s : ℕ) (old new : D) → Reads d old new → CostsAtMost d w s old new
  most_reads w s old new reads = record { writes = omega (arith, reads.writes); syncs = omega (arith, reads.syncs) }

  pub most_of : (w s x y : ℕ) (old new : D) → w ≤ x → s ≤ y → Costs d w s old new → CostsAtMost d x y old new
  most_of w s x y old new le so one = record { writes = omega (arith, one.writes, le); syncs = omega (arith, one.syncs, so) }

  pub most_then : (w s x y : ℕ) (old mid new : D) → CostsAtMost d w s old mid → CostsAtMost d x y mid new → CostsAtMost d (w + x) (s + y) old new
  most_then w s x y old mid new one two = record { writes = omega (arith, one.writes, two.writes); syncs = omega (arith, one.syncs, two.syncs) }

  pub most_as : (w s x y : ℕ) (old new : D) → w ≤ x → s ≤ y → CostsAtMost d w s old new → CostsAtMost d x y old new
  most_as w s x y old new le so one = record { writes = omega (arith, one.writes, le); syncs = omega (arith, one.syncs, so) }

  -- ---- forces

  pub forces_none : (n : ℕ) (old : D) → Forces d n old old
  forces_none n old = record { times = 0; few = omega arith; costs = costs_none old }

  pub forces_reads : (n : ℕ) (old new : D) → Reads d old new → Forces d n old new
  forces_reads n old new reads = record { times = 0; few = omega arith; costs = costs_reads old new reads }

  pub forces_once : (old new : D) → Costs d 2 2 old new → Forces d 1 old new
  forces_once old new one = record { times = 1; few = omega arith; costs = one }

  pub forces_then : (m n : ℕ) (old mid new : D) → Forces d m old mid → Forces d n mid new → Forces d (m + n) old new
  forces_then m n old mid new one two = record {
    times = one.times + two.times;
    few = omega (arith, one.few, two.few);
    costs = costs_as (2 * one.times + 2 * two.times) (2 * one.times + 2 * two.times) (2 * (one.times + two.times)) (2 * (one.times + two.times)) old new
        (twice_then one.times two.times) (twice_then one.times two.times) (costs_then (2 * one.times) (2 * one.times) (2 * two.times) (2 * two.times) old mid new one.costs two.costs);
  }

  pub forces_more : (m n : ℕ) (old new : D) → m ≤ n → Forces d m old new → Forces d n old new
  forces_more m n old new le one = record { times = one.times; few = omega (arith, one.few, le); costs = one.costs }

  pub forces_most : (n : ℕ) (old new : D) → Forces d n old new → CostsAtMost d (2 * n) (2 * n) old new
  forces_most n old new one = most_of (2 * one.times) (2 * one.times) (2 * n) (2 * n) old new (omega (arith, one.few)) (omega (arith, one.few)) one.costs

  -- a force of a log in whose buffer so many bytes wait: none where none do
  pub forces_by : (used : ℕ) (old new : D) → (1 ≤ used → Costs d 2 2 old new) → (used ≡ 0 → new ≡ old) → Forces d 1 old new
  forces_by zero old new some none = subst (λ (x : D). Forces d 1 old x) (sym (none refl)) (forces_none 1 old)
  forces_by (suc n) old new some none = forces_once old new (some (omega arith))
