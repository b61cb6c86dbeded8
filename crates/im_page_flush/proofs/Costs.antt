-- What the parts of a flush cost together.
use Rattle.std.proofs.Common.{◌≡◌, ◌≤◌, ◌<◌, ◌+◌, ◌-◌, ◌*◌, ℕ, Bool, true, refl, sym, subst, arith}
use Rattle.std.specs.Prelude.{Result, Ok, Err, OnOk}
use Rattle.im_base_disk.specs.declared.disk.Disk.{Ghosts}
use Rattle.im_base_disk.specs.Runs.{Costs, Forces}
use Rattle.im_base_disk.proofs.Costs.{costs_as, costs_then}
use Rattle.im_page_flush.specs.Costs.{FlushCosts, PageCosts, WriteCosts}

-- what holds however a call ends holds where it succeeded
pub always : {A E : Type 0} (r : Result A E) (P : Type 0) → P → OnOk r P
always (Ok a) P is = is
always (Err e) P is = tt

module _ {D : Type 0} (d : Ghosts D) where
  -- pages of which the dirty table has each entry
  pub costs_entered : (n : ℕ) (HasRoom : Type 0) (old new : D) → Costs d n 0 old new → WriteCosts d n HasRoom old new
  costs_entered n HasRoom old new writes = record { syncs = 0; once = omega arith; none = λ room. refl; costs = writes }

  -- pages after which the file is synced, since the table had no room
  pub costs_synced : (n : ℕ) (HasRoom : Type 0) (old mid new : D) → (HasRoom → ⊥) → Costs d n 0 old mid → Costs d 0 1 mid new → WriteCosts d n HasRoom old new
  costs_synced n HasRoom old mid new none writes synced = record {
    syncs = 1;
    once = omega arith;
    none = λ room. absurd (none room);
    costs = costs_as d (n + 0) (0 + 1) n 1 old new (omega arith) (omega arith) (costs_then d n 0 0 1 old mid new writes synced);
  }

  -- the full copies, and then the writes
  pub costs_flushed : (n : ℕ) (HasRoom : Type 0) (old mid new : D) → Forces d (n + 1) old mid → WriteCosts d n HasRoom mid new → FlushCosts d n HasRoom old new
  costs_flushed n HasRoom old mid new forced written = record {
    forces = forced.times;
    few = forced.few;
    syncs = written.syncs;
    once = written.once;
    none = written.none;
    costs = costs_then d (2 * forced.times) (2 * forced.times) n written.syncs old mid new forced.costs written.costs;
  }

  -- the count of the file's pages before them
  pub costs_counted : (n : ℕ) (HasRoom HadRoom : Type 0) (old mid new : D) → (HadRoom → HasRoom) → Costs d 0 0 old mid → FlushCosts d n HasRoom mid new → FlushCosts d n HadRoom old new
  costs_counted n HasRoom HadRoom old mid new had counted flushed = record {
    forces = flushed.forces;
    few = flushed.few;
    syncs = flushed.syncs;
    once = flushed.once;
    none = λ room. flushed.none (had room);
    costs = costs_as d (0 + (2 * flushed.forces + n)) (0 + (2 * flushed.forces + flushed.syncs)) (2 * flushed.forces + n) (2 * flushed.forces + flushed.syncs) old new (omega arith) (omega arith)
        (costs_then d 0 0 (2 * flushed.forces + n) (2 * flushed.forces + flushed.syncs) old mid new counted flushed.costs);
  }

  -- a page of which the file has some copy, or that comes next after its end: it alone
  pub page_within : (number count n : ℕ) (has_room : Bool) (old mid new : D) → (d.tells → n ≡ count) → number ≤ n → Costs d 0 0 old mid
      → FlushCosts d (number + 1 - number) ((number ≡ number) × (has_room ≡ true)) mid new → PageCosts d number count has_room old new
  page_within number count n has_room old mid new is below counted flushed = record {
    pages = number + 1 - number;
    within = λ told lt. omega arith;
    past = λ told le. omega (arith, is told, below, le);
    costs = costs_counted (number + 1 - number) ((number ≡ number) × (has_room ≡ true)) (d.tells × (number ≤ count) × (has_room ≡ true)) old mid new (λ room. (refl, room.2)) counted flushed;
  }

  -- a page past the file's end: each page from there up to it
  pub page_past : (number count n : ℕ) (room : ℕ → Bool) (old mid new : D) → (d.tells → n ≡ count) → n ≤ number → Costs d 0 0 old mid
      → FlushCosts d (number + 1 - n) ((n ≡ number) × (room n ≡ true)) mid new → PageCosts d number count (room number) old new
  page_past number count n room old mid new is past counted flushed = record {
    pages = number + 1 - n;
    within = λ told lt. absurd (omega (arith, is told, past, lt));
    past = λ told le. omega (arith, is told, past);
    costs = costs_counted (number + 1 - n) ((n ≡ number) × (room n ≡ true)) (d.tells × (number ≤ count) × (room number ≡ true)) old mid new
        (λ has. let at : n ≡ number = omega (arith, is has.0, past, has.1) in (at, subst (λ (m : ℕ). room m ≡ true) (sym at) has.2)) counted flushed;
  }

  -- a page that is written with no force
  pub costs_early : (number : ℕ) (HasRoom : Type 0) (old new : D) → Costs d 1 0 old new → FlushCosts d (number + 1 - number) HasRoom old new
  costs_early number HasRoom old new written = record {
    forces = 0;
    few = omega arith;
    syncs = 0;
    once = omega arith;
    none = λ room. refl;
    costs = costs_as d 1 0 (2 * 0 + (number + 1 - number)) (2 * 0 + 0) old new (omega arith) (omega arith) written;
  }
