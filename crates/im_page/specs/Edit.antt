-- What the edits of a page's bytes leave.
use Rattle.std.specs.Prelude.{◌≡◌, ℕ, ◌+◌, ◌*◌, ◌<◌, ◌≤◌, List, length, slice_index, nat_lt, if◌then◌else◌}
use Rattle.im_theory_page.specs.Number.{u32_at}
use Rattle.im_theory_page.specs.Form.{count_of, start_of, slot_at}

-- one more slot, at place i, which points to `start`, where the cells now begin
pub record AddsSlot (old new : List ℕ) (count i start : ℕ) : Type 0 where
  pub len : length new ≡ length old
  pub counted : count_of new ≡ count + 1
  pub started : start_of new ≡ start
  pub head : (k : ℕ) → k < 12 → slice_index new k ≡ slice_index old k
  pub links : (k : ℕ) → 16 ≤ k → k < 32 → slice_index new k ≡ slice_index old k
  pub below : (j : ℕ) → j < i → slot_at new j ≡ slot_at old j
  pub added : slot_at new i ≡ start
  pub moved : (j : ℕ) → i ≤ j → j < count → slot_at new (j + 1) ≡ slot_at old j
  pub above : (k : ℕ) → 32 + 2 * count + 2 ≤ k → slice_index new k ≡ slice_index old k

-- where a cell lies once the `size` bytes at `at` are gone, and what lay below them has moved up
abbrev pub moved_up : ℕ → ℕ → ℕ → ℕ
moved_up at size s = if nat_lt s at then s + size else s

-- the bytes from `start` to `at` have moved up by `size`, and zeros stand where they began
pub record MovesCells (old new : List ℕ) (start at size : ℕ) : Type 0 where
  pub len : length new ≡ length old
  pub below : (k : ℕ) → k < start → slice_index new k ≡ slice_index old k
  pub zeros : (k : ℕ) → start ≤ k → k < start + size → slice_index new k ≡ 0
  pub moved : (k : ℕ) → start ≤ k → k < at → slice_index new (k + size) ≡ slice_index old k
  pub above : (k : ℕ) → at + size ≤ k → slice_index new k ≡ slice_index old k

-- the slots without slot i, each of them where its cell lies now
pub record MovesSlots (old new : List ℕ) (count i at size : ℕ) : Type 0 where
  pub len : length new ≡ length old
  pub head : (k : ℕ) → k < 32 → slice_index new k ≡ slice_index old k
  pub below : (j : ℕ) → j < i → slot_at new j ≡ moved_up at size (slot_at old j)
  pub above : (j : ℕ) → i ≤ j → j + 1 < count → slot_at new j ≡ moved_up at size (slot_at old (j + 1))
  pub rest : (k : ℕ) → 32 + 2 * count ≤ k + 2 → slice_index new k ≡ slice_index old k

-- one slot fewer
pub record DropsSlot (old new : List ℕ) (count i start at size : ℕ) : Type 0 where
  pub len : length new ≡ length old
  pub counted : count_of new + 1 ≡ count
  pub started : start_of new ≡ start
  pub head : (k : ℕ) → k < 12 → slice_index new k ≡ slice_index old k
  pub links : (k : ℕ) → 16 ≤ k → k < 32 → slice_index new k ≡ slice_index old k
  pub below : (j : ℕ) → j < i → slot_at new j ≡ moved_up at size (slot_at old j)
  pub above : (j : ℕ) → i ≤ j → j + 1 < count → slot_at new j ≡ moved_up at size (slot_at old (j + 1))
  pub last : (k : ℕ) → 32 + 2 * count ≤ k + 2 → k < 32 + 2 * count → slice_index new k ≡ 0
  pub rest : (k : ℕ) → 32 + 2 * count ≤ k → slice_index new k ≡ slice_index old k

-- nothing is left but the LSN, and the cells begin at the end
pub record IsErased (old new : List ℕ) : Type 0 where
  pub len : length new ≡ length old
  pub lsn : (k : ℕ) → k < 8 → slice_index new k ≡ slice_index old k
  pub low : (k : ℕ) → 8 ≤ k → k < 14 → slice_index new k ≡ 0
  pub started : start_of new ≡ 4096
  pub high : (k : ℕ) → 16 ≤ k → k < 4096 → slice_index new k ≡ 0

-- the header's fields but LSN and mark are these, and all else is as it was
pub record HasHeader (old new : List ℕ) (kind level prev next leftmost : ℕ) : Type 0 where
  pub len : length new ≡ length old
  pub is_kind : slice_index new 8 ≡ kind
  pub is_level : slice_index new 9 ≡ level
  pub is_prev : u32_at new 16 ≡ prev
  pub is_next : u32_at new 20 ≡ next
  pub is_leftmost : u32_at new 24 ≡ leftmost
  pub low : (k : ℕ) → k < 8 → slice_index new k ≡ slice_index old k
  pub middle : (k : ℕ) → 10 ≤ k → k < 16 → slice_index new k ≡ slice_index old k
  pub high : (k : ℕ) → 28 ≤ k → slice_index new k ≡ slice_index old k
