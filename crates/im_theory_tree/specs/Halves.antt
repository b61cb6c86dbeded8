-- What stands on each side of a page's split.
use Rattle.std.specs.Prelude.{ℕ, ◌+◌, ◌<◌, ◌≤◌, Bool, List, length, take, drop}
use Rattle.im_base_types.specs.Pages.{Entry}
use Rattle.im_theory_page.specs.Entry.{entry_at, size, taken}
use Rattle.im_theory_page.specs.Split.{HasRoomForAny}

-- the entries are those of a page: their keys are short, and their cells and slots fit
pub record FitsPage (leaf : Bool) (es : List Entry) : Type 0 where
  pub short : (i : ℕ) → i < length es → length (entry_at es i).0 ≤ 255
  pub fits : taken leaf es ≤ 4064

-- an entry with a short key that has no room beside these
pub record LacksRoom (leaf : Bool) (es : List Entry) (e : Entry) : Type 0 where
  pub key : length e.0 ≤ 255
  pub more : 4064 < taken leaf es + (size leaf e + 2)

-- The left part has an entry; after it stand at least two, of which an inner page moves one up; and each part has room for one more entry of any size.
pub record SplitsWell (leaf : Bool) (es : List Entry) (n : ℕ) : Type 0 where
  pub left : 1 ≤ n
  pub right : n + 2 ≤ length es
  pub left_room : HasRoomForAny leaf (take n es)
  pub right_room : HasRoomForAny leaf (drop n es)
  pub rest_room : HasRoomForAny leaf (drop (n + 1) es)
