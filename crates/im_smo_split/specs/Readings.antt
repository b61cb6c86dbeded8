-- What a page says of a split.
use Rattle.std.specs.Prelude.{◌≡◌, ◌↔◌, ◌+◌, ◌≤◌, ◌<◌, ℕ, Bool, length}
use Rattle.std.specs.Bool.{IsTrue}
use Rattle.im_base_types.specs.Pages.{Body}
use Rattle.im_theory_page.specs.Entry.{entry_at, taken, width, Rises}
use Rattle.im_smo_pages.specs.Parts.{IsPoint}

-- the key that would move up to the parent has so many bytes
pub record HasUp (dense leaf : Bool) (page : Body) (bytes : ℕ) : Type 0 where
  pub point : ℕ
  pub at : IsPoint dense leaf page point
  pub bytes_are : bytes ≡ length (entry_at page.entries point).0
  pub short : bytes ≤ 255

-- whether an entry fits whose key has so many bytes; the keys of the page rise
pub record IsRoom (leaf : Bool) (page : Body) (key : ℕ) (r : Bool) : Type 0 where
  pub tells : IsTrue r ↔ (taken leaf page.entries + (1 + key + width leaf + 2) ≤ 4064)
  pub rises : Rises page.entries

-- keys of fewer bytes than this fit, and those of more up to 255 do not; the keys of the page rise
pub record IsKeyRoom (leaf : Bool) (page : Body) (room : ℕ) : Type 0 where
  pub fit : (k : ℕ) → k < room → taken leaf page.entries + (1 + k + width leaf + 2) ≤ 4064
  pub full : (k : ℕ) → room ≤ k → k ≤ 255 → 4064 < taken leaf page.entries + (1 + k + width leaf + 2)
  pub rises : Rises page.entries

-- Whether so many pages more would be more than the store may have: the page count, without the free pages, and they are more. `prev` of the meta page is how many pages are free, `leftmost` the page count.
abbrev pub IsFull : Body → ℕ → ℕ → Bool → Type 0
IsFull meta pages max r = IsTrue r ↔ (max + meta.prev < meta.leftmost + pages)
