-- The fields of a page's header that its kind names, and pages with no entry.
use Rattle.std.specs.Prelude.{◌≡◌, ◌⊎◌, ℕ, ◌≤◌, Bool, false, [], ◌==◌, nat_le, ◌&&◌, if◌then◌else◌, List}
use Rattle.im_base_types.specs.declared.page_kind.PageKind.{PageKind}
use Rattle.im_base_types.specs.declared.page_kind.PageKind.TheVariants.{Free, Meta, Leaf, Inner}
use Rattle.im_base_types.specs.Pages.{Body, Page, Entry}

-- the fields that the kind does not name are 0. Only an inner page has a level, of 1 or more
abbrev pub FitsKind : PageKind → ℕ → ℕ → ℕ → ℕ → ℕ → Type 0
FitsKind Free level prev next leftmost count = (level ≡ 0) × (prev ≡ 0) × (leftmost ≡ 0) × (count ≡ 0)
FitsKind Meta level prev next leftmost count = (level ≡ 0) × (count ≡ 0)
FitsKind Leaf level prev next leftmost count = (level ≡ 0) × (leftmost ≡ 0)
FitsKind Inner level prev next leftmost count = (1 ≤ level) × (prev ≡ 0) × (next ≡ 0)

-- the same as a test
abbrev pub fits_kind : PageKind → ℕ → ℕ → ℕ → ℕ → ℕ → Bool
fits_kind Free level prev next leftmost count = level == 0 && (prev == 0 && (leftmost == 0 && count == 0))
fits_kind Meta level prev next leftmost count = level == 0 && count == 0
fits_kind Leaf level prev next leftmost count = level == 0 && leftmost == 0
fits_kind Inner level prev next leftmost count = nat_le 1 level && (prev == 0 && next == 0)

-- the kinds whose header has a field `prev`, `next`, `leftmost`
abbrev pub HasPrev : PageKind → Type 0
HasPrev kind = (kind ≡ Meta) ⊎ (kind ≡ Leaf)

abbrev pub HasNext : PageKind → Type 0
HasNext kind = (kind ≡ Free) ⊎ ((kind ≡ Meta) ⊎ (kind ≡ Leaf))

abbrev pub HasLeftmost : PageKind → Type 0
HasLeftmost kind = (kind ≡ Meta) ⊎ (kind ≡ Inner)

-- a body with no entry and no mark
abbrev pub empty_body : PageKind → ℕ → ℕ → ℕ → ℕ → Body
empty_body kind level prev next leftmost = record { kind = kind; level = level; marked = false; prev = prev; next = next; leftmost = leftmost; entries = [] }

-- a leaf with these entries
abbrev pub leaf_body : (prev next : ℕ) → List Entry → Body
leaf_body prev next es = record (empty_body Leaf 0 prev next 0) { entries = es }

-- the page of a number before anything was put: page 0 is meta with two pages and no free one, page 1 an empty leaf, any other free
abbrev pub initial : ℕ → Page
initial number = record {
  lsn = 0;
  body = if number == 0 then empty_body Meta 0 0 0 2 else (if number == 1 then empty_body Leaf 0 0 0 0 else empty_body Free 0 0 0 0);
}
