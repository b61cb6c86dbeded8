-- The form of a page's bytes, and the page that bytes are.
use Rattle.std.specs.Prelude.{◌≡◌, ◌⊎◌, ℕ, ◌≤◌, Bool, true, false, List, Option, Some, None, slice_index, ◌==◌, nat_le, ◌&&◌, if◌then◌else◌}
use Rattle.im_base_types.specs.declared.page_kind.PageKind.{PageKind}
use Rattle.im_base_types.specs.declared.page_kind.PageKind.TheVariants.{Free, Meta, Leaf, Inner}
use Rattle.im_base_types.specs.Pages.{Entry, Page}
use Rattle.im_theory_page.specs.Number.{u32_at, u64_at}
use Rattle.im_theory_page.specs.Form.{count_of, entries_of, IsPacked}
use Rattle.im_theory_page.specs.Tests.{is_packed}
use Rattle.im_theory_page.specs.Header.{FitsKind, fits_kind}

-- the kind that a number stands for
abbrev pub kind_of : ℕ → PageKind
kind_of n = if n == 0 then Free else (if n == 1 then Meta else (if n == 2 then Leaf else Inner))

-- a leaf's values take eight bytes, those of other pages four
abbrev pub is_leaf : List ℕ → Bool
is_leaf bytes = slice_index bytes 8 == 2

-- what a page's bytes say
abbrev pub said_by : List ℕ → Page
said_by bytes = record {
  lsn = u64_at bytes 0;
  body = record {
    kind = kind_of (slice_index bytes 8);
    level = slice_index bytes 9;
    marked = slice_index bytes 10 == 1;
    prev = u32_at bytes 16;
    next = u32_at bytes 20;
    leftmost = u32_at bytes 24;
    entries = entries_of (is_leaf bytes) bytes;
  };
}

-- the header's fields are those of its kind
abbrev pub IsPageHeader : List ℕ → Type 0
IsPageHeader bytes = FitsKind (kind_of (slice_index bytes 8)) (slice_index bytes 9) (u32_at bytes 16) (u32_at bytes 20) (u32_at bytes 24) (count_of bytes)

-- bytes are a page: 4,096 of them, a header, slots in key order and packed cells
pub record IsForm (bytes : List ℕ) : Type 0 where
  pub kind : slice_index bytes 8 ≤ 3
  pub flags : slice_index bytes 10 ≤ 1
  pub zero : slice_index bytes 11 ≡ 0
  pub zeros : u32_at bytes 28 ≡ 0
  pub header : IsPageHeader bytes
  pub packed : IsPacked (is_leaf bytes) bytes

-- the same as a test
unfoldable pub is_form : List ℕ → Bool
is_form bytes =
    nat_le (slice_index bytes 8) 3
    && (nat_le (slice_index bytes 10) 1
    && (slice_index bytes 11 == 0
    && (u32_at bytes 28 == 0
    && (fits_kind (kind_of (slice_index bytes 8)) (slice_index bytes 9) (u32_at bytes 16) (u32_at bytes 20) (u32_at bytes 24) (count_of bytes)
    && is_packed (is_leaf bytes) bytes))))

-- the page that bytes are, where they are one
unfoldable pub page_of : List ℕ → Option Page
page_of bytes = if is_form bytes then Some (said_by bytes) else None

-- a leaf and an inner page hold entries
abbrev pub HoldsEntries : PageKind → Type 0
HoldsEntries kind = (kind ≡ Leaf) ⊎ (kind ≡ Inner)

abbrev pub is_leaf_kind : PageKind → Bool
is_leaf_kind Leaf = true
is_leaf_kind Free = false
is_leaf_kind Meta = false
is_leaf_kind Inner = false

-- the page with other entries
abbrev pub with_entries : Page → List Entry → Page
with_entries p es = record p { body = record p.body { entries = es } }
