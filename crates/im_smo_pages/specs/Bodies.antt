-- Pages and what they say.
use Rattle.std.specs.Prelude.{◌≡◌, ℕ, ◌+◌, ◌-◌, ◌<◌, false, List, [], ◌∷◌, length, remove}
use Rattle.im_base_types.specs.Keys.{Key}
use Rattle.im_base_types.specs.Pages.{Entry, Body, Page}
use Rattle.im_base_types.specs.Maps.{with_key}
use Rattle.im_base_types.specs.declared.page_kind.PageKind.TheVariants.{Inner}
use Rattle.im_theory_page.specs.Entry.{entry_at}
use Rattle.im_theory_page.specs.Header.{empty_body}

-- the page, saying something else: the LSN stays
abbrev pub says : Page → Body → Page
says p b = record p { body = b }

-- an inner page with these entries
abbrev pub inner_body : ℕ → ℕ → List Entry → Body
inner_body level leftmost es = record (empty_body Inner level 0 0 leftmost) { entries = es }

-- an inner page with one separator more, in its place, and the page after it
abbrev pub with_separator : Body → Key → ℕ → Body
with_separator b s q = record b { entries = with_key s q b.entries }

-- a root one level up, over two pages
abbrev pub raised : Body → ℕ → Key → ℕ → Body
raised b l s r = record b { level = b.level + 1; marked = false; leftmost = l; entries = (s, r) ∷ [] }

-- no entry has the key
abbrev pub HasNoKey : List Entry → Key → Type 0
HasNoKey es k = (i : ℕ) → i < length es → (entry_at es i).0 ≡ k → ⊥

-- ---- links of leaves

abbrev pub with_prev : Body → ℕ → Body
with_prev b prev = record b { prev = prev }

abbrev pub with_next : Body → ℕ → Body
with_next b next = record b { next = next }

-- ---- deletions

-- an inner page without the child of the entry at a place
abbrev pub without_entry : Body → ℕ → Body
without_entry b i = record b { entries = remove b.entries i }

-- an inner page without its leftmost child: the first entry's child takes its place
abbrev pub without_leftmost : Body → Body
without_leftmost b = record b { leftmost = (entry_at b.entries 0).1; entries = remove b.entries 0 }

-- ---- allocation, in the meta page: `prev` is how many pages are free, `next` the first of them, `leftmost` the page count

-- without the first free page
abbrev pub meta_without_first : Body → Body → Body
meta_without_first b page = record b { prev = b.prev - 1; next = page.next }

-- with one page more
abbrev pub meta_with_count : Body → Body
meta_with_count b = record b { leftmost = b.leftmost + 1 }

-- with a page in front of the free ones
abbrev pub meta_with_first : Body → ℕ → Body
meta_with_first b number = record b { prev = b.prev + 1; next = number }
