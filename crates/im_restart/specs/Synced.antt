-- Which pages a file of pages has to have.
use Rattle.std.specs.Prelude.{◌≡◌, ◌≤◌, ◌<◌, ℕ, Option, None, Some}
use Rattle.std.specs.Ordering.{nat_cmp}
use Rattle.std.specs.BTreeMap.{BTreeMap, get}
use Rattle.im_base_types.specs.Pages.{Page}

-- A file of so many pages has each page that it was synced with, by the last changes below the redo point; one with a noted copy it may lack.
abbrev pub HasEach : ℕ → BTreeMap ℕ ℕ → BTreeMap ℕ ℕ → Type 0
HasEach count lsns copies = (p l : ℕ) → get nat_cmp lsns p ≡ Some l → get nat_cmp copies p ≡ None → p < count

-- It lacks one of them.
pub record Lacks (count : ℕ) (lsns copies : BTreeMap ℕ ℕ) : Type 0 where
  pub page : ℕ
  pub lsn : ℕ
  pub synced : get nat_cmp lsns page ≡ Some lsn
  pub none : get nat_cmp copies page ≡ None
  pub past : count ≤ page

-- the bytes are a page with an LSN below this
abbrev pub IsUnder : ℕ → Option Page → Type 0
IsUnder end None = ⊥
IsUnder end (Some page) = page.lsn < end
