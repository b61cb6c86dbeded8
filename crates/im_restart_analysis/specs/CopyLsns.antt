-- Where the last full copies of pages stand in a log.
use Rattle.std.specs.Prelude.{◌≡◌, ℕ, ◌<◌, [], ◌∷◌, Option}
use Rattle.std.specs.Option.{option_map}
use Rattle.std.specs.Ordering.{nat_cmp}
use Rattle.std.specs.BTreeMap.{BTreeMap, get}
use Rattle.im_base_types.specs.Pages.{Page}
use Rattle.im_base_types.specs.Records.{Logged}
use Rattle.im_theory_log.specs.Histories.{History, IsRecordOf}
use Rattle.im_theory_log.specs.Copies.{noted}

-- the LSN of the last record at or after an LSN that holds a full copy of the page
abbrev pub copy_lsn : ℕ → History → ℕ → Option ℕ
copy_lsn from log p = option_map (λ (c : ℕ × Page). c.0) (noted from log p)

-- an LSN for each of some pages
abbrev pub CopyMap : Type 0
CopyMap = BTreeMap ℕ ℕ

-- The map has the LSN of each page's last full copy at or after an LSN, and no other page.
abbrev pub AreCopies : ℕ → CopyMap → History → Type 0
AreCopies from copies log = (p : ℕ) → get nat_cmp copies p ≡ copy_lsn from log p

-- the LSN is above those of all records
abbrev pub IsAbove : ℕ → History → Type 0
IsAbove lsn older = (s : Logged) → IsRecordOf s older → s.lsn < lsn

-- LSNs rise
abbrev pub LsnsRise : History → Type 0
LsnsRise [] = Unit {0}
LsnsRise (r ∷ older) = LsnsRise older × IsAbove r.lsn older
