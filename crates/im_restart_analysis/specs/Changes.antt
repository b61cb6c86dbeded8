-- The changes of pages that the records of a log made: each from an LSN on, and the last one of each page below it.
use Rattle.std.specs.Prelude.{◌≡◌, ◌≤◌, ◌<◌, ◌==◌, ◌&&◌, ℕ, nat_le, true, if◌then◌else◌, List, [], ◌∷◌, ◌++◌, Option, Some}
use Rattle.std.specs.Ordering.{nat_cmp}
use Rattle.std.specs.BTreeMap.{BTreeMap, get}
use Rattle.im_base_types.specs.Records.{Logged}
use Rattle.im_theory_log.specs.Histories.{History, IsRecordOf, changes_page}
use Rattle.im_theory_log.specs.PageCounts.{count_in, named_to}
use Rattle.im_restart_analysis.specs.declared.changes.Change.{Change}
use Rattle.im_restart_analysis.specs.declared.changes.Changes.{Changes}
use Rattle.im_restart_analysis.specs.declared.changes.LastChanges.{LastChanges}
use Rattle.im_restart_analysis.specs.Within.{greatest_said}

-- an LSN for each of some pages
abbrev pub LastMap : Type 0
LastMap = BTreeMap ℕ ℕ

-- A record of the log changed the page; where a page count is said, it says that.
pub record IsChange (log : History) (x : Change) : Type 0 where
  pub logged : Logged
  pub there : IsRecordOf logged log
  pub page : logged.page ≡ x.page
  pub changes : changes_page logged.what ≡ true
  pub lsn : logged.lsn ≡ x.lsn
  pub says : 1 ≤ x.said → (x.page ≡ 0) × (count_in logged.what ≡ x.said)

-- what is kept of a record that changes a page
abbrev pub change_of : Logged → Change
change_of r = record { page = r.page; said = (if r.page == 0 then count_in r.what else 0); lsn = r.lsn }

-- the changes that the records from a point on made, the oldest first
abbrev pub changes_from : ℕ → History → List Change
changes_from point [] = []
changes_from point (r ∷ older) = if nat_le point r.lsn && changes_page r.what then changes_from point older ++ change_of r ∷ [] else changes_from point older

-- A record of the log below the redo point changed the page, at this LSN; and where the page is page 0 and a page count is said, it says that.
pub record IsChangedAt (log : History) (point : ℕ) (count : Option ℕ) (p l : ℕ) : Type 0 where
  pub logged : Logged
  pub there : IsRecordOf logged log
  pub page : logged.page ≡ p
  pub changes : changes_page logged.what ≡ true
  pub lsn : logged.lsn ≡ l
  pub low : l < point
  pub says : p ≡ 0 → (n : ℕ) → count ≡ Some n → (1 ≤ n) × (count_in logged.what ≡ n)

-- each LSN is that of such a record
abbrev pub AreChangedAt : History → ℕ → Option ℕ → LastMap → Type 0
AreChangedAt log point count lsns = (p l : ℕ) → get nat_cmp lsns p ≡ Some l → IsChangedAt log point count p l

-- From its start on each change of the log is kept, and below it LSNs at which records changed pages; the pages that records name are below this number, and this is the greatest page count that images of page 0 say.
pub record AreChanges (log : History) (c : Changes) : Type 0 where
  pub all : c.all.items ≡ changes_from c.start log
  pub lsns : AreChangedAt log c.start c.count c.lsns
  pub named : c.named ≡ named_to log
  pub said : c.said ≡ greatest_said log

-- Each LSN is that of a record below the redo point that changed the page.
pub record AreLastBelow (log : History) (point : ℕ) (last : LastChanges) : Type 0 where
  pub lsns : AreChangedAt log point last.count last.lsns
  pub named : last.named ≡ named_to log
  pub said : last.said ≡ greatest_said log
