-- What the file of pages was synced with before a life, as far as the log says, and which pages it may have then.
use Rattle.std.specs.Prelude.{◌≡◌, ◌≤◌, ◌<◌, ◌+◌, ◌-◌, ◌^◌, min, ℕ, true, false, Option, None, Some}
use Rattle.std.specs.Ordering.{nat_cmp}
use Rattle.std.specs.BTreeMap.{get}
use Rattle.im_base_types.specs.Pages.{Body, Page}
use Rattle.im_base_types.specs.Records.{Logged, What}
use Rattle.im_theory_log.specs.Histories.{History, IsRecordOf, changes_page}
use Rattle.im_theory_log.specs.Writer.{Writer}
use Rattle.im_log_gate.specs.Gate.{place_of}
use Rattle.im_log.specs.declared.log_file.LogFile.{LogFile}
use Rattle.im_page_table.specs.KnownCopies.{IsKnownFrom, KnowsDurable}
use Rattle.im_page_file.specs.PageCopy.{after_in}
use Rattle.im_page_writer.specs.declared.known.Synced.{Synced}
use Rattle.im_page_writer.specs.declared.known.Known.{Known}

-- after a record of this kind its page, if it is page 0, says this page count
pub record SaysCount (w : What) (n : ℕ) : Type 0 where
  pub body : Body
  pub after : after_in w ≡ Some body
  pub count : body.leftmost ≡ n

-- A record of the log below the redo point changed the page, at this LSN; and where the page is page 0, it says the page count.
pub record IsChangedBelow (log : History) (point : ℕ) (count : Option ℕ) (p l : ℕ) : Type 0 where
  pub record_is : Logged
  pub there : IsRecordOf record_is log
  pub page : record_is.page ≡ p
  pub changes : changes_page record_is.what ≡ true
  pub lsn : record_is.lsn ≡ l
  pub low : l < point
  pub says : p ≡ 0 → (n : ℕ) → count ≡ Some n → SaysCount record_is.what n

-- Each LSN is that of a record below the redo point that changed the page.
abbrev pub AreSyncedWith : History → ℕ → Synced → Type 0
AreSyncedWith log point synced = (p l : ℕ) → get nat_cmp synced.lsns p ≡ Some l → IsChangedBelow log point synced.count p l

-- what a writer knows of pages that it does not hold: 6 of what it keeps
pub record IsKnown (s : Writer) (known : Known) : Type 0 where
  pub from : IsKnownFrom s known.from
  pub synced : AreSyncedWith s.log s.point known.synced
  -- no Image that a page is known to have waits in the log: a copy that is known comes no later than its page's last change
  pub copies : known.ahead ≡ false → KnowsDurable s

-- The file may have this page: it has the changes with which the file was synced, and page 0 says no other page count than they left there.
pub record MayBe (synced : Synced) (number : ℕ) (page : Page) : Type 0 where
  pub reaches : (l : ℕ) → get nat_cmp synced.lsns number ≡ Some l → l ≤ page.lsn
  pub count : (l n : ℕ) → get nat_cmp synced.lsns number ≡ Some l → number ≡ 0 → page.lsn ≡ l → synced.count ≡ Some n → page.body.leftmost ≡ n

-- where the log ends that is durable
abbrev pub end_of_log : LogFile → ℕ
end_of_log log = min (log.base + place_of log.gate) (2 ^ 64 - 1)

-- The page was written under this log: its LSN is below the log's end, and the file may have it.
pub record IsUnderLog (log : LogFile) (known : Known) (number : ℕ) (page : Page) : Type 0 where
  pub under : page.lsn < end_of_log log
  pub may : MayBe known.synced number page

-- what the file has there is no page, or not one that was written under this log
abbrev pub IsForeign : LogFile → Known → ℕ → Option Page → Type 0
IsForeign log known number None = Unit {0}
IsForeign log known number (Some page) = ¬ (IsUnderLog log known number page)
