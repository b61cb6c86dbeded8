-- What the records of a log have to be for analysis to take them all: chains lead down, one structure change is open at a time, and the pages
-- that they name are below a page count that the log has said, or the count n that it begins with, where that bounds them.
use Rattle.std.specs.Prelude.{◌≡◌, ◌≢◌, ◌≤◌, ◌<◌, ◌⊎◌, ◌-◌, ◌^◌, ◌==◌, if◌then◌else◌, ℕ, true, [], ◌∷◌, Result, Err, OnOk}
use Rattle.im_base_types.specs.declared.fault.Fault.{Fault}
use Rattle.im_base_types.specs.declared.fault.Fault.TheVariants.{NotAStore}
use Rattle.im_base_types.specs.Records.{Logged, Unreadable}
use Rattle.im_theory_log.specs.Histories.{Base, History}
use Rattle.im_theory_log.specs.PageCounts.{count_of, first_count, greatest_count, names_page}
use Rattle.im_restart_analysis.specs.declared.analysis.Analysis.{Analysis}
use Rattle.im_restart_analysis.specs.OpenChange.{IsOpenChange, OpensAnother}

-- The page count that a log begins with at most, by the LSN of its first byte: that of a first log, which begins at 0, and the greatest that a page can say, which bounds nothing, of one that goes on.
abbrev pub pages_at_first : ℕ → ℕ
pages_at_first base = if base == 0 then first_count else 2 ^ 32 - 1

-- the LSN that a record names is none, or an earlier one
abbrev pub IsEarlier : ℕ → ℕ → Type 0
IsEarlier named lsn = (named ≡ 0) ⊎ (named < lsn)

-- A transaction's record leads to earlier ones alone.
abbrev pub LeadsDown : Logged → Type 0
LeadsDown r = 1 ≤ r.txn → IsEarlier r.prev r.lsn × IsEarlier r.undo_next r.lsn

-- What a log is over says no more pages than a first log begins with, where it is one.
abbrev pub IsCounted : Base → ℕ → Type 0
IsCounted b base = base ≡ 0 → count_of b ≤ first_count

-- What a log is over says no more pages than n, where that bounds them.
abbrev pub IsCountedBy : ℕ → Base → Type 0
IsCountedBy n b = (count_of b ≤ n) ⊎ (2 ^ 32 - 1 ≤ n)

-- A record that names a page names one below a page count that was said before it. The greatest that a page can say bounds nothing.
abbrev pub NamesCounted : ℕ → Logged → History → Type 0
NamesCounted n r older = names_page r.what ≡ true → (r.page < greatest_count n older) ⊎ (2 ^ 32 - 1 ≤ greatest_count n older)

-- The record leads down, opens no structure change beside another transaction's, and names no page that no page count has.
pub record FitsBehind (n : ℕ) (r : Logged) (older : History) : Type 0 where
  pub leads : LeadsDown r
  pub alone : OpensAnother r older → ⊥
  pub counted : NamesCounted n r older

-- So does each record.
abbrev pub IsOrderly : ℕ → History → Type 0
IsOrderly n [] = Unit {0}
IsOrderly n (r ∷ older) = FitsBehind n r older × IsOrderly n older

-- The bytes of each page image are a page's.
abbrev pub IsReadable : History → Type 0
IsReadable [] = Unit {0}
IsReadable (r ∷ older) = (r.what ≢ Unreadable) × IsReadable older

-- What is known after records of any log: the structure change that is open, and the greatest page count.
pub record Knows (n : ℕ) (log : History) (a : Analysis) : Type 0 where
  pub open_change : IsOpenChange a.open_change.items log
  pub count : a.count ≡ greatest_count n log

-- On any records: one is taken only where it fits, with what is known after it, and refused as no store only where it does not fit.
pub record FitKept (n : ℕ) (older : History) (r : Logged) (new : Analysis) (result : Result Unit Fault) : Type 0 where
  pub ok : OnOk result (FitsBehind n r older × Knows n (r ∷ older) new)
  pub refused : result ≡ Err NotAStore → FitsBehind n r older → ⊥
