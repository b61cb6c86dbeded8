-- The pages of a round, and what its records make of them.
use Rattle.std.specs.Prelude.{◌≡◌, ◌≤◌, ◌<◌, ◌-◌, ℕ, List, [], ◌∷◌, length, take, drop, slice_index_or, Bool, true, not, ◌==◌}
use Rattle.im_base_types.specs.Pages.{Page}
use Rattle.im_base_types.specs.Records.{Logged}
use Rattle.im_theory_log.specs.Copies.{redo_one}
use Rattle.im_theory_log.specs.WriterSteps.{applies}
use Rattle.im_log.specs.Reading.{SpellsRecord}
use Rattle.im_log.specs.Span.{IsWhole}
use Rattle.im_log.specs.Spelled.{record_size}
use Rattle.im_page_rounds.specs.declared.round_page.RoundPage.{RoundPage}
use Rattle.im_page_rounds.specs.OnePage.{PageTakes}
use Rattle.im_page_rounds.specs.Rounds.{applied_to}

-- ---- the bytes of a round's records

-- A record of this LSN stands as a whole in a part of the log that begins at another.
pub record StandsIn (from : ℕ) (span : List ℕ) (lsn : ℕ) (r : Logged) : Type 0 where
  pub lsn_is : lsn ≡ r.lsn
  pub low : from ≤ lsn
  pub whole : IsWhole (drop (lsn - from) span)
  pub spelled : SpellsRecord r (take (record_size (drop (lsn - from) span)) (drop (lsn - from) span))

-- So do records of these LSNs, each of its own.
abbrev pub StandIn : ℕ → List ℕ → List ℕ → List Logged → Type 0
StandIn from span [] [] = Unit {0}
StandIn from span [] (r ∷ rs) = ⊥
StandIn from span (l ∷ lsns) [] = ⊥
StandIn from span (l ∷ lsns) (r ∷ rs) = StandsIn from span l r × StandIn from span lsns rs

-- ---- the pages

-- each number is less than those after it
abbrev pub AreRising : List ℕ → Type 0
AreRising numbers = (i j : ℕ) → i < j → j < length numbers → slice_index_or numbers i 0 < slice_index_or numbers j 0

-- A page of a round is this one, and it is said so whether a record of the round was applied to it.
pub record IsThis (x : RoundPage) (g : Page) (marked : Bool) : Type 0 where
  pub page : x.page.value ≡ g
  pub changed : x.changed ≡ marked

-- whether redo applies any of these records to a page
abbrev pub is_applied : List Logged → ℕ → Page → Bool
is_applied rs p g = not (applied_to rs p g == 0)

-- Each record is taken by its page as the records before it left that, where the page needs it.
abbrev pub AllTaken : List Logged → (ℕ → Page) → Type 0
AllTaken [] pages = Unit {0}
AllTaken (r ∷ rs) pages = (applies r r.page (pages r.page) ≡ true → PageTakes r.what (pages r.page)) × AllTaken rs (λ q. redo_one r q (pages q))

-- a page is one of these
pub record IsAmong (numbers : List ℕ) (p : ℕ) : Type 0 where
  pub place : ℕ
  pub within : place < length numbers
  pub is : slice_index_or numbers place 0 ≡ p

-- each of these records is of one of these pages
abbrev pub AreAmong : List ℕ → List Logged → Type 0
AreAmong numbers [] = Unit {0}
AreAmong numbers (r ∷ rs) = IsAmong numbers r.page × AreAmong numbers rs
