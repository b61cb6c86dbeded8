-- A round by several workers: which pages each of them has, and what it makes of them.
use Rattle.std.specs.Prelude.{◌≡◌, IfOk, IfErr, ◌≤◌, ◌<◌, ◌+◌, ◌*◌, ◌/◌, ◌%◌, ℕ, zero, suc, List, [], ◌∷◌, length, slice_index_or, get_or, Bool, ◌==◌, ◌||◌, ◌&&◌, if◌then◌else◌, All, vec_len, Result, Ok, Err}
use Rattle.im_base_types.specs.declared.fault.Fault.{Fault}
use Rattle.im_base_types.specs.declared.fault.Fault.TheVariants.{NotAStore}
use Rattle.im_base_types.specs.Pages.{Page}
use Rattle.im_base_types.specs.Records.{Logged}
use Rattle.im_theory_log.specs.Copies.{redo_all, redo_one}
use Rattle.im_theory_log.specs.WriterSteps.{applies}
use Rattle.im_page_rounds.specs.declared.round_page.RoundPage.{RoundPage}
use Rattle.im_page_rounds.specs.declared.worker.Worker.{Worker}
use Rattle.im_page_rounds.specs.OnePage.{PageRedone}
use Rattle.im_page_rounds.specs.Rounds.{applied_of_all}
use Rattle.im_page_rounds.specs.Hand.{AllTaken, AreAmong, IsThis, StandIn, is_applied}

-- ---- which pages a worker has: page i of a round, in rising number from 0, is with worker i mod how many they are

-- the first place of a number in a list
abbrev pub place_in : List ℕ → ℕ → ℕ
place_in [] p = 0
place_in (q ∷ qs) p = if q == p then 0 else suc (place_in qs p)

-- whether a page is with this worker
abbrev pub is_dealt : ℕ → ℕ → List ℕ → ℕ → Bool
is_dealt workers worker numbers p = place_in numbers p % workers == worker

-- Those of the pages that are with this worker stand in their order, each as the functions say.
abbrev pub AreDealt : ℕ → ℕ → List ℕ → List RoundPage → (ℕ → Page) → (ℕ → Bool) → Type 0
AreDealt workers worker numbers hand pages changed = (i : ℕ) (d : RoundPage) → i < length numbers → i % workers ≡ worker → IsThis (get_or hand (i / workers) d) (pages (slice_index_or numbers i 0)) (changed (slice_index_or numbers i 0))

-- A page of a round went past a record of it, and it is said whether that was applied.
pub record IsRedone (r : Logged) (old : RoundPage) (done : Bool) (new : RoundPage) : Type 0 where
  pub page : PageRedone r old.page.value done new.page.value
  pub changed : new.changed ≡ (old.changed || done)

-- how many of these records are applied to a page of this worker
abbrev pub applied_by : ℕ → ℕ → List ℕ → List Logged → (ℕ → Page) → ℕ
applied_by workers worker numbers [] pages = 0
applied_by workers worker numbers (r ∷ rs) pages = (if is_dealt workers worker numbers r.page && applies r r.page (pages r.page) then 1 else 0) + applied_by workers worker numbers rs (λ q. redo_one r q (pages q))

-- A worker redid records, each of one of these pages: so many were applied to its own, and each of those is as they made it.
pub record HandRedone (workers worker : ℕ) (numbers : List ℕ) (rs : List Logged) (old : ℕ → Page) (changed : ℕ → Bool) (n : ℕ) (hand : List RoundPage) : Type 0 where
  pub pages : AreDealt workers worker numbers hand (λ q. redo_all rs q (old q)) (λ q. changed q || is_applied rs q (old q))
  pub count : n ≡ applied_by workers worker numbers rs old
  pub among : AreAmong numbers rs

-- ---- all workers

-- each worker has room for its part of so many pages
abbrev pub HaveRoom : ℕ → List Worker → Type 0
HaveRoom n workers = All (λ w. n ≤ length workers * vec_len w.pages) workers

-- There are as many workers, and each has room for as many pages.
pub record SameRoom (old new : List Worker) : Type 0 where
  pub count : length new ≡ length old
  pub each : (k : ℕ) (w : Worker) → k < length old → vec_len (get_or new k w).pages ≡ vec_len (get_or old k w).pages

-- the page of a round at a place
abbrev pub page_in : List Worker → ℕ → Worker → RoundPage → RoundPage
page_in workers i w d = get_or (get_or workers (i % length workers) w).pages.items (i / length workers) d

-- The pages of these numbers are with their workers, each as the functions say.
abbrev pub AreThese : List ℕ → List Worker → (ℕ → Page) → (ℕ → Bool) → Type 0
AreThese numbers workers pages changed = (i : ℕ) (w : Worker) (d : RoundPage) → i < length numbers → IsThis (page_in workers i w d) (pages (slice_index_or numbers i 0)) (changed (slice_index_or numbers i 0))

-- Records were redone, each of one of these pages: so many were applied, and each page is as they made it.
pub record AreRedone (numbers : List ℕ) (rs : List Logged) (old : ℕ → Page) (changed : ℕ → Bool) (n : ℕ) (workers : List Worker) : Type 0 where
  pub pages : AreThese numbers workers (λ q. redo_all rs q (old q)) (λ q. changed q || is_applied rs q (old q))
  pub count : n ≡ applied_of_all rs old
  pub among : AreAmong numbers rs

-- what a worker counted
abbrev pub told_count : Result ℕ Fault → ℕ
told_count (Ok n) = n
told_count (Err e) = 0

-- what so many workers, from the first, counted
abbrev pub count_below : List Worker → Worker → ℕ → ℕ
count_below workers w zero = 0
count_below workers w (suc k) = count_below workers w k + told_count (get_or workers k w).applied

-- What a worker's part of a round makes of it.
pub record Worked (workers number : ℕ) (numbers : List ℕ) (from : ℕ) (span lsns : List ℕ) (old new : Worker) : Type 0 where
  pub redone : (rs : List Logged) (g : ℕ → Page) (changed : ℕ → Bool) → StandIn from span lsns rs → AreDealt workers number numbers old.pages.items g changed
      → IfOk new.applied (λ count. HandRedone workers number numbers rs g changed count new.pages.items)
  pub taken : (rs : List Logged) (g : ℕ → Page) (changed : ℕ → Bool) → StandIn from span lsns rs → AreDealt workers number numbers old.pages.items g changed → AreAmong numbers rs → AllTaken rs g → IfErr new.applied (λ e. ⊥)
  pub length : vec_len new.pages ≡ vec_len old.pages
  pub refused : IfErr new.applied (λ e. e ≡ NotAStore)
