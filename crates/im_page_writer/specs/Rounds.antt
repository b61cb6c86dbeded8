-- What a round of redo keeps: its pages lent, changed by its records, and taken back.
use Rattle.std.specs.Prelude.{◌≡◌, ◌≢◌, ◌<◌, ◌||◌, ℕ, List, [], length, slice_index_or, Bool, true, false, if◌then◌else◌, Some, Option, Result, IfErr, IfOk, IfSome}
use Rattle.im_base_types.specs.declared.fault.Fault.{Fault}
use Rattle.im_base_types.specs.declared.fault.Fault.TheVariants.{NotAStore}
use Rattle.im_base_types.specs.Pages.{Page}
use Rattle.im_base_types.specs.Records.{Logged}
use Rattle.im_theory_log.specs.Histories.{Base}
use Rattle.im_theory_log.specs.Copies.{redo_all}
use Rattle.im_theory_log.specs.Writer.{DirtyEntry, Writer}
use Rattle.im_theory_log.specs.WriterSteps.{at_point, is_copied}
use Rattle.im_base_disk.specs.declared.disk.Disk.{Ghosts}
use Rattle.im_page_pool.specs.Pool.{Held, Holds, PoolView, held_of}
use Rattle.im_page_table.specs.DirtyTable.{TableView, entry_in}
use Rattle.im_page_table.specs.Growth.{Keeps}
use Rattle.im_page_rounds.specs.declared.round_page.RoundPage.{RoundPage}
use Rattle.im_page_rounds.specs.Hand.{AllTaken, AreAmong, is_applied}
use Rattle.im_page_rounds.specs.Rounds.{applied_of_all, changing, of_page, redone_all}
use Rattle.im_page_file.specs.Stands.{LeavesCovered}
use Rattle.im_page_writer.specs.declared.page_writer.PageWriter.{PageWriter}
use Rattle.im_page_flush.specs.Writing.{LeavesGrown}
use Rattle.im_page_writer.specs.PageWriter.{StandsAs}

-- ---- the pages of a round

-- each of these pages is held
abbrev pub AreHeld : List ℕ → PoolView → Type 0
AreHeld numbers pool = (i : ℕ) → i < length numbers → Holds pool (slice_index_or numbers i 0)

-- ---- loans

-- a page is none of the first so many of these
abbrev pub IsOther : List ℕ → ℕ → ℕ → Type 0
IsOther numbers n q = (i : ℕ) → i < n → slice_index_or numbers i 0 ≢ q

-- A held page is lent: it is out, and another one stands in its frame with its mark.
pub record Lends (number : ℕ) (x : RoundPage) (old new : PoolView) : Type 0 where
  pub was : Held
  pub held : held_of old number ≡ Some was
  pub out : x.page.value ≡ was.page
  pub unchanged : x.changed ≡ false
  pub spare : Page
  pub now : held_of new number ≡ Some (record was { page = spare })

-- The first so many of these pages are lent, and each other is as it was.
pub record LendsAll (numbers : List ℕ) (n : ℕ) (page : ℕ → RoundPage) (old new : PoolView) : Type 0 where
  pub these : (i : ℕ) → i < n → Lends (slice_index_or numbers i 0) (page i) old new
  pub others : (q : ℕ) → IsOther numbers n q → held_of new q ≡ held_of old q
  pub frames : new.frames ≡ old.frames

-- A lent page is taken back, and is changed where it was, or a record was applied to it.
abbrev pub IsBack : Held → RoundPage → PoolView → ℕ → Type 0
IsBack was x new number = held_of new number ≡ Some (record was { page = x.page.value; changed = was.changed || x.changed })

-- the entry of a page after that
abbrev pub entry_after : Bool → Bool → ℕ → Option DirtyEntry → Option DirtyEntry
entry_after changed known point e = if changed then Some (at_point (known || is_copied e) point) else e

-- The first so many of these pages are taken back, and each other is as it was.
pub record TakesBack (numbers : List ℕ) (n point : ℕ) (known : ℕ → Bool) (page : ℕ → RoundPage) (old new : PoolView) (old_table new_table : TableView) : Type 0 where
  pub these : (i : ℕ) (was : Held) → i < n → held_of old (slice_index_or numbers i 0) ≡ Some was → IsBack was (page i) new (slice_index_or numbers i 0)
  pub others : (q : ℕ) → IsOther numbers n q → held_of new q ≡ held_of old q
  pub entries : (i : ℕ) → i < n → entry_in new_table (slice_index_or numbers i 0) ≡ entry_after (page i).changed (known (slice_index_or numbers i 0)) point (entry_in old_table (slice_index_or numbers i 0))
  pub other_entries : (q : ℕ) → IsOther numbers n q → entry_in new_table q ≡ entry_in old_table q
  pub frames : new.frames ≡ old.frames

-- ---- a round whose pages are held

-- those of these pages that are held are as the function says
abbrev pub AreShown : List ℕ → PoolView → (ℕ → Page) → Type 0
AreShown numbers pool g = (i : ℕ) (h : Held) → i < length numbers → held_of pool (slice_index_or numbers i 0) ≡ Some h → h.page ≡ g (slice_index_or numbers i 0)

-- A held page is what the records made of it, and has its entry.
pub record PageRedoneHere (number point : ℕ) (known : Bool) (rs : List Logged) (old new : PageWriter) : Type 0 where
  pub was : Held
  pub held : held_of old.pool number ≡ Some was
  pub now : held_of new.pool number ≡ Some (record was { page = redo_all rs number was.page; changed = was.changed || is_applied rs number was.page })
  pub entry : entry_in new.table number ≡ entry_after (is_applied rs number was.page) known point (entry_in old.table number)

-- So is each of these pages, and each other is as it was; each record is of one of them.
pub record RoundHere (numbers : List ℕ) (point : ℕ) (known : ℕ → Bool) (rs : List Logged) (old new : PageWriter) : Type 0 where
  pub among : AreAmong numbers rs
  pub these : (i : ℕ) → i < length numbers → PageRedoneHere (slice_index_or numbers i 0) point (known (slice_index_or numbers i 0)) rs old new
  pub others : (q : ℕ) → IsOther numbers (length numbers) q → held_of new.pool q ≡ held_of old.pool q
  pub other_entries : (q : ℕ) → IsOther numbers (length numbers) q → entry_in new.table q ≡ entry_in old.table q

-- ---- the pages that take part

-- Of records in turn these are the changes of the pages that take part, each page's in their order, and no other page's.
pub record AreOfThose (who : ℕ → Bool) (rs own : List Logged) : Type 0 where
  pub these : (p : ℕ) → who p ≡ true → of_page p own ≡ of_page p (changing rs)
  pub others : (p : ℕ) → who p ≡ false → of_page p own ≡ []

-- the writer after the records in turn, where each page that takes part goes past all of them, and every other page stays
abbrev pub redone_of : (ℕ → Bool) → (ℕ → Bool) → List Logged → Writer → Writer
redone_of who known rs s = record s { pages = λ q. if who q then (redone_all known rs s).pages q else s.pages q }

module _ {D : Type 0} (d : Ghosts D) (b : Base) (base : ℕ) where
  -- Each page was as before, the log had Images more, and then the pages that take part went past the records.
  pub record RoundFrom (who : ℕ → Bool) (s : Writer) (rs : List Logged) (old : D) (w : PageWriter) (disk : D) : Type 0 where
    pub before : Writer
    pub keeps : Keeps b s before
    pub stops : LeavesCovered d b base s.durable before.log old disk
    -- of which pages a full copy is known
    pub known : ℕ → Bool
    pub stands : StandsAs d b base (redone_of who known rs before) w disk

  -- What a round of these pages keeps, where its own records of all these are redone; it is refused as no store only where a record is of another page, or a page needs one and does not take it.
  pub record RoundKept (numbers : List ℕ) (who : ℕ → Bool) (s : Writer) (rs own : List Logged) (old : D) (w : PageWriter) (disk : D) (result : Result (Option ℕ) Fault) : Type 0 where
    pub ok : IfOk result (λ redone. IfSome redone (λ n. RoundFrom who s rs old w disk))
    pub applied : IfOk result (λ redone. IfSome redone (λ n. n ≡ applied_of_all own (λ q. (s.pages q).page)))
    pub stops : LeavesGrown d b base s old disk
    pub cause : AreAmong numbers own → AllTaken own (λ q. (s.pages q).page) → IfErr result (λ e. e ≢ NotAStore)
