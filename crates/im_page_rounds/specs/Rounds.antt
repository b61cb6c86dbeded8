-- Redo in rounds: each page changed by its own records, whoever applies them.
use Rattle.std.specs.Prelude.{◌≡◌, ◌≤◌, ◌<◌, ◌+◌, ℕ, List, [], ◌∷◌, ◌++◌, length, Bool, true, false, if◌then◌else◌, ◌==◌, ◌||◌, None, Some}
use Rattle.im_base_types.specs.Pages.{Page}
use Rattle.im_base_types.specs.Records.{Logged}
use Rattle.im_theory_log.specs.Histories.{Base, History, changes_page, end_of}
use Rattle.im_theory_log.specs.Copies.{HasCopy, onto, redo_all, redo_one}
use Rattle.im_theory_log.specs.RedoPoints.{redo_point}
use Rattle.im_theory_log.specs.Writer.{PageState, Writer, WriterKept}
use Rattle.im_theory_log.specs.WriterSteps.{applies, at_point, is_copied}
use Rattle.im_page_table.specs.KnownCopies.{redone_as}

-- ---- one page

-- the records of a page, in their order
abbrev pub of_page : ℕ → List Logged → List Logged
of_page p [] = []
of_page p (r ∷ rs) = if r.page == p then r ∷ of_page p rs else of_page p rs

-- how many of these records redo applies to a page
abbrev pub applied_to : List Logged → ℕ → Page → ℕ
applied_to [] p g = 0
applied_to (r ∷ rs) p g = (if applies r p g then 1 else 0) + applied_to rs p (redo_one r p g)

-- those of the records that change their page
abbrev pub changing : List Logged → List Logged
changing [] = []
changing (r ∷ rs) = if changes_page r.what then r ∷ changing rs else changing rs

-- ---- all pages

-- how many records of a round are applied, each to its page as the records before it left it
abbrev pub applied_of_all : List Logged → (ℕ → Page) → ℕ
applied_of_all [] pages = 0
applied_of_all (r ∷ rs) pages = (if applies r r.page (pages r.page) then 1 else 0) + applied_of_all rs (λ q. redo_one r q (pages q))

-- the writer after records in turn; of which pages a full copy is known is a function of the page
abbrev pub redone_all : (ℕ → Bool) → List Logged → Writer → Writer
redone_all known [] s = s
redone_all known (r ∷ rs) s = redone_all known rs (redone_as (known r.page) r s)

-- each of these records is at or after the redo point
abbrev pub AreFrom : ℕ → List Logged → Type 0
AreFrom point [] = Unit {0}
AreFrom point (r ∷ rs) = (point ≤ r.lsn) × AreFrom point rs

-- no page waits for its copy, and each has had all records of this front
abbrev pub HaveHad : Base → History → (ℕ → PageState) → Type 0
HaveHad b front pages = (p : ℕ) → ((pages p).waits ≡ false) × (end_of b front < (pages p).upto)

-- ---- laws

-- A page needs its own records alone, and applies as many of them.
pub record NeedOwnRecords : Type 0 where
  pub page : (rs : List Logged) (p : ℕ) (g : Page) → redo_all (of_page p rs) p g ≡ redo_all rs p g
  pub count : (rs : List Logged) (p : ℕ) (g : Page) → applied_to (of_page p rs) p g ≡ applied_to rs p g
  -- another page's records are none of its
  pub none : (rs : List Logged) (p : ℕ) (g : Page) → of_page p rs ≡ [] → (redo_all rs p g ≡ g) × (applied_to rs p g ≡ 0)

-- The records that change no page may be passed over.
pub record NeedChanges : Type 0 where
  pub page : (rs : List Logged) (p : ℕ) (g : Page) → redo_all (changing rs) p g ≡ redo_all rs p g
  pub count : (rs : List Logged) (p : ℕ) (g : Page) → applied_to (changing rs) p g ≡ applied_to rs p g
  pub all : (rs : List Logged) (pages : ℕ → Page) → applied_of_all (changing rs) pages ≡ applied_of_all rs pages

-- Two rounds, one after the other, are one round of both.
pub record InRounds : Type 0 where
  pub page : (rs more : List Logged) (p : ℕ) (g : Page) → redo_all (rs ++ more) p g ≡ redo_all more p (redo_all rs p g)
  pub count : (rs more : List Logged) (p : ℕ) (g : Page) → applied_to (rs ++ more) p g ≡ applied_to rs p g + applied_to more p (redo_all rs p g)
  pub writer : (known : ℕ → Bool) (rs more : List Logged) (s : Writer) → redone_all known (rs ++ more) s ≡ redone_all known more (redone_all known rs s)

-- What a round leaves of a writer: its log, and each page as redo of its records makes it.
pub record RoundLeaves (known : ℕ → Bool) (rs : List Logged) (s : Writer) : Type 0 where
  pub log : (redone_all known rs s).log ≡ s.log
  pub durable : (redone_all known rs s).durable ≡ s.durable
  pub point : (redone_all known rs s).point ≡ s.point
  pub redo_end : (redone_all known rs s).redo_end ≡ s.redo_end
  pub page : (p : ℕ) → ((redone_all known rs s).pages p).page ≡ redo_all rs p (s.pages p).page
  pub waits : (p : ℕ) → ((redone_all known rs s).pages p).waits ≡ (s.pages p).waits
  pub reads : (p : ℕ) → ((redone_all known rs s).pages p).reads ≡ (s.pages p).reads
  pub synced : (p : ℕ) → ((redone_all known rs s).pages p).synced ≡ (s.pages p).synced
  pub unsynced : (p : ℕ) → ((redone_all known rs s).pages p).unsynced ≡ (s.pages p).unsynced

abbrev pub RoundsLeave : Type 0
RoundsLeave = (known : ℕ → Bool) (rs : List Logged) (s : Writer) → RoundLeaves known rs s

-- The writer keeps what a writer keeps, and redo has gone past this front.
pub record KeptAfter (b : Base) (front : History) (w : Writer) : Type 0 where
  pub kept : WriterKept b w
  pub had : HaveHad b front w.pages

-- A round of records that stand in the durable log, one after another, keeps what a writer keeps, whoever redoes which page: the records in turn do.
abbrev pub RoundsAreKept : Type 0
RoundsAreKept = (b : Base) (s : Writer) (newer front : History) (rs : List Logged) (known : ℕ → Bool) → WriterKept b s → s.redo_end ≡ None → newer ++ onto rs front ≡ s.durable → AreFrom s.point rs
    → HaveHad b front s.pages → ((p : ℕ) → known p ≡ true → HasCopy s.log p (redo_point s.log)) → KeptAfter b (onto rs front) (redone_all known rs s)

-- ---- different pages

-- how often a number stands in a list
abbrev pub times : ℕ → List ℕ → ℕ
times f [] = 0
times f (g ∷ gs) = (if f == g then 1 else 0) + times f gs

-- each of these numbers once
abbrev pub EachOnce : List ℕ → Type 0
EachOnce [] = Unit {0}
EachOnce (p ∷ ps) = (times p ps ≡ 0) × EachOnce ps

-- The entry of a page after a round: as it was where no record was applied, else at the redo point.
abbrev pub EntriesFollow : Type 0
EntriesFollow = (known : ℕ → Bool) (rs : List Logged) (s : Writer) (p : ℕ)
    → ((redone_all known rs s).pages p).entry ≡ (if applied_to rs p ((s.pages p).page) == 0 then (s.pages p).entry else Some (at_point (known p || is_copied ((s.pages p).entry)) s.point))

abbrev pub sum_over : List ℕ → (ℕ → ℕ) → ℕ
sum_over [] f = 0
sum_over (p ∷ ps) f = f p + sum_over ps f

-- each record is of one of these pages
abbrev pub AreOf : List ℕ → List Logged → Type 0
AreOf ps [] = Unit {0}
AreOf ps (r ∷ rs) = (1 ≤ times r.page ps) × AreOf ps rs

-- The counts of a round's different pages add up to the count of the round.
abbrev pub CountsAdd : Type 0
CountsAdd = (ps : List ℕ) (rs : List Logged) (pages : ℕ → Page) → EachOnce ps → AreOf ps rs → sum_over ps (λ p. applied_to rs p (pages p)) ≡ applied_of_all rs pages

-- ---- the pages of a round are all held after the last get, by the order of use

abbrev pub all_but_last : List ℕ → List ℕ
all_but_last [] = []
all_but_last (p ∷ []) = []
all_but_last (p ∷ q ∷ ps) = p ∷ all_but_last (q ∷ ps)

abbrev pub without : ℕ → List ℕ → List ℕ
without p [] = []
without p (q ∷ qs) = if p == q then qs else q ∷ without p qs

-- What the get of a page makes of the numbers of held pages, the most recently used first: a held one comes to the front; for another, where every frame is taken, the last one goes.
pub data GetsPage (frames p : ℕ) (old new : List ℕ) : Type 0 where
  moves : 1 ≤ times p old → new ≡ p ∷ without p old → GetsPage frames p old new
  takes : times p old ≡ 0 → length old < frames → new ≡ p ∷ old → GetsPage frames p old new
  evicts : times p old ≡ 0 → length old ≡ frames → new ≡ p ∷ all_but_last old → GetsPage frames p old new

abbrev pub GetsPages : ℕ → List ℕ → List ℕ → List ℕ → Type 0
GetsPages frames [] old new = new ≡ old
GetsPages frames (p ∷ ps) old new = (mid : List ℕ) × GetsPage frames p old mid × GetsPages frames ps mid new

-- As many different pages as there are frames, at most, are all held after the last get.
abbrev pub AllHeld : Type 0
AllHeld = (frames : ℕ) (ps old new : List ℕ) → EachOnce ps → length ps ≤ frames → length old ≤ frames → GetsPages frames ps old new → (p : ℕ) → 1 ≤ times p ps → 1 ≤ times p new
