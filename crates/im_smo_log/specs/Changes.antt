-- What a structure change asks, how it stands on its way, and what it keeps.
use Rattle.std.specs.Prelude.{◌≡◌, ◌≤◌, ◌<◌, ◌⊎◌, ◌-◌, ℕ, zero, suc, false, List, [], ◌∷◌, ◌++◌, length, drop, Option, Some, None, Result, IfErr}
use Rattle.im_base_types.specs.declared.fault.Fault.{Fault}
use Rattle.im_base_types.specs.declared.fault.Fault.TheVariants.{Failed}
use Rattle.im_base_types.specs.Records.{What, InsertKey, DeleteKey, UndoInsert, UndoDelete, Smo, UndoSmo, DummyClr, Commit, End, Image, Checkpoint, Unreadable, Logged}
use Rattle.im_theory_log.specs.Histories.{Base, History, IsFront}
use Rattle.im_theory_log.specs.Lawful.{IsLawful}
use Rattle.im_theory_log.specs.Structure.{open_smo}
use Rattle.im_theory_log.specs.Transactions.{last_of, undo_next_of, to_undo, is_finished}
use Rattle.im_theory_log.specs.Writer.{Writer}
use Rattle.im_base_disk.specs.declared.disk.Disk.{Ghosts}
use Rattle.im_base_disk.specs.Disk.{Files}
use Rattle.im_base_disk.specs.Runs.{LeavesOnly}
use Rattle.im_page_writer.specs.declared.page_writer.PageWriter.{PageWriter}
use Rattle.im_page_file.specs.Stands.{IsCovered}
use Rattle.im_page_writer.specs.Outcome.{pages_of, IsSound}
use Rattle.im_page_writer.specs.PageWriter.{StandsAs}
use Rattle.im_theory_tree.specs.Levels.{walk}
use Rattle.im_theory_tree.specs.Good.{AllOf, IsGoodTree}
use Rattle.im_theory_tree.specs.Theory.{page_tree}
use Rattle.im_theory_tree.specs.Ways.{KeepsWays}
use Rattle.im_smo_pages.specs.Images.{Numbered, image_at}
use Rattle.im_smo_pages.specs.Changed.{SamePages}
use Rattle.im_smo_pages.specs.OnWay.{IsApart}
use Rattle.im_smo_pages.specs.Seen.{bodies, seen}
use Rattle.im_smo_log.specs.Under.{IsUnderWay}

-- ---- logs

-- the record is an Image, or one of a structure change of transaction t: of a page, or the one that closes it
abbrev pub IsOfChange : ℕ → Logged → What → Type 0
IsOfChange t r (Smo was now) = r.txn ≡ t
IsOfChange t r DummyClr = r.txn ≡ t
IsOfChange t r (Image c) = r.txn ≡ 0
IsOfChange t r (InsertKey k i) = ⊥
IsOfChange t r (DeleteKey k i) = ⊥
IsOfChange t r (UndoInsert k i) = ⊥
IsOfChange t r (UndoDelete k i) = ⊥
IsOfChange t r (UndoSmo now) = ⊥
IsOfChange t r Commit = ⊥
IsOfChange t r End = ⊥
IsOfChange t r (Checkpoint n a dirty) = ⊥
IsOfChange t r Unreadable = ⊥

-- The longer log is the older one with such records.
pub record GrowsByChange (t : ℕ) (older longer : History) : Type 0 where
  pub more : History
  pub is : longer ≡ more ++ older
  pub all : AllOf (λ (r : Logged). IsOfChange t r r.what) more

-- one of these records is of transaction t
abbrev pub HasRecordOf : ℕ → History → Type 0
HasRecordOf t [] = ⊥
HasRecordOf t (r ∷ older) = (r.txn ≡ t) ⊎ HasRecordOf t older

-- Of transaction u the last record, the next one to undo, what is left to undo, and whether it is finished are as they were.
pub record IsSameOf (u : ℕ) (older longer : History) : Type 0 where
  pub last : last_of u longer ≡ last_of u older
  pub undo : undo_next_of u longer ≡ undo_next_of u older
  pub stack : to_undo u longer ≡ to_undo u older
  pub finished : is_finished u longer ≡ is_finished u older

-- the records of a structure change, the newest first, Images left out: of each page its number, and None for the one that closes it
abbrev pub with_mark : Logged → What → List (Option ℕ) → List (Option ℕ)
with_mark r (Smo was now) ms = Some r.page ∷ ms
with_mark r DummyClr ms = None ∷ ms
with_mark r _ ms = ms

abbrev pub marks : History → List (Option ℕ)
marks [] = []
marks (r ∷ older) = with_mark r r.what (marks older)

-- those of the first i images, in rising page number
abbrev pub image_marks : ℕ → List Numbered → List (Option ℕ)
image_marks zero images = []
image_marks (suc i) images = Some (image_at images i).0 ∷ image_marks i images

-- page 0 is the first of the images, and none is past the page count that it says there
abbrev pub AreCounted : List Numbered → Type 0
AreCounted images = (1 ≤ length images) × ((image_at images 0).0 ≡ 0) × ((image_at images (length images - 1)).0 < (image_at images 0).1.body.leftmost)

-- ---- a writer

module _ {D : Type 0} (d : Ghosts D) (b : Base) (base : ℕ) where
  -- A stop left a front of a lawful log, which is the older one with records of the structure change, and pages that it covers.
  pub record LeftByChange (s : Writer) (t : ℕ) (c : Files) : Type 0 where
    pub high : History
    pub lawful : IsLawful b page_tree high
    pub grows : GrowsByChange t s.log high
    pub covered : IsCovered b base s.durable high c

  -- and so does each stop since old
  abbrev pub LeavesChange : Writer → ℕ → D → D → Type 0
  LeavesChange s t old new = LeavesOnly d old new (LeftByChange s t)

  -- Redo is over and the log lawful, no structure change is open, the transaction is going on, with this last record and this next one to undo; the images are some pages in rising number, and leave a good tree with the same walk, in which each leaf that is none of them keeps its keys.
  pub record MayChange (s : Writer) (e : ℕ) (images : List Numbered) (t last undo_next : ℕ) (w : PageWriter) (disk : D) : Type 0 where
    pub stands : StandsAs d b base s w disk
    pub over : s.redo_end ≡ Some e
    pub lawful : IsLawful b page_tree s.log
    pub closed : open_smo s.log ≡ []
    pub newest : last_of t s.log ≡ last
    pub undo : undo_next_of t s.log ≡ undo_next
    pub unfinished : is_finished t s.log ≡ false
    pub some : 1 ≤ length images
    pub good : IsGoodTree (seen (pages_of s) images) []
    pub same : walk (seen (pages_of s) images) ≡ walk (bodies (pages_of s))
    pub ways : KeepsWays (bodies (pages_of s)) (seen (pages_of s) images) (IsApart images)

  -- The first i images are logged, with Images alone between them, and are the writer's pages.
  pub record PagesLogged (s : Writer) (e : ℕ) (images : List Numbered) (t undo_next i prev : ℕ) (old : D) (w : PageWriter) (disk : D) : Type 0 where
    pub now : Writer
    pub stands : StandsAs d b base now w disk
    pub over : now.redo_end ≡ Some e
    pub point : now.point ≡ s.point
    pub durable : IsFront s.durable now.durable
    pub under : IsUnderWay b t undo_next images i prev now.log
    pub grows : GrowsByChange t s.log now.log
    pub order : marks grows.more ≡ image_marks i images
    pub pages : SamePages (seen (pages_of now) (drop i images)) (seen (pages_of s) images)
    pub stops : LeavesChange s t old disk

  -- A record of the structure change joined the log.
  pub record Begun (s : Writer) (t : ℕ) (w : PageWriter) (disk : D) : Type 0 where
    pub now : Writer
    pub stands : StandsAs d b base now w disk
    pub grows : GrowsByChange t s.log now.log
    pub some : HasRecordOf t grows.more

  -- What logging all of them keeps. Where it is refused `Failed`, a record of the change is logged.
  pub record PagesKept (s : Writer) (e : ℕ) (images : List Numbered) (t undo_next : ℕ) (old : D) (w : PageWriter) (disk : D) (result : Result ℕ Fault) : Type 0 where
    pub sound : IsSound result (λ prev. PagesLogged s e images t undo_next (length images) prev old w disk)
    pub stops : LeavesChange s t old disk
    pub begun : IfErr result (λ e. e ≡ Failed → Begun s t w disk)

  -- The structure change is logged, one record for each image in rising page number, and closed: the pages are those of the images, the log is lawful, and undo goes on where it stood, from the record at this LSN.
  pub record Changed (s : Writer) (e : ℕ) (images : List Numbered) (t undo_next lsn : ℕ) (old : D) (w : PageWriter) (disk : D) : Type 0 where
    pub now : Writer
    pub stands : StandsAs d b base now w disk
    pub over : now.redo_end ≡ Some e
    pub point : now.point ≡ s.point
    pub durable : IsFront s.durable now.durable
    pub pages : SamePages (bodies (pages_of now)) (seen (pages_of s) images)
    pub lawful : IsLawful b page_tree now.log
    pub grows : GrowsByChange t s.log now.log
    pub order : marks grows.more ≡ None ∷ image_marks (length images) images
    pub last : last_of t now.log ≡ lsn
    pub undo : undo_next_of t now.log ≡ undo_next
    pub unfinished : is_finished t now.log ≡ false
    pub closed : open_smo now.log ≡ []

  -- What a structure change keeps. Where it is refused `Failed`, a record of it is logged.
  pub record ChangeKept (s : Writer) (e : ℕ) (images : List Numbered) (t undo_next : ℕ) (old : D) (w : PageWriter) (disk : D) (result : Result ℕ Fault) : Type 0 where
    pub sound : IsSound result (λ lsn. Changed s e images t undo_next lsn old w disk)
    pub stops : LeavesChange s t old disk
    pub begun : IfErr result (λ e. e ≡ Failed → Begun s t w disk)
