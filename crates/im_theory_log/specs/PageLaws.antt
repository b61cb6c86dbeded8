-- What is promised of redo, of what logs cover, and of page writes.
use Rattle.std.specs.Prelude.{◌≡◌, ◌≤◌, ◌<◌, ℕ, List, [], ◌∷◌, ◌++◌, Bool, true, false, Option, None, Some}
use Rattle.im_base_types.specs.Pages.{Page}
use Rattle.im_base_types.specs.Records.{Checkpoint, Image, Logged}
use Rattle.im_base_types.specs.declared.tables.ActiveTransaction.{ActiveTransaction}
use Rattle.im_base_types.specs.declared.tables.DirtyPage.{DirtyPage}
use Rattle.im_theory_log.specs.Histories.{Base, History, IsFront, Rises, end_of, page_at, page_up_to}
use Rattle.im_theory_log.specs.Copies.{Reaches, AreImages, copy_in, onto}
use Rattle.im_theory_log.specs.PageCounts.{names_page}
use Rattle.im_theory_log.specs.RedoPoints.{CoversFrom, Covers, least, is_checkpoint, redo_point}
use Rattle.im_theory_log.specs.Writer.{Writer, IsLeft, LeavesPages, WriterKept, HasFullCopy}
use Rattle.im_theory_log.specs.WriterSteps.{MayWrite, MayAppend, Lists, is_copied, forced, forgotten, written, synced, imaged, appended, changed, loaded, redone, ended, opened}

-- ---- redo

-- Redo of the records from a bound on, the oldest first, makes of a page what the whole log made of it, whatever the page is that it begins with,
-- if that has had all its records below the bound and no others but some of those after.
abbrev pub RedoReachesThePage : (List Logged → ℕ → Page → Page) → Type 0
RedoReachesThePage redo = (b : Base) (older : History) (records : List Logged) (bound p : ℕ) (g : Page) → Rises b (onto records older) → end_of b older < bound
    → Reaches b (onto records older) bound p g → redo records p g ≡ page_at b (onto records older) p

-- A page in the middle of redo is one that an Image may hold.
abbrev pub ReachedPagesMayBeCopied : Type 0
ReachedPagesMayBeCopied = (b : Base) (log : History) (bound p : ℕ) (g : Page) → Rises b log → Reaches b log bound p g → g ≡ page_up_to b log p g.lsn

-- ---- what a log covers

-- A log goes on covering the files that it covers.
pub record CoverIsKept : Type 0 where
  -- an empty log covers the base's pages
  pub base : (b : Base) (file : ℕ → Option Page) → ((p : ℕ) → file p ≡ Some (b.pages p)) → Covers b [] file
  -- by every append but a Checkpoint: a full copy that the record holds has had all its page's records below the redo point
  pub append : (b : Base) (r : Logged) (log : History) (file : ℕ → Option Page) → Rises b (r ∷ log) → is_checkpoint r.what ≡ false
      → ((c : Page) → copy_in r.lsn r.what ≡ Some c → Reaches b (r ∷ log) (redo_point (r ∷ log)) r.page c) → Covers b log file → Covers b (r ∷ log) file
  -- by a Checkpoint: the log covers the file from the least of its LSNs on
  pub checkpoint : (b : Base) (r : Logged) (log : History) (file : ℕ → Option Page) (n : ℕ) (a : List ActiveTransaction) (d : List DirtyPage) → Rises b (r ∷ log)
      → r.what ≡ Checkpoint n a d → CoversFrom b (least r.lsn d) log file → Covers b (r ∷ log) file

-- ---- page writes

-- Every step of a writer of pages keeps what it keeps; what a stop leaves at any moment is covered; and the next opening begins with it.
pub record PageWritesAreCovered : Type 0 where
  pub covers : (b : Base) (s : Writer) → WriterKept b s → (file : ℕ → Option Page) → LeavesPages s file → (left : History) → IsLeft s.durable s.log left → Covers b left file
  pub full_copy : (b : Base) (s : Writer) → WriterKept b s → (p : ℕ) → (s.pages p).unsynced ≡ true → HasFullCopy s p
  pub opens : (b : Base) (log : History) (file : ℕ → Option Page) → Rises b log → Covers b log file → WriterKept b (opened b log file)
  pub forces : (b : Base) (s : Writer) → WriterKept b s → WriterKept b (forced s)
  pub writes : (b : Base) (s : Writer) (p l : ℕ) → WriterKept b s → MayWrite b s p l → WriterKept b (written p l s)
  pub syncs : (b : Base) (s : Writer) → WriterKept b s → WriterKept b (synced s)
  pub appends : (b : Base) (s : Writer) (r : Logged) → WriterKept b s → MayAppend b s r → ((p : ℕ) → page_at b (r ∷ s.log) p ≡ page_at b s.log p) → WriterKept b (appended r s)
  pub changes : (b : Base) (s : Writer) (r : Logged) → WriterKept b s → MayAppend b s r → names_page r.what ≡ true → WriterKept b (changed r s)
  -- the copies that are known are forgotten
  pub forgets : (b : Base) (s : Writer) → WriterKept b s → WriterKept b (forgotten s)
  -- a Checkpoint, taken after a sync, with the entries of the dirty table, none of which counts a copy as known
  pub checkpoints : (b : Base) (s : Writer) (r : Logged) (e n : ℕ) (a : List ActiveTransaction) (d : List DirtyPage) → WriterKept b s → s.redo_end ≡ Some e → end_of b s.log < r.lsn
      → r.what ≡ Checkpoint n a d → Lists s.pages d → ((p : ℕ) → (s.pages p).unsynced ≡ false)
      → ((p : ℕ) → is_copied (s.pages p).entry ≡ false) → WriterKept b (appended r s)
  -- in redo: an Image, a noted copy loaded, a record, the end
  pub images : (b : Base) (s : Writer) (r : Logged) → WriterKept b s → s.redo_end ≡ None → end_of b s.log < r.lsn → (c : Page) → r.what ≡ Image c
      → (s.pages r.page).waits ≡ false → c ≡ (s.pages r.page).page → redo_point (r ∷ s.log) ≡ redo_point s.log → WriterKept b (imaged r s)
  pub loads : (b : Base) (s : Writer) (p l : ℕ) (c : Page) → WriterKept b s → s.redo_end ≡ None → (s.pages p).waits ≡ true → (s.pages p).found ≡ Some (l, c) → WriterKept b (loaded p c s)
  pub redoes : (b : Base) (s : Writer) (r : Logged) (newer f : History) (who : ℕ → Bool) → WriterKept b s → s.redo_end ≡ None → newer ++ r ∷ f ≡ s.durable → s.point ≤ r.lsn
      → ((p : ℕ) → who p ≡ true → ((s.pages p).waits ≡ false) × (end_of b f < (s.pages p).upto)) → WriterKept b (redone r who s)
  pub ends : (b : Base) (s : Writer) (begun images : History) → WriterKept b s → s.redo_end ≡ None → ((p : ℕ) → (s.pages p).waits ≡ false)
      → s.log ≡ images ++ begun → AreImages b images begun → IsFront begun s.durable → ((p : ℕ) → end_of b begun < (s.pages p).upto) → WriterKept b (ended b s)
