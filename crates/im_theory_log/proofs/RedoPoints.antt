-- The redo point, and what a log covers once a record has joined.
use Rattle.std.proofs.Common.{◌≡◌, ℕ, ◌<◌, ◌≤◌, List, [], ◌∷◌, false, refl, sym, ◌∙◌, ap, subst, arith, Option, None, Some}
use Rattle.std.specs.Prelude.{min}
use Rattle.im_base_types.specs.declared.tables.ActiveTransaction.{ActiveTransaction}
use Rattle.im_base_types.specs.declared.tables.DirtyPage.{DirtyPage}
use Rattle.im_theory_log.specs.Copies.{Reaches, copy_in, noted}
use Rattle.im_theory_log.specs.Histories.{Base, History, Rises, end_of}
use Rattle.im_base_types.specs.Pages.{Page}
use Rattle.im_base_types.specs.Records.{Checkpoint, Commit, DeleteKey, DummyClr, End, Image, InsertKey, Logged, Smo, UndoDelete, UndoInsert, UndoSmo, Unreadable, What}
use Rattle.im_theory_log.specs.RedoPoints.{Covers, CoversFrom, IsRead, checkpoint_point, lsn_of_first, is_checkpoint, least, or_first, point_after, redo_point}
use Rattle.im_theory_log.proofs.Copies.{Joins, copied_more, copies, joins, leaves}
use Rattle.im_theory_log.proofs.Redo.{reaches_before, reaches_more}

-- ---- the least of a Checkpoint's LSNs

pub least_start : (l : ℕ) (d : List DirtyPage) → least l d ≤ l
least_start l [] = omega arith
least_start l (x ∷ d) = let rest : least (min l x.rec_lsn) d ≤ min l x.rec_lsn = least_start (min l x.rec_lsn) d in omega (arith, rest)

-- ---- where the redo point stands

point_stays : (l : ℕ) (w : What) (older : Option ℕ) → is_checkpoint w ≡ false → point_after l w older ≡ older
point_stays l (Checkpoint n a d) older e = cc e
point_stays l (InsertKey k i) older e = refl
point_stays l (DeleteKey k i) older e = refl
point_stays l (UndoInsert k i) older e = refl
point_stays l (UndoDelete k i) older e = refl
point_stays l (Smo o n) older e = refl
point_stays l (UndoSmo n) older e = refl
point_stays l DummyClr older e = refl
point_stays l Commit older e = refl
point_stays l End older e = refl
point_stays l (Image c) older e = refl
point_stays l Unreadable older e = refl

-- a record that is no Checkpoint leaves the redo point of a log that is not empty
pub point_same : (r s : Logged) (older : History) → is_checkpoint r.what ≡ false → redo_point (r ∷ s ∷ older) ≡ redo_point (s ∷ older)
point_same r s older e = ap (λ (o : Option ℕ). or_first o (r ∷ s ∷ older)) (point_stays r.lsn r.what (checkpoint_point (s ∷ older)) e) ∙ same (checkpoint_point (s ∷ older))
  where
    same : (o : Option ℕ) → or_first o (r ∷ s ∷ older) ≡ or_first o (s ∷ older)
    same (Some l) = refl
    same None = refl

-- a first record that is no Checkpoint makes its own LSN the redo point
pub point_first : (r : Logged) → is_checkpoint r.what ≡ false → redo_point (r ∷ []) ≡ r.lsn
point_first r e = ap (λ (o : Option ℕ). or_first o (r ∷ [])) (point_stays r.lsn r.what None e)

-- a Checkpoint's is the least of its LSNs
pub point_checkpoint : (r : Logged) (log : History) (n : ℕ) (a : List ActiveTransaction) (d : List DirtyPage) → r.what ≡ Checkpoint n a d → redo_point (r ∷ log) ≡ least r.lsn d
point_checkpoint r log n a d is = ap (λ (w : What). or_first (point_after r.lsn w (checkpoint_point log)) (r ∷ log)) is

point_within : (b : Base) (log : History) (l : ℕ) → Rises b log → checkpoint_point log ≡ Some l → l ≤ end_of b log
point_within b [] l up is = absurd (cc is)
point_within b (r ∷ older) l up is = by (λ e. point_within b older l up.0 e) r.what is
  where
    before : (checkpoint_point older ≡ Some l → l ≤ end_of b older) → checkpoint_point older ≡ Some l → l ≤ r.lsn
    before rec e = let low : l ≤ end_of b older = rec e in let last : end_of b older < r.lsn = up.1 in omega (arith, low, last)

    by : (checkpoint_point older ≡ Some l → l ≤ end_of b older) → (w : What) → point_after r.lsn w (checkpoint_point older) ≡ Some l → l ≤ r.lsn
    by rec (Checkpoint n a d) is = let e : least r.lsn d ≡ l = cc is in let low : least r.lsn d ≤ r.lsn = least_start r.lsn d in omega (arith, e, low)
    by rec (Image d) is = before rec is
    by rec (Smo old new) is = before rec is
    by rec (UndoSmo new) is = before rec is
    by rec (InsertKey k i) is = before rec is
    by rec (DeleteKey k i) is = before rec is
    by rec (UndoInsert k i) is = before rec is
    by rec (UndoDelete k i) is = before rec is
    by rec DummyClr is = before rec is
    by rec Commit is = before rec is
    by rec End is = before rec is
    by rec Unreadable is = before rec is

first_within : (b : Base) (log : History) → Rises b log → lsn_of_first log ≤ end_of b log
first_within b [] up = omega arith
first_within b (r ∷ []) up = omega arith
first_within b (r ∷ t ∷ older) up = let rest : lsn_of_first (t ∷ older) ≤ t.lsn = first_within b (t ∷ older) up.0 in let last : t.lsn < r.lsn = up.1 in omega (arith, rest, last)

-- the redo point is no later than the log's end
pub point_low : (b : Base) (log : History) → Rises b log → redo_point log ≤ end_of b log
point_low b log up = by (checkpoint_point log) refl
  where
    by : (o : Option ℕ) → checkpoint_point log ≡ o → redo_point log ≤ end_of b log
    by (Some l) is = let e : redo_point log ≡ l = ap (λ (o : Option ℕ). or_first o log) is in let low : l ≤ end_of b log = point_within b log l up is in omega (arith, e, low)
    by None is = let e : redo_point log ≡ lsn_of_first log = ap (λ (o : Option ℕ). or_first o log) is in let low : lsn_of_first log ≤ end_of b log = first_within b log up in omega (arith, e, low)

-- ---- what is covered, from a bound on, once a record has joined

-- no record: the base's pages
pub covers_base : (b : Base) (file : ℕ → Option Page) → ((p : ℕ) → file p ≡ Some (b.pages p)) → Covers b [] file
covers_base b file is = record {
  copied = λ p l c noted. absurd (cc noted);
  read = λ p none. record { page = b.pages p; here = is p; reaches = record { upto = 0; from = omega arith; is = refl } };
}

module _ (b : Base) (point : ℕ) (r : Logged) (log : History) (file : ℕ → Option Page) (rises : Rises b log) (up : end_of b log < r.lsn) (low : point ≤ r.lsn) (covers : CoversFrom b point log file) where
  still_read : (p : ℕ) → noted point log p ≡ None → IsRead b point (r ∷ log) p (file p)
  still_read p none = let found = covers.read p none in record { page = found.page; here = found.here; reaches = reaches_more b r log point p found.page up low found.reaches }

  -- any record whose copy, if it holds one, has had all below the bound
  pub covers_record : ((c : Page) → copy_in r.lsn r.what ≡ Some c → Reaches b (r ∷ log) point r.page c) → CoversFrom b point (r ∷ log) file
  covers_record copy = record {
    copied = copied_more b point r log rises up covers.copied (λ c le holds. copy c holds);
    read = λ p none. by p none (joins point r log p);
  }
    where
      by : (p : ℕ) → noted point (r ∷ log) p ≡ None → Joins point r log p → IsRead b point (r ∷ log) p (file p)
      by p none (leaves same) = still_read p (sym same ∙ none)
      by p none (copies d over here some is) = absurd (let e : Some (r.lsn, d) ≡ None = sym is ∙ none in cc e)

-- ---- every append keeps the cover

-- a first record makes its own LSN the point: whatever was covered has had all below it
covers_raised : (b : Base) (r : Logged) (file : ℕ → Option Page) → Rises b (r ∷ []) → Covers b [] file → ((c : Page) → copy_in r.lsn r.what ≡ Some c → Reaches b (r ∷ []) r.lsn r.page c) → CoversFrom b r.lsn (r ∷ []) file
covers_raised b r file up covers copy = record {
  copied = copied_more b r.lsn r [] up.0 up.1 (λ p l c is. absurd (cc is)) (λ c le holds. copy c holds);
  read = λ p none. base p (covers.read p refl);
}
  where
    base : (p : ℕ) → IsRead b 0 [] p (file p) → IsRead b r.lsn (r ∷ []) p (file p)
    base p found = record { page = found.page; here = found.here; reaches = reaches_before b r [] p found.page up.1 found.reaches.is }

-- A record that is no Checkpoint joins: redo can still start at the log's redo point.
pub covers_append : (b : Base) (r : Logged) (log : History) (file : ℕ → Option Page) → Rises b (r ∷ log) → is_checkpoint r.what ≡ false
    → ((c : Page) → copy_in r.lsn r.what ≡ Some c → Reaches b (r ∷ log) (redo_point (r ∷ log)) r.page c) → Covers b log file → Covers b (r ∷ log) file
covers_append b r [] file up plain copy covers =
    subst (λ (m : ℕ). CoversFrom b m (r ∷ []) file) (sym (point_first r plain))
    (covers_raised b r file up covers (λ c holds. subst (λ (m : ℕ). Reaches b (r ∷ []) m r.page c) (point_first r plain) (copy c holds)))
covers_append b r (s ∷ older) file up plain copy covers =
    let same = point_same r s older plain in
    let low : redo_point (s ∷ older) ≤ end_of b (s ∷ older) = point_low b (s ∷ older) up.0 in
    let last : end_of b (s ∷ older) < r.lsn = up.1 in
    subst (λ (m : ℕ). CoversFrom b m (r ∷ s ∷ older) file) (sym same)
    (covers_record b (redo_point (s ∷ older)) r (s ∷ older) file up.0 last (omega (arith, low, last)) covers (λ c holds. subst (λ (m : ℕ). Reaches b (r ∷ s ∷ older) m r.page c) same (copy c holds)))

-- A Checkpoint joins: redo can start at its point, where each page without a copy from there on is read from a file that has had all below it,
-- and each copy from there on has too.
pub covers_checkpoint : (b : Base) (r : Logged) (log : History) (file : ℕ → Option Page) (n : ℕ) (a : List ActiveTransaction) (d : List DirtyPage) → Rises b (r ∷ log)
    → r.what ≡ Checkpoint n a d → CoversFrom b (least r.lsn d) log file → Covers b (r ∷ log) file
covers_checkpoint b r log file n a d up is covers =
    let low : least r.lsn d ≤ r.lsn = least_start r.lsn d in
    subst (λ (m : ℕ). CoversFrom b m (r ∷ log) file) (sym (point_checkpoint r log n a d is))
    (covers_record b (least r.lsn d) r log file up.0 up.1 low covers (λ c holds. absurd (let clash : None ≡ Some c = sym (ap (λ (w : What). copy_in r.lsn w) is) ∙ holds in cc clash)))
