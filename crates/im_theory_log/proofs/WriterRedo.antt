-- Restart's steps: the opening, copies, records, Images of evictions, and the end of redo.
use Rattle.std.proofs.Common.{◌≡◌, inl, inr, ◌⊎◌, ℕ, ◌+◌, ◌<◌, ◌≤◌, [], ◌∷◌, ◌++◌, Bool, true, false, refl, sym, ◌∙◌, ap, subst, arith, append_assoc, Option, None, Some}
use Rattle.std.specs.Prelude.{if◌then◌else◌, ◌==◌, nat_le}
use Rattle.std.proofs.lemmas.Bool.{cases_Bool, cases_eq, cond-true, cond-false, eq-eqb, ne_eqb}
use Rattle.im_theory_log.specs.Copies.{HasCopy, Reaches, copy_in, noted, redo_one}
use Rattle.im_theory_log.specs.Histories.{Base, History, Rises, changes_page, end_of, page_after, page_at}
use Rattle.im_base_types.specs.Pages.{Page}
use Rattle.im_theory_log.specs.PageCounts.{named_to, names_page}
use Rattle.im_base_types.specs.Records.{Checkpoint, Commit, DeleteKey, DummyClr, End, Image, InsertKey, Logged, Smo, UndoDelete, UndoInsert, UndoSmo, Unreadable, What}
use Rattle.im_theory_log.specs.RedoPoints.{redo_point}
use Rattle.im_theory_log.specs.Writer.{DirtyEntry, EntryKept, IsAfterRedo, IsLeft, IsSince, IsWritten, PageKept, PageState, PointKept, ReachesInEach, Writer, WriterKept}
use Rattle.im_theory_log.specs.WriterSteps.{applies, at_point, ended, imaged, is_copied, loaded, loaded_page, passed, redone, redone_page}
use Rattle.im_theory_log.proofs.Appends.{plain}
use Rattle.im_theory_log.proofs.Copies.{copied_more, copy_from, copy_grows, noted_none, noted_within}
use Rattle.im_theory_log.proofs.Histories.{end_le, front_more, front_of_front, front_self, no_change, rises_in, start_low}
use Rattle.im_theory_log.proofs.PageCounts.{named_here, named_in, named_then, noted_named}
use Rattle.im_theory_log.proofs.Redo.{at_end, reaches_less, reaches_more, reaches_one}
use Rattle.im_theory_log.proofs.WriterFronts.{left_split, whole}
use Rattle.im_theory_log.proofs.WriterWrites.{only_kept}

not_later : (o : Option ℕ) (t : ℕ) → o ≡ None → IsAfterRedo o t → ⊥
not_later o t is later = subst (λ (x : Option ℕ). IsAfterRedo x t) is later

-- while redo is going on, each log that a stop can leave has the life's redo point
pub point_in_redo : (b : Base) (s : Writer) → WriterKept b s → s.redo_end ≡ None → (h : History) → IsLeft s.durable s.log h → redo_point h ≡ s.point
point_in_redo b s k going h w = elim (k.points h w).own [
  | inl same ↦ same
  | inr later ↦ absurd (not_later s.redo_end (redo_point h) going later)
]

-- ---- an Image

module _ (b : Base) (s : Writer) (r : Logged) (k : WriterKept b s) (going : s.redo_end ≡ None) (last : end_of b s.log < r.lsn) (c : Page) (is : r.what ≡ Image c)
    (ready : (s.pages r.page).waits ≡ false) (exact : c ≡ (s.pages r.page).page) (same : redo_point (r ∷ s.log) ≡ redo_point s.log) where
  split : (P : History → Type 0) → P (r ∷ s.log) → ((h : History) → IsLeft s.durable s.log h → P h) → (h : History) → IsLeft s.durable (r ∷ s.log) h → P h
  split P new old h w = left_split s.durable s.log r P k.front new old h w

  upto_low : (p : ℕ) → (s.pages p).upto ≤ r.lsn
  upto_low p = let high : (s.pages p).upto ≤ end_of b s.log + 1 = (k.pages p).high in omega (arith, high, last)

  all : IsLeft s.durable s.log s.log
  all = whole s.durable s.log k.front

  up_to : (p m : ℕ) (o : Option Page) → m ≤ r.lsn → ReachesInEach b s.durable s.log p m o → ReachesInEach b s.durable (r ∷ s.log) p m o
  up_to p m o low e = record { page = e.page; is = e.is; all = split (λ (h : History). Reaches b h m p e.page) (reaches_more b r s.log m p e.page last low (e.all s.log all)) e.all }

  entry_more : (p : ℕ) (e : DirtyEntry) → EntryKept b s.log s.durable s.point s.redo_end p (s.pages p) e → EntryKept b (r ∷ s.log) s.durable s.point s.redo_end p (s.pages p) e
  entry_more p e old =
      let high : e.rec_lsn ≤ end_of b s.log = old.high in
      let up : e.rec_lsn ≤ r.lsn = omega (arith, last, high) in
      record {
        low = split (λ (h : History). redo_point h ≤ e.rec_lsn) (subst (λ (m : ℕ). m ≤ e.rec_lsn) (sym same) (old.low s.log all)) old.low;
        high = up;
        own = λ t some. let own = old.own t some in let t_high : t ≤ end_of b s.log = own.high in record { from = own.from; high = omega (arith, t_high, last); own = own.own };
        untouched = λ untouched. let d = old.untouched untouched in record { since = d.since; has = elim d.has [ inl copy ↦ inl copy | inr here ↦ inr (up_to p e.rec_lsn (s.pages p).synced up here) ] };
        copy = λ unsynced. split (λ (h : History). HasCopy s.durable p (redo_point h)) (subst (λ (m : ℕ). HasCopy s.durable p m) (sym same) (old.copy unsynced s.log all)) (old.copy unsynced);
        copied = λ known. copy_grows s.log (r ∷ s.log) p (redo_point (r ∷ s.log)) (record { newer = r ∷ []; is = refl }) (subst (λ (m : ℕ). HasCopy s.log p m) (sym same) (old.copied known));
        written = old.written;
        older = λ unsynced t some. let t_high : t ≤ end_of b s.log = (old.own t some).high in up_to p t (s.pages p).reads (omega (arith, t_high, last)) (old.older unsynced t some);
        named = named_then p r s.log old.named;
      }

  page_more : (p : ℕ) → PageKept b (r ∷ s.log) s.durable s.point s.redo_end p (s.pages p)
  page_more p =
      let old = k.pages p in
      let high : (s.pages p).upto ≤ end_of b s.log + 1 = old.high in
      record {
        low = old.low;
        high = omega (arith, high, last);
        run = λ q some. absurd (let clash : None ≡ Some q = sym going ∙ some in cc clash);
        now = λ ready. reaches_more b r s.log (s.pages p).upto p (s.pages p).page last (upto_low p) (old.now ready);
        written = λ ready done. split (λ (h : History). Reaches b h (s.pages p).upto p (s.pages p).page) (reaches_more b r s.log (s.pages p).upto p (s.pages p).page last (upto_low p) (old.now ready)) (old.written ready done);
        clean = old.clean;
        entry = λ e some. entry_more p e (old.entry e some);
        still = old.still;
        waiting = λ waits. let w = old.waiting waits in record { none = w.none; synced = w.synced; lsn = w.lsn; copy = w.copy; found = w.found };
        found = λ waits. split (λ (h : History). noted s.point h p ≡ (s.pages p).found)
            (noted_none s.point r s.log p (λ here. absurd (let clash : true ≡ false = sym waits ∙ subst (λ (x : ℕ). (s.pages x).waits ≡ false) here ready in cc clash)) ∙ old.found waits s.log all) (old.found waits);
      }

  -- An Image while redo is going on, of a page that does not wait, as the pool has it
  pub imaged_kept : WriterKept b (imaged r s)
  imaged_kept = record {
    rises = (k.rises, last);
    front = front_more s.durable s.log r k.front;
    points = split (λ (h : History). PointKept b s.point s.redo_end h) (let old = k.points s.log all in let high : redo_point s.log ≤ end_of b s.log = old.high in record {
      high = omega (arith, same, high, last);
      own = subst (λ (m : ℕ). (m ≡ s.point) ⊎ IsAfterRedo s.redo_end m) (sym same) old.own;
    }) k.points;
    copied = split (λ (h : History). (p l : ℕ) (c : Page) → noted (redo_point h) h p ≡ Some (l, c) → Reaches b h (redo_point h) p c)
        (subst (λ (m : ℕ). (p l : ℕ) (c : Page) → noted m (r ∷ s.log) p ≡ Some (l, c) → Reaches b (r ∷ s.log) m p c) (sym same)
        (copied_more b (redo_point s.log) r s.log k.rises last (k.copied s.log all) (λ d low holds. copy d holds))) k.copied;
    exact = λ q some. absurd (let clash : None ≡ Some q = sym going ∙ some in cc clash);
    first = λ empty. absurd (cc empty);
    over = λ q some. absurd (let clash : None ≡ Some q = sym going ∙ some in cc clash);
    pages = page_more;
  }
    where
      copy : (d : Page) → copy_in r.lsn r.what ≡ Some d → Reaches b (r ∷ s.log) (redo_point s.log) r.page d
      copy d holds =
          let e : Some c ≡ Some d = sym (ap (λ (w : What). copy_in r.lsn w) is) ∙ holds in
          let d_is : (s.pages r.page).page ≡ d = sym exact ∙ cc e in
          let point : redo_point s.log ≡ s.point = point_in_redo b s k going s.log all in
          let low : s.point ≤ (s.pages r.page).upto = (k.pages r.page).low ready in
          subst (λ (g : Page). Reaches b (r ∷ s.log) (redo_point s.log) r.page g) d_is
          (reaches_less b (r ∷ s.log) (s.pages r.page).upto (redo_point s.log) r.page (s.pages r.page).page (omega (arith, point, low))
          (reaches_more b r s.log (s.pages r.page).upto r.page (s.pages r.page).page last (upto_low r.page) ((k.pages r.page).now ready)))

-- ---- a page enters with the redo point

entry_at_point : (b : Base) (s : Writer) (p : ℕ) (x : PageState) (one : Bool) → WriterKept b s → s.redo_end ≡ None → p < named_to s.log → (one ≡ true → HasCopy s.log p (redo_point s.log))
    → (x.unsynced ≡ false → HasCopy s.durable p s.point ⊎ ReachesInEach b s.durable s.log p s.point x.synced)
    → (x.unsynced ≡ true → HasCopy s.durable p s.point)
    → (x.unsynced ≡ true → ReachesInEach b s.durable s.log p s.point x.reads)
    → EntryKept b s.log s.durable s.point s.redo_end p x (at_point one s.point)
entry_at_point b s p x one k going named has untouched copy older =
    let high : s.point ≤ end_of b s.log = (let w = whole s.durable s.log k.front in let e : redo_point s.log ≡ s.point = point_in_redo b s k going s.log w in let h : redo_point s.log ≤ end_of b s.log = (k.points s.log w).high in omega (arith, e, h)) in
    record {
      low = λ h w. let e : redo_point h ≡ s.point = point_in_redo b s k going h w in omega (arith, e);
      high = high;
      own = λ t some. let e : s.point ≡ t = cc some in subst (λ (y : ℕ). IsSince b s.log s.point s.redo_end s.point y) e (record { from = omega arith; high = high; own = inl refl });
      untouched = λ d. record { since = refl; has = untouched d };
      copy = λ unsynced h w. subst (λ (m : ℕ). HasCopy s.durable p m) (sym (point_in_redo b s k going h w)) (copy unsynced);
      copied = has;
      written = λ unsynced none. absurd (cc none);
      older = λ unsynced t some. let e : s.point ≡ t = cc some in subst (λ (y : ℕ). ReachesInEach b s.durable s.log p y x.reads) e (older unsynced);
      named = named;
    }

-- ---- a copy is loaded

module _ (b : Base) (s : Writer) (p l : ℕ) (c : Page) (k : WriterKept b s) (going : s.redo_end ≡ None) (waits : (s.pages p).waits ≡ true) (found : (s.pages p).found ≡ Some (l, c)) where
  page_loaded : PageKept b s.log s.durable s.point s.redo_end p (loaded_page s.point c (s.pages p))
  page_loaded =
      let old = k.pages p in
      let wait = old.waiting waits in
      let w = whole s.durable s.log k.front in
      let has : HasCopy s.durable p s.point = record { lsn = l; copy = c; is = old.found waits s.durable (record { from = front_self s.durable; upto = k.front }) ∙ found } in
      let named : p < named_to s.log = noted_named s.point s.log p l c (old.found waits s.log w ∙ found) in
      let in_log : HasCopy s.log p (redo_point s.log) = subst (λ (m : ℕ). HasCopy s.log p m) (sym (point_in_redo b s k going s.log w)) (copy_grows s.durable s.log p s.point k.front has) in
      let high : s.point ≤ end_of b s.log = (let e : redo_point s.log ≡ s.point = point_in_redo b s k going s.log w in let h : redo_point s.log ≤ end_of b s.log = (k.points s.log w).high in omega (arith, e, h)) in
      record {
        low = λ ready. omega arith;
        high = omega (arith, high);
        run = λ q some. absurd (let clash : None ≡ Some q = sym going ∙ some in cc clash);
        now = λ ready. (let e : redo_point s.log ≡ s.point = point_in_redo b s k going s.log w in
            subst (λ (m : ℕ). Reaches b s.log m p c) e (k.copied s.log w p l c (ap (λ (m : ℕ). noted m s.log p) e ∙ old.found waits s.log w ∙ found)));
        written = λ ready done. absurd (cc done);
        clean = λ ready none. absurd (cc none);
        entry = λ e is. (let same : at_point true s.point ≡ e = cc is in subst (λ (y : DirtyEntry). EntryKept b s.log s.durable s.point s.redo_end p (loaded_page s.point c (s.pages p)) y) same
            (entry_at_point b s p (loaded_page s.point c (s.pages p)) true k going named (λ known. in_log) (λ untouched. inl has) (λ unsynced. has) (λ unsynced. absurd (let clash : true ≡ false = sym unsynced ∙ wait.synced in cc clash))));
        still = old.still;
        waiting = λ still. absurd (cc still);
        found = λ still. absurd (cc still);
      }

  -- A noted copy is loaded, in place of the file's page
  pub loaded_kept : WriterKept b (loaded p c s)
  loaded_kept = record {
    rises = k.rises;
    front = k.front;
    points = k.points;
    copied = k.copied;
    exact = k.exact;
    over = k.over;
    first = λ empty. absurd (
        let clash : None ≡ Some (l, c) = sym (ap (λ (h : History). noted s.point h p) empty) ∙ (k.pages p).found waits s.log (whole s.durable s.log k.front) ∙ found in cc clash);
    pages = only_kept (PageKept b s.log s.durable s.point s.redo_end) p (loaded_page s.point c) s.pages k.pages page_loaded;
  }

-- ---- a record of redo

-- a record that changes a page names it
changed_names : (w : What) → changes_page w ≡ true → names_page w ≡ true
changed_names (InsertKey k i) is = refl
changed_names (DeleteKey k i) is = refl
changed_names (UndoInsert k i) is = refl
changed_names (UndoDelete k i) is = refl
changed_names (Smo old new) is = refl
changed_names (UndoSmo new) is = refl
changed_names (Image c) is = refl
changed_names DummyClr is = absurd (cc is)
changed_names Commit is = absurd (cc is)
changed_names End is = absurd (cc is)
changed_names (Checkpoint n a d) is = absurd (cc is)
changed_names Unreadable is = absurd (cc is)

applied_kind : (u v : Bool) → (if u then false else v) ≡ true → v ≡ true
applied_kind true v is = absurd (cc is)
applied_kind false v is = is

same_page : (t u v : Bool) (g new : Page) → (v ≡ false → new ≡ g) → (if t then (if u then false else v) else false) ≡ false → (if t then (if u then g else new) else g) ≡ g
same_page true true v g new plain none = refl
same_page true false v g new plain none = plain none
same_page false u v g new plain none = refl

module _ (b : Base) (s : Writer) (r : Logged) (newer f : History) (k : WriterKept b s) (going : s.redo_end ≡ None) (at : newer ++ r ∷ f ≡ s.durable) (p : ℕ)
    (ready : (s.pages p).waits ≡ false) (had : end_of b f < (s.pages p).upto) (after_point : s.point ≤ r.lsn) where
  -- one record more, in each log that a stop can leave
  one : (h : History) → IsLeft s.durable s.log h → Reaches b h (s.pages p).upto p (s.pages p).page → Reaches b h (r.lsn + 1) p (redo_one r p (s.pages p).page)
  one h w old =
      let whole_h : (w.from.newer ++ newer) ++ r ∷ f ≡ h = append_assoc w.from.newer newer (r ∷ f) ∙ ap (λ (l : History). w.from.newer ++ l) at ∙ w.from.is in
      let rises : Rises b h = rises_in b h s.log w.upto k.rises in
      subst (λ (l : History). Reaches b l (r.lsn + 1) p (redo_one r p (s.pages p).page)) whole_h
      (reaches_one b (w.from.newer ++ newer) r f (s.pages p).upto p (s.pages p).page (subst (λ (l : History). Rises b l) (sym whole_h) rises) had
      (subst (λ (l : History). Reaches b l (s.pages p).upto p (s.pages p).page) (sym whole_h) old))

  -- where redo does not apply it, the page stays
  stays : applies r p (s.pages p).page ≡ false → redo_one r p (s.pages p).page ≡ (s.pages p).page
  stays none = same_page (r.page == p) (nat_le r.lsn (s.pages p).page.lsn) (changes_page r.what) (s.pages p).page (page_after r.lsn r.what (s.pages p).page) (λ plain. no_change r.lsn r.what (s.pages p).page plain) none

  -- what was below a bound after the point is below the point
  point_le : (e : DirtyEntry) → (s.pages p).entry ≡ Some e → s.point ≤ e.rec_lsn
  point_le e is = let w = whole s.durable s.log k.front in let same : redo_point s.log ≡ s.point = point_in_redo b s k going s.log w in let low : redo_point s.log ≤ e.rec_lsn = ((k.pages p).entry e is).low s.log w in omega (arith, same, low)

  up_to_less : (m : ℕ) (o : Option Page) → s.point ≤ m → ReachesInEach b s.durable s.log p m o → ReachesInEach b s.durable s.log p s.point o
  up_to_less m o low e = record { page = e.page; is = e.is; all = λ h w. reaches_less b h m s.point p e.page low (e.all h w) }

  up_to_page : (o : Option Page) → o ≡ Some (s.pages p).page → IsWritten (s.pages p).entry → ReachesInEach b s.durable s.log p s.point o
  up_to_page o is done = record { page = (s.pages p).page; is = is; all = λ h w. reaches_less b h (s.pages p).upto s.point p (s.pages p).page ((k.pages p).low ready) ((k.pages p).written ready done h w) }

  enters : p < named_to s.log → (y : PageState) → y.unsynced ≡ (s.pages p).unsynced → y.synced ≡ (s.pages p).synced → y.reads ≡ (s.pages p).reads → (o : Option DirtyEntry) → (s.pages p).entry ≡ o → EntryKept b s.log s.durable s.point s.redo_end p y (at_point (is_copied o) s.point)
  enters named y same_unsynced same_synced same_reads None none =
      let (untouched, here) = (k.pages p).clean ready none in
      let y_synced : y.unsynced ≡ false = same_unsynced ∙ untouched in
      entry_at_point b s p y false k going named (λ known. absurd (cc known)) (λ d. inr (up_to_page y.synced (same_synced ∙ here) (rw none tt)))
      (λ unsynced. absurd (let clash : true ≡ false = sym unsynced ∙ y_synced in cc clash)) (λ unsynced. absurd (let clash : true ≡ false = sym unsynced ∙ y_synced in cc clash))
  enters named y same_unsynced same_synced same_reads (Some e) some =
      let old = (k.pages p).entry e some in
      let low = point_le e some in
      entry_at_point b s p y e.copied k going named old.copied
      (λ d. elim (old.untouched (sym same_unsynced ∙ d)).has [
        | inl copy ↦ inl (copy_from s.durable p e.rec_lsn s.point low copy)
        | inr here ↦ inr (up_to_less e.rec_lsn y.synced low (subst (λ (o : Option Page). ReachesInEach b s.durable s.log p e.rec_lsn o) (sym same_synced) here))
      ])
      (λ unsynced. let w = whole s.durable s.log k.front in subst (λ (m : ℕ). HasCopy s.durable p m) (point_in_redo b s k going s.log w) (old.copy (sym same_unsynced ∙ unsynced) s.log w))
      (λ unsynced. older old low (sym same_unsynced ∙ unsynced) e.since refl)
    where
      older : EntryKept b s.log s.durable s.point s.redo_end p (s.pages p) e → s.point ≤ e.rec_lsn → (s.pages p).unsynced ≡ true → (t : Option ℕ) → e.since ≡ t → ReachesInEach b s.durable s.log p s.point y.reads
      older old low unsynced None none = up_to_page y.reads (same_reads ∙ old.written unsynced none) (subst (λ (o : Option DirtyEntry). IsWritten o) (sym some) none)
      older old low unsynced (Some t) is =
          let up : e.rec_lsn ≤ t = (old.own t is).from in
          up_to_less t y.reads (omega (arith, up, low)) (subst (λ (o : Option Page). ReachesInEach b s.durable s.log p t o) (sym same_reads) (old.older unsynced t is))

  in_log : r.lsn ≤ end_of b s.log
  in_log = end_le b (r ∷ f) s.log k.rises (front_of_front (r ∷ f) s.durable s.log (record { newer = newer; is = at }) k.front)

  page_redone : PageKept b s.log s.durable s.point s.redo_end p (redone_page s.point r p (s.pages p))
  page_redone = elim (cases_Bool (applies r p (s.pages p).page)) [
    | inl done ↦ subst (λ (o : Option DirtyEntry). PageKept b s.log s.durable s.point s.redo_end p (record (s.pages p) { page = redo_one r p (s.pages p).page; upto = r.lsn + 1; entry = o }))
        (sym (cond-true (applies r p (s.pages p).page) (Some (at_point (is_copied (s.pages p).entry) s.point)) (s.pages p).entry done)) (when_applied done)
    | inr nil ↦ subst (λ (o : Option DirtyEntry). PageKept b s.log s.durable s.point s.redo_end p (record (s.pages p) { page = redo_one r p (s.pages p).page; upto = r.lsn + 1; entry = o }))
        (sym (cond-false (applies r p (s.pages p).page) (Some (at_point (is_copied (s.pages p).entry) s.point)) (s.pages p).entry nil)) (when_passed nil)
  ]
    where
      w : IsLeft s.durable s.log s.log
      w = whole s.durable s.log k.front

      -- the record names the page that it is applied to
      applied_named : applies r p (s.pages p).page ≡ true → p < named_to s.log
      applied_named is = elim (cases_eq r.page p) [
        | inr other ↦ absurd (let clash : false ≡ true = sym (cond-false (r.page == p) (if nat_le r.lsn (s.pages p).page.lsn then false else changes_page r.what) false (ne_eqb r.page p other)) ∙ is in cc clash)
        | inl here ↦
            let kind = applied_kind (nat_le r.lsn (s.pages p).page.lsn) (changes_page r.what) (sym (cond-true (r.page == p) (if nat_le r.lsn (s.pages p).page.lsn then false else changes_page r.what) false (eq-eqb r.page p here)) ∙ is) in
            let front = front_of_front (r ∷ f) s.durable s.log (record { newer = newer; is = at }) k.front in
            let low = named_in r.page (r ∷ f) s.log front (named_here r f (changed_names r.what kind)) in
            omega (arith, low, here)
      ]

      when_applied : applies r p (s.pages p).page ≡ true → PageKept b s.log s.durable s.point s.redo_end p (record (s.pages p) { page = redo_one r p (s.pages p).page; upto = r.lsn + 1; entry = Some (at_point (is_copied (s.pages p).entry) s.point) })
      when_applied done = record {
        low = λ x. omega (arith, after_point);
        high = (let i : r.lsn ≤ end_of b s.log = in_log in omega (arith, i));
        run = λ q some. absurd (let clash : None ≡ Some q = sym going ∙ some in cc clash);
        now = λ x. one s.log w ((k.pages p).now ready);
        written = λ x done. absurd (cc done);
        clean = λ x none. absurd (cc none);
        entry = λ e is. (let same : at_point (is_copied (s.pages p).entry) s.point ≡ e = cc is in subst (λ (y : DirtyEntry). EntryKept b s.log s.durable s.point s.redo_end p (record (s.pages p) { page = redo_one r p (s.pages p).page; upto = r.lsn + 1; entry = Some (at_point (is_copied (s.pages p).entry) s.point) }) y) same
            (enters (applied_named done) (record (s.pages p) { page = redo_one r p (s.pages p).page; upto = r.lsn + 1; entry = Some (at_point (is_copied (s.pages p).entry) s.point) }) refl refl refl (s.pages p).entry refl));
        still = (k.pages p).still;
        waiting = λ waits. absurd (let clash : true ≡ false = sym waits ∙ ready in cc clash);
        found = λ waits. absurd (let clash : true ≡ false = sym waits ∙ ready in cc clash);
      }

      when_passed : applies r p (s.pages p).page ≡ false → PageKept b s.log s.durable s.point s.redo_end p (record (s.pages p) { page = redo_one r p (s.pages p).page; upto = r.lsn + 1; entry = (s.pages p).entry })
      when_passed nil =
          let same = stays nil in
          record {
            low = λ x. omega (arith, after_point);
            high = (let i : r.lsn ≤ end_of b s.log = in_log in omega (arith, i));
            run = λ q some. absurd (let clash : None ≡ Some q = sym going ∙ some in cc clash);
            now = λ x. one s.log w ((k.pages p).now ready);
            written = λ x done h w. one h w ((k.pages p).written ready done h w);
            clean = λ x none. let old = (k.pages p).clean ready none in (old.0, old.1 ∙ ap (λ (g : Page). Some g) (sym same));
            entry = λ e is. let old = (k.pages p).entry e is in record {
              low = old.low;
              high = old.high;
              own = old.own;
              untouched = old.untouched;
              copy = old.copy;
              copied = old.copied;
              written = λ unsynced none. old.written unsynced none ∙ ap (λ (g : Page). Some g) (sym same);
              older = old.older;
              named = old.named;
            };
            still = (k.pages p).still;
            waiting = λ waits. absurd (let clash : true ≡ false = sym waits ∙ ready in cc clash);
            found = λ waits. absurd (let clash : true ≡ false = sym waits ∙ ready in cc clash);
          }

-- A record of redo, from the point on, for the pages that `who` names: each has had all before it
pub redone_kept : (b : Base) (s : Writer) (r : Logged) (newer f : History) (who : ℕ → Bool) → WriterKept b s → s.redo_end ≡ None → newer ++ r ∷ f ≡ s.durable → s.point ≤ r.lsn
    → ((p : ℕ) → who p ≡ true → ((s.pages p).waits ≡ false) × (end_of b f < (s.pages p).upto)) → WriterKept b (redone r who s)
redone_kept b s r newer f who k going at from ready = record {
  rises = k.rises;
  front = k.front;
  points = k.points;
  copied = k.copied;
  exact = k.exact;
  over = k.over;
  first = λ empty. absurd (
      let has : r.lsn ≤ end_of b s.log = end_le b (r ∷ f) s.log k.rises (front_of_front (r ∷ f) s.durable s.log (record { newer = newer; is = at }) k.front) in
      let none : end_of b s.log ≡ b.start = ap (λ (l : History). end_of b l) empty in
      let up : end_of b f < r.lsn = rises_at.1 in
      let low : b.start ≤ end_of b f = start_low b f rises_at.0 in
      omega (arith, has, none, up, low));
  pages = λ p. elim (cases_Bool (who p)) [
    | inl is ↦ subst (λ (x : PageState). PageKept b s.log s.durable s.point s.redo_end p x) (sym (cond-true (who p) (redone_page s.point r p (s.pages p)) (s.pages p) is))
        (page_redone b s r newer f k going at p (ready p is).0 (ready p is).1 from)
    | inr nil ↦ subst (λ (x : PageState). PageKept b s.log s.durable s.point s.redo_end p x) (sym (cond-false (who p) (redone_page s.point r p (s.pages p)) (s.pages p) nil)) (k.pages p)
  ];
}
  where
    rises_at : Rises b (r ∷ f)
    rises_at = rises_in b (r ∷ f) s.log (front_of_front (r ∷ f) s.durable s.log (record { newer = newer; is = at }) k.front) k.rises

-- ---- redo is over

module _ (b : Base) (s : Writer) (k : WriterKept b s) (going : s.redo_end ≡ None) (ready : (p : ℕ) → (s.pages p).waits ≡ false)
    (last : (p : ℕ) (h : History) (g : Page) → IsLeft s.durable s.log h → Reaches b h (s.pages p).upto p g → g ≡ page_at b h p) where
  page_ended : (p : ℕ) → PageKept b s.log s.durable s.point (Some (end_of b s.log)) p (passed (end_of b s.log) (s.pages p))
  page_ended p =
      let old = k.pages p in
      let w = whole s.durable s.log k.front in
      let high : s.point ≤ end_of b s.log = (let e : redo_point s.log ≡ s.point = point_in_redo b s k going s.log w in let h : redo_point s.log ≤ end_of b s.log = (k.points s.log w).high in omega (arith, e, h)) in
      record {
        low = λ x. omega (arith, high);
        high = omega arith;
        run = λ q is. (ready p, omega arith);
        now = λ x. at_end b s.log (end_of b s.log + 1) p (s.pages p).page (omega arith) (last p s.log (s.pages p).page w (old.now (ready p)));
        written = λ x done h w. at_end b h (end_of b s.log + 1) p (s.pages p).page (let le : end_of b h ≤ end_of b s.log = end_le b h s.log k.rises w.upto in omega (arith, le)) (last p h (s.pages p).page w (old.written (ready p) done h w));
        clean = old.clean;
        entry = λ e is. let was = old.entry e is in record {
          low = was.low;
          high = was.high;
          own = λ t some. let own = was.own t some in record { from = own.from; high = own.high; own = elim own.own [ inl same ↦ inl same | inr later ↦ absurd (not_later s.redo_end t going later) ] };
          untouched = was.untouched;
          copy = was.copy;
          copied = was.copied;
          written = was.written;
          older = was.older;
          named = was.named;
        };
        still = old.still;
        waiting = λ waits. absurd (let clash : true ≡ false = sym waits ∙ ready p in cc clash);
        found = λ waits. absurd (let clash : true ≡ false = sym waits ∙ ready p in cc clash);
      }

  -- Redo is over: no page waits, and each has had all its records
  pub ended_kept : WriterKept b (ended b s)
  ended_kept = record {
    rises = k.rises;
    front = k.front;
    copied = k.copied;
    first = k.first;
    points = λ h w. record { high = (k.points h w).high; own = inl (point_in_redo b s k going h w) };
    exact = λ q is m past p l c noted_is. absurd (
        let within = noted_within b m s.log p l c k.rises noted_is in
        let one : m ≤ l = within.0 in let two : l ≤ end_of b s.log = within.1 in
        let e : end_of b s.log ≡ q = cc is in omega (arith, one, two, e, past));
    over = λ q is. (let w = whole s.durable s.log k.front in let e : redo_point s.log ≡ s.point = point_in_redo b s k going s.log w in let h : redo_point s.log ≤ end_of b s.log = (k.points s.log w).high in
        let same : end_of b s.log ≡ q = cc is in (omega (arith, e, h, same), omega (arith, same)));
    pages = page_ended;
  }
