-- After redo, a record of any kind keeps the invariant.
use Rattle.std.proofs.Common.{◌≡◌, inl, inr, ℕ, ◌+◌, ◌<◌, ◌≤◌, ◌∷◌, [], Bool, true, false, refl, sym, ◌∙◌, ap, subst, arith, Option, None, Some}
use Rattle.std.specs.Prelude.{◌==◌, ◌||◌}
use Rattle.std.proofs.lemmas.Bool.{cases_eq, cond-true, cond-false, eq-eqb, ne_eqb}
use Rattle.im_theory_log.specs.Copies.{HasCopy, Reaches, copy_in, noted}
use Rattle.im_theory_log.specs.Histories.{Base, History, end_of, page_after, page_at}
use Rattle.im_theory_log.specs.PageCounts.{named_to, names_page}
use Rattle.im_base_types.specs.Pages.{Page}
use Rattle.im_base_types.specs.Records.{Checkpoint, Commit, DeleteKey, DummyClr, End, Image, InsertKey, Logged, Smo, UndoDelete, UndoInsert, UndoSmo, Unreadable, What}
use Rattle.im_theory_log.specs.RedoPoints.{redo_point}
use Rattle.im_theory_log.specs.Writer.{DirtyEntry, EntryKept, IsAfterRedo, IsLeft, IsSince, IsWritten, PageKept, PageState, PointKept, ReachesInEach, Writer, WriterKept}
use Rattle.im_theory_log.specs.WriterSteps.{MayAppend, appended, changed, changed_entry, changed_page, first_since, holds_copy, only, passed}
use Rattle.im_theory_log.proofs.Copies.{copied_more, copy_grows, noted_here}
use Rattle.im_theory_log.proofs.Histories.{end_le, front_more}
use Rattle.im_theory_log.proofs.PageCounts.{named_here, named_then}
use Rattle.im_theory_log.proofs.Redo.{at_end, reached_end, reaches_before, reaches_less, reaches_more}
use Rattle.im_theory_log.proofs.WriterFronts.{left_split, whole}

module _ (b : Base) (s : Writer) (r : Logged) (k : WriterKept b s) (may : MayAppend b s r) where
  later : (t : ℕ) → end_of b s.log < t → IsAfterRedo s.redo_end t
  later t up = subst (λ (o : Option ℕ). IsAfterRedo o t) (sym may.over) (let low : may.redo_end ≤ end_of b s.log = (k.over may.redo_end may.over).1 in let go : may.redo_end < t = omega (arith, low, up) in go)

  end_under : (h : History) → IsLeft s.durable s.log h → end_of b h < r.lsn
  end_under h w = let le : end_of b h ≤ end_of b s.log = end_le b h s.log k.rises w.upto in let last : end_of b s.log < r.lsn = may.last in omega (arith, le, last)

  -- the page as the log has it, before the record
  is_now : (p : ℕ) → (s.pages p).page ≡ page_at b s.log p
  is_now p = let run = (k.pages p).run may.redo_end may.over in reached_end b s.log (s.pages p).upto p (s.pages p).page run.1 ((k.pages p).now run.0)

  is_done : (p : ℕ) → IsWritten (s.pages p).entry → (h : History) → IsLeft s.durable s.log h → (s.pages p).page ≡ page_at b h p
  is_done p done h w =
      let run = (k.pages p).run may.redo_end may.over in
      let past : end_of b s.log < (s.pages p).upto = run.1 in
      let le : end_of b h ≤ end_of b s.log = end_le b h s.log k.rises w.upto in
      reached_end b h (s.pages p).upto p (s.pages p).page (omega (arith, past, le)) ((k.pages p).written run.0 done h w)

  split : (P : History → Type 0) → P (r ∷ s.log) → ((h : History) → IsLeft s.durable s.log h → P h) → (h : History) → IsLeft s.durable (r ∷ s.log) h → P h
  split P new old h w = left_split s.durable s.log r P k.front new old h w

  up_to : (p m : ℕ) (o : Option Page) → m ≤ r.lsn → ReachesInEach b s.durable s.log p m o → ReachesInEach b s.durable (r ∷ s.log) p m o
  up_to p m o low e = record { page = e.page; is = e.is; all = split (λ (h : History). Reaches b h m p e.page) (reaches_more b r s.log m p e.page may.last low (e.all s.log (whole s.durable s.log k.front))) e.all }

  -- the page as it was has all below the record, whatever front a stop leaves
  up_to_before : (p : ℕ) (o : Option Page) → o ≡ Some (s.pages p).page → IsWritten (s.pages p).entry → ReachesInEach b s.durable (r ∷ s.log) p r.lsn o
  up_to_before p o is done = record {
    page = (s.pages p).page;
    is = is;
    all = split (λ (h : History). Reaches b h r.lsn p (s.pages p).page) (reaches_before b r s.log p (s.pages p).page may.last (is_now p)) (λ h w. at_end b h r.lsn p (s.pages p).page (end_under h w) (is_done p done h w));
  }

  not_waiting : (p : ℕ) → (s.pages p).waits ≡ true → ⊥
  not_waiting p waits = let clash : true ≡ false = sym waits ∙ ((k.pages p).run may.redo_end may.over).0 in cc clash

  -- ---- a page that the record does not change

  entry_more : (p : ℕ) (e : DirtyEntry) → EntryKept b s.log s.durable s.point s.redo_end p (s.pages p) e → (s.pages p).entry ≡ Some e
      → EntryKept b (r ∷ s.log) s.durable s.point s.redo_end p (passed r.lsn (s.pages p)) e
  entry_more p e old is =
      let last : end_of b s.log < r.lsn = may.last in
      let high : e.rec_lsn ≤ end_of b s.log = old.high in
      let up : e.rec_lsn ≤ r.lsn = omega (arith, last, high) in
      record {
        low = split (λ (h : History). redo_point h ≤ e.rec_lsn) (may.point.entries p e is) old.low;
        high = up;
        own = λ t some. let own = old.own t some in let t_high : t ≤ end_of b s.log = own.high in record { from = own.from; high = omega (arith, t_high, last); own = own.own };
        untouched = λ untouched. let d = old.untouched untouched in record { since = d.since; has = elim d.has [ inl copy ↦ inl copy | inr here ↦ inr (up_to p e.rec_lsn (s.pages p).synced up here) ] };
        copy = λ unsynced. split (λ (h : History). HasCopy s.durable p (redo_point h)) (may.point.unsynced p unsynced) (old.copy unsynced);
        copied = λ known. copy_grows s.log (r ∷ s.log) p (redo_point (r ∷ s.log)) (record { newer = r ∷ []; is = refl }) (may.point.copied p e is known);
        written = old.written;
        older = λ unsynced t some. let t_high : t ≤ end_of b s.log = (old.own t some).high in up_to p t (s.pages p).reads (omega (arith, t_high, last)) (old.older unsynced t some);
        named = named_then p r s.log old.named;
      }

  page_more : (p : ℕ) → page_at b (r ∷ s.log) p ≡ page_at b s.log p → PageKept b (r ∷ s.log) s.durable s.point s.redo_end p (passed r.lsn (s.pages p))
  page_more p same =
      let old = k.pages p in
      let last : end_of b s.log < r.lsn = may.last in
      let point_low : s.point ≤ may.redo_end = (k.over may.redo_end may.over).0 in
      let end_low : may.redo_end ≤ end_of b s.log = (k.over may.redo_end may.over).1 in
      let new : Reaches b (r ∷ s.log) (r.lsn + 1) p (s.pages p).page = at_end b (r ∷ s.log) (r.lsn + 1) p (s.pages p).page (let k : r.lsn < r.lsn + 1 = omega arith in k) (is_now p ∙ sym same) in
      record {
        low = λ ready. omega (arith, last, point_low, end_low);
        high = omega arith;
        run = λ q is. ((old.run q is).0, omega arith);
        now = λ ready. new;
        written = λ ready done. split (λ (h : History). Reaches b h (r.lsn + 1) p (s.pages p).page) new (λ h w. at_end b h (r.lsn + 1) p (s.pages p).page (let u : end_of b h < r.lsn = end_under h w in omega (arith, u)) (is_done p done h w));
        clean = old.clean;
        entry = λ e is. entry_more p e (old.entry e is) is;
        still = old.still;
        waiting = λ waits. absurd (not_waiting p waits);
        found = λ waits. absurd (not_waiting p waits);
      }

  -- ---- the page that it changes

  -- where it holds a full copy, the log has one
  own_copy : holds_copy r.what ≡ true → HasCopy (r ∷ s.log) r.page (redo_point (r ∷ s.log))
  own_copy holds = by r.what refl holds
    where
      has : (c : Page) → copy_in r.lsn r.what ≡ Some c → HasCopy (r ∷ s.log) r.page (redo_point (r ∷ s.log))
      has c is = record { lsn = r.lsn; copy = c; is = noted_here (redo_point (r ∷ s.log)) r s.log r.page c may.point.high refl is }

      by : (w : What) → r.what ≡ w → holds_copy w ≡ true → HasCopy (r ∷ s.log) r.page (redo_point (r ∷ s.log))
      by (Image c) is holds = has c (ap (λ (w : What). copy_in r.lsn w) is)
      by (Smo old new) is holds = has (record { lsn = r.lsn; body = new }) (ap (λ (w : What). copy_in r.lsn w) is)
      by (UndoSmo new) is holds = has (record { lsn = r.lsn; body = new }) (ap (λ (w : What). copy_in r.lsn w) is)
      by (InsertKey k i) is holds = absurd (cc holds)
      by (DeleteKey k i) is holds = absurd (cc holds)
      by (UndoInsert k i) is holds = absurd (cc holds)
      by (UndoDelete k i) is holds = absurd (cc holds)
      by DummyClr is holds = absurd (cc holds)
      by Commit is holds = absurd (cc holds)
      by End is holds = absurd (cc holds)
      by (Checkpoint n a d) is holds = absurd (cc holds)
      by Unreadable is holds = absurd (cc holds)

  since_some : (o : Option DirtyEntry) → (changed_entry (holds_copy r.what) r.lsn o).since ≡ None → ⊥
  since_some None is = cc is
  since_some (Some e) is = by e.since is
    where
      by : (t : Option ℕ) → first_since r.lsn t ≡ None → ⊥
      by None is = cc is
      by (Some t) is = cc is

  entry_new : (p : ℕ) (y : PageState) (one : Bool) → p < named_to (r ∷ s.log) → (one ≡ true → HasCopy (r ∷ s.log) p (redo_point (r ∷ s.log))) → (s.pages p).entry ≡ None → y.unsynced ≡ (s.pages p).unsynced → y.synced ≡ (s.pages p).synced
      → EntryKept b (r ∷ s.log) s.durable s.point s.redo_end p y (record { rec_lsn = r.lsn; since = Some r.lsn; copied = one })
  entry_new p y one named has none same_unsynced same_synced =
      let clean = (k.pages p).clean ((k.pages p).run may.redo_end may.over).0 none in
      let is_synced : y.unsynced ≡ false = same_unsynced ∙ clean.0 in
      record {
        low = split (λ (h : History). redo_point h ≤ r.lsn) may.point.high (λ h w. let u : end_of b h < r.lsn = end_under h w in let v : redo_point h ≤ end_of b h = (k.points h w).high in omega (arith, u, v));
        high = omega arith;
        own = λ t some. let e : r.lsn ≡ t = cc some in subst (λ (y : ℕ). IsSince b (r ∷ s.log) s.point s.redo_end r.lsn y) e (record { from = omega arith; high = omega arith; own = inr (later r.lsn may.last) });
        untouched = λ untouched. record { since = refl; has = inr (up_to_before p y.synced (same_synced ∙ clean.1) (rw none tt)) };
        copy = λ unsynced. absurd (let clash : true ≡ false = sym unsynced ∙ is_synced in cc clash);
        copied = has;
        written = λ unsynced. absurd (let clash : true ≡ false = sym unsynced ∙ is_synced in cc clash);
        older = λ unsynced. absurd (let clash : true ≡ false = sym unsynced ∙ is_synced in cc clash);
        named = named;
      }

  entry_again : (p : ℕ) (y : PageState) (e : DirtyEntry) (one : Bool) → (one ≡ true → HasCopy (r ∷ s.log) p (redo_point (r ∷ s.log))) → (s.pages p).entry ≡ Some e → y.unsynced ≡ (s.pages p).unsynced → y.synced ≡ (s.pages p).synced → y.reads ≡ (s.pages p).reads
      → (t : Option ℕ) → e.since ≡ t → EntryKept b (r ∷ s.log) s.durable s.point s.redo_end p y (record { rec_lsn = e.rec_lsn; since = first_since r.lsn t; copied = one })
  entry_again p y e one has is same_unsynced same_synced same_reads (Some t) some =
      let old = entry_more p e ((k.pages p).entry e is) is in
      record {
        low = old.low;
        high = old.high;
        own = λ u is_u. old.own u (some ∙ is_u);
        untouched = λ untouched. let d = old.untouched (sym same_unsynced ∙ untouched) in record { since = sym some ∙ d.since; has = elim d.has [ inl copy ↦ inl copy | inr here ↦ inr (subst (λ (o : Option Page). ReachesInEach b s.durable (r ∷ s.log) p e.rec_lsn o) (sym same_synced) here) ] };
        copy = λ unsynced. old.copy (sym same_unsynced ∙ unsynced);
        copied = has;
        written = λ unsynced none. absurd (cc none);
        older = λ unsynced u is_u. subst (λ (o : Option Page). ReachesInEach b s.durable (r ∷ s.log) p u o) (sym same_reads) (old.older (sym same_unsynced ∙ unsynced) u (some ∙ is_u));
        named = old.named;
      }
  entry_again p y e one has is same_unsynced same_synced same_reads None none =
      let was = (k.pages p).entry e is in
      let old = entry_more p e was is in
      record {
        low = old.low;
        high = old.high;
        own = λ u is_u. let j : r.lsn ≡ u = cc is_u in let high : e.rec_lsn ≤ r.lsn = old.high in subst (λ (y : ℕ). IsSince b (r ∷ s.log) s.point s.redo_end e.rec_lsn y) j (record { from = high; high = omega arith; own = inr (later r.lsn may.last) });
        untouched = λ untouched. absurd (let d : e.since ≡ Some e.rec_lsn = (was.untouched (sym same_unsynced ∙ untouched)).since in let clash : None ≡ Some e.rec_lsn = sym none ∙ d in cc clash);
        copy = λ unsynced. old.copy (sym same_unsynced ∙ unsynced);
        copied = has;
        written = λ unsynced none. absurd (cc none);
        older = λ unsynced u is_u.
            let j : r.lsn ≡ u = cc is_u in
            subst (λ (m : ℕ). ReachesInEach b s.durable (r ∷ s.log) p m y.reads) j
            (up_to_before p y.reads (same_reads ∙ was.written (sym same_unsynced ∙ unsynced) none) (subst (λ (o : Option DirtyEntry). IsWritten o) (sym is) none));
        named = old.named;
      }

  page_after_change : names_page r.what ≡ true → PageKept b (r ∷ s.log) s.durable s.point s.redo_end r.page (passed r.lsn (changed_page r (s.pages r.page)))
  page_after_change names =
      let p : ℕ = r.page in
      let old = k.pages r.page in
      let last : end_of b s.log < r.lsn = may.last in
      let point_low : s.point ≤ may.redo_end = (k.over may.redo_end may.over).0 in
      let end_low : may.redo_end ≤ end_of b s.log = (k.over may.redo_end may.over).1 in
      let at : page_at b (r ∷ s.log) r.page ≡ page_after r.lsn r.what (page_at b s.log r.page) = cond-true (r.page == r.page) _ _ (eq-eqb r.page r.page refl) in
      record {
        low = λ ready. omega (arith, last, point_low, end_low);
        high = omega arith;
        run = λ q is. ((old.run q is).0, omega arith);
        now = λ ready. at_end b (r ∷ s.log) (r.lsn + 1) r.page (page_after r.lsn r.what (s.pages r.page).page) (let k : r.lsn < r.lsn + 1 = omega arith in k) (ap (λ (g : Page). page_after r.lsn r.what g) (is_now r.page) ∙ sym at);
        written = λ ready done. absurd (since_some (s.pages r.page).entry done);
        clean = λ ready none. absurd (cc none);
        entry = λ e is. entry (s.pages r.page).entry refl e (let same : changed_entry (holds_copy r.what) r.lsn (s.pages r.page).entry ≡ e = cc is in same);
        still = old.still;
        waiting = λ waits. absurd (not_waiting r.page waits);
        found = λ waits. absurd (not_waiting r.page waits);
      }
    where
      either : (one : Bool) → (one ≡ true → HasCopy (r ∷ s.log) r.page (redo_point (r ∷ s.log))) → (e : DirtyEntry) → (s.pages r.page).entry ≡ Some e → (one || e.copied) ≡ true → HasCopy (r ∷ s.log) r.page (redo_point (r ∷ s.log))
      either true has e is known = has refl
      either false has e is known = (entry_more r.page e ((k.pages r.page).entry e is) is).copied known

      entry : (o : Option DirtyEntry) → (s.pages r.page).entry ≡ o → (e : DirtyEntry) → changed_entry (holds_copy r.what) r.lsn o ≡ e → EntryKept b (r ∷ s.log) s.durable s.point s.redo_end r.page (passed r.lsn (changed_page r (s.pages r.page))) e
      entry None is e same = subst (λ (x : DirtyEntry). EntryKept b (r ∷ s.log) s.durable s.point s.redo_end r.page (passed r.lsn (changed_page r (s.pages r.page))) x) same
          (entry_new r.page (passed r.lsn (changed_page r (s.pages r.page))) (holds_copy r.what) (named_here r s.log names) own_copy is refl refl)
      entry (Some old) is e same = subst (λ (x : DirtyEntry). EntryKept b (r ∷ s.log) s.durable s.point s.redo_end r.page (passed r.lsn (changed_page r (s.pages r.page))) x) same
          (entry_again r.page (passed r.lsn (changed_page r (s.pages r.page))) old (holds_copy r.what || old.copied) (either (holds_copy r.what) own_copy old is) is refl refl refl old.since refl)

  -- ---- the whole

  joined : (pages : ℕ → PageState) → ((p : ℕ) → PageKept b (r ∷ s.log) s.durable s.point s.redo_end p (pages p)) → WriterKept b (record s { log = r ∷ s.log; pages = pages })
  joined pages all = record {
    rises = (k.rises, may.last);
    front = front_more s.durable s.log r k.front;
    points = split (λ (h : History). PointKept b s.point s.redo_end h) (record { high = may.point.high; own = may.point.own }) k.points;
    copied = split (λ (h : History). (p l : ℕ) (c : Page) → noted (redo_point h) h p ≡ Some (l, c) → Reaches b h (redo_point h) p c)
        (copied_more b (redo_point (r ∷ s.log)) r s.log k.rises may.last may.point.copies (λ c low holds. copy c (redo_point (r ∷ s.log)) low holds)) k.copied;
    exact = λ q is m past. copied_more b m r s.log k.rises may.last (k.exact q is m past) (λ c low holds. copy c m low holds);
    first = λ empty. absurd (cc empty);
    over = λ q is. let old = k.over q is in let high : q ≤ end_of b s.log = old.1 in let last : end_of b s.log < r.lsn = may.last in (old.0, omega (arith, high, last));
    pages = all;
  }
    where
      copy : (c : Page) (m : ℕ) → m ≤ r.lsn → copy_in r.lsn r.what ≡ Some c → Reaches b (r ∷ s.log) m r.page c
      copy c m low holds = reaches_less b (r ∷ s.log) (r.lsn + 1) m r.page c (omega (arith, low)) (at_end b (r ∷ s.log) (r.lsn + 1) r.page c (let k : r.lsn < r.lsn + 1 = omega arith in k) (may.exact c holds))

  -- A record that changes no page: Image, Commit, End, DummyClr, Checkpoint.
  pub appended_kept : ((p : ℕ) → page_at b (r ∷ s.log) p ≡ page_at b s.log p) → WriterKept b (appended r s)
  appended_kept same = joined (λ q. passed r.lsn (s.pages q)) (λ p. page_more p (same p))

  -- A record that changes its page.
  pub changed_kept : names_page r.what ≡ true → WriterKept b (changed r s)
  changed_kept names = joined (λ q. passed r.lsn (only r.page (changed_page r) s.pages q)) (λ p. elim (cases_eq r.page p) [
    | inl here ↦ subst (λ (x : PageState). PageKept b (r ∷ s.log) s.durable s.point s.redo_end p (passed r.lsn x)) (sym (cond-true (r.page == p) (changed_page r (s.pages p)) (s.pages p) (eq-eqb r.page p here)))
        (subst (λ (x : ℕ). PageKept b (r ∷ s.log) s.durable s.point s.redo_end x (passed r.lsn (changed_page r (s.pages x)))) here (page_after_change names))
    | inr other ↦ subst (λ (x : PageState). PageKept b (r ∷ s.log) s.durable s.point s.redo_end p (passed r.lsn x)) (sym (cond-false (r.page == p) (changed_page r (s.pages p)) (s.pages p) (ne_eqb r.page p other)))
        (page_more p (cond-false (r.page == p) (page_after r.lsn r.what (page_at b s.log p)) (page_at b s.log p) (ne_eqb r.page p other)))
  ])
