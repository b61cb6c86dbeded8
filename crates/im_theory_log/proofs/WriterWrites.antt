-- Force, page write and sync keep the invariant.
use Rattle.std.proofs.Common.{◌≡◌, inl, inr, ℕ, ◌≤◌, ◌∷◌, ◌++◌, true, false, refl, sym, ◌∙◌, subst, arith, Option, None, Some}
use Rattle.std.specs.Prelude.{◌==◌}
use Rattle.std.proofs.lemmas.Bool.{cases_Bool, cases_eq, cond-true, cond-false, eq-eqb, ne_eqb}
use Rattle.im_theory_log.specs.Copies.{HasCopy, Reaches, copy_in, noted}
use Rattle.im_theory_log.specs.Histories.{Base, History, IsFront, end_of}
use Rattle.im_base_types.specs.Maps.{first}
use Rattle.im_base_types.specs.Pages.{Page}
use Rattle.im_base_types.specs.Records.{Logged}
use Rattle.im_theory_log.specs.RedoPoints.{redo_point}
use Rattle.im_theory_log.specs.Writer.{DirtyEntry, EntryKept, IsLeft, IsSince, IsWritten, PageKept, PageState, ReachesInEach, Writer, WriterKept}
use Rattle.im_theory_log.specs.WriterSteps.{MayWrite, forced, forgotten, forgotten_entry, forgotten_page, only, synced, synced_entry, synced_page, written, written_entry, written_page}
use Rattle.im_theory_log.proofs.Copies.{copy_grows, noted_here}
use Rattle.im_theory_log.proofs.Histories.{end_le, front_self}
use Rattle.im_theory_log.proofs.PageCounts.{named_in, noted_named}
use Rattle.im_theory_log.proofs.WriterFronts.{left_all, left_forced, whole}

-- one page changed: what holds of each page
pub only_kept : (K : ℕ → PageState → Type 0) (p : ℕ) (f : PageState → PageState) (pages : ℕ → PageState) → ((q : ℕ) → K q (pages q)) → K p (f (pages p)) → (q : ℕ) → K q (only p f pages q)
only_kept K p f pages all one q = elim (cases_eq p q) [
  | inl here ↦ subst (λ (x : PageState). K q x) (sym (cond-true (p == q) (f (pages q)) (pages q) (eq-eqb p q here))) (subst (λ (x : ℕ). K x (f (pages x))) here one)
  | inr other ↦ subst (λ (x : PageState). K q x) (sym (cond-false (p == q) (f (pages q)) (pages q) (ne_eqb p q other))) (all q)
]

-- ---- force

up_to_forced : (b : Base) (log durable : History) (p m : ℕ) (o : Option Page) → IsFront durable log → ReachesInEach b durable log p m o → ReachesInEach b log log p m o
up_to_forced b log durable p m o front r = record { page = r.page; is = r.is; all = λ h w. r.all h (left_forced durable log h front w) }

page_forced : (b : Base) (log durable : History) (point : ℕ) (redo_end : Option ℕ) (p : ℕ) (x : PageState) → IsFront durable log → PageKept b log durable point redo_end p x → PageKept b log log point redo_end p x
page_forced b log durable point redo_end p x front k = record {
  low = k.low;
  high = k.high;
  run = k.run;
  now = k.now;
  written = λ ready done h w. k.written ready done h (left_forced durable log h front w);
  clean = k.clean;
  entry = λ e is. let old = k.entry e is in record {
    low = λ h w. old.low h (left_forced durable log h front w);
    high = old.high;
    own = old.own;
    untouched = λ untouched. let d = old.untouched untouched in record {
      since = d.since;
      has = elim d.has [
        | inl copy ↦ inl (copy_grows durable log p e.rec_lsn front copy)
        | inr here ↦ inr (up_to_forced b log durable p e.rec_lsn x.synced front here)
      ];
    };
    copy = λ unsynced h w. copy_grows durable log p (redo_point h) front (old.copy unsynced h (left_forced durable log h front w));
    copied = old.copied;
    written = old.written;
    older = λ unsynced t is. up_to_forced b log durable p t x.reads front (old.older unsynced t is);
    named = old.named;
  };
  still = k.still;
  waiting = λ waits. let old = k.waiting waits in record { none = old.none; synced = old.synced; lsn = old.lsn; copy = old.copy; found = old.found };
  found = λ waits h w. k.found waits h (left_forced durable log h front w);
}

-- The log is forced.
pub forced_kept : (b : Base) (s : Writer) → WriterKept b s → WriterKept b (forced s)
forced_kept b s k = record {
  rises = k.rises;
  front = front_self s.log;
  points = λ h w. k.points h (left_forced s.durable s.log h k.front w);
  copied = λ h w. k.copied h (left_forced s.durable s.log h k.front w);
  exact = k.exact;
  first = k.first;
  over = k.over;
  pages = λ p. page_forced b s.log s.durable s.point s.redo_end p (s.pages p) k.front (k.pages p);
}

-- ---- a page write

module _ (b : Base) (s : Writer) (p l : ℕ) (k : WriterKept b s) (may : MayWrite b s p l) where
  all_durable : (h : History) → IsLeft s.durable s.log h → h ≡ s.log
  all_durable h w = left_all s.log h (subst (λ (d : History). IsLeft d s.log h) may.durable w)

  new_entry : (o : Option DirtyEntry) → (s.pages p).entry ≡ o
      → (redo_point s.log ≤ (written_entry l o).rec_lsn) × ((written_entry l o).rec_lsn ≤ end_of b s.log)
  new_entry None is = (may.low, may.high)
  new_entry (Some e) is = let old = (k.pages p).entry e is in (old.low s.log (whole s.durable s.log k.front), old.high)

  no_since : (o : Option DirtyEntry) → (written_entry l o).since ≡ None
  no_since None = refl
  no_since (Some e) = refl

  page_written : PageKept b s.log s.durable s.point s.redo_end p (written_page l (s.pages p))
  page_written =
      let old = k.pages p in
      let bounds = new_entry (s.pages p).entry refl in
      let none = no_since (s.pages p).entry in
      record {
        low = old.low;
        high = old.high;
        run = old.run;
        now = old.now;
        written = λ ready done h w. subst (λ (x : History). Reaches b x (s.pages p).upto p (s.pages p).page) (sym (all_durable h w)) (old.now ready);
        clean = λ ready none. absurd (cc none);
        entry = λ e is. entry bounds none e (let same : written_entry l (s.pages p).entry ≡ e = cc is in same);
        still = λ untouched. absurd (cc untouched);
        waiting = λ waits. absurd (let clash : true ≡ false = sym waits ∙ may.ready in cc clash);
        found = λ waits. absurd (let clash : true ≡ false = sym waits ∙ may.ready in cc clash);
      }
    where
      entry : (redo_point s.log ≤ (written_entry l (s.pages p).entry).rec_lsn) × ((written_entry l (s.pages p).entry).rec_lsn ≤ end_of b s.log)
          → (written_entry l (s.pages p).entry).since ≡ None
          → (e : DirtyEntry) → written_entry l (s.pages p).entry ≡ e → EntryKept b s.log s.durable s.point s.redo_end p (written_page l (s.pages p)) e
      entry bounds none e is = subst (λ (x : DirtyEntry). EntryKept b s.log s.durable s.point s.redo_end p (written_page l (s.pages p)) x) is (record {
        low = λ h w. subst (λ (x : History). redo_point x ≤ (written_entry l (s.pages p).entry).rec_lsn) (sym (all_durable h w)) bounds.0;
        high = bounds.1;
        own = λ t some. absurd (let clash : None ≡ Some t = sym none ∙ some in cc clash);
        untouched = λ untouched. absurd (cc untouched);
        copy = λ unsynced h w. subst (λ (x : History). HasCopy s.durable p (redo_point x)) (sym (all_durable h w)) may.copy;
        copied = λ known. subst (λ (d : History). HasCopy d p (redo_point s.log)) may.durable may.copy;
        written = λ unsynced nil. refl;
        older = λ unsynced t some. absurd (let clash : None ≡ Some t = sym none ∙ some in cc clash);
        named = named_in p s.durable s.log k.front (noted_named (redo_point s.log) s.durable p may.copy.lsn may.copy.copy may.copy.is);
      })

  -- A page is written in place.
  pub written_kept : WriterKept b (written p l s)
  written_kept = record {
    rises = k.rises;
    front = k.front;
    points = k.points;
    copied = k.copied;
    exact = k.exact;
    over = k.over;
    first = λ empty. absurd (
        let has = may.copy in
        let none : noted (redo_point s.log) s.durable p ≡ None = subst (λ (d : History). noted (redo_point s.log) d p ≡ None) (sym (may.durable ∙ empty)) refl in
        let clash : None ≡ Some (has.lsn, has.copy) = sym none ∙ has.is in cc clash);
    pages = only_kept (PageKept b s.log s.durable s.point s.redo_end) p (written_page l) s.pages k.pages page_written;
  }

-- ---- sync

module _ (b : Base) (s : Writer) (p : ℕ) (x : PageState) (k : PageKept b s.log s.durable s.point s.redo_end p x) where
  -- a page that leaves the table, or is in it no more, is what the file has
  gone : (o : Option DirtyEntry) → x.entry ≡ o → x.waits ≡ false → synced_entry o ≡ None → IsWritten o × (x.reads ≡ Some x.page)
  gone None is ready none = let (untouched, here) = k.clean ready is in (tt, k.still untouched ∙ here)
  gone (Some e) is ready none = by e.since refl
    where
      by : (t : Option ℕ) → e.since ≡ t → (e.since ≡ None) × (x.reads ≡ Some x.page)
      by (Some t) some = absurd (let clash : synced_entry (Some e) ≡ Some (record { rec_lsn = t; since = Some t; copied = e.copied }) = rw some refl in let c : None ≡ Some (record { rec_lsn = t; since = Some t; copied = e.copied }) = sym none ∙ clash in cc c)
      by None nil = elim (cases_Bool x.unsynced) [
        | inl unsynced ↦ (nil, (k.entry e is).written unsynced nil)
        | inr untouched ↦ absurd (let clash : None ≡ Some e.rec_lsn = sym nil ∙ ((k.entry e is).untouched untouched).since in cc clash)
      ]

  -- an entry that stays
  stays : (o : Option DirtyEntry) → x.entry ≡ o → (e : DirtyEntry) → synced_entry o ≡ Some e → EntryKept b s.log s.durable s.point s.redo_end p (synced_page x) e
  stays None is e some = absurd (cc some)
  stays (Some old) is e some = by old.since refl
    where
      by : (t : Option ℕ) → old.since ≡ t → EntryKept b s.log s.durable s.point s.redo_end p (synced_page x) e
      by None nil = absurd (let c : None ≡ Some e = sym (let gone : synced_entry (Some old) ≡ None = rw nil refl in gone) ∙ some in cc c)
      by (Some t) some_t =
          let was = k.entry old is in
          let own = was.own t some_t in
          let new : DirtyEntry = record { rec_lsn = t; since = Some t; copied = old.copied } in
          let here : synced_entry (Some old) ≡ Some new = rw some_t refl in
          let same : new ≡ e = let j : Some new ≡ Some e = sym here ∙ some in cc j in
          subst (λ (y : DirtyEntry). EntryKept b s.log s.durable s.point s.redo_end p (synced_page x) y) same (record {
            low = λ h w. let low : redo_point h ≤ old.rec_lsn = was.low h w in let up : old.rec_lsn ≤ t = own.from in omega (arith, low, up);
            high = own.high;
            own = λ u is_u. let e : t ≡ u = cc is_u in subst (λ (y : ℕ). IsSince b s.log s.point s.redo_end t y) e (record { from = omega arith; high = own.high; own = own.own });
            untouched = λ untouched. record {
              since = refl;
              has = elim (cases_Bool x.unsynced) [
                | inl unsynced ↦ inr (was.older unsynced t some_t)
                | inr was_untouched ↦
                    let d = was.untouched was_untouched in
                    let eq : old.rec_lsn ≡ t = let j : Some old.rec_lsn ≡ Some t = sym d.since ∙ some_t in cc j in
                    elim d.has [
                      | inl copy ↦ inl (subst (λ (m : ℕ). HasCopy s.durable p m) eq copy)
                      | inr here ↦ inr (subst (λ (m : ℕ). ReachesInEach b s.durable s.log p m x.reads) eq (subst (λ (o : Option Page). ReachesInEach b s.durable s.log p old.rec_lsn o) (sym (k.still was_untouched)) here))
                    ]
              ];
            };
            copy = λ unsynced. absurd (cc unsynced);
            copied = was.copied;
            written = λ unsynced. absurd (cc unsynced);
            older = λ unsynced. absurd (cc unsynced);
            named = was.named;
          })

  page_synced : PageKept b s.log s.durable s.point s.redo_end p (synced_page x)
  page_synced = record {
    low = k.low;
    high = k.high;
    run = k.run;
    now = k.now;
    written = λ ready done h w. k.written ready (was_done x.entry refl done) h w;
    clean = λ ready none. (refl, (gone x.entry refl ready none).1);
    entry = λ e is. stays x.entry refl e is;
    still = λ untouched. refl;
    waiting = λ waits. let old = k.waiting waits in record { none = rw old.none refl; synced = refl; lsn = old.lsn; copy = old.copy; found = old.found };
    found = k.found;
  }
    where
      was_done : (o : Option DirtyEntry) → x.entry ≡ o → IsWritten (synced_entry o) → IsWritten o
      was_done None is done = tt
      was_done (Some e) is done = by e.since refl
        where
          by : (t : Option ℕ) → e.since ≡ t → e.since ≡ None
          by None nil = nil
          by (Some t) some = absurd (let c : IsWritten (Some (record { rec_lsn = t; since = Some t; copied = e.copied })) = (rw some at done) in cc c)

-- Pages is synced.
pub synced_kept : (b : Base) (s : Writer) → WriterKept b s → WriterKept b (synced s)
synced_kept b s k = record {
  rises = k.rises;
  front = k.front;
  points = k.points;
  copied = k.copied;
  exact = k.exact;
  over = k.over;
  first = λ empty p. rw (k.first empty p) refl;
  pages = λ p. page_synced b s p (s.pages p) (k.pages p);
}

-- ---- what is known of copies is forgotten

not_known : (o : Option DirtyEntry) (e : DirtyEntry) → forgotten_entry o ≡ Some e → (old : DirtyEntry) × (o ≡ Some old) × (record old { copied = false } ≡ e)
not_known None e is = absurd (cc is)
not_known (Some old) e is = (old, refl, let same : record old { copied = false } ≡ e = cc is in same)

still_written : (o : Option DirtyEntry) → IsWritten (forgotten_entry o) → IsWritten o
still_written None done = tt
still_written (Some e) done = done

pub still_none : (o : Option DirtyEntry) → forgotten_entry o ≡ None → o ≡ None
still_none None is = refl
still_none (Some e) is = absurd (cc is)

page_forgotten : (b : Base) (log durable : History) (point : ℕ) (redo_end : Option ℕ) (p : ℕ) (x : PageState) → PageKept b log durable point redo_end p x → PageKept b log durable point redo_end p (forgotten_page x)
page_forgotten b log durable point redo_end p x k = record {
  low = k.low;
  high = k.high;
  run = k.run;
  now = k.now;
  written = λ ready done. k.written ready (still_written x.entry done);
  clean = λ ready none. k.clean ready (still_none x.entry none);
  entry = λ e is. let (old, was, same) = not_known x.entry e is in let kept = k.entry old was in
      subst (λ (y : DirtyEntry). EntryKept b log durable point redo_end p (forgotten_page x) y) same (record {
        low = kept.low;
        high = kept.high;
        own = kept.own;
        untouched = λ untouched. let d = kept.untouched untouched in record { since = d.since; has = d.has };
        copy = kept.copy;
        copied = λ known. absurd (cc known);
        written = kept.written;
        older = kept.older;
        named = kept.named;
      });
  still = k.still;
  waiting = λ waits. let old = k.waiting waits in record { none = rw old.none refl; synced = old.synced; lsn = old.lsn; copy = old.copy; found = old.found };
  found = k.found;
}

-- No copy counts as known any more.
pub forgotten_kept : (b : Base) (s : Writer) → WriterKept b s → WriterKept b (forgotten s)
forgotten_kept b s k = record {
  rises = k.rises;
  front = k.front;
  points = k.points;
  copied = k.copied;
  exact = k.exact;
  over = k.over;
  first = λ empty p. rw (k.first empty p) refl;
  pages = λ p. page_forgotten b s.log s.durable s.point s.redo_end p (s.pages p) (k.pages p);
}

-- ---- what a flush needs

-- A frame with nothing left to be written may be dropped: a read gives the page back.
pub read_back : (b : Base) (s : Writer) (p : ℕ) → WriterKept b s → (s.pages p).waits ≡ false → IsWritten (s.pages p).entry → (s.pages p).reads ≡ Some (s.pages p).page
read_back b s p k ready done = (gone b s p (s.pages p) (k.pages p) (s.pages p).entry refl ready (leaves (s.pages p).entry done)).1
  where
    leaves : (o : Option DirtyEntry) → IsWritten o → synced_entry o ≡ None
    leaves None done = refl
    leaves (Some e) done = rw done refl

-- a write of one page leaves the next one's premises
pub may_after : (b : Base) (s : Writer) (p l q m : ℕ) → MayWrite b s p l → MayWrite b s q m → MayWrite b (written p l s) q m
may_after b s p l q m first next = record {
  ready = ready;
  durable = next.durable;
  copy = next.copy;
  low = next.low;
  high = next.high;
}
  where
    ready : (only p (written_page l) s.pages q).waits ≡ false
    ready = elim (cases_eq p q) [
      | inl here ↦ subst (λ (x : PageState). x.waits ≡ false) (sym (cond-true (p == q) (written_page l (s.pages q)) (s.pages q) (eq-eqb p q here))) next.ready
      | inr other ↦ subst (λ (x : PageState). x.waits ≡ false) (sym (cond-false (p == q) (written_page l (s.pages q)) (s.pages q) (ne_eqb p q other))) next.ready
    ]

-- a full copy at or after the redo point serves, whichever record holds it, in a log that has been forced
pub copy_serves : (b : Base) (s : Writer) (p l : ℕ) → s.durable ≡ s.log → HasCopy s.log p (redo_point s.log) → (s.pages p).waits ≡ false → redo_point s.log ≤ l → l ≤ end_of b s.log → MayWrite b s p l
copy_serves b s p l forced has ready low high = record {
  ready = ready;
  durable = forced;
  copy = subst (λ (d : History). HasCopy d p (redo_point s.log)) (sym forced) has;
  low = low;
  high = high;
}

-- the Image of this flush serves, in a log that has been forced
pub image_serves : (b : Base) (s : Writer) (newer f : History) (r : Logged) (c : Page) → WriterKept b s → s.durable ≡ s.log → newer ++ r ∷ f ≡ s.log → copy_in r.lsn r.what ≡ Some c
    → (s.pages r.page).waits ≡ false → redo_point s.log ≤ r.lsn → MayWrite b s r.page r.lsn
image_serves b s newer f r c k forced at holds ready low =
    copy_serves b s r.page r.lsn forced
    (copy_grows (r ∷ f) s.log r.page (redo_point s.log) (record { newer = newer; is = at }) (record { lsn = r.lsn; copy = c; is = noted_here (redo_point s.log) r f r.page c low refl holds }))
    ready low (end_le b (r ∷ f) s.log k.rises (record { newer = newer; is = at }))
