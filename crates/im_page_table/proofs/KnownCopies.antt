-- Full copies that are known of pages without an entry, through the steps of a writer.
use Rattle.std.proofs.Common.{◌≡◌, inl, inr, ℕ, ◌<◌, ◌≤◌, [], ◌∷◌, ◌++◌, Bool, true, false, refl, sym, ◌∙◌, ap, subst, arith, Option, None, Some, ◌==◌, if◌then◌else◌, nat_le}
use Rattle.std.proofs.lemmas.Bool.{cases_eq, cond-true, cond-false, ne_eqb}
use Rattle.im_base_types.specs.Pages.{Page}
use Rattle.im_base_types.specs.Records.{Logged, What}
use Rattle.im_theory_log.specs.Histories.{Base, History, IsFront, Rises, end_of, page_at, changes_page}
use Rattle.im_theory_log.specs.Copies.{AreImages, GrowsByImages, HasCopy}
use Rattle.im_theory_log.specs.RedoPoints.{is_checkpoint, redo_point}
use Rattle.im_theory_log.specs.Writer.{DirtyEntry, EntryKept, IsLeft, IsAfterRedo, IsWritten, PageKept, PageState, Writer, WriterKept}
use Rattle.im_theory_log.specs.WriterSteps.{changed, changed_entry, changed_page, ended, entry_since, forced, holds_copy, only, passed, synced, synced_entry, written, written_page, applies, at_point, is_copied, redone, redone_page}
use Rattle.im_theory_log.proofs.Cited.{copy_grows, front_of_front, page_lsn_le, reached_end, point_same, left_split, whole, left_grown}
use Rattle.im_page_table.specs.KnownCopies.{changed_as, changed_page_as, checkpoint_lsn, IsAtOrAfter, IsKnownFrom, KnowsCopies, or_from, redone_as, redone_page_as, every_page}
use Rattle.im_page_table.proofs.OnePage.{only_here, only_other}

-- ---- the last Checkpoint

pub plain_checkpoint : (r : Logged) (older : History) → is_checkpoint r.what ≡ false → checkpoint_lsn (r ∷ older) ≡ checkpoint_lsn older
plain_checkpoint r older plain = cond-false (is_checkpoint r.what) r.lsn (checkpoint_lsn older) plain

images_checkpoint : (b : Base) (images older : History) → AreImages b images older → checkpoint_lsn (images ++ older) ≡ checkpoint_lsn older
images_checkpoint b [] older all = refl
images_checkpoint b (r ∷ images) older all = plain_checkpoint r (images ++ older) (ap (λ (w : What). is_checkpoint w) all.0.what) ∙ images_checkpoint b images older all.1

grown_checkpoint : (b : Base) (older longer : History) → GrowsByImages b older longer → checkpoint_lsn longer ≡ checkpoint_lsn older
grown_checkpoint b older longer grows = ap checkpoint_lsn grows.is ∙ images_checkpoint b grows.images older grows.all

checkpoint_low : (b : Base) (log : History) → Rises b log → checkpoint_lsn log ≤ end_of b log
checkpoint_low b [] up = omega arith
checkpoint_low b (r ∷ older) up = by (checkpoint_low b older up.0) (is_checkpoint r.what) refl
  where
    by : checkpoint_lsn older ≤ end_of b older → (t : Bool) → is_checkpoint r.what ≡ t → checkpoint_lsn (r ∷ older) ≤ r.lsn
    by low true is = omega (arith, cond-true (is_checkpoint r.what) r.lsn (checkpoint_lsn older) is)
    by low false is = omega (arith, plain_checkpoint r older is, low, up.1)

-- ---- from which LSN on copies are known

known_by : (s t : Writer) (from : Option ℕ) → t.redo_end ≡ s.redo_end → checkpoint_lsn t.log ≡ checkpoint_lsn s.log → IsKnownFrom s from → IsKnownFrom t from
known_by s t None same log is = tt
known_by s t (Some n) same log is = record { redo_end = is.redo_end; over = same ∙ is.over; ended = is.ended; checkpoint = omega (arith, log, is.checkpoint) }

pub known_same : (s t : Writer) (from : Option ℕ) → t.redo_end ≡ s.redo_end → t.log ≡ s.log → IsKnownFrom s from → IsKnownFrom t from
known_same s t from same log is = known_by s t from same (ap checkpoint_lsn log) is

pub known_grown : (b : Base) (s t : Writer) (from : Option ℕ) → t.redo_end ≡ s.redo_end → GrowsByImages b s.log t.log → IsKnownFrom s from → IsKnownFrom t from
known_grown b s t from same grows is = known_by s t from same (grown_checkpoint b s.log t.log grows) is

-- after a record that is no Checkpoint
pub known_more : (r : Logged) (s t : Writer) (from : Option ℕ) → t.redo_end ≡ s.redo_end → t.log ≡ r ∷ s.log → is_checkpoint r.what ≡ false → IsKnownFrom s from → IsKnownFrom t from
known_more r s t from same log plain is = known_by s t from same (ap checkpoint_lsn log ∙ plain_checkpoint r s.log plain) is

-- and from its own LSN on, where none was known before
pub known_first : (b : Base) (r : Logged) (s t : Writer) (e : ℕ) (from : Option ℕ) → WriterKept b s → s.redo_end ≡ Some e → t.redo_end ≡ s.redo_end → t.log ≡ r ∷ s.log → is_checkpoint r.what ≡ false → end_of b s.log < r.lsn → IsKnownFrom s from
    → IsKnownFrom t (or_from from r.lsn)
known_first b r s t e (Some n) k over same log plain last is = known_more r s t (Some n) same log plain is
known_first b r s t e None k over same log plain last is = record {
  redo_end = e;
  over = same ∙ over;
  ended = let high : e ≤ end_of b s.log = (k.over e over).1 in omega (arith, high, last);
  checkpoint = omega (arith, ap checkpoint_lsn log, plain_checkpoint r s.log plain, checkpoint_low b s.log k.rises, last);
}

-- while redo goes on none is, and so after it
pub known_ended : (s t : Writer) (from : Option ℕ) → s.redo_end ≡ None → IsKnownFrom s from → IsKnownFrom t from
known_ended s t None going is = tt
known_ended s t (Some n) going is = absurd (let clash : None ≡ Some is.redo_end = sym going ∙ is.over in cc clash)

-- ---- copies that are known

-- while redo goes on none is
pub knows_redoing : (s : Writer) → s.redo_end ≡ None → KnowsCopies s
knows_redoing s going = record { copies = λ e over. absurd (let clash : None ≡ Some e = sym going ∙ over in cc clash) }

-- a longer front of the log is durable
pub knows_grown : (s : Writer) (more : History) → IsFront s.durable more → KnowsCopies s → KnowsCopies (record s { durable = more })
knows_grown s more f k = record { copies = λ e over p none late later h w. copy_grows s.durable more p (redo_point h) f (k.copies e over p none late later h (left_grown s.durable more s.log h f w)) }

pub knows_forced : (s : Writer) → IsFront s.durable s.log → KnowsCopies s → KnowsCopies (forced s)
knows_forced s f k = record { copies = λ e over p none late later h w. copy_grows s.durable s.log p (redo_point h) f (k.copies e over p none late later h (left_grown s.durable s.log s.log h f w)) }

pub knows_written : (s : Writer) (p l : ℕ) → KnowsCopies s → KnowsCopies (written p l s)
knows_written s p l k = record {
  copies = λ e over q. elim (cases_eq p q) [
    | inl here ↦ λ none. absurd (let clash : Some _ ≡ None = sym (ap (λ (x : PageState). x.entry) (only_here (written_page l) s.pages p q here)) ∙ none in cc clash)
    | inr other ↦ subst (λ (x : PageState). x.entry ≡ None → e < x.page.lsn → checkpoint_lsn s.log < x.page.lsn → (h : History) → IsLeft s.durable s.log h → HasCopy s.durable q (redo_point h)) (sym (only_other (written_page l) s.pages p q other)) (k.copies e over q)
  ];
}

pub knows_synced : (b : Base) (s : Writer) → WriterKept b s → KnowsCopies s → KnowsCopies (synced s)
knows_synced b s kept k = record { copies = λ e over p none late later h w. by p (s.pages p).entry refl none e over late later h w }
  where
    gone : (x : DirtyEntry) → entry_since x.copied x.since ≡ None → x.since ≡ None
    gone x none = from x.since none
      where
        from : (o : Option ℕ) → entry_since x.copied o ≡ None → o ≡ None
        from None is = refl
        from (Some l) is = absurd (cc is)

    by : (p : ℕ) (o : Option DirtyEntry) → (s.pages p).entry ≡ o → synced_entry (s.pages p).entry ≡ None → (e : ℕ) → s.redo_end ≡ Some e → e < (s.pages p).page.lsn → checkpoint_lsn s.log < (s.pages p).page.lsn → (h : History) → IsLeft s.durable s.log h → HasCopy s.durable p (redo_point h)
    by p None is none e over late later h w = k.copies e over p is late later h w
    by p (Some x) is none e over late later h w =
        let old : EntryKept b s.log s.durable s.point s.redo_end p (s.pages p) x = (kept.pages p).entry x is in
        let since : x.since ≡ None = gone x (ap synced_entry (sym is) ∙ none) in
        wet (s.pages p).unsynced refl old since
      where
        wet : (t : Bool) → (s.pages p).unsynced ≡ t → EntryKept b s.log s.durable s.point s.redo_end p (s.pages p) x → x.since ≡ None → HasCopy s.durable p (redo_point h)
        wet true unsynced old since = old.copy unsynced h w
        wet false untouched old since = absurd (let clash : None ≡ Some x.rec_lsn = sym since ∙ (old.untouched untouched).since in cc clash)

-- ---- records

module _ (b : Base) (s : Writer) (r : Logged) (kept : WriterKept b s) (k : KnowsCopies s) (last : end_of b s.log < r.lsn) where
  -- the page as the log has it
  lsn_low : (e : ℕ) → s.redo_end ≡ Some e → (p : ℕ) → (s.pages p).page.lsn ≤ end_of b s.log
  lsn_low e over p =
      let run = (kept.pages p).run e over in
      let is : (s.pages p).page ≡ page_at b s.log p = reached_end b s.log (s.pages p).upto p (s.pages p).page run.1 ((kept.pages p).now run.0) in
      omega (arith, ap (λ (g : Page). g.lsn) is, page_lsn_le b s.log p kept.rises)

  nothing : (p m : ℕ) → HasCopy [] p m → ⊥
  nothing p m has = cc has.is

  -- pages that have no entry then had none before, and are as they were
  pub knows_joined : (pages : ℕ → PageState) → ((p : ℕ) → (pages p).entry ≡ None → ((s.pages p).entry ≡ None) × ((pages p).page ≡ (s.pages p).page)) → KnowsCopies (record s { log = r ∷ s.log; pages = pages })
  knows_joined pages same = record {
    copies = λ e over p none late later.
        let is = same p none in
        by (is_checkpoint r.what) refl e over p is.0 (subst (λ (g : Page). e < g.lsn) is.1 late) (subst (λ (g : Page). checkpoint_lsn (r ∷ s.log) < g.lsn) is.1 later);
  }
    where
      by : (t : Bool) → is_checkpoint r.what ≡ t → (e : ℕ) → s.redo_end ≡ Some e → (p : ℕ) → (s.pages p).entry ≡ None → e < (s.pages p).page.lsn → checkpoint_lsn (r ∷ s.log) < (s.pages p).page.lsn
          → (h : History) → IsLeft s.durable (r ∷ s.log) h → HasCopy s.durable p (redo_point h)
      by true is e over p none late later h w = absurd (omega (arith, cond-true (is_checkpoint r.what) r.lsn (checkpoint_lsn s.log) is, lsn_low e over p, later, last))
      by false plain e over p none late later h w =
          let old = k.copies e over p none late (omega (arith, plain_checkpoint r s.log plain, later)) in
          left_split s.durable s.log r (λ (h : History). HasCopy s.durable p (redo_point h)) kept.front (now s.log refl old) old h w
        where
          now : (log : History) → s.log ≡ log → ((h : History) → IsLeft s.durable s.log h → HasCopy s.durable p (redo_point h)) → HasCopy s.durable p (redo_point (r ∷ s.log))
          now (t ∷ older) is old = subst (λ (m : ℕ). HasCopy s.durable p m) (sym (subst (λ (l : History). redo_point (r ∷ l) ≡ redo_point l) (sym is) (point_same r t older plain))) (old s.log (whole s.durable s.log kept.front))
          now [] is old = absurd (nothing p (redo_point s.log) (subst (λ (l : History). HasCopy l p (redo_point s.log)) is (copy_grows s.durable s.log p (redo_point s.log) kept.front (old s.log (whole s.durable s.log kept.front)))))

  -- a copy that is known serves after the record too
  pub known_copy : (e : ℕ) → s.redo_end ≡ Some e → is_checkpoint r.what ≡ false → (p : ℕ) → (s.pages p).entry ≡ None → (from : Option ℕ) → IsKnownFrom s from → IsAtOrAfter from (s.pages p).page.lsn
      → HasCopy (r ∷ s.log) p (redo_point (r ∷ s.log))
  known_copy e over plain p none None is low = absurd low
  known_copy e over plain p none (Some n) is low =
      let more = knows_joined s.pages (λ q none. (none, refl)) in
      copy_grows s.durable (r ∷ s.log) p (redo_point (r ∷ s.log)) (front_then)
      (more.copies e over p none (let same : Some e ≡ Some is.redo_end = sym over ∙ is.over in let here : e ≡ is.redo_end = cc same in omega (arith, here, is.ended, low)) (omega (arith, plain_checkpoint r s.log plain, is.checkpoint, low)) (r ∷ s.log) (record { from = front_then; upto = record { newer = []; is = refl } }))
    where
      front_then : IsFront s.durable (r ∷ s.log)
      front_then = front_of_front s.durable s.log (r ∷ s.log) kept.front (record { newer = r ∷ []; is = refl })

-- a change of one page leaves it an entry
pub others_none : (f : PageState → PageState) (p l : ℕ) (pages : ℕ → PageState) → ((x : PageState) → (f x).entry ≡ None → ⊥) → (q : ℕ) → (passed l (only p f pages q)).entry ≡ None
    → ((pages q).entry ≡ None) × ((passed l (only p f pages q)).page ≡ (pages q).page)
others_none f p l pages some q none = elim (cases_eq p q) [
  | inl here ↦ absurd (some (pages q) (ap (λ (x : PageState). x.entry) (sym (only_here f pages p q here)) ∙ none))
  | inr other ↦ let same = only_other f pages p q other in (ap (λ (x : PageState). x.entry) (sym same) ∙ none, ap (λ (x : PageState). x.page) same)
]

-- redo is over: no page was changed since
pub knows_ended : (b : Base) (s : Writer) → WriterKept b (ended b s) → KnowsCopies (ended b s)
knows_ended b s kept = record {
  copies = λ e over p none late. absurd (
      let run = (kept.pages p).run e over in
      let is : (s.pages p).page ≡ page_at b s.log p = reached_end b s.log _ p (s.pages p).page run.1 ((kept.pages p).now run.0) in
      let same : Some (end_of b s.log) ≡ Some e = over in
      let end : end_of b s.log ≡ e = cc same in
      omega (arith, end, late, ap (λ (g : Page). g.lsn) is, page_lsn_le b s.log p kept.rises));
}

-- ---- a change of which a full copy is known keeps what a writer keeps

told_entry : (k : Bool) (l : ℕ) (o : Option DirtyEntry) → record (changed_entry k l o) { copied = true } ≡ changed_entry true l o
told_entry k l None = refl
told_entry k l (Some e) = refl

pub told_page : (b : Base) (log durable : History) (point : ℕ) (redo_end : Option ℕ) (p : ℕ) (y : PageState) (e : DirtyEntry) → y.entry ≡ Some e → HasCopy log p (redo_point log) → PageKept b log durable point redo_end p y
    → PageKept b log durable point redo_end p (record y { entry = Some (record e { copied = true }) })
told_page b log durable point redo_end p y e is has k =
    let old = k.entry e is in
    record {
      low = k.low;
      high = k.high;
      run = k.run;
      now = k.now;
      written = λ ready done. k.written ready (subst IsWritten (sym is) done);
      clean = λ ready none. absurd (cc none);
      entry = λ x same.
          let here : record e { copied = true } ≡ x = cc same in
          subst (λ (x : DirtyEntry). EntryKept b log durable point redo_end p (record y { entry = Some (record e { copied = true }) }) x) here (record {
            low = old.low;
            high = old.high;
            own = λ l some. let o = old.own l some in record { from = o.from; high = o.high; own = o.own };
            untouched = λ still. let u = old.untouched still in record { since = u.since; has = u.has };
            copy = old.copy;
            copied = λ known. has;
            written = old.written;
            older = old.older;
            named = old.named;
          });
      still = k.still;
      waiting = λ waits. absurd (let clash : None ≡ Some e = sym (k.waiting waits).none ∙ is in cc clash);
      found = k.found;
    }

changed_told : (b : Base) (s : Writer) (r : Logged) → HasCopy (r ∷ s.log) r.page (redo_point (r ∷ s.log)) → WriterKept b (changed r s) → WriterKept b (changed_as true r s)
changed_told b s r has k = record {
  rises = k.rises;
  front = k.front;
  points = λ h w. let x = k.points h w in record { high = x.high; own = x.own };
  copied = k.copied;
  exact = k.exact;
  first = λ empty. absurd (cc empty);
  over = k.over;
  pages = λ p. elim (cases_eq r.page p) [
    | inl here ↦
        let old : PageKept b (r ∷ s.log) s.durable s.point s.redo_end p (passed r.lsn (changed_page r (s.pages p))) =
        subst (λ (x : PageState). PageKept b (r ∷ s.log) s.durable s.point s.redo_end p (passed r.lsn x)) (only_here (changed_page r) s.pages r.page p here) (k.pages p) in
        subst (λ (x : PageState). PageKept b (r ∷ s.log) s.durable s.point s.redo_end p (passed r.lsn x)) (sym (only_here (changed_page_as true r) s.pages r.page p here))
        (subst (λ (x : DirtyEntry). PageKept b (r ∷ s.log) s.durable s.point s.redo_end p (record (passed r.lsn (changed_page r (s.pages p))) { entry = Some x })) (told_entry (holds_copy r.what) r.lsn (s.pages p).entry)
        (told_page b (r ∷ s.log) s.durable s.point s.redo_end p (passed r.lsn (changed_page r (s.pages p))) (changed_entry (holds_copy r.what) r.lsn (s.pages p).entry) refl
        (subst (λ (n : ℕ). HasCopy (r ∷ s.log) n (redo_point (r ∷ s.log))) here has) old))
    | inr other ↦
        subst (λ (x : PageState). PageKept b (r ∷ s.log) s.durable s.point s.redo_end p (passed r.lsn x)) (sym (only_other (changed_page_as true r) s.pages r.page p other))
        (subst (λ (x : PageState). PageKept b (r ∷ s.log) s.durable s.point s.redo_end p (passed r.lsn x)) (only_other (changed_page r) s.pages r.page p other) (k.pages p))
  ];
}

pub changed_as_kept : (b : Base) (s : Writer) (r : Logged) (known : Bool) → holds_copy r.what ≡ false → (known ≡ true → HasCopy (r ∷ s.log) r.page (redo_point (r ∷ s.log))) → WriterKept b (changed r s) → WriterKept b (changed_as known r s)
changed_as_kept b s r true plain has k = changed_told b s r (has refl) k
changed_as_kept b s r false plain has k = subst (λ (t : Bool). WriterKept b (changed_as t r s)) plain k

-- ---- redo goes past a record, of whose page a full copy is known

-- while redo goes on, the redo point is the one that the life began at
pub redo_copy : (b : Base) (s : Writer) (p : ℕ) → WriterKept b s → s.redo_end ≡ None → HasCopy s.durable p s.point → HasCopy s.log p (redo_point s.log)
redo_copy b s p k going has = subst (λ (m : ℕ). HasCopy s.log p m) (sym point) (copy_grows s.durable s.log p s.point k.front has)
  where
    point : redo_point s.log ≡ s.point
    point = elim (k.points s.log (whole s.durable s.log k.front)).own [
      | inl same ↦ same
      | inr after ↦ absurd (subst (λ (o : Option ℕ). IsAfterRedo o (redo_point s.log)) going after)
    ]

applied_there : (r : Logged) (q : ℕ) (g : Page) → applies r q g ≡ true → r.page ≡ q
applied_there r q g is = elim (cases_eq r.page q) [
  | inl here ↦ here
  | inr other ↦ absurd (let no_page = cond-false (r.page == q) (if nat_le r.lsn g.lsn then false else changes_page r.what) false (ne_eqb r.page q other) in let clash : false ≡ true = sym no_page ∙ is in cc clash)
]

redone_told : (b : Base) (s : Writer) (r : Logged) → HasCopy s.log r.page (redo_point s.log) → WriterKept b (redone r every_page s) → WriterKept b (redone_as true r s)
redone_told b s r has k = record {
  rises = k.rises;
  front = k.front;
  points = λ h w. let x = k.points h w in record { high = x.high; own = x.own };
  copied = k.copied;
  exact = k.exact;
  first = λ empty. absurd (let copy = subst (λ (l : History). HasCopy l r.page (redo_point s.log)) empty has in cc copy.is);
  over = k.over;
  pages = λ q. by q (applies r q (s.pages q).page) refl;
}
  where
    kept : (q : ℕ) (o : Option DirtyEntry) → Type 0
    kept q o = PageKept b s.log s.durable s.point s.redo_end q (record (redone_page s.point r q (s.pages q)) { entry = o })

    by : (q : ℕ) (t : Bool) → applies r q (s.pages q).page ≡ t → PageKept b s.log s.durable s.point s.redo_end q (redone_page_as true s.point r q (s.pages q))
    by q true is =
        let e = at_point (is_copied (s.pages q).entry) s.point in
        let was : (redone_page s.point r q (s.pages q)).entry ≡ Some e = cond-true (applies r q (s.pages q).page) (Some e) (s.pages q).entry is in
        subst (kept q) (sym (cond-true (applies r q (s.pages q).page) (Some (at_point true s.point)) (s.pages q).entry is))
        (told_page b s.log s.durable s.point s.redo_end q (redone_page s.point r q (s.pages q)) e was (subst (λ (n : ℕ). HasCopy s.log n (redo_point s.log)) (applied_there r q (s.pages q).page is) has) (k.pages q))
    by q false is =
        let e = at_point (is_copied (s.pages q).entry) s.point in
        subst (kept q)
        (cond-false (applies r q (s.pages q).page) (Some e) (s.pages q).entry is ∙ sym (cond-false (applies r q (s.pages q).page) (Some (at_point true s.point)) (s.pages q).entry is))
        (k.pages q)

pub redone_as_kept : (b : Base) (s : Writer) (r : Logged) (known : Bool) → (known ≡ true → HasCopy s.log r.page (redo_point s.log)) → WriterKept b (redone r every_page s) → WriterKept b (redone_as known r s)
redone_as_kept b s r true has k = redone_told b s r (has refl) k
redone_as_kept b s r false has k = k
