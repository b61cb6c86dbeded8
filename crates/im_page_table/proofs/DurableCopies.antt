-- Full copies that come no later than a page's last change, through the steps of a writer; and the write of such a page, whatever waits in the log.
use Rattle.std.proofs.Common.{◌≡◌, inl, inr, ◌⊎◌, ℕ, ◌<◌, ◌≤◌, [], ◌∷◌, ◌++◌, Bool, true, false, Option, None, Some, refl, sym, ◌∙◌, ap, subst, arith}
use Rattle.std.proofs.lemmas.Bool.{cases_eq, cases_lt}
use Rattle.im_base_types.specs.Pages.{Page}
use Rattle.im_base_types.specs.Records.{Logged}
use Rattle.im_theory_log.specs.Histories.{Base, History, IsFront, Rises, end_of, below, page_after, page_at}
use Rattle.im_theory_log.specs.Copies.{HasCopy, Reaches}
use Rattle.im_theory_log.specs.RedoPoints.{is_checkpoint, redo_point}
use Rattle.im_theory_log.specs.Writer.{DirtyEntry, EntryKept, IsLeft, PageKept, PageState, Writer, WriterKept}
use Rattle.im_theory_log.specs.WriterSteps.{ended, entry_since, is_copied, only, synced, synced_entry, written, written_entry, written_page}
use Rattle.im_theory_log.proofs.Cited.{copy_grows, after_lsn, below_newest, below_older, front_of_front, front_self, page_here, page_lsn_le, page_other, whole_below, reached_end, point_same, left_all, left_split, whole, only_kept}
use Rattle.im_page_table.specs.KnownCopies.{changed_as, changed_page_as, AreAbove, KnowsDurable}
use Rattle.im_page_table.proofs.OnePage.{only_here, only_other}

-- ---- the whole log

copy_at : (b : Base) (s : Writer) (p : ℕ) → WriterKept b s → is_copied (s.pages p).entry ≡ true → HasCopy s.log p (redo_point s.log)
copy_at b s p k known = by (s.pages p).entry refl
  where
    by : (o : Option DirtyEntry) → (s.pages p).entry ≡ o → HasCopy s.log p (redo_point s.log)
    by None is = absurd (let clash : false ≡ true = sym (ap is_copied is) ∙ known in cc clash)
    by (Some e) is = ((k.pages p).entry e is).copied (sym (ap is_copied is) ∙ known)

-- it has each copy that is known
whole_copy : (b : Base) (s : Writer) (p : ℕ) → WriterKept b s → is_copied (s.pages p).entry ≡ true → (left h : History) → left ≡ s.log → IsLeft left s.log h → HasCopy left p (redo_point h)
whole_copy b s p k known left h is w =
    let here : h ≡ s.log = left_all s.log h (subst (λ (x : History). IsLeft x s.log h) is w) in
    subst (λ (x : History). HasCopy x p (redo_point h)) (sym is) (subst (λ (x : History). HasCopy s.log p (redo_point x)) (sym here) (copy_at b s p k known))

-- where all of the log is durable
pub durable_whole : (b : Base) (s : Writer) → WriterKept b s → s.durable ≡ s.log → KnowsDurable s
durable_whole b s k all = λ e over p known late left w above h v.
    whole_copy b s p k known left h (left_all s.log left (subst (λ (x : History). IsLeft x s.log left) all w)) v

-- ---- redo

-- while it goes on
pub durable_redoing : (s : Writer) → s.redo_end ≡ None → KnowsDurable s
durable_redoing s going = λ e over. absurd (let clash : None ≡ Some e = sym going ∙ over in cc clash)

-- as it ends: no page was changed since
pub durable_ended : (b : Base) (s : Writer) → WriterKept b (ended b s) → KnowsDurable (ended b s)
durable_ended b s k = λ e over p known late. absurd (
    let run = (k.pages p).run e over in
    let is : (s.pages p).page ≡ page_at b s.log p = reached_end b s.log _ p (s.pages p).page run.1 ((k.pages p).now run.0) in
    let same : Some (end_of b s.log) ≡ Some e = over in
    let end : end_of b s.log ≡ e = cc same in
    omega (arith, end, late, ap (λ (g : Page). g.lsn) is, page_lsn_le b s.log p k.rises))

-- ---- steps that log nothing

-- no page is changed, and no copy known that was not
pub durable_same : (s t : Writer) → t.redo_end ≡ s.redo_end → t.log ≡ s.log → IsFront s.durable t.durable
    → ((p : ℕ) → is_copied (t.pages p).entry ≡ true → (is_copied (s.pages p).entry ≡ true) × ((t.pages p).page ≡ (s.pages p).page)) → KnowsDurable s → KnowsDurable t
durable_same s t over_same log front same k = λ e over p known late left w above h v.
    let is = same p known in
    let lsn : (t.pages p).page.lsn ≡ (s.pages p).page.lsn = ap (λ (g : Page). g.lsn) is.1 in
    k e (sym over_same ∙ over) p is.0 (subst (λ (n : ℕ). e < n) lsn late) left
    (record { from = front_of_front s.durable t.durable left front w.from; upto = record { newer = w.upto.newer; is = w.upto.is ∙ log } })
    (subst (λ (n : ℕ). AreAbove n w.upto.newer) lsn above) h (subst (λ (l : History). IsLeft left l h) log v)

pub durable_synced : (s : Writer) → KnowsDurable s → KnowsDurable (synced s)
durable_synced s k = durable_same s (synced s) refl refl (front_self s.durable) (λ p known. (by (s.pages p).entry known, refl)) k
  where
    since : (c : DirtyEntry) (o : Option ℕ) → is_copied (entry_since c.copied o) ≡ true → c.copied ≡ true
    since c None is = absurd (cc is)
    since c (Some l) is = is

    by : (o : Option DirtyEntry) → is_copied (synced_entry o) ≡ true → is_copied o ≡ true
    by None is = is
    by (Some e) is = since e e.since is

-- of no page is a copy known any more
pub durable_forgotten : (s : Writer) → ((p : ℕ) → is_copied (s.pages p).entry ≡ false) → KnowsDurable s
durable_forgotten s none = λ e over p known. absurd (let clash : false ≡ true = sym (none p) ∙ known in cc clash)

-- a page is written of which a copy is known
pub durable_written : (s : Writer) (p l : ℕ) → is_copied (s.pages p).entry ≡ true → KnowsDurable s → KnowsDurable (written p l s)
durable_written s p l known k = durable_same s (written p l s) refl refl (front_self s.durable) (λ q has. by q has) k
  where
    by : (q : ℕ) → is_copied (only p (written_page l) s.pages q).entry ≡ true → (is_copied (s.pages q).entry ≡ true) × ((only p (written_page l) s.pages q).page ≡ (s.pages q).page)
    by q has = elim (cases_eq p q) [
      | inl here ↦ (subst (λ (n : ℕ). is_copied (s.pages n).entry ≡ true) here known, ap (λ (x : PageState). x.page) (only_here (written_page l) s.pages p q here))
      | inr other ↦ let same = only_other (written_page l) s.pages p q other in (ap (λ (x : PageState). is_copied x.entry) (sym same) ∙ has, ap (λ (x : PageState). x.page) same)
    ]

-- ---- records

point_joined : (r : Logged) (log left : History) (p : ℕ) → is_checkpoint r.what ≡ false → IsFront left log → HasCopy left p (redo_point log) → HasCopy left p (redo_point (r ∷ log))
point_joined r [] left p plain front has = absurd (let grown : HasCopy [] p (redo_point []) = copy_grows left [] p (redo_point []) front has in cc grown.is)
point_joined r (t ∷ older) left p plain front has = subst (λ (m : ℕ). HasCopy left p m) (sym (point_same r t older plain)) has

-- A record that is no Checkpoint joins the log: each page of which a copy is known is changed by it, or is as it was, and the copy was known before.
pub durable_joined : (b : Base) (r : Logged) (s t : Writer) → WriterKept b t → t.redo_end ≡ s.redo_end → t.log ≡ r ∷ s.log → is_checkpoint r.what ≡ false → IsFront s.durable t.durable
    → ((p : ℕ) → is_copied (t.pages p).entry ≡ true → (r.lsn ≤ (t.pages p).page.lsn) ⊎ ((is_copied (s.pages p).entry ≡ true) × ((t.pages p).page ≡ (s.pages p).page))) → KnowsDurable s → KnowsDurable t
durable_joined b r s t kt over_same log plain front same k = λ e over p known late left w above h v. by e over p known late left w.from w.upto.newer w.upto.is above h v
  where
    by : (e : ℕ) → t.redo_end ≡ Some e → (p : ℕ) → is_copied (t.pages p).entry ≡ true → e < (t.pages p).page.lsn → (left : History) → IsFront t.durable left → (newer : History) → newer ++ left ≡ t.log
        → AreAbove (t.pages p).page.lsn newer → (h : History) → IsLeft left t.log h → HasCopy left p (redo_point h)
    by e over p known late left from [] is above h v = whole_copy b t p kt known left h is v
    by e over p known late left from (x ∷ newer) is above h v =
        let both : x ∷ newer ++ left ≡ r ∷ s.log = is ∙ log in
        let first : x ≡ r = cc both in
        let rest : newer ++ left ≡ s.log = cc both in
        elim (same p known) [
          | inl new ↦ absurd (let low : (t.pages p).page.lsn < x.lsn = above.0 in let at : x.lsn ≡ r.lsn = ap (λ (y : Logged). y.lsn) first in omega (arith, low, at, new))
          | inr old ↦
              let lsn : (t.pages p).page.lsn ≡ (s.pages p).page.lsn = ap (λ (g : Page). g.lsn) old.1 in
              let mine = k e (sym over_same ∙ over) p old.0 (subst (λ (n : ℕ). e < n) lsn late) left
              (record { from = front_of_front s.durable t.durable left front from; upto = record { newer = newer; is = rest } }) (subst (λ (n : ℕ). AreAbove n newer) lsn above.1) in
              let shorter : IsFront left s.log = record { newer = newer; is = rest } in
              left_split left s.log r (λ (g : History). HasCopy left p (redo_point g)) shorter (point_joined r s.log left p plain shorter (mine s.log (whole left s.log shorter))) mine h
              (subst (λ (l : History). IsLeft left l h) log v)
        ]

-- A record changes its page, and gives it its LSN.
pub durable_changed : (b : Base) (r : Logged) (s : Writer) (known : Bool) (durable : History) → WriterKept b (record (changed_as known r s) { durable = durable }) → is_checkpoint r.what ≡ false → IsFront s.durable durable
    → ((g : Page) → r.lsn ≤ (page_after r.lsn r.what g).lsn) → KnowsDurable s → KnowsDurable (record (changed_as known r s) { durable = durable })
durable_changed b r s known durable kt plain front gives k = durable_joined b r s (record (changed_as known r s) { durable = durable }) kt refl refl plain front (λ p has. by p has) k
  where
    by : (p : ℕ) → is_copied (only r.page (changed_page_as known r) s.pages p).entry ≡ true
        → (r.lsn ≤ (only r.page (changed_page_as known r) s.pages p).page.lsn) ⊎ ((is_copied (s.pages p).entry ≡ true) × ((only r.page (changed_page_as known r) s.pages p).page ≡ (s.pages p).page))
    by p has = elim (cases_eq r.page p) [
      | inl here ↦ inl (subst (λ (x : PageState). r.lsn ≤ x.page.lsn) (sym (only_here (changed_page_as known r) s.pages r.page p here)) (gives (s.pages p).page))
      | inr other ↦ let same = only_other (changed_page_as known r) s.pages r.page p other in inr (ap (λ (x : PageState). is_copied x.entry) (sym same) ∙ has, ap (λ (x : PageState). x.page) same)
    ]

-- ---- the write of a page whose last change and copy are durable

-- a page whose LSN is below a record's is as it was before that
before_record : (b : Base) (r : Logged) (log : History) (u p : ℕ) (g : Page) → Rises b (r ∷ log) → g.lsn < r.lsn → Reaches b (r ∷ log) u p g → Reaches b log u p g
before_record b r log u p g up low has = elim (cases_lt r.lsn has.upto) [
  | inl within ↦
      let all : g ≡ page_at b (r ∷ log) p = has.is ∙ ap (λ (l : History). page_at b l p) (below_newest has.upto r log within) in
      let last : end_of b log < r.lsn = up.1 in
      let same : below has.upto log ≡ log = whole_below b has.upto log (omega (arith, last, within)) in
      record { upto = has.upto; from = has.from; is = here all ∙ ap (λ (l : History). page_at b l p) (sym same) }
  | inr past ↦ record { upto = has.upto; from = has.from; is = has.is ∙ ap (λ (l : History). page_at b l p) (below_older has.upto r log past) }
]
  where
    here : g ≡ page_at b (r ∷ log) p → g ≡ page_at b log p
    here is = elim (cases_eq r.page p) [
      | inr other ↦ is ∙ page_other b r log p other
      | inl same ↦ elim (after_lsn r.lsn r.what) [
        | inl plain ↦ is ∙ page_here b r log p same ∙ plain (page_at b log p)
        | inr new ↦ absurd (let lsn : g.lsn ≡ r.lsn = ap (λ (x : Page). x.lsn) (is ∙ page_here b r log p same) ∙ new (page_at b log p) in omega (arith, lsn, low))
      ]
    ]

reaches_left : (b : Base) (durable newer : History) (u p : ℕ) (g : Page) → Rises b (newer ++ durable) → AreAbove g.lsn newer → Reaches b (newer ++ durable) u p g → (h : History) → IsLeft durable (newer ++ durable) h → Reaches b h u p g
reaches_left b durable [] u p g up above has h w = subst (λ (x : History). Reaches b x u p g) (sym (left_all durable h w)) has
reaches_left b durable (r ∷ newer) u p g up above has h w =
    left_split durable (newer ++ durable) r (λ (x : History). Reaches b x u p g) (record { newer = newer; is = refl }) has
    (reaches_left b durable newer u p g up.0 above.1 (before_record b r (newer ++ durable) u p g up above.0 has)) h w

module _ (b : Base) (s : Writer) (p l : ℕ) (x : DirtyEntry) (k : WriterKept b s) (ready : (s.pages p).waits ≡ false) (is : (s.pages p).entry ≡ Some x)
    (all : (h : History) → IsLeft s.durable s.log h → Reaches b h (s.pages p).upto p (s.pages p).page) (copy : (h : History) → IsLeft s.durable s.log h → HasCopy s.durable p (redo_point h)) where
  new_entry : (e : DirtyEntry) → Some (written_entry l (s.pages p).entry) ≡ Some e → record x { since = None; copied = true } ≡ e
  new_entry e same = ap (λ (o : Option DirtyEntry). written_entry l o) (sym is) ∙ (let here : written_entry l (s.pages p).entry ≡ e = cc same in here)

  page_early : PageKept b s.log s.durable s.point s.redo_end p (written_page l (s.pages p))
  page_early =
      let old = k.pages p in
      let was = old.entry x is in
      record {
        low = old.low;
        high = old.high;
        run = old.run;
        now = old.now;
        written = λ ready done h w. all h w;
        clean = λ ready none. absurd (cc none);
        entry = λ e same. subst (λ (y : DirtyEntry). EntryKept b s.log s.durable s.point s.redo_end p (written_page l (s.pages p)) y) (new_entry e same) (record {
          low = was.low;
          high = was.high;
          own = λ t some. absurd (cc some);
          untouched = λ untouched. absurd (cc untouched);
          copy = λ unsynced h w. copy h w;
          copied = λ known. copy_grows s.durable s.log p (redo_point s.log) k.front (copy s.log (whole s.durable s.log k.front));
          written = λ unsynced nil. refl;
          older = λ unsynced t some. absurd (cc some);
          named = was.named;
        });
        still = λ untouched. absurd (cc untouched);
        waiting = λ waits. absurd (let clash : true ≡ false = sym waits ∙ ready in cc clash);
        found = λ waits. absurd (let clash : true ≡ false = sym waits ∙ ready in cc clash);
      }

  early_by : WriterKept b (written p l s)
  early_by = record {
    rises = k.rises;
    front = k.front;
    points = k.points;
    copied = k.copied;
    exact = k.exact;
    over = k.over;
    first = λ empty. absurd (let clash : None ≡ Some x = sym (k.first empty p) ∙ is in cc clash);
    pages = only_kept (PageKept b s.log s.durable s.point s.redo_end) p (written_page l) s.pages k.pages page_early;
  }

-- It may be written though records wait: all that wait have LSNs above the page's.
pub early_kept : (b : Base) (s : Writer) (p l e : ℕ) → WriterKept b s → KnowsDurable s → s.redo_end ≡ Some e → is_copied (s.pages p).entry ≡ true → e < (s.pages p).page.lsn
    → (newer : History) → newer ++ s.durable ≡ s.log → AreAbove (s.pages p).page.lsn newer → WriterKept b (written p l s)
early_kept b s p l e k knows over known late newer at above = by (s.pages p).entry refl
  where
    run : ((s.pages p).waits ≡ false) × (end_of b s.log < (s.pages p).upto)
    run = (k.pages p).run e over

    all : (h : History) → IsLeft s.durable s.log h → Reaches b h (s.pages p).upto p (s.pages p).page
    all h w =
        reaches_left b s.durable newer (s.pages p).upto p (s.pages p).page (subst (λ (x : History). Rises b x) (sym at) k.rises) above
        (subst (λ (x : History). Reaches b x (s.pages p).upto p (s.pages p).page) (sym at) ((k.pages p).now run.0)) h (subst (λ (x : History). IsLeft s.durable x h) (sym at) w)

    copy : (h : History) → IsLeft s.durable s.log h → HasCopy s.durable p (redo_point h)
    copy = knows e over p known late s.durable (record { from = front_self s.durable; upto = record { newer = newer; is = at } }) above

    by : (o : Option DirtyEntry) → (s.pages p).entry ≡ o → WriterKept b (written p l s)
    by None is = absurd (let clash : false ≡ true = sym (ap is_copied is) ∙ known in cc clash)
    by (Some x) is = early_by b s p l x k run.0 is all copy
