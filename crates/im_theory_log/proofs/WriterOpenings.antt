-- What a stop left is where the next opening begins; and Images that redo's evictions appended take nothing from its end.
use Rattle.std.proofs.Common.{◌≡◌, inl, inr, ℕ, ◌<◌, ◌≤◌, [], ◌∷◌, ◌++◌, false, refl, sym, ◌∙◌, ap, subst, arith, append_assoc, Option, None, Some}
use Rattle.std.proofs.lemmas.Bool.{cases_lt}
use Rattle.std.proofs.lemmas.List.{append_cancel_right}
use Rattle.im_theory_log.specs.Copies.{AreImages, Reaches, noted}
use Rattle.im_theory_log.specs.Histories.{Base, History, IsFront, Rises, below, end_of, page_after, page_at}
use Rattle.im_base_types.specs.Pages.{Page}
use Rattle.im_base_types.specs.Records.{What}
use Rattle.im_theory_log.specs.RedoPoints.{Covers, redo_point}
use Rattle.im_theory_log.specs.Writer.{IsLeft, LeavesPages, PageKept, PointKept, Writer, WriterKept}
use Rattle.im_theory_log.specs.WriterSteps.{ended, opened, opened_page, page_or}
use Rattle.im_theory_log.proofs.Histories.{below_newest, below_older, front_self, page_same, rises_in, whole_below}
use Rattle.im_theory_log.proofs.RedoPoints.{point_low}
use Rattle.im_theory_log.proofs.WriterCovers.{covers}
use Rattle.im_theory_log.proofs.WriterFronts.{left_all}
use Rattle.im_theory_log.proofs.WriterRedo.{ended_kept}

-- ---- the opening

module _ (b : Base) (log : History) (file : ℕ → Option Page) (up : Rises b log) (is : Covers b log file) where
  only_log : (P : History → Type 0) → P log → (h : History) → IsLeft log log h → P h
  only_log P here h w = subst P (sym (left_all log h w)) here

  page_opened : (p : ℕ) (o : Option (ℕ × Page)) → noted (redo_point log) log p ≡ o → PageKept b log log (redo_point log) None p (opened_page (b.pages p) (redo_point log) o (file p))
  page_opened p (Some x) noted_is = record {
    low = λ ready. omega arith;
    high = (let low : redo_point log ≤ end_of b log = point_low b log up in omega (arith, low));
    run = λ q some. absurd (cc some);
    now = λ ready. absurd (cc ready);
    written = λ ready. absurd (cc ready);
    clean = λ ready. absurd (cc ready);
    entry = λ e some. absurd (cc some);
    still = λ untouched. refl;
    waiting = λ waits. record { none = refl; synced = refl; lsn = x.0; copy = x.1; found = refl };
    found = λ waits. only_log (λ (h : History). noted (redo_point log) h p ≡ Some x) noted_is;
  }
  page_opened p None noted_is =
      let read = is.read p noted_is in
      let page : page_or (file p) (b.pages p) ≡ read.page = ap (λ (o : Option Page). page_or o (b.pages p)) read.here in
      let has : Reaches b log (redo_point log) p (page_or (file p) (b.pages p)) = subst (λ (g : Page). Reaches b log (redo_point log) p g) (sym page) read.reaches in
      record {
        low = λ ready. omega arith;
        high = (let low : redo_point log ≤ end_of b log = point_low b log up in omega (arith, low));
        run = λ q some. absurd (cc some);
        now = λ ready. has;
        written = λ ready done. only_log (λ (h : History). Reaches b h (redo_point log) p (page_or (file p) (b.pages p))) has;
        clean = λ ready none. (refl, read.here ∙ ap (λ (g : Page). Some g) (sym page));
        entry = λ e some. absurd (cc some);
        still = λ untouched. refl;
        waiting = λ waits. absurd (cc waits);
        found = λ waits. absurd (cc waits);
      }

  -- An opening begins with the invariant, on whatever is covered
  pub opened_kept : WriterKept b (opened b log file)
  opened_kept = record {
    rises = up;
    front = front_self log;
    points = only_log (λ (h : History). PointKept b (redo_point log) None h) (record { high = point_low b log up; own = inl refl });
    copied = only_log (λ (h : History). (p l : ℕ) (c : Page) → noted (redo_point h) h p ≡ Some (l, c) → Reaches b h (redo_point h) p c) is.copied;
    exact = λ q some. absurd (cc some);
    first = λ empty p. refl;
    over = λ q some. absurd (cc some);
    pages = λ p. page_opened p (noted (redo_point log) log p) refl;
  }

-- Whatever a stop leaves, the next opening begins with the invariant: an opening that is itself stopped is no special case
pub reopened : (b : Base) (s : Writer) → WriterKept b s → (file : ℕ → Option Page) → LeavesPages s file → (h : History) → IsLeft s.durable s.log h → WriterKept b (opened b h file)
reopened b s k file left h w =
    opened_kept b h file (rises_in b h s.log w.upto k.rises) (covers b s k file left h w)

-- ---- the end of redo

-- only Images came after a front: a page that has had all of that front is as the longer log has it
trailing : (b : Base) (newer begun : History) (n p : ℕ) → AreImages b newer begun → end_of b begun < n → page_at b (below n (newer ++ begun)) p ≡ page_at b (newer ++ begun) p
trailing b [] begun n p images past = ap (λ (l : History). page_at b l p) (whole_below b n begun past)
trailing b (r ∷ newer) begun n p images past = elim (cases_lt r.lsn n) [
  | inl under ↦ ap (λ (l : History). page_at b l p) (below_newest n r (newer ++ begun) under)
  | inr over ↦ ap (λ (l : History). page_at b l p) (below_older n r (newer ++ begun) over)
      ∙ trailing b newer begun n p images.1 past
      ∙ sym (page_same b r (newer ++ begun) (λ g. ap (λ (w : What). page_after r.lsn w g) images.0.what) p)
]

older_images : (b : Base) (z y begun : History) → AreImages b (z ++ y) begun → AreImages b y begun
older_images b [] y begun all = all
older_images b (r ∷ z) y begun all = older_images b z y begun all.1

-- Redo's end, as restart has it: its calls appended Images alone, and each page has had all of the log that the opening found
pub redo_ends : (b : Base) (s : Writer) (begun images : History) → WriterKept b s → s.redo_end ≡ None → ((p : ℕ) → (s.pages p).waits ≡ false)
    → s.log ≡ images ++ begun → AreImages b images begun → IsFront begun s.durable → ((p : ℕ) → end_of b begun < (s.pages p).upto) → WriterKept b (ended b s)
redo_ends b s begun images k going ready grown all front past = ended_kept b s k going ready last
  where
    last : (p : ℕ) (h : History) (g : Page) → IsLeft s.durable s.log h → Reaches b h (s.pages p).upto p g → g ≡ page_at b h p
    last p h g w has =
        let y : History = w.from.newer ++ front.newer in
        let at : (w.from.newer ++ front.newer) ++ begun ≡ h = append_assoc w.from.newer front.newer begun ∙ ap (λ (l : History). w.from.newer ++ l) front.is ∙ w.from.is in
        let both : (w.upto.newer ++ (w.from.newer ++ front.newer)) ++ begun ≡ images ++ begun = append_assoc w.upto.newer (w.from.newer ++ front.newer) begun ∙ ap (λ (l : History). w.upto.newer ++ l) at ∙ w.upto.is ∙ grown in
        let same : w.upto.newer ++ (w.from.newer ++ front.newer) ≡ images = append_cancel_right (w.upto.newer ++ (w.from.newer ++ front.newer)) images begun both in
        let part : AreImages b (w.from.newer ++ front.newer) begun = older_images b w.upto.newer (w.from.newer ++ front.newer) begun (subst (λ (l : History). AreImages b l begun) (sym same) all) in
        let past_p : end_of b begun < (s.pages p).upto = past p in
        let le : (s.pages p).upto ≤ has.upto = has.from in
        has.is ∙ subst (λ (l : History). page_at b (below has.upto l) p ≡ page_at b l p) at (trailing b (w.from.newer ++ front.newer) begun has.upto p part (omega (arith, past_p, le)))
