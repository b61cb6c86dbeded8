-- What redo makes of pages by records in turn, and that they take these.
use Rattle.std.proofs.Common.{◌≡◌, ℕ, ◌+◌, ◌<◌, ◌≤◌, List, [], ◌∷◌, ◌++◌, Bool, Option, sym, ◌∙◌, ap, subst, arith, append_assoc}
use Rattle.std.specs.Prelude.{if◌then◌else◌}
use Rattle.im_base_types.specs.Pages.{Page}
use Rattle.im_base_types.specs.Records.{Logged, What, InsertKey, DeleteKey, UndoInsert, UndoDelete, Smo, UndoSmo, DummyClr, Commit, End, Image, Checkpoint, Unreadable}
use Rattle.im_theory_log.specs.Histories.{Base, History, Rises, end_of, page_at}
use Rattle.im_theory_log.specs.Copies.{Reaches, onto, redo_all, redo_one}
use Rattle.im_theory_log.specs.Writer.{Writer, WriterKept}
use Rattle.im_theory_log.specs.WriterSteps.{applies}
use Rattle.im_theory_log.proofs.Cited.{reaches_one, rises_in}
use Rattle.im_base_disk.specs.declared.disk.Disk.{Ghosts}
use Rattle.im_page_table.specs.Growth.{Keeps}
use Rattle.im_page_table.specs.KnownCopies.{redone_as}
use Rattle.im_page_rounds.specs.Hand.{AllTaken}
use Rattle.im_page_rounds.specs.OnePage.{PageTakes, PageTakes as TakesRecord}
use Rattle.im_page_rounds.specs.Rounds.{AreFrom, HaveHad, applied_of_all, redone_all}
use Rattle.im_page_writer.specs.declared.page_writer.PageWriter.{PageWriter}
use Rattle.im_page_rounds.proofs.Rounds.{onto_has}
use Rattle.im_restart_redo.specs.Redo.{AreApplicable, applied_in}
use Rattle.im_restart_redo.specs.Applying.{HasPassed, IsLsnBehind}
use Rattle.im_restart_redo.proofs.Applying.{applicable_at}
use Rattle.im_restart_redo.proofs.Counting.{applied_by, lsn_redone, one_counted}
use Rattle.im_restart_redo.proofs.Reached.{needs_record}

-- one word for both
takes_same : (w : What) (g : Page) → TakesRecord w g → PageTakes w g
takes_same (InsertKey k i) g is = is
takes_same (DeleteKey k i) g is = is
takes_same (UndoInsert k i) g is = is
takes_same (UndoDelete k i) g is = is
takes_same (Smo old new) g is = tt
takes_same (UndoSmo new) g is = tt
takes_same DummyClr g is = tt
takes_same Commit g is = tt
takes_same End g is = tt
takes_same (Image c) g is = tt
takes_same (Checkpoint n a d) g is = tt
takes_same Unreadable g is = tt

-- what records join lies under what they make
rises_under : (b : Base) (rs : List Logged) (f : History) → Rises b (onto rs f) → Rises b f
rises_under b rs f up = let (newer, is) = onto_has rs f in rises_in b f (onto rs f) (record { newer = newer; is = is }) up

module _ (b : Base) (first : ℕ → ℕ) (point : ℕ) where
  -- the LSNs of the pages
  pub lsns_after : (rs : List Logged) (f : History) (pages : ℕ → Page) → Rises b (onto rs f) → ((p : ℕ) → IsLsnBehind b (first p) f (pages p).lsn) → (p : ℕ) → IsLsnBehind b (first p) (onto rs f) (redo_all rs p (pages p)).lsn
  lsns_after [] f pages up is p = is p
  lsns_after (r ∷ rs) f pages up is p =
      let here = rises_under b rs (r ∷ f) up in
      lsns_after rs (r ∷ f) (λ q. redo_one r q (pages q)) up (λ q. lsn_redone b (first q) f r here.1 q (pages q) (is q)) p

  -- how many were applied
  pub counted_after : (rs : List Logged) (f : History) (pages : ℕ → Page) (count : ℕ) → Rises b (onto rs f) → AreFrom point rs → ((p : ℕ) → IsLsnBehind b (first p) f (pages p).lsn) → count ≡ applied_in first point f
      → count + applied_of_all rs pages ≡ applied_in first point (onto rs f)
  counted_after [] f pages count up from is counted = (let e : count + 0 ≡ count = omega arith in e) ∙ counted
  counted_after (r ∷ rs) f pages count up from is counted =
      let here = rises_under b rs (r ∷ f) up in
      let done : Bool = applies r r.page (pages r.page) in
      let one : count + (if done then 1 else 0) ≡ applied_in first point (r ∷ f) = one_counted first point r f done count from.0 (applied_by b (first r.page) f r here.1 (pages r.page) (is r.page)) counted in
      let rest = counted_after rs (r ∷ f) (λ q. redo_one r q (pages q)) (count + (if done then 1 else 0)) up from.1 (λ q. lsn_redone b (first q) f r here.1 q (pages q) (is q)) one in
      (let e : count + ((if done then 1 else 0) + applied_of_all rs (λ q. redo_one r q (pages q))) ≡ (count + (if done then 1 else 0)) + applied_of_all rs (λ q. redo_one r q (pages q)) = omega arith in e) ∙ rest

-- a page has had all records of a front
pub record HasReached (b : Base) (log f : History) (p : ℕ) (g : Page) : Type 0 where
  pub upto : ℕ
  pub past : end_of b f < upto
  pub is : Reaches b log upto p g

-- each record is taken where it stands: the one log has all records, and the other those that redo began with
taken_after : (b : Base) (rs : List Logged) (newer later f : History) (pages : ℕ → Page) → Rises b (newer ++ onto rs f) → AreApplicable b (later ++ onto rs f) → ((p : ℕ) → HasReached b (newer ++ onto rs f) f p (pages p)) → AllTaken rs pages
taken_after b [] newer later f pages up can has = tt
taken_after b (r ∷ rs) newer later f pages up can has =
    let (more, is) = onto_has rs (r ∷ f) in
    let log : newer ++ onto rs (r ∷ f) ≡ (newer ++ more) ++ r ∷ f = sym (append_assoc newer more (r ∷ f) ∙ ap (λ (h : History). newer ++ h) is) in
    let old : later ++ onto rs (r ∷ f) ≡ (later ++ more) ++ r ∷ f = sym (append_assoc later more (r ∷ f) ∙ ap (λ (h : History). later ++ h) is) in
    let up_here : Rises b ((newer ++ more) ++ r ∷ f) = subst (λ (h : History). Rises b h) log up in
    let can_here : AreApplicable b ((later ++ more) ++ r ∷ f) = subst (λ (h : History). AreApplicable b h) old can in
    let reached : (p : ℕ) → HasReached b ((newer ++ more) ++ r ∷ f) f p (pages p) = λ p. subst (λ (h : History). HasReached b h f p (pages p)) log (has p) in (
      λ needed.
          let at = reached r.page in
          subst (λ (g : Page). PageTakes r.what g) (needs_record b (newer ++ more) r f at.upto (pages r.page) up_here at.past at.is needed)
          (takes_same r.what (page_at b f r.page) (applicable_at b (later ++ more) r f can_here)),
      taken_after b rs newer later (r ∷ f) (λ q. redo_one r q (pages q)) up can (λ p. record {
        upto = r.lsn + 1;
        past = omega arith;
        is = subst (λ (h : History). Reaches b h (r.lsn + 1) p (redo_one r p (pages p))) (sym log) (let at = reached p in reaches_one b (newer ++ more) r f at.upto p (pages p) up_here at.past at.is);
      }),
    )

-- each page has had the records of the round
pub had_after : (b : Base) (known : ℕ → Bool) (rs : List Logged) (f : History) (s : Writer) → HaveHad b f s.pages → HaveHad b (onto rs f) (redone_all known rs s).pages
had_after b known [] f s had = had
had_after b known (r ∷ rs) f s had = had_after b known rs (r ∷ f) (redone_as (known r.page) r s) (λ p. ((had p).0, (let k : r.lsn < r.lsn + 1 = omega arith in k)))

pub had_keeps : (b : Base) (s t : Writer) (f : History) → Keeps b s t → HaveHad b f s.pages → HaveHad b f t.pages
had_keeps b s t f keeps had p = ((keeps.pages p).waits ∙ (had p).0, (let was : end_of b f < (s.pages p).upto = (had p).1 in let up : (s.pages p).upto ≤ (t.pages p).upto = (keeps.pages p).upto in omega (arith, was, up)))

module _ {D : Type 0} (d : Ghosts D) (b : Base) (base : ℕ) (begun : History) (file : ℕ → Option Page) (from : D) (w : PageWriter) (disk : D) (f : History) (so : HasPassed d b base begun file f from w disk)
    (after : History) (rs : List Logged) (split : after ++ onto rs f ≡ begun) where
  kept : WriterKept b so.now
  kept = so.within.stands.writing.stands.kept

  -- its records are taken
  pub round_taken : AreApplicable b begun → AllTaken rs (λ q. (so.now.pages q).page)
  round_taken can =
      let log : so.now.log ≡ (so.within.log.images ++ after) ++ onto rs f = so.within.log.is ∙ ap (λ (h : History). so.within.log.images ++ h) (sym split) ∙ sym (append_assoc so.within.log.images after (onto rs f)) in
      taken_after b rs (so.within.log.images ++ after) after f (λ q. (so.now.pages q).page) (subst (λ (h : History). Rises b h) log kept.rises) (subst (λ (h : History). AreApplicable b h) (sym split) can)
      (λ p. record { upto = (so.now.pages p).upto; past = (so.had p).1; is = subst (λ (h : History). Reaches b h (so.now.pages p).upto p (so.now.pages p).page) log ((kept.pages p).now (so.had p).0) })
