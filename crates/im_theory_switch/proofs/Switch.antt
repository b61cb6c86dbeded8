-- What a switch of logs keeps.
use Rattle.std.proofs.Common.{◌≡◌, inl, ◌+◌, ◌<◌, ◌≤◌, ℕ, [], true, false, refl, sym, ◌∙◌, ap, subst, arith, None, Some, append-nil}
use Rattle.std.specs.FinMap.{empty}
use Rattle.im_base_types.proofs.Changes.{apply_all_append, apply_all_seen}
use Rattle.im_base_types.specs.Changes.{apply_all, seen}
use Rattle.im_base_types.specs.Maps.{IndexMap}
use Rattle.im_base_types.specs.Pages.{Page}
use Rattle.im_theory_log.specs.Copies.{noted, Reaches}
use Rattle.im_theory_log.specs.Histories.{Base, History, Rises, end_of, page_at}
use Rattle.im_theory_log.specs.RedoPoints.{redo_point}
use Rattle.im_theory_log.specs.Transactions.{committed}
use Rattle.im_theory_log.specs.Tree.{Tree}
use Rattle.im_theory_log.specs.Writer.{IsLeft, PageKept, PointKept, Writer, WriterKept}
use Rattle.im_theory_log.proofs.Cited.{rises, front_self, page_lsn_le, whole_below, finished_tree, count_low, page_count_le, covers_base, left_all}
use Rattle.im_theory_switch.specs.Switch.{base_after, StandsSwitched, Switches, CountsGoOn, switched, switched_page, WriterSwitches}

-- no page has an LSN after the place
pub lsns_low : (b : Base) (log : History) (place : ℕ) → Rises b log → end_of b log ≤ place → (p : ℕ) → (page_at b log p).lsn ≤ place
lsns_low b log place up high p = let low = page_lsn_le b log p up in omega (arith, low, high)

pub switches : (tree : Tree) → Switches tree
switches tree b log place law all high =
    let tree_is = finished_tree tree b log law all in
    record {
      lsns = lsns_low b log place (rises b tree log law) high;
      stands = record { good = tree_is.good; walk = tree_is.walk; named = omega arith };
    }

pub counts_go_on : (tree : Tree) → CountsGoOn tree
counts_go_on tree b log place law = let low = count_low b log in let said = page_count_le b tree log law in omega (arith, low, said)

pub stands_switched : (tree : Tree) → StandsSwitched tree
stands_switched tree b log place file effects h all high in_file = record {
  sound = record {
    lawful = switches tree b log place h.sound.lawful all high;
    covers = covers_base (base_after b log place) file in_file;
  };
  earlier = effects;
  map = ap (apply_all empty) h.is ∙ apply_all_append empty h.earlier (seen (committed log))
      ∙ ap (λ (m : IndexMap). apply_all m (seen (committed log))) h.map ∙ apply_all_seen b.map (committed log);
  is = sym (append-nil effects);
}

module _ (b : Base) (s : Writer) (e place : ℕ) (k : WriterKept b s) (over : s.redo_end ≡ Some e) (high : end_of b s.log ≤ place) (none : (p : ℕ) → (s.pages p).entry ≡ None) where
  -- each page is what the whole log made of it
  page_is : (p : ℕ) → (s.pages p).page ≡ page_at b s.log p
  page_is p =
      let kept = k.pages p in
      let run = kept.run e over in
      let has = kept.now run.0 in
      let past : end_of b s.log < (s.pages p).upto = run.1 in
      let from : (s.pages p).upto ≤ has.upto = has.from in
      has.is ∙ ap (λ (l : History). page_at b l p) (whole_below b has.upto s.log (omega (arith, past, from)))

  reaches_all : (p : ℕ) → Reaches (base_after b s.log place) [] (place + 1) p (s.pages p).page
  reaches_all p = record { upto = place + 1; from = omega arith; is = page_is p }

  no_wait : (p : ℕ) → (s.pages p).waits ≡ true → ⊥
  no_wait p waits = let clash : true ≡ false = sym waits ∙ ((k.pages p).run e over).0 in cc clash

  only_none : (P : History → Type 0) → P [] → (left : History) → IsLeft [] [] left → P left
  only_none P here left w = subst P (sym (left_all [] left w)) here

  page_kept : (p : ℕ) → PageKept (base_after b s.log place) [] [] 0 (Some place) p (switched_page place (s.pages p))
  page_kept p =
      let kept = k.pages p in
      let ready = (kept.run e over).0 in
      record {
        low = λ waits. omega arith;
        high = omega arith;
        run = λ q is. (ready, (let same : place ≡ q = cc is in omega (arith, same)));
        now = λ waits. reaches_all p;
        written = λ waits done. only_none (λ (h : History). Reaches (base_after b s.log place) h (place + 1) p (s.pages p).page) (reaches_all p);
        clean = λ waits is. kept.clean ready is;
        entry = λ x is. (let clash : None ≡ Some x = sym (none p) ∙ is in cc clash);
        still = kept.still;
        waiting = λ waits. absurd (no_wait p waits);
        found = λ waits. absurd (no_wait p waits);
      }

  pub writer_switched : WriterKept (base_after b s.log place) (switched place s)
  writer_switched = record {
    rises = lsns_low b s.log place k.rises high;
    front = front_self [];
    points = only_none (λ (h : History). PointKept (base_after b s.log place) 0 (Some place) h) (record { high = omega arith; own = inl refl });
    copied = only_none (λ (h : History). (p l : ℕ) (c : Page) → noted (redo_point h) h p ≡ Some (l, c) → Reaches (base_after b s.log place) h (redo_point h) p c) (λ p l c is. absurd (cc is));
    exact = λ q some m past p l c is. absurd (cc is);
    first = λ empty p. none p;
    over = λ q is. (let same : place ≡ q = cc is in (omega arith, omega (arith, same)));
    pages = page_kept;
  }

pub writer_switches : WriterSwitches
writer_switches b s e place k over high none = writer_switched b s e place k over high none
