-- Records, as redo applies them one by one.
use Rattle.std.proofs.Common.{◌≡◌, inl, inr, ℕ, ◌+◌, ◌<◌, ◌≤◌, [], ◌∷◌, ◌++◌, List, Bool, true, false, Option, refl, sym, ◌∙◌, ap, subst, arith, append_assoc, append-nil}
use Rattle.std.specs.BTreeMap.{get}
use Rattle.std.specs.Ordering.{nat_cmp}
use Rattle.std.specs.Prelude.{◌&&◌, nat_le, if◌then◌else◌, is_some, option_map, None, Some}
use Rattle.std.proofs.lemmas.Bool.{cases_lt, lt-leb}
use Rattle.im_base_types.specs.Records.{Logged}
use Rattle.im_base_types.specs.Pages.{Page}
use Rattle.im_theory_log.specs.Histories.{Base, History, IsFront, IsRecordOf, Rises, end_of, page_at}
use Rattle.im_theory_log.specs.Copies.{HasCopy, Reaches, noted, redo_one}
use Rattle.im_theory_log.specs.RedoPoints.{redo_point}
use Rattle.im_theory_log.specs.Writer.{Writer, WriterKept}
use Rattle.im_theory_log.specs.WriterSteps.{applies, ended}
use Rattle.im_theory_log.proofs.Cited.{front_of_front, rises_in, copy_grows, reached_end}
use Rattle.im_log_record.specs.Entry.{Entry}
use Rattle.im_log.specs.Spelled.{logged_at}
use Rattle.im_base_disk.specs.declared.disk.Disk.{Ghosts}
use Rattle.im_page_writer.specs.declared.page_writer.PageWriter.{PageWriter}
use Rattle.im_page_table.specs.KnownCopies.{redone_as}
use Rattle.im_page_writer.specs.Redoing.{RedoneFrom}
use Rattle.im_page_rounds.specs.OnePage.{PageTakes}
use Rattle.im_page_writer.proofs.Restarting.{writer_ends}
use Rattle.im_restart_analysis.specs.CopyLsns.{AreCopies, CopyMap}
use Rattle.im_restart_redo.specs.Redo.{AreApplicable, Redone, applied_in, first_lsn, lsns_from}
use Rattle.im_restart_redo.specs.Within.{IsWithinRedo}
use Rattle.im_restart_redo.specs.Applying.{HasPassed, IsApplying, IsLsnBehind}
use Rattle.im_restart_redo.specs.Loading.{IsLoading}
use Rattle.im_restart_redo.specs.Window.{AreAlsoOf}
use Rattle.im_restart_redo.proofs.Counting.{applied_by, lsn_redone, one_counted}
use Rattle.im_restart_redo.proofs.Passing.{count_same, first_of_rest, passed_all, passed_none}
use Rattle.im_restart_redo.proofs.Reached.{needs_record}
use Rattle.im_restart_redo.proofs.Within.{record_still, within_more}

-- each record of the log can be applied where it stands
pub applicable_at : (b : Base) (newer : History) (r : Logged) (older : History) → AreApplicable b (newer ++ r ∷ older) → PageTakes r.what (page_at b older r.page)
applicable_at b [] r older can = can.1
applicable_at b (s ∷ newer) r older can = applicable_at b newer r older can.0

-- a record is one of the history that it stands in
is_record : (newer : History) (r : Logged) (older : History) → IsRecordOf r (newer ++ r ∷ older)
is_record [] r older = inl refl
is_record (s ∷ newer) r older = inr (is_record newer r older)

from_point : (point l : ℕ) (changes : Bool) → (nat_le point l && changes) ≡ true → point ≤ l
from_point point l changes is = elim (cases_lt l point) [
  | inl before ↦ absurd (let clash : false ≡ true = sym (ap (λ (t : Bool). t && changes) (lt-leb point l before)) ∙ is in cc clash)
  | inr past ↦ past
]

module _ {D : Type 0} (d : Ghosts D) (b : Base) (base : ℕ) (begun : History) (file : ℕ → Option Page) (from : D) where
  -- ---- the first record

  pub applying_start : (all : List ℕ) (w : PageWriter) (disk : D) → IsLoading d b base begun file [] from w disk → all ≡ lsns_from (redo_point begun) begun → IsApplying d b base begun file all 0 from w disk
  applying_start all w disk so is = record {
    newer = begun;
    front = [];
    split = append-nil begun;
    left_is = is;
    passed = passed_none d b base begun file from w disk so.now so.within (λ p. so.waiting.others p refl) so.first;
    counted = refl;
  }

  -- ---- one record

  -- The next record, which redo reads, with the state that has gone past all before it.
  pub record Next (lsn : ℕ) (left : List ℕ) (count : ℕ) (w : PageWriter) (disk : D) : Type 0 where
    pub after : History
    pub first : Logged
    pub older : History
    pub split : after ++ first ∷ older ≡ begun
    pub lsn_is : lsn ≡ first.lsn
    pub low : redo_point begun ≤ lsn
    pub left_is : left ≡ lsns_from (redo_point begun) after
    pub passed : HasPassed d b base begun file older from w disk
    pub counted : count ≡ applied_in (first_lsn b begun file) (redo_point begun) older

  pub next_record : (lsn : ℕ) (left : List ℕ) (count : ℕ) (w : PageWriter) (disk : D) → IsApplying d b base begun file (lsn ∷ left) count from w disk → Next lsn left count w disk
  next_record lsn left count w disk so =
      let one = first_of_rest (redo_point begun) lsn left so.newer so.left_is in
      let split : one.after ++ one.first ∷ (one.before ++ so.front) ≡ begun = sym (append_assoc one.after (one.first ∷ one.before) so.front) ∙ ap (λ (h : History). h ++ so.front) one.split ∙ so.split in
      let low : redo_point begun ≤ one.first.lsn = from_point (redo_point begun) one.first.lsn _ one.reads in
      let lsn_is : lsn ≡ one.first.lsn = one.lsn_is in
      record {
        after = one.after;
        first = one.first;
        older = one.before ++ so.front;
        split = split;
        lsn_is = lsn_is;
        low = omega (arith, low, lsn_is);
        left_is = one.rest_is;
        passed = passed_all d b base begun file from w disk (one.after ++ one.first ∷ []) one.before so.front (append_assoc one.after (one.first ∷ []) (one.before ++ so.front) ∙ split) one.none so.passed;
        counted = so.counted ∙ sym (count_same (first_lsn b begun file) (redo_point begun) one.before so.front one.none);
      }

  module _ (lsn : ℕ) (left : List ℕ) (count : ℕ) (w : PageWriter) (disk : D) (so : Next lsn left count w disk) where
    -- it is in the log, and in the durable one
    pub next_in_log : IsRecordOf so.first so.passed.now.log
    next_in_log = record_still b begun so.passed.now.log so.first so.passed.within.log (subst (λ (h : History). IsRecordOf so.first h) so.split (is_record so.after so.first so.older))

    -- and in the log that redo began with, whose records the log has
    pub next_in_begun : IsRecordOf so.first begun
    next_in_begun = subst (λ (h : History). IsRecordOf so.first h) so.split (is_record so.after so.first so.older)

    pub begun_in_log : AreAlsoOf begun so.passed.now.log
    begun_in_log r has = record_still b begun so.passed.now.log r so.passed.within.log has

    pub next_is : (entry : Entry) → logged_at so.first.lsn entry ≡ so.first → so.first ≡ logged_at lsn entry
    next_is entry same = sym (ap (λ (l : ℕ). logged_at l entry) so.lsn_is ∙ same)

    pub next_durable : (entry : Entry) → logged_at so.first.lsn entry ≡ so.first → (so.passed.within.durable.newer ++ so.after) ++ logged_at lsn entry ∷ so.older ≡ so.passed.now.durable
    next_durable entry same =
        ap (λ (r : Logged). (so.passed.within.durable.newer ++ so.after) ++ r ∷ so.older) (sym (next_is entry same))
        ∙ append_assoc so.passed.within.durable.newer so.after (so.first ∷ so.older) ∙ ap (λ (h : History). so.passed.within.durable.newer ++ h) so.split ∙ so.passed.within.durable.is

    -- where its page needs it, the page takes it
    pub next_taken : (r : Logged) → so.first ≡ r → AreApplicable b begun → applies r r.page (so.passed.now.pages r.page).page ≡ true → PageTakes r.what (so.passed.now.pages r.page).page
    next_taken r same can = subst (λ (x : Logged). applies x x.page (so.passed.now.pages x.page).page ≡ true → PageTakes x.what (so.passed.now.pages x.page).page) same
        (λ needed.
        let k : WriterKept b so.passed.now = so.passed.within.stands.writing.stands.kept in
        let at : (so.passed.within.log.images ++ so.after) ++ so.first ∷ so.older ≡ so.passed.now.log = append_assoc so.passed.within.log.images so.after (so.first ∷ so.older) ∙ ap (λ (h : History). so.passed.within.log.images ++ h) so.split ∙ sym so.passed.within.log.is in
        let page = (k.pages so.first.page).now (so.passed.had so.first.page).0 in
        let is : page_at b so.older so.first.page ≡ (so.passed.now.pages so.first.page).page =
        needs_record b (so.passed.within.log.images ++ so.after) so.first so.older (so.passed.now.pages so.first.page).upto (so.passed.now.pages so.first.page).page
        (subst (λ (l : History). Rises b l) (sym at) k.rises) (so.passed.had so.first.page).1
        (subst (λ (l : History). Reaches b l (so.passed.now.pages so.first.page).upto so.first.page (so.passed.now.pages so.first.page).page) (sym at) page) needed in
        subst (λ g. PageTakes so.first.what g) is (applicable_at b so.after so.first so.older (subst (λ (h : History). AreApplicable b h) (sym so.split) can)))

    -- its LSN is above those of the records before it
    next_rises : end_of b so.older < so.first.lsn
    next_rises =
        let k : WriterKept b so.passed.now = so.passed.within.stands.writing.stands.kept in
        let here : IsFront (so.first ∷ so.older) begun = record { newer = so.after; is = so.split } in
        let whole = front_of_front (so.first ∷ so.older) so.passed.now.durable so.passed.now.log (front_of_front (so.first ∷ so.older) begun so.passed.now.durable here so.passed.within.durable) k.front in
        (rises_in b (so.first ∷ so.older) so.passed.now.log whole k.rises).1

    next_counted : (r : Logged) → so.first ≡ r → (done : Bool) → done ≡ applies r r.page (so.passed.now.pages r.page).page → count + (if done then 1 else 0) ≡ applied_in (first_lsn b begun file) (redo_point begun) (so.first ∷ so.older)
    next_counted r same done is =
        let p : ℕ = so.first.page in
        let low : redo_point begun ≤ so.first.lsn = (let above : redo_point begun ≤ lsn = so.low in let at : lsn ≡ so.first.lsn = so.lsn_is in omega (arith, above, at)) in
        let test : done ≡ applies so.first p (so.passed.now.pages p).page = is ∙ ap (λ (x : Logged). applies x x.page (so.passed.now.pages x.page).page) (sym same) in
        one_counted (first_lsn b begun file) (redo_point begun) so.first so.older done count low
        (test ∙ applied_by b (first_lsn b begun file p) so.older so.first next_rises (so.passed.now.pages p).page (so.passed.lsns p)) so.counted

    -- redo goes past it
    pub applied : (r : Logged) → so.first ≡ r → (v : PageWriter) (mid : D) → IsWithinRedo d b base begun from so.passed.now v mid → (t : PageWriter) (new : D) → RedoneFrom d b base so.passed.now r mid t new
        → (done : Bool) → done ≡ applies r r.page (so.passed.now.pages r.page).page → IsApplying d b base begun file left (count + (if done then 1 else 0)) from t new
    applied r same v mid within t new done was is = record {
      newer = so.after;
      front = so.first ∷ so.older;
      split = so.split;
      left_is = so.left_is;
      passed = record {
        now = redone_as done.known r done.before;
        within = within_more d b base begun from so.passed.now v mid within done.before (redone_as done.known r done.before) t new done.keeps done.stops done.stands refl refl refl refl;
        had = λ p. ((done.keeps.pages p).waits ∙ (so.passed.had p).0, let lsn : so.first.lsn ≡ r.lsn = ap (λ (x : Logged). x.lsn) same in omega (arith, lsn));
        lsns = λ p.
            let g : Page = (so.passed.now.pages p).page in
            let behind = lsn_redone b (first_lsn b begun file p) so.older so.first next_rises p g (so.passed.lsns p) in
            subst (λ (h : Page). IsLsnBehind b (first_lsn b begun file p) (so.first ∷ so.older) h.lsn) (ap (λ (x : Logged). redo_one x p g) same ∙ ap (λ (h : Page). redo_one r p h) (sym (done.keeps.pages p).page)) behind;
      };
      counted = next_counted r same was is;
    }

  -- ---- the last record

  pub applying_end : (count : ℕ) (w : PageWriter) (disk : D) → IsApplying d b base begun file [] count from w disk → Redone d b base begun from w disk
  applying_end count w disk so =
      let all = passed_all d b base begun file from w disk [] so.newer so.front so.split (sym so.left_is) so.passed in
      let s = all.now in
      let past : (p : ℕ) → end_of b begun < (s.pages p).upto = λ p. subst (λ (h : History). end_of b h < (s.pages p).upto) so.split (all.had p).1 in
      let over = writer_ends d b base s w disk all.within.stands all.within.going begun (λ p. (all.had p).0) all.within.log all.within.durable past in
      record {
        now = ended b s;
        stands = over;
        stops = all.within.stops;
        over = refl;
        log = all.within.log;
        durable = all.within.durable;
        pages = λ p. reached_end b s.log (end_of b s.log + 1) p (s.pages p).page (omega arith) ((over.writing.stands.kept.pages p).now (all.had p).0);
      }

  -- and all that it applied is counted
  pub counted_all : (count : ℕ) (w : PageWriter) (disk : D) → IsApplying d b base begun file [] count from w disk → count ≡ applied_in (first_lsn b begun file) (redo_point begun) begun
  counted_all count w disk so =
      so.counted ∙ sym (count_same (first_lsn b begun file) (redo_point begun) so.newer so.front (sym so.left_is)) ∙ ap (λ (h : History). applied_in (first_lsn b begun file) (redo_point begun) h) so.split

-- ---- noted copies

-- a page with a noted copy has it in the durable log
pub noted_still : (b : Base) (begun : History) (s : Writer) (p point : ℕ) (all : CopyMap) → AreCopies point all begun → point ≡ redo_point begun → IsFront begun s.durable → s.point ≡ redo_point begun → is_some (get nat_cmp all p) ≡ true
    → HasCopy s.durable p s.point
noted_still b begun s p point all are at front same some =
    subst (λ (m : ℕ). HasCopy s.durable p m) (at ∙ sym same) (copy_grows begun s.durable p point front (has (noted point begun p) refl (ap (λ (o : Option ℕ). is_some o) (sym (are p)) ∙ some)))
  where
    has : (o : Option (ℕ × Page)) → noted point begun p ≡ o → is_some (option_map (λ (c : ℕ × Page). c.0) o) ≡ true → HasCopy begun p point
    has None is none = absurd (cc none)
    has (Some x) is some = record { lsn = x.0; copy = x.1; is = is }
