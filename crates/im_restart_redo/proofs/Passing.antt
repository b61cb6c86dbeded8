-- Redo goes past records that it does not read: those below the redo point, and those that change no page.
use Rattle.std.proofs.Common.{◌≡◌, inl, inr, ℕ, ◌+◌, ◌≤◌, List, [], ◌∷◌, ◌++◌, Bool, true, false, Option, refl, sym, ◌∙◌, ap, subst, arith, append_assoc}
use Rattle.std.specs.Prelude.{if◌then◌else◌, ◌&&◌, nat_le}
use Rattle.std.proofs.lemmas.Bool.{cases_lt, le-leb}
use Rattle.im_base_types.specs.Pages.{Page}
use Rattle.im_base_types.specs.Records.{Logged}
use Rattle.im_theory_log.specs.Histories.{Base, History, IsFront, Rises, changes_page, end_of}
use Rattle.im_theory_log.specs.Copies.{Reaches}
use Rattle.im_theory_log.specs.RedoPoints.{redo_point}
use Rattle.im_theory_log.specs.Writer.{IsLeft, Writer, WriterKept}
use Rattle.im_theory_log.proofs.Histories.{end_le, front_of_front, rises_in, start_low}
use Rattle.im_base_disk.specs.declared.disk.Disk.{Ghosts}
use Rattle.im_page_writer.specs.declared.page_writer.PageWriter.{PageWriter}
use Rattle.im_restart_redo.specs.Redo.{applied_in, first_lsn, lsns_from}
use Rattle.im_restart_redo.specs.Within.{IsWithinRedo}
use Rattle.im_restart_redo.specs.Loading.{HaveFirst}
use Rattle.im_restart_redo.specs.Applying.{HasPassed, IsLsnBehind}
use Rattle.im_restart_redo.proofs.Counting.{lsn_at_first, lsn_longer, none_counted}
use Rattle.im_restart_redo.proofs.Raised.{raised, raised_kept, stands_raised}
use Rattle.im_restart_redo.proofs.Reached.{reaches_past, reaches_start}

-- ---- the LSNs of the records from the redo point on that change a page

-- a record is passed by where its LSN is not among them
abbrev pub IsPassedBy : ℕ → Logged → Type 0
IsPassedBy point r = (nat_le point r.lsn && changes_page r.what) ≡ false

none_pushed : (ls : List ℕ) (l : ℕ) → ls ++ l ∷ [] ≡ [] → ⊥
none_pushed [] l is = cc is
none_pushed (x ∷ ls) l is = cc is

-- where none is, each record is passed by
pub passed_newest : (point : ℕ) (r : Logged) (older : History) → lsns_from point (r ∷ older) ≡ [] → IsPassedBy point r × (lsns_from point older ≡ [])
passed_newest point r older none = by (nat_le point r.lsn && changes_page r.what) refl none
  where
    by : (t : Bool) → (nat_le point r.lsn && changes_page r.what) ≡ t → (if t then lsns_from point older ++ r.lsn ∷ [] else lsns_from point older) ≡ [] → IsPassedBy point r × (lsns_from point older ≡ [])
    by false is none = (is, none)
    by true is none = absurd (none_pushed (lsns_from point older) r.lsn none)

-- The first of them is this record's: those after it are the others, and those before it are passed by.
pub record IsFirstOf (point lsn : ℕ) (rest : List ℕ) (newer : History) : Type 0 where
  pub after : History
  pub first : Logged
  pub before : History
  pub split : after ++ first ∷ before ≡ newer
  pub lsn_is : lsn ≡ first.lsn
  pub reads : (nat_le point first.lsn && changes_page first.what) ≡ true
  pub none : lsns_from point before ≡ []
  pub rest_is : rest ≡ lsns_from point after

-- so it is found in an older history
abbrev IsFound : ℕ → ℕ → History → Type 0
IsFound point lsn older = (ls : List ℕ) → lsn ∷ ls ≡ lsns_from point older → IsFirstOf point lsn ls older

pub first_of_rest : (point lsn : ℕ) (rest : List ℕ) (newer : History) → lsn ∷ rest ≡ lsns_from point newer → IsFirstOf point lsn rest newer
first_of_rest point lsn rest [] is = absurd (cc is)
first_of_rest point lsn rest (r ∷ older) is = by (λ ls e. first_of_rest point lsn ls older e) (nat_le point r.lsn && changes_page r.what) refl is
  where
    more : (t : Bool) → (nat_le point r.lsn && changes_page r.what) ≡ t → (ls : List ℕ) → IsFirstOf point lsn ls older → rest ≡ (if t then ls ++ r.lsn ∷ [] else ls) → IsFirstOf point lsn rest (r ∷ older)
    more t is ls one rest_is = record {
      after = r ∷ one.after;
      first = one.first;
      before = one.before;
      split = ap (λ (h : History). r ∷ h) one.split;
      lsn_is = one.lsn_is;
      reads = one.reads;
      none = one.none;
      rest_is = rest_is ∙ ap (λ (x : List ℕ). if t then x ++ r.lsn ∷ [] else x) one.rest_is ∙ sym (ap (λ (x : Bool). if x then lsns_from point one.after ++ r.lsn ∷ [] else lsns_from point one.after) is);
    }

    pushed : IsFound point lsn older → (nat_le point r.lsn && changes_page r.what) ≡ true → (ls : List ℕ) → ls ≡ lsns_from point older → lsn ∷ rest ≡ ls ++ r.lsn ∷ [] → IsFirstOf point lsn rest (r ∷ older)
    pushed rec t [] same is = record {
      after = [];
      first = r;
      before = older;
      split = refl;
      lsn_is = (let e : lsn ≡ r.lsn = cc is in e);
      reads = t;
      none = sym same;
      rest_is = (let e : rest ≡ [] = cc is in e);
    }
    pushed rec t (l ∷ ls) same is =
        let one : lsn ≡ l = cc is in
        more true t ls (rec ls (ap (λ (n : ℕ). n ∷ ls) one ∙ same)) (let e : rest ≡ ls ++ r.lsn ∷ [] = cc is in e)

    by : IsFound point lsn older → (t : Bool) → (nat_le point r.lsn && changes_page r.what) ≡ t → lsn ∷ rest ≡ (if t then lsns_from point older ++ r.lsn ∷ [] else lsns_from point older) → IsFirstOf point lsn rest (r ∷ older)
    by rec true t is = pushed rec t (lsns_from point older) refl is
    by rec false t is = more false t rest (rec rest is) refl

-- ---- the pages

module _ {D : Type 0} (d : Ghosts D) (b : Base) (base : ℕ) (begun : History) (file : ℕ → Option Page) (from : D) (w : PageWriter) (disk : D) where
  -- each page is known to have had its records below a later LSN
  within_raised : (s : Writer) (n : ℕ) → IsWithinRedo d b base begun from s w disk → s.point ≤ n → n ≤ end_of b s.log + 1
      → ((p : ℕ) (h : History) (g : Page) → IsLeft s.durable s.log h → (s.pages p).waits ≡ false → Reaches b h (s.pages p).upto p g → Reaches b h n p g)
      → IsWithinRedo d b base begun from (raised n s) w disk
  within_raised s n so low high reach = record {
    stands = stands_raised d b base s n w disk (raised_kept b s n so.stands.writing.stands.kept so.going low high reach) so.stands;
    stops = so.stops;
    log = so.log;
    durable = so.durable;
    point = so.point;
    going = so.going;
  }

  kept_of : (s : Writer) → IsWithinRedo d b base begun from s w disk → WriterKept b s
  kept_of s so = so.stands.writing.stands.kept

  -- before the first record
  pub passed_none : (s : Writer) → IsWithinRedo d b base begun from s w disk → ((p : ℕ) → (s.pages p).waits ≡ false) → HaveFirst b begun file s.pages → HasPassed d b base begun file [] from w disk
  passed_none s so ready first = elim (cases_lt b.start s.point) [
    | inl past ↦ record { now = s; within = so; had = λ p. (ready p, let low : s.point ≤ (s.pages p).upto = ((kept_of s so).pages p).low (ready p) in omega (arith, past, low)); lsns = at_first }
    | inr start ↦
        let k = kept_of s so in
        let last : b.start ≤ end_of b s.log = start_low b s.log k.rises in
        record {
          now = raised (b.start + 1) s;
          within = within_raised s (b.start + 1) so (omega (arith, start)) (omega (arith, last))
              (λ p h g left waits has. reaches_start b h (s.pages p).upto p g (rises_in b h s.log left.upto k.rises) has);
          had = λ p. (ready p, omega arith);
          lsns = at_first;
        }
  ]
    where
      at_first : (p : ℕ) → IsLsnBehind b (first_lsn b begun file p) [] (s.pages p).page.lsn
      at_first p = lsn_at_first b (first_lsn b begun file p) (s.pages p).page.lsn (first p (ready p))

  -- past one record
  passed_one : (after : History) (r : Logged) (front : History) → after ++ r ∷ front ≡ begun → IsPassedBy (redo_point begun) r → HasPassed d b base begun file front from w disk → HasPassed d b base begun file (r ∷ front) from w disk
  passed_one after r front split by_it so = elim (cases_lt r.lsn (redo_point begun)) [
    | inl before ↦ record {
      now = so.now;
      within = so.within;
      had = λ p. (
        (so.had p).0,
        let low : so.now.point ≤ (so.now.pages p).upto = ((kept_of so.now so.within).pages p).low (so.had p).0 in
            let point : so.now.point ≡ redo_point begun = so.within.point in
            omega (arith, before, low, point),
      );
      lsns = longer;
    }
    | inr past ↦
        let s = so.now in
        let k = kept_of s so.within in
        let plain : changes_page r.what ≡ false = sym (ap (λ (t : Bool). t && changes_page r.what) (le-leb (redo_point begun) r.lsn past)) ∙ by_it in
        let point : s.point ≡ redo_point begun = so.within.point in
        let in_log : r.lsn ≤ end_of b s.log = end_le b (r ∷ front) s.log k.rises (front_of_front (r ∷ front) s.durable s.log (front_of_front (r ∷ front) begun s.durable (record { newer = after; is = split }) so.within.durable) k.front) in
        record {
          now = raised (r.lsn + 1) s;
          within = within_raised s (r.lsn + 1) so.within (omega (arith, past, point)) (omega (arith, in_log))
              (λ p h g left waits has.
              let here = front_of_front (r ∷ front) s.durable h (front_of_front (r ∷ front) begun s.durable (record { newer = after; is = split }) so.within.durable) left.from in
              let up : Rises b (here.newer ++ r ∷ front) = subst (λ (l : History). Rises b l) (sym here.is) (rises_in b h s.log left.upto k.rises) in
              subst (λ (l : History). Reaches b l (r.lsn + 1) p g) here.is
              (reaches_past b here.newer r front (s.pages p).upto p g up plain (so.had p).1 (subst (λ (l : History). Reaches b l (s.pages p).upto p g) (sym here.is) has)));
          had = λ p. ((so.had p).0, omega arith);
          lsns = longer;
        }
  ]
    where
      whole : IsFront (r ∷ front) so.now.log
      whole = front_of_front (r ∷ front) so.now.durable so.now.log (front_of_front (r ∷ front) begun so.now.durable (record { newer = after; is = split }) so.within.durable) (kept_of so.now so.within).front

      up : Rises b (r ∷ front)
      up = rises_in b (r ∷ front) so.now.log whole (kept_of so.now so.within).rises

      longer : (p : ℕ) → IsLsnBehind b (first_lsn b begun file p) (r ∷ front) (so.now.pages p).page.lsn
      longer p = lsn_longer b (first_lsn b begun file p) front r up.1 (so.now.pages p).page.lsn (so.lsns p)

  -- past all records that are passed by
  pub passed_all : (after before front : History) → after ++ (before ++ front) ≡ begun → lsns_from (redo_point begun) before ≡ [] → HasPassed d b base begun file front from w disk → HasPassed d b base begun file (before ++ front) from w disk
  passed_all after [] front split none so = so
  passed_all after (r ∷ before) front split none so =
      let newest = passed_newest (redo_point begun) r before none in
      passed_one after r (before ++ front) split newest.0
      (passed_all (after ++ r ∷ []) before front (append_assoc after (r ∷ []) (before ++ front) ∙ split) newest.1 so)

-- and none of them counts
pub count_same : (lsns : ℕ → ℕ) (point : ℕ) (before front : History) → lsns_from point before ≡ [] → applied_in lsns point (before ++ front) ≡ applied_in lsns point front
count_same lsns point [] front none = refl
count_same lsns point (r ∷ before) front none =
    let newest = passed_newest point r before none in
    none_counted lsns point r (before ++ front) newest.0 ∙ count_same lsns point before front newest.1
