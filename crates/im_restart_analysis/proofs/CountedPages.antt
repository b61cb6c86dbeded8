-- The pages that a lawful log names are below a page count that an image of page 0 in it says; or it has no such image, and page 0 of the file that it covers says what the log began with.
use Rattle.std.proofs.Common.{◌≡◌, ◌⊎◌, ◌≤◌, ◌+◌, inl, inr, ℕ, [], ◌∷◌, max, Option, None, Some, refl, sym, ◌∙◌, ap, subst, arith}
use Rattle.std.specs.Prelude.{◌==◌, nat_lt}
use Rattle.std.proofs.lemmas.Bool.{cases_eq, cases_lt, cond-true, cond-false, eq-eqb, ne_eqb, le-ltb, lt-ltb}
use Rattle.im_base_types.specs.Pages.{Body, Page}
use Rattle.im_base_types.specs.Records.{What, InsertKey, DeleteKey, UndoInsert, UndoDelete, Smo, UndoSmo, DummyClr, Commit, End, Image, Checkpoint, Unreadable, Logged}
use Rattle.im_theory_log.specs.Copies.{copy_in, noted}
use Rattle.im_theory_log.specs.Histories.{Base, History, IsRecordOf, below, page_after, page_at}
use Rattle.im_theory_log.specs.Lawful.{IsLawful, MayCome}
use Rattle.im_theory_log.specs.PageCounts.{count_in, count_of, greatest_count, named_to}
use Rattle.im_theory_log.specs.RedoPoints.{Covers, redo_point}
use Rattle.im_theory_log.specs.Tree.{Tree, TreeLaws}
use Rattle.im_theory_log.proofs.Cited.{in_log, Joins, copies, joins, leaves, page_here, page_other, named_le_count}
use Rattle.im_restart_analysis.specs.Changes.{AreLastBelow}
use Rattle.im_restart_analysis.specs.declared.changes.LastChanges.{LastChanges}
use Rattle.im_restart_analysis.specs.Within.{IsWithin, SaysPages, greatest_in, greatest_said}

-- ---- what the images of page 0 say

said_older : (r : Logged) (older : History) → greatest_said older ≤ greatest_said (r ∷ older)
said_older r older = elim (cases_eq r.page 0) [
  | inl here ↦ (let is : greatest_said (r ∷ older) ≡ max (greatest_in r.what) (greatest_said older) = cond-true (r.page == 0) (max (greatest_in r.what) (greatest_said older)) (greatest_said older) (eq-eqb r.page 0 here) in omega (arith, is))
  | inr other ↦ (let is : greatest_said (r ∷ older) ≡ greatest_said older = cond-false (r.page == 0) (max (greatest_in r.what) (greatest_said older)) (greatest_said older) (ne_eqb r.page 0 other) in omega (arith, is))
]

said_here : (r : Logged) (older : History) → r.page ≡ 0 → greatest_in r.what ≤ greatest_said (r ∷ older)
said_here r older here =
    let is : greatest_said (r ∷ older) ≡ max (greatest_in r.what) (greatest_said older) = cond-true (r.page == 0) (max (greatest_in r.what) (greatest_said older)) (greatest_said older) (eq-eqb r.page 0 here) in
    omega (arith, is)

count_low : (w : What) → count_in w ≤ greatest_in w
count_low (Smo old new) = omega arith
count_low (UndoSmo new) = omega arith
count_low (InsertKey k i) = omega arith
count_low (DeleteKey k i) = omega arith
count_low (UndoInsert k i) = omega arith
count_low (UndoDelete k i) = omega arith
count_low DummyClr = omega arith
count_low Commit = omega arith
count_low End = omega arith
count_low (Image c) = omega arith
count_low (Checkpoint n a d) = omega arith
count_low Unreadable = omega arith

-- the greatest page count is the one that the log begins with, or one that an image says
count_le : (n : ℕ) (log : History) → greatest_count n log ≤ max n (greatest_said log)
count_le n [] = omega arith
count_le n (r ∷ older) =
    let rest = count_le n older in
    let more = said_older r older in
    elim (cases_eq r.page 0) [
      | inl here ↦ (
          let is : greatest_count n (r ∷ older) ≡ max (count_in r.what) (greatest_count n older) = cond-true (r.page == 0) (max (count_in r.what) (greatest_count n older)) (greatest_count n older) (eq-eqb r.page 0 here) in
          let low = count_low r.what in
          let said = said_here r older here in
          omega (arith, is, low, said, rest, more))
      | inr other ↦ (
          let is : greatest_count n (r ∷ older) ≡ greatest_count n older = cond-false (r.page == 0) (max (count_in r.what) (greatest_count n older)) (greatest_count n older) (ne_eqb r.page 0 other) in
          omega (arith, is, rest, more))
    ]

-- ---- logs without an image of page 0

-- no record holds one
abbrev SaysNone : History → Type 0
SaysNone [] = Unit {0}
SaysNone (r ∷ older) = (r.page ≡ 0 → copy_in r.lsn r.what ≡ None) × SaysNone older

record_none : (log : History) (s : Logged) → SaysNone log → IsRecordOf s log → s.page ≡ 0 → copy_in s.lsn s.what ≡ None
record_none [] s none is = absurd is
record_none (r ∷ older) s none (inl same) = subst (λ (x : Logged). x.page ≡ 0 → copy_in x.lsn x.what ≡ None) same none.0
record_none (r ∷ older) s none (inr there) = record_none older s none.1 there

none_below : (u : ℕ) (log : History) → SaysNone log → SaysNone (below u log)
none_below u [] none = tt
none_below u (r ∷ older) none = elim (cases_lt r.lsn u) [
  | inl low ↦ subst SaysNone (sym (cond-true (nat_lt r.lsn u) (r ∷ older) (below u older) (lt-ltb r.lsn u low))) none
  | inr high ↦ subst SaysNone (sym (cond-false (nat_lt r.lsn u) (r ∷ older) (below u older) (le-ltb r.lsn u high))) (none_below u older none.1)
]

none_noted : (from : ℕ) (log : History) → SaysNone log → noted from log 0 ≡ None
none_noted from [] none = refl
none_noted from (r ∷ older) none = by (none_noted from older none.1) (joins from r older 0)
  where
    by : noted from older 0 ≡ None → Joins from r older 0 → noted from (r ∷ older) 0 ≡ None
    by rest (leaves same) = same ∙ rest
    by rest (copies c over here some is) = absurd (let clash : Some c ≡ None = sym some ∙ none.0 here in cc clash)

none_said : (log : History) → SaysNone log → greatest_said log ≡ 0
none_said [] none = refl
none_said (r ∷ older) none = elim (cases_eq r.page 0) [
  | inl here ↦
      let is : greatest_said (r ∷ older) ≡ max (greatest_in r.what) (greatest_said older) = cond-true (r.page == 0) (max (greatest_in r.what) (greatest_said older)) (greatest_said older) (eq-eqb r.page 0 here) in
      let low = by r.what (none.0 here) in
      let rest = none_said older none.1 in
      omega (arith, is, low, rest)
  | inr other ↦ cond-false (r.page == 0) (max (greatest_in r.what) (greatest_said older)) (greatest_said older) (ne_eqb r.page 0 other) ∙ none_said older none.1
]
  where
    by : (w : What) → copy_in r.lsn w ≡ None → greatest_in w ≡ 0
    by (Smo old new) is = absurd (cc is)
    by (UndoSmo new) is = absurd (cc is)
    by (Image c) is = absurd (cc is)
    by (InsertKey k i) is = refl
    by (DeleteKey k i) is = refl
    by (UndoInsert k i) is = refl
    by (UndoDelete k i) is = refl
    by DummyClr is = refl
    by Commit is = refl
    by End is = refl
    by (Checkpoint n a d) is = refl
    by Unreadable is = refl

-- a record without an image leaves the count
same_count : (l : ℕ) (w : What) (g : Page) → copy_in l w ≡ None → (page_after l w g).body.leftmost ≡ g.body.leftmost
same_count l (Smo old new) g none = absurd (cc none)
same_count l (UndoSmo new) g none = absurd (cc none)
same_count l (InsertKey k i) g none = refl
same_count l (DeleteKey k i) g none = refl
same_count l (UndoInsert k i) g none = refl
same_count l (UndoDelete k i) g none = refl
same_count l DummyClr g none = refl
same_count l Commit g none = refl
same_count l End g none = refl
same_count l (Image c) g none = refl
same_count l (Checkpoint n a d) g none = refl
same_count l Unreadable g none = refl

none_count : (b : Base) (log : History) → SaysNone log → (page_at b log 0).body.leftmost ≡ (b.pages 0).body.leftmost
none_count b [] none = refl
none_count b (r ∷ older) none = elim (cases_eq r.page 0) [
  | inl here ↦ ap (λ (g : Page). g.body.leftmost) (page_here b r older 0 here) ∙ same_count r.lsn r.what (page_at b older 0) (none.0 here) ∙ none_count b older none.1
  | inr other ↦ ap (λ (g : Page). g.body.leftmost) (page_other b r older 0 other) ∙ none_count b older none.1
]

-- ---- lawful logs

module _ (b : Base) (tree : Tree) (r : Logged) (older : History) (none : SaysNone older) (here : r.page ≡ 0) where
  abbrev SaysFirst : Type 0
  SaysFirst = (count_of b ≤ max 2 (greatest_said (r ∷ older))) ⊎ SaysNone (r ∷ older)

  -- an image that says what the log began with
  says_first : (n : ℕ) → n ≡ (b.pages 0).body.leftmost → n ≤ greatest_in r.what → SaysFirst
  says_first n is low = let said = said_here r older here in inl (omega (arith, is, low, said))

  without : copy_in r.lsn r.what ≡ None → SaysFirst
  without is = inr ((λ zero. is), none)

  first_said : (w : What) → r.what ≡ w → MayCome b tree r older w → SaysFirst
  first_said (Smo old new) is may =
      let was : old.leftmost ≡ (b.pages 0).body.leftmost = ap (λ (x : Body). x.leftmost) may.before ∙ ap (λ (p : ℕ). (page_at b older p).body.leftmost) here ∙ none_count b older none in
      let kind : greatest_in r.what ≡ max old.leftmost new.leftmost = ap greatest_in is in
      says_first old.leftmost was (omega (arith, kind))
  first_said (UndoSmo new) is may = absurd (
      let u = may.undoes in
      let logged : IsRecordOf u.undone older = (in_log older r.txn u.undone (subst (λ (l : History). IsRecordOf u.undone l) (sym u.stack) (inl refl))).0 in
      let page : u.undone.page ≡ 0 = may.page ∙ here in
      let clash = sym (ap (λ (w : What). copy_in u.undone.lsn w) u.inverse.1) ∙ record_none older u.undone none logged page in
      cc clash)
  first_said (Image c) is may =
      let copy : c.body.leftmost ≡ (b.pages 0).body.leftmost = ap (λ (g : Page). g.body.leftmost) may.exact ∙ ap (λ (p : ℕ). (page_at b (below (c.lsn + 1) older) p).body.leftmost) here ∙ none_count b (below (c.lsn + 1) older) (none_below (c.lsn + 1) older none) in
      let kind : greatest_in r.what ≡ c.body.leftmost = ap greatest_in is in
      says_first c.body.leftmost copy (omega (arith, kind))
  first_said (InsertKey k i) is may = without (ap (copy_in r.lsn) is)
  first_said (DeleteKey k i) is may = without (ap (copy_in r.lsn) is)
  first_said (UndoInsert k i) is may = without (ap (copy_in r.lsn) is)
  first_said (UndoDelete k i) is may = without (ap (copy_in r.lsn) is)
  first_said DummyClr is may = without (ap (copy_in r.lsn) is)
  first_said Commit is may = without (ap (copy_in r.lsn) is)
  first_said End is may = without (ap (copy_in r.lsn) is)
  first_said (Checkpoint n a d) is may = without (ap (copy_in r.lsn) is)
  first_said Unreadable is may = absurd may

said_or_none : (b : Base) (tree : Tree) (log : History) → IsLawful b tree log → (count_of b ≤ max 2 (greatest_said log)) ⊎ SaysNone log
said_or_none b tree [] law = inr tt
said_or_none b tree (r ∷ older) law = elim (said_or_none b tree older law.0) [
  | inl said ↦ (let more = said_older r older in inl (omega (arith, said, more)))
  | inr none ↦ elim (cases_eq r.page 0) [
    | inl here ↦ first_said b tree r older none here r.what refl law.1.may
    | inr other ↦ inr ((λ here. absurd (other here)), none)
  ]
]

pub names_within : (b : Base) (tree : Tree) → TreeLaws tree → (all : History) (file : ℕ → Option Page) → IsLawful b tree all → Covers b all file → IsWithin (named_to all) (greatest_said all) (file 0)
names_within b tree laws all file law covers =
    let named = named_le_count b tree laws all law in
    let le = count_le (count_of b) all in
    elim (said_or_none b tree all law) [
      | inl said ↦ inl (omega (arith, named, le, said))
      | inr none ↦
          let read = covers.read 0 (none_noted (redo_point all) all none) in
          let upto = read.reaches.upto in
          let first : read.page.body.leftmost ≡ (b.pages 0).body.leftmost = ap (λ (g : Page). g.body.leftmost) read.reaches.is ∙ none_count b (below upto all) (none_below upto all none) in
          let zero = none_said all none in
          elim (cases_lt (b.pages 0).body.leftmost 2) [
            | inl few ↦ inl (omega (arith, named, le, zero, few))
            | inr some ↦
                let low : named_to all ≤ read.page.body.leftmost = omega (arith, named, le, zero, some, first) in
                inr (subst (λ (o : Option Page). SaysPages (named_to all) o) (sym read.here) low)
          ]
    ]

-- ---- what was noted of the log

pub within_noted : (all : History) (point : ℕ) (last : LastChanges) (first : Option Page) → AreLastBelow all point last → IsWithin (named_to all) (greatest_said all) first → IsWithin last.named last.said first
within_noted all point last first are within =
    subst (λ (n : ℕ). IsWithin last.named n first) (sym are.said) (subst (λ (n : ℕ). IsWithin n (greatest_said all) first) (sym are.named) within)

pub noted_within : (all : History) (point : ℕ) (last : LastChanges) (first : Option Page) → AreLastBelow all point last → IsWithin last.named last.said first → IsWithin (named_to all) (greatest_said all) first
noted_within all point last first are within =
    subst (λ (n : ℕ). IsWithin (named_to all) n first) are.said (subst (λ (n : ℕ). IsWithin n last.said first) are.named within)
