-- The pages that records of a lawful log name are below the greatest page count that it has said.
use Rattle.std.proofs.Common.{◌≡◌, ◌⊎◌, inl, inr, ℕ, ◌+◌, ◌<◌, ◌≤◌, [], ◌∷◌, ◌++◌, true, refl, sym, ◌∙◌, ap, subst, arith, Some}
use Rattle.std.specs.Prelude.{◌==◌, max}
use Rattle.std.proofs.lemmas.Bool.{cases_Bool, cases_eq, cond-true, cond-false, eq-eqb, ne_eqb}
use Rattle.im_theory_log.specs.Copies.{copy_in, noted}
use Rattle.im_theory_log.specs.Histories.{Base, History, IsFront, IsRecordOf, page_after, page_at}
use Rattle.im_theory_log.specs.Lawful.{Follows, IsLawful, MayCome}
use Rattle.im_theory_log.specs.PageCounts.{count_in, count_of, greatest_count, named_to, names_page}
use Rattle.im_base_types.specs.Pages.{Body, Page}
use Rattle.im_base_types.specs.Records.{Checkpoint, Commit, DeleteKey, DummyClr, End, Image, InsertKey, Logged, Smo, UndoDelete, UndoInsert, UndoSmo, Unreadable, What}
use Rattle.im_theory_log.specs.Structure.{body_before, open_after, open_smo, settled, taken_back}
use Rattle.im_theory_log.specs.Tree.{Tree, TreeLaws}
use Rattle.im_theory_log.proofs.Compensated.{in_log}
use Rattle.im_theory_log.proofs.Copies.{Joins, copies, joins, leaves}
use Rattle.im_theory_log.proofs.Fronts.{has_tree}
use Rattle.im_theory_log.proofs.Histories.{page_here, page_other}
use Rattle.im_theory_log.proofs.Named.{named_up}

-- ---- the pages that records name

pub named_here : (r : Logged) (older : History) → names_page r.what ≡ true → r.page < named_to (r ∷ older)
named_here r older names =
    let is : named_to (r ∷ older) ≡ max (r.page + 1) (named_to older) = cond-true (names_page r.what) (max (r.page + 1) (named_to older)) (named_to older) names in
    omega (arith, is)

named_by : (newer f : History) → named_to f ≤ named_to (newer ++ f)
named_by [] f = omega arith
named_by (r ∷ newer) f = let rest = named_by newer f in let more = named_up r (newer ++ f) in omega (arith, rest, more)

pub named_front : (f log : History) → IsFront f log → named_to f ≤ named_to log
named_front f log h = subst (λ (l : History). named_to f ≤ named_to l) h.is (named_by h.newer f)

-- a page that a front names, in the longer log
pub named_in : (p : ℕ) (f log : History) → IsFront f log → p < named_to f → p < named_to log
named_in p f log h is = let up = named_front f log h in omega (arith, up, is)

pub named_then : (p : ℕ) (r : Logged) (older : History) → p < named_to older → p < named_to (r ∷ older)
named_then p r older is = let up = named_up r older in omega (arith, up, is)

-- a record of the log names its page
record_named : (log : History) (s : Logged) → IsRecordOf s log → names_page s.what ≡ true → s.page < named_to log
record_named [] s is names = absurd is
record_named (r ∷ older) s (inl same) names = subst (λ (x : Logged). x.page < named_to (r ∷ older)) same (named_here r older (ap (λ (x : Logged). names_page x.what) same ∙ names))
record_named (r ∷ older) s (inr there) names = named_then s.page r older (record_named older s there names)

-- a record with a full copy names the page
copy_names : (l : ℕ) (w : What) (c : Page) → copy_in l w ≡ Some c → names_page w ≡ true
copy_names l (Image d) c is = refl
copy_names l (Smo old new) c is = refl
copy_names l (UndoSmo new) c is = refl
copy_names l (InsertKey k i) c is = refl
copy_names l (DeleteKey k i) c is = refl
copy_names l (UndoInsert k i) c is = refl
copy_names l (UndoDelete k i) c is = refl
copy_names l DummyClr c is = absurd (cc is)
copy_names l Commit c is = absurd (cc is)
copy_names l End c is = absurd (cc is)
copy_names l (Checkpoint n a d) c is = absurd (cc is)
copy_names l Unreadable c is = absurd (cc is)

-- so does a page of which a copy is noted
pub noted_named : (from : ℕ) (log : History) (p l : ℕ) (c : Page) → noted from log p ≡ Some (l, c) → p < named_to log
noted_named from [] p l c is = absurd (cc is)
noted_named from (r ∷ log) p l c is = by (λ e. noted_named from log p l c e) (joins from r log p)
  where
    by : (noted from log p ≡ Some (l, c) → p < named_to log) → Joins from r log p → p < named_to (r ∷ log)
    by old (leaves same) = named_then p r log (old (sym same ∙ is))
    by old (copies d over here some noted_is) = let low = named_here r log (copy_names r.lsn r.what d some) in omega (arith, low, here)

-- ---- the page count

pub count_more : (n : ℕ) (r : Logged) (older : History) → greatest_count n older ≤ greatest_count n (r ∷ older)
count_more n r older = elim (cases_eq r.page 0) [
  | inl here ↦ (let is : greatest_count n (r ∷ older) ≡ max (count_in r.what) (greatest_count n older) = cond-true (r.page == 0) (max (count_in r.what) (greatest_count n older)) (greatest_count n older) (eq-eqb r.page 0 here) in omega (arith, is))
  | inr other ↦ (let is : greatest_count n (r ∷ older) ≡ greatest_count n older = cond-false (r.page == 0) (max (count_in r.what) (greatest_count n older)) (greatest_count n older) (ne_eqb r.page 0 other) in omega (arith, is))
]

pub count_said : (n : ℕ) (r : Logged) (older : History) → r.page ≡ 0 → count_in r.what ≤ greatest_count n (r ∷ older)
count_said n r older here =
    let is : greatest_count n (r ∷ older) ≡ max (count_in r.what) (greatest_count n older) = cond-true (r.page == 0) (max (count_in r.what) (greatest_count n older)) (greatest_count n older) (eq-eqb r.page 0 here) in
    omega (arith, is)

pub count_begun : (n : ℕ) (log : History) → n ≤ greatest_count n log
count_begun n [] = omega arith
count_begun n (r ∷ older) = let low = count_begun n older in let up = count_more n r older in omega (arith, low, up)

pub count_low : (b : Base) (log : History) → 2 ≤ greatest_count (count_of b) log
count_low b log = let begun = count_begun (count_of b) log in omega (arith, begun)

-- a greater count at first is a greater one at last
pub count_grows : (m n : ℕ) (log : History) → m ≤ n → greatest_count m log ≤ greatest_count n log
count_grows m n [] le = le
count_grows m n (r ∷ older) le = let rest = count_grows m n older le in elim (cases_eq r.page 0) [
  | inl here ↦ (
      let one : greatest_count m (r ∷ older) ≡ max (count_in r.what) (greatest_count m older) = cond-true (r.page == 0) (max (count_in r.what) (greatest_count m older)) (greatest_count m older) (eq-eqb r.page 0 here) in
      let two : greatest_count n (r ∷ older) ≡ max (count_in r.what) (greatest_count n older) = cond-true (r.page == 0) (max (count_in r.what) (greatest_count n older)) (greatest_count n older) (eq-eqb r.page 0 here) in
      omega (arith, one, two, rest))
  | inr other ↦ (
      let one : greatest_count m (r ∷ older) ≡ greatest_count m older = cond-false (r.page == 0) (max (count_in r.what) (greatest_count m older)) (greatest_count m older) (ne_eqb r.page 0 other) in
      let two : greatest_count n (r ∷ older) ≡ greatest_count n older = cond-false (r.page == 0) (max (count_in r.what) (greatest_count n older)) (greatest_count n older) (ne_eqb r.page 0 other) in
      omega (arith, one, two, rest))
]

count_by : (n : ℕ) (newer f : History) → greatest_count n f ≤ greatest_count n (newer ++ f)
count_by n [] f = omega arith
count_by n (r ∷ newer) f = let rest = count_by n newer f in let more = count_more n r (newer ++ f) in omega (arith, rest, more)

pub count_front : (n : ℕ) (f log : History) → IsFront f log → greatest_count n f ≤ greatest_count n log
count_front n f log h = subst (λ (l : History). greatest_count n f ≤ greatest_count n l) h.is (count_by n h.newer f)

-- what a record leaves of the count that a page says
after_count : (l : ℕ) (w : What) (g : Page) → ((page_after l w g).body.leftmost ≡ g.body.leftmost) ⊎ ((page_after l w g).body.leftmost ≡ count_in w)
after_count l (InsertKey k i) g = inl refl
after_count l (DeleteKey k i) g = inl refl
after_count l (UndoInsert k i) g = inl refl
after_count l (UndoDelete k i) g = inl refl
after_count l (Smo old new) g = inr refl
after_count l (UndoSmo new) g = inr refl
after_count l DummyClr g = inl refl
after_count l Commit g = inl refl
after_count l End g = inl refl
after_count l (Image c) g = inl refl
after_count l (Checkpoint n a d) g = inl refl
after_count l Unreadable g = inl refl

-- page 0 says no greater count than the log has said
pub page_count_le : (b : Base) (tree : Tree) (log : History) → IsLawful b tree log → (page_at b log 0).body.leftmost ≤ greatest_count (count_of b) log
page_count_le b tree [] law = omega arith
page_count_le b tree (r ∷ older) law =
    let old : (page_at b older 0).body.leftmost ≤ greatest_count (count_of b) older = page_count_le b tree older law.0 in
    let more = count_more (count_of b) r older in
    elim (cases_eq r.page 0) [
      | inl here ↦
          let is : (page_at b (r ∷ older) 0).body.leftmost ≡ (page_after r.lsn r.what (page_at b older 0)).body.leftmost = ap (λ (g : Page). g.body.leftmost) (page_here b r older 0 here) in
          elim (after_count r.lsn r.what (page_at b older 0)) [
            | inl same ↦ omega (arith, is, same, old, more)
            | inr new ↦ let said = count_said (count_of b) r older here in omega (arith, is, new, said)
          ]
      | inr other ↦
          let is : (page_at b (r ∷ older) 0).body.leftmost ≡ (page_at b older 0).body.leftmost = ap (λ (g : Page). g.body.leftmost) (page_other b r older 0 other) in
          omega (arith, is, old, more)
    ]

-- of the open structure change's records of page 0, what it said before has no greater count
abbrev HaveCounts : ℕ → History → Type 0
HaveCounts c [] = Unit {0}
HaveCounts c (s ∷ rest) = (s.page ≡ 0 → (old new : Body) → s.what ≡ Smo old new → old.leftmost ≤ c) × HaveCounts c rest

counts_more : (c d : ℕ) (going : History) → c ≤ d → HaveCounts c going → HaveCounts d going
counts_more c d [] up have = tt
counts_more c d (s ∷ rest) up have = ((λ here old new is. let low = have.0 here old new is in omega (arith, low, up)), counts_more c d rest up have.1)

taken_count : (c : ℕ) (going : History) (now : Body) → HaveCounts c going → now.leftmost ≤ c → (taken_back going 0 now).leftmost ≤ c
taken_count c [] now have low = low
taken_count c (s ∷ rest) now have low = elim (cases_eq s.page 0) [
  | inl here ↦ subst (λ (x : Body). x.leftmost ≤ c) (sym (cond-true (s.page == 0) (body_before s.what now) (taken_back rest 0 now) (eq-eqb s.page 0 here))) (by s.what refl here)
  | inr other ↦ subst (λ (x : Body). x.leftmost ≤ c) (sym (cond-false (s.page == 0) (body_before s.what now) (taken_back rest 0 now) (ne_eqb s.page 0 other))) (taken_count c rest now have.1 low)
]
  where
    by : (w : What) → s.what ≡ w → s.page ≡ 0 → (body_before w now).leftmost ≤ c
    by (Smo old new) is here = have.0 here old new is
    by (InsertKey k i) is here = low
    by (DeleteKey k i) is here = low
    by (UndoInsert k i) is here = low
    by (UndoDelete k i) is here = low
    by (UndoSmo new) is here = low
    by DummyClr is here = low
    by Commit is here = low
    by End is here = low
    by (Image d) is here = low
    by (Checkpoint n a d) is here = low
    by Unreadable is here = low

opened : (c : ℕ) (r : Logged) (w : What) (going : History) → r.what ≡ w → (r.page ≡ 0 → (old new : Body) → r.what ≡ Smo old new → old.leftmost ≤ c) → HaveCounts c going → HaveCounts c (open_after r w going)
opened c r (Smo old new) going is here all = (here, all)
opened c r (UndoSmo new) [] is here all = tt
opened c r (UndoSmo new) (s ∷ going) is here all = all.1
opened c r DummyClr going is here all = tt
opened c r (InsertKey k i) going is here all = all
opened c r (DeleteKey k i) going is here all = all
opened c r (UndoInsert k i) going is here all = all
opened c r (UndoDelete k i) going is here all = all
opened c r Commit going is here all = all
opened c r End going is here all = all
opened c r (Image d) going is here all = all
opened c r (Checkpoint n a d) going is here all = all
opened c r Unreadable going is here all = all

open_counts : (b : Base) (tree : Tree) (log : History) → IsLawful b tree log → HaveCounts (greatest_count (count_of b) log) (open_smo log)
open_counts b tree [] law = tt
open_counts b tree (r ∷ older) law =
    let up = count_more (count_of b) r older in
    opened (greatest_count (count_of b) (r ∷ older)) r r.what (open_smo older) refl
    (λ here old new is. (
    let may = subst (λ (w : What). MayCome b tree r older w) is law.1.may in
    let was : old.leftmost ≡ (page_at b older 0).body.leftmost = ap (λ (x : Body). x.leftmost) may.before ∙ ap (λ (p : ℕ). (page_at b older p).body.leftmost) here in
    let low = page_count_le b tree older law.0 in
    omega (arith, was, low, up)))
    (counts_more (greatest_count (count_of b) older) (greatest_count (count_of b) (r ∷ older)) (open_smo older) up (open_counts b tree older law.0))

-- nor does page 0 of the tree that the log stands for
pub settled_count : (b : Base) (tree : Tree) (log : History) → IsLawful b tree log → (settled b log 0).leftmost ≤ greatest_count (count_of b) log
settled_count b tree log law = taken_count (greatest_count (count_of b) log) (open_smo log) (page_at b log 0).body (open_counts b tree log law) (page_count_le b tree log law)

-- ---- lawful logs

module _ (b : Base) (tree : Tree) (laws : TreeLaws tree) (r : Logged) (older : History) (law : IsLawful b tree older) (follows : Follows b tree r older) (known : named_to older ≤ greatest_count (count_of b) older) where
  leaf_within : (r.page < 2) ⊎ (r.page < (settled b older 0).leftmost) → r.page < greatest_count (count_of b) older
  leaf_within (inl low) = let some = count_low b older in omega (arith, low, some)
  leaf_within (inr below) = let some = settled_count b tree older law in omega (arith, below, some)

  by_kind : (w : What) → MayCome b tree r older w → names_page w ≡ true → r.page < greatest_count (count_of b) older
  by_kind (InsertKey k i) may names = leaf_within (laws.put_within (settled b older) r.page k i (has_tree b tree older law).good may.can_put)
  by_kind (DeleteKey k i) may names = leaf_within (laws.drop_within (settled b older) r.page k i (has_tree b tree older law).good may.can_drop)
  by_kind (UndoInsert k i) may names = leaf_within (laws.drop_within (settled b older) r.page k i (has_tree b tree older law).good may.can_drop)
  by_kind (UndoDelete k i) may names = leaf_within (laws.put_within (settled b older) r.page k i (has_tree b tree older law).good may.can_put)
  by_kind (Smo old new) may names = may.within
  by_kind (UndoSmo new) may names =
      let u = may.undoes in
      let logged : IsRecordOf u.undone older = (in_log older r.txn u.undone (subst (λ (l : History). IsRecordOf u.undone l) (sym u.stack) (inl refl))).0 in
      let low : u.undone.page < named_to older = record_named older u.undone logged (ap names_page u.inverse.1) in
      let page : u.undone.page ≡ r.page = may.page in
      omega (arith, low, page, known)
  by_kind (Image c) may names = let low : r.page < named_to older = may.named in omega (arith, low, known)
  by_kind DummyClr may names = absurd (cc names)
  by_kind Commit may names = absurd (cc names)
  by_kind End may names = absurd (cc names)
  by_kind (Checkpoint n a d) may names = absurd (cc names)
  by_kind Unreadable may names = absurd may

  pub next_within : names_page r.what ≡ true → r.page < greatest_count (count_of b) older
  next_within names = by_kind r.what follows.may names

-- Each page that a lawful log names is below a page count that it has said.
pub named_le_count : (b : Base) (tree : Tree) → TreeLaws tree → (log : History) → IsLawful b tree log → named_to log ≤ greatest_count (count_of b) log
named_le_count b tree laws [] law = omega arith
named_le_count b tree laws (r ∷ older) law =
    let known = named_le_count b tree laws older law.0 in
    let more = count_more (count_of b) r older in
    elim (cases_Bool (names_page r.what)) [
      | inl names ↦
          let is : named_to (r ∷ older) ≡ max (r.page + 1) (named_to older) = cond-true (names_page r.what) (max (r.page + 1) (named_to older)) (named_to older) names in
          let low = next_within b tree laws r older law.0 law.1 known names in
          omega (arith, is, low, known, more)
      | inr not ↦
          let is : named_to (r ∷ older) ≡ named_to older = cond-false (names_page r.what) (max (r.page + 1) (named_to older)) (named_to older) not in
          omega (arith, is, known, more)
    ]

-- and so is that of each record, by the counts that were said before it
pub record_within : (b : Base) (tree : Tree) → TreeLaws tree → (r : Logged) (older : History) → IsLawful b tree (r ∷ older) → names_page r.what ≡ true → r.page < greatest_count (count_of b) older
record_within b tree laws r older law names = next_within b tree laws r older law.0 law.1 (named_le_count b tree laws older law.0) names
