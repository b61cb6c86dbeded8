-- The records of a round among those that redo goes past: so many of those that it reads, and the records between them.
use Rattle.std.proofs.Common.{◌≡◌, inl, inr, ℕ, suc, zero, ◌+◌, ◌<◌, ◌≤◌, List, [], ◌∷◌, ◌++◌, length, take, drop, get_or, Bool, true, false, refl, sym, ◌∙◌, ap, subst, arith, append_assoc, le-leb, leb-true}
use Rattle.std.specs.Prelude.{if◌then◌else◌, ◌&&◌, nat_le}
use Rattle.std.proofs.lemmas.List.{drop_more}
use Rattle.im_base_types.specs.Records.{Logged}
use Rattle.im_theory_log.specs.Histories.{Base, History, IsRecordOf, Rises, changes_page, end_of}
use Rattle.im_theory_log.specs.Copies.{onto}
use Rattle.im_theory_log.proofs.Histories.{end_le}
use Rattle.im_page_rounds.specs.Rounds.{AreFrom, changing}
use Rattle.im_restart_redo.specs.Changes.{record_lsns}
use Rattle.im_restart_redo.specs.Redo.{lsns_from}
use Rattle.im_restart_redo.proofs.Passing.{first_of_rest, passed_newest}

-- ---- lists of records, the oldest first

abbrev pub oldest_first : History → List Logged
oldest_first [] = []
oldest_first (r ∷ h) = oldest_first h ++ r ∷ []

pub onto_then : (rs more : List Logged) (f : History) → onto (rs ++ more) f ≡ onto more (onto rs f)
onto_then [] more f = refl
onto_then (r ∷ rs) more f = onto_then rs more (r ∷ f)

pub onto_oldest : (h f : History) → onto (oldest_first h) f ≡ h ++ f
onto_oldest [] f = refl
onto_oldest (r ∷ h) f = onto_then (oldest_first h) (r ∷ []) f ∙ ap (λ (x : History). r ∷ x) (onto_oldest h f)

pub changing_then : (rs more : List Logged) → changing (rs ++ more) ≡ changing rs ++ changing more
changing_then [] more = refl
changing_then (r ∷ rs) more = by (changes_page r.what) (changing_then rs more)
  where
    by : (t : Bool) → changing (rs ++ more) ≡ changing rs ++ changing more → (if t then r ∷ changing (rs ++ more) else changing (rs ++ more)) ≡ (if t then r ∷ changing rs else changing rs) ++ changing more
    by true rest = ap (λ (x : List Logged). r ∷ x) rest
    by false rest = rest

pub lsns_then : (rs more : List Logged) → record_lsns (rs ++ more) ≡ record_lsns rs ++ record_lsns more
lsns_then [] more = refl
lsns_then (r ∷ rs) more = ap (λ (x : List ℕ). r.lsn ∷ x) (lsns_then rs more)

from_then : (point : ℕ) (rs more : List Logged) → AreFrom point rs → AreFrom point more → AreFrom point (rs ++ more)
from_then point [] more one two = two
from_then point (r ∷ rs) more one two = (one.0, from_then point rs more one.1 two)

-- ---- records that are passed by

-- each record of a history is at or after a point
abbrev pub AreAfter : ℕ → History → Type 0
AreAfter point h = (r : Logged) → IsRecordOf r h → point ≤ r.lsn

after_from : (point : ℕ) (h : History) → AreAfter point h → AreFrom point (oldest_first h)
after_from point [] all = tt
after_from point (r ∷ h) all = from_then point (oldest_first h) (r ∷ []) (after_from point h (λ x has. all x (inr has))) (all r (inl refl), tt)

plain_of : (point l : ℕ) (changes : Bool) → point ≤ l → (nat_le point l && changes) ≡ false → changes ≡ false
plain_of point l changes le is = sym (ap (λ (t : Bool). t && changes) (le-leb point l le)) ∙ is

plain_one : (r : Logged) (t : Bool) → changes_page r.what ≡ t → t ≡ false → changing (r ∷ []) ≡ []
plain_one r t is none = ap (λ (x : Bool). if x then r ∷ [] else []) (is ∙ none)

none_change : (point : ℕ) (h : History) → AreAfter point h → lsns_from point h ≡ [] → changing (oldest_first h) ≡ []
none_change point [] all none = refl
none_change point (r ∷ h) all none =
    let newest = passed_newest point r h none in
    changing_then (oldest_first h) (r ∷ [])
    ∙ ap (λ (x : List Logged). x ++ changing (r ∷ [])) (none_change point h (λ x has. all x (inr has)) newest.1)
    ∙ plain_one r (changes_page r.what) refl (plain_of point r.lsn (changes_page r.what) (all r (inl refl)) newest.0)

-- the records after one are above it
pub above_it : (b : Base) (after : History) (x : Logged) (older : History) → Rises b (after ++ x ∷ older) → (r : Logged) → IsRecordOf r after → x.lsn < r.lsn
above_it b [] x older up r has = absurd has
above_it b (y ∷ ys) x older up r (inl is) =
    let under : x.lsn ≤ end_of b (ys ++ x ∷ older) = end_le b (x ∷ older) (ys ++ x ∷ older) up.0 (record { newer = ys; is = refl }) in
    let over : end_of b (ys ++ x ∷ older) < y.lsn = up.1 in
    let same : r.lsn ≡ y.lsn = sym (ap (λ (z : Logged). z.lsn) is) in
    omega (arith, under, over, same)
above_it b (y ∷ ys) x older up r (inr has) = above_it b ys x older up.0 r has

-- ---- a run

-- So many of the records that redo reads stand in a history, with those between them; before them are records that are passed by, and after them the others.
pub record IsRun (point : ℕ) (lsns : List ℕ) (n : ℕ) (newer : History) : Type 0 where
  pub after : History
  pub rs : List Logged
  pub before : History
  pub split : after ++ onto rs before ≡ newer
  pub none : lsns_from point before ≡ []
  pub above : AreFrom point rs
  pub these : record_lsns (changing rs) ≡ take n lsns
  pub rest : drop n lsns ≡ lsns_from point after
  pub later : AreAfter point after

pub take_more : (lsns : List ℕ) (n x : ℕ) → n < length lsns → get_or lsns n 0 ≡ x → take (n + 1) lsns ≡ take n lsns ++ x ∷ []
take_more [] n x lt is = absurd (omega (arith, lt))
take_more (l ∷ ls) zero x lt is = ap (λ (k : ℕ). k ∷ []) is
take_more (l ∷ ls) (suc n) x lt is = ap (λ (k : ℕ). take k (l ∷ ls)) (let e : suc n + 1 ≡ suc (n + 1) = omega arith in e) ∙ ap (λ (k : List ℕ). l ∷ k) (take_more ls n x (omega (arith, lt)) is)

changing_one : (r : Logged) → (t : Bool) → changes_page r.what ≡ t → t ≡ true → changing (r ∷ []) ≡ r ∷ []
changing_one r t is so = ap (λ (x : Bool). if x then r ∷ [] else []) (is ∙ so)

both_true : (x y : Bool) → (x && y) ≡ true → (x ≡ true) × (y ≡ true)
both_true true y is = (refl, is)
both_true false y is = absurd (cc is)

module _ (b : Base) (point : ℕ) (lsns : List ℕ) (newer front : History) (up : Rises b (newer ++ front)) where
  -- one record more
  pub run_more : (n : ℕ) → n < length lsns → IsRun point lsns n newer → IsRun point lsns (n + 1) newer
  run_more n lt run =
      let x : ℕ = get_or lsns n 0 in
      let more : drop n lsns ≡ x ∷ drop (n + 1) lsns = drop_more lsns n 0 lt in
      let one = first_of_rest point x (drop (n + 1) lsns) run.after (sym more ∙ run.rest) in
      let xs : List Logged = oldest_first one.before in
      let last : List Logged = one.first ∷ [] in
      let all : List Logged = run.rs ++ (xs ++ last) in
      let before_low : AreAfter point one.before = λ r has. run.later r (subst (λ (h : History). IsRecordOf r h) one.split (in_older one.after one.first one.before r (inr has))) in
      let first_low : point ≤ one.first.lsn = run.later one.first (subst (λ (h : History). IsRecordOf one.first h) one.split (in_older one.after one.first one.before one.first (inl refl))) in
      let onto_is : onto all run.before ≡ one.first ∷ (one.before ++ onto run.rs run.before) =
      onto_then run.rs (xs ++ last) run.before ∙ onto_then xs last (onto run.rs run.before) ∙ ap (λ (h : History). one.first ∷ h) (onto_oldest one.before (onto run.rs run.before)) in
      record {
        after = one.after;
        rs = all;
        before = run.before;
        split = ap (λ (h : History). one.after ++ h) onto_is ∙ sym (append_assoc one.after (one.first ∷ one.before) (onto run.rs run.before)) ∙ ap (λ (h : History). h ++ onto run.rs run.before) one.split ∙ run.split;
        none = run.none;
        above = from_then point run.rs (xs ++ last) run.above (from_then point xs last (after_from point one.before before_low) (first_low, tt));
        these = ap record_lsns (changing_then run.rs (xs ++ last) ∙ ap (λ (y : List Logged). changing run.rs ++ y) (changing_then xs last ∙ ap (λ (y : List Logged). y ++ changing last) (none_change point one.before before_low one.none)
            ∙ changing_one one.first (changes_page one.first.what) refl (both_true (nat_le point one.first.lsn) (changes_page one.first.what) one.reads).1))
            ∙ lsns_then (changing run.rs) last
            ∙ ap (λ (y : List ℕ). y ++ one.first.lsn ∷ []) run.these
            ∙ sym (take_more lsns n one.first.lsn lt one.lsn_is);
        rest = one.rest_is;
        later = λ r has. run.later r (subst (λ (h : History). IsRecordOf r h) one.split (in_newer one.after (one.first ∷ one.before) r has));
      }
    where
      in_newer : (after older : History) (r : Logged) → IsRecordOf r after → IsRecordOf r (after ++ older)
      in_newer [] older r has = absurd has
      in_newer (y ∷ after) older r (inl is) = inl is
      in_newer (y ∷ after) older r (inr has) = inr (in_newer after older r has)

      in_older : (after : History) (x : Logged) (older : History) (r : Logged) → IsRecordOf r (x ∷ older) → IsRecordOf r (after ++ x ∷ older)
      in_older [] x older r has = has
      in_older (y ∷ after) x older r has = inr (in_older after x older r has)

  -- the first record
  pub run_one : 0 < length lsns → lsns ≡ lsns_from point newer → IsRun point lsns 1 newer
  run_one some is =
      let x : ℕ = get_or lsns 0 0 in
      let more : drop 0 lsns ≡ x ∷ drop 1 lsns = drop_more lsns 0 0 some in
      let one = first_of_rest point x (drop 1 lsns) newer (sym more ∙ is) in
      let both = both_true (nat_le point one.first.lsn) (changes_page one.first.what) one.reads in
      let low : point ≤ one.first.lsn = leb-true point one.first.lsn both.0 in
      record {
        after = one.after;
        rs = one.first ∷ [];
        before = one.before;
        split = one.split;
        none = one.none;
        above = (low, tt);
        these = ap record_lsns (changing_one one.first (changes_page one.first.what) refl both.1) ∙ sym (take_more lsns 0 one.first.lsn some one.lsn_is);
        rest = one.rest_is;
        later = λ r has.
            let over : one.first.lsn < r.lsn = above_it b one.after one.first (one.before ++ front)
            (subst (λ (h : History). Rises b h) (sym (ap (λ (h : History). h ++ front) one.split) ∙ append_assoc one.after (one.first ∷ one.before) front) up) r has in
            omega (arith, low, over);
      }

  pub run_of : (n : ℕ) → n < length lsns → lsns ≡ lsns_from point newer → IsRun point lsns (suc n) newer
  run_of zero lt is = run_one lt is
  run_of (suc n) lt is = subst (λ (k : ℕ). IsRun point lsns k newer) (let e : suc n + 1 ≡ suc (suc n) = omega arith in e) (run_more (suc n) lt (run_of n (omega (arith, lt)) is))
