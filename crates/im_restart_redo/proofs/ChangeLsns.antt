-- The LSNs of changes.
use Rattle.std.proofs.Common.{◌≡◌, ◌+◌, ◌-◌, ◌<◌, ◌≤◌, inl, inr, ℕ, suc, zero, List, [], ◌∷◌, ◌++◌, Bool, true, false, drop, take, get_or, length, append_assoc, refl, sym, ◌∙◌, ap, arith, subst, if◌then◌else◌, ◌&&◌, nat_le}
use Rattle.std.proofs.lemmas.List.{drop-drop, drop-map, drop_more, length-drop, length-map, map-append}
use Rattle.std.proofs.Math.Seq.{take-length}
use Rattle.im_base_types.specs.Records.{Logged}
use Rattle.im_theory_log.specs.Histories.{Base, History, IsRecordOf, Rises, changes_page, end_of}
use Rattle.im_restart_analysis.specs.declared.changes.Change.{Change}
use Rattle.im_restart_analysis.specs.Changes.{change_of, changes_from}
use Rattle.im_restart_redo.specs.Changes.{AreOwn, lsns_of}
use Rattle.im_restart_redo.specs.Redo.{lsns_from}

one_more : (counts : Bool) (xs : List Change) (r : Logged) (lsns : List ℕ) → lsns_of xs ≡ lsns → lsns_of (if counts then xs ++ change_of r ∷ [] else xs) ≡ (if counts then lsns ++ r.lsn ∷ [] else lsns)
one_more true xs r lsns is = map-append (λ (x : Change). x.lsn) xs (change_of r ∷ []) ∙ ap (λ (l : List ℕ). l ++ r.lsn ∷ []) is
one_more false xs r lsns is = is

-- those of a log
pub lsns_are : (point : ℕ) (log : History) → lsns_of (changes_from point log) ≡ lsns_from point log
lsns_are point [] = refl
lsns_are point (r ∷ older) = one_more (nat_le point r.lsn && changes_page r.what) (changes_from point older) r (lsns_from point older) (lsns_are point older)

-- the next one, and those after it
pub next_lsn : (xs : List Change) (i : ℕ) (d : Change) → i < length xs → drop i (lsns_of xs) ≡ (get_or xs i d).lsn ∷ drop (i + 1) (lsns_of xs)
next_lsn xs i d within =
    drop-map (λ (x : Change). x.lsn) i xs
    ∙ ap (λ (ys : List Change). lsns_of ys) (drop_more xs i d within)
    ∙ ap (λ (ls : List ℕ). (get_or xs i d).lsn ∷ ls) (sym (drop-map (λ (x : Change). x.lsn) (i + 1) xs))

-- those of the changes from one on
pub dropped_lsns : (xs : List Change) (n : ℕ) → lsns_of (drop n xs) ≡ drop n (lsns_of xs)
dropped_lsns xs n = sym (drop-map (λ (x : Change). x.lsn) n xs)

-- there are as many LSNs as changes
pub few_lsns : (xs : List Change) (n : ℕ) → n ≤ length xs → n ≤ length (lsns_of xs)
few_lsns xs n le = omega (arith, le, length-map xs (λ (x : Change). x.lsn))

-- the same of them as a slice has them
pub sliced : (xs : List Change) (i : ℕ) → take (length xs - i) (drop i xs) ≡ drop i xs
sliced xs i = ap (λ (n : ℕ). take n (drop i xs)) (sym (length-drop i xs)) ∙ take-length (drop i xs)

pub sliced_lsns : (xs : List Change) (i : ℕ) → lsns_of (take (length xs - i) (drop i xs)) ≡ drop i (lsns_of xs)
sliced_lsns xs i = ap lsns_of (sliced xs i) ∙ dropped_lsns xs i

-- those after some of these
pub sliced_more : (xs : List Change) (i n : ℕ) → drop n (lsns_of (take (length xs - i) (drop i xs))) ≡ drop (i + n) (lsns_of xs)
sliced_more xs i n = ap (λ (l : List ℕ). drop n l) (sliced_lsns xs i) ∙ drop-drop n i (lsns_of xs)

-- ---- each change is of its record's page

own_dropped : (log : History) (xs : List Change) (n : ℕ) → AreOwn log xs → AreOwn log (drop n xs)
own_dropped log xs zero own = own
own_dropped log [] (suc n) own = tt
own_dropped log (x ∷ xs) (suc n) own = own_dropped log xs n own.1

pub own_sliced : (log : History) (xs : List Change) (i : ℕ) → AreOwn log xs → AreOwn log (take (length xs - i) (drop i xs))
own_sliced log xs i own = subst (λ (ys : List Change). AreOwn log ys) (sym (sliced xs i)) (own_dropped log xs i own)

pub own_take : (log : History) (xs : List Change) (n : ℕ) → AreOwn log xs → AreOwn log (take n xs)
own_take log xs zero own = tt
own_take log [] (suc n) own = tt
own_take log (x ∷ xs) (suc n) own = (own.0, own_take log xs n own.1)

own_more : (log : History) (xs : List Change) (x : Change) → AreOwn log xs → ((r : Logged) → IsRecordOf r log → r.lsn ≡ x.lsn → r.page ≡ x.page) → AreOwn log (xs ++ x ∷ [])
own_more log [] x own one = (one, tt)
own_more log (y ∷ xs) x own one = (own.0, own_more log xs x own.1 one)

record_le : (b : Base) (log : History) (r : Logged) → Rises b log → IsRecordOf r log → r.lsn ≤ end_of b log
record_le b [] r up has = absurd has
record_le b (y ∷ ys) r up (inl is) = let e : y.lsn ≡ r.lsn = ap (λ (x : Logged). x.lsn) is in omega (arith, e)
record_le b (y ∷ ys) r up (inr has) = let rest = record_le b ys r up.0 has in let high : end_of b ys < y.lsn = up.1 in omega (arith, rest, high)

one_record : (b : Base) (log : History) (s h : Logged) → Rises b log → IsRecordOf s log → IsRecordOf h log → s.lsn ≡ h.lsn → s ≡ h
one_record b [] s h up is ih e = absurd is
one_record b (r ∷ older) s h up (inl a) (inl c) e = sym a ∙ c
one_record b (r ∷ older) s h up (inl a) (inr c) e =
    let within : h.lsn ≤ end_of b older = record_le b older h up.0 c in
    let high : end_of b older < r.lsn = up.1 in let x : r.lsn ≡ s.lsn = ap (λ (y : Logged). y.lsn) a in absurd (omega (arith, within, high, x, e))
one_record b (r ∷ older) s h up (inr a) (inl c) e =
    let within : s.lsn ≤ end_of b older = record_le b older s up.0 a in
    let high : end_of b older < r.lsn = up.1 in let x : r.lsn ≡ h.lsn = ap (λ (y : Logged). y.lsn) c in absurd (omega (arith, within, high, x, e))
one_record b (r ∷ older) s h up (inr a) (inr c) e = one_record b older s h up.0 a c e

in_rest : (newer : History) (r : Logged) (older : History) → IsRecordOf r (newer ++ r ∷ older)
in_rest [] r older = inl refl
in_rest (x ∷ newer) r older = inr (in_rest newer r older)

-- those of a log that rises are
own_front : (b : Base) (point : ℕ) (all newer front : History) → newer ++ front ≡ all → Rises b all → AreOwn all (changes_from point front)
own_front b point all newer [] is up = tt
own_front b point all newer (r ∷ older) is up =
    let here : IsRecordOf r all = subst (λ (h : History). IsRecordOf r h) is (in_rest newer r older) in
    by (nat_le point r.lsn && changes_page r.what) (own_front b point all (newer ++ r ∷ []) older (append_assoc newer (r ∷ []) older ∙ is) up)
    (λ q has same. ap (λ (x : Logged). x.page) (one_record b all q r up has here same))
  where
    by : (t : Bool) → AreOwn all (changes_from point older) → ((q : Logged) → IsRecordOf q all → q.lsn ≡ r.lsn → q.page ≡ r.page) → AreOwn all (if t then changes_from point older ++ change_of r ∷ [] else changes_from point older)
    by true rest one = own_more all (changes_from point older) (change_of r) rest one
    by false rest one = rest

pub own_from : (b : Base) (point : ℕ) (all : History) → Rises b all → AreOwn all (changes_from point all)
own_from b point all up = own_front b point all [] all refl up
