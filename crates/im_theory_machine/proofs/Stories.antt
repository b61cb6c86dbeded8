-- What is left of a story, by its changes and by their number.
use Rattle.std.proofs.Common.{◌≡◌, ℕ, suc, ◌+◌, ◌<◌, ◌≤◌, Bool, true, false, cond, List, [], ◌∷◌, ◌++◌, length, Option, Some, None, is_some, refl, ap, sym, subst, ◌∙◌, inl, inr, arith, length-append}
use Rattle.std.proofs.lemmas.Bool.{lt-ltb, le-ltb, cases_lt}
use Rattle.std.specs.FinMap.{get}
use Rattle.im_base_types.specs.Keys.{Key}
use Rattle.im_base_types.specs.Maps.{IndexMap, From, Above, first, last_below}
use Rattle.im_base_types.specs.Changes.{Change, Put, apply, undone}
use Rattle.im_base_types.specs.Answers.{Access, Fetch, Seek, Next, Prev, Scan, Insert, Delete, Reply, Inserted, Duplicate, Deleted, Absent, answer, changes, dropped, found, entry}
use Rattle.im_theory_machine.specs.Locks.{Lock}
use Rattle.im_theory_machine.specs.Isolation.{is_change, count_changes, kept_story}
use Rattle.im_theory_machine.proofs.Invariant.{Told, before_last, before, Through, Behind, IsReturning, through_told}

-- how many changes an access makes
abbrev pub one_if : Bool → ℕ
one_if true = 1
one_if false = 0

-- ---- a reply says whether there was a change

found_plain : (o : Option ℕ) → is_change (found o) ≡ false
found_plain None = refl
found_plain (Some r) = refl

entry_plain : (o : Option (Key × ℕ)) → is_change (entry o) ≡ false
entry_plain None = refl
entry_plain (Some e) = refl

put_counts : (k : Key) (r : ℕ) (o : Option ℕ) → length (cond {A = List Change} (is_some o) [] (Put k r ∷ [])) ≡ one_if (is_change (cond (is_some o) Duplicate Inserted))
put_counts k r None = refl
put_counts k r (Some v) = refl

drop_counts : (k : Key) (o : Option ℕ) → length (dropped k o) ≡ one_if (is_change (cond (is_some o) Deleted Absent))
drop_counts k None = refl
drop_counts k (Some v) = refl

pub reply_counts : (a : Access) (m : IndexMap) → length (changes a m) ≡ one_if (is_change (answer a m))
reply_counts (Fetch k) m = ap one_if (sym (found_plain (get m k)))
reply_counts (Seek k) m = ap one_if (sym (entry_plain (first (From k) m)))
reply_counts (Next k) m = ap one_if (sym (entry_plain (first (Above k) m)))
reply_counts (Prev k) m = ap one_if (sym (entry_plain (last_below k m)))
reply_counts (Scan lo hi n) m = refl
reply_counts (Insert k r) m = put_counts k r (get m k)
reply_counts (Delete k) m = drop_counts k (get m k)

no_one : (b : Bool) → 0 ≡ one_if b → b ≡ false
no_one true e = absurd (let h : 0 ≡ 1 = e in omega (arith, h))
no_one false e = refl

some_one : (b : Bool) → 1 ≡ one_if b → b ≡ true
some_one true e = refl
some_one false e = absurd (let h : 1 ≡ 0 = e in omega (arith, h))

pub still_plain : (a : Access) (m : IndexMap) → changes a m ≡ [] → is_change (answer a m) ≡ false
still_plain a m e = no_one (is_change (answer a m)) (sym (ap length e) ∙ reply_counts a m)

pub made_change : (a : Access) (m : IndexMap) (c : Change) → changes a m ≡ c ∷ [] → is_change (answer a m) ≡ true
made_change a m c e = some_one (is_change (answer a m)) (sym (ap length e) ∙ reply_counts a m)

-- ---- a story is of as many changes as its net

counted : (b : Bool) (n : ℕ) → cond b (suc n) n ≡ one_if b + n
counted true n = omega arith
counted false n = omega arith

pub told_counts : (ls : List Lock) (w base : IndexMap) (story : List (Access × Reply)) (net : List Change) → Told ls w base story net → count_changes story ≡ length net
told_counts ls w base [] net h = sym (ap length h)
told_counts ls w base (f ∷ fs) net h =
    let rest : count_changes fs ≡ length h.0 = told_counts ls w base fs h.0 h.4 in
    let here : length (changes f.0 (apply base h.0)) ≡ one_if (is_change f.1) = reply_counts f.0 (apply base h.0) ∙ ap (λ (r : Reply). one_if (is_change r)) h.2 in
    counted (is_change f.1) (count_changes fs)
    ∙ ap (λ (n : ℕ). one_if (is_change f.1) + n) rest
    ∙ ap (λ (n : ℕ). n + length h.0) (sym here)
    ∙ sym (length-append (changes f.0 (apply base h.0)) h.0)
    ∙ sym (ap length h.1)

-- ---- what is left by number is what is left by changes

count_before : (story : List (Access × Reply)) (n : ℕ) → count_changes story ≡ suc n → count_changes (before_last story) ≡ n
count_before [] n e = absurd (let h : 0 ≡ suc n = e in omega (arith, h))
count_before (f ∷ fs) n e = by (λ h. count_before fs n h) (is_change f.1) e
  where
    by : (count_changes fs ≡ suc n → count_changes (before_last fs) ≡ n) → (b : Bool) → cond b (suc (count_changes fs)) (count_changes fs) ≡ suc n → count_changes (cond b fs (before_last fs)) ≡ n
    by rest true e = omega (arith, e)
    by rest false e = rest e

-- a story of no more than n changes is left whole
pub kept_whole : (n : ℕ) (story : List (Access × Reply)) → count_changes story ≤ n → kept_story n story ≡ story
kept_whole n [] low = refl
kept_whole n (f ∷ fs) low = ap (λ (b : Bool). cond b (kept_story n fs) (f ∷ fs)) (le-ltb n (count_changes (f ∷ fs)) low)

-- of one of more, the newest change goes first
kept_shorter : (n : ℕ) (story : List (Access × Reply)) → n < count_changes story → kept_story n story ≡ kept_story n (before_last story)
kept_shorter n [] more = absurd (let h : n < 0 = more in omega (arith, h))
kept_shorter n (f ∷ fs) more =
    ap (λ (b : Bool). cond b (kept_story n fs) (f ∷ fs)) (lt-ltb n (count_changes (f ∷ fs)) more) ∙ by (λ h. kept_shorter n fs h) (is_change f.1) more
  where
    by : (n < count_changes fs → kept_story n fs ≡ kept_story n (before_last fs)) → (b : Bool) → n < cond b (suc (count_changes fs)) (count_changes fs) → kept_story n fs ≡ kept_story n (cond b fs (before_last fs))
    by rest true more = refl
    by rest false more = rest more

pub kept_before : (more rest : List Change) (story : List (Access × Reply)) → count_changes story ≡ length (more ++ rest) → kept_story (length rest) story ≡ before more story
kept_before [] rest story e = let h : count_changes story ≡ length rest = e in kept_whole (length rest) story (omega (arith, h))
kept_before (c ∷ more) rest story e =
    let whole : length (more ++ rest) ≡ length more + length rest = length-append more rest in
    let all : count_changes story ≡ suc (length (more ++ rest)) = e in
    let less : count_changes (before_last story) ≡ length (more ++ rest) = count_before story (length (more ++ rest)) all in
    kept_shorter (length rest) story (omega (arith, all, whole)) ∙ kept_before more rest (before_last story) less

-- ---- a net in two

-- all but its oldest n changes, and these
pub parted : (net : List Change) (n : ℕ) → n ≤ length net → (more : List Change) × (rest : List Change) × (net ≡ more ++ rest) × (length rest ≡ n)
parted [] n low = ([], [], refl, (let h : n ≤ 0 = low in omega (arith, h)))
parted (c ∷ cs) n low = elim (cases_lt (length cs) n) [
  | inl over ↦ ([], c ∷ cs, refl, (let h : n ≤ suc (length cs) = low in omega (arith, h, over)))
  | inr under ↦ let p = parted cs n under in (c ∷ p.0, p.1, ap (λ (l : List Change). c ∷ l) p.2, p.3)
]

-- ---- one that returns

turned : (ls : List Lock) (w base : IndexMap) (story : List (Access × Reply)) (more rest : List Change) → Through ls w base story (more ++ rest) → Behind ls w base (before more story) more rest
turned ls w base story [] rest h = h
turned ls w base story (c ∷ more) rest h = turned ls (undone w c) base (before_last story) more rest h.1

-- it begins to: of its story only what it was told while it had n changes is left
pub returns_to : (n : ℕ) (ls : List Lock) (w base : IndexMap) (story : List (Access × Reply)) (net : List Change) → n ≤ length net → Through ls w base story net → IsReturning n ls w base (kept_story n story) net
returns_to n ls w base story net low through =
    let p = parted net n low in
    let own : Through ls w base story (p.0 ++ p.1) = subst (λ (l : List Change). Through ls w base story l) p.2 through in
    let count : count_changes story ≡ length (p.0 ++ p.1) = told_counts ls w base story (p.0 ++ p.1) (through_told ls w base story (p.0 ++ p.1) own) in
    let same : kept_story n story ≡ before p.0 story = ap (λ (m : ℕ). kept_story m story) (sym p.3) ∙ kept_before p.0 p.1 story count in
    record {
      more = p.0;
      rest = p.1;
      is = p.2;
      count = p.3;
      behind = subst (λ (fs : List (Access × Reply)). Behind ls w base fs p.0 p.1) (sym same) (turned ls w base story p.0 p.1 own);
    }

-- where there are no more, all of its story is left
pub stays_told : (n : ℕ) (ls : List Lock) (w base : IndexMap) (story : List (Access × Reply)) (net : List Change) → length net ≤ n → Through ls w base story net → kept_story n story ≡ story
stays_told n ls w base story net low through =
    let count : count_changes story ≡ length net = told_counts ls w base story net (through_told ls w base story net through) in
    kept_whole n story (omega (arith, low, count))

-- its newest change is taken back
pub gone_one : (n : ℕ) (ls : List Lock) (w base : IndexMap) (story : List (Access × Reply)) (c : Change) (cs : List Change) → n ≤ length cs → IsReturning n ls w base story (c ∷ cs) → IsReturning n ls (undone w c) base story cs
gone_one n ls w base story c cs low h = by h.more h.rest h.is h.count h.behind
  where
    same_tail : (x y : Change) (xs ys : List Change) → x ∷ xs ≡ y ∷ ys → xs ≡ ys
    same_tail x y xs ys e = cc e

    same_head : (x y : Change) (xs ys : List Change) → x ∷ xs ≡ y ∷ ys → x ≡ y
    same_head x y xs ys e = cc e

    by : (more rest : List Change) → c ∷ cs ≡ more ++ rest → length rest ≡ n → Behind ls w base story more rest → IsReturning n ls (undone w c) base story cs
    by [] rest is count behind = absurd (let e : suc (length cs) ≡ length rest = ap length is in omega (arith, e, count, low))
    by (d ∷ more) rest is count behind = record {
      more = more;
      rest = rest;
      is = same_tail c d cs (more ++ rest) is;
      count = count;
      behind = subst (λ (x : Change). Behind ls (undone w x) base story more rest) (sym (same_head c d cs (more ++ rest) is)) behind;
    }

-- n are left, and it has its story again
pub back_told : (n : ℕ) (ls : List Lock) (w base : IndexMap) (story : List (Access × Reply)) (net : List Change) → length net ≡ n → IsReturning n ls w base story net → Through ls w base story net
back_told n ls w base story net whole h = by h.more h.rest h.is h.count h.behind
  where
    longer : (xs ys : List Change) → length ys ≤ length (xs ++ ys)
    longer [] ys = omega arith
    longer (x ∷ xs) ys = let l : length ys ≤ length (xs ++ ys) = longer xs ys in omega (arith, l)

    by : (more rest : List Change) → net ≡ more ++ rest → length rest ≡ n → Behind ls w base story more rest → Through ls w base story net
    by [] rest is count behind = subst (λ (l : List Change). Through ls w base story l) (sym is) behind
    by (d ∷ more) rest is count behind = absurd (let e : length net ≡ suc (length (more ++ rest)) = ap length is in let l : length rest ≤ length (more ++ rest) = longer more rest in omega (arith, e, count, whole, l))
