-- Each key record is compensated at most once, also where its transaction goes on after changes were taken back.
use Rattle.std.proofs.Common.{◌≡◌, ◌≢◌, ◌⊎◌, inl, inr, ⊎_elim, ℕ, ◌+◌, ◌<◌, ◌≤◌, [], ◌∷◌, Bool, true, false, ◌||◌, refl, sym, ◌∙◌, ap, subst, arith}
use Rattle.std.specs.Prelude.{if◌then◌else◌, ◌==◌, nat_lt}
use Rattle.std.proofs.lemmas.Bool.{cases_eq, cases_lt, cases_order, or_parts, eq-eqb, ne_eqb, cond-true, cond-false, lt-ltb}
use Rattle.im_theory_log.specs.Histories.{Base, History, IsRecordOf, Rises, below, end_of}
use Rattle.im_theory_log.specs.Lawful.{Follows, IsLawful, MayCome, Undoes, has_owner}
use Rattle.im_base_types.specs.Records.{Checkpoint, Commit, DeleteKey, DummyClr, End, Image, InsertKey, Logged, Smo, UndoDelete, UndoInsert, UndoSmo, Unreadable, What}
use Rattle.im_theory_log.specs.Transactions.{Fate, IsCounted, compensated, is_compensation, is_end, is_finished, is_key, is_smo, last_of, rest_of, stack_after, to_undo, without_smo}
use Rattle.im_theory_log.specs.Tree.{Tree}
use Rattle.im_theory_log.proofs.Appends.{plain}
use Rattle.im_theory_log.proofs.Chains.{undone_place}
use Rattle.im_theory_log.proofs.Fronts.{rises}
use Rattle.im_theory_log.proofs.Histories.{below_older, end_below, rises_below, start_low, whole_below}
use Rattle.im_theory_log.proofs.OpenSmo.{IsOwned, owned}
use Rattle.im_theory_log.proofs.Stacks.{IsStack, is_stack, last_le}

-- a compensation leads below itself
abbrev LeadsDown : Logged → Bool → Type 0
LeadsDown r true = r.undo_next < r.lsn
LeadsDown r false = Unit {0}

leads_down : (b : Base) (tree : Tree) (r : Logged) (older : History) → IsLawful b tree older → Follows b tree r older → (w : What) → MayCome b tree r older w → LeadsDown r (is_compensation w)
leads_down b tree r older law follows (InsertKey k i) may = tt
leads_down b tree r older law follows (DeleteKey k i) may = tt
leads_down b tree r older law follows (UndoInsert k i) may = let place = undone_place b tree r older law follows may.undoes in let low : may.undoes.undone.lsn ≤ end_of b older = place.2 in let small : r.undo_next < may.undoes.undone.lsn = place.3 in let high : end_of b older < r.lsn = follows.rises in omega (arith, low, small, high)
leads_down b tree r older law follows (UndoDelete k i) may = let place = undone_place b tree r older law follows may.undoes in let low : may.undoes.undone.lsn ≤ end_of b older = place.2 in let small : r.undo_next < may.undoes.undone.lsn = place.3 in let high : end_of b older < r.lsn = follows.rises in omega (arith, low, small, high)
leads_down b tree r older law follows (Smo o n) may = tt
leads_down b tree r older law follows (UndoSmo n) may = tt
leads_down b tree r older law follows DummyClr may = tt
leads_down b tree r older law follows Commit may = tt
leads_down b tree r older law follows End may = tt
leads_down b tree r older law follows (Image c) may = tt
leads_down b tree r older law follows (Checkpoint n a d) may = tt
leads_down b tree r older law follows Unreadable may = tt

-- no compensation of a transaction leads to its last record or beyond: a record that comes after that is not compensated yet
pub none_compensated : (b : Base) (tree : Tree) (log : History) (t prev : ℕ) → IsLawful b tree log → last_of t log ≤ prev → compensated log t prev ≡ 0
none_compensated b tree [] t prev law high = refl
none_compensated b tree (r ∷ older) t prev law high = elim (cases_eq r.txn t) [
  | inl mine ↦
      let last : last_of t (r ∷ older) ≡ r.lsn = cond-true (r.txn == t) r.lsn (last_of t older) (eq-eqb r.txn t mine) in
      let low : last_of t older ≤ end_of b older = last_le b t older (rises b tree older law.0) in
      let up : end_of b older < r.lsn = law.1.rises in
      let rest : compensated older t prev ≡ 0 = none_compensated b tree older t prev law.0 (omega (arith, last, low, up, high)) in
      cond-true (r.txn == t) _ _ (eq-eqb r.txn t mine) ∙ by (is_compensation r.what) (leads_down b tree r older law.0 law.1 r.what law.1.may) (omega (arith, last, high)) rest
  | inr other ↦
      let last : last_of t (r ∷ older) ≡ last_of t older = cond-false (r.txn == t) r.lsn (last_of t older) (ne_eqb r.txn t other) in
      cond-false (r.txn == t) _ _ (ne_eqb r.txn t other) ∙ none_compensated b tree older t prev law.0 (omega (arith, last, high))
]
  where
    by : (c : Bool) → LeadsDown r c → r.lsn ≤ prev → compensated older t prev ≡ 0
        → (if c then (if r.undo_next == prev then compensated older t prev + 1 else compensated older t prev) else compensated older t prev) ≡ 0
    by true down over rest = let d : r.undo_next < r.lsn = down in cond-false (r.undo_next == prev) _ _ (ne_eqb r.undo_next prev (λ e. omega (arith, d, over, e))) ∙ rest
    by false down over rest = rest

-- ---- records of a log

in_le : (b : Base) (log : History) (s : Logged) → Rises b log → IsRecordOf s log → s.lsn ≤ end_of b log
in_le b [] s up is = absurd is
in_le b (r ∷ older) s up (inl same) = let e : r.lsn ≡ s.lsn = ap (λ (x : Logged). x.lsn) same in omega (arith, e)
in_le b (r ∷ older) s up (inr there) = let low : s.lsn ≤ end_of b older = in_le b older s up.0 there in let high : end_of b older < r.lsn = up.1 in omega (arith, low, high)

unique : (b : Base) (log : History) (s h : Logged) → Rises b log → IsRecordOf s log → IsRecordOf h log → s.lsn ≡ h.lsn → s ≡ h
unique b [] s h up is ih e = absurd is
unique b (r ∷ older) s h up (inl a) (inl c) e = sym a ∙ c
unique b (r ∷ older) s h up (inl a) (inr c) e = let low : h.lsn ≤ end_of b older = in_le b older h up.0 c in let high : end_of b older < r.lsn = up.1 in let x : r.lsn ≡ s.lsn = ap (λ (y : Logged). y.lsn) a in absurd (omega (arith, low, high, x, e))
unique b (r ∷ older) s h up (inr a) (inl c) e = let low : s.lsn ≤ end_of b older = in_le b older s up.0 a in let high : end_of b older < r.lsn = up.1 in let x : r.lsn ≡ h.lsn = ap (λ (y : Logged). y.lsn) c in absurd (omega (arith, low, high, x, e))
unique b (r ∷ older) s h up (inr a) (inr c) e = unique b older s h up.0 a c e

in_below : (log : History) (s : Logged) (l : ℕ) → IsRecordOf s log → s.lsn < l → IsRecordOf s (below l log)
in_below [] s l is low = is
in_below (r ∷ older) s l is low = elim (cases_lt r.lsn l) [
  | inl under ↦ subst (λ (f : History). IsRecordOf s f) (sym (cond-true (nat_lt r.lsn l) (r ∷ older) (below l older) (lt-ltb r.lsn l under))) is
  | inr over ↦
      let there : IsRecordOf s older = ⊎_elim (λ same. absurd (let e : r.lsn ≡ s.lsn = ap (λ (x : Logged). x.lsn) same in omega (arith, e, over, low))) (λ t. t) is in
      subst (λ (f : History). IsRecordOf s f) (sym (below_older l r older over)) (in_below older s l there low)
]

last_ge : (b : Base) (log : History) (s : Logged) → Rises b log → IsRecordOf s log → s.lsn ≤ last_of s.txn log
last_ge b [] s up is = absurd is
last_ge b (r ∷ older) s up is = elim (cases_eq r.txn s.txn) [
  | inl mine ↦ let last : last_of s.txn (r ∷ older) ≡ r.lsn = cond-true (r.txn == s.txn) r.lsn (last_of s.txn older) (eq-eqb r.txn s.txn mine) in
      let low : s.lsn ≤ r.lsn = in_le b (r ∷ older) s up is in omega (arith, last, low)
  | inr other ↦
      let there : IsRecordOf s older = ⊎_elim (λ same. absurd (other (ap (λ (x : Logged). x.txn) same))) (λ t. t) is in
      let last : last_of s.txn (r ∷ older) ≡ last_of s.txn older = cond-false (r.txn == s.txn) r.lsn (last_of s.txn older) (ne_eqb r.txn s.txn other) in
      let low : s.lsn ≤ last_of s.txn older = last_ge b older s up.0 there in omega (arith, last, low)
]

-- each owned record's prev is its owner's last before it
prev_of : (b : Base) (tree : Tree) (log : History) (s : Logged) → IsLawful b tree log → IsRecordOf s log → has_owner s.what ≡ true → (s.prev ≡ last_of s.txn (below s.lsn log)) × (b.start < s.lsn)
prev_of b tree [] s law is owner = absurd is
prev_of b tree (r ∷ older) s law (inl same) owner =
    let up : end_of b older < r.lsn = law.1.rises in
    let here : (r.prev ≡ last_of r.txn (below r.lsn (r ∷ older))) × (b.start < r.lsn) =
    ((law.1.chained (subst (λ (x : Logged). has_owner x.what ≡ true) (sym same) owner)).prev ∙ ap (λ (l : History). last_of r.txn l) (sym (below_older r.lsn r older (omega arith) ∙ whole_below b r.lsn older up)), (let low : b.start ≤ end_of b older = start_low b older (rises b tree older law.0) in omega (arith, up, low))) in
    subst (λ (x : Logged). (x.prev ≡ last_of x.txn (below x.lsn (r ∷ older))) × (b.start < x.lsn)) same here
prev_of b tree (r ∷ older) s law (inr there) owner =
    let rest = prev_of b tree older s law.0 there owner in
    let low : s.lsn ≤ end_of b older = in_le b older s (rises b tree older law.0) there in let high : end_of b older < r.lsn = law.1.rises in
    (rest.0 ∙ ap (λ (l : History). last_of s.txn l) (sym (below_older s.lsn r older (omega (arith, low, high)))), rest.1)

-- of two records of one owner the later has the greater prev
later_prev : (b : Base) (tree : Tree) (log : History) (s h : Logged) → IsLawful b tree log → IsRecordOf s log → IsRecordOf h log → has_owner s.what ≡ true → has_owner h.what ≡ true → s.txn ≡ h.txn → s.lsn < h.lsn → s.prev < h.prev
later_prev b tree log s h law is ih os oh same less =
    let up = rises b tree log law in
    let ps = prev_of b tree log s law is os in
    let ph = prev_of b tree log h law ih oh in
    let inside : s.lsn ≤ last_of s.txn (below h.lsn log) = last_ge b (below h.lsn log) s (rises_below b h.lsn log up) (in_below log s h.lsn is less) in
    let last : last_of s.txn (below h.lsn log) ≡ last_of h.txn (below h.lsn log) = ap (λ (t : ℕ). last_of t (below h.lsn log)) same in
    let low : last_of s.txn (below s.lsn log) ≤ end_of b (below s.lsn log) = last_le b s.txn (below s.lsn log) (rises_below b s.lsn log up) in
    let under : end_of b (below s.lsn log) < s.lsn = end_below b s.lsn log ps.1 in
    let a : s.prev ≡ last_of s.txn (below s.lsn log) = ps.0 in
    let c : h.prev ≡ last_of h.txn (below h.lsn log) = ph.0 in
    omega (arith, inside, last, low, under, a, c)

pub other_prev : (b : Base) (tree : Tree) (log : History) (s h : Logged) → IsLawful b tree log → IsRecordOf s log → IsRecordOf h log → has_owner s.what ≡ true → has_owner h.what ≡ true → s.txn ≡ h.txn → (h ≡ s → ⊥) → h.prev ≡ s.prev → ⊥
other_prev b tree log s h law is ih os oh same differ e = elim (cases_order s.lsn h.lsn) [
  | inl equal ↦ differ (sym (unique b log s h (rises b tree log law) is ih equal))
  | inr (inl less) ↦ let p : s.prev < h.prev = later_prev b tree log s h law is ih os oh same less in omega (arith, p, e)
  | inr (inr more) ↦ let p : h.prev < s.prev = later_prev b tree log h s law ih is oh os (sym same) more in omega (arith, p, e)
]

-- ---- a stack's records are the log's, and have an owner

in_rest : (s : Logged) (stack : History) → IsRecordOf s (rest_of stack) → IsRecordOf s stack
in_rest s [] is = is
in_rest s (x ∷ rest) is = inr is

in_not_smo : (s : Logged) (stack : History) → IsRecordOf s (without_smo stack) → IsRecordOf s stack
in_not_smo s [] is = is
in_not_smo s (x ∷ rest) is = let go = in_not_smo s rest in pick (is_smo x.what) go is
  where
    pick : (t : Bool) → (IsRecordOf s (without_smo rest) → IsRecordOf s rest) → IsRecordOf s (if t then without_smo rest else x ∷ rest) → IsRecordOf s (x ∷ rest)
    pick true go is = inr (go is)
    pick false go is = is

abbrev Owned : Logged → Type 0
Owned s = has_owner s.what ≡ true

in_stacked : (r : Logged) (w : What) → r.what ≡ w → (older stack : History) → ((s : Logged) → IsRecordOf s stack → IsRecordOf s older × Owned s) → (s : Logged) → IsRecordOf s (stack_after r w stack) → IsRecordOf s (r ∷ older) × Owned s
in_stacked r (InsertKey k i) e older stack all s (inl same) = (inl same, subst (λ (x : Logged). Owned x) same (ap has_owner e))
in_stacked r (InsertKey k i) e older stack all s (inr there) = let h = all s there in (inr h.0, h.1)
in_stacked r (DeleteKey k i) e older stack all s (inl same) = (inl same, subst (λ (x : Logged). Owned x) same (ap has_owner e))
in_stacked r (DeleteKey k i) e older stack all s (inr there) = let h = all s there in (inr h.0, h.1)
in_stacked r (Smo o n) e older stack all s (inl same) = (inl same, subst (λ (x : Logged). Owned x) same (ap has_owner e))
in_stacked r (Smo o n) e older stack all s (inr there) = let h = all s there in (inr h.0, h.1)
in_stacked r (UndoInsert k i) e older stack all s is = let h = all s (in_rest s stack is) in (inr h.0, h.1)
in_stacked r (UndoDelete k i) e older stack all s is = let h = all s (in_rest s stack is) in (inr h.0, h.1)
in_stacked r (UndoSmo n) e older stack all s is = let h = all s (in_rest s stack is) in (inr h.0, h.1)
in_stacked r DummyClr e older stack all s is = let h = all s (in_not_smo s stack is) in (inr h.0, h.1)
in_stacked r Commit e older stack all s is = absurd is
in_stacked r End e older stack all s is = absurd is
in_stacked r (Image c) e older stack all s is = let h = all s is in (inr h.0, h.1)
in_stacked r (Checkpoint n a d) e older stack all s is = let h = all s is in (inr h.0, h.1)
in_stacked r Unreadable e older stack all s is = let h = all s is in (inr h.0, h.1)

pub in_log : (log : History) (t : ℕ) (s : Logged) → IsRecordOf s (to_undo t log) → IsRecordOf s log × Owned s
in_log [] t s is = absurd is
in_log (r ∷ older) t s is = let all = λ (x : Logged) (y : IsRecordOf x (to_undo t older)). in_log older t x y in elim (cases_eq r.txn t) [
  | inl mine ↦ in_stacked r r.what refl older (to_undo t older) all s (subst (λ (l : History). IsRecordOf s l) (cond-true (r.txn == t) (stack_after r r.what (to_undo t older)) (to_undo t older) (eq-eqb r.txn t mine)) is)
  | inr other ↦ let h = all s (subst (λ (l : History). IsRecordOf s l) (cond-false (r.txn == t) (stack_after r r.what (to_undo t older)) (to_undo t older) (ne_eqb r.txn t other)) is) in (inr h.0, h.1)
]

in_kept : (s : Logged) → is_smo s.what ≡ false → (stack : History) → IsRecordOf s stack → IsRecordOf s (without_smo stack)
in_kept s plain [] is = is
in_kept s plain (x ∷ rest) is = let go = in_kept s plain rest in pick (is_smo x.what) refl go is
  where
    pick : (t : Bool) → is_smo x.what ≡ t → (IsRecordOf s rest → IsRecordOf s (without_smo rest)) → IsRecordOf s (x ∷ rest) → IsRecordOf s (if t then without_smo rest else x ∷ rest)
    pick true e go (inl same) = absurd (let clash : true ≡ false = sym e ∙ ap (λ (y : Logged). is_smo y.what) same ∙ plain in cc clash)
    pick true e go (inr there) = go there
    pick false e go is = is

key_plain : (w : What) → is_key w ≡ true → (is_smo w ≡ false) × (has_owner w ≡ true)
key_plain (InsertKey k i) e = (refl, refl)
key_plain (DeleteKey k i) e = (refl, refl)
key_plain (UndoInsert k i) e = cc e
key_plain (UndoDelete k i) e = cc e
key_plain (Smo o n) e = cc e
key_plain (UndoSmo n) e = cc e
key_plain DummyClr e = cc e
key_plain Commit e = cc e
key_plain End e = cc e
key_plain (Image c) e = cc e
key_plain (Checkpoint n a d) e = cc e
key_plain Unreadable e = cc e

fate_along : (s : Logged) (stack next : History) (m n : ℕ) → stack ≡ next → m ≡ n → Fate s next n → Fate s stack m
fate_along s stack next m n e f fate = ⊎_elim
    (λ h. inl (subst (λ (l : History). IsRecordOf s l) (sym e) h.0, f ∙ h.1))
    (λ h. inr (λ is. h.0 (subst (λ (l : History). IsRecordOf s l) e is), f ∙ h.1)) fate

module _ (b : Base) (tree : Tree) (r : Logged) (older : History) (law : IsLawful b tree older) (follows : Follows b tree r older) (s : Logged) (key : is_key s.what ≡ true) (mine : r.txn ≡ s.txn) (is : IsRecordOf s older) where
  abbrev count : ℕ
  count = compensated older r.txn s.prev

  -- the count with this record, by its kind
  abbrev counts : What → ℕ
  counts w = if is_compensation w then (if r.undo_next == s.prev then count + 1 else count) else count

  not_r : r ≡ s → ⊥
  not_r same = let e : r.lsn ≡ s.lsn = ap (λ (x : Logged). x.lsn) same in let low : s.lsn ≤ end_of b older = in_le b older s (rises b tree older law) is in let high : end_of b older < r.lsn = follows.rises in omega (arith, e, low, high)

  undoing : {what : What → Type 0} (u : Undoes r older what) → Fate s (to_undo r.txn older) count → Fate s (rest_of (to_undo r.txn older)) (if r.undo_next == s.prev then count + 1 else count)
  undoing u fate =
      let up = rises b tree older law in
      let h = u.undone in
      let stack = subst (λ (l : History). IsStack b older r.txn l) u.stack (is_stack b tree older r.txn law) in
      let top : IsRecordOf h (to_undo r.txn older) = subst (λ (l : History). IsRecordOf h l) (sym u.stack) (inl refl) in
      let of_h = in_log older r.txn h top in
      let owner : h.txn ≡ r.txn = (subst (λ (l : History). IsOwned r.txn l) u.stack (owned r.txn older)).0 in
      let lower : IsRecordOf h u.rest → ⊥ = λ deep.
      let inside : IsRecordOf h (below h.lsn older) = (in_log (below h.lsn older) r.txn h (subst (λ (l : History). IsRecordOf h l) stack.2 deep)).0 in
      let low : h.lsn ≤ end_of b (below h.lsn older) = in_le b (below h.lsn older) h (rises_below b h.lsn older up) inside in
      let under : end_of b (below h.lsn older) < h.lsn = end_below b h.lsn older stack.4 in
      omega (arith, low, under) in
      let apart : (h ≡ s → ⊥) → (if r.undo_next == s.prev then count + 1 else count) ≡ count = λ differ.
      cond-false (r.undo_next == s.prev) _ _ (ne_eqb r.undo_next s.prev (λ e. other_prev b tree older s h law is of_h.0 (key_plain s.what key).1 of_h.1 (sym (owner ∙ mine)) differ (sym u.leads ∙ e))) in
      let rest : rest_of (to_undo r.txn older) ≡ u.rest = ap rest_of u.stack in
      fate_along s (rest_of (to_undo r.txn older)) u.rest (if r.undo_next == s.prev then count + 1 else count) (if r.undo_next == s.prev then count + 1 else count) rest refl (⊎_elim
      (λ live. ⊎_elim
      (λ same. inr (
        λ deep. lower (subst (λ (x : Logged). IsRecordOf x u.rest) (sym same) deep),
        cond-true (r.undo_next == s.prev) (count + 1) count (eq-eqb r.undo_next s.prev (u.leads ∙ ap (λ (x : Logged). x.prev) same)) ∙ (let none : count ≡ 0 = live.1 in omega (arith, none)),
      ))
      (λ deep. inl (deep, apart (λ same. lower (subst (λ (x : Logged). IsRecordOf x u.rest) (sym same) deep)) ∙ live.1))
      (subst (λ (l : History). IsRecordOf s l) u.stack live.0))
      (λ gone. inr (
        λ deep. gone.0 (subst (λ (l : History). IsRecordOf s l) (sym u.stack) (inr deep)),
        apart (λ same. gone.0 (subst (λ (l : History). IsRecordOf s l) (sym u.stack) (inl same))) ∙ gone.1,
      ))
      fate)

  onto : Fate s (to_undo r.txn older) count → Fate s (r ∷ to_undo r.txn older) count
  onto fate = ⊎_elim (λ live. inl (inr live.0, live.1)) (λ gone. inr (λ there. ⊎_elim not_r gone.0 there, gone.1)) fate

  own_fate : (w : What) → is_end w ≡ false → MayCome b tree r older w → Fate s (to_undo r.txn older) count → Fate s (stack_after r w (to_undo r.txn older)) (counts w)
  own_fate (InsertKey k i) e may fate = onto fate
  own_fate (DeleteKey k i) e may fate = onto fate
  own_fate (Smo o n) e may fate = onto fate
  own_fate (UndoInsert k i) e may fate = undoing may.undoes fate
  own_fate (UndoDelete k i) e may fate = undoing may.undoes fate
  own_fate (UndoSmo n) e may fate =
      let u = may.undoes in
      let differ : u.undone ≡ s → ⊥ = λ same.
      let clash : true ≡ false = sym (ap is_smo u.inverse.1) ∙ ap (λ (x : Logged). is_smo x.what) same ∙ (key_plain s.what key).0 in cc clash in
      let rest : rest_of (to_undo r.txn older) ≡ u.rest = ap rest_of u.stack in
      fate_along s (rest_of (to_undo r.txn older)) u.rest count count rest refl (⊎_elim
      (λ live. inl (⊎_elim (λ same. absurd (differ same)) (λ deep. deep) (subst (λ (l : History). IsRecordOf s l) u.stack live.0), live.1))
      (λ gone. inr (λ deep. gone.0 (subst (λ (l : History). IsRecordOf s l) (sym u.stack) (inr deep)), gone.1)) fate)
  own_fate DummyClr e may fate = ⊎_elim
      (λ live. inl (in_kept s (key_plain s.what key).0 (to_undo r.txn older) live.0, live.1))
      (λ gone. inr (λ there. gone.0 (in_not_smo s (to_undo r.txn older) there), gone.1)) fate
  own_fate Commit e may fate = cc e
  own_fate End e may fate = cc e
  own_fate (Image c) e may fate = fate
  own_fate (Checkpoint n a d) e may fate = fate
  own_fate Unreadable e may fate = fate

pushed_fate : (b : Base) (tree : Tree) (r : Logged) (older : History) → IsLawful b tree older → r.prev ≡ last_of r.txn older → (w : What) → r.what ≡ w → MayCome b tree r older w → is_key w ≡ true → (IsRecordOf r (stack_after r w (to_undo r.txn older))) × (compensated older r.txn r.prev ≡ 0) × (is_compensation w ≡ false)
pushed_fate b tree r older law prev (InsertKey k i) e may key = (inl refl, none_compensated b tree older r.txn r.prev law (omega (arith, prev)), refl)
pushed_fate b tree r older law prev (DeleteKey k i) e may key = (inl refl, none_compensated b tree older r.txn r.prev law (omega (arith, prev)), refl)
pushed_fate b tree r older law prev (UndoInsert k i) e may key = cc key
pushed_fate b tree r older law prev (UndoDelete k i) e may key = cc key
pushed_fate b tree r older law prev (Smo o n) e may key = cc key
pushed_fate b tree r older law prev (UndoSmo n) e may key = cc key
pushed_fate b tree r older law prev DummyClr e may key = cc key
pushed_fate b tree r older law prev Commit e may key = cc key
pushed_fate b tree r older law prev End e may key = cc key
pushed_fate b tree r older law prev (Image c) e may key = cc key
pushed_fate b tree r older law prev (Checkpoint n a d) e may key = cc key
pushed_fate b tree r older law prev Unreadable e may key = cc key

-- Each key record of an unfinished transaction is left to undo and was not compensated, or was compensated once.
pub compensated_once : (b : Base) (tree : Tree) (log : History) (s : Logged) → IsLawful b tree log → IsRecordOf s log → is_key s.what ≡ true → is_finished s.txn log ≡ false → Fate s (to_undo s.txn log) (compensated log s.txn s.prev)
compensated_once b tree [] s law is key going = absurd is
compensated_once b tree (r ∷ older) s law (inl same) key going =
    let k : is_key r.what ≡ true = subst (λ (x : Logged). is_key x.what ≡ true) (sym same) key in
    let fate = pushed_fate b tree r older law.0 (law.1.chained (key_plain r.what k).1).prev r.what refl law.1.may k in
    subst (λ (x : Logged). Fate x (to_undo x.txn (r ∷ older)) (compensated (r ∷ older) x.txn x.prev)) same
    (inl (
      subst (λ (l : History). IsRecordOf r l) (sym (cond-true (r.txn == r.txn) (stack_after r r.what (to_undo r.txn older)) (to_undo r.txn older) (eq-eqb r.txn r.txn refl))) fate.0,
      cond-true (r.txn == r.txn) _ _ (eq-eqb r.txn r.txn refl) ∙ cond-false (is_compensation r.what) _ _ fate.2 ∙ fate.1,
    ))
compensated_once b tree (r ∷ older) s law (inr there) key going = elim (cases_eq r.txn s.txn) [
  | inl mine ↦
      let parts = or_parts (is_end r.what) (is_finished s.txn older) (sym (cond-true (r.txn == s.txn) (is_end r.what || is_finished s.txn older) (is_finished s.txn older) (eq-eqb r.txn s.txn mine)) ∙ going) in
      let old : Fate s (to_undo s.txn older) (compensated older s.txn s.prev) = compensated_once b tree older s law.0 there key parts.1 in
      let here : Fate s (to_undo r.txn older) (compensated older r.txn s.prev) = subst (λ (x : ℕ). Fate s (to_undo x older) (compensated older x s.prev)) (sym mine) old in
      let fate = own_fate b tree r older law.0 law.1 s key mine there r.what parts.0 law.1.may here in
      subst (λ (x : ℕ). Fate s (to_undo x (r ∷ older)) (compensated (r ∷ older) x s.prev)) mine
      (fate_along s _ _ _ _ (cond-true (r.txn == r.txn) (stack_after r r.what (to_undo r.txn older)) (to_undo r.txn older) (eq-eqb r.txn r.txn refl)) (cond-true (r.txn == r.txn) _ _ (eq-eqb r.txn r.txn refl)) fate)
  | inr other ↦
      let old : Fate s (to_undo s.txn older) (compensated older s.txn s.prev) = compensated_once b tree older s law.0 there key
      (sym (cond-false (r.txn == s.txn) (is_end r.what || is_finished s.txn older) (is_finished s.txn older) (ne_eqb r.txn s.txn other)) ∙ going) in
      fate_along s _ _ _ _ (cond-false (r.txn == s.txn) (stack_after r r.what (to_undo s.txn older)) (to_undo s.txn older) (ne_eqb r.txn s.txn other)) (cond-false (r.txn == s.txn) _ _ (ne_eqb r.txn s.txn other)) old
]

-- Where End may stand, each key record of the transaction was compensated once.
pub compensated_ended : (b : Base) (tree : Tree) (log : History) (s : Logged) → IsLawful b tree log → IsRecordOf s log → is_key s.what ≡ true → is_finished s.txn log ≡ false → to_undo s.txn log ≡ [] → compensated log s.txn s.prev ≡ 1
compensated_ended b tree log s law is key going none = ⊎_elim
    (λ live. absurd (subst (λ (l : History). IsRecordOf s l) none live.0)) (λ gone. gone.1) (compensated_once b tree log s law is key going)

key_no_end : (w : What) → is_key w ≡ true → is_end w ≡ false
key_no_end (InsertKey k i) e = refl
key_no_end (DeleteKey k i) e = refl
key_no_end (UndoInsert k i) e = refl
key_no_end (UndoDelete k i) e = refl
key_no_end (Smo o n) e = refl
key_no_end (UndoSmo n) e = refl
key_no_end DummyClr e = refl
key_no_end Commit e = cc e
key_no_end End e = cc e
key_no_end (Image c) e = refl
key_no_end (Checkpoint n a d) e = refl
key_no_end Unreadable e = refl

-- ---- over all of a lawful log

-- a transaction with a Commit or an End is finished
finished_has : (log : History) (e : Logged) → IsRecordOf e log → is_end e.what ≡ true → is_finished e.txn log ≡ true
finished_has [] e is end = absurd is
finished_has (r ∷ older) e (inl same) end =
    cond-true (r.txn == e.txn) (is_end r.what || is_finished e.txn older) (is_finished e.txn older) (eq-eqb r.txn e.txn (ap (λ (x : Logged). x.txn) same))
    ∙ ap (λ (t : Bool). t || is_finished e.txn older) (ap (λ (x : Logged). is_end x.what) same ∙ end)
finished_has (r ∷ older) e (inr there) end = elim (cases_eq r.txn e.txn) [
  | inl mine ↦
      cond-true (r.txn == e.txn) (is_end r.what || is_finished e.txn older) (is_finished e.txn older) (eq-eqb r.txn e.txn mine)
      ∙ ap (λ (t : Bool). is_end r.what || t) (finished_has older e there end) ∙ or_true (is_end r.what)
  | inr other ↦ cond-false (r.txn == e.txn) (is_end r.what || is_finished e.txn older) (is_finished e.txn older) (ne_eqb r.txn e.txn other) ∙ finished_has older e there end
]
  where
    or_true : (t : Bool) → (t || true) ≡ true
    or_true true = refl
    or_true false = refl

none_finished : (log : History) (s e : Logged) → is_finished s.txn log ≡ false → IsRecordOf e log → e.txn ≡ s.txn → is_end e.what ≡ true → ⊥
none_finished log s e going is same end =
    let clash : true ≡ false = sym (finished_has log e is end) ∙ ap (λ (t : ℕ). is_finished t log) same ∙ going in cc clash

fate_once : (s : Logged) (stack : History) (count : ℕ) → Fate s stack count → count ≤ 1
fate_once s stack count (inl live) = let none : count ≡ 0 = live.1 in omega (arith, none)
fate_once s stack count (inr gone) = let one : count ≡ 1 = gone.1 in omega (arith, one)

-- an unfinished transaction: none of its records ends it
going_counts : (b : Base) (tree : Tree) (log : History) (s : Logged) → IsLawful b tree log → IsRecordOf s log → is_key s.what ≡ true → is_finished s.txn log ≡ false → IsCounted log s
going_counts b tree log s law is key going = record {
  at_most_once = fate_once s (to_undo s.txn log) (compensated log s.txn s.prev) (compensated_once b tree log s law is key going);
  committed = λ e of same what. absurd (none_finished log s e going of same (ap is_end what));
  ended = λ e of same what. absurd (none_finished log s e going of same (ap is_end what));
}

-- a record of another transaction leaves the count
other_counts : (b : Base) (r : Logged) (older : History) (s : Logged) → Rises b older → end_of b older < r.lsn → r.txn ≢ s.txn → IsCounted older s → IsCounted (r ∷ older) s
other_counts b r older s up over other old =
    let count : compensated (r ∷ older) s.txn s.prev ≡ compensated older s.txn s.prev = cond-false (r.txn == s.txn) _ _ (ne_eqb r.txn s.txn other) in
    record {
      at_most_once = let low : compensated older s.txn s.prev ≤ 1 = old.at_most_once in omega (arith, count, low);
      committed = λ e of same what. ⊎_elim (λ is. absurd (other (ap (λ (x : Logged). x.txn) is ∙ same))) (λ there.
          let low : e.lsn ≤ end_of b older = in_le b older e up there in
          fate_along s _ _ _ _ (ap (λ (l : History). to_undo s.txn l) (below_older e.lsn r older (omega (arith, low, over)))) count (old.committed e there same what)) of;
      ended = λ e of same what. count ∙ ⊎_elim (λ is. absurd (other (ap (λ (x : Logged). x.txn) is ∙ same))) (λ there. old.ended e there same what) of;
    }

-- the record that ends the transaction: the counts stay as they were
end_counts : (b : Base) (r : Logged) (older : History) (s : Logged) → end_of b older < r.lsn → r.txn ≡ s.txn → is_compensation r.what ≡ false → is_finished s.txn older ≡ false
    → Fate s (to_undo s.txn older) (compensated older s.txn s.prev) → (r.what ≡ End → compensated older s.txn s.prev ≡ 1) → IsCounted (r ∷ older) s
end_counts b r older s up mine plain going fate one =
    let low : compensated older s.txn s.prev ≤ 1 = fate_once s (to_undo s.txn older) (compensated older s.txn s.prev) fate in
    let here : to_undo s.txn (below r.lsn (r ∷ older)) ≡ to_undo s.txn older = ap (λ (l : History). to_undo s.txn l) (below_older r.lsn r older (omega arith) ∙ whole_below b r.lsn older up) in
    let count : compensated (r ∷ older) s.txn s.prev ≡ compensated older s.txn s.prev =
    cond-true (r.txn == s.txn) _ _ (eq-eqb r.txn s.txn mine) ∙ cond-false (is_compensation r.what) _ _ plain in
    record {
      at_most_once = omega (arith, count, low);
      committed = λ e of same what. ⊎_elim
          (λ is. fate_along s _ _ _ _ (ap (λ (x : Logged). to_undo s.txn (below x.lsn (r ∷ older))) (sym is) ∙ here) count fate)
          (λ there. absurd (none_finished older s e going there same (ap is_end what))) of;
      ended = λ e of same what. count ∙ ⊎_elim (λ is. one (ap (λ (x : Logged). x.what) is ∙ what)) (λ there. absurd (none_finished older s e going there same (ap is_end what))) of;
    }

module _ (b : Base) (tree : Tree) (r : Logged) (older : History) (law : IsLawful b tree (r ∷ older)) (s : Logged) (key : is_key s.what ≡ true) (there : IsRecordOf s older) (mine : r.txn ≡ s.txn) where
  unfinished : has_owner r.what ≡ true → is_finished s.txn older ≡ false
  unfinished owner = ap (λ (t : ℕ). is_finished t older) (sym mine) ∙ (law.1.chained owner).unfinished

  -- after a record that does not end it, the transaction is unfinished still
  still_going : (w : What) → r.what ≡ w → has_owner w ≡ true → is_end w ≡ false → IsCounted (r ∷ older) s
  still_going w is owner plain = going_counts b tree (r ∷ older) s law (inr there) key
      (cond-true (r.txn == s.txn) (is_end r.what || is_finished s.txn older) (is_finished s.txn older) (eq-eqb r.txn s.txn mine)
      ∙ ap (λ (t : Bool). t || is_finished s.txn older) (ap is_end is ∙ plain) ∙ unfinished (ap has_owner is ∙ owner))

  none_owned : r.txn ≡ 0 → ⊥
  none_owned zero =
      let number : 1 ≤ s.txn = numbered older s law.0 there (key_plain s.what key).1 in
      omega (arith, number, mine, zero)
    where
      numbered : (log : History) (s : Logged) → IsLawful b tree log → IsRecordOf s log → has_owner s.what ≡ true → 1 ≤ s.txn
      numbered [] s law is owner = absurd is
      numbered (x ∷ log) s law (inl same) owner = subst (λ (y : Logged). 1 ≤ y.txn) same (law.1.chained (subst (λ (y : Logged). has_owner y.what ≡ true) (sym same) owner)).number
      numbered (x ∷ log) s law (inr there) owner = numbered log s law.0 there owner

  own_counts : (w : What) → r.what ≡ w → MayCome b tree r older w → IsCounted (r ∷ older) s
  own_counts (InsertKey k i) is may = still_going (InsertKey k i) is refl refl
  own_counts (DeleteKey k i) is may = still_going (DeleteKey k i) is refl refl
  own_counts (UndoInsert k i) is may = still_going (UndoInsert k i) is refl refl
  own_counts (UndoDelete k i) is may = still_going (UndoDelete k i) is refl refl
  own_counts (Smo o n) is may = still_going (Smo o n) is refl refl
  own_counts (UndoSmo n) is may = still_going (UndoSmo n) is refl refl
  own_counts DummyClr is may = still_going DummyClr is refl refl
  own_counts Commit is may =
      let going = unfinished (ap has_owner is) in
      end_counts b r older s law.1.rises mine (ap is_compensation is) going (compensated_once b tree older s law.0 there key going) (λ e. absurd (let clash : Commit ≡ End = sym is ∙ e in cc clash))
  own_counts End is may =
      let going = unfinished (ap has_owner is) in
      let one : compensated older s.txn s.prev ≡ 1 = compensated_ended b tree older s law.0 there key going (ap (λ (t : ℕ). to_undo t older) (sym mine) ∙ may.nothing_left) in
      end_counts b r older s law.1.rises mine (ap is_compensation is) going (compensated_once b tree older s law.0 there key going) (λ e. one)
  own_counts (Image c) is may = absurd (none_owned may.no_owner)
  own_counts (Checkpoint n a d) is may = absurd (none_owned may)
  own_counts Unreadable is may = absurd may

-- In a lawful log each key record is compensated at most once: not at all where it is part of a committed effect, and once where its transaction committed without it, or has an End.
pub all_counted : (b : Base) (tree : Tree) (log : History) (s : Logged) → IsLawful b tree log → IsRecordOf s log → is_key s.what ≡ true → IsCounted log s
all_counted b tree [] s law is key = absurd is
all_counted b tree (r ∷ older) s law (inl same) key =
    let k : is_key r.what ≡ true = subst (λ (x : Logged). is_key x.what ≡ true) (sym same) key in
    let plain = key_plain r.what k in
    let going : is_finished r.txn older ≡ false = (law.1.chained plain.1).unfinished in
    subst (λ (x : Logged). IsCounted (r ∷ older) x) same
    (going_counts b tree (r ∷ older) r law (inl refl) k
    (cond-true (r.txn == r.txn) (is_end r.what || is_finished r.txn older) (is_finished r.txn older) (eq-eqb r.txn r.txn refl)
    ∙ ap (λ (t : Bool). t || is_finished r.txn older) (key_no_end r.what k) ∙ going))
all_counted b tree (r ∷ older) s law (inr there) key = elim (cases_eq r.txn s.txn) [
  | inl mine ↦ own_counts b tree r older law s key there mine r.what refl law.1.may
  | inr other ↦ other_counts b r older s (rises b tree older law.0) law.1.rises other (all_counted b tree older s law.0 there key)
]
