-- What is left of a transaction to undo is a stack: below each of its records lies what was left before it.
use Rattle.std.proofs.Common.{◌≡◌, inl, inr, ℕ, ◌+◌, ◌<◌, ◌≤◌, [], ◌∷◌, Bool, true, false, refl, sym, ◌∙◌, ap, subst, arith}
use Rattle.std.specs.Prelude.{if◌then◌else◌, ◌==◌}
use Rattle.std.proofs.lemmas.Bool.{cases_eq, eq-eqb, ne_eqb, cond-true, cond-false}
use Rattle.im_theory_log.specs.Histories.{Base, History, Rises, below, end_of}
use Rattle.im_theory_log.specs.Lawful.{Follows, IsLawful, Undoes, has_owner}
use Rattle.im_base_types.specs.Records.{Checkpoint, Commit, DeleteKey, DummyClr, End, Image, InsertKey, Logged, Smo, UndoDelete, UndoInsert, UndoSmo, Unreadable, What}
use Rattle.im_theory_log.specs.Transactions.{is_smo, last_of, rest_of, stack_after, to_undo, without_smo}
use Rattle.im_theory_log.specs.Tree.{Tree}
use Rattle.im_theory_log.proofs.Fronts.{rises}
use Rattle.im_theory_log.proofs.Histories.{below_below, below_older, rises_below, start_low, whole_below}

-- ---- the stack

-- what is left of a transaction to undo: below each record lies what was left before it
abbrev pub IsStack : Base → History → ℕ → History → Type 0
IsStack b log t [] = Unit {0}
IsStack b log t (s ∷ rest) = (s.lsn ≤ end_of b log) × (s.prev ≡ last_of t (below s.lsn log)) × (rest ≡ to_undo t (below s.lsn log)) × IsStack b log t rest × (b.start < s.lsn)

stack_more : (b : Base) (r : Logged) (older : History) (t : ℕ) (stack : History) → end_of b older < r.lsn → IsStack b older t stack → IsStack b (r ∷ older) t stack
stack_more b r older t [] up ok = tt
stack_more b r older t (s ∷ rest) up ok =
    let low = ok.0 in
    let under : s.lsn ≤ r.lsn = omega (arith, low, up) in
    let same : below s.lsn older ≡ below s.lsn (r ∷ older) = sym (below_older s.lsn r older under) in
    (under, ok.1 ∙ ap (λ (l : History). last_of t l) same, ok.2 ∙ ap (λ (l : History). to_undo t l) same, stack_more b r older t rest up ok.3, ok.4)

stack_rest : (b : Base) (log : History) (t : ℕ) (stack : History) → IsStack b log t stack → IsStack b log t (rest_of stack)
stack_rest b log t [] ok = tt
stack_rest b log t (s ∷ rest) ok = ok.3

stack_without_smo : (b : Base) (log : History) (t : ℕ) (stack : History) → IsStack b log t stack → IsStack b log t (without_smo stack)
stack_without_smo b log t [] ok = tt
stack_without_smo b log t (s ∷ rest) ok =
    let later = stack_without_smo b log t rest ok.3 in
    elim (is_smo s.what) as (λ (x : Bool). IsStack b log t (if x then without_smo rest else s ∷ rest)) [ true ↦ later | false ↦ ok ]

stack_push : (b : Base) (r : Logged) (older : History) → Rises b older → end_of b older < r.lsn → r.prev ≡ last_of r.txn older → IsStack b older r.txn (to_undo r.txn older) → IsStack b (r ∷ older) r.txn (r ∷ to_undo r.txn older)
stack_push b r older start up prev ok =
    let same : below r.lsn (r ∷ older) ≡ older = below_older r.lsn r older (omega arith) ∙ whole_below b r.lsn older up in
    (omega arith, prev ∙ ap (λ (l : History). last_of r.txn l) (sym same), ap (λ (l : History). to_undo r.txn l) (sym same), stack_more b r older r.txn (to_undo r.txn older) up ok, (let low : b.start ≤ end_of b older = start_low b older start in omega (arith, up, low)))

stack_with : (b : Base) (tree : Tree) (r : Logged) (older : History) (w : What) → r.what ≡ w → Rises b older → Follows b tree r older → IsStack b older r.txn (to_undo r.txn older) → IsStack b (r ∷ older) r.txn (stack_after r w (to_undo r.txn older))
stack_with b tree r older (InsertKey k i) is start f ok = stack_push b r older start f.rises (f.chained (ap has_owner is)).prev ok
stack_with b tree r older (DeleteKey k i) is start f ok = stack_push b r older start f.rises (f.chained (ap has_owner is)).prev ok
stack_with b tree r older (Smo o n) is start f ok = stack_push b r older start f.rises (f.chained (ap has_owner is)).prev ok
stack_with b tree r older (UndoInsert k i) is start f ok = stack_more b r older r.txn (rest_of (to_undo r.txn older)) f.rises (stack_rest b older r.txn (to_undo r.txn older) ok)
stack_with b tree r older (UndoDelete k i) is start f ok = stack_more b r older r.txn (rest_of (to_undo r.txn older)) f.rises (stack_rest b older r.txn (to_undo r.txn older) ok)
stack_with b tree r older (UndoSmo n) is start f ok = stack_more b r older r.txn (rest_of (to_undo r.txn older)) f.rises (stack_rest b older r.txn (to_undo r.txn older) ok)
stack_with b tree r older DummyClr is start f ok = stack_more b r older r.txn (without_smo (to_undo r.txn older)) f.rises (stack_without_smo b older r.txn (to_undo r.txn older) ok)
stack_with b tree r older Commit is start f ok = tt
stack_with b tree r older End is start f ok = tt
stack_with b tree r older (Image c) is start f ok = stack_more b r older r.txn (to_undo r.txn older) f.rises ok
stack_with b tree r older (Checkpoint n a d) is start f ok = stack_more b r older r.txn (to_undo r.txn older) f.rises ok
stack_with b tree r older Unreadable is start f ok = stack_more b r older r.txn (to_undo r.txn older) f.rises ok

pub is_stack : (b : Base) (tree : Tree) (log : History) (t : ℕ) → IsLawful b tree log → IsStack b log t (to_undo t log)
is_stack b tree [] t law = tt
is_stack b tree (r ∷ older) t law = elim (cases_eq r.txn t) [
  | inl mine ↦
      let here : IsStack b (r ∷ older) r.txn (stack_after r r.what (to_undo r.txn older)) = stack_with b tree r older r.what refl (rises b tree older law.0) law.1 (is_stack b tree older r.txn law.0) in
      subst (λ (x : ℕ). IsStack b (r ∷ older) x (to_undo x (r ∷ older))) mine (subst (λ (l : History). IsStack b (r ∷ older) r.txn l) (sym (cond-true (r.txn == r.txn) _ _ (eq-eqb r.txn r.txn refl))) here)
  | inr other ↦
      subst (λ (l : History). IsStack b (r ∷ older) t l) (sym (cond-false (r.txn == t) (stack_after r r.what (to_undo t older)) (to_undo t older) (ne_eqb r.txn t other)))
      (stack_more b r older t (to_undo t older) law.1.rises (is_stack b tree older t law.0))
]

-- ---- reading on from an LSN

pub last_le : (b : Base) (t : ℕ) (log : History) → Rises b log → last_of t log ≤ end_of b log
last_le b t [] up = omega arith
last_le b t (r ∷ older) up =
    let rest : last_of t older ≤ end_of b older = last_le b t older up.0 in let high : end_of b older < r.lsn = up.1 in
    elim (r.txn == t) as (λ (x : Bool). (if x then r.lsn else last_of t older) ≤ r.lsn) [ true ↦ omega arith | false ↦ omega (arith, rest, high) ]

-- up to its last record there is all that is a transaction's
pub up_to_last : (b : Base) (t : ℕ) (log : History) → Rises b log → to_undo t (below (last_of t log + 1) log) ≡ to_undo t log
up_to_last b t [] up = refl
up_to_last b t (r ∷ older) up = elim (cases_eq r.txn t) [
  | inl mine ↦
      let last : last_of t (r ∷ older) ≡ r.lsn = cond-true (r.txn == t) r.lsn (last_of t older) (eq-eqb r.txn t mine) in
      let under : r.lsn < last_of t (r ∷ older) + 1 = omega (arith, last) in
      ap (λ (l : History). to_undo t l) (whole_below b (last_of t (r ∷ older) + 1) (r ∷ older) under)
  | inr other ↦
      let last : last_of t (r ∷ older) ≡ last_of t older = cond-false (r.txn == t) r.lsn (last_of t older) (ne_eqb r.txn t other) in
      let low : last_of t older ≤ end_of b older = last_le b t older up.0 in let high : end_of b older < r.lsn = up.1 in
      let over : last_of t older + 1 ≤ r.lsn = omega (arith, low, high) in
      ap (λ (n : ℕ). to_undo t (below (n + 1) (r ∷ older))) last
      ∙ ap (λ (l : History). to_undo t l) (below_older (last_of t older + 1) r older over)
      ∙ up_to_last b t older up.0
      ∙ sym (cond-false (r.txn == t) (stack_after r r.what (to_undo t older)) (to_undo t older) (ne_eqb r.txn t other))
]

-- A CLR leads past what it undid: what is left then is what is left when reading goes on at its undo_next.
pub clr_leads : (b : Base) (tree : Tree) (r : Logged) (older : History) {is : What → Type 0} → IsLawful b tree older → (u : Undoes r older is) → u.undone.prev < u.undone.lsn
    → to_undo r.txn (below (r.undo_next + 1) older) ≡ rest_of (to_undo r.txn older)
clr_leads b tree r older law u falls =
    let s = u.undone in
    let stack : IsStack b older r.txn (s ∷ u.rest) = subst (λ (l : History). IsStack b older r.txn l) u.stack (is_stack b tree older r.txn law) in
    let f : History = below s.lsn older in
    let next : r.undo_next ≡ last_of r.txn f = u.leads ∙ stack.1 in
    let small : r.undo_next + 1 ≤ s.lsn = let e : r.undo_next ≡ s.prev = u.leads in omega (arith, e, falls) in
    ap (λ (l : History). to_undo r.txn l) (sym (below_below (r.undo_next + 1) s.lsn older small))
    ∙ ap (λ (n : ℕ). to_undo r.txn (below (n + 1) f)) next
    ∙ up_to_last b r.txn f (rises_below b s.lsn older (rises b tree older law))
    ∙ sym stack.2
    ∙ sym (ap (λ (l : History). rest_of l) u.stack)
