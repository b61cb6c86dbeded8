-- What undo comes to: the record on top of a loser's stack is a key record, after where undo goes on.
use Rattle.std.proofs.Common.{◌≡◌, ◌≢◌, ◌⊎◌, ◌≤◌, ◌<◌, ℕ, [], ◌∷◌, ◌++◌, Bool, true, false, Option, Some, inl, inr, refl, sym, ◌∙◌, ap, subst, arith}
use Rattle.std.specs.Prelude.{◌==◌, ◌||◌, if◌then◌else◌}
use Rattle.std.proofs.lemmas.Bool.{cases_eq, eq-eqb, ne_eqb, cond-true, cond-false}
use Rattle.im_base_types.specs.Records.{What, InsertKey, DeleteKey, UndoInsert, UndoDelete, Smo, UndoSmo, DummyClr, Commit, End, Image, Checkpoint, Unreadable, Logged}
use Rattle.im_theory_log.specs.Tree.{Tree}
use Rattle.im_theory_log.specs.Histories.{History, Base, IsRecordOf, end_of, Rises, below}
use Rattle.im_theory_log.specs.Structure.{open_smo}
use Rattle.im_theory_log.specs.Transactions.{last_of, undo_next_of, to_undo, stack_after, rest_of, without_smo, top_of, undo_reads, reads_on, is_key, is_smo}
use Rattle.im_theory_log.specs.Lawful.{IsLawful, IsOutside}
use Rattle.im_theory_log.specs.LogLaws.{NoSmo}
use Rattle.im_theory_log.proofs.Cited.{rises, end_below, rises_below, IsStack, is_stack, last_le, part, split, owned, IsOwned, not_part, in_log, undo_reads_top}
use Rattle.im_restart_analysis.specs.Undo.{IsUndoable, IsNext, ComesTo}

-- ---- stacks have key records and records of structure changes

abbrev AreUndone : History → Type 0
AreUndone [] = Unit {0}
AreUndone (s ∷ rest) = ((is_key s.what || is_smo s.what) ≡ true) × AreUndone rest

undone_rest : (stack : History) → AreUndone stack → AreUndone (rest_of stack)
undone_rest [] ok = tt
undone_rest (s ∷ rest) ok = ok.1

undone_not_smo : (stack : History) → AreUndone stack → AreUndone (without_smo stack)
undone_not_smo [] ok = tt
undone_not_smo (s ∷ rest) ok =
    let later = undone_not_smo rest ok.1 in
    elim (is_smo s.what) as (λ (x : Bool). AreUndone (if x then without_smo rest else s ∷ rest)) [ true ↦ later | false ↦ ok ]

undone_after : (r : Logged) (w : What) → r.what ≡ w → (stack : History) → AreUndone stack → AreUndone (stack_after r w stack)
undone_after r (InsertKey k i) is stack ok = (ap (λ (x : What). is_key x || is_smo x) is, ok)
undone_after r (DeleteKey k i) is stack ok = (ap (λ (x : What). is_key x || is_smo x) is, ok)
undone_after r (Smo o n) is stack ok = (ap (λ (x : What). is_key x || is_smo x) is, ok)
undone_after r (UndoInsert k i) is stack ok = undone_rest stack ok
undone_after r (UndoDelete k i) is stack ok = undone_rest stack ok
undone_after r (UndoSmo n) is stack ok = undone_rest stack ok
undone_after r DummyClr is stack ok = undone_not_smo stack ok
undone_after r Commit is stack ok = tt
undone_after r End is stack ok = tt
undone_after r (Image c) is stack ok = ok
undone_after r (Checkpoint n a d) is stack ok = ok
undone_after r Unreadable is stack ok = ok

are_undone : (t : ℕ) (log : History) → AreUndone (to_undo t log)
are_undone t [] = tt
are_undone t (r ∷ older) = elim (r.txn == t) as (λ (x : Bool). AreUndone (if x then stack_after r r.what (to_undo t older) else to_undo t older)) [
  | true ↦ undone_after r r.what refl (to_undo t older) (are_undone t older)
  | false ↦ are_undone t older
]

-- where no structure change is open, no stack has a record of one
no_smo : (b : Base) (tree : Tree) (log : History) (t : ℕ) → IsLawful b tree log → open_smo log ≡ [] → NoSmo (to_undo t log)
no_smo b tree log t law closed =
    let cut = split b tree log t law in
    let is : to_undo t log ≡ cut.bottom = cut.is ∙ ap (λ (going : History). part t going ++ cut.bottom) closed in
    subst (λ (l : History). NoSmo l) (sym is) cut.plain

no_smo_beside : (b : Base) (tree : Tree) (log : History) (t : ℕ) → IsLawful b tree log → IsOutside t (open_smo log) → NoSmo (to_undo t log)
no_smo_beside b tree log t law out =
    let cut = split b tree log t law in
    let is : to_undo t log ≡ cut.bottom = cut.is ∙ ap (λ (going : History). going ++ cut.bottom) (not_part t (open_smo log) out) in
    subst (λ (l : History). NoSmo l) (sym is) cut.plain

key_left : (k s : Bool) → (k || s) ≡ true → s ≡ false → k ≡ true
key_left true s either plain = refl
key_left false s either plain = sym plain ∙ either

-- ---- where a record stands that reading comes to

reads_in : (r : Logged) (older : History) (w : What) (next : Option Logged) (s : Logged) → reads_on r w next ≡ Some s → (r ≡ s) ⊎ (next ≡ Some s)
reads_in r older (InsertKey k i) next s is = inl (cc is)
reads_in r older (DeleteKey k i) next s is = inl (cc is)
reads_in r older (Smo o n) next s is = inl (cc is)
reads_in r older (UndoInsert k i) next s is = inr is
reads_in r older (UndoDelete k i) next s is = inr is
reads_in r older (UndoSmo n) next s is = inr is
reads_in r older DummyClr next s is = inr is
reads_in r older Commit next s is = absurd (cc is)
reads_in r older End next s is = absurd (cc is)
reads_in r older (Image c) next s is = absurd (cc is)
reads_in r older (Checkpoint n a d) next s is = absurd (cc is)
reads_in r older Unreadable next s is = absurd (cc is)

reads_end : (b : Base) (l : ℕ) (log : History) (s : Logged) → Rises b log → undo_reads l log ≡ Some s → s.lsn ≤ end_of b log
reads_end b l [] s up is = absurd (cc is)
reads_end b l (r ∷ older) s up is = elim (cases_eq r.lsn l) [
  | inl here ↦
      let found : reads_on r r.what (undo_reads r.undo_next older) ≡ Some s = sym (cond-true (r.lsn == l) (reads_on r r.what (undo_reads r.undo_next older)) (undo_reads l older) (eq-eqb r.lsn l here)) ∙ is in
      elim (reads_in r older r.what (undo_reads r.undo_next older) s found) [
        | inl same ↦ (let e : r.lsn ≡ s.lsn = ap (λ (x : Logged). x.lsn) same in omega (arith, e))
        | inr on ↦ (let low : s.lsn ≤ end_of b older = reads_end b r.undo_next older s up.0 on in let high : end_of b older < r.lsn = up.1 in omega (arith, low, high))
      ]
  | inr other ↦
      let found : undo_reads l older ≡ Some s = sym (cond-false (r.lsn == l) (reads_on r r.what (undo_reads r.undo_next older)) (undo_reads l older) (ne_eqb r.lsn l other)) ∙ is in
      let low : s.lsn ≤ end_of b older = reads_end b l older s up.0 found in let high : end_of b older < r.lsn = up.1 in omega (arith, low, high)
]

-- reading leads back
reads_behind : (b : Base) (l : ℕ) (log : History) (s : Logged) → Rises b log → undo_reads l log ≡ Some s → s.lsn ≤ l
reads_behind b l [] s up is = absurd (cc is)
reads_behind b l (r ∷ older) s up is = elim (cases_eq r.lsn l) [
  | inl here ↦ (let low : s.lsn ≤ r.lsn = reads_end b l (r ∷ older) s up is in omega (arith, low, here))
  | inr other ↦
      let found : undo_reads l older ≡ Some s = sym (cond-false (r.lsn == l) (reads_on r r.what (undo_reads r.undo_next older)) (undo_reads l older) (ne_eqb r.lsn l other)) ∙ is in
      reads_behind b l older s up.0 found
]

-- ---- the record that is next

pub next_of : (b : Base) (tree : Tree) (log : History) (t : ℕ) (s : Logged) (rest : History) → IsLawful b tree log → NoSmo (to_undo t log) → t ≢ 0 → to_undo t log ≡ s ∷ rest → IsNext t log s
next_of b tree log t s rest law none some is =
    let up : Rises b log = rises b tree log law in
    let ok : IsStack b log t (s ∷ rest) = subst (λ (l : History). IsStack b log t l) is (is_stack b tree log t law) in
    let plain : NoSmo (s ∷ rest) = subst (λ (l : History). NoSmo l) is none in
    let kind : AreUndone (s ∷ rest) = subst (λ (l : History). AreUndone l) is (are_undone t log) in
    let own : IsOwned t (s ∷ rest) = subst (λ (l : History). IsOwned t l) is (owned t log) in
    let f = below s.lsn log in
    let low : last_of t f ≤ end_of b f = last_le b t f (rises_below b s.lsn log up) in
    let high : end_of b f < s.lsn = end_below b s.lsn log ok.4 in
    let prev : s.prev ≡ last_of t f = ok.1 in
    let reads : undo_reads (undo_next_of t log) log ≡ Some s = undo_reads_top b tree log t some law ∙ ap top_of is in
    record {
      rest = rest;
      stack = is;
      key = key_left (is_key s.what) (is_smo s.what) kind.0 plain.0;
      owner = own.0;
      logged = (in_log log t s (subst (λ (l : History). IsRecordOf s l) (sym is) (inl refl))).0;
      behind = reads_behind b (undo_next_of t log) log s up reads;
      falls = omega (arith, low, high, prev);
    }

comes : (b : Base) (tree : Tree) (log : History) (t : ℕ) → IsLawful b tree log → NoSmo (to_undo t log) → t ≢ 0 → ComesTo t log (undo_reads (undo_next_of t log) log)
comes b tree log t law none some = subst (λ (o : Option Logged). ComesTo t log o) (sym (undo_reads_top b tree log t some law)) (by (to_undo t log) refl)
  where
    by : (stack : History) → to_undo t log ≡ stack → ComesTo t log (top_of stack)
    by [] is = is
    by (s ∷ rest) is = next_of b tree log t s rest law none some is

pub comes_to : (b : Base) (tree : Tree) (log : History) (t : ℕ) → IsUndoable b tree log → t ≢ 0 → ComesTo t log (undo_reads (undo_next_of t log) log)
comes_to b tree log t can some = comes b tree log t can.lawful (no_smo b tree log t can.lawful can.closed) some

-- beside a structure change of another too
pub comes_beside : (b : Base) (tree : Tree) (log : History) (t : ℕ) → IsLawful b tree log → IsOutside t (open_smo log) → t ≢ 0 → ComesTo t log (undo_reads (undo_next_of t log) log)
comes_beside b tree log t law out some = comes b tree log t law (no_smo_beside b tree log t law out) some
