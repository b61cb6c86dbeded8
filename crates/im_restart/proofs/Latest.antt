-- Where undo finds the latest record of all.
use Rattle.std.proofs.Common.{◌≡◌, ◌≤◌, ◌<◌, ℕ, List, [], ◌∷◌, true, Option, None, Some, inl, inr, refl, sym, ◌∙◌, ap, arith}
use Rattle.std.specs.Prelude.{◌==◌}
use Rattle.std.specs.Ordering.{nat_cmp}
use Rattle.std.specs.BTreeMap.{is_at}
use Rattle.std.specs.Map.{lookup}
use Rattle.std.proofs.lemmas.Bool.{cases_eq, cond-true, cond-false, eq-eqb, ne_eqb}
use Rattle.im_base_types.specs.Records.{What, InsertKey, DeleteKey, UndoInsert, UndoDelete, Smo, UndoSmo, DummyClr, Commit, End, Image, Checkpoint, Unreadable, Logged}
use Rattle.im_theory_log.specs.Tree.{Tree, TreeLaws}
use Rattle.im_theory_log.specs.Histories.{Base, History}
use Rattle.im_theory_log.specs.Transactions.{reads_on, to_undo, undo_reads}
use Rattle.im_theory_log.specs.Lawful.{IsLawful}
use Rattle.im_restart_analysis.specs.Undo.{ComesTo, IsUndoable, leads_on}
use Rattle.im_restart_analysis.proofs.Undoing.{undo_goes_on}
use Rattle.im_restart_analysis.proofs.Tables.{at_cases}
use Rattle.im_restart.specs.declared.chains.Chain.{Chain}
use Rattle.im_restart.specs.UndoOrder.{IsLatest}
use Rattle.im_restart.specs.LoserChains.{AreChains, ChainMap, GoesOnAt, above, and_also, nobody}
use Rattle.im_restart.proofs.Losers.{out_from}
use Rattle.im_restart.proofs.Steps.{comes_to}

-- ---- what reading comes to is no later than where it begins

leads_within : (r : Logged) (w : What) (next : Option Logged) (x : Logged) (l : ℕ) → r.lsn ≡ l → (leads_on w ≡ true → next ≡ Some x → x.lsn ≤ l) → reads_on r w next ≡ Some x → x.lsn ≤ l
leads_within r (InsertKey k i) next x l here rest is = let e : r ≡ x = cc is in let same : r.lsn ≡ x.lsn = ap (λ (y : Logged). y.lsn) e in omega (arith, here, same)
leads_within r (DeleteKey k i) next x l here rest is = let e : r ≡ x = cc is in let same : r.lsn ≡ x.lsn = ap (λ (y : Logged). y.lsn) e in omega (arith, here, same)
leads_within r (Smo old new) next x l here rest is = let e : r ≡ x = cc is in let same : r.lsn ≡ x.lsn = ap (λ (y : Logged). y.lsn) e in omega (arith, here, same)
leads_within r (UndoInsert k i) next x l here rest is = rest refl is
leads_within r (UndoDelete k i) next x l here rest is = rest refl is
leads_within r (UndoSmo new) next x l here rest is = rest refl is
leads_within r DummyClr next x l here rest is = rest refl is
leads_within r Commit next x l here rest is = absurd (cc is)
leads_within r End next x l here rest is = absurd (cc is)
leads_within r (Image c) next x l here rest is = absurd (cc is)
leads_within r (Checkpoint n a d) next x l here rest is = absurd (cc is)
leads_within r Unreadable next x l here rest is = absurd (cc is)

reads_within : (b : Base) (tree : Tree) → TreeLaws tree → (log : History) (l : ℕ) (x : Logged) → IsLawful b tree log → undo_reads l log ≡ Some x → x.lsn ≤ l
reads_within b tree laws [] l x law is = absurd (cc is)
reads_within b tree laws (r ∷ older) l x law is = elim (cases_eq r.lsn l) [
  | inl here ↦
      leads_within r r.what (undo_reads r.undo_next older) x l here
      (λ on next.
      let rest : x.lsn ≤ r.undo_next = reads_within b tree laws older r.undo_next x law.0 next in
      let falls : r.undo_next < r.lsn = (undo_goes_on tree laws).leads_back b (r ∷ older) r law (inl refl) on in
      omega (arith, rest, falls, here))
      (sym (cond-true (r.lsn == l) (reads_on r r.what (undo_reads r.undo_next older)) (undo_reads l older) (eq-eqb r.lsn l here)) ∙ is)
  | inr other ↦ reads_within b tree laws older l x law.0 (sym (cond-false (r.lsn == l) (reads_on r r.what (undo_reads r.undo_next older)) (undo_reads l older) (ne_eqb r.lsn l other)) ∙ is)
]

-- what a transaction has to undo next stands no later than where its undo goes on
module _ (b : Base) (tree : Tree) (laws : TreeLaws tree) (log : History) (c : Chain) (l : ℕ) (can : IsUndoable b tree log) (goes : GoesOnAt c l log) where
  come_within : (o : Option Logged) → undo_reads l log ≡ o → ComesTo c.transaction log o → (x : Logged) (rest : History) → to_undo c.transaction log ≡ x ∷ rest → x.lsn ≤ l
  come_within None reads none x rest is = let clash : [] ≡ x ∷ rest = sym none ∙ is in absurd (cc clash)
  come_within (Some s) reads next x rest is =
      let one : s ∷ next.rest ≡ x ∷ rest = sym next.stack ∙ is in
      let same : s ≡ x = cc one in
      reads_within b tree laws log l x can.lawful (reads ∙ ap (λ (y : Logged). Some y) same)

  pub next_within : (x : Logged) (rest : History) → to_undo c.transaction log ≡ x ∷ rest → x.lsn ≤ l
  next_within = come_within (undo_reads l log) refl (comes_to b tree laws log c l can goes)

-- ---- the chain that is taken out of the map

above_at : (es : List (ℕ × Chain)) (m : ℕ) (c : Chain) → lookup (is_at (nat_cmp m)) es ≡ Some c → m < above es
above_at [] m c is = absurd (cc is)
above_at (e ∷ es) m c is = elim (at_cases m e.0) [
  | inl here ↦ let same : m ≡ e.0 = here.0 in omega (arith, same)
  | inr apart ↦
      let rest : m < above es = above_at es m c (sym (cond-false (is_at (nat_cmp m) e.0) (Some e.1) (lookup (is_at (nat_cmp m)) es) apart.1) ∙ is) in
      omega (arith, rest)
]

-- where the others' undo goes on before this one's, it is the latest
pub latest_here : (b : Base) (tree : Tree) → TreeLaws tree → (log : History) (c : Chain) (l : ℕ) (chains : ChainMap) → IsUndoable b tree log → GoesOnAt c l log → AreChains (and_also c.transaction nobody) chains log → above chains.entries ≤ l → IsLatest l log
latest_here b tree laws log c l chains can goes are le u x rest loser is = elim (cases_eq u c.transaction) [
  | inl mine ↦ next_within b tree laws log c l can goes x rest (sym (ap (λ (t : ℕ). to_undo t log) mine) ∙ is)
  | inr other ↦
      let has = are.all u loser (out_from c.transaction nobody u other refl) in
      let within : x.lsn ≤ has.lsn = next_within b tree laws log has.chain has.lsn can (are.each has.lsn has.chain has.is).2 x rest (ap (λ (t : ℕ). to_undo t log) has.owner ∙ is) in
      let under : has.lsn < above chains.entries = above_at chains.entries has.lsn has.chain has.is in
      omega (arith, within, under, le)
]
