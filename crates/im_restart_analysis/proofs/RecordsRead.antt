-- A record that is read where the undo of a transaction goes on.
use Rattle.std.proofs.Common.{◌≡◌, ◌≢◌, ◌≤◌, ◌<◌, ◌⊎◌, ℕ, List, [], ◌∷◌, Bool, true, false, Option, None, Some, inl, inr, refl, sym, ◌∙◌, ap, subst, arith}
use Rattle.std.specs.Prelude.{◌==◌, ◌||◌}
use Rattle.std.proofs.lemmas.Bool.{cases_eq, cond-true, cond-false, eq-eqb, ne_eqb, or_right}
use Rattle.im_base_types.specs.Records.{What, InsertKey, DeleteKey, UndoInsert, UndoDelete, Smo, UndoSmo, DummyClr, Commit, End, Image, Checkpoint, Unreadable, Logged}
use Rattle.im_theory_log.specs.Tree.{Tree, TreeLaws}
use Rattle.im_theory_log.specs.Histories.{Base, History, IsRecordOf}
use Rattle.im_theory_log.specs.Transactions.{is_end, is_finished, is_key, reads_on, undo_reads}
use Rattle.im_theory_log.specs.Lawful.{IsLawful, MayCome}
use Rattle.im_log_record.specs.Entry.{Entry, transaction_of}
use Rattle.im_log.specs.Spelled.{logged_at}
use Rattle.im_log.specs.Reading.{SpellsRecord}
use Rattle.im_log_record.specs.Reading.{entry_of}
use Rattle.im_restart_analysis.specs.Undo.{ComesTo, HasRecordAt, IsNext, leads_on}
use Rattle.im_restart_analysis.proofs.Undoing.{undo_goes_on}

-- a record of a lawful log might come where it stands
pub may_come : (b : Base) (tree : Tree) (log : History) (x : Logged) → IsLawful b tree log → IsRecordOf x log → (older : History) × MayCome b tree x older x.what
may_come b tree [] x law is = absurd is
may_come b tree (r ∷ older) x law (inl same) = subst (λ (y : Logged). (h : History) × MayCome b tree y h y.what) same (older, law.1.may)
may_come b tree (r ∷ older) x law (inr there) = may_come b tree older x law.0 there

finished_by : (log : History) (x : Logged) → IsRecordOf x log → is_end x.what ≡ true → is_finished x.txn log ≡ true
finished_by [] x is end = absurd is
finished_by (r ∷ older) x (inl same) end =
    subst (λ (y : Logged). is_finished y.txn (r ∷ older) ≡ true) same
    (cond-true (r.txn == r.txn) (is_end r.what || is_finished r.txn older) (is_finished r.txn older) (eq-eqb r.txn r.txn refl) ∙ ap (λ (z : Bool). z || is_finished r.txn older) (ap (λ (y : Logged). is_end y.what) same ∙ end))
finished_by (r ∷ older) x (inr there) end = elim (cases_eq r.txn x.txn) [
  | inl mine ↦
      cond-true (r.txn == x.txn) (is_end r.what || is_finished x.txn older) (is_finished x.txn older) (eq-eqb r.txn x.txn mine) ∙ or_right (is_end r.what) (is_finished x.txn older) (finished_by older x there end)
  | inr other ↦ cond-false (r.txn == x.txn) (is_end r.what || is_finished x.txn older) (is_finished x.txn older) (ne_eqb r.txn x.txn other) ∙ finished_by older x there end
]

module _ (b : Base) (tree : Tree) (laws : TreeLaws tree) (log : History) (t l : ℕ) (law : IsLawful b tree log) (owner : 1 ≤ t) (unfinished : is_finished t log ≡ false) (came : ComesTo t log (undo_reads l log)) (x : Logged) (is : IsRecordOf x log) (here : x.lsn ≡ l) (mine : x.txn ≡ t) where
  comes : ComesTo t log (reads_on x x.what (undo_reads x.undo_next log))
  comes = subst (λ (o : Option Logged). ComesTo t log o) (ap (λ (n : ℕ). undo_reads n log) (sym here) ∙ (undo_goes_on tree laws).reads_record b log x law is) came

  none_ended : is_end x.what ≡ true → ⊥
  none_ended end =
      let clash : true ≡ false = sym (finished_by log x is end) ∙ ap (λ (n : ℕ). is_finished n log) mine ∙ unfinished in cc clash

  numbered : x.txn ≡ 0 → ⊥
  numbered none = let same : x.txn ≡ t = mine in omega (arith, owner, same, none)

  kinds : (w : What) → x.what ≡ w → (older : History) → MayCome b tree x older w → ComesTo t log (reads_on x w (undo_reads x.undo_next log)) → (is_key w ≡ true) ⊎ (leads_on w ≡ true)
  kinds (InsertKey k i) e older may come = inl refl
  kinds (DeleteKey k i) e older may come = inl refl
  kinds (UndoInsert k i) e older may come = inr refl
  kinds (UndoDelete k i) e older may come = inr refl
  kinds (UndoSmo n) e older may come = inr refl
  kinds DummyClr e older may come = inr refl
  kinds (Smo o n) e older may come = (let clash : false ≡ true = sym (ap is_key e) ∙ come.key in absurd (cc clash))
  kinds Commit e older may come = absurd (none_ended (ap is_end e))
  kinds End e older may come = absurd (none_ended (ap is_end e))
  kinds (Image g) e older may come = absurd (numbered may.no_owner)
  kinds (Checkpoint n a d) e older may come = absurd (numbered may)
  kinds Unreadable e older may come = absurd may

  -- a key record, or one that leads on
  pub kind_here : (is_key x.what ≡ true) ⊎ (leads_on x.what ≡ true)
  kind_here = let may = may_come b tree log x law is in kinds x.what refl may.0 may.1 comes

  next_by : (w : What) → is_key w ≡ true → ComesTo t log (reads_on x w (undo_reads x.undo_next log)) → IsNext t log x
  next_by (InsertKey k i) key come = come
  next_by (DeleteKey k i) key come = come
  next_by (UndoInsert k i) key come = absurd (cc key)
  next_by (UndoDelete k i) key come = absurd (cc key)
  next_by (UndoSmo n) key come = absurd (cc key)
  next_by DummyClr key come = absurd (cc key)
  next_by (Smo o n) key come = absurd (cc key)
  next_by Commit key come = absurd (cc key)
  next_by End key come = absurd (cc key)
  next_by (Image g) key come = absurd (cc key)
  next_by (Checkpoint n a d) key come = absurd (cc key)
  next_by Unreadable key come = absurd (cc key)

  -- a key record is what the transaction has to undo next
  pub next_here : is_key x.what ≡ true → IsNext t log x
  next_here key = next_by x.what key comes

  reads_by : (w : What) → leads_on w ≡ true → reads_on x w (undo_reads x.undo_next log) ≡ undo_reads x.undo_next log
  reads_by (UndoInsert k i) on = refl
  reads_by (UndoDelete k i) on = refl
  reads_by (UndoSmo n) on = refl
  reads_by DummyClr on = refl
  reads_by (InsertKey k i) on = absurd (cc on)
  reads_by (DeleteKey k i) on = absurd (cc on)
  reads_by (Smo o n) on = absurd (cc on)
  reads_by Commit on = absurd (cc on)
  reads_by End on = absurd (cc on)
  reads_by (Image g) on = absurd (cc on)
  reads_by (Checkpoint n a d) on = absurd (cc on)
  reads_by Unreadable on = absurd (cc on)

  -- a compensation or the end of a structure change leads on to what reading comes to, at an earlier record
  pub reads_here : leads_on x.what ≡ true → undo_reads x.undo_next log ≡ undo_reads l log
  reads_here on = sym (reads_by x.what on) ∙ sym ((undo_goes_on tree laws).reads_record b log x law is) ∙ ap (λ (n : ℕ). undo_reads n log) here

  pub at_here : leads_on x.what ≡ true → x.undo_next ≢ 0 → HasRecordAt t x.undo_next log
  at_here on = λ some. subst (λ (n : ℕ). HasRecordAt n x.undo_next log) mine ((undo_goes_on tree laws).leads_to b log x law is on some)

  pub falls_here : leads_on x.what ≡ true → x.undo_next < l
  falls_here on = subst (λ (n : ℕ). x.undo_next < n) here ((undo_goes_on tree laws).leads_back b log x law is on)

-- ---- the record that was read

pub spelled_here : (t l : ℕ) (log : History) (h : HasRecordAt t l log) (bytes : List ℕ) → SpellsRecord h.found bytes → (said : Entry) → entry_of bytes ≡ Some said → IsRecordOf (logged_at l said) log × (transaction_of said ≡ t)
spelled_here t l log h bytes spells said is =
    let one : Some spells.entry ≡ Some said = sym spells.is ∙ is in
    let entry : spells.entry ≡ said = cc one in
    let whole : logged_at l said ≡ h.found = ap (λ (n : ℕ). logged_at n said) (sym h.here) ∙ ap (λ (e : Entry). logged_at h.found.lsn e) (sym entry) ∙ spells.same in
    (subst (λ (x : Logged). IsRecordOf x log) (sym whole) h.logged, ap (λ (x : Logged). x.txn) whole ∙ h.owner)

pub spelled_none : (r : Logged) (bytes : List ℕ) → SpellsRecord r bytes → entry_of bytes ≡ None → ⊥
spelled_none r bytes spells none = let clash : None ≡ Some spells.entry = sym none ∙ spells.is in cc clash

pub spelled_is : (x : Logged) (l : ℕ) (bytes : List ℕ) → SpellsRecord x bytes → x.lsn ≡ l → (said : Entry) → entry_of bytes ≡ Some said → logged_at l said ≡ x
spelled_is x l bytes spells here said is =
    let one : Some spells.entry ≡ Some said = sym spells.is ∙ is in
    let entry : spells.entry ≡ said = cc one in
    ap (λ (n : ℕ). logged_at n said) (sym here) ∙ ap (λ (e : Entry). logged_at x.lsn e) (sym entry) ∙ spells.same
