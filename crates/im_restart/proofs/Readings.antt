-- What stands where the undo of a loser goes on.
use Rattle.std.proofs.Common.{◌≡◌, ◌≢◌, ◌≤◌, ◌<◌, ℕ, true, false, inl, inr, refl, sym, ◌∙◌, ap, subst, arith}
use Rattle.im_base_types.specs.Records.{What}
use Rattle.im_theory_log.specs.Tree.{Tree, TreeLaws}
use Rattle.im_theory_log.specs.Histories.{Base, History, IsRecordOf}
use Rattle.im_theory_log.specs.Transactions.{is_finished, is_key, undo_next_of, undo_reads}
use Rattle.im_theory_log.specs.Lawful.{IsLawful, MayCome}
use Rattle.im_log_record.specs.Entry.{Entry, prev_of, transaction_of, undo_next_of as named_next}
use Rattle.im_log.specs.Spelled.{logged_at}
use Rattle.im_log.specs.Whats.{what_of}
use Rattle.im_restart_analysis.specs.declared.rows.Loser.{Loser}
use Rattle.im_restart_analysis.specs.Losers.{is_loser, row_of}
use Rattle.im_restart_analysis.specs.Undo.{ComesTo, HasRecordAt, IsNext, IsUndoable, leads_on, LeadsNowhere, MayLeadOn}
use Rattle.im_restart_analysis.proofs.Losers.{loser_number, loser_unfinished}
use Rattle.im_restart_analysis.proofs.Readings.{goes_on_at}
use Rattle.im_restart_analysis.proofs.RecordsRead.{at_here, falls_here, kind_here, may_come, next_here, reads_here}
use Rattle.im_restart.specs.declared.chains.Chain.{Chain}
use Rattle.im_restart.specs.UndoOrder.{IsLatest}
use Rattle.im_restart.specs.LoserChains.{GoesOnAt, IsToUndo, chain_of}
use Rattle.im_restart.proofs.Steps.{comes_to}

-- ---- the record that stands there, as it is spelled

module _ (b : Base) (tree : Tree) (laws : TreeLaws tree) (log : History) (c : Chain) (l : ℕ) (said : Entry) (can : IsUndoable b tree log) (goes : GoesOnAt c l log) (is : IsRecordOf (logged_at l said) log) (mine : transaction_of said ≡ c.transaction) where
  owner : 1 ≤ c.transaction
  owner = loser_number c.transaction log goes.loser

  unfinished : is_finished c.transaction log ≡ false
  unfinished = loser_unfinished c.transaction log goes.loser

  came : ComesTo c.transaction log (undo_reads l log)
  came = comes_to b tree laws log c l can goes

  next_said : is_key (what_of said) ≡ true → IsNext c.transaction log (logged_at l said)
  next_said key = next_here b tree laws log c.transaction l can.lawful owner unfinished came (logged_at l said) is refl mine key

  -- a key record is what the loser has to undo next
  pub to_undo_here : is_key (what_of said) ≡ true → IsLatest l log → IsToUndo log c said
  to_undo_here key latest = record { loser = goes.loser; last = goes.last; undo = goes.undo; lsn = l; next = next_said key; latest = latest }

  falls_said : leads_on (what_of said) ≡ true → named_next said < l
  falls_said on = falls_here b tree laws log c.transaction l can.lawful owner unfinished came (logged_at l said) is refl mine on

  -- a compensation or the end of a structure change leads on
  leads_said : leads_on (what_of said) ≡ true → GoesOnAt c (named_next said) log
  leads_said on = record {
    loser = goes.loser;
    last = goes.last;
    undo = goes.undo;
    at = at_here b tree laws log c.transaction l can.lawful owner unfinished came (logged_at l said) is refl mine on;
    same = reads_here b tree laws log c.transaction l can.lawful owner unfinished came (logged_at l said) is refl mine on ∙ goes.same;
  }

  pub leads_so : MayLeadOn (what_of said) → GoesOnAt c (named_next said) log
  leads_so (inl on) = leads_said on
  leads_so (inr none) = let may = may_come b tree log (logged_at l said) can.lawful is in absurd (subst (λ (w : What). MayCome b tree (logged_at l said) may.0 w) none may.1)

  -- and to an earlier record
  pub leads_somewhere : LeadsNowhere said l → ⊥
  leads_somewhere nowhere = elim (kind_here b tree laws log c.transaction l can.lawful owner unfinished came (logged_at l said) is refl mine) [
    | inl key ↦ let low : l ≤ prev_of said = nowhere.key key in let falls : prev_of said < l = (next_said key).falls in omega (arith, low, falls)
    | inr on ↦ let low : l ≤ named_next said = nowhere.on on in let falls : named_next said < l = falls_said on in omega (arith, low, falls)
  ]

-- ---- after a compensation

pub goes_behind : (b : Base) (tree : Tree) (log : History) (t last on : ℕ) → IsLawful b tree log → is_loser t log ≡ true → row_of t log ≡ record { last = last; undo_next = on } → GoesOnAt (chain_of t last on) on log
goes_behind b tree log t last on law loser row =
    let next : undo_next_of t log ≡ on = ap (λ (r : Loser). r.undo_next) row in
    record {
      loser = loser;
      last = sym (ap (λ (r : Loser). r.last) row);
      undo = sym next;
      at = subst (λ (n : ℕ). n ≢ 0 → HasRecordAt t n log) next (goes_on_at b tree log t law);
      same = ap (λ (n : ℕ). undo_reads n log) (sym next);
    }
