-- What stands where the undo of a transaction goes on.
use Rattle.std.proofs.Common.{◌≡◌, ◌≢◌, ◌≤◌, ◌<◌, ℕ, List, [], ◌∷◌, ◌++◌, true, false, Option, None, inl, inr, refl, sym, ◌∙◌, ap, subst, arith}
use Rattle.std.specs.Prelude.{◌==◌}
use Rattle.std.proofs.lemmas.Bool.{cond-false, ne_eqb}
use Rattle.im_base_types.specs.Records.{What, InsertKey, DeleteKey, UndoInsert, UndoDelete, Smo, UndoSmo, DummyClr, Commit, End, Image, Checkpoint, Unreadable, Logged}
use Rattle.im_theory_log.specs.Tree.{Tree, TreeLaws}
use Rattle.im_theory_log.specs.Histories.{Base, History, IsRecordOf, Rises, end_of}
use Rattle.im_base_types.specs.Changes.{Change}
use Rattle.im_theory_log.specs.Transactions.{change_of, changes_of, is_finished, is_key, net, reads_on, to_undo, undo_next_of, undo_reads}
use Rattle.im_theory_log.specs.Lawful.{IsLawful, IsOutside}
use Rattle.im_theory_log.specs.Structure.{open_smo}
use Rattle.im_theory_log.proofs.Fronts.{rises}
use Rattle.im_restart_analysis.specs.declared.rows.Loser.{Loser}
use Rattle.im_restart_analysis.specs.Losers.{row_of}
use Rattle.im_restart_analysis.specs.Undo.{ComesTo, leads_on}
use Rattle.im_restart_analysis.proofs.RecordsRead.{at_here, falls_here, kind_here, next_here as next_read, reads_here}
use Rattle.im_restart_analysis.proofs.Undoing.{undo_goes_on}
use Rattle.im_engine_rollback.specs.Going.{GoesOnAt, IsNextAt, IsFound}

module _ (b : Base) (tree : Tree) (laws : TreeLaws tree) (log : History) (t l : ℕ) (law : IsLawful b tree log) (owner : 1 ≤ t) (unfinished : is_finished t log ≡ false) (goes : GoesOnAt t l log) (x : Logged) (is : IsRecordOf x log) (here : x.lsn ≡ l) (mine : x.txn ≡ t) where
  -- a key record is what the transaction has to undo next
  pub next_here : is_key x.what ≡ true → IsNextAt t l log
  next_here key = record { found = x; next = next_read b tree laws log t l law owner unfinished goes.comes x is here mine key; here = here }

  -- a compensation or the end of a structure change leads on, to an earlier record
  leads_here : leads_on x.what ≡ true → GoesOnAt t x.undo_next log × (x.undo_next < l)
  leads_here on = (
    record {
      at = at_here b tree laws log t l law owner unfinished goes.comes x is here mine on;
      comes = subst (λ (o : Option Logged). ComesTo t log o) (sym (reads_here b tree laws log t l law owner unfinished goes.comes x is here mine on)) goes.comes;
    },
    falls_here b tree laws log t l law owner unfinished goes.comes x is here mine on,
  )

  -- where it is no key record, it leads on
  pub leads_else : is_key x.what ≡ false → GoesOnAt t x.undo_next log × (x.undo_next < l)
  leads_else other = elim (kind_here b tree laws log t l law owner unfinished goes.comes x is here mine) [
    | inl key ↦ (let clash : true ≡ false = sym key ∙ other in absurd (cc clash))
    | inr on ↦ leads_here on
  ]

  -- and never to itself or a later one
  pub leads_down : is_key x.what ≡ false → (leads_on x.what ≡ true → l ≤ x.undo_next) → ⊥
  leads_down other low = elim (kind_here b tree laws log t l law owner unfinished goes.comes x is here mine) [
    | inl key ↦ (let clash : true ≡ false = sym key ∙ other in cc clash)
    | inr on ↦ let down : x.undo_next < l = (leads_here on).1 in let up : l ≤ x.undo_next = low on in omega (arith, down, up)
  ]

-- ---- where it begins, and where it ends

reads_none : (b : Base) (log : History) → Rises b log → undo_reads 0 log ≡ None
reads_none b [] up = refl
reads_none b (r ∷ older) up =
    let high : end_of b older < r.lsn = up.1 in
    cond-false (r.lsn == 0) (reads_on r r.what (undo_reads r.undo_next older)) (undo_reads 0 older) (ne_eqb r.lsn 0 (λ e. absurd (omega (arith, e, high)))) ∙ reads_none b older up.0

-- undo of a transaction that is not in an open structure change
pub begins_at : (b : Base) (tree : Tree) → TreeLaws tree → (log : History) (t last on : ℕ) → IsLawful b tree log → IsOutside t (open_smo log) → 1 ≤ t → row_of t log ≡ record { last = last; undo_next = on } → GoesOnAt t on log
begins_at b tree laws log t last on law out owner row =
    let next : undo_next_of t log ≡ on = ap (λ (r : Loser). r.undo_next) row in
    subst (λ (n : ℕ). GoesOnAt t n log) next (record { at = (undo_goes_on tree laws).goes_on_at b log t law owner; comes = (undo_goes_on tree laws).reads_beside b log t law out owner })

pub nothing_left : (b : Base) (tree : Tree) (log : History) (t l : ℕ) → IsLawful b tree log → GoesOnAt t l log → l ≡ 0 → to_undo t log ≡ []
nothing_left b tree log t l law goes zero_is =
    subst (λ (o : Option Logged). ComesTo t log o) (ap (λ (n : ℕ). undo_reads n log) zero_is ∙ reads_none b log (rises b tree log law)) goes.comes

pub found_none : (b : Base) (tree : Tree) (log : History) (t l : ℕ) → IsLawful b tree log → GoesOnAt t l log → l ≡ 0 → IsFound t 0 log
found_none b tree log t l law goes zero_is = record { some = λ some. absurd (some refl); none = λ _. nothing_left b tree log t l law goes zero_is }

pub found_here : (t l : ℕ) (log : History) → l ≢ 0 → IsNextAt t l log → IsFound t l log
found_here t l log some next = record { some = λ _. next; none = λ none. absurd (some none) }

-- ---- a net that is not empty

changes_some : (w : What) (rest : List Change) → is_key w ≡ true → change_of w ++ rest ≡ [] → ⊥
changes_some (InsertKey k i) rest key none = cc none
changes_some (DeleteKey k i) rest key none = cc none
changes_some (UndoInsert k i) rest key none = cc key
changes_some (UndoDelete k i) rest key none = cc key
changes_some (UndoSmo n) rest key none = cc key
changes_some DummyClr rest key none = cc key
changes_some (Smo o n) rest key none = cc key
changes_some Commit rest key none = cc key
changes_some End rest key none = cc key
changes_some (Image g) rest key none = cc key
changes_some (Checkpoint n a d) rest key none = cc key
changes_some Unreadable rest key none = cc key

pub net_some : (t l : ℕ) (log : History) → IsNextAt t l log → net t log ≢ []
net_some t l log at none =
    let next = at.next in
    changes_some at.found.what (changes_of next.rest) next.key (ap changes_of (sym next.stack) ∙ none)

pub net_none : (t : ℕ) (log : History) → to_undo t log ≡ [] → net t log ≡ []
net_none t log none = ap changes_of none
