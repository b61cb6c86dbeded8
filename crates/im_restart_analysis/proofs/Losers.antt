-- Who is a loser, and what a record more does to that.
use Rattle.std.proofs.Common.{◌≡◌, ◌≢◌, ◌≤◌, ℕ, [], ◌∷◌, Bool, true, false, not, ◌&&◌, ◌||◌, inl, inr, sym, ◌∙◌, ap, subst}
use Rattle.std.specs.Prelude.{◌==◌, nat_le}
use Rattle.std.proofs.lemmas.Bool.{cases_Bool, and_parts, and_from, not-true, not_from_false, or_right, eq-eqb, ne_eqb, le-leb, leb-true, cond-true, cond-false}
use Rattle.im_base_types.specs.Records.{Logged}
use Rattle.im_theory_log.specs.Tree.{Tree}
use Rattle.im_theory_log.specs.Histories.{History, Base, IsRecordOf}
use Rattle.im_theory_log.specs.Transactions.{last_of, undo_next_of, undo_from, to_undo, stack_after, net, is_end, is_finished, committed, committed_after}
use Rattle.im_theory_log.specs.Lawful.{IsLawful, has_owner}
use Rattle.im_theory_log.specs.LogLaws.{AllFinished}
use Rattle.im_restart_analysis.specs.Losers.{has_record, is_loser, row_of}
use Rattle.im_restart_analysis.specs.Undo.{LeavesOthers}

-- ---- the parts

pub loser_number : (t : ℕ) (log : History) → is_loser t log ≡ true → 1 ≤ t
loser_number t log is = leb-true 1 t (and_parts (nat_le 1 t) (has_record t log && not (is_finished t log)) is).0

pub loser_unfinished : (t : ℕ) (log : History) → is_loser t log ≡ true → is_finished t log ≡ false
loser_unfinished t log is =
    let parts = and_parts (nat_le 1 t) (has_record t log && not (is_finished t log)) is in
    not-true (is_finished t log) (and_parts (has_record t log) (not (is_finished t log)) parts.1).1

pub loser_from : (t : ℕ) (log : History) → 1 ≤ t → has_record t log ≡ true → is_finished t log ≡ false → is_loser t log ≡ true
loser_from t log one has open_still =
    and_from (nat_le 1 t) (has_record t log && not (is_finished t log)) (le-leb 1 t one) (and_from (has_record t log) (not (is_finished t log)) has (not_from_false (is_finished t log) open_still))

pub finished_is_none : (t : ℕ) (log : History) → is_finished t log ≡ true → is_loser t log ≡ false
finished_is_none t log done = elim (cases_Bool (is_loser t log)) [
  | inl is ↦ (let clash : true ≡ false = sym done ∙ loser_unfinished t log is in cc clash)
  | inr is ↦ is
]

-- a record of the log is one of its transaction's
pub has_its_record : (s : Logged) (log : History) → IsRecordOf s log → has_record s.txn log ≡ true
has_its_record s [] is = absurd is
has_its_record s (r ∷ older) (inl same) = ap (λ (b : Bool). b || has_record s.txn older) (eq-eqb r.txn s.txn (ap (λ (x : Logged). x.txn) same))
has_its_record s (r ∷ older) (inr there) = or_right (r.txn == s.txn) (has_record s.txn older) (has_its_record s older there)

-- a record with an owner has a number from 1 on
pub numbered : (b : Base) (tree : Tree) (log : History) (s : Logged) → IsLawful b tree log → IsRecordOf s log → has_owner s.what ≡ true → 1 ≤ s.txn
numbered b tree [] s law is owner = absurd is
numbered b tree (r ∷ older) s law (inl same) owner =
    subst (λ (x : Logged). 1 ≤ x.txn) same (law.1.chained (ap (λ (x : Logged). has_owner x.what) same ∙ owner)).number
numbered b tree (r ∷ older) s law (inr there) owner = numbered b tree older s law.0 there owner

-- no loser is left: every transaction is finished
pub all_done : (b : Base) (tree : Tree) (log : History) → IsLawful b tree log → ((t : ℕ) → is_loser t log ≡ false) → AllFinished log
all_done b tree log law none s is owner = elim (cases_Bool (is_finished s.txn log)) [
  | inl done ↦ done
  | inr going ↦
      let loser : is_loser s.txn log ≡ true = loser_from s.txn log (numbered b tree log s law is owner) (has_its_record s log is) going in
      let clash : true ≡ false = sym loser ∙ none s.txn in cc clash
]

-- ---- a record more

module _ (r : Logged) (older : History) (t : ℕ) where
  pub same_loser : r.txn ≢ t → is_loser t (r ∷ older) ≡ is_loser t older
  same_loser other =
      let record_same : has_record t (r ∷ older) ≡ has_record t older = ap (λ (b : Bool). b || has_record t older) (ne_eqb r.txn t other) in
      let finished_same : is_finished t (r ∷ older) ≡ is_finished t older = cond-false (r.txn == t) (is_end r.what || is_finished t older) (is_finished t older) (ne_eqb r.txn t other) in
      ap (λ (x : Bool). nat_le 1 t && (x && not (is_finished t (r ∷ older)))) record_same ∙ ap (λ (x : Bool). nat_le 1 t && (has_record t older && not x)) finished_same

  same_row : r.txn ≢ t → row_of t (r ∷ older) ≡ row_of t older
  same_row other =
      let last : last_of t (r ∷ older) ≡ last_of t older = cond-false (r.txn == t) r.lsn (last_of t older) (ne_eqb r.txn t other) in
      let next : undo_next_of t (r ∷ older) ≡ undo_next_of t older = cond-false (r.txn == t) (undo_from r r.what) (undo_next_of t older) (ne_eqb r.txn t other) in
      ap (λ (l : ℕ). record { last = l; undo_next = undo_next_of t (r ∷ older) }) last ∙ ap (λ (n : ℕ). record { last = last_of t older; undo_next = n }) next

  same_stack : r.txn ≢ t → to_undo t (r ∷ older) ≡ to_undo t older
  same_stack other = cond-false (r.txn == t) (stack_after r r.what (to_undo t older)) (to_undo t older) (ne_eqb r.txn t other)

  pub own_stack : r.txn ≡ t → to_undo t (r ∷ older) ≡ stack_after r r.what (to_undo t older)
  own_stack mine = cond-true (r.txn == t) (stack_after r r.what (to_undo t older)) (to_undo t older) (eq-eqb r.txn t mine)

  pub own_row : r.txn ≡ t → row_of t (r ∷ older) ≡ record { last = r.lsn; undo_next = undo_from r r.what }
  own_row mine =
      let last : last_of t (r ∷ older) ≡ r.lsn = cond-true (r.txn == t) r.lsn (last_of t older) (eq-eqb r.txn t mine) in
      let next : undo_next_of t (r ∷ older) ≡ undo_from r r.what = cond-true (r.txn == t) (undo_from r r.what) (undo_next_of t older) (eq-eqb r.txn t mine) in
      ap (λ (l : ℕ). record { last = l; undo_next = undo_next_of t (r ∷ older) }) last ∙ ap (λ (n : ℕ). record { last = r.lsn; undo_next = n }) next

  own_finished : r.txn ≡ t → is_finished t (r ∷ older) ≡ (is_end r.what || is_finished t older)
  own_finished mine = cond-true (r.txn == t) (is_end r.what || is_finished t older) (is_finished t older) (eq-eqb r.txn t mine)

  pub still_loser : r.txn ≡ t → 1 ≤ t → is_end r.what ≡ false → is_finished t older ≡ false → is_loser t (r ∷ older) ≡ true
  still_loser mine one goes going =
      loser_from t (r ∷ older) one (ap (λ (b : Bool). b || has_record t older) (eq-eqb r.txn t mine)) (own_finished mine ∙ ap (λ (b : Bool). b || is_finished t older) goes ∙ going)

  pub loser_ends : r.txn ≡ t → is_end r.what ≡ true → is_loser t (r ∷ older) ≡ false
  loser_ends mine ends = finished_is_none t (r ∷ older) (own_finished mine ∙ ap (λ (b : Bool). b || is_finished t older) ends)

-- a record of one transaction that is no Commit leaves the others, and what was committed
pub leaves_others : (r : Logged) (older : History) (t : ℕ) → r.txn ≡ t → committed_after r.what (net r.txn older) (committed older) ≡ committed older → LeavesOthers t r older
leaves_others r older t mine same = record {
  committed = same;
  stacks = λ u other. same_stack r older u (λ e. other (sym e ∙ mine));
  losers = λ u other. same_loser r older u (λ e. other (sym e ∙ mine));
  rows = λ u other. same_row r older u (λ e. other (sym e ∙ mine));
}
