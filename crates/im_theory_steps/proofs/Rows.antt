-- Rows of the table after a step.
use Rattle.std.proofs.Common.{◌≡◌, ◌≢◌, ◌≤◌, ◌+◌, ◌-◌, suc, ℕ, List, [], ◌∷◌, length, map, refl, sym, ◌∙◌, ap, subst, Option, None, Some, arith}
use Rattle.std.specs.Prelude.{find}
use Rattle.im_base_types.specs.Changes.{Effect}
use Rattle.im_theory_log.specs.Histories.{History}
use Rattle.im_theory_log.specs.Transactions.{changes_of, net}
use Rattle.im_base_txn.specs.declared.transaction.Mark.{Mark}
use Rattle.im_base_txn.specs.declared.transaction.Mark.TheVariants.{Going, MustRollBack, RollingBack, Returning, Committing}
use Rattle.im_base_txn.specs.declared.transaction.Transaction.{Transaction}
use Rattle.im_base_txn.specs.Rows.{is_of, changed, with_mark}
use Rattle.im_base_txn.specs.LookUps.{Keeps, without}
use Rattle.im_base_txn.proofs.LookUps.{look_ups_follow}
use Rattle.im_theory_machine.specs.View.{Txn, idle, set_txn}
use Rattle.im_theory_machine.proofs.Cited.{by_txn}
use Rattle.im_theory_steps.specs.Growth.{SaysSameOf, IsOfOthers}
use Rattle.im_theory_steps.specs.Serving.{IsRow, IsRowOf, IsAt, mark_of}

-- a row is as it was where the log says of its transaction what it said
pub row_on : (row : Transaction) (next : ℕ) (older longer : History) → SaysSameOf row.number older longer → IsRow row next older → IsRow row next longer
row_on row next older longer on r = record {
  number = r.number;
  below = r.below;
  last = r.last ∙ sym (on.last r.number);
  undo = r.undo ∙ sym (on.undo r.number);
  unfinished = on.finished ∙ r.unfinished;
  changes = r.changes ∙ sym (ap (λ (stack : History). length (changes_of stack)) on.stack);
}

-- whatever its mark
row_of_on : (m : Mark) (row : Transaction) (next : ℕ) (older longer : History) → SaysSameOf row.number older longer → IsRowOf m row next older → IsRowOf m row next longer
row_of_on Committing row next older longer on r = record { number = r.number; below = r.below; over = on.finished ∙ r.over; stack = on.stack ∙ r.stack }
row_of_on Going row next older longer on r = row_on row next older longer on r
row_of_on MustRollBack row next older longer on r = row_on row next older longer on r
row_of_on RollingBack row next older longer on r = row_on row next older longer on r
row_of_on (Returning n) row next older longer on r = row_on row next older longer on r

-- a row that does not wait
pub row_as : (m : Mark) (row : Transaction) (next : ℕ) (log : History) → (m ≡ Committing → ⊥) → IsRowOf m row next log → IsRow row next log
row_as Committing row next log free r = absurd (free refl)
row_as Going row next log free r = r
row_as MustRollBack row next log free r = r
row_as RollingBack row next log free r = r
row_as (Returning n) row next log free r = r

pub as_row : (m : Mark) (row : Transaction) (next : ℕ) (log : History) → (m ≡ Committing → ⊥) → IsRow row next log → IsRowOf m row next log
as_row Committing row next log free r = absurd (free refl)
as_row Going row next log free r = r
as_row MustRollBack row next log free r = r
as_row RollingBack row next log free r = r
as_row (Returning n) row next log free r = r

-- and so is a transaction
pub same_at : (u next : ℕ) (older longer : History) → SaysSameOf u older longer → (o : Option Transaction) (x : Txn) → IsAt u o next older x → IsAt u o next longer x
same_at u next older longer on None x is = (λ one le. on.finished ∙ is.0 one (subst (λ (n : ℕ). 1 ≤ n) (on.last one) le), on.stack ∙ is.1, is.2)
same_at u next older longer on (Some row) x is = (is.0, row_of_on row.mark row next older longer (subst (λ (n : ℕ). SaysSameOf n older longer) (sym is.0) on) is.1, is.2)

-- what is known of a row that is found
pub row_of_found : (t next : ℕ) (log : History) (x : Txn) (o : Option Transaction) (row : Transaction) → o ≡ Some row → IsAt t o next log x → IsAt t (Some row) next log x
row_of_found t next log x o row is at = subst (λ (p : Option Transaction). IsAt t p next log x) is at

-- one transaction is set, and the others are as they were
pub rows_after : (t next after : ℕ) (older longer : History) (rows new : List Transaction) (txns : ℕ → Txn) (x : Txn)
    → ((u : ℕ) → u ≢ t → IsAt u (find (is_of u) rows) next older (txns u) → IsAt u (find (is_of u) rows) after longer (txns u))
    → ((u : ℕ) → IsAt u (find (is_of u) rows) next older (txns u)) → ((u : ℕ) → u ≢ t → find (is_of u) new ≡ find (is_of u) rows) → IsAt t (find (is_of t) new) after longer x
    → (u : ℕ) → IsAt u (find (is_of u) new) after longer (set_txn txns t x u)
rows_after t next after older longer rows new txns x go each found own =
    by_txn (λ u y. IsAt u (find (is_of u) new) after longer y) txns t x own
    (λ u differ. subst (λ (o : Option Transaction). IsAt u o after longer (txns u)) (sym (found u differ)) (go u differ (each u)))

-- its row is changed
pub rows_changed : (t next : ℕ) (older longer : History) (rows : List Transaction) (txns : ℕ → Txn) (x : Txn) (f : Transaction → Transaction) (row : Transaction) → Keeps f
    → IsOfOthers t older longer → ((u : ℕ) → IsAt u (find (is_of u) rows) next older (txns u)) → find (is_of t) rows ≡ Some row → row.number ≡ t → IsRowOf (f row).mark (f row) next longer → x.mark ≡ mark_of (f row).mark
    → (u : ℕ) → IsAt u (find (is_of u) (map (changed t f) rows)) next longer (set_txn txns t x u)
rows_changed t next older longer rows txns x f row keeps on each found number now mark =
    rows_after t next next older longer rows (map (changed t f) rows) txns x
    (λ u differ is. same_at u next older longer (on u differ) (find (is_of u) rows) (txns u) is)
    each
    (λ u differ. look_ups_follow.changed_other u t f keeps rows differ)
    (subst (λ (o : Option Transaction). IsAt t o next longer x) (sym (look_ups_follow.changed_own t f keeps rows row found)) (keeps row ∙ number, now, mark))

-- its row is taken out
pub rows_ended : (t next : ℕ) (older longer : History) (rows : List Transaction) (txns : ℕ → Txn) → IsOfOthers t older longer → ((u : ℕ) → IsAt u (find (is_of u) rows) next older (txns u))
    → IsAt t None next longer idle → (u : ℕ) → IsAt u (find (is_of u) (without t rows)) next longer (set_txn txns t idle u)
rows_ended t next older longer rows txns on each gone =
    rows_after t next next older longer rows (without t rows) txns idle
    (λ u differ is. same_at u next older longer (on u differ) (find (is_of u) rows) (txns u) is)
    each
    (λ u differ. look_ups_follow.ended_other u t rows differ)
    (subst (λ (o : Option Transaction). IsAt t o next longer idle) (sym (look_ups_follow.ended_own t rows)) gone)

-- all rows stay
pub rows_stay : (t next : ℕ) (older longer : History) (rows : List Transaction) (txns : ℕ → Txn) (x : Txn) (row : Transaction) → ((u : ℕ) → SaysSameOf u older longer)
    → ((u : ℕ) → IsAt u (find (is_of u) rows) next older (txns u)) → find (is_of t) rows ≡ Some row → x.mark ≡ mark_of row.mark
    → (u : ℕ) → IsAt u (find (is_of u) rows) next longer (set_txn txns t x u)
rows_stay t next older longer rows txns x row on each found mark =
    let was = row_of_found t next older (txns t) (find (is_of t) rows) row found (each t) in
    rows_after t next next older longer rows rows txns x
    (λ u differ is. same_at u next older longer (on u) (find (is_of u) rows) (txns u) is)
    each
    (λ u differ. refl)
    (subst (λ (o : Option Transaction). IsAt t o next longer x) (sym found) (was.0, row_of_on row.mark row next older longer (on row.number) was.1, mark))

pub length_map : {A : Type 0} (f : A → A) (xs : List A) → length (map f xs) ≡ length xs
length_map f [] = refl
length_map f (x ∷ xs) = ap (λ (n : ℕ). suc n) (length_map f xs)

-- one row fewer
pub one_fewer : (active many few : ℕ) → active ≡ many → many ≡ few + 1 → active - 1 ≡ few
one_fewer active many few a m = ap (λ (n : ℕ). n - 1) (a ∙ m) ∙ by few
  where
    by : (n : ℕ) → (n + 1) - 1 ≡ n
    by n = omega arith

-- a row with another mark
pub row_marked : (m : Mark) (row : Transaction) (next : ℕ) (log : History) → IsRow row next log → IsRow (with_mark m row) next log
row_marked m row next log r = record {
  number = r.number;
  below = r.below;
  last = r.last;
  undo = r.undo;
  unfinished = r.unfinished;
  changes = r.changes;
}

-- ---- the count of a row

-- the count of a row as the log has it of its transaction
pub counted_at : (t next : ℕ) (log : History) (row : Transaction) → row.number ≡ t → IsRow row next log → row.changes ≡ length (net t log)
counted_at t next log row is r = r.changes ∙ ap (λ (n : ℕ). length (net n log)) is

-- no change stands, or some
pub none_stands : (t next : ℕ) (log : History) (row : Transaction) → row.number ≡ t → IsRow row next log → row.changes ≡ 0 → net t log ≡ []
none_stands t next log row is r none = by (net t log) (sym (counted_at t next log row is r) ∙ none)
  where
    by : (e : Effect) → length e ≡ 0 → e ≡ []
    by [] none = refl
    by (c ∷ cs) none = absurd (omega (arith, none))

pub some_stand : (t next : ℕ) (log : History) (row : Transaction) → row.number ≡ t → IsRow row next log → 1 ≤ row.changes → net t log ≢ []
some_stand t next log row is r some none =
    let count = counted_at t next log row is r in
    let empty : length (net t log) ≡ 0 = ap length none in
    absurd (omega (arith, count, empty, some))
