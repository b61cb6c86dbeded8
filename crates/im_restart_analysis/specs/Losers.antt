-- The losers of a log: the transactions that a restart has to undo and to end.
use Rattle.std.specs.Prelude.{◌≡◌, ℕ, [], ◌∷◌, Bool, false, not, ◌&&◌, ◌||◌, if◌then◌else◌, ◌==◌, nat_le, None, Some}
use Rattle.std.specs.Ordering.{nat_cmp}
use Rattle.std.specs.BTreeMap.{BTreeMap, get}
use Rattle.im_theory_log.specs.Histories.{History}
use Rattle.im_theory_log.specs.Transactions.{last_of, undo_next_of, is_finished}
use Rattle.im_restart_analysis.specs.declared.rows.Loser.{Loser}

-- whether the transaction has a record
abbrev pub has_record : ℕ → History → Bool
has_record t [] = false
has_record t (r ∷ older) = (r.txn == t) || has_record t older

-- whether it has a record, and neither Commit nor End; 0 is no transaction's number
abbrev pub is_loser : ℕ → History → Bool
is_loser t log = nat_le 1 t && (has_record t log && not (is_finished t log))

-- where its records end, and where undo goes on
abbrev pub row_of : ℕ → History → Loser
row_of t log = record { last = last_of t log; undo_next = undo_next_of t log }

-- a row for each of some transactions
abbrev pub LoserMap : Type 0
LoserMap = BTreeMap ℕ Loser

-- The table has each loser with its row, and nobody else.
abbrev pub AreLosers : LoserMap → History → Type 0
AreLosers losers log = (t : ℕ) → get nat_cmp losers t ≡ (if is_loser t log then Some (row_of t log) else None)
