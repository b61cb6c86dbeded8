-- Where the undo of each loser stands, by the LSNs at which it goes on.
use Rattle.std.specs.Prelude.{◌≡◌, ◌≢◌, ◌+◌, ℕ, max, List, [], ◌∷◌, Bool, true, false, ◌==◌, ◌||◌, Some, Result}
use Rattle.std.specs.Ordering.{nat_cmp}
use Rattle.std.specs.BTreeMap.{BTreeMap, get}
use Rattle.im_base_types.specs.declared.fault.Fault.{Fault}
use Rattle.im_theory_log.specs.Histories.{History}
use Rattle.im_theory_log.specs.Transactions.{last_of, undo_next_of, undo_reads}
use Rattle.im_log_record.specs.Entry.{Entry}
use Rattle.im_log.specs.Spelled.{logged_at}
use Rattle.im_page_writer.specs.Outcome.{IsSound}
use Rattle.im_restart_analysis.specs.declared.rows.Loser.{Loser}
use Rattle.im_restart_analysis.specs.Losers.{LoserMap, is_loser, row_of}
use Rattle.im_restart_analysis.specs.Undo.{HasRecordAt, IsNext}
use Rattle.im_restart.specs.declared.chains.Chain.{Chain}
use Rattle.im_restart.specs.UndoOrder.{IsLatest}

-- ---- the losers

-- Undo of a loser goes on at this LSN: it has a record there, and reading from there comes to what it has to undo next; at 0 it has nothing left.
pub record GoesOnAt (c : Chain) (l : ℕ) (log : History) : Type 0 where
  pub loser : is_loser c.transaction log ≡ true
  pub last : c.last ≡ last_of c.transaction log
  pub undo : c.undo_next ≡ undo_next_of c.transaction log
  pub at : l ≢ 0 → HasRecordAt c.transaction l log
  pub same : undo_reads l log ≡ undo_reads (undo_next_of c.transaction log) log

-- a chain at each of some LSNs
abbrev pub ChainMap : Type 0
ChainMap = BTreeMap ℕ Chain

-- the chain of a transaction with this last record, whose undo goes on at this LSN as the log says it
abbrev pub chain_of : ℕ → ℕ → ℕ → Chain
chain_of t last undo_next = record { transaction = t; last = last; undo_next = undo_next }

-- the map has the transaction's chain
pub record HasChain (t : ℕ) (chains : ChainMap) : Type 0 where
  pub lsn : ℕ
  pub chain : Chain
  pub is : get nat_cmp chains lsn ≡ Some chain
  pub owner : chain.transaction ≡ t

-- The map has each loser that is not left out, once, at the LSN where its undo goes on, and no other transaction.
pub record AreChains (out : ℕ → Bool) (chains : ChainMap) (log : History) : Type 0 where
  pub each : (l : ℕ) (c : Chain) → get nat_cmp chains l ≡ Some c → (l ≢ 0) × (out c.transaction ≡ false) × GoesOnAt c l log
  pub all : (t : ℕ) → is_loser t log ≡ true → out t ≡ false → HasChain t chains
  pub once : (l m : ℕ) (c x : Chain) → get nat_cmp chains l ≡ Some c → get nat_cmp chains m ≡ Some x → c.transaction ≡ x.transaction → l ≡ m

-- nobody is left out
abbrev pub nobody : ℕ → Bool
nobody u = false

-- one transaction more is left out
abbrev pub and_also : ℕ → (ℕ → Bool) → ℕ → Bool
and_also t out u = (t == u) || out u

-- Each of these is a loser with its row.
abbrev pub HasOnlyLosers : LoserMap → History → Type 0
HasOnlyLosers losers log = (t : ℕ) (row : Loser) → get nat_cmp losers t ≡ Some row → (is_loser t log ≡ true) × (row ≡ row_of t log)

-- the other losers are as they were
pub record SparesOthers (t : ℕ) (old new : History) : Type 0 where
  pub losers : (u : ℕ) → u ≢ t → is_loser u new ≡ is_loser u old
  pub rows : (u : ℕ) → u ≢ t → is_loser u old ≡ true → row_of u new ≡ row_of u old

-- a bound of the LSNs at which undo goes on
abbrev pub above : List (ℕ × Chain) → ℕ
above [] = 0
above (e ∷ es) = max (e.0 + 1) (above es)

-- what putting a chain at its LSN keeps
abbrev pub PutKept : (ℕ → Bool) → History → ChainMap → Result Unit Fault → Type 0
PutKept out log chains result = IsSound result (λ u. AreChains out chains log)

-- ---- single records

-- What is undone: the next that a loser has to undo, the latest of what losers have left, which the record spells.
pub record IsToUndo (log : History) (c : Chain) (entry : Entry) : Type 0 where
  pub loser : is_loser c.transaction log ≡ true
  pub last : c.last ≡ last_of c.transaction log
  pub undo : c.undo_next ≡ undo_next_of c.transaction log
  pub lsn : ℕ
  pub next : IsNext c.transaction log (logged_at lsn entry)
  pub latest : IsLatest lsn log
