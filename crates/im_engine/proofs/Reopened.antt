-- What the records of a restart leave of a log: what is committed, and numbers that are above its own.
use Rattle.std.proofs.Common.{◌≡◌, ℕ, ◌<◌, ◌≤◌, ◌-◌, ◌^◌, [], ◌∷◌, ◌++◌, Bool, true, false, inl, inr, refl, sym, ap, subst, ◌∙◌, arith}
use Rattle.std.specs.Prelude.{◌==◌, ◌||◌, min}
use Rattle.std.proofs.lemmas.Bool.{cases_Bool, cases_eq, ne_eqb, eq-eqb, cond-false}
use Rattle.im_base_types.specs.Records.{What, InsertKey, DeleteKey, UndoInsert, UndoDelete, Smo, UndoSmo, DummyClr, Commit, End, Image, Checkpoint, Unreadable, Logged}
use Rattle.im_theory_log.specs.Histories.{Base, History, IsRecordOf}
use Rattle.im_theory_log.specs.Structure.{open_after, open_smo}
use Rattle.im_theory_log.specs.Transactions.{net, last_of, is_finished, to_undo, committed, committed_after}
use Rattle.im_theory_log.specs.Lawful.{IsLawful}
use Rattle.im_theory_log.proofs.LogLaws.{nothing_left, none_open}
use Rattle.im_restart_analysis.specs.Losers.{has_record, is_loser}
use Rattle.im_restart_analysis.specs.Numbers.{IsNextNumber}
use Rattle.im_restart_analysis.proofs.Losers.{all_done, loser_from}
use Rattle.im_restart.specs.Undone.{IsUndo, AreUndo, GrowsByRestart}
use Rattle.im_theory_tree.specs.Theory.{page_tree}
use Rattle.im_theory_steps.specs.Growth.{AreBelow, IsOver}
use Rattle.im_restart_undo.proofs.Growth.{loser_has}

-- ---- numbers

-- a transaction with a record
below_of : (n t : ℕ) (log : History) → AreBelow n log → has_record t log ≡ true → t < n
below_of n t [] h has = absurd (cc has)
below_of n t (r ∷ older) h has = elim (cases_eq r.txn t) [
  | inl same ↦ subst (λ (x : ℕ). x < n) same h.0
  | inr differ ↦ below_of n t older h.1 (sym (ap (λ (b : Bool). b || has_record t older) (ne_eqb r.txn t differ)) ∙ has)
]

below_each : (n : ℕ) (log : History) → ((r : Logged) → IsRecordOf r log → r.txn < n) → AreBelow n log
below_each n [] each = tt
below_each n (r ∷ older) each = (each r (inl refl), below_each n older (λ s is. each s (inr is)))

-- the next number that analysis finds is above all of the log, as long as there are any
pub next_is_above : (lowest n : ℕ) (log : History) → IsNextNumber lowest n log → n < 2 ^ 64 - 1 → AreBelow n log
next_is_above lowest n log next lt =
    let is : n ≡ min next.number (2 ^ 64 - 1) = next.is in
    let same : next.number ≡ n = omega (arith, is, lt) in
    below_each n log (λ r is. subst (λ (x : ℕ). r.txn < x) same (next.new.above r is))

-- ---- one record of a restart

-- the open structure change's records are of the log
opened_below : (n : ℕ) (r : Logged) (w : What) (going : History) → r.txn < n → AreBelow n going → AreBelow n (open_after r w going)
opened_below n r (Smo o now) going lt h = (lt, h)
opened_below n r (UndoSmo now) [] lt h = tt
opened_below n r (UndoSmo now) (s ∷ going) lt h = h.1
opened_below n r DummyClr going lt h = tt
opened_below n r (InsertKey k i) going lt h = h
opened_below n r (DeleteKey k i) going lt h = h
opened_below n r (UndoInsert k i) going lt h = h
opened_below n r (UndoDelete k i) going lt h = h
opened_below n r Commit going lt h = h
opened_below n r End going lt h = h
opened_below n r (Image c) going lt h = h
opened_below n r (Checkpoint m a d) going lt h = h
opened_below n r Unreadable going lt h = h

open_below : (n : ℕ) (log : History) → AreBelow n log → AreBelow n (open_smo log)
open_below n [] h = tt
open_below n (r ∷ older) h = opened_below n r r.what (open_smo older) h.0 (open_below n older h.1)

-- what one record of undo leaves
record LeavesLog (r : Logged) (older : History) (w : What) : Type 0 where
  committed : committed_after w (net r.txn older) (committed older) ≡ committed older
  below : (n : ℕ) → 1 ≤ n → AreBelow n older → r.txn < n

module _ (r : Logged) (older : History) where
  loser_below : is_loser r.txn older ≡ true → (n : ℕ) → 1 ≤ n → AreBelow n older → r.txn < n
  loser_below loser n one low = below_of n r.txn older low (loser_has r.txn older loser)

  owner_below : (s : Logged) (rest : History) → open_smo older ≡ s ∷ rest → r.txn ≡ s.txn → (n : ℕ) → 1 ≤ n → AreBelow n older → r.txn < n
  owner_below s rest going owner n one low =
      let there : AreBelow n (s ∷ rest) = subst (λ (x : History). AreBelow n x) going (open_below n older low) in
      subst (λ (t : ℕ). t < n) (sym owner) there.0

  leaves_log : (w : What) → IsUndo r older w → LeavesLog r older w
  leaves_log (Image c) u = record { committed = refl; below = λ n one low. subst (λ (t : ℕ). t < n) (sym u) one }
  leaves_log (UndoInsert k i) u = record { committed = refl; below = loser_below u }
  leaves_log (UndoDelete k i) u = record { committed = refl; below = loser_below u }
  leaves_log (UndoSmo new) u = record {
    committed = refl;
    below = owner_below u.undone u.rest u.going u.owner;
  }
  leaves_log End u = record { committed = refl; below = loser_below u.loser }
  leaves_log (InsertKey k i) u = absurd u
  leaves_log (DeleteKey k i) u = absurd u
  leaves_log (Smo o n) u = record { committed = refl; below = loser_below u }
  leaves_log DummyClr u = record { committed = refl; below = loser_below u }
  leaves_log Commit u = absurd u
  leaves_log (Checkpoint n a d) u = absurd u
  leaves_log Unreadable u = absurd u

-- ---- all of them

pub record LeavesLogs (longer older : History) : Type 0 where
  pub committed : committed longer ≡ committed older
  pub below : (n : ℕ) → 1 ≤ n → AreBelow n older → AreBelow n longer

leaves_all : (more older : History) → AreUndo more older → LeavesLogs (more ++ older) older
leaves_all [] older all = record { committed = refl; below = λ n one low. low }
leaves_all (r ∷ more) older all =
    let rest = leaves_all more older all.1 in
    let one = leaves_log r (more ++ older) r.what all.0 in
    record {
      committed = one.committed ∙ rest.committed;
      below = λ n least low. (one.below n least (rest.below n least low), rest.below n least low);
    }

pub leaves_logs : (older longer : History) → GrowsByRestart older longer → LeavesLogs longer older
leaves_logs older longer grown = subst (λ (x : History). LeavesLogs x older) (sym grown.is) (leaves_all grown.more older grown.all)

-- ---- where no loser is left

has_last : (t : ℕ) (log : History) → 1 ≤ last_of t log → has_record t log ≡ true
has_last t [] le = absurd (omega (arith, le))
has_last t (r ∷ older) le = elim (cases_eq r.txn t) [
  | inl same ↦ ap (λ (b : Bool). b || has_record t older) (eq-eqb r.txn t same)
  | inr differ ↦
      ap (λ (b : Bool). b || has_record t older) (ne_eqb r.txn t differ)
      ∙ has_last t older (subst (λ (n : ℕ). 1 ≤ n) (cond-false (r.txn == t) r.lsn (last_of t older) (ne_eqb r.txn t differ)) le)
]

-- everyone is over
pub all_over : (log : History) → ((t : ℕ) → is_loser t log ≡ false) → (t : ℕ) → IsOver t log
all_over log none t one le = elim (cases_Bool (is_finished t log)) [
  | inl done ↦ done
  | inr going ↦ (let clash : true ≡ false = sym (loser_from t log one (has_last t log le) going) ∙ none t in cc clash)
]

-- nobody has anything left to undo
pub none_to_undo : (b : Base) (log : History) → IsLawful b page_tree log → ((t : ℕ) → is_loser t log ≡ false) → (t : ℕ) → to_undo t log ≡ []
none_to_undo b log law none = nothing_left b page_tree log law (all_done b page_tree log law none)

-- and no structure change is open
pub all_closed : (b : Base) (log : History) → IsLawful b page_tree log → ((t : ℕ) → is_loser t log ≡ false) → open_smo log ≡ []
all_closed b log law none = none_open b page_tree log law (none_to_undo b log law none)
