-- Each record of a lawful log leads to earlier ones.
use Rattle.std.proofs.Common.{◌≡◌, ◌⊎◌, ◌<◌, ◌≤◌, ◌-◌, ◌^◌, ℕ, [], ◌∷◌, true, inl, inr, refl, ◌∙◌, ap, arith}
use Rattle.std.specs.Prelude.{◌==◌}
use Rattle.std.proofs.lemmas.Bool.{cases_eq, cond-true, cond-false, eq-eqb, ne_eqb}
use Rattle.im_base_types.specs.Records.{What, InsertKey, DeleteKey, UndoInsert, UndoDelete, Smo, UndoSmo, DummyClr, Commit, End, Image, Checkpoint, Unreadable, Logged}
use Rattle.im_theory_log.specs.Tree.{Tree, TreeLaws}
use Rattle.im_theory_log.specs.Histories.{Base, History, Rises, end_of}
use Rattle.im_theory_log.specs.PageCounts.{count_of, greatest_count}
use Rattle.im_theory_log.specs.Transactions.{last_of}
use Rattle.im_theory_log.specs.Lawful.{IsLawful, MayCome, has_owner}
use Rattle.im_theory_log.proofs.Cited.{rises, count_begun, count_grows, record_within}
use Rattle.im_restart_analysis.specs.Orderly.{IsCountedBy, IsEarlier, LeadsDown}
use Rattle.im_restart_analysis.specs.Undo.{LawfulLogsAreTaken}
use Rattle.im_restart_analysis.proofs.LawfulLogs.{taken_when_lawful}
use Rattle.im_restart_analysis.proofs.Readings.{falls}

-- a transaction's last record stands no later than the log's
last_within : (b : Base) (t : ℕ) (log : History) → Rises b log → (last_of t log ≡ 0) ⊎ (last_of t log ≤ end_of b log)
last_within b t [] up = inl refl
last_within b t (r ∷ older) up = by (last_within b t older up.0)
  where
    high : end_of b older < r.lsn
    high = up.1

    by : (last_of t older ≡ 0) ⊎ (last_of t older ≤ end_of b older) → (last_of t (r ∷ older) ≡ 0) ⊎ (last_of t (r ∷ older) ≤ r.lsn)
    by rest = elim (cases_eq r.txn t) [
      | inl mine ↦ (let same : last_of t (r ∷ older) ≡ r.lsn = cond-true (r.txn == t) r.lsn (last_of t older) (eq-eqb r.txn t mine) in inr (omega (arith, same)))
      | inr other ↦ stays (cond-false (r.txn == t) r.lsn (last_of t older) (ne_eqb r.txn t other)) rest
    ]
      where
        stays : last_of t (r ∷ older) ≡ last_of t older → (last_of t older ≡ 0) ⊎ (last_of t older ≤ end_of b older) → (last_of t (r ∷ older) ≡ 0) ⊎ (last_of t (r ∷ older) ≤ r.lsn)
        stays same (inl none) = inl (same ∙ none)
        stays same (inr under) = inr (omega (arith, same, under, high))

module _ (b : Base) (tree : Tree) (r : Logged) (older : History) (law : IsLawful b tree (r ∷ older)) where
  prev_earlier : has_owner r.what ≡ true → IsEarlier r.prev r.lsn
  prev_earlier owner = by (last_within b r.txn older (rises b tree older law.0))
    where
      prev : r.prev ≡ last_of r.txn older
      prev = (law.1.chained owner).prev

      high : end_of b older < r.lsn
      high = law.1.rises

      by : (last_of r.txn older ≡ 0) ⊎ (last_of r.txn older ≤ end_of b older) → IsEarlier r.prev r.lsn
      by (inl none) = inl (prev ∙ none)
      by (inr under) = inr (omega (arith, prev, under, high))

  not_owned : r.txn ≡ 0 → 1 ≤ r.txn → IsEarlier r.prev r.lsn × IsEarlier r.undo_next r.lsn
  not_owned none one = absurd (omega (arith, none, one))

  by_kind : (w : What) → r.what ≡ w → MayCome b tree r older w → LeadsDown r
  by_kind (InsertKey k i) is may one = (prev_earlier (ap has_owner is), inl may.no_undo_next)
  by_kind (DeleteKey k i) is may one = (prev_earlier (ap has_owner is), inl may.no_undo_next)
  by_kind (UndoInsert k i) is may one = (prev_earlier (ap has_owner is), inr (falls b tree r older law.0 law.1 (UndoInsert k i) is may refl))
  by_kind (UndoDelete k i) is may one = (prev_earlier (ap has_owner is), inr (falls b tree r older law.0 law.1 (UndoDelete k i) is may refl))
  by_kind (Smo was now) is may one = (prev_earlier (ap has_owner is), inl may.no_undo_next)
  by_kind (UndoSmo now) is may one = (prev_earlier (ap has_owner is), inr (falls b tree r older law.0 law.1 (UndoSmo now) is may refl))
  by_kind DummyClr is may one = (prev_earlier (ap has_owner is), inr (falls b tree r older law.0 law.1 DummyClr is may refl))
  by_kind Commit is may one = (prev_earlier (ap has_owner is), inl may.no_undo_next)
  by_kind End is may one = (prev_earlier (ap has_owner is), inl may.no_undo_next)
  by_kind (Image c) is may one = not_owned may.no_owner one
  by_kind (Checkpoint n a d) is may one = not_owned may one
  by_kind Unreadable is may one = absurd may

  pub lawful_leads_down : LeadsDown r
  lawful_leads_down = by_kind r.what refl law.1.may

-- a page below what a log over b has said is below what one that begins with n has
within_count : (b : Base) (n : ℕ) (r : Logged) (older : History) → IsCountedBy n b → r.page < greatest_count (count_of b) older → (r.page < greatest_count n older) ⊎ (2 ^ 32 - 1 ≤ greatest_count n older)
within_count b n r older (inl first) within = let grows = count_grows (count_of b) n older first in inl (omega (arith, within, grows))
within_count b n r older (inr last) within = let begun = count_begun n older in inr (omega (arith, last, begun))

-- so analysis takes it
pub logs_are_taken : (tree : Tree) → TreeLaws tree → LawfulLogsAreTaken tree
logs_are_taken tree laws b n older r first law =
    let taken = taken_when_lawful tree b older r law in (
      taken.0,
      record {
        leads = lawful_leads_down b tree r older law;
        alone = taken.1;
        counted = λ names. within_count b n r older first (record_within b tree laws r older law names);
      },
    )
