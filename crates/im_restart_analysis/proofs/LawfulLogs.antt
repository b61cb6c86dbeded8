-- Each record of a lawful log may stand where it stands.
use Rattle.std.proofs.Common.{◌≡◌, ◌≢◌, ◌≤◌, ◌<◌, [], ◌∷◌, false, inl, inr, refl, ◌∙◌, ap, subst, arith}
use Rattle.im_base_types.specs.Records.{What, InsertKey, DeleteKey, UndoInsert, UndoDelete, Smo, UndoSmo, DummyClr, Commit, End, Image, Checkpoint, Unreadable, Logged}
use Rattle.im_theory_log.specs.Tree.{Tree}
use Rattle.im_theory_log.specs.Histories.{History, Base, IsRecordOf, Rises, end_of}
use Rattle.im_theory_log.specs.Structure.{open_smo}
use Rattle.im_theory_log.specs.Transactions.{is_finished}
use Rattle.im_theory_log.specs.Lawful.{IsLawful, IsNewIn, MayCome, has_owner}
use Rattle.im_theory_log.proofs.Fronts.{rises}
use Rattle.im_restart_analysis.specs.OpenChange.{OpensAnother, IsOfAnother, IsSmo}
use Rattle.im_restart_analysis.specs.Analysis.{Continues}

-- no record stands after the last
pub low : (b : Base) (log : History) (s : Logged) → Rises b log → IsRecordOf s log → s.lsn ≤ end_of b log
low b [] s up is = absurd is
low b (r ∷ older) s up (inl same) = let e : r.lsn ≡ s.lsn = ap (λ (x : Logged). x.lsn) same in omega (arith, e)
low b (r ∷ older) s up (inr there) = let rest : s.lsn ≤ end_of b older = low b older s up.0 there in let last : end_of b older < r.lsn = up.1 in omega (arith, rest, last)

module _ (b : Base) (tree : Tree) (older : History) (r : Logged) (law : IsLawful b tree (r ∷ older)) where
  readable : (w : What) → r.what ≡ w → w ≢ Unreadable
  readable w is e = subst (λ (x : What). MayCome b tree r older x) (is ∙ e) law.1.may

  owned_unfinished : (w : What) → r.what ≡ w → MayCome b tree r older w → 1 ≤ r.txn → is_finished r.txn older ≡ false
  owned_unfinished (Image c) is may one = let zero_txn : r.txn ≡ 0 = may.no_owner in absurd (omega (arith, zero_txn, one))
  owned_unfinished (Checkpoint n a d) is may one = let zero_txn : r.txn ≡ 0 = may in absurd (omega (arith, zero_txn, one))
  owned_unfinished (InsertKey k i) is may one = (law.1.chained (ap has_owner is)).unfinished
  owned_unfinished (DeleteKey k i) is may one = (law.1.chained (ap has_owner is)).unfinished
  owned_unfinished (UndoInsert k i) is may one = (law.1.chained (ap has_owner is)).unfinished
  owned_unfinished (UndoDelete k i) is may one = (law.1.chained (ap has_owner is)).unfinished
  owned_unfinished (Smo o n) is may one = (law.1.chained (ap has_owner is)).unfinished
  owned_unfinished (UndoSmo n) is may one = (law.1.chained (ap has_owner is)).unfinished
  owned_unfinished DummyClr is may one = (law.1.chained (ap has_owner is)).unfinished
  owned_unfinished Commit is may one = (law.1.chained (ap has_owner is)).unfinished
  owned_unfinished End is may one = (law.1.chained (ap has_owner is)).unfinished
  owned_unfinished Unreadable is may one = absurd may

  never_another : OpensAnother r older → ⊥
  never_another another = by (open_smo older) refl another.open_by
    where
      smo : IsSmo r.what
      smo = another.smo

      by : (going : History) → open_smo older ≡ going → IsOfAnother r.txn going → ⊥
      by [] is other = other
      by (s ∷ rest) is other =
          let may = subst (λ (x : What). MayCome b tree r older x) smo.2 law.1.may in
          other (subst (λ (l : History). IsNewIn r.txn r.page l) is may.new_in).0

pub taken_when_lawful : (tree : Tree) (b : Base) (older : History) (r : Logged) → IsLawful b tree (r ∷ older) → Continues r older × (OpensAnother r older → ⊥)
taken_when_lawful tree b older r law = (
  record {
    rises = λ s is. (let under : s.lsn ≤ end_of b older = low b older s (rises b tree older law.0) is in let last : end_of b older < r.lsn = law.1.rises in omega (arith, under, last));
    readable = readable b tree older r law r.what refl;
    unfinished = owned_unfinished b tree older r law r.what refl law.1.may;
  },
  never_another b tree older r law,
)
