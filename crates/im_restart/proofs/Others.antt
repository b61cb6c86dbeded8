-- What a longer log leaves of the losers that it does not speak of.
use Rattle.std.proofs.Common.{◌≡◌, ◌≢◌, ◌≤◌, ◌<◌, ℕ, zero, suc, [], ◌∷◌, ◌++◌, true, inl, inr, refl, sym, ◌∙◌, ap, subst, arith}
use Rattle.std.specs.Prelude.{◌==◌}
use Rattle.std.proofs.lemmas.Bool.{cases_eq, ne_eqb, cond-false}
use Rattle.im_base_types.specs.Records.{What, InsertKey, DeleteKey, UndoInsert, UndoDelete, Smo, UndoSmo, DummyClr, Commit, End, Image, Checkpoint, Unreadable, Logged}
use Rattle.im_theory_log.specs.Tree.{Tree}
use Rattle.im_theory_log.specs.Histories.{Base, History, IsFront, IsRecordOf, Rises, end_of}
use Rattle.im_theory_log.specs.Copies.{AreImages, GrowsByImages}
use Rattle.im_theory_log.specs.Transactions.{committed, committed_after, last_of, net, reads_on, undo_next_of, undo_reads}
use Rattle.im_theory_log.specs.Lawful.{IsLawful}
use Rattle.im_restart_analysis.specs.declared.rows.Loser.{Loser}
use Rattle.im_restart_analysis.specs.Losers.{is_loser, row_of}
use Rattle.im_restart_analysis.specs.Undo.{HasRecordAt, LeavesOthers}
use Rattle.im_restart_analysis.proofs.Losers.{leaves_others, loser_number, same_loser}
use Rattle.im_restart_analysis.proofs.LawfulLogs.{low}
use Rattle.im_restart_analysis.proofs.Readings.{goes_on_at}
use Rattle.im_theory_tree.specs.Good.{AllOf}
use Rattle.im_restart_undo.specs.Records as undone
use Rattle.im_restart_undo.specs.Records.{IsOfUndo}
use Rattle.im_restart_undo.proofs.Keeping.{undo_others}
use Rattle.im_restart.specs.declared.chains.Chain.{Chain}
use Rattle.im_restart.specs.LoserChains.{GoesOnAt, SparesOthers}

-- ---- who is a loser, and its row

pub spares_none : (t : ℕ) (log : History) → SparesOthers t log log
spares_none t log = record { losers = λ u other. refl; rows = λ u other is. refl }

pub spares_then : (t : ℕ) (one two three : History) → SparesOthers t one two → SparesOthers t two three → SparesOthers t one three
spares_then t one two three first next = record {
  losers = λ u other. next.losers u other ∙ first.losers u other;
  rows = λ u other is. next.rows u other (first.losers u other ∙ is) ∙ first.rows u other is;
}

-- a record of the transaction
pub spares_one : (t : ℕ) (r : Logged) (log : History) → LeavesOthers t r log → SparesOthers t log (r ∷ log)
spares_one t r log others = record { losers = λ u other. others.losers u other; rows = λ u other is. others.rows u other }

image_leaves : (r : Logged) (older : History) (b : Base) (images : History) → AreImages b (r ∷ images) older → LeavesOthers 0 r (images ++ older)
image_leaves r older b images all =
    leaves_others r (images ++ older) 0 all.0.no_owner (ap (λ (x : What). committed_after x (net r.txn (images ++ older)) (committed (images ++ older))) all.0.what)

images_losers : (b : Base) (images older : History) (u : ℕ) → AreImages b images older → is_loser u (images ++ older) ≡ is_loser u older
images_losers b images older zero all = refl
images_losers b [] older (suc u) all = refl
images_losers b (r ∷ images) older (suc u) all = (image_leaves r older b images all).losers (suc u) (λ e. cc e) ∙ images_losers b images older (suc u) all.1

images_rows : (b : Base) (images older : History) (u : ℕ) → u ≢ 0 → AreImages b images older → row_of u (images ++ older) ≡ row_of u older
images_rows b [] older u some all = refl
images_rows b (r ∷ images) older u some all = (image_leaves r older b images all).rows u some ∙ images_rows b images older u some all.1

-- Images leave all of them
pub images_same_loser : (b : Base) (old new : History) (u : ℕ) → GrowsByImages b old new → is_loser u new ≡ is_loser u old
images_same_loser b old new u by = ap (λ (l : History). is_loser u l) by.is ∙ images_losers b by.images old u by.all

pub images_same_row : (b : Base) (old new : History) (u : ℕ) → GrowsByImages b old new → is_loser u old ≡ true → row_of u new ≡ row_of u old
images_same_row b old new u by is =
    ap (λ (l : History). row_of u l) by.is ∙ images_rows b by.images old u (λ e. (let one : 1 ≤ u = loser_number u old is in omega (arith, one, e))) by.all

pub spares_images : (b : Base) (t : ℕ) (old new : History) → GrowsByImages b old new → SparesOthers t old new
spares_images b t old new by = record { losers = λ u other. images_same_loser b old new u by; rows = λ u other is. images_same_row b old new u by is }

-- ---- what is read

end_up : (b : Base) (newer old : History) → Rises b (newer ++ old) → end_of b old ≤ end_of b (newer ++ old)
end_up b [] old up = omega arith
end_up b (r ∷ newer) old up =
    let rest : end_of b old ≤ end_of b (newer ++ old) = end_up b newer old up.0 in
    let last : end_of b (newer ++ old) < r.lsn = up.1 in
    omega (arith, rest, last)

reads_newer : (b : Base) (newer old : History) (l : ℕ) → Rises b (newer ++ old) → l ≤ end_of b old → undo_reads l (newer ++ old) ≡ undo_reads l old
reads_newer b [] old l up within = refl
reads_newer b (r ∷ newer) old l up within =
    let rest : end_of b old ≤ end_of b (newer ++ old) = end_up b newer old up.0 in
    let last : end_of b (newer ++ old) < r.lsn = up.1 in
    cond-false (r.lsn == l) (reads_on r r.what (undo_reads r.undo_next (newer ++ old))) (undo_reads l (newer ++ old)) (ne_eqb r.lsn l (λ e. absurd (omega (arith, e, within, rest, last))))
    ∙ reads_newer b newer old l up.0 within

-- what is read from an LSN of the older log
pub reads_longer : (b : Base) (old new : History) (l : ℕ) → IsFront old new → Rises b new → l ≤ end_of b old → undo_reads l new ≡ undo_reads l old
reads_longer b old new l front up within =
    sym (ap (λ (h : History). undo_reads l h) front.is) ∙ reads_newer b front.newer old l (subst (λ (h : History). Rises b h) (sym front.is) up) within

pub in_newer : (s : Logged) (newer old : History) → IsRecordOf s old → IsRecordOf s (newer ++ old)
in_newer s [] old is = is
in_newer s (r ∷ newer) old is = inr (in_newer s newer old is)

pub has_longer : (t l : ℕ) (old new : History) → IsFront old new → HasRecordAt t l old → HasRecordAt t l new
has_longer t l old new front has = record {
  found = has.found;
  logged = subst (λ (h : History). IsRecordOf has.found h) front.is (in_newer has.found front.newer old has.logged);
  owner = has.owner;
  here = has.here;
}

pub at_most_end : (b : Base) (t l : ℕ) (log : History) → Rises b log → HasRecordAt t l log → l ≤ end_of b log
at_most_end b t l log up has =
    let within : has.found.lsn ≤ end_of b log = low b log has.found up has.logged in
    let here : has.found.lsn ≡ l = has.here in omega (arith, within, here)

within_end : (b : Base) (t l : ℕ) (log : History) → Rises b log → (l ≢ 0 → HasRecordAt t l log) → l ≤ end_of b log
within_end b t l log up at = elim (cases_eq l 0) [
  | inl none ↦ omega (arith, none)
  | inr some ↦ at_most_end b t l log up (at some)
]

-- undo of another goes on where it did
pub goes_longer : (b : Base) (tree : Tree) (t : ℕ) (c : Chain) (l : ℕ) (old new : History) → IsLawful b tree old → Rises b old → Rises b new → IsFront old new → SparesOthers t old new → c.transaction ≢ t
    → GoesOnAt c l old → GoesOnAt c l new
goes_longer b tree t c l old new law up_old up front spares other goes =
    let row : row_of c.transaction new ≡ row_of c.transaction old = spares.rows c.transaction other goes.loser in
    let next : undo_next_of c.transaction new ≡ undo_next_of c.transaction old = ap (λ (r : Loser). r.undo_next) row in
    let here : l ≤ end_of b old = within_end b c.transaction l old up_old goes.at in
    let there : undo_next_of c.transaction old ≤ end_of b old = within_end b c.transaction (undo_next_of c.transaction old) old up_old (goes_on_at b tree old c.transaction law) in
    record {
      loser = spares.losers c.transaction other ∙ goes.loser;
      last = goes.last ∙ sym (ap (λ (r : Loser). r.last) row);
      undo = goes.undo ∙ sym next;
      at = λ some. has_longer c.transaction l old new front (goes.at some);
      same = reads_longer b old new l front up here ∙ goes.same ∙ sym (ap (λ (n : ℕ). undo_reads n new) next ∙ reads_longer b old new (undo_next_of c.transaction old) front up there);
    }

-- ---- the other losers

not_mine : (t u : ℕ) (r : Logged) (w : What) → u ≢ 0 → u ≢ t → IsOfUndo t r w → r.txn ≢ u
not_mine t u r (UndoInsert k i) some other is e = other (sym e ∙ is)
not_mine t u r (UndoDelete k i) some other is e = other (sym e ∙ is)
not_mine t u r (Smo was now) some other is e = other (sym e ∙ is)
not_mine t u r DummyClr some other is e = other (sym e ∙ is)
not_mine t u r (Image c) some other is e = some (sym e ∙ is)
not_mine t u r (InsertKey k i) some other is e = absurd is
not_mine t u r (DeleteKey k i) some other is e = absurd is
not_mine t u r (UndoSmo now) some other is e = absurd is
not_mine t u r Commit some other is e = absurd is
not_mine t u r End some other is e = absurd is
not_mine t u r (Checkpoint n a dirty) some other is e = absurd is
not_mine t u r Unreadable some other is e = absurd is

others_losers : (t u : ℕ) (more older : History) → u ≢ 0 → u ≢ t → AllOf (λ (r : Logged). IsOfUndo t r r.what) more → is_loser u (more ++ older) ≡ is_loser u older
others_losers t u [] older some other all = refl
others_losers t u (r ∷ more) older some other all = same_loser r (more ++ older) u (not_mine t u r r.what some other all.0) ∙ others_losers t u more older some other all.1

spared_losers : (t u : ℕ) (old new : History) → undone.GrowsByUndo t old new → u ≢ t → is_loser u new ≡ is_loser u old
spared_losers t zero old new by other = refl
spared_losers t (suc u) old new by other = ap (λ (l : History). is_loser (suc u) l) by.is ∙ others_losers t (suc u) by.more old (λ e. cc e) other by.all

pub spares_key : (t : ℕ) (old new : History) → undone.GrowsByUndo t old new → SparesOthers t old new
spares_key t old new by = record {
  losers = λ u other. spared_losers t u old new by other;
  rows = λ u other loser.
      let one : 1 ≤ u = loser_number u old loser in
      let same = undo_others t u old new (λ none. (let clash : u ≡ 0 = none in omega (arith, one, clash))) other by in
      ap (λ (l : ℕ). record { last = l; undo_next = undo_next_of u new }) same.last ∙ ap (λ (n : ℕ). record { last = last_of u old; undo_next = n }) same.undo;
}
