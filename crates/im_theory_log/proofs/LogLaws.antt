-- The laws of lawful logs, from their lemmas.
use Rattle.std.proofs.Common.{◌≡◌, inl, inr, ℕ, [], ◌∷◌, ◌++◌, true, false, refl, sym, ◌∙◌, ap, subst}
use Rattle.std.specs.Prelude.{◌==◌, ◌||◌}
use Rattle.std.proofs.lemmas.Bool.{cases_eq, eq-eqb, ne_eqb, cond-true, cond-false}
use Rattle.im_theory_log.specs.Histories.{Base, History, IsRecordOf, page_at}
use Rattle.im_theory_log.specs.Lawful.{Follows, IsLawful, MayCome, has_owner}
use Rattle.im_theory_log.specs.LogLaws.{AllFinished, ChainLeadsToStack, CompensatedAtMostOnce, FinishedTreeIsCommitted, FrontsAreLawful, IsRebuilt, LogsStayLawful, OpenChangeIsOnTop, TreeHoldsCommittedAndNets, bodies}
use Rattle.im_base_types.specs.Pages.{Body}
use Rattle.im_base_types.specs.Records.{Checkpoint, Commit, DeleteKey, DummyClr, End, Image, InsertKey, Logged, Smo, UndoDelete, UndoInsert, UndoSmo, Unreadable, What}
use Rattle.im_theory_log.specs.Structure.{open_smo, settled, taken_back}
use Rattle.im_theory_log.specs.Transactions.{changes_of, committed, is_end, is_finished, stack_after, to_undo, undo_reads}
use Rattle.im_theory_log.specs.Tree.{Tree, TreeLaws}
use Rattle.im_theory_log.proofs.Appends.{append_checkpoint, append_commit, append_delete, append_dummy, append_end, append_image, append_insert, append_smo, append_undo_delete, append_undo_insert, append_undo_smo}
use Rattle.im_theory_log.proofs.Committed.{all_finished, nets_of}
use Rattle.im_theory_log.proofs.Compensated.{all_counted, in_log}
use Rattle.im_theory_log.proofs.Fronts.{committed_front, fronts_lawful, has_tree}
use Rattle.im_theory_log.proofs.OpenSmo.{IsOwned, owned, part, split}
use Rattle.im_theory_log.proofs.UndoReads.{undo_reads_top}

pub fronts_are_lawful : (tree : Tree) → FrontsAreLawful tree
fronts_are_lawful tree b f log front law =
    let begun = committed_front front.newer f in
    record {
      lawful = fronts_lawful b tree f log front law;
      later = begun.0;
      committed = begun.1 ∙ ap committed front.is;
    }

-- ---- longer logs

module _ (tree : Tree) (laws : TreeLaws tree) (b : Base) (older : History) (r : Logged) (law : IsLawful b tree older) (follows : Follows b tree r older) (rebuilt : r.what ≡ DummyClr → IsRebuilt b tree older) where
  by_kind : (w : What) → r.what ≡ w → IsLawful b tree (r ∷ older)
  by_kind (InsertKey k i) is = append_insert b tree older r law follows laws k i is
  by_kind (DeleteKey k i) is = append_delete b tree older r law follows laws k i is
  by_kind (UndoInsert k i) is = append_undo_insert b tree older r law follows laws k i is
  by_kind (UndoDelete k i) is = append_undo_delete b tree older r law follows laws k i is
  by_kind (Smo old new) is = append_smo b tree older r law follows old new is
  by_kind (UndoSmo new) is = append_undo_smo b tree older r law follows new is
  by_kind DummyClr is = let now = rebuilt is in append_dummy b tree older r law follows is now.good now.walk now.named
  by_kind Commit is = append_commit b tree older r law follows is
  by_kind End is = append_end b tree older r law follows is
  by_kind (Image c) is = append_image b tree older r law follows c is
  by_kind (Checkpoint n a d) is = append_checkpoint b tree older r law follows n a d is
  by_kind Unreadable is = absurd (subst (λ (w : What). MayCome b tree r older w) is follows.may)

  pub stays_lawful : IsLawful b tree (r ∷ older)
  stays_lawful = by_kind r.what refl

pub logs_stay_lawful : (tree : Tree) → TreeLaws tree → LogsStayLawful tree
logs_stay_lawful tree laws b older r law follows rebuilt = stays_lawful tree laws b older r law follows rebuilt

-- ---- what the tree holds

pub tree_holds : (tree : Tree) → TreeHoldsCommittedAndNets tree
tree_holds tree b log law = record { walk = (has_tree b tree log law).walk; nets = nets_of b tree log law }

-- a finished transaction has nothing left to undo
module _ (b : Base) (tree : Tree) (r : Logged) (older : History) (law : IsLawful b tree (r ∷ older)) (t : ℕ) (mine : r.txn ≡ t) where
  not_done : (w : What) → r.what ≡ w → has_owner w ≡ true → is_finished t older ≡ true → ⊥
  not_done w is owner done =
      let clash : true ≡ false = sym done ∙ ap (λ (x : ℕ). is_finished x older) (sym mine) ∙ (law.1.chained (ap has_owner is ∙ owner)).unfinished in cc clash

  own_finished : (w : What) → r.what ≡ w → (is_end w || is_finished t older) ≡ true → (is_finished t older ≡ true → to_undo t older ≡ []) → stack_after r w (to_undo t older) ≡ []
  own_finished Commit is done rest = refl
  own_finished End is done rest = refl
  own_finished (InsertKey k i) is done rest = absurd (not_done (InsertKey k i) is refl done)
  own_finished (DeleteKey k i) is done rest = absurd (not_done (DeleteKey k i) is refl done)
  own_finished (UndoInsert k i) is done rest = absurd (not_done (UndoInsert k i) is refl done)
  own_finished (UndoDelete k i) is done rest = absurd (not_done (UndoDelete k i) is refl done)
  own_finished (Smo o n) is done rest = absurd (not_done (Smo o n) is refl done)
  own_finished (UndoSmo n) is done rest = absurd (not_done (UndoSmo n) is refl done)
  own_finished DummyClr is done rest = absurd (not_done DummyClr is refl done)
  own_finished (Image c) is done rest = rest done
  own_finished (Checkpoint n a d) is done rest = rest done
  own_finished Unreadable is done rest = rest done

pub finished_none : (b : Base) (tree : Tree) (log : History) (t : ℕ) → IsLawful b tree log → is_finished t log ≡ true → to_undo t log ≡ []
finished_none b tree [] t law done = refl
finished_none b tree (r ∷ older) t law done = elim (cases_eq r.txn t) [
  | inl mine ↦
      cond-true (r.txn == t) (stack_after r r.what (to_undo t older)) (to_undo t older) (eq-eqb r.txn t mine)
      ∙ own_finished b tree r older law t mine r.what refl (sym (cond-true (r.txn == t) (is_end r.what || is_finished t older) (is_finished t older) (eq-eqb r.txn t mine)) ∙ done) (λ e. finished_none b tree older t law.0 e)
  | inr other ↦
      cond-false (r.txn == t) (stack_after r r.what (to_undo t older)) (to_undo t older) (ne_eqb r.txn t other)
      ∙ finished_none b tree older t law.0 (sym (cond-false (r.txn == t) (is_end r.what || is_finished t older) (is_finished t older) (ne_eqb r.txn t other)) ∙ done)
]

-- where each transaction of the log is finished, nobody has anything left
pub nothing_left : (b : Base) (tree : Tree) (log : History) → IsLawful b tree log → AllFinished log → (t : ℕ) → to_undo t log ≡ []
nothing_left b tree log law all t = by (to_undo t log) refl
  where
    by : (stack : History) → to_undo t log ≡ stack → to_undo t log ≡ []
    by [] is = is
    by (s ∷ rest) is =
        let top : IsRecordOf s (to_undo t log) = subst (λ (l : History). IsRecordOf s l) (sym is) (inl refl) in
        let of = in_log log t s top in
        let owner : s.txn ≡ t = (subst (λ (l : History). IsOwned t l) is (owned t log)).0 in
        finished_none b tree log t law (ap (λ (x : ℕ). is_finished x log) (sym owner) ∙ all s of.0 of.1)

-- the open structure change is its owner's
pub on_top : (tree : Tree) → OpenChangeIsOnTop tree
on_top tree b log newest rest law is =
    let cut = split b tree log newest.txn law in
    let whole : part newest.txn (open_smo log) ≡ open_smo log =
    ap (λ (l : History). part newest.txn l) is ∙ cond-true (newest.txn == newest.txn) (newest ∷ rest) [] (eq-eqb newest.txn newest.txn refl) ∙ sym is in
    record { bottom = cut.bottom; is = cut.is ∙ ap (λ (l : History). l ++ cut.bottom) whole; plain = cut.plain }

pub none_open : (b : Base) (tree : Tree) (log : History) → IsLawful b tree log → ((t : ℕ) → to_undo t log ≡ []) → open_smo log ≡ []
none_open b tree log law none = by (open_smo log) refl
  where
    by : (open_log : History) → open_smo log ≡ open_log → open_smo log ≡ []
    by [] is = is
    by (s ∷ rest) is =
        let top = on_top tree b log s rest law is in
        let clash : [] ≡ s ∷ rest ++ top.bottom = sym (none s.txn) ∙ top.is ∙ ap (λ (l : History). l ++ top.bottom) is in
        absurd (cc clash)

pub finished_tree : (tree : Tree) → FinishedTreeIsCommitted tree
finished_tree tree b log law all =
    let none = nothing_left b tree log law all in
    let shut = none_open b tree log law none in
    let same : settled b log ≡ bodies b log = λ i p. ap (λ (l : History). taken_back l p (page_at b log p).body) shut i in
    record {
      nothing_left = none;
      closed = shut;
      good = subst (λ (f : ℕ → Body). tree.Good f) same (has_tree b tree log law).good;
      walk = ap (λ (f : ℕ → Body). tree.walk f) (sym same) ∙ all_finished b tree log law (λ t. ap changes_of (none t));
    }

-- ---- undo

pub chain_leads : (tree : Tree) → ChainLeadsToStack undo_reads tree
chain_leads tree b log t some law = undo_reads_top b tree log t some law

pub at_most_once : (tree : Tree) → CompensatedAtMostOnce tree
at_most_once tree b log s law is key = all_counted b tree log s law is key
