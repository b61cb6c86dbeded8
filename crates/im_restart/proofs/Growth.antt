-- Logs that grow by Images and by records of undo.
use Rattle.std.proofs.Common.{◌≡◌, List, [], ◌∷◌, ◌++◌, refl, sym, ◌∙◌, ap, subst, append_assoc}
use Rattle.std.proofs.lemmas.List.{append_cancel_right}
use Rattle.im_base_types.specs.Changes.{Effect}
use Rattle.im_base_types.specs.Records.{What, InsertKey, DeleteKey, UndoInsert, UndoDelete, Smo, UndoSmo, DummyClr, Commit, End, Image, Checkpoint, Unreadable, Logged}
use Rattle.im_theory_log.specs.Transactions.{committed, committed_after, net}
use Rattle.im_theory_log.specs.Histories.{Base, History, IsFront}
use Rattle.im_theory_log.specs.Copies.{AreImages, GrowsByImages}
use Rattle.im_restart.specs.Undone.{AreUndo, GrowsByRestart, IsUndo}

pub grows_none : (log : History) → GrowsByRestart log log
grows_none log = record { more = []; is = refl; all = tt }

are_images : (b : Base) (images log more all : History) → AreImages b images log → AreUndo more all → AreUndo (images ++ more) all
are_images b [] log more all is undo = undo
are_images b (r ∷ images) log more all is undo =
    (subst (λ (w : What). IsUndo r ((images ++ more) ++ all) w) (sym is.0.what) is.0.no_owner, are_images b images log more all is.1 undo)

-- Images join the log
pub grows_images : (b : Base) (all now longer : History) → GrowsByRestart all now → GrowsByImages b now longer → GrowsByRestart all longer
grows_images b all now longer grown by = record {
  more = by.images ++ grown.more;
  is = by.is ∙ ap (λ (l : History). by.images ++ l) grown.is ∙ sym (append_assoc by.images grown.more all);
  all = are_images b by.images now grown.more all by.all grown.all;
}

-- and a record of undo
pub grows_one : (all now : History) (r : Logged) → GrowsByRestart all now → IsUndo r now r.what → GrowsByRestart all (r ∷ now)
grows_one all now r grown undo = record {
  more = r ∷ grown.more;
  is = ap (λ (l : History). r ∷ l) grown.is;
  all = (subst (λ (l : History). IsUndo r l r.what) grown.is undo, grown.all);
}

behind : (newer more all : History) → AreUndo (newer ++ more) all → AreUndo more all
behind [] more all undo = undo
behind (r ∷ newer) more all undo = behind newer more all undo.1

-- each front that has the older log grew so
pub grows_front : (all left high : History) → GrowsByRestart all high → IsFront all left → IsFront left high → GrowsByRestart all left
grows_front all left high grown from upto =
    let whole : (upto.newer ++ from.newer) ++ all ≡ grown.more ++ all = append_assoc upto.newer from.newer all ∙ ap (λ (l : History). upto.newer ++ l) from.is ∙ upto.is ∙ grown.is in
    let same : upto.newer ++ from.newer ≡ grown.more = append_cancel_right (upto.newer ++ from.newer) grown.more all whole in
    record { more = from.newer; is = sym from.is; all = behind upto.newer from.newer all (subst (λ (l : History). AreUndo l all) (sym same) grown.all) }

are_then : (more some all : History) → AreUndo some all → AreUndo more (some ++ all) → AreUndo (more ++ some) all
are_then [] some all first next = first
are_then (r ∷ more) some all first next = (subst (λ (l : History). IsUndo r l r.what) (sym (append_assoc more some all)) next.0, are_then more some all first next.1)

-- and again
pub grows_then : (all left now : History) → GrowsByRestart all left → GrowsByRestart left now → GrowsByRestart all now
grows_then all left now first next = record {
  more = next.more ++ first.more;
  is = next.is ∙ ap (λ (l : History). next.more ++ l) first.is ∙ sym (append_assoc next.more first.more all);
  all = are_then next.more first.more all first.all (subst (λ (l : History). AreUndo next.more l) first.is next.all);
}

-- ---- what was committed stays

no_commit : (r : Logged) (older : History) (w : What) (e : Effect) (es : List Effect) → IsUndo r older w → committed_after w e es ≡ es
no_commit r older (Image c) e es is = refl
no_commit r older (UndoInsert k i) e es is = refl
no_commit r older (UndoDelete k i) e es is = refl
no_commit r older (UndoSmo n) e es is = refl
no_commit r older End e es is = refl
no_commit r older (InsertKey k i) e es is = absurd is
no_commit r older (DeleteKey k i) e es is = absurd is
no_commit r older (Smo o n) e es is = refl
no_commit r older DummyClr e es is = refl
no_commit r older (Checkpoint n a d) e es is = absurd is
no_commit r older Unreadable e es is = absurd is
no_commit r older Commit e es is = absurd is

commits_stay : (more all : History) → AreUndo more all → committed (more ++ all) ≡ committed all
commits_stay [] all undo = refl
commits_stay (r ∷ more) all undo = no_commit r (more ++ all) r.what (net r.txn (more ++ all)) (committed (more ++ all)) undo.0 ∙ commits_stay more all undo.1

pub same_commits : (all now : History) → GrowsByRestart all now → committed now ≡ committed all
same_commits all now grown = ap committed grown.is ∙ commits_stay grown.more all grown.all
