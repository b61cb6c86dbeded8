-- Fronts of a lawful log.
use Rattle.std.proofs.Common.{◌≡◌, List, [], ◌∷◌, ◌++◌, sym, ◌∙◌, ap, append_assoc, append-nil}
use Rattle.im_base_types.specs.Changes.{Effect}
use Rattle.im_theory_log.specs.Histories.{Base, History, IsFront, Rises}
use Rattle.im_theory_log.specs.Lawful.{HasTree, IsLawful}
use Rattle.im_base_types.specs.Records.{Checkpoint, Commit, DeleteKey, DummyClr, End, Image, InsertKey, Smo, UndoDelete, UndoInsert, UndoSmo, Unreadable, What}
use Rattle.im_theory_log.specs.Transactions.{committed, committed_after, net}
use Rattle.im_theory_log.specs.Tree.{Tree}
use Rattle.im_theory_log.proofs.Histories.{at_front}

-- each front of a lawful log is lawful
pub lawful_front : (b : Base) (tree : Tree) (newer f : History) → IsLawful b tree (newer ++ f) → IsLawful b tree f
lawful_front b tree [] f law = law
lawful_front b tree (r ∷ newer) f law = lawful_front b tree newer f law.0

pub fronts_lawful : (b : Base) (tree : Tree) (f log : History) → IsFront f log → IsLawful b tree log → IsLawful b tree f
fronts_lawful b tree f log h law = at_front (λ (l : History). IsLawful b tree l) (λ r older law. law.0) f log h law

-- and has its tree
pub has_tree : (b : Base) (tree : Tree) (log : History) → IsLawful b tree log → HasTree b tree log
has_tree b tree [] law = law.stands
has_tree b tree (r ∷ older) law = law.2

-- its LSNs rise
pub rises : (b : Base) (tree : Tree) (log : History) → IsLawful b tree log → Rises b log
rises b tree [] law = law.lsns
rises b tree (r ∷ older) law = (rises b tree older law.0, law.1.rises)

-- these effects begin those
abbrev pub IsBegun : List Effect → List Effect → Type 0
IsBegun es fs = (more : List Effect) × (es ++ more ≡ fs)

begun_after : (w : What) (e : Effect) (es fs : List Effect) → IsBegun es fs → IsBegun es (committed_after w e fs)
begun_after Commit e es fs (more, is) = (more ++ e ∷ [], sym (append_assoc es more (e ∷ [])) ∙ ap (λ (l : List Effect). l ++ e ∷ []) is)
begun_after (InsertKey k i) e es fs h = h
begun_after (DeleteKey k i) e es fs h = h
begun_after (UndoInsert k i) e es fs h = h
begun_after (UndoDelete k i) e es fs h = h
begun_after (Smo o n) e es fs h = h
begun_after (UndoSmo n) e es fs h = h
begun_after DummyClr e es fs h = h
begun_after End e es fs h = h
begun_after (Image c) e es fs h = h
begun_after (Checkpoint n a d) e es fs h = h
begun_after Unreadable e es fs h = h

-- what a front has committed begins what the log has
pub committed_front : (newer f : History) → IsBegun (committed f) (committed (newer ++ f))
committed_front [] f = ([], append-nil (committed f))
committed_front (r ∷ newer) f = begun_after r.what (net r.txn (newer ++ f)) (committed f) (committed (newer ++ f)) (committed_front newer f)
