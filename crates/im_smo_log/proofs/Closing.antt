-- What a structure change leaves as it was, and the pages where none is open.
use Rattle.std.proofs.Common.{◌≡◌, ◌≢◌, ℕ, false, List, [], ◌∷◌, ◌++◌, refl, sym, ap, subst, ◌∙◌, ◌==◌}
use Rattle.std.specs.Prelude.{◌||◌}
use Rattle.std.proofs.Math.Path.{fun_ext}
use Rattle.std.proofs.lemmas.Bool.{cond-false, ne_eqb}
use Rattle.im_base_types.specs.Changes.{Effect}
use Rattle.im_base_types.specs.Maps.{IndexMap}
use Rattle.im_base_types.specs.Records.{What, InsertKey, DeleteKey, UndoInsert, UndoDelete, Smo, UndoSmo, DummyClr, Commit, End, Image, Checkpoint, Unreadable, Logged}
use Rattle.im_theory_log.specs.Histories.{Base, History, page_at}
use Rattle.im_theory_log.specs.Structure.{open_smo, settled, taken_back}
use Rattle.im_theory_log.specs.Transactions.{committed, committed_after, contents, contents_after, is_end, is_finished, last_of, net, stack_after, to_undo, undo_from, undo_next_of}
use Rattle.im_theory_tree.specs.Levels.{Pages}
use Rattle.im_theory_tree.specs.Good.{AllOf}
use Rattle.im_smo_log.specs.Changes.{IsOfChange, GrowsByChange, IsSameOf}

-- its records change nothing of the map
same_contents : (t : ℕ) (r : Logged) (w : What) (m : IndexMap) → IsOfChange t r w → contents_after w m ≡ m
same_contents t r (Smo was now) m is = refl
same_contents t r DummyClr m is = refl
same_contents t r (Image c) m is = refl
same_contents t r (InsertKey k i) m is = absurd is
same_contents t r (DeleteKey k i) m is = absurd is
same_contents t r (UndoInsert k i) m is = absurd is
same_contents t r (UndoDelete k i) m is = absurd is
same_contents t r (UndoSmo now) m is = absurd is
same_contents t r Commit m is = absurd is
same_contents t r End m is = absurd is
same_contents t r (Checkpoint n a dirty) m is = absurd is
same_contents t r Unreadable m is = absurd is

more_contents : (b : Base) (t : ℕ) (more older : History) → AllOf (λ (r : Logged). IsOfChange t r r.what) more → contents b (more ++ older) ≡ contents b older
more_contents b t [] older all = refl
more_contents b t (r ∷ more) older all = same_contents t r r.what (contents b (more ++ older)) all.0 ∙ more_contents b t more older all.1

pub change_contents : (b : Base) (t : ℕ) (older longer : History) → GrowsByChange t older longer → contents b longer ≡ contents b older
change_contents b t older longer grows = ap (contents b) grows.is ∙ more_contents b t grows.more older grows.all

-- what a log says of its pages
abbrev pub logged_bodies : Base → History → Pages
logged_bodies b log p = (page_at b log p).body

-- where none is open, the settled pages are those of the log
pub closed_pages : (b : Base) (log : History) → open_smo log ≡ [] → settled b log ≡ logged_bodies b log
closed_pages b log closed = fun_ext (λ (p : ℕ). ap (λ (l : History). taken_back l p (page_at b log p).body) closed)

-- ---- what a structure change leaves as it was

same_committed : (t : ℕ) (r : Logged) (w : What) (e : Effect) (es : List Effect) → IsOfChange t r w → committed_after w e es ≡ es
same_committed t r (Smo was now) e es is = refl
same_committed t r DummyClr e es is = refl
same_committed t r (Image c) e es is = refl
same_committed t r (InsertKey k i) e es is = absurd is
same_committed t r (DeleteKey k i) e es is = absurd is
same_committed t r (UndoInsert k i) e es is = absurd is
same_committed t r (UndoDelete k i) e es is = absurd is
same_committed t r (UndoSmo now) e es is = absurd is
same_committed t r Commit e es is = absurd is
same_committed t r End e es is = absurd is
same_committed t r (Checkpoint n a dirty) e es is = absurd is
same_committed t r Unreadable e es is = absurd is

more_committed : (t : ℕ) (more older : History) → AllOf (λ (r : Logged). IsOfChange t r r.what) more → committed (more ++ older) ≡ committed older
more_committed t [] older all = refl
more_committed t (r ∷ more) older all = same_committed t r r.what (net r.txn (more ++ older)) (committed (more ++ older)) all.0 ∙ more_committed t more older all.1

pub change_committed : (t : ℕ) (older longer : History) → GrowsByChange t older longer → committed longer ≡ committed older
change_committed t older longer grows = ap committed grows.is ∙ more_committed t grows.more older grows.all

-- no other transaction wrote one of its records
other_owner : (t u : ℕ) (r : Logged) (w : What) → u ≢ 0 → u ≢ t → IsOfChange t r w → r.txn ≡ u → ⊥
other_owner t u r (Smo was now) some other is e = other (sym e ∙ is)
other_owner t u r DummyClr some other is e = other (sym e ∙ is)
other_owner t u r (Image c) some other is e = some (sym e ∙ is)
other_owner t u r (InsertKey k i) some other is e = absurd is
other_owner t u r (DeleteKey k i) some other is e = absurd is
other_owner t u r (UndoInsert k i) some other is e = absurd is
other_owner t u r (UndoDelete k i) some other is e = absurd is
other_owner t u r (UndoSmo now) some other is e = absurd is
other_owner t u r Commit some other is e = absurd is
other_owner t u r End some other is e = absurd is
other_owner t u r (Checkpoint n a dirty) some other is e = absurd is
other_owner t u r Unreadable some other is e = absurd is

more_others : (t u : ℕ) (more older : History) → u ≢ 0 → u ≢ t → AllOf (λ (r : Logged). IsOfChange t r r.what) more → IsSameOf u older (more ++ older)
more_others t u [] older some other all = record { last = refl; undo = refl; stack = refl; finished = refl }
more_others t u (r ∷ more) older some other all =
    let rest = more_others t u more older some other all.1 in
    let not : (r.txn == u) ≡ false = ne_eqb r.txn u (other_owner t u r r.what some other all.0) in
    let log : History = more ++ older in
    record {
      last = cond-false (r.txn == u) r.lsn (last_of u log) not ∙ rest.last;
      undo = cond-false (r.txn == u) (undo_from r r.what) (undo_next_of u log) not ∙ rest.undo;
      stack = cond-false (r.txn == u) (stack_after r r.what (to_undo u log)) (to_undo u log) not ∙ rest.stack;
      finished = cond-false (r.txn == u) (is_end r.what || is_finished u log) (is_finished u log) not ∙ rest.finished;
    }

pub change_others : (t u : ℕ) (older longer : History) → u ≢ 0 → u ≢ t → GrowsByChange t older longer → IsSameOf u older longer
change_others t u older longer some other grows = subst (IsSameOf u older) (sym grows.is) (more_others t u grows.more older some other grows.all)
