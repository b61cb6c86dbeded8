-- Each record of a lawful log can be applied to its page.
use Rattle.std.proofs.Common.{◌≡◌, ℕ, [], ◌∷◌, refl, sym, ◌∙◌}
use Rattle.std.specs.Prelude.{◌==◌}
use Rattle.std.proofs.lemmas.Bool.{cond-false, ne_eqb}
use Rattle.im_base_types.specs.Pages.{Body}
use Rattle.im_base_types.specs.Records.{Checkpoint, Commit, DeleteKey, DummyClr, End, Image, InsertKey, Logged, Smo, UndoDelete, UndoInsert, UndoSmo, Unreadable, What}
use Rattle.im_theory_log.specs.Histories.{Base, History, page_at}
use Rattle.im_theory_log.specs.Structure.{body_before, open_smo, settled, taken_back}
use Rattle.im_theory_log.specs.Lawful.{IsLawful, IsNotIn, MayCome}
use Rattle.im_theory_log.specs.Tree.{Tree, TreeLaws}
use Rattle.im_theory_log.proofs.Fronts.{has_tree}
use Rattle.im_page_rounds.specs.OnePage.{PageTakes}
use Rattle.im_restart_redo.specs.Redo.{AreApplicable, IsOnLeaves}

-- a page that the open structure change has not changed is as the log made it
not_taken_back : (p : ℕ) (going : History) (now : Body) → IsNotIn p going → now ≡ taken_back going p now
not_taken_back p [] now out = refl
not_taken_back p (s ∷ going) now out = not_taken_back p going now out.1 ∙ sym (cond-false (s.page == p) (body_before s.what now) (taken_back going p now) (ne_eqb s.page p out.0))

module _ (b : Base) (tree : Tree) (leaves : IsOnLeaves tree) (r : Logged) (older : History) (law : IsLawful b tree older) where
  here : IsNotIn r.page (open_smo older) → (page_at b older r.page).body ≡ settled b older r.page
  here out = not_taken_back r.page (open_smo older) (page_at b older r.page).body out

  takes : (w : What) → MayCome b tree r older w → PageTakes w (page_at b older r.page)
  takes (InsertKey k i) may = leaves.put (settled b older) (page_at b older r.page) r.page k i (has_tree b tree older law).good may.can_put (here may.not_in)
  takes (DeleteKey k i) may = leaves.take (settled b older) (page_at b older r.page) r.page k i (has_tree b tree older law).good may.can_drop (here may.not_in)
  takes (UndoInsert k i) may = leaves.take (settled b older) (page_at b older r.page) r.page k i (has_tree b tree older law).good may.can_drop (here may.not_in)
  takes (UndoDelete k i) may = leaves.put (settled b older) (page_at b older r.page) r.page k i (has_tree b tree older law).good may.can_put (here may.not_in)
  takes (Smo old new) may = tt
  takes (UndoSmo new) may = tt
  takes DummyClr may = tt
  takes Commit may = tt
  takes End may = tt
  takes (Image c) may = tt
  takes (Checkpoint n a d) may = tt
  takes Unreadable may = tt

-- a lawful log over a tree whose words speak of leaves: each of its records can be applied where it stands
pub lawful_is_applicable : (b : Base) (tree : Tree) → TreeLaws tree → IsOnLeaves tree → (log : History) → IsLawful b tree log → AreApplicable b log
lawful_is_applicable b tree laws leaves [] law = tt
lawful_is_applicable b tree laws leaves (r ∷ older) law = (lawful_is_applicable b tree laws leaves older law.0, takes b tree leaves r older law.0 r.what law.1.may)
