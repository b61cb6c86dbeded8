-- What may be logged as it was planned beside a structure change, and what is barred.
use Rattle.std.proofs.Common.{◌≡◌, ◌≢◌, ℕ, true, false, List, [], sym, ◌∙◌, ap, ◌==◌}
use Rattle.std.specs.List.{list_any}
use Rattle.im_base_types.specs.Records as whats
use Rattle.im_base_types.specs.Records.{What}
use Rattle.im_page_writer.specs.Outcome.{AllPages}
use Rattle.im_theory_tree.specs.Good.{IsGoodTree}
use Rattle.im_tree_search.specs.declared.change_beside.Beside.{Beside}
use Rattle.im_tree_search.specs.Levels.{bodies_of}
use Rattle.im_smo_split.proofs.OneLeaf.{one_leaf}
use Rattle.im_smo_actions.specs.GoingBeside.{is_planned}
use Rattle.im_restart_undo.specs.declared.back.Back.{Back}
use Rattle.im_restart_undo.specs.declared.back.Back.TheVariants.{Plain, Split, Drop}
use Rattle.im_restart_undo.specs.GoingBeside.{BarredPlansAreHidden, PlansMayBeLogged}
use Rattle.im_restart_undo.specs.Planning.{IsBack, IsLeafOf, NeedsChange}

pub plans_may_be_logged : PlansMayBeLogged
plans_may_be_logged b s beside w (Plain p) told planned = told.apart p planned.clear
plans_may_be_logged b s beside w (Split plan) told planned = told.none planned.clear
plans_may_be_logged b s beside w (Drop p images) told planned = told.none planned.clear

-- ---- what is barred

none_planned : (beside : Beside) (p : ℕ) → beside.pages.now ≡ [] → is_planned beside p ≡ true → ⊥
none_planned beside p none is = let clash : false ≡ true = sym (ap (λ (ps : List ℕ). list_any (λ (q : ℕ). q == p) ps) none) ∙ is in cc clash

leaf_apart : (pages : AllPages) (beside : Beside) (w : What) (back : Back) → IsGoodTree (bodies_of pages) [] → IsBack pages beside w back → (leaf : ℕ) → IsLeafOf (bodies_of pages) w leaf → is_planned beside leaf ≡ true → ⊥
leaf_apart pages beside w (Split plan) good planned leaf way is = none_planned beside leaf planned.clear is
leaf_apart pages beside w (Drop p images) good planned leaf way is = none_planned beside leaf planned.clear is
leaf_apart pages beside (whats.InsertKey k i) (Plain p) good planned leaf way is =
    let clash : false ≡ true = sym planned.clear ∙ ap (is_planned beside) (one_leaf (bodies_of pages) [] k p leaf good planned.can way) ∙ is in cc clash
leaf_apart pages beside (whats.DeleteKey k i) (Plain p) good planned leaf way is =
    let clash : false ≡ true = sym planned.clear ∙ ap (is_planned beside) (one_leaf (bodies_of pages) [] k p leaf good planned.can.0 way) ∙ is in cc clash
leaf_apart pages beside (whats.UndoInsert k i) (Plain p) good planned leaf way is = absurd way
leaf_apart pages beside (whats.UndoDelete k i) (Plain p) good planned leaf way is = absurd way
leaf_apart pages beside (whats.Smo x y) (Plain p) good planned leaf way is = absurd way
leaf_apart pages beside (whats.UndoSmo y) (Plain p) good planned leaf way is = absurd way
leaf_apart pages beside whats.DummyClr (Plain p) good planned leaf way is = absurd way
leaf_apart pages beside whats.Commit (Plain p) good planned leaf way is = absurd way
leaf_apart pages beside whats.End (Plain p) good planned leaf way is = absurd way
leaf_apart pages beside (whats.Image c) (Plain p) good planned leaf way is = absurd way
leaf_apart pages beside (whats.Checkpoint n a x) (Plain p) good planned leaf way is = absurd way
leaf_apart pages beside whats.Unreadable (Plain p) good planned leaf way is = absurd way

change_apart : (pages : AllPages) (beside : Beside) (w : What) (back : Back) → IsBack pages beside w back → beside.pages.now ≢ [] → NeedsChange (bodies_of pages) w → ⊥
change_apart pages beside w (Plain p) planned some needs = planned.whole needs
change_apart pages beside w (Split plan) planned some needs = some planned.clear
change_apart pages beside w (Drop p images) planned some needs = some planned.clear

pub barred_plans_are_hidden : BarredPlansAreHidden
barred_plans_are_hidden pages beside w back good planned = (leaf_apart pages beside w back good planned, change_apart pages beside w back planned)
