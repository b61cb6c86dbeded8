-- One list of effects for all lives.
use Rattle.std.proofs.Common.{◌≡◌, List, [], ◌∷◌, Option, None, Some}
use Rattle.std.specs.Prelude.{IfSome}
use Rattle.std.specs.FinMap.{empty, entries}
use Rattle.im_base_types.specs.Pages.{Entry}
use Rattle.im_base_types.specs.Changes.{Effect, apply_all}
use Rattle.im_engine.specs.Promise.{Life, OneList, AreRun}

shown_so : (o : Option (List Entry)) (P : List Effect → Type 0) (list : List Effect) → P list → IfSome o (λ es. (before : List Effect) → P before → es ≡ entries (apply_all empty before)) → IfSome o (λ es. es ≡ entries (apply_all empty list))
shown_so None P list holds is = tt
shown_so (Some es) P list holds is = is list holds

pub one_list : {F : Type 0} (StandsFor : List Effect → F → Type 0) (files : F) (lives : List (Life F)) (list : List Effect) → StandsFor list files → AreRun StandsFor files lives → OneList list lives
one_list StandsFor files [] list stands are = tt
one_list StandsFor files (life ∷ later) list stands are =
    let kept = are.0.takes list stands in
    (shown_so life.shown (λ before. StandsFor before files) list stands are.0.shows, kept.0, kept.1, one_list StandsFor life.left later kept.0 kept.2 are.1)
