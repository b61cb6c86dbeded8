-- Pages given back.
use Rattle.std.specs.Prelude.{◌≡◌, ◌≢◌, ◌≤◌, ℕ, List, [], ◌∷◌, ◌++◌, length}
use Rattle.im_base_types.specs.declared.page_kind.PageKind.TheVariants.{Free}
use Rattle.im_page_writer.specs.Outcome.{AllPages}
use Rattle.im_theory_tree.specs.Levels.{Pages, walk}
use Rattle.im_theory_tree.specs.Good.{IsGoodTree}
use Rattle.im_smo_pages.specs.Images.{Numbered}
use Rattle.im_smo_pages.specs.Changed.{SamePages, free_given_pages}
use Rattle.im_smo_pages.specs.Seen.{seen}

-- these pages are given back, the last one first
abbrev pub given_pages : Pages → List ℕ → Pages
given_pages pages [] = pages
given_pages pages (q ∷ qs) = free_given_pages (given_pages pages qs) q

-- Of a chain page q is given back, and of the pages above it, from the last one on, all but these, which are spare still. There is an image at least, and the walk stays.
pub record IsGiven (store : AllPages) (old new : List Numbered) (q : ℕ) (above spare : List ℕ) : Type 0 where
  pub done : List ℕ
  pub parts : above ≡ spare ++ done
  pub pages : SamePages (seen store new) (given_pages (seen store old) (done ++ q ∷ []))
  pub good : IsGoodTree (seen store new) spare
  pub same : walk (seen store new) ≡ walk (seen store old)
  pub some : 1 ≤ length new
  pub other : q ≢ 0
  pub gone : (seen store new q).kind ≡ Free
