-- The pages of a structure change that is made page by page, as a search beside it is told them.
use Rattle.std.specs.Prelude.{◌≡◌, ◌==◌, ℕ, List, map, take}
use Rattle.std.specs.List.{list_any}
use Rattle.im_smo_pages.specs.Images.{Numbered}
use Rattle.im_smo_log.specs.Under.{is_done}

-- the numbers of the images, in their order
abbrev pub numbers_of : List Numbered → List ℕ
numbers_of images = map (λ (x : Numbered). x.0) images

-- The first n of them are the pages of the first n images.
abbrev pub FirstAreDone : Type 0
FirstAreDone = (images : List Numbered) (n p : ℕ) → list_any (λ (q : ℕ). q == p) (take n (numbers_of images)) ≡ is_done images n p
