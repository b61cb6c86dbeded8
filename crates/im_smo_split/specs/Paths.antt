-- How many pages a split takes.
use Rattle.std.specs.Prelude.{◌≡◌, ℕ, suc, ◌+◌, Bool, true, false, List, [], ◌∷◌, nat_le, if◌then◌else◌}
use Rattle.im_base_types.specs.Keys.{Key}
use Rattle.im_theory_page.specs.Entry.{entry_at, taken, size}
use Rattle.im_theory_page.specs.Child.{IsChild}
use Rattle.im_theory_tree.specs.Levels.{Pages, height}
use Rattle.im_theory_tree.specs.KeySplits.{is_leaf_level}
use Rattle.im_smo_pages.specs.Parts.{IsPoint}

-- a page on a key's way, and the place where it would be split
pub record OnPath : Type 0 where
  pub page : ℕ
  pub point : ℕ

-- the key that would move up to its parent
abbrev pub separator : Pages → OnPath → Key
separator pages x = (entry_at (pages x.page).entries x.point).0

-- the pages on a key's way, from the one of level k up to the root, each but the root with its split point, where splits are dense or not
abbrev pub IsPath : Bool → Pages → Key → ℕ → List OnPath → Type 0
IsPath dense pages key k [] = ⊥
IsPath dense pages key k (x ∷ []) = (x.page ≡ 1) × (height pages ≡ k)
IsPath dense pages key k (x ∷ y ∷ up) = IsPoint dense (is_leaf_level k) (pages x.page) x.point × IsChild (pages y.page) key x.page × IsPath dense pages key (suc k) (y ∷ up)

-- an entry with this key fits into the page
abbrev pub fits_page : Pages → Bool → ℕ → Key → Bool
fits_page pages leaf p key = nat_le (taken leaf (pages p).entries + (size leaf (key, 0) + 2)) 4064

-- The pages that a split of the first of these takes: one for itself, and those for its parent's split, where its separator does not fit there. The root takes two.
abbrev pub pages_taken : Pages → List OnPath → ℕ
pages_taken pages [] = 0
pages_taken pages (x ∷ []) = 2
pages_taken pages (x ∷ y ∷ up) = if fits_page pages false y.page (separator pages x) then 1 else 1 + pages_taken pages (y ∷ up)

-- the pages that have to be taken before a key goes into the first of these, its leaf
abbrev pub new_pages : Pages → Key → List OnPath → ℕ
new_pages pages key [] = 0
new_pages pages key (x ∷ up) = if fits_page pages true x.page key then 0 else pages_taken pages (x ∷ up)
