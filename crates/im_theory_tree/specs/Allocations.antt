-- Pages taken and given back.
use Rattle.std.specs.Prelude.{◌≡◌, ℕ, suc, List, [], ◌∷◌}
use Rattle.im_theory_tree.specs.Good.{times, IsGoodTree}
use Rattle.im_theory_tree.specs.Levels.{Pages}
use Rattle.im_theory_tree.specs.Same.{SameTree, SameLinks}
use Rattle.im_theory_page.specs.Header.{initial}
use Rattle.im_base_types.specs.declared.page_kind.PageKind.TheVariants.{Free}

-- an allocation from the free list: its first page is spare now
pub record TakesFree (pages new : Pages) (spare : List ℕ) (n q : ℕ) : Type 0 where
  pub good : IsGoodTree pages spare
  pub free : (pages 0).prev ≡ suc n
  pub first : (pages 0).next ≡ q
  pub zero : SameTree (pages 0) (new 0)
  pub fewer : (new 0).prev ≡ n
  pub next : (new 0).next ≡ (pages q).next
  pub others : (x : ℕ) → times x (0 ∷ []) ≡ 0 → SameTree (pages x) (new x) × SameLinks (pages x) (new x)

-- an allocation where no page is free: the page count grows
pub record TakesCount (pages new : Pages) (spare : List ℕ) : Type 0 where
  pub good : IsGoodTree pages spare
  pub none : (pages 0).prev ≡ 0
  pub kind : (new 0).kind ≡ (pages 0).kind
  pub links : SameLinks (pages 0) (new 0)
  pub count : (new 0).leftmost ≡ suc (pages 0).leftmost
  pub others : (x : ℕ) → times x (0 ∷ []) ≡ 0 → SameTree (pages x) (new x) × SameLinks (pages x) (new x)

-- a spare page goes to the front of the free list
pub record GivesFree (pages new : Pages) (spare : List ℕ) (q : ℕ) : Type 0 where
  pub good : IsGoodTree pages (q ∷ spare)
  pub zero : SameTree (pages 0) (new 0)
  pub more : (new 0).prev ≡ suc (pages 0).prev
  pub first : (new 0).next ≡ q
  pub freed : (new q).kind ≡ Free
  pub next : (new q).next ≡ (pages 0).next
  pub others : (x : ℕ) → times x (0 ∷ q ∷ []) ≡ 0 → SameTree (pages x) (new x) × SameLinks (pages x) (new x)

-- the pages of a new store
abbrev pub initial_bodies : Pages
initial_bodies p = (initial p).body
