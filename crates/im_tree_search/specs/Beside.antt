-- A search beside a structure change: it goes on over the settled tree as long as it meets no page of the change that is made.
use Rattle.std.specs.Prelude.{◌≡◌, ◌≤◌, ◌++◌, ℕ, suc, Bool, true, false, List, Some, None}
use Rattle.im_base_types.specs.Keys.{Key}
use Rattle.im_base_types.specs.Pages.{Entry}
use Rattle.im_base_types.specs.Maps.{Start, first_in}
use Rattle.im_theory_page.specs.Child.{IsChild}
use Rattle.im_theory_tree.specs.Good.{AllOf, first_page, IsGoodTree}
use Rattle.im_theory_tree.specs.Levels.{Pages, Node, leaves_under, entries_in, the_root, height, walk}
use Rattle.im_theory_tree.specs.Lookups.{key_of}
use Rattle.im_theory_tree.specs.Search.{IsOnWay}

-- The walk for a start comes to page p, 0 after the last leaf: from the leaf of its key on, no leaf before has an entry past it.
pub record Comes (pages : Pages) (s : Start) (p : ℕ) : Type 0 where
  pub before : List Node
  pub passed : List Node
  pub rest : List Node
  pub leaves : leaves_under pages (height pages) the_root ≡ before ++ (passed ++ rest)
  pub way : IsOnWay pages 0 (key_of s) (first_page (passed ++ rest))
  pub low : first_in s (entries_in pages before) ≡ None
  pub none : AllOf (λ (m : Node). first_in s (pages m.page).entries ≡ None) passed
  pub page : first_page rest ≡ p

-- Why a search answers that it is hidden: a page that is made stands on the way to its key, or where its walk along the leaves comes to.
pub data MeetsDone (pages : Pages) (done : ℕ → Bool) (s : Start) : Type 0 where
  on_way : (h p : ℕ) → IsOnWay pages h (key_of s) p → done p ≡ true → MeetsDone pages done s
  along : (p : ℕ) → Comes pages s p → 1 ≤ p → done p ≡ true → MeetsDone pages done s

-- the pages as they stand are the settled ones but for those that are made
abbrev pub AgreeBut : Pages → Pages → (ℕ → Bool) → Type 0
AgreeBut now pages done = (p : ℕ) → done p ≡ false → now p ≡ pages p

-- Each step of a search, read from the pages as they stand.
pub record SearchesGoOn : Type 0 where
  pub way : (now pages : Pages) (done : ℕ → Bool) (k : ℕ) (key : Key) (p child : ℕ) → AgreeBut now pages done → IsOnWay pages (suc k) key p → done p ≡ false → IsChild (now p) key child → IsOnWay pages k key child
  pub leaf : (pages : Pages) (spare : List ℕ) (s : Start) (p : ℕ) → IsGoodTree pages spare → IsOnWay pages 0 (key_of s) p → Comes pages s p
  pub answers : (now pages : Pages) (done : ℕ → Bool) (spare : List ℕ) (s : Start) (p : ℕ) (e : Entry) → AgreeBut now pages done → IsGoodTree pages spare → Comes pages s p → 1 ≤ p → done p ≡ false
      → first_in s (now p).entries ≡ Some e → first_in s (walk pages) ≡ Some e
  pub next : (now pages : Pages) (done : ℕ → Bool) (spare : List ℕ) (s : Start) (p : ℕ) → AgreeBut now pages done → IsGoodTree pages spare → Comes pages s p → 1 ≤ p → done p ≡ false
      → first_in s (now p).entries ≡ None → Comes pages s (now p).next
  pub ends : (pages : Pages) (spare : List ℕ) (s : Start) → IsGoodTree pages spare → Comes pages s 0 → first_in s (walk pages) ≡ None
