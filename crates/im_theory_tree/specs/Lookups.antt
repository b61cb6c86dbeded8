-- What look-ups answer: the first entry past a start, along the leaf chain, and the last below a key, backward along it.
use Rattle.std.specs.Prelude.{◌≡◌, ℕ, ◌+◌, ◌<◌, ◌≤◌, List, [], ◌∷◌, ◌++◌, length, Some, None}
use Rattle.im_base_types.specs.Keys.{Key}
use Rattle.im_base_types.specs.Pages.{Entry}
use Rattle.im_base_types.specs.declared.page_kind.PageKind.TheVariants.{Leaf}
use Rattle.im_base_types.specs.Maps.{Start, From, Above, first_in, last_in}
use Rattle.im_theory_page.specs.Entry.{entry_at, Rises}
use Rattle.im_theory_tree.specs.Levels.{Pages, Node, leaves_under, entries_in, the_root, height, walk}
use Rattle.im_theory_tree.specs.Good.{first_page}

-- the keys of each page rise
abbrev pub PagesRise : Pages → Type 0
PagesRise pages = (p : ℕ) → Rises (pages p).entries

-- the key that a start names
abbrev pub key_of : Start → Key
key_of (From k) = k
key_of (Above k) = k

-- the first entry past the start is the one at place i, or there is none where the list ends before that
abbrev pub IsFirstAt : Start → List Entry → ℕ → Type 0
IsFirstAt s es i = (i < length es → first_in s es ≡ Some (entry_at es i)) × (length es ≤ i → first_in s es ≡ None)

-- The first entry past the start stands in the leaves from page p on, or nowhere; p is 0 after the last leaf. At least `passed` leaves stand before.
pub record IsAhead (pages : Pages) (s : Start) (passed p : ℕ) : Type 0 where
  pub before : List Node
  pub rest : List Node
  pub leaves : leaves_under pages (height pages) the_root ≡ before ++ rest
  pub page : first_page rest ≡ p
  pub count : passed ≤ length before
  pub first : first_in s (walk pages) ≡ first_in s (entries_in pages rest)

-- the page that is next along the chain is a leaf below the page count, and with it fewer leaves than pages have been passed
pub record IsLeafAhead (pages : Pages) (passed p : ℕ) : Type 0 where
  pub kind : (pages p).kind ≡ Leaf
  pub level : (pages p).level ≡ 0
  pub known : p < (pages 0).leftmost
  pub few : passed + 1 < (pages 0).leftmost

-- ---- backward

-- the page of the last of these nodes; where there is none, this page
abbrev pub last_page : ℕ → List Node → ℕ
last_page p [] = p
last_page p (n ∷ ns) = last_page n.page ns

-- The last entry below the key stands in the leaves up to page p, or nowhere; p is 0 before the first leaf. At least `passed` leaves stand after.
pub record IsBehind (pages : Pages) (k : Key) (passed p : ℕ) : Type 0 where
  pub before : List Node
  pub rest : List Node
  pub leaves : leaves_under pages (height pages) the_root ≡ before ++ rest
  pub page : last_page 0 before ≡ p
  pub count : passed ≤ length rest
  pub last : last_in k (walk pages) ≡ last_in k (entries_in pages before)
