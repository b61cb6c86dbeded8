-- The steps of a load, over what each page says before and after.
use Rattle.std.specs.Prelude.{◌≡◌, ◌≢◌, ℕ, suc, List, [], ◌∷◌, ◌++◌}
use Rattle.im_base_types.specs.Keys.{Key}
use Rattle.im_base_types.specs.Pages.{Entry, Body}
use Rattle.im_base_types.specs.declared.page_kind.PageKind.TheVariants.{Inner}
use Rattle.im_theory_page.specs.Header.{empty_body, leaf_body}
use Rattle.im_theory_tree.specs.Levels.{Pages}

-- the page with one entry more, after all others
abbrev pub with_entry_last : Body → Entry → Body
with_entry_last b e = record b { entries = b.entries ++ e ∷ [] }

-- the meta page with one page more
abbrev pub one_page_more : Body → Body
one_page_more b = record b { leftmost = suc b.leftmost }

-- an inner page with these entries
abbrev pub inner_page : ℕ → ℕ → List Entry → Body
inner_page level leftmost es = record (empty_body Inner level 0 0 leftmost) { entries = es }

-- a root one level up, over two pages
abbrev pub root_over : Body → ℕ → Key → ℕ → Body
root_over b l key r = record b { level = suc b.level; leftmost = l; entries = (key, r) ∷ [] }

-- the last leaf takes an entry
pub record PutsLast (pages new : Pages) (at : ℕ → ℕ) (e : Entry) : Type 0 where
  pub leaf : new (at 0) ≡ with_entry_last (pages (at 0)) e
  pub others : (x : ℕ) → x ≢ at 0 → new x ≡ pages x

-- The last leaf is closed: the entry begins a new one, page q, and the page above gets its key as separator.
pub record ClosesLeaf (pages new : Pages) (at : ℕ → ℕ) (e : Entry) (q : ℕ) : Type 0 where
  pub count : (pages 0).leftmost ≡ q
  pub meta : new 0 ≡ one_page_more (pages 0)
  pub closed : new (at 0) ≡ record (pages (at 0)) { next = q }
  pub opened : new q ≡ leaf_body (at 0) 0 (e ∷ [])
  pub above : new (at 1) ≡ with_entry_last (pages (at 1)) (e.0, q)
  pub others : (x : ℕ) → x ≢ 0 → x ≢ at 0 → x ≢ q → x ≢ at 1 → new x ≡ pages x

-- The page of level k is closed: its last entry moves up to the page above, and the entry's child is the first of a new page, q.
pub record ClosesInner (pages new : Pages) (at : ℕ → ℕ) (k : ℕ) (front : List Entry) (up : Entry) (q : ℕ) : Type 0 where
  pub count : (pages 0).leftmost ≡ q
  pub was : (pages (at k)).entries ≡ front ++ up ∷ []
  pub meta : new 0 ≡ one_page_more (pages 0)
  pub closed : new (at k) ≡ record (pages (at k)) { entries = front }
  pub opened : new q ≡ inner_page k up.1 []
  pub above : new (at (suc k)) ≡ with_entry_last (pages (at (suc k))) (up.0, q)
  pub others : (x : ℕ) → x ≢ 0 → x ≢ at k → x ≢ q → x ≢ at (suc k) → new x ≡ pages x

-- The root, a leaf, is closed as page l: the entry begins a new leaf, r, and page 1 stands over the two.
pub record RaisesLeaf (pages new : Pages) (e : Entry) (l r : ℕ) : Type 0 where
  pub count : (pages 0).leftmost ≡ l
  pub after : suc l ≡ r
  pub meta : new 0 ≡ one_page_more (one_page_more (pages 0))
  pub root : new 1 ≡ inner_page 1 l ((e.0, r) ∷ [])
  pub closed : new l ≡ record (pages 1) { next = r }
  pub opened : new r ≡ leaf_body l 0 (e ∷ [])
  pub others : (x : ℕ) → x ≢ 0 → x ≢ 1 → x ≢ l → x ≢ r → new x ≡ pages x

-- The root, an inner page of level k, is closed as page l: its last entry's key moves up, its child is the first of a new page, r, and page 1 stands over the two.
pub record RaisesInner (pages new : Pages) (k : ℕ) (front : List Entry) (up : Entry) (l r : ℕ) : Type 0 where
  pub count : (pages 0).leftmost ≡ l
  pub after : suc l ≡ r
  pub was : (pages 1).entries ≡ front ++ up ∷ []
  pub meta : new 0 ≡ one_page_more (one_page_more (pages 0))
  pub root : new 1 ≡ root_over (pages 1) l up.0 r
  pub closed : new l ≡ record (pages 1) { entries = front }
  pub opened : new r ≡ inner_page k up.1 []
  pub others : (x : ℕ) → x ≢ 0 → x ≢ 1 → x ≢ l → x ≢ r → new x ≡ pages x
