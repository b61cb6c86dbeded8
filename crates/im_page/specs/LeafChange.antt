-- A key put into a leaf, or taken out.
use Rattle.std.specs.Prelude.{◌≡◌, ◌≢◌, ◌≤◌, ◌<◌, ◌+◌, ℕ, true, List, length, None}
use Rattle.std.specs.FinMap.Entries.{find}
use Rattle.im_base_types.specs.Keys.{Key, key_order}
use Rattle.im_base_types.specs.declared.page_kind.PageKind.TheVariants.{Leaf}
use Rattle.im_base_types.specs.Pages.{Page}
use Rattle.im_base_types.specs.Records.{What, InsertKey, DeleteKey, UndoInsert, UndoDelete}
use Rattle.im_theory_page.specs.Entry.{Parts, Rises, entry_at, taken, width}
use Rattle.im_theory_page.specs.Page.{is_leaf_kind}

-- The leaf lacks the key, which would stand at this place, and has room for it.
pub record HasPlaceFor (page : Page) (key : List ℕ) (i : ℕ) : Type 0 where
  pub leaf : page.body.kind ≡ Leaf
  pub place : Parts page.body.entries key i i
  pub keyed : 1 ≤ length key
  pub short : length key ≤ 255
  pub room : taken (is_leaf_kind page.body.kind) page.body.entries + (1 + length key + width (is_leaf_kind page.body.kind) + 2) ≤ 4064

-- The leaf has the key at this place.
pub record HasKeyAt (page : Page) (key : List ℕ) (i : ℕ) : Type 0 where
  pub leaf : page.body.kind ≡ Leaf
  pub rises : Rises page.body.entries
  pub within : i < length page.body.entries
  pub here : (entry_at page.body.entries i).0 ≡ key

-- The leaf lacks the key, and has room for it.
pub record CanPutKey (page : Page) (key : Key) : Type 0 where
  pub leaf : page.body.kind ≡ Leaf
  pub lacks : find key_order key page.body.entries ≡ None
  pub keyed : 1 ≤ length key
  pub short : length key ≤ 255
  pub room : taken true page.body.entries + (1 + length key + width true + 2) ≤ 4064

-- The leaf has the key.
pub record CanTakeKey (page : Page) (key : Key) : Type 0 where
  pub leaf : page.body.kind ≡ Leaf
  pub has : find key_order key page.body.entries ≢ None

-- a leaf takes a record of a key: one to be put is lacking and has room, one to be taken out is there. It takes no record of another kind
abbrev pub LeafTakes : What → Page → Type 0
LeafTakes (InsertKey k i) g = CanPutKey g k
LeafTakes (UndoDelete k i) g = CanPutKey g k
LeafTakes (DeleteKey k i) g = CanTakeKey g k
LeafTakes (UndoInsert k i) g = CanTakeKey g k
LeafTakes _ g = ⊥
