-- A change of a key of a leaf: it is put in, or taken out.
use Rattle.std.specs.Prelude.{ℕ}
use Rattle.im_base_types.specs.Keys.{Key}
use Rattle.im_base_types.specs.Pages.{Page}
use Rattle.im_base_types.specs.Records.{What, InsertKey, DeleteKey}
use Rattle.im_page.specs.declared.leaf_edit.LeafEdit.{LeafEdit}
use Rattle.im_page.specs.declared.leaf_edit.LeafEdit.TheVariants.{Put, Take}
use Rattle.im_page.specs.LeafChange.{HasPlaceFor, HasKeyAt, CanPutKey, CanTakeKey}

-- what a record of it does to its page
abbrev pub edit_of : LeafEdit → Key → ℕ → What
edit_of Put k i = InsertKey k i
edit_of Take k i = DeleteKey k i

-- The leaf takes it at this place.
abbrev pub HasPlace : LeafEdit → Page → Key → ℕ → Type 0
HasPlace Put page k i = HasPlaceFor page k i
HasPlace Take page k i = HasKeyAt page k i

-- The leaf takes it.
abbrev pub MayEdit : LeafEdit → Page → Key → Type 0
MayEdit Put page k = CanPutKey page k
MayEdit Take page k = CanTakeKey page k
