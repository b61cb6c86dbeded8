-- Where the dirty table had room for a page it has it still.
use Rattle.std.specs.Prelude.{◌≡◌, ℕ, true}
use Rattle.im_page_table.specs.DirtyTable.{TableView, has_room}

abbrev pub KeepsRoom : TableView → TableView → Type 0
KeepsRoom old new = (q : ℕ) → has_room q old ≡ true → has_room q new ≡ true
