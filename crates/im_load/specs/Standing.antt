-- What loaded files stand for, and what an engine finds there.
use Rattle.std.specs.Prelude.{◌≡◌, ◌⊎◌, ◌≤◌, List, [], length}
use Rattle.std.specs.FinMap.{empty, entries}
use Rattle.im_base_types.specs.Changes.{apply_all}
use Rattle.im_base_types.specs.Pages.{Entry}
use Rattle.im_base_types.specs.declared.file_id.FileId.TheVariants.{Pages}
use Rattle.im_base_disk.specs.Disk.{Files}
use Rattle.im_load.specs.Loaded.{effects_of}
use Rattle.im_engine.specs.Stands.{StandsFor, SpellsCurrent}
use Rattle.im_load.specs.Files.{AreHalf, AreOfLoad, AreLeft}

-- Files that are no store, or stand for nothing yet, or for these entries as one effect.
abbrev pub IsStoreOrNone : List Entry → Files → Type 0
IsStoreOrNone es files = ¬ (SpellsCurrent files) ⊎ StandsFor [] files ⊎ StandsFor (effects_of es) files

pub record LoadsStand : Type 0 where
  -- one effect, its entries; none where there are none
  pub stands : (es : List Entry) (files : Files) → AreOfLoad es files → StandsFor (effects_of es) files
  -- and these are the entries that it makes of an empty index
  pub are : (es : List Entry) (files : Files) → AreOfLoad es files → entries (apply_all empty (effects_of es)) ≡ es
  -- what a stop leaves once pages has a byte: an opening refuses it, and writes nothing
  pub halves : (files : Files) → AreHalf files → 1 ≤ length (files Pages) → ¬ (SpellsCurrent files)
  -- and before that: no store was made yet
  pub bare : (files : Files) → AreHalf files → length (files Pages) ≡ 0 → StandsFor [] files
  -- so a stop at any moment of a load leaves no store, or that
  pub left : (es : List Entry) (files : Files) → AreLeft es files → IsStoreOrNone es files
