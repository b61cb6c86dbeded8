-- What is known of a script of lives of a store that was read in part.
use Rattle.std.specs.Prelude.{◌≡◌, ℕ, List, [], ◌∷◌, ◌++◌, map, Option, Some, None}
use Rattle.std.specs.Global.{Vec}
use Rattle.im_base_types.specs.declared.file_id.FileId.{FileId}
use Rattle.im_base_disk.specs.Disk.{Files, both}
use Rattle.im_tool_lines.specs.declared.store_script_line.StoreScriptLine.{StoreScriptLine}
use Rattle.im_tool_lines.specs.declared.store_script_line.StoreScriptLine.TheVariants as lines
use Rattle.im_tool_lines.specs.declared.store_life.StoreLife.{StoreLife}
use Rattle.im_tool_lines.specs.declared.store_reading.StoreReading.{StoreReading}
use Rattle.im_tool_lines.specs.declared.store_reading.OpenLife.{OpenLife}
use Rattle.im_tool_lines.specs.SetFiles.{files_of}
use Rattle.im_tool_lines.specs.Scripts.{Place, Before, Within, Behind, MayStand, place_after, files_set}
use Rattle.im_tool_lines.specs.StoreScripts.{store_kind_of, lines_of_lives, set_store_line}

-- the lines of the life that is not ended
abbrev pub lines_of_open : Option OpenLife → List StoreScriptLine
lines_of_open None = []
lines_of_open (Some life) = lines.Life life.options ∷ map lines.Within life.lines.items

-- where the next line stands
abbrev pub next_place : List StoreLife → Option OpenLife → Place
next_place lives (Some life) = Within
next_place [] None = Before
next_place (life ∷ rest) None = Behind

-- These lines were read: what they set, the lives that they ended and the one that they did not.
pub record IsStoreRead (files : Files) (lives : List StoreLife) (life : Option OpenLife) (said : List StoreScriptLine) : Type 0 where
  pub sets : List (FileId × Vec ℕ)
  pub is : said ≡ map set_store_line sets ++ (lines_of_lives lives ++ lines_of_open life)
  pub files_are : files ≡ files_set (both [] []) sets
  pub stand : MayStand Before (map store_kind_of said)
  pub place : place_after Before (map store_kind_of said) ≡ next_place lives life

abbrev pub IsStoreReading : StoreReading → List StoreScriptLine → Type 0
IsStoreReading reading said = IsStoreRead (files_of reading.files) reading.lives.items reading.life said
