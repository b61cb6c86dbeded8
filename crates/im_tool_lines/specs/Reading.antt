-- What is known of a script that was read in part.
use Rattle.std.specs.Prelude.{◌≡◌, ℕ, List, [], ◌∷◌, ◌++◌, map, Option, Some, None}
use Rattle.std.specs.Global.{Vec}
use Rattle.im_base_types.specs.declared.file_id.FileId.{FileId}
use Rattle.im_base_disk.specs.Disk.{Files, both}
use Rattle.im_tool_lines.specs.declared.line.Line.{Line}
use Rattle.im_tool_lines.specs.declared.line.Line.TheVariants as lines
use Rattle.im_tool_lines.specs.declared.raw_line.RawLine.{RawLine}
use Rattle.im_tool_lines.specs.declared.raw_life.RawLife.{RawLife}
use Rattle.im_tool_lines.specs.declared.script_reading.Reading.{Reading}
use Rattle.im_tool_lines.specs.SetFiles.{files_of}
use Rattle.im_tool_lines.specs.Scripts.{Place, Before, Within, Behind, kind_of, MayStand, place_after, line_of, lines_of_lives, set_line, files_set}

-- the lines of the life that is not ended
abbrev pub lines_of_open : Option (Vec RawLine) → List Line
lines_of_open None = []
lines_of_open (Some open_lines) = lines.Raw ∷ map line_of open_lines.items

-- where the next line stands
abbrev pub next_place : List RawLife → Option (Vec RawLine) → Place
next_place lives (Some open_lines) = Within
next_place [] None = Before
next_place (life ∷ rest) None = Behind

-- These lines were read: what they set, the lives that they ended and the one that they did not.
pub record IsRead (files : Files) (lives : List RawLife) (life : Option (Vec RawLine)) (said : List Line) : Type 0 where
  pub sets : List (FileId × Vec ℕ)
  pub is : said ≡ map set_line sets ++ (lines_of_lives lives ++ lines_of_open life)
  pub files_are : files ≡ files_set (both [] []) sets
  pub stand : MayStand Before (map kind_of said)
  pub place : place_after Before (map kind_of said) ≡ next_place lives life

abbrev pub IsReading : Reading → List Line → Type 0
IsReading reading said = IsRead (files_of reading.files) reading.lives.items reading.life said
