-- Which lines may stand where in a script, and what script they make.
use Rattle.std.specs.Prelude.{◌≡◌, ℕ, ◌+◌, ◌==◌, if◌then◌else◌, List, [], ◌∷◌, ◌++◌, length, map, Option, Some, None}
use Rattle.std.specs.Global.{Vec}
use Rattle.im_base_types.specs.declared.file_id.FileId.{FileId}
use Rattle.im_base_types.specs.declared.file_id.FileId.TheVariants.{Log, Pages, Log2}
use Rattle.im_base_disk.specs.Disk.{Files, both, three}
use Rattle.im_base_model_disk.specs.declared.stop.Stop.{Stop}
use Rattle.im_tool_lines.specs.declared.line.Line.{Line}
use Rattle.im_tool_lines.specs.declared.line.Line.TheVariants as lines
use Rattle.im_tool_lines.specs.declared.raw_line.RawLine.{RawLine}
use Rattle.im_tool_lines.specs.declared.raw_line.RawLine.TheVariants as raws
use Rattle.im_tool_lines.specs.declared.raw_life.RawLife.{RawLife}
use Rattle.im_tool_lines.specs.declared.script.Script.{Script}
use Rattle.im_tool_lines.specs.Lines.{SpellsLine}

-- this byte in front of the first line
abbrev pub before_first_line : ℕ → List (List ℕ) → List (List ℕ)
before_first_line b [] = (b ∷ []) ∷ []
before_first_line b (line ∷ others) = (b ∷ line) ∷ others

-- The lines of a text, cut at newlines: one more than it has newlines.
abbrev pub lines_of : List ℕ → List (List ℕ)
lines_of [] = [] ∷ []
lines_of (b ∷ rest) = if b == 10 then [] ∷ lines_of rest else before_first_line b (lines_of rest)

-- The lines of a text say these, one for one, where a line says what it spells. An empty line says nothing.
abbrev pub SaysBy : {L : Type 0} → (List ℕ → L → Type 0) → List (List ℕ) → List L → Type 0
SaysBy spells [] [] = Unit {0}
SaysBy spells [] (line ∷ said) = ⊥
SaysBy spells ([] ∷ texts) said = SaysBy spells texts said
SaysBy spells ((b ∷ text) ∷ texts) [] = ⊥
SaysBy spells ((b ∷ text) ∷ texts) (line ∷ said) = spells (b ∷ text) line × SaysBy spells texts said

-- what kind of line it is, whatever it carries
pub data Kind : Type 0 where
  Sets : Kind
  Begins : Kind
  Puts : Kind
  Counts : Kind
  Steps : Kind
  Stops : Kind

abbrev pub kind_of : Line → Kind
kind_of lines.Raw = Begins
kind_of (lines.Set file bytes) = Sets
kind_of (lines.Put batch) = Puts
kind_of lines.Calls = Counts
kind_of (lines.Stop stop) = Stops

-- where a line stands: before the first life, within a life, or after one that was stopped
pub data Place : Type 0 where
  Before : Place
  Within : Place
  Behind : Place

-- `set` stands before the first life, `raw` or `life` anywhere, and `put`, `calls`, steps and `stop` within a life.
abbrev pub MayFollow : Kind → Place → Type 0
MayFollow Begins place = Unit {0}
MayFollow Sets Before = Unit {0}
MayFollow Sets Within = ⊥
MayFollow Sets Behind = ⊥
MayFollow Puts Before = ⊥
MayFollow Puts Within = Unit {0}
MayFollow Puts Behind = ⊥
MayFollow Counts Before = ⊥
MayFollow Counts Within = Unit {0}
MayFollow Counts Behind = ⊥
MayFollow Steps Before = ⊥
MayFollow Steps Within = Unit {0}
MayFollow Steps Behind = ⊥
MayFollow Stops Before = ⊥
MayFollow Stops Within = Unit {0}
MayFollow Stops Behind = ⊥

-- a `raw` or `life` line begins a life, and a `stop` line ends it
abbrev pub place_behind : Kind → Place → Place
place_behind Begins place = Within
place_behind Stops place = Behind
place_behind Sets place = place
place_behind Puts place = place
place_behind Counts place = place
place_behind Steps place = place

abbrev pub place_after : Place → List Kind → Place
place_after place [] = place
place_after place (kind ∷ kinds) = place_after (place_behind kind place) kinds

-- each line may stand where it stands, the first at this place
abbrev pub MayStand : Place → List Kind → Type 0
MayStand place [] = Unit {0}
MayStand place (kind ∷ kinds) = MayFollow kind place × MayStand (place_behind kind place) kinds

-- the line of a script for a line of a life
abbrev pub line_of : RawLine → Line
line_of (raws.Put batch) = lines.Put batch
line_of raws.Calls = lines.Calls

abbrev pub stop_lines : Option Stop → List Line
stop_lines None = []
stop_lines (Some stop) = lines.Stop stop ∷ []

-- The lines of lives: of each `raw`, then its lines, then its stop.
abbrev pub lines_of_lives : List RawLife → List Line
lines_of_lives [] = []
lines_of_lives (life ∷ rest) = lines.Raw ∷ (map line_of life.lines.items ++ stop_lines life.stop) ++ lines_of_lives rest

-- a line that sets a file's bytes
abbrev pub set_line : FileId × Vec ℕ → Line
set_line set = lines.Set set.0 set.1

-- the files with other bytes of one of them
abbrev pub with_file : FileId → List ℕ → Files → Files
with_file Log bytes files = three bytes (files Pages) (files Log2)
with_file Pages bytes files = three (files Log) bytes (files Log2)
with_file Log2 bytes files = three (files Log) (files Pages) bytes

-- the files after the lines that set them, in order
abbrev pub files_set : Files → List (FileId × Vec ℕ) → Files
files_set files [] = files
files_set files (set ∷ rest) = files_set (with_file set.0 set.1.items files) rest

-- The script of these lines: its files are what was set last, empty where nothing was, and its lives are those of the other lines, in order.
pub record IsScriptOf (script : Script) (said : List Line) : Type 0 where
  pub sets : List (FileId × Vec ℕ)
  pub is : said ≡ map set_line sets ++ lines_of_lives script.lives.items
  pub files : three script.log.items script.pages.items script.log2.items ≡ files_set (both [] []) sets

-- lines of a text that are spelled as the grammar says and may stand in this order
abbrev pub IsGoodBy : {L : Type 0} → (List ℕ → L → Type 0) → (L → Kind) → List (List ℕ) → Type 0
IsGoodBy {L} spells kind texts = (said : List L) × SaysBy spells texts said × MayStand Before (map kind said)

-- The line of this number, counted from 1, is the first that is bad: the lines in front of it are good, and with it they are not.
pub record IsFirstBadBy {L : Type 0} (spells : List ℕ → L → Type 0) (kind : L → Kind) (texts : List (List ℕ)) (number : ℕ) : Type 0 where
  pub front : List (List ℕ)
  pub line : List ℕ
  pub rest : List (List ℕ)
  pub is : texts ≡ front ++ line ∷ rest
  pub counted : number ≡ length front + 1
  pub good : IsGoodBy spells kind front
  pub bad : ¬ (IsGoodBy spells kind (front ++ line ∷ []))

-- The script that the lines of a text make.
abbrev pub IsScript : List (List ℕ) → Script → Type 0
IsScript texts script = (said : List Line) × SaysBy SpellsLine texts said × MayStand Before (map kind_of said) × IsScriptOf script said

-- The line of this number is the first that is bad.
abbrev pub IsFirstBad : List (List ℕ) → ℕ → Type 0
IsFirstBad texts number = IsFirstBadBy SpellsLine kind_of texts number
