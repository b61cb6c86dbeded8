-- The lines of scripts of lives of a store, and what script they make.
use Rattle.std.specs.Prelude.{◌≡◌, ◌≢◌, ◌⊎◌, ℕ, Bool, true, false, List, [], ◌∷◌, ◌++◌, map, codes, Option, Some, None}
use Rattle.std.specs.Global.{Vec}
use Rattle.im_base_types.specs.declared.file_id.FileId.{FileId}
use Rattle.im_base_disk.specs.Disk.{both, three}
use Rattle.im_base_model_disk.specs.declared.stop.Stop.{Stop}
use Rattle.im_tool_lines.specs.declared.line.Line.TheVariants as raws
use Rattle.im_tool_lines.specs.declared.store_script_line.StoreScriptLine.{StoreScriptLine}
use Rattle.im_tool_lines.specs.declared.store_script_line.StoreScriptLine.TheVariants as lines
use Rattle.im_tool_lines.specs.declared.store_life.StoreLine.TheVariants as within
use Rattle.im_tool_lines.specs.declared.store_life.StoreLife.{StoreLife}
use Rattle.im_tool_lines.specs.declared.store_life.LifeOptions.{LifeOptions}
use Rattle.im_tool_lines.specs.declared.store_script.StoreScript.{StoreScript}
use Rattle.im_tool_words.specs.Words.{LacksByte, IsNumber, IsPageNumber}
use Rattle.im_tool_lines.specs.Lines.{SpellsLine}
use Rattle.im_tool_words.specs.Steps.{SpellsStep}
use Rattle.im_tool_lines.specs.Scripts.{Kind, Sets, Begins, Counts, Steps, Stops, Before, MayStand, SaysBy, IsFirstBadBy, files_set}

-- What an option of a life says: a number, unless it is left out, or by a word alone that it stands there.
pub data OptionSaid : Type 0 where
  Number : Option ℕ → OptionSaid
  Word : Bool → OptionSaid

-- An option of a life: nothing, where it is left out, or a space and its name, and after it, where it has one, a space and its number.
abbrev pub SpellsOption : List ℕ → List ℕ → OptionSaid → Type 0
SpellsOption name text (Number None) = text ≡ []
SpellsOption name text (Number (Some n)) = (word : List ℕ) × (text ≡ 32 ∷ (name ++ 32 ∷ word)) × IsNumber word n
SpellsOption name text (Word false) = text ≡ []
SpellsOption name text (Word true) = text ≡ 32 ∷ name

-- nothing, or a space and more
abbrev pub IsTail : List ℕ → Type 0
IsTail text = (text ≡ []) ⊎ ((rest : List ℕ) × (text ≡ 32 ∷ rest))

-- What may stand after an option of this name: nothing, or what begins with another name.
abbrev pub IsBehindOption : List ℕ → List ℕ → Type 0
IsBehindOption name text = (text ≡ []) ⊎ ((other : List ℕ) × (rest : List ℕ) × (text ≡ 32 ∷ (other ++ rest)) × IsTail rest × LacksByte 32 other × (other ≢ name))

-- The text begins with this option, and this is left after it.
pub record IsOption (name text : List ℕ) (option : OptionSaid) (left : List ℕ) : Type 0 where
  pub front : List ℕ
  pub is : text ≡ front ++ left
  pub spelled : SpellsOption name front option

-- Options of these names, in this order.
abbrev pub SpellsOptions : List (List ℕ × OptionSaid) → List ℕ → Type 0
SpellsOptions [] text = text ≡ []
SpellsOptions (option ∷ more) text = (left : List ℕ) × IsOption option.0 text option.1 left × SpellsOptions more left

-- The options of a life in their order, each by its name: the number of frames, the most pages, the device call and the read that fail, whether structure changes are made page by page, whether Commits wait for a force, whether splits are dense, and the number of workers.
abbrev pub named_options : LifeOptions → List (List ℕ × OptionSaid)
named_options o =
    (codes "frames", Number o.frames) ∷ (codes "max", Number o.max_pages) ∷ (codes "fail", Number o.failing_call) ∷ (codes "failread", Number o.failing_read) ∷ (codes "stepped", Word o.stepped) ∷ (codes "group", Word o.group) ∷ (codes "dense", Word o.dense) ∷ (codes "workers", Number o.workers) ∷ []

-- `life`, and then its options.
abbrev pub SpellsLife : List ℕ → LifeOptions → Type 0
SpellsLife text options = (words : List ℕ) × (text ≡ codes "life" ++ words) × SpellsOptions (named_options options) words

-- The bytes of a line that says this.
abbrev pub SpellsStore : List ℕ → StoreScriptLine → Type 0
SpellsStore text (lines.Life options) = SpellsLife text options
SpellsStore text (lines.Set file bytes) = SpellsLine text (raws.Set file bytes)
SpellsStore text (lines.Within within.Calls) = SpellsLine text raws.Calls
SpellsStore text (lines.Within (within.Page page)) = (rest : List ℕ) × (text ≡ codes "page " ++ rest) × IsPageNumber rest page
SpellsStore text (lines.Within within.Redo) = text ≡ codes "redo"
SpellsStore text (lines.Within within.Log) = text ≡ codes "log"
SpellsStore text (lines.Within (within.Changes t)) = (rest : List ℕ) × (text ≡ codes "changes " ++ rest) × IsNumber rest t
SpellsStore text (lines.Within (within.Step step)) = SpellsStep text step
SpellsStore text (lines.Stop stop) = SpellsLine text (raws.Stop stop)

-- a line that is none of `life`, `page`, `redo`, `log` and `changes`
abbrev pub IsPlainLine : StoreScriptLine → Type 0
IsPlainLine (lines.Life options) = ⊥
IsPlainLine (lines.Within (within.Page page)) = ⊥
IsPlainLine (lines.Within within.Redo) = ⊥
IsPlainLine (lines.Within within.Log) = ⊥
IsPlainLine (lines.Within (within.Changes t)) = ⊥
IsPlainLine _ = Unit {0}

-- `life` begins a life as `raw` does, and a step stands where a put does.
abbrev pub store_kind_of : StoreScriptLine → Kind
store_kind_of (lines.Life options) = Begins
store_kind_of (lines.Set file bytes) = Sets
store_kind_of (lines.Within within.Calls) = Counts
store_kind_of (lines.Within (within.Page page)) = Counts
store_kind_of (lines.Within within.Redo) = Counts
store_kind_of (lines.Within within.Log) = Counts
store_kind_of (lines.Within (within.Changes t)) = Counts
store_kind_of (lines.Within (within.Step step)) = Steps
store_kind_of (lines.Stop stop) = Stops

abbrev pub stop_lines : Option Stop → List StoreScriptLine
stop_lines None = []
stop_lines (Some stop) = lines.Stop stop ∷ []

-- The lines of lives: of each `life`, then its lines, then its stop.
abbrev pub lines_of_lives : List StoreLife → List StoreScriptLine
lines_of_lives [] = []
lines_of_lives (life ∷ rest) = lines.Life life.options ∷ (map lines.Within life.lines.items ++ stop_lines life.stop) ++ lines_of_lives rest

-- a line that sets a file's bytes
abbrev pub set_store_line : FileId × Vec ℕ → StoreScriptLine
set_store_line set = lines.Set set.0 set.1

-- The script of these lines: its files are what was set last, empty where nothing was, and its lives are those of the other lines, in order.
pub record IsStoreScriptOf (script : StoreScript) (said : List StoreScriptLine) : Type 0 where
  pub sets : List (FileId × Vec ℕ)
  pub is : said ≡ map set_store_line sets ++ lines_of_lives script.lives.items
  pub files : three script.log.items script.pages.items script.log2.items ≡ files_set (both [] []) sets

-- The script that the lines of a text make.
abbrev pub IsStoreScript : List (List ℕ) → StoreScript → Type 0
IsStoreScript texts script = (said : List StoreScriptLine) × SaysBy SpellsStore texts said × MayStand Before (map store_kind_of said) × IsStoreScriptOf script said

-- The line of this number is the first that is bad.
abbrev pub IsFirstBadOfStore : List (List ℕ) → ℕ → Type 0
IsFirstBadOfStore texts number = IsFirstBadBy SpellsStore store_kind_of texts number

-- the line is `life`, or begins with that word
abbrev pub BeginsLife : List ℕ → Type 0
BeginsLife line = (line ≡ codes "life") ⊎ ((more : List ℕ) × (line ≡ codes "life " ++ more))

-- none of the lines begins a life of a store
abbrev pub NoLife : List (List ℕ) → Type 0
NoLife [] = Unit {0}
NoLife (line ∷ rest) = (BeginsLife line → ⊥) × NoLife rest

-- A text of lives over gates alone: a `raw` line stands in it, and no `life` line in front of that.
pub record IsRaw (texts : List (List ℕ)) : Type 0 where
  pub front : List (List ℕ)
  pub rest : List (List ℕ)
  pub is : texts ≡ front ++ codes "raw" ∷ rest
  pub lives : NoLife front
