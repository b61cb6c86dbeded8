-- A script that is read line by line.
use Rattle.std.proofs.Common.{◌≡◌, ℕ, List, [], ◌∷◌, ◌++◌, map, Option, Some, None, Vec, Global, refl, sym, ◌∙◌, ap, subst, append_assoc}
use Rattle.std.proofs.lemmas.List.{append-nil, map-append}
use Rattle.im_base_types.specs.declared.file_id.FileId.{FileId}
use Rattle.im_base_disk.specs.Disk.{Files, both, three}
use Rattle.im_base_model_disk.specs.declared.stop.Stop.{Stop}
use Rattle.im_tool_lines.specs.declared.line.Line.{Line}
use Rattle.im_tool_lines.specs.declared.line.Line.TheVariants as lines
use Rattle.im_tool_lines.specs.declared.raw_line.RawLine.{RawLine}
use Rattle.im_tool_lines.specs.declared.raw_line.RawLine.TheVariants as raws
use Rattle.im_tool_lines.specs.declared.raw_life.RawLife.{RawLife}
use Rattle.im_tool_lines.specs.declared.script.Script.{Script}
use Rattle.im_tool_lines.specs.Scripts.{Kind, Place, Before, Within, Behind, kind_of, MayFollow, MayStand, place_behind, place_after, line_of, stop_lines, lines_of_lives, set_line, with_file, files_set, IsScriptOf}
use Rattle.im_tool_lines.proofs.Standing.{stand_push, place_push, sets_push}
use Rattle.im_tool_lines.specs.Reading.{lines_of_open, next_place, IsRead}

kinds_push : (said : List Line) (l : Line) → map kind_of (said ++ l ∷ []) ≡ map kind_of said ++ kind_of l ∷ []
kinds_push said l = map-append kind_of said (l ∷ [])

module _ (files : Files) (lives : List RawLife) (life : Option (Vec RawLine Global)) (said : List Line) (r : IsRead files lives life said) where
  -- one line more, of which it is known what it makes
  push_read : (files' : Files) (lives' : List RawLife) (life' : Option (Vec RawLine Global)) (l : Line) (sets' : List (FileId × Vec ℕ Global)) → said ++ l ∷ [] ≡ map set_line sets' ++ (lines_of_lives lives' ++ lines_of_open life') → files' ≡ files_set (both [] []) sets'
      → MayFollow (kind_of l) (next_place lives life) → place_behind (kind_of l) (next_place lives life) ≡ next_place lives' life' → IsRead files' lives' life' (said ++ l ∷ [])
  push_read files' lives' life' l sets' is last may next = record {
    sets = sets';
    is = is;
    files_are = last;
    stand = subst (λ (ks : List Kind). MayStand Before ks) (sym (kinds_push said l)) (stand_push Before (map kind_of said) (kind_of l) r.stand (subst (λ (p : Place). MayFollow (kind_of l) p) (sym r.place) may));
    place = ap (λ (ks : List Kind). place_after Before ks) (kinds_push said l) ∙ place_push Before (map kind_of said) (kind_of l) ∙ ap (λ (p : Place). place_behind (kind_of l) p) r.place ∙ next;
  }

  more_read : (lives' : List RawLife) (life' : Option (Vec RawLine Global)) (l : Line) → lines_of_lives lives' ++ lines_of_open life' ≡ (lines_of_lives lives ++ lines_of_open life) ++ l ∷ []
      → MayFollow (kind_of l) (next_place lives life) → place_behind (kind_of l) (next_place lives life) ≡ next_place lives' life' → IsRead files lives' life' (said ++ l ∷ [])
  more_read lives' life' l same may next =
      push_read files lives' life' l r.sets
      (ap (λ (x : List Line). x ++ l ∷ []) r.is ∙ append_assoc (map set_line r.sets) (lines_of_lives lives ++ lines_of_open life) (l ∷ []) ∙ ap (λ (x : List Line). map set_line r.sets ++ x) (sym same)) r.files_are may next

-- no line was read
pub none_read : (files : Files) (lives : List RawLife) → files ≡ both [] [] → lives ≡ [] → IsRead files lives None []
none_read files [] same none = record { sets = []; is = refl; files_are = same; stand = tt; place = refl }
none_read files (one ∷ lives) same none = absurd (cc)

-- a line that sets a file
pub set_read : (files : Files) (lives : List RawLife) (life : Option (Vec RawLine Global)) (said : List Line) (file : FileId) (bytes : Vec ℕ Global) → IsRead files lives life said → lives ≡ [] → life ≡ None → IsRead (with_file file bytes.items files) lives life (said ++ lines.Set file bytes ∷ [])
set_read files [] None said file bytes r none closed =
    push_read files [] None said r (with_file file bytes.items files) [] None (lines.Set file bytes) (r.sets ++ (file, bytes) ∷ [])
    (ap (λ (x : List Line). x ++ lines.Set file bytes ∷ []) (r.is ∙ append-nil (map set_line r.sets)) ∙ sym (map-append set_line r.sets ((file, bytes) ∷ [])) ∙ sym (append-nil (map set_line (r.sets ++ (file, bytes) ∷ []))))
    (ap (λ (f : Files). with_file file bytes.items f) r.files_are ∙ sym (sets_push (both [] []) r.sets (file, bytes))) tt refl
set_read files [] (Some v) said file bytes r none closed = absurd (cc)
set_read files (one ∷ lives) None said file bytes r none closed = absurd (cc)
set_read files (one ∷ lives) (Some v) said file bytes r none closed = absurd (cc)

lives_more : (lives : List RawLife) (life : RawLife) → lines_of_lives (lives ++ life ∷ []) ≡ lines_of_lives lives ++ (lines.Raw ∷ (map line_of life.lines.items ++ stop_lines life.stop))
lives_more [] life = append-nil (lines.Raw ∷ (map line_of life.lines.items ++ stop_lines life.stop))
lives_more (one ∷ lives) life =
    ap (λ (x : List Line). (lines.Raw ∷ (map line_of one.lines.items ++ stop_lines one.stop)) ++ x) (lives_more lives life)
    ∙ sym (append_assoc (lines.Raw ∷ (map line_of one.lines.items ++ stop_lines one.stop)) (lines_of_lives lives) (lines.Raw ∷ (map line_of life.lines.items ++ stop_lines life.stop)))

behind_life : (lives : List RawLife) (life : RawLife) → Behind ≡ next_place (lives ++ life ∷ []) None
behind_life [] life = refl
behind_life (one ∷ lives) life = refl

-- a life that ends without a stop
closed : (lives : List RawLife) (old : Vec RawLine Global) → lines_of_lives (lives ++ record { lines = old; stop = None } ∷ []) ≡ lines_of_lives lives ++ (lines.Raw ∷ map line_of old.items)
closed lives old = lives_more lives (record { lines = old; stop = None }) ∙ ap (λ (x : List Line). lines_of_lives lives ++ (lines.Raw ∷ x)) (append-nil (map line_of old.items))

-- a `raw` line
pub begin_read : (files : Files) (lives : List RawLife) (said : List Line) (v : Vec RawLine Global) → IsRead files lives None said → v.items ≡ [] → IsRead files lives (Some v) (said ++ lines.Raw ∷ [])
begin_read files lives said v r empty =
    more_read files lives None said r lives (Some v) lines.Raw
    (ap (λ (x : List RawLine). lines_of_lives lives ++ (lines.Raw ∷ map line_of x)) empty ∙ ap (λ (x : List Line). x ++ lines.Raw ∷ []) (sym (append-nil (lines_of_lives lives)))) tt refl

pub begin_more : (files : Files) (lives : List RawLife) (old v : Vec RawLine Global) (said : List Line) (lives' : List RawLife) → IsRead files lives (Some old) said → lives' ≡ lives ++ record { lines = old; stop = None } ∷ [] → v.items ≡ []
    → IsRead files lives' (Some v) (said ++ lines.Raw ∷ [])
begin_more files lives old v said lives' r is empty =
    more_read files lives (Some old) said r lives' (Some v) lines.Raw
    (ap (λ (x : List RawLine). lines_of_lives lives' ++ (lines.Raw ∷ map line_of x)) empty ∙ ap (λ (x : List RawLife). lines_of_lives x ++ lines.Raw ∷ []) is ∙ ap (λ (x : List Line). x ++ lines.Raw ∷ []) (closed lives old)) tt refl

may_within : (line : RawLine) → MayFollow (kind_of (line_of line)) Within
may_within (raws.Put batch) = tt
may_within raws.Calls = tt

still_within : (line : RawLine) → place_behind (kind_of (line_of line)) Within ≡ Within
still_within (raws.Put batch) = refl
still_within raws.Calls = refl

-- a line of a life
pub add_read : (files : Files) (lives : List RawLife) (old v : Vec RawLine Global) (said : List Line) (line : RawLine) → IsRead files lives (Some old) said → v.items ≡ old.items ++ line ∷ [] → IsRead files lives (Some v) (said ++ line_of line ∷ [])
add_read files lives old v said line r is =
    more_read files lives (Some old) said r lives (Some v) (line_of line)
    (ap (λ (x : List RawLine). lines_of_lives lives ++ (lines.Raw ∷ map line_of x)) is ∙ ap (λ (x : List Line). lines_of_lives lives ++ (lines.Raw ∷ x)) (map-append line_of old.items (line ∷ []))
    ∙ sym (append_assoc (lines_of_lives lives) (lines.Raw ∷ map line_of old.items) (line_of line ∷ [])))
    (may_within line) (still_within line)

-- a stop
pub stop_read : (files : Files) (lives : List RawLife) (old : Vec RawLine Global) (said : List Line) (stop : Stop) (lives' : List RawLife) → IsRead files lives (Some old) said → lives' ≡ lives ++ record { lines = old; stop = Some stop } ∷ []
    → IsRead files lives' None (said ++ lines.Stop stop ∷ [])
stop_read files lives old said stop lives' r is =
    let life : RawLife = record { lines = old; stop = Some stop } in
    more_read files lives (Some old) said r lives' None (lines.Stop stop)
    (append-nil (lines_of_lives lives') ∙ ap lines_of_lives is ∙ lives_more lives life ∙ sym (append_assoc (lines_of_lives lives) (lines.Raw ∷ map line_of old.items) (lines.Stop stop ∷ [])))
    tt (behind_life lives life ∙ ap (λ (x : List RawLife). next_place x None) (sym is))

-- what was read is a script
pub end_read : (script : Script) (said : List Line) → IsRead (three script.log.items script.pages.items script.log2.items) script.lives.items None said → IsScriptOf script said × MayStand Before (map kind_of said)
end_read script said r = (
  record {
    sets = r.sets;
    is = r.is ∙ ap (λ (x : List Line). map set_line r.sets ++ x) (append-nil (lines_of_lives script.lives.items));
    files = r.files_are;
  },
  r.stand,
)

pub end_more : (script : Script) (files : Files) (lives : List RawLife) (old : Vec RawLine Global) (said : List Line) → three script.log.items script.pages.items script.log2.items ≡ files → script.lives.items ≡ lives ++ record { lines = old; stop = None } ∷ [] → IsRead files lives (Some old) said
    → IsScriptOf script said × MayStand Before (map kind_of said)
end_more script files lives old said same is r = (
  record {
    sets = r.sets;
    is = r.is ∙ ap (λ (x : List Line). map set_line r.sets ++ x) (sym (closed lives old) ∙ ap lines_of_lives (sym is));
    files = same ∙ r.files_are;
  },
  r.stand,
)
