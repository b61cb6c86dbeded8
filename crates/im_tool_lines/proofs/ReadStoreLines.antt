-- A script of lives of a store that is read line by line.
use Rattle.std.proofs.Common.{◌≡◌, ℕ, List, [], ◌∷◌, ◌++◌, map, Option, Some, None, Vec, Global, refl, sym, ◌∙◌, ap, subst, append_assoc}
use Rattle.std.proofs.lemmas.List.{append-nil, map-append}
use Rattle.im_base_types.specs.declared.file_id.FileId.{FileId}
use Rattle.im_base_disk.specs.Disk.{Files, both, three}
use Rattle.im_base_model_disk.specs.declared.stop.Stop.{Stop}
use Rattle.im_tool_lines.specs.declared.store_script_line.StoreScriptLine.{StoreScriptLine}
use Rattle.im_tool_lines.specs.declared.store_script_line.StoreScriptLine.TheVariants as lines
use Rattle.im_tool_lines.specs.declared.store_life.StoreLine.{StoreLine}
use Rattle.im_tool_lines.specs.declared.store_life.StoreLine.TheVariants as within
use Rattle.im_tool_lines.specs.declared.store_life.StoreLife.{StoreLife}
use Rattle.im_tool_lines.specs.declared.store_life.LifeOptions.{LifeOptions}
use Rattle.im_tool_lines.specs.declared.store_reading.OpenLife.{OpenLife}
use Rattle.im_tool_lines.specs.declared.store_script.StoreScript.{StoreScript}
use Rattle.im_tool_lines.specs.Scripts.{Kind, Place, Before, Within, Behind, MayFollow, MayStand, place_behind, place_after, with_file, files_set}
use Rattle.im_tool_lines.specs.StoreScripts.{store_kind_of, stop_lines, lines_of_lives, set_store_line, IsStoreScriptOf}
use Rattle.im_tool_lines.proofs.Standing.{stand_push, place_push, sets_push}
use Rattle.im_tool_lines.specs.StoreReading.{lines_of_open, next_place, IsStoreRead}

kinds_push : (said : List StoreScriptLine) (l : StoreScriptLine) → map store_kind_of (said ++ l ∷ []) ≡ map store_kind_of said ++ store_kind_of l ∷ []
kinds_push said l = map-append store_kind_of said (l ∷ [])

module _ (files : Files) (lives : List StoreLife) (life : Option OpenLife) (said : List StoreScriptLine) (r : IsStoreRead files lives life said) where
  -- one line more, of which it is known what it makes
  push_read : (files' : Files) (lives' : List StoreLife) (life' : Option OpenLife) (l : StoreScriptLine) (sets' : List (FileId × Vec ℕ Global)) → said ++ l ∷ [] ≡ map set_store_line sets' ++ (lines_of_lives lives' ++ lines_of_open life') → files' ≡ files_set (both [] []) sets'
      → MayFollow (store_kind_of l) (next_place lives life) → place_behind (store_kind_of l) (next_place lives life) ≡ next_place lives' life' → IsStoreRead files' lives' life' (said ++ l ∷ [])
  push_read files' lives' life' l sets' is last may next = record {
    sets = sets';
    is = is;
    files_are = last;
    stand = subst (λ (ks : List Kind). MayStand Before ks) (sym (kinds_push said l)) (stand_push Before (map store_kind_of said) (store_kind_of l) r.stand (subst (λ (p : Place). MayFollow (store_kind_of l) p) (sym r.place) may));
    place = ap (λ (ks : List Kind). place_after Before ks) (kinds_push said l) ∙ place_push Before (map store_kind_of said) (store_kind_of l) ∙ ap (λ (p : Place). place_behind (store_kind_of l) p) r.place ∙ next;
  }

  more_read : (lives' : List StoreLife) (life' : Option OpenLife) (l : StoreScriptLine) → lines_of_lives lives' ++ lines_of_open life' ≡ (lines_of_lives lives ++ lines_of_open life) ++ l ∷ []
      → MayFollow (store_kind_of l) (next_place lives life) → place_behind (store_kind_of l) (next_place lives life) ≡ next_place lives' life' → IsStoreRead files lives' life' (said ++ l ∷ [])
  more_read lives' life' l same may next =
      push_read files lives' life' l r.sets
      (ap (λ (x : List StoreScriptLine). x ++ l ∷ []) r.is ∙ append_assoc (map set_store_line r.sets) (lines_of_lives lives ++ lines_of_open life) (l ∷ []) ∙ ap (λ (x : List StoreScriptLine). map set_store_line r.sets ++ x) (sym same)) r.files_are may next

-- no line was read
pub none_read : (files : Files) (lives : List StoreLife) → files ≡ both [] [] → lives ≡ [] → IsStoreRead files lives None []
none_read files [] same none = record { sets = []; is = refl; files_are = same; stand = tt; place = refl }
none_read files (one ∷ lives) same none = absurd (cc)

-- a line that sets a file
pub set_read : (files : Files) (lives : List StoreLife) (life : Option OpenLife) (said : List StoreScriptLine) (file : FileId) (bytes : Vec ℕ Global) → IsStoreRead files lives life said → lives ≡ [] → life ≡ None → IsStoreRead (with_file file bytes.items files) lives life (said ++ lines.Set file bytes ∷ [])
set_read files [] None said file bytes r none closed =
    push_read files [] None said r (with_file file bytes.items files) [] None (lines.Set file bytes) (r.sets ++ (file, bytes) ∷ [])
    (ap (λ (x : List StoreScriptLine). x ++ lines.Set file bytes ∷ []) (r.is ∙ append-nil (map set_store_line r.sets)) ∙ sym (map-append set_store_line r.sets ((file, bytes) ∷ [])) ∙ sym (append-nil (map set_store_line (r.sets ++ (file, bytes) ∷ []))))
    (ap (λ (f : Files). with_file file bytes.items f) r.files_are ∙ sym (sets_push (both [] []) r.sets (file, bytes))) tt refl
set_read files [] (Some v) said file bytes r none closed = absurd (cc)
set_read files (one ∷ lives) None said file bytes r none closed = absurd (cc)
set_read files (one ∷ lives) (Some v) said file bytes r none closed = absurd (cc)

lives_more : (lives : List StoreLife) (life : StoreLife) → lines_of_lives (lives ++ life ∷ []) ≡ lines_of_lives lives ++ (lines.Life life.options ∷ (map lines.Within life.lines.items ++ stop_lines life.stop))
lives_more [] life = append-nil (lines.Life life.options ∷ (map lines.Within life.lines.items ++ stop_lines life.stop))
lives_more (one ∷ lives) life =
    ap (λ (x : List StoreScriptLine). (lines.Life one.options ∷ (map lines.Within one.lines.items ++ stop_lines one.stop)) ++ x) (lives_more lives life)
    ∙ sym (append_assoc (lines.Life one.options ∷ (map lines.Within one.lines.items ++ stop_lines one.stop)) (lines_of_lives lives) (lines.Life life.options ∷ (map lines.Within life.lines.items ++ stop_lines life.stop)))

behind_life : (lives : List StoreLife) (life : StoreLife) → Behind ≡ next_place (lives ++ life ∷ []) None
behind_life [] life = refl
behind_life (one ∷ lives) life = refl

-- a life that ends without a stop
closed : (lives : List StoreLife) (old : OpenLife) → lines_of_lives (lives ++ record { options = old.options; lines = old.lines; stop = None } ∷ []) ≡ lines_of_lives lives ++ (lines.Life old.options ∷ map lines.Within old.lines.items)
closed lives old = lives_more lives (record { options = old.options; lines = old.lines; stop = None }) ∙ ap (λ (x : List StoreScriptLine). lines_of_lives lives ++ (lines.Life old.options ∷ x)) (append-nil (map lines.Within old.lines.items))

-- a `life` line
pub begin_read : (files : Files) (lives : List StoreLife) (said : List StoreScriptLine) (v : OpenLife) → IsStoreRead files lives None said → v.lines.items ≡ [] → IsStoreRead files lives (Some v) (said ++ lines.Life v.options ∷ [])
begin_read files lives said v r empty =
    more_read files lives None said r lives (Some v) (lines.Life v.options)
    (ap (λ (x : List StoreLine). lines_of_lives lives ++ (lines.Life v.options ∷ map lines.Within x)) empty ∙ ap (λ (x : List StoreScriptLine). x ++ lines.Life v.options ∷ []) (sym (append-nil (lines_of_lives lives)))) tt refl

pub begin_more : (files : Files) (lives : List StoreLife) (old v : OpenLife) (said : List StoreScriptLine) (lives' : List StoreLife) → IsStoreRead files lives (Some old) said → lives' ≡ lives ++ record { options = old.options; lines = old.lines; stop = None } ∷ [] → v.lines.items ≡ []
    → IsStoreRead files lives' (Some v) (said ++ lines.Life v.options ∷ [])
begin_more files lives old v said lives' r is empty =
    more_read files lives (Some old) said r lives' (Some v) (lines.Life v.options)
    (ap (λ (x : List StoreLine). lines_of_lives lives' ++ (lines.Life v.options ∷ map lines.Within x)) empty ∙ ap (λ (x : List StoreLife). lines_of_lives x ++ lines.Life v.options ∷ []) is ∙ ap (λ (x : List StoreScriptLine). x ++ lines.Life v.options ∷ []) (closed lives old)) tt refl

may_within : (line : StoreLine) → MayFollow (store_kind_of (lines.Within line)) Within
may_within (within.Step step) = tt
may_within within.Calls = tt
may_within (within.Page page) = tt
may_within within.Redo = tt
may_within within.Log = tt
may_within (within.Changes t) = tt

still_within : (line : StoreLine) → place_behind (store_kind_of (lines.Within line)) Within ≡ Within
still_within (within.Step step) = refl
still_within within.Calls = refl
still_within (within.Page page) = refl
still_within within.Redo = refl
still_within within.Log = refl
still_within (within.Changes t) = refl

-- a line of a life
pub add_read : (files : Files) (lives : List StoreLife) (old v : OpenLife) (said : List StoreScriptLine) (line : StoreLine) → IsStoreRead files lives (Some old) said → v.options ≡ old.options → v.lines.items ≡ old.lines.items ++ line ∷ [] → IsStoreRead files lives (Some v) (said ++ lines.Within line ∷ [])
add_read files lives old v said line r same is =
    more_read files lives (Some old) said r lives (Some v) (lines.Within line)
    (ap (λ (o : LifeOptions). lines_of_lives lives ++ (lines.Life o ∷ map lines.Within v.lines.items)) same ∙ ap (λ (x : List StoreLine). lines_of_lives lives ++ (lines.Life old.options ∷ map lines.Within x)) is ∙ ap (λ (x : List StoreScriptLine). lines_of_lives lives ++ (lines.Life old.options ∷ x)) (map-append lines.Within old.lines.items (line ∷ []))
    ∙ sym (append_assoc (lines_of_lives lives) (lines.Life old.options ∷ map lines.Within old.lines.items) (lines.Within line ∷ [])))
    (may_within line) (still_within line)

-- a stop
pub stop_read : (files : Files) (lives : List StoreLife) (old : OpenLife) (said : List StoreScriptLine) (stop : Stop) (lives' : List StoreLife) → IsStoreRead files lives (Some old) said → lives' ≡ lives ++ record { options = old.options; lines = old.lines; stop = Some stop } ∷ []
    → IsStoreRead files lives' None (said ++ lines.Stop stop ∷ [])
stop_read files lives old said stop lives' r is =
    let life : StoreLife = record { options = old.options; lines = old.lines; stop = Some stop } in
    more_read files lives (Some old) said r lives' None (lines.Stop stop)
    (append-nil (lines_of_lives lives') ∙ ap lines_of_lives is ∙ lives_more lives life ∙ sym (append_assoc (lines_of_lives lives) (lines.Life old.options ∷ map lines.Within old.lines.items) (lines.Stop stop ∷ [])))
    tt (behind_life lives life ∙ ap (λ (x : List StoreLife). next_place x None) (sym is))

-- what was read is a script
pub end_read : (script : StoreScript) (said : List StoreScriptLine) → IsStoreRead (three script.log.items script.pages.items script.log2.items) script.lives.items None said → IsStoreScriptOf script said × MayStand Before (map store_kind_of said)
end_read script said r = (
  record {
    sets = r.sets;
    is = r.is ∙ ap (λ (x : List StoreScriptLine). map set_store_line r.sets ++ x) (append-nil (lines_of_lives script.lives.items));
    files = r.files_are;
  },
  r.stand,
)

pub end_more : (script : StoreScript) (files : Files) (lives : List StoreLife) (old : OpenLife) (said : List StoreScriptLine) → three script.log.items script.pages.items script.log2.items ≡ files → script.lives.items ≡ lives ++ record { options = old.options; lines = old.lines; stop = None } ∷ [] → IsStoreRead files lives (Some old) said
    → IsStoreScriptOf script said × MayStand Before (map store_kind_of said)
end_more script files lives old said same is r = (
  record {
    sets = r.sets;
    is = r.is ∙ ap (λ (x : List StoreScriptLine). map set_store_line r.sets ++ x) (sym (closed lives old) ∙ ap lines_of_lives (sym is));
    files = same ∙ r.files_are;
  },
  r.stand,
)
