-- Where lines may stand, by their kinds.
use Rattle.std.proofs.Common.{◌≡◌, ℕ, List, [], ◌∷◌, ◌++◌, Vec, Global, refl}
use Rattle.im_base_types.specs.declared.file_id.FileId.{FileId}
use Rattle.im_base_disk.specs.Disk.{Files}
use Rattle.im_tool_lines.specs.Scripts.{Kind, Place, MayFollow, MayStand, place_behind, place_after, with_file, files_set}

pub stand_push : (p : Place) (ks : List Kind) (k : Kind) → MayStand p ks → MayFollow k (place_after p ks) → MayStand p (ks ++ k ∷ [])
stand_push p [] k s f = (f, tt)
stand_push p (j ∷ ks) k s f = (s.0, stand_push (place_behind j p) ks k s.1 f)

pub stand_last : (p : Place) (ks : List Kind) (k : Kind) → MayStand p (ks ++ k ∷ []) → MayFollow k (place_after p ks)
stand_last p [] k s = s.0
stand_last p (j ∷ ks) k s = stand_last (place_behind j p) ks k s.1

pub place_push : (p : Place) (ks : List Kind) (k : Kind) → place_after p (ks ++ k ∷ []) ≡ place_behind k (place_after p ks)
place_push p [] k = refl
place_push p (j ∷ ks) k = place_push (place_behind j p) ks k

-- one line more that sets a file
pub sets_push : (files : Files) (sets : List (FileId × Vec ℕ Global)) (set : FileId × Vec ℕ Global) → files_set files (sets ++ set ∷ []) ≡ with_file set.0 set.1.items (files_set files sets)
sets_push files [] set = refl
sets_push files (a ∷ sets) set = sets_push (with_file a.0 a.1.items files) sets set
