-- How a loader that has taken what it says is refused an entry.
use Rattle.std.proofs.Common.{◌≤◌, List, length}
use Rattle.im_base_types.specs.Keys.{Key}
use Rattle.im_base_types.specs.Pages.{Entry}
use Rattle.im_base_types.specs.declared.fault.Fault.{Fault}
use Rattle.im_base_types.specs.declared.file_id.FileId.TheVariants.{Pages}
use Rattle.im_base_disk.specs.declared.disk.Disk.{Ghosts}
use Rattle.im_load.specs.Edge.{IsAboveAll}
use Rattle.im_load.specs.declared.loader.Loader.{Loader}
use Rattle.im_load.specs.HasTaken.{HasTaken, IsLoading, LoaderRefuses}
use Rattle.im_load.proofs.Faults.{eased}
use Rattle.im_load.proofs.Lasts.{top_all}

pub loading_refused : {D : Type 0} (d : Ghosts D) (s l : Loader) (disk : D) (key : Key) (f : Fault) → IsAboveAll key s.leaf.1.body.entries → 1 ≤ length key → length key ≤ 255
    → LoaderRefuses l ((es : List Entry) → HasTaken d s disk es → IsAboveAll key es → 1 ≤ length key → length key ≤ 255 → ⊥) f → LoaderRefuses l ((from : D) (es : List Entry) → IsLoading d from s disk es → ⊥) f
loading_refused {D} d s l disk key f top some short =
    eased l ((es : List Entry) → HasTaken d s disk es → IsAboveAll key es → 1 ≤ length key → length key ≤ 255 → ⊥) ((from : D) (es : List Entry) → IsLoading d from s disk es → ⊥) f
    (λ never from es goes. never es goes.taken (top_all s.leaf s.above.items s.count d.tells (d.seen disk Pages) es key goes.taken top) some short)
