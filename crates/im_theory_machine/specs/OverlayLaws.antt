-- What readers' views may read, whatever steps the machine makes beside them.
use Rattle.std.specs.Prelude.{◌≡◌, ℕ, true, false, List, [], ◌∷◌, ◌++◌, map, Option, Some, None}
use Rattle.std.specs.FinMap.{get}
use Rattle.im_base_types.specs.Keys.{Key}
use Rattle.im_base_types.specs.Maps.{IndexMap, Start, Above, is_past, is_below, first, last_below}
use Rattle.im_base_types.specs.Pages.{Entry}
use Rattle.im_base_types.specs.Changes.{Change, Touches}
use Rattle.im_base_types.specs.Answers.{Access, Step, Reply, Going, answer, map_after_all}
use Rattle.im_theory_machine.specs.View.{View, is_among, marked, undid_more, undid_last}
use Rattle.im_theory_machine.specs.Machine.{Moves, Run, IsReached, start}
use Rattle.im_theory_machine.specs.Isolation.{serial}
use Rattle.im_theory_machine.specs.Overlays.{Overlay, laid, Has, IsOverlay, IsNoted, NotesOne, SaysOf, befores_all, IsNext, IsPrev, Lies, AreOverlays, through, oldest, NotesNewest, AsksChange, PutsLater}

-- Whatever step the machine makes, a change, a commit, a force, a compensation, at most one key is noted, before it, as the walk has it; and the view goes on to read its map.
abbrev pub StepsKeep : Type 0
StepsKeep = (m : IndexMap) (v w : View) (step : Step) (reply : Reply) (o : Overlay) → Moves v step reply w → IsOverlay m v o → (n : Overlay) × NotesOne v.walk o n × IsOverlay m w n

-- A rollback notes nothing, nor does one who returns to its first changes: what is taken back was noted when it was made, or when the view began.
pub record UndosKeep : Type 0 where
  pub more : (m : IndexMap) (v : View) (t : ℕ) (c : Change) (cs : List Change) (o : Overlay) → (v.txns t).net ≡ c ∷ cs → IsOverlay m v o → IsOverlay m (undid_more v t c cs) o
  -- the last one of a return, after which it is going
  pub back : (m : IndexMap) (v : View) (t : ℕ) (c : Change) (cs : List Change) (o : Overlay) → (v.txns t).net ≡ c ∷ cs → IsOverlay m v o → IsOverlay m (marked (undid_more v t c cs) t Going) o
  pub last : (m : IndexMap) (v : View) (t : ℕ) (c : Change) (o : Overlay) → (v.txns t).net ≡ c ∷ [] → IsOverlay m v o → IsOverlay m (undid_last v t c) o

-- So it is of whole runs, however long.
abbrev pub RunsKeep : Type 0
RunsKeep = (m : IndexMap) (v w : View) (trace : List (Step × Reply)) (o : Overlay) → Run v trace w → IsOverlay m v o → (n : Overlay) × IsOverlay m w n

-- A note that nobody needed does no harm.
abbrev pub NotesKeep : Type 0
NotesKeep = (m : IndexMap) (v : View) (x : Key) (o n : Overlay) → IsNoted v.walk x o n → IsOverlay m v o → IsOverlay m v n × Has n x

-- A view begins, whatever transactions are active: what each of them has changed is noted as it was committed.
abbrev pub Begins : Type 0
Begins = (base : IndexMap) (v : View) (o : Overlay) → IsReached base v → SaysOf v.committed o → ((t : ℕ) (x : Key) → Touches ((v.txns t).net) x → Has o x) → IsOverlay v.committed v o

-- What to note then stands in the log: of each active transaction what its changes found, read as a rollback reads it, one that is rolling back included.
abbrev pub BeginsFromLog : Type 0
BeginsFromLog = (base : IndexMap) (v : View) (ts : List ℕ) → IsReached base v → ((t : ℕ) (x : Key) → Touches ((v.txns t).net) x → is_among t ts ≡ true) → IsOverlay v.committed v (befores_all v.txns ts)

-- So all its replies, however long it stays open and whatever steps come meanwhile, are those of one that was alone at its place in the order of commits.
abbrev pub Serves : Type 0
Serves = (base : IndexMap) (next : ℕ) (front rest : List (Step × Reply)) (v w : View) (o : Overlay) → Run (start base next) front v → Run v rest w
    → SaysOf v.committed o → ((t : ℕ) (x : Key) → Touches ((v.txns t).net) x → Has o x)
    → (n : Overlay) × ((a : Access) → answer a (laid w.walk n) ≡ answer a (map_after_all base (map (λ x. x.0) (serial [] front))))

-- Every answer on the map at its moment is the answer on the walk with the overlay.
abbrev pub ReadsMap : Type 0
ReadsMap = (m : IndexMap) (v : View) (o : Overlay) (a : Access) → IsOverlay m v o → answer a m ≡ answer a (laid v.walk o)

-- One key: what is noted of it, or else what the walk has.
pub record ReadsKey : Type 0 where
  pub off : (m : IndexMap) (v : View) (o : Overlay) (x : Key) → IsOverlay m v o → (Has o x → ⊥) → get m x ≡ get v.walk x
  pub first : (m : IndexMap) (v : View) (o : Overlay) (x : Key) (p : Option ℕ) → IsOverlay m v ((x, p) ∷ o) → get m x ≡ p
  pub later : (m : IndexMap) (v : View) (o : Overlay) (x y : Key) (p : Option ℕ) → (x ≡ y → ⊥) → get (laid v.walk ((x, p) ∷ o)) y ≡ get (laid v.walk o) y

-- Several views: only the newest one's overlay is written. Where a newer view begins, the overlay of the one before lies over the newer's map from then on, whatever steps come, and needs no further note.
abbrev pub Chains : Type 0
Chains = (base : IndexMap) (v : View) (m : IndexMap) (o : Overlay) → IsReached base v → IsOverlay m v o → laid v.committed o ≡ m

-- And where the newer one ends first, its entries go after those of the older.
abbrev pub Joins : Type 0
Joins = (v : View) (m new : IndexMap) (o n : Overlay) → laid new o ≡ m → IsOverlay new v n → IsOverlay m v (o ++ n)

-- A range, an entry at a time: the walk's entry where no note comes before it or at it; else the first note, or what comes after it where it says absent. Both ways.
pub record Merges : Type 0 where
  pub walk : (w : IndexMap) (o : Overlay) (s : Start) (e : Entry) → first s w ≡ Some e → ((x : Key) → is_past s x ≡ true → is_below e.0 x ≡ false → Has o x → ⊥) → first s (laid w o) ≡ Some e
  pub end : (w : IndexMap) (o : Overlay) (s : Start) → first s w ≡ None → ((x : Key) → is_past s x ≡ true → Has o x → ⊥) → first s (laid w o) ≡ None
  pub note : (w : IndexMap) (o : Overlay) (s : Start) (k : Key) (r : ℕ) → IsNext s k w o → get (laid w o) k ≡ Some r → first s (laid w o) ≡ Some (k, r)
  pub hidden : (w : IndexMap) (o : Overlay) (s : Start) (k : Key) → IsNext s k w o → get (laid w o) k ≡ None → first s (laid w o) ≡ first (Above k) (laid w o)
  pub walk_back : (w : IndexMap) (o : Overlay) (k : Key) (e : Entry) → last_below k w ≡ Some e → ((x : Key) → is_below x k ≡ true → is_below x e.0 ≡ false → Has o x → ⊥) → last_below k (laid w o) ≡ Some e
  pub end_back : (w : IndexMap) (o : Overlay) (k : Key) → last_below k w ≡ None → ((x : Key) → is_below x k ≡ true → Has o x → ⊥) → last_below k (laid w o) ≡ None
  pub note_back : (w : IndexMap) (o : Overlay) (k j : Key) (r : ℕ) → IsPrev k j w o → get (laid w o) j ≡ Some r → last_below k (laid w o) ≡ Some (j, r)
  pub hidden_back : (w : IndexMap) (o : Overlay) (k j : Key) → IsPrev k j w o → get (laid w o) j ≡ None → last_below k (laid w o) ≡ last_below j (laid w o)

-- All views together.
pub record Many : Type 0 where
  -- a step notes once at most, however many there are
  pub step : (ms : List IndexMap) (v w : View) (step : Step) (reply : Reply) (os : List Overlay) → Moves v step reply w → AreOverlays ms v os → (ns : List Overlay) × NotesNewest v.walk os ns × AreOverlays ms w ns
  pub begin : (base : IndexMap) (ms : List IndexMap) (v : View) (os : List Overlay) (o : Overlay) → IsReached base v → IsOverlay v.committed v o → AreOverlays ms v os → AreOverlays (v.committed ∷ ms) v (o ∷ os)
  -- the oldest of those that are open, or of the newest so many, reads its map
  pub reads : (m : IndexMap) (ms : List IndexMap) (v : View) (o : Overlay) (os : List Overlay) → AreOverlays (m ∷ ms) v (o ∷ os) → laid v.walk (through (o ∷ os)) ≡ oldest m ms
  -- whatever older ones end, or are lost, the newer ones stay
  pub newest : (m k : IndexMap) (ms : List IndexMap) (v : View) (o p : Overlay) (os : List Overlay) → AreOverlays (m ∷ k ∷ ms) v (o ∷ p ∷ os) → AreOverlays (m ∷ []) v (o ∷ [])
  -- the newest ends, and its notes go after those of the one before
  pub ends : (m k : IndexMap) (ms : List IndexMap) (v : View) (o p : Overlay) (os : List Overlay) → AreOverlays (m ∷ k ∷ ms) v (o ∷ p ∷ os) → AreOverlays (k ∷ ms) v ((p ++ o) ∷ os)
  -- one between ends
  pub between : (m k l : IndexMap) (ms : List IndexMap) (o p : Overlay) (os : List Overlay) → Lies m (k ∷ l ∷ ms) (o ∷ p ∷ os) → Lies m (l ∷ ms) ((p ++ o) ∷ os)

-- It is enough to note, before each step, the key that it asks to change, and at a view's begin that of an Insert that goes on. So a layer around the engine can do it, which sees steps alone.
abbrev pub AskedIsEnough : Type 0
AskedIsEnough = (m : IndexMap) (v w : View) (step : Step) (reply : Reply) (o : Overlay) → Moves v step reply w → IsOverlay m v o
    → ((x : Key) → PutsLater v.under x → Has o x) → ((x : Key) → AsksChange step x → Has o x)
    → IsOverlay m w o × ((x : Key) → PutsLater w.under x → Has o x)
