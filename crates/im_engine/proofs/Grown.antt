-- Steps that add Images alone.
use Rattle.std.proofs.Common.{◌≡◌, ℕ, [], ◌∷◌, cond, is_some, Option, Some, None}
use Rattle.std.specs.FinMap.{get}
use Rattle.im_base_types.specs.Answers as answers
use Rattle.im_base_types.specs.Answers.{Access, Fetch, Seek, Next, Prev, Scan, Insert, Delete, Do, answer, changes}
use Rattle.im_base_types.specs.Changes.{Put}
use Rattle.im_base_types.specs.Keys.{Key}
use Rattle.im_base_types.specs.Maps.{IndexMap, From, Above, first, last_below}
use Rattle.im_theory_log.specs.Histories.{Base, History}
use Rattle.im_theory_log.specs.Copies.{GrowsByImages}
use Rattle.im_theory_machine.specs.View.{Under}
use Rattle.im_engine.specs.Growing.{GrowsAs}

module _ (Few : Type 0) (was now : Option Under) (b : Base) (t : ℕ) (older longer : History) (images : GrowsByImages b older longer) where
  found_grows : (a : Access) (o : Option ℕ) → GrowsAs b Few was now (answers.found o) (Do t a) older longer
  found_grows a None = images
  found_grows a (Some r) = images

  entry_grows : (a : Access) (o : Option (Key × ℕ)) → GrowsAs b Few was now (answers.entry o) (Do t a) older longer
  entry_grows a None = images
  entry_grows a (Some e) = images

  put_grows : (k : Key) (r : ℕ) (o : Option ℕ) → cond (is_some o) [] (Put k r ∷ []) ≡ [] → GrowsAs b Few was now (cond (is_some o) answers.Duplicate answers.Inserted) (Do t (Insert k r)) older longer
  put_grows k r None none = absurd (cc none)
  put_grows k r (Some i) none = images

  drop_grows : (k : Key) (o : Option ℕ) → answers.dropped k o ≡ [] → GrowsAs b Few was now (cond (is_some o) answers.Deleted answers.Absent) (Do t (Delete k)) older longer
  drop_grows k None none = images
  drop_grows k (Some i) none = absurd (cc none)

  -- an access that changes nothing
  pub read_grows : (a : Access) (m : IndexMap) → changes a m ≡ [] → GrowsAs b Few was now (answer a m) (Do t a) older longer
  read_grows (Fetch k) m none = found_grows (Fetch k) (get m k)
  read_grows (Seek k) m none = entry_grows (Seek k) (first (From k) m)
  read_grows (Next k) m none = entry_grows (Next k) (first (Above k) m)
  read_grows (Prev k) m none = entry_grows (Prev k) (last_below k m)
  read_grows (Scan lo hi n) m none = images
  read_grows (Insert k r) m none = put_grows k r (get m k) none
  read_grows (Delete k) m none = drop_grows k (get m k) none
