-- Why an access beside a structure change of another is hidden: by what it reads.
use Rattle.std.specs.Prelude.{◌≡◌, ◌⊎◌, false, None}
use Rattle.std.specs.FinMap.{get}
use Rattle.im_base_types.specs.Maps.{IndexMap, From, Above, is_below}
use Rattle.im_base_types.specs.Answers.{Access, Fetch, Seek, Next, Prev, Scan, Insert, Delete, limit_of}
use Rattle.im_theory_tree.specs.Levels.{Pages}
use Rattle.im_tree_search.specs.declared.change_beside.Beside.{Beside}
use Rattle.im_tree_search.specs.Backward.{MeetsDoneBack}
use Rattle.im_tree_search.specs.Beside.{MeetsDone}
use Rattle.im_tree_search.specs.RangesBeside.{ScanMeetsDone}
use Rattle.im_tree_search.specs.Sights.{is_done, IsWayMade}

-- a page that is made stands where the access reads: on the way to its key, or where its walk along the leaves comes to; the key after one that is there is looked for by a Delete alone, and no range that is empty by its bounds is read
abbrev pub MeetsMade : Pages → Beside → Access → IndexMap → Type 0
MeetsMade pages beside (Fetch k) m = IsWayMade pages beside k ⊎ ((get m k ≡ None) × MeetsDone pages (is_done beside) (Above k))
MeetsMade pages beside (Seek k) m = MeetsDone pages (is_done beside) (From k)
MeetsMade pages beside (Next k) m = MeetsDone pages (is_done beside) (Above k)
MeetsMade pages beside (Prev k) m = MeetsDoneBack pages (is_done beside) k ⊎ MeetsDone pages (is_done beside) (From k)
MeetsMade pages beside (Scan lo hi n) m = (is_below hi lo ≡ false) × ScanMeetsDone pages beside lo hi (limit_of n)
MeetsMade pages beside (Insert k i) m = IsWayMade pages beside k ⊎ ((get m k ≡ None) × MeetsDone pages (is_done beside) (Above k))
MeetsMade pages beside (Delete k) m = MeetsDone pages (is_done beside) (Above k)
