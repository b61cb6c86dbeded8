-- Where no structure change is under way nothing is hidden.
use Rattle.std.proofs.Common.{◌≡◌, inl, inr, ℕ, true, false, [], sym, ◌∙◌}
use Rattle.im_base_types.specs.Keys.{Key}
use Rattle.im_base_types.specs.Maps.{IndexMap, Start, From, Above}
use Rattle.im_base_types.specs.Answers.{Access, Fetch, Seek, Next, Prev, Scan, Insert, Delete}
use Rattle.im_theory_tree.specs.Levels.{Pages}
use Rattle.im_tree_search.specs.declared.change_beside.Beside.{Beside}
use Rattle.im_tree_search.specs.Backward as back
use Rattle.im_tree_search.specs.Backward.{MeetsDoneBack}
use Rattle.im_tree_search.specs.Beside as forth
use Rattle.im_tree_search.specs.Beside.{MeetsDone}
use Rattle.im_tree_search.specs.RangesBeside as ranges
use Rattle.im_tree_search.specs.RangesBeside.{ScanMeetsDone}
use Rattle.im_tree_search.specs.Sights.{is_done}
use Rattle.im_smo_split.specs.Tops.{LacksRoomFor}
use Rattle.im_smo_actions.proofs.Told.{none_made}
use Rattle.im_engine_access.specs.Barred as barred
use Rattle.im_engine_access.specs.Barred.{Bars, TreeCause}
use Rattle.im_engine_access.specs.Edits.{HasOne}
use Rattle.im_engine_access.specs.Hidden.{MeetsMade}
use Rattle.im_engine_access.proofs.Comings.{alone_bars}

not_made : (beside : Beside) (p : ℕ) → beside.pages.now ≡ [] → is_done beside p ≡ true → ⊥
not_made beside p none made = let clash : true ≡ false = sym made ∙ none_made beside p none in cc clash

meets_none : (pages : Pages) (beside : Beside) (s : Start) → beside.pages.now ≡ [] → MeetsDone pages (is_done beside) s → ⊥
meets_none pages beside s none (forth.on_way h p way made) = not_made beside p none made
meets_none pages beside s none (forth.along p comes some made) = not_made beside p none made

back_none : (pages : Pages) (beside : Beside) (key : Key) → beside.pages.now ≡ [] → MeetsDoneBack pages (is_done beside) key → ⊥
back_none pages beside key none (back.on_way h p way made) = not_made beside p none made
back_none pages beside key none (back.along p comes some made) = not_made beside p none made

scan_none : (pages : Pages) (beside : Beside) (lo hi : Key) (limit : ℕ) → beside.pages.now ≡ [] → ScanMeetsDone pages beside lo hi limit → ⊥
scan_none pages beside lo hi limit none (ranges.on_way made) = not_made beside made.page none made.made
scan_none pages beside lo hi limit none (ranges.along p comes made) = not_made beside p none made

-- no page is made
pub made_none : (pages : Pages) (beside : Beside) (a : Access) (m : IndexMap) → beside.pages.now ≡ [] → MeetsMade pages beside a m → ⊥
made_none pages beside (Fetch k) m none (inl made) = not_made beside made.page none made.made
made_none pages beside (Fetch k) m none (inr meets) = meets_none pages beside (Above k) none meets.1
made_none pages beside (Seek k) m none meets = meets_none pages beside (From k) none meets
made_none pages beside (Next k) m none meets = meets_none pages beside (Above k) none meets
made_none pages beside (Prev k) m none (inl meets) = back_none pages beside k none meets
made_none pages beside (Prev k) m none (inr meets) = meets_none pages beside (From k) none meets
made_none pages beside (Scan lo hi n) m none meets = scan_none pages beside lo hi _ none meets.1
made_none pages beside (Insert k i) m none (inl made) = not_made beside made.page none made.made
made_none pages beside (Insert k i) m none (inr meets) = meets_none pages beside (Above k) none meets.1
made_none pages beside (Delete k) m none meets = meets_none pages beside (Above k) none meets

-- and no key is barred
bars_none : (pages : Pages) (beside : Beside) (a : Access) (m : IndexMap) → beside.pages.now ≡ [] → Bars pages beside a m → ⊥
bars_none pages beside (Insert k i) m none bars = alone_bars pages beside k (LacksRoomFor pages k) none bars.1
bars_none pages beside (Delete k) m none bars = alone_bars pages beside k (HasOne pages k) none bars.1
bars_none pages beside (Fetch k) m none bars = bars
bars_none pages beside (Seek k) m none bars = bars
bars_none pages beside (Next k) m none bars = bars
bars_none pages beside (Prev k) m none bars = bars
bars_none pages beside (Scan lo hi n) m none bars = bars

pub cause_none : (pages : Pages) (beside : Beside) (a : Access) (m : IndexMap) → beside.pages.now ≡ [] → TreeCause pages beside a m → ⊥
cause_none pages beside a m none (barred.meets meets) = made_none pages beside a m none meets
cause_none pages beside a m none (barred.barred bars) = bars_none pages beside a m none bars
