-- An insert: planned, granted, and then logged after the structure change that its leaf wants.
use Rattle.std.proofs.Common.{◌≡◌, ◌≢◌, ◌⊎◌, inl, inr, ◌≤◌, ℕ, Bool, true, false, List, [], ◌∷◌, ◌++◌, length, Option, None, Some, Result, Ok, Err, refl, sym, ◌∙◌, ap, subst, arith}
use Rattle.std.specs.Prelude.{IsErrAnd}
use Rattle.std.proofs.Math.Path.{fun_ext}
use Rattle.std.specs.FinMap.{get}
use Rattle.im_base_types.specs.declared.fault.Fault.{Fault}
use Rattle.im_base_types.specs.declared.fault.Fault.TheVariants.{Capacity, Failed, Memory, NotAStore}
use Rattle.im_base_types.specs.Keys.{Key}
use Rattle.im_base_types.specs.Maps.{IndexMap}
use Rattle.im_base_types.specs.Changes.{Effect, Touches}
use Rattle.im_base_types.specs.Pages.{Body}
use Rattle.im_base_types.specs.Records.{What, InsertKey, DeleteKey, UndoInsert, UndoDelete, Smo, UndoSmo, DummyClr, Commit, End, Image, Checkpoint, Unreadable, Logged}
use Rattle.im_theory_log.specs.Histories.{Base, History, IsFront}
use Rattle.im_theory_log.specs.Copies.{AreImages}
use Rattle.im_theory_log.specs.Structure.{settled}
use Rattle.im_theory_log.specs.Transactions.{contents}
use Rattle.im_theory_log.specs.Writer.{Writer}
use Rattle.im_theory_log.proofs.Histories.{front_self}
use Rattle.im_base_disk.specs.declared.disk.Disk.{Ghosts}
use Rattle.im_base_disk.proofs.Runs.{then_on, weakened}
use Rattle.im_log.proofs.Above.{front_then}
use Rattle.im_page_writer.specs.declared.page_writer.PageWriter.{PageWriter}
use Rattle.im_page_writer.specs.Outcome.{no_page, want_of_memory, pages_of, AllPages, AreLoaded, Outcome as Ends, Logs}
use Rattle.im_page_writer.specs.PageWriter.{Evicted}
use Rattle.im_page_writer.proofs.Outcomes.{leaves_of_end}
use Rattle.im_page_file.proofs.Standing.{wider_covered}
use Rattle.im_theory_page.specs.Split.{HasRoom}
use Rattle.im_theory_tree.specs.Good.{AllOf, IsGoodTree}
use Rattle.im_theory_tree.specs.Levels.{Pages, walk}
use Rattle.im_theory_tree.specs.Search.{IsOnWay}
use Rattle.im_theory_tree.specs.Ways.{KeepsWays}
use Rattle.im_tree_search.specs.declared.change_beside.Beside.{Beside}
use Rattle.im_tree_search.specs.Levels.{bodies, bodies_of}
use Rattle.im_smo_pages.specs.Images.{Numbered}
use Rattle.im_smo_pages.specs.OnWay.{IsApart}
use Rattle.im_smo_pages.specs.Seen.{seen}
use Rattle.im_smo_log.specs.declared.change.Change.{Change as Structure}
use Rattle.im_smo_log.specs.Changes.{IsOfChange, GrowsByChange, HasRecordOf, MayChange, ChangeKept, LeavesChange, image_marks}
use Rattle.im_smo_log.proofs.Runs.{marked_is}
use Rattle.im_smo_split.specs.Kept.{mild_to_split}
use Rattle.im_smo_split.specs.Plan.{IsWithin, Planned}
use Rattle.im_smo_split.specs.Tops.{LacksRoomFor}
use Rattle.im_smo_split.proofs.OneLeaf.{one_leaf}
use Rattle.im_smo_actions.specs.declared.planned_change.PlannedChange.{PlannedChange}
use Rattle.im_smo_actions.specs.GoingBeside.{settled_pages}
use Rattle.im_smo_actions.specs.Structure.{IsUnfinished, IsUsedUp}
use Rattle.im_smo_actions.proofs.Growth.{images_as_change, change_then, record_back, record_front, no_images_of}
use Rattle.im_smo_actions.proofs.Standing.{pages_stay, unfinished_good, unfinished_images, images_made, left_images, left_then}
use Rattle.im_theory_steps.specs.Growth.{GrowsWithin, IsStructural, AreStructural, GrowsByStructure, IsRestructured, is_structural}
use Rattle.im_theory_steps.proofs.Growth.{structure_changes_no_key}
use Rattle.im_engine_access.specs.declared.noted.Noted.{Noted}
use Rattle.im_engine_access.specs.declared.change_plan.Coming.{Coming}
use Rattle.im_engine_access.specs.declared.change_plan.Coming.TheVariants.{There, Fits, Splits, UsedUp}
use Rattle.im_engine_access.specs.KeyLogs.{LeftByEdit, LeavesEdit, MayPut, KeyLogKept}
use Rattle.im_engine_access.specs.AtOnce.{AtOnceKept, ComesTo, MayInsert, MaySplit, PutKept}
use Rattle.im_engine_access.specs.ChangePlans.{IsComing, KeyFits, KeySplits}
use Rattle.im_engine_access.proofs.KeyLogs.{owner_some, grows_within, is_going_on, left_edit, none_open, settled_are, still_closed}
use Rattle.im_engine_access.proofs.Deletes.{within_then}

-- ---- logs

-- records of a structure change as such of a step
structural : (t : ℕ) (r : Logged) (w : What) → r.what ≡ w → IsOfChange t r w → IsStructural t r
structural t r (Smo was now) same is = inr (is, ap is_structural same)
structural t r DummyClr same is = inr (is, ap is_structural same)
structural t r (Image c) same is = inl (record { copy = c; what = same; no_owner = is })
structural t r (InsertKey k i) same is = absurd is
structural t r (DeleteKey k i) same is = absurd is
structural t r (UndoInsert k i) same is = absurd is
structural t r (UndoDelete k i) same is = absurd is
structural t r (UndoSmo now) same is = absurd is
structural t r Commit same is = absurd is
structural t r End same is = absurd is
structural t r (Checkpoint n a dirty) same is = absurd is
structural t r Unreadable same is = absurd is

changes_structural : (t : ℕ) (more : History) → AllOf (λ (r : Logged). IsOfChange t r r.what) more → AreStructural t more
changes_structural t [] all = tt
changes_structural t (r ∷ more) all = (structural t r r.what refl all.0, changes_structural t more all.1)

pub grows_structure : (t : ℕ) (older longer : History) → GrowsByChange t older longer → GrowsByStructure t older longer
grows_structure t older longer by = record { more = by.more; is = sym by.is; structural = changes_structural t by.more by.all }

-- an Image is no record of the transaction
pub past_images : (b : Base) (t : ℕ) (images older more : History) → t ≢ 0 → AreImages b images older → HasRecordOf t (images ++ more) → HasRecordOf t more
past_images b t [] older more some all is = is
past_images b t (r ∷ images) older more some all (inl is) = absurd (some (sym is ∙ all.0.no_owner))
past_images b t (r ∷ images) older more some all (inr is) = past_images b t images older more some all.1 is

-- ---- refusals

-- a want of memory is answered `Failed`
pub is_memory : (e : Fault) → want_of_memory e ≡ true → e ≡ Memory
is_memory Memory is = refl
is_memory e is = absurd (cc is)

late_so : {D : Type 0} (d : Ghosts D) (m : Fault → Bool) (v : PageWriter) (old : D) (w : PageWriter) (new : D) (f g : Fault) → (f ≡ Memory → g ≡ Failed) → (f ≢ Memory → g ≡ f) → Logs d true m v old w new (Some f) → Logs d true m v old w new (Some g)
late_so d m v old w new f g memory other one = by (want_of_memory f) refl
  where
    by : (is : Bool) → want_of_memory f ≡ is → Logs d true m v old w new (Some g)
    by true is =
        let short : f ≡ Memory = is_memory f is in
        let moved : Logs d true m v old w new (Some Memory) = subst (λ (x : Fault). Logs d true m v old w new (Some x)) short one in
        subst (λ (x : Fault). Logs d true m v old w new (Some x)) (sym (memory short)) (record { ready = moved.ready; frames = moved.frames; ends = record { began = moved.ends.1.began; works = moved.ends.1.works; alive = moved.ends.1.alive } })
    by false is = subst (λ (x : Fault). Logs d true m v old w new (Some x)) (sym (other (λ short. let clash : true ≡ false = ap want_of_memory (sym short) ∙ is in cc clash))) one

pub log_late : {D : Type 0} (d : Ghosts D) {m : Fault → Bool} {v : PageWriter} {old : D} {w : PageWriter} {new : D} {f g : Fault} → Logs d true m v old w new (Some f) → (f ≡ Memory → g ≡ Failed) → (f ≢ Memory → g ≡ f) → Logs d true m v old w new (Some g)
log_late d {m} {v} {old} {w} {new} {f} {g} one memory other = late_so d m v old w new f g memory other one

-- the record of a key is never refused for want of memory, nor as failed over a writer that works
pub put_never : {D : Type 0} (d : Ghosts D) {v : PageWriter} {old : D} {w : PageWriter} {new : D} {f : Fault} → v.failed ≡ false → Logs d false no_page v old w new (Some f) → (f ≡ Memory) ⊎ (f ≡ Failed) → ⊥
put_never {D} d {v} {old} {w} {new} {f} works one (inl is) =
    let moved : Logs d false no_page v old w new (Some Memory) = subst (λ (x : Fault). Logs d false no_page v old w new (Some x)) is one in
    let clash : false ≡ true = moved.ends.0 in
    cc clash
put_never {D} d {v} {old} {w} {new} {f} works one (inr is) =
    let moved : Logs d false no_page v old w new (Some Failed) = subst (λ (x : Fault). Logs d false no_page v old w new (Some x)) is one in
    let clash : false ≡ true = sym works ∙ moved.ends.0 in
    cc clash

-- page numbers are used up
pub none_left : {D : Type 0} (d : Ghosts D) {m : Fault → Bool} {v : PageWriter} {old : D} {w : PageWriter} {new : D} → Ends d AreLoaded m v old w new None → Logs d true (mild_to_split None) v old w new (Some Capacity)
none_left d {m} {v} {old} {w} {new} one = record { ready = one.ready; frames = one.frames; ends = (refl, one.ends) }

pub late_sound : (f g : Fault) → (f ≡ Memory → g ≡ Failed) → (f ≢ Memory → g ≡ f) → f ≢ NotAStore → g ≢ NotAStore
late_sound f g memory other sound is = by (want_of_memory f) refl
  where
    by : (short : Bool) → want_of_memory f ≡ short → ⊥
    by true short = let clash : Failed ≡ NotAStore = sym (memory (is_memory f short)) ∙ is in cc clash
    by false short = sound (sym (other (λ e. let clash : true ≡ false = ap want_of_memory (sym e) ∙ short in cc clash)) ∙ is)

-- ---- what a stop leaves

module _ {D : Type 0} (d : Ghosts D) (b : Base) (base : ℕ) where
  pub edit_then : (s now : Writer) (t : ℕ) (old mid new : D) → GrowsWithin t s.log now.log → IsFront s.durable now.durable → LeavesEdit d b base s t old mid → LeavesEdit d b base now t mid new → LeavesEdit d b base s t old new
  edit_then s now t old mid new grows durable first stops =
      then_on d old mid new (LeftByEdit d b base s t) (LeftByEdit d b base s t) first
      (weakened d mid new (LeftByEdit d b base now t) (LeftByEdit d b base s t) stops
      (λ told c is. record {
        high = is.high;
        lawful = is.lawful;
        grows = within_then t s.log now.log is.high grows is.grows;
        covered = wider_covered d b base s.durable now.durable is.high is.high c durable (front_self is.high) is.covered;
      }))
      (λ told c is. is)

  -- ---- on the way to the record

  module _ (s : Writer) (e t last undo_next : ℕ) (w : PageWriter) (disk : D) (u : IsUnfinished d b base s e t last undo_next w disk) where
    pub loaded : AreLoaded s
    loaded p = ((u.stands.writing.stands.kept.pages p).run e u.over).0

    -- where it stands after calls that change no page
    pub stands_behind : {m : Fault → Bool} {x : PageWriter} {new : D} → Ends d AreLoaded m w disk x new None → Evicted d b base s disk x new
    stands_behind {m} {x} {new} one = one.ends.goes b base s u.stands loaded

    -- and what a stop leaves of one, however it ended
    pub calls_left : {m : Fault → Bool} {x : PageWriter} {new : D} {why : Option Fault} → Ends d AreLoaded m w disk x new why → LeavesEdit d b base s t disk new
    calls_left {m} {x} {new} {why} one = left_edit d b base s t disk new (left_images d b base s t disk new u.lawful (leaves_of_end d one b base s u.stands loaded))

  module _ (s : Writer) (e t last undo_next : ℕ) (key : Key) (dense : Bool) (max : ℕ) (w : PageWriter) (disk : D) (to : ComesTo d b base s e t last undo_next key dense max w disk) (owner : 1 ≤ t) where
    abbrev pub now : Writer
    now = to.made.now

    pub stays : IsRestructured b t s.log to.made.now.log
    stays = structure_changes_no_key b t s.log to.made.now.log (grows_structure t s.log to.made.now.log to.made.grows)

    -- what was left after it
    pub left_behind : (new : D) → LeavesEdit d b base to.made.now t disk new → LeavesEdit d b base s t to.since new
    left_behind new stops = edit_then s to.made.now t to.since disk new (grows_within t s.log to.made.now.log to.made.grows) to.made.durable to.stops stops

    settled_now : settled b to.made.now.log ≡ bodies to.made.now
    settled_now = settled_are d b base to.made.now e t last undo_next w disk to.made.stands

    pub may_put : (page : ℕ) → IsOnWay (bodies to.made.now) 0 key page → HasRoom true (bodies to.made.now page).entries (key, 0) → MayPut d b base to.made.now e t last undo_next page key w disk
    may_put page way room = record {
      unfinished = is_going_on d b base to.made.now e t last undo_next w disk to.made.stands;
      free = λ n other theirs. to.free n other (subst (λ (c : Effect). Touches c key) (stays.stays.nets n) theirs);
      absent = ap (λ (m : IndexMap). get m key) stays.stays.walk ∙ to.absent;
      apart = none_open d b base to.made.now e t last undo_next w disk to.made.stands page;
      way = subst (λ (f : Pages). IsOnWay f 0 key page) (sym settled_now) way;
      room = subst (λ (f : Pages). HasRoom true (f page).entries (key, 0)) (sym settled_now) room;
    }

    -- the record
    pub put_done : (page rid lsn : ℕ) (x : PageWriter) (new : D) → KeyLogKept d b base to.made.now e t last page (InsertKey key rid) disk x new (Ok lsn) → PutKept d b base s e t key rid dense max to.since x new (Ok (record { last = lsn; undo_next = lsn }))
    put_done page rid lsn x new kept =
        let k = kept.sound in
        record {
          sound = record {
            absent = to.absent;
            now = k.now;
            stands = still_closed d b base to.made.now e t last page (InsertKey key rid) lsn x new to.made.stands.closed k;
            same = refl;
            point = k.point ∙ to.made.point;
            durable = front_then s.durable to.made.now.durable k.now.durable to.made.durable k.durable;
            between = k.before;
            change = change_then t s.log to.made.now.log k.before to.made.grows (images_as_change b t to.made.now.log k.before k.images);
            newest = last;
            page = page;
            is = k.is;
            some = λ lacks. record_back t k.images.images to.made.grows.more (to.some lacks);
            only = λ has. to.only (past_images b t k.images.images to.made.now.log to.made.grows.more (owner_some t owner) k.images.all has);
            within = to.within;
          };
          stops = left_behind new kept.stops;
        }

    pub put_refused : (f : Fault) (rid : ℕ) (x : PageWriter) (new : D) (r : Result Noted Fault) → IsErrAnd r (λ y. y ≡ f) → f ≢ NotAStore → LeavesEdit d b base to.made.now t disk new → PutKept d b base s e t key rid dense max to.since x new r
    put_refused f rid x new (Ok noted) is sound stops = absurd is
    put_refused f rid x new (Err y) is sound stops = record { sound = λ same. sound (sym is ∙ same); stops = left_behind new stops }

  -- ---- from what was laid down

  module _ (s : Writer) (e t last undo_next : ℕ) (key : Key) (dense : Bool) (max : ℕ) (beside : Beside) (coming : Coming) (w : PageWriter) (disk : D) (may : MayInsert d b base s e t last undo_next key dense max beside coming w disk) (owner : 1 ≤ t) where
    abbrev pub at : Evicted d b base s may.since w disk
    at = stands_behind s e t last undo_next may.start may.since may.unfinished may.calls

    pub so_far : LeavesEdit d b base s t may.since disk
    so_far = calls_left s e t last undo_next may.start may.since may.unfinished may.calls

    tree : IsGoodTree (bodies s) []
    tree = unfinished_good d b base s e t last undo_next may.start may.since may.unfinished

    settled_here : settled b s.log ≡ bodies s
    settled_here = settled_are d b base s e t last undo_next may.start may.since may.unfinished

    pub comes_as : (known : Coming) → coming ≡ known → IsComing (settled_pages b s) beside key dense max (contents b s.log) known
    comes_as known is = subst (IsComing (settled_pages b s) beside key dense max (contents b s.log)) is may.comes

    -- the key is there
    pub none_put : (rid : ℕ) → coming ≡ There → AtOnceKept d b base s e t key rid dense max may.since w disk (Ok None)
    none_put rid is = let found = comes_as There is in record { sound = (found.0, found.1, at); stops = so_far; absent = tt; used_up = tt; begun = tt }

    -- page numbers are used up
    pub numbers_gone : (rid : ℕ) → coming ≡ UsedUp → AtOnceKept d b base s e t key rid dense max may.since w disk (Err Capacity)
    numbers_gone rid is =
        let without = comes_as UsedUp is in
        let lacks : LacksRoomFor (bodies s) key = subst (λ (f : Pages). LacksRoomFor f key) settled_here without.lacks in
        record {
          sound = λ same. let never : ⊥ = cc same in never;
          stops = so_far;
          absent = without.absent;
          used_up = λ same. (lacks, subst (λ (f : Pages). IsUsedUp dense f key) settled_here without.used_up);
          begun = λ why. lacks;
        }

    -- the leaf has room
    module _ (page : ℕ) (fits : coming ≡ Fits page) where
      abbrev leaf : KeyFits (settled_pages b s) beside key (contents b s.log) page
      leaf = comes_as (Fits page) fits

      way : IsOnWay (bodies s) 0 key page
      way = subst (λ (f : Pages). IsOnWay f 0 key page) settled_here leaf.way

      room : HasRoom true (bodies s page).entries (key, 0)
      room = subst (λ (f : Pages). HasRoom true (f page).entries (key, 0)) settled_here leaf.room

      pub none_lacks : {A : Type 0} → LacksRoomFor (bodies s) key → A
      none_lacks {A} l = absurd (l.lacks (subst (λ (p : ℕ). HasRoom true (bodies s p).entries (key, 0)) (one_leaf (bodies s) [] key page l.page tree way l.way) room))

      abbrev pub comes_first : ComesTo d b base s e t last undo_next key dense max w disk
      comes_first = record {
        since = may.since;
        free = may.free leaf.absent;
        absent = leaf.absent;
        made = images_made d b base s e t last undo_next may.start may.since may.unfinished (owner_some t owner) at.now w disk at.on;
        some = λ lacks. none_lacks lacks;
        only = λ has. absurd (no_images_of b t at.on.goes.keeps.log.images s.log (owner_some t owner) at.on.goes.keeps.log.all has);
        within = λ lacks. none_lacks lacks;
        stops = so_far;
      }

      pages_first : pages_of s ≡ pages_of comes_first.made.now
      pages_first = sym (pages_stay b s at.now at.on.goes.keeps)

      pub first_way : IsOnWay (bodies comes_first.made.now) 0 key page
      first_way = subst (λ (store : AllPages). IsOnWay (bodies_of store) 0 key page) pages_first way

      pub first_room : HasRoom true (bodies comes_first.made.now page).entries (key, 0)
      first_room = subst (λ (store : AllPages). HasRoom true (bodies_of store page).entries (key, 0)) pages_first room

      pub first_refused : (rid : ℕ) (f : Fault) (x : PageWriter) (new : D) (r : Result (Option Noted) Fault) → IsErrAnd r (λ y. y ≡ f) → f ≢ Capacity → ((f ≡ Memory) ⊎ (f ≡ Failed) → ⊥) → PutKept d b base s e t key rid dense max may.since x new (Err f)
          → AtOnceKept d b base s e t key rid dense max may.since x new r
      first_refused rid f x new (Ok noted) is numbers never kept = absurd is
      first_refused rid f x new (Err y) is numbers never kept = record {
        sound = λ same. kept.sound (sym is ∙ same);
        stops = kept.stops;
        absent = leaf.absent;
        used_up = λ same. absurd (numbers (sym is ∙ same));
        begun = λ why. absurd (never (subst (λ (g : Fault). (g ≡ Memory) ⊎ (g ≡ Failed)) is why));
      }

    -- the leaf lacks room
    module _ (plan : PlannedChange) (leaf : ℕ) (is : coming ≡ Splits plan leaf) (change : Structure) (images : change.images ≡ plan.images) (whose : (change.transaction ≡ t) × (change.last ≡ last) × (change.undo_next ≡ undo_next)) where
      abbrev splits : KeySplits (settled_pages b s) beside key dense max (contents b s.log) plan leaf
      splits = comes_as (Splits plan leaf) is

      abbrev pub may_split : MaySplit d b base s e t last undo_next key dense max change leaf w disk
      may_split = record {
        start = may.start;
        since = may.since;
        unfinished = may.unfinished;
        owner = whose;
        free = may.free splits.absent;
        absent = splits.absent;
        calls = may.calls;
        some = subst (λ (xs : List Numbered). 1 ≤ length xs) (sym images) splits.some;
        planned = subst (λ (xs : List Numbered). Planned dense (settled_pages b s) key (Some max) xs leaf) (sym images) splits.planned;
      }

      pub split_refused : (rid : ℕ) (f : Fault) (x : PageWriter) (new : D) (r : Result (Option Noted) Fault) → IsErrAnd r (λ y. y ≡ f) → f ≢ Capacity → PutKept d b base s e t key rid dense max may.since x new (Err f) → AtOnceKept d b base s e t key rid dense max may.since x new r
      split_refused rid f x new (Ok noted) that numbers kept = absurd that
      split_refused rid f x new (Err y) that numbers kept = record {
        sound = λ same. kept.sound (sym that ∙ same);
        stops = kept.stops;
        absent = splits.absent;
        used_up = λ same. absurd (numbers (sym that ∙ same));
        begun = λ why. subst (λ (g : Pages). LacksRoomFor g key) settled_here splits.lacks;
      }

  -- ---- the split

  module _ (s : Writer) (e t last undo_next : ℕ) (key : Key) (dense : Bool) (max : ℕ) (change : Structure) (leaf : ℕ) (w : PageWriter) (disk : D) (may : MaySplit d b base s e t last undo_next key dense max change leaf w disk) (owner : 1 ≤ t) where
    abbrev pub from : Evicted d b base s may.since w disk
    from = stands_behind s e t last undo_next may.start may.since may.unfinished may.calls

    pages_are : settled_pages b s ≡ pages_of s
    pages_are = fun_ext (λ (p : ℕ). ap (λ (x : Body). record (s.pages p).page { body = x }) (ap (λ (f : Pages). f p) (settled_are d b base s e t last undo_next may.start may.since may.unfinished)))

    pub planned : Planned dense (pages_of s) key (Some max) change.images leaf
    planned = subst (λ (store : AllPages). Planned dense store key (Some max) change.images leaf) pages_are may.planned

    run_by_owner : MayChange d b base from.now e change.images t last undo_next w disk
    run_by_owner =
        let still = unfinished_images d b base s e t last undo_next may.start may.since may.unfinished (owner_some t owner) from.now w disk from.on in
        let stay = pages_stay b s from.now from.on.goes.keeps in
        record {
          stands = still.stands;
          over = still.over;
          lawful = still.lawful;
          closed = still.closed;
          newest = still.newest;
          undo = still.undo;
          unfinished = still.unfinished;
          some = may.some;
          good = subst (λ (store : AllPages). IsGoodTree (seen store change.images) []) (sym stay) planned.good;
          same = subst (λ (store : AllPages). walk (seen store change.images) ≡ walk (bodies_of store)) (sym stay) planned.same;
          ways = subst (λ (store : AllPages). KeepsWays (bodies_of store) (seen store change.images) (IsApart change.images)) (sym stay) planned.ways;
        }

    pub may_run : MayChange d b base from.now e change.images change.transaction change.last change.undo_next w disk
    may_run =
        subst (λ (n : ℕ). MayChange d b base from.now e change.images change.transaction change.last n w disk) (sym may.owner.2)
        (subst (λ (l : ℕ). MayChange d b base from.now e change.images change.transaction l undo_next w disk) (sym may.owner.1)
        (subst (λ (u : ℕ). MayChange d b base from.now e change.images u last undo_next w disk) (sym may.owner.0) run_by_owner))

    -- what it keeps, said of the transaction
    pub by_owner : (x : PageWriter) (new : D) (r : Result ℕ Fault) → ChangeKept d b base from.now e change.images change.transaction change.undo_next disk x new r → ChangeKept d b base from.now e change.images t undo_next disk x new r
    by_owner x new r kept =
        subst (λ (n : ℕ). ChangeKept d b base from.now e change.images t n disk x new r) may.owner.2 (subst (λ (u : ℕ). ChangeKept d b base from.now e change.images u change.undo_next disk x new r) may.owner.0 kept)

    pub run_left : (new : D) → LeavesChange d b base from.now t disk new → LeavesEdit d b base s t may.since new
    run_left new stops = left_edit d b base s t may.since new (left_then d b base s t may.since from.now w disk may.unfinished.lawful from.on new stops)

    pub not_none : (change.images ≡ []) ⊎ IsWithin dense (bodies s) key max → IsWithin dense (bodies s) key max
    not_none (inl none) = let some : 1 ≤ length change.images = may.some in let zero_is : length change.images ≡ 0 = ap (λ (l : List Numbered). length l) none in absurd (omega (arith, some, zero_is))
    not_none (inr is) = is

    module _ (lsn : ℕ) (x : PageWriter) (new : D) (kept : ChangeKept d b base from.now e change.images t undo_next disk x new (Ok lsn)) where
      pub pages_made : bodies kept.sound.now ≡ seen (pages_of s) change.images
      pages_made = fun_ext kept.sound.pages ∙ ap (λ (store : AllPages). seen store change.images) (pages_stay b s from.now from.on.goes.keeps)

      abbrev pub comes_split : ComesTo d b base s e t lsn undo_next key dense max x new
      comes_split =
          let made = kept.sound in
          let before = from.on.goes.keeps.log in
          record {
            since = may.since;
            free = may.free;
            absent = may.absent;
            made = record {
              now = made.now;
              stands = record { stands = made.stands; over = made.over; lawful = made.lawful; closed = made.closed; newest = made.last; undo = made.undo; unfinished = made.unfinished };
              point = made.point ∙ from.on.goes.keeps.point;
              durable = front_then s.durable from.now.durable made.now.durable from.on.goes.keeps.durable made.durable;
              grows = change_then t s.log from.now.log made.now.log (images_as_change b t s.log from.now.log before) made.grows;
              same = ap walk pages_made ∙ planned.same;
            };
            some = λ lacks. record_front t made.grows.more before.images (marked_is t made.grows.more None (image_marks (length change.images) change.images) made.grows.all made.order);
            only = λ has. planned.lacks may.some;
            within = λ lacks. not_none (planned.within max refl);
            stops = run_left new kept.stops;
          }

      -- the leaf that the plan names is the key's, and has room
      pub split_way : IsOnWay (bodies comes_split.made.now) 0 key leaf
      split_way = subst (λ (pages : Pages). IsOnWay pages 0 key leaf) (sym pages_made) (planned.way may.some)

      pub split_room : HasRoom true (bodies comes_split.made.now leaf).entries (key, 0)
      split_room = subst (λ (pages : Pages). HasRoom true (pages leaf).entries (key, 0)) (sym pages_made) (planned.fits leaf (planned.way may.some))

    pub run_refused : (f : Fault) (rid : ℕ) (x : PageWriter) (new : D) (r : Result Noted Fault) → IsErrAnd r (λ y. y ≡ f) → ChangeKept d b base from.now e change.images t undo_next disk x new (Err f) → PutKept d b base s e t key rid dense max may.since x new r
    run_refused f rid x new (Ok noted) is kept = absurd is
    run_refused f rid x new (Err y) is kept = record { sound = λ same. kept.sound (sym is ∙ same); stops = run_left new kept.stops }

  -- ---- the whole of what was laid down

  pub once_put : (s : Writer) (e t : ℕ) (key : Key) (rid : ℕ) (dense : Bool) (max : ℕ) (old : D) (w : PageWriter) (disk : D) (noted : Noted) → PutKept d b base s e t key rid dense max old w disk (Ok noted) → AtOnceKept d b base s e t key rid dense max old w disk (Ok (Some noted))
  once_put s e t key rid dense max old w disk noted kept = record { sound = kept.sound; stops = kept.stops; absent = tt; used_up = tt; begun = tt }

  -- what is answered late
  pub put_late : (s : Writer) (e t : ℕ) (key : Key) (rid : ℕ) (dense : Bool) (max : ℕ) (old : D) (w : PageWriter) (disk : D) (f g : Fault) → (f ≡ Memory → g ≡ Failed) → (f ≢ Memory → g ≡ f) → PutKept d b base s e t key rid dense max old w disk (Err f) → PutKept d b base s e t key rid dense max old w disk (Err g)
  put_late s e t key rid dense max old w disk f g memory other kept = record { sound = late_sound f g memory other kept.sound; stops = kept.stops }
