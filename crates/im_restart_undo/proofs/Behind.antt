-- What is logged by a plan with a structure change of its own.
use Rattle.std.proofs.Common.{◌≡◌, ◌≢◌, ◌≤◌, ◌⊎◌, ℕ, true, false, List, length, None, Some, Result, Ok, Err, refl, sym, ◌∙◌, subst}
use Rattle.std.specs.Prelude.{IfErr, IsErrAnd}
use Rattle.im_base_types.specs.declared.fault.Fault.{Fault}
use Rattle.im_base_types.specs.declared.fault.Fault.TheVariants.{Capacity, Failed, Memory}
use Rattle.im_base_types.specs.Keys.{Key}
use Rattle.im_base_types.specs.Records as whats
use Rattle.im_base_types.specs.Records.{What}
use Rattle.im_theory_log.specs.Histories.{Base, History}
use Rattle.im_theory_log.specs.Lawful.{IsNotIn}
use Rattle.im_theory_log.specs.Structure.{open_smo, settled}
use Rattle.im_theory_log.specs.Writer.{Writer}
use Rattle.im_theory_page.specs.Split.{HasRoom}
use Rattle.im_base_disk.specs.declared.disk.Disk.{Ghosts}
use Rattle.im_log_record.specs.Entry.{Entry, prev_of}
use Rattle.im_log.specs.Whats.{what_of}
use Rattle.im_page_writer.specs.declared.page_writer.PageWriter.{PageWriter}
use Rattle.im_page_writer.specs.Outcome.{fault_of, pages_of, AllPages, mild, no_page, Logs}
use Rattle.im_page_writer.specs.PageWriter.{Evicted}
use Rattle.im_page_writer.proofs.LoggedChanges.{again_on}
use Rattle.im_smo_actions.proofs.Standing.{pages_stay}
use Rattle.im_theory_tree.specs.Levels.{Pages}
use Rattle.im_theory_tree.specs.Search.{IsOnWay}
use Rattle.im_tree_search.specs.Levels.{bodies}
use Rattle.im_smo_pages.specs.Images.{Numbered}
use Rattle.im_smo_log.specs.Changes.{ChangeKept, MayChange}
use Rattle.im_smo_split.specs.Plan.{Planned}
use Rattle.im_smo_split.specs.declared.split_plan.SplitPlan.{SplitPlan}
use Rattle.im_smo_actions.specs.GoingBeside.{settled_pages}
use Rattle.im_restart_undo.specs.declared.back.Back.{Back}
use Rattle.im_restart_undo.specs.declared.back.Back.TheVariants.{Plain, Split, Drop}
use Rattle.im_restart_undo.specs.GoingBeside.{BackKept, HasSplit, IsGoingBeside, TakenBeside}
use Rattle.im_restart_undo.specs.Planning.{CanBack, DropsFor, EmptiesLeaf, IsOutOf, SplitsFor}
use Rattle.im_restart_undo.specs.Undoing.{CompensateKept, HasMadeRoom, IsGoing, IsToUndo, SplitKept, TakesIt, UsesUp, WantsRoom}
use Rattle.im_restart_undo.proofs.Closed.{closed_beside, kept_closed, out_of_none, settled_pages_are, taken_closed}
use Rattle.im_restart_undo.proofs.Composing.{behind_split, drop_kept, late_refused, plan_then, split_refused, to_undo_behind, to_undo_on}
use Rattle.im_restart_undo.proofs.Ends.{no_capacity, never_short}
use Rattle.im_restart_undo.proofs.Growth.{going_images, going_ready}
use Rattle.im_restart_undo.proofs.LastKeys.{going_behind, may_empty}
use Rattle.im_restart_undo.proofs.StructureChanges.{emptied_kept, emptied_none, may_change, settled_here, split_kept}

-- ---- the record by its kind

-- The record dropped a key, and the plan is the split of its leaf.
pub record IsSplitOf (pages : AllPages) (w : What) (plan : SplitPlan) : Type 0 where
  pub key : Key
  pub rid : ℕ
  pub same : w ≡ whats.DeleteKey key rid
  pub planned : Planned false pages key None plan.images plan.leaf
  pub some : 1 ≤ length plan.images

pub split_of : (pages : AllPages) (w : What) (plan : SplitPlan) → SplitsFor pages w plan → IsSplitOf pages w plan
split_of pages (whats.DeleteKey k i) plan is = record { key = k; rid = i; same = refl; planned = is.0; some = is.1 }
split_of pages (whats.InsertKey k i) plan is = absurd is
split_of pages (whats.UndoInsert k i) plan is = absurd is
split_of pages (whats.UndoDelete k i) plan is = absurd is
split_of pages (whats.Smo x y) plan is = absurd is
split_of pages (whats.UndoSmo y) plan is = absurd is
split_of pages whats.DummyClr plan is = absurd is
split_of pages whats.Commit plan is = absurd is
split_of pages whats.End plan is = absurd is
split_of pages (whats.Image c) plan is = absurd is
split_of pages (whats.Checkpoint n a x) plan is = absurd is
split_of pages whats.Unreadable plan is = absurd is

-- its leaf lacks room for it
pub split_lacks : (pages : AllPages) (w : What) (plan : SplitPlan) → SplitsFor pages w plan → WantsRoom (λ p. (pages p).body) w
split_lacks pages w plan is = let parts = split_of pages w plan is in subst (λ (x : What). WantsRoom (λ p. (pages p).body) x) (sym parts.same) (parts.planned.lacks parts.some)

-- The record put a key, which is the only one of its leaf.
pub record IsDropOf (pages : AllPages) (w : What) (p : ℕ) (images : List Numbered) : Type 0 where
  pub key : Key
  pub rid : ℕ
  pub same : w ≡ whats.InsertKey key rid
  pub leaf : EmptiesLeaf pages key p images

pub drop_of : (pages : AllPages) (w : What) (p : ℕ) (images : List Numbered) → DropsFor pages w p images → IsDropOf pages w p images
drop_of pages (whats.InsertKey k i) p images is = record { key = k; rid = i; same = refl; leaf = is }
drop_of pages (whats.DeleteKey k i) p images is = absurd is
drop_of pages (whats.UndoInsert k i) p images is = absurd is
drop_of pages (whats.UndoDelete k i) p images is = absurd is
drop_of pages (whats.Smo x y) p images is = absurd is
drop_of pages (whats.UndoSmo y) p images is = absurd is
drop_of pages whats.DummyClr p images is = absurd is
drop_of pages whats.Commit p images is = absurd is
drop_of pages whats.End p images is = absurd is
drop_of pages (whats.Image c) p images is = absurd is
drop_of pages (whats.Checkpoint n a x) p images is = absurd is
drop_of pages whats.Unreadable p images is = absurd is

-- the page takes it back
pub drop_takes : (pages : AllPages) (w : What) (p : ℕ) (images : List Numbered) → DropsFor pages w p images → TakesIt (λ q. (pages q).body) p w
drop_takes pages w p images is = let parts = drop_of pages w p images is in subst (λ (x : What). TakesIt (λ q. (pages q).body) p x) (sym parts.same) parts.leaf.leaf

module _ {D : Type 0} (d : Ghosts D) (b : Base) (base : ℕ) where
  module _ (s : Writer) (e t : ℕ) (entry : Entry) (old : D) (last undo_next : ℕ) (start : PageWriter) (g : IsGoing d b base s e t last undo_next start old) (to : IsToUndo d b base s t entry) where
    -- ---- after a split

    module _ (plan : SplitPlan) (splits : SplitsFor (settled_pages b s) (what_of entry) plan) (u : ℕ) (owner : u ≡ t) (v : PageWriter) (mid : D) where
      parts : IsSplitOf (settled_pages b s) (what_of entry) plan
      parts = split_of (settled_pages b s) (what_of entry) plan splits

      split_so : (r : Result ℕ Fault) → (MayChange d b base s e plan.images u last undo_next start old → ChangeKept d b base s e plan.images u undo_next old v mid r) → SplitKept d b base s e t undo_next parts.key plan.leaf old v mid r
      split_so r run =
          split_kept d b base s e t last undo_next start old g parts.key plan.images plan.leaf parts.planned parts.some v mid r
          (subst (λ (n : ℕ). MayChange d b base s e plan.images n last undo_next start old → ChangeKept d b base s e plan.images n undo_next old v mid r) owner run
          (may_change d b base s e t last undo_next start old g (settled_pages b s) plan.images (settled_here d b base s e t last undo_next start old g) parts.some parts.planned.good parts.planned.same parts.planned.ways))

      lacks : WantsRoom (bodies s) (what_of entry)
      lacks = subst (λ (pages : Pages). WantsRoom pages (what_of entry)) (sym (settled_here d b base s e t last undo_next start old g)) (split_lacks (settled_pages b s) (what_of entry) plan splits)

      pub no_split : (f : Fault) (result : Result ℕ Fault) → IsErrAnd result (λ x. x ≡ f) → Logs d true mild start old v mid (Some f)
          → (MayChange d b base s e plan.images u last undo_next start old → ChangeKept d b base s e plan.images u undo_next old v mid (Err f)) → CompensateKept d b base s e t entry old v mid result
      no_split f result here one run =
          split_refused d b base s e t entry old undo_next parts.key plan.leaf v mid f result here lacks (no_capacity d {A = ℕ} ⊥ (Err f) refl one) (split_so (Err f) run)

      module _ (l : ℕ) (run : MayChange d b base s e plan.images u last undo_next start old → ChangeKept d b base s e plan.images u undo_next old v mid (Ok l)) (w : PageWriter) (new : D) where
        room : HasMadeRoom d b base s e t l undo_next parts.key plan.leaf old v mid
        room = (split_so (Ok l) run).sound

        going : IsGoing d b base room.made.now e t l undo_next v mid
        going = room.made.goes.going

        takes : TakesIt (settled b room.made.now.log) plan.leaf (what_of entry)
        takes = subst (λ (x : What). TakesIt (settled b room.made.now.log) plan.leaf x) (sym parts.same)
            (subst (λ (pages : Pages). IsOnWay pages 0 parts.key plan.leaf × HasRoom true (pages plan.leaf).entries (parts.key, 0)) (settled_here d b base room.made.now e t l undo_next v mid going) (room.way, room.room))

        out : IsNotIn plan.leaf (open_smo room.made.now.log)
        out = subst (λ (x : History). IsNotIn plan.leaf x) (sym going.can.closed) tt

        -- what the compensation keeps on the leaf that the plan names
        abbrev Compensates : Result ℕ Fault → Type 0
        Compensates r = (now : Writer) → IsGoingBeside d b base now e t l undo_next v mid → IsToUndo d b base now t entry → TakesIt (settled b now.log) plan.leaf (what_of entry) → IsNotIn plan.leaf (open_smo now.log)
            → BackKept d b base now e t entry (Plain plan.leaf) mid w new r

        compensated : (r : Result ℕ Fault) → Compensates r → BackKept d b base room.made.now e t entry (Plain plan.leaf) mid w new r
        compensated r kept = kept room.made.now (closed_beside d b base room.made.now e t l undo_next v mid going) (to_undo_behind d b base s e t entry old last l undo_next start g to parts.key plan.leaf v mid room w new) takes out

        pub back_behind_split : (m : ℕ) → Compensates (Ok m) → CompensateKept d b base s e t entry old w new (Ok m)
        back_behind_split m kept =
            behind_split d b base s e t entry old last l undo_next start g to parts.key plan.leaf v mid room w new m
            (kept_closed d b base room.made.now e t entry going.can.closed mid w new (Plain plan.leaf) (Ok m) tt tt (compensated (Ok m) kept))

        pub refused_behind_split : (f answer : Fault) → Logs d false no_page v mid w new (Some f) → (f ≡ Memory → answer ≡ Failed) → (f ≢ Memory → answer ≡ f) → Compensates (Err f) → CompensateKept d b base s e t entry old w new (Err answer)
        refused_behind_split f answer one memory others kept =
            late_refused d b base s e t entry old last l undo_next start g to parts.key plan.leaf v mid room w new f answer one memory others
            (kept_closed d b base room.made.now e t entry going.can.closed mid w new (Plain plan.leaf) (Err f) (never_short d {A = ℕ} (WantsRoom (bodies room.made.now) (what_of entry)) (Err f) refl one) (no_capacity d {A = ℕ} (UsesUp (bodies room.made.now) (what_of entry)) (Err f) refl one) (compensated (Err f) kept))

    -- ---- before a drop

    module _ (p : ℕ) (images : List Numbered) (drops : DropsFor (settled_pages b s) (what_of entry) p images) (l : ℕ) (v : PageWriter) (mid : D) (taken : TakenBeside d b base s e t entry (Plain p) l old v mid) (u m : ℕ) (owner : u ≡ t) (prev : m ≡ prev_of entry) where
      made : IsDropOf (settled_pages b s) (what_of entry) p images
      made = drop_of (settled_pages b s) (what_of entry) p images drops

      may_drop : MayChange d b base taken.now e images t l (prev_of entry) v mid
      may_drop = may_empty d b base s e t last undo_next start old g entry to made.key made.rid made.same p images made.leaf l v mid taken

      going_on : IsGoing d b base taken.now e t l (prev_of entry) v mid
      going_on = going_behind d b base s e t last undo_next start old g entry to made.key made.rid made.same p images made.leaf l v mid taken

      pub drop_as : (w : PageWriter) (new : D) (r : Result ℕ Fault) → (MayChange d b base taken.now e images u l m v mid → ChangeKept d b base taken.now e images u m mid w new r) → ChangeKept d b base taken.now e images t (prev_of entry) mid w new r
      drop_as w new r run =
          subst (λ (n : ℕ). MayChange d b base taken.now e images n l (prev_of entry) v mid → ChangeKept d b base taken.now e images n (prev_of entry) mid w new r) owner
          (subst (λ (n : ℕ). MayChange d b base taken.now e images u l n v mid → ChangeKept d b base taken.now e images u n mid w new r) prev run) may_drop

      pub back_before_drop : (w : PageWriter) (new : D) (r : Result ℕ Fault) → IfErr r (λ f. (f ≡ Memory) ⊎ (f ≡ Capacity) → ⊥) → ((now : Writer) → MayChange d b base now e images u l m v mid → ChangeKept d b base now e images u m mid w new r)
          → CompensateKept d b base s e t entry old w new r
      unfolding taken_closed
      back_before_drop w new r never run =
          drop_kept d b base s e t entry old l v mid w new (taken_closed d b base s e t entry g.can.closed old v mid (Plain p) l taken) r never
          (emptied_kept d b base taken.now e t l (prev_of entry) v mid going_on images w new r (drop_as w new r (run taken.now)))

      -- the leaf stays
      pub back_without_drop : (w : PageWriter) (new : D) (f : Fault) → f ≡ Memory → Logs d true mild v mid w new (Some f) → ((now : Writer) → MayChange d b base now e images u l m v mid → ChangeKept d b base now e images u m mid w new (Err f))
          → CompensateKept d b base s e t entry old w new (Ok l)
      unfolding taken_closed
      back_without_drop w new f is one run =
          let here : Logs d true mild v mid w new (Some Memory) = subst (λ (x : Fault). Logs d true mild v mid w new (Some x)) is one in
          let stays : Evicted d b base taken.now mid w new = here.ends.1.goes b base taken.now going_on.stands (going_ready d b base taken.now e t l (prev_of entry) v mid going_on) in
          drop_kept d b base s e t entry old l v mid w new (taken_closed d b base s e t entry g.can.closed old v mid (Plain p) l taken) (Ok l) tt
          (emptied_none d b base taken.now e t l (prev_of entry) v mid going_on w new stays (drop_as w new (Err f) (run taken.now)).stops)

-- ---- any plan, where no structure change is open

lacks_of : (pages : AllPages) (w : What) (back : Back) → CanBack pages w back → HasSplit back → WantsRoom (λ p. (pages p).body) w
lacks_of pages w (Plain p) can is = absurd is
lacks_of pages w (Split plan) can is = split_lacks pages w plan can
lacks_of pages w (Drop p images) can is = absurd is

module _ {D : Type 0} (d : Ghosts D) (b : Base) (base : ℕ) where
  pub back_closed : (s : Writer) (e t : ℕ) (entry : Entry) (old : D) (last undo_next : ℕ) (start : PageWriter) → IsGoing d b base s e t last undo_next start old → IsToUndo d b base s t entry
      → (back : Back) (v : PageWriter) (mid : D) → Evicted d b base s old v mid → CanBack (pages_of s) (what_of entry) back → (w : PageWriter) (new : D) (result : Result ℕ Fault) → Logs d true mild v mid w new (fault_of result)
      → ((now : Writer) → IsGoingBeside d b base now e t last undo_next v mid → IsToUndo d b base now t entry → CanBack (settled_pages b now) (what_of entry) back → IsOutOf (open_smo now.log) back → BackKept d b base now e t entry back mid w new result)
      → CompensateKept d b base s e t entry old w new result
  back_closed s e t entry old last undo_next start g to back v mid at planned w new result one run =
      let now : Writer = at.now in
      let going : IsGoing d b base now e t last undo_next v mid = going_images d b base s e t last undo_next start old g old now v mid at.on in
      let same : settled_pages b now ≡ pages_of s = settled_pages_are d b base now e t last undo_next v mid going ∙ pages_stay b s now at.on.goes.keeps in
      let can : CanBack (settled_pages b now) (what_of entry) back = subst (λ (pages : AllPages). CanBack pages (what_of entry) back) (sym same) planned in
      let kept : BackKept d b base now e t entry back mid w new result =
      run now (closed_beside d b base now e t last undo_next v mid going) (to_undo_on d b base s e t last undo_next start old g entry now v mid at.on to) can (out_of_none (open_smo now.log) back going.can.closed) in
      plan_then d b base s e t entry old last undo_next start v mid w new g now at.on result
      (kept_closed d b base now e t entry going.can.closed mid w new back result
      (again_on result (λ f. f ≡ Memory) (HasSplit back) (WantsRoom (bodies now) (what_of entry)) kept.short
      (λ is. subst (λ (pages : Pages). WantsRoom pages (what_of entry)) (sym (settled_here d b base now e t last undo_next v mid going)) (lacks_of (settled_pages b now) (what_of entry) back can is)))
      (no_capacity d (UsesUp (bodies now) (what_of entry)) result refl one) kept)
