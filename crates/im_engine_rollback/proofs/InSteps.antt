-- One step of a rollback in a store whose structure changes are made page by page.
use Rattle.std.proofs.Common.{◌≡◌, ◌≢◌, ℕ, zero, suc, Bool, true, false, List, [], ◌∷◌, ◌++◌, Option, None, Some, Result, Ok, Err, refl, sym, ◌∙◌, ap, subst, append_assoc}
use Rattle.std.specs.Prelude.{IsErrAnd}
use Rattle.im_base_types.specs.declared.fault.Fault.{Fault}
use Rattle.im_base_types.specs.declared.fault.Fault.TheVariants.{Device, Failed, LogFull, Memory, NotAStore}
use Rattle.im_base_types.specs.Pages.{Body}
use Rattle.im_base_types.specs.Records.{Logged}
use Rattle.im_theory_log.specs.Copies.{AreImages, GrowsByImages, IsImage}
use Rattle.im_theory_log.specs.Histories.{Base, History, changes_page}
use Rattle.im_theory_log.specs.Lawful.{IsLawful}
use Rattle.im_theory_log.specs.Structure.{settled}
use Rattle.im_theory_log.specs.Writer.{Writer}
use Rattle.im_theory_tree.specs.Theory.{page_tree}
use Rattle.im_theory_log.proofs.Images.{lawful_images}
use Rattle.im_base_disk.specs.declared.disk.Disk.{Ghosts}
use Rattle.im_log.specs.Whats.{what_of}
use Rattle.im_log.proofs.Above.{front_then}
use Rattle.im_page_writer.specs.declared.page_writer.PageWriter.{PageWriter}
use Rattle.im_page_writer.specs.PageWriter.{Evicted, GoesOn, StandsAs}
use Rattle.im_page_writer.specs.Outcome.{mild, Logs, LogEnds}
use Rattle.im_page_writer.proofs.Writers.{goes_on_then}
use Rattle.im_tree_search.specs.declared.change_beside.Beside.{Beside}
use Rattle.im_tree_search.specs.declared.sight.Sight.{Sight}
use Rattle.im_tree_search.specs.declared.sight.Sight.TheVariants.{Seen, Hidden}
use Rattle.im_smo_pages.specs.Images.{Numbered, image_at}
use Rattle.im_smo_log.specs.declared.change.Change.{Change}
use Rattle.im_smo_log.specs.BetweenSteps.{AreBeside}
use Rattle.im_smo_log.specs.Logged.{smo_at}
use Rattle.im_smo_log.specs.Marks.{marked_if}
use Rattle.im_smo_log.specs.Stepping.{Goes, Stepped}
use Rattle.im_smo_log.specs.Under.{IsUnderWay, is_structural}
use Rattle.im_smo_log.proofs.BetweenSteps.{pages_keep_settled}
use Rattle.im_smo_actions.specs.declared.begun_change.BegunChange.{BegunChange}
use Rattle.im_smo_actions.specs.declared.planned_change.PlannedChange.{PlannedChange}
use Rattle.im_smo_actions.specs.GoingBeside.{settled_pages}
use Rattle.im_smo_actions.proofs.Standing.{stands_ready}
use Rattle.im_restart_undo.specs.GoingBeside.{IsGoingBeside}
use Rattle.im_restart_undo.specs.Planning.{NeedsChange}
use Rattle.im_restart_undo.proofs.Beside.{left_behind, settled_longer}
use Rattle.im_engine_rollback.specs.declared.undone.Undone.{Undone}
use Rattle.im_engine_rollback.specs.declared.undone_beside.UndoneBeside.{UndoneBeside}
use Rattle.im_engine_rollback.specs.declared.undone_beside.UndoneBeside.TheVariants as turns
use Rattle.im_engine_rollback.specs.declared.undone_in_steps.UndoneInSteps.{UndoneInSteps}
use Rattle.im_engine_rollback.specs.declared.undone_in_steps.UndoneInSteps.TheVariants as steps
use Rattle.im_engine_rollback.specs.Ends.{may_turn, TurnEnds, TurnOutcome}
use Rattle.im_engine_rollback.specs.InSteps.{FirstLogged, InStepsKept, SplitBegunKept}
use Rattle.im_engine_rollback.specs.SplitsBack.{IsSplitBack}
use Rattle.im_engine_rollback.specs.TurnsBeside.{DropsBehind, SplitsFirst, TurnBesideKept}
use Rattle.im_engine_rollback.proofs.LoggingBack.{drop_needs, split_needs}
use Rattle.im_engine_rollback.proofs.SplitsBack.{others_leave_splits_back, pages_leave_splits_back, splits_back_begin}

-- ---- Images

-- they are beside any change
images_beside : (t : ℕ) (xs : List Numbered) (b : Base) (images older : History) → t ≢ 0 → AreImages b images older → AreBeside t xs images
images_beside t xs b [] older some all = tt
images_beside t xs b (r ∷ images) older some all = (
  record {
    other = λ mine. some (sym mine ∙ all.0.no_owner);
    plain = ap is_structural all.0.what;
    apart = λ change. absurd (let clash : true ≡ false = sym change ∙ ap changes_page all.0.what in cc clash);
  },
  images_beside t xs b images older some all.1,
)

images_then : (b : Base) (more some older : History) → AreImages b some older → AreImages b more (some ++ older) → AreImages b (more ++ some) older
images_then b [] some older first next = first
images_then b (r ∷ more) some older first next = (subst (λ (l : History). IsImage b r l) (sym (append_assoc more some older)) next.0, images_then b more some older first next.1)

-- once and then again
grows_both : (b : Base) (one two three : History) → GrowsByImages b one two → GrowsByImages b two three → GrowsByImages b one three
grows_both b one two three first next = record {
  images = next.images ++ first.images;
  is = next.is ∙ ap (λ (l : History). next.images ++ l) first.is ∙ sym (append_assoc next.images first.images one);
  all = images_then b next.images first.images one first.all (subst (λ (l : History). AreImages b next.images l) first.is next.all);
}

-- ---- a change that begins

-- as it was planned
pub goes_first : (b : Base) (c : Change) (t undo_next last : ℕ) (images : List Numbered) (log : History) → (c.images ≡ images) → (c.done ≡ zero) → c.transaction ≡ t → c.last ≡ last → c.undo_next ≡ undo_next → IsUnderWay b t undo_next images 0 last log → Goes b c log
goes_first b c t undo_next last images log pages none owner at leads way =
    subst (λ (x : ℕ). IsUnderWay b x c.undo_next c.images c.done c.last log) (sym owner)
    (subst (λ (x : ℕ). IsUnderWay b t x c.images c.done c.last log) (sym leads)
    (subst (λ (x : List Numbered). IsUnderWay b t undo_next x c.done c.last log) (sym pages)
    (subst (λ (x : ℕ). IsUnderWay b t undo_next images x c.last log) (sym none) (subst (λ (x : ℕ). IsUnderWay b t undo_next images 0 x log) (sym at) way))))

module _ {D : Type 0} (d : Ghosts D) (b : Base) (base : ℕ) where
  -- its first page
  module _ (s : Writer) (e : ℕ) (start : PageWriter) (old : D) (stands : StandsAs d b base s start old) (over : s.redo_end ≡ Some e) (c : Change) (none : c.done ≡ zero) (goes : Goes b c s.log) (back : IsSplitBack b c.undo_next c.images s.log)
      (new : BegunChange) (w : PageWriter) (disk : D) (step : Stepped d b base s c true new.change w disk) (count : new.count ≡ (settled b s.log 0).leftmost) where
    abbrev page : ℕ
    page = (image_at c.images c.done).0

    abbrev after : Body
    after = marked_if true (image_at c.images c.done).1.body

    abbrev was : Body
    was = (s.pages page).page.body

    abbrev record_is : Logged
    record_is = smo_at new.change.last c.transaction c.last page was after

    abbrev before : History
    before = step.logged.before.log

    copies : GrowsByImages b s.log before
    copies = step.logged.keeps.log

    way : IsUnderWay b c.transaction c.undo_next c.images (suc c.done) new.change.last (record_is ∷ before)
    way = step.goes goes

    law : IsLawful b page_tree (record_is ∷ before)
    law = way.lawful

    goes_new : Goes b new.change (record_is ∷ before)
    goes_new =
        subst (λ (x : ℕ). IsUnderWay b x new.change.undo_next new.change.images new.change.done new.change.last (record_is ∷ before)) (sym step.owner)
        (subst (λ (x : ℕ). IsUnderWay b c.transaction x new.change.images new.change.done new.change.last (record_is ∷ before)) (sym step.leads)
        (subst (λ (x : List Numbered). IsUnderWay b c.transaction c.undo_next x new.change.done new.change.last (record_is ∷ before)) (sym step.images)
        (subst (λ (x : ℕ). IsUnderWay b c.transaction c.undo_next c.images x new.change.last (record_is ∷ before)) (sym step.done) way)))

    back_before : IsSplitBack b c.undo_next c.images before
    back_before =
        subst (λ (l : History). IsSplitBack b c.undo_next c.images l) (sym copies.is)
        (others_leave_splits_back b c.transaction c.undo_next c.images c.done c.last copies.images s.log goes (lawful_images b page_tree copies.images s.log copies.all goes.lawful) (images_beside c.transaction c.images b copies.images s.log goes.owner copies.all) back)

    back_new : IsSplitBack b c.undo_next new.change.images (record_is ∷ before)
    back_new = subst (λ (x : List Numbered). IsSplitBack b c.undo_next x (record_is ∷ before)) (sym step.images) (pages_leave_splits_back b c.undo_next c.images record_is before was after law refl back_before)

    count_new : new.count ≡ (settled b (record_is ∷ before) 0).leftmost
    count_new =
        count ∙ sym (ap (λ (f : ℕ → Body). (f 0).leftmost) (settled_longer b 0 s.log before copies)) ∙ sym (ap (λ (g : Body). g.leftmost) (pages_keep_settled b record_is before was after law refl 0))

    pub first_logged : FirstLogged d b base s e c.transaction c.last c.undo_next new w disk
    first_logged = record {
      now = _;
      stands = step.logged.stands;
      over = step.logged.keeps.redo_end ∙ over;
      durable = front_then s.durable step.logged.before.durable step.logged.durable step.logged.keeps.durable step.logged.grows;
      before = before;
      images = copies;
      page = page;
      was = was;
      new = after;
      log = refl;
      marked = refl;
      goes = goes_new;
      by = record { owner = step.owner; leads = step.leads; done = step.done ∙ ap suc none };
      back = back_new;
      count = count_new;
    }

  -- of the transaction that asked for it
  pub first_of : (s : Writer) (e t last undo_next : ℕ) (c : Change) (new : BegunChange) (w : PageWriter) (disk : D) → c.transaction ≡ t → c.last ≡ last → c.undo_next ≡ undo_next → FirstLogged d b base s e c.transaction c.last c.undo_next new w disk
      → FirstLogged d b base s e t last undo_next new w disk
  first_of s e t last undo_next c new w disk owner at leads is =
      subst (λ (x : ℕ). FirstLogged d b base s e x last undo_next new w disk) owner
      (subst (λ (x : ℕ). FirstLogged d b base s e c.transaction x undo_next new w disk) at (subst (λ (x : ℕ). FirstLogged d b base s e c.transaction c.last x new w disk) leads is))

  -- a split that begins as it was planned
  pub split_first : (s : Writer) (e : ℕ) (start : PageWriter) (old : D) → StandsAs d b base s start old → s.redo_end ≡ Some e → (t last undo_next : ℕ) (plan : PlannedChange) (c : Change) → (c.images ≡ plan.images) → (c.done ≡ zero) → c.transaction ≡ t → c.last ≡ last → c.undo_next ≡ undo_next
      → IsUnderWay b t undo_next plan.images 0 last s.log → IsSplitBack b undo_next plan.images s.log → (new : BegunChange) (w : PageWriter) (disk : D) → Stepped d b base s c true new.change w disk → new.count ≡ (settled b s.log 0).leftmost
      → FirstLogged d b base s e t last undo_next new w disk
  split_first s e start old stands over t last undo_next plan c pages none owner at leads way back new w disk step count =
      first_of s e t last undo_next c new w disk owner at leads
      (first_logged s e start old stands over c none (goes_first b c t undo_next last plan.images s.log pages none owner at leads way)
      (subst (λ (xs : List Numbered). IsSplitBack b c.undo_next xs s.log) (sym pages) (subst (λ (n : ℕ). IsSplitBack b n plan.images s.log) (sym leads) back)) new w disk step count)

  -- after calls that logged Images
  first_behind : (s : Writer) (e t last undo_next : ℕ) (old : D) (now : Writer) (v : PageWriter) (mid : D) → GoesOn d b base s old now v mid → (new : BegunChange) (w : PageWriter) (disk : D) → FirstLogged d b base now e t last undo_next new w disk
      → FirstLogged d b base s e t last undo_next new w disk
  first_behind s e t last undo_next old now v mid on new w disk is = record {
    now = is.now;
    stands = is.stands;
    over = is.over;
    durable = front_then s.durable now.durable is.now.durable on.goes.keeps.durable is.durable;
    before = is.before;
    images = grows_both b s.log now.log is.before on.goes.keeps.log is.images;
    page = is.page;
    was = is.was;
    new = is.new;
    log = is.log;
    marked = is.marked;
    goes = is.goes;
    by = is.by;
    back = is.back;
    count = is.count;
  }

  -- ---- the turn, so far as it goes

  module _ (s : Writer) (e t last undo_next : ℕ) (beside : Beside) (start : PageWriter) (old : D) (g : IsGoingBeside d b base s e t last undo_next start old) (v : PageWriter) (mid : D) where
    pub step_hidden : (ends : Bool) → TurnBesideKept d b base ends s e t last undo_next beside old v mid (Ok Hidden) → InStepsKept d b base ends s e t last undo_next beside old v mid (Ok Hidden)
    step_hidden ends k = record { sound = k.sound; stops = k.stops; again = tt; short = tt; used_up = tt; alone = tt; early = tt }

    pub step_refused : (ends : Bool) → (f : Fault) → TurnBesideKept d b base ends s e t last undo_next beside old v mid (Err f) → InStepsKept d b base ends s e t last undo_next beside old v mid (Err f)
    step_refused ends f k = record { sound = k.sound; stops = k.stops; again = k.again; short = k.short; used_up = k.used_up; alone = k.alone; early = k.early }

    pub step_made : (ends : Bool) (undone : Undone) → TurnBesideKept d b base ends s e t last undo_next beside old v mid (Ok (Seen (turns.Made undone))) → InStepsKept d b base ends s e t last undo_next beside old v mid (Ok (Seen (steps.Made undone)))
    step_made ends undone k = record { sound = k.sound; stops = k.stops; again = tt; short = tt; used_up = tt; alone = tt; early = tt }

    pub step_drops : (ends : Bool) → (plan : PlannedChange) (l n : ℕ) (begun : BegunChange) → (begun.change.images ≡ plan.images) → (begun.change.done ≡ zero) → begun.change.transaction ≡ t → begun.change.last ≡ l → begun.change.undo_next ≡ n → begun.count ≡ plan.count
        → TurnBesideKept d b base ends s e t last undo_next beside old v mid (Ok (Seen (turns.Drops plan l n))) → InStepsKept d b base ends s e t last undo_next beside old v mid (Ok (Seen (steps.Dropping begun)))
    step_drops ends plan l n begun pages none owner at leads count k =
        let drops : DropsBehind d b base s e t begun.change.last n beside k.sound.entry plan old v mid = subst (λ (x : ℕ). DropsBehind d b base s e t x n beside k.sound.entry plan old v mid) (sym at) k.sound.drops in
        record {
          sound = record {
            entry = k.sound.entry;
            next = k.sound.next;
            needs = drop_needs (settled_pages b s) (what_of k.sound.entry) drops.page plan.images drops.planned.can;
            alone = drops.planned.clear;
            page = drops.page;
            taken = drops.taken;
            goes = goes_first b begun.change t n begun.change.last plan.images drops.taken.now.log pages none owner refl leads drops.begins;
            by = record { owner = owner; leads = leads ∙ drops.leads; done = none };
            count = count ∙ drops.count;
          };
          stops = k.stops;
          again = tt;
          short = tt;
          used_up = tt;
          alone = tt;
          early = tt;
        }

    -- ---- a split begins

    module _ (ends : Bool) (plan : PlannedChange) (k : TurnBesideKept d b base ends s e t last undo_next beside old v mid (Ok (Seen (turns.Splits plan)))) where
      abbrev splits : SplitsFirst d b base s e t last undo_next beside k.sound.entry plan old v mid
      splits = k.sound.splits

      pub split_stands : StandsAs d b base splits.now v mid
      split_stands = record { working = splits.on.working; writing = splits.on.goes.writing; known = splits.on.known }

      pub split_over : splits.now.redo_end ≡ Some e
      split_over = splits.on.goes.keeps.redo_end ∙ g.over

      pub split_back : IsSplitBack b undo_next plan.images splits.now.log
      split_back = splits_back_begin d b base s e t last undo_next beside k.sound.entry plan start old v mid g k.sound.next.next splits

      needs : NeedsChange (settled b s.log) (what_of k.sound.entry)
      needs = split_needs (settled_pages b s) (what_of k.sound.entry) (record { images = plan.images; leaf = splits.leaf }) splits.planned.can

      module _ (w : PageWriter) (new : D) where
        pub step_splits : (begun : BegunChange) → SplitBegunKept d b base splits.now e t last undo_next mid w new (Ok begun) → InStepsKept d b base ends s e t last undo_next beside old w new (Ok (Seen (steps.Splitting begun)))
        step_splits begun kept = record {
          sound = record { entry = k.sound.entry; next = k.sound.next; needs = needs; alone = splits.planned.clear; first = first_behind s e t last undo_next old splits.now v mid splits.on begun w new kept.sound };
          stops = left_behind d b base s old splits.now v mid splits.on t g.lawful new kept.stops;
          again = tt;
          short = tt;
          used_up = tt;
          alone = tt;
          early = tt;
        }

        pub step_not_split : (f : Fault) → Logs d false mild v mid w new (Some f) → SplitBegunKept d b base splits.now e t last undo_next mid w new (Err f) → InStepsKept d b base ends s e t last undo_next beside old w new (Err f)
        step_not_split f one kept = record {
          sound = kept.sound;
          stops = left_behind d b base s old splits.now v mid splits.on t g.lawful new kept.stops;
          again = λ is. again (subst (λ (x : Fault). LogEnds d false mild v mid w new (Some x)) is one.ends);
          short = λ is. record { entry = k.sound.entry; next = k.sound.next.next; needs = needs };
          used_up = λ is. absurd (let clash = (subst (λ (x : Fault). LogEnds d false mild v mid w new (Some x)) is one.ends).0 in let never : ⊥ = cc clash in never);
          alone = λ _. splits.planned.clear;
          early = λ is. let ends = subst (λ (x : Fault). LogEnds d false mild v mid w new (Some x)) is one.ends in let clash : false ≡ true = sym splits.on.working ∙ ends.0 in cc clash;
        }
          where
            again : LogEnds d false mild v mid w new (Some Memory) → Evicted d b base s old w new
            again ends =
                let ev = ends.1.goes b base splits.now split_stands (stands_ready d b base splits.now e v mid split_stands split_over) in
                record { now = ev.now; on = goes_on_then d b base s old splits.now v mid splits.on ev.now w new ev.on }

  -- ---- refusals that are handed on

  module _ (s : Writer) (e t last undo_next : ℕ) (beside : Beside) (old : D) (w : PageWriter) (new : D) (f : Fault) where
    pub step_on : (ends : Bool) → (result : Result (Sight UndoneInSteps) Fault) → IsErrAnd result (λ x. x ≡ f) → InStepsKept d b base ends s e t last undo_next beside old w new (Err f) → InStepsKept d b base ends s e t last undo_next beside old w new result
    step_on ends (Ok a) is k = absurd is
    step_on ends (Err x) is k = subst (λ (y : Fault). InStepsKept d b base ends s e t last undo_next beside old w new (Err y)) (sym is) k

  pub begun_on : (s : Writer) (e t last undo_next : ℕ) (old : D) (w : PageWriter) (new : D) (f : Fault) (result : Result BegunChange Fault) → IsErrAnd result (λ x. x ≡ f) → SplitBegunKept d b base s e t last undo_next old w new (Err f)
      → SplitBegunKept d b base s e t last undo_next old w new result
  begun_on s e t last undo_next old w new f (Ok a) is k = absurd is
  begun_on s e t last undo_next old w new f (Err x) is k = subst (λ (y : Fault). SplitBegunKept d b base s e t last undo_next old w new (Err y)) (sym is) k

-- what is not seen is hidden
pub seen_not : (sight : Sight UndoneBeside) → ((undone : UndoneBeside) → sight ≡ Seen undone → ⊥) → sight ≡ Hidden
seen_not (Seen undone) not = absurd (not undone refl)
seen_not Hidden not = refl

-- ---- how it ends

module _ {D : Type 0} (d : Ghosts D) where
  page_ends : (v : PageWriter) (old : D) (w : PageWriter) (new : D) (why : Option Fault) → v.failed ≡ false → LogEnds d false mild v old w new why → TurnEnds d may_turn v w new why
  page_ends v old w new None works one = one
  page_ends v old w new (Some Failed) works one = absurd (let clash : false ≡ true = sym works ∙ one.0 in let never : ⊥ = cc clash in never)
  page_ends v old w new (Some NotAStore) works one = (one.1.began, one.1.alive)
  page_ends v old w new (Some Device) works one = one
  page_ends v old w new (Some LogFull) works one = (refl, one.0, one.1, one.2)
  page_ends v old w new (Some Memory) works one = (refl, record { began = one.1.began; works = one.1.works; alive = one.1.alive })
  page_ends v old w new (Some e) works one = absurd (let clash = one.0 in let never : ⊥ = cc clash in never)

  -- a page is logged
  pub page_turn : {v : PageWriter} {old : D} {w : PageWriter} {new : D} {why : Option Fault} → v.failed ≡ false → Logs d false mild v old w new why → TurnOutcome d may_turn v w new why
  page_turn {v} {old} {w} {new} {why} works one = record { ready = one.ready; frames = one.frames; ends = page_ends v old w new why works one.ends }
