-- A key record that was planned back beside a structure change, and what of its plan is logged at once.
use Rattle.std.proofs.Common.{◌≡◌, ◌≢◌, ℕ, Bool, true, false, List, [], None, Some, Result, Ok, Err, refl, sym, ◌∙◌, ap, subst, inl, inr, ◌==◌}
use Rattle.std.proofs.lemmas.Bool.{cases_eq, cond-true, cond-false, eq-eqb, ne_eqb}
use Rattle.im_base_types.specs.declared.fault.Fault.{Fault}
use Rattle.im_base_types.specs.declared.fault.Fault.TheVariants.{Capacity, Failed, Memory, NotAStore}
use Rattle.im_base_types.specs.Pages.{Body, Entry as PageEntry}
use Rattle.im_base_types.specs.Records.{What}
use Rattle.im_theory_log.specs.Copies.{GrowsByImages}
use Rattle.im_theory_log.specs.Histories.{Base}
use Rattle.im_theory_log.specs.Structure.{open_smo, settled}
use Rattle.im_theory_log.specs.Tree.{with_entries}
use Rattle.im_theory_log.specs.Writer.{Writer}
use Rattle.im_theory_log.proofs.Fronts.{has_tree}
use Rattle.im_base_disk.specs.declared.disk.Disk.{Ghosts}
use Rattle.im_log_record.specs.Entry.{Entry, prev_of}
use Rattle.im_log.specs.Whats.{what_of}
use Rattle.im_page_writer.specs.declared.page_writer.PageWriter.{PageWriter}
use Rattle.im_page_writer.specs.PageWriter.{Evicted, StandsAs}
use Rattle.im_page_writer.specs.Outcome.{mild, pages_of, AllPages, AreLoaded, HasPages, Logs, Outcome}
use Rattle.im_page_writer.proofs.Outcomes.{pages_here}
use Rattle.im_theory_tree.specs.Good.{IsGoodTree}
use Rattle.im_theory_tree.specs.Levels.{Pages}
use Rattle.im_theory_tree.specs.Theory.{page_tree}
use Rattle.im_theory_tree.specs.Ways.{with_leaf, StandsFor}
use Rattle.im_tree_search.specs.declared.change_beside.Beside.{Beside}
use Rattle.im_tree_search.specs.Levels.{bodies_of}
use Rattle.im_smo_pages.specs.Images.{Numbered, IsRising, held}
use Rattle.im_smo_pages.specs.OnWay.{IsApart}
use Rattle.im_smo_pages.specs.Seen.{bodies}
use Rattle.im_smo_split.specs.declared.split_plan.SplitPlan.{SplitPlan}
use Rattle.im_smo_drop_leaf.specs.Emptied.{emptied}
use Rattle.im_smo_log.specs.Under.{IsUnderWay}
use Rattle.im_smo_log.proofs.Coming.{changes_begin}
use Rattle.im_smo_actions.specs.declared.planned_change.PlannedChange.{PlannedChange}
use Rattle.im_smo_actions.specs.GoingBeside.{settled_pages, IsToldOf}
use Rattle.im_smo_actions.proofs.Changes.{never_failed}
use Rattle.im_smo_actions.proofs.Standing.{stands_bodies, stands_ready}
use Rattle.im_smo_actions.proofs.Told.{deletions_stand, settled_is, splits_stand}
use Rattle.im_restart_analysis.specs.declared.rows.Loser.{Loser}
use Rattle.im_restart_undo.specs.declared.back.Back.TheVariants.{Plain, Split, Drop}
use Rattle.im_restart_undo.specs.GoingBeside.{entries_behind, BackKept, IsGoingBeside, TakenBeside}
use Rattle.im_restart_undo.specs.Planning.{CanBack, DropsFor, IsBack, IsOutOf, NeedsChange, SplitsFor}
use Rattle.im_restart_undo.specs.Undoing.{IsToUndo}
use Rattle.im_restart_undo.proofs.Behind.{drop_of, drop_takes, split_of}
use Rattle.im_restart_undo.proofs.Beside.{beside_images, left_behind, left_beside, open_longer, settled_longer, settled_pages_stay, taken_behind, to_undo_beside}
use Rattle.im_restart_undo.proofs.Closed.{out_of_none}
use Rattle.im_restart_undo.proofs.Ends.{left_reading, no_capacity}
use Rattle.im_restart_undo.proofs.Growth.{left_images, owner_some}
use Rattle.im_restart_undo.proofs.LastKeys.{emptied_behind}
use Rattle.im_engine_rollback.specs.declared.logged_back.LoggedBack.TheVariants as backs
use Rattle.im_engine_rollback.specs.TurnsBeside.{LoggedBackKept}

-- ---- which plans take a structure change

pub split_needs : (pages : AllPages) (w : What) (plan : SplitPlan) → SplitsFor pages w plan → NeedsChange (bodies_of pages) w
split_needs pages w plan is = let parts = split_of pages w plan is in subst (λ (x : What). NeedsChange (bodies_of pages) x) (sym parts.same) (parts.planned.lacks parts.some)

pub drop_needs : (pages : AllPages) (w : What) (p : ℕ) (images : List Numbered) → DropsFor pages w p images → NeedsChange (bodies_of pages) w
drop_needs pages w p images is =
    let parts = drop_of pages w p images is in
    subst (λ (x : What). NeedsChange (bodies_of pages) x) (sym parts.same) (record { page = p; way = parts.leaf.leaf; other = parts.leaf.other; one = parts.leaf.one })

-- the other entries of a leaf change no page count
leftmost_stays : (pages : Pages) (p : ℕ) (es : List PageEntry) → (with_leaf pages p es 0).leftmost ≡ (pages 0).leftmost
leftmost_stays pages p es = elim (cases_eq p 0) [
  | inl here ↦ ap (λ (x : Body). x.leftmost) (cond-true (p == 0) (with_entries (pages p) es) (pages 0) (eq-eqb p 0 here)) ∙ ap (λ (q : ℕ). (pages q).leftmost) here
  | inr other ↦ ap (λ (x : Body). x.leftmost) (cond-false (p == 0) (with_entries (pages p) es) (pages 0) (ne_eqb p 0 other))
]

-- ---- what is logged of a plan

module _ {D : Type 0} (d : Ghosts D) (b : Base) (base : ℕ) where
  -- after a refusal for want of memory all is as it was
  pub evicted_short : {m : Fault → Bool} {v : PageWriter} {old : D} {w : PageWriter} {new : D} (f : Fault) → f ≡ Memory → Outcome d AreLoaded m v old w new (Some f) → (s : Writer) → StandsAs d b base s v old → AreLoaded s → Evicted d b base s old w new
  evicted_short {m} {v} {old} {w} {new} f is one s stands loaded =
      let here : Outcome d AreLoaded m v old w new (Some Memory) = subst (λ (e : Fault). Outcome d AreLoaded m v old w new (Some e)) is one in
      here.ends.1.goes b base s stands loaded

  module _ (s : Writer) (e t last undo_next : ℕ) (beside : Beside) (start : PageWriter) (old : D) (g : IsGoingBeside d b base s e t last undo_next start old) (entry : Entry) (to : IsToUndo d b base s t entry) where
    loaded : AreLoaded s
    loaded = stands_ready d b base s e start old g.stands g.over

    pub has_loaded : HasPages d AreLoaded (pages_of s) start old
    has_loaded = pages_here d b base s start old g.stands loaded

    -- ---- the compensation is all

    pub plain_logged : (page : ℕ) → IsBack (settled_pages b s) beside (what_of entry) (Plain page) → (w : PageWriter) (new : D) (l n : ℕ) → n ≡ prev_of entry → BackKept d b base s e t entry (Plain page) old w new (Ok l)
        → LoggedBackKept d b base s e t last undo_next beside entry old w new (Ok (backs.Taken l n))
    plain_logged page planned w new l n leads k = record {
      sound = record { page = page; planned = planned; taken = k.sound; leads = leads };
      stops = k.stops;
      again = tt;
      short = tt;
      alone = tt;
      used_up = tt;
      early = tt;
    }

    pub plain_refused : (page : ℕ) (w : PageWriter) (new : D) (f : Fault) → (f ≡ Failed → ⊥) → Logs d true mild start old w new (Some f) → BackKept d b base s e t entry (Plain page) old w new (Err f)
        → LoggedBackKept d b base s e t last undo_next beside entry old w new (Err f)
    plain_refused page w new f early one k = record {
      sound = k.sound;
      stops = k.stops;
      again = λ is. absurd (k.short is);
      short = λ is. absurd (k.short is);
      alone = λ is. absurd (k.short is);
      used_up = no_capacity d {A = ℕ} ⊥ (Err f) refl one;
      early = early;
    }

    -- ---- a structure change is planned, in front of any record

    module _ (needs : NeedsChange (settled b s.log) (what_of entry)) (none : beside.pages.now ≡ []) (v : PageWriter) (mid : D) where
      pub change_refused : (f : Fault) → f ≢ NotAStore → Outcome d AreLoaded mild start old v mid (Some f) → LoggedBackKept d b base s e t last undo_next beside entry old v mid (Err f)
      change_refused f sound one = record {
        sound = sound;
        stops = left_images d b base s t old mid g.lawful (left_reading d b base s g.stands loaded one);
        again = λ is. evicted_short f is one s g.stands loaded;
        short = λ is. needs;
        alone = λ is. none;
        used_up = λ is. never_capacity f is one;
        early = λ is. never_failed d f g.stands.working one is;
      }
        where
          never_capacity : (f : Fault) → f ≡ Capacity → Outcome d AreLoaded mild start old v mid (Some f) → ⊥
          never_capacity f is one =
              let here : Outcome d AreLoaded mild start old v mid (Some Capacity) = subst (λ (e : Fault). Outcome d AreLoaded mild start old v mid (Some e)) is one in
              let clash : false ≡ true = here.ends.0 in cc clash

    -- the page count is the settled one, where none is open
    count_here : (count : ℕ) → open_smo s.log ≡ [] → count ≡ (bodies (pages_of s) 0).leftmost → count ≡ (settled b s.log 0).leftmost
    count_here count closed is =
        is ∙ ap (λ (pages : Pages). (pages 0).leftmost) (stands_bodies d b base s e start old g.stands g.over) ∙ sym (ap (λ (pages : Pages). (pages 0).leftmost) (settled_is b s.log closed))

    module _ (v : PageWriter) (mid : D) (ev : Evicted d b base s old v mid) where
      abbrev pub now : Writer
      now = ev.now

      by : GrowsByImages b s.log now.log
      by = ev.on.goes.keeps.log

      going : IsGoingBeside d b base now e t last undo_next v mid
      going = beside_images d b base s e t last undo_next start old g old now v mid ev.on

      -- ---- a split

      pub split_planned : (plan : SplitPlan) (change : PlannedChange) → change.images ≡ plan.images → IsRising change.images → IsBack (settled_pages b s) beside (what_of entry) (Split plan) → IsToldOf b beside s.log → change.count ≡ (bodies (pages_of s) 0).leftmost
          → LoggedBackKept d b base s e t last undo_next beside entry old v mid (Ok (backs.Splits change))
      split_planned plan change same rising planned told count = record {
        sound = record {
          leaf = plan.leaf;
          planned = subst (λ (xs : List Numbered). IsBack (settled_pages b s) beside (what_of entry) (Split (record { images = xs; leaf = plan.leaf }))) (sym same) planned;
          now = now;
          on = ev.on;
          begins = changes_begin b t undo_next change.images last now.log going.lawful (owner_some t g.owner) (ap (λ (r : Loser). r.last) going.row) going.unfinished rising (opens ∙ closed)
              (ap (λ (r : Loser). r.undo_next) going.row) stands;
          count = count_here change.count closed count ∙ sym (ap (λ (pages : Pages). (pages 0).leftmost) pages);
        };
        stops = left_beside d b base s old now v mid ev.on t g.lawful;
        again = tt;
        short = tt;
        alone = tt;
        used_up = tt;
        early = tt;
      }
        where
          closed : open_smo s.log ≡ []
          closed = told.none planned.clear

          opens : open_smo now.log ≡ open_smo s.log
          opens = open_longer b t s.log now.log by

          pages : settled b now.log ≡ settled b s.log
          pages = settled_longer b t s.log now.log by

          stands : StandsFor (settled b now.log) (held (settled b now.log) change.images) (IsApart change.images)
          stands =
              let parts = split_of (settled_pages b s) (what_of entry) plan planned.can in
              let here : StandsFor (settled b s.log) (held (settled b s.log) plan.images) (IsApart plan.images) = splits_stand false (settled_pages b s) parts.key None plan.images plan.leaf parts.planned in
              subst (λ (f : Pages). StandsFor f (held f change.images) (IsApart change.images)) (sym pages)
              (subst (λ (xs : List Numbered). StandsFor (settled b s.log) (held (settled b s.log) xs) (IsApart xs)) (sym same) here)

      -- ---- a deletion after the compensation

      -- the compensation, after the plan of the change
      pub drop_back : (page : ℕ) (images : List Numbered) → IsBack (settled_pages b s) beside (what_of entry) (Drop page images) → IsToldOf b beside s.log → (w : PageWriter) (new : D) (r : Result ℕ Fault)
          → ((x : Writer) → IsGoingBeside d b base x e t last undo_next v mid → IsToUndo d b base x t entry → CanBack (settled_pages b x) (what_of entry) (Plain page) → IsOutOf (open_smo x.log) (Plain page) → BackKept d b base x e t entry (Plain page) mid w new r)
          → BackKept d b base now e t entry (Plain page) mid w new r
      drop_back page images planned told w new r kept =
          kept now going (to_undo_beside d b base s e t last undo_next start old g entry old now v mid ev.on to)
          (subst (λ (pages : AllPages). CanBack pages (what_of entry) (Plain page)) (sym (settled_pages_stay d b base s old now v mid ev.on)) (drop_takes (settled_pages b s) (what_of entry) page images planned.can))
          (out_of_none (open_smo now.log) (Plain page) (open_longer b t s.log now.log by ∙ told.none planned.clear))

      module _ (page : ℕ) (images : List Numbered) (change : PlannedChange) (same : change.images ≡ images) (rising : IsRising change.images) (planned : IsBack (settled_pages b s) beside (what_of entry) (Drop page images)) (told : IsToldOf b beside s.log)
          (count : change.count ≡ (bodies (pages_of s) 0).leftmost) (w : PageWriter) (new : D) where
        pub drop_logged : (l n : ℕ) → n ≡ prev_of entry → BackKept d b base now e t entry (Plain page) mid w new (Ok l) → LoggedBackKept d b base s e t last undo_next beside entry old w new (Ok (backs.Drops change l n))
        drop_logged l n leads k = record {
          sound = record {
            page = page;
            planned = subst (λ (xs : List Numbered). IsBack (settled_pages b s) beside (what_of entry) (Drop page xs)) (sym same) planned;
            taken = taken;
            leads = leads;
            begins = subst (λ (u : ℕ). IsUnderWay b t u change.images 0 l taken.now.log) (sym leads)
                (changes_begin b t (prev_of entry) change.images l taken.now.log taken.going.lawful (owner_some t g.owner) (ap (λ (r : Loser). r.last) taken.going.row) taken.going.unfinished rising
                (taken.going_on ∙ closed) (ap (λ (r : Loser). r.undo_next) taken.going.row) stands);
            count = count_here change.count closed count ∙ sym (leftmost_stays (settled b s.log) page (entries_behind (what_of entry) (settled b s.log page).entries)) ∙ ap (λ (pages : Pages). (pages 0).leftmost) taken.pages;
          };
          stops = left_behind d b base s old now v mid ev.on t g.lawful new k.stops;
          again = tt;
          short = tt;
          alone = tt;
          used_up = tt;
          early = tt;
        }
          where
            taken : TakenBeside d b base s e t entry (Plain page) l old w new
            taken = taken_behind d b base s old now v mid ev.on e t entry page l w new (owner_some t g.owner) g.lawful k.sound

            closed : open_smo s.log ≡ []
            closed = told.none planned.clear

            stands : StandsFor (settled b taken.now.log) (held (settled b taken.now.log) change.images) (IsApart change.images)
            stands =
                let parts = drop_of (settled_pages b s) (what_of entry) page images planned.can in
                let pages : AllPages = emptied (settled_pages b s) page in
                let empty : settled b taken.now.log ≡ bodies_of pages = emptied_behind d b base s e t old g.lawful entry to parts.key parts.rid parts.same page images parts.leaf l w new taken in
                let good : IsGoodTree (bodies_of pages) [] = subst (λ (f : Pages). IsGoodTree f []) empty (has_tree b page_tree taken.now.log taken.going.lawful).good in
                let here : StandsFor (bodies_of pages) (held (bodies_of pages) images) (IsApart images) = deletions_stand pages page images good parts.leaf.plan in
                subst (λ (f : Pages). StandsFor f (held f change.images) (IsApart change.images)) (sym empty)
                (subst (λ (xs : List Numbered). StandsFor (bodies_of pages) (held (bodies_of pages) xs) (IsApart xs)) (sym same) here)

        pub drop_refused : (f : Fault) → (f ≡ Failed → ⊥) → Logs d true mild v mid w new (Some f) → BackKept d b base now e t entry (Plain page) mid w new (Err f) → LoggedBackKept d b base s e t last undo_next beside entry old w new (Err f)
        drop_refused f early one k = record {
          sound = k.sound;
          stops = left_behind d b base s old now v mid ev.on t g.lawful new k.stops;
          again = λ is. absurd (k.short is);
          short = λ is. absurd (k.short is);
          alone = λ is. absurd (k.short is);
          used_up = no_capacity d {A = ℕ} ⊥ (Err f) refl one;
          early = early;
        }
