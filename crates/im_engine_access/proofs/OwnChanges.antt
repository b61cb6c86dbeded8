-- A structure change of its own that an insert or a delete begins, and the end of an insert after one.
use Rattle.std.proofs.Common.{◌≡◌, ◌≢◌, inl, inr, ◌≤◌, ℕ, suc, true, Bool, List, [], ◌∷◌, length, None, Some, Option, Result, Ok, Err, refl, sym, ◌∙◌, ap, subst, arith}
use Rattle.std.specs.Prelude.{IsSome, ◌⊎◌, ◌==◌}
use Rattle.std.specs.FinMap.{get}
use Rattle.std.proofs.Math.Path.{fun_ext}
use Rattle.std.proofs.lemmas.Bool.{cond-false, ne_eqb}
use Rattle.im_base_types.specs.declared.page_kind.PageKind.TheVariants.{Leaf, Meta}
use Rattle.im_base_types.specs.declared.fault.Fault.{Fault}
use Rattle.im_base_types.specs.Keys.{Key}
use Rattle.im_base_types.specs.Maps.{IndexMap, without_key}
use Rattle.im_base_types.specs.Pages.{Body, Page}
use Rattle.im_base_types.specs.Changes.{Effect, Touches}
use Rattle.im_base_types.specs.Records.{InsertKey, DeleteKey, Logged}
use Rattle.im_theory_log.specs.Histories.{Base, History}
use Rattle.im_theory_log.specs.Lawful.{IsNotIn, IsOutside}
use Rattle.im_theory_log.specs.Structure.{open_smo, settled}
use Rattle.im_theory_log.specs.Transactions.{contents}
use Rattle.im_theory_log.specs.Writer.{Writer}
use Rattle.im_theory_log.specs.WriterSteps.{appended}
use Rattle.im_base_disk.specs.declared.disk.Disk.{Ghosts}
use Rattle.im_base_disk.proofs.Runs.{weakened}
use Rattle.im_log.proofs.Above.{front_then}
use Rattle.im_page_file.specs.Stands.{IsCovered, LeavesCovered}
use Rattle.im_page_table.specs.KnownCopies.{changed_as}
use Rattle.im_page_table.proofs.Growing.{grows_then}
use Rattle.im_page_writer.specs.declared.page_writer.PageWriter.{PageWriter}
use Rattle.im_page_writer.specs.PageWriter.{GoesOn}
use Rattle.im_theory_page.specs.Split.{HasRoom}
use Rattle.im_theory_steps.specs.Growth.{GrowsWithin, IsRestructured}
use Rattle.im_theory_steps.specs.Steps.{key_record}
use Rattle.im_theory_steps.proofs.Growth.{structure_changes_no_key}
use Rattle.im_theory_tree.specs.Levels.{Pages}
use Rattle.im_theory_tree.specs.Good.{IsGoodTree}
use Rattle.im_theory_tree.specs.Search.{IsOnWay}
use Rattle.im_theory_tree.specs.Ways.{StandsFor, with_leaf}
use Rattle.im_theory_tree.proofs.LookupLemmas.{way_leaf}
use Rattle.im_tree_search.specs.declared.change_beside.Beside.{Beside}
use Rattle.im_tree_search.specs.Levels.{bodies_of}
use Rattle.im_smo_pages.specs.Images.{Numbered, IsRising, image_at, image_of, held}
use Rattle.im_smo_pages.specs.OnWay.{IsApart}
use Rattle.im_smo_pages.proofs.ImageLemmas.{applied_image, body_or}
use Rattle.im_smo_drop_leaf.specs.Emptied.{emptied}
use Rattle.im_smo_drop_leaf.proofs.WithoutEntries.{emptied_good}
use Rattle.im_smo_log.specs.declared.change.Change.{Change}
use Rattle.im_smo_log.specs.GoingOn.{HasClosed}
use Rattle.im_smo_log.specs.Logged.{smo_at, dummy_at}
use Rattle.im_smo_log.specs.Marks.{marked_if}
use Rattle.im_smo_log.specs.Stepping.{Closed, Goes, Stepped}
use Rattle.im_smo_log.specs.Under.{IsUnderWay}
use Rattle.im_smo_log.proofs.BetweenSteps.{inserts_may_end, pages_keep_settled}
use Rattle.im_smo_log.proofs.Coming.{changes_begin}
use Rattle.im_smo_log.proofs.Others.{key_pages}
use Rattle.im_smo_split.specs.Plan.{IsWithin}
use Rattle.im_smo_actions.specs.declared.begun_change.BegunChange.{BegunChange}
use Rattle.im_smo_actions.specs.declared.planned_change.PlannedChange.{PlannedChange}
use Rattle.im_smo_actions.specs.GoingBeside.{settled_pages, IsToldOf}
use Rattle.im_smo_actions.proofs.Told.{deletions_stand, splits_stand}
use Rattle.im_engine_access.specs.ChangePlans.{KeyEmpties, KeySplits}
use Rattle.im_engine_access.specs.EditsBeside.{DeleteBegun, InsertBegun, InsertEndKept, KeyGoesTo, MayEnd}
use Rattle.im_engine_access.specs.KeyLogs.{IsGoingOn, KeyLogged, KeyLogKept, LeavesEdit, LeftByEdit, MayPut}
use Rattle.im_engine_access.proofs.EditsBeside.{emptied_is, going_on, none_left, settled_on}
use Rattle.im_engine_access.proofs.Inserts.{edit_then}
use Rattle.im_engine_access.proofs.KeyLogs.{good_pages, leaf_has, open_longer, owner_some, settled_longer, still_closed}

-- ---- a change under way, by its fields

pub goes_as : (b : Base) (c : Change) (log : History) (t undo_next : ℕ) (images : List Numbered) (done prev : ℕ) → c.transaction ≡ t → c.undo_next ≡ undo_next → c.images ≡ images → c.done ≡ done → c.last ≡ prev → IsUnderWay b t undo_next images done prev log → Goes b c log
goes_as b c log t undo_next images done prev owner leads same made last way =
    subst (λ (x : ℕ). IsUnderWay b x c.undo_next c.images c.done c.last log) (sym owner)
    (subst (λ (x : ℕ). IsUnderWay b t x c.images c.done c.last log) (sym leads)
    (subst (λ (xs : List Numbered). IsUnderWay b t undo_next xs c.done c.last log) (sym same)
    (subst (λ (x : ℕ). IsUnderWay b t undo_next images x c.last log) (sym made)
    (subst (λ (x : ℕ). IsUnderWay b t undo_next images done x log) (sym last) way))))

some_image : (o : Option Page) → IsSome o → (g : Page) × (o ≡ Some g)
some_image None is = absurd (let never : ⊥ = cc is in never)
some_image (Some g) is = (g, refl)

some_within : (pages : Pages) (key : Key) (dense : Bool) (max : ℕ) (images : List Numbered) → 1 ≤ length images → (images ≡ []) ⊎ IsWithin dense pages key max → IsWithin dense pages key max
some_within pages key dense max images some (inl none) = absurd (let zero_is : length images ≡ 0 = ap (λ (xs : List Numbered). length xs) none in omega (arith, some, zero_is))
some_within pages key dense max images some (inr is) = is

-- a leaf is not page 0
not_zero : (pages : Pages) (spare : List ℕ) (key : Key) (p : ℕ) → IsGoodTree pages spare → IsOnWay pages 0 key p → p ≢ 0
not_zero pages spare key p good way is = let clash : Leaf ≡ Meta = sym (way_leaf pages key p way).0 ∙ ap (λ (q : ℕ). (pages q).kind) is ∙ good.meta in cc clash

module _ {D : Type 0} (d : Ghosts D) (b : Base) (base : ℕ) (s : Writer) (e t last undo_next : ℕ) (v : PageWriter) (old : D) (g : IsGoingOn d b base s e t last undo_next v old) (owner : 1 ≤ t) where
  -- it begins, with none under way
  pub change_begins : (images : List Numbered) → open_smo s.log ≡ [] → IsRising images → StandsFor (settled b s.log) (held (settled b s.log) images) (IsApart images) → IsUnderWay b t undo_next images 0 last s.log
  change_begins images closed rising stands = changes_begin b t undo_next images last s.log g.lawful (owner_some t owner) g.newest g.unfinished rising closed g.undo stands

module _ {D : Type 0} (d : Ghosts D) (b : Base) (base : ℕ) (s : Writer) (e t last undo_next : ℕ) (v : PageWriter) (old : D) (g : IsGoingOn d b base s e t last undo_next v old) (owner : 1 ≤ t) (beside : Beside) (told : IsToldOf b beside s.log) where
  -- ---- a split, with its first page

  module _ (key : Key) (dense : Bool) (max : ℕ) (plan : PlannedChange) (leaf : ℕ) (splits : KeySplits (settled_pages b s) beside key dense max (contents b s.log) plan leaf) (now : Writer) (w : PageWriter) (disk : D) (on : GoesOn d b base s old now w disk)
      (begun : BegunChange) (same : begun.change.images ≡ plan.images) (none : begun.change.done ≡ 0) (whose : begun.change.transaction ≡ t) (newest : begun.change.last ≡ last) (leads : begun.change.undo_next ≡ undo_next) (counts : begun.count ≡ plan.count) where
    closed : open_smo s.log ≡ []
    closed = told.none splits.alone

    on_now : settled b now.log ≡ settled b s.log
    on_now = settled_on d b base s e t last undo_next v old g owner now w disk on

    pub begun_goes : Goes b begun.change now.log
    begun_goes = goes_as b begun.change now.log t undo_next plan.images 0 last whose leads same none newest
        (change_begins d b base now e t last undo_next w disk (going_on d b base s e t last undo_next v old g owner now w disk on) owner plan.images (open_longer b s.log now.log on.goes.keeps.log ∙ closed) splits.rising
        (subst (λ (f : Pages). StandsFor f (held f plan.images) (IsApart plan.images)) (sym on_now) (splits_stand dense (settled_pages b s) key (Some max) plan.images leaf splits.planned)))

    module _ (more : BegunChange) (x : PageWriter) (new : D) (step : Stepped d b base now begun.change true more.change x new) (count : more.count ≡ begun.count) where
      abbrev page : ℕ
      page = (image_at begun.change.images begun.change.done).0

      abbrev was : Body
      was = (now.pages page).page.body

      abbrev made : Body
      made = marked_if true (image_at begun.change.images begun.change.done).1.body

      abbrev record_of : Logged
      record_of = smo_at more.change.last begun.change.transaction begun.change.last page was made

      under_way : IsUnderWay b begun.change.transaction begun.change.undo_next begun.change.images (suc begun.change.done) more.change.last (record_of ∷ step.logged.before.log)
      under_way = step.goes begun_goes

      settled_all : settled b (record_of ∷ step.logged.before.log) ≡ settled b s.log
      settled_all = fun_ext (λ (p : ℕ). pages_keep_settled b record_of step.logged.before.log was made under_way.lawful refl p) ∙ settled_longer b now.log step.logged.before.log step.logged.keeps.log ∙ on_now

      images_same : more.change.images ≡ plan.images
      images_same = step.images ∙ same

      goes_to : KeyGoesTo b (record_of ∷ step.logged.before.log) more.change.images key leaf
      goes_to =
          let way = splits.planned.way splits.some in
          let some = some_image (image_of plan.images leaf) (splits.planned.has splits.some) in
          let body : held (settled b s.log) plan.images leaf ≡ some.0.body = applied_image (settled b s.log) plan.images leaf ∙ ap (λ (o : Option Page). body_or o (settled b s.log leaf)) some.1 in
          record {
            way = subst (λ (xs : List Numbered). IsOnWay (held (settled b (record_of ∷ step.logged.before.log)) xs) 0 key leaf) (sym images_same) (subst (λ (f : Pages). IsOnWay (held f plan.images) 0 key leaf) (sym settled_all) way);
            image = some.0;
            is = ap (λ (xs : List Numbered). image_of xs leaf) images_same ∙ some.1;
            room = subst (λ (y : Body). HasRoom true y.entries (key, 0)) body (splits.planned.fits leaf way);
          }

      pub insert_begun : InsertBegun d b base s e t last undo_next key dense max beside more leaf x new
      insert_begun = record {
        absent = splits.absent;
        alone = splits.alone;
        closed = closed;
        lacks = splits.lacks;
        within = some_within (settled b s.log) key dense max plan.images splits.some (splits.planned.within max refl);
        now = record (changed_as step.logged.known record_of step.logged.before) { durable = step.logged.durable };
        stands = step.logged.stands;
        over = step.logged.keeps.redo_end ∙ on.goes.keeps.redo_end ∙ g.over;
        point = step.logged.keeps.point ∙ on.goes.keeps.point;
        durable = front_then s.durable step.logged.before.durable step.logged.durable (front_then s.durable now.durable step.logged.before.durable on.goes.keeps.durable step.logged.keeps.durable) step.logged.grows;
        before = step.logged.before.log;
        images = grows_then b s.log now.log step.logged.before.log on.goes.keeps.log step.logged.keeps.log;
        page = page;
        was = was;
        made = made;
        marked = refl;
        is = ap (λ (u : ℕ). smo_at more.change.last u begun.change.last page was made ∷ step.logged.before.log) whose ∙ ap (λ (u : ℕ). smo_at more.change.last t u page was made ∷ step.logged.before.log) newest;
        owner = step.owner ∙ whose;
        leads = step.leads ∙ leads;
        one = step.done ∙ ap (λ (n : ℕ). suc n) none;
        goes = goes_as b more.change (record_of ∷ step.logged.before.log) begun.change.transaction begun.change.undo_next begun.change.images (suc begun.change.done) more.change.last step.owner step.leads step.images step.done refl under_way;
        count = count ∙ counts ∙ splits.count ∙ ap (λ (f : Pages). (f 0).leftmost) (sym settled_all);
        to = goes_to;
      }

  -- ---- a leaf that leaves the tree, after its last key

  module _ (key : Key) (page rid : ℕ) (plan : PlannedChange) (empties : KeyEmpties (settled_pages b s) beside key (contents b s.log) page rid plan) (lsn : ℕ) (x : PageWriter) (new : D) (k : KeyLogged d b base s e t last page (DeleteKey key rid) lsn x new)
      (begun : BegunChange) (same : begun.change.images ≡ plan.images) (none : begun.change.done ≡ 0) (whose : begun.change.transaction ≡ t) (newest : begun.change.last ≡ lsn) (leads : begun.change.undo_next ≡ lsn) (counts : begun.count ≡ plan.count) where
    alone : open_smo s.log ≡ []
    alone = told.none empties.alone

    before_same : settled b k.before ≡ settled b s.log
    before_same = settled_longer b s.log k.before k.images

    out : IsNotIn page (open_smo k.before)
    out = subst (λ (l : History). IsNotIn page l) (sym (open_longer b s.log k.before k.images ∙ alone)) tt

    good : IsGoodTree (settled b s.log) []
    good = good_pages b s.log g.lawful

    emptied_behind : settled b k.now.log ≡ with_leaf (settled b s.log) page []
    emptied_behind =
        ap (λ (l : History). settled b l) k.is
        ∙ sym (key_pages b (key_record t last lsn page (DeleteKey key rid)) k.before (without_key key) (DeleteKey key rid) (λ l g. refl) refl refl out)
        ∙ ap (λ (f : Pages). with_leaf f page (without_key key (f page).entries)) before_same
        ∙ ap (with_leaf (settled b s.log) page) (none_left key rid (settled b s.log page).entries empties.one (leaf_has b s.log g.lawful key page empties.way ∙ empties.there))

    pub delete_begun : DeleteBegun d b base s e t last key beside begun x new
    delete_begun =
        let gone : settled b k.now.log ≡ bodies_of (emptied (settled_pages b s) page) = emptied_behind ∙ emptied_is (settled_pages b s) page [] refl in
        let zero_is : page ≢ 0 = not_zero (settled b s.log) [] key page good empties.way in
        record {
          rid = rid;
          there = empties.there;
          alone = empties.alone;
          closed = alone;
          one = record { page = page; way = empties.way; under = empties.under; one = empties.one };
          page = page;
          lsn = lsn;
          logged = k;
          owner = whose;
          newest = newest;
          leads = leads;
          none = none;
          goes = goes_as b begun.change k.now.log t lsn plan.images 0 lsn whose leads same none newest
              (change_begins d b base k.now e t lsn lsn x new k.stands owner plan.images (k.opened ∙ alone) empties.rising
              (subst (λ (f : Pages). StandsFor f (held f plan.images) (IsApart plan.images)) (sym gone)
              (deletions_stand (emptied (settled_pages b s) page) page plan.images (emptied_good (settled_pages b s) key page good empties.way) empties.planned)));
          count = counts ∙ empties.count ∙ sym (ap (λ (f : Pages). (f 0).leftmost) emptied_behind ∙ ap (λ (y : Body). y.leftmost) (cond-false (page == 0) _ (settled b s.log 0) (ne_eqb page 0 zero_is)));
        }

-- ---- the end of an insert

module _ {D : Type 0} (d : Ghosts D) (b : Base) (base : ℕ) (s : Writer) (e : ℕ) (change : Change) (page : ℕ) (key : Key) (v : PageWriter) (old : D) (may : MayEnd d b base s e change page key v old) (owner : 1 ≤ change.transaction) (all : change.done ≡ length change.images) where
  left_covered : (new : D) → LeavesCovered d b base s.durable s.log old new → LeavesEdit d b base s change.transaction old new
  left_covered new stops = weakened d old new (IsCovered b base s.durable s.log) (LeftByEdit d b base s change.transaction) stops
      (λ told c is. record { high = s.log; lawful = may.goes.lawful; grows = record { more = []; is = refl; within = tt }; covered = is })

  pub close_refused : (new : D) → LeavesCovered d b base s.durable s.log old new → LeavesEdit d b base s change.transaction old new
  close_refused new stops = left_covered new stops

  module _ (clr : ℕ) (w : PageWriter) (disk : D) (closes : Closed d b base s change clr w disk) where
    abbrev closing : Logged
    closing = dummy_at clr change.transaction change.last change.undo_next

    abbrev pub mid : Writer
    mid = record (appended closing s) { durable = closes.logged.durable }

    shut : HasClosed b change.transaction change.undo_next clr (closing ∷ s.log)
    shut = closes.goes may.goes

    stays : IsRestructured b change.transaction s.log (closing ∷ s.log)
    stays = structure_changes_no_key b change.transaction s.log (closing ∷ s.log) (record { more = closing ∷ []; is = refl; structural = (inr (refl, refl), tt) })

    ends : IsOnWay (settled b (closing ∷ s.log)) 0 key page × HasRoom true (settled b (closing ∷ s.log) page).entries (key, 0)
    ends = inserts_may_end b change.transaction change.undo_next change.images change.last closing s.log key page may.to.image
        (subst (λ (n : ℕ). IsUnderWay b change.transaction change.undo_next change.images n change.last s.log) all may.goes) refl may.to.way may.to.is may.to.room

    pub may_put_end : MayPut d b base mid e change.transaction clr change.undo_next page key w disk
    may_put_end = record {
      unfinished = record {
        stands = closes.logged.stands;
        over = may.over;
        lawful = shut.lawful;
        outside = subst (λ (l : History). IsOutside change.transaction l) (sym shut.closed) tt;
        newest = shut.last;
        undo = shut.undo;
        unfinished = stays.finished ∙ may.goes.unfinished;
      };
      free = λ n other theirs. may.free n other (subst (λ (c : Effect). Touches c key) (stays.stays.nets n) theirs);
      absent = ap (λ (m : IndexMap). get m key) stays.stays.walk ∙ may.absent;
      apart = subst (λ (l : History). IsNotIn page l) (sym shut.closed) tt;
      way = ends.0;
      room = ends.1;
    }

    within : GrowsWithin change.transaction s.log (closing ∷ s.log)
    within = record { more = closing ∷ []; is = refl; within = (inr (refl, refl), tt) }

    pub insert_ended : (rid : ℕ) (x : PageWriter) (new : D) (r : Result ℕ Fault) → LeavesCovered d b base s.durable s.log old disk → KeyLogKept d b base mid e change.transaction clr page (InsertKey key rid) disk x new r → InsertEndKept d b base s e change page key rid old x new r
    insert_ended rid x new (Ok lsn) stops kept = record {
      sound =
          let k = kept.sound in
          record {
            now = k.now;
            stands = still_closed d b base mid e change.transaction clr page (InsertKey key rid) lsn x new shut.closed k;
            point = k.point;
            durable = front_then s.durable mid.durable k.now.durable closes.logged.grows k.durable;
            closing = clr;
            before = k.before;
            images = k.images;
            is = k.is;
          };
      stops = edit_then d b base s mid change.transaction old disk new within closes.logged.grows (left_covered disk stops) kept.stops;
    }
    insert_ended rid x new (Err f) stops kept = record { sound = kept.sound; stops = edit_then d b base s mid change.transaction old disk new within closes.logged.grows (left_covered disk stops) kept.stops }
