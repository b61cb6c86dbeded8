-- The record of a key: it leaves a lawful log, and its leaf takes it.
use Rattle.std.proofs.Common.{◌≡◌, ◌≢◌, inr, inl, ◌≤◌, ◌<◌, ℕ, List, [], ◌∷◌, length, Bool, true, false, None, Some, Result, refl, sym, ◌∙◌, ap, subst, arith}
use Rattle.std.specs.Prelude.{if◌then◌else◌, ◌==◌, ◌||◌}
use Rattle.std.proofs.lemmas.Bool.{eq-eqb, cond-true}
use Rattle.std.proofs.Math.Path.{fun_ext}
use Rattle.std.specs.FinMap.{entries, get}
use Rattle.std.specs.FinMap.Entries.{find}
use Rattle.im_base_types.specs.declared.fault.Fault.{Fault}
use Rattle.im_base_types.specs.Keys.{Key, key_order}
use Rattle.im_base_types.specs.Maps.{IndexMap}
use Rattle.im_base_types.specs.Pages.{Body, Entry as Item, Page}
use Rattle.im_base_types.specs.Changes.{Effect, Touches}
use Rattle.im_base_types.specs.Records.{What, InsertKey as InsertWhat, DeleteKey as DeleteWhat, UndoInsert, UndoDelete, Smo, UndoSmo, DummyClr, Commit, End, Image, Checkpoint, Unreadable, Logged}
use Rattle.im_theory_log.specs.Histories.{Base, History, end_of, page_at}
use Rattle.im_theory_log.specs.Copies.{GrowsByImages}
use Rattle.im_theory_log.specs.Lawful.{Follows, IsLawful, IsOutside, IsNotIn}
use Rattle.im_theory_log.specs.Lawful as lawful
use Rattle.im_theory_log.specs.LogLaws as logs
use Rattle.im_theory_log.specs.Structure.{open_smo, settled, taken_back}
use Rattle.im_theory_log.specs.Transactions.{contents, is_end, is_finished, last_of, undo_from, undo_next_of}
use Rattle.im_theory_log.specs.Writer.{Writer, WriterKept}
use Rattle.im_theory_log.proofs.Cited.{has_tree, images_pages, logs_stay_lawful, reached_end, left_alone}
use Rattle.im_base_types.proofs.Maps.{sorted_find}
use Rattle.im_base_disk.specs.declared.disk.Disk.{Ghosts}
use Rattle.im_base_disk.proofs.Runs.{weakened}
use Rattle.im_log_record.specs.Entry.{Entry, InsertKey, DeleteKey}
use Rattle.im_log.proofs.Above.{front_then}
use Rattle.im_page_writer.specs.declared.page_writer.PageWriter.{PageWriter}
use Rattle.im_page.specs.LeafChange.{CanPutKey, CanTakeKey}
use Rattle.im_page_writer.specs.LoggedChange.{ChangedFrom, ChangeKept}
use Rattle.im_page_writer.specs.PageWriter.{StandsAs}
use Rattle.im_page_flush.specs.Writing.{LeavesGrown}
use Rattle.im_page_writer.proofs.Outcomes.{sound_own}
use Rattle.im_theory_page.specs.Split.{HasRoom}
use Rattle.im_theory_tree.specs.Levels.{Pages, walk}
use Rattle.im_theory_tree.specs.Good.{AllOf, IsGoodTree}
use Rattle.im_theory_tree.specs.Search.{IsOnWay}
use Rattle.im_theory_tree.specs.Theory.{page_tree, CanDropFrom, CanPutInto}
use Rattle.im_theory_tree.proofs.Cited.{leaf_value, way_leaf, page_tree_laws}
use Rattle.im_tree_search.specs.Levels.{bodies}
use Rattle.im_smo_log.specs.Changes.{IsOfChange, GrowsByChange, LeftByChange, LeavesChange}
use Rattle.im_smo_log.proofs.ChangeLogs.{images_lawful}
use Rattle.im_smo_actions.specs.Structure.{IsUnfinished}
use Rattle.im_smo_actions.proofs.Standing.{left_images}
use Rattle.im_theory_steps.specs.Growth.{AreWithin, GrowsWithin, IsOfAll, IsWithin, Stays}
use Rattle.im_theory_steps.specs.Steps.{key_record}
use Rattle.im_theory_steps.proofs.Growth.{copies_are_images, images_change_nothing}
use Rattle.im_engine_access.specs.KeyLogs.{IsGoingOn, LeftByEdit, LeavesEdit, MayPut, MayTake, KeyLogged, KeyLogKept}

pub owner_some : (t : ℕ) → 1 ≤ t → t ≢ 0
owner_some t one is = omega (arith, one, is)

-- ---- what a stop leaves

within_change : (t : ℕ) (r : Logged) (w : What) → r.what ≡ w → IsOfChange t r w → IsWithin t r
within_change t r (Smo was now) same is = inr (is, ap is_end same)
within_change t r DummyClr same is = inr (is, ap is_end same)
within_change t r (Image c) same is = inl (record { copy = c; what = same; no_owner = is })
within_change t r (InsertWhat k i) same is = absurd is
within_change t r (DeleteWhat k i) same is = absurd is
within_change t r (UndoInsert k i) same is = absurd is
within_change t r (UndoDelete k i) same is = absurd is
within_change t r (UndoSmo now) same is = absurd is
within_change t r Commit same is = absurd is
within_change t r End same is = absurd is
within_change t r (Checkpoint n a dirty) same is = absurd is
within_change t r Unreadable same is = absurd is

changes_within : (t : ℕ) (more : History) → AllOf (λ (r : Logged). IsOfChange t r r.what) more → AreWithin t more
changes_within t [] all = tt
changes_within t (r ∷ more) all = (within_change t r r.what refl all.0, changes_within t more all.1)

-- the log has grown within the transaction
pub grows_within : (t : ℕ) (older longer : History) → GrowsByChange t older longer → GrowsWithin t older longer
grows_within t older longer by = record { more = by.more; is = sym by.is; within = changes_within t by.more by.all }

-- ---- the tree of a log, with an open structure change taken back

module _ (b : Base) (log : History) (law : IsLawful b page_tree log) where
  pub good_pages : IsGoodTree (settled b log) []
  good_pages = (has_tree b page_tree log law).good

  pub settled_walk : walk (settled b log) ≡ entries (contents b log)
  settled_walk = (has_tree b page_tree log law).walk

  -- what the walk has of a key, the map has
  get_is : (k : Key) → get (contents b log) k ≡ find key_order k (walk (settled b log))
  get_is k = sorted_find (contents b log) k ∙ ap (λ (es : List Item). find key_order k es) (sym settled_walk)

  -- and so the key's leaf
  pub leaf_has : (k : Key) (p : ℕ) → IsOnWay (settled b log) 0 k p → find key_order k (settled b log p).entries ≡ get (contents b log) k
  leaf_has k p way = sym (leaf_value (settled b log) [] k p good_pages way) ∙ sym (get_is k)

  -- where none is open, these are the pages as they stand
  module _ (closed : open_smo log ≡ []) where
    settled_is : settled b log ≡ logs.bodies b log
    settled_is = fun_ext (λ (p : ℕ). ap (λ (l : History). taken_back l p (page_at b log p).body) closed)

    pub walk_is : walk (logs.bodies b log) ≡ entries (contents b log)
    walk_is = ap walk (sym settled_is) ∙ settled_walk

  module _ (t last lsn page : ℕ) (owner : 1 ≤ t) (newest : last_of t log ≡ last) (unfinished : is_finished t log ≡ false) (rises : end_of b log < lsn)
      (outside : IsOutside t (open_smo log)) (apart : IsNotIn page (open_smo log)) where
    -- a key comes
    lawful_insert : (k : Key) (i : ℕ) → lawful.IsFree t k log → get (contents b log) k ≡ None → CanPutInto (settled b log) page k i → IsLawful b page_tree (key_record t last lsn page (InsertWhat k i) ∷ log)
    lawful_insert k i free absent can =
        let r = key_record t last lsn page (InsertWhat k i) in
        let follows : Follows b page_tree r log = record {
          rises = rises;
          chained = λ owned. record { number = owner; prev = sym newest; unfinished = unfinished };
          may = record {
            no_undo_next = refl;
            outside = outside;
            free = free;
            absent = absent;
            can_put = can;
            not_in = apart;
          };
        } in
        logs_stay_lawful page_tree page_tree_laws b log r law follows (λ e. absurd cc)

    -- a key goes
    lawful_delete : (k : Key) (i : ℕ) → lawful.IsFree t k log → get (contents b log) k ≡ Some i → CanDropFrom (settled b log) page k i → IsLawful b page_tree (key_record t last lsn page (DeleteWhat k i) ∷ log)
    lawful_delete k i free there can =
        let r = key_record t last lsn page (DeleteWhat k i) in
        let follows : Follows b page_tree r log = record {
          rises = rises;
          chained = λ owned. record { number = owner; prev = sym newest; unfinished = unfinished };
          may = record {
            no_undo_next = refl;
            outside = outside;
            free = free;
            there = there;
            can_drop = can;
            not_in = apart;
          };
        } in
        logs_stay_lawful page_tree page_tree_laws b log r law follows (λ e. absurd cc)

-- ---- what the record says of its transaction

module _ (older : History) (t last lsn page : ℕ) (w : What) where
  own : {A : Type 0} (x y : A) → (if t == t then x else y) ≡ x
  own x y = cond-true (t == t) x y (eq-eqb t t refl)

  last_is : last_of t (key_record t last lsn page w ∷ older) ≡ lsn
  last_is = own lsn (last_of t older)

  undo_is : undo_from (key_record t last lsn page w) w ≡ lsn → undo_next_of t (key_record t last lsn page w ∷ older) ≡ lsn
  undo_is from = own (undo_from (key_record t last lsn page w) w) (undo_next_of t older) ∙ from

  finished_is : is_end w ≡ false → is_finished t older ≡ false → is_finished t (key_record t last lsn page w ∷ older) ≡ false
  finished_is no_end unfinished = own (is_end w || is_finished t older) (is_finished t older) ∙ ap (λ (x : Bool). x || is_finished t older) no_end ∙ unfinished

-- ---- after Images

module _ (b : Base) (older longer : History) (by : GrowsByImages b older longer) where
  pub unchanged : Stays b older longer × IsOfAll older longer
  unchanged = images_change_nothing b older longer (copies_are_images page_tree b older longer by).images

  pub open_longer : open_smo longer ≡ open_smo older
  open_longer = (copies_are_images page_tree b older longer by).opened

  pub settled_longer : settled b longer ≡ settled b older
  settled_longer = fun_ext (λ (p : ℕ). ap (λ (l : History). taken_back l p (page_at b longer p).body) open_longer
      ∙ ap (λ (g : Page). taken_back (open_smo older) p g.body) (ap (λ (l : History). page_at b l p) by.is ∙ images_pages b by.images older p by.all))

-- ---- the call

module _ {D : Type 0} (d : Ghosts D) (b : Base) (base : ℕ) where
  pub left_edit : (s : Writer) (t : ℕ) (old new : D) → LeavesChange d b base s t old new → LeavesEdit d b base s t old new
  left_edit s t old new stops = weakened d old new (LeftByChange d b base s t) (LeftByEdit d b base s t) stops
      (λ told c is. record { high = is.high; lawful = is.lawful; grows = grows_within t s.log is.high is.grows; covered = is.covered })

  -- the writer's pages are those of its log
  module _ (s : Writer) (e : ℕ) (v : PageWriter) (old : D) (stands : StandsAs d b base s v old) (over : s.redo_end ≡ Some e) where
    writer_kept : WriterKept b s
    writer_kept = stands.writing.stands.kept

    page_is : (p : ℕ) → (s.pages p).page ≡ page_at b s.log p
    page_is p =
        let kept = writer_kept.pages p in
        let run = kept.run e over in
        reached_end b s.log (s.pages p).upto p (s.pages p).page run.1 (kept.now run.0)

    pages_are : bodies s ≡ logs.bodies b s.log
    pages_are = fun_ext (λ (p : ℕ). ap (λ (x : Page). x.body) (page_is p))

    -- one that an open structure change leaves alone is the settled one
    alone_is : (p : ℕ) → IsNotIn p (open_smo s.log) → settled b s.log p ≡ (s.pages p).page.body
    alone_is p apart = left_alone p (open_smo s.log) (page_at b s.log p).body apart ∙ ap (λ (x : Page). x.body) (sym (page_is p))

  -- ---- where no structure change is open

  module _ (s : Writer) (e t last undo_next : ℕ) (v : PageWriter) (old : D) where
    pub is_unfinished : IsGoingOn d b base s e t last undo_next v old → open_smo s.log ≡ [] → IsUnfinished d b base s e t last undo_next v old
    is_unfinished u closed = record { stands = u.stands; over = u.over; lawful = u.lawful; closed = closed; newest = u.newest; undo = u.undo; unfinished = u.unfinished }

    module _ (u : IsUnfinished d b base s e t last undo_next v old) where
      pub is_going_on : IsGoingOn d b base s e t last undo_next v old
      is_going_on = record { stands = u.stands; over = u.over; lawful = u.lawful; outside = subst (λ (l : History). IsOutside t l) (sym u.closed) tt; newest = u.newest; undo = u.undo; unfinished = u.unfinished }

      pub none_open : (p : ℕ) → IsNotIn p (open_smo s.log)
      none_open p = subst (λ (l : History). IsNotIn p l) (sym u.closed) tt

      pub settled_are : settled b s.log ≡ bodies s
      settled_are = settled_is b s.log u.lawful u.closed ∙ sym (pages_are s e v old u.stands u.over)

      module _ (owner : 1 ≤ t) where
        pub bodies_are : bodies s ≡ logs.bodies b s.log
        bodies_are = pages_are s e v old u.stands u.over

        -- where the walk lacks a key, or has it
        pub walk_says : (key : Key) → find key_order key (walk (bodies s)) ≡ get (contents b s.log) key
        walk_says key = ap (λ (f : Pages). find key_order key (walk f)) (sym settled_are) ∙ sym (get_is b s.log u.lawful key)

  -- after the record none is open either
  pub still_closed : (s : Writer) (e t last page : ℕ) (what : What) (lsn : ℕ) (w : PageWriter) (disk : D) → open_smo s.log ≡ [] → (k : KeyLogged d b base s e t last page what lsn w disk) → IsUnfinished d b base k.now e t lsn lsn w disk
  still_closed s e t last page what lsn w disk closed k = is_unfinished k.now e t lsn lsn w disk k.stands (k.opened ∙ closed)

  -- ---- the record

  module _ (s : Writer) (e t last undo_next : ℕ) (v : PageWriter) (old : D) (u : IsGoingOn d b base s e t last undo_next v old) (owner : 1 ≤ t) where
    stays_left : (new : D) → LeavesGrown d b base s old new → LeavesEdit d b base s t old new
    stays_left new stops = left_edit s t old new (left_images d b base s t old new u.lawful stops)

    pub insert_logged : (page : ℕ) (key : Key) (rid : ℕ) (w : PageWriter) (new : D) (result : Result ℕ Fault) → 1 ≤ length key → length key ≤ 255 → MayPut d b base s e t last undo_next page key v old
        → ChangeKept d b base s (InsertKey t last page key rid) old w new result → KeyLogKept d b base s e t last page (InsertWhat key rid) old w new result
    insert_logged page key rid w new result keyed short may kept =
        let entry : Entry = InsertKey t last page key rid in
        let here : settled b s.log page ≡ (s.pages page).page.body = alone_is s e v old u.stands u.over page may.apart in
        let lacks : find key_order key (settled b s.log page).entries ≡ None = leaf_has b s.log u.lawful key page may.way ∙ may.absent in
        let has : CanPutKey (s.pages page).page key = record {
          leaf = ap (λ (x : Body). x.kind) (sym here) ∙ (way_leaf (settled b s.log) key page may.way).0;
          lacks = ap (λ (x : Body). find key_order key x.entries) (sym here) ∙ lacks;
          keyed = keyed;
          short = short;
          room = subst (λ (x : Body). HasRoom true x.entries (key, 0)) here may.room;
        } in
        record {
          sound = sound_own result (λ lsn. ChangedFrom d b base s entry lsn old w new) (λ lsn. KeyLogged d b base s e t last page (InsertWhat key rid) lsn w new) kept.ok (kept.cause has)
              (λ lsn from.
              let log : History = from.before.log in
              let by : GrowsByImages b s.log log = from.keeps.log in
              let some : t ≢ 0 = owner_some t owner in
              let rest = unchanged b s.log log by in
              let opened : open_smo log ≡ open_smo s.log = open_longer b s.log log by in
              let outside : IsOutside t (open_smo log) = subst (λ (l : History). IsOutside t l) (sym opened) u.outside in
              let apart : IsNotIn page (open_smo log) = subst (λ (l : History). IsNotIn page l) (sym opened) may.apart in
              let unfinished : is_finished t log ≡ false = (rest.1 t).finished ∙ u.unfinished in
              let can : CanPutInto (settled b s.log) page key rid = record { leaf = may.way; keyed = keyed; short = short; absent = lacks; room = may.room } in
              record {
                now = _;
                stands = record {
                  stands = from.logged.stands;
                  over = from.keeps.redo_end ∙ u.over;
                  lawful = lawful_insert b log (images_lawful b s.log log by u.lawful) t last lsn page owner ((rest.1 t).last owner ∙ u.newest) unfinished from.logged.high outside apart key rid
                      (λ n other theirs. may.free n other (subst (λ (c : Effect). Touches c key) (rest.0.nets n) theirs))
                      (ap (λ (m : IndexMap). get m key) rest.0.walk ∙ may.absent)
                      (subst (λ (f : Pages). CanPutInto f page key rid) (sym (settled_longer b s.log log by)) can);
                  outside = outside;
                  newest = last_is log t last lsn page (InsertWhat key rid);
                  undo = undo_is log t last lsn page (InsertWhat key rid) refl;
                  unfinished = finished_is log t last lsn page (InsertWhat key rid) refl unfinished;
                };
                opened = opened;
                point = from.keeps.point;
                durable = front_then s.durable from.before.durable from.logged.durable from.keeps.durable from.logged.grows;
                before = log;
                images = by;
                is = refl;
              });
          stops = stays_left new kept.stops;
        }

    pub delete_logged : (page : ℕ) (key : Key) (rid : ℕ) (w : PageWriter) (new : D) (result : Result ℕ Fault) → MayTake d b base s e t last undo_next page key rid v old
        → ChangeKept d b base s (DeleteKey t last page key rid) old w new result → KeyLogKept d b base s e t last page (DeleteWhat key rid) old w new result
    delete_logged page key rid w new result may kept =
        let entry : Entry = DeleteKey t last page key rid in
        let here : settled b s.log page ≡ (s.pages page).page.body = alone_is s e v old u.stands u.over page may.apart in
        let there : find key_order key (settled b s.log page).entries ≡ Some rid = leaf_has b s.log u.lawful key page may.way ∙ may.there in
        let has : CanTakeKey (s.pages page).page key = record {
          leaf = ap (λ (x : Body). x.kind) (sym here) ∙ (way_leaf (settled b s.log) key page may.way).0;
          has = λ none. absurd (let clash : Some rid ≡ None = sym there ∙ ap (λ (x : Body). find key_order key x.entries) here ∙ none in cc clash);
        } in
        record {
          sound = sound_own result (λ lsn. ChangedFrom d b base s entry lsn old w new) (λ lsn. KeyLogged d b base s e t last page (DeleteWhat key rid) lsn w new) kept.ok (kept.cause has)
              (λ lsn from.
              let log : History = from.before.log in
              let by : GrowsByImages b s.log log = from.keeps.log in
              let rest = unchanged b s.log log by in
              let opened : open_smo log ≡ open_smo s.log = open_longer b s.log log by in
              let outside : IsOutside t (open_smo log) = subst (λ (l : History). IsOutside t l) (sym opened) u.outside in
              let apart : IsNotIn page (open_smo log) = subst (λ (l : History). IsNotIn page l) (sym opened) may.apart in
              let unfinished : is_finished t log ≡ false = (rest.1 t).finished ∙ u.unfinished in
              let can : CanDropFrom (settled b s.log) page key rid = record { leaf = may.way; there = there } in
              record {
                now = _;
                stands = record {
                  stands = from.logged.stands;
                  over = from.keeps.redo_end ∙ u.over;
                  lawful = lawful_delete b log (images_lawful b s.log log by u.lawful) t last lsn page owner ((rest.1 t).last owner ∙ u.newest) unfinished from.logged.high outside apart key rid
                      (λ n other theirs. may.free n other (subst (λ (c : Effect). Touches c key) (rest.0.nets n) theirs))
                      (ap (λ (m : IndexMap). get m key) rest.0.walk ∙ may.there)
                      (subst (λ (f : Pages). CanDropFrom f page key rid) (sym (settled_longer b s.log log by)) can);
                  outside = outside;
                  newest = last_is log t last lsn page (DeleteWhat key rid);
                  undo = undo_is log t last lsn page (DeleteWhat key rid) refl;
                  unfinished = finished_is log t last lsn page (DeleteWhat key rid) refl unfinished;
                };
                opened = opened;
                point = from.keeps.point;
                durable = front_then s.durable from.before.durable from.logged.durable from.keeps.durable from.logged.grows;
                before = log;
                images = by;
                is = refl;
              });
          stops = stays_left new kept.stops;
        }
