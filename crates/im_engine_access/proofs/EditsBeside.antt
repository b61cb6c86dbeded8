-- What an insert or a delete logs beside a structure change of another, and where it begins one of its own.
use Rattle.std.proofs.Common.{◌≡◌, inl, inr, ◌≤◌, ℕ, Bool, true, List, [], ◌∷◌, length, None, Some, Option, sym, ◌∙◌, ap, subst, arith}
use Rattle.std.specs.Prelude.{not, cond, ◌==◌}
use Rattle.std.specs.Ordering.{eq_by_cmp}
use Rattle.std.specs.FinMap.{get}
use Rattle.std.specs.FinMap.Entries.{find}
use Rattle.std.proofs.Math.Path.{fun_ext}
use Rattle.std.proofs.lemmas.Bool.{cases_Bool, cases_eq, cond-true, cond-false, eq-eqb, ne_eqb}
use Rattle.im_base_types.specs.declared.fault.Fault.{Fault}
use Rattle.im_base_types.specs.Keys.{Key, key_order}
use Rattle.im_base_types.specs.Maps.{IndexMap, without_key}
use Rattle.im_base_types.specs.Pages.{Entry, Page}
use Rattle.im_base_types.specs.Changes.{Effect, Touches}
use Rattle.im_base_types.specs.Records.{What}
use Rattle.im_theory_log.specs.Copies.{GrowsByImages}
use Rattle.im_theory_log.specs.Histories.{Base, History}
use Rattle.im_theory_log.specs.Lawful.{IsNotIn, IsOutside}
use Rattle.im_theory_log.specs.Lawful as lawful
use Rattle.im_theory_log.specs.Structure.{open_smo, settled}
use Rattle.im_theory_log.specs.Transactions.{contents}
use Rattle.im_theory_log.specs.Tree.{with_entries}
use Rattle.im_theory_log.specs.Writer.{Writer}
use Rattle.im_base_disk.specs.declared.disk.Disk.{Ghosts}
use Rattle.im_log.proofs.Above.{front_then}
use Rattle.im_page_table.proofs.Growing.{grows_then}
use Rattle.im_page_writer.specs.declared.page_writer.PageWriter.{PageWriter}
use Rattle.im_page_writer.specs.Outcome.{AllPages, AreLoaded, Outcome as Ends}
use Rattle.im_page_writer.specs.PageWriter.{Evicted, GoesOn}
use Rattle.im_page_writer.proofs.Outcomes.{leaves_of_end}
use Rattle.im_theory_page.specs.Split.{HasRoom}
use Rattle.im_theory_tree.specs.Levels.{Pages}
use Rattle.im_theory_tree.specs.Search.{IsOnWay}
use Rattle.im_theory_tree.specs.Ways.{with_leaf}
use Rattle.im_tree_search.specs.declared.change_beside.Beside.{Beside}
use Rattle.im_tree_search.specs.Levels.{bodies_of}
use Rattle.im_smo_pages.specs.Bodies.{says}
use Rattle.im_smo_drop_leaf.specs.Emptied.{emptied}
use Rattle.im_smo_log.proofs.ChangeLogs.{images_lawful}
use Rattle.im_smo_actions.specs.GoingBeside.{settled_pages, IsToldOf, HasWholeTreeBut}
use Rattle.im_smo_actions.proofs.Growth.{images_as_change}
use Rattle.im_smo_actions.proofs.Standing.{left_images, stands_ready}
use Rattle.im_smo_actions.proofs.Told.{plans_have_trees}
use Rattle.im_engine_access.specs.KeyLogs.{IsGoingOn, KeyLogged, LeavesEdit, MayPut, MayTake}
use Rattle.im_engine_access.proofs.Inserts.{edit_then}
use Rattle.im_engine_access.proofs.KeyLogs.{grows_within, left_edit, open_longer, settled_longer, unchanged}

-- ---- pages of which one has no entries

-- a list of one entry, without that entry's key
pub none_left : (k : Key) (i : ℕ) (es : List Entry) → length es ≡ 1 → find key_order k es ≡ Some i → without_key k es ≡ []
none_left k i [] one has = absurd (let clash : None ≡ Some i = has in cc clash)
none_left k i (e ∷ []) one has = elim (cases_Bool (eq_by_cmp key_order k e.0)) [
  | inl is ↦ ap (λ (x : Bool). cond (not x) (e ∷ []) []) is
  | inr other ↦ (let clash : None ≡ Some i = sym (ap (λ (x : Bool). cond x (Some e.1) None) other) ∙ has in absurd (cc clash))
]
none_left k i (e ∷ f ∷ es) one has = absurd (omega (arith, one))

pub emptied_is : (pages : AllPages) (p : ℕ) (es : List Entry) → es ≡ [] → with_leaf (bodies_of pages) p es ≡ bodies_of (emptied pages p)
emptied_is pages p es none = fun_ext (λ (q : ℕ). elim (cases_eq p q) [
  | inl here ↦
      cond-true (p == q) (with_entries (bodies_of pages p) es) (bodies_of pages q) (eq-eqb p q here)
      ∙ ap (λ (x : List Entry). with_entries (bodies_of pages p) x) none
      ∙ ap (λ (x : ℕ). with_entries (bodies_of pages x) []) here
      ∙ sym (ap (λ (g : Page). g.body) (cond-true (p == q) (says (pages q) (with_entries (bodies_of pages q) [])) (pages q) (eq-eqb p q here)))
  | inr other ↦
      cond-false (p == q) (with_entries (bodies_of pages p) es) (bodies_of pages q) (ne_eqb p q other)
      ∙ sym (ap (λ (g : Page). g.body) (cond-false (p == q) (says (pages q) (with_entries (bodies_of pages q) [])) (pages q) (ne_eqb p q other)))
])

module _ {D : Type 0} (d : Ghosts D) (b : Base) (base : ℕ) (s : Writer) (e t last undo_next : ℕ) (v : PageWriter) (old : D) (g : IsGoingOn d b base s e t last undo_next v old) where
  pub going_loaded : AreLoaded s
  going_loaded = stands_ready d b base s e v old g.stands g.over

  -- the settled pages are a whole tree, but for those that the change beside has made
  pub going_tree : (beside : Beside) → IsToldOf b beside s.log → HasWholeTreeBut d (settled_pages b s) beside v old
  going_tree beside told = plans_have_trees d b base s e beside v old g.stands g.over g.lawful told

  -- after calls that change no page
  pub going_evicted : {m : Fault → Bool} {w : PageWriter} {disk : D} → Ends d AreLoaded m v old w disk None → Evicted d b base s old w disk
  going_evicted {m} {w} {disk} one = one.ends.goes b base s g.stands going_loaded

  pub going_left : {m : Fault → Bool} {w : PageWriter} {disk : D} {why : Option Fault} → Ends d AreLoaded m v old w disk why → LeavesEdit d b base s t old disk
  going_left {m} {w} {disk} {why} one = left_edit d b base s t old disk (left_images d b base s t old disk g.lawful (leaves_of_end d one b base s g.stands going_loaded))

  module _ (owner : 1 ≤ t) (now : Writer) (w : PageWriter) (disk : D) (on : GoesOn d b base s old now w disk) where
    images : GrowsByImages b s.log now.log
    images = on.goes.keeps.log

    opened : open_smo now.log ≡ open_smo s.log
    opened = open_longer b s.log now.log images

    pub settled_on : settled b now.log ≡ settled b s.log
    settled_on = settled_longer b s.log now.log images

    pub going_on : IsGoingOn d b base now e t last undo_next w disk
    going_on =
        let rest = unchanged b s.log now.log images in
        record {
          stands = record { working = on.working; writing = on.goes.writing; known = on.known };
          over = on.goes.keeps.redo_end ∙ g.over;
          lawful = images_lawful b s.log now.log images g.lawful;
          outside = subst (λ (l : History). IsOutside t l) (sym opened) g.outside;
          newest = (rest.1 t).last owner ∙ g.newest;
          undo = (rest.1 t).undo owner ∙ g.undo;
          unfinished = (rest.1 t).finished ∙ g.unfinished;
        }

    pub left_on : {m : Fault → Bool} → Ends d AreLoaded m v old w disk None → (new : D) → LeavesEdit d b base now t disk new → LeavesEdit d b base s t old new
    left_on {m} one new stops = edit_then d b base s now t old disk new (grows_within t s.log now.log (images_as_change b t s.log now.log images)) on.goes.keeps.durable (going_left one) stops

    module _ (key : Key) (free : lawful.IsFree t key s.log) (page : ℕ) (apart : IsNotIn page (open_smo s.log)) (way : IsOnWay (settled b s.log) 0 key page) where
      free_on : lawful.IsFree t key now.log
      free_on = λ n other theirs. free n other (subst (λ (c : Effect). Touches c key) ((unchanged b s.log now.log images).0.nets n) theirs)

      get_on : get (contents b now.log) key ≡ get (contents b s.log) key
      get_on = ap (λ (m : IndexMap). get m key) (unchanged b s.log now.log images).0.walk

      pub may_put_on : get (contents b s.log) key ≡ None → HasRoom true (settled b s.log page).entries (key, 0) → MayPut d b base now e t last undo_next page key w disk
      may_put_on absent room = record {
        unfinished = going_on;
        free = free_on;
        absent = get_on ∙ absent;
        apart = subst (λ (l : History). IsNotIn page l) (sym opened) apart;
        way = subst (λ (f : Pages). IsOnWay f 0 key page) (sym settled_on) way;
        room = subst (λ (f : Pages). HasRoom true (f page).entries (key, 0)) (sym settled_on) room;
      }

      pub may_take_on : (rid : ℕ) → get (contents b s.log) key ≡ Some rid → MayTake d b base now e t last undo_next page key rid w disk
      may_take_on rid there = record {
        unfinished = going_on;
        free = free_on;
        there = get_on ∙ there;
        apart = subst (λ (l : History). IsNotIn page l) (sym opened) apart;
        way = subst (λ (f : Pages). IsOnWay f 0 key page) (sym settled_on) way;
      }

    -- a record after them is one after the older log
    pub logged_on : (page : ℕ) (what : What) (lsn : ℕ) (x : PageWriter) (new : D) → KeyLogged d b base now e t last page what lsn x new → KeyLogged d b base s e t last page what lsn x new
    logged_on page what lsn x new k = record {
      now = k.now;
      stands = k.stands;
      opened = k.opened ∙ opened;
      point = k.point ∙ on.goes.keeps.point;
      durable = front_then s.durable now.durable k.now.durable on.goes.keeps.durable k.durable;
      before = k.before;
      images = grows_then b s.log now.log k.before images k.images;
      is = k.is;
    }
