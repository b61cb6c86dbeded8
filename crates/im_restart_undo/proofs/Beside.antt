-- A transaction that is undone beside a structure change of another, and Images that join the log meanwhile.
use Rattle.std.proofs.Common.{◌≡◌, ◌≢◌, ◌≤◌, ℕ, true, false, [], ◌∷◌, ◌++◌, length, inr, sym, ◌∙◌, ap, subst, append-nil}
use Rattle.std.proofs.Math.Path.{fun_ext}
use Rattle.im_base_types.specs.Maps.{IndexMap}
use Rattle.im_base_types.specs.Pages.{Body, Page}
use Rattle.im_base_types.specs.Records.{Logged}
use Rattle.im_theory_log.specs.Copies.{AreImages, GrowsByImages}
use Rattle.im_theory_log.specs.Histories.{Base, History, IsRecordOf, changes_page, page_at}
use Rattle.im_theory_log.specs.Lawful.{IsLawful, IsNotIn, IsOutside}
use Rattle.im_theory_log.specs.LogLaws.{bodies}
use Rattle.im_theory_log.specs.Structure.{open_smo, settled, taken_back}
use Rattle.im_theory_log.specs.Transactions.{contents, contents_after, to_undo}
use Rattle.im_theory_log.specs.Writer.{Writer}
use Rattle.im_theory_log.proofs.Images.{images_contents, images_open, images_pages, images_to_undo, lawful_images}
use Rattle.im_base_disk.specs.declared.disk.Disk.{Ghosts}
use Rattle.im_log_record.specs.Entry.{Entry}
use Rattle.im_log.specs.Spelled.{logged_at}
use Rattle.im_log.specs.Whats.{what_of}
use Rattle.im_log.proofs.Above.{front_then}
use Rattle.im_page_writer.specs.declared.page_writer.PageWriter.{PageWriter}
use Rattle.im_page_writer.specs.PageWriter.{GoesOn}
use Rattle.im_page_flush.proofs.Goings.{leaves_so_far}
use Rattle.im_theory_tree.specs.Good.{AllOf}
use Rattle.im_theory_tree.specs.Theory.{page_tree}
use Rattle.im_theory_tree.specs.Ways.{with_leaf}
use Rattle.im_tree_search.specs.declared.change_beside.Beside.{Beside}
use Rattle.im_smo_log.specs.Under.{is_structural}
use Rattle.im_smo_log.proofs.ChangeLogs.{all_append}
use Rattle.im_smo_actions.specs.GoingBeside.{settled_pages, IsToldOf}
use Rattle.im_restart_analysis.specs.declared.rows.Loser.{Loser}
use Rattle.im_restart_analysis.specs.Undo.{IsNext}
use Rattle.im_restart_undo.specs.declared.back.Back.TheVariants.{Plain}
use Rattle.im_restart_undo.specs.GoingBeside.{entries_behind, IsAsPlanned, IsGoingBeside, TakenBeside}
use Rattle.im_restart_undo.specs.Records.{compensations, inverse_of}
use Rattle.im_restart_undo.specs.Undoing.{IsToUndo, LeavesUndo}
use Rattle.im_restart_undo.proofs.Growth.{compensations_append, grows_images, grows_then, images_compensate, left_both, left_from, left_images, owner_some, same_finished, same_row}

-- ---- Images

pub in_newer : (x : Logged) (newer older : History) → IsRecordOf x older → IsRecordOf x (newer ++ older)
in_newer x [] older is = is
in_newer x (r ∷ newer) older is = inr (in_newer x newer older is)

-- they are none of a structure change, and change no page
pub images_planned : (b : Base) (p : ℕ) (images older : History) → AreImages b images older → AllOf (IsAsPlanned (Plain p)) images
images_planned b p [] older all = tt
images_planned b p (r ∷ images) older all = (
  (ap is_structural all.0.what, λ change. absurd (let clash : false ≡ true = sym (ap changes_page all.0.what) ∙ change in let never : ⊥ = cc clash in never)),
  images_planned b p images older all.1,
)

module _ (b : Base) (t : ℕ) (old new : History) (by : GrowsByImages b old new) where
  pub open_longer : open_smo new ≡ open_smo old
  open_longer = ap open_smo by.is ∙ images_open b by.images old by.all

  pub settled_longer : settled b new ≡ settled b old
  settled_longer =
      fun_ext
      (λ (p : ℕ). ap (λ (l : History). settled b l p) by.is
      ∙ ap (λ (going : History). taken_back going p (page_at b (by.images ++ old) p).body) (images_open b by.images old by.all)
      ∙ ap (λ (g : Page). taken_back (open_smo old) p g.body) (images_pages b by.images old p by.all))

  pub contents_longer : contents b new ≡ contents b old
  contents_longer = ap (λ (l : History). contents b l) by.is ∙ images_contents b by.images old by.all

  pub lawful_longer : IsLawful b page_tree old → IsLawful b page_tree new
  lawful_longer law = subst (λ (l : History). IsLawful b page_tree l) (sym by.is) (lawful_images b page_tree by.images old by.all law)

  module _ (some : t ≢ 0) where
    pub stack_longer : to_undo t new ≡ to_undo t old
    stack_longer = ap (λ (l : History). to_undo t l) by.is ∙ images_to_undo b t by.images old some by.all

    pub next_longer : (x : Logged) → IsNext t old x → IsNext t new x
    next_longer x next = record {
      rest = next.rest;
      stack = stack_longer ∙ next.stack;
      key = next.key;
      owner = next.owner;
      logged = subst (λ (l : History). IsRecordOf x l) (sym by.is) (in_newer x by.images old next.logged);
      behind = subst (λ (n : ℕ). x.lsn ≤ n) (sym (ap (λ (q : Loser). q.undo_next) (same_row b t old new some by))) next.behind;
      falls = next.falls;
    }

-- ---- how it stands after them

module _ {D : Type 0} (d : Ghosts D) (b : Base) (base : ℕ) (s : Writer) (e t last undo_next : ℕ) (w : PageWriter) (disk : D) (g : IsGoingBeside d b base s e t last undo_next w disk) where
  pub beside_images : (old : D) (now : Writer) (v : PageWriter) (new : D) → GoesOn d b base s old now v new → IsGoingBeside d b base now e t last undo_next v new
  beside_images old now v new on =
      let some = owner_some t g.owner in
      let by = on.goes.keeps.log in
      record {
        stands = record { working = on.working; writing = on.goes.writing; known = on.known };
        over = on.goes.keeps.redo_end ∙ g.over;
        lawful = lawful_longer b t s.log now.log by g.lawful;
        outside = subst (λ (l : History). IsOutside t l) (sym (open_longer b t s.log now.log by)) g.outside;
        owner = g.owner;
        unfinished = same_finished b t s.log now.log some by ∙ g.unfinished;
        row = same_row b t s.log now.log some by ∙ g.row;
      }

  pub to_undo_beside : (entry : Entry) (old : D) (now : Writer) (v : PageWriter) (new : D) → GoesOn d b base s old now v new → IsToUndo d b base s t entry → IsToUndo d b base now t entry
  to_undo_beside entry old now v new on to = record { lsn = to.lsn; next = next_longer b t s.log now.log on.goes.keeps.log (owner_some t g.owner) (logged_at to.lsn entry) to.next }

-- what is told of the change beside is told of it still
pub told_longer : (b : Base) (beside : Beside) (old new : History) → GrowsByImages b old new → IsToldOf b beside old → IsToldOf b beside new
told_longer b beside old new by told =
    let pages : (p : ℕ) → bodies b new p ≡ bodies b old p = λ p. ap (λ (l : History). bodies b l p) by.is ∙ ap (λ (g : Page). g.body) (images_pages b by.images old p by.all) in
    let settled_here : settled b new ≡ settled b old = settled_longer b 0 old new by in
    let opens : open_smo new ≡ open_smo old = open_longer b 0 old new by in
    record {
      agrees = λ p not. pages p ∙ told.agrees p not ∙ sym (ap (λ (f : ℕ → Body). f p) settled_here);
      count = λ is. told.count is ∙ sym (ap (λ (f : ℕ → Body). (f 0).leftmost) settled_here);
      apart = λ p not. subst (λ (l : History). IsNotIn p l) (sym opens) (told.apart p not);
      none = λ none. opens ∙ told.none none;
    }

-- ---- a plan, and a compensation after it

module _ {D : Type 0} (d : Ghosts D) (b : Base) (base : ℕ) (s : Writer) (old : D) (now : Writer) (v : PageWriter) (mid : D) (on : GoesOn d b base s old now v mid) where
  -- a plan over the settled pages is one still after calls that changed none
  pub settled_pages_stay : settled_pages b now ≡ settled_pages b s
  settled_pages_stay =
      fun_ext
      (λ (p : ℕ). ap (λ (g : Page). record g { body = settled b now.log p }) (on.goes.keeps.pages p).page ∙ ap (λ (pages : ℕ → Body). record (s.pages p).page { body = pages p }) (settled_longer b 0 s.log now.log on.goes.keeps.log))

  -- what a stop leaves of such calls
  pub left_beside : (t : ℕ) → IsLawful b page_tree s.log → LeavesUndo d b base s t old mid
  left_beside t law = left_images d b base s t old mid law (leaves_so_far d b base s old now v.log v.table v.pool mid on.goes)

  -- and of calls after them
  pub left_behind : (t : ℕ) → IsLawful b page_tree s.log → (new : D) → LeavesUndo d b base now t mid new → LeavesUndo d b base s t old new
  left_behind t law new stops =
      left_both d b base s t old mid new (left_beside t law) (left_from d b base s t now mid new on.goes.keeps.durable (grows_images b t s.log now.log on.goes.keeps.log) stops)

  -- a compensation after them
  unfoldable pub taken_behind : (e t : ℕ) (entry : Entry) (p last : ℕ) (w : PageWriter) (new : D) → t ≢ 0 → IsLawful b page_tree s.log → TakenBeside d b base now e t entry (Plain p) last mid w new → TakenBeside d b base s e t entry (Plain p) last old w new
  unfolding grows_images grows_then
  taken_behind e t entry p last w new some law taken =
      let by : GrowsByImages b s.log now.log = on.goes.keeps.log in
      record {
        now = taken.now;
        going = taken.going;
        point = taken.point ∙ on.goes.keeps.point;
        durable = front_then s.durable now.durable taken.now.durable on.goes.keeps.durable taken.durable;
        grows = grows_then t s.log now.log taken.now.log (grows_images b t s.log now.log by) taken.grows;
        stops = left_behind t law new taken.stops;
        lsn = taken.lsn;
        stack = sym (stack_longer b t s.log now.log by some) ∙ taken.stack;
        map = taken.map ∙ ap (λ (m : IndexMap). contents_after (inverse_of (what_of entry)) m) (contents_longer b t s.log now.log by);
        once = ap (λ (rs : History). length rs)
            (compensations_append taken.grows.more by.images
            ∙ ap (λ (rs : History). compensations taken.grows.more ++ rs) (images_compensate b by.images s.log by.all) ∙ append-nil (compensations taken.grows.more)) ∙ taken.once;
        going_on = taken.going_on ∙ open_longer b t s.log now.log by;
        planned = all_append (IsAsPlanned (Plain p)) taken.grows.more by.images taken.planned (images_planned b p by.images s.log by.all);
        pages = subst (λ (pages : ℕ → Body). with_leaf pages p (entries_behind (what_of entry) (pages p).entries) ≡ settled b taken.now.log) (settled_longer b t s.log now.log by) taken.pages;
      }
