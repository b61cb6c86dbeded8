-- A transaction between two structure changes, and what a stop leaves meanwhile.
use Rattle.std.proofs.Common.{◌≡◌, ◌≢◌, ℕ, [], Some, sym, ap, subst, ◌∙◌}
use Rattle.std.proofs.Math.Path.{fun_ext}
use Rattle.im_base_types.specs.Pages.{Page}
use Rattle.im_theory_log.specs.Histories.{Base, History, page_at}
use Rattle.im_theory_log.specs.Lawful.{IsLawful}
use Rattle.im_theory_log.specs.LogLaws as logs
use Rattle.im_theory_log.specs.Structure.{open_smo, taken_back}
use Rattle.im_theory_log.specs.Transactions.{last_of, undo_next_of, is_finished}
use Rattle.im_theory_log.specs.Writer.{Writer, WriterKept}
use Rattle.im_theory_log.proofs.Cited.{has_tree, front_self, images_last, images_undo_next, images_open, reached_end}
use Rattle.im_base_disk.specs.declared.disk.Disk.{Ghosts}
use Rattle.im_base_disk.proofs.Runs.{then_on, weakened}
use Rattle.im_page_writer.specs.declared.page_writer.PageWriter.{PageWriter}
use Rattle.im_page_table.specs.Growth.{Keeps}
use Rattle.im_page_writer.specs.Outcome.{AllPages, pages_of, AreLoaded, HasPages}
use Rattle.im_page_flush.specs.Writing.{LeavesGrown}
use Rattle.im_page_writer.specs.PageWriter.{GoesOn, StandsAs}
use Rattle.im_page_flush.proofs.Goings.{leaves_so_far}
use Rattle.im_page_writer.proofs.Outcomes.{pages_here}
use Rattle.im_page_file.proofs.Standing.{wider_covered}
use Rattle.im_theory_tree.specs.Levels.{Pages, walk}
use Rattle.im_theory_tree.specs.Good.{IsGoodTree}
use Rattle.im_theory_tree.specs.Theory.{page_tree}
use Rattle.im_tree_search.specs.Levels.{bodies, bodies_of}
use Rattle.im_smo_log.specs.Changes.{LeftByChange, LeavesChange}
use Rattle.im_smo_log.proofs.ChangeLogs.{images_finished, images_lawful}
use Rattle.im_smo_log.proofs.Runs.{left_grown}
use Rattle.im_smo_actions.specs.Structure.{IsUnfinished, Restructured}
use Rattle.im_smo_actions.proofs.Growth.{images_as_change, change_then, change_none}

-- each page is as it was
pub pages_stay : (b : Base) (s t : Writer) → Keeps b s t → pages_of t ≡ pages_of s
pages_stay b s t keeps = fun_ext (λ (p : ℕ). (keeps.pages p).page)

module _ {D : Type 0} (d : Ghosts D) (b : Base) (base : ℕ) where
  -- ---- how a writer stands after redo

  module _ (s : Writer) (e : ℕ) (w : PageWriter) (disk : D) (stands : StandsAs d b base s w disk) (over : s.redo_end ≡ Some e) where
    writer_kept : WriterKept b s
    writer_kept = stands.writing.stands.kept

    -- no page waits for a copy
    pub stands_ready : AreLoaded s
    stands_ready p = ((writer_kept.pages p).run e over).0

    -- each page is as the log's records have made it
    pub stands_page : (p : ℕ) → (s.pages p).page ≡ page_at b s.log p
    stands_page p =
        let kept = writer_kept.pages p in
        let run = kept.run e over in
        reached_end b s.log (s.pages p).upto p (s.pages p).page run.1 (kept.now run.0)

    pub stands_bodies : bodies s ≡ logs.bodies b s.log
    stands_bodies = fun_ext (λ (p : ℕ). ap (λ (x : Page). x.body) (stands_page p))

  -- ---- an unfinished transaction

  module _ (s : Writer) (e t last undo_next : ℕ) (w : PageWriter) (disk : D) (u : IsUnfinished d b base s e t last undo_next w disk) where
    pub still_ready : AreLoaded s
    still_ready = stands_ready s e w disk u.stands u.over

    bodies_are : bodies s ≡ logs.bodies b s.log
    bodies_are = stands_bodies s e w disk u.stands u.over

    good_pages : IsGoodTree (logs.bodies b s.log) []
    good_pages = subst (λ (pages : Pages). IsGoodTree pages []) (fun_ext (λ (p : ℕ). ap (λ (l : History). taken_back l p (page_at b s.log p).body) u.closed)) (has_tree b page_tree s.log u.lawful).good

    -- the pages are a good tree
    pub unfinished_good : IsGoodTree (bodies s) []
    unfinished_good = subst (λ (pages : Pages). IsGoodTree pages []) (sym bodies_are) good_pages

    pub unfinished_pages : HasPages d AreLoaded (pages_of s) w disk
    unfinished_pages = pages_here d b base s w disk u.stands still_ready

  -- Images join the log
  module _ (s : Writer) (e t last undo_next : ℕ) (start : PageWriter) (old : D) (u : IsUnfinished d b base s e t last undo_next start old) (some : t ≢ 0)
      (now : Writer) (w : PageWriter) (mid : D) (on : GoesOn d b base s old now w mid) where
    pub unfinished_images : IsUnfinished d b base now e t last undo_next w mid
    unfinished_images =
        let by = on.goes.keeps.log in
        record {
          stands = record { working = on.working; writing = on.goes.writing; known = on.known };
          over = on.goes.keeps.redo_end ∙ u.over;
          lawful = images_lawful b s.log now.log by u.lawful;
          closed = ap open_smo by.is ∙ images_open b by.images s.log by.all ∙ u.closed;
          newest = ap (last_of t) by.is ∙ images_last b t by.images s.log some by.all ∙ u.newest;
          undo = ap (undo_next_of t) by.is ∙ images_undo_next b t by.images s.log some by.all ∙ u.undo;
          unfinished = ap (is_finished t) by.is ∙ images_finished b t by.images s.log some by.all ∙ u.unfinished;
        }

    -- nothing but these joined
    abbrev pub images_made : Restructured d b base s e t last undo_next w mid
    images_made = record {
      now = now;
      stands = unfinished_images;
      point = on.goes.keeps.point;
      durable = on.goes.keeps.durable;
      grows = images_as_change b t s.log now.log on.goes.keeps.log;
      same = ap (λ (store : AllPages). walk (bodies_of store)) (pages_stay b s now on.goes.keeps);
    }

  -- ---- what a stop leaves

  pub left_images : (s : Writer) (t : ℕ) (old new : D) → IsLawful b page_tree s.log → LeavesGrown d b base s old new → LeavesChange d b base s t old new
  left_images s t old new law stops = left_grown d b base s t s old new (front_self s.durable) law (change_none t s.log) stops

  -- after calls that add Images
  pub left_then : (s : Writer) (t : ℕ) (old : D) (now : Writer) (w : PageWriter) (mid : D) → IsLawful b page_tree s.log → GoesOn d b base s old now w mid → (new : D) → LeavesChange d b base now t mid new → LeavesChange d b base s t old new
  left_then s t old now w mid law on new stops =
      then_on d old mid new (LeftByChange d b base s t) (LeftByChange d b base s t)
      (left_images s t old mid law (leaves_so_far d b base s old now w.log w.table w.pool mid on.goes))
      (weakened d mid new (LeftByChange d b base now t) (LeftByChange d b base s t) stops
      (λ told c is. record {
        high = is.high;
        lawful = is.lawful;
        grows = change_then t s.log now.log is.high (images_as_change b t s.log now.log on.goes.keeps.log) is.grows;
        covered = wider_covered d b base s.durable now.durable is.high is.high c on.goes.keeps.durable (front_self is.high) is.covered;
      }))
      (λ told c is. is)
