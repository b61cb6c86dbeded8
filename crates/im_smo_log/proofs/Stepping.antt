-- One page of a structure change that is made page by page, and its end.
use Rattle.std.proofs.Common.{Some, ◌≡◌, ℕ, suc, ◌+◌, ◌-◌, ◌<◌, ◌≤◌, Bool, true, false, List, [], ◌∷◌, ◌++◌, length, refl, sym, ap, subst, ◌∙◌}
use Rattle.std.specs.Prelude.{max}
use Rattle.im_base_types.specs.Pages.{Body, Page}
use Rattle.im_theory_log.specs.Histories.{Base, History, changes_page, end_of, page_at}
use Rattle.im_theory_log.specs.Copies.{AreImages}
use Rattle.im_theory_log.specs.Lawful.{IsLawful}
use Rattle.im_theory_log.specs.Writer.{Writer}
use Rattle.im_theory_log.proofs.Cited.{reached_end}
use Rattle.im_theory_log.proofs.Images.{images_pages, lawful_images}
use Rattle.im_base_disk.specs.declared.disk.Disk.{Ghosts}
use Rattle.im_page_writer.specs.declared.page_writer.PageWriter.{PageWriter}
use Rattle.im_page_writer.specs.PageWriter.{StandsAs, LoggedOnly}
use Rattle.im_log_record.specs.Entry as entries
use Rattle.im_theory_tree.specs.Same.{SameButMark}
use Rattle.im_theory_tree.specs.Theory.{page_tree}
use Rattle.im_smo_pages.specs.Images.{Numbered, image_at}
use Rattle.im_smo_log.specs.Logged.{smo_at, dummy_at, PageLogged}
use Rattle.im_smo_log.specs.Changes.{AreCounted}
use Rattle.im_smo_log.specs.Marks.{marked_if}
use Rattle.im_smo_log.specs.Under.{IsUnderWay, is_structural}
use Rattle.im_smo_log.specs.GoingOn.{HasClosed}
use Rattle.im_smo_log.proofs.Others.{others_keep}
use Rattle.im_smo_log.proofs.Going.{page_goes_on}
use Rattle.im_smo_log.proofs.Coming.{pages_may_come, closes_may_come}

-- Images keep it under way
pub images_go_on : (b : Base) (t undo_next : ℕ) (xs : List Numbered) (i prev : ℕ) (images older : History) → AreImages b images older → IsUnderWay b t undo_next xs i prev older → IsUnderWay b t undo_next xs i prev (images ++ older)
images_go_on b t undo_next xs i prev [] older all way = way
images_go_on b t undo_next xs i prev (r ∷ images) older all way =
    let rest = images_go_on b t undo_next xs i prev images older all.1 way in
    others_keep b t undo_next xs i prev r (images ++ older) rest (lawful_images b page_tree (r ∷ images) older all way.lawful)
    (λ mine. way.owner (sym mine ∙ all.0.no_owner))
    (ap is_structural all.0.what)
    (λ change. absurd (let clash : true ≡ false = sym change ∙ ap changes_page all.0.what in cc clash))

-- a page with the mark, or without, is the same but for it
same_marked : (m : Bool) (c : Body) → SameButMark c (marked_if m c)
same_marked true c = (record { kind = refl; level = refl; entries = refl; leftmost = refl }, record { prev = refl; next = refl })
same_marked false c = (record { kind = refl; level = refl; entries = refl; leftmost = refl }, record { prev = refl; next = refl })

-- the next page, marked or not, over the page as the log has it
pub page_logged_on : (b : Base) (t undo_next : ℕ) (xs : List Numbered) (i prev lsn : ℕ) (log : History) (was new : Body) → AreCounted xs → i < length xs → end_of b log < lsn → was ≡ (page_at b log (image_at xs i).0).body
    → SameButMark (image_at xs i).1.body new → ((image_at xs i).0 ≡ 0 → new.leftmost ≤ max was.leftmost ((image_at xs (length xs - 1)).0 + 1)) → IsUnderWay b t undo_next xs i prev log
    → IsUnderWay b t undo_next xs (suc i) lsn (smo_at lsn t prev (image_at xs i).0 was new ∷ log)
page_logged_on b t undo_next xs i prev lsn log was new all within high before same said way =
    let p = (image_at xs i).0 in
    let law : IsLawful b page_tree (smo_at lsn t prev p was new ∷ log) =
    subst (λ (x : Body). IsLawful b page_tree (smo_at lsn t prev p x new ∷ log)) (sym before) (pages_may_come b t undo_next xs i prev lsn log new way within all.1 all.2 high same) in
    page_goes_on b t undo_next xs i prev (smo_at lsn t prev p was new) log was new way law within refl refl refl same all.1 said

-- the writer's pages are those of its log
pub page_is : {D : Type 0} (d : Ghosts D) (b : Base) (base : ℕ) (s : Writer) (e : ℕ) (w : PageWriter) (disk : D) → StandsAs d b base s w disk → s.redo_end ≡ Some e → (p : ℕ) → (s.pages p).page ≡ page_at b s.log p
page_is d b base s e w disk is over p =
    let k = is.writing.stands.kept.pages p in
    let run = k.run e over in
    reached_end b s.log (s.pages p).upto p (s.pages p).page run.1 (k.now run.0)

module _ {D : Type 0} (d : Ghosts D) (b : Base) (base : ℕ) (s : Writer) (e : ℕ) (v : PageWriter) (old : D) (is : StandsAs d b base s v old) (over : s.redo_end ≡ Some e) (t undo_next : ℕ) (xs : List Numbered) (i prev : ℕ) where
  -- a page that was logged
  pub step_goes : (marked : Bool) (lsn : ℕ) (w : PageWriter) (disk : D) → AreCounted xs → i < length xs → (done : PageLogged d b base s t prev (image_at xs i).0 (image_at xs (length xs - 1)).0 (marked_if marked (image_at xs i).1.body) lsn w disk)
      → IsUnderWay b t undo_next xs i prev s.log → IsUnderWay b t undo_next xs (suc i) lsn (smo_at lsn t prev (image_at xs i).0 (s.pages (image_at xs i).0).page.body (marked_if marked (image_at xs i).1.body) ∷ done.before.log)
  step_goes marked lsn w disk all within done way =
      let p = (image_at xs i).0 in
      let images = done.keeps.log in
      let mid : IsUnderWay b t undo_next xs i prev done.before.log = subst (λ (l : History). IsUnderWay b t undo_next xs i prev l) (sym images.is) (images_go_on b t undo_next xs i prev images.images s.log images.all way) in
      let same : page_at b s.log p ≡ page_at b done.before.log p = sym (ap (λ (l : History). page_at b l p) images.is ∙ images_pages b images.images s.log p images.all) in
      page_logged_on b t undo_next xs i prev lsn done.before.log (s.pages p).page.body (marked_if marked (image_at xs i).1.body) all within done.high (ap (λ (g : Page). g.body) (page_is d b base s e v old is over p ∙ same)) (same_marked marked (image_at xs i).1.body) done.counted mid

  -- the record that closes it
  pub close_goes : (lsn : ℕ) (w : PageWriter) (disk : D) → AreCounted xs → i ≡ length xs → LoggedOnly d b base s (entries.DummyClr t prev undo_next) lsn w disk → IsUnderWay b t undo_next xs i prev s.log
      → HasClosed b t undo_next lsn (dummy_at lsn t prev undo_next ∷ s.log)
  close_goes lsn w disk all end done way = closes_may_come b t undo_next xs prev lsn s.log (subst (λ (n : ℕ). IsUnderWay b t undo_next xs n prev s.log) end way) all.0 done.high
