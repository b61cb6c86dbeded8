-- A page that a structure change logs in a step of its own: where the change stands after it.
use Rattle.std.proofs.Common.{◌≡◌, ◌≤◌, ◌<◌, ℕ, suc, Bool, true, false, List, [], ◌∷◌, ◌++◌, Some, None, inl, inr, refl, sym, ap, subst, ◌∙◌, arith}
use Rattle.std.specs.Prelude.{◌||◌, ◌==◌}
use Rattle.std.specs.List.{list_any}
use Rattle.std.proofs.Math.Path.{fun_ext}
use Rattle.std.proofs.lemmas.Bool.{cases_Bool, cond-true, cond-false, eq-eqb}
use Rattle.im_base_types.specs.Pages.{Body}
use Rattle.im_base_types.specs.Records.{Logged}
use Rattle.im_theory_log.specs.Histories.{Base, History, IsFront, end_of}
use Rattle.im_theory_log.specs.Lawful.{IsLawful}
use Rattle.im_theory_log.specs.Structure.{settled}
use Rattle.im_theory_log.specs.Transactions.{last_of, undo_next_of}
use Rattle.im_theory_log.specs.Writer.{Writer}
use Rattle.im_base_disk.specs.declared.disk.Disk.{Ghosts}
use Rattle.im_log.proofs.Above.{front_then}
use Rattle.im_page_table.specs.KnownCopies.{changed_as}
use Rattle.im_page_writer.specs.declared.page_writer.PageWriter.{PageWriter}
use Rattle.im_theory_tree.specs.Levels.{Pages}
use Rattle.im_theory_tree.specs.Search.{IsOnWay}
use Rattle.im_theory_tree.specs.Theory.{page_tree}
use Rattle.im_smo_pages.specs.Images.{Numbered, image_at, image_of, held}
use Rattle.im_smo_log.specs.declared.change.Change.{Change}
use Rattle.im_smo_log.specs.ChangePages.{numbers_of}
use Rattle.im_smo_log.specs.Changes.{GrowsByChange}
use Rattle.im_smo_log.specs.Logged.{smo_at}
use Rattle.im_smo_log.specs.Marks.{marked_if}
use Rattle.im_smo_log.specs.Stepping.{Goes, Stepped}
use Rattle.im_smo_log.specs.Under.{IsUnderWay}
use Rattle.im_smo_log.proofs.BetweenSteps.{pages_keep_settled}
use Rattle.im_smo_actions.proofs.Growth.{images_as_change}
use Rattle.im_restart_undo.proofs.Beside.{settled_longer}
use Rattle.im_engine_rollback.specs.SplitsBack.{IsSplitBack}
use Rattle.im_engine_rollback.proofs.SplitsBack.{others_leave_splits_back, pages_leave_splits_back}
use Rattle.im_engine.specs.declared.stepped.Aim.{Aim}
use Rattle.im_engine.specs.declared.stepped.Aim.TheVariants.{Puts, Drops, TakesBack, TookBack}
use Rattle.im_engine.specs.Aims.{Aims}
use Rattle.im_engine.proofs.GoingOn.{images_beside}
use Rattle.im_engine_access.proofs.OwnChanges.{goes_as}

-- a page that is not told of has no image
pub none_of : (images : List Numbered) (p : ℕ) → list_any (λ (q : ℕ). q == p) (numbers_of images) ≡ false → image_of images p ≡ None
none_of [] p not = refl
none_of (x ∷ xs) p not = elim (cases_Bool (x.0 == p)) [
  | inl is ↦ (let clash : true ≡ false = sym (ap (λ (t : Bool). t || list_any (λ (q : ℕ). q == p) (numbers_of xs)) is) ∙ not in let never : ⊥ = cc clash in absurd never)
  | inr other ↦ cond-false (x.0 == p) (Some x.1) (image_of xs p) other ∙ none_of xs p (sym (ap (λ (t : Bool). t || list_any (λ (q : ℕ). q == p) (numbers_of xs)) other) ∙ not)
]

-- ---- its next page

module _ {D : Type 0} (d : Ghosts D) (b : Base) (base : ℕ) (s : Writer) (c new : Change) (w : PageWriter) (disk : D) (step : Stepped d b base s c true new w disk) (goes : Goes b c s.log) where
  abbrev pub page : ℕ
  page = (image_at c.images c.done).0

  abbrev pub was : Body
  was = (s.pages page).page.body

  abbrev pub made : Body
  made = marked_if true (image_at c.images c.done).1.body

  abbrev pub record_of : Logged
  record_of = smo_at new.last c.transaction c.last page was made

  abbrev pub log_now : History
  log_now = record_of ∷ step.logged.before.log

  abbrev pub now : Writer
  now = record (changed_as step.logged.known record_of step.logged.before) { durable = step.logged.durable }

  under_way : IsUnderWay b c.transaction c.undo_next c.images (suc c.done) new.last log_now
  under_way = step.goes goes

  pub page_goes : Goes b new log_now
  page_goes = goes_as b new log_now c.transaction c.undo_next c.images (suc c.done) new.last step.owner step.leads step.images step.done refl under_way

  pub page_lawful : IsLawful b page_tree log_now
  page_lawful = under_way.lawful

  -- the settled pages are as they were
  pub page_settled : settled b log_now ≡ settled b s.log
  page_settled = fun_ext (λ (p : ℕ). pages_keep_settled b record_of step.logged.before.log was made under_way.lawful refl p) ∙ settled_longer b c.transaction s.log step.logged.before.log step.logged.keeps.log

  -- what it is for is to be done as it was
  split_on : IsSplitBack b c.undo_next c.images s.log → IsSplitBack b c.undo_next c.images log_now
  split_on is =
      let by = step.logged.keeps.log in
      let between : IsLawful b page_tree (by.images ++ s.log) = subst (λ (l : History). IsLawful b page_tree l) by.is under_way.lawful.0 in
      let still = others_leave_splits_back b c.transaction c.undo_next c.images c.done c.last by.images s.log goes between (images_beside b c.transaction c.owned c.images by.images s.log by.all) is in
      pages_leave_splits_back b c.undo_next c.images record_of step.logged.before.log was made under_way.lawful refl (subst (λ (l : History). IsSplitBack b c.undo_next c.images l) (sym by.is) still)

  page_aims : (aim : Aim) → Aims b aim c.undo_next c.images s.log → Aims b aim new.undo_next new.images log_now
  page_aims (Puts key rid leaf) to = record {
    way = subst (λ (xs : List Numbered). IsOnWay (held (settled b log_now) xs) 0 key leaf) (sym step.images) (subst (λ (f : Pages). IsOnWay (held f c.images) 0 key leaf) (sym page_settled) to.way);
    image = to.image;
    is = ap (λ (xs : List Numbered). image_of xs leaf) step.images ∙ to.is;
    room = to.room;
  }
  page_aims (Drops key) to = tt
  page_aims TakesBack to = subst (λ (n : ℕ). IsSplitBack b n new.images log_now) (sym step.leads) (subst (λ (xs : List Numbered). IsSplitBack b c.undo_next xs log_now) (sym step.images) (split_on to))
  page_aims TookBack to = tt

  -- it goes on
  pub page_going : (count count_now : ℕ) (aim aim_now : Aim) → count_now ≡ count → aim_now ≡ aim → count ≡ (settled b s.log 0).leftmost → Aims b aim c.undo_next c.images s.log → (count_now ≡ (settled b log_now 0).leftmost) × Aims b aim_now new.undo_next new.images log_now
  page_going count count_now aim aim_now same_count same counted to = (
    same_count ∙ counted ∙ sym (ap (λ (f : Pages). (f 0).leftmost) page_settled),
    subst (λ (x : Aim). Aims b x new.undo_next new.images log_now) (sym same) (page_aims aim to),
  )

  pub page_grows : GrowsByChange c.transaction s.log log_now
  page_grows =
      let images = images_as_change b c.transaction s.log step.logged.before.log step.logged.keeps.log in
      record { more = record_of ∷ images.more; is = ap (λ (l : History). record_of ∷ l) images.is; all = (refl, images.all) }

  pub page_front : IsFront s.durable now.durable
  page_front = front_then s.durable step.logged.before.durable step.logged.durable step.logged.keeps.durable step.logged.grows

  -- its row notes the record
  pub page_last : last_of c.transaction log_now ≡ new.last
  page_last = under_way.last

  pub page_undo : undo_next_of c.transaction log_now ≡ new.last
  page_undo = cond-true (c.transaction == c.transaction) new.last (undo_next_of c.transaction step.logged.before.log) (eq-eqb c.transaction c.transaction refl)

  pub page_newest : 1 ≤ new.last
  page_newest = let high : end_of b step.logged.before.log < new.last = step.logged.high in omega (arith, high)
