-- The structure change under way stands after what others log.
use Rattle.std.proofs.Common.{◌≡◌, ◌≢◌, ◌≤◌, ℕ, zero, suc, true, false, List, [], ◌∷◌, ◌++◌, Option, None, Some, refl, sym, ap, subst, ◌∙◌, arith, eq-eqb}
use Rattle.std.specs.Prelude.{if◌then◌else◌}
use Rattle.im_base_types.specs.Pages.{Page, Body}
use Rattle.im_base_types.specs.Records.{Logged}
use Rattle.im_theory_log.specs.Copies.{AreImages, GrowsByImages}
use Rattle.im_theory_log.specs.Histories.{Base, History, changes_page}
use Rattle.im_theory_log.specs.Lawful.{IsLawful, IsOutside}
use Rattle.im_theory_log.specs.Structure.{open_smo}
use Rattle.im_theory_tree.specs.Theory.{page_tree}
use Rattle.im_smo_pages.specs.Images.{Numbered, image_of}
use Rattle.im_smo_log.specs.BetweenSteps.{AreBeside, GoesOnBeside, IsRecordBeside}
use Rattle.im_smo_log.specs.Changes.{AreCounted}
use Rattle.im_smo_log.specs.Under.{AreLogged, IsUnderWay, is_structural}
use Rattle.im_smo_log.proofs.BetweenSteps.{others_go_on}
use Rattle.im_engine_rollback.proofs.SplitsBack.{others_leave_splits_back}
use Rattle.im_engine.specs.declared.stepped.Aim.{Aim}
use Rattle.im_engine.specs.declared.stepped.Aim.TheVariants.{Puts, Drops, TakesBack, TookBack}
use Rattle.im_engine.specs.declared.stepped.Under.{Under}
use Rattle.im_engine.specs.Aims.{Aims, IsChanging, IsGoing}

-- page 0 is among the images
pub zeroth : (images : List Numbered) → AreCounted images → (g : Page) × (image_of images 0 ≡ Some g)
zeroth [] counted = absurd (let some = counted.0 in omega (arith, some))
zeroth (x ∷ xs) counted = (x.1, ap (λ (c : _). if c then Some x.1 else image_of xs 0) (eq-eqb x.0 0 counted.1))

module _ (b : Base) where
  aims_go : (t undo_next : ℕ) (images : List Numbered) (done prev : ℕ) (more older : History) → IsUnderWay b t undo_next images done prev older → IsLawful b page_tree (more ++ older) → AreBeside t images more
      → GoesOnBeside b t undo_next images done prev older (more ++ older) → (aim : Aim) → Aims b aim undo_next images older → Aims b aim undo_next images (more ++ older)
  aims_go t undo_next images done prev more older goes law all on (Puts key rid leaf) is = record { way = on.ways key leaf is.way; image = is.image; is = is.is; room = is.room }
  aims_go t undo_next images done prev more older goes law all on (Drops key) is = tt
  aims_go t undo_next images done prev more older goes law all on TakesBack is = others_leave_splits_back b t undo_next images done prev more older goes law all is
  aims_go t undo_next images done prev more older goes law all on TookBack is = tt

  -- after records of others on no page of it
  pub others_go : (u : Under) (more older : History) → IsGoing b u older → IsLawful b page_tree (more ++ older) → AreBeside u.begun.change.transaction u.begun.change.images more → IsGoing b u (more ++ older)
  others_go u more older is law all =
      let c = u.begun.change in
      let on = others_go_on b c.transaction c.undo_next c.images c.done c.last more older is.goes law all in
      let page = zeroth c.images c.counted in
      record {
        goes = on.under;
        some = is.some;
        count = is.count ∙ sym (ap (λ (p : Body). p.leftmost) (on.settled_same 0 page.0 page.1));
        aims = aims_go c.transaction c.undo_next c.images c.done c.last more older is.goes law all on u.aim is.aims;
      }

  -- the open structure change is as it was
  pub others_leave_open : (u : Under) (more older : History) → IsGoing b u older → IsLawful b page_tree (more ++ older) → AreBeside u.begun.change.transaction u.begun.change.images more → open_smo (more ++ older) ≡ open_smo older
  others_leave_open u more older is law all =
      let c = u.begun.change in
      (others_go_on b c.transaction c.undo_next c.images c.done c.last more older is.goes law all).opened

  -- a record that changes no page, of another or of nobody
  pub plain_beside : (t : ℕ) (images : List Numbered) (r : Logged) → r.txn ≢ t → is_structural r.what ≡ false → changes_page r.what ≡ false → IsRecordBeside t images r
  plain_beside t images r other plain none = record { other = other; plain = plain; apart = λ is. absurd (let never : false ≡ true = sym none ∙ is in cc never) }

  pub images_beside : (t : ℕ) → 1 ≤ t → (images : List Numbered) (more older : History) → AreImages b more older → AreBeside t images more
  images_beside t owned images [] older all = tt
  images_beside t owned images (r ∷ more) older all = (
    plain_beside t images r (λ same. let zero : r.txn ≡ 0 = all.0.no_owner in omega (arith, zero, same, owned)) (ap is_structural all.0.what) (ap changes_page all.0.what),
    images_beside t owned images more older all.1,
  )

  -- after Images
  pub images_go : (under : Option Under) (older longer : History) → GrowsByImages b older longer → IsLawful b page_tree longer → open_smo longer ≡ open_smo older → IsChanging b under older → IsChanging b under longer
  images_go None older longer grows law opened is = opened ∙ is
  images_go (Some u) older longer grows law opened is =
      subst (λ (l : History). IsGoing b u l) (sym grows.is)
      (others_go u grows.images older is (subst (λ (l : History). IsLawful b page_tree l) grows.is law) (images_beside u.begun.change.transaction u.begun.change.owned u.begun.change.images grows.images older grows.all))

  -- after one record that changes no page, of another than its owner or of nobody
  pub record_goes : (under : Option Under) (r : Logged) (older : History) → IsLawful b page_tree (r ∷ older) → open_smo (r ∷ older) ≡ open_smo older → ((u : Under) → under ≡ Some u → r.txn ≢ u.begun.change.transaction) → is_structural r.what ≡ false → changes_page r.what ≡ false
      → IsChanging b under older → IsChanging b under (r ∷ older)
  record_goes None r older law opened other plain none is = opened ∙ is
  record_goes (Some u) r older law opened other plain none is =
      others_go u (r ∷ []) older is law (plain_beside u.begun.change.transaction u.begun.change.images r (other u refl) plain none, tt)

-- an open structure change is that of its transaction alone
pub other_than : (o t : ℕ) → o ≢ t → (images : List Numbered) (l i : ℕ) (going : History) → AreLogged o images l i going → IsOutside t going
other_than o t other images l i [] is = tt
other_than o t other images l zero (s ∷ rest) is = absurd is
other_than o t other images l (suc i) (s ∷ rest) is = λ same. other (sym is.0 ∙ same)
