-- What is to be split after a split of an inner page among the images.
use Rattle.std.proofs.Common.{◌≡◌, ℕ, suc, Bool, List, ◌∷◌, Some, sym, subst, ◌∙◌, ⊎_elim, arith, false}
use Rattle.im_base_types.specs.Keys.{Key, IsBelow}
use Rattle.im_base_types.specs.Pages.{Body, Page}
use Rattle.im_page_writer.specs.Outcome.{AllPages}
use Rattle.im_base_types.specs.declared.page_kind.PageKind.TheVariants.{Inner}
use Rattle.im_theory_page.specs.Entry.{entry_at}
use Rattle.im_theory_page.specs.Child.{IsChild}
use Rattle.im_theory_tree.specs.Levels.{Pages, walk}
use Rattle.im_theory_tree.specs.Good.{AtOrAbove}
use Rattle.im_theory_tree.specs.Halves.{FitsPage}
use Rattle.im_theory_tree.specs.Search.{IsOnWay}
use Rattle.im_theory_tree.proofs.Cited.{relisted, step_way, way_begins}
use Rattle.im_tree_search.specs.Levels.{HasLevel}
use Rattle.im_tree_search.proofs.Steps.{way_level}
use Rattle.im_smo_pages.specs.Images.{Numbered, Has, IsRising, held, without_image}
use Rattle.im_smo_pages.specs.Changed.{SamePages, inner_split_pages, root_inner_split_pages}
use Rattle.im_smo_pages.specs.Parts.{CanHalve, CanSplit}
use Rattle.im_smo_pages.specs.Seen.{seen, page_in}
use Rattle.im_smo_split.specs.Steps.{HalvesInner, HalvesRoot}
use Rattle.im_smo_split.specs.PendingSplits.{IsPending, IsRootPending}
use Rattle.im_theory_tree.specs.Ways.{KeepsAllWays}
use Rattle.im_smo_split.proofs.PendingChains.{other_level, inner_low, inner_high, inner_ways, root_low, root_high, root_ways, inner_can, root_inner_can}
use Rattle.im_smo_split.proofs.TakenOut.{beneath, body_is, out_has, out_same, out_at, in_same}

-- a child is to be split under a part that is among the images, and the walk stays
abbrev pub GoesOnTo : Bool → Pages → Pages → List Numbered → List ℕ → Key → (k half child : ℕ) → Type 0
GoesOnTo dense pages new images spare key k half child = IsPending dense new spare key k half child × (walk new ≡ walk pages) × Has images half × KeepsAllWays pages new

-- ---- an inner page

module _ {dense : Bool} (s : AllPages) (xs : List Numbered) (up : IsRising xs) (spare : List ℕ) (key : Key) (k parent p q : ℕ) (pending : IsPending dense (seen s xs) (q ∷ spare) key (suc k) parent p) (page : Page) (is : page ≡ page_in s xs p) where
  -- the page is an inner one of its level
  pub pending_level : HasLevel (suc k) page.body
  pending_level = subst (HasLevel (suc k)) (sym (body_is s xs p page up is)) (way_level (seen s xs) (suc k) key p (step_way (seen s xs) (suc k) key parent p pending.way pending.child))

  -- its parent is another
  parent_other : p ≡ parent → ⊥
  parent_other e =
      let low = way_level (seen s xs) (suc k) key p (step_way (seen s xs) (suc k) key parent p pending.way pending.child) in
      let high = way_level (seen s xs) (suc (suc k)) key parent pending.way in
      other_level (seen s xs) p parent (suc k) (suc (suc k)) low.level high.level (omega arith) (sym e)

  pub parent_stays : Has xs parent → Has (without_image p xs) parent
  parent_stays has = out_has p parent xs up parent_other has

  pub can_split : (c : ℕ) → FitsPage false page.body.entries → IsChild page.body key c → CanSplit false Inner page.body (held (beneath s xs p page up is) (without_image p xs) parent) q
  can_split c fits child =
      let e = body_is s xs p page up is in
      subst (λ (pages : Pages). CanSplit false Inner page.body (pages parent) q) (sym (out_same s xs p page up is))
      (subst (λ (y : Body). CanSplit false Inner y (seen s xs parent) q) (sym e)
      (inner_can (seen s xs) (q ∷ spare) key k parent p q c pending (subst (λ (y : Body). FitsPage false y.entries) e fits) (subst (λ (y : Body). IsChild y key c) e child)))

  pub pending_on : (new : List Numbered) (half child : ℕ) → HalvesInner (without_image p xs) new page.body key parent p q half child → GoesOnTo dense (seen s xs) (seen s new) new spare key k half child
  pending_on new half child was =
      let e = body_is s xs p page up is in
      let h : HalvesInner (without_image p xs) new (seen s xs p) key parent p q half child = subst (λ (y : Body). HalvesInner (without_image p xs) new y key parent p q half child) e was in
      let n : ℕ = h.point in
      let to : SamePages (held (beneath s xs p page up is) new) (inner_split_pages (held (beneath s xs p page up is) (without_image p xs)) parent p q n) =
      h.parts.pages (beneath s xs p page up is) (out_at s xs p page up is ∙ e) in
      let split : SamePages (seen s new) (inner_split_pages (seen s xs) parent p q n) =
      subst (λ (pages : Pages). SamePages pages (inner_split_pages (seen s xs) parent p q n)) (in_same s xs p page up is new h.parts.left)
      (subst (λ (pages : Pages). SamePages (held (beneath s xs p page up is) new) (inner_split_pages pages parent p q n)) (out_same s xs p page up is) to) in
      ⊎_elim
      (λ (x : (half ≡ p) × IsBelow key (entry_at (seen s xs p).entries n).0).
      subst (λ (m : ℕ). GoesOnTo dense (seen s xs) (seen s new) new spare key k m child) (sym x.0)
      (let t = inner_low (seen s xs) (seen s new) spare key k parent p q n child pending h.rises h.parts.at split h.child_is x.1 in (t.0, t.1, h.parts.left, inner_ways (seen s xs) (seen s new) spare key k parent p q n child pending h.rises h.parts.at split h.child_is)))
      (λ (x : (half ≡ q) × AtOrAbove (Some (entry_at (seen s xs p).entries n).0) key).
      subst (λ (m : ℕ). GoesOnTo dense (seen s xs) (seen s new) new spare key k m child) (sym x.0)
      (let t = inner_high (seen s xs) (seen s new) spare key k parent p q n child pending h.rises h.parts.at split h.child_is x.1 in (t.0, t.1, h.parts.right, inner_ways (seen s xs) (seen s new) spare key k parent p q n child pending h.rises h.parts.at split h.child_is)))
      h.half_is

-- ---- the root

-- its parts are taken left and then right
pub root_relisted : {dense : Bool} (pages : Pages) (spare : List ℕ) (key : Key) (k l r : ℕ) → IsRootPending dense pages (r ∷ l ∷ spare) key k → IsRootPending dense pages (l ∷ r ∷ spare) key k
root_relisted pages spare key k l r pending = record {
  good = relisted pages (r ∷ l ∷ spare) (l ∷ r ∷ spare) (λ x. omega arith) pending.good;
  tall = pending.tall;
  splits = pending.splits;
}

module _ {dense : Bool} (s : AllPages) (xs : List Numbered) (up : IsRising xs) (spare : List ℕ) (key : Key) (k l r : ℕ) (pending : IsRootPending dense (seen s xs) (l ∷ r ∷ spare) key (suc k)) (page : Page) (is : page ≡ page_in s xs 1) where
  pub root_level : HasLevel (suc k) page.body
  root_level =
      subst (HasLevel (suc k)) (sym (body_is s xs 1 page up is))
      (way_level (seen s xs) (suc k) key 1 (subst (λ (h : ℕ). IsOnWay (seen s xs) h key 1) pending.tall (way_begins (seen s xs) (l ∷ r ∷ spare) key pending.good)))

  pub can_halve : (c : ℕ) → FitsPage false page.body.entries → IsChild page.body key c → CanHalve false Inner page.body
  can_halve c fits child =
      let e = body_is s xs 1 page up is in
      subst (CanHalve false Inner) (sym e)
      (root_inner_can (seen s xs) (l ∷ r ∷ spare) key k c pending (subst (λ (y : Body). FitsPage false y.entries) e fits) (subst (λ (y : Body). IsChild y key c) e child))

  pub root_pending_on : (new : List Numbered) (half child : ℕ) → HalvesRoot (without_image 1 xs) new page.body key l r half child → GoesOnTo dense (seen s xs) (seen s new) new spare key k half child
  root_pending_on new half child was =
      let e = body_is s xs 1 page up is in
      let h : HalvesRoot (without_image 1 xs) new (seen s xs 1) key l r half child = subst (λ (y : Body). HalvesRoot (without_image 1 xs) new y key l r half child) e was in
      let n : ℕ = h.point in
      let to : SamePages (held (beneath s xs 1 page up is) new) (root_inner_split_pages (held (beneath s xs 1 page up is) (without_image 1 xs)) l r n) =
      h.parts.pages (beneath s xs 1 page up is) (out_at s xs 1 page up is ∙ e) in
      let split : SamePages (seen s new) (root_inner_split_pages (seen s xs) l r n) =
      subst (λ (pages : Pages). SamePages pages (root_inner_split_pages (seen s xs) l r n)) (in_same s xs 1 page up is new h.parts.root)
      (subst (λ (pages : Pages). SamePages (held (beneath s xs 1 page up is) new) (root_inner_split_pages pages l r n)) (out_same s xs 1 page up is) to) in
      ⊎_elim
      (λ (x : (half ≡ l) × IsBelow key (entry_at (seen s xs 1).entries n).0).
      subst (λ (m : ℕ). GoesOnTo dense (seen s xs) (seen s new) new spare key k m child) (sym x.0)
      (let t = root_low (seen s xs) (seen s new) spare key k l r n child pending h.rises h.parts.at split h.child_is x.1 in (t.0, t.1, h.parts.left, root_ways (seen s xs) (seen s new) spare key k l r n child pending h.rises h.parts.at split h.child_is)))
      (λ (x : (half ≡ r) × AtOrAbove (Some (entry_at (seen s xs 1).entries n).0) key).
      subst (λ (m : ℕ). GoesOnTo dense (seen s xs) (seen s new) new spare key k m child) (sym x.0)
      (let t = root_high (seen s xs) (seen s new) spare key k l r n child pending h.rises h.parts.at split h.child_is x.1 in (t.0, t.1, h.parts.right, root_ways (seen s xs) (seen s new) spare key k l r n child pending h.rises h.parts.at split h.child_is)))
      h.half_is
