-- A split over pages that are taken for it.
use Rattle.std.proofs.Common.{◌≡◌, ◌≢◌, ◌+◌, ◌-◌, ◌^◌, ◌<◌, ℕ, zero, true, false, Bool, List, [], refl, sym, ap, subst, ◌∙◌}
use Rattle.std.proofs.Math.Path.{fun_ext}
use Rattle.im_base_types.specs.Keys.{Key}
use Rattle.im_base_disk.specs.declared.disk.Disk.{Ghosts}
use Rattle.im_page_writer.specs.declared.page_writer.PageWriter.{PageWriter}
use Rattle.im_page_writer.specs.Outcome.{AllPages, AreLoaded, HasPages}
use Rattle.im_theory_tree.specs.Levels.{Pages, walk}
use Rattle.im_theory_tree.specs.Good.{IsGoodTree}
use Rattle.im_theory_tree.specs.Search.{IsOnWay}
use Rattle.im_smo_pages.specs.Images.{Numbered}
use Rattle.im_smo_pages.specs.Seen.{bodies, seen}
use Rattle.im_smo_pages.specs.Kept.{HasImages}
use Rattle.im_smo_split.specs.Pages.{newest_first, Taken}
use Rattle.im_smo_split.specs.Tops.{IsTop}
use Rattle.im_smo_split.specs.PendingSplits.{IsPending, IsRootPending}
use Rattle.im_smo_split.specs.Ends.{Ended}
use Rattle.im_smo_split.specs.declared.top.Top.{Top}
use Rattle.im_smo_split.proofs.PendingChains.{pending_stays, root_pending_stays, way_on}

-- without images the pages are seen as they are
pub seen_none : (s : AllPages) (images : List Numbered) → images ≡ [] → seen s images ≡ bodies s
seen_none s images none = ap (λ (l : List Numbered). seen s l) none ∙ fun_ext (λ (p : ℕ). refl)

module _ (s : AllPages) (first : List Numbered) (none : first ≡ []) where
  pub has_none : {D : Type 0} (d : Ghosts D) {w : PageWriter} {disk : D} → HasPages d AreLoaded s w disk → IsGoodTree (bodies s) [] → HasImages d s first [] w disk
  has_none {D} d {w} {disk} has good = record { has = has; good = subst (λ (pages : Pages). IsGoodTree pages []) (sym (seen_none s first none)) good }

  -- too few page numbers, as the pages say
  pub too_few : (count : ℕ) → 2 ^ 32 - 1 + (seen s first 0).prev < (seen s first 0).leftmost + count → 2 ^ 32 - 1 + (bodies s 0).prev < (bodies s 0).leftmost + count
  too_few count = subst (λ (pages : Pages). 2 ^ 32 - 1 + (pages 0).prev < (pages 0).leftmost + count) (seen_none s first none)

  module _ {dense : Bool} (key : Key) (top : Top) (is_top : IsTop dense (bodies s) key top) (mid : List Numbered) (numbers : List ℕ) (one : Taken s first numbers mid) where
    rest : (x : ℕ) → x ≢ 0 → seen s mid x ≡ bodies s x
    rest x other = one.rest x other ∙ ap (λ (pages : Pages). pages x) (seen_none s first none)

    pub has_taken_all : {D : Type 0} (d : Ghosts D) {w : PageWriter} {disk : D} → HasPages d AreLoaded s w disk → HasImages d s mid (newest_first numbers) w disk
    has_taken_all {D} d {w} {disk} has = record { has = has; good = one.good }

    pub root_on : top.root ≡ true → IsRootPending dense (seen s mid) (newest_first numbers) key top.level
    root_on e = root_pending_stays (bodies s) (seen s mid) [] (newest_first numbers) key top.level (is_top.root e) one.good rest

    pub under_on : top.root ≡ false → IsPending dense (seen s mid) (newest_first numbers) key top.level top.parent top.page
    under_on e = pending_stays (bodies s) (seen s mid) [] (newest_first numbers) key top.level top.parent top.page (is_top.under e) one.good rest

    -- the split
    pub down_done : (new : List Numbered) (leaf : ℕ) → IsGoodTree (bodies s) [] → Ended s key mid new leaf → Ended s key [] new leaf
    down_done new leaf good end = record {
      good = end.good;
      same = end.same ∙ one.same ∙ ap (λ (l : List Numbered). walk (seen s l)) none;
      room = end.room;
      way = end.way;
      ways = λ k q to apart.
          let from : IsOnWay (bodies s) zero k q = subst (λ (pages : Pages). IsOnWay pages zero k q) (seen_none s [] refl) to in
          end.ways k q (way_on (bodies s) (seen s mid) [] (newest_first numbers) good one.good rest k zero q from) apart;
      some = end.some;
      has = end.has;
    }
