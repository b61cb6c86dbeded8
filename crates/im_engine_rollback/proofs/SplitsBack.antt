-- What a split in front of a compensation is for, from its begin to its end.
use Rattle.std.proofs.Common.{◌≡◌, ◌≤◌, ◌<◌, ℕ, true, List, [], ◌∷◌, ◌++◌, Option, None, Some, inl, inr, refl, sym, ◌∙◌, ap, subst, arith, ◌==◌}
use Rattle.std.specs.Prelude.{IsSome}
use Rattle.std.proofs.Math.Path.{fun_ext}
use Rattle.std.proofs.lemmas.Bool.{cases_eq, cond-false, ne_eqb}
use Rattle.im_base_types.specs.Pages.{Body, Page}
use Rattle.im_base_types.specs.Records.{Logged}
use Rattle.im_theory_log.specs.Copies.{GrowsByImages}
use Rattle.im_theory_log.specs.Histories.{Base, History, Rises, end_of}
use Rattle.im_theory_log.specs.Lawful.{IsLawful, IsOutside}
use Rattle.im_theory_log.specs.Structure.{open_smo, settled}
use Rattle.im_theory_log.specs.Transactions.{reads_on, undo_next_of, undo_reads}
use Rattle.im_theory_log.specs.Writer.{Writer}
use Rattle.im_theory_log.proofs.Fronts.{rises}
use Rattle.im_base_disk.specs.declared.disk.Disk.{Ghosts}
use Rattle.im_log.specs.Whats.{what_of}
use Rattle.im_log.specs.Spelled.{logged_at}
use Rattle.im_theory_page.specs.Split.{HasRoom}
use Rattle.im_theory_tree.specs.Levels.{Pages}
use Rattle.im_theory_tree.specs.Search.{IsOnWay}
use Rattle.im_theory_tree.specs.Theory.{page_tree}
use Rattle.im_theory_tree.proofs.TheoryLaws.{page_tree_laws}
use Rattle.im_smo_pages.specs.Images.{Numbered, image_of, held, Has}
use Rattle.im_smo_pages.proofs.ImageLemmas.{body_or, applied_image}
use Rattle.im_smo_split.specs.declared.split_plan.SplitPlan.{SplitPlan}
use Rattle.im_smo_log.proofs.BetweenSteps.{others_go_on, pages_keep_settled}
use Rattle.im_restart_analysis.specs.declared.rows.Loser.{Loser}
use Rattle.im_restart_analysis.specs.Undo.{ComesTo, IsNext}
use Rattle.im_restart_analysis.proofs.Undoing.{undo_goes_on}
use Rattle.im_smo_actions.specs.GoingBeside.{settled_pages}
use Rattle.im_restart_undo.proofs.Behind.{split_of}
use Rattle.im_restart_undo.proofs.Beside.{beside_images, settled_longer, to_undo_beside}
use Rattle.im_engine_rollback.specs.SplitsBack.{OthersLeaveSplitsBack, PagesLeaveSplitsBack, SplitsBackBegin}

-- ---- reading, after later records

reads_low : (b : Base) (l : ℕ) (log : History) (x : Logged) → Rises b log → undo_reads l log ≡ Some x → l ≤ end_of b log
reads_low b l [] x up is = absurd (let clash : None ≡ Some x = is in cc clash)
reads_low b l (r ∷ older) x up is = elim (cases_eq r.lsn l) [
  | inl here ↦ omega (arith, here)
  | inr other ↦
      let rest : l ≤ end_of b older = reads_low b l older x up.0 (sym (cond-false (r.lsn == l) (reads_on r r.what (undo_reads r.undo_next older)) (undo_reads l older) (ne_eqb r.lsn l other)) ∙ is) in
      let high : end_of b older < r.lsn = up.1 in
      omega (arith, rest, high)
]

-- a later record leaves what reading comes to
pub reads_still : (b : Base) (l : ℕ) (r : Logged) (older : History) (x : Logged) → Rises b (r ∷ older) → undo_reads l older ≡ Some x → undo_reads l (r ∷ older) ≡ Some x
reads_still b l r older x up is =
    let low : l ≤ end_of b older = reads_low b l older x up.0 is in
    let high : end_of b older < r.lsn = up.1 in
    cond-false (r.lsn == l) (reads_on r r.what (undo_reads r.undo_next older)) (undo_reads l older) (ne_eqb r.lsn l (λ e. absurd (omega (arith, e, low, high)))) ∙ is

-- and so do several
reads_longer : (b : Base) (l : ℕ) (more older : History) (x : Logged) → Rises b (more ++ older) → undo_reads l older ≡ Some x → undo_reads l (more ++ older) ≡ Some x
reads_longer b l [] older x up is = is
reads_longer b l (r ∷ more) older x up is = reads_still b l r (more ++ older) x up (reads_longer b l more older x up.0 is)

-- what the transaction has to undo next is what reading comes to
reads_next : (b : Base) (log : History) (t undo_next : ℕ) (x : Logged) → IsLawful b page_tree log → IsOutside t (open_smo log) → 1 ≤ t → undo_next_of t log ≡ undo_next → IsNext t log x → undo_reads undo_next log ≡ Some x
reads_next b log t undo_next x law out owner at next = ap (λ (n : ℕ). undo_reads n log) (sym at) ∙ by (undo_reads (undo_next_of t log) log) refl ((undo_goes_on page_tree page_tree_laws).reads_beside b log t law out owner)
  where
    by : (o : Option Logged) → undo_reads (undo_next_of t log) log ≡ o → ComesTo t log o → undo_reads (undo_next_of t log) log ≡ Some x
    by None is none = absurd (let clash : [] ≡ x ∷ next.rest = sym none ∙ next.stack in cc clash)
    by (Some y) is found =
        let stacks : y ∷ found.rest ≡ x ∷ next.rest = sym found.stack ∙ next.stack in
        let same : y ≡ x = cc stacks in
        is ∙ ap Some same

-- ---- the laws

-- a page among the images
pub image_has : (images : List Numbered) (p : ℕ) → Has images p → (g : Page) × (image_of images p ≡ Some g)
image_has images p has = by (image_of images p) refl has
  where
    by : (o : Option Page) → image_of images p ≡ o → IsSome o → (g : Page) × (image_of images p ≡ Some g)
    by (Some g) is has = (g, is)
    by None is has = absurd (let never : ⊥ = cc has in never)

pub splits_back_begin : {D : Type 0} (d : Ghosts D) → SplitsBackBegin d
splits_back_begin {D} d b base s e t last undo_next beside entry change start old w disk g to splits =
    let now : Writer = splits.now in
    let by : GrowsByImages b s.log now.log = splits.on.goes.keeps.log in
    let going = beside_images d b base s e t last undo_next start old g old now w disk splits.on in
    let next = to_undo_beside d b base s e t last undo_next start old g entry old now w disk splits.on to in
    let plan : SplitPlan = record { images = change.images; leaf = splits.leaf } in
    let parts = split_of (settled_pages b s) (what_of entry) plan splits.planned.can in
    let pages : settled b now.log ≡ settled b s.log = settled_longer b t s.log now.log by in
    let at = image_has change.images splits.leaf (parts.planned.has parts.some) in
    let body : held (settled b s.log) change.images splits.leaf ≡ at.0.body = applied_image (settled b s.log) change.images splits.leaf ∙ ap (λ (o : Option Page). body_or o (settled b s.log splits.leaf)) at.1 in
    record {
      found = logged_at next.lsn entry;
      reads = reads_next b now.log t undo_next (logged_at next.lsn entry) going.lawful going.outside g.owner (ap (λ (r : Loser). r.undo_next) going.row) next.next;
      key = parts.key;
      rid = parts.rid;
      dropped = parts.same;
      leaf = splits.leaf;
      page = at.0;
      way = subst (λ (f : Pages). IsOnWay (held f change.images) 0 parts.key splits.leaf) (sym pages) (parts.planned.way parts.some);
      image = at.1;
      room = subst (λ (c : Body). HasRoom true c.entries (parts.key, 0)) body (parts.planned.fits splits.leaf (parts.planned.way parts.some));
    }

pub others_leave_splits_back : OthersLeaveSplitsBack
others_leave_splits_back b t undo_next images done prev more older under law beside is =
    let on = others_go_on b t undo_next images done prev more older under law beside in
    record {
      found = is.found;
      reads = reads_longer b undo_next more older is.found (rises b page_tree (more ++ older) law) is.reads;
      key = is.key;
      rid = is.rid;
      dropped = is.dropped;
      leaf = is.leaf;
      page = is.page;
      way = on.ways is.key is.leaf is.way;
      image = is.image;
      room = is.room;
    }

pub pages_leave_splits_back : PagesLeaveSplitsBack
pages_leave_splits_back b undo_next images r older was new law what is =
    let pages : settled b (r ∷ older) ≡ settled b older = fun_ext (λ (p : ℕ). pages_keep_settled b r older was new law what p) in
    record {
      found = is.found;
      reads = reads_still b undo_next r older is.found (rises b page_tree (r ∷ older) law) is.reads;
      key = is.key;
      rid = is.rid;
      dropped = is.dropped;
      leaf = is.leaf;
      page = is.page;
      way = subst (λ (f : Pages). IsOnWay (held f images) 0 is.key is.leaf) (sym pages) is.way;
      image = is.image;
      room = is.room;
    }
