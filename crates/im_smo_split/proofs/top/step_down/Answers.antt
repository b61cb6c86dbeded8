use Rattle.std.proofs.Common.{◌≡◌, ℕ, ◌-◌, Bool, false, suc, ap, sym, ◌∙◌, subst, arith}
use Rattle.im_base_types.specs.Pages.{Body, Page}
use Rattle.im_theory_page.specs.Child.{IsChild}
use Rattle.im_theory_page.specs.Page.{is_leaf_kind}
use Rattle.im_page_pool.specs.declared.frame.Frame.{Frame}
use Rattle.im_page_pool.specs.Pool.{page_at}
use Rattle.im_page_writer.proofs.Outcomes.{held_is, sound_on}
use Rattle.im_theory_tree.specs.KeySplits.{is_leaf_level}
use Rattle.im_tree_search.specs.Levels.{kind_at}
use Rattle.im_tree_search.proofs.Steps.{way_level, step_level}
use Rattle.im_smo_pages.specs.Seen.{bodies}
use Rattle.im_smo_split.specs.Readings.{HasUp, IsKeyRoom, IsRoom}
use Rattle.im_smo_split.specs.Tops.{IsPlaced}
use Rattle.im_smo_split.proofs.Placing.{leaf_at, placed}
use Rattle.im_smo_split.proofs.top.step_down.Goals as goal

pub returns-in_err-frame-clause-kept : goal.returns-in_err-frame-clause-kept
returns-in_err-frame-clause-kept g c store has good was =
    let a = c.args in
    let p = a.place.frame.number in
    let says : c.page-page.result.now.body ≡ bodies store p = ap (λ (x : Page). x.body) (c.page-page.ensures.page ∙ held_is g.D.Disk a.place.frame has c.requires.at) in
    let child = subst (λ (b : Body). IsChild b a.key.now c.child_at-child.result) says c.child_at-child.ensures in
    let goes = step_level (bodies store) a.place.level a.key.now p c.child_at-child.result c.requires.inner was.way child in
    sound_on c.from_residual.result _ _ c.from_residual.ensures.1 (c.in_err-frame.ensures.kept store has (way_level (bodies store) (a.place.level - 1) a.key.now c.child_at-child.result goes))

pub returns-clause-kept : goal.returns-clause-kept
returns-clause-kept g c store has good was =
    let a = c.args in
    let p = a.place.frame.number in
    let frame = c.in_ok-frame.frame in
    let says : c.page-page.result.now.body ≡ bodies store p = ap (λ (x : Page). x.body) (c.page-page.ensures.page ∙ held_is g.D.Disk a.place.frame has c.requires.at) in
    let child = subst (λ (b : Body). IsChild b a.key.now c.child_at-child.result) says c.child_at-child.ensures in
    let goes = step_level (bodies store) a.place.level a.key.now p c.child_at-child.result c.requires.inner was.way child in
    let got = c.in_ok-frame.ensures.kept store has (way_level (bodies store) (a.place.level - 1) a.key.now c.child_at-child.result goes) in
    let number = c.in_ok-frame.ensures.frame in
    let child_is : IsChild (bodies store p) a.key.now frame.number = subst (λ (n : ℕ). IsChild (bodies store p) a.key.now n) (sym number) child in
    let below_says : c.page.result.now.body ≡ bodies store frame.number =
    ap (λ (x : Page). x.body) (c.page.ensures.page ∙ ap (λ (n : ℕ). page_at c.tree_page.new.writer.pool n) number ∙ got ∙ ap store (sym number)) in
    let k : ℕ = a.place.level - 1 in
    let e : a.place.level ≡ suc k = omega (arith, c.requires.inner) in
    let below : c.next_place.result.level ≡ k = omega (arith, c.next_place.ensures.level) in
    let upper : IsPlaced c.args.dense (bodies store) a.key.now (suc k) p a.place.top = subst (λ (h : ℕ). IsPlaced c.args.dense (bodies store) a.key.now h p a.place.top) e was in
    let up : HasUp c.args.dense (is_leaf_level k) (bodies store frame.number) c.up_in-bytes.result =
    subst (λ (x : Bool). HasUp c.args.dense x (bodies store frame.number) c.up_in-bytes.result) (leaf_at k) (subst (λ (b : Body). HasUp c.args.dense (is_leaf_kind (kind_at k)) b c.up_in-bytes.result) below_says c.up_in-bytes.ensures.up) in
    let room_is : IsKeyRoom (is_leaf_kind (kind_at a.place.level)) (bodies store p) c.key_room-room.result =
    subst (λ (b : Body). IsKeyRoom (is_leaf_kind (kind_at a.place.level)) b c.key_room-room.result) says c.key_room-room.ensures in
    let room : IsRoom false (bodies store p) c.up_in-bytes.result c.fits_in-fits.result =
    subst (λ (x : Bool). IsRoom x (bodies store p) c.up_in-bytes.result c.fits_in-fits.result) (ap (λ (h : ℕ). is_leaf_kind (kind_at h)) e ∙ leaf_at (suc k))
    (c.fits_in-fits.ensures (is_leaf_kind (kind_at a.place.level)) (bodies store p) room_is) in
    placed (bodies store) a.key.now k p frame.number c.up_in-bytes.result a.place.top c.fits_in-fits.result good upper child_is up room
    c.next_place.result.level c.next_place.result.frame.number c.next_place.result.top below (ap (λ (f : Frame). f.number) c.next_place.ensures.frame) c.next_place.ensures.fits c.next_place.ensures.splits
