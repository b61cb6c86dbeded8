use Rattle.std.proofs.Common.{◌≡◌, ℕ, [], length, true, ap, sym, ◌∙◌, subst, arith}
use Rattle.im_base_types.specs.Pages.{Body, Page}
use Rattle.im_theory_page.specs.Page.{is_leaf_kind}
use Rattle.im_page_writer.proofs.Outcomes.{held_is, pages_still, sound_on, then}
use Rattle.im_theory_tree.specs.Levels.{height}
use Rattle.im_tree_search.specs.Levels.{kind_at}
use Rattle.im_smo_pages.specs.Seen.{bodies}
use Rattle.im_smo_split.specs.Readings.{IsRoom}
use Rattle.im_smo_split.specs.Tops.{IsPlaced}
use Rattle.im_smo_split.proofs.Placing.{root_placed, found_room, found_top}
use Rattle.im_smo_split.proofs.top.find_top.Goals as goal

pub returns-in_err-frame-clause-kept : goal.returns-in_err-frame-clause-kept
returns-in_err-frame-clause-kept g c store has good =
    sound_on c.from_residual.result _ _ c.from_residual.ensures.1 (c.in_err-frame.ensures.kept store c.args.key.now (record { has = has; spare = []; good = good }))

pub loop-place-init : goal.loop-place-init
loop-place-init g c =
    let e = c.in_ok-frame.ensures in
    record {
      outcome = e.outcome;
      at = e.held.at;
      page = rw (c.level-level.ensures, c.page.ensures.page) e.held.level;
      counted = record { root = λ is. omega arith; under = λ clash. absurd (cc clash) };
      kept = λ store has good.
          let r = e.kept store c.args.key.now (record { has = has; spare = []; good = good }) in
          let same : c.page.result.now ≡ store 1 = c.page.ensures.page ∙ r.shown ∙ ap store e.root in
          let tall : c.level-level.result ≡ height (bodies store) = c.level-level.ensures ∙ ap (λ (x : Page). x.body.level) same in
          subst (λ (n : ℕ). IsPlaced c.args.dense (bodies store) c.args.key.now c.level-level.result n (record { level = c.level-level.result; page = 1; parent = 0; root = true; pages = 2 })) (sym e.root)
          (root_placed (bodies store) c.args.key.now c.level-level.result good tall);
      gets = λ store has good.
          let r = e.kept store c.args.key.now (record { has = has; spare = []; good = good }) in
          let same : c.page.result.now ≡ store 1 = c.page.ensures.page ∙ r.shown ∙ ap store e.root in
          let tall : c.level-level.result ≡ height (bodies store) = c.level-level.ensures ∙ ap (λ (x : Page). x.body.level) same in
          omega (arith, e.gets, tall);
    }

pub returns-in_err-place-clause-kept : goal.returns-in_err-place-clause-kept
returns-in_err-place-clause-kept g c store has good =
    let l = c.loop-place in
    sound_on c.from_residual-in_err-place.result _ _ c.from_residual-in_err-place.ensures.1
    (c.in_err-place.ensures.kept store (pages_still g.D.Disk has l.invariant.outcome) good (l.invariant.kept store has good))

pub loop-place-preserved : goal.loop-place-preserved
loop-place-preserved g c =
    let l = c.loop-place in
    let e = c.in_ok-place.ensures in
    record {
      outcome = then g.D.Disk l.invariant.outcome e.outcome;
      at = e.stands.at;
      page = e.stands.page;
      counted = e.stands.counted;
      kept = λ store has good. e.kept store (pages_still g.D.Disk has l.invariant.outcome) good (l.invariant.kept store has good);
      gets = λ store has good. omega (arith, e.gets, e.level, l.invariant.gets store has good);
    }

pub returns-then-room_in-clause-kept : goal.returns-then-room_in-clause-kept
returns-then-room_in-clause-kept g c store has good =
    let l = c.loop-place in
    let end : l.place.level ≡ 0 = omega (arith, c.loop-place-test.false) in
    let leaf : IsPlaced c.args.dense (bodies store) c.args.key.now 0 l.place.frame.number l.place.top = subst (λ (h : ℕ). IsPlaced c.args.dense (bodies store) c.args.key.now h l.place.frame.number l.place.top) end (l.invariant.kept store has good) in
    let says : c.page-2.result.now.body ≡ bodies store l.place.frame.number = ap (λ (x : Page). x.body) (c.page-2.ensures.page ∙ held_is g.D.Disk l.place.frame (pages_still g.D.Disk has l.invariant.outcome) l.invariant.at) in
    let room : IsRoom true (bodies store l.place.frame.number) (length c.args.key.now) c.room_in.result = subst (λ (h : ℕ). IsRoom (is_leaf_kind (kind_at h)) (bodies store l.place.frame.number) (length c.args.key.now) c.room_in.result) end
    (subst (λ (b : Body). IsRoom (is_leaf_kind (kind_at l.place.level)) b (length c.args.key.now) c.room_in.result) says c.room_in.ensures) in
    found_room (bodies store) c.args.key.now l.place.frame.number l.place.top c.room_in.result leaf room c.if-room_in.true

pub returns-clause-kept : goal.returns-clause-kept
returns-clause-kept g c store has good =
    let l = c.loop-place in
    let end : l.place.level ≡ 0 = omega (arith, c.loop-place-test.false) in
    let leaf : IsPlaced c.args.dense (bodies store) c.args.key.now 0 l.place.frame.number l.place.top = subst (λ (h : ℕ). IsPlaced c.args.dense (bodies store) c.args.key.now h l.place.frame.number l.place.top) end (l.invariant.kept store has good) in
    let says : c.page-2.result.now.body ≡ bodies store l.place.frame.number = ap (λ (x : Page). x.body) (c.page-2.ensures.page ∙ held_is g.D.Disk l.place.frame (pages_still g.D.Disk has l.invariant.outcome) l.invariant.at) in
    let room : IsRoom true (bodies store l.place.frame.number) (length c.args.key.now) c.room_in.result = subst (λ (h : ℕ). IsRoom (is_leaf_kind (kind_at h)) (bodies store l.place.frame.number) (length c.args.key.now) c.room_in.result) end
    (subst (λ (b : Body). IsRoom (is_leaf_kind (kind_at l.place.level)) b (length c.args.key.now) c.room_in.result) says c.room_in.ensures) in
    found_top (bodies store) c.args.key.now l.place.frame.number l.place.top c.room_in.result leaf room c.if-room_in.false c.requires.short

pub returns-then-room_in-clause-gets : goal.returns-then-room_in-clause-gets
returns-then-room_in-clause-gets g c store has good = omega (arith, c.loop-place.invariant.gets store has good, c.loop-place-test.false)

pub returns-clause-gets : goal.returns-clause-gets
returns-clause-gets g c store has good = omega (arith, c.loop-place.invariant.gets store has good, c.loop-place-test.false)
