use Rattle.std.proofs.Common.{◌≡◌, ℕ, false, refl, ap, ◌∙◌}
use Rattle.std.specs.Bool.{IsTrue}
use Rattle.im_base_types.specs.Pages.{Page}
use Rattle.im_page_pool.specs.Pool.{page_at}
use Rattle.im_page_writer.proofs.Outcomes.{pages_to, refused, search_of, sound_on, then}
use Rattle.im_restart_undo.proofs.PlaceCalls.{known_held}
use Rattle.im_restart_undo.proofs.Plans.{whole_but_still}
use Rattle.im_restart_undo.proofs.place.known_leaf.Goals as goal

pub returns-in_err-counted-clause-kept : goal.returns-in_err-counted-clause-kept
returns-in_err-counted-clause-kept g c pages whole = sound_on c.from_residual.result _ _ c.from_residual.ensures.1 (c.in_err-counted.ensures.kept pages whole)

pub returns-then-not-counted-clause-kept : goal.returns-then-not-counted-clause-kept
returns-then-not-counted-clause-kept g c pages whole = record {
  held = tt;
  none = λ none known. absurd (let clash : IsTrue c.in_ok-counted.counted = (c.in_ok-counted.ensures.kept pages whole).1 known.counted in let never : ⊥ = cc (clash, c.if-not-counted.true) in never);
}

pub returns-in_err-frame-clause-outcome : goal.returns-in_err-frame-clause-outcome
returns-in_err-frame-clause-outcome g c = then g.D.Disk c.in_ok-counted.ensures.outcome (refused g.D.Disk c.from_residual-in_err-frame.result c.from_residual-in_err-frame.ensures.1 (search_of g.D.Disk c.in_err-frame.ensures.outcome))

pub returns-in_err-frame-clause-kept : goal.returns-in_err-frame-clause-kept
returns-in_err-frame-clause-kept g c pages whole =
    let still = whole_but_still g.D.Disk whole c.in_ok-counted.ensures.outcome in
    sound_on c.from_residual-in_err-frame.result _ _ c.from_residual-in_err-frame.ensures.1 (c.in_err-frame.ensures.kept still.tree.now (pages_to g.D.Disk c.args.page still.tree.has))

pub returns-then-not-has_level-clause-outcome : goal.returns-then-not-has_level-clause-outcome
returns-then-not-has_level-clause-outcome g c = then g.D.Disk c.in_ok-counted.ensures.outcome (search_of g.D.Disk c.in_ok-frame.ensures.outcome)

pub returns-then-not-has_level-clause-kept : goal.returns-then-not-has_level-clause-kept
returns-then-not-has_level-clause-kept g c pages whole =
    let still = whole_but_still g.D.Disk whole c.in_ok-counted.ensures.outcome in
    let says : c.page.result.now ≡ pages c.args.page =
    c.page.ensures.page ∙ ap (λ (n : ℕ). page_at c.get.new.self.pool n) c.in_ok-frame.ensures.frame ∙ c.in_ok-frame.ensures.kept still.tree.now (pages_to g.D.Disk c.args.page still.tree.has) ∙ still.tree.agrees c.args.page c.requires.clear in
    record {
      held = tt;
      none = λ none known.
          let no : IsTrue false = c.if-not-has_level.ensures.1 (record { kind = ap (λ (x : Page). x.body.kind) says ∙ known.leaf; level = ap (λ (x : Page). x.body.level) says ∙ known.level }) in
          absurd (let never : ⊥ = cc no in never);
    }

pub returns-clause-outcome : goal.returns-clause-outcome
returns-clause-outcome g c = then g.D.Disk c.in_ok-counted.ensures.outcome (search_of g.D.Disk c.in_ok-frame.ensures.outcome)

pub returns-clause-kept : goal.returns-clause-kept
returns-clause-kept g c pages whole =
    let still = whole_but_still g.D.Disk whole c.in_ok-counted.ensures.outcome in
    let says : c.page.result.now ≡ pages c.args.page =
    c.page.ensures.page ∙ ap (λ (n : ℕ). page_at c.get.new.self.pool n) c.in_ok-frame.ensures.frame ∙ c.in_ok-frame.ensures.kept still.tree.now (pages_to g.D.Disk c.args.page still.tree.has) ∙ still.tree.agrees c.args.page c.requires.clear in
    record {
      held = known_held pages c.get.new.self.pool c.in_ok-frame.frame c.page.result.now c.args.page c.in_ok-frame.ensures.frame c.page.ensures.page says (c.if-not-has_level.ensures.0 refl)
          ((c.in_ok-counted.ensures.kept pages whole).0 (c.if-not-counted.false));
      none = λ clash. absurd (let never : ⊥ = cc clash in never);
    }
