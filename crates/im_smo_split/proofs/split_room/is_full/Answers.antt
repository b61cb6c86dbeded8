use Rattle.std.proofs.Common.{◌≡◌, ℕ, refl, sym, ap, ◌∙◌, subst}
use Rattle.std.specs.Prelude.{IfOk}
use Rattle.im_base_types.specs.Pages.{Body, Page}
use Rattle.im_base_types.specs.declared.page_kind.PageKind.TheVariants.{Meta}
use Rattle.im_page_pool.specs.Pool.{page_at}
use Rattle.im_page_writer.proofs.Outcomes.{ends_own, pages_to, refused, search_of, sound_on, sound_own}
use Rattle.im_smo_pages.specs.Seen.{bodies}
use Rattle.im_smo_split.specs.Readings.{IsFull}
use Rattle.im_smo_split.proofs.Reasons.{only_bytes, never_err}
use Rattle.im_page_writer.specs.Outcome.{no_page}
use Rattle.im_smo_split.proofs.split_room.is_full.Goals as goal

pub returns-in_err-frame-clause-outcome : goal.returns-in_err-frame-clause-outcome
returns-in_err-frame-clause-outcome g c = refused g.D.Disk c.from_residual.result c.from_residual.ensures.1 (search_of g.D.Disk c.in_err-frame.ensures.outcome)

pub returns-in_err-frame-clause-kept : goal.returns-in_err-frame-clause-kept
returns-in_err-frame-clause-kept g c store has meta = sound_on c.from_residual.result _ _ c.from_residual.ensures.1 (c.in_err-frame.ensures.kept store (pages_to g.D.Disk 0 has))

pub returns-clause-outcome : goal.returns-clause-outcome
returns-clause-outcome g c = ends_own g.D.Disk no_page refl refl refl c.full_in.result (search_of g.D.Disk c.in_ok-frame.ensures.outcome) (only_bytes c.full_in.result c.full_in.ensures.refused)

pub returns-clause-kept : goal.returns-clause-kept
returns-clause-kept g c store has meta =
    let got = c.in_ok-frame.ensures.kept store (pages_to g.D.Disk 0 has) in
    let same : c.page.result.now.body ≡ bodies store 0 = ap (λ (p : Page). p.body) (c.page.ensures.page ∙ ap (λ (n : ℕ). page_at c.get.new.self.pool n) c.in_ok-frame.ensures.frame ∙ got) in
    sound_own c.full_in.result _ _ (subst (λ (y : Body). IfOk c.full_in.result (IsFull y c.args.pages c.args.max)) same c.full_in.ensures.full)
    (never_err c.full_in.result _ (c.full_in.ensures.sound (subst (λ (y : Body). y.kind ≡ Meta) (sym same) meta))) (λ a is. is)
