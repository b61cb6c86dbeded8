use Rattle.std.proofs.Common.{ℕ, refl, ap, sym, ◌∙◌, take, drop}
use Rattle.im_base_types.specs.declared.file_id.FileId.TheVariants.{Pages}
use Rattle.im_theory_page.specs.Page.{IsForm, page_of}
use Rattle.im_theory_page.proofs.FormLemmas.{page_of_form, no_page}
use Rattle.im_page.proofs.read_form.read_form.Goals as goal

pub returns-clause-page : goal.returns-clause-page
returns-clause-page g c told =
    ap (λ (n : ℕ). page_of (take n (drop c.args.at (g.D.Disk.seen c.args.disk.now Pages)))) (sym c.requires.len)
    ∙ ap page_of (sym (c.in_ok-read.ensures.read told))
    ∙ page_of_form c.read.new.buf (c.if-not-is_form.ensures.0 refl)

pub returns-then-not-is_form-clause-none : goal.returns-then-not-is_form-clause-none
returns-then-not-is_form-clause-none g c _ told =
    ap (λ (n : ℕ). page_of (take n (drop c.args.at (g.D.Disk.seen c.args.disk.now Pages)))) (sym c.requires.len)
    ∙ ap page_of (sym (c.in_ok-read.ensures.read told))
    ∙ no_page c.read.new.buf (λ (h : IsForm c.read.new.buf). let there = c.if-not-is_form.ensures.1 h in absurd cc)
