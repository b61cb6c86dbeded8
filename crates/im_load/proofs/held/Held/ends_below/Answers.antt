use Rattle.std.proofs.Common.{◌≡◌, ◌+◌, ◌-◌, length, ap, sym, subst, ◌∙◌, arith, rules}
use Rattle.im_base_types.specs.Keys.{Key, IsBelow}
use Rattle.im_base_types.specs.Pages.{Page}
use Rattle.im_theory_page.specs.Entry.{entry_at, Rises}
use Rattle.im_theory_page.proofs.Order.{below_from_less}
use Rattle.im_load.proofs.Tops.{top_by_last}
use Rattle.im_load.proofs.held.Held.ends_below.Goals as goal

pub returns-in-Less : goal.returns-in-Less
returns-in-Less c =
    let page : Page = c.self.inside.page.value in
    let rises : Rises page.body.entries = subst (λ (p : Page). Rises p.body.entries) c.deref.ensures c.law_content.ensures.rises in
    let len : c.len-len.result ≡ length page.body.entries = c.len-len.ensures ∙ ap (λ (p : Page). length p.body.entries) c.deref-2.ensures in
    let some : c.len-len.result - 1 + 1 ≡ length page.body.entries = omega (arith, c.if-len-eq0.false, len) in
    let less : IsBelow c.key.result.now c.args.key.now = below_from_less c.key.result.now c.args.key.now (sym c.in-Less.is ∙ c.compare.ensures) in
    let last : c.key.result.now ≡ (entry_at page.body.entries (c.len-len.result - 1)).0 =
    c.key.ensures.key ∙ ap (λ (p : Page). (entry_at p.body.entries (c.len-len.result - 1)).0) c.deref-3.ensures in
    let below : IsBelow (entry_at page.body.entries (c.len-len.result - 1)).0 c.args.key.now = subst (λ (k : Key). IsBelow k c.args.key.now) last less in
    rw (← c.self.view_is) ((λ _. top_by_last c.args.key.now page.body.entries (c.len-len.result - 1) rises some below), (λ _. search rules))
