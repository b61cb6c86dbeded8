use Rattle.std.proofs.Common.{◌∙◌, ap, false}
use Rattle.im_base_types.specs.Pages.{Page}
use Rattle.im_page_rounds.proofs.OnePage.{put_is}
use Rattle.im_page_rounds.proofs.one_page.put_key.Goals as goal

pub returns-in-Ok : goal.returns-in-Ok
returns-in-Ok c =
    c.set_lsn.ensures
    ∙ ap (λ (p : Page). record p { lsn = c.args.lsn }) (c.set_marked.ensures ∙ ap (λ (p : Page). record p { body = record p.body { marked = false } }) c.in-Ok.ensures.ok)
    ∙ put_is c.args.page.now c.args.lsn c.args.key.now c.args.rid c.args.i c.requires.place.place
