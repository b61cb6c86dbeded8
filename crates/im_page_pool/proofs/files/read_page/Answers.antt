use Rattle.std.proofs.Common.{◌≡◌, ◌∙◌, sym, ap, Some}
use Rattle.std.proofs.lemmas.Result.{on_ok_weaker}
use Rattle.im_base_types.specs.declared.file_id.FileId.TheVariants.{Pages}
use Rattle.im_base_disk.specs.Disk.{Files}
use Rattle.im_theory_page.specs.Page.{page_of}
use Rattle.im_theory_page.specs.PageFile.{page_bytes}
use Rattle.im_page_pool.proofs.PageFileLemmas.{read_past, read_within}
use Rattle.im_page_pool.proofs.files.read_page.Goals as goal

pub returns-then-len-p-clause-page : goal.returns-then-len-p-clause-page
returns-then-len-p-clause-page g c told = read_past (g.D.Disk.seen c.args.disk.now Pages) c.in_ok-len.len c.args.p c.reset.new.self (c.in_ok-len.ensures.len told) c.if-len-p.true c.reset.ensures

pub returns-clause-page : goal.returns-clause-page
returns-clause-page g c =
    on_ok_weaker c.read_from.result
    (λ (is : g.D.Disk.tells → page_of (page_bytes (g.D.Disk.seen c.len.new.self Pages) c.args.p) ≡ Some c.read_from.new.self) (told : g.D.Disk.tells).
    sym (read_within (g.D.Disk.seen c.args.disk.now Pages) c.in_ok-len.len c.args.p (c.in_ok-len.ensures.len told) c.if-len-p.false)
    ∙ ap (λ (s : Files). page_of (page_bytes (s Pages) c.args.p)) (sym c.in_ok-len.ensures.reads.seen)
    ∙ is told)
    c.read_from.ensures.page

pub returns-clause-none : goal.returns-clause-none
returns-clause-none g c refused told =
    sym (read_within (g.D.Disk.seen c.args.disk.now Pages) c.in_ok-len.len c.args.p (c.in_ok-len.ensures.len told) c.if-len-p.false)
    ∙ ap (λ (s : Files). page_of (page_bytes (s Pages) c.args.p)) (sym c.in_ok-len.ensures.reads.seen)
    ∙ c.read_from.ensures.none refused told
