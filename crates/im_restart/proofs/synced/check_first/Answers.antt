use Rattle.std.proofs.Common.{rules, ◌≢◌, ◌≤◌, Err, Option, sym, ◌∙◌, ap, subst, arith}
use Rattle.im_base_types.specs.declared.fault.Fault.TheVariants.{NotAStore}
use Rattle.im_base_types.specs.declared.file_id.FileId.TheVariants.{Pages}
use Rattle.im_base_types.specs.Pages.{Page}
use Rattle.im_theory_page.proofs.PageFileLemmas.{page_here, page_past}
use Rattle.im_restart_analysis.specs.Within.{SaysPages}
use Rattle.im_restart.proofs.synced.check_first.Goals as goal

pub returns-then-len-lt-PAGE-clause-sound : goal.returns-then-len-lt-PAGE-clause-sound
returns-then-len-lt-PAGE-clause-sound g c told says =
    let file = g.D.Disk.seen c.args.disk.now Pages in
    let len = c.requires.within told in
    let more = c.requires.more in
    let few : c.args.named ≤ 2 = subst (λ (o : Option Page). SaysPages c.args.named o) (page_past file 0 (omega (arith, len, c.if-len-lt-PAGE.true))) says in
    absurd (omega (arith, more, few))

pub returns-in_err-read_from-clause-sound : goal.returns-in_err-read_from-clause-sound
returns-in_err-read_from-clause-sound g c told says =
    let file = g.D.Disk.seen c.args.disk.now Pages in
    let len = c.requires.within told in
    let other : c.in_err-read_from.field-0.0 ≢ NotAStore = λ same.
    let none = c.in_err-read_from.ensures.none (ap Err same) told in
    subst (λ (o : Option Page). SaysPages c.args.named o) (page_here file 0 (omega (arith, len, c.if-len-lt-PAGE.false)) ∙ none) says in
    search (rules, other)

pub returns-then-named-from-clause-says : goal.returns-then-named-from-clause-says
returns-then-named-from-clause-says g c told =
    let file = g.D.Disk.seen c.args.disk.now Pages in
    let len = c.requires.within told in
    let low : c.args.named ≤ c.read_from.new.self.body.leftmost = omega (arith, c.if-named-from.true, c.from.ensures, c.leftmost.ensures) in
    subst (λ (o : Option Page). SaysPages c.args.named o) (sym (page_here file 0 (omega (arith, len, c.if-len-lt-PAGE.false)) ∙ c.in_ok-read_from.ensures.page told)) low

pub returns-else-named-from-clause-sound : goal.returns-else-named-from-clause-sound
returns-else-named-from-clause-sound g c told says =
    let file = g.D.Disk.seen c.args.disk.now Pages in
    let len = c.requires.within told in
    let low : c.args.named ≤ c.read_from.new.self.body.leftmost = subst (λ (o : Option Page). SaysPages c.args.named o) (page_here file 0 (omega (arith, len, c.if-len-lt-PAGE.false)) ∙ c.in_ok-read_from.ensures.page told) says in
    absurd (omega (arith, low, c.if-named-from.false, c.from.ensures, c.leftmost.ensures))
