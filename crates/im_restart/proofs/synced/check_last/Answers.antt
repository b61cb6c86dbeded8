use Rattle.std.proofs.Common.{rules, ◌≢◌, ◌-◌, ◌/◌, ◌<◌, Err, Option, sym, ◌∙◌, ap, subst, arith}
use Rattle.im_base_types.specs.declared.fault.Fault.TheVariants.{NotAStore}
use Rattle.im_base_types.specs.declared.file_id.FileId.TheVariants.{Pages}
use Rattle.im_base_types.specs.Pages.{Page}
use Rattle.im_theory_page.proofs.PageFileLemmas.{page_here}
use Rattle.im_restart.specs.Synced.{IsUnder}
use Rattle.im_restart.proofs.synced.check_last.Goals as goal

pub returns-in_err-read_from-clause-sound : goal.returns-in_err-read_from-clause-sound
returns-in_err-read_from-clause-sound g c told under =
    let file = g.D.Disk.seen c.args.disk.now Pages in
    let p = c.args.len / 4096 - 1 in
    let len = c.requires.within told in
    let some = c.requires.some in
    let other : c.in_err-read_from.field-0.0 ≢ NotAStore = λ same.
    let none = c.in_err-read_from.ensures.none (ap Err same) told in
    subst (λ (o : Option Page). IsUnder c.args.end o) (page_here file p (omega (arith, len, some)) ∙ none) under in
    search (rules, other)

pub returns-then-lsn-end-clause-under : goal.returns-then-lsn-end-clause-under
returns-then-lsn-end-clause-under g c told =
    let file = g.D.Disk.seen c.args.disk.now Pages in
    let p = c.args.len / 4096 - 1 in
    let len = c.requires.within told in
    let some = c.requires.some in
    let low : c.read_from.new.self.lsn < c.args.end = omega (arith, c.if-lsn-end.true, c.lsn.ensures) in
    subst (λ (o : Option Page). IsUnder c.args.end o) (sym (page_here file p (omega (arith, len, some)) ∙ c.in_ok-read_from.ensures.page told)) low

pub returns-else-lsn-end-clause-sound : goal.returns-else-lsn-end-clause-sound
returns-else-lsn-end-clause-sound g c told under =
    let file = g.D.Disk.seen c.args.disk.now Pages in
    let p = c.args.len / 4096 - 1 in
    let len = c.requires.within told in
    let some = c.requires.some in
    let low : c.read_from.new.self.lsn < c.args.end = subst (λ (o : Option Page). IsUnder c.args.end o) (page_here file p (omega (arith, len, some)) ∙ c.in_ok-read_from.ensures.page told) under in
    absurd (omega (arith, low, c.if-lsn-end.false, c.lsn.ensures))
