use Rattle.std.proofs.Common.{◌≢◌, ◌-◌, ◌/◌, refl, sym, ◌∙◌, subst, arith}
use Rattle.im_base_types.specs.declared.fault.Fault.TheVariants.{NotAStore}
use Rattle.im_base_types.specs.declared.file_id.FileId.TheVariants.{Pages}
use Rattle.im_base_disk.specs.Disk.{Files}
use Rattle.im_theory_log.specs.RedoPoints.{redo_point}
use Rattle.im_theory_page.specs.PageFile.{file_page}
use Rattle.im_theory_page.proofs.PageFileLemmas.{page_past}
use Rattle.im_page_writer.proofs.LoggedChanges.{err_on}
use Rattle.im_restart_analysis.specs.Within.{IsWithin}
use Rattle.im_restart_analysis.proofs.CountedPages.{within_noted}
use Rattle.im_restart.specs.Synced.{IsUnder}
use Rattle.im_restart.proofs.SyncedFiles.{lacks_none, last_under}
use Rattle.im_restart.proofs.synced.check_file.Goals as goal

pub returns-then-not-has_each-clause-sound : goal.returns-then-not-has_each-clause-sound
returns-then-not-has_each-clause-sound g c b all told up over covers changed copies within =
    let file = g.D.Disk.seen c.args.disk.now Pages in
    let len = c.in_ok-len.ensures.len told in
    absurd (lacks_none b all (redo_point all) (file_page file) up covers c.args.last.now.count (c.in_ok-len.len / 4096) c.args.last.now.lsns c.args.copies.now changed.lsns copies
    (λ p past. page_past file p (omega (arith, len, past))) (c.if-not-has_each.ensures.lacks refl))

pub returns-clause-sound : goal.returns-clause-sound
returns-clause-sound g c b all told up over covers changed copies within =
    let p = c.in_ok-len.len / 4096 - 1 in
    let under = last_under b all (redo_point all) (file_page (g.D.Disk.seen c.args.disk.now Pages)) up covers p c.args.end (omega (arith, c.if-len-last.false, changed.named)) over in
    let seen = c.in_ok-check_named.ensures.reads.seen ∙ c.in_ok-len.ensures.reads.seen in
    c.check_last.ensures.sound told (subst (λ (f : Files). IsUnder c.args.end (file_page (f Pages) p)) (sym seen) under)

pub returns-in_err-check_named-clause-sound : goal.returns-in_err-check_named-clause-sound
returns-in_err-check_named-clause-sound g c b all told up over covers changed copies within =
    let last = c.args.last.now in
    let noted = within_noted all (redo_point all) last (file_page (g.D.Disk.seen c.args.disk.now Pages) 0) changed within in
    let here = subst (λ (f : Files). IsWithin last.named last.said (file_page (f Pages) 0)) (sym c.in_ok-len.ensures.reads.seen) noted in
    err_on c.from_residual-in_err-check_named.result c.in_err-check_named.field-0.0 (λ e. e ≢ NotAStore) c.from_residual-in_err-check_named.ensures.1 (c.in_err-check_named.ensures.sound told here)
