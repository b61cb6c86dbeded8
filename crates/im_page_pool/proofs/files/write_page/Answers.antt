use Rattle.std.proofs.Common.{◌*◌, length, arith}
use Rattle.std.proofs.lemmas.Result.{on_ok_weaker}
use Rattle.im_base_types.specs.declared.file_id.FileId.TheVariants.{Pages}
use Rattle.im_base_disk.specs.Disk.{Holds, InFile, Stepped, Torn}
use Rattle.im_base_disk.proofs.Runs.{weakened}
use Rattle.im_page_pool.specs.Writes.{TearsPage}
use Rattle.im_page_pool.proofs.PageFileLemmas.{writes_page, stepped, follows}
use Rattle.im_page_pool.proofs.files.write_page.Goals as goal

pub returns-clause-written : goal.returns-clause-written
returns-clause-written g c =
    on_ok_weaker c.write.result
    (λ (is : g.D.Disk.tells → Holds (c.args.p * 4096) c.bytes.result.now (g.D.Disk.seen c.args.disk.now Pages) (g.D.Disk.seen c.write.new.disk Pages)) (told : g.D.Disk.tells).
    let place = c.requires.place told in
    writes_page c.args.p c.args.page.now c.bytes.result.now (g.D.Disk.seen c.args.disk.now Pages) (g.D.Disk.seen c.write.new.disk Pages) c.bytes.ensures.len (omega arith) (is told) c.bytes.ensures.page)
    c.write.ensures.written

pub returns-clause-crash : goal.returns-clause-crash
returns-clause-crash g c = follows c.args.p (length c.bytes.result.now) (g.D.Disk.may_leave c.args.disk.now) (g.D.Disk.may_leave c.write.new.disk) c.bytes.ensures.len c.write.ensures.crash

pub returns-clause-any_moment : goal.returns-clause-any_moment
returns-clause-any_moment g c =
    weakened g.D.Disk c.args.disk.now c.write.new.disk
    (Stepped (InFile Pages (Torn (c.args.p * 4096) (length c.bytes.result.now))) (g.D.Disk.may_leave c.args.disk.now))
    (Stepped (InFile Pages (TearsPage c.args.p)) (g.D.Disk.may_leave c.args.disk.now))
    c.write.ensures.any_moment
    (λ told f left. stepped c.args.p (length c.bytes.result.now) (g.D.Disk.may_leave c.args.disk.now) c.bytes.ensures.len f left)
