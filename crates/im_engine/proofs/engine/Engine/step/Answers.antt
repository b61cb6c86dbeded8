use Rattle.std.proofs.Common.{ℕ, List, subst}
use Rattle.im_base_types.specs.Answers as answers
use Rattle.im_engine.specs.Told.{IsMade}
use Rattle.im_engine.proofs.Stepping.{step_as, step_barred}
use Rattle.im_engine.proofs.engine.Engine.step.Goals as goal

pub returns-in-Some : goal.returns-in-Some
returns-in-Some g c =
    let old = c.args.self.now in
    step_barred g.D.Disk c.args.step.now old (g.met.D.Disk.only_now old.disk) c.in-Some.fault c.in-Some.ensures

pub returns-in-Begin : goal.returns-in-Begin
returns-in-Begin g c =
    step_as g.D.Disk c.args.step.now _ c.in-Begin.is c.begin.result c.args.self.now c.begin.new.self c.in_default.ensures c.begin.ensures

pub returns-in-Fetch : goal.returns-in-Fetch
returns-in-Fetch g c =
    step_as g.D.Disk c.args.step.now _ c.in-Fetch.is c.fetch.result c.args.self.now c.fetch.new.self c.in_default.ensures
    (subst (λ (k : List ℕ). IsMade g.D.Disk (answers.Do c.in-Fetch.t (answers.Fetch k)) c.fetch.result c.args.self.now c.fetch.new.self) c.deref.ensures.value c.fetch.ensures)

pub returns-in-Seek : goal.returns-in-Seek
returns-in-Seek g c =
    step_as g.D.Disk c.args.step.now _ c.in-Seek.is c.seek.result c.args.self.now c.seek.new.self c.in_default.ensures
    (subst (λ (k : List ℕ). IsMade g.D.Disk (answers.Do c.in-Seek.t (answers.Seek k)) c.seek.result c.args.self.now c.seek.new.self) c.deref-in-Seek.ensures.value c.seek.ensures)

pub returns-in-Next : goal.returns-in-Next
returns-in-Next g c =
    step_as g.D.Disk c.args.step.now _ c.in-Next.is c.seek-in-Next.result c.args.self.now c.seek-in-Next.new.self c.in_default.ensures
    (subst (λ (k : List ℕ). IsMade g.D.Disk (answers.Do c.in-Next.t (answers.Next k)) c.seek-in-Next.result c.args.self.now c.seek-in-Next.new.self) c.deref-in-Next.ensures.value c.seek-in-Next.ensures)

pub returns-in-Prev : goal.returns-in-Prev
returns-in-Prev g c =
    step_as g.D.Disk c.args.step.now _ c.in-Prev.is c.prev.result c.args.self.now c.prev.new.self c.in_default.ensures
    (subst (λ (k : List ℕ). IsMade g.D.Disk (answers.Do c.in-Prev.t (answers.Prev k)) c.prev.result c.args.self.now c.prev.new.self) c.deref-in-Prev.ensures.value c.prev.ensures)

pub returns-in-Scan : goal.returns-in-Scan
returns-in-Scan g c =
    step_as g.D.Disk c.args.step.now _ c.in-Scan.is c.scan.result c.args.self.now c.scan.new.self c.in_default.ensures
    (subst (λ (k : List ℕ). IsMade g.D.Disk (answers.Do c.in-Scan.t (answers.Scan c.in-Scan.lo.items k c.in-Scan.limit)) c.scan.result c.args.self.now c.scan.new.self) c.deref-in-Scan-2.ensures.value (subst (λ (k : List ℕ). IsMade g.D.Disk (answers.Do c.in-Scan.t (answers.Scan k c.deref-in-Scan-2.result.now c.in-Scan.limit)) c.scan.result c.args.self.now c.scan.new.self) c.deref-in-Scan.ensures.value c.scan.ensures))

pub returns-in-Commit : goal.returns-in-Commit
returns-in-Commit g c =
    step_as g.D.Disk c.args.step.now _ c.in-Commit.is c.commit.result c.args.self.now c.commit.new.self c.in_default.ensures c.commit.ensures

pub returns-in-Rollback : goal.returns-in-Rollback
returns-in-Rollback g c =
    step_as g.D.Disk c.args.step.now _ c.in-Rollback.is c.roll_back.result c.args.self.now c.roll_back.new.self c.in_default.ensures c.roll_back.ensures

pub returns-in-Continue : goal.returns-in-Continue
returns-in-Continue g c =
    step_as g.D.Disk c.args.step.now _ c.in-Continue.is c.go_on.result c.args.self.now c.go_on.new.self c.in_default.ensures c.go_on.ensures

pub returns-in-RollTo : goal.returns-in-RollTo
returns-in-RollTo g c =
    step_as g.D.Disk c.args.step.now _ c.in-RollTo.is c.roll_to.result c.args.self.now c.roll_to.new.self c.in_default.ensures c.roll_to.ensures

pub returns-in-Force : goal.returns-in-Force
returns-in-Force g c =
    step_as g.D.Disk c.args.step.now _ c.in-Force.is c.force.result c.args.self.now c.force.new.self c.in_default.ensures c.force.ensures

pub returns-in-FlushPage : goal.returns-in-FlushPage
returns-in-FlushPage g c =
    step_as g.D.Disk c.args.step.now _ c.in-FlushPage.is c.flush_page.result c.args.self.now c.flush_page.new.self c.in_default.ensures c.flush_page.ensures

pub returns-in-Checkpoint : goal.returns-in-Checkpoint
returns-in-Checkpoint g c =
    step_as g.D.Disk c.args.step.now _ c.in-Checkpoint.is c.checkpoint.result c.args.self.now c.checkpoint.new.self c.in_default.ensures c.checkpoint.ensures

pub returns-in-Switch : goal.returns-in-Switch
returns-in-Switch g c =
    step_as g.D.Disk c.args.step.now _ c.in-Switch.is c.switch.result c.args.self.now c.switch.new.self c.in_default.ensures c.switch.ensures

pub returns-in-Insert : goal.returns-in-Insert
returns-in-Insert g c =
    step_as g.D.Disk c.args.step.now _ c.in-Insert.is c.insert.result c.args.self.now c.insert.new.self c.in_default.ensures
    (subst (λ (k : List ℕ). IsMade g.D.Disk (answers.Do c.in-Insert.t (answers.Insert k c.in-Insert.rid)) c.insert.result c.args.self.now c.insert.new.self) c.deref-in-Insert.ensures.value c.insert.ensures)

pub returns-in-Delete : goal.returns-in-Delete
returns-in-Delete g c =
    step_as g.D.Disk c.args.step.now _ c.in-Delete.is c.delete.result c.args.self.now c.delete.new.self c.in_default.ensures
    (subst (λ (k : List ℕ). IsMade g.D.Disk (answers.Do c.in-Delete.t (answers.Delete k)) c.delete.result c.args.self.now c.delete.new.self) c.deref-in-Delete.ensures.value c.delete.ensures)
