use Rattle.std.proofs.Common.{◌≡◌, true, false, Ok, Err, refl, inl, inr, sym, ap, subst, ◌∙◌}
use Rattle.im_page.specs.declared.header.Header.{Header}
use Rattle.im_base_model_disk.specs.declared.model_disk.ModelDisk.{ModelDisk}
use Rattle.im_base_two_logs.specs.declared.renamed.Renamed.{Renamed}
use Rattle.im_engine.proofs.Looked.{look_works, look_fails}
use Rattle.im_tool_lines.specs.declared.store_answers.StoreReply.TheVariants as replies
use Rattle.im_tool_lines.specs.Stops.{HasCome}
use Rattle.im_tool_drill.proofs.StoreRunning.{look_run}
use Rattle.im_tool_drill.proofs.StoreLooks.{looked_on, looked_as}
use Rattle.im_tool_drill.proofs.NamedDisk.{named_ghosts}
use Rattle.im_tool_drill.proofs.store_lives.look_at.Goals as goal

pub returns-in-Ok-clause-kept : goal.returns-in-Ok-clause-kept
returns-in-Ok-clause-kept c before s life =
    let old = c.args.engine.now in
    let new = c.header-header.new.self in
    let k = c.header-header.ensures.kept before s life.0 life.1 in
    let works : new.failed ≡ false = look_works named_ghosts old new (Ok c.in-Ok.header) c.in-Ok.ensures.outcome in
    record { after = λ going. looked_on named_ghosts before s life.0 old new k works; stops = λ files left. k.stops.each tt files (inl left) }

pub returns-then-has_come-clause-kept : goal.returns-then-has_come-clause-kept
returns-then-has_come-clause-kept c before s life =
    let k = c.header-header.ensures.kept before s life.0 life.1 in
    record { after = λ no. absurd (no refl); stops = λ files left. k.stops.each tt files (inl left) }

pub returns-in-Err-clause-kept : goal.returns-in-Err-clause-kept
returns-in-Err-clause-kept c before s life =
    let old = c.args.engine.now in
    let new = c.header-header.new.self in
    let k = c.header-header.ensures.kept before s life.0 life.1 in
    let breaks = look_fails named_ghosts old new {A = Header} (Err c.in-Err.fault) c.in-Err.ensures.outcome in
    record { after = λ going. looked_as named_ghosts before s life.0 old new _ k breaks; stops = λ files left. k.stops.each tt files (inl left) }

pub returns-then-has_come-clause-run : goal.returns-then-has_come-clause-run
returns-then-has_come-clause-run c =
    let e = c.header-header.ensures in
    look_run named_ghosts c.args.stop.now c.args.page replies.Stopped c.args.engine.now c.header-header.new.self c.header-header.result e.header e.outcome e.kept
    (inl (subst (λ (disk : ModelDisk). HasCome c.args.stop.now disk) (c.disk-2.ensures ∙ ap (λ (n : Renamed ModelDisk). n.disk) c.disk.ensures) (c.has_come.ensures.0 c.if-has_come.true), refl))

pub returns-in-Ok-clause-run : goal.returns-in-Ok-clause-run
returns-in-Ok-clause-run c =
    let e = c.header-header.ensures in
    look_run named_ghosts c.args.stop.now c.args.page (replies.Page c.args.page c.in-Ok.header) c.args.engine.now c.header-header.new.self c.header-header.result e.header e.outcome e.kept
    (inr (
      (λ come.
          let yes : c.has_come.result ≡ true = c.has_come.ensures.1 (subst (λ (disk : ModelDisk). HasCome c.args.stop.now disk) (sym (c.disk-2.ensures ∙ ap (λ (n : Renamed ModelDisk). n.disk) c.disk.ensures)) come) in
          let no = c.if-has_come.false in absurd (cc)),
      rw c.in-Ok.is refl,
    ))

pub returns-in-Err-clause-run : goal.returns-in-Err-clause-run
returns-in-Err-clause-run c =
    let e = c.header-header.ensures in
    look_run named_ghosts c.args.stop.now c.args.page (replies.Refused c.in-Err.fault) c.args.engine.now c.header-header.new.self c.header-header.result e.header e.outcome e.kept
    (inr (
      (λ come.
          let yes : c.has_come.result ≡ true = c.has_come.ensures.1 (subst (λ (disk : ModelDisk). HasCome c.args.stop.now disk) (sym (c.disk-2.ensures ∙ ap (λ (n : Renamed ModelDisk). n.disk) c.disk.ensures)) come) in
          let no = c.if-has_come.false in absurd (cc)),
      rw c.in-Err.is refl,
    ))
