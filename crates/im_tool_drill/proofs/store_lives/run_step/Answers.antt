use Rattle.std.proofs.Common.{◌≡◌, true, refl, inl, inr, sym, ap, subst, ◌∙◌}
use Rattle.im_base_model_disk.specs.declared.model_disk.ModelDisk.{ModelDisk}
use Rattle.im_base_two_logs.specs.declared.renamed.Renamed.{Renamed}
use Rattle.im_tool_lines.specs.Stops.{HasCome}
use Rattle.im_tool_drill.proofs.store_lives.run_step.Goals as goal

pub returns-then-has_come-clause-run : goal.returns-then-has_come-clause-run
returns-then-has_come-clause-run c =
    record {
      reply = c.step-reply.result;
      made = c.step-reply.ensures;
      says = inl (subst (λ (disk : ModelDisk). HasCome c.args.stop.now disk) (c.disk-2.ensures ∙ ap (λ (n : Renamed ModelDisk). n.disk) c.disk.ensures) (c.has_come.ensures.0 c.if-has_come.true), refl);
    }

pub returns-else-has_come-clause-run : goal.returns-else-has_come-clause-run
returns-else-has_come-clause-run c =
    record {
      reply = c.step-reply.result;
      made = c.step-reply.ensures;
      says = inr (
        (λ come.
            let yes : c.has_come.result ≡ true = c.has_come.ensures.1 (subst (λ (disk : ModelDisk). HasCome c.args.stop.now disk) (sym (c.disk-2.ensures ∙ ap (λ (n : Renamed ModelDisk). n.disk) c.disk.ensures)) come) in
            let no = c.if-has_come.false in absurd (cc)),
        refl,
      );
    }

pub returns-else-has_come-clause-kept : goal.returns-else-has_come-clause-kept
returns-else-has_come-clause-kept c before s life =
    let k = c.step-reply.ensures.kept before s life.0 life.1 in
    record { after = λ going. (k.next, k.after); stops = λ files left. k.after.stops files left }

pub returns-then-has_come-clause-kept : goal.returns-then-has_come-clause-kept
returns-then-has_come-clause-kept c before s life =
    let k = c.step-reply.ensures.kept before s life.0 life.1 in
    record { after = λ no. absurd (no refl); stops = λ files left. k.stops.each tt files (inl left) }
