use Rattle.std.proofs.Common.{rules, ◌∙◌, ap, subst}
use Rattle.im_open.proofs.Engines.{on_ok}
use Rattle.im_open.proofs.closing.close.Goals as goal

-- nothing was refused of the end, and its folder cut the logs of what it left
pub returns-in-Ok : goal.returns-in-Ok
returns-in-Ok g c = record {
  ended = c.close-closed.result.0;
  left = c.close-closed.result.1;
  end = c.close-closed.ensures;
  refused = search rules;
  cut = on_ok c.close-closed.result.0 (subst (λ x. g.F.Folder.cuts x c.cut_and_end.result) (c.into_disk-in-Ok.ensures ∙ ap (λ x. x.disk) c.into_disk.ensures) c.cut_and_end.ensures.asked);
  uncut = on_ok c.close-closed.result.0 c.cut_and_end.ensures.causes;
}

-- what was refused of the end is told
pub returns-in-Err : goal.returns-in-Err
returns-in-Err g c = record { ended = c.close-closed.result.0; left = c.close-closed.result.1; end = c.close-closed.ensures; refused = search rules; cut = search rules; uncut = search rules }
