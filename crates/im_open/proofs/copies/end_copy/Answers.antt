use Rattle.std.proofs.Common.{Ok, Err, ap, subst, sym}
use Rattle.im_store.specs.Copies.{IsCopyEnd}
use Rattle.im_open.proofs.copies.end_copy.Goals as goal

-- the copy that was ended got its names
pub returns-in-Ok-clause-ended : goal.returns-in-Ok-clause-ended
returns-in-Ok-clause-ended g c = record {
  to = c.in-Ok-Some.copy;
  ended = subst (λ o. IsCopyEnd _ _ _ c.args.store.now.engine c.end_copy.new.self.engine (Ok o)) c.in-Ok-Some.field-0-is c.in-Ok-Some.ensures.ended;
  named = (c.in-Ok._named, subst (λ x. g.F.Folder.names c.args.folder.now x (Ok c.in-Ok._named)) c.into_disk.ensures c.in-Ok.ensures.asked);
}

-- or the folder refused them
pub returns-in-Err-name_in-clause-refused : goal.returns-in-Err-name_in-clause-refused
returns-in-Err-name_in-clause-refused g c = (
  c.in-Ok-Some.copy,
  subst (λ o. IsCopyEnd _ _ _ c.args.store.now.engine c.end_copy.new.self.engine (Ok o)) c.in-Ok-Some.field-0-is c.in-Ok-Some.ensures.ended,
  subst (λ x. g.F.Folder.names c.args.folder.now x (Err c.in-Err-name_in.error)) c.into_disk.ensures c.in-Err-name_in.ensures.asked,
)
