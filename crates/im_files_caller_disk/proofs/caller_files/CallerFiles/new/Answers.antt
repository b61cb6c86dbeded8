use Rattle.std.proofs.Common.{Bool, refl, sym, subst}
use Rattle.im_files_caller_disk.specs.Ways.{IsWay}
use Rattle.im_files_caller_disk.specs.declared.caller_files.Way.TheVariants.{Kept}
use Rattle.im_files_caller_disk.proofs.caller_files.CallerFiles.new.Goals as goal

pub returns-then-is_read-clause-way : goal.returns-then-is_read-clause-way
returns-then-is_read-clause-way c = subst (λ (b : Bool). IsWay b c.args.disk (Kept c.new.result)) (sym c.if-is_read.true) (c.new.result, refl, c.new.ensures.base)
