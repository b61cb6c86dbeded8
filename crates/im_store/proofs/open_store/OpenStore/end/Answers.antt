use Rattle.im_store.proofs.Kept.{kept_then, refused_then}
use Rattle.im_store.proofs.open_store.OpenStore.end.Goals as goal
use Rattle.im_store.proofs.Keeping.{ok_on, err_on}

pub returns-clause-kept : goal.returns-clause-kept
returns-clause-kept g c = kept_then g.D.Disk c.args.self.now.engine c.keep.new.engine c.close.new.engine c.keep.ensures.kept c.close.ensures.kept

pub returns-clause-made : goal.returns-clause-made
returns-clause-made g c =
    ok_on c.close.result c.close.ensures.rule
    (λ ended. record { mid = c.keep.new.engine; u = c.keep.new.self; rule = c.in_default.ensures.rule; bounds = c.keep.ensures.bounds; pages = c.keep.ensures.pages; noted = c.keep.ensures.noted; ended = ended })

pub returns-clause-refused : goal.returns-clause-refused
returns-clause-refused g c =
    err_on c.close.result c.close.ensures.refused (λ fault. refused_then g.D.Disk c.args.self.now.engine c.keep.new.engine c.close.new.engine fault c.keep.ensures.kept)
