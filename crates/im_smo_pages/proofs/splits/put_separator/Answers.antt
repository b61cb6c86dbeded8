use Rattle.std.proofs.Common.{rules, refl}
use Rattle.im_smo_pages.proofs.PartLemmas.{takes_separator, separator_at}
use Rattle.im_smo_pages.proofs.splits.put_separator.Goals as goal

pub returns-in-Ok-clause-takes : goal.returns-in-Ok-clause-takes
returns-in-Ok-clause-takes c =
    takes_separator c.args.page.now.body c.args.parent.now.body c.args.q c.args.n c.in-Err.at c.key-key.result.now (search rules) c.key-key.ensures.key c.in-Err.ensures
    (c.in-Ok.ensures.full.0 refl)

pub returns-in-Ok-clause-put : goal.returns-in-Ok-clause-put
returns-in-Ok-clause-put c =
    separator_at c.args.parent.now c.key-key.result.now _ c.args.q c.in-Err.at c.insert.new.self c.key-key.ensures.key c.in-Err.ensures c.in-Ok.ensures.ok
