use Rattle.im_load.specs.Loaded.{effects_of}
use Rattle.im_load.proofs.Loads.{ok_on, err_on, shows_loaded, loads_are_stores}
use Rattle.im_load.proofs.finding.found.Goals as goal

pub returns-clause-found : goal.returns-clause-found
returns-clause-found g c = ok_on c.look.result.0 _ _ (λ list shows es told loaded. shows_loaded es list.items (g.D.Disk.seen c.args.disk) loaded (λ before stands. shows before told stands)) c.look.ensures.shows

pub returns-clause-never : goal.returns-clause-never
returns-clause-never g c =
    err_on c.look.result.0 _ _ (λ e never es told loaded. never (effects_of es) told (loads_are_stores.stands es (g.D.Disk.seen c.args.disk) loaded)) c.look.ensures.never
