use Rattle.std.proofs.Common.{[], length, sym, ap, ◌∙◌, subst}
use Rattle.im_base_disk.specs.Disk.{Files, both}
use Rattle.im_engine.specs.Stands.{StandsFor}
use Rattle.imload.proofs.NamedDisk.{own_seen, own_synced}
use Rattle.imload.proofs.store.new_store.Goals as goal

-- two empty files stand for no effect, so the store is at rest
pub returns-in-Ok-clause-resting : goal.returns-in-Ok-clause-resting
returns-in-Ok-clause-resting g c =
    let seen = own_seen c.new-disk.result c.new-3.result (c.new-3.ensures.disk, c.new-3.ensures.swapped) ∙ c.new-disk.ensures.seen ∙ (λ i. both (c.new.ensures.items i) (c.new-2.ensures.items i)) in
    let stands = subst (λ (s : Files). StandsFor [] s) (sym seen) c.law_every_list_of_lives.ensures.first in
    let kept = c.in-Ok.ensures.kept [] c.new-disk.ensures.tells (own_synced c.new-disk.result c.new-3.result (c.new-3.ensures.disk, c.new-3.ensures.swapped) c.new-disk.ensures.synced) stands in
    record {
      idle = ap length c.in-Ok.ensures.opened.1;
      rests = λ tells.
          record {
            before = [];
            first = c.in-Ok.engine.txns.next;
            life_is = record {
              life = kept.ok.0;
              active = ap length c.in-Ok.ensures.opened.1;
            };
          };
    }
