use Rattle.std.proofs.Common.{[], length, sym, ap, ◌∙◌, subst}
use Rattle.im_base_disk.specs.Disk.{Files, both}
use Rattle.im_engine.specs.Stands.{StandsFor}
use Rattle.im_test_front.proofs.NamedDisk.{own_seen, own_synced}
use Rattle.im_test_front.proofs.stores.made_store.Goals as goal

-- two empty files stand for no effect, so the store is at rest
pub returns-in-Ok : goal.returns-in-Ok
returns-in-Ok g c =
    let seen = own_seen c.fail_call.new.self c.new-3.result (c.new-3.ensures.disk, c.new-3.ensures.swapped) ∙ c.fail_call.ensures.reads.seen ∙ c.arm.ensures.reads.seen ∙ c.new-disk.ensures.seen ∙ (λ i. both (c.new.ensures.items i) (c.new-2.ensures.items i)) in
    let stands = subst (λ (s : Files). StandsFor [] s) (sym seen) c.law_every_list_of_lives.ensures.first in
    let kept = c.in-Ok.ensures.kept [] c.new-disk.ensures.tells (own_synced c.fail_call.new.self c.new-3.result (c.new-3.ensures.disk, c.new-3.ensures.swapped) (c.fail_call.ensures.synced (c.arm.ensures.synced c.new-disk.ensures.synced))) stands in
    record {
      rests = record {
        idle = ap length c.in-Ok.ensures.opened.1;
        rests = λ tells.
            record {
              before = [];
              first = c.in-Ok.engine.txns.next;
              life_is = record {
                life = kept.ok.0;
                active = ap length c.in-Ok.ensures.opened.1;
              };
            };
      };
    }
