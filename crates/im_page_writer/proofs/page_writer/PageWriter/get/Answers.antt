use Rattle.std.proofs.Common.{◌≡◌, Option, false, true, is_some, refl, sym, subst, rules, arith, ◌∙◌}
use Rattle.im_base_disk.proofs.Runs.{reads_none}
use Rattle.im_base_types.specs.declared.file_id.FileId.TheVariants.{Pages}
use Rattle.im_page_pool.specs.Pool.{Held, PoolView}
use Rattle.im_page_writer.specs.Outcome.{fault_of, no_page, AreLoadedTo}
use Rattle.im_page_flush.specs.Writing.{IsWriting}
use Rattle.im_page_writer.proofs.SameWriter.{outcome_as}
use Rattle.im_page_writer.proofs.Writers.{got_page, goes_got}
use Rattle.im_page_writer.proofs.page_writer.PageWriter.get.Goals as goal

pub returns-in-Some-clause-outcome : goal.returns-in-Some-clause-outcome
returns-in-Some-clause-outcome g c =
    let w = c.args.self.now in
    let old = c.args.disk.now in
    let e = c.in-Some.ensures in
    let opened = c.requires.ready.opened c.if-self.false in
    let alive = opened.ready.reading.working (opened.working (c.requires.ready.works c.if-self.false)) in
    record {
      ready = search rules;
      frames = e.first.frames;
      ends = record {
        began = c.if-self.false;
        works = c.if-self.false;
        alive = alive;
        later = record { each = λ size. omega arith; generation = refl };
        goes = λ b base s is ready. record {
          now = s;
          on = record {
            working = is.working;
            known = is.known;
            goes = goes_got g.D.Disk b base s w.log w.table w.pool old is.writing c.args.number ready c.get_held.new.self old c.in-Some.frame (g.met.D.Disk.only_now old) (reads_none g.D.Disk old)
                alive (e.page (g.D.Disk.seen old Pages)) e.frame (λ _. e.first) (λ none. let clash : false ≡ true = subst (λ (o : Option Held). is_some o ≡ true) none (e.holds.0 refl) in absurd cc);
          };
        };
      };
    }

pub returns-in-Some-clause-kept : goal.returns-in-Some-clause-kept
returns-in-Some-clause-kept g c pages has =
    let w = c.args.self.now in
    let old = c.args.disk.now in
    got_page g.D.Disk has.b has.base has.now w.log w.table w.pool old has.stands.writing c.args.number has.asked c.get_held.new.self (c.in-Some.ensures.page (g.D.Disk.seen old Pages)) ∙ has.shows c.args.number

pub returns-clause-kept : goal.returns-clause-kept
returns-clause-kept g c pages has =
    let w = c.args.self.now in
    let same : c.get_held.new.self ≡ w.pool = c.in_default.ensures.none refl in
    let writing = subst (λ (pool : PoolView). IsWriting g.D.Disk has.b has.base has.now w.log w.table pool c.args.disk.now) (sym same) has.stands.writing in
    c.get_absent.ensures.kept pages (record { b = has.b; base = has.base; now = has.now; stands = record { working = has.stands.working; writing = writing; known = has.stands.known }; asked = has.asked; shows = has.shows })

pub returns-clause-outcome : goal.returns-clause-outcome
returns-clause-outcome g c =
    let same : c.get_held.new.self ≡ c.args.self.now.pool = c.in_default.ensures.none refl in
    outcome_as g.D.Disk c.args.self.now _ c.args.disk.now refl refl refl same refl (AreLoadedTo c.args.number) no_page c.get_absent.new.self c.get_absent.new.disk (fault_of c.get_absent.result) c.get_absent.ensures.outcome
