use Rattle.std.proofs.Common.{◌≡◌, length, subst, sym, ◌∙◌, arith, rules}
use Rattle.im_log.specs.declared.log_file.LogFile.{LogFile}
use Rattle.im_page_table.specs.DirtyTable.{TableView}
use Rattle.im_page_writer.specs.Synced.{IsKnown}
use Rattle.im_page_writer.specs.declared.known.Known.{Known}
use Rattle.im_page_file.specs.LogEnds.{EndsNoSooner}
use Rattle.im_page_flush.specs.Writing.{Goes}
use Rattle.im_page_writer.proofs.Writers.{absent_still, goes_evicted}
use Rattle.im_page_writer.proofs.page_writer.PageWriter.evict_oldest.Goals as goal

pub returns-in_default-clause-outcome : goal.returns-in_default-clause-outcome
returns-in_default-clause-outcome g c = let none : length c.args.self.now.pool.held ≡ 0 = search rules in absurd (omega (arith, none, c.requires.some))

pub returns-clause-outcome : goal.returns-clause-outcome
returns-clause-outcome g c =
    let one = c.in_ok-flush_with_others.ensures.outcome.ends in
    let mid = c.flush_with_others.new.self in
    let new = c.drop_page.new.self in
    let old = c.args.disk.now in
    let disk = c.flush_with_others.new.disk in
    record {
      ready = search rules;
      frames = c.drop_page.ensures.evicts.frames ∙ c.in_ok-flush_with_others.ensures.outcome.frames;
      ends = record {
        began = one.began;
        works = c.drop_page.ensures.failed ∙ one.works;
        alive = one.alive;
        later = subst (λ (log : LogFile). EndsNoSooner c.args.self.now.log log) (sym c.drop_page.ensures.log) one.later;
        goes = λ b base s is asked.
            let f = c.in_ok-flush_with_others.ensures.kept b base s is in
            let gone = goes_evicted g.D.Disk b base s old f.now mid.log mid.table mid.pool new.pool disk c.in-Some.frame.number f.on.goes f.written c.drop_page.ensures.evicts in
            record {
              now = f.now;
              on = record {
                working = c.drop_page.ensures.failed ∙ f.on.working;
                known = subst (λ (known : Known). IsKnown f.now known) (sym c.drop_page.ensures.known) f.on.known;
                goes = subst (λ (log : LogFile). Goes g.D.Disk b base s old f.now log new.table new.pool disk) (sym c.drop_page.ensures.log)
                    (subst (λ (table : TableView). Goes g.D.Disk b base s old f.now mid.log table new.pool disk) (sym c.drop_page.ensures.table) gone);
              };
            };
      };
    }

pub returns-clause-absent : goal.returns-clause-absent
returns-clause-absent g c = absent_still c.args.self.now.pool c.flush_with_others.new.self.pool c.drop_page.new.self.pool c.in-Some.frame.number c.in_ok-flush_with_others.ensures.held c.drop_page.ensures.evicts
