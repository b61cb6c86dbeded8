use Rattle.std.proofs.Common.{◌≡◌, ℕ, refl, sym, ◌∙◌, ap, subst, Option, false, true, is_some, Err, None, rules, arith}
use Rattle.im_base_types.specs.declared.fault.Fault.TheVariants.{Device, NotAStore}
use Rattle.im_base_types.specs.declared.file_id.FileId.TheVariants.{Pages}
use Rattle.im_base_disk.specs.Disk.{Files}
use Rattle.im_theory_page.specs.PageFile.{file_page}
use Rattle.im_base_types.specs.Pages.{Page}
use Rattle.im_theory_log.specs.Writer.{IsWritten}
use Rattle.im_log.specs.declared.log_file.LogFile.{LogFile}
use Rattle.im_log.specs.LogFile.{IsOpen}
use Rattle.im_page_table.specs.DirtyTable.{TableView}
use Rattle.im_page_file.specs.LogEnds.{EndsNoSooner}
use Rattle.im_page_pool.specs.Pool.{Held, held_of, page_at}
use Rattle.im_page_writer.specs.declared.known.Known.{Known}
use Rattle.im_page_writer.specs.Synced.{IsForeign, IsKnown, IsUnderLog}
use Rattle.im_page_flush.specs.Writing.{Goes, IsShown}
use Rattle.im_page_flush.proofs.Flushing.{leaves_read}
use Rattle.im_page_writer.proofs.Outcomes.{read_ends}
use Rattle.im_page_writer.proofs.OwnPages.{own_page}
use Rattle.im_page_writer.proofs.Writers.{got_page, goes_evicted, goes_got, goes_refused, no_page_missing, seen_none}
use Rattle.im_page_file.proofs.LogEnds.{still_working}
use Rattle.im_page_writer.proofs.page_writer.PageWriter.hold.Goals as goal

pub returns-then-is_own-clause-outcome : goal.returns-then-is_own-clause-outcome
returns-then-is_own-clause-outcome g c =
    let w = c.args.self.now in
    let old = c.args.disk.now in
    let e = c.in-Ok.ensures in
    let alive = still_working (g.D.Disk.failed c.get_absent.new.disk) (λ failed. let clash = e.device.1 failed in let never : ⊥ = cc clash in never) in
    record {
      ready = search rules;
      frames = e.frames;
      ends = record {
        began = c.requires.working;
        works = c.requires.working;
        alive = alive;
        later = record { each = λ size. omega arith; generation = refl };
        goes = λ b base s is ready. record {
          now = s;
          on = record {
            working = is.working;
            known = is.known;
            goes = goes_got g.D.Disk b base s w.log w.table w.pool old is.writing c.args.number ready c.get_absent.new.self c.get_absent.new.disk c.in-Ok.frame (g.met.D.Disk.only_now old) e.reads
                alive (e.page is.writing.stands.log_is.tells) e.frame (λ holds. let clash : false ≡ true = subst (λ (o : Option Held). is_some o ≡ true) c.requires.absent holds in absurd cc) (λ _. e.read);
          };
        };
      };
    }

pub returns-then-is_own-clause-kept : goal.returns-then-is_own-clause-kept
returns-then-is_own-clause-kept g c pages has =
    let w = c.args.self.now in
    let writing = has.stands.writing in
    got_page g.D.Disk has.b has.base has.now w.log w.table w.pool c.args.disk.now writing c.args.number has.asked c.get_absent.new.self (c.in-Ok.ensures.page writing.stands.log_is.tells) ∙ has.shows c.args.number

pub returns-in-Err-clause-outcome : goal.returns-in-Err-clause-outcome
returns-in-Err-clause-outcome g c =
    let w = c.args.self.now in
    let old = c.args.disk.now in
    let e = c.in-Err.ensures in
    record {
      ready = search rules;
      frames = e.frames;
      ends = read_ends g.D.Disk c.in-Err.fault (search rules)
          (λ is. (record { began = c.requires.working; broken = c.eq-self.ensures ∙ rw is refl; stops = λ b base s stands asked. leaves_read g.D.Disk b base s w.log w.table w.pool old c.get_absent.new.disk (g.met.D.Disk.only_now old) stands.writing e.reads }, e.device.0 (ap Err is)))
          (λ bytes.
          let working : c.eq-self.result ≡ false = c.eq-self.ensures ∙ rw bytes refl in
          let other : c.in-Err.fault ≡ Device → ⊥ = λ device. let clash : NotAStore ≡ Device = sym bytes ∙ device in cc clash in
          let alive = still_working (g.D.Disk.failed c.get_absent.new.disk) (λ failed. other (let is_device : Err c.in-Err.fault ≡ Err Device = e.device.1 failed in cc is_device)) in
          record {
            began = c.requires.working;
            works = working;
            alive = alive;
            later = record { each = λ size. omega arith; generation = refl };
            goes = λ b base s is ready. record {
              now = s;
              on = record { working = working; known = is.known; goes = goes_refused g.D.Disk b base s w.log w.table w.pool old is.writing c.args.number ready c.get_absent.new.self c.get_absent.new.disk (g.met.D.Disk.only_now old) e.reads alive e.err };
            };
          });
    }

pub returns-in-Err-clause-kept : goal.returns-in-Err-clause-kept
returns-in-Err-clause-kept g c pages has =
    let w = c.args.self.now in
    let e = c.in-Err.ensures in
    let writing = has.stands.writing in
    λ same. no_page_missing g.D.Disk has.b has.base has.now w.log w.table w.pool c.args.disk.now writing c.args.number has.asked (g.D.Disk.failed c.get_absent.new.disk) c.in-Err.fault same
    (λ failed. let is_device : Err c.in-Err.fault ≡ Err Device = e.device.1 failed in cc is_device) (λ works. (e.refused writing.stands.log_is.tells works).0 (ap Err same))

pub returns-in-Err-clause-no_page : goal.returns-in-Err-clause-no_page
returns-in-Err-clause-no_page g c is told =
    let w = c.args.self.now in
    let old = c.args.disk.now in
    let p = c.args.number in
    let e = c.in-Err.ensures in
    let works = still_working (g.D.Disk.failed c.get_absent.new.disk) (λ failed. let clash : Err NotAStore ≡ Err Device = sym is ∙ e.device.1 failed in let never : ⊥ = cc clash in never) in
    let none : file_page (g.D.Disk.seen c.get_absent.new.disk Pages) p ≡ None =
    subst (λ (s : Files). file_page (s Pages) p ≡ None) (sym e.reads.seen) (seen_none (held_of w.pool p) (file_page (g.D.Disk.seen old Pages) p) ((e.refused told works).0 is)) in
    subst (λ (o : Option Page). IsForeign w.log w.known p o) (sym none) tt

pub returns-else-is_own-clause-outcome : goal.returns-else-is_own-clause-outcome
returns-else-is_own-clause-outcome g c =
    let w = c.args.self.now in
    let old = c.args.disk.now in
    let p = c.args.number in
    let e = c.in-Ok.ensures in
    let mid = c.get_absent.new.self in
    let disk = c.get_absent.new.disk in
    let new = c.drop_page.new.self in
    let alive = still_working (g.D.Disk.failed disk) (λ failed. let clash = e.device.1 failed in let never : ⊥ = cc clash in never) in
    let frames : new.pool.frames ≡ w.pool.frames = c.drop_page.ensures.evicts.frames ∙ e.frames in
    let opened : IsOpen g.D.Disk w.log disk = search rules in
    let here : IsOpen g.D.Disk new.log disk = subst (λ (log : LogFile). IsOpen g.D.Disk log disk) (sym c.drop_page.ensures.log) opened in
    record {
      ready = record {
        opened = λ _. here;
        works = λ _. ap (λ (log : LogFile). log.failed) c.drop_page.ensures.log ∙ c.requires.ready.works c.requires.working;
        few = λ _. (let few = c.requires.ready.few c.requires.working in omega (arith, few, frames));
        still = λ _. here;
      };
      frames = frames;
      ends = (
        refl,
        record {
          began = c.requires.working;
          works = c.drop_page.ensures.failed ∙ c.requires.working;
          alive = alive;
          later = subst (λ (log : LogFile). EndsNoSooner w.log log) (sym c.drop_page.ensures.log) (record { each = λ size. omega arith; generation = refl });
          goes = λ b base s is ready.
              let got = goes_got g.D.Disk b base s w.log w.table w.pool old is.writing p ready mid disk c.in-Ok.frame (g.met.D.Disk.only_now old) e.reads
              alive (e.page is.writing.stands.log_is.tells) e.frame (λ holds. let clash : false ≡ true = subst (λ (o : Option Held). is_some o ≡ true) c.requires.absent holds in absurd cc) (λ _. e.read) in
              let done : IsWritten (s.pages p).entry = subst (λ (o : Option Held). IsShown o (s.pages p)) c.requires.absent (is.writing.pooled.shows p) in
              let gone = goes_evicted g.D.Disk b base s old s w.log w.table mid new.pool disk p got done c.drop_page.ensures.evicts in
              record {
                now = s;
                on = record {
                  working = c.drop_page.ensures.failed ∙ is.working;
                  known = subst (λ (known : Known). IsKnown s known) (sym c.drop_page.ensures.known) is.known;
                  goes = subst (λ (log : LogFile). Goes g.D.Disk b base s old s log new.table new.pool disk) (sym c.drop_page.ensures.log)
                      (subst (λ (table : TableView). Goes g.D.Disk b base s old s w.log table new.pool disk) (sym c.drop_page.ensures.table) gone);
                };
              };
        },
      );
    }

pub returns-else-is_own-clause-kept : goal.returns-else-is_own-clause-kept
returns-else-is_own-clause-kept g c pages has =
    let w = c.args.self.now in
    let p = c.args.number in
    let e = c.in-Ok.ensures in
    let s = has.now in
    let writing = has.stands.writing in
    let done : IsWritten (s.pages p).entry = subst (λ (o : Option Held). IsShown o (s.pages p)) c.requires.absent (writing.pooled.shows p) in
    let own = own_page g.D.Disk has.b has.base s w.log c.args.disk.now writing.based writing.stands.kept writing.stands.ready writing.stands.log_is w.known p has.stands.known (has.asked p (omega arith)) done in
    let shown = got_page g.D.Disk has.b has.base s w.log w.table w.pool c.args.disk.now writing p has.asked c.get_absent.new.self (e.page writing.stands.log_is.tells) in
    let here : IsUnderLog w.log w.known p (page_at c.get_absent.new.self p) = subst (λ (x : Page). IsUnderLog w.log w.known p x) (sym shown) own in
    λ same. c.is_own.ensures.foreign c.if-is_own.false (subst (λ (n : ℕ). IsUnderLog w.log w.known n (page_at c.get_absent.new.self n)) (sym e.frame) here)
