use Rattle.std.proofs.Common.{◌≡◌, ◌≢◌, ◌%◌, ℕ, length, slice_index_or, rules, subst, sym}
use Rattle.im_log_record.specs.Entry.{view}
use Rattle.im_log.specs.Spelled.{logged_at}
use Rattle.im_theory_log.specs.WriterSteps.{applies}
use Rattle.im_page_table.proofs.Growing.{if_ok}
use Rattle.im_page_rounds.specs.Hand.{IsAmong}
use Rattle.im_page_rounds.proofs.Places.{has_place, not_among}
use Rattle.im_page_rounds.proofs.HandPages.{applied_own, if_err, one_redone, other_is, takes_own}
use Rattle.im_page_rounds.proofs.hand.redo_in.Goals as goal

pub returns-then-i-workers-clause-applied : goal.returns-then-i-workers-clause-applied
returns-then-i-workers-clause-applied c g changed these =
    let i = c.in-Ok.i in
    let numbers = c.args.numbers.now in
    let r = logged_at c.args.lsn (view c.args.record.now) in
    let is : slice_index_or numbers i 0 ≡ r.page = search rules in
    let other : i % c.args.workers ≢ c.args.worker = search rules in
    sym (other_is c.args.workers c.args.worker numbers c.args.pages.now g changed r i c.requires.rising c.in-Ok.ensures.bound is these other (applies r r.page (g r.page)))

pub returns-else-i-workers-clause-pages : goal.returns-else-i-workers-clause-pages
returns-else-i-workers-clause-pages c g changed these =
    let i = c.in-Ok.i in
    let numbers = c.args.numbers.now in
    let r = logged_at c.args.lsn (view c.args.record.now) in
    let is : slice_index_or numbers i 0 ≡ r.page = search rules in
    let own : i % c.args.workers ≡ c.args.worker = search rules in
    if_ok c.redo_at.result _ _ c.redo_at.ensures.redone (λ done redone.
    one_redone c.args.workers c.args.worker numbers c.args.pages.now g changed r i c.requires.rising c.in-Ok.ensures.bound is these done c.redo_at.new.pages own redone c.redo_at.ensures.others)

pub returns-else-i-workers-clause-applied : goal.returns-else-i-workers-clause-applied
returns-else-i-workers-clause-applied c g changed these =
    let i = c.in-Ok.i in
    let numbers = c.args.numbers.now in
    let r = logged_at c.args.lsn (view c.args.record.now) in
    let is : slice_index_or numbers i 0 ≡ r.page = search rules in
    let own : i % c.args.workers ≡ c.args.worker = search rules in
    if_ok c.redo_at.result _ _ c.redo_at.ensures.redone (λ done redone.
    applied_own c.args.workers c.args.worker numbers c.args.pages.now g changed r i c.requires.rising c.in-Ok.ensures.bound is these done c.redo_at.new.pages own (has_place c.args.workers (length numbers) (length c.args.pages.now) i c.requires.some c.requires.few c.in-Ok.ensures.bound) redone)

pub returns-else-i-workers-clause-taken : goal.returns-else-i-workers-clause-taken
returns-else-i-workers-clause-taken c g changed these among takes =
    let i = c.in-Ok.i in
    let numbers = c.args.numbers.now in
    let r = logged_at c.args.lsn (view c.args.record.now) in
    let is : slice_index_or numbers i 0 ≡ r.page = search rules in
    let own : i % c.args.workers ≡ c.args.worker = search rules in
    if_err c.redo_at.result _ _ c.redo_at.ensures.refused (λ e refused. absurd (takes_own c.args.workers c.args.worker numbers c.args.pages.now g changed r i c.requires.rising c.in-Ok.ensures.bound is these own (has_place c.args.workers (length numbers) (length c.args.pages.now) i c.requires.some c.requires.few c.in-Ok.ensures.bound) refused.1 takes))

pub returns-else-i-workers-clause-refused : goal.returns-else-i-workers-clause-refused
returns-else-i-workers-clause-refused c = if_err c.redo_at.result _ _ c.redo_at.ensures.refused (λ e refused. refused.0)

pub returns-in-Err-clause-taken : goal.returns-in-Err-clause-taken
returns-in-Err-clause-taken c g changed these among takes = absurd (not_among c.args.numbers.now c.page.result _ c.requires.rising c.in-Err.ensures.position (subst (λ (p : ℕ). IsAmong c.args.numbers.now p) (sym c.page.ensures) among))
