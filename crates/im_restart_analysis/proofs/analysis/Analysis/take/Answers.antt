use Rattle.std.proofs.Common.{rules, ◌≡◌, true, false, sym, ◌∙◌}
use Rattle.im_log_record.specs.Entry.{view}
use Rattle.im_log.specs.Spelled.{logged_at}
use Rattle.im_restart_analysis.proofs.Taking.{failed, fit_failed, fit_taken, refused, taken, unfit_beside, unfit_past, unfit_up}
use Rattle.im_restart_analysis.proofs.analysis.Analysis.take.Goals as goal

pub returns-then-opens_another-clause-kept : goal.returns-then-opens_another-clause-kept
returns-then-opens_another-clause-kept c least n older is may down within =
    refused least n older (logged_at c.args.lsn (view c.args.record.now)) c.opens_another.result (c.opens_another.ensures c.args.lsn older (c.deref.ensures.value ∙ is.known.open_change) may.readable) _ c.if-opens_another.true

pub returns-in_err-make_room-clause-kept : goal.returns-in_err-make_room-clause-kept
returns-in_err-make_room-clause-kept c least n older is may down within =
    failed least n older (logged_at c.args.lsn (view c.args.record.now)) c.opens_another.result (c.opens_another.ensures c.args.lsn older (c.deref.ensures.value ∙ is.known.open_change) may.readable) _ _ c.if-opens_another.false (search rules) (search rules)

pub returns-in_err-note-clause-kept : goal.returns-in_err-note-clause-kept
returns-in_err-note-clause-kept c least n older is may down within =
    failed least n older (logged_at c.args.lsn (view c.args.record.now)) c.opens_another.result (c.opens_another.ensures c.args.lsn older (c.deref.ensures.value ∙ is.known.open_change) may.readable) _ _ c.if-opens_another.false (search rules) (search rules)

pub returns-clause-kept : goal.returns-clause-kept
returns-clause-kept c least n older is may down within =
    taken least n older (logged_at c.args.lsn (view c.args.record.now)) c.opens_another.result (c.opens_another.ensures c.args.lsn older (c.deref.ensures.value ∙ is.known.open_change) may.readable) _ c.if-opens_another.false (record {
      rises = (is.rises, may.rises);
      next = c.next_after-self.ensures c.args.lsn least older is.next;
      point = c.point_after.ensures older is.point;
      losers = c.in_ok-note.ensures.losers older is.losers may;
      copies = c.in_ok-note.ensures.copies older is.copies may;
      known = record {
        open_change = c.note_open.ensures older (c.make_room.ensures.same ∙ is.known.open_change) may.readable;
        count = c.count_after-self.ensures n c.args.lsn older is.known.count may.readable;
      };
    })

pub returns-then-not-leads_down-clause-kept : goal.returns-then-not-leads_down-clause-kept
returns-then-not-leads_down-clause-kept c least n older is may down within =
    let clash : true ≡ false = sym (c.leads_down.ensures.1 down) ∙ c.if-not-leads_down.true in absurd (cc clash)

pub returns-then-not-leads_down-clause-fits : goal.returns-then-not-leads_down-clause-fits
returns-then-not-leads_down-clause-fits c n older is readable =
    unfit_up n older (logged_at c.args.lsn (view c.args.record.now)) _ c.leads_down.result c.leads_down.ensures c.if-not-leads_down.true

pub returns-then-not-names_counted-clause-kept : goal.returns-then-not-names_counted-clause-kept
returns-then-not-names_counted-clause-kept c least n older is may down within =
    let clash : true ≡ false = sym ((c.names_counted.ensures n c.args.lsn older is.known.count may.readable).1 within) ∙ c.if-not-names_counted.true in absurd (cc clash)

pub returns-then-not-names_counted-clause-fits : goal.returns-then-not-names_counted-clause-fits
returns-then-not-names_counted-clause-fits c n older is readable =
    unfit_past n older (logged_at c.args.lsn (view c.args.record.now)) _ c.names_counted.result (c.names_counted.ensures n c.args.lsn older is.count readable) c.if-not-names_counted.true

pub returns-then-opens_another-clause-fits : goal.returns-then-opens_another-clause-fits
returns-then-opens_another-clause-fits c n older is readable =
    unfit_beside n older (logged_at c.args.lsn (view c.args.record.now)) _ c.opens_another.result (c.opens_another.ensures c.args.lsn older (c.deref.ensures.value ∙ is.open_change) readable) c.if-opens_another.true

pub returns-in_err-make_room-clause-fits : goal.returns-in_err-make_room-clause-fits
returns-in_err-make_room-clause-fits c n older is readable = fit_failed n older (logged_at c.args.lsn (view c.args.record.now)) _ _ (search rules) (search rules)

pub returns-in_err-note-clause-fits : goal.returns-in_err-note-clause-fits
returns-in_err-note-clause-fits c n older is readable = fit_failed n older (logged_at c.args.lsn (view c.args.record.now)) _ _ (search rules) (search rules)

pub returns-clause-fits : goal.returns-clause-fits
returns-clause-fits c n older is readable =
    fit_taken n older (logged_at c.args.lsn (view c.args.record.now)) _ c.leads_down.result c.names_counted.result c.opens_another.result c.leads_down.ensures
    (c.names_counted.ensures n c.args.lsn older is.count readable) (c.opens_another.ensures c.args.lsn older (c.deref.ensures.value ∙ is.open_change) readable)
    c.if-not-leads_down.false c.if-not-names_counted.false c.if-opens_another.false
    (record { open_change = c.note_open.ensures older (c.make_room.ensures.same ∙ is.open_change) readable; count = c.count_after-self.ensures n c.args.lsn older is.count readable })
