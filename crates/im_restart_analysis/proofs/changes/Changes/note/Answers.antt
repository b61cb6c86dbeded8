use Rattle.std.proofs.Common.{rules, ◌∙◌, ◌∷◌, ◌++◌, [], sym, ap}
use Rattle.im_log_record.specs.Entry.{view}
use Rattle.im_log.specs.Spelled.{logged_at}
use Rattle.im_restart_analysis.specs.Changes.{changes_from}
use Rattle.im_restart_analysis.proofs.Counting.{said_more}
use Rattle.im_restart_analysis.proofs.ChangedRecords.{change_is, change_passed, change_taken, changed_still}
use Rattle.im_restart_analysis.proofs.changes.Changes.note.Goals as goal

pub returns-then-not-changes_since-clause-kept : goal.returns-then-not-changes_since-clause-kept
returns-then-not-changes_since-clause-kept c older readable is =
    let old = c.args.self.now in
    let r = logged_at c.args.lsn (view c.args.record.now) in
    let named = c.above_named.ensures c.args.lsn older readable in
    let since = c.changes_since.ensures readable in
    let said = said_more r older old.said c.greatest_in.result is.said (c.greatest_in.ensures readable) in
    record {
      all = is.all ∙ sym (change_passed old.start r older (search (rules, since)));
      lsns = changed_still r older old.start old.count old.lsns is.lsns;
      named = search (rules, named, is.named);
      said = search (rules, said);
    }

pub returns-in-Ok-clause-kept : goal.returns-in-Ok-clause-kept
returns-in-Ok-clause-kept c older readable is =
    let old = c.args.self.now in
    let r = logged_at c.args.lsn (view c.args.record.now) in
    let named = c.above_named.ensures c.args.lsn older readable in
    let since = c.changes_since.ensures readable in
    let made = change_is r c.page.result c.said_count.result c.page.ensures (c.said_count.ensures readable) in
    let said = said_more r older old.said c.greatest_in.result is.said (c.greatest_in.ensures readable) in
    record {
      all = c.in-Ok.ensures.items ∙ ap (λ xs. xs ++ record { page = c.page.result; said = c.said_count.result; lsn = c.args.lsn } ∷ []) is.all
          ∙ ap (λ x. changes_from old.start older ++ x ∷ []) made ∙ sym (change_taken old.start r older (search (rules, since)));
      lsns = changed_still r older old.start old.count old.lsns is.lsns;
      named = search (rules, named, is.named);
      said = search (rules, said);
    }
