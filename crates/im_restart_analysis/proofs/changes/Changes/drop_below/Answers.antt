use Rattle.std.proofs.Common.{rules, ◌≤◌, ◌∙◌, All, List, ap, arith, nat_le, sym, subst}
use Rattle.std.specs.List.{filter}
use Rattle.std.proofs.lemmas.Fn.{filter_same}
use Rattle.im_restart_analysis.specs.declared.changes.Change.{Change}
use Rattle.im_restart_analysis.specs.Changes.{IsChange}
use Rattle.im_restart_analysis.proofs.ChangedRecords.{changed_below, changes_logged, changes_since}
use Rattle.im_restart_analysis.proofs.changes.Changes.drop_below.Goals as goal

pub returns-clause-kept : goal.returns-clause-kept
returns-clause-kept c log is =
    let old = c.args.self.now in
    let le : old.start ≤ c.args.point = omega (arith, c.if-point-self.false) in
    let left = filter_same _ (λ (x : Change). nat_le c.args.point x.lsn) _ (λ x b f' t. search rules) _ _ c.retain.ensures.filtered in
    let logged = subst (λ (xs : List Change). All (IsChange log) xs) (sym (c.deref.ensures.value ∙ is.all)) (changes_logged old.start log) in
    record {
      all = left ∙ ap (λ xs. filter (λ (x : Change). nat_le c.args.point x.lsn) xs) is.all ∙ changes_since old.start c.args.point log le;
      lsns = c.in_ok-self.ensures.kept log logged (changed_below log old.start c.args.point old.count old.lsns le is.lsns);
      named = is.named;
      said = is.said;
    }
