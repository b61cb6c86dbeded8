use Rattle.std.proofs.Common.{rules, ◌≡◌, ℕ, leb, sym, ◌∙◌, ap, Option}
use Rattle.std.specs.Cmp.{nat_cmp_total}
use Rattle.std.specs.Ordering.{nat_cmp}
use Rattle.std.specs.BTreeMap.{get}
use Rattle.std.proofs.lemmas.Cmp.{eq_by_cmp_equiv}
use Rattle.std.proofs.lemmas.Map.Entries.{lookup-filter-values, option_filter}
use Rattle.std.proofs.lemmas.Map.Keys.{IsDistinct-from_sorted}
use Rattle.std.proofs.lemmas.Map.Made.{filter_same_pairs}
use Rattle.im_restart_analysis.proofs.CopyLsns.{copies_since}
use Rattle.im_restart_analysis.proofs.notes.since.Goals as goal

pub returns : goal.returns
returns c log rise all p =
    let e = filter_same_pairs _ (λ x. leb c.args.point x.1) _ (λ k v b w f' t. search rules) _ _ c.retain.ensures.filtered in
    let kept : get nat_cmp c.retain.new.self p ≡ option_filter (λ v. leb c.args.point v) (get nat_cmp c.args.copies p) =
    rw e (lookup-filter-values (eq_by_cmp_equiv nat_cmp_total) (λ v. leb c.args.point v) p c.args.copies.entries (IsDistinct-from_sorted nat_cmp _ c.retain.ensures.was_ordered)) in
    kept ∙ ap (λ (o : Option ℕ). option_filter (λ v. leb c.args.point v) o) (all p) ∙ sym (copies_since c.args.point log p rise)
