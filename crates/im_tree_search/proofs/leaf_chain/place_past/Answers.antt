use Rattle.std.proofs.Common.{Bool, ◌+◌, sym, subst}
use Rattle.im_theory_tree.specs.Lookups.{IsFirstAt}
use Rattle.im_theory_tree.proofs.LookupLemmas.{first_above_key}
use Rattle.im_tree_search.specs.Levels.{start_at}
use Rattle.im_tree_search.specs.Ranges.{IsParted}
use Rattle.im_tree_search.proofs.Places.{first_from, first_gap}
use Rattle.im_tree_search.proofs.Ranges.{parted_from, parted_above, parted_gap}
use Rattle.im_tree_search.proofs.leaf_chain.place_past.Goals as goal

pub returns-in-Ok-clause-first : goal.returns-in-Ok-clause-first
returns-in-Ok-clause-first c =
    let es = c.args.page.now.body.entries in
    subst (λ (b : Bool). IsFirstAt (start_at b c.args.key.now) es c.in-Ok.i) (sym c.if-inclusive.true) (first_from es c.args.key.now c.in-Ok.i c.law_content.ensures.rises c.in-Ok.ensures)

pub returns-in-Ok-2-clause-first : goal.returns-in-Ok-2-clause-first
returns-in-Ok-2-clause-first c =
    let es = c.args.page.now.body.entries in
    subst (λ (b : Bool). IsFirstAt (start_at b c.args.key.now) es (c.in-Ok.i + 1)) (sym c.if-inclusive.false) (first_above_key c.args.key.now es c.in-Ok.i c.law_content.ensures.rises c.in-Ok.ensures)

pub returns-in-Err-clause-first : goal.returns-in-Err-clause-first
returns-in-Err-clause-first c = first_gap c.args.inclusive c.args.page.now.body.entries c.args.key.now c.in-Err.i c.in-Err.ensures

pub returns-in-Ok-clause-parted : goal.returns-in-Ok-clause-parted
returns-in-Ok-clause-parted c =
    let es = c.args.page.now.body.entries in
    subst (λ (b : Bool). IsParted (start_at b c.args.key.now) es c.in-Ok.i) (sym c.if-inclusive.true) (parted_from es c.args.key.now c.in-Ok.i c.law_content.ensures.rises c.in-Ok.ensures)

pub returns-in-Ok-2-clause-parted : goal.returns-in-Ok-2-clause-parted
returns-in-Ok-2-clause-parted c =
    let es = c.args.page.now.body.entries in
    subst (λ (b : Bool). IsParted (start_at b c.args.key.now) es (c.in-Ok.i + 1)) (sym c.if-inclusive.false) (parted_above es c.args.key.now c.in-Ok.i c.law_content.ensures.rises c.in-Ok.ensures)

pub returns-in-Err-clause-parted : goal.returns-in-Err-clause-parted
returns-in-Err-clause-parted c = parted_gap c.args.inclusive c.args.page.now.body.entries c.args.key.now c.in-Err.i c.in-Err.ensures
