use Rattle.std.proofs.Common.{◌≡◌, ◌+◌, ◌*◌, arith, ap₂, ◌∙◌}
use Rattle.im_theory_page.specs.Form.{count_of}
use Rattle.im_page.proofs.HeaderLemmas.{none_packed}
use Rattle.im_page.proofs.split.empty_cells.Goals as goal

pub returns-clause-packed : goal.returns-clause-packed
returns-clause-packed c =
    let count : count_of c.put_u16-2.new.bytes ≡ 0 =
    ap₂ (λ a b. a * 256 + b) (c.put_u16-2.ensures.rest.below 12 (omega arith)) (c.put_u16-2.ensures.rest.below 13 (omega arith)) ∙ c.put_u16.ensures.value in
    (none_packed c.args.leaf c.put_u16-2.new.bytes (c.put_u16-2.ensures.rest.len ∙ c.put_u16.ensures.rest.len ∙ c.clear.ensures.rest.len ∙ c.requires) count c.put_u16-2.ensures.value
    (λ k low high. c.put_u16-2.ensures.rest.above k (omega arith) ∙ c.put_u16.ensures.rest.above k (omega arith) ∙ c.clear.ensures.zeros k low high)).0

pub returns-clause-entries : goal.returns-clause-entries
returns-clause-entries c =
    let count : count_of c.put_u16-2.new.bytes ≡ 0 =
    ap₂ (λ a b. a * 256 + b) (c.put_u16-2.ensures.rest.below 12 (omega arith)) (c.put_u16-2.ensures.rest.below 13 (omega arith)) ∙ c.put_u16.ensures.value in
    (none_packed c.args.leaf c.put_u16-2.new.bytes (c.put_u16-2.ensures.rest.len ∙ c.put_u16.ensures.rest.len ∙ c.clear.ensures.rest.len ∙ c.requires) count c.put_u16-2.ensures.value
    (λ k low high. c.put_u16-2.ensures.rest.above k (omega arith) ∙ c.put_u16.ensures.rest.above k (omega arith) ∙ c.clear.ensures.zeros k low high)).1
