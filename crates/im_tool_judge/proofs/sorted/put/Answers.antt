use Rattle.std.proofs.Common.{◌≡◌, ◌≤◌, ◌<◌, List, Vec, Global, ℕ, get_or, length, rules, sym, ◌∙◌, ap, arith}
use Rattle.std.proofs.lemmas.Grind.{common_steps}
use Rattle.std.proofs.lemmas.List.{set_split}
use Rattle.std.specs.declared.cmp.Ordering.TheVariants.{Less, Equal}
use Rattle.im_base_types.specs.Keys.{key_order}
use Rattle.im_tool_judge.specs.Judged.{held_entries, with_entry}
use Rattle.im_tool_judge.proofs.Entries.{put_here, put_over, put_last, same_item}
use Rattle.im_tool_judge.proofs.sorted.put.Goals as goal

pub returns-in-Less : goal.returns-in-Less
returns-in-Less c =
    let es = c.loop-i.entries.items in
    let is : c.index.result.now ≡ get_or es c.loop-i.i c.index.result.now = search rules in
    let order : key_order c.args.key.items c.index.result.now.0.items ≡ Less = search rules in
    let within : c.loop-i.i < length es = grind (arith, common_steps) in
    ap (λ (l : List (Vec ℕ Global × ℕ)). held_entries l) c.in_ok-insert-in-Less.ensures.items
    ∙ put_here c.args.key c.args.rid es c.loop-i.i c.index.result.now within is c.loop-i.invariant.passed order
    ∙ ap (λ (l : List (Vec ℕ Global × ℕ)). with_entry c.args.key.items c.args.rid (held_entries l)) c.loop-i.invariant.same

pub returns-in-Equal : goal.returns-in-Equal
returns-in-Equal c =
    let es = c.loop-i.entries.items in
    let is = c.index_mut.ensures.value in
    let read : c.index.result.now ≡ get_or es c.loop-i.i c.index.result.now = search rules in
    let within : c.loop-i.i < length es = grind (arith, common_steps) in
    let same : c.index.result.now ≡ c.index_mut.result.now = same_item es c.loop-i.i c.index.result.now c.index_mut.result.now within read is in
    let first : key_order c.args.key.items c.index.result.now.0.items ≡ Equal = search rules in
    let order : key_order c.args.key.items c.index_mut.result.now.0.items ≡ Equal = ap (λ (e : Vec ℕ Global × ℕ). key_order c.args.key.items e.0.items) (sym same) ∙ first in
    put_over c.args.key c.args.rid es c.loop-i.i c.index_mut.result.now within is c.loop-i.invariant.passed _ order (set_split es c.loop-i.i (c.index_mut.result.now.0, c.args.rid) within)
    ∙ ap (λ (l : List (Vec ℕ Global × ℕ)). with_entry c.args.key.items c.args.rid (held_entries l)) c.loop-i.invariant.same

pub returns : goal.returns
returns c =
    let es = c.loop-i.entries.items in
    let end : length es ≤ c.loop-i.i = grind (arith, common_steps) in
    ap (λ (l : List (Vec ℕ Global × ℕ)). held_entries l) c.in_ok-push.ensures.items
    ∙ put_last c.args.key c.args.rid es c.loop-i.i end c.loop-i.invariant.passed
    ∙ ap (λ (l : List (Vec ℕ Global × ℕ)). with_entry c.args.key.items c.args.rid (held_entries l)) c.loop-i.invariant.same
