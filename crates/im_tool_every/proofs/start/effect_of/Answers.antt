use Rattle.std.proofs.Common.{◌≡◌, ◌∙◌, ◌∷◌, ℕ, List, [], rules, true, take, ap, arith, sym}
use Rattle.std.proofs.lemmas.Grind.{common_steps}
use Rattle.im_base_types.specs.Changes as changes
use Rattle.im_base_types.specs.Changes.{Effect}
use Rattle.im_base_types.specs.Lives.{Asked}
use Rattle.im_base_types.specs.Pages.{Entry}
use Rattle.im_tool_judge.specs.declared.change.Change.{Change}
use Rattle.im_tool_judge.specs.declared.change.Change.TheVariants.{Insertion}
use Rattle.im_tool_judge.specs.Judged.{newest_before}
use Rattle.im_tool_every.specs.Swept.{put_before}
use Rattle.im_tool_every.proofs.Lives.{newest_push, put_more}
use Rattle.im_tool_every.proofs.start.effect_of.Goals as goal

pub loop-entry-preserved : goal.loop-entry-preserved
loop-entry-preserved c =
    let all = c.args.entries.now in
    let i = c.loop-entry.entry-index in
    let x = c.entry-item.result in
    let key : c.in_ok-key.key.items ≡ x.0 = search rules in
    ap (λ (l : List Change). newest_before l []) c.in_ok-push.ensures.items
    ∙ newest_push c.loop-entry.changes.items (Insertion c.in_ok-key.key x.1) []
    ∙ ap (λ (k : List ℕ). changes.Put k x.1 ∷ newest_before c.loop-entry.changes.items []) key
    ∙ ap (λ (e : Effect). changes.Put x.0 x.1 ∷ e) c.loop-entry.invariant
    ∙ sym (put_more all i x c.loop-entry-test.true c.entry-item.is)

pub returns : goal.returns
returns c =
    let all : take c.loop-entry.entry-index c.args.entries.now ≡ c.args.entries.now = grind (arith, common_steps) in
    ap (λ (e : Effect). to_asked e) (c.loop-entry.invariant ∙ ap (λ (l : List Entry). put_before l []) all)
  where
    to_asked : Effect → Asked
    to_asked e = record { txn = 0; effect = e; acked = true }
