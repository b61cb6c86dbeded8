use Rattle.std.proofs.Common.{◌≡◌, [], true, refl, rules, arith}
use Rattle.std.proofs.lemmas.Grind.{common_steps}
use Rattle.im_tool_judge.proofs.Shows.{one_asked}
use Rattle.im_tool_judge.proofs.showing.Showing.ask_found.Goals as goal

pub returns : goal.returns
returns c s shown is =
    let going : c.args.found.going ≡ true = grind (arith, common_steps) in
    let some : c.args.found.changes.items ≡ [] → ⊥ = λ none. first_of (cc, grind (arith, common_steps), search rules) in
    one_asked c.args.self.now _ s c.args.txn c.args.acked c.args.found _ shown is going some refl refl refl refl refl c.in_ok-push.ensures.items
