use Rattle.std.proofs.Common.{◌≡◌, ◌++◌, List, ℕ, length, take, ap, ◌∙◌, rules, arith}
use Rattle.std.proofs.lemmas.Grind.{common_steps}
use Rattle.std.proofs.lemmas.Slice.{take-put_mid}
use Rattle.std.proofs.lemmas.List.{places, length-take-le}
use Rattle.im_calls.proofs.Buffers.{put_more}
use Rattle.im_calls.proofs.telling.put.Goals as goal

pub returns-clause-put : goal.returns-clause-put
returns-clause-put c = λ before holds.
    let count = c.min-count.result in
    let copied : c.copy_from_slice.new.self ≡ take count c.args.bytes.now = grind (arith, common_steps) in
    let long : length c.copy_from_slice.new.self ≡ count = ap length copied ∙ length-take-le count c.args.bytes.now (omega arith) in
    put_more c.args.out.now _ before c.args.bytes.now c.args.at count (search (rules, places)) c.min-count.ensures
    (take-put_mid _ _ _ _ _ (omega arith) c.requires ∙ ap (λ (xs : List ℕ). take c.args.at c.args.out.now ++ xs) copied) holds
