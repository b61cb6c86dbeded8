use Rattle.std.proofs.Common.{[], ◌∷◌, take, drop}
use Rattle.std.proofs.lemmas.Result.{on_ok_weaker}
use Rattle.im_log_sum_gate.proofs.Gates.{one_is_sealed}
use Rattle.im_log_sum_gate.proofs.gate.SumGate.put_one.Goals as goal

pub put-requires-clause-sealed : goal.put-requires-clause-sealed
put-requires-clause-sealed g c =
    (take c.args.size (drop 5 c.args.room.now) ∷ [], one_is_sealed c.args.self.now c.args.size c.args.room.now c.seal.new.room c.requires.within c.seal.ensures.sealed c.seal.ensures.may)

pub returns-clause-put : goal.returns-clause-put
returns-clause-put g c =
    on_ok_weaker c.put.result
    (λ all. all (take c.args.size (drop 5 c.args.room.now) ∷ []) (one_is_sealed c.args.self.now c.args.size c.args.room.now c.seal.new.room c.requires.within c.seal.ensures.sealed c.seal.ensures.may))
    c.put.ensures.put

pub returns-clause-any_moment : goal.returns-clause-any_moment
returns-clause-any_moment g c works =
    c.put.ensures.any_moment works (take c.args.size (drop 5 c.args.room.now) ∷ [])
    (one_is_sealed c.args.self.now c.args.size c.args.room.now c.seal.new.room c.requires.within c.seal.ensures.sealed c.seal.ensures.may)
