use Rattle.std.proofs.Common.{◌≡◌, ℕ, length, take, subst, arith, rules, length-take-le}
use Rattle.im_store.specs.Copies.{IsCopied}
use Rattle.im_calls.proofs.copies.Opened+Mirrored+D+T.copy_piece.Goals as goal

pub returns-clause-made : goal.returns-clause-made
returns-clause-made g c =
    let long : length c.args.call.now.out ≡ 67584 = search rules in
    let size : length (take 65536 c.args.call.now.out) ≡ 65536 = length-take-le 65536 c.args.call.now.out (omega (arith, long)) in
    record {
      result = c.copy_piece-copied.result;
      made = subst (λ (n : ℕ). IsCopied g.D.Disk g.T.Disk _ c.args.self.now.store.engine c.copy_piece-copied.new.self.engine n c.copy_piece-copied.result) size c.copy_piece-copied.ensures.copied;
      upkeep = c.copy_piece-copied.ensures.upkeep;
      tells = c.tell_piece.ensures.told;
    }
