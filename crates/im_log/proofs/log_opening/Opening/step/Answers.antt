use Rattle.std.proofs.Common.{ℕ, List, ◌≡◌, ◌-◌, ◌≤◌, take, drop, length, ap, refl, ◌∙◌, arith}
use Rattle.im_log.specs.Spelled.{record_size}
use Rattle.im_log.specs.Opening.{rest_of}
use Rattle.im_log.proofs.Openings.{current_is, rest_is, rest_long}
use Rattle.im_log.proofs.log_opening.Opening.step.Goals as goal

pub returns-clause-stepped : goal.returns-clause-stepped
returns-clause-stepped c =
    let old = c.args.self.now in
    let are = ap (λ (l : List ℕ). take (old.end - old.at) (drop old.at l)) c.deref.ensures.value in
    let size : c.in_ok-size.size ≡ record_size (rest_of old) = c.in_ok-size.ensures.size.0 ∙ ap record_size are in
    let most : record_size (rest_of old) ≤ length (rest_of old) = omega (arith, size, c.in_ok-size.ensures.size.2, ap length are) in
    let within : c.in_ok-size.size ≤ old.end - old.at = omega (arith, most, size, rest_long old) in
    record {
      lsn_is = refl;
      least = omega (arith, size, c.in_ok-size.ensures.size.1);
      most = most;
      current = current_is old.bytes.items old.at old.end c.in_ok-size.size within ∙ ap (λ (n : ℕ). take n (rest_of old)) size;
      rest = rest_is old.bytes.items old.at old.end c.in_ok-size.size within ∙ ap (λ (n : ℕ). drop n (rest_of old)) size;
      position = omega (arith, size, within, old.within, old.ends, old.after, c.requires.some);
    }
