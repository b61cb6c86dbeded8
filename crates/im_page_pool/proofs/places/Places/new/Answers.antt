use Rattle.std.proofs.Common.{◌≡◌, ℕ, None, Option, Ok, List, nat_eq, refl, ap, arith}
use Rattle.std.specs.Map.{lookup}
use Rattle.std.specs.HashMap.{get}
use Rattle.im_page_pool.specs.Places.{taken_in}
use Rattle.im_page_pool.proofs.PlaceLemmas.{apart_at_first}
use Rattle.im_page_pool.proofs.UseLemmas.{go_first}
use Rattle.im_page_pool.proofs.GuessLemmas.{shows_none, ok_is}
use Rattle.im_page_pool.proofs.places.Places.new.Goals as goal

pub returns-clause-apart : goal.returns-clause-apart
returns-clause-apart c =
    apart_at_first c.args.frames (record { taken = taken_in c.in_ok-by_use.by_use.entries; free = c.in_ok-free.free.items }) c.in_ok-by_use.ensures.unused.taken c.in_ok-free.ensures.all

pub invariant_of-result : goal.invariant_of-result
invariant_of-result c =
    let es = c.in_ok-by_use.by_use.entries in
    let n = c.in_ok-numbers.numbers in
    let is : c.with_capacity.result ≡ Ok n = ok_is c.with_capacity.result (Ok n) n _ refl c.in_ok-numbers.ensures.cases c.in_ok-numbers.ensures.variant in
    let empty = rw is at c.with_capacity.ensures.empty in
    let roomy = rw is at c.with_capacity.ensures.spare in
    let none : (q : ℕ) → get nat_eq n q ≡ None = λ q. ap (λ (l : List (ℕ × Option ℕ)). lookup (nat_eq q) l) empty in (
      go_first c.args.frames es (get nat_eq n) _ c.in_ok-free.free.items c.requires.some c.in_ok-by_use.ensures.unused c.in_ok-free.ensures.all none (omega (arith, roomy)),
      omega (arith, c.in_ok-by_use.ensures.unused.len, c.in_ok-free.ensures.room),
      shows_none c.args.frames c.in_ok-guesses.guesses es c.in_ok-guesses.ensures.none,
    )
