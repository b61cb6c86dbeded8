-- Granted keys are free in the log, and a machine that was reached is reached after a step.
use Rattle.std.proofs.Common.{◌++◌, [], ◌∷◌, inl, inr, sym, subst}
use Rattle.im_theory_machine.specs.View.{is_among}
use Rattle.im_theory_machine.proofs.Cited.{cases_test, Run-push, granted_free}
use Rattle.im_base_types.specs.Changes.{Effect, Touches, key_of}
use Rattle.im_theory_machine.specs.Machine.{start}
use Rattle.im_theory_steps.specs.Laws.{GrantedKeysAreFree, MovesReach}

pub granted_keys_free : GrantedKeysAreFree
granted_keys_free base b log v t a c reached seen works going free one u differ touch =
    elim (cases_test (is_among u v.queue)) [
      | inl some ↦ subst (λ (e : Effect). Touches e (key_of c)) (seen.over u some) touch
      | inr none ↦ granted_free base v reached works t a c going free one u differ (subst (λ (e : Effect). Touches e (key_of c)) (sym (seen.nets u none)) touch)
    ]

pub moves_reach : MovesReach
moves_reach base v w step reply reached moves = record {
  trace = reached.trace ++ (step, reply) ∷ [];
  first = reached.first;
  run = Run-push (start base reached.first) v w reached.trace step reply reached.run moves;
}
