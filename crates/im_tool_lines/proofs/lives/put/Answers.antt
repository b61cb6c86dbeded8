use Rattle.std.proofs.Common.{◌≡◌, ◌⊎◌, inl, inr, Bool, true, false, not, is_ok, if◌then◌else◌, List, [], ◌∷◌, ◌++◌, ℕ, Result, Ok, Err, OnOk, refl, sym, ◌∙◌, ap, subst}
use Rattle.im_base_types.specs.declared.fault.Fault.{Fault}
use Rattle.im_tool_lines.specs.Living.{IsLiving}
use Rattle.im_tool_lines.proofs.Putting.{still_failed, refused_put, acknowledged}
use Rattle.im_tool_lines.proofs.lives.put.Goals as goal

either_way : (b : Bool) → (b ≡ true) ⊎ (b ≡ false)
either_way true = inl refl
either_way false = inr refl

on_ok : {T : Type 0} (r : Result T Fault) (Q : Type 0) → OnOk r Q → is_ok r ≡ true → Q
on_ok (Ok x) Q q e = q
on_ok (Err x) Q q e = absurd (cc)

pub returns-clause-living : goal.returns-clause-living
returns-clause-living g c before asked acked living =
    let d = g.D.Disk in
    let gate = c.args.gate.now in
    let next = c.put_batch.new.self in
    let old = c.args.disk.now in
    let new = c.put_batch.new.disk in
    let r = c.deref.result.now in
    let result = c.put_batch.result in
    let e = c.put_batch.ensures in
    subst (λ (l : List ℕ). IsLiving d before (asked ++ l ∷ []) (if is_ok result then acked ++ l ∷ [] else acked) next new) c.deref.ensures.value
    (elim (either_way gate.failed) [
      | inl was ↦
          let refused : is_ok result ≡ false = ap is_ok (e.outcome.refusals.already.1 was) in
          subst (λ (b : Bool). IsLiving d before (asked ++ r ∷ []) (if b then acked ++ r ∷ [] else acked) next new) (sym refused)
          (still_failed d g.met.D.Disk.counts_now g.met.D.Disk.seen_may_stay before asked acked r gate next old new living e.outcome.ready e.outcome.same was (e.outcome.failed ∙ ap not refused) (e.outcome.untouched (e.outcome.refusals.already.1 was)))
      | inr works ↦ elim (either_way (is_ok result)) [
        | inl ok ↦
            subst (λ (b : Bool). IsLiving d before (asked ++ r ∷ []) (if b then acked ++ r ∷ [] else acked) next new) (sym ok)
            (acknowledged d g.met.D.Disk.counts_now g.met.D.Disk.seen_may_stay before asked acked r gate next old new living e.outcome.ready e.outcome.same works (e.any_moment works) (e.outcome.front works) (e.outcome.failed ∙ ap not ok) (on_ok result _ e.put ok))
        | inr refused ↦
            subst (λ (b : Bool). IsLiving d before (asked ++ r ∷ []) (if b then acked ++ r ∷ [] else acked) next new) (sym refused)
            (refused_put d g.met.D.Disk.counts_now g.met.D.Disk.seen_may_stay before asked acked r gate next old new living e.outcome.ready e.outcome.same works (e.any_moment works) (e.outcome.front works) (e.outcome.failed ∙ ap not refused))
      ]
    ])
