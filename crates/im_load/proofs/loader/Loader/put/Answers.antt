use Rattle.std.proofs.Common.{◌⊎◌, ℕ, inl, inr, ⊎_elim, refl, Err, rules, false, arith, length, ◌<◌, ◌≤◌, List}
use Rattle.std.proofs.lemmas.Bool.{cases_lt}
use Rattle.im_base_types.specs.Pages.{Entry}
use Rattle.im_base_types.specs.declared.fault.Fault.TheVariants.{KeyLength}
use Rattle.im_base_types.specs.declared.file_id.FileId.TheVariants.{Pages}
use Rattle.im_base_disk.proofs.Ends.{own_answered}
use Rattle.im_load.specs.Edge.{IsAboveAll}
use Rattle.im_load.specs.HasTaken.{HasTaken}
use Rattle.im_load.proofs.Faults.{passed_on, handed_on, is_key_length, keyed_refusal, not_so}
use Rattle.im_load.proofs.Finishes.{halves}
use Rattle.im_load.proofs.Goings.{goes_then}
use Rattle.im_load.proofs.Lasts.{top_all, top_of_leaf}
use Rattle.im_load.proofs.Refusals.{loading_refused}
use Rattle.im_load.proofs.loader.Loader.put.Goals as goal

not_both_lengths : (n : ℕ) → 1 ≤ n → n ≤ 255 → (n < 1) ⊎ (255 < n) → ⊥
not_both_lengths n some short (inl low) = absurd (omega (arith, low, some))
not_both_lengths n some short (inr high) = absurd (omega (arith, high, short))

pub returns-then-not-keyed-clause-stops : goal.returns-then-not-keyed-clause-stops
returns-then-not-keyed-clause-stops g c from es l = halves g.D.Disk from c.args.disk.now l.run l.bare l.synced

pub returns-then-not-keyed-clause-key_length : goal.returns-then-not-keyed-clause-key_length
returns-then-not-keyed-clause-key_length g c = (
  (λ same. ⊎_elim (λ (short : length c.args.key.now < 1). inl short) (λ (some : 1 ≤ length c.args.key.now).
      ⊎_elim (λ (long : 255 < length c.args.key.now). inr long)
      (λ (fits : length c.args.key.now ≤ 255). absurd (not_so c.is_key-keyed.result ((1 ≤ length c.args.key.now) × (length c.args.key.now ≤ 255)) c.if-not-keyed.true c.is_key-keyed.ensures (some, fits)))
      (cases_lt 255 (length c.args.key.now))) (cases_lt (length c.args.key.now) 1)),
  (λ bad. refl),
)

pub returns-then-not-keyed-clause-outcome : goal.returns-then-not-keyed-clause-outcome
returns-then-not-keyed-clause-outcome g c = own_answered _ false _ KeyLength (Err KeyLength) refl (inl refl) (is_key_length KeyLength refl) (search rules)

pub returns-then-not-above-clause-stops : goal.returns-then-not-above-clause-stops
returns-then-not-above-clause-stops g c from es l = halves g.D.Disk from c.args.disk.now l.run l.bare l.synced

pub returns-then-not-above-clause-falls : goal.returns-then-not-above-clause-falls
returns-then-not-above-clause-falls g c from es l same top =
    let s = c.args.self.now in
    not_so c.ends_below-above.result (IsAboveAll c.args.key.now s.leaf.1.body.entries) c.if-not-above.true c.ends_below-above.ensures
    (top_of_leaf s.leaf s.above.items s.count g.D.Disk.tells (g.D.Disk.seen c.args.disk.now Pages) es c.args.key.now l.taken top)

pub returns-then-not-above-clause-key_length : goal.returns-then-not-above-clause-key_length
returns-then-not-above-clause-key_length g c =
    let fits = c.is_key-keyed.ensures.0 c.if-not-keyed.false in
    ((λ same. absurd (let never : ⊥ = cc same in never)), (λ bad. absurd (not_both_lengths (length c.args.key.now) fits.0 fits.1 bad)))

pub returns-in_err-take-clause-stops : goal.returns-in_err-take-clause-stops
returns-in_err-take-clause-stops g c from es l = halves g.D.Disk from c.take.new.disk (goes_then g.D.Disk from c.args.disk.now c.take.new.disk l.run c.take.ensures.run) l.bare l.synced

pub returns-in_err-take-clause-key_length : goal.returns-in_err-take-clause-key_length
returns-in_err-take-clause-key_length g c =
    let f = c.in_err-take.field-0.0 in
    let fits = c.is_key-keyed.ensures.0 c.if-not-keyed.false in (
      (λ same. absurd (keyed_refusal c.take.new.self ((es : List Entry) → HasTaken g.D.Disk c.args.self.now c.args.disk.now es → IsAboveAll c.args.key.now es → 1 ≤ length c.args.key.now → length c.args.key.now ≤ 255 → ⊥) _ f
          c.in_err-take.ensures.outcome (handed_on c.from_residual.result f KeyLength c.from_residual.ensures.1 same))),
      (λ bad. absurd (not_both_lengths (length c.args.key.now) fits.0 fits.1 bad)),
    )

pub returns-in_err-take-clause-untouched : goal.returns-in_err-take-clause-untouched
returns-in_err-take-clause-untouched g c same =
    let f = c.in_err-take.field-0.0 in
    absurd (keyed_refusal c.take.new.self ((es : List Entry) → HasTaken g.D.Disk c.args.self.now c.args.disk.now es → IsAboveAll c.args.key.now es → 1 ≤ length c.args.key.now → length c.args.key.now ≤ 255 → ⊥) _ f
    c.in_err-take.ensures.outcome (handed_on c.from_residual.result f KeyLength c.from_residual.ensures.1 same))

pub returns-in_err-take-clause-outcome : goal.returns-in_err-take-clause-outcome
returns-in_err-take-clause-outcome g c =
    let s = c.args.self.now in
    let f = c.in_err-take.field-0.0 in
    let key = c.args.key.now in
    let fits = c.is_key-keyed.ensures.0 c.if-not-keyed.false in
    let top = c.ends_below-above.ensures.0 c.if-not-above.false in
    passed_on _ _ _ f c.from_residual.result c.from_residual.ensures.1 c.in_err-take.ensures.outcome
    (λ refused. inr (loading_refused g.D.Disk s c.take.new.self c.args.disk.now key f top fits.0 fits.1 refused))

pub returns-clause-stops : goal.returns-clause-stops
returns-clause-stops g c from es l = halves g.D.Disk from c.take.new.disk (goes_then g.D.Disk from c.args.disk.now c.take.new.disk l.run c.take.ensures.run) l.bare l.synced

pub returns-clause-taken : goal.returns-clause-taken
returns-clause-taken g c from es l same =
    let s = c.args.self.now in
    let top = top_all s.leaf s.above.items s.count g.D.Disk.tells (g.D.Disk.seen c.args.disk.now Pages) es c.args.key.now l.taken (c.ends_below-above.ensures.0 c.if-not-above.false) in
    (top, record { taken = c.in_ok-take.ensures.taken es l.taken top; synced = l.synced; bare = l.bare; run = goes_then g.D.Disk from c.args.disk.now c.take.new.disk l.run c.take.ensures.run })

pub returns-clause-key_length : goal.returns-clause-key_length
returns-clause-key_length g c =
    let fits = c.is_key-keyed.ensures.0 c.if-not-keyed.false in (
      (λ same. absurd (let never : ⊥ = cc same in never)),
      (λ bad. absurd (not_both_lengths (length c.args.key.now) fits.0 fits.1 bad)),
    )
