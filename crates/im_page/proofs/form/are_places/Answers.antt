use Rattle.std.proofs.Common.{◌≡◌, ℕ, ◌<◌, ◌≤◌, List, arith, subst, ⊎_elim}
use Rattle.std.proofs.lemmas.Bool.{and_parts, cases_lt}
use Rattle.im_theory_page.specs.Form.{count_of, start_of, slot_at}
use Rattle.im_page.specs.Sound.{ArePlaces, IsPlace}
use Rattle.im_page.proofs.form.are_places.Goals as goal

pub loop-i-preserved : goal.loop-i-preserved
loop-i-preserved c = λ t k lt.
    let both = and_parts _ _ t in
    let bytes : List ℕ = c.args.bytes.now in
    ⊎_elim (λ (x : k < c.loop-i.i). c.loop-i.invariant both.0 k x)
    (λ (x : c.loop-i.i ≤ k). let e : c.loop-i.i ≡ k = omega (arith, lt, x) in subst (λ m. IsPlace (start_of bytes) c.args.size (slot_at bytes m)) e
    (subst (λ a. IsPlace (start_of bytes) c.args.size a) c.get_u16.ensures.value (subst (λ s. IsPlace s c.args.size c.get_u16.result) c.get_u16-start.ensures.value (c.is_place-all.ensures both.1))))
    (cases_lt k c.loop-i.i)

pub returns : goal.returns
returns c = λ t.
    let all : c.loop-i.i ≡ count_of c.args.bytes.now = omega (arith, c.loop-i-test.false, c.loop-i.auto.i-end, c.get_u16-i-end.ensures.value) in
    subst (ArePlaces c.args.bytes.now c.args.size) all (c.loop-i.invariant t)
