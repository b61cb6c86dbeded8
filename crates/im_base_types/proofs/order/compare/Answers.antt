use Rattle.std.proofs.Common.{◌≡◌, ℕ, ◌+◌, ◌≤◌, List, length, take, drop, sym, ap, subst, ◌∙◌, arith, length-drop, drop-drop}
use Rattle.std.specs.Ordering.{nat_cmp}
use Rattle.std.specs.Int.{w64, from_be_bytes}
use Rattle.im_base_types.specs.Keys.{key_order}
use Rattle.im_base_types.proofs.Words.{Decides, IsBytes, words, IsBytes-drop}
use Rattle.im_base_types.proofs.order.compare.Goals as goal

-- the words at a place, and the keys from there on
at_place : (a b : List ℕ) (at both : ℕ) → IsBytes a → IsBytes b → at + 8 ≤ both → both ≤ length a → both ≤ length b
    → Decides (from_be_bytes w64 (take 8 (drop at a))) (from_be_bytes w64 (take 8 (drop at b))) (key_order (drop at a) (drop at b)) (key_order (drop (at + 8) a) (drop (at + 8) b))
at_place a b at both f g le la lb =
    let d = words (drop at a) (drop at b) (IsBytes-drop at a f) (IsBytes-drop at b g) (omega (arith, length-drop at a)) (omega (arith, length-drop at b)) in
    let one = subst (λ (x : List ℕ). Decides (from_be_bytes w64 (take 8 (drop at a))) (from_be_bytes w64 (take 8 (drop at b))) (key_order (drop at a) (drop at b)) (key_order x (drop 8 (drop at b)))) (drop-drop 8 at a) d in
    subst (λ (x : List ℕ). Decides (from_be_bytes w64 (take 8 (drop at a))) (from_be_bytes w64 (take 8 (drop at b))) (key_order (drop at a) (drop at b)) (key_order (drop (at + 8) a) x)) (drop-drop 8 at b) one

pub returns-then-x-y : goal.returns-then-x-y
returns-then-x-y c =
    let h = c.loop-at.invariant in
    let d = at_place c.args.a.now c.args.b.now c.loop-at.at c.min-both.result (λ i. (c.type_inv.a i).fits) (λ i. (c.type_inv.b i).fits) (omega arith) h.first h.second in
    let differ = λ (e : from_be_bytes w64 (take 8 (drop c.loop-at.at c.args.a.now)) ≡ from_be_bytes w64 (take 8 (drop c.loop-at.at c.args.b.now))). c.if-x-y.true (c.word-x.ensures ∙ e ∙ sym c.word-y.ensures) in
    c.cmp.ensures ∙ ap (λ (x : ℕ). nat_cmp x c.word-y.result) c.word-x.ensures ∙ ap (λ (y : ℕ). nat_cmp (from_be_bytes w64 (take 8 (drop c.loop-at.at c.args.a.now))) y) c.word-y.ensures
    ∙ sym (d.apart differ) ∙ sym h.order

pub loop-at-preserved : goal.loop-at-preserved
loop-at-preserved c =
    let h = c.loop-at.invariant in
    let d = at_place c.args.a.now c.args.b.now c.loop-at.at c.min-both.result (λ i. (c.type_inv.a i).fits) (λ i. (c.type_inv.b i).fits) (omega arith) h.first h.second in
    record { within = omega arith; first = h.first; second = h.second; order = h.order ∙ d.same (sym c.word-x.ensures ∙ c.if-x-y.false ∙ c.word-y.ensures) }
