use Rattle.std.proofs.Common.{◌≡◌, ℕ, ◌+◌, ◌-◌, ◌<◌, ◌≤◌, List, length, slice_index, arith, refl, ap, subst, sym, ◌∙◌, ⊎_elim}
use Rattle.std.proofs.lemmas.Bool.{cases_lt}
use Rattle.im_base_types.specs.Keys.{IsBelow}
use Rattle.im_theory_page.specs.Entry.{width}
use Rattle.im_theory_page.specs.Form.{count_of, slot_at, cell_size, key_from}
use Rattle.im_page.specs.Sound.{AreUniform, IsTopOf, IsFootOf}
use Rattle.im_page.proofs.UniformLemmas.{uniform_begins, uniform_more}
use Rattle.im_page.proofs.WordLemmas.{by_words, key_bytes}
use Rattle.im_page.proofs.form.do_keys_rise.Goals.{else-foot_of-top-via-then-foot_of-top+else-not-is_next, else-foot_of-top-via-else-foot_of-top}
use Rattle.im_page.proofs.form.do_keys_rise.Goals as goal

pub loop-i-init : goal.loop-i-init
loop-i-init c = record {
  uniform = uniform_begins c.args.leaf c.args.bytes.now (1 + c.args.key_len + width c.args.leaf);
  before = λ some. absurd (omega arith);
  fits = λ some. absurd (omega arith);
  top = λ some. absurd (omega arith);
}

pub loop-i-preserved : goal.loop-i-preserved
loop-i-preserved c =
    let leaf = c.args.leaf in
    let bytes : List ℕ = c.args.bytes.now in
    let n : ℕ = c.loop-i.i in
    let at : ℕ = c.get_u16-at.result in
    let each : ℕ = 1 + c.args.key_len + width leaf in
    let is_at : at ≡ slot_at bytes n = c.get_u16-at.ensures.value in
    let same_size : cell_size leaf bytes at ≡ each = omega (arith, c.if-bytes-at.false) in
    let high : at + each ≤ 4096 = omega (arith, is_at, (c.requires.places n (omega (arith, c.loop-i-test.true, c.get_u16-i-end.ensures.value))).high) in
    let key : c.key_at-key.result.now ≡ key_from bytes at = c.key_at-key.ensures.key in
    let long : length c.key_at-key.result.now ≡ slice_index bytes at = c.key_at-key.ensures.len in
    let last : 0 < n → IsBelow (key_from bytes (slot_at bytes (n - 1))) (key_from bytes at) =
    λ some. subst (λ a. IsBelow (key_from bytes a) (key_from bytes at)) (c.loop-i.invariant.before some) (elim c.else-foot_of-top.branch [
      | else-foot_of-top-via-then-foot_of-top+else-not-is_next w ↦ (w.if-not-is_next.ensures.0 refl).1 some
      | else-foot_of-top-via-else-foot_of-top w ↦ by_words (key_from bytes c.loop-i.before) (key_from bytes at) c.loop-i.top c.foot_of.result
          (key_bytes bytes c.loop-i.before (λ i. (c.type_inv.bytes i).fits)) (key_bytes bytes at (λ i. (c.type_inv.bytes i).fits))
          (c.loop-i.invariant.top some) (subst (λ (k : List ℕ). IsFootOf k c.foot_of.result) key c.foot_of.ensures) c.foot_of.type_inv (omega (arith, w.if-foot_of-top.false))
    ]) in
    let some_byte : 1 ≤ slice_index bytes at = elim c.else-foot_of-top.branch [
      | else-foot_of-top-via-then-foot_of-top+else-not-is_next w ↦ (w.if-not-is_next.ensures.0 refl).0
      | else-foot_of-top-via-else-foot_of-top w ↦ ⊎_elim (λ (x : slice_index bytes at < 1). absurd (omega (arith, c.foot_of.ensures.1 (omega (arith, long)), w.if-foot_of-top.false))) (λ (x : 1 ≤ slice_index bytes at). x) (cases_lt (slice_index bytes at) 1)
    ] in
    let same : n + 1 - 1 ≡ n = omega arith in
    record {
      uniform = uniform_more leaf bytes each n at c.requires.len c.loop-i.invariant.uniform is_at same_size high some_byte last;
      before = λ some. is_at ∙ ap (slot_at bytes) (sym same);
      fits = λ some. omega (arith, high, same_size);
      top = λ some. subst (λ (k : List ℕ). IsTopOf k c.top_of-top.result) key c.top_of-top.ensures;
    }

pub returns : goal.returns
returns c = λ t.
    let all : c.loop-i.i ≡ count_of c.args.bytes.now = omega (arith, c.loop-i-test.false, c.loop-i.auto.i-end, c.get_u16-i-end.ensures.value) in
    subst (AreUniform c.args.leaf c.args.bytes.now (1 + c.args.key_len + width c.args.leaf)) all c.loop-i.invariant.uniform
