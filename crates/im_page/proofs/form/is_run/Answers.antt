use Rattle.std.proofs.Common.{◌≡◌, ℕ, ◌+◌, ◌-◌, ◌<◌, ◌≤◌, List, length, slice_index, arith, refl, ap, subst, sym, ◌∙◌, ⊎_elim}
use Rattle.std.proofs.lemmas.Bool.{cases_lt}
use Rattle.im_base_types.specs.Keys.{IsBelow}
use Rattle.im_theory_page.specs.Form.{count_of, start_of, slot_at, cell_size, key_from}
use Rattle.im_page.specs.Sound.{ArePacked, IsTopOf, IsFootOf}
use Rattle.im_page.proofs.SoundLemmas.{run_begins, run_more, run_sound}
use Rattle.im_page.proofs.WordLemmas.{by_words, key_bytes}
use Rattle.im_page.proofs.form.is_run.Goals.{else-foot_of-top-via-then-foot_of-top+else-not-is_next, else-foot_of-top-via-else-foot_of-top}
use Rattle.im_page.proofs.form.is_run.Goals as goal

pub loop-i-init : goal.loop-i-init
loop-i-init c = record {
  run = run_begins c.args.leaf c.args.bytes.now;
  within = omega arith;
  below = λ k some lt. absurd (omega arith);
  keyed = λ k lt. absurd (omega arith);
  before = λ some. absurd (omega arith);
  fits = λ some. absurd (omega arith);
  top = λ some. absurd (omega arith);
}

pub loop-i-preserved : goal.loop-i-preserved
loop-i-preserved c =
    let leaf = c.args.leaf in
    let bytes : List ℕ = c.args.bytes.now in
    let n : ℕ = c.loop-i.i in
    let at : ℕ = c.get_u16-at.result in
    let is_at : at ≡ slot_at bytes n = c.get_u16-at.ensures.value in
    let meets : at + cell_size leaf bytes at ≡ c.loop-i.before = omega (arith, c.cell_len.ensures, c.if-behind-before.false) in
    let key : c.key_at-key.result.now ≡ key_from bytes at = c.key_at-key.ensures.key in
    let long : length c.key_at-key.result.now ≡ slice_index bytes at = c.key_at-key.ensures.len in
    let last : 0 < n → IsBelow (key_from bytes (slot_at bytes (n - 1))) (key_from bytes at) =
    λ some. subst (λ a. IsBelow (key_from bytes a) (key_from bytes at)) (c.loop-i.invariant.before some) (elim c.else-foot_of-top.branch [
      | else-foot_of-top-via-then-foot_of-top+else-not-is_next w ↦ (w.if-not-is_next.ensures.0 refl).1 some
      | else-foot_of-top-via-else-foot_of-top w ↦ by_words (key_from bytes c.loop-i.before) (key_from bytes at) c.loop-i.top c.foot_of.result
          (key_bytes bytes c.loop-i.before (λ i. (c.type_inv.bytes i).fits)) (key_bytes bytes at (λ i. (c.type_inv.bytes i).fits))
          (c.loop-i.invariant.top some) (subst (λ (k : List ℕ). IsFootOf k c.foot_of.result) key c.foot_of.ensures) c.foot_of.type_inv (omega (arith, w.if-foot_of-top.false))
    ]) in
    let some_byte : 1 ≤ slice_index bytes at = elim c.else-foot_of-top.branch [
      | else-foot_of-top-via-then-foot_of-top+else-not-is_next w ↦ (w.if-not-is_next.ensures.0 refl).0
      | else-foot_of-top-via-else-foot_of-top w ↦ ⊎_elim (λ (x : slice_index bytes at < 1). absurd (omega (arith, c.foot_of.ensures.1 (omega (arith, long)), w.if-foot_of-top.false))) (λ (x : 1 ≤ slice_index bytes at). x) (cases_lt (slice_index bytes at) 1)
    ] in
    let same : n + 1 - 1 ≡ n = omega arith in
    record {
      run = run_more leaf bytes n c.loop-i.before at c.requires.len c.loop-i.invariant.run is_at meets;
      within = omega (arith, c.loop-i.invariant.within, meets);
      below = λ k some lt. ⊎_elim (λ (x : k < n). c.loop-i.invariant.below k some x)
          (λ (x : n ≤ k). let e : n ≡ k = omega arith in subst (λ m. IsBelow (key_from bytes (slot_at bytes (m - 1))) (key_from bytes (slot_at bytes m))) e
          (subst (λ a. IsBelow (key_from bytes (slot_at bytes (n - 1))) (key_from bytes a)) is_at (last (omega arith))))
          (cases_lt k n);
      keyed = λ k lt. ⊎_elim (λ (x : k < n). c.loop-i.invariant.keyed k x)
          (λ (x : n ≤ k). let e : n ≡ k = omega arith in subst (λ m. 1 ≤ slice_index bytes (slot_at bytes m)) e (subst (λ a. 1 ≤ slice_index bytes a) is_at some_byte))
          (cases_lt k n);
      before = λ some. is_at ∙ ap (slot_at bytes) (sym same);
      fits = λ some. omega (arith, c.loop-i.invariant.within, meets);
      top = λ some. subst (λ (k : List ℕ). IsTopOf k c.top_of-top.result) key c.top_of-top.ensures;
    }

pub returns : goal.returns
returns c =
    let leaf = c.args.leaf in
    let bytes : List ℕ = c.args.bytes.now in
    let all : c.loop-i.i ≡ count_of bytes = omega (arith, c.loop-i-test.false, c.loop-i.auto.i-end, c.get_u16-count.ensures.value) in
    let start : c.loop-i.before ≡ start_of bytes = omega (arith, c.if-before-start.false, c.get_u16-start.ensures.value) in
    λ t. run_sound leaf bytes (subst (ArePacked leaf bytes (count_of bytes)) start (subst (λ n. ArePacked leaf bytes n c.loop-i.before) all c.loop-i.invariant.run))
    (λ i lt. c.loop-i.invariant.keyed i (omega (arith, all, lt))) (λ i some lt. c.loop-i.invariant.below i some (omega (arith, all, lt)))
