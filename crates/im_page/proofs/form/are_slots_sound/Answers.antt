use Rattle.std.proofs.Common.{◌≡◌, ℕ, ◌+◌, ◌-◌, ◌<◌, ◌≤◌, List, length, slice_index, slice_set, true, arith, rules, refl, ap, subst, sym, ◌∙◌, ⊎_elim}
use Rattle.std.proofs.lemmas.Bool.{cases_lt}
use Rattle.im_base_types.specs.Keys.{IsBelow}
use Rattle.im_theory_page.specs.Form.{count_of, start_of, slot_at, cell_size, key_from}
use Rattle.im_page.specs.Sound.{AreEnds, MarksOne, IsTopOf, IsFootOf}
use Rattle.im_page.proofs.SoundLemmas.{all_flagged, end_flagged, ends_begin, ends_more, marks_set, sound_all}
use Rattle.im_page.proofs.WordLemmas.{by_words, key_bytes}
use Rattle.im_page.proofs.form.are_slots_sound.Goals.{else-foot_of-top-via-then-foot_of-top+else-not-is_next, else-foot_of-top-via-else-foot_of-top}
use Rattle.im_page.proofs.form.are_slots_sound.Goals as goal

pub loop-i-init : goal.loop-i-init
loop-i-init c =
    let long : length c.args.flags.now ≡ 4097 = ap length c.requires.flags in
    let start : c.get_u16.result ≡ start_of c.args.bytes.now = c.get_u16.ensures.value in
    record {
      ends = ends_begin c.args.leaf c.args.bytes.now c.args.flags.now (slice_set c.args.flags.now c.get_u16.result true) c.requires.flags long
          (subst (MarksOne c.args.flags.now (slice_set c.args.flags.now c.get_u16.result true)) start (marks_set c.args.flags.now c.get_u16.result (omega (arith, start, long, c.requires.start))));
      below = λ k some lt. absurd (omega arith);
      keyed = λ k lt. absurd (omega arith);
      high = λ k lt. absurd (omega arith);
      before = λ some. absurd (omega arith);
      fits = λ some. absurd (omega arith);
      top = λ some. absurd (omega arith);
    }

pub returns-then-not-is_next : goal.returns-then-not-is_next
returns-then-not-is_next c =
    let bytes : List ℕ = c.args.bytes.now in
    let n : ℕ = c.loop-i.i in
    let at : ℕ = c.get_u16-at.result in
    let is_at : at ≡ slot_at bytes n = c.get_u16-at.ensures.value in (
      λ t. absurd cc,
      λ h.
          let lt : n < count_of bytes = omega (arith, c.loop-i-test.true, c.get_u16-i-end.ensures.value) in
          let keyed : 1 ≤ slice_index bytes at = subst (λ a. 1 ≤ slice_index bytes a) (sym is_at) (h.sound.cells n lt).keyed in
          let there = c.if-not-is_next.ensures.1 (
            keyed,
            λ some. subst (λ a. IsBelow (key_from bytes a) (key_from bytes at)) (sym (c.loop-i.invariant.before some))
                (subst (λ b. IsBelow (key_from bytes (slot_at bytes (n - 1))) (key_from bytes b)) (sym is_at) (h.sound.rises (n - 1) n (omega arith) lt)),
          ) in absurd cc,
    )

pub loop-i-preserved : goal.loop-i-preserved
loop-i-preserved c =
    let leaf = c.args.leaf in
    let bytes : List ℕ = c.args.bytes.now in
    let n : ℕ = c.loop-i.i in
    let at : ℕ = c.get_u16-at.result in
    let is_at : at ≡ slot_at bytes n = c.get_u16-at.ensures.value in
    let is_end : at + c.cell_len.result ≡ at + cell_size leaf bytes at = omega (arith, c.cell_len.ensures) in
    let high : at + cell_size leaf bytes at ≤ 4096 = omega (arith, is_end, c.if-end-gt-PAGE_SIZE.false) in
    let key : c.key_at-key.result.now ≡ key_from bytes at = c.key_at-key.ensures.key in
    let long : length c.key_at-key.result.now ≡ slice_index bytes at = c.key_at-key.ensures.len in
    let last : 0 < n → IsBelow (key_from bytes (slot_at bytes (n - 1))) (key_from bytes at) =
    λ some. subst (λ a. IsBelow (key_from bytes a) (key_from bytes at)) (c.loop-i.invariant.before some) (elim c.else-foot_of-top.branch [
      | else-foot_of-top-via-then-foot_of-top+else-not-is_next w ↦ (w.if-not-is_next.ensures.0 refl).1 some
      | else-foot_of-top-via-else-foot_of-top w ↦ by_words (key_from bytes c.loop-i.before) (key_from bytes at) c.loop-i.top c.foot_of.result
          (key_bytes bytes c.loop-i.before (λ i. (c.type_inv.bytes i).fits)) (key_bytes bytes at (λ i. (c.type_inv.bytes i).fits))
          (c.loop-i.invariant.top some) (subst (λ (k : List ℕ). IsFootOf k c.foot_of.result) key c.foot_of.ensures) c.foot_of.type_inv (omega (arith, w.if-foot_of-top.false))
    ]) in
    let some_byte : 1 ≤ slice_index bytes at = elim c.else-foot_of-top.branch [
      | else-foot_of-top-via-then-foot_of-top+else-not-is_next w ↦ (w.if-not-is_next.ensures.0 refl).0
      | else-foot_of-top-via-else-foot_of-top w ↦ ⊎_elim (λ (x : slice_index bytes at < 1). absurd (omega (arith, c.foot_of.ensures.1 (omega (arith, long)), w.if-foot_of-top.false))) (λ (x : 1 ≤ slice_index bytes at). x) (cases_lt (slice_index bytes at) 1)
    ] in
    let same : n + 1 - 1 ≡ n = omega arith in
    let old : AreEnds leaf bytes c.loop-i.flags n = c.loop-i.invariant.ends in
    record {
      ends = ends_more leaf bytes c.loop-i.flags (slice_set c.loop-i.flags (at + c.cell_len.result) true) n (at + c.cell_len.result) old
          (is_end ∙ ap (λ a. a + cell_size leaf bytes a) is_at) (marks_set c.loop-i.flags (at + c.cell_len.result) (omega (arith, old.len, is_end, high)));
      below = λ k some lt. ⊎_elim (λ (x : k < n). c.loop-i.invariant.below k some x)
          (λ (x : n ≤ k). let e : n ≡ k = omega arith in subst (λ m. IsBelow (key_from bytes (slot_at bytes (m - 1))) (key_from bytes (slot_at bytes m))) e
          (subst (λ a. IsBelow (key_from bytes (slot_at bytes (n - 1))) (key_from bytes a)) is_at (last (omega arith))))
          (cases_lt k n);
      keyed = λ k lt. ⊎_elim (λ (x : k < n). c.loop-i.invariant.keyed k x)
          (λ (x : n ≤ k). let e : n ≡ k = omega arith in subst (λ m. 1 ≤ slice_index bytes (slot_at bytes m)) e (subst (λ a. 1 ≤ slice_index bytes a) is_at some_byte))
          (cases_lt k n);
      high = λ k lt. ⊎_elim (λ (x : k < n). c.loop-i.invariant.high k x)
          (λ (x : n ≤ k). let e : n ≡ k = omega arith in subst (λ m. slot_at bytes m + cell_size leaf bytes (slot_at bytes m) ≤ 4096) e (subst (λ a. a + cell_size leaf bytes a ≤ 4096) is_at high))
          (cases_lt k n);
      before = λ some. is_at ∙ ap (slot_at bytes) (sym same);
      fits = λ some. omega (arith, high);
      top = λ some. subst (λ (k : List ℕ). IsTopOf k c.top_of-top.result) key c.top_of-top.ensures;
    }

pub returns-then-flags : goal.returns-then-flags
returns-then-flags c =
    let leaf = c.args.leaf in
    let bytes : List ℕ = c.args.bytes.now in
    let all : c.loop-i.i ≡ count_of bytes = omega (arith, c.loop-i-test.false, c.loop-i.auto.i-end, c.get_u16-i-end.ensures.value) in
    let ends : AreEnds leaf bytes c.loop-i.flags (count_of bytes) = subst (AreEnds leaf bytes c.loop-i.flags) all c.loop-i.invariant.ends in (
      λ t. sound_all leaf bytes c.loop-i.flags c.requires.len c.requires.start ends (search rules) (c.has_slots.ensures.0 t)
          (λ i lt. c.loop-i.invariant.high i (omega (arith, all, lt))) (λ i lt. c.loop-i.invariant.keyed i (omega (arith, all, lt))) (λ i some lt. c.loop-i.invariant.below i some (omega (arith, all, lt))),
      λ h. c.has_slots.ensures.1 (all_flagged leaf bytes c.loop-i.flags c.requires.len ends h),
    )

pub returns-else-flags : goal.returns-else-flags
returns-else-flags c =
    let leaf = c.args.leaf in
    let bytes : List ℕ = c.args.bytes.now in
    let all : c.loop-i.i ≡ count_of bytes = omega (arith, c.loop-i-test.false, c.loop-i.auto.i-end, c.get_u16-i-end.ensures.value) in
    let ends : AreEnds leaf bytes c.loop-i.flags (count_of bytes) = subst (AreEnds leaf bytes c.loop-i.flags) all c.loop-i.invariant.ends in (
      λ t. absurd cc,
      λ h. let flagged = end_flagged leaf bytes c.loop-i.flags c.requires.len c.requires.start ends h in search rules,
    )
