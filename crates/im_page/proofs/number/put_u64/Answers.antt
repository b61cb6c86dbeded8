use Rattle.std.proofs.Common.{rules, ◌≡◌, ◌+◌, ◌<◌, ◌≤◌, ◌∙◌, ℕ, List, [], ap, arith, length, slice_index}
use Rattle.std.proofs.lemmas.List.{places}
use borrow.Rule.Slice.PartMut.{put_mid}
use Rattle.byteorder.specs.Endian.{big_number}
use Rattle.byteorder.specs.Numbers.{big_number-reads_back}
use Rattle.im_theory_page.specs.Number.{u64_at}
use Rattle.im_page.proofs.number.put_u64.Goals as goal

module _ (at k : ℕ) (old part : List ℕ) (inside : at ≤ length old) where
  byte : (i j : ℕ) → i < length part → j ≡ at + i → slice_index (put_mid at k old part) j ≡ slice_index part i
  byte i j lt e = search (rules, places)

  number : 8 ≤ length part → u64_at (put_mid at k old part) at ≡ big_number 8 part
  number long = grind (arith, byte)

pub returns-clause-value : goal.returns-clause-value
returns-clause-value c =
    number c.args.at _ c.args.bytes.now c.write_u64.new.buf (omega arith) (omega (arith, c.write_u64.auto.buf))
    ∙ ap (big_number 8) c.write_u64.ensures
    ∙ big_number-reads_back 8 c.args.value [] (omega (arith, c.ranges.value))
