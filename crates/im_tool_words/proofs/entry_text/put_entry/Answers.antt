use Rattle.std.proofs.Common.{rules, ◌≡◌, ℕ, ◌+◌, ◌*◌, ◌-◌, List, ◌∷◌, ◌++◌, length, ap, ◌∙◌, arith, decimal, slice_set}
use Rattle.hex.specs.Hex.{encode_lower}
use borrow.Rule.Slice.PartMut.{mid_of, put_mid, mid_len, same_len_mid}
use Rattle.im_tool_words.proofs.EntryTexts.{entry_is, on_ok_is}
use Rattle.im_tool_words.proofs.entry_text.put_entry.Goals as goal

pub returns-clause-text : goal.returns-clause-text
returns-clause-text c =
    let m : ℕ = 1 + 2 * length c.args.key.now in
    let one : List ℕ = slice_set c.args.text.now 0 32 in
    let digits : List ℕ = c.encode_to_slice.new.output in
    let number : List ℕ = c.copy_from_slice.new.self in
    let room : length one ≡ 533 = search rules in
    let lent : length (mid_of 1 (m - 1) one) ≡ 2 * length c.args.key.now = mid_len 1 m one (omega (arith, room, c.requires)) ∙ omega arith in
    let written : digits ≡ encode_lower c.args.key.now = on_ok_is _ (c.encode_to_slice.ensures.fits.1 lent) c.encode_to_slice.ensures.written in
    let long : length digits ≡ length (mid_of 1 (m - 1) one) = c.encode_to_slice.auto.output in
    let whole : length (put_mid 1 (m - 1) one digits) ≡ 533 = same_len_mid 1 (m - 1) one digits long ∙ room in
    let put : length (slice_set (put_mid 1 (m - 1) one digits) m 32) ≡ 533 = search rules in
    let said : number ≡ decimal c.args.rid = search rules in
    let count : length number ≡ length c.as_bytes-number.result.now = search rules in
    entry_is m (m - 1) (m + 1 + length c.as_bytes-number.result.now - (m + 1)) (m + 1 + length c.as_bytes-number.result.now) c.args.text.now digits number
    (omega (arith, long, lent)) (omega (arith, count)) (search rules) (omega (arith, whole, c.requires)) (omega (arith, room)) (omega (arith, put, c.requires))
    ∙ ap (λ (l : List ℕ). 32 ∷ (l ++ 32 ∷ number)) written ∙ ap (λ (l : List ℕ). 32 ∷ (encode_lower c.args.key.now ++ 32 ∷ l)) said
