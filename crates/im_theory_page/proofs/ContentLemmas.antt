-- What a page's bytes say of its contents.
use Rattle.std.proofs.Common.{◌≡◌, ℕ, ◌+◌, ◌-◌, ◌<◌, ◌≤◌, Bool, List, length, slice_index, ap, ◌∙◌, arith}
use Rattle.std.proofs.lemmas.List.Edits.{length-between}
use Rattle.im_theory_page.specs.Entry.{entry_at}
use Rattle.im_theory_page.specs.Form.{count_of, slot_at, entries_of, IsPacked}
use Rattle.im_theory_page.specs.Page.{is_leaf, said_by, IsForm}
use Rattle.im_theory_page.specs.Content.{IsContent}
use Rattle.im_theory_page.proofs.EntryLemmas.{length-entries_of, key-entries_of, taken_kind}
use Rattle.im_theory_page.proofs.SplitLemmas.{taken_fits}
use Rattle.im_theory_page.proofs.ChildLemmas.{rises_of}

-- a key is as long as its length byte says
pub key_length : (leaf : Bool) (bytes : List ℕ) (i : ℕ) → IsPacked leaf bytes → i < count_of bytes → length (entry_at (entries_of leaf bytes) i).0 ≡ slice_index bytes (slot_at bytes i)
key_length leaf bytes i p lt =
    let at : ℕ = slot_at bytes i in
    let n : ℕ = slice_index bytes at in
    let gone : at + 1 + n - (at + 1) ≡ n = omega arith in
    ap length (key-entries_of leaf bytes i lt) ∙ length-between bytes (at + 1) (at + 1 + n) (omega (arith, p.high i lt, p.len)) ∙ gone

pub content_from : (bytes : List ℕ) → IsForm bytes → ((i : ℕ) → i < length (entries_of (is_leaf bytes) bytes) → length (entry_at (entries_of (is_leaf bytes) bytes) i).0 ≤ 255) → IsContent (said_by bytes)
content_from bytes h short =
    let leaf : Bool = is_leaf bytes in
    let len = length-entries_of leaf bytes in
    record {
      header = rw len h.header;
      rises = rises_of leaf bytes h.packed.rises;
      keyed = λ i lt. omega (arith, h.packed.keyed i (omega arith), key_length leaf bytes i h.packed (omega arith));
      short = short;
      fits = rw (taken_kind bytes (entries_of leaf bytes)) (taken_fits leaf bytes h.packed);
    }
