-- Of each outcome of a write that a stop may tear there is an outcome before it.
use Rattle.std.proofs.Common.{◌≡◌, ◌≢◌, ◌⊎◌, inl, inr, ⊎_elim, ℕ, zero, suc, ◌+◌, ◌<◌, ◌≤◌, min, max, nat_le, nat_lt, ◌&&◌, cond, List, [], ◌∷◌, ◌++◌, length, take, drop, get_or, refl, sym, ◌∙◌, subst, arith, length-take, length-drop, le_refl, ext_get_or, get_or-take, get_or-drop}
use Rattle.std.proofs.lemmas.Bool.Decides.{nat_tests}
use Rattle.im_base_types.specs.declared.file_id.FileId.{FileId}
use Rattle.im_base_types.specs.declared.file_id.FileId.TheVariants.{Log, Pages, Log2}
use Rattle.im_base_model_disk.specs.declared.model_file.ModelFile.{ModelFile}
use Rattle.im_base_disk.specs.Disk.{Files, three, Torn, InFile, Follows}
use Rattle.im_base_model_disk.specs.Past.{FileMayHold, MayLeave}
use Rattle.im_base_model_disk.specs.ModelFile.{IsOutside, MayHold, Keeps}
use Rattle.im_base_model_disk.specs.Written.{IsWritten, IsRefused}

-- the list of so many values of a function
pub tabulate : ℕ → (ℕ → ℕ) → List ℕ
tabulate zero f = []
tabulate (suc n) f = f 0 ∷ tabulate n (λ i. f (suc i))

length-tabulate : (n : ℕ) (f : ℕ → ℕ) → length (tabulate n f) ≡ n
unfolding tabulate
length-tabulate zero f = refl
length-tabulate (suc n) f = omega (arith, length-tabulate n (λ i. f (suc i)))

get_or-tabulate : (n i : ℕ) (f : ℕ → ℕ) → i < n → get_or (tabulate n f) i 0 ≡ f i
unfolding tabulate
get_or-tabulate zero i f lt = absurd (omega (arith, lt))
get_or-tabulate (suc n) zero f lt = refl
get_or-tabulate (suc n) (suc i) f lt = get_or-tabulate n i (λ k. f (suc k)) (omega (arith, lt))

pub outside_push : (writes : List (ℕ × ℕ)) (at n i : ℕ) → IsOutside writes i → (i < at) ⊎ (at + n ≤ i) → IsOutside (writes ++ (at, n) ∷ []) i
outside_push [] at n i out here = (here, tt)
outside_push (w ∷ writes) at n i out here = (out.0, outside_push writes at n i out.1 here)

module _ (at n : ℕ) (c bytes : List ℕ) where
  -- the bytes from before in the range, and elsewhere those of c
  pub pick : ℕ → ℕ
  pick i = cond (nat_le at i && nat_lt i (at + n)) (get_or bytes i 0) (get_or c i 0)

  picked_in : (i : ℕ) → at ≤ i → i < at + n → pick i ≡ get_or bytes i 0
  unfolding pick
  picked_in i low high = grind (arith, nat_tests)

  picked_below : (i : ℕ) → i < at → pick i ≡ get_or c i 0
  unfolding pick
  picked_below i low = grind (arith, nat_tests)

  picked_above : (i : ℕ) → at + n ≤ i → pick i ≡ get_or c i 0
  unfolding pick
  picked_above i high = grind (arith, nat_tests)

-- where a place lies
pub where_is : (at n i : ℕ) → ((i < at) ⊎ (at + n ≤ i)) ⊎ ((at ≤ i) × (i < at + n))
where_is at n i = grind (arith, nat_tests)

module _ (bytes new : List ℕ) (synced end end_new : ℕ) (written written_new : List (ℕ × ℕ)) (at n : ℕ)
    (within : synced ≤ length bytes) (past : length bytes ≤ end) (place : at ≤ length bytes) (kept : Keeps at n bytes new) (no_further : end_new ≤ max end (at + n))
    (touched : (i : ℕ) → IsOutside written i → (i < at) ⊎ (at + n ≤ i) → IsOutside written_new i) (c : List ℕ) (may : MayHold new synced written_new end_new c) where
  pub size : ℕ
  size = min (length c) end

  abbrev pub patched : List ℕ
  patched = tabulate size (pick at n c bytes)

  is_long : length patched ≡ min (length c) end
  unfolding size
  is_long = length-tabulate size (pick at n c bytes)

  at_place : (i : ℕ) → i < length c → i < end → get_or patched i 0 ≡ pick at n c bytes i
  unfolding size
  at_place i lt le = get_or-tabulate size i (pick at n c bytes) (omega (arith, lt, le))

  pub patched_may : MayHold bytes synced written end patched
  patched_may = record {
    no_shorter = omega (arith, is_long, may.no_shorter, within, past);
    no_longer = omega (arith, is_long);
    same = λ i lt out.
        let there = at_place i (omega (arith, lt, may.no_shorter)) (omega (arith, lt, within, past)) in
        there ∙ ⊎_elim
        (λ (apart : (i < at) ⊎ (at + n ≤ i)). ⊎_elim (picked_below at n c bytes i) (picked_above at n c bytes i) apart ∙ may.same i lt (touched i out apart) ∙ kept.same i (omega (arith, lt, within)) apart)
        (λ (inside : (at ≤ i) × (i < at + n)). picked_in at n c bytes i inside.0 inside.1)
        (where_is at n i);
  }

  pub patched_torn : Torn at n patched c
  patched_torn = record {
    before = ext_get_or 0 (take at c) (take at patched) (omega (arith, length-take at c, length-take at patched, is_long, place, past))
        (λ i lt.
        let low : i < at = omega (arith, length-take at c, lt) in
        let high : i < length c = omega (arith, length-take at c, lt) in
        get_or-take at c i 0 low ∙ sym (picked_below at n c bytes i low) ∙ sym (at_place i high (omega (arith, low, place, past))) ∙ sym (get_or-take at patched i 0 low));
    after = ext_get_or 0 (drop (at + n) c) (drop (at + n) patched) (omega (arith, length-drop (at + n) c, length-drop (at + n) patched, is_long, may.no_longer, no_further))
        (λ i lt.
        let high : at + n + i < length c = omega (arith, length-drop (at + n) c, lt) in
        let low : at + n + i < end = omega (arith, high, may.no_longer, no_further) in
        get_or-drop (at + n) c i 0 ∙ sym (picked_above at n c bytes (at + n + i) (omega arith)) ∙ sym (at_place (at + n + i) high low) ∙ sym (get_or-drop (at + n) patched i 0));
    no_shorter = omega (arith, is_long);
    no_longer = omega (arith, is_long, may.no_longer, no_further);
  }

-- A write notes its range, or changes nothing.
touched_by : (old new : ModelFile) (at : ℕ) (bytes : List ℕ) → IsWritten at bytes old new ⊎ IsRefused at (length bytes) old new
    → (i : ℕ) → IsOutside old.written.items i → (i < at) ⊎ (at + length bytes ≤ i) → IsOutside new.written.items i
touched_by old new at bytes (inl made) i out apart = subst (λ (w : List (ℕ × ℕ)). IsOutside w i) (sym made.noted) (outside_push old.written.items at (length bytes) i out apart)
touched_by old new at bytes (inr refused) i out apart = subst (λ (w : List (ℕ × ℕ)). IsOutside w i) (sym refused.noted) out

synced_by : (old new : ModelFile) (at : ℕ) (bytes : List ℕ) → IsWritten at bytes old new ⊎ IsRefused at (length bytes) old new → new.synced ≡ old.synced
synced_by old new at bytes (inl made) = made.synced
synced_by old new at bytes (inr refused) = refused.synced

module _ (old new : ModelFile) (at : ℕ) (bytes : List ℕ) (place : at ≤ length old.bytes.items) (kept : Keeps at (length bytes) old.bytes.items new.bytes.items)
    (wrote : IsWritten at bytes old new ⊎ IsRefused at (length bytes) old new) where
  -- of one file
  pub torn_file : (c : List ℕ) → FileMayHold new c → (d : List ℕ) × FileMayHold old d × Torn at (length bytes) d c
  torn_file c may =
      let end = length old.bytes.items in
      let end_new = length new.bytes.items in
      let past = le_refl end in
      let moved = subst (λ (k : ℕ). MayHold new.bytes.items k new.written.items end_new c) (synced_by old new at bytes wrote) may in
      let touched = touched_by old new at bytes wrote in (
        patched old.bytes.items new.bytes.items old.synced end end_new old.written.items new.written.items at (length bytes) old.synced_within past place kept kept.no_longer touched c moved,
        patched_may old.bytes.items new.bytes.items old.synced end end_new old.written.items new.written.items at (length bytes) old.synced_within past place kept kept.no_longer touched c moved,
        patched_torn old.bytes.items new.bytes.items old.synced end end_new old.written.items new.written.items at (length bytes) old.synced_within past place kept kept.no_longer touched c moved,
      )

  -- and of all
  pub log_torn : (pages log2 : ModelFile) → Follows (InFile Log (Torn at (length bytes))) (MayLeave old pages log2) (MayLeave new pages log2)
  log_torn pages log2 c left = let d = torn_file (c Log) left.0 in (three d.0 (c Pages) (c Log2), (d.1, left.1, left.2), record { changed = d.2; others = same d.0 c })
    where
      same : (d : List ℕ) (c : Files) (other : FileId) → other ≢ Log → c other ≡ three d (c Pages) (c Log2) other
      same d c Log ne = absurd (ne refl)
      same d c Pages ne = refl
      same d c Log2 ne = refl

  pub pages_torn : (log log2 : ModelFile) → Follows (InFile Pages (Torn at (length bytes))) (MayLeave log old log2) (MayLeave log new log2)
  pages_torn log log2 c left = let d = torn_file (c Pages) left.1 in (three (c Log) d.0 (c Log2), (left.0, d.1, left.2), record { changed = d.2; others = same d.0 c })
    where
      same : (d : List ℕ) (c : Files) (other : FileId) → other ≢ Pages → c other ≡ three (c Log) d (c Log2) other
      same d c Log ne = refl
      same d c Pages ne = absurd (ne refl)
      same d c Log2 ne = refl

  pub log2_torn : (log pages : ModelFile) → Follows (InFile Log2 (Torn at (length bytes))) (MayLeave log pages old) (MayLeave log pages new)
  log2_torn log pages c left = let d = torn_file (c Log2) left.2 in (three (c Log) (c Pages) d.0, (left.0, left.1, d.1), record { changed = d.2; others = same d.0 c })
    where
      same : (d : List ℕ) (c : Files) (other : FileId) → other ≢ Log2 → c other ≡ three (c Log) (c Pages) d other
      same d c Log ne = refl
      same d c Pages ne = refl
      same d c Log2 ne = absurd (ne refl)
