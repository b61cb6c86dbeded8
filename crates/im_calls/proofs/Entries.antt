-- Entries that were put into a buffer are read out of it as they were, and as many as one scan has find room there.
use Rattle.std.proofs.Common.{◌≡◌, ℕ, suc, ◌+◌, ◌*◌, ◌≤◌, List, [], ◌∷◌, ◌++◌, length, take, drop, refl, sym, ap, ◌∙◌, arith, length-append, append_assoc, take_at, drop_at, take_all, take-append-drop, append-nil}
use Rattle.std.specs.Int.{w64, to_le_bytes, from_le_bytes}
use Rattle.std.proofs.lemmas.Nat.{from_le_bytes-to_le_bytes_8}
use Rattle.std.proofs.lemmas.List.Concat.{flat_map-cons}
use Rattle.im_base_types.specs.Pages.{Entry}
use Rattle.im_calls.specs.Calls.{BeginsWith, entry_bytes, entries_bytes}
use Rattle.im_calls.specs.Entries.{read_entries, AreEntries}

-- a row id takes eight bytes
eight : (n : ℕ) → length (to_le_bytes w64 n) ≡ 8
eight n = refl

-- an entry is read off the front
first : (n : ℕ) (key rid more : List ℕ) → length rid ≡ 8
    → read_entries (suc n) (length key ∷ (key ++ (rid ++ more))) ≡ (key, from_le_bytes w64 rid) ∷ read_entries n more
first n key rid more long =
    ap (λ (k : List ℕ). (k, from_le_bytes w64 (take 8 (drop (length key) (key ++ (rid ++ more))))) ∷ read_entries n (drop 8 (drop (length key) (key ++ (rid ++ more))))) (take_at key (rid ++ more) (length key) refl)
    ∙ (ap (λ (rest : List ℕ). (key, from_le_bytes w64 (take 8 rest)) ∷ read_entries n (drop 8 rest)) (drop_at key (rid ++ more) (length key) refl)
    ∙ (ap (λ (r : List ℕ). (key, from_le_bytes w64 r) ∷ read_entries n (drop 8 (rid ++ more))) (take_at rid more 8 long)
    ∙ ap (λ (rest : List ℕ). (key, from_le_bytes w64 rid) ∷ read_entries n rest) (drop_at rid more 8 long)))

-- the bytes of a list of entries, and bytes after them
opened : (e : Entry) (es : List Entry) (rest : List ℕ) → entries_bytes (e ∷ es) ++ rest ≡ length e.0 ∷ (e.0 ++ (to_le_bytes w64 e.1 ++ (entries_bytes es ++ rest)))
opened e es rest = ap (λ (xs : List ℕ). xs ++ rest) (flat_map-cons entry_bytes e es)
    ∙ (append_assoc (entry_bytes e) (entries_bytes es) rest ∙ ap (λ (xs : List ℕ). length e.0 ∷ xs) (append_assoc e.0 (to_le_bytes w64 e.1) (entries_bytes es ++ rest)))

-- entries are read again, whatever bytes come after them
pub read_again : (list : List Entry) (rest : List ℕ) → AreEntries list → read_entries (length list) (entries_bytes list ++ rest) ≡ list
read_again [] rest are = refl
read_again (e ∷ es) rest (is, are) =
    ap (read_entries (suc (length es))) (opened e es rest)
    ∙ (first (length es) e.0 (to_le_bytes w64 e.1) (entries_bytes es ++ rest) (eight e.1)
    ∙ (ap (λ (n : ℕ). (e.0, n) ∷ read_entries (length es) (entries_bytes es ++ rest)) (from_le_bytes-to_le_bytes_8 e.1 is.number)
    ∙ ap (λ (xs : List Entry). e ∷ xs) (read_again es rest are)))

-- an entry takes at most 264 bytes
pub entries_fit : (list : List Entry) → AreEntries list → length (entries_bytes list) ≤ 264 * length list
entries_fit [] are = omega arith
entries_fit (e ∷ es) (is, are) =
    let rest = entries_fit es are in
    let whole : length (entries_bytes (e ∷ es)) ≡ length (entry_bytes e) + length (entries_bytes es) = ap length (flat_map-cons entry_bytes e es) ∙ length-append (entry_bytes e) (entries_bytes es) in
    let one : length (entry_bytes e) ≡ suc (length e.0 + 8) = ap suc (length-append e.0 (to_le_bytes w64 e.1)) in
    omega (arith, whole, one, rest, is.short)

-- what a call tells with bytes that find room is read again
pub told_again : (buffer : List ℕ) (count : ℕ) (list : List Entry) → AreEntries list → length (entries_bytes list) ≤ length buffer → BeginsWith buffer count (entries_bytes list)
    → (count ≡ length (entries_bytes list)) × (read_entries (length list) buffer ≡ list)
told_again buffer count list are room holds =
    let all : count ≡ length (entries_bytes list) = omega (arith, room, holds.fits) in
    let front : take count buffer ≡ entries_bytes list = holds.front ∙ take_all count (entries_bytes list) (omega (arith, all)) in
    let whole : buffer ≡ entries_bytes list ++ drop count buffer = sym (take-append-drop count buffer) ∙ ap (λ (xs : List ℕ). xs ++ drop count buffer) front in
    (all, ap (read_entries (length list)) whole ∙ read_again list (drop count buffer) are)

-- an entry alone is a list of one
pub alone : (e : Entry) → entry_bytes e ≡ entries_bytes (e ∷ [])
alone e = sym (flat_map-cons entry_bytes e [] ∙ append-nil (entry_bytes e))
