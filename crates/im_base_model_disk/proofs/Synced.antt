-- Files that are all on the disk, and places that no write has touched.
use Rattle.std.proofs.Common.{◌≡◌, ◌⊎◌, ℕ, zero, suc, ◌+◌, ◌<◌, ◌≤◌, List, [], ◌∷◌, length, get_or, refl, sym, ◌∙◌, ap, subst, arith, ext_get_or}
use Rattle.im_base_types.specs.declared.file_id.FileId.{FileId}
use Rattle.im_base_types.specs.declared.file_id.FileId.TheVariants.{Log, Pages, Log2}
use Rattle.im_base_model_disk.specs.declared.model_file.ModelFile.{ModelFile}
use Rattle.im_base_disk.specs.Disk.{Files, three}
use Rattle.im_base_model_disk.specs.ModelFile.{IsOutside}
use Rattle.im_base_model_disk.specs.Past.{FileMayHold, MayLeave, either}

pub outside_item : (writes : List (ℕ × ℕ)) (k i : ℕ) → k < length writes → IsOutside writes i → (i < (get_or writes k (0, 0)).0) ⊎ ((get_or writes k (0, 0)).0 + (get_or writes k (0, 0)).1 ≤ i)
outside_item [] k i lt out = absurd (omega (arith, lt))
outside_item (v ∷ writes) zero i lt out = out.0
outside_item (v ∷ writes) (suc k) i lt out = outside_item writes k i (omega (arith, lt)) out.1

-- each write apart from the place, by its number
pub outside_each : (writes : List (ℕ × ℕ)) (i : ℕ) → ((k : ℕ) → k < length writes → (i < (get_or writes k (0, 0)).0) ⊎ ((get_or writes k (0, 0)).0 + (get_or writes k (0, 0)).1 ≤ i)) → IsOutside writes i
outside_each [] i apart = tt
outside_each (v ∷ writes) i apart = (apart 0 (omega arith), outside_each writes i (λ k lt. apart (suc k) (omega (arith, lt))))

none_outside : (writes : List (ℕ × ℕ)) (i : ℕ) → writes ≡ [] → IsOutside writes i
none_outside writes i none = subst (λ (w : List (ℕ × ℕ)). IsOutside w i) (sym none) tt

pub synced_file : (file : ModelFile) → file.synced ≡ length file.bytes.items → file.written.items ≡ [] → (c : List ℕ) → FileMayHold file c → c ≡ file.bytes.items
synced_file file synced none c may =
    ext_get_or 0 c file.bytes.items (omega (arith, synced, may.no_shorter, may.no_longer))
    (λ i lt. may.same i (omega (arith, lt, synced, may.no_longer)) (none_outside file.written.items i none))

pub synced_both : (log pages log2 : ModelFile) → log.synced ≡ length log.bytes.items → log.written.items ≡ [] → pages.synced ≡ length pages.bytes.items → pages.written.items ≡ []
    → log2.synced ≡ length log2.bytes.items → log2.written.items ≡ [] → (c : Files) → MayLeave log pages log2 c → (file : FileId) → c file ≡ three log.bytes.items pages.bytes.items log2.bytes.items file
synced_both log pages log2 ls ln ps pn l2s l2n c may Log = synced_file log ls ln (c Log) may.0
synced_both log pages log2 ls ln ps pn l2s l2n c may Pages = synced_file pages ps pn (c Pages) may.1
synced_both log pages log2 ls ln ps pn l2s l2n c may Log2 = synced_file log2 l2s l2n (c Log2) may.2

-- a read gives the bytes of that file
pub seen_of : (log pages log2 : ModelFile) (file : FileId) → three log.bytes.items pages.bytes.items log2.bytes.items file ≡ (either log pages log2 file).bytes.items
seen_of log pages log2 Log = refl
seen_of log pages log2 Pages = refl
seen_of log pages log2 Log2 = refl

-- a file that is the same reads the same
pub same_seen : (log pages log2 log_new pages_new log2_new : ModelFile) (file : FileId) → either log_new pages_new log2_new file ≡ either log pages log2 file
    → three log_new.bytes.items pages_new.bytes.items log2_new.bytes.items file ≡ three log.bytes.items pages.bytes.items log2.bytes.items file
same_seen log pages log2 log_new pages_new log2_new file same = seen_of log_new pages_new log2_new file ∙ ap (λ (f : ModelFile). f.bytes.items) same ∙ sym (seen_of log pages log2 file)
