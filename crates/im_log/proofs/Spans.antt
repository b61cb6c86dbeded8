-- A part of the file in front of the gate has the log's bytes.
use Rattle.std.proofs.Common.{◌≡◌, ℕ, ◌+◌, ◌-◌, ◌<◌, ◌≤◌, List, ◌++◌, length, take, drop, sym, ◌∙◌, ap, subst, arith, length-drop, length-take, min, take-append-drop, drop-drop}
use Rattle.im_base_types.specs.declared.file_id.FileId.TheVariants.{Log}
use Rattle.im_base_types.specs.Records.{Logged}
use Rattle.im_base_disk.specs.declared.disk.Disk.{Ghosts}
use Rattle.im_log_gate.specs.Gate.{place_of}
use Rattle.im_log_record.specs.Entry.{Entry}
use Rattle.im_log.specs.declared.log_file.LogFile.{LogFile}
use Rattle.im_log.specs.LogFile.{IsOpen, IsLog}
use Rattle.im_log.specs.Reading.{SpellsRecord}
use Rattle.im_log.specs.Span.{IsSpanOf, IsWhole}
use Rattle.im_log.specs.Spelled.{logged_at, record_size}
use Rattle.im_log.proofs.Spells.{First, size_more}
use Rattle.im_log.proofs.Places.{first_less, slice_is, there_in_file}

-- a record of which all bytes are in front of others
front_spells : (bytes more : List ℕ) (r : Logged) (entry : Entry) → First (bytes ++ more) entry → IsWhole bytes → logged_at r.lsn entry ≡ r → SpellsRecord r (take (record_size bytes) bytes)
front_spells bytes more r entry f whole same =
    let size : record_size (bytes ++ more) ≡ record_size bytes = size_more bytes more (omega (arith, whole.least, whole.most)) in
    let here = first_less bytes more entry f (omega (arith, size, whole.most)) in
    record { entry = entry; is = here.is; same = same }

-- no bytes have no record
pub nothing_spans : (all : List Logged) (from : ℕ) (bytes : List ℕ) → length bytes ≡ 0 → IsSpanOf all from bytes
nothing_spans all from bytes none r has above whole =
    let long : length (drop (r.lsn - from) bytes) ≡ length bytes - (r.lsn - from) = length-drop (r.lsn - from) bytes in
    absurd (omega (arith, long, none, whole.least, whole.most))

pub spans : {D : Type 0} (d : Ghosts D) (base : ℕ) (all durable : List Logged) (log : LogFile) (disk : D) → IsOpen d log disk → IsLog d base all durable log disk
    → (at n from : ℕ) → from ≡ log.base + at → at + n ≤ place_of log.gate → IsSpanOf all from (take n (drop at (d.seen disk Log)))
spans d base all durable log disk is_open h at n from is le r has above whole =
    let file : List ℕ = d.seen disk Log in
    let k : ℕ = r.lsn - from in
    let part : List ℕ = take n (drop at file) in
    let b : List ℕ = drop k part in
    let long : length b ≡ length part - k = length-drop k part in
    let short : length part ≤ n = short_take n (drop at file) in
    let before : k < n = omega (arith, long, short, whole.least, whole.most) in
    let lsn_is : r.lsn ≡ log.base + (at + k) = omega (arith, is, above) in
    let t = there_in_file d base all durable log disk r is_open h has (at + k) lsn_is (omega (arith, before, le)) in
    let y : List ℕ = drop (at + k) file in
    let cut : take (n - k) y ≡ b = ap (λ (l : List ℕ). take (n - k) l) (sym (drop-drop k at file)) ∙ slice_is (drop at file) k n (omega (arith, before)) in
    let joined : y ≡ b ++ drop (n - k) y = sym (take-append-drop (n - k) y) ∙ ap (λ (l : List ℕ). l ++ drop (n - k) y) cut in
    front_spells b (drop (n - k) y) r t.entry (subst (λ (l : List ℕ). First l t.entry) joined t.first) whole t.is
  where
    short_take : (n : ℕ) (l : List ℕ) → length (take n l) ≤ n
    short_take n l = let e : length (take n l) ≡ min n (length l) = length-take n l in omega (arith, e)
