-- The records of a log in a part of it that a room holds.
use Rattle.std.proofs.Common.{◌≡◌, ◌⊎◌, inl, inr, ⊎_elim, ℕ, ◌+◌, ◌-◌, ◌≤◌, List, Result, Err, length, length-take, take, drop, min, Some, refl, sym, ◌∙◌, ap, subst, arith, false, true, take-take}
use Rattle.std.specs.Prelude.{◌↔◌}
use Rattle.im_base_types.specs.declared.fault.Fault.{Fault}
use Rattle.im_base_types.specs.declared.fault.Fault.TheVariants.{Device, Failed}
use Rattle.im_base_types.specs.Records.{Logged}
use Rattle.im_theory_log.specs.Histories.{History, IsRecordOf}
use Rattle.im_base_disk.specs.declared.disk.Disk.{Ghosts}
use Rattle.im_log.specs.Reading.{SpellsRecord}
use Rattle.im_log.specs.Span.{IsSpanOf, IsWhole}
use Rattle.im_log.specs.Spelled.{record_size}
use Rattle.im_log.proofs.Places.{slice_is}
use Rattle.im_log.proofs.Spans.{nothing_spans}
use Rattle.im_page_writer.specs.declared.page_writer.PageWriter.{PageWriter}
use Rattle.im_page_writer.specs.Outcome.{no_page}
use Rattle.im_page_writer.specs.PageWriter.{IsReadyWriter}
use Rattle.im_restart_redo.specs.declared.window.Window.{Window}
use Rattle.im_restart_redo.specs.Recovery.{Recovers}
use Rattle.im_restart_redo.specs.Window.{AreAlsoOf, Shows}
use Rattle.im_restart_redo.proofs.Recoveries.{read_none}

-- a room that holds nothing of the log
pub empty_shows : (log : History) (from : ℕ) (room : List ℕ) → IsSpanOf log from (take 0 room)
empty_shows log from room = nothing_spans log from (take 0 room) refl

-- what holds of all records holds of some
pub shows_also : (log all : History) (from : ℕ) (bytes : List ℕ) → AreAlsoOf log all → IsSpanOf all from bytes → IsSpanOf log from bytes
shows_also log all from bytes also span r has above whole = span r (also r has) above whole

-- so many bytes at the front of others
pub few_bytes : (n : ℕ) (l : List ℕ) → length (take n l) ≤ n
few_bytes n l = let e : length (take n l) ≡ min n (length l) = length-take n l in omega (arith, e)

-- a record that stands in the room as a whole
pub found_there : (log : History) (w : Window) (room : List ℕ) (at size lsn : ℕ) (r : Logged) → Shows log w room → IsRecordOf r log → lsn ≡ r.lsn → w.from ≤ lsn → at ≡ lsn - w.from → at ≤ w.used
    → size ≡ record_size (take (w.used - at) (drop at room)) → IsWhole (take (w.used - at) (drop at room)) → w.used ≤ length room → SpellsRecord r (take (at + size - at) (drop at room))
found_there log w room at size lsn r shows has same low at_is within size_is whole short =
    let part : List ℕ = take w.used room in
    let k : ℕ = r.lsn - w.from in
    let at_k : at ≡ k = omega (arith, at_is, same) in
    let cut : take (w.used - at) (drop at room) ≡ drop k part = slice_is room at w.used within ∙ ap (λ (n : ℕ). drop n part) at_k in
    let here : IsWhole (drop k part) = subst (λ (l : List ℕ). IsWhole l) cut whole in
    let said = shows r has (omega (arith, low, same)) here in
    let long : size ≡ record_size (drop k part) = size_is ∙ ap record_size cut in
    let few : size ≤ w.used - at = omega (arith, size_is, whole.most, few_bytes (w.used - at) (drop at room)) in
    let bytes : take (at + size - at) (drop at room) ≡ take (record_size (drop k part)) (drop k part) =
    ap (λ (n : ℕ). take n (drop at room)) (let e : at + size - at ≡ size = omega arith in e)
    ∙ sym (take-take size (w.used - at) (drop at room) few)
    ∙ ap (λ (l : List ℕ). take size l) cut
    ∙ ap (λ (n : ℕ). take n (drop k part)) long in
    subst (λ (l : List ℕ). SpellsRecord r l) (sym bytes) said

-- a record at the front of the room
pub brought_there : (r : Logged) (room : List ℕ) (size : ℕ) → SpellsRecord r (take size room) → SpellsRecord r (take (size - 0) (drop 0 room))
brought_there r room size said = subst (λ (n : ℕ). SpellsRecord r (take n (drop 0 room))) (let e : size ≡ size - 0 = omega arith in e) said

-- a read of a part of the log, refused
pub span_refused : {D : Type 0} (d : Ghosts D) (v w : PageWriter) (new : D) → v.failed ≡ false → IsReadyWriter d w new → w.pool.frames ≡ v.pool.frames → {A : Type 0} (r : Result A Fault) (f : Fault) → r ≡ Err f → w.failed ≡ true → (f ≡ Failed) ⊎ (f ≡ Device)
    → (r ≡ Err Failed) ↔ (v.failed ≡ true) → (v.failed ≡ false → (r ≡ Err Device) ↔ (d.failed new ≡ true)) → Recovers d no_page v w new (Some f)
span_refused d v w new began ready frames r f is broken causes already device =
    read_none d v w new began ready frames {may = no_page} refl r f is broken (⊎_elim (λ (e : f ≡ Failed). inl e) (λ (e : f ≡ Device). inr (inr e)) causes) already device

-- a working writer's read is refused for the device alone
pub span_cause : (v : PageWriter) → v.failed ≡ false → {A : Type 0} (r : Result A Fault) (f : Fault) → r ≡ Err f → (f ≡ Failed) ⊎ (f ≡ Device) → (r ≡ Err Failed) ↔ (v.failed ≡ true) → f ≡ Device
span_cause v began r f is (inl failed) already = absurd (let clash : false ≡ true = sym began ∙ already.0 (is ∙ ap Err failed) in cc clash)
span_cause v began r f is (inr device) already = device
