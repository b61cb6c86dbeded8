-- A log without room, over the length of its file.
use Rattle.std.proofs.Common.{◌≡◌, ℕ, ◌+◌, ◌<◌, ◌≤◌, Bool, true, false, length, refl, ◌∙◌, subst, arith}
use Rattle.std.specs.Prelude.{nat_le, if◌then◌else◌}
use Rattle.im_base_types.specs.declared.file_id.FileId.{FileId}
use Rattle.im_base_types.specs.declared.file_id.FileId.TheVariants.{Log}
use Rattle.im_base_disk.specs.declared.disk.Disk.{Ghosts}
use Rattle.im_log_gate.specs.Gate.{place_of}
use Rattle.im_log_gate.specs.Header.{base_of}
use Rattle.im_log.specs.declared.log_file.LogFile.{LogFile}
use Rattle.im_log.specs.LogFile.{HasNoRoom, end_with, next_lsn}
use Rattle.im_page_writer.specs.declared.page_writer.PageWriter.{PageWriter}
use Rattle.im_page_writer.specs.PageWriter.{IsReadyWriter}
use Rattle.im_restart.specs.Restart.{IsFullLog}

by_test : (test : Bool) (near far : ℕ) → near ≤ far → (if test then near else far) ≤ far
by_test true near far le = le
by_test false near far le = omega arith

-- where a record ends at most
end_most : (log : LogFile) (size : ℕ) → end_with log size ≤ next_lsn log + 5 + size
end_most log size = by_test (nat_le (log.used + size) 16384) (next_lsn log + size) (next_lsn log + 5 + size) (omega arith)

not_true : (b : Bool) → (b ≡ true → ⊥) → b ≡ false
not_true true never = absurd (never refl)
not_true false never = refl

pub full_log : {D : Type 0} (d : Ghosts D) (w : PageWriter) (disk : D) → IsReadyWriter d w disk → (d.failed disk ≡ true → ⊥) → HasNoRoom w.log → d.tells → IsFullLog (d.seen disk)
full_log d w disk ready works full told =
    let is_open = ready.still (not_true (d.failed disk) works) in
    let reaches = is_open.ready.reading.reaches full.gate told in
    let at : place_of w.log.gate < length (d.seen disk Log) = subst (λ (f : FileId). place_of w.log.gate < length (d.seen disk f)) w.log.of_log.file reaches.within in
    let base : w.log.base ≡ base_of (d.seen disk Log) = full.of_gate ∙ (is_open.starts told).base in
    let most = end_most w.log full.size in
    omega (arith, full.above, full.most, full.one, most, at, base, w.log.within)
