-- The files that a call names.
use Rattle.std.proofs.Common.{◌≡◌, ◌⊎◌, inl, inr, ◌<◌, ◌≤◌, ◌^◌, ◌∙◌, ℕ, ap, sym, subst, arith}
use Rattle.std.specs.Prelude.{◌==◌, pos, false, None}
use Rattle.im_base_disk.specs.declared.disk.Disk.{Ghosts}
use Rattle.im_base_two_logs.specs.declared.renamed.Renamed.{Renamed}
use Rattle.im_base_mirror_disk.specs.declared.mirrored.Mirrored.{Mirrored}
use Rattle.im_files_caller_disk.specs.Disks.{disk_over}
use Rattle.im_files_caller_disk.specs.Ways.{IsWay}
use Rattle.im_files_caller_disk.specs.declared.caller_disk.CallerDisk.{CallerDisk}
use Rattle.im_files_caller_disk.specs.declared.caller_files.CallerFiles.{CallerFiles}
use Rattle.im_calls.specs.declared.call.Call.{Call}
use Rattle.im_calls.specs.declared.opening.Opening.{Opening}
use Rattle.im_calls.specs.Named.{AreOpened, copy_files, load_files}

-- numbers that descriptors have are no others
pub within : {A : Type 0} (a b : ℕ) → a < 2 ^ 31 → b < 2 ^ 31 → (2 ^ 31 ≤ a) ⊎ (2 ^ 31 ≤ b) → A
within a b low least (inl high) = absurd (omega (arith, low, high))
within a b low least (inr high) = absurd (omega (arith, least, high))

-- files that were put together of a caller's disk, with their own names and no copy, are those that an opening names
pub are_opened : {T : Type 0} {d : Ghosts (Renamed CallerFiles)} {t : Ghosts T} (asked : Opening) (disk : CallerDisk) (files : CallerFiles) (by_name : Renamed CallerFiles) (all : Mirrored (Renamed CallerFiles) T d t)
    → disk ≡ disk_over (pos asked.ask) (pos asked.answer) false → IsWay (asked.read_only == 1) disk files.way → by_name.disk ≡ files → by_name.swapped ≡ false → all.disk ≡ by_name → all.copy ≡ None → AreOpened asked all
are_opened asked disk files by_name all over way named own below alone = record {
  way = subst (λ (n : Renamed CallerFiles). IsWay (asked.read_only == 1) (disk_over (pos asked.ask) (pos asked.answer) false) n.disk.way) (sym below)
      (subst (λ (f : CallerFiles). IsWay (asked.read_only == 1) (disk_over (pos asked.ask) (pos asked.answer) false) f.way) (sym named)
      (subst (λ (x : CallerDisk). IsWay (asked.read_only == 1) x files.way) over way));
  names = ap (λ (n : Renamed CallerFiles). n.swapped) below ∙ own;
  alone = alone;
}

-- and those of a copy
pub are_copy : (asked : Call) (disk : CallerDisk) (files : Renamed CallerDisk) → disk ≡ load_files asked → files.disk ≡ disk → files.swapped ≡ false → files ≡ copy_files asked
are_copy asked disk files over is own =
    ap (λ (x : CallerDisk). let r : Renamed CallerDisk = record { disk = x; swapped = files.swapped } in r) (is ∙ over) ∙ ap (λ b. let r : Renamed CallerDisk = record { disk = load_files asked; swapped = b } in r) own
