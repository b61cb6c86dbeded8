-- Looks at the lengths of two logs, one after another.
use Rattle.std.proofs.Common.{◌∙◌, ap, inl, inr, sym, ⊎_elim, arith}
use Rattle.std.proofs.lemmas.Bool.{cases_lt}
use Rattle.std.specs.Prelude.{◌≡◌, ◌≤◌, ◌<◌, ◌⊎◌, ℕ, length}
use Rattle.im_base_disk.specs.declared.disk.Disk.{Ghosts}
use Rattle.im_base_disk.specs.Disk.{Files}
use Rattle.im_base_disk.specs.Runs.{Reads}
use Rattle.im_base_types.specs.declared.file_id.FileId.TheVariants.{Log, Log2}
use Rattle.im_store.specs.LogFiles.{HasLong}

module _ {D : Type 0} (d : Ghosts D) (old mid : D) (log other : ℕ) where
  -- both are short
  pub short_says : Reads d old mid → log ≡ length (d.seen old Log) → other ≡ length (d.seen mid Log2) → log ≤ 65536 → other ≤ 65536 → HasLong (d.seen old) → ⊥
  short_says reads first second low less has =
      let same : other ≡ length (d.seen old Log2) = second ∙ ap (λ (f : Files). length (f Log2)) reads.seen in
      ⊎_elim (λ long. omega (arith, first, low, long)) (λ long. omega (arith, same, less, long)) has

  -- one is not
  pub long_says : Reads d old mid → log ≡ length (d.seen old Log) → other ≡ length (d.seen mid Log2) → ((log ≤ 65536) × (other ≤ 65536) → ⊥) → HasLong (d.seen old)
  long_says reads first second not =
      let same : other ≡ length (d.seen old Log2) = second ∙ ap (λ (f : Files). length (f Log2)) reads.seen in
      elim (cases_lt 65536 log) [
        | inl lt ↦ inl (omega (arith, first, lt))
        | inr le ↦ inr (elim (cases_lt 65536 other) [
          | inl lt ↦ omega (arith, same, lt)
          | inr less ↦ absurd (not (le, less))
        ])
      ]
