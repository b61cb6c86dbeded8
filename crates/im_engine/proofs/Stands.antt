-- What the files that a stop leaves stand for.
use Rattle.std.proofs.Common.{◌≡◌, inl, inr, false, ℕ, ◌≤◌, List, arith}
use Rattle.std.specs.FinMap.{empty}
use Rattle.im_base_types.specs.declared.file_id.FileId.TheVariants.{Log}
use Rattle.im_base_types.specs.Changes.{Effect, apply_all}
use Rattle.im_theory_log.specs.Histories.{Base, History}
use Rattle.im_theory_log.specs.Lawful.{IsLawful}
use Rattle.im_base_types.specs.Lives.{Shown}
use Rattle.im_base_disk.specs.Disk.{Files}
use Rattle.im_log_gate.specs.Header.{IsMade, IsUnmade}
use Rattle.im_log_gate.proofs.Starts.{gate_behind}
use Rattle.im_page_file.specs.Stands.{IsCovered}
use Rattle.im_restart_analysis.specs.Orderly.{IsCounted}
use Rattle.im_theory_tree.specs.Theory.{page_tree}
use Rattle.im_restart.specs.Restart.{HasStore}
use Rattle.im_theory_steps.specs.Durable.{AreCommitted}
use Rattle.im_theory_steps.proofs.Durable.{stops_allow}
use Rattle.im_engine.specs.Stands.{Allowed}
use Rattle.im_engine.proofs.Named.{newest_current}

made_not : (bytes : List ℕ) → IsMade bytes → IsUnmade bytes → ⊥
made_not bytes made (inl short) = let within = made.within in omega (arith, short, within, gate_behind bytes)
made_not bytes made (inr other) = other made.made

-- what a stop left is a store
covered_store : (b : Base) (base : ℕ) (low high : History) (c : Files) (is : IsCovered b base low high c) → HasStore b base is.log.left c
covered_store b base low high c is = record { log = inr is.log.has; bare = λ unmade. absurd (made_not (c Log) is.log.has.made unmade); covers = is.pages; newest = inl is.older }

-- and stands for what the life may make of the effects before it
pub covered_allowed : (b : Base) (base : ℕ) (earlier before : List Effect) (s : Shown) (low high : History) → b.start ≤ base → IsCounted b base → apply_all empty earlier ≡ b.map → IsLawful b page_tree high
    → AreCommitted earlier before s.asked low high → (c : Files) → IsCovered b base low high c → Allowed before s c
covered_allowed b base earlier before s low high start counted made law commits c is =
    let kept = stops_allow page_tree b earlier before s.asked low high is.log.left law commits (record { from = is.log.longer; upto = is.log.shorter }) in (
      kept.after,
      kept.survives,
      record { swapped = false; current = newest_current c (inl is.older); b = b; base = base; start = start; counted = counted; log = is.log.left; has = covered_store b base low high c is; lawful = kept.lawful; earlier = earlier; made = made; is = kept.is },
    )
