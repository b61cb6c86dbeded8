-- What a Commit costs, by what its record and the force after it cost.
use Rattle.std.proofs.Common.{◌≡◌, ◌≤◌, ◌+◌, ℕ, subst}
use Rattle.im_base_disk.specs.declared.disk.Disk.{Ghosts}
use Rattle.im_base_disk.specs.Runs.{Costs, CostsAtMost, Forces}
use Rattle.im_base_disk.proofs.Costs.{forces_then, most_then}
use Rattle.im_base_steps.specs.declared.reply.Reply.{Reply}
use Rattle.im_base_steps.specs.declared.reply.Reply.TheVariants.{More}
use Rattle.im_engine.specs.Costs.{CommitCosts}

pub commit_costs : {D : Type 0} (d : Ghosts D) (used : ℕ) (HasChanges : Type 0) (reply : Reply) (old mid new : D) → CostsAtMost d 2 2 old mid → CostsAtMost d 2 2 mid new → Forces d 1 old mid → Forces d 1 mid new
    → (used + 33 ≤ 16384 → mid ≡ old) → (used + 33 ≤ 16384 → Costs d 2 2 mid new) → (reply ≡ More → ⊥) → HasChanges → CommitCosts d used HasChanges reply old new
commit_costs {D} d used HasChanges reply old mid new few more logged forced still one at_once has = record {
  most = most_then d 2 2 2 2 old mid new few more;
  forces = λ is. forces_then d 1 1 old mid new logged forced;
  one = λ is so fits. subst (λ (x : D). Costs d 2 2 x new) (still fits) (one fits);
  buffered = λ is. absurd (at_once is);
  room = λ is. absurd (at_once is);
  ends = λ is none. absurd (none has);
}
