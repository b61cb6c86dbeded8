-- The files synced, one after the other.
use Rattle.std.proofs.Common.{◌≡◌, sym, ap, ◌∙◌}
use Rattle.im_base_types.specs.declared.file_id.FileId.TheVariants.{Log, Pages, Log2}
use Rattle.im_base_disk.specs.declared.disk.Disk.{Ghosts}
use Rattle.im_base_disk.specs.Disk.{Files, Only, Elapses}
use Rattle.im_base_disk.specs.Runs.{IsSynced, LeavesOnly}
use Rattle.im_base_disk.proofs.Runs.{started, goes_on}

module _ {D : Type 0} (d : Ghosts D) where
  pub used_synced : (old mid new : D) → Only Log (d.seen old) (d.may_leave mid) → Only Pages (d.seen mid) (d.may_leave new) → ((c : Files) → d.may_leave new c → d.may_leave mid c) → d.seen mid ≡ d.seen old → d.seen new ≡ d.seen mid
      → Only Log (d.seen new) (d.may_leave new) × Only Pages (d.seen new) (d.may_leave new)
  used_synced old mid new log pages fewer first second = (
    λ c left. log c (fewer c left) ∙ sym (ap (λ (s : Files). s Log) (second ∙ first)),
    λ c left. pages c left ∙ sym (ap (λ (s : Files). s Pages) second),
  )

  pub all_synced : (mid new : D) → Only Log (d.seen mid) (d.may_leave mid) × Only Pages (d.seen mid) (d.may_leave mid) → Only Log2 (d.seen mid) (d.may_leave new) → ((c : Files) → d.may_leave new c → d.may_leave mid c) → d.seen new ≡ d.seen mid → IsSynced d new
  all_synced mid new used other fewer same Log c left = used.0 c (fewer c left) ∙ sym (ap (λ (s : Files). s Log) same)
  all_synced mid new used other fewer same Pages c left = used.1 c (fewer c left) ∙ sym (ap (λ (s : Files). s Pages) same)
  all_synced mid new used other fewer same Log2 c left = other c left ∙ sym (ap (λ (s : Files). s Log2) same)

  -- one sync
  pub sync_stops : (only_now : (disk : D) (c : Files) → d.left_since disk (d.moment disk) c → d.may_leave disk c) (old mid : D) → Elapses (d.moment old) (d.moment mid) (d.left_since old) (d.left_since mid) (d.may_leave mid)
      → ((c : Files) → d.may_leave mid c → d.may_leave old c) → LeavesOnly d old mid (d.may_leave old)
  sync_stops only_now old mid time fewer = goes_on d old old mid (d.may_leave old) (d.may_leave mid) (started d old (d.may_leave old) (λ told c left. only_now old c left)) time (λ told c left. fewer c left)

  -- and another after it
  pub syncs_stop : (old mid new : D) → LeavesOnly d old mid (d.may_leave old) → Elapses (d.moment mid) (d.moment new) (d.left_since mid) (d.left_since new) (d.may_leave new) → ((c : Files) → d.may_leave new c → d.may_leave mid c)
      → ((c : Files) → d.may_leave mid c → d.may_leave old c) → LeavesOnly d old new (d.may_leave old)
  syncs_stop old mid new first time fewer earlier = goes_on d old mid new (d.may_leave old) (d.may_leave new) first time (λ told c left. earlier c (fewer c left))
