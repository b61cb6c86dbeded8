-- Parts of a load, one after another.
use Rattle.std.proofs.Common.{ℕ, refl}
use Rattle.im_base_types.specs.declared.file_id.FileId.TheVariants.{Pages}
use Rattle.im_base_disk.specs.declared.disk.Disk.{Ghosts}
use Rattle.im_base_disk.specs.Disk.{Files, InFile, Torn, Stepped}
use Rattle.im_base_disk.specs.Runs.{LeavesOnly, ChangesOnly, Reads}
use Rattle.im_base_disk.proofs.Runs.{started, weakened, reads_on, changes_reads, changes_then, in_then}
use Rattle.im_load.specs.Goings.{WritesPages}

module _ {D : Type 0} (d : Ghosts D) where
  pub goes_none : (old : D) → ((c : Files) → d.left_since old (d.moment old) c → d.may_leave old c) → WritesPages d old old
  goes_none old only_now = record {
    changes = record { seen = λ other ne. refl; outcomes = λ c left. (c, left, λ other ne. refl) };
    stops = started d old (Stepped (InFile Pages (λ _ _. Unit {0})) (d.may_leave old)) (λ told c left. (c, only_now c left, record { changed = tt; others = λ other ne. refl }));
  }

  pub goes_reads : (old new : D) → ((c : Files) → d.left_since old (d.moment old) c → d.may_leave old c) → Reads d old new → WritesPages d old new
  goes_reads old new only_now reads = record {
    changes = changes_reads d Pages old new reads;
    stops = reads_on d old old new (Stepped (InFile Pages (λ _ _. Unit {0})) (d.may_leave old)) (goes_none old only_now).stops reads;
  }

  pub goes_write : (old new : D) (at n : ℕ) → ChangesOnly d Pages old new → LeavesOnly d old new (Stepped (InFile Pages (Torn at n)) (d.may_leave old)) → WritesPages d old new
  goes_write old new at n changes run = record {
    changes = changes;
    stops = weakened d old new (Stepped (InFile Pages (Torn at n)) (d.may_leave old)) (Stepped (InFile Pages (λ _ _. Unit {0})) (d.may_leave old)) run
        (λ told c left. (left.0, left.1, record { changed = tt; others = left.2.others }));
  }

  pub goes_then : (old mid new : D) → WritesPages d old mid → WritesPages d mid new → WritesPages d old new
  goes_then old mid new first second = record {
    changes = changes_then d Pages old mid new first.changes second.changes;
    stops = in_then d Pages old mid new (λ _. Unit {0}) (λ _. Unit {0}) (λ _. Unit {0}) first.stops first.changes second.stops (λ told c p. tt) (λ told c p. tt);
  }
