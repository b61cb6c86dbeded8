-- What stands in front of a gate stays through a put.
use Rattle.std.proofs.Common.{◌≡◌, ℕ, ◌+◌, ◌≤◌, List, ◌++◌, length, take, drop, sym, ◌∙◌, ap, arith, append_assoc}
use Rattle.std.proofs.lemmas.List.{take-take, take-append-le, length-take-le}
use Rattle.im_base_types.specs.declared.file_id.FileId.{FileId}
use Rattle.im_base_disk.specs.declared.disk.Disk.{Ghosts}
use Rattle.im_base_disk.specs.Disk.{Only, Stepped, InFile, Holds, Torn}
use Rattle.im_base_disk.specs.Runs.{LeavesOnly, LeavesIn, ChangesOnly}
use Rattle.im_base_disk.proofs.Runs.{step_in, in_then}

-- files that agree up to a place agree up to an earlier one
front_of : (n at : ℕ) (some other : List ℕ) → n ≤ at → take at other ≡ take at some → take n other ≡ take n some
front_of n at some other le same = sym (take-take n at other le) ∙ ap (λ (l : List ℕ). take n l) same ∙ take-take n at some le

module _ {D : Type 0} (d : Ghosts D) (file : FileId) (old mid : D) (place size n : ℕ) (within : d.tells → n ≤ place) (synced : Only file (d.seen old) (d.may_leave old)) where
  -- a write after it
  pub first_front : LeavesOnly d old mid (Stepped (InFile file (Torn (place + 1) size)) (d.may_leave old)) → LeavesIn d file old mid (λ c. take n c ≡ take n (d.seen old file))
  first_front run = step_in d file old mid (λ c. take n c ≡ take n (d.seen old file)) (place + 1) size synced run
      (λ told c torn. let le = within told in front_of n (place + 1) (d.seen old file) c (omega arith) torn.before)

  kept : (content : List ℕ) → (d.tells → place + 1 ≤ length (d.seen old file)) → (d.tells → Holds (place + 1) content (d.seen old file) (d.seen mid file)) → d.tells → take n (d.seen mid file) ≡ take n (d.seen old file)
  kept content long holds told =
      let le = within told in
      let enough = long told in
      let is : length (take (place + 1) (d.seen old file)) ≡ place + 1 = length-take-le (place + 1) (d.seen old file) (omega arith) in
      ap (λ (l : List ℕ). take n l) (holds told ∙ append_assoc (take (place + 1) (d.seen old file)) content (drop (place + 1 + length content) (d.seen old file)))
      ∙ take-append-le n (take (place + 1) (d.seen old file)) (content ++ drop (place + 1 + length content) (d.seen old file)) (omega arith)
      ∙ take-take n (place + 1) (d.seen old file) (omega arith)

  -- and one over the gate itself
  pub second_front : (new : D) (content : List ℕ) → (d.tells → place + 1 ≤ length (d.seen old file)) → (d.tells → Holds (place + 1) content (d.seen old file) (d.seen mid file))
      → ChangesOnly d file old mid → Only file (d.seen mid) (d.may_leave mid) → LeavesIn d file old mid (λ c. take n c ≡ take n (d.seen old file))
      → LeavesOnly d mid new (Stepped (InFile file (Torn place 1)) (d.may_leave mid)) → LeavesIn d file old new (λ c. take n c ≡ take n (d.seen old file))
  second_front new content long holds changes mid_synced so_far run =
      in_then d file old mid new (λ c. take n c ≡ take n (d.seen old file)) (λ c. take n c ≡ take n (d.seen mid file)) (λ c. take n c ≡ take n (d.seen old file)) so_far changes
      (step_in d file mid new (λ c. take n c ≡ take n (d.seen mid file)) place 1 mid_synced run (λ told c torn. front_of n place (d.seen mid file) c (within told) torn.before))
      (λ told c p. p)
      (λ told c p. p ∙ kept content long holds told)
