-- What a stop leaves at each moment while a log of the third format is made.
use Rattle.std.proofs.Common.{◌≡◌, ◌≢◌, ◌⊎◌, inl, inr, ℕ, ◌≤◌, List, [], ◌∷◌, ◌++◌, length, slice_index, subst}
use Rattle.im_base_types.specs.declared.file_id.FileId.{FileId}
use Rattle.im_base_disk.specs.declared.disk.Disk.{Ghosts}
use Rattle.im_base_disk.specs.Disk.{Only, Stepped, InFile, Holds, Torn}
use Rattle.im_base_disk.specs.Runs.{LeavesOnly, LeavesIn, ChangesOnly}
use Rattle.im_base_disk.proofs.Runs.{step_in, in_then, in_weakened}
use Rattle.im_log_header.specs.Header.{IsUnmade}
use Rattle.im_log_header.proofs.Runs.{IsClosing}
use Rattle.im_log_third_header.specs.declared.header.ThirdHeader.{ThirdHeader}
use Rattle.im_log_third_header.specs.Header.{IsEmptyThird, IsBeingMade, third_header}
use Rattle.im_log_third_header.proofs.Stops.{torn_closed, torn_opening}

module _ {D : Type 0} (d : Ghosts D) (file : FileId) (old mid new : D) (h : ThirdHeader) where
  abbrev pub IsOpening : List ℕ → Type 0
  IsOpening c = IsUnmade c ⊎ IsEmptyThird h c

  -- the header after a closed byte 0
  pub header_run : (bytes : List ℕ) (begun : d.tells → 1 ≤ length (d.seen old file)) (closed : d.tells → slice_index (d.seen old file) 0 ≢ 1) → Only file (d.seen old) (d.may_leave old)
      → LeavesOnly d old mid (Stepped (InFile file (Torn 1 (length bytes))) (d.may_leave old)) → LeavesIn d file old mid IsOpening
  header_run bytes begun closed synced run =
      step_in d file old mid IsOpening 1 (length bytes) synced run (λ told c torn. inl (torn_closed h (d.seen old file) (begun told) (closed told) (length bytes) c torn))

  -- and then that byte
  pub open_run : (bytes : List ℕ) → bytes ≡ third_header h ++ 0 ∷ [] → (begun : d.tells → 1 ≤ length (d.seen old file)) (closed : d.tells → slice_index (d.seen old file) 0 ≢ 1) → Only file (d.seen old) (d.may_leave old)
      → LeavesOnly d old mid (Stepped (InFile file (Torn 1 (length bytes))) (d.may_leave old)) → (d.tells → Holds 1 bytes (d.seen old file) (d.seen mid file))
      → ChangesOnly d file old mid → Only file (d.seen mid) (d.may_leave mid) → LeavesOnly d mid new (Stepped (InFile file (Torn 0 1)) (d.may_leave mid)) → LeavesIn d file old new IsOpening
  open_run bytes is begun closed synced run written changes mid_synced second =
      in_then d file old mid new IsOpening IsOpening IsOpening
      (header_run bytes begun closed synced run)
      changes
      (step_in d file mid new IsOpening 0 1 mid_synced second
      (λ told c torn. torn_opening h (d.seen old file) (begun told) (closed told) (d.seen mid file) c (subst (λ (l : List ℕ). Holds 1 l (d.seen old file) (d.seen mid file)) is (written told)) torn))
      (λ told c p. p) (λ told c p. p)

  -- the two halves together
  closing_making : (o c : List ℕ) → IsClosing o c → IsBeingMade h o c
  closing_making o c (inl same) = inl same
  closing_making o c (inr unmade) = inr (inl unmade)

  opening_making : (o c : List ℕ) → IsOpening c → IsBeingMade h o c
  opening_making o c (inl unmade) = inr (inl unmade)
  opening_making o c (inr made) = inr (inr made)

  pub closed_run : LeavesIn d file old mid (IsClosing (d.seen old file)) → LeavesIn d file old mid (IsBeingMade h (d.seen old file))
  closed_run run = in_weakened d file old mid (IsClosing (d.seen old file)) (IsBeingMade h (d.seen old file)) run (λ told c p. closing_making (d.seen old file) c p)

  pub made_run : LeavesIn d file old mid (IsClosing (d.seen old file)) → ChangesOnly d file old mid → LeavesIn d file mid new IsOpening → LeavesIn d file old new (IsBeingMade h (d.seen old file))
  made_run first changes second =
      in_then d file old mid new (IsClosing (d.seen old file)) IsOpening (IsBeingMade h (d.seen old file)) first changes second
      (λ told c p. closing_making (d.seen old file) c p) (λ told c p. opening_making (d.seen old file) c p)
