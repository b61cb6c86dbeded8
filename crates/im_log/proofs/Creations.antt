-- Openings that make a log, and stops within them.
use Rattle.std.proofs.Common.{◌≡◌, ◌≢◌, inl, inr, ⊎_elim, ℕ, ◌≤◌, List, [], length, slice_index, Some, Result, Ok, Err, IfOk, IfErr, refl, sym, ◌∙◌, subst, arith}
use Rattle.std.specs.Prelude.{IsErrAnd}
use Rattle.im_base_types.specs.declared.fault.Fault.{Fault}
use Rattle.im_base_types.specs.declared.fault.Fault.TheVariants.{NotAStore}
use Rattle.im_base_types.specs.declared.file_id.FileId.TheVariants.{Log, Pages}
use Rattle.im_base_types.specs.Records.{Logged}
use Rattle.im_base_disk.specs.declared.disk.Disk.{Ghosts}
use Rattle.im_base_disk.specs.Disk.{Files, Only, Stepped, InFile}
use Rattle.im_base_disk.specs.Runs.{LeavesIn, Reads}
use Rattle.im_base_disk.proofs.Runs.{in_started, in_then, reads_on, changes_reads}
use Rattle.im_log_gate.specs.Batches.{batches}
use Rattle.im_log_gate.specs.Header.{base_of, first_gate, IsMade, IsUnmade, IsBlank}
use Rattle.im_log_gate.proofs.Starts.{blank_starts, gate_behind, starts_low}
use Rattle.im_log.specs.declared.log_file.LogFile.{LogFile}
use Rattle.im_log.specs.Kept.{HasLog, IsLogOf, IsStore}
use Rattle.im_log.specs.LogFile.{IsLog}
use Rattle.im_log.proofs.Spells.{log_is}

-- a made file is not unmade
pub not_both : (bytes : List ℕ) → IsMade bytes → IsUnmade bytes → ⊥
not_both bytes made unmade = ⊎_elim (λ (short : length bytes ≤ 1). let h : ⊥ = omega (arith, short, made.within, gate_behind bytes) in h) (λ (other : slice_index bytes 0 ≢ 1). other made.made) unmade

pub made_has : (base : ℕ) (all : List Logged) (bytes : List ℕ) → IsMade bytes → IsLogOf base all bytes → HasLog base all bytes
made_has base all bytes made (inl unmade) = absurd (not_both bytes made unmade.0)
made_has base all bytes made (inr has) = has

pub unmade_none : (base : ℕ) (all : List Logged) (bytes : List ℕ) → IsUnmade bytes → IsLogOf base all bytes → all ≡ []
unmade_none base all bytes unmade (inl none) = none.1
unmade_none base all bytes unmade (inr has) = absurd (not_both bytes has.made unmade)

pub unmade_starts : (base : ℕ) (all : List Logged) (bytes : List ℕ) → IsUnmade bytes → IsLogOf base all bytes → base_of bytes ≡ base
unmade_starts base all bytes unmade (inl none) = none.2
unmade_starts base all bytes unmade (inr has) = absurd (not_both bytes has.made unmade)

-- a file with no batch has the empty list
pub blank_has : (base : ℕ) (bytes : List ℕ) → IsMade bytes → base_of bytes ≡ base → batches (first_gate bytes) bytes ≡ Some [] → HasLog base [] bytes
blank_has base bytes made low none = record { made = made; starts = low; spells = log_is base bytes [] [] none (omega (arith, low, starts_low bytes made)) refl }

pub blank_is : (base : ℕ) (all : List Logged) (bytes : List ℕ) → all ≡ [] → base_of bytes ≡ base → IsBlank bytes → IsLogOf base all bytes
blank_is base all bytes none low (inl unmade) = inl (unmade, none, low)
blank_is base all bytes none low (inr made) = inr (subst (λ (l : List Logged). HasLog base l bytes) (sym none) (blank_has base bytes made.0 low made.1))

-- the bytes are a store's
pub is_store : (base : ℕ) (all : List Logged) (log pages : List ℕ) → IsLogOf base all log → (IsUnmade log → length pages ≡ 0) → ¬ (IsMade log) → ¬ (IsUnmade log × (length pages ≡ 0)) → ⊥
is_store base all log pages (inl none) empty not_made not_unmade = not_unmade (none.0, empty none.0)
is_store base all log pages (inr has) empty not_made not_unmade = not_made has.made

module _ {D : Type 0} (d : Ghosts D) (base : ℕ) (all : List Logged) (old mid : D) where
  -- a stop within reading leaves what stood there
  pub reads_stops : ((c : Files) → d.left_since old (d.moment old) c → d.may_leave old c) → Only Log (d.seen old) (d.may_leave old) → IsLogOf base all (d.seen old Log) → Reads d old mid → LeavesIn d Log old mid (IsLogOf base all)
  reads_stops only_now synced is reads =
      reads_on d old old mid (Stepped (InFile Log (λ _ bytes. IsLogOf base all bytes)) (d.may_leave old))
      (in_started d Log old (IsLogOf base all) only_now synced (λ told. is)) reads

-- and one within a creation after it a blank file
pub creation_stops : {D : Type 0} (d : Ghosts D) (base : ℕ) (all : List Logged) (old mid new : D) → LeavesIn d Log old mid (IsLogOf base all) → Reads d old mid → all ≡ [] → IsUnmade (d.seen old Log) → base_of (d.seen old Log) ≡ base
    → LeavesIn d Log mid new IsBlank → LeavesIn d Log old new (IsLogOf base all)
creation_stops d base all old mid new first reads none unmade low run =
    in_then d Log old mid new (IsLogOf base all) IsBlank (IsLogOf base all) first (changes_reads d Log old mid reads) run (λ told c p. p)
    (λ told c p. blank_is base all c none ((blank_starts (d.seen old Log) c unmade p).base ∙ low) p)

-- a log that was made before is opened as the bytes spell it
pub store_opened : {D : Type 0} (d : Ghosts D) (old mid new : D) (result : Result LogFile Fault) → (d.tells → IsMade (d.seen old Log)) → d.seen mid ≡ d.seen old
    → IfOk result (λ log. d.tells → IsMade (d.seen mid Log) → (all : List Logged) × HasLog (base_of (d.seen mid Log)) all (d.seen mid Log) × IsLog d (base_of (d.seen mid Log)) all all log new)
    → IfOk result (λ log. d.tells → (store : IsStore (d.seen old)) × IsLog d (base_of (d.seen old Log)) store.all store.all log new)
store_opened d old mid new (Err e) made seen spelled = tt
store_opened d old mid new (Ok log) made seen spelled = λ told.
    let here = spelled told (subst (λ (s : Files). IsMade (s Log)) (sym seen) (made told)) in
    let has = subst (λ (s : Files). HasLog (base_of (s Log)) here.0 (s Log)) seen here.1 in
    let log_is_so = subst (λ (s : Files). IsLog d (base_of (s Log)) here.0 here.0 log new) seen here.2 in
    (record { all = here.0; spelled = inr has; bare = λ unmade. absurd (not_both (d.seen old Log) (made told) unmade) }, log_is_so)

-- and one that is made now has no records
pub store_made : {D : Type 0} (d : Ghosts D) (old new : D) (result : Result LogFile Fault) → (d.tells → IsUnmade (d.seen old Log) × (length (d.seen old Pages) ≡ 0))
    → (d.tells → IsLogOf (base_of (d.seen old Log)) [] (d.seen old Log) → (IsUnmade (d.seen old Log) → length (d.seen old Pages) ≡ 0) → IfOk result (λ log. IsLog d (base_of (d.seen old Log)) [] [] log new))
    → IfOk result (λ log. d.tells → (store : IsStore (d.seen old)) × IsLog d (base_of (d.seen old Log)) store.all store.all log new)
store_made d old new (Err e) fresh log = tt
store_made d old new (Ok log) fresh opened = λ told.
    let f = fresh told in
    let none : IsLogOf (base_of (d.seen old Log)) [] (d.seen old Log) = inl (f.0, refl, refl) in
    (record { all = []; spelled = none; bare = λ unmade. f.1 }, opened told none (λ unmade. f.1))

-- a refusal that a call hands on
pub refused_otherwise : {T : Type 0} (result : Result T Fault) (e : Fault) → IsErrAnd result (λ x. x ≡ e) → (e ≡ NotAStore → ⊥) → IfErr result (λ x. x ≢ NotAStore)
refused_otherwise (Ok x) e is never = tt
refused_otherwise (Err x) e is never = λ same. never (sym is ∙ same)

pub not_refused_so : {T : Type 0} (result : Result T Fault) → IfErr result (λ e. e ≢ NotAStore) → result ≡ Err NotAStore → ⊥
not_refused_so (Ok x) never is = let clash : Ok x ≡ Err NotAStore = is in cc clash
not_refused_so (Err e) never is = never cc
