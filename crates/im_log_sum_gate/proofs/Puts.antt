-- What is left within the calls of a put.
use Rattle.std.proofs.Common.{◌≡◌, ◌≢◌, ℕ, ◌+◌, ◌-◌, ◌<◌, ◌≤◌, List, [], ◌∷◌, ◌++◌, length, take, drop, get_or, slice_index, refl, sym, ◌∙◌, ap, subst, arith, append-nil, append_assoc}
use Rattle.std.proofs.lemmas.List.{drop-drop, get_or_at, length-take-le, take_all}
use Rattle.im_base_types.specs.declared.file_id.FileId.{FileId}
use Rattle.im_base_types.specs.declared.file_id.FileId.TheVariants.{Pages}
use Rattle.im_base_disk.specs.declared.disk.Disk.{Ghosts}
use Rattle.im_base_disk.specs.Disk.{Holds, InFile, Only, Shows, Stepped, Torn, Unforged, whole}
use Rattle.im_base_disk.specs.Runs.{LeavesOnly, LeavesIn, ChangesOnly}
use Rattle.im_base_disk.specs.Sums.{shows_in}
use Rattle.im_base_disk.proofs.Runs.{in_then, step_in, stepped_in}
use Rattle.im_base_disk.proofs.Stops.{torn_over}
use Rattle.im_log_one_sync.specs.Batches.{batches_from}
use Rattle.im_log_one_sync.proofs.Headers.{log_shows}
use Rattle.im_log_third_header.specs.declared.header.ThirdHeader.{ThirdHeader}
use Rattle.im_log_third_header.specs.Header.{HasHeader}
use Rattle.im_log_sum_gate.specs.Batches.{batches, fits, Ends, HasFront, IsClearTo, Lays, MayPut}
use Rattle.im_log_sum_gate.proofs.Laws.{begins, closing, kept, one_sync, two_syncs}
use Rattle.im_log_sum_gate.proofs.Wholes.{twice_whole}

-- all but the first byte
pub rest_of : (bytes : List ℕ) → take (length bytes - 1) (drop 1 bytes) ≡ drop 1 bytes
rest_of [] = refl
rest_of (x ∷ l) = take_all (length (x ∷ l) - 1) l (omega arith)

-- it has what it had
pub none_of_them : (h : ThirdHeader) (before bs : List (List ℕ)) (c : List ℕ) → HasHeader h c × (batches h c ≡ before) → HasFront h before bs c
none_of_them h before bs c is = record { header = is.0; count = 0; is = is.1 ∙ sym (append-nil before) }

-- a file with its gate closed
module _ (place : ℕ) (old shut : List ℕ) (within : place < length old) (is : shut ≡ whole place (0 ∷ []) old) where
  shut_torn : Torn place 1 old shut
  shut_torn = subst (λ (l : List ℕ). Torn place 1 old l) (sym is) (torn_over place (0 ∷ []) (0 ∷ []) old (omega (arith, within)) refl)

  shut_long : place < length shut
  shut_long = let t = shut_torn in let l = t.no_shorter in omega (arith, within, l)

  -- the same stands behind it
  whole_again : (bytes : List ℕ) → 1 ≤ length bytes → whole place bytes shut ≡ whole place bytes old
  whole_again bytes some =
      let n : ℕ = length bytes in
      let behind : drop (place + n) shut ≡ drop (place + n) old =
      ap (λ (k : ℕ). drop k shut) (let split : place + n ≡ place + 1 + (n - 1) = omega (arith, some) in split)
      ∙ sym (drop-drop (n - 1) (place + 1) shut)
      ∙ ap (drop (n - 1)) shut_torn.after
      ∙ drop-drop (n - 1) (place + 1) old
      ∙ ap (λ (k : ℕ). drop k old) (let joined : place + 1 + (n - 1) ≡ place + n = omega (arith, some) in joined) in
      ap (λ (l : List ℕ). l ++ bytes ++ drop (place + n) shut) shut_torn.before ∙ ap (λ (l : List ℕ). take place old ++ bytes ++ l) behind

-- so what is written then is what would have been written before
pub whole_after : (place : ℕ) (bytes old shut new : List ℕ) → place < length old → 1 ≤ length bytes → shut ≡ whole place (0 ∷ []) old → Holds place bytes shut new → Holds place bytes old new
whole_after place bytes old shut new within some is put = put ∙ whole_again place old shut within is bytes some

pub may_again : (h : ThirdHeader) (place : ℕ) (before bs : List (List ℕ)) (bytes old shut : List ℕ) → MayPut h place before bs bytes old → shut ≡ whole place (0 ∷ []) old → 1 ≤ length bytes → MayPut h place before bs bytes shut
may_again h place before bs bytes old shut may is some =
    let within = may.reaches.last.within in
    let torn = shut_torn place old shut within is in
    let long = shut_long place old shut within is in record {
      reaches = record {
        header = kept h place before old may.reaches shut torn.before long;
        past = may.reaches.past;
        last = record {
          within = long;
          front = λ rest more. ap (λ (l : List ℕ). batches_from (fits h.salt) 47 h.start.base (l ++ rest)) torn.before ∙ may.reaches.last.front rest more;
        };
      };
      some = may.some;
      opens = may.opens;
      lays = subst (λ (l : List ℕ). Lays h (place + length bytes) place bs l) (sym (whole_again place old shut within is bytes some)) may.lays;
    }

-- the gate is closed then
pub shut_now : (place : ℕ) (old new : List ℕ) → place < length old → new ≡ whole place (0 ∷ []) old → slice_index new place ≢ 1
shut_now place old new within is one =
    let zero_there : get_or new place 0 ≡ 0 =
    ap (λ (l : List ℕ). get_or l place 0) (is ∙ append_assoc (take place old) (0 ∷ []) (drop (place + 1) old))
    ∙ get_or_at (take place old) 0 (drop (place + 1) old) 0 place (length-take-le place old (omega (arith, within))) in
    omega (arith, zero_there, one)

-- and the file is as long as it was, or longer
pub shut_within : (place : ℕ) (old new : List ℕ) → place < length old → new ≡ whole place (0 ∷ []) old → place < length new
shut_within place old new within is =
    let torn = torn_over place (0 ∷ []) (0 ∷ []) old (omega (arith, within)) refl in
    let long = torn.no_shorter in
    omega (arith, within, ap (λ (l : List ℕ). length l) is, long)

module _ {D : Type 0} (d : Ghosts D) (file : FileId) (old : D) (place : ℕ) (h : ThirdHeader) (before bs : List (List ℕ)) (synced : Only file (d.seen old) (d.may_leave old)) where
  -- one write and one sync
  pub once : (new : D) (bytes : List ℕ) → file ≢ Pages → (d.tells → IsClearTo h (place + length bytes) place (d.seen old file)) → (d.tells → MayPut h place before bs bytes (d.seen old file))
      → LeavesOnly d old new (Stepped (InFile file (Unforged (shows_in file) place bytes)) (d.may_leave old)) → LeavesIn d file old new (HasFront h before bs)
  once new bytes log clear may run =
      stepped_in d file old new (HasFront h before bs) (Unforged (shows_in file) place bytes) synced run
      (λ told c left. one_sync h place before bs bytes (d.seen old file) c (may told) (clear told) (subst (λ (s : Shows). Unforged s place bytes (d.seen old file) c) (log_shows file log) left))

  -- the gate is closed
  pub closed : (new : D) → (d.tells → Ends h place before (d.seen old file)) → (d.tells → slice_index (d.seen old file) place ≡ 1)
      → LeavesOnly d old new (Stepped (InFile file (Torn place 1)) (d.may_leave old)) → LeavesIn d file old new (HasFront h before bs)
  closed new ends one run =
      step_in d file old new (HasFront h before bs) place 1 synced run (λ told c torn. none_of_them h before bs c (closing h place before (d.seen old file) c (ends told) (one told) torn))

  -- two of each: the first
  module _ (mid : D) (bytes : List ℕ) (may : d.tells → MayPut h place before bs bytes (d.seen old file)) (other : d.tells → slice_index (d.seen old file) place ≢ 1) where
    pub first_of_two : (n : ℕ) → LeavesOnly d old mid (Stepped (InFile file (Torn (place + 1) n)) (d.may_leave old)) → LeavesIn d file old mid (HasFront h before bs)
    first_of_two n run =
        step_in d file old mid (HasFront h before bs) (place + 1) n synced run
        (λ told c torn. let m = may told in none_of_them h before bs c (two_syncs.behind h place n before (d.seen old file) c m.reaches (other told) torn))

    -- and the second
    pub second_of_two : (new : D) (body : List ℕ) → body ≡ drop 1 bytes → (d.tells → Holds (place + 1) body (d.seen old file) (d.seen mid file)) → LeavesIn d file old mid (HasFront h before bs) → ChangesOnly d file old mid
        → Only file (d.seen mid) (d.may_leave mid) → LeavesOnly d mid new (Stepped (InFile file (Torn place 1)) (d.may_leave mid)) → LeavesIn d file old new (HasFront h before bs)
    second_of_two new body is holds so_far changes mid_synced run =
        in_then d file old mid new (HasFront h before bs) (HasFront h before bs) (HasFront h before bs) so_far changes
        (step_in d file mid new (HasFront h before bs) place 1 mid_synced run
        (λ told c torn. two_syncs.over h place before bs bytes (d.seen old file) (d.seen mid file) c (may told) (holds told ∙ ap (λ (l : List ℕ). whole (place + 1) l (d.seen old file)) is) torn))
        (λ told c p. p) (λ told c p. p)

-- by two writes all of it stands there
pub twice_there : (place : ℕ) (bytes body old mid new : List ℕ) → place < length old → slice_index bytes 0 ≡ 1 → body ≡ drop 1 bytes → Holds (place + 1) body old mid → Holds place (1 ∷ []) mid new → Holds place bytes old new
twice_there place bytes body old mid new within opens is first second =
    let all : bytes ≡ 1 ∷ drop 1 bytes = begins bytes opens in
    twice_whole place (drop 1 bytes) old within bytes mid new all (first ∙ ap (λ (l : List ℕ). whole (place + 1) l old) is) second

-- a put that comes after the gate was closed
pub closed_then : {D : Type 0} (d : Ghosts D) (file : FileId) (old mid new : D) (h : ThirdHeader) (before bs : List (List ℕ)) → LeavesIn d file old mid (HasFront h before bs) → ChangesOnly d file old mid
    → LeavesIn d file mid new (HasFront h before bs) → LeavesIn d file old new (HasFront h before bs)
closed_then d file old mid new h before bs first changes second =
    in_then d file old mid new (HasFront h before bs) (HasFront h before bs) (HasFront h before bs) first changes second (λ told c p. p) (λ told c p. p)
