-- What a put leaves, from what its two writes leave.
use Rattle.std.proofs.Common.{◌≡◌, ◌≢◌, inl, inr, ⊎_elim, ℕ, false, ◌+◌, ◌≤◌, List, [], ◌∷◌, ◌++◌, length, take, drop, get_or, Option, refl, sym, ◌∙◌, ap, subst, arith, take-append-drop, take-take, length-take-le}
use Rattle.std.proofs.lemmas.List.Elements.{All-cons, All-nil}
use Rattle.im_base_types.specs.declared.file_id.FileId.{FileId}
use Rattle.im_base_disk.specs.declared.disk.Disk.{Ghosts}
use Rattle.im_base_disk.specs.Disk.{Only, Stepped, InFile, Holds, Torn}
use Rattle.im_base_disk.specs.Runs.{LeavesOnly, LeavesIn, ChangesOnly}
use Rattle.im_base_disk.proofs.Runs.{step_in, in_then, in_weakened}
use Rattle.im_log_gate.specs.declared.gate.Gate.{Gate}
use Rattle.im_log_gate.specs.Batches.{batches, HasPut, IsBeforeOrWith, IsBeforeOrWithAll, spelled, size_of, Reaches, Fits, IsLaid, Lays}
use Rattle.im_log_gate.specs.Gate.{file_of, first_of, place_of, IsReady}
use Rattle.im_log_gate.proofs.Several.{torn_behind, torn_gate, written_behind, written_gate, staged, adds, moves, next_closed, laid_one, laid_long, with_one}

-- one batch is laid out in the room, whatever the room has after it
pub lays_one : (records room : List ℕ) (size : ℕ) → 1 ≤ length records → length records ≤ 16384 → length records + 5 ≤ size → take (length records + 5) room ≡ spelled records → Lays (records ∷ []) (take size room)
lays_one records room size some most le is = record {
  some = omega arith;
  fit = All-cons Fits records [] (record { some = some; most = most }) (All-nil Fits);
  rest = drop (length records + 5) (take size room);
  is =
      sym (take-append-drop (length records + 5) (take size room))
      ∙ ap (λ (l : List ℕ). l ++ drop (length records + 5) (take size room)) (take-take (length records + 5) size room le ∙ is ∙ sym (laid_one records));
}

-- several are, after a clearing of what comes after them
pub lays_all : (bs : List (List ℕ)) (room cleared : List ℕ) (used size : ℕ) → IsLaid bs (take used room) → take used cleared ≡ take used room → used ≤ size → Lays bs (take size cleared)
lays_all bs room cleared used size l same le = record {
  some = l.some;
  fit = l.fit;
  rest = drop used (take size cleared);
  is =
      sym (take-append-drop used (take size cleared))
      ∙ ap (λ (k : List ℕ). k ++ drop used (take size cleared)) (take-take used size cleared le ∙ same ∙ l.is);
}

pub used_is : (bs : List (List ℕ)) (room : List ℕ) (used : ℕ) → used ≤ length room → IsLaid bs (take used room) → size_of bs ≡ used
used_is bs room used le l = omega (arith, laid_long bs l.some, ap length l.is, length-take-le used room le)

-- with one batch or without it
pub one_of : (first : ℕ) (last : List ℕ) (before : Option (List (List ℕ))) (file : List ℕ) → IsBeforeOrWithAll first (last ∷ []) before file → IsBeforeOrWith first last before file
one_of first last before file either = ⊎_elim (λ was. inl was) (λ put. inr (put ∙ with_one last before)) either

pub leaves_one : {D : Type 0} (d : Ghosts D) (file : FileId) (old new : D) (first : ℕ) (last : List ℕ) (before : Option (List (List ℕ))) → LeavesIn d file old new (IsBeforeOrWithAll first (last ∷ []) before) → LeavesIn d file old new (IsBeforeOrWith first last before)
leaves_one d file old new first last before run = in_weakened d file old new (IsBeforeOrWithAll first (last ∷ []) before) (IsBeforeOrWith first last before) run (λ told c p. one_of first last before c p)

module _ {D : Type 0} (d : Ghosts D) (file : FileId) (first : ℕ) (old mid : D) (place : ℕ) (bs : List (List ℕ)) (content : List ℕ) (l : Lays bs content)
    (reaches : d.tells → Reaches first (d.seen old file) place) (closed : d.tells → get_or (d.seen old file) place 0 ≢ 1) (synced : Only file (d.seen old) (d.may_leave old)) where
  abbrev pub P : List ℕ → Type 0
  P = IsBeforeOrWithAll first bs (batches first (d.seen old file))

  -- the first write leaves the batches as they were
  pub first_put : LeavesOnly d old mid (Stepped (InFile file (Torn (place + 1) (length content))) (d.may_leave old)) → LeavesIn d file old mid P
  first_put run = step_in d file old mid P (place + 1) (length content) synced run (λ told c torn. inl (torn_behind first (d.seen old file) place (reaches told) (closed told) (length content) c torn))

  module _ (new : D) (first_holds : d.tells → Holds (place + 1) content (d.seen old file) (d.seen mid file)) where
    is_staged : (told : d.tells) → d.seen mid file ≡ staged first (d.seen old file) place (reaches told) (closed told) bs content l (get_or (d.seen old file) place 0)
    is_staged told = written_behind first (d.seen old file) place (reaches told) (closed told) bs content l (d.seen mid file) (first_holds told)

    -- the second leaves them with the new ones or without
    pub second_put : ChangesOnly d file old mid → Only file (d.seen mid) (d.may_leave mid) → LeavesIn d file old mid P → LeavesOnly d mid new (Stepped (InFile file (Torn place 1)) (d.may_leave mid)) → LeavesIn d file old new P
    second_put changes mid_synced so_far run =
        in_then d file old mid new P P P so_far changes
        (step_in d file mid new P place 1 mid_synced run
        (λ told c torn. torn_gate first (d.seen old file) place (reaches told) (closed told) bs content l (get_or (d.seen old file) place 0) c (subst (λ (k : List ℕ). Torn place 1 k c) (is_staged told) torn)))
        (λ told c p. p) (λ told c p. p)

    module _ (second_holds : d.tells → Holds place (1 ∷ []) (d.seen mid file) (d.seen new file)) where
      is_put : (told : d.tells) → d.seen new file ≡ staged first (d.seen old file) place (reaches told) (closed told) bs content l 1
      is_put told =
          written_gate first (d.seen old file) place (reaches told) (closed told) bs content l (get_or (d.seen old file) place 0) (d.seen new file)
          (subst (λ (k : List ℕ). Holds place (1 ∷ []) k (d.seen new file)) (is_staged told) (second_holds told))

      -- they stand after the gate
      pub has_put : d.tells → HasPut first bs place (d.seen old file) (d.seen new file)
      has_put told = record {
        added = ap (batches first) (is_put told) ∙ adds first (d.seen old file) place (reaches told) (closed told) bs content l;
        reaches = subst (λ (k : List ℕ). Reaches first k (place + size_of bs)) (sym (is_put told)) (moves first (d.seen old file) place (reaches told) (closed told) bs content l (place + size_of bs) refl);
        closed = subst (λ (k : List ℕ). get_or k (place + size_of bs) 0 ≢ 1) (sym (is_put told)) (next_closed first (d.seen old file) place (reaches told) (closed told) bs content l (place + size_of bs) refl);
      }

-- the gate after batches that were put
pub ready_behind : {D : Type 0} (d : Ghosts D) (gate : Gate) (disk : D) (first place : ℕ) (bs : List (List ℕ)) (was : List ℕ) → first_of gate ≡ first → place_of gate ≡ place + size_of bs → d.failed disk ≡ false
    → (d.tells → HasPut first bs place was (d.seen disk (file_of gate))) → Only (file_of gate) (d.seen disk) (d.may_leave disk) → IsReady d gate disk
ready_behind d gate disk first place bs was at moved works put durable = record {
  reading = record {
    working = λ usable. works;
    reaches = λ usable told.
        subst (λ (n : ℕ). Reaches n (d.seen disk (file_of gate)) (place_of gate)) (sym at)
        (subst (λ (k : ℕ). Reaches first (d.seen disk (file_of gate)) k) (sym moved) (put told).reaches);
    durable = λ usable. durable;
  };
  closed = λ usable told. subst (λ (k : ℕ). get_or (d.seen disk (file_of gate)) k 0 ≢ 1) (sym moved) (put told).closed;
}
