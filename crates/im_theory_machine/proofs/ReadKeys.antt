-- The keys that a reply rests on, that the locks asked guard each, and that maps which agree there give the same reply.
use Rattle.std.proofs.Common.{subst, ◌≡◌, ℕ, zero, suc, Bool, true, false, cond, List, [], ◌∷◌, Option, Some, None, is_some, refl, ap, sym, ◌∙◌, inl, inr, ◌⊎◌}
use Rattle.std.specs.FinMap.{get}
use Rattle.im_base_types.specs.Keys.{Key}
use Rattle.im_base_types.specs.Maps.{IndexMap, is_below, Start, From, Above, first, last_below}
use Rattle.im_base_types.specs.Answers.{Access, Fetch, Seek, Next, Prev, Scan, Insert, Delete, Duplicate, Inserted, Deleted, Absent, Entries, found, entry, limit_of, answer, changes, dropped}
use Rattle.im_base_types.specs.Changes.{Put}
use Rattle.im_theory_machine.specs.Locks.{Name, At, Request, Lock, kept, Holds, Asks}
use Rattle.im_theory_machine.specs.Rows.{next_name, shared, asked, scan_row}
use Rattle.im_theory_machine.specs.declared.lock_kind.Mode.{Mode}
use Rattle.im_theory_machine.specs.declared.lock_kind.Mode.TheVariants.{Shared, Exclusive}
use Rattle.im_theory_machine.specs.declared.lock_kind.Duration.TheVariants.{Instant, ToCommit}
use Rattle.im_theory_machine.proofs.Search.{UpTo, IsBetween, first-same, last-same}
use Rattle.im_theory_machine.proofs.Scans.{within, scan_by, row_by, scan-steps, row-steps, scan-none}
use Rattle.im_theory_machine.proofs.Guards.{guard, guard-UpTo, guard-between, guard-there, guard-absent, there_or_next-guard}

abbrev pub IfFound : Option (Key × ℕ) → (Key × ℕ → Type 0) → Type 0
IfFound None P = ⊥
IfFound (Some e) P = P e

abbrev pub IfNot : Bool → Type 0 → Type 0
IfNot true P = ⊥
IfNot false P = P

unfoldable pub ScanReads : ℕ → Start → Key → IndexMap → Key → Type 0
ScanReads zero s hi m x = ⊥
ScanReads (suc n) s hi m x = UpTo s (first s m) x ⊎ IfFound (first s m) (λ e. IfNot (is_below hi e.0) (ScanReads n (Above e.0) hi m x))

-- the reply to the access on m rests on x
abbrev pub Reads : Access → IndexMap → Key → Type 0
Reads (Fetch k) m x = x ≡ k
Reads (Seek k) m x = UpTo (From k) (first (From k) m) x
Reads (Next k) m x = UpTo (Above k) (first (Above k) m) x
Reads (Prev k) m x = IsBetween (last_below k m) k x
Reads (Scan lo hi n) m x = IfNot (is_below hi lo) (ScanReads (limit_of n) (From lo) hi m x)
Reads (Insert k r) m x = x ≡ k
Reads (Delete k) m x = x ≡ k

abbrev pub AgreeOn : Access → IndexMap → IndexMap → Type 0
AgreeOn a m n = (x : Key) → Reads a m x → get n x ≡ get m x

-- ---- scans

abbrev AgreeOnScan : ℕ → Start → Key → IndexMap → IndexMap → Type 0
AgreeOnScan k s hi m n = (x : Key) → ScanReads k s hi m x → get n x ≡ get m x

same_first : (k : ℕ) (s : Start) (hi : Key) (m n : IndexMap) → AgreeOnScan (suc k) s hi m n → first s n ≡ first s m
unfolding ScanReads
same_first k s hi m n h = first-same s m n (λ x u. h x (inl u))

rest_of_scan : (k : ℕ) (s : Start) (hi : Key) (m n : IndexMap) → AgreeOnScan (suc k) s hi m n → (e : Key × ℕ) → first s m ≡ Some e → is_below hi e.0 ≡ false → AgreeOnScan k (Above e.0) hi m n
unfolding ScanReads
rest_of_scan k s hi m n h e is b x r = h x (inr (rw (is, b) r))

scan-agrees : (k : ℕ) (s : Start) (hi : Key) (m n : IndexMap) → AgreeOnScan k s hi m n → scan_by k s hi n ≡ scan_by k s hi m
unfolding scan_by
scan-agrees zero s hi m n h = refl
scan-agrees (suc k) s hi m n h =
    rw (same_first k s hi m n h) (go (first s m) refl (λ e. scan-agrees k (Above e.0) hi m n))
  where
    at : (e : Key × ℕ) → first s m ≡ Some e → (b : Bool) → is_below hi e.0 ≡ b → (AgreeOnScan k (Above e.0) hi m n → scan_by k (Above e.0) hi n ≡ scan_by k (Above e.0) hi m) → cond b [] (e ∷ scan_by k (Above e.0) hi n) ≡ cond b [] (e ∷ scan_by k (Above e.0) hi m)
    at e is true q ih = refl
    at e is false q ih = ap (λ es. e ∷ es) (ih (rest_of_scan k s hi m n h e is q))

    go : (o : Option (Key × ℕ)) → first s m ≡ o → ((e : Key × ℕ) → AgreeOnScan k (Above e.0) hi m n → scan_by k (Above e.0) hi n ≡ scan_by k (Above e.0) hi m) → within hi o (λ e. e ∷ scan_by k (Above e.0) hi n) ≡ within hi o (λ e. e ∷ scan_by k (Above e.0) hi m)
    go None is ih = refl
    go (Some e) is ih = at e is (is_below hi e.0) refl (ih e)

ScanReads-agrees : (k : ℕ) (s : Start) (hi : Key) (m n : IndexMap) → AgreeOnScan k s hi m n → (x : Key) → ScanReads k s hi n x → ScanReads k s hi m x
unfolding ScanReads
ScanReads-agrees zero s hi m n h x r = r
ScanReads-agrees (suc k) s hi m n h x r =
    let e = same_first k s hi m n h in
    elim (rw e at r) [
      | inl u ↦ inl u
      | inr t ↦ inr (go (first s m) refl (λ e. ScanReads-agrees k (Above e.0) hi m n) t)
    ]
  where
    at : (e : Key × ℕ) → first s m ≡ Some e → (b : Bool) → is_below hi e.0 ≡ b → (AgreeOnScan k (Above e.0) hi m n → (x : Key) → ScanReads k (Above e.0) hi n x → ScanReads k (Above e.0) hi m x) → IfNot b (ScanReads k (Above e.0) hi n x) → IfNot b (ScanReads k (Above e.0) hi m x)
    at e is true q ih t = t
    at e is false q ih t = ih (rest_of_scan k s hi m n h e is q) x t

    go : (o : Option (Key × ℕ)) → first s m ≡ o → ((e : Key × ℕ) → AgreeOnScan k (Above e.0) hi m n → (x : Key) → ScanReads k (Above e.0) hi n x → ScanReads k (Above e.0) hi m x) → IfFound o (λ e. IfNot (is_below hi e.0) (ScanReads k (Above e.0) hi n x)) → IfFound o (λ e. IfNot (is_below hi e.0) (ScanReads k (Above e.0) hi m x))
    go None is ih t = t
    go (Some e) is ih t = at e is (is_below hi e.0) refl (ih e) t

-- each key that a scan reads is guarded by a name that its row asks
row_by-guards : (k : ℕ) (s : Start) (hi : Key) (m : IndexMap) (x : Key) → ScanReads k s hi m x → Asks (row_by k s hi m) (guard m x) Shared
unfolding ScanReads row_by
row_by-guards zero s hi m x r = r
row_by-guards (suc k) s hi m x r =
    elim r [
      | inl u ↦ inl (sym (guard-UpTo s m x u), refl)
      | inr t ↦ inr (go (first s m) (λ e. row_by-guards k (Above e.0) hi m x) t)
    ]
  where
    at : (e : Key × ℕ) (b : Bool) → (ScanReads k (Above e.0) hi m x → Asks (row_by k (Above e.0) hi m) (guard m x) Shared) → IfNot b (ScanReads k (Above e.0) hi m x) → Asks (cond b [] (row_by k (Above e.0) hi m)) (guard m x) Shared
    at e true ih t = t
    at e false ih t = ih t

    go : (o : Option (Key × ℕ)) → ((e : Key × ℕ) → ScanReads k (Above e.0) hi m x → Asks (row_by k (Above e.0) hi m) (guard m x) Shared) → IfFound o (λ e. IfNot (is_below hi e.0) (ScanReads k (Above e.0) hi m x)) → Asks (within hi o (λ e. row_by k (Above e.0) hi m)) (guard m x) Shared
    go None ih t = t
    go (Some e) ih t = at e (is_below hi e.0) (ih e) t

-- a scan's row stays to commit
pub row_by-kept : (k : ℕ) (s : Start) (hi : Key) (m : IndexMap) (ls : List Lock) (n : Name) (md : Mode) → Asks (row_by k s hi m) n md → Holds (kept (row_by k s hi m) ls) n md
unfolding row_by
row_by-kept zero s hi m ls n md h = absurd h
row_by-kept (suc k) s hi m ls n md h =
    elim h [
      | inl p ↦ inl p
      | inr t ↦ inr (go (first s m) (λ e. row_by-kept k (Above e.0) hi m ls n md) t)
    ]
  where
    at : (e : Key × ℕ) (b : Bool) → (Asks (row_by k (Above e.0) hi m) n md → Holds (kept (row_by k (Above e.0) hi m) ls) n md) → Asks (cond b [] (row_by k (Above e.0) hi m)) n md → Holds (kept (cond b [] (row_by k (Above e.0) hi m)) ls) n md
    at e true ih t = absurd t
    at e false ih t = ih t

    go : (o : Option (Key × ℕ)) → ((e : Key × ℕ) → Asks (row_by k (Above e.0) hi m) n md → Holds (kept (row_by k (Above e.0) hi m) ls) n md) → Asks (within hi o (λ e. row_by k (Above e.0) hi m)) n md → Holds (kept (within hi o (λ e. row_by k (Above e.0) hi m)) ls) n md
    go None ih t = absurd t
    go (Some e) ih t = at e (is_below hi e.0) (ih e) t

-- ---- any access

-- maps that agree on what was read give the same reply
pub reply-agrees : (a : Access) (m n : IndexMap) → AgreeOn a m n → answer a n ≡ answer a m
reply-agrees (Fetch k) m n h = ap found (h k refl)
reply-agrees (Seek k) m n h = ap entry (first-same (From k) m n h)
reply-agrees (Next k) m n h = ap entry (first-same (Above k) m n h)
reply-agrees (Prev k) m n h = ap entry (last-same k m n h)
reply-agrees (Scan lo hi l) m n h = ap Entries (scan-steps lo hi (limit_of l) n ∙ (go (is_below hi lo) refl h ∙ sym (scan-steps lo hi (limit_of l) m)))
  where
    go : (b : Bool) → is_below hi lo ≡ b → ((x : Key) → IfNot b (ScanReads (limit_of l) (From lo) hi m x) → get n x ≡ get m x) → scan_by (limit_of l) (From lo) hi n ≡ scan_by (limit_of l) (From lo) hi m
    go true e g = scan-none lo hi (limit_of l) n e ∙ sym (scan-none lo hi (limit_of l) m e)
    go false e g = scan-agrees (limit_of l) (From lo) hi m n g
reply-agrees (Insert k r) m n h = ap (λ o. cond (is_some o) Duplicate Inserted) (h k refl)
reply-agrees (Delete k) m n h = ap (λ o. cond (is_some o) Deleted Absent) (h k refl)

-- and the same change
pub changes-agrees : (a : Access) (m n : IndexMap) → AgreeOn a m n → changes a n ≡ changes a m
changes-agrees (Fetch k) m n h = refl
changes-agrees (Seek k) m n h = refl
changes-agrees (Next k) m n h = refl
changes-agrees (Prev k) m n h = refl
changes-agrees (Scan lo hi l) m n h = refl
changes-agrees (Insert k r) m n h = ap (λ o. cond (is_some o) [] (Put k r ∷ [])) (h k refl)
changes-agrees (Delete k) m n h = ap (dropped k) (h k refl)

-- and rest on the same keys
pub Reads-agrees : (a : Access) (m n : IndexMap) → AgreeOn a m n → (x : Key) → Reads a n x → Reads a m x
Reads-agrees (Fetch k) m n h x r = r
Reads-agrees (Seek k) m n h x r = rw (first-same (From k) m n h) at r
Reads-agrees (Next k) m n h x r = rw (first-same (Above k) m n h) at r
Reads-agrees (Prev k) m n h x r = rw (last-same k m n h) at r
Reads-agrees (Scan lo hi l) m n h x r = go (is_below hi lo) h r
  where
    go : (b : Bool) → ((x : Key) → IfNot b (ScanReads (limit_of l) (From lo) hi m x) → get n x ≡ get m x) → IfNot b (ScanReads (limit_of l) (From lo) hi n x) → IfNot b (ScanReads (limit_of l) (From lo) hi m x)
    go true g t = t
    go false g t = ScanReads-agrees (limit_of l) (From lo) hi m n g x t
Reads-agrees (Insert k r) m n h x q = q
Reads-agrees (Delete k) m n h x r = r

-- each key that is read is guarded by a name that is asked
pub asked-guards : (a : Access) (m : IndexMap) (x : Key) → Reads a m x → (md : Mode) × Asks (asked a m) (guard m x) md
asked-guards (Fetch k) m x e = (Shared, inl (there_or_next-guard m k ∙ ap (guard m) (sym e), refl))
asked-guards (Seek k) m x u = (Shared, inl (sym (guard-UpTo (From k) m x u), refl))
asked-guards (Next k) m x u = (Shared, inl (sym (guard-UpTo (Above k) m x u), refl))
asked-guards (Prev k) m x u = (Shared, guard-between k m x u)
asked-guards (Scan lo hi l) m x r = (Shared, go (is_below hi lo) refl r)
  where
    go : (b : Bool) → is_below hi lo ≡ b → IfNot b (ScanReads (limit_of l) (From lo) hi m x) → Asks (cond b [] (scan_row lo hi (limit_of l) m)) (guard m x) Shared
    go true e t = t
    go false e t = subst (λ (qs : List Request). Asks qs (guard m x) Shared) (sym (row-steps lo hi (limit_of l) m e)) (row_by-guards (limit_of l) (From lo) hi m x t)
asked-guards (Insert k r) m x e = go (get m k) refl
  where
    row : Option ℕ → List Request
    row o = cond (is_some o) (shared (At k) ∷ []) (record { name = next_name m k; mode = Exclusive; duration = Instant } ∷ record { name = At k; mode = Exclusive; duration = ToCommit } ∷ [])

    go : (o : Option ℕ) → get m k ≡ o → (md : Mode) × Asks (row o) (guard m x) md
    go None q = (Exclusive, inl (sym (guard-absent m k q) ∙ ap (guard m) (sym e), refl))
    go (Some v) q = (Shared, inl (sym (guard-there m k v q) ∙ ap (guard m) (sym e), refl))
asked-guards (Delete k) m x e = go (get m k) refl
  where
    row : Option ℕ → List Request
    row o = cond (is_some o) (record { name = next_name m k; mode = Exclusive; duration = ToCommit } ∷ record { name = At k; mode = Exclusive; duration = Instant } ∷ []) (shared (next_name m k) ∷ [])

    go : (o : Option ℕ) → get m k ≡ o → (md : Mode) × Asks (row o) (guard m x) md
    go None q = (Shared, inl (sym (guard-absent m k q) ∙ ap (guard m) (sym e), refl))
    go (Some v) q = (Exclusive, inr (inl (sym (guard-there m k v q) ∙ ap (guard m) (sym e), refl)))
