-- How a run of calls goes on.
use Rattle.std.proofs.Common.{◌≢◌, inl, inr, ⊎_elim, ℕ, List, length, refl, sym, ◌∙◌, ap, subst, arith}
use Rattle.im_base_types.specs.declared.file_id.FileId.{FileId}
use Rattle.im_base_disk.specs.declared.disk.Disk.{Ghosts}
use Rattle.im_base_disk.specs.Disk.{Files, Only, Elapses, InFile, Torn, Shows, Unforged, Follows, Stepped}
use Rattle.im_base_disk.specs.Runs.{LeavesOnly, LeavesIn, ChangesOnly, Spares, Reads}
use Rattle.im_base_disk.specs.Ends.{WritesIn}

module _ {D : Type 0} (d : Ghosts D) where
  -- before the first call
  pub started : (old : D) (P : Files → Type 0) → (d.tells → (c : Files) → d.left_since old (d.moment old) c → P c) → LeavesOnly d old old P
  started old P here = record { later = omega arith; each = here; before = λ told t c le left. inl left }

  -- one call more, after which a stop leaves what has P
  pub goes_on : (old mid new : D) (P may_leave : Files → Type 0) → LeavesOnly d old mid P
      → Elapses (d.moment mid) (d.moment new) (d.left_since mid) (d.left_since new) may_leave
      → (d.tells → (c : Files) → may_leave c → P c) → LeavesOnly d old new P
  goes_on old mid new P may_leave so_far time here = record {
    later = omega (arith, so_far.later, time.later);
    each = λ told c left. ⊎_elim (so_far.each told c) (here told c) (time.nothing_else (d.moment old) c so_far.later left);
    before = λ told t c le left. ⊎_elim (so_far.before told t c le) (λ now. inr (here told c now)) (time.nothing_else t c (omega (arith, le, so_far.later)) left);
  }

  -- a weaker fact
  pub weakened : (old new : D) (P Q : Files → Type 0) → LeavesOnly d old new P → (d.tells → (c : Files) → P c → Q c) → LeavesOnly d old new Q
  weakened old new P Q run within = record {
    later = run.later;
    each = λ told c left. within told c (run.each told c left);
    before = λ told t c le left. ⊎_elim (λ past. inl past) (λ now. inr (within told c now)) (run.before told t c le left);
  }

  -- one run after another
  pub then_on : (old mid new : D) (P Q : Files → Type 0) → LeavesOnly d old mid P → LeavesOnly d mid new Q → (d.tells → (c : Files) → Q c → P c) → LeavesOnly d old new P
  then_on old mid new P Q first second within = record {
    later = omega (arith, first.later, second.later);
    each = λ told c left. ⊎_elim (first.each told c) (within told c) (second.before told (d.moment old) c first.later left);
    before = λ told t c le left. ⊎_elim (first.before told t c le) (λ now. inr (within told c now)) (second.before told t c (omega (arith, le, first.later)) left);
  }

  pub reads_none : (old : D) → Reads d old old
  reads_none old = record { seen = refl; outcomes = λ c left. left; no_fewer = λ c left. left; later = omega arith; since = λ t c le left. left; keeps = λ t c le left. left; writes = refl; syncs = refl }

  pub reads_then : (old mid new : D) → Reads d old mid → Reads d mid new → Reads d old new
  reads_then old mid new first second = record {
    seen = second.seen ∙ first.seen;
    outcomes = λ c left. first.outcomes c (second.outcomes c left);
    no_fewer = λ c left. second.no_fewer c (first.no_fewer c left);
    later = omega (arith, first.later, second.later);
    since = λ t c le left. first.since t c le (second.since t c (omega (arith, le, first.later)) left);
    keeps = λ t c le left. second.keeps t c (omega (arith, le, first.later)) (first.keeps t c le left);
    writes = second.writes ∙ first.writes;
    syncs = second.syncs ∙ first.syncs;
  }

  -- reads after a run, and reads alone
  pub reads_on : (old mid new : D) (P : Files → Type 0) → LeavesOnly d old mid P → Reads d mid new → LeavesOnly d old new P
  reads_on old mid new P so_far reads = record {
    later = omega (arith, so_far.later, reads.later);
    each = λ told c left. so_far.each told c (reads.since (d.moment old) c so_far.later left);
    before = λ told t c le left. so_far.before told t c le (reads.since t c (omega (arith, le, so_far.later)) left);
  }

  pub spares_reads : (file : FileId) (old new : D) → Reads d old new → Spares d file old new
  spares_reads file old new reads = record { seen = ap (λ (s : Files). s file) reads.seen; outcomes = λ c left. (c, reads.outcomes c left, refl) }

  pub spares_then : (file : FileId) (old mid new : D) → Spares d file old mid → Spares d file mid new → Spares d file old new
  spares_then file old mid new first second = record {
    seen = second.seen ∙ first.seen;
    outcomes = λ c left. let e = second.outcomes c left in let f = first.outcomes e.0 e.1 in (f.0, f.1, e.2 ∙ f.2);
  }

  -- a first write
  pub written : (old new : D) (step : Files → Files → Type 0) → ((c : Files) → step c c) → ((c : Files) → d.left_since old (d.moment old) c → d.may_leave old c)
      → Follows step (d.may_leave old) (d.may_leave new) → Elapses (d.moment old) (d.moment new) (d.left_since old) (d.left_since new) (d.may_leave new)
      → LeavesOnly d old new (Stepped step (d.may_leave old))
  written old new step none only_now crash time =
      goes_on old old new (Stepped step (d.may_leave old)) (d.may_leave new) (started old (Stepped step (d.may_leave old)) (λ told c left. (c, only_now c left, none c))) time (λ told c now. crash c now)

  -- a first write to a file, and the sync after it
  pub wrote : (file : FileId) (step : List ℕ → List ℕ → Type 0) (old new : D) → ((l : List ℕ) → step l l) → ((c : Files) → d.left_since old (d.moment old) c → d.may_leave old c)
      → Follows (InFile file step) (d.may_leave old) (d.may_leave new) → Elapses (d.moment old) (d.moment new) (d.left_since old) (d.left_since new) (d.may_leave new)
      → ChangesOnly d file old new → WritesIn d file step old new
  wrote file step old new none only_now crash time changes = record {
    crash = crash;
    changes = changes;
    any_moment = written old new (InFile file step) (λ c. record { changed = none (c file); others = λ other ne. refl }) only_now crash time;
  }

  pub wrote_synced : (file : FileId) (step : List ℕ → List ℕ → Type 0) (old mid new : D) → WritesIn d file step old mid → ((c : Files) → d.may_leave new c → d.may_leave mid c)
      → Elapses (d.moment mid) (d.moment new) (d.left_since mid) (d.left_since new) (d.may_leave new) → ChangesOnly d file old new → WritesIn d file step old new
  wrote_synced file step old mid new first outcomes time changes = record {
    crash = λ c left. first.crash c (outcomes c left);
    changes = changes;
    any_moment = goes_on old mid new (Stepped (InFile file step) (d.may_leave old)) (d.may_leave new) first.any_moment time (λ told c now. first.crash c (outcomes c now));
  }

  -- Of one file that is all on the disk: a first step in it.
  pub stepped_in : (file : FileId) (old mid : D) (P : List ℕ → Type 0) (step : List ℕ → List ℕ → Type 0) → Only file (d.seen old) (d.may_leave old)
      → LeavesOnly d old mid (Stepped (InFile file step) (d.may_leave old)) → (d.tells → (c : List ℕ) → step (d.seen old file) c → P c) → LeavesIn d file old mid P
  stepped_in file old mid P step synced run leaves =
      weakened old mid (Stepped (InFile file step) (d.may_leave old)) (Stepped (InFile file (λ _ bytes. P bytes)) (d.may_leave old)) run
      (λ told c left. (left.0, left.1, record { changed = leaves told (c file) (subst (λ (l : List ℕ). step l (c file)) (synced left.0 left.1) left.2.changed); others = left.2.others }))

  -- a first write to it, and one that comes later
  pub step_in : (file : FileId) (old mid : D) (P : List ℕ → Type 0) (at n : ℕ) → Only file (d.seen old) (d.may_leave old)
      → LeavesOnly d old mid (Stepped (InFile file (Torn at n)) (d.may_leave old)) → (d.tells → (c : List ℕ) → Torn at n (d.seen old file) c → P c) → LeavesIn d file old mid P
  step_in file old mid P at n synced run leaves = stepped_in file old mid P (Torn at n) synced run leaves

  -- a file that is all on the disk, before the first call
  pub in_started : (file : FileId) (old : D) (P : List ℕ → Type 0) → ((c : Files) → d.left_since old (d.moment old) c → d.may_leave old c) → Only file (d.seen old) (d.may_leave old)
      → (d.tells → P (d.seen old file)) → LeavesIn d file old old P
  in_started file old P only_now synced here =
      started old (Stepped (InFile file (λ _ bytes. P bytes)) (d.may_leave old))
      (λ told c left. let now = only_now c left in (c, now, record { changed = subst P (sym (synced c now)) (here told); others = λ other ne. refl }))

  pub in_weakened : (file : FileId) (old new : D) (P Q : List ℕ → Type 0) → LeavesIn d file old new P → (d.tells → (c : List ℕ) → P c → Q c) → LeavesIn d file old new Q
  in_weakened file old new P Q run within =
      weakened old new (Stepped (InFile file (λ _ bytes. P bytes)) (d.may_leave old)) (Stepped (InFile file (λ _ bytes. Q bytes)) (d.may_leave old)) run
      (λ told c left. (left.0, left.1, record { changed = within told (c file) left.2.changed; others = left.2.others }))

  pub changes_reads : (file : FileId) (old new : D) → Reads d old new → ChangesOnly d file old new
  changes_reads file old new reads = record { seen = λ other ne. ap (λ (s : Files). s other) reads.seen; outcomes = λ c left. (c, reads.outcomes c left, λ other ne. refl) }

  pub only_reads : (file : FileId) (old new : D) → Reads d old new → Only file (d.seen old) (d.may_leave old) → Only file (d.seen new) (d.may_leave new)
  only_reads file old new reads synced c left = synced c (reads.outcomes c left) ∙ sym (ap (λ (s : Files). s file) reads.seen)

  -- one run in a file after another
  pub in_then : (file : FileId) (old mid new : D) (P Q R : List ℕ → Type 0) → LeavesIn d file old mid P → ChangesOnly d file old mid → LeavesIn d file mid new Q
      → (d.tells → (c : List ℕ) → P c → R c) → (d.tells → (c : List ℕ) → Q c → R c) → LeavesIn d file old new R
  in_then file old mid new P Q R first changes second p q =
      then_on old mid new (Stepped (InFile file (λ _ bytes. R bytes)) (d.may_leave old)) (Stepped (InFile file (λ _ bytes. Q bytes)) (d.may_leave mid))
      (weakened old mid (Stepped (InFile file (λ _ bytes. P bytes)) (d.may_leave old)) (Stepped (InFile file (λ _ bytes. R bytes)) (d.may_leave old)) first
      (λ told c left. (left.0, left.1, record { changed = p told (c file) left.2.changed; others = left.2.others })))
      second
      (λ told c left.
      let was = changes.outcomes left.0 left.1 in
      (was.0, was.1, record { changed = q told (c file) left.2.changed; others = λ other ne. left.2.others other ne ∙ was.2 other ne }))

  pub changes_then : (file : FileId) (old mid new : D) → ChangesOnly d file old mid → ChangesOnly d file mid new → ChangesOnly d file old new
  changes_then file old mid new first second = record {
    seen = λ other ne. second.seen other ne ∙ first.seen other ne;
    outcomes = λ c left. let e = second.outcomes c left in let f = first.outcomes e.0 e.1 in (f.0, f.1, λ other ne. e.2 other ne ∙ f.2 other ne);
  }

  pub spared : (file other : FileId) (old new : D) → other ≢ file → ChangesOnly d file old new → Spares d other old new
  spared file other old new ne changes = record {
    seen = changes.seen other ne;
    outcomes = λ c left. let e = changes.outcomes c left in (e.0, e.1, e.2 other ne);
  }

pub torn_not : (at n : ℕ) (bytes : List ℕ) → Torn at n bytes bytes
torn_not at n bytes = record { before = refl; after = refl; no_shorter = omega arith; no_longer = omega arith }

pub unforged_not : (shows : Shows) (at : ℕ) (bytes old : List ℕ) → Unforged shows at bytes old old
unforged_not shows at bytes old = record { torn = torn_not at (length bytes) old; shown = λ p r from upto is. inl is }

-- a write that hasn't begun
pub nothing_torn : (file : FileId) (at n : ℕ) (c : Files) → InFile file (Torn at n) c c
nothing_torn file at n c = record { changed = torn_not at n (c file); others = λ other ne. refl }
