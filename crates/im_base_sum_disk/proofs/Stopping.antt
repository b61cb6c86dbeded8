-- What may be left goes on as a disk asks it.
use Rattle.std.proofs.Common.{◌≡◌, ◌≢◌, ◌⊎◌, inl, inr, ⊎_elim, ℕ, zero, suc, ◌+◌, ◌-◌, ◌<◌, ◌≤◌, Bool, List, [], ◌∷◌, ◌++◌, length, take, drop, get_or, Some, refl, sym, ◌∙◌, ap, subst, arith, length-append}
use Rattle.std.proofs.lemmas.List.{get_or-take, get_or-drop}
use Rattle.std.proofs.lemmas.Option.{none-some}
use Rattle.im_base_types.specs.declared.file_id.FileId.{FileId}
use Rattle.im_base_types.specs.declared.file_id.FileId.TheVariants.{Log, Pages, Log2}
use Rattle.im_base_disk.specs.Disk.{Files, three, InFile, Follows, Torn, Unforged, Holds, whole}
use Rattle.im_base_disk.specs.Sums.{shows_in, shows_by_header}
use Rattle.im_base_disk.proofs.Runs.{torn_not, unforged_not}
use Rattle.im_base_disk.proofs.Stops.{torn_over, unforged_whole}
use Rattle.im_base_model_disk.specs.declared.model_file.ModelFile.{ModelFile}
use Rattle.im_base_model_disk.specs.declared.model_disk.ModelDisk.{ModelDisk}
use Rattle.im_base_model_disk.specs.ModelFile.{Keeps, MayHold}
use Rattle.im_base_model_disk.specs.Model.{file_of, moment_of, moments_of}
use Rattle.im_base_model_disk.specs.Past.{FileMayHold, Moment, HadBeen, reads_may_stay}
use Rattle.im_base_model_disk.specs.Written.{IsWritten, IsRefused, IsSyncedFrom, WriteEnds}
use Rattle.im_base_model_disk.proofs.Moments.{Since}
use Rattle.im_base_model_disk.proofs.Patch.{torn_file}
use Rattle.im_base_model_disk.proofs.Synced.{synced_file, seen_of}
use Rattle.im_base_sum_disk.specs.Leaves.{IsHarmless, LogLeaves, FileLeaves, Leaves, as_read}

-- ---- one file and the others

pub for_each : (file : FileId) (P : FileId → Type 0) → P file → ((other : FileId) → other ≢ file → P other) → (other : FileId) → P other
for_each Log P here rest Log = here
for_each Log P here rest Pages = rest Pages (λ same. let never : ⊥ = cc same in never)
for_each Log P here rest Log2 = rest Log2 (λ same. let never : ⊥ = cc same in never)
for_each Pages P here rest Log = rest Log (λ same. let never : ⊥ = cc same in never)
for_each Pages P here rest Pages = here
for_each Pages P here rest Log2 = rest Log2 (λ same. let never : ⊥ = cc same in never)
for_each Log2 P here rest Log = rest Log (λ same. let never : ⊥ = cc same in never)
for_each Log2 P here rest Pages = rest Pages (λ same. let never : ⊥ = cc same in never)
for_each Log2 P here rest Log2 = here

-- these files with other bytes of one
with_bytes : FileId → List ℕ → Files → Files
with_bytes Log l c = three l (c Pages) (c Log2)
with_bytes Pages l c = three (c Log) l (c Log2)
with_bytes Log2 l c = three (c Log) (c Pages) l

with_here : (file : FileId) (l : List ℕ) (c : Files) → with_bytes file l c file ≡ l
unfolding with_bytes
with_here Log l c = refl
with_here Pages l c = refl
with_here Log2 l c = refl

with_others : (file : FileId) (l : List ℕ) (c : Files) (other : FileId) → other ≢ file → c other ≡ with_bytes file l c other
unfolding with_bytes
with_others Log l c Log ne = absurd (ne refl)
with_others Log l c Pages ne = refl
with_others Log l c Log2 ne = refl
with_others Pages l c Log ne = refl
with_others Pages l c Pages ne = absurd (ne refl)
with_others Pages l c Log2 ne = refl
with_others Log2 l c Log ne = refl
with_others Log2 l c Pages ne = refl
with_others Log2 l c Log2 ne = absurd (ne refl)

-- ---- one file

pub may_hold : (file : FileId) (model : ModelFile) → FileMayHold model model.bytes.items → (c : List ℕ) → FileLeaves file model c → FileMayHold model c
may_hold Log model may c (inl is) = subst (FileMayHold model) (sym is) may
may_hold Log model may c (inr harmless) = harmless.may
may_hold Log2 model may c (inl is) = subst (FileMayHold model) (sym is) may
may_hold Log2 model may c (inr harmless) = harmless.may
may_hold Pages model may c left = left

-- a torn file has all that lies outside
torn_keeps : (at n : ℕ) (old new : List ℕ) → Torn at n old new → Keeps at n old new
torn_keeps at n old new torn = record {
  no_shorter = torn.no_shorter;
  no_longer = torn.no_longer;
  same = λ i lt apart. ⊎_elim
      (λ low. sym (get_or-take at new i 0 low) ∙ ap (λ (l : List ℕ). get_or l i 0) torn.before ∙ get_or-take at old i 0 low)
      (λ high. above i (i - (at + n)) (omega (arith, high)))
      apart;
}
  where
    above : (i j : ℕ) → i ≡ at + n + j → get_or new i 0 ≡ get_or old i 0
    above i j is =
        ap (λ (k : ℕ). get_or new k 0) is ∙ sym (get_or-drop (at + n) new j 0) ∙ ap (λ (l : List ℕ). get_or l j 0) torn.after ∙ get_or-drop (at + n) old j 0 ∙ ap (λ (k : ℕ). get_or old k 0) (sym is)

module _ (old new : ModelFile) (at : ℕ) (bytes : List ℕ) (place : at ≤ length old.bytes.items) where
  torn_by : IsWritten at bytes old new ⊎ IsRefused at (length bytes) old new → Torn at (length bytes) old.bytes.items new.bytes.items
  torn_by (inl made) = subst (Torn at (length bytes) old.bytes.items) (sym made.holds) (torn_over at bytes bytes old.bytes.items place refl)
  torn_by (inr refused) = subst (Torn at (length bytes) old.bytes.items) (sym refused.bytes) (torn_not at (length bytes) old.bytes.items)

  model_step : (wrote : IsWritten at bytes old new ⊎ IsRefused at (length bytes) old new) (c : List ℕ) → FileMayHold new c → (d : List ℕ) × FileMayHold old d × Torn at (length bytes) d c
  model_step wrote c may = torn_file old new at bytes place (torn_keeps at (length bytes) old.bytes.items new.bytes.items (torn_by wrote)) wrote c may

  log_step : IsWritten at bytes old new ⊎ IsRefused at (length bytes) old new → (c : List ℕ) → LogLeaves new c → (d : List ℕ) × LogLeaves old d × Unforged shows_by_header at bytes d c
  log_step (inl made) c (inl is) =
      (old.bytes.items, inl refl, subst (Unforged shows_by_header at bytes old.bytes.items) (sym (is ∙ made.holds)) (unforged_whole shows_by_header at bytes old.bytes.items place))
  log_step (inr refused) c (inl is) =
      (old.bytes.items, inl refl, subst (Unforged shows_by_header at bytes old.bytes.items) (sym (is ∙ refused.bytes)) (unforged_not shows_by_header at bytes old.bytes.items))
  log_step (inl made) c (inr harmless) =
      let step = model_step (inl made) c harmless.may in
      let none : old.written.items ≡ [] =
      no_items old.written.items (omega (arith, harmless.once, ap length made.noted, length-append old.written.items ((at, length bytes) ∷ []))) in
      let was : step.0 ≡ old.bytes.items = synced_file old (old.all_synced none) none step.0 step.1 in (
        old.bytes.items,
        inl refl,
        record {
          torn = subst (λ (l : List ℕ). Torn at (length bytes) l c) was step.2;
          shown = λ p r from upto there. inr (ap (shows_by_header p) (sym made.holds) ∙ harmless.shown p r there);
        },
      )
    where
      no_items : (l : List (ℕ × ℕ)) → length l ≡ 0 → l ≡ []
      no_items [] is = refl
      no_items (x ∷ l) is = absurd (omega (arith, is))
  log_step (inr refused) c (inr harmless) = (
    c,
    inr (record {
      may = subst (λ (w : List (ℕ × ℕ)). MayHold old.bytes.items old.synced w (length old.bytes.items) c) refused.noted
          (subst (λ (s : ℕ). MayHold old.bytes.items s new.written.items (length old.bytes.items) c) refused.synced
          (subst (λ (b : List ℕ). MayHold b new.synced new.written.items (length b) c) refused.bytes harmless.may));
      once = sym (ap length refused.noted) ∙ harmless.once;
      shown = λ p r there. ap (shows_by_header p) (sym refused.bytes) ∙ harmless.shown p r there;
    }),
    unforged_not shows_by_header at bytes c,
  )

  pub file_step : (file : FileId) → IsWritten at bytes old new ⊎ IsRefused at (length bytes) old new → (c : List ℕ) → FileLeaves file new c → (d : List ℕ) × FileLeaves file old d × Unforged (shows_in file) at bytes d c
  file_step Log wrote c left = log_step wrote c left
  file_step Log2 wrote c left = log_step wrote c left
  file_step Pages wrote c left =
      let step = model_step wrote c left in
      (step.0, step.1, record { torn = step.2; shown = λ p r from upto is. absurd (none-some r is) })

leaves_synced : (file : FileId) (old new : ModelFile) → IsSyncedFrom old new → (c : List ℕ) → FileLeaves file new c → c ≡ old.bytes.items
leaves_synced Log old new ok c (inl is) = is ∙ ok.bytes
leaves_synced Log old new ok c (inr harmless) = absurd (omega (arith, harmless.once, ap length ok.written))
leaves_synced Log2 old new ok c (inl is) = is ∙ ok.bytes
leaves_synced Log2 old new ok c (inr harmless) = absurd (omega (arith, harmless.once, ap length ok.written))
leaves_synced Pages old new ok c left = synced_file new (ok.synced ∙ sym (ap length ok.bytes)) ok.written c left ∙ ok.bytes

-- ---- the files of a disk

module _ (old new : ModelDisk) (file : FileId) (spares : (other : FileId) → other ≢ file → file_of new other ≡ file_of old other) where
  -- a write
  pub written_follows : (at : ℕ) (bytes : List ℕ) → at ≤ length (file_of old file).bytes.items
      → IsWritten at bytes (file_of old file) (file_of new file) ⊎ IsRefused at (length bytes) (file_of old file) (file_of new file)
      → Follows (InFile file (Unforged (shows_in file) at bytes)) (Leaves (moment_of old)) (Leaves (moment_of new))
  written_follows at bytes place wrote c left =
      let step = file_step (file_of old file) (file_of new file) at bytes place file wrote (c file) (left file) in (
        with_bytes file step.0 c,
        for_each file (λ f. FileLeaves f (file_of old f) (with_bytes file step.0 c f))
            (subst (FileLeaves file (file_of old file)) (sym (with_here file step.0 c)) step.1)
            (λ other ne. subst (FileLeaves other (file_of old other)) (with_others file step.0 c other ne) (subst (λ (m : ModelFile). FileLeaves other m (c other)) (spares other ne) (left other))),
        record {
          changed = subst (λ (l : List ℕ). Unforged (shows_in file) at bytes l (c file)) (sym (with_here file step.0 c)) step.2;
          others = λ other ne. with_others file step.0 c other ne;
        },
      )

  -- a sync
  module _ (ok : IsSyncedFrom (file_of old file) (file_of new file)) where
    pub synced_durable : (c : Files) → Leaves (moment_of new) c → c file ≡ three old.log.bytes.items old.pages.bytes.items old.log2.bytes.items file
    synced_durable c left = leaves_synced file (file_of old file) (file_of new file) ok (c file) (left file) ∙ sym (seen_of old.log old.pages old.log2 file)

    pub synced_leaves : (c : Files) → Leaves (moment_of new) c → Leaves (moment_of old) c
    synced_leaves c left =
        for_each file (λ f. FileLeaves f (file_of old f) (c f))
        (subst (FileLeaves file (file_of old file)) (sym (leaves_synced file (file_of old file) (file_of new file) ok (c file) (left file)))
        (as_read file (file_of old file) (reads_one (file_of old file))))
        (λ other ne. subst (λ (m : ModelFile). FileLeaves other m (c other)) (spares other ne) (left other))
      where
        reads_one : (m : ModelFile) → FileMayHold m m.bytes.items
        reads_one m = (reads_may_stay m m m).0

  -- one that failed
  pub unsynced_leaves : file_of new file ≡ file_of old file → (c : Files) → Leaves (moment_of new) c → Leaves (moment_of old) c
  unsynced_leaves same c left =
      for_each file (λ f. FileLeaves f (file_of old f) (c f))
      (subst (λ (m : ModelFile). FileLeaves file m (c file)) same (left file))
      (λ other ne. subst (λ (m : ModelFile). FileLeaves other m (c other)) (spares other ne) (left other))

-- a step that forges no sum tears
pub torn_follows : (file : FileId) (at : ℕ) (bytes : List ℕ) (old new : Files → Type 0) → Follows (InFile file (Unforged (shows_in file) at bytes)) old new → Follows (InFile file (Torn at (length bytes))) old new
torn_follows file at bytes old new follows c left = let d = follows c left in (d.0, d.1, record { changed = d.2.changed.torn; others = d.2.others })

pub place_in : (disk : ModelDisk) (file : FileId) (at : ℕ) → at ≤ length (three disk.log.bytes.items disk.pages.bytes.items disk.log2.bytes.items file) → at ≤ length (file_of disk file).bytes.items
place_in disk file at within = subst (λ (l : List ℕ). at ≤ length l) (seen_of disk.log disk.pages disk.log2 file) within

pub how_it_ended : (told failed : Bool) (at : ℕ) (bytes : List ℕ) (old new : ModelFile) → WriteEnds told failed at bytes old new → IsWritten at bytes old new ⊎ IsRefused at (length bytes) old new
how_it_ended told failed at bytes old new ends = ⊎_elim (λ made. inl made.0) (λ refused. inr refused.0) ends

-- ---- a call that only reads

module _ (old new : ModelDisk) (files : (file : FileId) → file_of new file ≡ file_of old file) (past : moments_of new ≡ moments_of old) where
  pub leaves_back : (c : Files) → Leaves (moment_of new) c → Leaves (moment_of old) c
  leaves_back c left file = subst (λ (m : ModelFile). FileLeaves file m (c file)) (files file) (left file)

  pub leaves_on : (c : Files) → Leaves (moment_of old) c → Leaves (moment_of new) c
  leaves_on c left file = subst (λ (m : ModelFile). FileLeaves file m (c file)) (sym (files file)) (left file)

  pub since_back : (t : ℕ) (c : Files) → Since Leaves (moments_of new) (moment_of new) t c → Since Leaves (moments_of old) (moment_of old) t c
  since_back t c left = ⊎_elim (λ now. inl (leaves_back c now)) (λ had. inr (subst (λ (l : List Moment). HadBeen Leaves (drop t l) c) past had)) left

  pub since_on : (t : ℕ) (c : Files) → Since Leaves (moments_of old) (moment_of old) t c → Since Leaves (moments_of new) (moment_of new) t c
  since_on t c left = ⊎_elim (λ now. inl (leaves_on c now)) (λ had. inr (subst (λ (l : List Moment). HadBeen Leaves (drop t l) c) (sym past) had)) left

  pub no_sooner : length (moments_of old) ≤ length (moments_of new)
  no_sooner = omega (arith, ap length past)
