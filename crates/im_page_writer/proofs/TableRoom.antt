-- After the flush of the page that is written next and a sync, the dirty table has room.
use Rattle.std.proofs.Common.{◌≡◌, inl, inr, ℕ, ◌+◌, ◌<◌, ◌≤◌, false, true, Bool, List, [], ◌∷◌, length, Option, None, Some, refl, sym, ◌∙◌, ap, subst, arith}
use Rattle.std.specs.Prelude.{is_some, map, option_map, if◌then◌else◌, nat_eq, nat_lt, IfSome}
use Rattle.std.specs.Option.{option_map_or}
use Rattle.std.specs.Map.{lookup, remove_entry}
use Rattle.std.proofs.lemmas.Bool.{cases_Bool, cases_eq, cond-true, cond-false, eq-eqb, ltb-false}
use Rattle.im_base_types.specs.declared.tables.DirtyPage.{DirtyPage}
use Rattle.im_base_disk.specs.declared.disk.Disk.{Ghosts}
use Rattle.im_theory_log.specs.Histories.{Base}
use Rattle.im_theory_log.specs.Writer.{DirtyEntry, PageState, Writer, IsWritten}
use Rattle.im_theory_log.specs.WriterSteps.{synced_page}
use Rattle.im_page_pool.specs.declared.frame.Frame.{Frame}
use Rattle.im_page_pool.specs.Pool.{Held, PoolView, frame_of, held_of, last_changed}
use Rattle.im_page_pool.proofs.PlaceLemmas.{length_remove_entry}
use Rattle.im_page_pool.proofs.EntryLemmas.{lookup_others}
use Rattle.im_page_table.specs.declared.table_entry.TableEntry.{TableEntry}
use Rattle.im_page_table.specs.DirtyTable.{TableView, dirty_entry, entry_among, entry_in, oldest, AreApart, synced_among, HasEntries}
use Rattle.im_page_writer.specs.declared.page_writer.PageWriter.{PageWriter}
use Rattle.im_page_flush.specs.Writing.{IsShown, IsPooled, SameHeld}
use Rattle.im_page_writer.specs.PageWriter.{next_written, IsNextWritten, StandsAs}
use Rattle.im_page_flush.proofs.Placing.{written_synced}
use Rattle.im_page_writer.proofs.FlushedRows.{synced_clean}
use Rattle.im_page_writer.proofs.OldestChanges.{none_changed_in, oldest_there, entry_here, entry_there}
use Rattle.im_page_writer.proofs.Writers.{none_left}
use Rattle.im_page_table.proofs.Tables.{first_is, first_not, held_synced, synced_apart}

-- ---- the last page of a list that was changed

-- where there is none, no page was changed
pub none_changed : (es : List (ℕ × Held)) → last_changed es ≡ None → (p : ℕ) → option_map_or (λ h. h.changed) (lookup (nat_eq p) es) false ≡ false
none_changed [] none p = refl
none_changed (e ∷ es) none p = by (λ rest. none_changed es rest p) (last_changed es) refl
  where
    same : (t : Bool) → (if t then Some e else None) ≡ None → t ≡ false
    same true is = absurd (cc is)
    same false is = refl

    here : option_map_or (λ h. h.changed) (lookup (nat_eq p) es) false ≡ false → last_changed es ≡ None → (t : Bool) → option_map_or (λ h. h.changed) (if t then Some e.1 else lookup (nat_eq p) es) false ≡ false
    here later rest true = same e.1.changed (subst (λ (o : Option (ℕ × Held)). option_map_or (λ f. Some f) o (if e.1.changed then Some e else None) ≡ None) rest none)
    here later rest false = later

    by : (last_changed es ≡ None → option_map_or (λ h. h.changed) (lookup (nat_eq p) es) false ≡ false) → (o : Option (ℕ × Held)) → last_changed es ≡ o → option_map_or (λ h. h.changed) (lookup (nat_eq p) (e ∷ es)) false ≡ false
    by later None rest = here (later rest) rest (nat_eq p e.0)
    by later (Some f) rest = absurd (let clash : Some f ≡ None = subst (λ (o : Option (ℕ × Held)). option_map_or (λ f. Some f) o (if e.1.changed then Some e else None) ≡ None) rest none in cc clash)

-- it is held
pub last_held : (es : List (ℕ × Held)) (e : ℕ × Held) → last_changed es ≡ Some e → is_some (lookup (nat_eq e.0) es) ≡ true
last_held [] e is = absurd (cc is)
last_held (f ∷ es) e is = by (λ rest. last_held es e rest) (last_changed es) refl
  where
    same : (t : Bool) → (if t then Some f else None) ≡ Some e → f ≡ e
    same true is = cc is
    same false is = absurd (cc is)

    by : (last_changed es ≡ Some e → is_some (lookup (nat_eq e.0) es) ≡ true) → (o : Option (ℕ × Held)) → last_changed es ≡ o → is_some (lookup (nat_eq e.0) (f ∷ es)) ≡ true
    by deeper None rest =
        let here : f ≡ e = same f.1.changed (subst (λ (o : Option (ℕ × Held)). option_map_or (λ f. Some f) o (if f.1.changed then Some f else None) ≡ Some e) rest is) in
        entry_here (nat_eq e.0 f.0) f.1 (lookup (nat_eq e.0) es) (eq-eqb e.0 f.0 (ap (λ (x : ℕ × Held). x.0) (sym here)))
    by deeper (Some g) rest =
        let later : Some g ≡ Some e = subst (λ (o : Option (ℕ × Held)). option_map_or (λ f. Some f) o (if f.1.changed then Some f else None) ≡ Some e) rest is in
        entry_there (nat_eq e.0 f.0) f.1 (lookup (nat_eq e.0) es) (deeper (rest ∙ later))

-- ---- a table whose pages are all in a list is no longer than it

some_is : {X : Type 0} (o : Option X) → is_some o ≡ true → (x : X) × (o ≡ Some x)
some_is None is = absurd (cc is)
some_is (Some x) is = (x, refl)

one_fewer : {X : Type 0} (p : ℕ) (es : List (ℕ × X)) → is_some (lookup (nat_eq p) es) ≡ true → length (remove_entry (nat_eq p) es) + 1 ≡ length es
one_fewer p es has = let found = some_is (lookup (nat_eq p) es) has in length_remove_entry (nat_eq p) es found.0 found.1

abbrev AllIn : {X : Type 0} → List TableEntry → List (ℕ × X) → Type 0
AllIn xs es = (p : ℕ) (e : DirtyEntry) → entry_among xs p ≡ Some e → is_some (lookup (nat_eq p) es) ≡ true

no_longer : {X : Type 0} (xs : List TableEntry) (es : List (ℕ × X)) → AreApart xs → AllIn xs es → length xs ≤ length es
no_longer [] es up all = omega arith
no_longer (x ∷ xs) es up all =
    let fewer = one_fewer x.page es (all x.page (dirty_entry x) (first_is x xs x.page refl)) in
    let rest = no_longer xs (remove_entry (nat_eq x.page) es) up.1 others in
    omega (arith, fewer, rest)
  where
    others : AllIn xs (remove_entry (nat_eq x.page) es)
    others p e is =
        let other : p ≡ x.page → ⊥ = λ same. let clash : None ≡ Some e = sym up.0 ∙ ap (λ (n : ℕ). entry_among xs n) (sym same) ∙ is in cc clash in
        ap (λ o. is_some o) (lookup_others x.page p es other) ∙ all p e (first_not x xs p (λ same. other (sym same)) ∙ is)

-- shorter, where the list has a page more
shorter : {X : Type 0} (xs : List TableEntry) (es : List (ℕ × X)) (p : ℕ) → AreApart xs → AllIn xs es → is_some (lookup (nat_eq p) es) ≡ true → entry_among xs p ≡ None → length xs < length es
shorter xs es p up all has none =
    let fewer = one_fewer p es has in
    let rest = no_longer xs (remove_entry (nat_eq p) es) up others in
    omega (arith, fewer, rest)
  where
    others : AllIn xs (remove_entry (nat_eq p) es)
    others q e is =
        let other : q ≡ p → ⊥ = λ same. let clash : None ≡ Some e = sym none ∙ ap (λ (n : ℕ). entry_among xs n) (sym same) ∙ is in cc clash in
        ap (λ o. is_some o) (lookup_others p q es other) ∙ all q e is

-- ---- the entries of a table by their pages

abbrev rows_in : List TableEntry → List (ℕ × DirtyEntry)
rows_in xs = map (λ x. (x.page, dirty_entry x)) xs

rows_count : (xs : List TableEntry) → length (rows_in xs) ≡ length xs
rows_count [] = refl
rows_count (x ∷ xs) = let rest = rows_count xs in omega (arith, rest)

row_there : (xs : List TableEntry) (p : ℕ) → is_some (entry_among xs p) ≡ true → is_some (lookup (nat_eq p) (rows_in xs)) ≡ true
row_there [] p is = is
row_there (x ∷ xs) p is = elim (cases_eq x.page p) [
  | inl here ↦ entry_here (nat_eq p x.page) (dirty_entry x) (lookup (nat_eq p) (rows_in xs)) (eq-eqb p x.page (sym here))
  | inr other ↦ entry_there (nat_eq p x.page) (dirty_entry x) (lookup (nat_eq p) (rows_in xs))
      (row_there xs p (ap (λ (o : Option DirtyEntry). is_some o) (sym (first_not x xs p other)) ∙ is))
]

-- ---- which page is written next

pub next_large : (w : PageWriter) → nat_lt 1024 w.pool.frames ≡ true → next_written w ≡ option_map (λ r. r.page) (oldest w.table)
next_large w large = cond-true (nat_lt 1024 w.pool.frames) (option_map (λ r. r.page) (oldest w.table)) (option_map (λ e. e.0) (last_changed w.pool.held)) large

pub next_small : (w : PageWriter) → nat_lt 1024 w.pool.frames ≡ false → next_written w ≡ option_map (λ e. e.0) (last_changed w.pool.held)
next_small w small = cond-false (nat_lt 1024 w.pool.frames) (option_map (λ r. r.page) (oldest w.table)) (option_map (λ e. e.0) (last_changed w.pool.held)) small

-- ---- after a sync

-- a table in which no page has an entry has none
pub no_entries : (xs : List TableEntry) → ((p : ℕ) → entry_among xs p ≡ None) → length xs ≡ 0
no_entries [] none = refl
no_entries (x ∷ xs) none = absurd (let clash : Some (dirty_entry x) ≡ None = sym (first_is x xs x.page refl) ∙ none x.page in cc clash)

module _ (table : TableView) (pages : ℕ → PageState) (up : AreApart table.entries) (has : HasEntries table pages) where
  abbrev left : List TableEntry
  left = synced_among table.entries

  gone : (p : ℕ) → IsWritten (pages p).entry → entry_among left p ≡ None
  gone p is = held_synced table.entries p up ∙ synced_clean (entry_in table p) (subst (λ (o : Option DirtyEntry). IsWritten o) (sym (has p)) is)

  -- an entry that stays is of a held page
  stays_held : (pool : PoolView) → IsPooled pool pages → (p : ℕ) (e : DirtyEntry) → entry_among left p ≡ Some e → is_some (held_of pool p) ≡ true
  stays_held pool pooled p e is = by (held_of pool p) refl
    where
      by : (o : Option Held) → held_of pool p ≡ o → is_some o ≡ true
      by (Some h) same = refl
      by None same = absurd (let clash : None ≡ Some e = sym (gone p (subst (λ (o : Option Held). IsShown o (pages p)) same (pooled.shows p))) ∙ is in cc clash)

  -- where each page is written none stays
  pub none_stay : ((p : ℕ) → IsWritten (pages p).entry) → length left ≤ 0
  none_stay all =
      let empty : List (ℕ × Held) = [] in
      no_longer left empty (synced_apart table.entries up) (λ p e here. absurd (let clash : None ≡ Some e = sym (gone p (all p)) ∙ here in cc clash))

  -- in a pool of 1,024 frames or fewer there are no more held pages, of which one is written
  left_in_frames : (old pool : PoolView) → IsPooled pool pages → SameHeld old pool → length pool.held ≤ 1024 → IsNextWritten (option_map (λ e. e.0) (last_changed old.held)) pages → length left < 1024
  left_in_frames old pool pooled same few done = by (last_changed old.held) refl
    where
      by : (o : Option (ℕ × Held)) → last_changed old.held ≡ o → length left < 1024
      by None is = let none = none_stay (subst (λ (o : Option (ℕ × Held)). IsNextWritten (option_map (λ e. e.0) o) pages) is done) in omega (arith, none)
      by (Some e) is =
          let written : IsWritten (pages e.0).entry = subst (λ (o : Option (ℕ × Held)). IsNextWritten (option_map (λ e. e.0) o) pages) is done in
          let less = shorter left pool.held e.0 (synced_apart table.entries up) (stays_held pool pooled) (same.held e.0 ∙ last_held old.held e is) (gone e.0 written) in
          omega (arith, less, few)

  -- in a larger one each entry that stays is of a page that had one before, as the page had that is written
  left_of_entries : (before : TableView) → AllIn left (rows_in before.entries) → length before.entries ≤ before.most → 1024 ≤ before.most → IsNextWritten (option_map (λ r. r.page) (oldest before)) pages → length left < before.most
  left_of_entries before stay few least done = by (oldest before) refl
    where
      by : (o : Option DirtyPage) → oldest before ≡ o → length left < before.most
      by None is = let none = none_stay (subst (λ (o : Option DirtyPage). IsNextWritten (option_map (λ r. r.page) o) pages) is done) in omega (arith, none, least)
      by (Some r) is =
          let written : IsWritten (pages r.page).entry = subst (λ (o : Option DirtyPage). IsNextWritten (option_map (λ r. r.page) o) pages) is done in
          let less = shorter left (rows_in before.entries) r.page (synced_apart table.entries up) stay (row_there before.entries r.page (oldest_there before r is)) (gone r.page written) in
          omega (arith, less, rows_count before.entries, few)

  -- a page that stays changed was changed before
  stays_entered : (before : TableView) (first : ℕ → PageState) → HasEntries before first → ((p : ℕ) → IsWritten (first p).entry → IsWritten (pages p).entry) → AllIn left (rows_in before.entries)
  stays_entered before first had keeps p e here = row_there before.entries p (by (first p).entry refl)
    where
      by : (o : Option DirtyEntry) → (first p).entry ≡ o → is_some (entry_in before p) ≡ true
      by None none = absurd (let clash : None ≡ Some e = sym (gone p (keeps p (subst (λ (o : Option DirtyEntry). IsWritten o) (sym none) tt))) ∙ here in cc clash)
      by (Some x) some = ap (λ (o : Option DirtyEntry). is_some o) (had p ∙ some)

  pub room_left : (v : PageWriter) (pool : PoolView) (first : ℕ → PageState) → HasEntries v.table first → ((p : ℕ) → IsWritten (first p).entry → IsWritten (pages p).entry) → length v.table.entries ≤ v.table.most → 1024 ≤ v.table.most
      → IsPooled pool pages → SameHeld v.pool pool → length pool.held ≤ pool.frames → IsNextWritten (next_written v) pages → length left < v.table.most
  room_left v pool first had keeps few least pooled same within done = elim (cases_Bool (nat_lt 1024 v.pool.frames)) [
    | inl large ↦ left_of_entries v.table (stays_entered v.table first had keeps) few least (subst (λ (o : Option ℕ). IsNextWritten o pages) (next_large v large) done)
    | inr small ↦
        let frames : v.pool.frames ≤ 1024 = ltb-false 1024 v.pool.frames small in
        let less = left_in_frames v.pool pool pooled same (omega (arith, frames, within, same.frames)) (subst (λ (o : Option ℕ). IsNextWritten o pages) (next_small v small) done) in
        omega (arith, less, least)
  ]

-- ---- the page that is written next

pub if_number : (o : Option (ℕ × Held)) (r : Option Frame) → r ≡ option_map frame_of o → IfSome r (λ f. option_map (λ e. e.0) o ≡ Some f.number)
if_number None r is = subst (λ (x : Option Frame). IfSome x (λ f. None ≡ Some f.number)) (sym is) tt
if_number (Some e) r is = subst (λ (x : Option Frame). IfSome x (λ f. Some e.0 ≡ Some f.number)) (sym is) refl

pub no_number : (o : Option (ℕ × Held)) (p : ℕ) → None ≡ option_map frame_of o → option_map (λ e. e.0) o ≡ Some p → ⊥
no_number None p is has = cc has
no_number (Some e) p is has = cc is

pub if_found : (o : Option Held) (p : ℕ) (r : Option Frame) → r ≡ option_map (λ h. frame_of (p, h)) o → IfSome r (λ f. Some p ≡ Some f.number)
if_found None p r is = subst (λ (x : Option Frame). IfSome x (λ f. Some p ≡ Some f.number)) (sym is) tt
if_found (Some h) p r is = subst (λ (x : Option Frame). IfSome x (λ f. Some p ≡ Some f.number)) (sym is) refl

-- where there is none, nothing is left to be written of any page
none_named : (o : Option (ℕ × Held)) → option_map (λ e. e.0) o ≡ None → o ≡ None
none_named None is = refl
none_named (Some e) is = absurd (cc is)

none_oldest_named : (o : Option DirtyPage) → option_map (λ r. r.page) o ≡ None → o ≡ None
none_oldest_named None is = refl
none_oldest_named (Some r) is = absurd (cc is)

module _ {D : Type 0} (d : Ghosts D) (b : Base) (base : ℕ) (s : Writer) (w : PageWriter) (disk : D) (is : StandsAs d b base s w disk) where
  none_next : next_written w ≡ None → (p : ℕ) → IsWritten (s.pages p).entry
  none_next none p = elim (cases_Bool (nat_lt 1024 w.pool.frames)) [
    | inl large ↦ subst (λ (o : Option DirtyEntry). IsWritten o) (is.writing.entries p) (none_changed_in w.table (none_oldest_named (oldest w.table) (sym (next_large w large) ∙ none)) p)
    | inr small ↦ none_left d b base s w disk p is (none_changed w.pool.held (none_named (last_changed w.pool.held) (sym (next_small w small) ∙ none)) p)
  ]

  -- one that is not held is written
  pub next_absent : ((p : ℕ) → next_written w ≡ Some p → held_of w.pool p ≡ None) → IsNextWritten (next_written w) s.pages
  next_absent absent = by (next_written w) refl
    where
      by : (o : Option ℕ) → next_written w ≡ o → IsNextWritten o s.pages
      by None none = none_next none
      by (Some p) some = subst (λ (o : Option Held). IsShown o (s.pages p)) (absent p some) (is.writing.pooled.shows p)

pub next_done : (o : Option ℕ) (pages : ℕ → PageState) (p : ℕ) → o ≡ Some p → IsWritten (pages p).entry → IsNextWritten o pages
next_done o pages p is done = subst (λ (n : Option ℕ). IsNextWritten n pages) (sym is) done

-- a sync keeps it
pub next_synced : (o : Option ℕ) (pages : ℕ → PageState) → IsNextWritten o pages → IsNextWritten o (λ q. synced_page (pages q))
next_synced None pages is = λ p. written_synced (pages p).entry (is p)
next_synced (Some p) pages is = written_synced (pages p).entry is
