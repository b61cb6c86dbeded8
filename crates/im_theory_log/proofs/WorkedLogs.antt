-- Worked logs, by computation: one inserted key, a split that restart takes back, an undo after its key moved, a rollback between another's
-- steps; and what the wrong redo and the wrong undo make of theirs.
use Rattle.std.proofs.Common.{◌≡◌, ℕ, List, [], ◌∷◌, true, false, refl, sym, ◌∙◌, ap, length, Some}
use Rattle.std.specs.Cmp.Lexicographic.{nat_list_cmp_total}
use Rattle.std.specs.FinMap.{empty, entries, entries-insert, len-entries, len-empty}
use Rattle.im_base_types.specs.declared.page_kind.PageKind.TheVariants.{Leaf}
use Rattle.im_base_types.specs.Changes.{Put, apply_all}
use Rattle.im_theory_log.specs.Copies.{onto, redo_all}
use Rattle.im_theory_log.specs.Histories.{Base, History, page_at}
use Rattle.im_base_types.specs.Keys.{Key, key_order}
use Rattle.im_base_types.specs.Maps.{IndexMap, with_key, without_key}
use Rattle.im_base_types.specs.Pages.{Body, Entry}
use Rattle.im_base_types.specs.Records.{Checkpoint, Commit, DeleteKey, DummyClr, End, Image, InsertKey, Logged, Smo, UndoDelete, UndoInsert, UndoSmo, Unreadable, What}
use Rattle.im_theory_log.specs.RedoPoints.{redo_point}
use Rattle.im_theory_log.specs.Structure.{open_smo, settled}
use Rattle.im_theory_log.specs.Transactions.{committed, compensated, contents, contents_after, is_finished, last_of, net, to_undo, top_of, undo_next_of, undo_reads}
use Rattle.im_theory_log.specs.Variants.{redo_skipping, undo_reads_below}
use Rattle.im_base_types.proofs.Maps.{entries_drop}

-- ---- where they start: empty leaves, the empty map

abbrev leaf : List Entry → Body
leaf es = record { kind = Leaf; level = 0; marked = false; prev = 0; next = 0; leftmost = 0; entries = es }

abbrev start : Base
start = record { pages = λ p. record { lsn = 0; body = leaf [] }; map = empty; start = 0 }

abbrev key : ℕ → Key
key n = n ∷ []

abbrev record_of : ℕ → ℕ → ℕ → ℕ → ℕ → What → Logged
record_of lsn txn prev undo_next page what = record { lsn = lsn; txn = txn; prev = prev; undo_next = undo_next; page = page; what = what }

-- the entries of the tree's map, by the records on sorted lists
abbrev entries_after : What → List Entry → List Entry
entries_after (InsertKey k i) es = with_key k i es
entries_after (DeleteKey k i) es = without_key k es
entries_after (UndoInsert k i) es = without_key k es
entries_after (UndoDelete k i) es = with_key k i es
entries_after _ es = es

abbrev listed : History → List Entry
listed [] = []
listed (r ∷ older) = entries_after r.what (listed older)

listed_one : (w : What) (m : IndexMap) (es : List Entry) → entries m ≡ es → entries (contents_after w m) ≡ entries_after w es
listed_one (InsertKey k i) m es is = entries-insert nat_list_cmp_total m k i ∙ ap (with_key k i) is
listed_one (DeleteKey k i) m es is = entries_drop m k ∙ ap (without_key k) is
listed_one (UndoInsert k i) m es is = entries_drop m k ∙ ap (without_key k) is
listed_one (UndoDelete k i) m es is = entries-insert nat_list_cmp_total m k i ∙ ap (with_key k i) is
listed_one (Smo o n) m es is = is
listed_one (UndoSmo n) m es is = is
listed_one DummyClr m es is = is
listed_one Commit m es is = is
listed_one End m es is = is
listed_one (Image c) m es is = is
listed_one (Checkpoint n a d) m es is = is
listed_one Unreadable m es is = is

no_entries : (es : List Entry) → length es ≡ 0 → es ≡ []
no_entries [] is = refl
no_entries (e ∷ es) is = absurd (cc is)

listed_all : (log : History) → entries (contents start log) ≡ listed log
listed_all [] = no_entries (entries (empty {X = ℕ} {R = key_order})) (sym (len-entries (empty {X = ℕ} {R = key_order})) ∙ len-empty key_order ℕ)
listed_all (r ∷ older) = listed_one r.what (contents start older) (listed older) (listed_all older)

-- ---- one key, inserted and committed: InsertKey at LSN 36, Commit at 79

abbrev inserted : History
inserted = record_of 36 1 0 0 1 (InsertKey (key 97) 7) ∷ []

abbrev one_key : History
one_key = record_of 79 1 36 0 0 Commit ∷ inserted

one_key_page : page_at start one_key 1 ≡ record { lsn = 36; body = leaf ((key 97, 7) ∷ []) }
one_key_page = refl

one_key_committed : committed one_key ≡ (Put (key 97) 7 ∷ []) ∷ []
one_key_committed = refl

one_key_map : entries (apply_all start.map (committed one_key)) ≡ (key 97, 7) ∷ []
one_key_map = listed_all inserted

one_key_chain : (last_of 1 one_key ≡ 79) × (to_undo 1 one_key ≡ []) × (is_finished 1 one_key ≡ true) × (redo_point one_key ≡ 36)
one_key_chain = (refl, refl, refl, refl)

-- before its Commit the transaction has its net, and undo begins at its record
inserted_net : (net 1 inserted ≡ Put (key 97) 7 ∷ []) × (undo_next_of 1 inserted ≡ 36) × (committed inserted ≡ [])
inserted_net = (refl, refl, refl)

-- ---- a split that a stop cut, and that restart takes back: two of its pages are logged, then undone, the newer first

abbrev full : Body
full = leaf ((key 1, 1) ∷ (key 2, 2) ∷ [])

abbrev low : Body
low = leaf ((key 1, 1) ∷ [])

abbrev high : Body
high = leaf ((key 2, 2) ∷ [])

abbrev filled : History
filled = record_of 20 1 10 0 1 (InsertKey (key 2) 2) ∷ record_of 10 1 0 0 1 (InsertKey (key 1) 1) ∷ []

abbrev cut_split : History
cut_split = record_of 40 1 30 0 2 (Smo (leaf []) high) ∷ record_of 30 1 20 0 1 (Smo full low) ∷ filled

abbrev taken_down : History
taken_down = record_of 60 1 50 20 1 (UndoSmo full) ∷ record_of 50 1 40 30 2 (UndoSmo (leaf [])) ∷ cut_split

-- cut: the pages are split, the tree that they stand for is not
cut_pages : ((page_at start cut_split 1).body ≡ low) × ((page_at start cut_split 2).body ≡ high) × (settled start cut_split 1 ≡ full) × (settled start cut_split 2 ≡ leaf [])
cut_pages = (refl, refl, refl, refl)

cut_undo : (open_smo cut_split ≡ record_of 40 1 30 0 2 (Smo (leaf []) high) ∷ record_of 30 1 20 0 1 (Smo full low) ∷ []) × (undo_next_of 1 cut_split ≡ 40)
cut_undo = (refl, refl)

-- taken back: nothing is open, the pages are as before, and the two inserts are left to undo
down_pages : (open_smo taken_down ≡ []) × ((page_at start taken_down 1).body ≡ full) × ((page_at start taken_down 2).body ≡ leaf [])
down_pages = (refl, refl, refl)

down_undo : (to_undo 1 taken_down ≡ filled) × (undo_next_of 1 taken_down ≡ 20) × (net 1 taken_down ≡ Put (key 2) 2 ∷ Put (key 1) 1 ∷ [])
down_undo = (refl, refl, refl)

-- ---- an undo after its key moved: 2 deletes key 2 from page 1, 3 splits the leaf, and the undo puts the key into page 2

abbrev third : Body
third = leaf ((key 3, 3) ∷ [])

abbrev moved : History
moved =
    record_of 90 2 40 0 2 (UndoDelete (key 2) 2)
    ∷ record_of 80 3 70 0 0 Commit
    ∷ record_of 70 3 60 0 1 (InsertKey (key 0) 0)
    ∷ record_of 60 3 55 0 0 DummyClr
    ∷ record_of 55 3 50 0 2 (Smo (leaf []) third)
    ∷ record_of 50 3 0 0 1 (Smo (leaf ((key 1, 1) ∷ (key 3, 3) ∷ [])) low)
    ∷ record_of 40 2 0 0 1 (DeleteKey (key 2) 2)
    ∷ record_of 35 1 30 0 0 Commit
    ∷ record_of 30 1 20 0 1 (InsertKey (key 3) 3)
    ∷ filled

moved_pages : ((page_at start moved 1).body ≡ leaf ((key 0, 0) ∷ (key 1, 1) ∷ [])) × ((page_at start moved 2).body ≡ leaf ((key 2, 2) ∷ (key 3, 3) ∷ []))
moved_pages = (refl, refl)

moved_counts : (net 2 moved ≡ []) × (to_undo 2 moved ≡ []) × (compensated moved 2 0 ≡ 1)
moved_counts = (refl, refl, refl)

moved_map : entries (contents start moved) ≡ (key 0, 0) ∷ (key 1, 1) ∷ (key 2, 2) ∷ (key 3, 3) ∷ []
moved_map = listed_all moved

moved_committed : committed moved ≡ (Put (key 3) 3 ∷ Put (key 2) 2 ∷ Put (key 1) 1 ∷ []) ∷ (Put (key 0) 0 ∷ []) ∷ []
moved_committed = refl

-- ---- a rollback between another's steps: 1 puts keys 48 and 98 and takes back 98; 2 puts 97 and commits; 1 takes back 48

abbrev between : History
between = record_of 30 1 20 10 1 (UndoInsert (key 98) 2) ∷ record_of 20 1 10 0 1 (InsertKey (key 98) 2) ∷ record_of 10 1 0 0 1 (InsertKey (key 48) 1) ∷ []

abbrev pair : History
pair = record_of 70 1 60 0 0 End ∷ record_of 60 1 30 0 1 (UndoInsert (key 48) 1) ∷ record_of 50 2 40 0 0 Commit ∷ record_of 40 2 0 0 1 (InsertKey (key 97) 3) ∷ between

between_net : (net 1 between ≡ Put (key 48) 1 ∷ []) × (undo_next_of 1 between ≡ 10) × (compensated between 1 10 ≡ 1) × (compensated between 1 0 ≡ 0)
between_net = (refl, refl, refl, refl)

pair_map : (committed pair ≡ (Put (key 97) 3 ∷ []) ∷ []) × (entries (contents start pair) ≡ (key 97, 3) ∷ []) × (to_undo 1 pair ≡ []) × (compensated pair 1 0 ≡ 1)
pair_map = (refl, listed_all pair, refl, refl)

-- ---- a return within a transaction: 1 puts keys 48 and 98, takes back 98, puts 99 and commits; and one that a stop cut off, which a restart takes back whole

abbrev returned : History
returned = record_of 40 1 30 0 1 (InsertKey (key 99) 3) ∷ between

returned_undo : (to_undo 1 returned ≡ record_of 40 1 30 0 1 (InsertKey (key 99) 3) ∷ record_of 10 1 0 0 1 (InsertKey (key 48) 1) ∷ []) × (undo_next_of 1 returned ≡ 40) × (undo_reads 30 returned ≡ Some (record_of 10 1 0 0 1 (InsertKey (key 48) 1)))
returned_undo = (refl, refl, refl)

returned_commits : committed (record_of 50 1 40 0 0 Commit ∷ returned) ≡ (Put (key 99) 3 ∷ Put (key 48) 1 ∷ []) ∷ []
returned_commits = refl

returned_counts : (compensated (record_of 50 1 40 0 0 Commit ∷ returned) 1 0 ≡ 0) × (compensated (record_of 50 1 40 0 0 Commit ∷ returned) 1 10 ≡ 1) × (compensated (record_of 50 1 40 0 0 Commit ∷ returned) 1 30 ≡ 0)
returned_counts = (refl, refl, refl)

returned_map : entries (contents start returned) ≡ (key 48, 1) ∷ (key 99, 3) ∷ []
returned_map = listed_all returned

-- ---- a redo that skips records before a later copy loses those that the copy is too old to have

abbrev old_copy : List Logged
old_copy = record_of 10 1 0 0 1 (InsertKey (key 1) 1) ∷ record_of 20 1 10 0 1 (InsertKey (key 2) 2) ∷ record_of 30 0 0 0 1 (Image (record { lsn = 10; body = low })) ∷ []

redo_has_all : redo_all old_copy 1 (start.pages 1) ≡ page_at start (onto old_copy []) 1
redo_has_all = refl

skipping_loses : redo_skipping old_copy 1 (start.pages 1) ≡ start.pages 1
skipping_loses = refl

-- ---- an undo that goes below a compensation comes to a structure change that was finished

abbrev grown : History
grown =
    record_of 50 1 40 30 1 (UndoInsert (key 2) 2)
    ∷ record_of 40 1 30 0 1 (InsertKey (key 2) 2)
    ∷ record_of 30 1 20 10 0 DummyClr
    ∷ record_of 20 1 10 0 1 (Smo low low)
    ∷ record_of 10 1 0 0 1 (InsertKey (key 1) 1)
    ∷ []

undo_comes_to_the_key : undo_reads (undo_next_of 1 grown) grown ≡ top_of (to_undo 1 grown)
undo_comes_to_the_key = refl

below_comes_to_the_split : undo_reads_below (undo_next_of 1 grown) grown ≡ Some (record_of 20 1 10 0 1 (Smo low low))
below_comes_to_the_split = refl
