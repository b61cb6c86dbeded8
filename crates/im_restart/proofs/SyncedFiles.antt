-- Whether a file of pages can be the one that a log was written beside: it has each page that it was synced with, and the last one was written under the log.
use Rattle.std.proofs.Common.{◌≡◌, ◌≤◌, ◌<◌, ℕ, List, ◌∷◌, [], Option, None, Some, All, inl, inr, refl, sym, ◌∙◌, ap, subst, arith}
use Rattle.std.specs.Cmp.{nat_cmp_total}
use Rattle.std.specs.Option.{option_map}
use Rattle.std.specs.Ordering.{nat_cmp}
use Rattle.std.specs.BTreeMap.{BTreeMap, IsOrdered, get}
use Rattle.std.proofs.lemmas.List.Elements.{All-cons, All-contains, All-head, All-tail}
use Rattle.std.proofs.lemmas.Map.Lookups.{exact_unsigned}
use Rattle.std.proofs.lemmas.Map.Views.{btree_map_get_iff}
use Rattle.im_base_types.specs.Pages.{Page}
use Rattle.im_base_types.specs.Records.{What, InsertKey, DeleteKey, UndoInsert, UndoDelete, Smo, UndoSmo, DummyClr, Commit, End, Image, Checkpoint, Unreadable, Logged}
use Rattle.im_theory_log.specs.Histories.{Base, History, IsRecordOf, Rises, below, end_of}
use Rattle.im_theory_log.specs.Copies.{noted}
use Rattle.im_theory_log.specs.PageCounts.{count_in, named_to}
use Rattle.im_theory_log.specs.RedoPoints.{CoversFrom}
use Rattle.im_theory_log.proofs.Cited.{page_lsn_le, rises_below, start_low, noted_named}
use Rattle.im_theory_page.specs.Header.{initial}
use Rattle.im_restart_analysis.specs.Changes.{AreChangedAt, AreLastBelow, LastMap}
use Rattle.im_restart_analysis.specs.declared.changes.LastChanges.{LastChanges}
use Rattle.im_restart_analysis.specs.CopyLsns.{AreCopies}
use Rattle.im_page_writer.specs.declared.known.Synced.{Synced}
use Rattle.im_page_writer.specs.Synced.{AreSyncedWith, SaysCount}
use Rattle.im_page_writer.proofs.ChangedPages.{below_low, changed_reaches, record_below}
use Rattle.im_restart.specs.Synced.{HasEach, IsUnder, Lacks}

-- ---- the loop

module _ (count : ℕ) (lsns copies : BTreeMap ℕ ℕ) where
  -- a pair of the map
  abbrev pub IsSynced : ℕ × ℕ → Type 0
  IsSynced e = get nat_cmp lsns e.0 ≡ Some e.1

  -- its page is in the file, or has a noted copy
  abbrev pub IsThere : ℕ × ℕ → Type 0
  IsThere e = get nat_cmp copies e.0 ≡ None → e.0 < count

  pub first_synced : (left rest : List (ℕ × ℕ)) (e : ℕ × ℕ) → left ≡ e ∷ rest → All IsSynced left → IsSynced e
  first_synced left rest e is all = All-head IsSynced e rest (subst (λ (l : List (ℕ × ℕ)). All IsSynced l) is all)

  pub rest_synced : (left rest : List (ℕ × ℕ)) (e : ℕ × ℕ) → left ≡ e ∷ rest → All IsSynced left → All IsSynced rest
  rest_synced left rest e is all = All-tail IsSynced e rest (subst (λ (l : List (ℕ × ℕ)). All IsSynced l) is all)

  pub rest_there : (left rest : List (ℕ × ℕ)) (e : ℕ × ℕ) → left ≡ e ∷ rest → IsThere e → All IsThere rest → All IsThere left
  rest_there left rest e is here all = subst (λ (l : List (ℕ × ℕ)). All IsThere l) (sym is) (All-cons IsThere e rest here all)

  pub each_there : IsOrdered nat_cmp lsns → (left : List (ℕ × ℕ)) → left ≡ lsns.entries → All IsThere left → HasEach count lsns copies
  each_there ordered left is all p l has =
      All-contains IsThere lsns.entries (p, l) (subst (λ (l : List (ℕ × ℕ)). All IsThere l) is all) ((btree_map_get_iff nat_cmp_total exact_unsigned lsns ordered p l).0 has)

-- ---- what a log that covers the file says of it

-- each record comes after what its log is over
record_high : (b : Base) (log : History) (r : Logged) → Rises b log → IsRecordOf r log → b.start < r.lsn
record_high b [] r up has = absurd has
record_high b (x ∷ older) r up (inl same) = let low = start_low b older up.0 in omega (arith, low, up.1, ap (λ (y : Logged). y.lsn) same)
record_high b (x ∷ older) r up (inr has) = record_high b older r up.0 has

map_none : (o : Option (ℕ × Page)) → option_map (λ (c : ℕ × Page). c.0) o ≡ None → o ≡ None
map_none None is = refl
map_none (Some c) is = absurd (cc is)

same_lsn : (g h : Page) → Some g ≡ Some h → g.lsn ≡ h.lsn
same_lsn g h is = let e : g ≡ h = cc is in ap (λ (x : Page). x.lsn) e

-- a page that no record names has no noted copy
unnamed : (from : ℕ) (log : History) (p : ℕ) → named_to log ≤ p → noted from log p ≡ None
unnamed from log p named = by (noted from log p) refl
  where
    by : (o : Option (ℕ × Page)) → noted from log p ≡ o → noted from log p ≡ None
    by None is = is
    by (Some x) is = absurd (let low = noted_named from log p x.0 x.1 is in omega (arith, low, named))

module _ (b : Base) (all : History) (point : ℕ) (file : ℕ → Option Page) (up : Rises b all) (covers : CoversFrom b point all file) where
  -- it lacks no page that it was synced with
  pub lacks_none : (said : Option ℕ) (count : ℕ) (lsns copies : BTreeMap ℕ ℕ) → AreChangedAt all point said lsns → AreCopies point copies all → ((p : ℕ) → count ≤ p → file p ≡ Some (initial p)) → Lacks count lsns copies → ⊥
  lacks_none said count lsns copies changed are past lacks =
      let i = changed lacks.page lacks.lsn lacks.synced in
      let read = covers.read lacks.page (map_none (noted point all lacks.page) (sym (are lacks.page) ∙ lacks.none)) in
      let zero : read.page.lsn ≡ 0 = same_lsn read.page (initial lacks.page) (sym read.here ∙ past lacks.page lacks.past) in
      let there = record_below b read.reaches.upto all i.logged up i.there (omega (arith, i.lsn, i.low, read.reaches.from)) in
      let reached = changed_reaches b lacks.page i.logged i.page i.changes (below read.reaches.upto all) (rises_below b read.reaches.upto all up) there in
      let high = record_high b all i.logged up i.there in
      omega (arith, reached, high, zero, ap (λ (x : Page). x.lsn) read.reaches.is)

  -- a page that no record names was written before the log's end
  pub last_under : (p end : ℕ) → named_to all ≤ p → end_of b all < end → IsUnder end (file p)
  last_under p end named over =
      let read = covers.read p (unnamed point all p named) in
      let low = page_lsn_le b (below read.reaches.upto all) p (rises_below b read.reaches.upto all up) in
      let least = below_low b read.reaches.upto all up in
      let under : read.page.lsn < end = omega (arith, ap (λ (x : Page). x.lsn) read.reaches.is, low, least, over) in
      subst (λ (o : Option Page). IsUnder end o) (sym read.here) under

-- ---- what a writer is to expect

-- a record that says a page count leaves it in page 0
says_count : (w : What) (n : ℕ) → 1 ≤ n → count_in w ≡ n → SaysCount w n
says_count (Smo old new) n some is = record { body = new; after = refl; count = is }
says_count (UndoSmo new) n some is = record { body = new; after = refl; count = is }
says_count (InsertKey k i) n some is = absurd (omega (arith, some, is))
says_count (DeleteKey k i) n some is = absurd (omega (arith, some, is))
says_count (UndoInsert k i) n some is = absurd (omega (arith, some, is))
says_count (UndoDelete k i) n some is = absurd (omega (arith, some, is))
says_count DummyClr n some is = absurd (omega (arith, some, is))
says_count Commit n some is = absurd (omega (arith, some, is))
says_count End n some is = absurd (omega (arith, some, is))
says_count (Image c) n some is = absurd (omega (arith, some, is))
says_count (Checkpoint m a d) n some is = absurd (omega (arith, some, is))
says_count Unreadable n some is = absurd (omega (arith, some, is))

pub synced_as : (log : History) (point : ℕ) (last : LastChanges) (synced : Synced) → synced.lsns ≡ last.lsns → synced.count ≡ last.count → AreLastBelow log point last → AreSyncedWith log point synced
synced_as log point last synced lsns count are p l has =
    let i = are.lsns p l (subst (λ (m : LastMap). get nat_cmp m p ≡ Some l) lsns has) in
    record {
      record_is = i.logged;
      there = i.there;
      page = i.page;
      changes = i.changes;
      lsn = i.lsn;
      low = i.low;
      says = λ zero n is. let says = i.says zero n (sym count ∙ is) in says_count i.logged.what n says.0 says.1;
    }
