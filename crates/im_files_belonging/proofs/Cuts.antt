-- The verdict over a folder does not change where its logs are cut: the one that was left to its first batch, the current one, without a record, to its closed gate.
use Rattle.std.proofs.Common.{◌≡◌, ◌⊎◌, inl, inr, ⊎_elim, ℕ, ◌+◌, ◌-◌, ◌/◌, ◌<◌, ◌≤◌, ◌==◌, ◌&&◌, ◌||◌, nat_le, nat_lt, not, if◌then◌else◌, Bool, true, false, true≢false, List, ◌++◌, length, take, replicate, slice_index, Result, Ok, Err, refl, sym, ◌∙◌, ap, subst, arith, take_all, append-nil, take-take}
use Rattle.std.specs.Prelude.{◌↔◌}
use Rattle.std.proofs.lemmas.Bool.{cases_Bool, cond-true, cond-false, leb-true, eqb-false, and_parts, or_parts}
use Rattle.std.proofs.lemmas.List.{get_or-take, length-take-le, take-append-le}
use Rattle.im_base_types.specs.declared.file_id.FileId.TheVariants.{Log, Pages, Log2}
use Rattle.im_files_belonging.specs.declared.folder.Folder.{Folder}
use Rattle.im_files_belonging.specs.declared.folder.Front.{Front}
use Rattle.im_files_belonging.specs.declared.folder.PagesFront.{PagesFront}
use Rattle.im_files_belonging.specs.declared.belonging.Logs.{Logs}
use Rattle.im_files_belonging.specs.declared.belonging.Apart.{Apart}
use Rattle.im_files_belonging.specs.declared.belonging.Apart.TheVariants.{Unfinished, NoFile, NoPages, ShortPages, NotALog}
use Rattle.im_log_header.specs.Header.{base_of, first_gate, generation_of, says_made, says_second, StartsAlike}
use Rattle.im_log_header.proofs.Beginnings.{gate_second, header_says}
use Rattle.im_log_header.proofs.Saying.{least_gate}
use Rattle.im_files_belonging.specs.Fronts.{front_says_made, front_says_second, gate_byte, shown, BeginsWithChange, HasChangeFirst}
use Rattle.im_files_belonging.specs.Belonging.{current, is_store, left, other_is_current, DoNotBelong, IsVerdict, LacksCounted, LacksFirst}
use Rattle.im_files_belonging.specs.LogCuts.{cut_folder, cut_front, end_at, length_kept, first_end, gone_of, has_batch_at, is_empty, kept_at, kept_of, log_cuts_of, shortened, size_at, was_left, AreRead, CutsAreSound}

-- ---- two beginnings of a log by which the same is decided

-- Both say that the log was made, and are longer than its header.
pub record WereCut (a b : Front) : Type 0 where
  pub made : front_says_made a ≡ true
  pub before : 47 < a.long
  pub after : 47 < b.long

-- They say the same of what a decision asks of the current log, and are as long, or cut.
pub record Alike (a b : Front) : Type 0 where
  pub there : b.is_there ≡ a.is_there
  pub made : front_says_made b ≡ front_says_made a
  pub second : front_says_second b ≡ front_says_second a
  pub generation : generation_of (shown b) ≡ generation_of (shown a)
  pub base : base_of (shown b) ≡ base_of (shown a)
  pub gate : gate_byte (shown b) ≡ gate_byte (shown a)
  pub long : (b.long ≡ a.long) ⊎ WereCut a b

-- with the same bytes they do
of_shown : (a b : Front) → b.is_there ≡ a.is_there → shown b ≡ shown a → (b.long ≡ a.long) ⊎ WereCut a b → Alike a b
of_shown a b there same long = record {
  there = there;
  made = ap (λ (l : List ℕ). says_made (take 47 l)) same;
  second = ap (λ (l : List ℕ). says_second (take 47 l)) same;
  generation = ap (λ (l : List ℕ). generation_of l) same;
  base = ap (λ (l : List ℕ). base_of l) same;
  gate = ap (λ (l : List ℕ). gate_byte l) same;
  long = long;
}

same_front : (a : Front) → Alike a a
same_front a = of_shown a a refl refl (inl refl)

module _ (a b : Front) (h : Alike a b) where
  turned : Alike b a
  turned = record {
    there = sym h.there;
    made = sym h.made;
    second = sym h.second;
    generation = sym h.generation;
    base = sym h.base;
    gate = sym h.gate;
    long = ⊎_elim (λ same. inl (sym same)) (λ cut. inr (record { made = h.made ∙ cut.made; before = cut.after; after = cut.before })) h.long;
  }

  longer : (n : ℕ) → n ≤ 47 → n < a.long → n < b.long
  longer n low more = elim h.long [
    | inl same ↦ omega (arith, same, more)
    | inr cut ↦ (let far = cut.after in omega (arith, low, far))
  ]

  -- one that was not made was not cut
  unmade_longer : front_says_made a ≡ false → 48 < a.long → 48 < b.long
  unmade_longer none more = elim h.long [
    | inl same ↦ omega (arith, same, more)
    | inr cut ↦ absurd (true≢false (sym cut.made ∙ none))
  ]

-- ---- two folders

-- Their logs are alike, the one that was left begins with a change in both or in none, and all else is the same.
pub record AlikeFolders (f g : Folder) : Type 0 where
  pub log : Alike f.log g.log
  pub log2 : Alike f.log2 g.log2
  pub said : BeginsWithChange (left f) ↔ BeginsWithChange (left g)
  pub pages : g.pages ≡ f.pages
  pub part : g.has_part ≡ f.has_part

turned_folders : (f g : Folder) → AlikeFolders f g → AlikeFolders g f
turned_folders f g h = record { log = turned f.log g.log h.log; log2 = turned f.log2 g.log2 h.log2; said = (h.said.1, h.said.0); pages = sym h.pages; part = sym h.part }

one_of : (t : Bool) (a b c d : Front) → Alike a b → Alike c d → Alike (if t then a else c) (if t then b else d)
one_of true a b c d x y = x
one_of false a b c d x y = y

-- the same log is the current one
same_current : (f g : Folder) → Alike f.log g.log → Alike f.log2 g.log2 → other_is_current g ≡ other_is_current f
same_current f g log log2 =
    ap (λ (n : ℕ). nat_lt n (generation_of (shown g.log2))) log.generation
    ∙ ap (λ (n : ℕ). nat_lt (generation_of (shown f.log)) n) log2.generation

module _ (f g : Folder) (h : AlikeFolders f g) where
  store_same : is_store g ≡ is_store f
  store_same = ap (λ (t : Bool). t || front_says_made g.log2) h.log.made ∙ ap (λ (t : Bool). front_says_made f.log || t) h.log2.made

  other_same : other_is_current g ≡ other_is_current f
  other_same = same_current f g h.log h.log2

  currents : Alike (current f) (current g)
  currents = subst (λ (t : Bool). Alike (current f) (if t then g.log2 else g.log)) (sym other_same) (one_of (other_is_current f) f.log2 g.log2 f.log g.log h.log2 h.log)

  counted : LacksCounted (base_of (shown (current f))) f.pages → LacksCounted (base_of (shown (current g))) g.pages
  counted lacks =
      subst (λ (at : ℕ). LacksCounted at g.pages) (sym currents.base)
      (subst (λ (p : PagesFront). LacksCounted (base_of (shown (current f))) p) (sym h.pages) lacks)

  first : LacksFirst (base_of (shown (current f))) (left f) f.pages → LacksFirst (base_of (shown (current g))) (left g) g.pages
  first lacks = (
    subst (λ (n : ℕ). 0 < n) (sym currents.base) lacks.0,
    subst (λ (p : PagesFront). p.long / 4096 < 1) (sym h.pages) lacks.1,
    h.said.0 lacks.2,
  )

  unmade : is_store f ≡ false → (front_says_made f.log ≡ false) × (front_says_made f.log2 ≡ false)
  unmade none = or_parts (front_says_made f.log) (front_says_made f.log2) none

  apart_same : (why : Apart) → DoNotBelong why f → DoNotBelong why g
  apart_same Unfinished half = h.part ∙ half
  apart_same (NoFile Log) lacks = (h.log.there ∙ lacks.0, longer f.log2 g.log2 h.log2 0 (omega arith) lacks.1)
  apart_same (NoFile Log2) lacks = (h.log.second ∙ lacks.0, h.log2.there ∙ lacks.1)
  apart_same (NoFile Pages) lacks = lacks
  apart_same NoPages lacks = (store_same ∙ lacks.0, ap (λ (p : PagesFront). p.is_there) h.pages ∙ lacks.1)
  apart_same ShortPages (inl lacks) = inl ((λ one. lacks.0 (sym currents.gate ∙ one)), counted lacks.1)
  apart_same ShortPages (inr lacks) = inr (first lacks)
  apart_same (NotALog Log) lacks = (store_same ∙ lacks.0, unmade_longer f.log g.log h.log (unmade lacks.0).0 lacks.1)
  apart_same (NotALog Log2) lacks = (store_same ∙ lacks.0, unmade_longer f.log2 g.log2 h.log2 (unmade lacks.0).1 lacks.1)
  apart_same (NotALog Pages) lacks = lacks

verdict_same : (f g : Folder) → AlikeFolders f g → (verdict : Result Logs Apart) → IsVerdict f verdict → IsVerdict g verdict
verdict_same f g h (Ok logs) so = record {
  none = λ why lacks. so.none why (apart_same g f (turned_folders f g h) why lacks);
  made = so.made ∙ sym (store_same f g h);
  current = so.current ∙ sym (other_same f g h);
}
verdict_same f g h (Err why) lacks = apart_same f g h why lacks

-- ---- a log that is cut to its first batch

-- It was made, has so much left, which is more than is read of it, and it was as long.
pub record IsFar (kept : ℕ) (front : Front) : Type 0 where
  pub made : front_says_made front ≡ true
  pub whole : 65 ≤ kept
  pub within : kept ≤ front.long

bytes_stay : (kept : ℕ) (front : Front) → length front.bytes ≡ 65 → IsFar kept front → (cut_front kept front).bytes ≡ front.bytes
bytes_stay kept front read far =
    let whole = far.whole in
    let none : length front.bytes - kept ≡ 0 = omega (arith, read, whole) in
    ap (λ (l : List ℕ). l ++ replicate (length front.bytes - kept) 0) (take_all kept front.bytes (omega (arith, read, whole)))
    ∙ ap (λ (n : ℕ). front.bytes ++ replicate n 0) none
    ∙ append-nil front.bytes

far_same : (kept : ℕ) (front : Front) → length front.bytes ≡ 65 → IsFar kept front → shown (cut_front kept front) ≡ shown front
far_same kept front read far =
    let whole = far.whole in
    let within = far.within in
    ap (λ (l : List ℕ). take kept l) (bytes_stay kept front read far)
    ∙ take_all kept front.bytes (omega (arith, read, whole))
    ∙ sym (take_all front.long front.bytes (omega (arith, read, whole, within)))

far_alike : (kept : ℕ) (front : Front) → length front.bytes ≡ 65 → IsFar kept front → Alike front (cut_front kept front)
far_alike kept front read far =
    let whole = far.whole in
    let within = far.within in
    of_shown front (cut_front kept front) refl (far_same kept front read far)
    (inr (record { made = far.made; before = omega (arith, whole, within); after = omega (arith, whole) }))

-- Where a batch stands after a gate it ends there; else nothing stays.
kept_far : (gate : ℕ) (front : Front) → front_says_made front ≡ true → 31 ≤ gate → (kept_at gate front ≡ 0) ⊎ IsFar (kept_at gate front) front
kept_far gate front made low = elim (cases_Bool (has_batch_at gate front)) [
  | inr none ↦ inl (cond-false (has_batch_at gate front) (end_at gate front) 0 none)
  | inl there ↦ inr (is_far there)
]
  where
    is_far : has_batch_at gate front ≡ true → IsFar (kept_at gate front) front
    is_far there =
        let ends = and_parts ((slice_index front.bytes gate == 1) && nat_le 33 (size_at gate front) && nat_le (size_at gate front) 16384) (nat_le (end_at gate front) front.long) there in
        let sized = and_parts ((slice_index front.bytes gate == 1) && nat_le 33 (size_at gate front)) (nat_le (size_at gate front) 16384) ends.0 in
        let some = and_parts (slice_index front.bytes gate == 1) (nat_le 33 (size_at gate front)) sized.0 in
        let least = leb-true 33 (size_at gate front) some.1 in
        let most = leb-true (end_at gate front) front.long ends.1 in
        let far : IsFar (end_at gate front) front = record { made = made; whole = omega (arith, least, low); within = most } in
        subst (λ (k : ℕ). IsFar k front) (sym (cond-true (has_batch_at gate front) (end_at gate front) 0 there)) far

first_far : (front : Front) → (first_end front ≡ 0) ⊎ IsFar (first_end front) front
first_far front = elim (cases_Bool (front_says_made front)) [
  | inl made ↦ by (cond-true (front_says_made front) (kept_at (first_gate (shown front)) front) 0 made) (kept_far (first_gate (shown front)) front made (least_gate (shown front)))
  | inr none ↦ inl (cond-false (front_says_made front) (kept_at (first_gate (shown front)) front) 0 none)
]
  where
    by : first_end front ≡ kept_at (first_gate (shown front)) front → (kept_at (first_gate (shown front)) front ≡ 0) ⊎ IsFar (kept_at (first_gate (shown front)) front) front
        → (first_end front ≡ 0) ⊎ IsFar (first_end front) front
    by is (inl none) = inl (is ∙ none)
    by is (inr far) = inr (subst (λ (k : ℕ). IsFar k front) (sym is) far)

-- ---- a log without a record that is cut to its closed gate

module _ (front : Front) (read : length front.bytes ≡ 65) (second : front_says_second front ≡ true) (more : 48 < front.long) where
  cut_is : shown (cut_front 48 front) ≡ take 48 (shown front)
  cut_is =
      take-append-le 48 (take 48 front.bytes) (replicate (length front.bytes - 48) 0) (omega (arith, read, length-take-le 48 front.bytes (omega (arith, read))))
      ∙ take-take 48 48 front.bytes (omega arith)
      ∙ sym (take-take 48 front.long front.bytes (omega (arith, more)))

  -- its header stays
  header : take 47 (shown (cut_front 48 front)) ≡ take 47 (shown front)
  header = ap (λ (l : List ℕ). take 47 l) cut_is ∙ take-take 47 48 (shown front) (omega arith)

  says : StartsAlike (shown front) (shown (cut_front 48 front)) × (generation_of (shown (cut_front 48 front)) ≡ generation_of (shown front))
  says = header_says (shown front) (shown (cut_front 48 front)) header

  -- and its gate
  gate_stays : gate_byte (shown (cut_front 48 front)) ≡ gate_byte (shown front)
  gate_stays =
      let at = gate_second (shown front) second in
      ap (λ (n : ℕ). slice_index (shown (cut_front 48 front)) n) says.0.gate
      ∙ ap (λ (l : List ℕ). slice_index l (first_gate (shown front))) cut_is
      ∙ get_or-take 48 (shown front) (first_gate (shown front)) 0 (omega (arith, at))

  empty_alike : Alike front (cut_front 48 front)
  empty_alike = record {
    there = refl;
    made = ap (λ (h : List ℕ). says_made h) header;
    second = ap (λ (h : List ℕ). says_second h) header;
    generation = says.1;
    base = says.0.base;
    gate = gate_stays;
    long = inr (record { made = (and_parts (front_says_made front) (slice_index (take 47 (shown front)) 8 == 50) second).0; before = omega (arith, more); after = omega arith });
  }

-- ---- what is cut

-- Where something goes, something stays, and it is within the log.
pub gone_some : (kept : ℕ) (front : Front) → (gone_of kept front ≡ 0 → ⊥) → (kept ≡ 0 → ⊥) × (kept < front.long)
gone_some kept front some = elim (cases_Bool (kept == 0)) [
  | inl none ↦ absurd (some (cond-true (kept == 0) 0 (front.long - kept) none))
  | inr stays ↦ (let left_over : front.long - kept ≡ 0 → ⊥ = λ none. some (cond-false (kept == 0) 0 (front.long - kept) stays ∙ none) in (eqb-false kept 0 stays, within left_over))
]
  where
    within : (front.long - kept ≡ 0 → ⊥) → kept < front.long
    within some_left = omega (arith, some_left)

shortened_alike : (kept : ℕ) (front : Front) → ((gone_of kept front ≡ 0 → ⊥) → Alike front (cut_front kept front)) → Alike front (shortened kept (gone_of kept front) front)
shortened_alike kept front cut = elim (cases_Bool (gone_of kept front == 0)) [
  | inl none ↦ subst (λ (g : Front). Alike front g) (sym (cond-true (gone_of kept front == 0) front (cut_front kept front) none)) (same_front front)
  | inr some ↦ subst (λ (g : Front). Alike front g) (sym (cond-false (gone_of kept front == 0) front (cut_front kept front) some)) (cut (eqb-false (gone_of kept front) 0 some))
]

shortened_same : (kept : ℕ) (front : Front) → ((gone_of kept front ≡ 0 → ⊥) → shown (cut_front kept front) ≡ shown front) → shown (shortened kept (gone_of kept front) front) ≡ shown front
shortened_same kept front cut = elim (cases_Bool (gone_of kept front == 0)) [
  | inl none ↦ ap (λ (g : Front). shown g) (cond-true (gone_of kept front == 0) front (cut_front kept front) none)
  | inr some ↦ ap (λ (g : Front). shown g) (cond-false (gone_of kept front == 0) front (cut_front kept front) some) ∙ cut (eqb-false (gone_of kept front) 0 some)
]

-- It has no record, and its header and gate stay.
pub record IsEmptied (end : ℕ) (front : Front) : Type 0 where
  pub is : end ≡ 48
  pub second : front_says_second front ≡ true
  pub closed : gate_byte (shown front) ≡ 1 → ⊥

module _ (f : Folder) where
  -- where anything of the log that was left goes, more stays than is read
  pub kept_is_far : (kept_of f ≡ 0 → ⊥) → IsFar (kept_of f) (left f)
  kept_is_far some = elim (cases_Bool (was_left f)) [
    | inr none ↦ absurd (some (cond-false (was_left f) (first_end (left f)) 0 none))
    | inl later ↦ by (cond-true (was_left f) (first_end (left f)) 0 later) (first_far (left f))
  ]
    where
      by : kept_of f ≡ first_end (left f) → (first_end (left f) ≡ 0) ⊎ IsFar (first_end (left f)) (left f) → IsFar (kept_of f) (left f)
      by is (inl none) = absurd (some (is ∙ none))
      by is (inr far) = subst (λ (k : ℕ). IsFar k (left f)) (sym is) far

  -- where anything of the current one goes, that has no record
  pub end_is_gate : (length_kept f ≡ 0 → ⊥) → IsEmptied (length_kept f) (current f)
  end_is_gate some = elim (cases_Bool (was_left f && is_empty (current f))) [
    | inr none ↦ absurd (some (cond-false (was_left f && is_empty (current f)) (first_gate (shown (current f)) + 1) 0 none))
    | inl there ↦ by there (and_parts (front_says_second (current f)) (not (gate_byte (shown (current f)) == 1)) (and_parts (was_left f) (is_empty (current f)) there).1)
  ]
    where
      by : (was_left f && is_empty (current f)) ≡ true → (front_says_second (current f) ≡ true) × (not (gate_byte (shown (current f)) == 1) ≡ true) → IsEmptied (length_kept f) (current f)
      by there both = record {
        is = cond-true (was_left f && is_empty (current f)) (first_gate (shown (current f)) + 1) 0 there ∙ ap (λ (n : ℕ). n + 1) (gate_second (shown (current f)) both.0);
        second = both.0;
        closed = λ (one : gate_byte (shown (current f)) ≡ 1). true≢false (sym both.1 ∙ ap (λ (x : ℕ). not (x == 1)) one);
      }

module _ (f : Folder) (read : AreRead f) where
  reads : (t : Bool) → length (if t then f.log2 else f.log).bytes ≡ 65
  reads true = read.log2
  reads false = read.log

  reads_other : (t : Bool) → length (if t then f.log else f.log2).bytes ≡ 65
  reads_other true = read.log
  reads_other false = read.log2

  abbrev new_left : Front
  new_left = shortened (kept_of f) (gone_of (kept_of f) (left f)) (left f)

  abbrev new_current : Front
  new_current = shortened (length_kept f) (gone_of (length_kept f) (current f)) (current f)

  left_alike : Alike (left f) new_left
  left_alike = shortened_alike (kept_of f) (left f) (λ some. far_alike (kept_of f) (left f) (reads_other (other_is_current f)) (kept_is_far f (gone_some (kept_of f) (left f) some).0))

  left_same : shown new_left ≡ shown (left f)
  left_same = shortened_same (kept_of f) (left f) (λ some. far_same (kept_of f) (left f) (reads_other (other_is_current f)) (kept_is_far f (gone_some (kept_of f) (left f) some).0))

  current_alike : Alike (current f) new_current
  current_alike = shortened_alike (length_kept f) (current f) (λ some. cut (gone_some (length_kept f) (current f) some))
    where
      cut : (length_kept f ≡ 0 → ⊥) × (length_kept f < (current f).long) → Alike (current f) (cut_front (length_kept f) (current f))
      cut goes =
          let emptied = end_is_gate f goes.0 in
          subst (λ (n : ℕ). Alike (current f) (cut_front n (current f))) (sym emptied.is)
          (empty_alike (current f) (reads (other_is_current f)) emptied.second (subst (λ (n : ℕ). n < (current f).long) emptied.is goes.1))

  left_said : BeginsWithChange (left f) ↔ BeginsWithChange new_left
  left_said = (subst HasChangeFirst (sym left_same), subst HasChangeFirst left_same)

-- the folder whose logs are these, by which of them is the current one
abbrev put_together : Bool → Folder → Front → Front → Folder
put_together t f the_left the_current = if not t then record f { log = the_current; log2 = the_left } else record f { log = the_left; log2 = the_current }

-- It is alike where they are.
together_alike : (t : Bool) (f : Folder) (l c : Front) → other_is_current f ≡ t → Alike (if t then f.log else f.log2) l → Alike (if t then f.log2 else f.log) c
    → (BeginsWithChange (if t then f.log else f.log2) ↔ BeginsWithChange l) → AlikeFolders f (put_together t f l c)
together_alike true f l c is of_left of_current said =
    let g = record f { log = l; log2 = c } in
    let other : other_is_current g ≡ true = same_current f g of_left of_current ∙ is in
    let left_f : left f ≡ f.log = cond-true (other_is_current f) f.log f.log2 is in
    let left_g : left g ≡ l = cond-true (other_is_current g) l c other in
    record {
      log = of_left;
      log2 = of_current;
      pages = refl;
      part = refl;
      said = (
        (λ so. subst BeginsWithChange (sym left_g) (said.0 (subst BeginsWithChange left_f so))),
        (λ so. subst BeginsWithChange (sym left_f) (said.1 (subst BeginsWithChange left_g so))),
      );
    }
together_alike false f l c is of_left of_current said =
    let g = record f { log = c; log2 = l } in
    let other : other_is_current g ≡ false = same_current f g of_current of_left ∙ is in
    let left_f : left f ≡ f.log2 = cond-false (other_is_current f) f.log f.log2 is in
    let left_g : left g ≡ l = cond-false (other_is_current g) c l other in
    record {
      log = of_current;
      log2 = of_left;
      pages = refl;
      part = refl;
      said = (
        (λ so. subst BeginsWithChange (sym left_g) (said.0 (subst BeginsWithChange left_f so))),
        (λ so. subst BeginsWithChange (sym left_f) (said.1 (subst BeginsWithChange left_g so))),
      );
    }

-- the folder after the cuts is the one with the shorter logs
cuts_are : (t : Bool) (f : Folder) (kept gone end after : ℕ)
    → cut_folder (record { kept = kept; gone = gone; end = end; after = after; is_log2 = not t }) f
    ≡ put_together t f (shortened kept gone (if t then f.log else f.log2)) (shortened end after (if t then f.log2 else f.log))
cuts_are true f kept gone end after = refl
cuts_are false f kept gone end after = refl

cut_folder_alike : (f : Folder) → AreRead f → AlikeFolders f (cut_folder (log_cuts_of f) f)
cut_folder_alike f read =
    subst (λ (g : Folder). AlikeFolders f g) (sym (cuts_are (other_is_current f) f (kept_of f) (gone_of (kept_of f) (left f)) (length_kept f) (gone_of (length_kept f) (current f))))
    (together_alike (other_is_current f) f (new_left f read) (new_current f read) refl (left_alike f read) (current_alike f read) (left_said f read))

pub sound : CutsAreSound
sound f read verdict =
    let g = cut_folder (log_cuts_of f) f in
    let alike = cut_folder_alike f read in
    (verdict_same g f (turned_folders f g alike) verdict, verdict_same f g alike verdict)
