-- Pages are lent, one after another, and taken back.
use Rattle.std.proofs.Common.{◌≡◌, ◌≢◌, inl, inr, ℕ, ◌+◌, ◌<◌, ◌≤◌, List, [], ◌∷◌, length, Bool, true, false, refl, sym, ◌∙◌, ap, subst, arith, Option, Some, None}
use Rattle.std.specs.Prelude.{slice_index_or, option_map, is_some, ◌==◌, if◌then◌else◌, ◌||◌}
use Rattle.std.specs.Option.{option_map_or}
use Rattle.std.proofs.lemmas.Bool.{cases_eq, cases_lt}
use Rattle.im_base_types.specs.Pages.{Page}
use Rattle.im_theory_log.specs.Writer.{DirtyEntry}
use Rattle.im_base_types.specs.Records.{Logged}
use Rattle.im_theory_log.specs.Copies.{redo_all}
use Rattle.im_theory_page.specs.Header.{initial}
use Rattle.im_page_pool.specs.declared.frame.Frame.{Frame}
use Rattle.im_page_pool.specs.Pool.{Held, Holds, PoolView, Sets, frame_of, held_of, is_changed, page_at}
use Rattle.im_page_table.specs.declared.table_entry.TableEntry.{TableEntry}
use Rattle.im_page_table.specs.DirtyTable.{TableView, dirty_entry, entry_in, put, put_among, table_entry}
use Rattle.im_page_rounds.specs.declared.round_page.RoundPage.{RoundPage}
use Rattle.im_page_rounds.specs.declared.worker.Worker.{Worker}
use Rattle.im_page_rounds.specs.Hand.{AreRising, is_applied}
use Rattle.im_page_rounds.specs.Workers.{AreRedone, AreThese, page_in}
use Rattle.im_page_rounds.proofs.Places.{item_at, page_of}
use Rattle.im_page_writer.specs.declared.page_writer.PageWriter.{PageWriter}
use Rattle.im_page_writer.specs.Rounds.{AreHeld, AreShown, IsBack, IsOther, Lends, LendsAll, RoundHere, TakesBack, entry_after}

-- ---- different numbers

pub differ : (numbers : List ℕ) (i j : ℕ) → AreRising numbers → i < length numbers → j < length numbers → i ≢ j → slice_index_or numbers i 0 ≢ slice_index_or numbers j 0
differ numbers i j rising i_in j_in ne = λ same. elim (cases_lt i j) [
  | inl lt ↦ let less = rising i j lt j_in in absurd (omega (arith, less, same))
  | inr ge ↦ elim (cases_eq i j) [
    | inl e ↦ absurd (ne e)
    | inr other ↦ (let lt : j < i = omega (arith, ge, other) in let less = rising j i lt i_in in absurd (omega (arith, less, same)))
  ]
]

-- a number is none of those before it
pub other_before : (numbers : List ℕ) (n : ℕ) → AreRising numbers → n < length numbers → IsOther numbers n (slice_index_or numbers n 0)
other_before numbers n rising within i lt = differ numbers i n rising (omega (arith, lt, within)) within (λ e. absurd (omega (arith, e, lt)))

fewer : (numbers : List ℕ) (n q : ℕ) → IsOther numbers (n + 1) q → IsOther numbers n q
fewer numbers n q other i lt = other i (omega (arith, lt))

-- ---- a held page

held_page : (pool : PoolView) (p : ℕ) (h : Held) → held_of pool p ≡ Some h → page_at pool p ≡ h.page
held_page pool p h is = ap (λ (o : Option Held). option_map_or (λ h. h.page) o (initial 0)) is

-- A frame that was found, with what is held there.
pub record Found (pool : PoolView) (number : ℕ) (frame : Frame) : Type 0 where
  pub was : Held
  pub held : held_of pool number ≡ Some was
  pub place : was.place ≡ frame.place
  pub is : frame.number ≡ number

found_in : (pool : PoolView) (number : ℕ) (frame : Frame) (o : Option Held) → held_of pool number ≡ o → Some frame ≡ option_map (λ (h : Held). frame_of (number, h)) o → Found pool number frame
found_in pool number frame None held is = absurd (cc is)
found_in pool number frame (Some h) held is =
    let same : frame ≡ frame_of (number, h) = cc is in
    record { was = h; held = held; place = ap (λ (f : Frame). f.place) (sym same); is = ap (λ (f : Frame). f.number) same }

pub found : (pool : PoolView) (number : ℕ) (frame : Frame) → Some frame ≡ option_map (λ (h : Held). frame_of (number, h)) (held_of pool number) → Found pool number frame
found pool number frame is = found_in pool number frame (held_of pool number) refl is

changed_is : (pool : PoolView) (p : ℕ) (h : Held) → held_of pool p ≡ Some h → is_changed pool p ≡ h.changed
changed_is pool p h is = ap (λ (o : Option Held). option_map_or (λ h. h.changed) o false) is

lacking : (number : ℕ) (o : Option Held) → None ≡ option_map (λ (h : Held). frame_of (number, h)) o → is_some o ≡ true → ⊥
lacking number None is held = let clash : false ≡ true = held in cc clash
lacking number (Some h) is held = cc is

-- a held page is found
pub not_lacking : (pool : PoolView) (number : ℕ) → None ≡ option_map (λ (h : Held). frame_of (number, h)) (held_of pool number) → Holds pool number → ⊥
not_lacking pool number is held = lacking number (held_of pool number) is held

module _ (pool new : PoolView) (number : ℕ) (frame : Frame) (f : Found pool number frame) where
  pub lend_one : (x : RoundPage) (spare : Page) (changed : Bool) → changed ≡ is_changed pool frame.number → x.page.value ≡ page_at pool frame.number → x.changed ≡ false → Sets frame spare changed pool new → Lends number x pool new
  lend_one x spare changed marked out unchanged sets = record {
    was = f.was;
    held = f.held;
    out = out ∙ ap (page_at pool) f.is ∙ held_page pool number f.was f.held;
    unchanged = unchanged;
    spare = spare;
    now = sym (ap (held_of new) f.is) ∙ sets.here ∙ ap (λ (n : ℕ). Some (record { place = n; page = spare; changed = changed })) (sym f.place)
        ∙ ap (λ (c : Bool). Some (record { place = f.was.place; page = spare; changed = c })) (marked ∙ ap (is_changed pool) f.is ∙ changed_is pool number f.was f.held);
  }

  pub set_others : (g : Page) (changed : Bool) → Sets frame g changed pool new → (q : ℕ) → q ≢ number → held_of new q ≡ held_of pool q
  set_others g changed sets q ne = sets.others q (λ e. absurd (ne (e ∙ f.is)))

  pub back_one : (x : RoundPage) (changed : Bool) → changed ≡ (is_changed pool frame.number || x.changed) → Sets frame x.page.value changed pool new → (was : Held) → held_of pool number ≡ Some was → IsBack was x new number
  back_one x changed marked sets was held =
      let same : f.was ≡ was = (let e : Some f.was ≡ Some was = sym f.held ∙ held in cc e) in
      sym (ap (held_of new) f.is) ∙ sets.here ∙ ap (λ (n : ℕ). Some (record { place = n; page = x.page.value; changed = changed })) (sym f.place ∙ ap (λ (h : Held). h.place) same)
      ∙ ap (λ (c : Bool). Some (record { place = was.place; page = x.page.value; changed = c })) (marked ∙ ap (λ (c : Bool). c || x.changed) (ap (is_changed pool) f.is ∙ changed_is pool number was held))

-- ---- loans

pub lends_none : (numbers : List ℕ) (page : ℕ → RoundPage) (pool : PoolView) → LendsAll numbers 0 page pool pool
lends_none numbers page pool = record { these = λ i lt. absurd (omega (arith, lt)); others = λ q other. refl; frames = refl }

pub lends_more : (numbers : List ℕ) (n : ℕ) (page next : ℕ → RoundPage) (old mid new : PoolView) → AreRising numbers → n < length numbers → LendsAll numbers n page old mid → Lends (slice_index_or numbers n 0) (next n) mid new
    → ((i : ℕ) → i ≢ n → next i ≡ page i) → ((q : ℕ) → q ≢ slice_index_or numbers n 0 → held_of new q ≡ held_of mid q) → new.frames ≡ mid.frames → LendsAll numbers (n + 1) next old new
lends_more numbers n page next old mid new rising within so one kept others frames = record {
  these = λ i lt. elim (cases_eq i n) [
    | inl e ↦ subst (λ (k : ℕ). Lends (slice_index_or numbers k 0) (next k) old new) (sym e)
        (record { was = one.was; held = sym (so.others (slice_index_or numbers n 0) (other_before numbers n rising within)) ∙ one.held; out = one.out; unchanged = one.unchanged; spare = one.spare; now = one.now })
    | inr ne ↦
        (let low : i < n = omega (arith, lt, ne) in
        let l = so.these i low in
        subst (λ (y : RoundPage). Lends (slice_index_or numbers i 0) y old new) (sym (kept i ne))
        (record { was = l.was; held = l.held; out = l.out; unchanged = l.unchanged; spare = l.spare; now = others (slice_index_or numbers i 0) (differ numbers i n rising (omega (arith, low, within)) within ne) ∙ l.now }))
  ];
  others = λ q other. others q (λ e. other n (omega arith) (sym e)) ∙ so.others q (fewer numbers n q other);
  frames = frames ∙ so.frames;
}

-- a page that is still to be lent is held
pub lends_next : (numbers : List ℕ) (n : ℕ) (page : ℕ → RoundPage) (old new : PoolView) → AreRising numbers → n < length numbers → AreHeld numbers old → LendsAll numbers n page old new → Holds new (slice_index_or numbers n 0)
lends_next numbers n page old new rising within held so = ap (λ (o : Option Held). is_some o) (so.others (slice_index_or numbers n 0) (other_before numbers n rising within)) ∙ held n within

-- a lent one is held
pub lent_held : (numbers : List ℕ) (page : ℕ → RoundPage) (old new : PoolView) → LendsAll numbers (length numbers) page old new → AreHeld numbers new
lent_held numbers page old new so i lt = ap (λ (o : Option Held). is_some o) (so.these i lt).now

-- ---- pages that come back

put_most : (p : ℕ) (f : Option DirtyEntry → DirtyEntry) (xs : List TableEntry) → length (put_among p f xs) ≤ length xs + 1
put_most p f [] = omega arith
put_most p f (x ∷ xs) = by (x.page == p) (put_most p f xs)
  where
    by : (here : Bool) → length (put_among p f xs) ≤ length xs + 1 → length (if here then table_entry p (f (Some (dirty_entry x))) ∷ xs else x ∷ put_among p f xs) ≤ length (x ∷ xs) + 1
    by true le = omega arith
    by false le = omega (arith, le)

-- the table has one entry more at most
pub entries_most : (p : ℕ) (f : Option DirtyEntry → DirtyEntry) (old new : TableView) → new ≡ put p f old → length new.entries ≤ length old.entries + 1
entries_most p f old new is = subst (λ (t : TableView). length t.entries ≤ length old.entries + 1) (sym is) (put_most p f old.entries)

-- a page that is still to be taken back is held
pub back_next : (numbers : List ℕ) (n point : ℕ) (known : ℕ → Bool) (page : ℕ → RoundPage) (old new : PoolView) (one two : TableView) → AreRising numbers → n < length numbers → AreHeld numbers old → TakesBack numbers n point known page old new one two
    → Holds new (slice_index_or numbers n 0)
back_next numbers n point known page old new one two rising within held so = ap (λ (o : Option Held). is_some o) (so.others (slice_index_or numbers n 0) (other_before numbers n rising within)) ∙ held n within

pub back_none : (numbers : List ℕ) (point : ℕ) (known : ℕ → Bool) (page : ℕ → RoundPage) (pool : PoolView) (table : TableView) → TakesBack numbers 0 point known page pool pool table table
back_none numbers point known page pool table = record { these = λ i was lt. absurd (omega (arith, lt)); others = λ q other. refl; entries = λ i lt. absurd (omega (arith, lt)); other_entries = λ q other. refl; frames = refl }

module _ (numbers : List ℕ) (n point : ℕ) (known : ℕ → Bool) (page : ℕ → RoundPage) (x : RoundPage) (old mid new : PoolView) (one two three : TableView) (rising : AreRising numbers) (within : n < length numbers)
    (so : TakesBack numbers n point known page old mid one two) (is : page n ≡ x)
    (back : (was : Held) → held_of mid (slice_index_or numbers n 0) ≡ Some was → IsBack was x new (slice_index_or numbers n 0))
    (others : (q : ℕ) → q ≢ slice_index_or numbers n 0 → held_of new q ≡ held_of mid q)
    (entry : entry_in three (slice_index_or numbers n 0) ≡ entry_after x.changed (known (slice_index_or numbers n 0)) point (entry_in two (slice_index_or numbers n 0)))
    (other_entries : (q : ℕ) → q ≢ slice_index_or numbers n 0 → entry_in three q ≡ entry_in two q) (frames : new.frames ≡ mid.frames) where
  pub back_more : TakesBack numbers (n + 1) point known page old new one three
  back_more = record {
    these = λ i was lt held. elim (cases_eq i n) [
      | inl e ↦ subst (λ (k : ℕ). IsBack was (page k) new (slice_index_or numbers k 0)) (sym e)
          (subst (λ (y : RoundPage). IsBack was y new (slice_index_or numbers n 0)) (sym is)
          (back was (so.others (slice_index_or numbers n 0) (other_before numbers n rising within) ∙ subst (λ (k : ℕ). held_of old (slice_index_or numbers k 0) ≡ Some was) e held)))
      | inr ne ↦ (let low : i < n = omega (arith, lt, ne) in others (slice_index_or numbers i 0) (differ numbers i n rising (omega (arith, low, within)) within ne) ∙ so.these i was low held)
    ];
    others = λ q other. others q (λ e. other n (omega arith) (sym e)) ∙ so.others q (fewer numbers n q other);
    entries = λ i lt. elim (cases_eq i n) [
      | inl e ↦ subst (λ (k : ℕ). entry_in three (slice_index_or numbers k 0) ≡ entry_after (page k).changed (known (slice_index_or numbers k 0)) point (entry_in one (slice_index_or numbers k 0))) (sym e)
          (subst (λ (y : RoundPage). entry_in three (slice_index_or numbers n 0) ≡ entry_after y.changed (known (slice_index_or numbers n 0)) point (entry_in one (slice_index_or numbers n 0))) (sym is)
          (entry ∙ ap (entry_after x.changed (known (slice_index_or numbers n 0)) point) (so.other_entries (slice_index_or numbers n 0) (other_before numbers n rising within))))
      | inr ne ↦ (let low : i < n = omega (arith, lt, ne) in other_entries (slice_index_or numbers i 0) (differ numbers i n rising (omega (arith, low, within)) within ne) ∙ so.entries i low)
    ];
    other_entries = λ q other. other_entries q (λ e. other n (omega arith) (sym e)) ∙ so.other_entries q (fewer numbers n q other);
    frames = frames ∙ so.frames;
  }

-- ---- a round, its pages held

-- what is lent are the pages
pub lent_these : (numbers : List ℕ) (workers : List Worker) (old new : PoolView) (g : ℕ → Page) → AreShown numbers old g → ((w : Worker) (d : RoundPage) → LendsAll numbers (length numbers) (λ i. page_in workers i w d) old new) → AreThese numbers workers g (λ q. false)
lent_these numbers workers old new g shown lends i w d lt = let l = (lends w d).these i lt in record { page = l.out ∙ shown i l.was lt l.held; changed = l.unchanged }

pub shown_here : (numbers : List ℕ) (pool : PoolView) → AreShown numbers pool (page_at pool)
shown_here numbers pool i h lt held = sym (held_page pool (slice_index_or numbers i 0) h held)

-- lent, redone, and taken back
pub round_back : (numbers : List ℕ) (point : ℕ) (known : ℕ → Bool) (rs : List Logged) (old new : PageWriter) (mid : PoolView) (table : TableView) (lent redone : List Worker) (count : ℕ) → 0 < length lent
    → ((w : Worker) (d : RoundPage) → LendsAll numbers (length numbers) (λ i. page_in lent i w d) old.pool mid) → AreRedone numbers rs (page_at old.pool) (λ q. false) count redone → table ≡ old.table
    → ((w : Worker) (d : RoundPage) → TakesBack numbers (length numbers) point known (λ i. page_in redone i w d) mid new.pool table new.table) → RoundHere numbers point known rs old new
round_back numbers point known rs old new mid table lent redone count some lends done same back = record {
  among = done.among;
  these = λ i lt.
      let p : ℕ = slice_index_or numbers i 0 in
      let w : Worker = item_at lent 0 some in
      let d : RoundPage = page_of w in
      let l = (lends w d).these i lt in
      let is = done.pages i w d lt in
      let page : (page_in redone i w d).page.value ≡ redo_all rs p l.was.page = is.page ∙ ap (redo_all rs p) (held_page old.pool p l.was l.held) in
      let changed : (page_in redone i w d).changed ≡ is_applied rs p l.was.page = is.changed ∙ ap (is_applied rs p) (held_page old.pool p l.was l.held) in
      record {
        was = l.was;
        held = l.held;
        now = (back w d).these i (record l.was { page = l.spare }) lt l.now
            ∙ ap (λ (g : Page). Some (record l.was { page = g; changed = l.was.changed || (page_in redone i w d).changed })) page
            ∙ ap (λ (c : Bool). Some (record l.was { page = redo_all rs p l.was.page; changed = l.was.changed || c })) changed;
        entry = (back w d).entries i lt ∙ ap (λ (c : Bool). entry_after c (known p) point (entry_in table p)) changed ∙ ap (λ (t : TableView). entry_after (is_applied rs p l.was.page) (known p) point (entry_in t p)) same;
      };
  others = λ q other. let w : Worker = item_at lent 0 some in (back w (page_of w)).others q other ∙ (lends w (page_of w)).others q other;
  other_entries = λ q other. let w : Worker = item_at lent 0 some in (back w (page_of w)).other_entries q other ∙ ap (λ (t : TableView). entry_in t q) same;
}
