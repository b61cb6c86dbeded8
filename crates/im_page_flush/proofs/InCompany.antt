-- Images that join the log ahead of their pages' writes: the dirty table keeps its room, and a flush after them costs what it would cost before.
use Rattle.std.proofs.Common.{◌≡◌, ◌≤◌, ◌+◌, ℕ, suc, List, [], ◌∷◌, Bool, true, Option, Some, inl, inr, sym, ap, subst, ◌∙◌, arith, length}
use Rattle.std.specs.Prelude.{◌==◌, nat_lt, ◌||◌}
use Rattle.std.specs.Option.{is_some}
use Rattle.std.proofs.lemmas.Bool.{cases_eq, cond-true, cond-false, eq-eqb, ne_eqb}
use Rattle.im_theory_log.specs.Writer.{DirtyEntry}
use Rattle.im_base_disk.specs.declared.disk.Disk.{Ghosts}
use Rattle.im_base_disk.specs.Runs.{Costs, Reads}
use Rattle.im_page_table.specs.declared.table_entry.TableEntry.{TableEntry}
use Rattle.im_page_table.specs.DirtyTable.{TableView, table_entry, dirty_entry, entry_among, entry_in, has_room, put, put_among}
use Rattle.im_page_table.proofs.Tables.{first_not, held_put_other, put_some, room_there}
use Rattle.im_page_flush.specs.Costs.{PageCosts}
use Rattle.im_page_flush.proofs.Costs.{costs_counted}

-- an entry that is there is put in its place
put_length : (f : Option DirtyEntry → DirtyEntry) (p : ℕ) (xs : List TableEntry) → is_some (entry_among xs p) ≡ true → length (put_among p f xs) ≡ length xs
put_length f p [] some = absurd (cc some)
put_length f p (x ∷ xs) some = elim (cases_eq x.page p) [
  | inl here ↦ ap (λ (l : List TableEntry). length l) (cond-true (x.page == p) (table_entry p (f (Some (dirty_entry x))) ∷ xs) (x ∷ put_among p f xs) (eq-eqb x.page p here))
  | inr other ↦
      let rest : is_some (entry_among xs p) ≡ true = ap (λ (o : Option DirtyEntry). is_some o) (sym (first_not x xs p other)) ∙ some in
      ap (λ (l : List TableEntry). length l) (cond-false (x.page == p) (table_entry p (f (Some (dirty_entry x))) ∷ xs) (x ∷ put_among p f xs) (ne_eqb x.page p other)) ∙ ap (λ (n : ℕ). suc n) (put_length f p xs rest)
]

-- so every page that had room in the table has it still
pub room_put : (f : Option DirtyEntry → DirtyEntry) (p q : ℕ) (old new : TableView) (e : DirtyEntry) → entry_in old p ≡ Some e → new ≡ put p f old → has_room q old ≡ true → has_room q new ≡ true
room_put f p q old new e there is room =
    subst (λ (t : TableView). has_room q t ≡ true) (sym is)
    (elim (cases_eq p q) [
      | inl here ↦ room_there q (put p f old) (subst (λ (n : ℕ). is_some (entry_in (put p f old) n) ≡ true) here (put_some f p old.entries))
      | inr apart ↦
          let others : entry_in (put p f old) q ≡ entry_in old q = held_put_other f p q old.entries apart in
          let long : length (put_among p f old.entries) ≡ length old.entries = put_length f p old.entries (ap (λ (o : Option DirtyEntry). is_some o) there) in
          ap (λ (o : Option DirtyEntry). is_some o || nat_lt (length (put_among p f old.entries)) old.most) others ∙ ap (λ (n : ℕ). is_some (entry_in old q) || nat_lt n old.most) long ∙ room
    ])

module _ {D : Type 0} (d : Ghosts D) where
  -- a call of no device after one that reads
  pub reads_still : (old mid new : D) → Reads d old mid → new ≡ mid → Reads d old new
  reads_still old mid new reads is = subst (λ (now : D). Reads d old now) (sym is) reads

  -- what the flush of a page costs after calls that only read
  pub page_after : (number count later : ℕ) (had has : Bool) (old mid new : D) → later ≡ count → (had ≡ true → has ≡ true) → Costs d 0 0 old mid → PageCosts d number later has mid new → PageCosts d number count had old new
  page_after number count later had has old mid new same keeps counted is = record {
    pages = is.pages;
    within = λ told lt. is.within told (omega (arith, same, lt));
    past = λ told le. let past : is.pages + later ≡ number + 1 = is.past told (omega (arith, same, le)) in omega (arith, same, past);
    costs = costs_counted d is.pages (d.tells × (number ≤ later) × (has ≡ true)) (d.tells × (number ≤ count) × (had ≡ true)) old mid new (λ room. (room.0, omega (arith, same, room.1), keeps room.2)) counted is.costs;
  }
