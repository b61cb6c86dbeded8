-- One that takes changes back: it rolls back whole, or returns to its first changes.
use Rattle.std.proofs.Common.{◌≡◌, ◌≢◌, ◌⊎◌, inl, inr, ℕ, suc, ◌≤◌, ◌<◌, List, [], Bool, true, false, not, Option, Some, None, IfSome, length, map, refl, sym, ap, subst, ◌∙◌, arith}
use Rattle.std.specs.Prelude.{◌-◌, find, nat_lt, if◌then◌else◌}
use Rattle.std.specs.FinMap.{empty}
use Rattle.std.proofs.lemmas.Bool.{cases_eq, cases_lt, le-ltb, lt-ltb}
use Rattle.im_base_types.specs.Answers as answers
use Rattle.im_base_types.specs.Answers.{Continue}
use Rattle.im_base_types.specs.Changes.{Change, Effect, apply_all}
use Rattle.im_base_types.specs.Lives.{Shown, shows}
use Rattle.im_base_txn.specs.LookUps.{Keeps}
use Rattle.im_base_txn.proofs.LookUps.{look_ups_follow}
use Rattle.im_base_txn.specs.Rows.{changed, is_committing, is_of, with_mark, with_record}
use Rattle.im_base_txn.specs.declared.transaction.Mark.{Mark}
use Rattle.im_base_txn.specs.declared.transaction.Mark.TheVariants as marks
use Rattle.im_base_txn.specs.declared.transaction.Transaction.{Transaction}
use Rattle.im_theory_log.specs.Histories.{Base, History}
use Rattle.im_theory_log.specs.Transactions.{changes_of, is_finished, last_of, net, to_undo, undo_next_of}
use Rattle.im_theory_machine.specs.Table.{Table}
use Rattle.im_theory_machine.specs.Machine.{barred_to_continue}
use Rattle.im_theory_machine.specs.View as views
use Rattle.im_theory_machine.specs.View.{View, change_made, marked, owner_in, owner_of, undid_more}
use Rattle.im_theory_machine.proofs.Cited.{returns_stand}
use Rattle.im_theory_steps.specs.Checks.{checked_by, mark_at}
use Rattle.im_theory_steps.specs.Growth.{GrowsByStructure}
use Rattle.im_theory_steps.specs.Serving.{IsAt, IsRow, IsServed, IsServing, mark_of}
use Rattle.im_theory_steps.specs.Steps.{TurnsOn, noted, takes_back, with_undone}
use Rattle.im_theory_steps.specs.Undone.{UndoesNewest, uncounted}
use Rattle.im_theory_steps.proofs.Cited.{at, counted_at, mark_free, returns_drop, returns_end, returns_go_on, rolling_has_more, structure_changes_no_key, turns_drop, undo_takes_back, undone_served}
use Rattle.im_theory_steps.proofs.Rolling.{left_of, taking_is}
use Rattle.im_theory_steps.proofs.Rows.{length_map}
use Rattle.im_engine.specs.Numbered.{Numbered, ends_back, has_returned, is_rolling_back, is_within, on_again, with_back}
use Rattle.im_engine.proofs.Waits.{not_waiting, out_of}

-- ---- the mark of one whose Continue is let through

abbrev pub GoesBack : Transaction → Type 0
GoesBack row = (row.mark ≡ marks.RollingBack) ⊎ ((n : ℕ) × (row.mark ≡ marks.Returning n))

back_by : (m : Mark) (row : Transaction) → row.mark ≡ m → barred_to_continue (mark_at (Some row)) ≡ None → GoesBack row
back_by marks.RollingBack row is none = inl is
back_by (marks.Returning n) row is none = inr (n, is)
back_by marks.Going row is none = absurd (let never = sym (ap (λ (x : Mark). barred_to_continue (mark_at (Some (record row { mark = x })))) is) ∙ none in cc never)
back_by marks.MustRollBack row is none = absurd (let never = sym (ap (λ (x : Mark). barred_to_continue (mark_at (Some (record row { mark = x })))) is) ∙ none in cc never)
back_by marks.Committing row is none = absurd (let never = sym (ap (λ (x : Mark). barred_to_continue (mark_at (Some (record row { mark = x })))) is) ∙ none in cc never)

pub continue_back : (rows : List Transaction) (t : ℕ) (row : Transaction) → find (is_of t) rows ≡ Some row → checked_by rows false (Continue t) ≡ None → GoesBack row
continue_back rows t row found is = back_by row.mark row refl (sym (ap (λ (o : Option Transaction). barred_to_continue (mark_at o)) found) ∙ is)

-- it does not wait for a force
pub back_free : (row : Transaction) → GoesBack row → row.mark ≡ marks.Committing → ⊥
back_free row (inl rolling) = mark_free row.mark marks.RollingBack rolling (λ x. cc x)
back_free row (inr returning) = mark_free row.mark (marks.Returning returning.0) returning.1 (λ x. cc x)

pub back_waits : (row : Transaction) → GoesBack row → is_committing row.mark ≡ false
back_waits row (inl rolling) = ap is_committing rolling
back_waits row (inr returning) = ap is_committing returning.1

-- and takes changes back
pub back_takes : (row : Transaction) → GoesBack row → takes_back (mark_of row.mark) ≡ true
back_takes row (inl rolling) = ap (λ (m : Mark). takes_back (mark_of m)) rolling
back_takes row (inr returning) = ap (λ (m : Mark). takes_back (mark_of m)) returning.1

-- it ends with its last change just where it rolls back whole
pub rolling_ends : (row : Transaction) → row.mark ≡ marks.RollingBack → ends_back row ≡ true
rolling_ends row is = ap is_rolling_back is

pub ends_rolling : (row : Transaction) → GoesBack row → ends_back row ≡ true → row.mark ≡ marks.RollingBack
ends_rolling row (inl rolling) ends = rolling
ends_rolling row (inr returning) ends = absurd (let clash : false ≡ true = sym (ap is_rolling_back returning.1) ∙ ends in cc clash)

-- ---- the same rows are found

abbrev pub again : Transaction → Transaction
again row = if has_returned row then with_mark marks.Going row else row

keeps_again : Keeps again
keeps_again row = by (has_returned row)
  where
    by : (c : Bool) → (if c then with_mark marks.Going row else row).number ≡ row.number
    by true = refl
    by false = refl

changed_finds : (t : ℕ) (f : Transaction → Transaction) → Keeps f → (rows others : List Transaction) (row : Transaction) → find (is_of t) rows ≡ Some row → find (is_of t) others ≡ Some (f row) → ((u : ℕ) → u ≢ t → find (is_of u) others ≡ find (is_of u) rows)
    → (u : ℕ) → find (is_of u) (map (changed t f) rows) ≡ find (is_of u) others
changed_finds t f keeps rows others row found own same u = elim (cases_eq u t) [
  | inl is ↦ subst (λ (n : ℕ). find (is_of n) (map (changed t f) rows) ≡ find (is_of n) others) (sym is) (look_ups_follow.changed_own t f keeps rows row found ∙ sym own)
  | inr differ ↦ look_ups_follow.changed_other u t f keeps rows differ ∙ sym (same u differ)
]

-- where it has not returned all rows are as they were
again_finds : (t : ℕ) (rows : List Transaction) (row : Transaction) → find (is_of t) rows ≡ Some row → has_returned row ≡ false → (u : ℕ) → find (is_of u) (on_again t rows) ≡ find (is_of u) rows
again_finds t rows row found none = changed_finds t again keeps_again rows rows row found (found ∙ ap (λ (c : Bool). Some (if c then with_mark marks.Going row else row)) (sym none)) (λ u differ. refl)

-- where it has it is going
going_finds : (t : ℕ) (rows : List Transaction) (row : Transaction) → find (is_of t) rows ≡ Some row → has_returned row ≡ true → (u : ℕ) → find (is_of u) (on_again t rows) ≡ find (is_of u) (map (changed t (with_mark marks.Going)) rows)
going_finds t rows row found is =
    changed_finds t again keeps_again rows (map (changed t (with_mark marks.Going)) rows) row found
    (look_ups_follow.changed_own t (with_mark marks.Going) (λ x. refl) rows row found ∙ ap (λ (c : Bool). Some (if c then with_mark marks.Going row else row)) (sym is))
    (λ u differ. look_ups_follow.changed_other u t (with_mark marks.Going) (λ x. refl) rows differ)

pub length_again : (t : ℕ) (rows : List Transaction) → length (on_again t rows) ≡ length rows
length_again t rows = length_map (changed t again) rows

-- so all goes on with them
same_serves : (b : Base) (earlier before : List Effect) (s : Shown) (v : View) (log : History) (rows others : List Transaction) (next : ℕ) (held : Table) → IsServing b earlier before s v log rows next held → ((u : ℕ) → find (is_of u) others ≡ find (is_of u) rows) → length others ≡ length rows
    → IsServing b earlier before s v log others next held
same_serves b earlier before s v log rows others next held h finds long = record {
  made = h.made;
  works = h.works;
  seen_by = h.seen_by;
  shows = h.shows;
  reached = h.reached;
  says = h.says;
  table = record {
    each = λ u. subst (λ (o : Option Transaction). IsAt u o next log (v.txns u)) (sym (finds u)) (h.table.each u);
    active = h.table.active ∙ sym long;
    numbers = h.table.numbers;
  };
  locks = h.locks;
}

module _ (b : Base) (earlier before : List Effect) (s : Shown) (v : View) (step : answers.Step) (reply : answers.Reply) (w : View) (longer : History) (rows list : List Transaction) (next : ℕ) (held : Table) (t : ℕ) (row : Transaction) (are : rows ≡ list) (found : find (is_of t) list ≡ Some row) where
  pub served_on : has_returned row ≡ false → IsServed b earlier before s v step reply w longer rows next held → IsServed b earlier before s v step reply w longer (on_again t list) next held
  served_on none is = (
    is.0,
    same_serves b earlier before (shows s step (Some reply)) w longer list (on_again t list) next held (subst (λ (l : List Transaction). IsServing b earlier before (shows s step (Some reply)) w longer l next held) are is.1) (again_finds t list row found none) (length_again t list),
  )

  pub served_again : has_returned row ≡ true → IsServed b earlier before s v step reply w longer (map (changed t (with_mark marks.Going)) rows) next held → IsServed b earlier before s v step reply w longer (on_again t list) next held
  served_again some is = (
    is.0,
    same_serves b earlier before (shows s step (Some reply)) w longer (map (changed t (with_mark marks.Going)) list) (on_again t list) next held
        (subst (λ (l : List Transaction). IsServing b earlier before (shows s step (Some reply)) w longer (map (changed t (with_mark marks.Going)) l) next held) are is.1) (going_finds t list row found some)
        (length_again t list ∙ sym (length_map (changed t (with_mark marks.Going)) list)),
  )

-- ---- the table after a change of a row, and after the return has ended

pub again_in : (t : ℕ) (f : Transaction → Transaction) (old mid new : Numbered) → mid ≡ record old { rows = map (changed t f) old.rows } → new ≡ record mid { rows = on_again t mid.rows } → new ≡ record old { rows = on_again t (map (changed t f) old.rows) }
again_in t f old mid new first second = second ∙ ap (λ (x : Numbered). record x { rows = on_again t x.rows }) first

-- whether it has
pub again_by : (t : ℕ) (f : Transaction → Transaction) → Keeps f → (old mid : Numbered) (row : Transaction) (result : Bool) → find (is_of t) old.rows ≡ Some row → mid ≡ record old { rows = map (changed t f) old.rows } → IfSome (find (is_of t) mid.rows) (λ x. result ≡ has_returned x) → result ≡ has_returned (f row)
again_by t f keeps old mid row result found table is =
    subst (λ (o : Option Transaction). IfSome o (λ x. result ≡ has_returned x)) (ap (λ (x : Numbered). find (is_of t) x.rows) table ∙ look_ups_follow.changed_own t f keeps old.rows row found) is

pub back_keeps : (splits : Bool) (last undo_next : ℕ) → Keeps (with_back splits last undo_next)
back_keeps true last undo_next row = refl
back_keeps false last undo_next row = refl

pub again_long : (t : ℕ) (f : Transaction → Transaction) (rows : List Transaction) → length (on_again t (map (changed t f) rows)) ≡ length rows
again_long t f rows = length_again t (map (changed t f) rows) ∙ length_map (changed t f) rows

-- ---- what a change that was taken back is answered, and what is then

abbrev pub told_back : Bool → answers.Reply
told_back true = answers.Done
told_back false = answers.More

abbrev pub going_if : Bool → ℕ → View → View
going_if true t v = marked v t answers.Going
going_if false t v = v

is_later : Option views.Under → Bool
is_later None = false
is_later (Some u) = by u.aim
  where
    by : views.Aim → Bool
    by views.TakesBack = true
    by views.TookBack = false
    by (views.Puts k r) = false
    by (views.Drops k) = false

module _ (b : Base) (earlier before : List Effect) (s : Shown) (v : View) (log : History) (rows : List Transaction) (next : ℕ) (held : Table) (t : ℕ) (row : Transaction)
    (h : IsServing b earlier before s v log rows next held) (found : find (is_of t) rows ≡ Some row) (goes : GoesBack row) where
  pub row_at : (row.number ≡ t) × IsRow row next log × ((v.txns t).mark ≡ mark_of row.mark)
  row_at = at b earlier before s v log rows next held h t row found (back_free row goes)

  pub row_counts : row.changes ≡ length (net t log)
  row_counts = counted_at t next log row row_at.0 row_at.1

  pub net_at : (v.txns t).net ≡ net t log
  net_at = h.seen_by.nets t (out_of b earlier before s v log rows next held h t (not_waiting rows t row found (back_waits row goes)))

  net_counts : row.changes ≡ length ((v.txns t).net)
  net_counts = row_counts ∙ ap (λ (e : Effect). length e) (sym net_at)

  module _ (n : ℕ) (returning : row.mark ≡ marks.Returning n) where
    mark_is : (v.txns t).mark ≡ answers.Returning n
    mark_is = row_at.2 ∙ ap mark_of returning

    -- one that returns to n changes has them
    pub returns_within : n ≤ row.changes
    returns_within = let reached = h.reached in subst (λ (k : ℕ). n ≤ k) (sym net_counts) ((returns_stand (apply_all empty before) reached.first).within reached.trace v reached.run t n mark_is).0

    -- and more, but while the leaf goes that its newest change left empty
    pub returns_more : (v.under ≡ Some (record { owner = t; aim = views.TookBack }) → ⊥) → n < row.changes
    returns_more other = elim (cases_lt n row.changes) [
      | inl more ↦ more
      | inr few ↦ absurd (other (taking_is (apply_all empty before) v h.reached t n (ap left_of mark_is) (subst (λ (k : ℕ). k ≤ n) net_counts few)))
    ]

  -- so before a split of its own has brought a key back
  pub returns_later : v.under ≡ Some (record { owner = t; aim = views.TakesBack }) → (n : ℕ) → row.mark ≡ marks.Returning n → n < row.changes
  unfolding is_later
  returns_later under n returning = returns_more n returning (λ leaf. let clash : true ≡ false = ap is_later (sym under ∙ leaf) in cc clash)

  module _ (other : owner_in v ≢ Some t) where
    pub returns_free : (n : ℕ) → row.mark ≡ marks.Returning n → n < row.changes
    returns_free n returning = returns_more n returning (λ leaf. other (ap owner_of leaf))

    -- with no structure change of its own it has a change more to take back
    pub turns_on : TurnsOn row
    turns_on = elim goes [ inl rolling ↦ inl rolling | inr returning ↦ inr (returning.0, returning.1, returns_free returning.0 returning.1) ]

    pub more_left : to_undo t log ≢ []
    more_left none = elim goes [
      | inl rolling ↦ rolling_has_more b earlier before s v log rows next held t row h found rolling other none
      | inr returning ↦
          (let more = returns_free returning.0 returning.1 in
          let empty : length (net t log) ≡ 0 = ap (λ (stack : History). length (changes_of stack)) none in
          let count = row_counts in
          absurd (omega (arith, more, empty, count)))
    ]

  -- ---- a change was taken back

  module _ (longer : History) (c : Change) (undoes : UndoesNewest b t c log longer) (unfinished : is_finished t longer ≡ false) (last undo_next : ℕ) (last_is : last_of t longer ≡ last) (next_is : undo_next_of t longer ≡ undo_next)
      (left : row.mark ≡ marks.RollingBack → net t longer ≢ []) (more : (n : ℕ) → row.mark ≡ marks.Returning n → n < row.changes) where
    abbrev pub row_back : Transaction
    row_back = with_undone last undo_next row

    abbrev pub rows_back : List Transaction
    rows_back = map (changed t (with_undone last undo_next)) rows

    abbrev pub undid : View
    undid = undid_more v t c (net t longer)

    found_back : find (is_of t) rows_back ≡ Some row_back
    found_back = look_ups_follow.changed_own t (with_undone last undo_next) (λ x. refl) rows row found

    back_are : uncounted t longer rows ≡ rows_back
    back_are = ap (λ (l : ℕ). map (changed t (with_undone l (undo_next_of t longer))) rows) last_is ∙ ap (λ (n : ℕ). map (changed t (with_undone last n)) rows) next_is

    left_count : row.changes - 1 ≡ length (net t longer)
    left_count =
        let was : row.changes ≡ suc (length (net t longer)) = row_counts ∙ ap (λ (e : Effect). length e) (undo_takes_back b t c log longer undoes).0.own in
        omega (arith, was)

    abbrev pub BackServed : Bool → Type 0
    BackServed back = IsServed b earlier before s v (Continue t) (told_back back) (going_if back t undid) longer (on_again t rows_back) next held

    returning_served : (n : ℕ) → row.mark ≡ marks.Returning n → (back : Bool) → back ≡ has_returned row_back → BackServed back
    returning_served n returning back is =
        let within : has_returned row_back ≡ not (nat_lt n (length (net t longer))) = ap (λ (m : Mark). is_within m (row.changes - 1)) returning ∙ ap (λ (k : ℕ). not (nat_lt n k)) left_count in
        elim (cases_lt n (length (net t longer))) [
          | inl fewer ↦
              (let none : has_returned row_back ≡ false = within ∙ ap (λ (x : Bool). not x) (lt-ltb n (length (net t longer)) fewer) in
              subst BackServed (sym (is ∙ none))
              (served_on b earlier before s v (Continue t) answers.More undid longer (uncounted t longer rows) rows_back next held t row_back back_are found_back none (returns_go_on b earlier before s v log longer rows next held t n row c h found returning undoes fewer unfinished)))
          | inr all ↦
              (let some : has_returned row_back ≡ true = within ∙ ap (λ (x : Bool). not x) (le-ltb n (length (net t longer)) all) in
              let was = left_count in
              let most = more n returning in
              let count : n ≡ length (net t longer) = omega (arith, all, was, most) in
              subst BackServed (sym (is ∙ some))
              (served_again b earlier before s v (Continue t) answers.Done (marked undid t answers.Going) longer (uncounted t longer rows) rows_back next held t row_back back_are found_back some (returns_end b earlier before s v log longer rows next held t n row c h found returning undoes count unfinished)))
        ]

    -- it is answered Done where the transaction has returned with it, which is going then
    pub back_served : (back : Bool) → back ≡ has_returned row_back → BackServed back
    back_served back is = elim goes [
      | inl rolling ↦
          (let none : has_returned row_back ≡ false = ap (λ (m : Mark). is_within m (row.changes - 1)) rolling in
          subst BackServed (sym (is ∙ none))
          (served_on b earlier before s v (Continue t) answers.More undid longer (uncounted t longer rows) rows_back next held t row_back back_are found_back none (undone_served b earlier before s v log longer rows next held t row c h found rolling undoes (left rolling) unfinished)))
      | inr returning ↦ returning_served returning.0 returning.1 back is
    ]

  -- ---- the leaf is gone that its newest change left empty

  module _ (longer : History) (under : v.under ≡ Some (record { owner = t; aim = views.TookBack })) (grows : GrowsByStructure t log longer) (last undo_next : ℕ) (last_is : last_of t longer ≡ last) (next_is : undo_next_of t longer ≡ undo_next)
      (left : row.mark ≡ marks.RollingBack → net t longer ≢ []) where
    abbrev pub row_noted : Transaction
    row_noted = with_record last undo_next row

    abbrev pub rows_noted : List Transaction
    rows_noted = map (changed t (with_record last undo_next)) rows

    found_noted : find (is_of t) rows_noted ≡ Some row_noted
    found_noted = look_ups_follow.changed_own t (with_record last undo_next) (λ x. refl) rows row found

    noted_are : noted t longer rows ≡ rows_noted
    noted_are = ap (λ (l : ℕ). map (changed t (with_record l (undo_next_of t longer))) rows) last_is ∙ ap (λ (n : ℕ). map (changed t (with_record last n)) rows) next_is

    same_count : length (net t longer) ≡ row.changes
    same_count = ap (λ (e : Effect). length e) ((structure_changes_no_key b t log longer grows).stays.nets t) ∙ sym row_counts

    abbrev pub DropServed : Bool → Type 0
    DropServed back = IsServed b earlier before s v (Continue t) (told_back back) (change_made (going_if back t v)) longer (on_again t rows_noted) next held

    dropped_on : has_returned row_noted ≡ false → TurnsOn row → net t longer ≢ [] → DropServed false
    dropped_on none on some =
        served_on b earlier before s v (Continue t) answers.More (change_made v) longer (noted t longer rows) rows_noted next held t row_noted noted_are found_noted none (turns_drop b earlier before s v log longer rows next held t row h found on under some grows)

    dropped_returning : (n : ℕ) → row.mark ≡ marks.Returning n → (back : Bool) → back ≡ has_returned row_noted → DropServed back
    dropped_returning n returning back is =
        let within : has_returned row_noted ≡ not (nat_lt n row.changes) = ap (λ (m : Mark). is_within m row.changes) returning in
        elim (cases_lt n row.changes) [
          | inl fewer ↦
              (let none : has_returned row_noted ≡ false = within ∙ ap (λ (x : Bool). not x) (lt-ltb n row.changes fewer) in
              let some : net t longer ≢ [] = λ empty. (let count = same_count in let zero : length (net t longer) ≡ 0 = ap length empty in absurd (omega (arith, fewer, count, zero))) in
              subst DropServed (sym (is ∙ none)) (dropped_on none (inr (n, returning, fewer)) some))
          | inr all ↦
              (let some : has_returned row_noted ≡ true = within ∙ ap (λ (x : Bool). not x) (le-ltb n row.changes all) in
              let most = returns_within n returning in
              let count : n ≡ row.changes = omega (arith, all, most) in
              subst DropServed (sym (is ∙ some))
              (served_again b earlier before s v (Continue t) answers.Done (change_made (marked v t answers.Going)) longer (noted t longer rows) rows_noted next held t row_noted noted_are found_noted some (returns_drop b earlier before s v log longer rows next held t n row h found returning under count grows)))
        ]

    -- it is answered Done where the transaction has returned
    pub drop_served : (back : Bool) → back ≡ has_returned row_noted → DropServed back
    drop_served back is = elim goes [
      | inl rolling ↦
          (let none : has_returned row_noted ≡ false = ap (λ (m : Mark). is_within m row.changes) rolling in
          subst DropServed (sym (is ∙ none)) (dropped_on none (inl rolling) (left rolling)))
      | inr returning ↦ dropped_returning returning.0 returning.1 back is
    ]
