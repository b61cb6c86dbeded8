-- Worked runs with a return.
use Rattle.std.proofs.Common.{◌≡◌, ◌≢◌, ◌⊎◌, ℕ, nat_eq, List, [], ◌∷◌, ◌++◌, cond, is_some, refl, sym, ap, subst, ◌∙◌, inl, inr, lit<, lit≤, true, false, Option, None, Some}
use Rattle.std.proofs.lemmas.Bool.{true≢false, eq-eqb}
use Rattle.std.specs.FinMap.{get}
use Rattle.im_base_types.specs.Keys.{Key}
use Rattle.im_base_types.specs.Maps.{IndexMap, Above, first, is_below}
use Rattle.im_base_types.specs.Changes.{Change, Put, applied, apply}
use Rattle.im_base_types.specs.Answers.{Fetch, Insert, Do, Reply, Absent, Found, Inserted, Duplicate, Going, Returning, answer, found, map_after}
use Rattle.im_theory_machine.specs.Locks.{Name, At, PastAll, Lock, Request, Holds, SameLocks, IsFree, kept}
use Rattle.im_theory_machine.specs.declared.lock_kind.Mode.{Mode}
use Rattle.im_theory_machine.specs.declared.lock_kind.Mode.TheVariants.{Shared, Exclusive}
use Rattle.im_theory_machine.specs.declared.lock_kind.Duration.TheVariants.{Instant, ToCommit}
use Rattle.im_theory_machine.specs.Rows.{asked, name_of, next_name, there_or_next}
use Rattle.im_theory_machine.specs.View.{Txn, View, Under, kept_lock, own_locks, locks_in, set_txn, begun, did, marked, committed_by, undid_more}
use Rattle.im_theory_machine.specs.Machine.{Goes, Moves, begins, does, commits, turns_back, is_back, Run, start}
use Rattle.im_theory_machine.specs.Isolation.{IsReplay}
use Rattle.im_theory_machine.specs.Worked.{empty_map, both_begun}
use Rattle.im_theory_machine.specs.WorkedReturns.{a, b, c, returning, opening, taken_back, AReturnIsTold, AGapOpens}
use Rattle.im_theory_machine.proofs.Bools.{cases_number}
use Rattle.im_theory_machine.proofs.Invariant.{set_txn-other}
use Rattle.im_theory_machine.proofs.Changes.{get-insert_at, get-insert_off, get-remove_at, get-remove_off}
use Rattle.im_theory_machine.proofs.Order.{same_key}
use Rattle.im_theory_machine.proofs.Search.{first-by}
use Rattle.im_theory_machine.proofs.Pending.{row_is}
use Rattle.im_theory_machine.proofs.WorkedRuns.{none_there}

-- keys of different bytes differ
same_byte : (x y : ℕ) → x ∷ [] ≡ y ∷ [] → x ≡ y
same_byte x y e = cc

differ : (x y : ℕ) → nat_eq x y ≡ false → x ∷ [] ≡ y ∷ [] → ⊥
differ x y ne e = true≢false (sym (eq-eqb x y (same_byte x y e)) ∙ ne)

-- ---- one put

-- what an insert of an absent key asks
abbrev row : IndexMap → Key → List Request
row w k = record { name = next_name w k; mode = Exclusive; duration = Instant } ∷ record { name = At k; mode = Exclusive; duration = ToCommit } ∷ []

-- the lock that it keeps
abbrev on_key : Key → Lock
on_key k = record { name = At k; mode = Exclusive }

-- what it leaves
abbrev put_view : View → ℕ → Key → ℕ → View
put_view v t k r = record v { walk = applied v.walk (Put k r); txns = set_txn v.txns t (record { mark = Going; net = Put k r ∷ (v.txns t).net; locks = on_key k ∷ (v.txns t).locks }) }

put_goes : (v : View) (t : ℕ) (k : Key) (r : ℕ) → (v.txns t).mark ≡ Going → get v.walk k ≡ None → IsFree (locks_in v) t (row v.walk k) → Goes v (Do t (Insert k r)) Inserted (put_view v t k r)
put_goes v t k r is absent free =
    does t (Insert k r) (on_key k ∷ (v.txns t).locks) refl is
    (subst (λ (qs : List Request). IsFree (locks_in v) t qs) (sym (row_is v.walk k r absent)) free)
    (subst (λ (qs : List Request). SameLocks (on_key k ∷ (v.txns t).locks) (kept qs ((v.txns t).locks))) (sym (row_is v.walk k r absent)) (λ n m. (λ h. h, λ h. h)))
    (sym (ap (λ (o : Option ℕ). cond (is_some o) Duplicate Inserted) absent))
    (sym (ap (λ (cs : List Change). record v { walk = apply v.walk cs; txns = set_txn v.txns t (record { mark = Going; net = cs ++ (v.txns t).net; locks = on_key k ∷ (v.txns t).locks }) })
    (ap (λ (o : Option ℕ). cond {A = List Change} (is_some o) [] (Put k r ∷ [])) absent)))

-- beside others who hold nothing
free_alone : (v : View) (t : ℕ) (qs : List Request) → v.under ≡ None → ((s : ℕ) → s ≢ t → own_locks v s ≡ []) → IsFree (locks_in v) t qs
free_alone v t qs under none s p =
    let held : Holds (own_locks v s) p.name p.theirs = subst (λ (u : Option Under). Holds (kept_lock u v.walk s ++ own_locks v s) p.name p.theirs) under p.held in
    subst (λ (ls : List Lock). Holds ls p.name p.theirs) (none s p.other) held

-- where t is set, the others hold what they held
others_none : (f : ℕ → Txn) (t : ℕ) (x : Txn) → ((s : ℕ) → s ≢ t → (f s).locks ≡ []) → (s : ℕ) → s ≢ t → (set_txn f t x s).locks ≡ []
others_none f t x none s ne = ap (λ (y : Txn). y.locks) (set_txn-other f t x s ne) ∙ none s ne

-- ---- a return

abbrev alone : View
alone = begun (start empty_map 1)

abbrev put_a : View
put_a = put_view alone 1 a 7

abbrev put_b : View
put_b = put_view put_a 1 b 8

abbrev turned : View
turned = marked put_b 1 (Returning 1)

abbrev given : View
given = undid_more turned 1 (Put b 8) (Put a 7 ∷ [])

abbrev back : View
back = marked given 1 Going

abbrev put_c : View
put_c = put_view back 1 c 9

none_alone : (s : ℕ) → s ≢ 1 → (alone.txns s).locks ≡ []
none_alone = others_none (start empty_map 1).txns 1 (alone.txns 1) (λ s ne. refl)

none_a : (s : ℕ) → s ≢ 1 → (put_a.txns s).locks ≡ []
none_a = others_none alone.txns 1 (put_a.txns 1) none_alone

none_b : (s : ℕ) → s ≢ 1 → (put_b.txns s).locks ≡ []
none_b = others_none put_a.txns 1 (put_b.txns 1) none_a

none_turned : (s : ℕ) → s ≢ 1 → (turned.txns s).locks ≡ []
none_turned = others_none put_b.txns 1 (turned.txns 1) none_b

none_given : (s : ℕ) → s ≢ 1 → (given.txns s).locks ≡ []
none_given = others_none turned.txns 1 (given.txns 1) none_turned

none_back : (s : ℕ) → s ≢ 1 → (back.txns s).locks ≡ []
none_back = others_none given.txns 1 (back.txns 1) none_given

b_absent : get put_a.walk b ≡ None
b_absent = get-insert_off empty_map a 7 b (differ 98 97 refl) ∙ none_there b

c_absent : get back.walk c ≡ None
c_absent = get-remove_off put_b.walk b c (differ 99 98 refl) ∙ get-insert_off put_a.walk b 8 c (differ 99 98 refl) ∙ get-insert_off empty_map a 7 c (differ 99 97 refl) ∙ none_there c

runs : Run (start empty_map 1) returning (committed_by put_c 1)
runs = (
  alone,
  begins refl (lit≤ tt) refl refl,
  (
    put_a,
    put_goes alone 1 a 7 refl (none_there a) (free_alone alone 1 (row empty_map a) refl none_alone),
    (
      put_b,
      put_goes put_a 1 b 8 refl b_absent (free_alone put_a 1 (row put_a.walk b) refl none_a),
      (
        turned,
        turns_back 1 1 refl (inl refl) (lit< tt) refl refl,
        (
          back,
          is_back 1 1 (Put b 8) (Put a 7 ∷ []) refl refl refl refl refl refl,
          (put_c, put_goes back 1 c 9 refl c_absent (free_alone back 1 (row back.walk c) refl none_back), (committed_by put_c 1, commits 1 refl refl (inl refl) refl refl, refl)),
        ),
      ),
    ),
  ),
)

pub return_is_told : AReturnIsTold
return_is_told = record { end = committed_by put_c 1; run = runs; told = refl; committed = refl }

-- ---- a gap opens

abbrev holds_b : View
holds_b = put_view both_begun 1 b 5

-- the name that ends the gap, shared, and b
abbrev two_locks : List Lock
two_locks = record { name = At b; mode = Shared } ∷ on_key b ∷ []

abbrev misses_a : View
misses_a = did holds_b 1 (Fetch a) two_locks

abbrev turns : View
turns = marked misses_a 1 (Returning 0)

abbrev opened : View
opened = marked (undid_more turns 1 (Put b 5) []) 1 Going

abbrev other_puts : View
other_puts = put_view opened 2 a 6

abbrev other_commits : View
other_commits = committed_by other_puts 2

both_none : (s : ℕ) → s ≢ 1 → (both_begun.txns s).locks ≡ []
both_none s ne = elim (cases_number s 2) [
  | inl e ↦ subst (λ (u : ℕ). (both_begun.txns u).locks ≡ []) (sym e) refl
  | inr other ↦ ap (λ (y : Txn). y.locks) (set_txn-other (begun (start empty_map 1)).txns 2 (both_begun.txns 2) s other) ∙ none_alone s ne
]

none_holds : (s : ℕ) → s ≢ 1 → (holds_b.txns s).locks ≡ []
none_holds = others_none both_begun.txns 1 (holds_b.txns 1) both_none

-- b is the first above a
not_itself : (x : Key) → is_below x b ≡ true → x ≡ b → ⊥
unfolding is_below
not_itself x below e = let never : false ≡ true = subst (λ (y : Key). is_below y b ≡ true) e below in cc never

b_first : first (Above a) holds_b.walk ≡ Some (b, 5)
unfolding is_below
b_first = first-by (Above a) holds_b.walk (Some (b, 5)) (record {
  there = get-insert_at empty_map b 5;
  past_it = refl;
  least = λ x past below. get-insert_off empty_map b 5 x (not_itself x below) ∙ none_there x;
})

a_absent : get holds_b.walk a ≡ None
a_absent = get-insert_off empty_map b 5 a (differ 97 98 refl) ∙ none_there a

gap_ends : there_or_next holds_b.walk a ≡ At b
gap_ends = ap (λ (o : Option ℕ). cond (is_some o) (At a) (next_name holds_b.walk a)) a_absent ∙ ap name_of b_first

fetches : Moves holds_b (Do 1 (Fetch a)) Absent misses_a
fetches = does 1 (Fetch a) two_locks refl refl (free_alone holds_b 1 (asked (Fetch a) holds_b.walk) refl none_holds)
    (subst (λ (n : Name). SameLocks two_locks (record { name = n; mode = Shared } ∷ on_key b ∷ [])) (sym gap_ends) (λ n m. (λ h. h, λ h. h)))
    (sym (ap found a_absent))
    refl

-- once b is gone, nothing is there, and the gap ends past the last key
gone : (x : Key) → get opened.walk x ≡ None
gone x = elim (same_key x b) [
  | inl e ↦ ap (get opened.walk) e ∙ get-remove_at holds_b.walk b
  | inr ne ↦ get-remove_off holds_b.walk b x ne ∙ get-insert_off empty_map b 5 x ne ∙ none_there x
]

past_all : next_name opened.walk a ≡ PastAll
past_all = ap name_of (first-by (Above a) opened.walk None (λ x p. gone x))

-- so the first holds nothing that the second asks
held_is : (n : Name) (m : Mode) → Holds two_locks n m → n ≡ At b
held_is n m h = elim h [ inl one ↦ sym one.0 | inr rest ↦ elim rest [ inl two ↦ sym two.0 | inr none ↦ absurd none ] ]

opened_none : (s : ℕ) → s ≢ 1 → (opened.txns s).locks ≡ []
opened_none = others_none (undid_more turns 1 (Put b 5) []).txns 1 (opened.txns 1) (others_none turns.txns 1 ((undid_more turns 1 (Put b 5) []).txns 1)
    (others_none misses_a.txns 1 (turns.txns 1) (others_none holds_b.txns 1 (misses_a.txns 1) none_holds)))

asks_other : (n : Name) (m : Mode) → ((n ≡ PastAll) ⊎ (n ≡ At a)) → n ≡ At b → ⊥
asks_other n m (inl e) is = let never : PastAll ≡ At b = sym e ∙ is in cc never
asks_other n m (inr e) is = differ 97 98 refl (at_key a b (sym e ∙ is))
  where
    at_key : (k l : Key) → At k ≡ At l → k ≡ l
    at_key k l e = cc

free_there : IsFree (locks_in opened) 2 (row opened.walk a)
free_there s p = elim (cases_number s 1) [
  | inl e ↦
      let held : Holds two_locks p.name p.theirs = subst (λ (u : ℕ). Holds (locks_in opened u) p.name p.theirs) e p.held in
      asks_other p.name p.mode (elim p.ask [ inl one ↦ inl (sym one.0 ∙ past_all) | inr rest ↦ elim rest [ inl two ↦ inr (sym two.0) | inr none ↦ absurd none ] ]) (held_is p.name p.theirs held)
  | inr ne ↦ subst (λ (ls : List Lock). Holds ls p.name p.theirs) (opened_none s ne) p.held
]

opens : Run (start empty_map 1) opening other_commits
opens = (
  begun (start empty_map 1),
  begins refl (lit≤ tt) refl refl,
  (
    both_begun,
    begins refl (lit≤ tt) refl refl,
    (
      holds_b,
      put_goes both_begun 1 b 5 refl (none_there b) (free_alone both_begun 1 (row empty_map b) refl both_none),
      (
        misses_a,
        fetches,
        (
          turns,
          turns_back 1 0 refl (inl refl) (lit< tt) refl refl,
          (
            opened,
            is_back 1 0 (Put b 5) [] refl refl refl refl refl refl,
            (other_puts, put_goes opened 2 a 6 refl (gone a) free_there, (other_commits, commits 2 refl refl (inl refl) refl refl, refl)),
          ),
        ),
      ),
    ),
  ),
)

second_of : (x y u w : Reply) → x ∷ y ∷ [] ≡ u ∷ w ∷ [] → y ≡ w
second_of x y u w e = cc e

-- at its place it would have found a
finds : (m : IndexMap) → get m b ≡ None → get m a ≡ Some 6 → answer (Fetch a) (map_after (Insert b 5) m) ≡ Found 6
finds m absent there =
    ap (λ (cs : List Change). found (get (apply m cs) a)) (ap (λ (o : Option ℕ). cond {A = List Change} (is_some o) [] (Put b 5 ∷ [])) absent)
    ∙ ap found (get-insert_off m b 5 a (differ 97 98 refl) ∙ there)

not_so : IsReplay other_commits.committed taken_back → ⊥
not_so told =
    let m : IndexMap = other_commits.committed in
    let one : answer (Fetch a) (map_after (Insert b 5) m) ≡ Absent = second_of (answer (Insert b 5) m) (answer (Fetch a) (map_after (Insert b 5) m)) Inserted Absent told in
    let two : answer (Fetch a) (map_after (Insert b 5) m) ≡ Found 6 = finds m (get-insert_off empty_map a 6 b (differ 98 97 refl) ∙ none_there b) (get-insert_at empty_map a 6) in
    found_not (sym two ∙ one)
  where
    found_not : Found 6 ≡ Absent → ⊥
    found_not e = cc

pub gap_opens : AGapOpens
gap_opens = record {
  before = other_commits;
  run = opens;
  end = committed_by other_commits 1;
  commits = commits 1 refl refl (inl refl) refl refl;
  stands = refl;
  not_alone = not_so;
}
