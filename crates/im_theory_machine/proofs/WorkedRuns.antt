-- Worked runs: a younger transaction dies at a gap that an older one has read, and nothing lets it put a key there.
use Rattle.std.proofs.Common.{◌≡◌, ℕ, List, [], ◌∷◌, cond, is_some, refl, sym, ap, subst, ◌∙◌, inl, lit<, lit≤, Option, None}
use Rattle.std.specs.FinMap.{get, get-empty}
use Rattle.im_base_types.specs.Keys.{Key, key_order}
use Rattle.im_base_types.specs.Maps.{Start, Above, first}
use Rattle.im_base_types.specs.Refusals.{must_roll_back}
use Rattle.im_base_types.specs.Answers.{Access, Fetch, Insert, Begin, Do, Started, Absent, Inserted, Die, Refused, found}
use Rattle.im_theory_machine.specs.Locks.{Name, At, PastAll, Lock, Holds, SameLocks, ConflictsWith, IsFree}
use Rattle.im_theory_machine.specs.declared.lock_kind.Mode.TheVariants.{Shared, Exclusive}
use Rattle.im_theory_machine.specs.Rows.{asked, name_of, next_name, there_or_next}
use Rattle.im_theory_machine.specs.View.{View, locks_in, begun}
use Rattle.im_theory_machine.specs.Machine.{Goes, Moves, begins, does, waits, dies, commits, queues, drops, turns, undoes, ends, puts_later, puts, drops_first, drops_leaf, takes_later, takes_first, takes_leaf, takes_last, stays_back, turns_back, gives_back, is_back, leaf_is_back, logs_page, tree_blocks, tree_halts, flushes, forces, checkpoints, switches, lacks, breaks, Run, start}
use Rattle.im_theory_machine.specs.Worked.{empty_map, missing, both_begun, end_shared, read, told, AGapStays}
use Rattle.im_theory_machine.proofs.Invariant.{by_txn}
use Rattle.im_theory_machine.proofs.Search.{first-by}

pub none_there : (k : Key) → get empty_map k ≡ None
none_there k = get-empty key_order k

pub none_first : (s : Start) → first s empty_map ≡ None
none_first s = first-by s empty_map None (λ x p. none_there x)

next_is : next_name empty_map missing ≡ PastAll
next_is = ap name_of (none_first (Above missing))

name_is : there_or_next empty_map missing ≡ PastAll
name_is = ap (λ (o : Option ℕ). cond (is_some o) (At missing) (next_name empty_map missing)) (none_there missing) ∙ next_is

-- ---- the run

none_held : (s : ℕ) → locks_in both_begun s ≡ []
none_held = by_txn (λ s x. x.locks ≡ []) (begun (start empty_map 1)).txns 2 (both_begun.txns 2) refl
    (λ s differ. by_txn (λ u x. x.locks ≡ []) (start empty_map 1).txns 1 ((begun (start empty_map 1)).txns 1) refl (λ u other. refl) s)

free : IsFree (locks_in both_begun) 1 (asked (Fetch missing) empty_map)
free s p = subst (λ (ls : List Lock). Holds ls p.name p.theirs) (none_held s) p.held

-- the older one finds the key missing, and locks the name past the last key
reads : Moves both_begun (Do 1 (Fetch missing)) Absent read
reads = does 1 (Fetch missing) end_shared refl refl free
    (subst (λ (n : Name). SameLocks end_shared (record { name = n; mode = Shared } ∷ [])) (sym name_is) (λ n m. (λ h. h, λ h. h)))
    (sym (ap found (none_there missing)))
    refl

conflict : ConflictsWith (locks_in read) 2 (asked (Insert missing 1) empty_map) 1
conflict = record {
  name = PastAll;
  mode = Exclusive;
  theirs = Shared;
  other = λ e. cc;
  ask = rw (none_there missing) (inl (next_is, refl));
  held = inl (refl, refl);
  exclusive = inl refl;
}

-- the younger one, who would put it there, must die
stops : Moves read (Do 2 (Insert missing 1)) Die told
stops = dies 2 (Insert missing 1) refl refl (record { holder = 1; conflict = conflict; older = lit< tt }) refl refl

younger_dies : Run (start empty_map 1)
    ((Begin, Started 1) ∷ (Begin, Started 2) ∷ (Do 1 (Fetch missing), Absent) ∷ (Do 2 (Insert missing 1), Die) ∷ (Do 2 (Insert missing 1), Refused must_roll_back) ∷ []) told
younger_dies = (
  begun (start empty_map 1),
  begins refl (lit≤ tt) refl refl,
  (both_begun, begins refl (lit≤ tt) refl refl, (read, reads, (told, stops, (told, (refl, refl), refl)))),
)

-- ---- and no other reply puts the key there

same_owner : (t : ℕ) (b : Access) → Do 2 (Insert missing 1) ≡ Do t b → t ≡ 2
same_owner t b e = cc

same_access : (t : ℕ) (b : Access) → Do 2 (Insert missing 1) ≡ Do t b → b ≡ Insert missing 1
same_access t b e = cc

never_inserted : (w : View) → Goes read (Do 2 (Insert missing 1)) Inserted w → ⊥
never_inserted w (begins e l d q) = cc
never_inserted w (does t b ls e going free_now same d q) =
    let mine : IsFree (locks_in read) 2 (asked (Insert missing 1) empty_map) =
    subst (λ (n : ℕ). IsFree (locks_in read) n (asked (Insert missing 1) empty_map)) (same_owner t b e) (subst (λ (c : Access). IsFree (locks_in read) t (asked c empty_map)) (same_access t b e) free_now) in
    mine 1 conflict
never_inserted w (waits t b holder e going wait d q) = cc
never_inserted w (dies t b e going must d q) = cc
never_inserted w (commits t e going alone d q) = cc
never_inserted w (queues t c cs e going some d q) = cc
never_inserted w (drops t e may none d q) = cc
never_inserted w (turns t c cs e may some d q) = cc
never_inserted w (undoes t c d cs e rolling some r q) = cc
never_inserted w (ends t c e rolling some r q) = cc
never_inserted w (puts_later u k r ls b is none absent unheld same d e) = cc
never_inserted w (puts u k r b is under d e) = cc
never_inserted w (drops_first u k r ls b is none there unheld same d e) = cc
never_inserted w (drops_leaf u k b is under d e) = cc
never_inserted w (takes_later u c cs b is none net_is d e) = cc
never_inserted w (takes_first u c cs b is none net_is d e) = cc
never_inserted w (takes_leaf u c cs b is under net_is d e) = cc
never_inserted w (takes_last u b is under empty d e) = cc
never_inserted w (stays_back u n a may low d e) = cc
never_inserted w (turns_back u n a may over d e) = cc
never_inserted w (gives_back u n g cs a is net_is over d e) = cc
never_inserted w (is_back u n g cs a is net_is whole d e) = cc
never_inserted w (leaf_is_back u n a is under whole d e) = cc
never_inserted w (logs_page u x b under owner d e) = cc
never_inserted w (tree_blocks u a x b under other d e) = cc
never_inserted w (tree_halts u x b under other d e) = cc
never_inserted w (flushes p e d q) = cc
never_inserted w (forces e d q) = cc
never_inserted w (checkpoints e d q) = cc
never_inserted w (switches e d q) = cc
never_inserted w (lacks fault wants d q) = cc
never_inserted w (breaks fault ls is d q) = cc

pub gap_stays : AGapStays
gap_stays = record { younger_dies = younger_dies; never_put = λ w moves. never_inserted w moves }
