-- The invariant goes through the steps of a structure change that ends later.
use Rattle.std.proofs.Common.{◌≡◌, ◌≢◌, ℕ, nat_eq, cond, is_some, List, [], ◌∷◌, refl, ap, sym, subst, inl, inr}
use Rattle.im_base_types.specs.Keys.{Key}
use Rattle.im_base_types.specs.Maps.{IndexMap}
use Rattle.im_base_types.specs.Answers.{Access, Insert, Reply, Inserted, Duplicate, Mark, Going, answer, map_after}
use Rattle.im_base_types.specs.Changes.{Change, undone}
use Rattle.im_theory_machine.specs.Locks.{Name, At, Lock, Request, kept, SameLocks, Holds, IsFree}
use Rattle.im_theory_machine.specs.declared.lock_kind.Mode.{Mode}
use Rattle.im_theory_machine.specs.declared.lock_kind.Mode.TheVariants.{Exclusive}
use Rattle.im_theory_machine.specs.declared.lock_kind.Duration.TheVariants.{Instant, ToCommit}
use Rattle.im_theory_machine.specs.Rows.{next_name, asked}
use Rattle.im_theory_machine.specs.View.{Txn, set_txn, did_txn}
use Rattle.im_theory_machine.proofs.Invariant.{Through, Through-more, StoryHolds, Fits, Chain-more}
use Rattle.im_theory_machine.proofs.Keeping.{Sets-fits, IsGranted, did-fits, relocked, walk_but, undo_sets, undo_links}
use Rattle.im_theory_machine.proofs.Locks.{kept-from, kept-old}
use Rattle.im_theory_machine.specs.Kept.{IsPending, KeptLocksStay}
use Rattle.im_theory_machine.proofs.Pending.{kept_locks_stay, row_is}

granted_by : (f : ℕ → Txn) (t : ℕ) (row : List Request) → IsFree (λ s. (f s).locks) t row → IsGranted f t row
granted_by f t row free s n mode theirs ne ask held either = free s (record { name = n; mode = mode; theirs = theirs; other = ne; ask = ask; held = held; exclusive = either })

story_going : (x : Txn) (w base : IndexMap) (story : List (Access × Reply)) → x.mark ≡ Going → StoryHolds x.mark x.locks w base story x.net → Through x.locks w base story x.net
story_going x w base story is h = subst (λ (m : Mark). StoryHolds m x.locks w base story x.net) is h

-- locks that were granted join those of t
module _ (base w : IndexMap) (f : ℕ → Txn) (told : ℕ → List (Access × Reply)) (fits : Fits base w f told) (t : ℕ) (row : List Request) (granted : IsGranted f t row) (going : (f t).mark ≡ Going) where
  abbrev more : List Lock
  more = kept row ((f t).locks)

  mine : (s : ℕ) → s ≢ t → (n : Name) (md : Mode) → Holds more n Exclusive → Holds ((f s).locks) n md → ⊥
  mine s ns n md h k = elim (kept-from row ((f t).locks) n Exclusive h) [
    | inl o ↦ fits.apart t s (λ e. ns (sym e)) n md o k
    | inr q ↦ granted s n Exclusive md ns q k (inl refl)
  ]

  theirs : (s : ℕ) → s ≢ t → (n : Name) (md : Mode) → Holds ((f s).locks) n Exclusive → Holds more n md → ⊥
  theirs s ns n md k h = elim (kept-from row ((f t).locks) n md h) [
    | inl o ↦ fits.apart s t ns n md k o
    | inr q ↦ granted s n md Exclusive ns q k (inr refl)
  ]

  joined : Fits base w (set_txn f t (record (f t) { locks = more })) told
  joined = Sets-fits base w f told t (record (f t) { locks = more }) (record {
    others_apart = λ s u ns nu ne. fits.apart s u ne;
    mine = mine;
    theirs = theirs;
    chain = Chain-more ((f t).locks) more w base ((f t).net) (λ n h. kept-old row ((f t).locks) n Exclusive h) (fits.chain t);
    chains = λ s ns. fits.chain s;
    walk_mine = λ k none. fits.walk t k none;
    walk_others = λ s k ns mine others. walk_but base w f told fits t s k mine others;
    story = subst (λ (m : Mark). StoryHolds m more w base (told t) ((f t).net)) (sym going)
        (Through-more ((f t).locks) more w base (told t) ((f t).net) (λ n md h. kept-old row ((f t).locks) n md h) (story_going (f t) w base (told t) going (fits.story t)));
    stories = λ s ns. fits.story s;
  })

pub puts_off_fits : (base w : IndexMap) (f : ℕ → Txn) (told : ℕ → List (Access × Reply)) (t : ℕ) (row : List Request) (ls : List Lock) → Fits base w f told → (f t).mark ≡ Going
    → IsFree (λ s. (f s).locks) t row → SameLocks ls (kept row ((f t).locks)) → Fits base w (set_txn f t (record (f t) { locks = ls })) told
puts_off_fits base w f told t row ls fits going free same =
    relocked base w f told t (record (f t) { locks = kept row ((f t).locks) }) ls (joined base w f told fits t row (granted_by f t row free) going) same

-- the end of an insert keeps the locks that it has
same_as_kept : (ls : List Lock) (n : Name) (k : Key) → Holds ls (At k) Exclusive
    → SameLocks ls (kept (record { name = n; mode = Exclusive; duration = Instant } ∷ record { name = At k; mode = Exclusive; duration = ToCommit } ∷ []) ls)
same_as_kept ls n k owns m md = (
  λ h. inr h,
  λ h. elim h [
    | inl it ↦ subst (λ (x : Name). Holds ls x md) it.0 (subst (λ (x : Mode). Holds ls (At k) x) it.1 owns)
    | inr old ↦ old
  ],
)

pub puts_fits : (base w : IndexMap) (f : ℕ → Txn) (told : ℕ → List (Access × Reply)) (t : ℕ) (k : Key) (r : ℕ) → Fits base w f told → (f t).mark ≡ Going → IsPending f w t k
    → Fits base (map_after (Insert k r) w) (set_txn f t (did_txn (f t) (Insert k r) w ((f t).locks))) (λ s. cond (nat_eq s t) ((Insert k r, Inserted) ∷ told s) (told s))
puts_fits base w f told t k r fits going p =
    let laws : KeptLocksStay = kept_locks_stay in
    let free = laws.grants f w t k r p in
    let is : answer (Insert k r) w ≡ Inserted = ap (λ o. cond (is_some o) Duplicate Inserted) p.absent in
    let same : SameLocks ((f t).locks) (kept (asked (Insert k r) w) ((f t).locks)) =
    subst (λ (qs : List Request). SameLocks ((f t).locks) (kept qs ((f t).locks))) (sym (row_is w k r p.absent)) (same_as_kept ((f t).locks) (next_name w k) k p.owns) in
    subst (λ (x : Reply). Fits base (map_after (Insert k r) w) (set_txn f t (did_txn (f t) (Insert k r) w ((f t).locks))) (λ s. cond (nat_eq s t) ((Insert k r, x) ∷ told s) (told s))) is
    (relocked base (map_after (Insert k r) w) f (λ s. cond (nat_eq s t) ((Insert k r, answer (Insert k r) w) ∷ told s) (told s)) t
    (did_txn (f t) (Insert k r) w (kept (asked (Insert k r) w) ((f t).locks))) ((f t).locks)
    (did-fits base w f told fits t (Insert k r) (granted_by f t (asked (Insert k r) w) free) (story_going (f t) w base (told t) going (fits.story t))) same)

pub took_off_fits : (base w : IndexMap) (f : ℕ → Txn) (told : ℕ → List (Access × Reply)) (t : ℕ) (c : Change) (cs : List Change) → Fits base w f told → (f t).net ≡ c ∷ cs → StoryHolds ((f t).mark) ((f t).locks) (undone w c) base (told t) cs
    → Fits base (undone w c) (set_txn f t (record (f t) { net = cs })) told
took_off_fits base w f told t c cs fits is story =
    Sets-fits base (undone w c) f told t (record (f t) { net = cs })
    (undo_sets base w f told fits t c cs is (record (f t) { net = cs }) refl (λ n md h. h) (undo_links base w f told fits t c cs is) story)
