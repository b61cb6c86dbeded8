-- A step of the machine changes the walk at one key at most, and no other comes into a net.
use Rattle.std.proofs.Common.{◌≡◌, ℕ, List, [], ◌∷◌, ◌++◌, Option, Some, None, cond, is_some, Bool, true, false, refl, ap, sym, subst, ◌∙◌, inl, inr, ◌⊎◌}
use Rattle.std.specs.FinMap.{get}
use Rattle.im_base_types.specs.Keys.{Key}
use Rattle.im_base_types.specs.Maps.{IndexMap}
use Rattle.im_base_types.specs.Changes.{Change, Put, Drop, Touches, apply, undone, key_of}
use Rattle.im_base_types.specs.Answers.{Access, Fetch, Seek, Next, Prev, Scan, Insert, Delete, Step, Do, Reply, Mark, Going, changes, dropped, map_after}
use Rattle.im_theory_machine.specs.Locks.{Lock}
use Rattle.im_theory_machine.specs.View.{View, Txn, Under, of_others, idle, set_txn, marked, undid_more}
use Rattle.im_theory_machine.specs.Machine.{Goes, Moves, Answers, barred, begins, does, waits, dies, commits, queues, drops, turns, undoes, ends, puts_later, puts, drops_first, drops_leaf, takes_later, takes_first, takes_leaf, takes_last, stays_back, turns_back, gives_back, is_back, leaf_is_back, logs_page, tree_blocks, tree_halts, flushes, forces, checkpoints, switches, lacks, breaks}
use Rattle.im_theory_machine.specs.Overlays.{Alters, AsksChange, PutsLater}
use Rattle.std.specs.Prelude.{◌==◌}
use Rattle.im_theory_machine.proofs.Changes.{applied_off, undone_off}
use Rattle.im_theory_machine.proofs.Cited.{by_txn, by_force_txn}

pub record Still (v w : View) : Type 0 where
  pub walk : w.walk ≡ v.walk
  pub nets : (t : ℕ) (x : Key) → Touches ((w.txns t).net) x → Touches ((v.txns t).net) x

pub record AtMost (k : Key) (v w : View) : Type 0 where
  pub only : (x : Key) → (x ≡ k → ⊥) → get w.walk x ≡ get v.walk x
  pub nets : (t : ℕ) (x : Key) → Touches ((w.txns t).net) x → (k ≡ x) ⊎ Touches ((v.txns t).net) x

-- why a step may change this key
abbrev pub Cause : View → Step → Key → Type 0
Cause v step k = AsksChange step k ⊎ (PutsLater v.under k ⊎ ((t : ℕ) × Touches ((v.txns t).net) k))

abbrev pub Moved : Step → View → View → Type 0
Moved step v w = Still v w ⊎ ((k : Key) × AtMost k v w × Cause v step k)

moved_to : (i : Step) (v u w : View) → w ≡ u → Moved i v u → Moved i v w
moved_to i v u w e h = subst (λ (z : View). Moved i v z) (sym e) h

abbrev pub Fewer : (ℕ → Txn) → ℕ → Txn → Type 0
Fewer f s x = (y : Key) → Touches (x.net) y → Touches ((f s).net) y

-- one transaction is set, whose net has nothing new
pub fewer : (f : ℕ → Txn) (t : ℕ) (x : Txn) → Fewer f t x → (s : ℕ) → Fewer f s (set_txn f t x s)
fewer f t x h = by_txn (Fewer f) f t x h (λ s ne y touch. touch)

abbrev More1 : (ℕ → Txn) → Key → ℕ → Txn → Type 0
More1 f k s x = (y : Key) → Touches (x.net) y → (k ≡ y) ⊎ Touches ((f s).net) y

more : (f : ℕ → Txn) (k : Key) (t : ℕ) (x : Txn) → More1 f k t x → (s : ℕ) → More1 f k s (set_txn f t x s)
more f k t x h = by_txn (More1 f k) f t x h (λ s ne y touch. inr touch)

changes_one : (a : Access) (m : IndexMap) → (changes a m ≡ []) ⊎ ((c : Change) × (changes a m ≡ c ∷ []))
changes_one (Fetch k) m = inl refl
changes_one (Seek k) m = inl refl
changes_one (Next k) m = inl refl
changes_one (Prev k) m = inl refl
changes_one (Scan lo hi n) m = inl refl
changes_one (Insert k r) m = go (is_some (get m k))
  where
    go : (b : Bool) → (cond {A = List Change} b [] (Put k r ∷ []) ≡ []) ⊎ ((c : Change) × (cond {A = List Change} b [] (Put k r ∷ []) ≡ c ∷ []))
    go true = inl refl
    go false = inr (Put k r, refl)
changes_one (Delete k) m = go (get m k)
  where
    go : (o : Option ℕ) → (dropped k o ≡ []) ⊎ ((c : Change) × (dropped k o ≡ c ∷ []))
    go None = inl refl
    go (Some r) = inr (Drop k r, refl)

-- the walk and the net of t have these changes more
module _ (i : Step) (v u : View) (t : ℕ) (m : Mark) (ls : List Lock) where
  with_changes : (e : List Change) → (e ≡ []) ⊎ ((c : Change) × (e ≡ c ∷ [])) → u.walk ≡ apply v.walk e → ((s : ℕ) → u.txns s ≡ set_txn v.txns t (record { mark = m; net = e ++ (v.txns t).net; locks = ls }) s) → ((c : Change) → e ≡ c ∷ [] → Cause v i (key_of c)) → Moved i v u
  with_changes e (inl none) walk txns why = inl (record {
    walk = walk ∙ ap (apply v.walk) none;
    nets = λ s x touch. fewer v.txns t (record { mark = m; net = e ++ (v.txns t).net; locks = ls })
        (λ y h. subst (λ (d : List Change). Touches (d ++ (v.txns t).net) y) none h) s x (subst (λ (z : Txn). Touches (z.net) x) (txns s) touch);
  })
  with_changes e (inr (c, one)) walk txns why = inr (
    key_of c,
    record {
      only = λ x ne. ap (λ (n : IndexMap). get n x) (walk ∙ ap (apply v.walk) one) ∙ applied_off v.walk c x ne;
      nets = λ s x touch. more v.txns (key_of c) t (record { mark = m; net = e ++ (v.txns t).net; locks = ls })
          (λ y h. subst (λ (d : List Change). Touches (d ++ (v.txns t).net) y) one h) s x (subst (λ (z : Txn). Touches (z.net) x) (txns s) touch);
    },
    why c one,
  )

did_moved : (i : Step) (v u : View) (t : ℕ) (a : Access) (ls : List Lock) → u.walk ≡ map_after a v.walk → ((s : ℕ) → u.txns s ≡ set_txn v.txns t (record { mark = Going; net = changes a v.walk ++ (v.txns t).net; locks = ls }) s) → ((c : Change) → changes a v.walk ≡ c ∷ [] → Cause v i (key_of c)) → Moved i v u
did_moved i v u t a ls walk txns why = with_changes i v u t Going ls (changes a v.walk) (changes_one a v.walk) walk txns why

-- the newest change of t is taken back
pub undone_most : (v u : View) (t : ℕ) (c : Change) (x : Txn) → u.walk ≡ undone v.walk c → ((s : ℕ) → u.txns s ≡ set_txn v.txns t x s) → Fewer v.txns t x → AtMost (key_of c) v u
undone_most v u t c x walk txns less = record {
  only = λ y ne. ap (λ (n : IndexMap). get n y) walk ∙ undone_off v.walk c y ne;
  nets = λ s y touch. inr (fewer v.txns t x less s y (subst (λ (z : Txn). Touches (z.net) y) (txns s) touch));
}

undone_moved : (i : Step) (v u : View) (t : ℕ) (c : Change) (x : Txn) → u.walk ≡ undone v.walk c → ((s : ℕ) → u.txns s ≡ set_txn v.txns t x s) → Fewer v.txns t x → Touches ((v.txns t).net) (key_of c) → Moved i v u
undone_moved i v u t c x walk txns less touch = inr (key_of c, undone_most v u t c x walk txns less, inr (inr (t, touch)))

-- the walk stays, and one transaction is set
set_moved : (i : Step) (v u : View) (t : ℕ) (x : Txn) → u.walk ≡ v.walk → ((s : ℕ) → u.txns s ≡ set_txn v.txns t x s) → Fewer v.txns t x → Moved i v u
set_moved i v u t x walk txns less = inl (record { walk = walk; nets = λ s y touch. fewer v.txns t x less s y (subst (λ (z : Txn). Touches (z.net) y) (txns s) touch) })

-- then one transaction gets another mark
marked_moved : (i : Step) (v u : View) (t : ℕ) (m : Mark) → Moved i v u → Moved i v (marked u t m)
marked_moved i v u t m moved = go moved
  where
    same : (s : ℕ) → Fewer u.txns s ((marked u t m).txns s)
    same = fewer u.txns t (record (u.txns t) { mark = m }) (λ y touch. touch)

    go : Moved i v u → Moved i v (marked u t m)
    go (inl still) = inl (record { walk = still.walk; nets = λ s x touch. still.nets s x (same s x touch) })
    go (inr (k, most, why)) = inr (k, record { only = most.only; nets = λ s x touch. most.nets s x (same s x touch) }, why)

-- the walk and the nets stay
stay_moved : (i : Step) (v u : View) → u.walk ≡ v.walk → ((s : ℕ) → (u.txns s).net ≡ (v.txns s).net) → Moved i v u
stay_moved i v u walk same = inl (record { walk = walk; nets = λ s y touch. subst (λ (e : List Change). Touches e y) (same s) touch })

taken_moved : (i : Step) (v : View) (t : ℕ) (c : Change) (cs : List Change) → (v.txns t).net ≡ c ∷ cs → Moved i v (undid_more v t c cs)
taken_moved i v t c cs net =
    undone_moved i v (undid_more v t c cs) t c (record (v.txns t) { net = cs }) refl (λ s. refl)
    (λ y touch. subst (λ (n : List Change). Touches n y) (sym net) (inr touch))
    (subst (λ (n : List Change). Touches n (key_of c)) (sym net) (inl refl))

pub of_none : (f : ℕ → Txn) (t : ℕ) → Fewer f t idle
of_none f t y touch = absurd touch

same_net : (f : ℕ → Txn) (t : ℕ) (m : Mark) (ls : List Lock) → Fewer f t (record { mark = m; net = (f t).net; locks = ls })
same_net f t m ls y touch = touch

rest_net : (f : ℕ → Txn) (t : ℕ) (m : Mark) (ls : List Lock) (c : Change) (cs : List Change) → (f t).net ≡ c ∷ cs → Fewer f t (record { mark = m; net = cs; locks = ls })
rest_net f t m ls c cs is y touch = subst (λ (e : List Change). Touches e y) (sym is) (inr touch)

-- the change of an access is of the key that it alters
abbrev key_or : Key → List Change → Key
key_or d [] = d
key_or d (c ∷ cs) = key_of c

key_asked : (a : Access) (m : IndexMap) (c : Change) → changes a m ≡ c ∷ [] → Alters a (key_of c)
key_asked (Fetch k) m c e = absurd (cc e)
key_asked (Seek k) m c e = absurd (cc e)
key_asked (Next k) m c e = absurd (cc e)
key_asked (Prev k) m c e = absurd (cc e)
key_asked (Scan lo hi n) m c e = absurd (cc e)
key_asked (Insert k r) m c e = go (is_some (get m k)) e
  where
    go : (b : Bool) → cond {A = List Change} b [] (Put k r ∷ []) ≡ c ∷ [] → k ≡ key_of c
    go true e = ap (key_or k) e
    go false e = ap (key_or k) e
key_asked (Delete k) m c e = go (get m k) e
  where
    go : (o : Option ℕ) → dropped k o ≡ c ∷ [] → k ≡ key_of c
    go None e = ap (key_or k) e
    go (Some r) e = ap (key_or k) e

asks_as : (step : Step) (t : ℕ) (a : Access) → step ≡ Do t a → (x : Key) → Alters a x → AsksChange step x
asks_as step t a is x h = subst (λ (i : Step). AsksChange i x) (sym is) h

pub goes_moved : (v w : View) (step : Step) (reply : Reply) → Goes v step reply w → Moved step v w
goes_moved v w step reply (begins a l b e) = moved_to step v _ w e (set_moved step v _ v.next (record { mark = Going; net = []; locks = [] }) refl (λ s. refl) (λ y touch. absurd touch))
goes_moved v w step reply (does t a ls b is free same d e) = moved_to step v _ w e (did_moved step v _ t a ls refl (λ s. refl) (λ c one. inl (asks_as step t a b (key_of c) (key_asked a v.walk c one))))
goes_moved v w step reply (waits t a holder b is who d e) = moved_to step v _ w e (stay_moved step v _ refl (λ s. refl))
goes_moved v w step reply (dies t a b is must d e) = moved_to step v _ w e (set_moved step v _ t _ refl (λ s. refl) (λ y touch. touch))
goes_moved v w step reply (commits t b is none d e) = moved_to step v _ w e (set_moved step v _ t idle refl (λ s. refl) (of_none v.txns t))
goes_moved v w step reply (queues t c cs b is net d e) = moved_to step v _ w e (set_moved step v _ t _ refl (λ s. refl) (λ y touch. touch))
goes_moved v w step reply (drops t b may net d e) = moved_to step v _ w e (set_moved step v _ t idle refl (λ s. refl) (of_none v.txns t))
goes_moved v w step reply (turns t c cs b may net d e) = moved_to step v _ w e (set_moved step v _ t _ refl (λ s. refl) (λ y touch. touch))
goes_moved v w step reply (undoes t c g cs b is net d e) = moved_to step v _ w e (taken_moved step v t c (g ∷ cs) net)
goes_moved v w step reply (ends t c b is net d e) = moved_to step v _ w e (undone_moved step v _ t c idle refl (λ s. refl) (of_none v.txns t) (subst (λ (n : List Change). Touches n (key_of c)) (sym net) (inl refl)))
goes_moved v w step reply (puts_later t k r ls b is none absent free same d e) = moved_to step v _ w e (set_moved step v _ t _ refl (λ s. refl) (λ y touch. touch))
goes_moved v w step reply (puts t k r b is under d e) = moved_to step v _ w e (did_moved step v _ t (Insert k r) ((v.txns t).locks) refl (λ s. refl) (λ c one. inr (inl (subst (λ (o : Option Under). PutsLater o (key_of c)) (sym under) (key_asked (Insert k r) v.walk c one)))))
goes_moved v w step reply (drops_first t k r ls b is none there free same d e) = moved_to step v _ w e (did_moved step v _ t (Delete k) ls refl (λ s. refl) (λ c one. inl (asks_as step t (Delete k) b (key_of c) (key_asked (Delete k) v.walk c one))))
goes_moved v w step reply (drops_leaf t k b is under d e) = moved_to step v _ w e (stay_moved step v _ refl (λ s. refl))
goes_moved v w step reply (takes_later t c cs b is none net d e) = moved_to step v _ w e (stay_moved step v _ refl (λ s. refl))
goes_moved v w step reply (takes_first t c cs b is none net d e) = moved_to step v _ w e (undone_moved step v _ t c _ refl (λ s. refl) (λ y touch. subst (λ (n : List Change). Touches n y) (sym net) (inr touch)) (subst (λ (n : List Change). Touches n (key_of c)) (sym net) (inl refl)))
goes_moved v w step reply (takes_leaf t c cs b is under net d e) = moved_to step v _ w e (stay_moved step v _ refl (λ s. refl))
goes_moved v w step reply (takes_last t b is under net d e) = moved_to step v _ w e (set_moved step v _ t idle refl (λ s. refl) (of_none v.txns t))
goes_moved v w step reply (stays_back t n b may few d e) = moved_to step v _ w e (set_moved step v _ t _ refl (λ s. refl) (λ y touch. touch))
goes_moved v w step reply (turns_back t n b may more d e) = moved_to step v _ w e (set_moved step v _ t _ refl (λ s. refl) (λ y touch. touch))
goes_moved v w step reply (gives_back t n c cs b is net left d e) = moved_to step v _ w e (taken_moved step v t c cs net)
goes_moved v w step reply (is_back t n c cs b is net none d e) = moved_to step v _ w e (marked_moved step v _ t Going (taken_moved step v t c cs net))
goes_moved v w step reply (leaf_is_back t n b is under left d e) = moved_to step v _ w e (set_moved step v _ t _ refl (λ s. refl) (λ y touch. touch))
goes_moved v w step reply (logs_page t u b under owner d e) = moved_to step v _ w e (stay_moved step v _ refl (λ s. refl))
goes_moved v w step reply (tree_blocks t a u b under ne d e) = moved_to step v _ w e (stay_moved step v _ refl (λ s. refl))
goes_moved v w step reply (tree_halts t u b under ne d e) = moved_to step v _ w e (stay_moved step v _ refl (λ s. refl))
goes_moved v w step reply (flushes p b d e) = moved_to step v _ w e (stay_moved step v _ refl (λ s. refl))
goes_moved v w step reply (forces b d e) = moved_to step v _ w e (inl (record {
  walk = refl;
  nets = by_force_txn (Fewer v.txns) v.txns v.queue (λ t some. of_none v.txns t) (λ t none y touch. touch);
}))
goes_moved v w step reply (checkpoints b d e) = moved_to step v _ w e (stay_moved step v _ refl (λ s. refl))
goes_moved v w step reply (switches b d e) = moved_to step v _ w e (stay_moved step v _ refl (λ s. refl))
goes_moved v w step reply (lacks fault wants d e) = moved_to step v _ w e (stay_moved step v _ refl (λ s. refl))
goes_moved v w step reply (breaks fault ls b d e) = moved_to step v _ w e (stay_moved step v _ refl (λ s. refl))

-- a step that a check bars changes nothing
pub moves_moved : (v w : View) (step : Step) (reply : Reply) → Moves v step reply w → Moved step v w
moves_moved v w step reply moves = go (barred v step) moves
  where
    go : (o : Option ℕ) → Answers v step reply w o → Moved step v w
    go None goes = goes_moved v w step reply goes
    go (Some fault) (d, e) = moved_to step v v w e (stay_moved step v v refl (λ s. refl))

-- ---- the structure change under way

put_of_others : (t : ℕ) (o : Option Under) (x : Key) → PutsLater (of_others t o) x → PutsLater o x
put_of_others t None x h = h
put_of_others t (Some u) x h = go (u.owner == t) h
  where
    go : (b : Bool) → PutsLater (cond {A = Option Under} b None (Some u)) x → PutsLater (Some u) x
    go true h = absurd h
    go false h = h

abbrev Later : Step → View → View → Type 0
Later step v w = (x : Key) → PutsLater w.under x → PutsLater v.under x ⊎ AsksChange step x

later_to : (i : Step) (v u w : View) → w ≡ u → Later i v u → Later i v w
later_to i v u w e h = subst (λ (z : View). Later i v z) (sym e) h

goes_later : (v w : View) (step : Step) (reply : Reply) → Goes v step reply w → Later step v w
goes_later v w step reply (begins a l b e) = later_to step v _ w e (λ x h. inl h)
goes_later v w step reply (does t a ls b is free same d e) = later_to step v _ w e (λ x h. inl h)
goes_later v w step reply (waits t a holder b is who d e) = later_to step v _ w e (λ x h. inl h)
goes_later v w step reply (dies t a b is must d e) = later_to step v _ w e (λ x h. inl h)
goes_later v w step reply (commits t b is none d e) = later_to step v _ w e (λ x h. inl h)
goes_later v w step reply (queues t c cs b is net d e) = later_to step v _ w e (λ x h. inl h)
goes_later v w step reply (drops t b may net d e) = later_to step v _ w e (λ x h. inl h)
goes_later v w step reply (turns t c cs b may net d e) = later_to step v _ w e (λ x h. inl h)
goes_later v w step reply (undoes t c g cs b is net d e) = later_to step v _ w e (λ x h. inl (put_of_others t v.under x h))
goes_later v w step reply (ends t c b is net d e) = later_to step v _ w e (λ x h. inl (put_of_others t v.under x h))
goes_later v w step reply (puts_later t k r ls b is none absent free same d e) = later_to step v _ w e (λ x h. inr (asks_as step t (Insert k r) b x h))
goes_later v w step reply (puts t k r b is under d e) = later_to step v _ w e (λ x h. absurd h)
goes_later v w step reply (drops_first t k r ls b is none there free same d e) = later_to step v _ w e (λ x h. absurd h)
goes_later v w step reply (drops_leaf t k b is under d e) = later_to step v _ w e (λ x h. absurd h)
goes_later v w step reply (takes_later t c cs b is none net d e) = later_to step v _ w e (λ x h. absurd h)
goes_later v w step reply (takes_first t c cs b is none net d e) = later_to step v _ w e (λ x h. absurd h)
goes_later v w step reply (takes_leaf t c cs b is under net d e) = later_to step v _ w e (λ x h. absurd h)
goes_later v w step reply (takes_last t b is under net d e) = later_to step v _ w e (λ x h. absurd h)
goes_later v w step reply (stays_back t n b may few d e) = later_to step v _ w e (λ x h. inl h)
goes_later v w step reply (turns_back t n b may more d e) = later_to step v _ w e (λ x h. inl h)
goes_later v w step reply (gives_back t n c cs b is net left d e) = later_to step v _ w e (λ x h. inl (put_of_others t v.under x h))
goes_later v w step reply (is_back t n c cs b is net none d e) = later_to step v _ w e (λ x h. inl (put_of_others t v.under x h))
goes_later v w step reply (leaf_is_back t n b is under left d e) = later_to step v _ w e (λ x h. absurd h)
goes_later v w step reply (logs_page t u b under owner d e) = later_to step v _ w e (λ x h. inl h)
goes_later v w step reply (tree_blocks t a u b under ne d e) = later_to step v _ w e (λ x h. inl h)
goes_later v w step reply (tree_halts t u b under ne d e) = later_to step v _ w e (λ x h. inl h)
goes_later v w step reply (flushes p b d e) = later_to step v _ w e (λ x h. inl h)
goes_later v w step reply (forces b d e) = later_to step v _ w e (λ x h. inl h)
goes_later v w step reply (checkpoints b d e) = later_to step v _ w e (λ x h. inl h)
goes_later v w step reply (switches b d e) = later_to step v _ w e (λ x h. inl h)
goes_later v w step reply (lacks fault wants d e) = later_to step v _ w e (λ x h. inl h)
goes_later v w step reply (breaks fault ls b d e) = later_to step v _ w e (λ x h. inl h)

pub moves_later : (v w : View) (step : Step) (reply : Reply) → Moves v step reply w → (x : Key) → PutsLater w.under x → PutsLater v.under x ⊎ AsksChange step x
moves_later v w step reply moves = go (barred v step) moves
  where
    go : (o : Option ℕ) → Answers v step reply w o → Later step v w
    go None goes = goes_later v w step reply goes
    go (Some fault) (d, e) = later_to step v v w e (λ x h. inl h)
