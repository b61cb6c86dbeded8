-- In a run of the machine, a transaction that takes its changes back has more of them than are to be left, but while the leaf still goes that its newest one left empty.
use Rattle.std.proofs.Common.{◌≡◌, ◌≢◌, ◌≤◌, ◌<◌, ℕ, suc, Bool, true, false, cond, inl, inr, List, [], ◌∷◌, length, Option, None, Some, refl, sym, ap, subst, ◌∙◌, ne_eqb, arith}
use Rattle.im_base_types.specs.Maps.{IndexMap}
use Rattle.im_base_types.specs.Changes.{Change}
use Rattle.im_base_types.specs.Answers.{Insert, Delete, Step, Reply, Mark, Idle, Going, MustRollBack, RollingBack, Returning, Committing}
use Rattle.im_theory_machine.specs.View.{View, Aim, Under, owner_of, Puts, Drops, TakesBack, TookBack, of_others, Txn, idle, set_txn, did_txn, undid_more}
use Rattle.im_theory_machine.specs.Machine.{Answers, Goes, Run, IsReached, MayTakeBack, start, barred, begins, does, waits, dies, commits, queues, drops, turns, undoes, ends, puts_later, puts, drops_first, drops_leaf, takes_later, takes_first, takes_leaf, takes_last, stays_back, turns_back, gives_back, is_back, leaf_is_back, logs_page, tree_blocks, tree_halts, flushes, forces, checkpoints, switches, lacks, breaks}
use Rattle.im_theory_machine.proofs.Cited.{by_txn, by_force_txn}

-- how many changes are to be left of one that takes changes back
abbrev pub left_of : Mark → Option ℕ
left_of Idle = None
left_of Going = None
left_of MustRollBack = None
left_of RollingBack = Some 0
left_of (Returning n) = Some n
left_of Committing = None

abbrev pub Rolls : Option Under → ℕ → Txn → Type 0
Rolls under t x = (n : ℕ) → left_of x.mark ≡ Some n → length x.net ≤ n → under ≡ Some (record { owner = t; aim = TookBack })

abbrev AllRoll : View → Type 0
AllRoll v = (t : ℕ) → Rolls v.under t (v.txns t)

-- one that takes nothing back
keeps : (under : Option Under) (t : ℕ) (x : Txn) → left_of x.mark ≡ None → Rolls under t x
keeps under t x none n is few = absurd (let never : None ≡ Some n = sym none ∙ is in cc never)

idle_rolls : (under : Option Under) (t : ℕ) → Rolls under t idle
idle_rolls under t = keeps under t idle refl

-- one that has more than are to be left
has_more : (under : Option Under) (t k : ℕ) (x : Txn) → left_of x.mark ≡ Some k → k < length x.net → Rolls under t x
has_more under t k x left more n is few = absurd (let same : Some k ≡ Some n = sym left ∙ is in let e : k ≡ n = cc same in omega (arith, e, more, few))

one_more : (net cs : List Change) (c : Change) → net ≡ c ∷ cs → length net ≡ suc (length cs)
one_more net cs c is = ap length is

some_net : (net cs : List Change) (c : Change) → net ≡ c ∷ cs → 0 < length net
some_net net cs c is = let long = one_more net cs c is in omega (arith, long)

may_more : (m : Mark) (net cs : List Change) (c : Change) (n : ℕ) → MayTakeBack m cs → net ≡ c ∷ cs → left_of m ≡ Some n → length net ≤ n → ⊥
may_more m net cs c n (inl rolling) is left few =
    let same : Some 0 ≡ Some n = sym (ap left_of rolling) ∙ left in
    let e : 0 ≡ n = cc same in
    let long = one_more net cs c is in
    absurd (omega (arith, e, long, few))
may_more m net cs c n (inr r) is left few =
    let same : Some r.0 ≡ Some n = sym (ap left_of r.1) ∙ left in
    let e : r.0 ≡ n = cc same in
    let le : r.0 ≤ length cs = r.2 in
    let long = one_more net cs c is in
    absurd (omega (arith, e, le, long, few))

set : (v : View) (t : ℕ) (x : Txn) → Rolls v.under t x → AllRoll v → (u : ℕ) → Rolls v.under u (set_txn v.txns t x u)
set v t x own h = by_txn (λ u y. Rolls v.under u y) v.txns t x own (λ u ne. h u)

-- t has taken a change back, so its own structure change is over
others_roll : (v : View) (t u : ℕ) (x : Txn) → u ≢ t → Rolls v.under u x → Rolls (of_others t v.under) u x
others_roll v t u x differ h n is few = ap (of_others t) (h n is few) ∙ ap (λ (b : Bool). cond b None (Some (record { owner = u; aim = TookBack }))) (ne_eqb u t differ)

set_others : (v : View) (t : ℕ) (x : Txn) → Rolls (of_others t v.under) t x → AllRoll v → (u : ℕ) → Rolls (of_others t v.under) u (set_txn v.txns t x u)
set_others v t x own h = by_txn (λ u y. Rolls (of_others t v.under) u y) v.txns t x own (λ u ne. others_roll v t u (v.txns u) ne (h u))

-- nobody is there yet where none is under way
none_roll : (v : View) → v.under ≡ None → AllRoll v → (under : Option Under) (u : ℕ) → Rolls under u (v.txns u)
none_roll v none h under u n is few = absurd (let never : None ≡ Some (record { owner = u; aim = TookBack }) = sym none ∙ h u n is few in cc never)

abbrev leaf_of : ℕ → Option Under
leaf_of t = Some (record { owner = t; aim = TookBack })

same_owner : (t u : ℕ) → leaf_of t ≡ leaf_of u → u ≡ t
same_owner t u e = let owners : Some t ≡ Some u = ap owner_of e in cc owners

-- whether a leaf goes that was left empty in a rollback
abbrev took_back : Aim → Bool
took_back (Puts k r) = false
took_back (Drops k) = false
took_back TakesBack = false
took_back TookBack = true

no_leaf : (u : Under) (t : ℕ) → took_back u.aim ≡ false → Some u ≡ leaf_of t → ⊥
no_leaf u t none e = let never : false ≡ true = sym none ∙ ap took_back_in e in cc never
  where
    took_back_in : Option Under → Bool
    took_back_in None = false
    took_back_in (Some x) = took_back x.aim

-- only its owner is there
own_roll : (v : View) (t : ℕ) → v.under ≡ Some (record { owner = t; aim = TookBack }) → AllRoll v → (under : Option Under) (u : ℕ) → u ≢ t → Rolls under u (v.txns u)
own_roll v t under h other u differ n is few = absurd (differ (same_owner t u (sym under ∙ h u n is few)))

goes_on : (v w : View) (s : Step) (r : Reply) → AllRoll v → Goes v s r w → AllRoll w
goes_on v w s r h (begins a limit b c) = subst AllRoll (sym c) (set v v.next (record idle { mark = Going }) (keeps v.under v.next (record idle { mark = Going }) refl) h)
goes_on v w s r h (does t a ls b going free same d e) = subst AllRoll (sym e) (set v t (did_txn (v.txns t) a v.walk ls) (keeps v.under t (did_txn (v.txns t) a v.walk ls) refl) h)
goes_on v w s r h (waits t a holder b going wait d e) = subst AllRoll (sym e) h
goes_on v w s r h (dies t a b going die d e) = subst AllRoll (sym e) (set v t (record (v.txns t) { mark = MustRollBack }) (keeps v.under t (record (v.txns t) { mark = MustRollBack }) refl) h)
goes_on v w s r h (commits t b going alone d e) = subst AllRoll (sym e) (set v t idle (idle_rolls v.under t) h)
goes_on v w s r h (queues t c cs b going net d e) = subst AllRoll (sym e) (set v t (record (v.txns t) { mark = Committing }) (keeps v.under t (record (v.txns t) { mark = Committing }) refl) h)
goes_on v w s r h (drops t b may none d e) = subst AllRoll (sym e) (set v t idle (idle_rolls v.under t) h)
goes_on v w s r h (turns t x xs b may net d e) = subst AllRoll (sym e) (set v t (record (v.txns t) { mark = RollingBack }) (has_more v.under t 0 (record (v.txns t) { mark = RollingBack }) refl (some_net ((v.txns t).net) xs x net)) h)
goes_on v w s r h (undoes t x y xs b rolling net d e) = subst AllRoll (sym e)
    (set_others v t (record (v.txns t) { net = y ∷ xs }) (has_more (of_others t v.under) t 0 (record (v.txns t) { net = y ∷ xs }) (ap left_of rolling) (some_net (y ∷ xs) xs y refl)) h)
goes_on v w s r h (ends t x b rolling net d e) = subst AllRoll (sym e) (set_others v t idle (idle_rolls (of_others t v.under) t) h)
goes_on v w s r h (puts_later t k i ls b going none absent free same d e) = subst AllRoll (sym e)
    (by_txn (λ u y. Rolls (Some (record { owner = t; aim = Puts k i })) u y) v.txns t (record (v.txns t) { locks = ls }) (keeps (Some (record { owner = t; aim = Puts k i })) t (record (v.txns t) { locks = ls }) (ap left_of going))
    (λ u ne. none_roll v none h (Some (record { owner = t; aim = Puts k i })) u))
goes_on v w s r h (puts t k i b going under d e) = subst AllRoll (sym e)
    (by_txn (λ u y. Rolls None u y) v.txns t (did_txn (v.txns t) (Insert k i) v.walk ((v.txns t).locks)) (keeps None t (did_txn (v.txns t) (Insert k i) v.walk ((v.txns t).locks)) refl)
    (λ u ne n is few. absurd (no_leaf (record { owner = t; aim = Puts k i }) u refl (sym under ∙ h u n is few))))
goes_on v w s r h (drops_first t k i ls b going none there free same d e) = subst AllRoll (sym e)
    (by_txn (λ u y. Rolls (Some (record { owner = t; aim = Drops k })) u y) v.txns t (did_txn (v.txns t) (Delete k) v.walk ls) (keeps (Some (record { owner = t; aim = Drops k })) t (did_txn (v.txns t) (Delete k) v.walk ls) refl)
    (λ u ne. none_roll v none h (Some (record { owner = t; aim = Drops k })) u))
goes_on v w s r h (drops_leaf t k b going under d e) = subst AllRoll (sym e)
    (λ u n is few. absurd (no_leaf (record { owner = t; aim = Drops k }) u refl (sym under ∙ h u n is few)))
goes_on v w s r h (takes_later t c cs b may none net d e) = subst AllRoll (sym e) (none_roll v none h (Some (record { owner = t; aim = TakesBack })))
goes_on v w s r h (takes_first t c cs b may none net d e) = subst AllRoll (sym e)
    (by_txn (λ u y. Rolls (Some (record { owner = t; aim = TookBack })) u y) v.txns t (record (v.txns t) { net = cs }) (λ n is few. refl) (λ u ne. none_roll v none h (Some (record { owner = t; aim = TookBack })) u))
goes_on v w s r h (takes_leaf t c cs b may under net d e) = subst AllRoll (sym e)
    (λ u n is few. absurd (let own : u ≡ t = same_owner t u (sym under ∙ h u n is few) in
    may_more ((v.txns t).mark) ((v.txns t).net) cs c n may net (ap (λ (k : ℕ). left_of ((v.txns k).mark)) (sym own) ∙ is) (subst (λ (k : ℕ). length ((v.txns k).net) ≤ n) own few)))
goes_on v w s r h (takes_last t b rolling under none d e) = subst AllRoll (sym e) (by_txn (λ u y. Rolls None u y) v.txns t idle (idle_rolls None t) (own_roll v t under h None))
goes_on v w s r h (stays_back t k b may few d e) = subst AllRoll (sym e) (set v t (record (v.txns t) { mark = Going }) (keeps v.under t (record (v.txns t) { mark = Going }) refl) h)
goes_on v w s r h (turns_back t k b may more d e) = subst AllRoll (sym e) (set v t (record (v.txns t) { mark = Returning k }) (has_more v.under t k (record (v.txns t) { mark = Returning k }) refl more) h)
goes_on v w s r h (gives_back t k c cs b back net more d e) = subst AllRoll (sym e)
    (set_others v t (record (v.txns t) { net = cs }) (has_more (of_others t v.under) t k (record (v.txns t) { net = cs }) (ap left_of back) more) h)
goes_on v w s r h (is_back t k c cs b back net is d e) = subst AllRoll (sym e)
    (by_txn (λ u y. Rolls (of_others t v.under) u y) (undid_more v t c cs).txns t (record ((undid_more v t c cs).txns t) { mark = Going }) (keeps (of_others t v.under) t (record ((undid_more v t c cs).txns t) { mark = Going }) refl)
    (by_txn (λ u y. u ≢ t → Rolls (of_others t v.under) u y) v.txns t (record (v.txns t) { net = cs }) (λ ne. absurd (ne refl)) (λ u ne other. others_roll v t u (v.txns u) ne (h u))))
goes_on v w s r h (leaf_is_back t k b back under is d e) = subst AllRoll (sym e)
    (by_txn (λ u y. Rolls None u y) v.txns t (record (v.txns t) { mark = Going }) (keeps None t (record (v.txns t) { mark = Going }) refl) (own_roll v t under h None))
goes_on v w s r h (logs_page t u b under owner d e) = subst AllRoll (sym e) h
goes_on v w s r h (tree_blocks t a u b under other d e) = subst AllRoll (sym e) h
goes_on v w s r h (tree_halts t u b under other d e) = subst AllRoll (sym e) h
goes_on v w s r h (flushes p b d e) = subst AllRoll (sym e) h
goes_on v w s r h (forces b d e) = subst AllRoll (sym e) (by_force_txn (λ u y. Rolls v.under u y) v.txns v.queue (λ u some. idle_rolls v.under u) (λ u none. h u))
goes_on v w s r h (checkpoints b d e) = subst AllRoll (sym e) h
goes_on v w s r h (switches b d e) = subst AllRoll (sym e) h
goes_on v w s r h (lacks fault want d e) = subst AllRoll (sym e) h
goes_on v w s r h (breaks fault ls break d e) = subst AllRoll (sym e) h

answers_on : (v w : View) (s : Step) (r : Reply) → AllRoll v → (o : Option ℕ) → Answers v s r w o → AllRoll w
answers_on v w s r h None a = goes_on v w s r h a
answers_on v w s r h (Some f) a = subst AllRoll (sym a.1) h

runs_on : (v w : View) (trace : List (Step × Reply)) → AllRoll v → Run v trace w → AllRoll w
runs_on v w [] h run = subst AllRoll (sym run) h
runs_on v w (e ∷ es) h run = runs_on run.0 w es (answers_on v run.0 e.0 e.1 h (barred v e.0) run.1) run.2

pub taking_is : (base : IndexMap) (v : View) → IsReached base v → (t n : ℕ) → left_of ((v.txns t).mark) ≡ Some n → length ((v.txns t).net) ≤ n → v.under ≡ Some (record { owner = t; aim = TookBack })
taking_is base v r = runs_on (start base r.first) v r.trace (λ t. idle_rolls None t) r.run

pub rolling_is : (base : IndexMap) (v : View) → IsReached base v → (t : ℕ) → (v.txns t).mark ≡ RollingBack → (v.txns t).net ≡ [] → v.under ≡ Some (record { owner = t; aim = TookBack })
rolling_is base v r t rolling none = let few : length ((v.txns t).net) ≡ 0 = ap length none in taking_is base v r t 0 (ap left_of rolling) (omega (arith, few))
