-- Each step keeps what holds between steps.
use Rattle.std.proofs.Common.{◌≡◌, ◌≢◌, ℕ, Bool, cond, nat_eq, List, [], ◌∷◌, ◌++◌, refl, ap, sym, subst, ◌∙◌, inl, inr, ◌⊎◌, eq-eqb, ne_eqb}
use Rattle.std.specs.FinMap.{get}
use Rattle.im_base_types.specs.Keys.{Key}
use Rattle.im_base_types.specs.Maps.{IndexMap}
use Rattle.im_base_types.specs.Answers.{Access, Reply, changes, answer, Mark, Going}
use Rattle.im_base_types.specs.Changes.{Change, key_of, applied, undone, apply, Touches}
use Rattle.im_theory_machine.specs.Locks.{Name, Lock, Request, kept, Holds, SameLocks, Asks}
use Rattle.im_theory_machine.specs.declared.lock_kind.Mode.{Mode}
use Rattle.im_theory_machine.specs.declared.lock_kind.Mode.TheVariants.{Exclusive}
use Rattle.im_theory_machine.specs.Rows.{asked}
use Rattle.im_theory_machine.specs.View.{Txn, idle, set_txn, did_txn}
use Rattle.im_theory_machine.proofs.Order.{same_key}
use Rattle.im_theory_machine.proofs.Guards.{guard}
use Rattle.im_theory_machine.proofs.Changes.{owned, applied_off, undone_at, undone_off, undone-applied, apply-agrees, applied-agrees, apply-untouched, cases_touches, guard-applied, guard-applied_at}
use Rattle.im_theory_machine.proofs.ReadKeys.{Reads, AgreeOn, reply-agrees, changes-agrees, Reads-agrees, asked-guards}
use Rattle.im_theory_machine.proofs.Locks.{kept-old, kept-from, IsStill, Makes, cases_access}
use Rattle.im_theory_machine.proofs.Invariant.{Guards, Chain, NotHeld, Chain-elsewhere, Told-moved, Chain-rebased, Chain-more, Chain-guards, before_last, Through, Through-more, through_told, through_plain, StoryHolds, story-elsewhere, story-rebased, story-more, Fits, set_txn-same, set_txn-other, by_txn}
use Rattle.im_theory_machine.proofs.Stories.{still_plain, made_change}
use Rattle.im_theory_machine.proofs.Bools.{cases_number}

-- what is owed when one transaction is set
pub record Sets (base w : IndexMap) (f : ℕ → Txn) (told : ℕ → List (Access × Reply)) (t : ℕ) (x : Txn) : Type 0 where
  pub others_apart : (s u : ℕ) → s ≢ t → u ≢ t → s ≢ u → (n : Name) (md : Mode) → Holds ((f s).locks) n Exclusive → Holds ((f u).locks) n md → ⊥
  pub mine : (s : ℕ) → s ≢ t → (n : Name) (md : Mode) → Holds x.locks n Exclusive → Holds ((f s).locks) n md → ⊥
  pub theirs : (s : ℕ) → s ≢ t → (n : Name) (md : Mode) → Holds ((f s).locks) n Exclusive → Holds x.locks n md → ⊥
  pub chain : Chain x.locks w base x.net
  pub chains : (s : ℕ) → s ≢ t → Chain ((f s).locks) w base ((f s).net)
  pub walk_mine : (k : Key) → ((u : ℕ) → u ≢ t → Touches ((f u).net) k → ⊥) → get w k ≡ get (apply base x.net) k
  pub walk_others : (s : ℕ) (k : Key) → s ≢ t → (Touches x.net k → ⊥) → ((u : ℕ) → u ≢ s → u ≢ t → Touches ((f u).net) k → ⊥) → get w k ≡ get (apply base ((f s).net)) k
  pub story : StoryHolds x.mark x.locks w base (told t) x.net
  pub stories : (s : ℕ) → s ≢ t → StoryHolds ((f s).mark) ((f s).locks) w base (told s) ((f s).net)

pub Sets-fits : (base w : IndexMap) (f : ℕ → Txn) (told : ℕ → List (Access × Reply)) (t : ℕ) (x : Txn) → Sets base w f told t x → Fits base w (set_txn f t x) told
Sets-fits base w f told t x h = record {
  apart = by_txn (λ s y. (u : ℕ) → s ≢ u → (n : Name) (md : Mode) → Holds y.locks n Exclusive → Holds ((set_txn f t x u).locks) n md → ⊥) f t x
      (by_txn (λ u y. t ≢ u → (n : Name) (md : Mode) → Holds x.locks n Exclusive → Holds y.locks n md → ⊥) f t x
      (λ ne n md a b. ne refl)
      (λ u nu ne n md a b. h.mine u nu n md a b))
      (λ s ns. by_txn (λ u y. s ≢ u → (n : Name) (md : Mode) → Holds ((f s).locks) n Exclusive → Holds y.locks n md → ⊥) f t x
      (λ ne n md a b. h.theirs s ns n md a b)
      (λ u nu ne n md a b. h.others_apart s u ns nu ne n md a b));
  chain = by_txn (λ s y. Chain y.locks w base y.net) f t x h.chain h.chains;
  walk = by_txn (λ s y. (k : Key) → ((u : ℕ) → u ≢ s → Touches ((set_txn f t x u).net) k → ⊥) → get w k ≡ get (apply base y.net) k) f t x
      (λ k none. h.walk_mine k (λ u nu touch. none u nu (subst (λ (y : Txn). Touches y.net k) (sym (set_txn-other f t x u nu)) touch)))
      (λ s ns k none. h.walk_others s k ns
      (λ touch. none t (λ e. ns (sym e)) (subst (λ (y : Txn). Touches y.net k) (sym (set_txn-same f t x)) touch))
      (λ u nus nut touch. none u nus (subst (λ (y : Txn). Touches y.net k) (sym (set_txn-other f t x u nut)) touch)));
  story = by_txn (λ s y. StoryHolds y.mark y.locks w base (told s) y.net) f t x h.story h.stories;
}

-- no lock that is asked conflicts with one of another owner
abbrev pub IsGranted : (ℕ → Txn) → ℕ → List Request → Type 0
IsGranted f t row = (s : ℕ) (n : Name) (mode theirs : Mode) → s ≢ t → Asks row n mode → Holds ((f s).locks) n theirs → ((mode ≡ Exclusive) ⊎ (theirs ≡ Exclusive)) → ⊥

module _ (base w : IndexMap) (f : ℕ → Txn) (told : ℕ → List (Access × Reply)) (fits : Fits base w f told) where
  -- two nets touch different keys
  pub nets_apart : (s u : ℕ) → s ≢ u → (k : Key) → Touches ((f s).net) k → Touches ((f u).net) k → ⊥
  nets_apart s u ne k a b = fits.apart s u ne (guard w k) Exclusive (Chain-guards _ w base _ (fits.chain s) k a) (Chain-guards _ w base _ (fits.chain u) k b)

  -- what one guards no other's net touches
  pub guarded_apart : (s u : ℕ) → u ≢ s → (k : Key) → Guards ((f s).locks) w k → Touches ((f u).net) k → ⊥
  guarded_apart s u ne k g b = fits.apart u s ne (guard w k) g.0 (Chain-guards _ w base _ (fits.chain u) k b) g.1

  -- the walk at a key that no other touches but t, which does not either
  pub walk_but : (t s : ℕ) (k : Key) → (Touches ((f t).net) k → ⊥) → ((u : ℕ) → u ≢ s → u ≢ t → Touches ((f u).net) k → ⊥) → get w k ≡ get (apply base ((f s).net)) k
  walk_but t s k mine others = fits.walk s k (λ u nu touch.
      elim (cases_number u t) [
        | inl e ↦ mine (subst (λ v. Touches ((f v).net) k) e touch)
        | inr ne ↦ others u nu ne touch
      ])

  -- only the mark and with it the story's claim are new
  pub sets_mark : (t : ℕ) (m : Mark) → StoryHolds m ((f t).locks) w base (told t) ((f t).net) → Sets base w f told t (record (f t) { mark = m })
  sets_mark t m story = record {
    others_apart = λ s u ns nu ne. fits.apart s u ne;
    mine = λ s ns. fits.apart t s (λ e. ns (sym e));
    theirs = λ s ns. fits.apart s t ns;
    chain = fits.chain t;
    chains = λ s ns. fits.chain s;
    walk_mine = λ k none. fits.walk t k none;
    walk_others = λ s k ns mine others. walk_but t s k mine others;
    story = story;
    stories = λ s ns. fits.story s;
  }

  -- and what one is told is new
  pub sets_story : (t : ℕ) (m : Mark) (new : ℕ → List (Access × Reply)) → StoryHolds m ((f t).locks) w base (new t) ((f t).net) → ((s : ℕ) → s ≢ t → new s ≡ told s) → Sets base w f new t (record (f t) { mark = m })
  sets_story t m new story others = record {
    others_apart = λ s u ns nu ne. fits.apart s u ne;
    mine = λ s ns. fits.apart t s (λ e. ns (sym e));
    theirs = λ s ns. fits.apart s t ns;
    chain = fits.chain t;
    chains = λ s ns. fits.chain s;
    walk_mine = λ k none. fits.walk t k none;
    walk_others = λ s k ns mine others. walk_but t s k mine others;
    story = story;
    stories = λ s ns. subst (λ (fs : List (Access × Reply)). StoryHolds ((f s).mark) ((f s).locks) w base fs ((f s).net)) (sym (others s ns)) (fits.story s);
  }

  -- ---- an access is granted

  module _ (t : ℕ) (a : Access) (granted : IsGranted f t (asked a w)) (going : Through ((f t).locks) w base (told t) ((f t).net)) where
    -- no other touches what is read
    pub read_free : (k : Key) → Reads a w k → (u : ℕ) → u ≢ t → Touches ((f u).net) k → ⊥
    read_free k r u ne touch =
        let g = asked-guards a w k r in
        granted u (guard w k) g.0 Exclusive ne g.1 (Chain-guards _ w base _ (fits.chain u) k touch) (inr refl)

    agree : AgreeOn a w (apply base ((f t).net))
    agree k r = sym (fits.walk t k (read_free k r))

    new_mine : (s : ℕ) → s ≢ t → (n : Name) (md : Mode) → Holds (kept (asked a w) ((f t).locks)) n Exclusive → Holds ((f s).locks) n md → ⊥
    new_mine s ns n md h k =
        elim (kept-from (asked a w) ((f t).locks) n Exclusive h) [
          | inl o ↦ fits.apart t s (λ e. ns (sym e)) n md o k
          | inr q ↦ granted s n Exclusive md ns q k (inl refl)
        ]

    new_theirs : (s : ℕ) → s ≢ t → (n : Name) (md : Mode) → Holds ((f s).locks) n Exclusive → Holds (kept (asked a w) ((f t).locks)) n md → ⊥
    new_theirs s ns n md k h =
        elim (kept-from (asked a w) ((f t).locks) n md h) [
          | inl o ↦ fits.apart s t ns n md k o
          | inr q ↦ granted s n md Exclusive ns q k (inr refl)
        ]

    -- the transaction after the access, with what it changed written out
    abbrev did_with : List Change → Txn
    did_with cs = record { mark = Going; net = cs ++ (f t).net; locks = kept (asked a w) ((f t).locks) }

    -- the stories after it
    abbrev pub told_on : ℕ → List (Access × Reply)
    told_on s = cond (nat_eq s t) ((a, answer a w) ∷ told s) (told s)

    told_on-same : told_on t ≡ (a, answer a w) ∷ told t
    told_on-same = rw (eq-eqb t t refl)

    told_on-other : (s : ℕ) → s ≢ t → told_on s ≡ told s
    told_on-other s ne = rw (ne_eqb s t ne)

    -- each front of what t was told stands with the new locks
    through_on : Through (kept (asked a w) ((f t).locks)) w base (told t) ((f t).net)
    through_on = Through-more ((f t).locks) (kept (asked a w) ((f t).locks)) w base (told t) ((f t).net) (λ n md h. kept-old (asked a w) ((f t).locks) n md h) going

    still_sets : IsStill a w ((f t).locks) → Sets base w f told_on t (did_with [])
    still_sets is = record {
      others_apart = λ s u ns nu ne. fits.apart s u ne;
      mine = new_mine;
      theirs = new_theirs;
      chain = Chain-more ((f t).locks) (kept (asked a w) ((f t).locks)) w base ((f t).net) (λ n h. kept-old (asked a w) ((f t).locks) n Exclusive h) (fits.chain t);
      chains = λ s ns. fits.chain s;
      walk_mine = λ k none. fits.walk t k none;
      walk_others = λ s k ns mine others. walk_but t s k mine others;
      story = subst (λ (fs : List (Access × Reply)). Through (kept (asked a w) ((f t).locks)) w base fs ((f t).net)) (sym told_on-same) (
          through_plain (kept (asked a w) ((f t).locks)) w base a (answer a w) (told t) ((f t).net) (still_plain a w is.nothing) (
            (f t).net,
            ap (λ cs. cs ++ (f t).net) (sym (changes-agrees a w (apply base ((f t).net)) agree ∙ is.nothing)),
            reply-agrees a w (apply base ((f t).net)) agree,
            (λ k r. let g = asked-guards a w k (Reads-agrees a w (apply base ((f t).net)) agree k r) in (g.0, is.keeps (guard w k) g.0 g.1)),
            Told-moved ((f t).locks) (kept (asked a w) ((f t).locks)) w w base (told t) ((f t).net) (λ k g. (g.0, kept-old (asked a w) ((f t).locks) (guard w k) g.0 g.1)) (through_told ((f t).locks) w base (told t) ((f t).net) going),
          ) through_on
          );
      stories = λ s ns. subst (λ (fs : List (Access × Reply)). StoryHolds ((f s).mark) ((f s).locks) w base fs ((f s).net)) (sym (told_on-other s ns)) (fits.story s);
    }

    module _ (c : Change) (makes : Makes a w ((f t).locks) c) where
      not_held : (s : ℕ) → s ≢ t → NotHeld ((f s).locks) (guard w (key_of c))
      not_held s ns md h = granted s (guard w (key_of c)) Exclusive md ns makes.asks h (inl refl)

      owned_held : (k : Key) → guard (applied w c) k ≡ owned w c → Holds (kept (asked a w) ((f t).locks)) (guard (applied w c) k) Exclusive
      owned_held k e = subst (λ n. Holds (kept (asked a w) ((f t).locks)) n Exclusive) (sym e) makes.owns

      moved_exclusive : (k : Key) → Holds ((f t).locks) (guard w k) Exclusive → Holds (kept (asked a w) ((f t).locks)) (guard (applied w c) k) Exclusive
      moved_exclusive k h =
          elim (guard-applied w c k makes.before) [
            | inl e ↦ subst (λ n. Holds (kept (asked a w) ((f t).locks)) n Exclusive) (sym e) (kept-old (asked a w) ((f t).locks) (guard w k) Exclusive h)
            | inr e ↦ owned_held k e
          ]

      moved_any : (k : Key) → Guards ((f t).locks) w k → Guards (kept (asked a w) ((f t).locks)) (applied w c) k
      moved_any k g =
          elim (guard-applied w c k makes.before) [
            | inl e ↦ (g.0, subst (λ n. Holds (kept (asked a w) ((f t).locks)) n g.0) (sym e) (kept-old (asked a w) ((f t).locks) (guard w k) g.0 g.1))
            | inr e ↦ (Exclusive, owned_held k e)
          ]

      itself_held : (k : Key) → k ≡ key_of c → Holds (kept (asked a w) ((f t).locks)) (guard (applied w c) k) Exclusive
      itself_held k e = owned_held k (ap (guard (applied w c)) e ∙ guard-applied_at w c)

      change_sets : Sets base (applied w c) f told_on t (did_with (c ∷ []))
      change_sets = record {
        others_apart = λ s u ns nu ne. fits.apart s u ne;
        mine = new_mine;
        theirs = new_theirs;
        chain = (
          (λ k touch. elim touch [ inl e ↦ itself_held k (sym e) | inr h ↦ moved_exclusive k (Chain-guards _ w base _ (fits.chain t) k h) ]),
          sym (fits.walk t (key_of c) (read_free (key_of c) makes.itself)) ∙ makes.before,
          subst (λ (m : IndexMap). Chain (kept (asked a w) ((f t).locks)) m base ((f t).net)) (sym (undone-applied w c makes.before))
              (Chain-more ((f t).locks) (kept (asked a w) ((f t).locks)) w base ((f t).net) (λ n h. kept-old (asked a w) ((f t).locks) n Exclusive h) (fits.chain t)),
        );
        chains = λ s ns. Chain-elsewhere ((f s).locks) w (applied w c) base (key_of c) ((f s).net) (applied_off w c) (not_held s ns) (fits.chain s);
        walk_mine = λ k none. applied-agrees (apply base ((f t).net)) w c k (fits.walk t k none);
        walk_others = λ s k ns mine others. applied_off w c k (λ e. mine (inl (sym e))) ∙ walk_but t s k (λ h. mine (inr h)) others;
        story = subst (λ (fs : List (Access × Reply)). Through (kept (asked a w) ((f t).locks)) (applied w c) base fs (c ∷ (f t).net)) (sym told_on-same) (
          (
            (f t).net,
            ap (λ cs. cs ++ (f t).net) (sym (changes-agrees a w (apply base ((f t).net)) agree ∙ makes.change)),
            reply-agrees a w (apply base ((f t).net)) agree,
            (λ k r. (Exclusive, itself_held k (makes.alone k (Reads-agrees a w (apply base ((f t).net)) agree k r)))),
            Told-moved ((f t).locks) (kept (asked a w) ((f t).locks)) w (applied w c) base (told t) ((f t).net) moved_any (through_told ((f t).locks) w base (told t) ((f t).net) going),
          ),
          subst (λ (b : Bool). Through (kept (asked a w) ((f t).locks)) (undone (applied w c) c) base (cond b (told t) (before_last (told t))) ((f t).net)) (sym (made_change a w c makes.change))
              (subst (λ (m : IndexMap). Through (kept (asked a w) ((f t).locks)) m base (told t) ((f t).net)) (sym (undone-applied w c makes.before)) through_on),
        );
        stories = λ s ns. subst (λ (fs : List (Access × Reply)). StoryHolds ((f s).mark) ((f s).locks) (applied w c) base fs ((f s).net)) (sym (told_on-other s ns))
            (story-elsewhere ((f s).mark) ((f s).locks) w (applied w c) base (key_of c) (told s) ((f s).net) (applied_off w c) (not_held s ns) (fits.chain s) (fits.story s));
      }

    pub did-fits : Fits base (apply w (changes a w)) (set_txn f t (did_txn (f t) a w (kept (asked a w) ((f t).locks)))) told_on
    did-fits =
        elim (cases_access a w ((f t).locks)) [
          | inl is ↦ subst (λ (cs : List Change). Fits base (apply w cs) (set_txn f t (did_with cs)) told_on) (sym is.nothing) (Sets-fits base w f told_on t (did_with []) (still_sets is))
          | inr p ↦ subst (λ (cs : List Change). Fits base (apply w cs) (set_txn f t (did_with cs)) told_on) (sym p.1.change) (Sets-fits base (applied w p.0) f told_on t (did_with (p.0 ∷ [])) (change_sets p.0 p.1))
        ]

  -- ---- the same locks in another list

  pub relock_sets : (t : ℕ) (ks : List Lock) → SameLocks ks ((f t).locks) → Sets base w f told t (record (f t) { locks = ks })
  relock_sets t ks same = record {
    others_apart = λ s u ns nu ne. fits.apart s u ne;
    mine = λ s ns n md h k. fits.apart t s (λ e. ns (sym e)) n md ((same n Exclusive).0 h) k;
    theirs = λ s ns n md k h. fits.apart s t ns n md k ((same n md).0 h);
    chain = Chain-more ((f t).locks) ks w base ((f t).net) (λ n h. (same n Exclusive).1 h) (fits.chain t);
    chains = λ s ns. fits.chain s;
    walk_mine = λ k none. fits.walk t k none;
    walk_others = λ s k ns mine others. walk_but t s k mine others;
    story = story-more ((f t).mark) ((f t).locks) ks w base (told t) ((f t).net) (λ n md h. (same n md).1 h) (fits.story t);
    stories = λ s ns. fits.story s;
  }

  -- ---- the end of a transaction

  pub commit_sets : (t : ℕ) → Sets (apply base ((f t).net)) w f told t idle
  commit_sets t = record {
    others_apart = λ s u ns nu ne. fits.apart s u ne;
    mine = λ s ns n md h k. absurd h;
    theirs = λ s ns n md h k. absurd k;
    chain = tt;
    chains = λ s ns. Chain-rebased ((f s).locks) w base (apply base ((f t).net)) ((f s).net) (λ k touch. apply-untouched base ((f t).net) k (λ h. nets_apart s t ns k touch h)) (fits.chain s);
    walk_mine = λ k none. fits.walk t k none;
    walk_others = λ s k ns mine others.
        elim (cases_touches ((f t).net) k) [
          | inl h ↦
              fits.walk t k (λ u nu touch. elim (cases_number u s) [
                | inl e ↦ nets_apart s t ns k (subst (λ v. Touches ((f v).net) k) e touch) h
                | inr ne ↦ others u ne nu touch
              ])
              ∙ sym (apply-untouched (apply base ((f t).net)) ((f s).net) k (λ touch. nets_apart s t ns k touch h))
          | inr none ↦ walk_but t s k none others ∙ sym (apply-agrees base (apply base ((f t).net)) ((f s).net) k (apply-untouched base ((f t).net) k none))
        ];
    story = tt;
    stories = λ s ns. story-rebased ((f s).mark) ((f s).locks) w base (apply base ((f t).net)) (told s) ((f s).net)
        (λ k g. apply-untouched base ((f t).net) k (λ h. guarded_apart s t (λ e. ns (sym e)) k g h)) (fits.chain s) (fits.story s);
  }

  pub drop_sets : (t : ℕ) → (f t).net ≡ [] → Sets base w f told t idle
  drop_sets t empty = record {
    others_apart = λ s u ns nu ne. fits.apart s u ne;
    mine = λ s ns n md h k. absurd h;
    theirs = λ s ns n md h k. absurd k;
    chain = tt;
    chains = λ s ns. fits.chain s;
    walk_mine = λ k none. fits.walk t k none ∙ ap (λ cs. get (apply base cs) k) empty;
    walk_others = λ s k ns mine others. walk_but t s k (λ h. subst (λ (cs : List Change). Touches cs k) empty h) others;
    story = tt;
    stories = λ s ns. fits.story s;
  }

  -- ---- one change taken back

  module _ (t : ℕ) (c : Change) (cs : List Change) (is : (f t).net ≡ c ∷ cs) where
    links : Chain ((f t).locks) w base (c ∷ cs)
    links = subst (λ (net : List Change). Chain ((f t).locks) w base net) is (fits.chain t)

    undo_not_held : (s : ℕ) → s ≢ t → NotHeld ((f s).locks) (guard w (key_of c))
    undo_not_held s ns md h = fits.apart t s (λ e. ns (sym e)) (guard w (key_of c)) md (links.0 (key_of c) (inl refl)) h

    undo_touch : Touches ((f t).net) (key_of c)
    undo_touch = subst (λ (net : List Change). Touches net (key_of c)) (sym is) (inl refl)

    undo_walk_mine : (k : Key) → ((u : ℕ) → u ≢ t → Touches ((f u).net) k → ⊥) → get (undone w c) k ≡ get (apply base cs) k
    undo_walk_mine k none =
        elim (same_key k (key_of c)) [
          | inl e ↦ ap (get (undone w c)) e ∙ (undone_at w c ∙ (sym links.1 ∙ ap (get (apply base cs)) (sym e)))
          | inr ne ↦ undone_off w c k ne ∙ (fits.walk t k none ∙ (ap (λ (net : List Change). get (apply base net) k) is ∙ applied_off (apply base cs) c k ne))
        ]

    undo_walk_others : (s : ℕ) (k : Key) → s ≢ t → (Touches cs k → ⊥) → ((u : ℕ) → u ≢ s → u ≢ t → Touches ((f u).net) k → ⊥) → get (undone w c) k ≡ get (apply base ((f s).net)) k
    undo_walk_others s k ns mine others =
        elim (same_key k (key_of c)) [
          | inl e ↦
              ap (get (undone w c)) e ∙ (undone_at w c ∙ (sym links.1 ∙ (ap (get (apply base cs)) (sym e)
              ∙ (apply-untouched base cs k mine
              ∙ sym (apply-untouched base ((f s).net) k (λ touch. nets_apart s t ns (key_of c) (subst (Touches ((f s).net)) e touch) undo_touch))))))
          | inr ne ↦ undone_off w c k ne ∙ walk_but t s k (λ h. elim (subst (λ (net : List Change). Touches net k) is h) [ inl e ↦ ne (sym e) | inr g ↦ mine g ]) others
        ]

    pub undo_sets : (x : Txn) → x.net ≡ cs → ((n : Name) (md : Mode) → Holds x.locks n md → Holds ((f t).locks) n md) → Chain x.locks (undone w c) base x.net → StoryHolds x.mark x.locks (undone w c) base (told t) x.net → Sets base (undone w c) f told t x
    undo_sets x e fewer chain story = record {
      others_apart = λ s u ns nu ne. fits.apart s u ne;
      mine = λ s ns n md h k. fits.apart t s (λ q. ns (sym q)) n md (fewer n Exclusive h) k;
      theirs = λ s ns n md k h. fits.apart s t ns n md k (fewer n md h);
      chain = chain;
      chains = λ s ns. Chain-elsewhere ((f s).locks) w (undone w c) base (key_of c) ((f s).net) (undone_off w c) (undo_not_held s ns) (fits.chain s);
      walk_mine = λ k none. undo_walk_mine k none ∙ ap (λ (net : List Change). get (apply base net) k) (sym e);
      walk_others = λ s k ns mine others. undo_walk_others s k ns (λ h. mine (subst (λ (net : List Change). Touches net k) (sym e) h)) others;
      story = story;
      stories = λ s ns. story-elsewhere ((f s).mark) ((f s).locks) w (undone w c) base (key_of c) (told s) ((f s).net) (undone_off w c) (undo_not_held s ns) (fits.chain s) (fits.story s);
    }

    pub undo_links : Chain ((f t).locks) (undone w c) base cs
    undo_links = links.2

-- to set one transaction twice
pub set_txn-twice : (f : ℕ → Txn) (t : ℕ) (x y : Txn) → set_txn (set_txn f t x) t y ≡ set_txn f t y
set_txn-twice f t x y = λ i s. go s i
  where
    go : (s : ℕ) → set_txn (set_txn f t x) t y s ≡ set_txn f t y s
    go s = elim (cases_number s t) [ inl e ↦ rw (eq-eqb s t e) | inr ne ↦ rw (ne_eqb s t ne) ]

-- what holds with some locks holds with the same ones in another list
pub relocked : (base w : IndexMap) (f : ℕ → Txn) (told : ℕ → List (Access × Reply)) (t : ℕ) (x : Txn) (ks : List Lock) → Fits base w (set_txn f t x) told → SameLocks ks x.locks → Fits base w (set_txn f t (record x { locks = ks })) told
relocked base w f told t x ks fits same =
    let at : set_txn f t x t ≡ x = set_txn-same f t x in
    let h : SameLocks ks ((set_txn f t x t).locks) = subst (λ (y : Txn). SameLocks ks y.locks) (sym at) same in
    let g = Sets-fits base w (set_txn f t x) told t (record (set_txn f t x t) { locks = ks }) (relock_sets base w (set_txn f t x) told fits t ks h) in
    subst (λ (fs : ℕ → Txn). Fits base w fs told) (set_txn-twice f t x (record x { locks = ks }))
    (subst (λ (y : Txn). Fits base w (set_txn (set_txn f t x) t (record y { locks = ks })) told) at g)
