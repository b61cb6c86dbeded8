-- The table of an engine, also of one that has failed, has as many transactions as the machine.
use Rattle.std.proofs.Common.{◌≡◌, ℕ, Bool, true, false, List, Option, Some, None, length, ◌⊎◌, refl, sym, ap, subst, ◌∙◌, inl, inr}
use Rattle.std.proofs.lemmas.Bool.{cases_Bool}
use Rattle.im_base_types.specs.Changes.{Effect}
use Rattle.im_base_types.specs.Answers.{Step, Refused}
use Rattle.im_base_types.specs.Lives.{Shown}
use Rattle.im_base_disk.specs.declared.disk.Disk.{Ghosts}
use Rattle.im_base_types.specs.declared.fault.Fault.TheVariants.{Failed, Unfinished}
use Rattle.im_theory_machine.specs.Locks.{Lock}
use Rattle.im_theory_machine.specs.View.{View, broken}
use Rattle.im_theory_store_trait.specs.Store as front
use Rattle.im_theory_machine.specs.Machine.{barred, Answers, Goes, Moves, begins, does, waits, dies, commits, queues, drops, turns, undoes, ends, puts_later, puts, drops_first, drops_leaf, takes_later, takes_first, takes_leaf, takes_last, stays_back, turns_back, gives_back, is_back, leaf_is_back, logs_page, tree_blocks, tree_halts, flushes, forces, checkpoints, switches, lacks, breaks}
use Rattle.im_base_steps.specs.declared.step.Step as steps
use Rattle.im_base_types.specs.declared.fault.Fault.{Fault}
use Rattle.im_base_types.specs.declared.fault.Fault.TheVariants as faults
use Rattle.im_base_steps.specs.declared.reply.Reply.{Reply}
use Rattle.im_base_steps.specs.declared.reply.Reply.TheVariants as replies
use Rattle.im_base_steps.specs.Calls.{asked_by, told_by, is_force}
use Rattle.im_base_steps.specs.Replies.{is_commit}
use Rattle.std.specs.Prelude.{◌+◌, ◌-◌, if◌then◌else◌}
use Rattle.im_base_types.specs.Faults.{number_of}
use Rattle.im_engine.specs.declared.engine.Engine.{Engine}
use Rattle.im_engine.specs.Running.{IsLife}
use Rattle.im_engine.specs.Kept.{StepKept, LookKept}
use Rattle.im_engine.specs.Numbered.{Numbered}
use Rattle.im_engine.specs.Looking.{Looks, broken_by}
use Rattle.im_engine.specs.Told.{Known, after, known_of, IsStep}
use Rattle.im_engine.specs.Serves.{IsStoreLife}
use Rattle.im_engine.proofs.Looked.{not_true, looks_txns}

-- a step that was refused leaves as many active
refused_goes : (v w : View) (step : Step) (n : ℕ) → Goes v step (Refused n) w → w.active ≡ v.active
refused_goes v w step n (begins s le r e) = cc r
refused_goes v w step n (does t a ls s m f l r e) = ap (λ (x : View). x.active) e
refused_goes v w step n (waits t a h s m f r e) = ap (λ (x : View). x.active) e
refused_goes v w step n (dies t a s m f r e) = ap (λ (x : View). x.active) e
refused_goes v w step n (commits t s m some r e) = cc r
refused_goes v w step n (queues t c cs s m some r e) = cc r
refused_goes v w step n (drops t s m none r e) = cc r
refused_goes v w step n (turns t c cs s m is r e) = ap (λ (x : View). x.active) e
refused_goes v w step n (undoes t c d cs s m is r e) = ap (λ (x : View). x.active) e
refused_goes v w step n (ends t c s m is r e) = cc r
refused_goes v w step n (puts_later u k r ls b is none absent unheld same d e) = cc d
refused_goes v w step n (puts u k r b is under d e) = cc d
refused_goes v w step n (drops_first u k r ls b is none there unheld same d e) = cc d
refused_goes v w step n (drops_leaf u k b is under d e) = cc d
refused_goes v w step n (takes_later u c cs b is none net_is d e) = cc d
refused_goes v w step n (takes_first u c cs b is none net_is d e) = cc d
refused_goes v w step n (takes_leaf u c cs b is under net_is d e) = cc d
refused_goes v w step n (takes_last u b is under empty d e) = cc d
refused_goes v w step n (stays_back u m b may few d e) = cc d
refused_goes v w step n (turns_back u m b may more d e) = cc d
refused_goes v w step n (gives_back u m c cs b at net_is more d e) = cc d
refused_goes v w step n (is_back u m c cs b at net_is same d e) = cc d
refused_goes v w step n (leaf_is_back u m b at under same d e) = cc d
refused_goes v w step n (logs_page u x b under owner d e) = cc d
refused_goes v w step n (tree_blocks u a x b under other d e) = cc d
refused_goes v w step n (tree_halts u x b under other d e) = cc d
refused_goes v w step n (flushes p s r e) = ap (λ (x : View). x.active) e
refused_goes v w step n (forces s r e) = cc r
refused_goes v w step n (checkpoints s r e) = ap (λ (x : View). x.active) e
refused_goes v w step n (switches s r e) = ap (λ (x : View). x.active) e
refused_goes v w step n (lacks f wants r e) = ap (λ (x : View). x.active) e
refused_goes v w step n (breaks f ls is r e) = ap (λ (x : View). x.active) e

refused_active : (v w : View) (step : Step) (n : ℕ) → Moves v step (Refused n) w → w.active ≡ v.active
refused_active v w step n moves = by (barred v step) moves
  where
    by : (o : Option ℕ) → Answers v step (Refused n) w o → w.active ≡ v.active
    by None goes = refused_goes v w step n goes
    by (Some fault) is = ap (λ (x : View). x.active) is.1

-- a reply that breaks what works is a refusal
broken_reply : (step : Step) (reply : Reply) (k : Known) → k.failed ≡ false → (after step reply k).failed ≡ true → (fault : Fault) × (reply ≡ replies.Refused fault)
broken_reply step (replies.Refused fault) k works broke = (fault, refl)
broken_reply step (replies.Started n) k works broke = absurd (not_true k.failed works broke)
broken_reply step (replies.Found rid) k works broke = absurd (not_true k.failed works broke)
broken_reply step replies.Absent k works broke = absurd (not_true k.failed works broke)
broken_reply step (replies.Entry key rid) k works broke = absurd (not_true k.failed works broke)
broken_reply step replies.End k works broke = absurd (not_true k.failed works broke)
broken_reply step (replies.Entries list) k works broke = absurd (not_true k.failed works broke)
broken_reply step replies.Inserted k works broke = absurd (not_true k.failed works broke)
broken_reply step replies.Duplicate k works broke = absurd (not_true k.failed works broke)
broken_reply step replies.Deleted k works broke = absurd (not_true k.failed works broke)
broken_reply step replies.Committed k works broke = absurd (not_true k.failed works broke)
broken_reply step replies.RolledBack k works broke = absurd (not_true k.failed works broke)
broken_reply step replies.More k works broke = absurd (not_true k.failed works (sym (by (is_commit step)) ∙ broke))
  where
    by : (b : Bool) → (if b then record k { waiting = k.waiting + 1 } else k).failed ≡ k.failed
    by true = refl
    by false = refl
broken_reply step (replies.Blocked b) k works broke = absurd (not_true k.failed works broke)
broken_reply step replies.Die k works broke = absurd (not_true k.failed works broke)
broken_reply step replies.Done k works broke = absurd (not_true k.failed works (sym (by (is_force step)) ∙ broke))
  where
    by : (b : Bool) → (if b then record k { active = k.active - k.waiting; waiting = 0 } else k).failed ≡ k.failed
    by true = refl
    by false = refl

module _ {D : Type 0} (d : Ghosts D) (before : List Effect) (s : Shown) (v : View) where
  -- an engine that works
  pub counted : (e : Engine D d) → IsLife d before s v e → e.failed ≡ false → IsStoreLife d before s v e
  counted e life works = record { life = life; active = sym (life.running works).1.serving.table.active }

  -- after a step
  pub still_counted : (step : steps.Step) (reply : Reply) (old new : Engine D d) → IsStep d step reply old new → IsStoreLife d before s v old → (made : StepKept d before s v (asked_by step) (told_by reply) old new) → length new.txns.rows ≡ made.next.active
  still_counted step reply old new one was made = elim (cases_Bool new.failed) [
    | inl broke ↦
        (let why : (fault : Fault) × (reply ≡ replies.Refused fault) = refusal broke in
        let moves = subst_moves why in
        ap (λ (k : Known). k.active) one.told.known ∙ ap (λ (r : Reply). (after (asked_by step) r (known_of d old)).active) why.1 ∙ was.active ∙ sym moves)
    | inr works ↦ sym (made.after.running works).1.serving.table.active
  ]
    where
      refusal : new.failed ≡ true → (fault : Fault) × (reply ≡ replies.Refused fault)
      refusal broke = elim (cases_Bool old.failed) [
        | inl before_it ↦ (faults.Failed, one.told.failed before_it)
        | inr worked ↦ broken_reply (asked_by step) reply (known_of d old) worked (sym (ap (λ (k : Known). k.failed) one.told.known) ∙ broke)
      ]

      subst_moves : (fault : Fault) × (reply ≡ replies.Refused fault) → made.next.active ≡ v.active
      subst_moves why = refused_active v made.next (asked_by step) (number_of why.0) (subst (λ (r : Reply). Moves v (asked_by step) (told_by r) made.next) why.1 made.moves)

  -- after a look
  module _ (old new : Engine D d) {why : Option Fault} (looks : Looks d why old new) (was : IsStoreLife d before s v old) where
    rows_are : length new.txns.rows ≡ v.active
    rows_are = ap (λ (x : Numbered). length x.rows) (looks_txns d why old new looks) ∙ was.active

    -- that was answered
    pub look_counted : why ≡ None → LookKept d before s v old new → IsStoreLife d before s v new
    look_counted none kept = by kept.after
      where
        works : new.failed ≡ false
        works = elim (cases_Bool old.failed) [
          | inl failed ↦ (let never : Some Failed ≡ None = sym (looks.failed.1 failed) ∙ none in absurd (cc never))
          | inr was_on ↦ (looks.searched was_on (λ is. let clash : None ≡ Some Unfinished = sym none ∙ is in cc clash)).failed ∙ ap broken_by none
        ]

        by : ((new.failed ≡ false) × IsLife d before s v new) ⊎ ((locks : ℕ → List Lock) × IsLife d before (record s { failed = true }) (broken v locks) new) → IsStoreLife d before s v new
        by (inl on) = record { life = on.1; active = rows_are }
        by (inr off) = absurd (not_true new.failed works (sym off.1.failed))

    -- or refused
    pub look_left : LookKept d before s v old new → front.LookKept (IsStoreLife d) before s v new
    look_left kept = by kept.after
      where
        by : ((new.failed ≡ false) × IsLife d before s v new) ⊎ ((locks : ℕ → List Lock) × IsLife d before (record s { failed = true }) (broken v locks) new) → front.LookKept (IsStoreLife d) before s v new
        by (inl on) = inl (record { life = on.1; active = rows_are })
        by (inr off) = inr (off.0, record { life = off.1; active = rows_are })
