-- A run of the machine is as good as its transactions alone, by its steps and replies.
use Rattle.std.proofs.Common.{◌≡◌, inl, inr, ⊎_elim, ℕ, true, List, [], ◌∷◌, ◌++◌, refl, sym, subst, ◌∙◌}
use Rattle.im_base_types.specs.Maps.{IndexMap}
use Rattle.im_base_types.specs.Answers.{Step, Reply, Rollback, RollTo, Mark, Committing, Going, MustRollBack}
use Rattle.im_theory_machine.specs.View.{View, MayRollBack, is_among}
use Rattle.im_theory_machine.specs.Machine.{Moves, Run, start}
use Rattle.im_theory_machine.specs.Isolation.{IsReplay, finished}
use Rattle.im_theory_machine.proofs.Isolates.{queue_marks, isolates}
use Rattle.im_theory_steps.specs.Seen.{IsMarkShown}
use Rattle.im_theory_steps.proofs.Acknowledged.{runs_commit}
use Rattle.im_engine.specs.Promise.{IsAsAlone, committed_map}

record IsCut (first : View) (front : List (Step × Reply)) (e : Step × Reply) (rest : List (Step × Reply)) (last : View) : Type 0 where
  at : View
  before : Run first front at
  next : View
  moves : Moves at e.0 e.1 next
  after : Run next rest last

cut : (first last : View) (front rest : List (Step × Reply)) (e : Step × Reply) → Run first (front ++ e ∷ rest) last → IsCut first front e rest last
cut first last [] rest e run = record { at = first; before = refl; next = run.0; moves = run.1; after = run.2 }
cut first last (x ∷ front) rest e run = let later = cut run.0 last front rest e run.2 in record { at = later.at; before = (run.0, run.1, later.before); next = later.next; moves = later.moves; after = later.after }

mark_is : (shown mark : Mark) → IsMarkShown shown mark → MayRollBack shown → MayRollBack mark
mark_is shown mark (inl same) may = subst MayRollBack same may
mark_is shown mark (inr other) (inl going) = absurd (let never : Going ≡ Committing = sym going ∙ other.0 in cc never)
mark_is shown mark (inr other) (inr must) = absurd (let never : MustRollBack ≡ Committing = sym must ∙ other.0 in cc never)

pub as_alone : (base : IndexMap) (first : ℕ) (trace : List (Step × Reply)) (last : View) → Run (start base first) trace last → IsAsAlone base trace
as_alone base first trace last run =
    let iso = isolates base first in
    let order = iso.in_order trace last run in
    record {
      committed = order.1;
      rolled_back = λ front rest t reply is which.
          let c = cut (start base first) last front rest (Rollback t, reply) (subst (λ (es : List (Step × Reply)). Run (start base first) es last) is run) in
          let here = iso.rolled_back front rest c.at c.next last c.before t reply which c.moves c.after in
          let then = subst (λ (m : IndexMap). IsReplay m (finished t (front ++ (Rollback t, reply) ∷ rest))) (iso.in_order front c.at c.before).0 here in
          subst (λ (es : List (Step × Reply)). IsReplay (committed_map base front) (finished t es)) (sym is) then;
      returned = λ front rest t left reply is which.
          let c = cut (start base first) last front rest (RollTo t left, reply) (subst (λ (es : List (Step × Reply)). Run (start base first) es last) is run) in
          subst (λ (m : IndexMap). IsReplay m (finished t front)) (iso.in_order front c.at c.before).0 (iso.returned front c.at c.next c.before t left reply which c.moves);
      going = λ t either.
          subst (λ (m : IndexMap). IsReplay m (finished t trace)) order.0 (iso.going trace last run t
          (⊎_elim (λ may. inl (mark_is _ _ ((runs_commit base first trace last run).shown.marks t) may))
          (λ waits. inr ((queue_marks base last (record { trace = trace; first = first; run = run })).waits t (subst (λ (queue : List ℕ). is_among t queue ≡ true) (sym (iso.waiting trace last run)) waits)))
          either));
    }
