-- Where undo reads on: from a transaction's next LSN to undo, what is left is what was left there.
use Rattle.std.proofs.Common.{◌≡◌, ◌≢◌, inl, inr, ℕ, ◌+◌, ◌<◌, ◌≤◌, [], ◌∷◌, ◌++◌, Bool, true, false, refl, sym, ◌∙◌, ap, subst, arith}
use Rattle.std.specs.Prelude.{if◌then◌else◌, ◌==◌, nat_lt}
use Rattle.std.proofs.lemmas.Bool.{cases_eq, eq-eqb, ne_eqb, cond-true, cond-false}
use Rattle.im_theory_log.specs.Histories.{Base, History, Rises, below, end_of}
use Rattle.im_theory_log.specs.Lawful.{Follows, IsLawful, MayCome, MayDummyClr, Undoes, resumes}
use Rattle.im_base_types.specs.Records.{Checkpoint, Commit, DeleteKey, DummyClr, End, Image, InsertKey, Logged, Smo, UndoDelete, UndoInsert, UndoSmo, Unreadable, What}
use Rattle.im_theory_log.specs.Structure.{open_smo}
use Rattle.im_theory_log.specs.Transactions.{last_of, rest_of, stack_after, to_undo, undo_from, undo_next_of, without_smo}
use Rattle.im_theory_log.specs.Tree.{Tree}
use Rattle.im_theory_log.proofs.Fronts.{rises}
use Rattle.im_theory_log.proofs.Histories.{below_below, below_older, end_below, none_below, rises_below, whole_below}
use Rattle.im_theory_log.proofs.OpenSmo.{IsOpenSmo, is_open_smo, part, smo_goes, split}
use Rattle.im_theory_log.proofs.Stacks.{IsStack, clr_leads, is_stack, last_le}

-- reading on at the next LSN to undo leaves the same to undo
pub record Leads (b : Base) (t : ℕ) (log : History) : Type 0 where
  pub same : to_undo t log ≡ to_undo t (below (undo_next_of t log + 1) log)
  pub within : undo_next_of t log ≤ end_of b log

-- each record of a stack follows its prev
prev_falls : (b : Base) (log : History) (t : ℕ) (s : Logged) (rest : History) → Rises b log → IsStack b log t (s ∷ rest) → s.prev < s.lsn
prev_falls b log t s rest up ok =
    let f = below s.lsn log in
    let low : last_of t f ≤ end_of b f = last_le b t f (rises_below b s.lsn log up) in
    let high : end_of b f < s.lsn = end_below b s.lsn log ok.4 in
    let is : s.prev ≡ last_of t f = ok.1 in
    omega (arith, low, high, is)

-- below the first record of an open structure change lies what was left before it
resumes_bottom : (b : Base) (older : History) (t : ℕ) (s : Logged) (rest bottom : History) → IsStack b older t ((s ∷ rest) ++ bottom)
    → (l : ℕ) × (resumes older t (s ∷ rest) ≡ undo_next_of t (below l older)) × (bottom ≡ to_undo t (below l older)) × (l ≤ end_of b older) × (b.start < l)
resumes_bottom b older t s [] bottom ok = (s.lsn, refl, ok.2, ok.0, ok.4)
resumes_bottom b older t s (u ∷ rest) bottom ok = resumes_bottom b older t u rest bottom ok.3

module _ (b : Base) (tree : Tree) (r : Logged) (older : History) (law : IsLawful b tree older) (follows : Follows b tree r older) where
  up : Rises b older
  up = rises b tree older law

  -- past r, below a bound that r is not under
  past : (t n : ℕ) → n + 1 ≤ r.lsn → to_undo t (below (n + 1) older) ≡ to_undo t (below (n + 1) (r ∷ older))
  past t n le = ap (λ (l : History). to_undo t l) (sym (below_older (n + 1) r older le))

  pushed : to_undo r.txn (r ∷ older) ≡ to_undo r.txn (below (r.lsn + 1) (r ∷ older))
  pushed = ap (λ (l : History). to_undo r.txn l) (sym (whole_below b (r.lsn + 1) (r ∷ older) (let k : r.lsn < r.lsn + 1 = omega arith in k)))

  -- a compensation leads to the last of what came before the record that it undoes
  pub undone_place : {is : What → Type 0} (u : Undoes r older is)
      → (r.undo_next ≡ last_of r.txn (below u.undone.lsn older)) × (rest_of (to_undo r.txn older) ≡ to_undo r.txn (below u.undone.lsn older)) × (u.undone.lsn ≤ end_of b older) × (r.undo_next < u.undone.lsn)
  undone_place u =
      let stack : IsStack b older r.txn (u.undone ∷ u.rest) = subst (λ (l : History). IsStack b older r.txn l) u.stack (is_stack b tree older r.txn law) in
      let falls : u.undone.prev < u.undone.lsn = prev_falls b older r.txn u.undone u.rest up stack in
      let is : r.undo_next ≡ u.undone.prev = u.leads in
      (u.leads ∙ stack.1, ap (λ (l : History). rest_of l) u.stack ∙ stack.2, stack.0, omega (arith, falls, is))

  undone : {is : What → Type 0} (u : Undoes r older is) → (rest_of (to_undo r.txn older) ≡ to_undo r.txn (below (r.undo_next + 1) (r ∷ older))) × (r.undo_next ≤ r.lsn)
  undone u =
      let place = undone_place u in
      let small : r.undo_next < u.undone.lsn = place.3 in
      let low : u.undone.lsn ≤ end_of b older = place.2 in
      let high : end_of b older < r.lsn = follows.rises in
      let is : r.undo_next ≡ u.undone.prev = u.leads in
      (sym (clr_leads b tree r older law u (omega (arith, small, is))) ∙ past r.txn r.undo_next (omega (arith, small, low, high)), omega (arith, small, low, high))

  -- a DummyClr leads to where undo stood before its structure change began
  pub closed_place : MayDummyClr r older
      → (l : ℕ) × (r.undo_next ≡ undo_next_of r.txn (below l older)) × (without_smo (to_undo r.txn older) ≡ to_undo r.txn (below l older)) × (l ≤ end_of b older) × (b.start < l)
  closed_place may =
      let s = may.newest in let rest = may.rest in
      let is : open_smo older ≡ s ∷ rest = may.going in
      let cut = split b tree older r.txn law in
      let whole : to_undo r.txn older ≡ (s ∷ rest) ++ cut.bottom =
      cut.is ∙ ap (λ (l : History). l ++ cut.bottom) (ap (λ (l : History). part r.txn l) is ∙ cond-true (s.txn == r.txn) (s ∷ rest) [] (eq-eqb s.txn r.txn may.owner)) in
      let gone : without_smo (to_undo r.txn older) ≡ cut.bottom = ap without_smo whole ∙ smo_goes (s ∷ rest) cut.bottom (subst (λ (l : History). IsOpenSmo l) is (is_open_smo b tree older law)) cut.plain in
      let place = resumes_bottom b older r.txn s rest cut.bottom (subst (λ (l : History). IsStack b older r.txn l) whole (is_stack b tree older r.txn law)) in
      (place.0, may.leads ∙ place.1, gone ∙ place.2, place.3, place.4)

  closed : ((l : ℕ) → Leads b r.txn (below l older)) → MayCome b tree r older DummyClr → (without_smo (to_undo r.txn older) ≡ to_undo r.txn (below (r.undo_next + 1) (r ∷ older))) × (r.undo_next ≤ r.lsn)
  closed fronts may =
      let place = closed_place may in
      let l = place.0 in
      let next : r.undo_next ≡ undo_next_of r.txn (below l older) = place.1 in
      let front = fronts l in
      let low : undo_next_of r.txn (below l older) ≤ end_of b (below l older) = front.within in
      let under : end_of b (below l older) < l = end_below b l older place.4 in
      let high : end_of b older < r.lsn = follows.rises in
      let inside : l ≤ end_of b older = place.3 in
      let small : r.undo_next + 1 ≤ l = omega (arith, next, low, under) in (
        place.2 ∙ front.same
            ∙ ap (λ (n : ℕ). to_undo r.txn (below (n + 1) (below l older))) (sym next)
            ∙ ap (λ (f : History). to_undo r.txn f) (below_below (r.undo_next + 1) l older small)
            ∙ past r.txn r.undo_next (omega (arith, small, inside, high)),
        omega (arith, small, inside, high),
      )

  ended : [] ≡ to_undo r.txn (below (0 + 1) (r ∷ older))
  ended = ap (λ (f : History). to_undo r.txn f) (sym (none_below b 1 (r ∷ older) (up, follows.rises) (omega arith)))

  own_leads : r.txn ≢ 0 → ((l : ℕ) → Leads b r.txn (below l older)) → (w : What) → r.what ≡ w → MayCome b tree r older w
      → (stack_after r w (to_undo r.txn older) ≡ to_undo r.txn (below (undo_from r w + 1) (r ∷ older))) × (undo_from r w ≤ r.lsn)
  own_leads some fronts (InsertKey k i) e may = (sym (whole e) ∙ pushed, omega arith)
    where
      whole : r.what ≡ InsertKey k i → to_undo r.txn (r ∷ older) ≡ r ∷ to_undo r.txn older
      whole e = cond-true (r.txn == r.txn) (stack_after r r.what (to_undo r.txn older)) (to_undo r.txn older) (eq-eqb r.txn r.txn refl) ∙ ap (λ (w : What). stack_after r w (to_undo r.txn older)) e
  own_leads some fronts (DeleteKey k i) e may = (sym (cond-true (r.txn == r.txn) (stack_after r r.what (to_undo r.txn older)) (to_undo r.txn older) (eq-eqb r.txn r.txn refl) ∙ ap (λ (w : What). stack_after r w (to_undo r.txn older)) e) ∙ pushed, omega arith)
  own_leads some fronts (Smo o n) e may = (sym (cond-true (r.txn == r.txn) (stack_after r r.what (to_undo r.txn older)) (to_undo r.txn older) (eq-eqb r.txn r.txn refl) ∙ ap (λ (w : What). stack_after r w (to_undo r.txn older)) e) ∙ pushed, omega arith)
  own_leads some fronts (UndoInsert k i) e may = undone may.undoes
  own_leads some fronts (UndoDelete k i) e may = undone may.undoes
  own_leads some fronts (UndoSmo n) e may = undone may.undoes
  own_leads some fronts DummyClr e may = closed fronts may
  own_leads some fronts Commit e may = (ended, omega arith)
  own_leads some fronts End e may = (ended, omega arith)
  own_leads some fronts (Image c) e may = absurd (some may.no_owner)
  own_leads some fronts (Checkpoint n a d) e may = absurd (some may)
  own_leads some fronts Unreadable e may = absurd may

  more_leads : (t : ℕ) → t ≢ 0 → ((l : ℕ) → Leads b t (below l older)) → Leads b t older → Leads b t (r ∷ older)
  more_leads t some fronts one = elim (cases_eq r.txn t) [
    | inl mine ↦ subst (λ (x : ℕ). Leads b x (r ∷ older)) mine (own (λ e. some (sym mine ∙ e)) (λ l. subst (λ (x : ℕ). Leads b x (below l older)) (sym mine) (fronts l)))
    | inr other ↦
        let next : undo_next_of t (r ∷ older) ≡ undo_next_of t older = cond-false (r.txn == t) (undo_from r r.what) (undo_next_of t older) (ne_eqb r.txn t other) in
        let low : undo_next_of t older ≤ end_of b older = one.within in
        let high : end_of b older < r.lsn = follows.rises in
        record {
          same = cond-false (r.txn == t) (stack_after r r.what (to_undo t older)) (to_undo t older) (ne_eqb r.txn t other) ∙ one.same
              ∙ past t (undo_next_of t older) (omega (arith, low, high)) ∙ ap (λ (n : ℕ). to_undo t (below (n + 1) (r ∷ older))) (sym next);
          within = omega (arith, next, low, high);
        }
  ]
    where
      own : r.txn ≢ 0 → ((l : ℕ) → Leads b r.txn (below l older)) → Leads b r.txn (r ∷ older)
      own some fronts =
          let both = own_leads some fronts r.what refl follows.may in
          let next : undo_next_of r.txn (r ∷ older) ≡ undo_from r r.what = cond-true (r.txn == r.txn) (undo_from r r.what) (undo_next_of r.txn older) (eq-eqb r.txn r.txn refl) in
          let low : undo_from r r.what ≤ r.lsn = both.1 in
          record {
            same = cond-true (r.txn == r.txn) (stack_after r r.what (to_undo r.txn older)) (to_undo r.txn older) (eq-eqb r.txn r.txn refl) ∙ both.0 ∙ ap (λ (n : ℕ). to_undo r.txn (below (n + 1) (r ∷ older))) (sym next);
            within = omega (arith, next, low);
          }

pub leads_all : (b : Base) (tree : Tree) (log : History) (t : ℕ) → t ≢ 0 → IsLawful b tree log → ((l : ℕ) → Leads b t (below l log)) × Leads b t log
leads_all b tree [] t some law = (λ l. record { same = refl; within = omega arith }, record { same = refl; within = omega arith })
leads_all b tree (r ∷ older) t some law =
    let rest = leads_all b tree older t some law.0 in
    let now = more_leads b tree r older law.0 law.1 t some rest.0 rest.1 in
    (λ l. elim (nat_lt r.lsn l) as (λ (x : Bool). Leads b t (if x then r ∷ older else below l older)) [ true ↦ now | false ↦ rest.0 l ], now)

-- In a lawful log, and in each front of it, the next LSN to undo leads to what is left.
pub undo_next_leads : (b : Base) (tree : Tree) (log : History) (t : ℕ) → t ≢ 0 → IsLawful b tree log → Leads b t log
undo_next_leads b tree log t some law = (leads_all b tree log t some law).1
