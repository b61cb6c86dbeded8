-- The open structure change is the top of its owner's stack.
use Rattle.std.proofs.Common.{◌≡◌, ◌≢◌, inl, inr, ℕ, [], ◌∷◌, ◌++◌, Bool, true, false, refl, sym, ◌∙◌, ap, subst}
use Rattle.std.specs.Prelude.{if◌then◌else◌, ◌==◌}
use Rattle.std.proofs.lemmas.Bool.{cases_eq, eq-eqb, ne_eqb, cond-true, cond-false}
use Rattle.im_theory_log.specs.Histories.{Base, History}
use Rattle.im_theory_log.specs.Lawful.{IsLawful, IsNewIn, IsOutside, MayCome, Undoes}
use Rattle.im_theory_log.specs.LogLaws.{NoSmo}
use Rattle.im_base_types.specs.Pages.{Body}
use Rattle.im_base_types.specs.Records.{Checkpoint, Commit, DeleteKey, DummyClr, End, Image, InsertKey, Logged, Smo, UndoDelete, UndoInsert, UndoSmo, Unreadable, What}
use Rattle.im_theory_log.specs.Structure.{open_after, open_smo}
use Rattle.im_theory_log.specs.Transactions.{is_smo, rest_of, stack_after, to_undo, without_smo}
use Rattle.im_theory_log.specs.Tree.{Tree}

-- ---- the open structure change

abbrev pub IsOpenSmo : History → Type 0
IsOpenSmo [] = Unit {0}
IsOpenSmo (s ∷ rest) = ((was : Body) × (now : Body) × (s.what ≡ Smo was now)) × IsNewIn s.txn s.page rest × IsOpenSmo rest

open_with : (b : Base) (tree : Tree) (r : Logged) (older : History) (w : What) → r.what ≡ w → MayCome b tree r older w → (going : History) → going ≡ open_smo older → IsOpenSmo going → IsOpenSmo (open_after r w going)
open_with b tree r older (Smo o n) is may going same ok = ((o, n, is), subst (λ (l : History). IsNewIn r.txn r.page l) (sym same) may.new_in, ok)
open_with b tree r older (UndoSmo n) is may [] same ok = tt
open_with b tree r older (UndoSmo n) is may (s ∷ rest) same ok = ok.2
open_with b tree r older DummyClr is may going same ok = tt
open_with b tree r older (InsertKey k i) is may going same ok = ok
open_with b tree r older (DeleteKey k i) is may going same ok = ok
open_with b tree r older (UndoInsert k i) is may going same ok = ok
open_with b tree r older (UndoDelete k i) is may going same ok = ok
open_with b tree r older Commit is may going same ok = ok
open_with b tree r older End is may going same ok = ok
open_with b tree r older (Image c) is may going same ok = ok
open_with b tree r older (Checkpoint n a d) is may going same ok = ok
open_with b tree r older Unreadable is may going same ok = ok

-- the records of the open structure change are one transaction's, each of another page
pub is_open_smo : (b : Base) (tree : Tree) (log : History) → IsLawful b tree log → IsOpenSmo (open_smo log)
is_open_smo b tree [] law = tt
is_open_smo b tree (r ∷ older) law = open_with b tree r older r.what refl law.1.may (open_smo older) refl (is_open_smo b tree older law.0)

-- ---- a stack has its owner's records

abbrev pub IsOwned : ℕ → History → Type 0
IsOwned t [] = Unit {0}
IsOwned t (s ∷ rest) = (s.txn ≡ t) × IsOwned t rest

owned_rest : (t : ℕ) (stack : History) → IsOwned t stack → IsOwned t (rest_of stack)
owned_rest t [] ok = tt
owned_rest t (s ∷ rest) ok = ok.1

owned_not_smo : (t : ℕ) (stack : History) → IsOwned t stack → IsOwned t (without_smo stack)
owned_not_smo t [] ok = tt
owned_not_smo t (s ∷ rest) ok =
    let later = owned_not_smo t rest ok.1 in
    elim (is_smo s.what) as (λ (x : Bool). IsOwned t (if x then without_smo rest else s ∷ rest)) [ true ↦ later | false ↦ ok ]

owned_after : (r : Logged) (w : What) (stack : History) → IsOwned r.txn stack → IsOwned r.txn (stack_after r w stack)
owned_after r (InsertKey k i) stack ok = (refl, ok)
owned_after r (DeleteKey k i) stack ok = (refl, ok)
owned_after r (Smo o n) stack ok = (refl, ok)
owned_after r (UndoInsert k i) stack ok = owned_rest r.txn stack ok
owned_after r (UndoDelete k i) stack ok = owned_rest r.txn stack ok
owned_after r (UndoSmo n) stack ok = owned_rest r.txn stack ok
owned_after r DummyClr stack ok = owned_not_smo r.txn stack ok
owned_after r Commit stack ok = tt
owned_after r End stack ok = tt
owned_after r (Image c) stack ok = ok
owned_after r (Checkpoint n a d) stack ok = ok
owned_after r Unreadable stack ok = ok

pub owned : (t : ℕ) (log : History) → IsOwned t (to_undo t log)
owned t [] = tt
owned t (r ∷ older) = elim (cases_eq r.txn t) [
  | inl mine ↦
      subst (λ (x : ℕ). IsOwned x (to_undo x (r ∷ older))) mine
      (subst (λ (l : History). IsOwned r.txn l) (sym (cond-true (r.txn == r.txn) (stack_after r r.what (to_undo r.txn older)) (to_undo r.txn older) (eq-eqb r.txn r.txn refl))) (owned_after r r.what (to_undo r.txn older) (owned r.txn older)))
  | inr other ↦ subst (λ (l : History). IsOwned t l) (sym (cond-false (r.txn == t) (stack_after r r.what (to_undo t older)) (to_undo t older) (ne_eqb r.txn t other))) (owned t older)
]

-- ---- t's part of the open structure change

abbrev pub part : ℕ → History → History
part t [] = []
part t (s ∷ going) = if s.txn == t then s ∷ going else []

no_smo_rest : (stack : History) → NoSmo stack → NoSmo (rest_of stack)
no_smo_rest [] ok = tt
no_smo_rest (s ∷ rest) ok = ok.1

pub not_part : (t : ℕ) (going : History) → IsOutside t going → part t going ≡ []
not_part t [] out = refl
not_part t (s ∷ going) out = cond-false (s.txn == t) (s ∷ going) [] (ne_eqb s.txn t out)

new_part : (t p : ℕ) (going : History) → IsNewIn t p going → part t going ≡ going
new_part t p [] new = refl
new_part t p (s ∷ going) new = cond-true (s.txn == t) (s ∷ going) [] (eq-eqb s.txn t new.0)

new_other : (t u p : ℕ) (going : History) → IsNewIn u p going → u ≢ t → part t going ≡ []
new_other t u p [] new other = refl
new_other t u p (s ∷ going) new other = cond-false (s.txn == t) (s ∷ going) [] (ne_eqb s.txn t (λ e. other (sym new.0 ∙ e)))

pub record Split (t : ℕ) (going stack : History) : Type 0 where
  pub bottom : History
  pub is : stack ≡ part t going ++ bottom
  pub plain : NoSmo bottom

no_smo_stays : (stack : History) → NoSmo stack → without_smo stack ≡ stack
no_smo_stays [] ok = refl
no_smo_stays (s ∷ rest) ok = cond-false (is_smo s.what) (without_smo rest) (s ∷ rest) ok.0

pub smo_goes : (going bottom : History) → IsOpenSmo going → NoSmo bottom → without_smo (going ++ bottom) ≡ bottom
smo_goes [] bottom ok plain = no_smo_stays bottom plain
smo_goes (s ∷ going) bottom ok plain =
    cond-true (is_smo s.what) (without_smo (going ++ bottom)) (s ∷ going ++ bottom) (ap is_smo ok.0.2) ∙ smo_goes going bottom ok.2 plain

none_left : (xs ys : History) → [] ≡ xs ++ ys → xs ≡ []
none_left [] ys e = refl
none_left (x ∷ xs) ys e = cc e

module _ (b : Base) (tree : Tree) (r : Logged) (older : History) (law : IsLawful b tree older) where
  going_ok : IsOpenSmo (open_smo older)
  going_ok = is_open_smo b tree older law

  -- the same stack and the same open structure change, as far as t goes
  kept : (t : ℕ) (after stack : History) → part t after ≡ part t (open_smo older) → stack ≡ to_undo t older → Split t (open_smo older) (to_undo t older) → Split t after stack
  kept t after stack same is s = record { bottom = s.bottom; is = is ∙ s.is ∙ ap (λ (l : History). l ++ s.bottom) (sym same); plain = s.plain }

  undone_owner : {is : What → Type 0} (u : Undoes r older is) → u.undone.txn ≡ r.txn
  undone_owner u = (subst (λ (l : History). IsOwned r.txn l) u.stack (owned r.txn older)).0

  same_part : (t : ℕ) (s : Logged) (rest : History) → open_smo older ≡ s ∷ rest → (IsNewIn s.txn s.page rest) × IsOpenSmo rest
  same_part t s rest e = let ok = subst (λ (l : History). IsOpenSmo l) e going_ok in (ok.1, ok.2)

  -- another transaction's record
  others : (t : ℕ) (w : What) → r.txn ≢ t → MayCome b tree r older w → part t (open_after r w (open_smo older)) ≡ part t (open_smo older)
  others t (Smo o n) other may = cond-false (r.txn == t) (r ∷ open_smo older) [] (ne_eqb r.txn t other) ∙ sym (new_other t r.txn r.page (open_smo older) may.new_in other)
  others t (UndoSmo n) other may =
      let u = may.undoes in
      let rest = may.rest in
      let is : open_smo older ≡ u.undone ∷ rest = may.going in
      let owner : u.undone.txn ≡ r.txn = undone_owner u in
      let away : u.undone.txn ≢ t = λ e. other (sym owner ∙ e) in
      ap (λ (l : History). part t (open_after r (UndoSmo n) l)) is
      ∙ new_other t u.undone.txn u.undone.page rest (same_part t u.undone rest is).0 away
      ∙ sym (cond-false (u.undone.txn == t) (u.undone ∷ rest) [] (ne_eqb u.undone.txn t away))
      ∙ sym (ap (λ (l : History). part t l) is)
  others t DummyClr other may =
      let away : may.newest.txn ≢ t = λ e. other (sym may.owner ∙ e) in
      sym (ap (λ (l : History). part t l) may.going ∙ cond-false (may.newest.txn == t) (may.newest ∷ may.rest) [] (ne_eqb may.newest.txn t away))
  others t (InsertKey k i) other may = refl
  others t (DeleteKey k i) other may = refl
  others t (UndoInsert k i) other may = refl
  others t (UndoDelete k i) other may = refl
  others t Commit other may = refl
  others t End other may = refl
  others t (Image c) other may = refl
  others t (Checkpoint n a d) other may = refl
  others t Unreadable other may = refl

  -- the transaction's own record
  mine : (w : What) → r.what ≡ w → MayCome b tree r older w → Split r.txn (open_smo older) (to_undo r.txn older) → Split r.txn (open_after r w (open_smo older)) (stack_after r w (to_undo r.txn older))
  mine (InsertKey k i) e may s = outside_push e may.outside s (ap is_smo e)
    where
      outside_push : r.what ≡ InsertKey k i → IsOutside r.txn (open_smo older) → Split r.txn (open_smo older) (to_undo r.txn older) → is_smo r.what ≡ false → Split r.txn (open_smo older) (r ∷ to_undo r.txn older)
      outside_push e out s plain = let none : part r.txn (open_smo older) ≡ [] = not_part r.txn (open_smo older) out in
          record { bottom = r ∷ s.bottom; is = ap (λ (l : History). r ∷ l) (s.is ∙ ap (λ (l : History). l ++ s.bottom) none) ∙ sym (ap (λ (l : History). l ++ r ∷ s.bottom) none); plain = (plain, s.plain) }
  mine (DeleteKey k i) e may s =
      let none : part r.txn (open_smo older) ≡ [] = not_part r.txn (open_smo older) may.outside in
      record { bottom = r ∷ s.bottom; is = ap (λ (l : History). r ∷ l) (s.is ∙ ap (λ (l : History). l ++ s.bottom) none) ∙ sym (ap (λ (l : History). l ++ r ∷ s.bottom) none); plain = (ap is_smo e, s.plain) }
  mine (UndoInsert k i) e may s =
      let none : part r.txn (open_smo older) ≡ [] = not_part r.txn (open_smo older) may.outside in
      record { bottom = rest_of s.bottom; is = ap rest_of (s.is ∙ ap (λ (l : History). l ++ s.bottom) none) ∙ sym (ap (λ (l : History). l ++ rest_of s.bottom) none); plain = no_smo_rest s.bottom s.plain }
  mine (UndoDelete k i) e may s =
      let none : part r.txn (open_smo older) ≡ [] = not_part r.txn (open_smo older) may.outside in
      record { bottom = rest_of s.bottom; is = ap rest_of (s.is ∙ ap (λ (l : History). l ++ s.bottom) none) ∙ sym (ap (λ (l : History). l ++ rest_of s.bottom) none); plain = no_smo_rest s.bottom s.plain }
  mine (Smo o n) e may s = record {
    bottom = s.bottom;
    is = ap (λ (l : History). r ∷ l) (s.is ∙ ap (λ (l : History). l ++ s.bottom) (new_part r.txn r.page (open_smo older) may.new_in)) ∙ sym (ap (λ (l : History). l ++ s.bottom) (cond-true (r.txn == r.txn) (r ∷ open_smo older) [] (eq-eqb r.txn r.txn refl)));
    plain = s.plain;
  }
  mine (UndoSmo n) e may s =
      let u = may.undoes in
      let rest = may.rest in
      let is : open_smo older ≡ u.undone ∷ rest = may.going in
      let owner : u.undone.txn ≡ r.txn = undone_owner u in
      let whole : part r.txn (open_smo older) ≡ u.undone ∷ rest = ap (λ (l : History). part r.txn l) is ∙ cond-true (u.undone.txn == r.txn) (u.undone ∷ rest) [] (eq-eqb u.undone.txn r.txn owner) in
      let part_rest : part r.txn rest ≡ rest = ap (λ (x : ℕ). part x rest) (sym owner) ∙ new_part u.undone.txn u.undone.page rest (same_part r.txn u.undone rest is).0 in
      record {
        bottom = s.bottom;
        is = ap rest_of (s.is ∙ ap (λ (l : History). l ++ s.bottom) whole) ∙ sym (ap (λ (l : History). part r.txn (open_after r (UndoSmo n) l) ++ s.bottom) is ∙ ap (λ (l : History). l ++ s.bottom) part_rest);
        plain = s.plain;
      }
  mine DummyClr e may s =
      let whole : part r.txn (open_smo older) ≡ may.newest ∷ may.rest = ap (λ (l : History). part r.txn l) may.going ∙ cond-true (may.newest.txn == r.txn) (may.newest ∷ may.rest) [] (eq-eqb may.newest.txn r.txn may.owner) in
      record {
        bottom = s.bottom;
        is = ap without_smo (s.is ∙ ap (λ (l : History). l ++ s.bottom) whole) ∙ smo_goes (may.newest ∷ may.rest) s.bottom (subst (λ (l : History). IsOpenSmo l) may.going going_ok) s.plain;
        plain = s.plain;
      }
  mine Commit e may s = record { bottom = []; is = sym (ap (λ (l : History). l ++ []) (not_part r.txn (open_smo older) may.outside)); plain = tt }
  mine End e may s = record { bottom = []; is = sym (ap (λ (l : History). l ++ []) (none_left (part r.txn (open_smo older)) s.bottom (sym may.nothing_left ∙ s.is))); plain = tt }
  mine (Image c) e may s = s
  mine (Checkpoint n a d) e may s = s
  mine Unreadable e may s = absurd may

-- A transaction's stack is its part of the open structure change, on records of keys.
pub split : (b : Base) (tree : Tree) (log : History) (t : ℕ) → IsLawful b tree log → Split t (open_smo log) (to_undo t log)
split b tree [] t law = record { bottom = []; is = refl; plain = tt }
split b tree (r ∷ older) t law = elim (cases_eq r.txn t) [
  | inl own ↦
      subst (λ (x : ℕ). Split x (open_smo (r ∷ older)) (to_undo x (r ∷ older))) own
      (subst (λ (l : History). Split r.txn (open_smo (r ∷ older)) l) (sym (cond-true (r.txn == r.txn) (stack_after r r.what (to_undo r.txn older)) (to_undo r.txn older) (eq-eqb r.txn r.txn refl)))
      (mine b tree r older law.0 r.what refl law.1.may (split b tree older r.txn law.0)))
  | inr other ↦
      kept b tree r older law.0 t (open_smo (r ∷ older)) (to_undo t (r ∷ older)) (others b tree r older law.0 t r.what other law.1.may)
      (cond-false (r.txn == t) (stack_after r r.what (to_undo t older)) (to_undo t older) (ne_eqb r.txn t other)) (split b tree older t law.0)
]
