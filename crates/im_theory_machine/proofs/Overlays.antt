-- Overlays.
use Rattle.std.proofs.Common.{◌≡◌, ℕ, List, [], ◌∷◌, ◌++◌, Option, Some, None, refl, ap, sym, subst, ◌∙◌, inl, inr, ◌⊎◌}
use Rattle.std.specs.FinMap.{get}
use Rattle.im_base_types.specs.Keys.{Key}
use Rattle.im_base_types.specs.Maps.{IndexMap}
use Rattle.im_base_types.specs.Changes.{Change, Touches, key_of, undone}
use Rattle.im_base_types.specs.Answers.{Step, Mark, Going, answer}
use Rattle.im_theory_machine.specs.View.{View, Txn, idle, set_txn, marked, undid_more, undid_last}
use Rattle.im_theory_machine.specs.Machine.{IsReached}
use Rattle.im_theory_machine.specs.Isolation.{IsTogether}
use Rattle.im_theory_machine.proofs.Order.{same_key}
use Rattle.im_theory_machine.proofs.Changes.{same_maps, get-insert_at, get-insert_off, get-remove_at, get-remove_off}
use Rattle.im_theory_machine.proofs.Cited.{isolates}
use Rattle.im_theory_machine.specs.Overlays.{Overlay, put_back, laid, Has, IsOverlay, IsNoted, NotesOne, SaysOf}
use Rattle.im_theory_machine.specs.OverlayLaws.{StepsKeep, AskedIsEnough, UndosKeep, RunsKeep, NotesKeep, Begins, Serves, ReadsMap, ReadsKey, Chains, Joins}
use Rattle.im_theory_machine.proofs.Moved.{Still, AtMost, Moved, moves_moved, moves_later, undone_most, of_none, Fewer, fewer}

pub put_back_at : (m : IndexMap) (k : Key) (p : Option ℕ) → get (put_back m k p) k ≡ p
put_back_at m k None = get-remove_at m k
put_back_at m k (Some r) = get-insert_at m k r

pub put_back_off : (m : IndexMap) (k : Key) (p : Option ℕ) (x : Key) → (x ≡ k → ⊥) → get (put_back m k p) x ≡ get m x
put_back_off m k None x ne = get-remove_off m k x ne
put_back_off m k (Some r) x ne = get-insert_off m k r x ne

-- what a map has there anyway
pub put_back_same : (m : IndexMap) (k : Key) → put_back m k (get m k) ≡ m
put_back_same m k = same_maps (put_back m k (get m k)) m (λ x.
    elim (same_key x k) [
      | inl e ↦ subst (λ (y : Key). get (put_back m k (get m k)) y ≡ get m y) (sym e) (put_back_at m k (get m k))
      | inr ne ↦ put_back_off m k (get m k) x ne
    ])

pub cases_has : (o : Overlay) (x : Key) → Has o x ⊎ (Has o x → ⊥)
cases_has [] x = inr (λ h. h)
cases_has (e ∷ es) x =
    elim (same_key e.0 x) [
      | inl is ↦ inl (inl is)
      | inr ne ↦ elim (cases_has es x) [ inl h ↦ inl (inr h) | inr none ↦ inr (λ h. elim h [ inl is ↦ ne is | inr t ↦ none t ]) ]
    ]

-- what is not noted is the map's own
pub laid_off : (w : IndexMap) (o : Overlay) (x : Key) → (Has o x → ⊥) → get (laid w o) x ≡ get w x
laid_off w [] x none = refl
laid_off w (e ∷ es) x none = put_back_off (laid w es) e.0 e.1 x (λ is. none (inl (sym is))) ∙ laid_off w es x (λ h. none (inr h))

-- what is noted does not look at the map
pub laid_on : (w u : IndexMap) (o : Overlay) (x : Key) → Has o x → get (laid w o) x ≡ get (laid u o) x
laid_on w u [] x has = absurd has
laid_on w u (e ∷ es) x has =
    elim (same_key x e.0) [
      | inl is ↦ subst (λ (y : Key). get (laid w (e ∷ es)) y ≡ get (laid u (e ∷ es)) y) (sym is) (put_back_at (laid w es) e.0 e.1 ∙ sym (put_back_at (laid u es) e.0 e.1))
      | inr ne ↦ put_back_off (laid w es) e.0 e.1 x ne ∙ laid_on w u es x (elim has [ inl is ↦ absurd (ne (sym is)) | inr h ↦ h ]) ∙ sym (put_back_off (laid u es) e.0 e.1 x ne)
    ]

-- two maps that agree where nothing is noted are the same under the overlay
laid_same : (w u : IndexMap) (o : Overlay) → ((x : Key) → (Has o x → ⊥) → get w x ≡ get u x) → laid w o ≡ laid u o
laid_same w u o same = same_maps (laid w o) (laid u o) (λ x.
    elim (cases_has o x) [
      | inl has ↦ laid_on w u o x has
      | inr none ↦ laid_off w o x none ∙ same x none ∙ sym (laid_off u o x none)
    ])

-- ---- notes

pub notes_keep : NotesKeep
notes_keep m v x o n (inl (has, is)) h = (subst (IsOverlay m v) (sym is) h, subst (λ (l : Overlay). Has l x) (sym is) has)
notes_keep m v x o n (inr (none, is)) h = (
  record {
    is = ap (laid v.walk) is ∙ ap (put_back (laid v.walk o) x) (sym (laid_off v.walk o x none)) ∙ put_back_same (laid v.walk o) x ∙ h.is;
    nets = λ t y touch. subst (λ (l : Overlay). Has l y) (sym is) (inr (h.nets t y touch));
  },
  subst (λ (l : Overlay). Has l x) (sym is) (inl refl),
)

can_note : (w : IndexMap) (x : Key) (o : Overlay) → (n : Overlay) × IsNoted w x o n
can_note w x o =
    elim (cases_has o x) [
      | inl has ↦ (o, inl (has, refl))
      | inr none ↦ ((x, get w x) ∷ o, inr (none, refl))
    ]

-- ---- steps

still_keeps : (m : IndexMap) (v w : View) (o : Overlay) → Still v w → IsOverlay m v o → IsOverlay m w o
still_keeps m v w o still h = record {
  is = ap (λ (l : IndexMap). laid l o) still.walk ∙ h.is;
  nets = λ t x touch. h.nets t x (still.nets t x touch);
}

change_keeps : (m : IndexMap) (v w : View) (k : Key) (o : Overlay) → AtMost k v w → Has o k → IsOverlay m v o → IsOverlay m w o
change_keeps m v w k o most has h = record {
  is = laid_same w.walk v.walk o (λ x none. most.only x (λ e. none (subst (Has o) (sym e) has))) ∙ h.is;
  nets = λ t x touch. elim (most.nets t x touch) [ inl e ↦ subst (Has o) e has | inr old ↦ h.nets t x old ];
}

moved_keeps : (m : IndexMap) (v w : View) (i : Step) (o : Overlay) → Moved i v w → IsOverlay m v o → (n : Overlay) × NotesOne v.walk o n × IsOverlay m w n
moved_keeps m v w i o (inl still) h = (o, inl refl, still_keeps m v w o still h)
moved_keeps m v w i o (inr (k, most, why)) h =
    let one = can_note v.walk k o in
    let kept = notes_keep m v k o one.0 one.1 h in
    (one.0, inr (k, one.1), change_keeps m v w k one.0 most kept.1 kept.0)

pub steps_keep : StepsKeep
steps_keep m v w step reply o moves h = moved_keeps m v w step o (moves_moved v w step reply moves) h

pub asked_is_enough : AskedIsEnough
asked_is_enough m v w step reply o moves h pending asked = (
  go (moves_moved v w step reply moves),
  λ x later. elim (moves_later v w step reply moves x later) [ inl old ↦ pending x old | inr new ↦ asked x new ],
)
  where
    go : Moved step v w → IsOverlay m w o
    go (inl still) = still_keeps m v w o still h
    go (inr (k, most, inl new)) = change_keeps m v w k o most (asked k new) h
    go (inr (k, most, inr (inl old))) = change_keeps m v w k o most (pending k old) h
    go (inr (k, most, inr (inr (t, touch)))) = change_keeps m v w k o most (h.nets t k touch) h

pub runs_keep : RunsKeep
runs_keep m v w [] o run h = (o, subst (λ (z : View). IsOverlay m z o) (sym run) h)
runs_keep m v w (e ∷ es) o (mid, moves, rest) h =
    let next = steps_keep m v mid e.0 e.1 o moves h in
    runs_keep m mid w es next.0 rest next.2

module _ (m : IndexMap) (v u : View) (t : ℕ) (c : Change) (x : Txn) (o : Overlay) (walk : u.walk ≡ undone v.walk c) (txns : (s : ℕ) → u.txns s ≡ set_txn v.txns t x s) (less : Fewer v.txns t x) where
  undo_keeps : Touches ((v.txns t).net) (key_of c) → IsOverlay m v o → IsOverlay m u o
  undo_keeps touch h = change_keeps m v u (key_of c) o (undone_most v u t c x walk txns less) (h.nets t (key_of c) touch) h

undo_more : (m : IndexMap) (v : View) (t : ℕ) (c : Change) (cs : List Change) (o : Overlay) → (v.txns t).net ≡ c ∷ cs → IsOverlay m v o → IsOverlay m (undid_more v t c cs) o
undo_more m v t c cs o net h =
    undo_keeps m v (undid_more v t c cs) t c (record (v.txns t) { net = cs }) o refl (λ s. refl)
    (λ y touch. subst (λ (n : List Change). Touches n y) (sym net) (inr touch))
    (subst (λ (n : List Change). Touches n (key_of c)) (sym net) (inl refl))
    h

-- a mark is no change
mark_keeps : (m : IndexMap) (v : View) (t : ℕ) (k : Mark) (o : Overlay) → IsOverlay m v o → IsOverlay m (marked v t k) o
mark_keeps m v t k o h = record { is = h.is; nets = λ s x touch. h.nets s x (fewer v.txns t (record (v.txns t) { mark = k }) (λ y same. same) s x touch) }

pub undos_keep : UndosKeep
undos_keep = record {
  more = undo_more;
  back = λ m v t c cs o net h. mark_keeps m (undid_more v t c cs) t Going o (undo_more m v t c cs o net h);
  last = λ m v t c o net h. undo_keeps m v (undid_last v t c) t c idle o refl (λ s. refl)
      (of_none v.txns t) (subst (λ (n : List Change). Touches n (key_of c)) (sym net) (inl refl)) h;
}

-- ---- a view's begin

says_on : (m w : IndexMap) (o : Overlay) (x : Key) → SaysOf m o → Has o x → get (laid w o) x ≡ get m x
says_on m w [] x says has = absurd has
says_on m w (e ∷ es) x says has =
    elim (same_key x e.0) [
      | inl is ↦ subst (λ (y : Key). get (laid w (e ∷ es)) y ≡ get m y) (sym is) (put_back_at (laid w es) e.0 e.1 ∙ says.0)
      | inr ne ↦ put_back_off (laid w es) e.0 e.1 x ne ∙ says_on m w es x says.1 (elim has [ inl is ↦ absurd (ne (sym is)) | inr h ↦ h ])
    ]

together : (base : IndexMap) (v : View) → IsReached base v → IsTogether v
together base v reached = (isolates base reached.first).together reached.trace v reached.run

pub view_begins : Begins
view_begins base v o reached says nets = record {
  is = same_maps (laid v.walk o) v.committed (λ x.
      elim (cases_has o x) [
        | inl has ↦ says_on v.committed v.walk o x says has
        | inr none ↦ laid_off v.walk o x none ∙ (together base v reached).untouched x (λ t touch. none (nets t x touch))
      ]);
  nets = nets;
}

pub serves : Serves
serves base next front rest v w o first later says nets =
    let reached : IsReached base v = record { trace = front; first = next; run = first } in
    let kept = runs_keep v.committed v w rest o later (view_begins base v o reached says nets) in
    (kept.0, λ a. ap (answer a) (kept.1.is ∙ ((isolates base next).in_order front v first).0))

-- ---- reads

pub reads : ReadsMap
reads m v o a h = ap (answer a) (sym h.is)

pub reads_key : ReadsKey
reads_key = record {
  off = λ m v o x h none. ap (λ (n : IndexMap). get n x) (sym h.is) ∙ laid_off v.walk o x none;
  first = λ m v o x p h. ap (λ (n : IndexMap). get n x) (sym h.is) ∙ put_back_at (laid v.walk o) x p;
  later = λ m v o x y p ne. put_back_off (laid v.walk o) x p y (λ e. ne (sym e));
}

-- ---- several views

pub chains : Chains
chains base v m o reached h =
    laid_same v.committed v.walk o (λ x none. sym ((together base v reached).untouched x (λ t touch. none (h.nets t x touch)))) ∙ h.is

pub laid_after : (w : IndexMap) (o n : Overlay) → laid w (o ++ n) ≡ laid (laid w n) o
laid_after w [] n = refl
laid_after w (e ∷ es) n = ap (λ (l : IndexMap). put_back l e.0 e.1) (laid_after w es n)

pub has_after : (o n : Overlay) (x : Key) → Has n x → Has (o ++ n) x
has_after [] n x has = has
has_after (e ∷ es) n x has = inr (has_after es n x has)

pub joins : Joins
joins v m new o n over h = record {
  is = laid_after v.walk o n ∙ ap (λ (l : IndexMap). laid l o) h.is ∙ over;
  nets = λ t x touch. has_after o n x (h.nets t x touch);
}
