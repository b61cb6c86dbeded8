-- A view that begins beside active transactions, whose changes the log has.
use Rattle.std.proofs.Common.{◌≡◌, ℕ, true, false, List, [], ◌∷◌, ◌++◌, None, refl, ap, sym, subst, ◌∙◌, inl, inr, ne_eqb}
use Rattle.std.specs.FinMap.{get}
use Rattle.im_base_types.specs.Keys.{Key}
use Rattle.im_base_types.specs.Maps.{IndexMap}
use Rattle.im_base_types.specs.Changes.{Change, Put, Drop, Effect, Touches, key_of, value_before, applied, undone, apply, IsUndoable}
use Rattle.im_theory_machine.specs.Locks.{Lock}
use Rattle.im_theory_machine.specs.View.{Txn, is_among, pending_of}
use Rattle.im_theory_machine.proofs.Bools.{cases_number, cases_test}
use Rattle.im_theory_machine.proofs.Changes.{was, same_maps, applied_off}
use Rattle.im_theory_machine.proofs.Order.{same_key}
use Rattle.im_theory_machine.proofs.Invariant.{Chain}
use Rattle.im_theory_machine.proofs.Cited.{nothing_told, tells, run_upheld, Upheld}
use Rattle.im_theory_machine.specs.Isolation.{IsTogether}
use Rattle.im_theory_machine.proofs.Theorem.{together_up}
use Rattle.im_theory_machine.specs.Overlays.{Overlay, put_back, laid, Has, befores, befores_all}
use Rattle.im_theory_machine.specs.OverlayLaws.{BeginsFromLog}
use Rattle.im_theory_machine.proofs.Overlays.{put_back_at, put_back_off, cases_has, laid_on, laid_off, laid_after, has_after}

was_before : (c : Change) → was c ≡ value_before c
was_before (Put k r) = refl
was_before (Drop k r) = refl

-- taken back, a change is gone
back : (m : IndexMap) (c : Change) → get m (key_of c) ≡ value_before c → put_back (applied m c) (key_of c) (value_before c) ≡ m
back m c is = same_maps (put_back (applied m c) (key_of c) (value_before c)) m (λ x.
    elim (same_key x (key_of c)) [
      | inl e ↦ subst (λ (y : Key). get (put_back (applied m c) (key_of c) (value_before c)) y ≡ get m y) (sym e) (put_back_at (applied m c) (key_of c) (value_before c) ∙ sym is)
      | inr ne ↦ put_back_off (applied m c) (key_of c) (value_before c) x ne ∙ applied_off m c x ne
    ])

-- a net taken back leaves what it began with
net_back : (m : IndexMap) (e : Effect) → IsUndoable m e → laid (apply m e) (befores e) ≡ m
net_back m [] is = refl
net_back m (c ∷ cs) is =
    laid_after (apply m (c ∷ cs)) (befores cs) ((key_of c, value_before c) ∷ [])
    ∙ ap (λ (n : IndexMap). laid n (befores cs)) (back (apply m cs) c is.0)
    ∙ net_back m cs is.1

has_front : (o n : Overlay) (x : Key) → Has o x → Has (o ++ n) x
has_front [] n x has = absurd has
has_front (e ∷ es) n x (inl is) = inl is
has_front (e ∷ es) n x (inr h) = inr (has_front es n x h)

has_net : (e : Effect) (x : Key) → Touches e x → Has (befores e) x
has_net [] x touch = absurd touch
has_net (c ∷ cs) x (inl is) = has_after (befores cs) ((key_of c, value_before c) ∷ []) x (inl is)
has_net (c ∷ cs) x (inr h) = has_front (befores cs) ((key_of c, value_before c) ∷ []) x (has_net cs x h)

undoable : (ls : List Lock) (w base : IndexMap) (net : Effect) → Chain ls w base net → IsUndoable base net
undoable ls w base [] h = tt
undoable ls w base (c ∷ cs) h = (h.1 ∙ was_before c, undoable ls (undone w c) base cs h.2)

-- each of them says what the committed map has
says_all : (m w : IndexMap) (f : ℕ → Txn) (ts : List ℕ) → ((t : ℕ) → IsUndoable m ((f t).net)) → (x : Key) → Has (befores_all f ts) x → get (laid w (befores_all f ts)) x ≡ get m x
says_all m w f [] can x has = absurd has
says_all m w f (t ∷ ts) can x has =
    let net = (f t).net in
    let rest = befores_all f ts in
    ap (λ (n : IndexMap). get n x) (laid_after w (befores net) rest)
    ∙ elim (cases_has (befores net) x) [
      | inl here ↦ laid_on (laid w rest) (apply m net) (befores net) x here ∙ ap (λ (n : IndexMap). get n x) (net_back m net (can t))
      | inr none ↦ laid_off (laid w rest) (befores net) x none ∙ says_all m w f ts can x (after (befores net) rest x none has)
    ]
  where
    after : (o n : Overlay) (x : Key) → (Has o x → ⊥) → Has (o ++ n) x → Has n x
    after [] n x none has = has
    after (e ∷ es) n x none (inl is) = absurd (none (inl is))
    after (e ∷ es) n x none (inr h) = after es n x (λ k. none (inr k)) h

has_all : (f : ℕ → Txn) (ts : List ℕ) (t : ℕ) (x : Key) → is_among t ts ≡ true → Touches ((f t).net) x → Has (befores_all f ts) x
has_all f [] t x some touch = absurd (cc some)
has_all f (s ∷ ts) t x some touch =
    elim (cases_number t s) [
      | inl e ↦ has_front (befores ((f s).net)) (befores_all f ts) x (has_net ((f s).net) x (subst (λ (u : ℕ). Touches ((f u).net) x) e touch))
      | inr ne ↦ elim (cases_test (is_among t ts)) [
        | inl more ↦ has_after (befores ((f s).net)) (befores_all f ts) x (has_all f ts t x more touch)
        | inr none ↦ absurd (not_here t s ts ne none some)
      ]
    ]
  where
    not_here : (t s : ℕ) (ts : List ℕ) → (t ≡ s → ⊥) → is_among t ts ≡ false → is_among t (s ∷ ts) ≡ true → ⊥
    not_here t s ts ne none some = let differ = ne_eqb t s ne in let never : false ≡ true = sym (rw differ none) ∙ some in cc never

pub begins_from_log : BeginsFromLog
begins_from_log base v ts reached all =
    let told = tells (pending_of None) nothing_told reached.trace in
    let up : Upheld v told = run_upheld base reached.first reached.trace v reached.run in
    let apart : IsTogether v = together_up v told up in
    let can : (t : ℕ) → IsUndoable v.committed ((v.txns t).net) = λ t. undoable _ _ v.committed ((v.txns t).net) (up.stands.fits.chain t) in
    let nets : (t : ℕ) (x : Key) → Touches ((v.txns t).net) x → Has (befores_all v.txns ts) x = λ t x touch. has_all v.txns ts t x (all t x touch) touch in
    record {
      is = same_maps (laid v.walk (befores_all v.txns ts)) v.committed (λ x.
          elim (cases_has (befores_all v.txns ts) x) [
            | inl has ↦ says_all v.committed v.walk v.txns ts can x has
            | inr none ↦ laid_off v.walk (befores_all v.txns ts) x none ∙ apart.untouched x (λ t touch. none (nets t x touch))
          ]);
      nets = nets;
    }
