-- The tree that a log stands for, when a record joins that no key record is.
use Rattle.std.proofs.Common.{◌≡◌, inl, inr, ℕ, [], ◌∷◌, refl, sym, ◌∙◌, ap, subst}
use Rattle.std.specs.Prelude.{◌==◌}
use Rattle.std.proofs.lemmas.Bool.{cases_eq, eq-eqb, ne_eqb, cond-true, cond-false}
use Rattle.std.specs.FinMap.{entries}
use Rattle.im_base_types.specs.Changes.{undone}
use Rattle.im_theory_log.specs.Histories.{Base, History, page_after, page_at}
use Rattle.im_theory_log.specs.Lawful.{HasTree, IsNewIn}
use Rattle.im_base_types.specs.Pages.{Body, Page}
use Rattle.im_base_types.specs.Records.{Logged, Smo, UndoSmo, What}
use Rattle.im_theory_log.specs.Structure.{body_before, open_after, open_smo, settled, taken_back}
use Rattle.im_theory_log.specs.Transactions.{contents}
use Rattle.im_theory_log.specs.Tree.{Tree}
use Rattle.im_theory_log.proofs.Named.{still_named}

-- a tree that looks the same stands as before
pub tree_same : (b : Base) (tree : Tree) (r : Logged) (older : History) → ((p : ℕ) → settled b (r ∷ older) p ≡ settled b older p) → contents b (r ∷ older) ≡ contents b older → HasTree b tree older → HasTree b tree (r ∷ older)
tree_same b tree r older pages map old =
    let same : settled b older ≡ settled b (r ∷ older) = λ i p. sym (pages p) i in
    record {
      good = subst (λ (f : ℕ → Body). tree.Good f) same old.good;
      walk = ap (λ (f : ℕ → Body). tree.walk f) (sym same) ∙ old.walk ∙ ap (λ m. entries m) (sym map);
      named = still_named b r older (settled b (r ∷ older) 0).leftmost (settled b older 0).leftmost (ap (λ (x : Body). x.leftmost) (pages 0)) old.named;
    }

apart : (t : ℕ) (p : ℕ) (going : History) (now : Body) → IsNewIn t p going → taken_back going p now ≡ now
apart t p [] now new = refl
apart t p (s ∷ rest) now new =
    cond-false (s.page == p) (body_before s.what now) (taken_back rest p now) (ne_eqb s.page p new.1) ∙ apart t p rest now new.2

-- an Smo record: its page is taken back to what it was
pub settled_smo : (b : Base) (r : Logged) (older : History) (old now : Body) → r.what ≡ Smo old now → IsNewIn r.txn r.page (open_smo older) → old ≡ (page_at b older r.page).body
    → (p : ℕ) → settled b (r ∷ older) p ≡ settled b older p
settled_smo b r older old now is new was p =
    let opened : open_smo (r ∷ older) ≡ r ∷ open_smo older = ap (λ (w : What). open_after r w (open_smo older)) is in
    ap (λ (l : History). taken_back l p (page_at b (r ∷ older) p).body) opened
    ∙ elim (cases_eq r.page p) [
      | inl here ↦
          cond-true (r.page == p) _ _ (eq-eqb r.page p here)
          ∙ ap (λ (w : What). body_before w (page_at b (r ∷ older) p).body) is
          ∙ was
          ∙ sym (apart r.txn r.page (open_smo older) (page_at b older r.page).body new)
          ∙ ap (λ (q : ℕ). settled b older q) here
      | inr other ↦
          let away : page_at b (r ∷ older) p ≡ page_at b older p = cond-false (r.page == p) _ _ (ne_eqb r.page p other) in
          cond-false (r.page == p) _ _ (ne_eqb r.page p other)
          ∙ ap (λ (g : Page). taken_back (open_smo older) p g.body) away
    ]

-- a record that undoes the newest Smo record: its page is what it was taken back to
pub settled_undo_smo : (b : Base) (r s : Logged) (older rest : History) (now was : Body) → r.what ≡ UndoSmo now → open_smo older ≡ s ∷ rest → s.what ≡ Smo now was → s.page ≡ r.page → IsNewIn s.txn s.page rest
    → (p : ℕ) → settled b (r ∷ older) p ≡ settled b older p
settled_undo_smo b r s older rest now was is going undone same new p =
    let left : open_smo (r ∷ older) ≡ rest = ap (λ (w : What). open_after r w (open_smo older)) is ∙ ap (λ (l : History). open_after r (UndoSmo now) l) going in
    ap (λ (l : History). taken_back l p (page_at b (r ∷ older) p).body) left
    ∙ elim (cases_eq r.page p) [
      | inl here ↦
          let there : s.page ≡ p = same ∙ here in
          let page : (page_at b (r ∷ older) p).body ≡ now =
          ap (λ (g : Page). g.body) (cond-true (r.page == p) (page_after r.lsn r.what (page_at b older p)) (page_at b older p) (eq-eqb r.page p here) ∙ ap (λ (w : What). page_after r.lsn w (page_at b older p)) is) in
          apart s.txn p rest (page_at b (r ∷ older) p).body (subst (λ (q : ℕ). IsNewIn s.txn q rest) there new)
          ∙ page
          ∙ sym (ap (λ (l : History). taken_back l p (page_at b older p).body) going
          ∙ cond-true (s.page == p) (body_before s.what (page_at b older p).body) (taken_back rest p (page_at b older p).body) (eq-eqb s.page p there)
          ∙ ap (λ (w : What). body_before w (page_at b older p).body) undone)
      | inr other ↦
          let elsewhere : s.page ≡ p → ⊥ = λ e. other (sym same ∙ e) in
          ap (λ (g : Page). taken_back rest p g.body) (cond-false (r.page == p) (page_after r.lsn r.what (page_at b older p)) (page_at b older p) (ne_eqb r.page p other))
          ∙ sym (ap (λ (l : History). taken_back l p (page_at b older p).body) going
          ∙ cond-false (s.page == p) (body_before s.what (page_at b older p).body) (taken_back rest p (page_at b older p).body) (ne_eqb s.page p elsewhere))
    ]
