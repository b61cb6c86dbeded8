-- Nets between the committed map and what is in the tree: a change of a key that no other net touches, a change taken back, a commit.
use Rattle.std.proofs.Common.{◌≡◌, ◌≢◌, inl, inr, ℕ, [], ◌∷◌, refl, sym, ◌∙◌, ap, subst}
use Rattle.std.specs.FinMap.{get}
use Rattle.std.proofs.lemmas.Bool.{cases_eq}
use Rattle.im_base_types.specs.Keys.{Key}
use Rattle.im_base_types.specs.Maps.{IndexMap}
use Rattle.im_base_types.specs.Changes.{Change, Effect, key_of, value_before, applied, undone, apply, Touches, IsUndoable}
use Rattle.im_base_types.specs.Nets.{AreNets}
use Rattle.im_base_types.proofs.Maps.{cases_key, same_maps}
use Rattle.im_base_types.proofs.Changes.{applied_off, applied_agrees, apply_agrees, apply_untouched, cases_touches, undone_at, undone_off}

-- one net set: `news` is `nets` but for t, which has these changes
module _ (nets news : ℕ → Effect) (t : ℕ) (cs : Effect) (here : news t ≡ cs) (same : (u : ℕ) → u ≢ t → news u ≡ nets u) where
  by_net : (P : ℕ → Effect → Type 0) → P t cs → ((s : ℕ) → s ≢ t → P s (nets s)) → (s : ℕ) → P s (news s)
  by_net P mine rest s = elim (cases_eq s t) [
    | inl e ↦ subst (λ (u : ℕ). P u (news u)) (sym e) (subst (λ (e : Effect). P t e) (sym here) mine)
    | inr differ ↦ subst (λ (e : Effect). P s e) (sym (same s differ)) (rest s differ)
  ]

  -- what is owed when one net is set
  record SetsNet (base w : IndexMap) : Type 0 where
    others_apart : (s u : ℕ) → s ≢ t → u ≢ t → s ≢ u → (x : Key) → Touches (nets s) x → Touches (nets u) x → ⊥
    mine : (s : ℕ) → s ≢ t → (x : Key) → Touches cs x → Touches (nets s) x → ⊥
    undoable : IsUndoable base cs
    undoables : (s : ℕ) → s ≢ t → IsUndoable base (nets s)
    walk_mine : (x : Key) → ((u : ℕ) → u ≢ t → Touches (nets u) x → ⊥) → get w x ≡ get (apply base cs) x
    walk_others : (s : ℕ) (x : Key) → s ≢ t → (Touches cs x → ⊥) → ((u : ℕ) → u ≢ s → u ≢ t → Touches (nets u) x → ⊥) → get w x ≡ get (apply base (nets s)) x

  nets_set : (base w : IndexMap) → SetsNet base w → AreNets base w news
  nets_set base w h = record {
    apart = by_net (λ s net. (u : ℕ) → s ≢ u → (x : Key) → Touches net x → Touches (news u) x → ⊥)
        (by_net (λ u net. t ≢ u → (x : Key) → Touches cs x → Touches net x → ⊥) (λ ne x a b. ne refl) (λ u nu ne x a b. h.mine u nu x a b))
        (λ s ns. by_net (λ u net. s ≢ u → (x : Key) → Touches (nets s) x → Touches net x → ⊥) (λ ne x a b. h.mine s ns x b a) (λ u nu ne x a b. h.others_apart s u ns nu ne x a b));
    undoable = by_net (λ s net. IsUndoable base net) h.undoable h.undoables;
    makes = by_net (λ s net. (x : Key) → ((u : ℕ) → u ≢ s → Touches (news u) x → ⊥) → get w x ≡ get (apply base net) x)
        (λ x none. h.walk_mine x (λ u nu touch. none u nu (subst (λ (e : Effect). Touches e x) (sym (same u nu)) touch)))
        (λ s ns x none. h.walk_others s x ns
        (λ touch. none t (λ e. ns (sym e)) (subst (λ (e : Effect). Touches e x) (sym here) touch))
        (λ u nus nut touch. none u nus (subst (λ (e : Effect). Touches e x) (sym (same u nut)) touch)));
  }

module _ (base w : IndexMap) (nets news : ℕ → Effect) (h : AreNets base w nets) (t : ℕ) (same : (u : ℕ) → u ≢ t → news u ≡ nets u) where
  walk_but : (s : ℕ) (x : Key) → (Touches (nets t) x → ⊥) → ((u : ℕ) → u ≢ s → u ≢ t → Touches (nets u) x → ⊥) → get w x ≡ get (apply base (nets s)) x
  walk_but s x mine others = h.makes s x (λ u nu touch. elim (cases_eq u t) [
    | inl e ↦ mine (subst (λ (v : ℕ). Touches (nets v) x) e touch)
    | inr ne ↦ others u nu ne touch
  ])

  -- A transaction makes a change of a key that no other net touches.
  pub net_grows : (c : Change) → news t ≡ c ∷ nets t → ((u : ℕ) → u ≢ t → Touches (nets u) (key_of c) → ⊥) → get w (key_of c) ≡ value_before c → AreNets base (applied w c) news
  net_grows c is free before = nets_set nets news t (c ∷ nets t) is same base (applied w c) (record {
    others_apart = λ s u ns nu ne. h.apart s u ne;
    mine = λ s ns x a b. elim a [ inl e ↦ free s ns (subst (λ (k : Key). Touches (nets s) k) (sym e) b) | inr g ↦ h.apart t s (λ e. ns (sym e)) x g b ];
    undoable = (sym (h.makes t (key_of c) free) ∙ before, h.undoable t);
    undoables = λ s ns. h.undoable s;
    walk_mine = λ x none. applied_agrees w (apply base (nets t)) c x (h.makes t x none);
    walk_others = λ s x ns mine others. applied_off w c x (λ e. mine (inl e)) ∙ walk_but s x (λ g. mine (inr g)) others;
  })

  rebased : (net : Effect) → ((x : Key) → Touches net x → Touches (nets t) x → ⊥) → IsUndoable base net → IsUndoable (apply base (nets t)) net
  rebased [] off g = tt
  rebased (c ∷ cs) off g = (
    apply_agrees (apply base (nets t)) base cs (key_of c) (apply_untouched base (nets t) (key_of c) (off (key_of c) (inl refl))) ∙ g.0,
    rebased cs (λ x touch. off x (inr touch)) g.1,
  )

  -- A transaction commits: its net joins the committed map.
  pub net_commits : news t ≡ [] → AreNets (apply base (nets t)) w news
  net_commits is = nets_set nets news t [] is same (apply base (nets t)) w (record {
    others_apart = λ s u ns nu ne. h.apart s u ne;
    mine = λ s ns x a b. a;
    undoable = tt;
    undoables = λ s ns. rebased (nets s) (h.apart s t ns) (h.undoable s);
    walk_mine = λ x none. h.makes t x none;
    walk_others = λ s x ns mine others. elim (cases_touches (nets t) x) [
      | inl g ↦
          h.makes t x (λ u nu touch. elim (cases_eq u s) [
            | inl e ↦ h.apart s t ns x (subst (λ (v : ℕ). Touches (nets v) x) e touch) g
            | inr ne ↦ others u ne nu touch
          ])
          ∙ sym (apply_untouched (apply base (nets t)) (nets s) x (λ touch. h.apart s t ns x touch g))
      | inr none ↦ walk_but s x none others ∙ sym (apply_agrees (apply base (nets t)) base (nets s) x (apply_untouched base (nets t) x none))
    ];
  })

  -- A transaction's newest change is taken back.
  module _ (c : Change) (is : nets t ≡ c ∷ news t) where
    parts : IsUndoable base (c ∷ news t)
    parts = subst (λ (e : Effect). IsUndoable base e) is (h.undoable t)

    undo_touch : Touches (nets t) (key_of c)
    undo_touch = subst (λ (e : Effect). Touches e (key_of c)) (sym is) (inl refl)

    back : (x : Key) → key_of c ≡ x → get (undone w c) x ≡ get (apply base (news t)) x
    back x e = undone_at w c x e ∙ sym parts.0 ∙ ap (λ (k : Key). get (apply base (news t)) k) e

    back_mine : (x : Key) → ((u : ℕ) → u ≢ t → Touches (nets u) x → ⊥) → get (undone w c) x ≡ get (apply base (news t)) x
    back_mine x none = elim (cases_key (key_of c) x) [
      | inl e ↦ back x e
      | inr ne ↦ undone_off w c x ne ∙ h.makes t x none ∙ ap (λ (e : Effect). get (apply base e) x) is ∙ applied_off (apply base (news t)) c x ne
    ]

    back_other : (s : ℕ) (x : Key) → s ≢ t → (Touches (news t) x → ⊥) → ((u : ℕ) → u ≢ s → u ≢ t → Touches (nets u) x → ⊥) → get (undone w c) x ≡ get (apply base (nets s)) x
    back_other s x ns mine others = elim (cases_key (key_of c) x) [
      | inl e ↦ back x e ∙ apply_untouched base (news t) x mine
          ∙ sym (apply_untouched base (nets s) x (λ touch. h.apart s t ns x touch (subst (λ (k : Key). Touches (nets t) k) e undo_touch)))
      | inr ne ↦ undone_off w c x ne ∙ h.makes s x (λ u nu touch. elim (cases_eq u t) [
        | inl q ↦ elim (subst (λ (e : Effect). Touches e x) (ap nets q ∙ is) touch) [ inl e ↦ ne e | inr g ↦ mine g ]
        | inr nt ↦ others u nu nt touch
      ])
    ]

    pub net_shrinks : AreNets base (undone w c) news
    net_shrinks = nets_set nets news t (news t) refl same base (undone w c) (record {
      others_apart = λ s u ns nu ne. h.apart s u ne;
      mine = λ s ns x a b. h.apart t s (λ e. ns (sym e)) x (subst (λ (e : Effect). Touches e x) (sym is) (inr a)) b;
      undoable = parts.1;
      undoables = λ s ns. h.undoable s;
      walk_mine = back_mine;
      walk_others = back_other;
    })

-- where no transaction has a net, the tree has the committed map
pub no_nets : (base w : IndexMap) (nets : ℕ → Effect) → AreNets base w nets → ((t : ℕ) → nets t ≡ []) → w ≡ base
no_nets base w nets h none = same_maps w base (λ x. h.makes 0 x (λ u ne touch. subst (λ (e : Effect). Touches e x) (none u) touch) ∙ ap (λ (e : Effect). get (apply base e) x) (none 0))

-- before any change
pub nets_at_start : (base : IndexMap) → AreNets base base (λ (t : ℕ). [])
nets_at_start base = record { apart = λ s u ne x a b. a; undoable = λ s. tt; makes = λ s x none. refl }
