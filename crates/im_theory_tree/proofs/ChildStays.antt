-- The child that holds a key is the same in the half of its page that the key belongs to.
use Rattle.std.proofs.Common.{◌≡◌, ◌⊎◌, ℕ, zero, suc, ◌+◌, ◌-◌, ◌<◌, ◌≤◌, false, List, [], ◌∷◌, length, take, drop, sym, ap, subst, ◌∙◌, inl, inr, ⊎_elim, arith, length-take, length-drop, get_or-take, get_or-drop, drop-drop}
use Rattle.std.proofs.lemmas.Bool.{cases_lt}
use Rattle.im_base_types.specs.Keys.{Key, IsBelow}
use Rattle.im_base_types.specs.Pages.{Entry, Body}
use Rattle.im_theory_page.specs.Entry.{no_entry, entry_at, Rises}
use Rattle.im_theory_page.specs.Child.{StartAbove, IsChild}
use Rattle.im_theory_page.specs.Split.{HasRoomForAny}
use Rattle.im_theory_page.proofs.Order.{below_trans, below_irrefl}
use Rattle.im_theory_tree.specs.Levels.{Pages}
use Rattle.im_theory_tree.specs.Halves.{SplitsWell}
use Rattle.im_theory_tree.specs.KeySplits.{SplitsKeyInner, SplitsKeyRootInner, KeepsWay, HalfGoesOn}
use Rattle.im_theory_tree.proofs.StepLemmas.{below_or_not}
use Rattle.im_theory_tree.proofs.InnerSplitWay.{key_inner_split}
use Rattle.im_theory_tree.proofs.RootSplitWay.{key_root_inner_split}

start_take : (key : Key) (n : ℕ) (es : List Entry) → StartAbove key es → StartAbove key (take n es)
start_take key zero es h = tt
start_take key (suc n) [] h = tt
start_take key (suc n) (e ∷ es) h = h

start_drop_take : (key : Key) (j n : ℕ) (es : List Entry) → StartAbove key (drop j es) → StartAbove key (drop j (take n es))
start_drop_take key zero n es h = start_take key n es h
start_drop_take key (suc j) zero es h = tt
start_drop_take key (suc j) (suc n) [] h = tt
start_drop_take key (suc j) (suc n) (e ∷ es) h = start_drop_take key j n es h

-- the entry that a list begins with is above the key
start_at : (key : Key) (j : ℕ) (es : List Entry) → StartAbove key (drop j es) → j < length es → IsBelow key (entry_at es j).0
start_at key j [] h lt = absurd (omega arith)
start_at key zero (e ∷ es) h lt = h
start_at key (suc j) (e ∷ es) h lt = start_at key j es h (omega arith)

-- a key reached by an entry is not below an entry that stands at or before it
not_before : (es : List Entry) (key : Key) (i n : ℕ) → Rises es → i < length es → ((entry_at es i).0 ≡ key) ⊎ IsBelow (entry_at es i).0 key → IsBelow key (entry_at es n).0 → n ≤ i → ⊥
not_before es key i n rises lt reached below le =
    let over : IsBelow key (entry_at es i).0 =
    ⊎_elim (λ (x : n < i). below_trans key (entry_at es n).0 (entry_at es i).0 below (rises n i x lt))
    (λ (x : i ≤ n). let same : n ≡ i = omega arith in subst (λ k. IsBelow key (entry_at es k).0) same below)
    (cases_lt n i) in
    ⊎_elim (λ (e : (entry_at es i).0 ≡ key). below_irrefl key (subst (λ (k : Key). IsBelow key k) e over))
    (λ (l : IsBelow (entry_at es i).0 key). below_irrefl key (below_trans key (entry_at es i).0 key over l)) reached

-- the key is below the separator: the child is in the left half
pub child_in_left : (b c : Body) (key : Key) (n child : ℕ) → Rises b.entries → n < length b.entries → c.leftmost ≡ b.leftmost → c.entries ≡ take n b.entries
    → IsBelow key (entry_at b.entries n).0 → IsChild b key child → IsChild c key child
child_in_left b c key n child rises within leftmost entries below is =
    let es = b.entries in
    ⊎_elim
    (λ (x : (child ≡ b.leftmost) × StartAbove key b.entries). inl (x.0 ∙ sym leftmost, subst (StartAbove key) (sym entries) (start_take key n es x.1)))
    (λ (x : (i : ℕ) × (i < length b.entries) × (child ≡ (entry_at b.entries i).1) × (((entry_at b.entries i).0 ≡ key) ⊎ IsBelow (entry_at b.entries i).0 key) × StartAbove key (drop (i + 1) b.entries)).
    let i = x.0 in
    let before : i < n = ⊎_elim (λ (l : i < n). l) (λ (l : n ≤ i). absurd (not_before es key i n rises x.1 x.3 below l)) (cases_lt i n) in
    let same : entry_at (take n es) i ≡ entry_at es i = get_or-take n es i no_entry before in
    let parts : (i < length (take n es)) × (child ≡ (entry_at (take n es) i).1) × (((entry_at (take n es) i).0 ≡ key) ⊎ IsBelow (entry_at (take n es) i).0 key) × StartAbove key (drop (i + 1) (take n es)) = (
      omega (arith, length-take n es, within, before),
      x.2 ∙ ap (λ (e : Entry). e.1) (sym same),
      subst (λ (e : Entry). (e.0 ≡ key) ⊎ IsBelow e.0 key) (sym same) x.3,
      start_drop_take key (i + 1) n es x.4,
    ) in
    let whole = subst (λ (fs : List Entry). (i < length fs) × (child ≡ (entry_at fs i).1) × (((entry_at fs i).0 ≡ key) ⊎ IsBelow (entry_at fs i).0 key) × StartAbove key (drop (i + 1) fs)) (sym entries) parts in
    inr (i, whole.0, whole.1, whole.2, whole.3))
    is

-- a key at or above an entry is not below one that stands at or before that
reaches_over : (es : List Entry) (key : Key) (j n : ℕ) → Rises es → n < length es → ((entry_at es n).0 ≡ key) ⊎ IsBelow (entry_at es n).0 key → IsBelow key (entry_at es j).0 → j ≤ n → ⊥
reaches_over es key j n rises lt reached below le = not_before es key n j rises lt reached below le

-- the key is not below the separator: the child is in the right half
pub child_in_right : (b c : Body) (key : Key) (n child : ℕ) → Rises b.entries → n < length b.entries → c.leftmost ≡ (entry_at b.entries n).1 → c.entries ≡ drop (n + 1) b.entries
    → ((entry_at b.entries n).0 ≡ key) ⊎ IsBelow (entry_at b.entries n).0 key → IsChild b key child → IsChild c key child
child_in_right b c key n child rises within leftmost entries reached is =
    let es = b.entries in
    ⊎_elim
    (λ (x : (child ≡ b.leftmost) × StartAbove key b.entries).
    absurd (reaches_over es key 0 n rises within reached (start_at key 0 es x.1 (omega arith)) (omega arith)))
    (λ (x : (i : ℕ) × (i < length b.entries) × (child ≡ (entry_at b.entries i).1) × (((entry_at b.entries i).0 ≡ key) ⊎ IsBelow (entry_at b.entries i).0 key) × StartAbove key (drop (i + 1) b.entries)).
    let i = x.0 in
    let behind : n ≤ i = ⊎_elim (λ (l : i < n). absurd (reaches_over es key (i + 1) n rises within reached (start_at key (i + 1) es x.4 (omega arith)) (omega arith))) (λ (l : n ≤ i). l) (cases_lt i n) in
    ⊎_elim
    (λ (l : n < i).
    let j : ℕ = i - (n + 1) in
    let at : n + 1 + j ≡ i = omega arith in
    let same : entry_at (drop (n + 1) es) j ≡ entry_at es i = get_or-drop (n + 1) es j no_entry ∙ ap (entry_at es) at in
    let next : n + 1 + (j + 1) ≡ i + 1 = omega arith in
    let rest : drop (j + 1) (drop (n + 1) es) ≡ drop (i + 1) es = drop-drop (j + 1) (n + 1) es ∙ ap (λ k. drop k es) next in
    let parts : (j < length (drop (n + 1) es)) × (child ≡ (entry_at (drop (n + 1) es) j).1) × (((entry_at (drop (n + 1) es) j).0 ≡ key) ⊎ IsBelow (entry_at (drop (n + 1) es) j).0 key)
    × StartAbove key (drop (j + 1) (drop (n + 1) es)) = (
      omega (arith, length-drop (n + 1) es, x.1),
      x.2 ∙ ap (λ (e : Entry). e.1) (sym same),
      subst (λ (e : Entry). (e.0 ≡ key) ⊎ IsBelow e.0 key) (sym same) x.3,
      subst (StartAbove key) (sym rest) x.4,
    ) in
    let whole = subst (λ (fs : List Entry). (j < length fs) × (child ≡ (entry_at fs j).1) × (((entry_at fs j).0 ≡ key) ⊎ IsBelow (entry_at fs j).0 key) × StartAbove key (drop (j + 1) fs)) (sym entries) parts in
    inr (j, whole.0, whole.1, whole.2, whole.3))
    (λ (l : i ≤ n).
    let same : i ≡ n = omega arith in
    inl (x.2 ∙ ap (λ k. (entry_at es k).1) same ∙ sym leftmost, subst (StartAbove key) (ap (λ k. drop (k + 1) es) same ∙ sym entries) x.4))
    (cases_lt n i))
    is

-- THE WAY GOES ON BEHIND A SPLIT OF AN INNER PAGE
goes_on : (b : Body) (pages new : Pages) (spare : List ℕ) (h : ℕ) (key : Key) (p q n child : ℕ) → Rises b.entries → n < length b.entries
    → (new p).leftmost ≡ b.leftmost → (new p).entries ≡ take n b.entries → (new q).leftmost ≡ (entry_at b.entries n).1 → (new q).entries ≡ drop (n + 1) b.entries
    → SplitsWell false b.entries n → KeepsWay pages new spare (suc h) key p q (entry_at b.entries n).0 → IsChild b key child → HalfGoesOn new h key child
goes_on b pages new spare h key p q n child rises within lp ep lq eq well keeps is =
    let s : Key = (entry_at b.entries n).0 in
    ⊎_elim
    (λ (below : IsBelow key s). record {
      page = p;
      way = keeps.low below;
      goes = child_in_left b (new p) key n child rises within lp ep below is;
      room = subst (HasRoomForAny false) (sym ep) well.left_room;
    })
    (λ (above : (s ≡ key) ⊎ IsBelow s key). record {
      page = q;
      way = keeps.high above;
      goes = child_in_right b (new q) key n child rises within lq eq above is;
      room = subst (HasRoomForAny false) (sym eq) well.rest_room;
    })
    (below_or_not key s)

pub inner_goes_on : (pages new : Pages) (spare : List ℕ) (h : ℕ) (key : Key) (parent p q n child : ℕ) → SplitsKeyInner pages new spare h key parent p q n → SplitsWell false (pages p).entries n
    → IsChild (pages p) key child → HalfGoesOn new h key child
inner_goes_on pages new spare h key parent p q n child s well is =
    let f = s.pages_split in
    goes_on (pages p) pages new spare h key p q n child s.rises s.within f.left_leftmost f.left_entries f.right_leftmost f.right_entries well
    (key_inner_split pages new spare h key parent p q n s) is

pub root_goes_on : (pages new : Pages) (spare : List ℕ) (h : ℕ) (key : Key) (left right n child : ℕ) → SplitsKeyRootInner pages new spare h left right n → Rises (pages 1).entries
    → SplitsWell false (pages 1).entries n → IsChild (pages 1) key child → HalfGoesOn new h key child
root_goes_on pages new spare h key left right n child s rises well is =
    let f = s.pages_split in
    goes_on (pages 1) pages new spare h key left right n child rises s.within f.left_leftmost f.left_entries f.right_leftmost f.right_entries well
    (key_root_inner_split pages new spare h key left right n s) is
