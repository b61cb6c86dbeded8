-- Entries in rising key order, step by step.
use Rattle.std.proofs.Common.{◌≡◌, ℕ, zero, suc, ◌+◌, ◌<◌, ◌≤◌, cond, List, [], ◌∷◌, ◌++◌, length, take, drop, get_or, Vec, Global, refl, sym, ◌∙◌, ap, arith, append_assoc}
use Rattle.std.proofs.lemmas.List.{append-nil, map-append, take_all, take_more, take-map}
use Rattle.std.proofs.lemmas.List.Elements.{filter-append}
use Rattle.std.proofs.Math.Seq.{drop-cons}
use Rattle.std.proofs.Math.ListN.{drop_of_length-le}
use Rattle.std.proofs.Math.Numerals.{add-one}
use Rattle.std.specs.Ordering.{eq_by_cmp, is_eq}
use Rattle.std.specs.Prelude.{not}
use Rattle.std.specs.FinMap.{empty, entries, insert, remove, entries-insert, len-entries, len-empty}
use Rattle.std.specs.FinMap.Entries as lists
use Rattle.std.specs.declared.cmp.Ordering.{Ordering}
use Rattle.std.specs.declared.cmp.Ordering.TheVariants.{Less, Equal, Greater}
use Rattle.std.specs.Cmp.Lexicographic.{nat_list_cmp_total}
use Rattle.im_base_types.specs.Keys.{Key, key_order}
use Rattle.im_base_types.specs.Pages.{Entry}
use Rattle.im_base_types.specs.Maps.{IndexMap, without_key}
use Rattle.im_base_types.specs.Changes.{applied}
use Rattle.im_base_types.proofs.Maps.{entries_drop}
use Rattle.im_tool_judge.specs.declared.change.Change.{Change}
use Rattle.im_tool_judge.specs.Judged.{held_entries, change_of, made_in_turn}

none_long : (es : List Entry) → length es ≡ 0 → es ≡ []
none_long [] e = refl
none_long (x ∷ es) e = absurd (omega arith)

-- the empty map has no entries
pub empty_entries : entries {X = ℕ} {R = key_order} empty ≡ []
empty_entries = none_long (entries {X = ℕ} {R = key_order} empty) (sym (len-entries {X = ℕ} {R = key_order} empty) ∙ len-empty key_order ℕ)

pub entries_put : (m : IndexMap) (k : Key) (v : ℕ) → entries (insert m k v) ≡ lists.put key_order k v (entries m)
entries_put m k v = entries-insert nat_list_cmp_total m k v

module _ (k : Vec ℕ Global) (v : ℕ) where
  putting : List (Vec ℕ Global × ℕ) → List Entry
  putting es = lists.put key_order k.items v (held_entries es)

  -- the next entry is above the key, ties with it, or is below it
  one_step : (o : Ordering) (e : Vec ℕ Global × ℕ) (rest : List (Vec ℕ Global × ℕ)) → key_order k.items e.0.items ≡ o
      → lists.put key_order k.items v (held_entries (e ∷ rest)) ≡ lists.by_order o ((k.items, v) ∷ held_entries (e ∷ rest)) ((e.0.items, v) ∷ held_entries rest) ((e.0.items, e.1) ∷ lists.put key_order k.items v (held_entries rest))
  one_step o e rest is = ap (λ (x : Ordering). lists.by_order x ((k.items, v) ∷ held_entries (e ∷ rest)) ((e.0.items, v) ∷ held_entries rest) ((e.0.items, e.1) ∷ lists.put key_order k.items v (held_entries rest))) is

  -- the entries below the key are passed
  abbrev pub IsPassed : List (Vec ℕ Global × ℕ) → ℕ → Type 0
  IsPassed es i = lists.put key_order k.items v (held_entries es) ≡ held_entries (take i es) ++ lists.put key_order k.items v (held_entries (drop i es))

  module _ (es : List (Vec ℕ Global × ℕ)) (i : ℕ) (e : Vec ℕ Global × ℕ) (within : i < length es) (is : e ≡ get_or es i e) (passed : IsPassed es i) where
    at_it : drop i es ≡ e ∷ drop (suc i) es
    at_it = drop-cons es i e within ∙ ap (λ (x : Vec ℕ Global × ℕ). x ∷ drop (suc i) es) (sym is)

    here : (o : Ordering) → key_order k.items e.0.items ≡ o
        → lists.put key_order k.items v (held_entries es) ≡ held_entries (take i es) ++ lists.by_order o ((k.items, v) ∷ held_entries (drop i es)) ((e.0.items, v) ∷ held_entries (drop (suc i) es)) ((e.0.items, e.1) ∷ lists.put key_order k.items v (held_entries (drop (suc i) es)))
    here o order =
        passed
        ∙ ap (λ (x : List (Vec ℕ Global × ℕ)). held_entries (take i es) ++ lists.put key_order k.items v (held_entries x)) at_it
        ∙ ap (λ (x : List Entry). held_entries (take i es) ++ x) (one_step o e (drop (suc i) es) order)
        ∙ ap (λ (x : List (Vec ℕ Global × ℕ)). held_entries (take i es) ++ lists.by_order o ((k.items, v) ∷ held_entries x) ((e.0.items, v) ∷ held_entries (drop (suc i) es)) ((e.0.items, e.1) ∷ lists.put key_order k.items v (held_entries (drop (suc i) es)))) (sym at_it)

    -- it stands in front of this one
    pub put_here : key_order k.items e.0.items ≡ Less → held_entries (take i es ++ (k, v) ∷ drop i es) ≡ lists.put key_order k.items v (held_entries es)
    put_here order = map-append (λ (x : Vec ℕ Global × ℕ). (x.0.items, x.1)) (take i es) ((k, v) ∷ drop i es) ∙ sym (here Less order)

    -- it is this one's, which keeps its key
    pub put_over : (new : List (Vec ℕ Global × ℕ)) → key_order k.items e.0.items ≡ Equal → new ≡ take i es ++ (e.0, v) ∷ drop (suc i) es → held_entries new ≡ lists.put key_order k.items v (held_entries es)
    put_over new order same = ap (λ (x : List (Vec ℕ Global × ℕ)). held_entries x) same ∙ map-append (λ (x : Vec ℕ Global × ℕ). (x.0.items, x.1)) (take i es) ((e.0, v) ∷ drop (suc i) es) ∙ sym (here Equal order)

    -- it is passed
    pub passed_more : key_order k.items e.0.items ≡ Greater → IsPassed es (i + 1)
    passed_more order =
        here Greater order
        ∙ sym (append_assoc (held_entries (take i es)) ((e.0.items, e.1) ∷ []) (lists.put key_order k.items v (held_entries (drop (suc i) es))))
        ∙ ap (λ (x : List Entry). x ++ lists.put key_order k.items v (held_entries (drop (suc i) es))) (sym (map-append (λ (x : Vec ℕ Global × ℕ). (x.0.items, x.1)) (take i es) (e ∷ [])))
        ∙ ap (λ (x : List (Vec ℕ Global × ℕ)). held_entries x ++ lists.put key_order k.items v (held_entries (drop (suc i) es))) (ap (λ (x : Vec ℕ Global × ℕ). take i es ++ x ∷ []) is ∙ sym (take_more es i e within))
        ∙ ap (λ (n : ℕ). held_entries (take (i + 1) es) ++ lists.put key_order k.items v (held_entries (drop n es))) (sym (add-one i))

  pub passed_none : (es : List (Vec ℕ Global × ℕ)) → IsPassed es 0
  passed_none es = refl

  -- all are passed
  pub put_last : (es : List (Vec ℕ Global × ℕ)) (i : ℕ) → length es ≤ i → IsPassed es i → held_entries (es ++ (k, v) ∷ []) ≡ lists.put key_order k.items v (held_entries es)
  put_last es i end passed =
      map-append (λ (x : Vec ℕ Global × ℕ). (x.0.items, x.1)) es ((k, v) ∷ [])
      ∙ sym (passed ∙ ap (λ (x : List (Vec ℕ Global × ℕ)). held_entries x ++ lists.put key_order k.items v (held_entries (drop i es))) (take_all i es end) ∙ ap (λ (x : List (Vec ℕ Global × ℕ)). held_entries es ++ lists.put key_order k.items v (held_entries x)) (drop_of_length-le es end))

-- the entries without a key, one more
one_kept : (k : Key) (o : Ordering) (e : Vec ℕ Global × ℕ) → key_order k e.0.items ≡ o → (o ≡ Equal → ⊥) → without_key k (held_entries (e ∷ [])) ≡ held_entries (e ∷ [])
one_kept k Less e is other = ap (λ (x : Ordering). cond (not (is_eq x)) (held_entries (e ∷ [])) []) is
one_kept k Equal e is other = absurd (other refl)
one_kept k Greater e is other = ap (λ (x : Ordering). cond (not (is_eq x)) (held_entries (e ∷ [])) []) is

one_gone : (k : Key) (e : Vec ℕ Global × ℕ) → key_order k e.0.items ≡ Equal → without_key k (held_entries (e ∷ [])) ≡ []
one_gone k e is = ap (λ (x : Ordering). cond (not (is_eq x)) (held_entries (e ∷ [])) []) is

without_more : (k : Key) (front : List (Vec ℕ Global × ℕ)) (e : Vec ℕ Global × ℕ) → without_key k (held_entries (front ++ e ∷ [])) ≡ without_key k (held_entries front) ++ without_key k (held_entries (e ∷ []))
without_more k front e =
    ap (λ (x : List Entry). without_key k x) (map-append (λ (x : Vec ℕ Global × ℕ). (x.0.items, x.1)) front (e ∷ [])) ∙ filter-append (λ (x : Entry). not (eq_by_cmp key_order k x.0)) (held_entries front) (held_entries (e ∷ []))

pub without_kept : (k : Key) (front kept : List (Vec ℕ Global × ℕ)) (e : Vec ℕ Global × ℕ) → held_entries kept ≡ without_key k (held_entries front) → (key_order k e.0.items ≡ Equal → ⊥) → held_entries (kept ++ e ∷ []) ≡ without_key k (held_entries (front ++ e ∷ []))
without_kept k front kept e is other =
    map-append (λ (x : Vec ℕ Global × ℕ). (x.0.items, x.1)) kept (e ∷ []) ∙ ap (λ (x : List Entry). x ++ held_entries (e ∷ [])) is ∙ ap (λ (x : List Entry). without_key k (held_entries front) ++ x) (sym (one_kept k (key_order k e.0.items) e refl other)) ∙ sym (without_more k front e)

pub without_gone : (k : Key) (front kept : List (Vec ℕ Global × ℕ)) (e : Vec ℕ Global × ℕ) → held_entries kept ≡ without_key k (held_entries front) → key_order k e.0.items ≡ Equal → held_entries kept ≡ without_key k (held_entries (front ++ e ∷ []))
without_gone k front kept e is same = is ∙ sym (append-nil (without_key k (held_entries front))) ∙ ap (λ (x : List Entry). without_key k (held_entries front) ++ x) (sym (one_gone k e same)) ∙ sym (without_more k front e)

-- changes made to lists of entries are made to the map
pub made_put : (m : IndexMap) (k : Key) (v : ℕ) (old new : List (Vec ℕ Global × ℕ)) → held_entries new ≡ lists.put key_order k v (held_entries old) → held_entries old ≡ entries m → held_entries new ≡ entries (insert m k v)
made_put m k v old new is same = is ∙ ap (λ (x : List Entry). lists.put key_order k v x) same ∙ sym (entries_put m k v)

pub made_drop : (m : IndexMap) (k : Key) (old new : List (Vec ℕ Global × ℕ)) → held_entries new ≡ without_key k (held_entries old) → held_entries old ≡ entries m → held_entries new ≡ entries (remove m k)
made_drop m k old new is same = is ∙ ap (λ (x : List Entry). without_key k x) same ∙ sym (entries_drop m k)

-- one change more
pub made_more : (m : IndexMap) (cs : List Change) (i : ℕ) (c : Change) → i < length cs → c ≡ get_or cs i c → made_in_turn m (take (i + 1) cs) ≡ applied (made_in_turn m (take i cs)) (change_of c)
made_more m cs i c within is = ap (λ (x : List Change). made_in_turn m x) (take_more cs i c within ∙ ap (λ (x : Change). take i cs ++ x ∷ []) (sym is)) ∙ turn_push m (take i cs) c
  where
    turn_push : (m : IndexMap) (cs : List Change) (c : Change) → made_in_turn m (cs ++ c ∷ []) ≡ applied (made_in_turn m cs) (change_of c)
    turn_push m [] c = refl
    turn_push m (one ∷ cs) c = turn_push (applied m (change_of one)) cs c

-- one entry more is the same
held_at : (es : List (Vec ℕ Global × ℕ)) (i : ℕ) → held_entries (take i es) ≡ take i (held_entries es)
held_at es i = sym (take-map (λ (x : Vec ℕ Global × ℕ). (x.0.items, x.1)) i es)

pub same_at : (found : List Entry) (es : List (Vec ℕ Global × ℕ)) (i : ℕ) (f : Entry) (e : Vec ℕ Global × ℕ) → i < length found → length es ≡ length found → take i found ≡ take i (held_entries es) → f ≡ get_or found i f → e ≡ get_or es i e → f ≡ (e.0.items, e.1)
    → take (i + 1) found ≡ take (i + 1) (held_entries es)
same_at found es i f e within long front at is same =
    take_more found i f within
    ∙ ap (λ (x : Entry). take i found ++ x ∷ []) (sym at ∙ same)
    ∙ ap (λ (x : List Entry). x ++ (e.0.items, e.1) ∷ []) (front ∙ sym (held_at es i))
    ∙ sym (map-append (λ (x : Vec ℕ Global × ℕ). (x.0.items, x.1)) (take i es) (e ∷ []))
    ∙ ap (λ (l : List (Vec ℕ Global × ℕ)). held_entries l) (ap (λ (x : Vec ℕ Global × ℕ). take i es ++ x ∷ []) is ∙ sym (take_more es i e (omega arith)))
    ∙ held_at es (i + 1)

-- two readings of one place are one
pub same_item : {A : Type 0} (xs : List A) (i : ℕ) (a b : A) → i < length xs → a ≡ get_or xs i a → b ≡ get_or xs i b → a ≡ b
same_item [] i a b within x y = absurd (omega arith)
same_item (c ∷ xs) zero a b within x y = x ∙ sym y
same_item (c ∷ xs) (suc i) a b within x y = same_item xs i a b (omega arith) x y
