-- Fronts of what was asked.
use Rattle.std.proofs.Common.{◌≡◌, ◌⊎◌, inl, inr, ℕ, zero, suc, ◌+◌, ◌-◌, ◌<◌, ◌≤◌, true, false, List, [], ◌∷◌, ◌++◌, length, take, drop, map, get_or, refl, sym, ◌∙◌, ap, subst, arith}
use Rattle.std.proofs.lemmas.List.{map-append, take_more, take_all}
use Rattle.std.specs.FinMap.{empty, entries}
use Rattle.im_base_types.specs.Changes.{Effect, apply, apply_all}
use Rattle.im_base_types.specs.Lives.{Asked, NoneAcked, effects}
use Rattle.im_base_types.specs.Maps.{IndexMap}
use Rattle.im_base_types.specs.Pages.{Entry}
use Rattle.im_base_types.proofs.Changes.{apply_all_push}
use Rattle.im_tool_judge.specs.declared.change.Change.{Change}
use Rattle.im_tool_judge.specs.declared.change.AskedEffect.{AskedEffect}
use Rattle.im_tool_judge.specs.Judged.{IsAllowed, asked_effect, change_of, newest_before, made_in_turn}

-- changes made in turn are the effect that they are
pub turned : (m : IndexMap) (cs : List Change) (e : Effect) → apply m (newest_before cs e) ≡ made_in_turn (apply m e) cs
turned m [] e = refl
turned m (c ∷ cs) e = turned m cs (change_of c ∷ e)

effects_append : (xs ys : List Asked) → effects (xs ++ ys) ≡ effects xs ++ effects ys
effects_append [] ys = refl
effects_append (x ∷ xs) ys = ap (λ (l : List Effect). x.effect ∷ l) (effects_append xs ys)

-- the map after the first so many effects
abbrev pub map_behind : List AskedEffect → ℕ → IndexMap
map_behind asked n = apply_all empty (effects (map asked_effect (take n asked)))

-- one effect more
pub map_more : (asked : List AskedEffect) (i : ℕ) (a : AskedEffect) → i < length asked → a ≡ get_or asked i a → made_in_turn (map_behind asked i) a.changes.items ≡ map_behind asked (i + 1)
map_more asked i a within is =
    let one : take (i + 1) asked ≡ take i asked ++ a ∷ [] = take_more asked i a within ∙ ap (λ (x : AskedEffect). take i asked ++ x ∷ []) (sym is) in
    sym (turned (map_behind asked i) a.changes.items [])
    ∙ sym (apply_all_push empty (effects (map asked_effect (take i asked))) (asked_effect a).effect)
    ∙ ap (λ (l : List Effect). apply_all empty l) (sym (ap effects (ap (λ (l : List AskedEffect). map asked_effect l) one ∙ map-append asked_effect (take i asked) (a ∷ [])) ∙ effects_append (map asked_effect (take i asked)) (asked_effect a ∷ [])))

-- this front is one that a life may leave
pub record IsGoodFront (asked : List AskedEffect) (found : List Entry) (n : ℕ) : Type 0 where
  pub none : NoneAcked (map asked_effect (drop n asked))
  pub is : found ≡ entries (map_behind asked n)

take_drop : {A : Type 0} (n : ℕ) (xs : List A) → take n xs ++ drop n xs ≡ xs
take_drop zero xs = refl
take_drop (suc n) [] = refl
take_drop (suc n) (x ∷ xs) = ap (λ (l : List _). x ∷ l) (take_drop n xs)

pub allowed_by : (asked : List AskedEffect) (found : List Entry) (n : ℕ) → IsGoodFront asked found n → IsAllowed asked found
allowed_by asked found n good = record {
  after = effects (map asked_effect (take n asked));
  survives = record {
    kept = map asked_effect (take n asked);
    lost = map asked_effect (drop n asked);
    all = sym (map-append asked_effect (take n asked) (drop n asked)) ∙ ap (λ (l : List AskedEffect). map asked_effect l) (take_drop n asked);
    no_ack_lost = good.none;
    is = refl;
  };
  is = good.is;
}

-- a list that is cut is cut at a place
front_cut : (asked : List AskedEffect) (kept lost : List Asked) → kept ++ lost ≡ map asked_effect asked → (map asked_effect (take (length kept) asked) ≡ kept) × (map asked_effect (drop (length kept) asked) ≡ lost) × (length kept ≤ length asked)
front_cut asked [] lost e = (refl, sym e, omega arith)
front_cut [] (k ∷ kept) lost e = absurd (cc)
front_cut (a ∷ asked) (k ∷ kept) lost e =
    let head : k ≡ asked_effect a = cc in
    let tail : kept ++ lost ≡ map asked_effect asked = cc in
    let rest = front_cut asked kept lost tail in
    (ap (λ (l : List Asked). asked_effect a ∷ l) rest.0 ∙ ap (λ (x : Asked). x ∷ kept) (sym head), rest.1, omega (arith, rest.2))

pub front_of : (asked : List AskedEffect) (found : List Entry) → IsAllowed asked found → (n : ℕ) × (n ≤ length asked) × IsGoodFront asked found n
front_of asked found allowed =
    let s = allowed.survives in
    let cut = front_cut asked s.kept s.lost s.all in (
      length s.kept,
      cut.2,
      record {
        none = subst NoneAcked (sym cut.1) s.no_ack_lost;
        is = allowed.is ∙ ap (λ (l : List Effect). entries (apply_all empty l)) (s.is ∙ ap effects (sym cut.0));
      },
    )

-- none so far was acknowledged, nor was this one
pub none_more : (asked : List AskedEffect) (i : ℕ) (a : AskedEffect) → i < length asked → a ≡ get_or asked i a → a.acked ≡ false → NoneAcked (map asked_effect (take i asked)) → NoneAcked (map asked_effect (take (i + 1) asked))
none_more asked i a within is not_acked none =
    subst (λ (l : List AskedEffect). NoneAcked (map asked_effect l)) (sym (take_more asked i a within ∙ ap (λ (x : AskedEffect). take i asked ++ x ∷ []) (sym is)))
    (subst NoneAcked (sym (map-append asked_effect (take i asked) (a ∷ []))) (none_push (map asked_effect (take i asked)) (asked_effect a) none not_acked))
  where
    none_push : (l : List Asked) (x : Asked) → NoneAcked l → x.acked ≡ false → NoneAcked (l ++ x ∷ [])
    none_push [] x none is = (is, tt)
    none_push (one ∷ l) x none is = (none.0, none_push l x none.1 is)

-- one that was acknowledged is among them
pub some_acked : (asked : List AskedEffect) (i : ℕ) (a : AskedEffect) → i < length asked → a ≡ get_or asked i a → a.acked ≡ true → NoneAcked (map asked_effect asked) → ⊥
some_acked [] i a within is acked none = absurd (omega arith)
some_acked (one ∷ asked) zero a within is acked none = let both : a.acked ≡ false = ap (λ (x : AskedEffect). x.acked) is ∙ none.0 in absurd (cc)
some_acked (one ∷ asked) (suc i) a within is acked none = some_acked asked i a (omega arith) is acked none.1

-- the front in front of all
pub first_front : (asked : List AskedEffect) (found es : List Entry) → es ≡ entries (map_behind asked 0) → NoneAcked (map asked_effect asked) × (found ≡ es) → IsGoodFront asked found 0
first_front asked found es is good = record { none = good.0; is = good.1 ∙ is }

-- a front that is tested
pub front_tested : (asked : List AskedEffect) (found es : List Entry) (n : ℕ) → es ≡ entries (map_behind asked n) → NoneAcked (map asked_effect (drop n asked)) × (found ≡ es) → IsGoodFront asked found n
front_tested asked found es n is good = record { none = good.0; is = good.1 ∙ is }

pub front_tells : (asked : List AskedEffect) (found es : List Entry) (n : ℕ) → es ≡ entries (map_behind asked n) → IsGoodFront asked found n → NoneAcked (map asked_effect (drop n asked)) × (found ≡ es)
front_tells asked found es n is good = (good.none, good.is ∙ sym is)

pub last_or_before : (n i : ℕ) → n ≤ i + 1 → (n ≤ i) ⊎ (n ≡ i + 1)
last_or_before zero i le = inl (omega arith)
last_or_before (suc n) zero le = inr (omega arith)
last_or_before (suc n) (suc i) le = elim (last_or_before n i (omega arith)) [ inl less ↦ inl (omega arith) | inr same ↦ inr (omega arith) ]

-- the effects after a place are all that are left
pub rest_is : {A : Type 0} (xs : List A) (n : ℕ) → take (length xs - n) (drop n xs) ≡ drop n xs
rest_is xs zero = take_all (length xs - 0) xs (omega arith)
rest_is [] (suc n) = take_all (0 - suc n) [] (omega arith)
rest_is (x ∷ xs) (suc n) = let same : suc (length xs) - suc n ≡ length xs - n = omega arith in ap (λ (k : ℕ). take k (drop n xs)) same ∙ rest_is xs n
