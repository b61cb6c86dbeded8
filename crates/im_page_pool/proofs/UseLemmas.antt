-- The frames by their use: which pages they hold, where one goes first, is taken, or is given back.
use Rattle.std.proofs.Common.{◌≡◌, ◌≢◌, ⊎_elim, ℕ, ◌+◌, ◌-◌, ◌*◌, ◌<◌, ◌≤◌, Bool, true, false, cond, ◌==◌, List, [], ◌∷◌, ◌++◌, length, take, nat_eq, slice_index, Option, Some, None, IsSome, Result, Ok, Err, IsOk, OnOk, refl, sym, ap, subst, ◌∙◌, arith}
use Rattle.std.proofs.lemmas.Bool.{cases_lt, cases_eq}
use Rattle.std.proofs.lemmas.Bool.Decides.{nat_tests}
use Rattle.std.proofs.lemmas.List.{length_push, length-take-le, take_more, take_all}
use Rattle.std.specs.Option.{option_flatten, option_map_or}
use Rattle.std.specs.Map.{keys_of, lookup, lookup_entry, remove_entry}
use Rattle.lru.specs.LruCache.{LruCache, lru_cache, promoted, put_entries}
use Rattle.im_page_pool.specs.Places.{PlacesView, times, taken_in, Finds, AreUnused, IsAll, GoTogether}
use Rattle.im_page_pool.proofs.PlaceLemmas.{length_remove_entry, length_promoted, times_push}
use Rattle.im_page_pool.proofs.EntryLemmas.{same, itself, differ, entry_found, lookup_others, lookup_nowhere, nowhere_from_none, times_removed}

abbrev pub Uses : Type 0
Uses = List (ℕ × Option ℕ)

-- the held pages, with a frame in front that has this page, if any
abbrev pub with_first : ℕ → Option ℕ → List (ℕ × ℕ) → List (ℕ × ℕ)
with_first f o es = option_map_or (λ p. (p, f) ∷ es) o es

-- ---- look-ups
-- a frame that a page has stands in the list
in_frames : (p f : ℕ) (es : Uses) → lookup (nat_eq p) (taken_in es) ≡ Some f → 1 ≤ times f (keys_of es)
in_frames p f [] s = absurd cc
in_frames p f (e ∷ es) s = (elim e.1 as (λ o. lookup (nat_eq p) (with_first e.0 o (taken_in es)) ≡ Some f → 1 ≤ times f (keys_of (e ∷ es))) [
  | None ↦ λ h. let i = in_frames p f es h in omega arith
  | Some q ↦ λ h. (elim (nat_eq p q) as (λ y. cond y (Some e.0) (lookup (nat_eq p) (taken_in es)) ≡ Some f → 1 ≤ times f (keys_of (e ∷ es))) [
    | true ↦ λ k. let v : e.0 ≡ f = cc in let t : (f == e.0) ≡ true = grind (arith, nat_tests) in rw t (omega arith)
    | false ↦ λ k. let i = in_frames p f es k in omega arith
  ]) h
]) s

-- a frame that comes later is not the first
not_first : (f : ℕ) (e : ℕ × Option ℕ) (es : Uses) → times f (keys_of (e ∷ es)) ≤ 1 → 1 ≤ times f (keys_of es) → nat_eq f e.0 ≡ false
not_first f e es once i = (elim (nat_eq f e.0) as (λ y. nat_eq f e.0 ≡ y → y ≡ false) [
  | true ↦ λ t. absurd (let k : (f == e.0) ≡ true = t in let o = rw k at once in omega arith)
  | false ↦ λ t. refl
]) refl

-- the frame of a page has that page
pub has_page : (p f : ℕ) (es : Uses) → ((g : ℕ) → times g (keys_of es) ≤ 1) → lookup (nat_eq p) (taken_in es) ≡ Some f → lookup (nat_eq f) es ≡ Some (Some p)
has_page p f [] once s = cc
has_page p f (e ∷ es) once s =
    let later : lookup (nat_eq p) (taken_in es) ≡ Some f → cond (nat_eq f e.0) (Some e.1) (lookup (nat_eq f) es) ≡ Some (Some p) =
    λ k. let d = not_first f e es (once f) (in_frames p f es k) in rw d (has_page p f es (λ g. let o = once g in omega arith) k) in
    (elim e.1 as (λ o. e.1 ≡ o → lookup (nat_eq p) (with_first e.0 o (taken_in es)) ≡ Some f → cond (nat_eq f e.0) (Some e.1) (lookup (nat_eq f) es) ≡ Some (Some p)) [
      | None ↦ λ t h. later h
      | Some q ↦ λ t h. (elim (nat_eq p q) as (λ y. nat_eq p q ≡ y → cond y (Some e.0) (lookup (nat_eq p) (taken_in es)) ≡ Some f → cond (nat_eq f e.0) (Some e.1) (lookup (nat_eq f) es) ≡ Some (Some p)) [
        | true ↦ λ u k. let v : e.0 ≡ f = cc in let i : nat_eq f e.0 ≡ true = grind (arith, nat_tests) in
            rw i (ap (λ (x : Option ℕ). Some x) t ∙ ap (λ (n : ℕ). Some (Some n)) (sym (same p q u)))
        | false ↦ λ u k. later k
      ]) refl h
    ]) refl s

-- without the frame of a page, that page is not held
pub taken_without : (p f : ℕ) (es : Uses) → lookup (nat_eq f) es ≡ Some (Some p) → lookup (nat_eq p) (taken_in es) ≡ Some f → taken_in (remove_entry (nat_eq f) es) ≡ remove_entry (nat_eq p) (taken_in es)
taken_without p f [] s h = refl
taken_without p f (e ∷ es) s h = (elim (nat_eq f e.0) as (λ y. nat_eq f e.0 ≡ y → cond y (Some e.1) (lookup (nat_eq f) es) ≡ Some (Some p) → taken_in (cond y es (e ∷ remove_entry (nat_eq f) es)) ≡ remove_entry (nat_eq p) (with_first e.0 e.1 (taken_in es))) [
  | true ↦ λ t k. let v : e.1 ≡ Some p = cc in rw v (let i = itself p in rw i refl)
  | false ↦ λ t k. (elim e.1 as (λ o. lookup (nat_eq p) (with_first e.0 o (taken_in es)) ≡ Some f → with_first e.0 o (taken_in (remove_entry (nat_eq f) es)) ≡ remove_entry (nat_eq p) (with_first e.0 o (taken_in es))) [
    | None ↦ λ l. taken_without p f es k l
    | Some q ↦ λ l. (elim (nat_eq p q) as (λ y. cond y (Some e.0) (lookup (nat_eq p) (taken_in es)) ≡ Some f → (q, e.0) ∷ taken_in (remove_entry (nat_eq f) es) ≡ cond y (taken_in es) ((q, e.0) ∷ remove_entry (nat_eq p) (taken_in es))) [
      | true ↦ λ m. absurd (let v : e.0 ≡ f = cc in let i : nat_eq f e.0 ≡ true = grind (arith, nat_tests) in cc)
      | false ↦ λ m. ap (λ (l : List (ℕ × ℕ)). (q, e.0) ∷ l) (taken_without p f es k m)
    ]) l
  ]) h
]) refl s

-- without a free frame, the same pages are held
pub taken_still : (f : ℕ) (es : Uses) → lookup (nat_eq f) es ≡ Some None → taken_in (remove_entry (nat_eq f) es) ≡ taken_in es
taken_still f [] s = refl
taken_still f (e ∷ es) s = (elim (nat_eq f e.0) as (λ y. cond y (Some e.1) (lookup (nat_eq f) es) ≡ Some None → taken_in (cond y es (e ∷ remove_entry (nat_eq f) es)) ≡ with_first e.0 e.1 (taken_in es)) [
  | true ↦ λ k. let v : e.1 ≡ None = cc in rw v refl
  | false ↦ λ k. (elim e.1 as (λ o. with_first e.0 o (taken_in (remove_entry (nat_eq f) es)) ≡ with_first e.0 o (taken_in es)) [
    | None ↦ taken_still f es k
    | Some q ↦ ap (λ (l : List (ℕ × ℕ)). (q, e.0) ∷ l) (taken_still f es k)
  ])
]) s

-- a frame more at the end
pub taken_push : (es : Uses) (f : ℕ) (o : Option ℕ) → taken_in (es ++ (f, o) ∷ []) ≡ taken_in es ++ with_first f o []
taken_push [] f o = refl
taken_push (e ∷ es) f o = (elim e.1 as (λ x. with_first e.0 x (taken_in (es ++ (f, o) ∷ [])) ≡ with_first e.0 x (taken_in es) ++ with_first f o []) [
  | None ↦ taken_push es f o
  | Some q ↦ ap (λ (l : List (ℕ × ℕ)). (q, e.0) ∷ l) (taken_push es f o)
])

-- ---- one frame goes first, with this page or none
abbrev pub front : ℕ → Option ℕ → Uses → Uses
front f w es = (f, w) ∷ remove_entry (nat_eq f) es

module _ (f : ℕ) (v : Option ℕ) (es : Uses) (there : lookup (nat_eq f) es ≡ Some v) where
  pub promoted_front : promoted (nat_eq f) es ≡ front f v es
  promoted_front = ap (λ (o : Option (ℕ × Option ℕ)). option_map_or (λ e. e ∷ remove_entry (nat_eq f) es) o es) (entry_found f es v there)

  pub once_front : (w : Option ℕ) → ((g : ℕ) → times g (keys_of es) ≤ 1) → (g : ℕ) → times g (keys_of (front f w es)) ≤ 1
  once_front w once g = let r = times_removed (nat_eq f) (λ e. e.0) g es (f, v) (entry_found f es v there) in let o = once g in omega arith

  pub length_front : (w : Option ℕ) → length (front f w es) ≡ length es
  length_front w = let l = length_remove_entry (nat_eq f) es v there in omega arith

  pub others_front : (w : Option ℕ) (g : ℕ) → g ≢ f → lookup (nat_eq g) (front f w es) ≡ lookup (nat_eq g) es
  others_front w g ne = let d = differ g f ne in rw d (lookup_others f g es ne)

pub put_front : (c : LruCache ℕ (Option ℕ)) (f : ℕ) (v w : Option ℕ) → lookup (nat_eq f) c.entries ≡ Some v → put_entries nat_eq c f w ≡ front f w c.entries
put_front c f v w there = ap (λ (o : Option (ℕ × Option ℕ)). option_map_or (λ e. (e.0, w) ∷ remove_entry (nat_eq f) c.entries) o ((f, w) ∷ take (c.cap - 1) c.entries)) (entry_found f c.entries v there)

pub on_gives : {T E P : Type 0} (r : Result T E) → IsOk r → OnOk r P → P
on_gives (Ok x) is p = p
on_gives (Err e) is p = absurd cc

-- a frame that is there is put without memory
pub put_gives : {E : Type 0} (c new : LruCache ℕ (Option ℕ)) (f : ℕ) (v w : Option ℕ) (r : Result (Option (Option ℕ)) E) → lookup (nat_eq f) c.entries ≡ Some v
    → (IsSome (lookup (nat_eq f) c.entries) → IsOk r) → OnOk r (new ≡ lru_cache (put_entries nat_eq c f w) c.cap) → new.entries ≡ front f w c.entries
put_gives c new f v w r there succeeds entries =
    ap (λ (d : LruCache ℕ (Option ℕ)). d.entries) (on_gives r (succeeds (subst (λ (o : Option (Option ℕ)). IsSome o) (sym there) refl)) entries) ∙ put_front c f v w there

pub option_none : (o : Option ℕ) → ((x : ℕ) → o ≡ Some x → ⊥) → o ≡ None
option_none None lacks = refl
option_none (Some x) lacks = absurd (lacks x refl)

-- ---- what goes together goes on so
module _ (es : Uses) (at : ℕ → Option (Option ℕ)) (room : ℕ) (free : List ℕ) (go : GoTogether es at room free) where
  module _ (p f : ℕ) (held : lookup (nat_eq p) (taken_in es) ≡ Some f) where
    pub page_of_frame : lookup (nat_eq f) es ≡ Some (Some p)
    page_of_frame = has_page p f es go.once held

    held_entry : lookup_entry (nat_eq p) (taken_in es) ≡ Some (p, f)
    held_entry = entry_found p (taken_in es) f held

    not_free : (g : ℕ) → 1 ≤ times g free → g ≢ f
    not_free g le e = absurd (let u = go.unused g le in let w : lookup (nat_eq g) es ≡ Some (Some p) = ap (λ (n : ℕ). lookup (nat_eq n) es) e ∙ page_of_frame in let x : Some None ≡ Some (Some p) = sym u ∙ w in cc)

    rest_lacks : times p (keys_of (remove_entry (nat_eq p) (taken_in es))) ≡ 0
    rest_lacks = let k = times_removed (nat_eq p) (λ e. e.0) p (taken_in es) (p, f) held_entry in let t : (p == p) ≡ true = grind (arith, nat_tests) in let k' = rw t at k in let m = go.numbers p in omega arith

    kept_numbers : (q : ℕ) → times q (keys_of (remove_entry (nat_eq p) (taken_in es))) ≤ 1
    kept_numbers q = let k = times_removed (nat_eq p) (λ e. e.0) q (taken_in es) (p, f) held_entry in let m = go.numbers q in omega arith

    -- the frame of a held page goes first
    pub taken_promoted : taken_in (promoted (nat_eq f) es) ≡ promoted (nat_eq p) (taken_in es)
    taken_promoted =
        ap taken_in (promoted_front f (Some p) es page_of_frame) ∙ ap (λ (l : List (ℕ × ℕ)). (p, f) ∷ l) (taken_without p f es page_of_frame held)
        ∙ sym (ap (λ (o : Option (ℕ × ℕ)). option_map_or (λ e. e ∷ remove_entry (nat_eq p) (taken_in es)) o (taken_in es)) held_entry)

    promoted_is : promoted (nat_eq p) (taken_in es) ≡ (p, f) ∷ remove_entry (nat_eq p) (taken_in es)
    promoted_is = ap (λ (o : Option (ℕ × ℕ)). option_map_or (λ e. e ∷ remove_entry (nat_eq p) (taken_in es)) o (taken_in es)) held_entry

    found_promoted : (q : ℕ) → lookup (nat_eq q) (promoted (nat_eq p) (taken_in es)) ≡ lookup (nat_eq q) (taken_in es)
    found_promoted q = ap (lookup (nat_eq q)) promoted_is ∙ ⊎_elim
        (λ (e : q ≡ p). subst (λ (r : ℕ). cond (nat_eq r p) (Some f) (lookup (nat_eq r) (remove_entry (nat_eq p) (taken_in es))) ≡ lookup (nat_eq r) (taken_in es)) (sym e)
        (let t = itself p in rw t (sym held)))
        (λ (ne : q ≢ p). let t = differ q p ne in rw t (lookup_others p q (taken_in es) ne))
        (cases_eq q p)

    pub go_promoted : GoTogether (promoted (nat_eq f) es) at room free
    go_promoted =
        let first = promoted_front f (Some p) es page_of_frame in
        let len = ap length first ∙ length_front f (Some p) es page_of_frame (Some p) in
        record {
          some = let s = go.some in omega arith;
          once = λ g. let o = once_front f (Some p) es page_of_frame (Some p) go.once g in let e = ap (λ (l : Uses). times g (keys_of l)) first in omega arith;
          numbers = λ q. let e = ap (λ (l : List (ℕ × ℕ)). times q (keys_of l)) (taken_promoted ∙ promoted_is) in let k = times_removed (nat_eq p) (λ e. e.0) q (taken_in es) (p, f) held_entry in let m = go.numbers q in omega arith;
          unused = λ g le. ap (lookup (nat_eq g)) first ∙ others_front f (Some p) es page_of_frame (Some p) g (not_free g le) ∙ go.unused g le;
          apart = go.apart;
          all = let a = go.all in let b = ap length taken_promoted in let l = length_promoted (nat_eq p) (taken_in es) in omega arith;
          found = λ q. go.found q ∙ sym (found_promoted q) ∙ ap (lookup (nat_eq q)) (sym taken_promoted);
          room = let r = go.room in omega arith;
        }

    pub keeps_promoted : (new : Uses) (cap : ℕ) → new ≡ promoted (nat_eq f) es → length es ≤ cap → GoTogether new at room free × (length new ≤ cap)
    keeps_promoted new cap is le = (
      subst (λ (l : Uses). GoTogether l at room free) (sym is) go_promoted,
      let l = ap length is ∙ length_promoted (nat_eq f) es in omega arith,
    )

    -- it is given back
    pub taken_given : taken_in (front f None es) ≡ remove_entry (nat_eq p) (taken_in es)
    taken_given = taken_without p f es page_of_frame held

    none_there : (q : ℕ) (now : ℕ → Option (Option ℕ)) → now q ≡ cond (nat_eq p q) (Some None) (at q) → option_flatten (now q) ≡ lookup (nat_eq q) (remove_entry (nat_eq p) (taken_in es))
    none_there q now is = ap option_flatten is ∙ ⊎_elim
        (λ (e : q ≡ p). subst (λ (r : ℕ). option_flatten (cond (nat_eq p r) (Some None) (at r)) ≡ lookup (nat_eq r) (remove_entry (nat_eq p) (taken_in es))) (sym e)
        (let t = itself p in rw t (sym (lookup_nowhere p (remove_entry (nat_eq p) (taken_in es)) rest_lacks))))
        (λ (ne : q ≢ p). let t = differ p q (λ (b : p ≡ q). ne (sym b)) in rw t (go.found q ∙ sym (lookup_others p q (taken_in es) ne)))
        (cases_eq q p)

    pub go_given : (now : ℕ → Option (Option ℕ)) (new : ℕ) (after : List ℕ) → ((q : ℕ) → now q ≡ cond (nat_eq p q) (Some None) (at q)) → new ≡ room → after ≡ free ++ f ∷ [] → GoTogether (front f None es) now new after
    go_given now new after is still pushed =
        let len = length_front f (Some p) es page_of_frame None in
        let sum : (g : ℕ) → times g after ≡ times g free + cond (g == f) 1 0 = λ g. ap (times g) pushed ∙ times_push g f free in
        record {
          some = let s = go.some in omega arith;
          once = once_front f (Some p) es page_of_frame None go.once;
          numbers = λ q. let e = ap (λ (l : List (ℕ × ℕ)). times q (keys_of l)) taken_given in let k = kept_numbers q in omega arith;
          unused = λ g le. ⊎_elim
              (λ (e : g ≡ f). subst (λ (r : ℕ). cond (nat_eq r f) (Some None) (lookup (nat_eq r) (remove_entry (nat_eq f) es)) ≡ Some None) (sym e) (let t = itself f in rw t refl))
              (λ (ne : g ≢ f). others_front f (Some p) es page_of_frame None g ne ∙ go.unused g (let s = sum g in let t : (g == f) ≡ false = differ g f ne in let s' = rw t at s in omega arith))
              (cases_eq g f);
          apart = λ g. ⊎_elim
              (λ (e : g ≡ f). let s = sum g in let t : (g == f) ≡ true = grind (arith, nat_tests) in let s' = rw t at s in
              ⊎_elim (λ (lt : times g free < 1). omega arith) (λ (le : 1 ≤ times g free). absurd (not_free g le e)) (cases_lt (times g free) 1))
              (λ (ne : g ≢ f). let s = sum g in let t : (g == f) ≡ false = differ g f ne in let s' = rw t at s in let a = go.apart g in omega arith)
              (cases_eq g f);
          all = let a = go.all in let b = ap length taken_given in let l = length_remove_entry (nat_eq p) (taken_in es) f held in let d = ap length pushed ∙ length_push free f in omega arith;
          found = λ q. none_there q now (is q) ∙ ap (lookup (nat_eq q)) (sym taken_given);
          room = let r = go.room in omega arith;
        }

    pub keeps_given : (new : Uses) (now : ℕ → Option (Option ℕ)) (places : ℕ) (after : List ℕ) (cap : ℕ) → new ≡ front f None es → ((q : ℕ) → now q ≡ cond (nat_eq p q) (Some None) (at q)) → places ≡ room
        → after ≡ free ++ f ∷ [] → length es ≤ cap → GoTogether new now places after × (length new ≤ cap)
    keeps_given new now places after cap is set still pushed le = (
      subst (λ (l : Uses). GoTogether l now places after) (sym is) (go_given now places after set still pushed),
      let l = ap length is ∙ length_front f (Some p) es page_of_frame None in omega arith,
    )

    -- there was room for it among the free ones
    pub free_room : length free < length es
    free_room = let a = go.all in let l = length_remove_entry (nat_eq p) (taken_in es) f held in omega arith

  -- a free frame is taken for a page that is not held
  module _ (p f : ℕ) (absent : lookup (nat_eq p) (taken_in es) ≡ None) (some : 0 < length free) (is_next : f ≡ slice_index free (length free - 1)) where
    split : free ≡ take (length free - 1) free ++ f ∷ []
    split =
        let e : length free - 1 + 1 ≡ length free = omega arith in
        sym (take_all (length free) free (omega arith)) ∙ sym (ap (λ (k : ℕ). take k free) e) ∙ take_more free (length free - 1) 0 (omega arith) ∙ ap (λ (k : ℕ). take (length free - 1) free ++ k ∷ []) (sym is_next)

    stood : (g : ℕ) → times g free ≡ times g (take (length free - 1) free) + cond (g == f) 1 0
    stood g = ap (times g) split ∙ times_push g f (take (length free - 1) free)

    pub next_unused : lookup (nat_eq f) es ≡ Some None
    next_unused = go.unused f (let s = stood f in let t : (f == f) ≡ true = grind (arith, nat_tests) in let s' = rw t at s in omega arith)

    pub taken_next : taken_in (front f (Some p) es) ≡ (p, f) ∷ taken_in es
    taken_next = ap (λ (l : List (ℕ × ℕ)). (p, f) ∷ l) (taken_still f es next_unused)

    pub go_taken : (now : ℕ → Option (Option ℕ)) (new : ℕ) (after : List ℕ) → Finds now ((p, f) ∷ taken_in es) → 2 * length es ≤ new → after ≡ take (length free - 1) free → GoTogether (front f (Some p) es) now new after
    go_taken now new after finds roomy rest =
        let len = length_front f None es next_unused (Some p) in
        let still : (g : ℕ) → times g after ≡ times g (take (length free - 1) free) = λ g. ap (times g) rest in
        record {
          some = let s = go.some in omega arith;
          once = once_front f None es next_unused (Some p) go.once;
          numbers = λ q. let y = ap (λ (l : List (ℕ × ℕ)). times q (keys_of l)) (taken_still f es next_unused) in let m = go.numbers q in ⊎_elim
              (λ (e : q ≡ p). let t : (q == p) ≡ true = grind (arith, nat_tests) in let z = nowhere_from_none p (taken_in es) absent in let z' = ap (λ (r : ℕ). times r (keys_of (taken_in es))) e in rw t (omega arith))
              (λ (ne : q ≢ p). let t : (q == p) ≡ false = differ q p ne in rw t (omega arith))
              (cases_eq q p);
          unused = λ g le. ⊎_elim
              (λ (e : g ≡ f). absurd (let s = stood g in let t : (g == f) ≡ true = grind (arith, nat_tests) in let s' = rw t at s in let a = go.apart g in let w = still g in omega arith))
              (λ (ne : g ≢ f). others_front f None es next_unused (Some p) g ne ∙ go.unused g (let s = stood g in let w = still g in omega arith))
              (cases_eq g f);
          apart = λ g. let s = stood g in let a = go.apart g in let w = still g in omega arith;
          all = let a = go.all in let b = ap length taken_next in let l = ap length rest ∙ length-take-le (length free - 1) free (omega arith) in omega arith;
          found = λ q. finds q ∙ ap (lookup (nat_eq q)) (sym taken_next);
          room = omega arith;
        }

    pub keeps_taken : (new : Uses) (now : ℕ → Option (Option ℕ)) (places : ℕ) (after : List ℕ) (cap : ℕ) → new ≡ front f (Some p) es → Finds now ((p, f) ∷ taken_in es) → 2 * length es ≤ places
        → after ≡ take (length free - 1) free → length es ≤ cap → GoTogether new now places after × (length new ≤ cap)
    keeps_taken new now places after cap is finds roomy rest le = (
      subst (λ (l : Uses). GoTogether l now places after) (sym is) (go_taken now places after finds roomy rest),
      let l = ap length is ∙ length_front f None es next_unused (Some p) in omega arith,
    )

-- what contracts see
abbrev pub shown : List (ℕ × ℕ) → List ℕ → PlacesView
shown taken free = record { taken = taken; free = free }

-- ---- at first
at_most_one : (y : Bool) → cond y 1 0 ≤ 1
at_most_one true = omega arith
at_most_one false = omega arith

pub unused_none : AreUnused 0 []
unused_none = record { len = refl; none = λ f lt. absurd (omega arith); once = λ f. omega arith; never = λ f le. refl; taken = refl }

pub unused_push : (n : ℕ) (es new : Uses) → AreUnused n es → new ≡ (n, None) ∷ es → AreUnused (n + 1) new
unused_push n es new u is = record {
  len = let l = u.len in let e = ap length is in omega arith;
  none = λ f lt. ap (lookup (nat_eq f)) is ∙ ⊎_elim
      (λ (low : f < n). let t : nat_eq f n ≡ false = grind (arith, nat_tests) in rw t (u.none f low))
      (λ (high : n ≤ f). let t : nat_eq f n ≡ true = grind (arith, nat_tests) in rw t refl)
      (cases_lt f n);
  once = λ f. let e = ap (λ (l : Uses). times f (keys_of l)) is in let o = u.once f in ⊎_elim
      (λ (low : f < n). let t : (f == n) ≡ false = grind (arith, nat_tests) in let e' = rw t at e in omega arith)
      (λ (high : n ≤ f). let z = u.never f high in let b : cond (f == n) 1 0 ≤ 1 = at_most_one (f == n) in omega arith)
      (cases_lt f n);
  never = λ f le. let e = ap (λ (l : Uses). times f (keys_of l)) is in let t : (f == n) ≡ false = grind (arith, nat_tests) in let e' = rw t at e in let z = u.never f (omega arith) in omega arith;
  taken = ap taken_in is ∙ u.taken;
}

-- all free
pub go_first : (n : ℕ) (es : Uses) (at : ℕ → Option (Option ℕ)) (room : ℕ) (free : List ℕ) → 1 ≤ n → AreUnused n es → IsAll n free → ((q : ℕ) → at q ≡ None) → 2 * n ≤ room → GoTogether es at room free
go_first n es at room free some u all none roomy = record {
  some = let l = u.len in omega arith;
  once = u.once;
  numbers = λ p. let e = ap (λ (l : List (ℕ × ℕ)). times p (keys_of l)) u.taken in omega arith;
  unused = λ f le. ⊎_elim (λ (low : f < n). u.none f low) (λ (high : n ≤ f). absurd (let z = all.never f high in omega arith)) (cases_lt f n);
  apart = λ f. ⊎_elim (λ (low : f < n). let z = all.once f low in omega arith) (λ (high : n ≤ f). let z = all.never f high in omega arith) (cases_lt f n);
  all = let l = u.len in let k = all.len in let t = ap length u.taken in omega arith;
  found = λ q. ap option_flatten (none q) ∙ sym (ap (lookup (nat_eq q)) u.taken);
  room = let l = u.len in omega arith;
}
