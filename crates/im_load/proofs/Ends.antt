-- Where a load ends: its entries as a map, and its pages under an empty log.
use Rattle.std.proofs.Common.{◌≡◌, ℕ, List, [], ◌∷◌, ◌++◌, Option, Some, refl, sym, ap, subst, ◌∙◌, append_assoc, append-nil, arith}
use Rattle.std.specs.FinMap.{empty, entries, entries-insert, len-entries, len-empty}
use Rattle.std.proofs.lemmas.List.{nil_from_length}
use Rattle.std.specs.Cmp.Lexicographic.{nat_list_cmp_total}
use Rattle.im_base_types.specs.Changes.{Put, Effect, apply, apply_all}
use Rattle.im_base_types.specs.Keys.{key_order, IsBelow}
use Rattle.im_base_types.specs.Maps.{with_key}
use Rattle.im_base_types.specs.Pages.{Entry, Page}
use Rattle.im_theory_log.specs.Stores.{StandsFor}
use Rattle.im_theory_log.proofs.Cited.{covers_base}
use Rattle.im_theory_page.specs.Entry.{Rises}
use Rattle.im_theory_page.proofs.Order.{below_trans}
use Rattle.im_theory_tree.specs.Good.{AllOf}
use Rattle.im_theory_tree.specs.Levels.{Pages}
use Rattle.im_theory_tree.specs.Theory.{page_tree}
use Rattle.im_theory_tree.proofs.Cited.{AllOf-append, AllOf-right, AllOf-from, Ascends, ascends_from_rises}
use Rattle.im_theory_tree.proofs.Ascent.{ascends-append, rises_from_ascends}
use Rattle.im_theory_tree.proofs.KeyLemmas.{put_behind}
use Rattle.im_load.specs.Edge.{IsAboveAll, Stands}
use Rattle.im_load.specs.Loaded.{puts_onto, load_effect, effects_of, loaded_base, unlogged}
use Rattle.im_load.specs.Laws.{LastIsEnough}

-- what stands before an entry of a rising list is below it
pub front_below : (front : List Entry) (e : Entry) (es : List Entry) → Ascends (front ++ e ∷ es) → IsAboveAll e.0 front
front_below [] e es up = tt
front_below (x ∷ front) e es up = ((AllOf-right (λ (y : Entry). IsBelow x.0 y.0) front (e ∷ es) up.0).0, front_below front e es up.1)

-- a key above all goes to the end
put_at_end : (front : List Entry) (e : Entry) → IsAboveAll e.0 front → with_key e.0 e.1 front ≡ front ++ e ∷ []
put_at_end front e top = ap (with_key e.0 e.1) (sym (append-nil front)) ∙ put_behind e.0 e.1 front [] top

entries_onto : (cs : Effect) (front es : List Entry) → entries (apply empty cs) ≡ front → Ascends (front ++ es) → entries (apply empty (puts_onto cs es)) ≡ front ++ es
entries_onto cs front [] is up = is ∙ sym (append-nil front)
entries_onto cs front (e ∷ es) is up =
    let one : entries (apply empty (Put e.0 e.1 ∷ cs)) ≡ front ++ e ∷ [] =
    entries-insert nat_list_cmp_total (apply empty cs) e.0 e.1 ∙ ap (with_key e.0 e.1) is ∙ put_at_end front e (front_below front e es up) in
    let same : (front ++ e ∷ []) ++ es ≡ front ++ e ∷ es = append_assoc front (e ∷ []) es in
    entries_onto (Put e.0 e.1 ∷ cs) (front ++ e ∷ []) es one (subst Ascends (sym same) up) ∙ same

empty_entries : entries {X = ℕ} {R = key_order} empty ≡ []
empty_entries = nil_from_length (entries {X = ℕ} {R = key_order} empty) (sym (len-entries {X = ℕ} {R = key_order} empty) ∙ len-empty key_order ℕ)

pub entries_are : (es : List Entry) → Rises es → entries (apply empty (load_effect es)) ≡ es
entries_are es rises = entries_onto [] [] es empty_entries (ascends_from_rises es rises)

effects_make : (es : List Entry) → apply_all empty (effects_of es) ≡ apply empty (load_effect es)
effects_make [] = refl
effects_make (e ∷ es) = refl

pub loaded_stands : (pages : Pages) (at : ℕ → ℕ) (es : List Entry) (start : ℕ) (file : ℕ → Option Page) → Stands pages at [] es → Rises es → ((p : ℕ) → file p ≡ Some (unlogged pages p))
    → StandsFor (loaded_base pages (apply empty (load_effect es)) start) page_tree [] file (effects_of es)
loaded_stands pages at es start file s rises is =
    let b = loaded_base pages (apply empty (load_effect es)) start in
    record {
      sound = record {
        lawful = record {
          lsns = λ p. omega arith;
          stands = record { good = s.good; walk = s.walks ∙ sym (entries_are es rises); named = omega arith };
        };
        covers = covers_base b file is;
      };
      earlier = effects_of es;
      map = effects_make es;
      is = sym (append-nil (effects_of es));
    }

-- rising entries, and one more above them
pub rises_with : (es : List Entry) (e : Entry) → Rises es → IsAboveAll e.0 es → Rises (es ++ e ∷ [])
rises_with es e rises top =
    rises_from_ascends (es ++ e ∷ []) (ascends-append es (e ∷ []) (ascends_from_rises es rises) (tt, tt)
    (AllOf-from (λ (x : Entry). IsBelow x.0 e.0) (λ (x : Entry). AllOf (λ (y : Entry). IsBelow x.0 y.0) (e ∷ [])) (λ x b. (b, tt)) es top))

pub last_enough : LastIsEnough
last_enough front last e rises below =
    let all = ascends_from_rises (front ++ last ∷ []) rises in
    let top : IsAboveAll e.0 (front ++ last ∷ []) =
    AllOf-append (λ (x : Entry). IsBelow x.0 e.0) front (last ∷ [])
    (AllOf-from (λ (x : Entry). IsBelow x.0 last.0) (λ (x : Entry). IsBelow x.0 e.0) (λ x b. below_trans x.0 last.0 e.0 b below) front (front_below front last [] all))
    (below, tt) in
    (top, rises_with (front ++ last ∷ []) e rises top)
