-- From a place on a key's way to the next.
use Rattle.std.proofs.Common.{◌≡◌, ◌⊎◌, ℕ, zero, suc, ◌+◌, ◌≤◌, ◌<◌, Bool, true, false, List, [], ◌∷◌, length, drop, Some, None, refl, sym, ap, subst, ◌∙◌, inl, inr, ⊎_elim, arith, rules}
use Rattle.std.proofs.lemmas.Bool.{cases_lt, cases_Bool}
use Rattle.std.specs.Bool.{IsTrue}
use Rattle.im_base_types.specs.Keys.{Key, IsBelow}
use Rattle.im_base_types.specs.Pages.{Entry, Body}
use Rattle.im_theory_page.specs.Entry.{entry_at, taken, size, width, Rises}
use Rattle.im_theory_page.specs.Child.{StartAbove, IsChild}
use Rattle.im_theory_page.specs.Page.{is_leaf_kind}
use Rattle.im_theory_page.proofs.Order.{below_trans, below_irrefl}
use Rattle.im_theory_tree.specs.Levels.{Pages, height}
use Rattle.im_theory_tree.specs.Good.{IsGoodTree}
use Rattle.im_theory_tree.specs.Search.{IsOnWay}
use Rattle.im_theory_tree.specs.KeySplits.{is_leaf_level}
use Rattle.im_theory_tree.proofs.Way.{step_way, way_begins}
use Rattle.im_tree_search.specs.Levels.{kind_at}
use Rattle.im_smo_split.specs.declared.top.Top.{Top}
use Rattle.im_smo_split.specs.PendingSplits.{PassesUp, SplitsDown}
use Rattle.im_smo_split.specs.Paths.{OnPath, separator, IsPath, fits_page, pages_taken, new_pages}
use Rattle.im_smo_split.specs.Readings.{HasUp, IsRoom}
use Rattle.im_smo_split.specs.Tops.{IsPlaced, IsFound}

-- ---- one child

start_at : (key : Key) (j : ℕ) (es : List Entry) → StartAbove key (drop j es) → j < length es → IsBelow key (entry_at es j).0
start_at key j [] h lt = absurd (omega (arith, lt))
start_at key zero (e ∷ es) h lt = h
start_at key (suc j) (e ∷ es) h lt = start_at key j es h (omega (arith, lt))

-- a key that an entry reaches is not below one that stands at or before that
not_before : (es : List Entry) (key : Key) (i n : ℕ) → Rises es → i < length es → ((entry_at es i).0 ≡ key) ⊎ IsBelow (entry_at es i).0 key → IsBelow key (entry_at es n).0 → n ≤ i → ⊥
not_before es key i n rises lt reached below le =
    let over : IsBelow key (entry_at es i).0 =
    ⊎_elim (λ (x : n < i). below_trans key (entry_at es n).0 (entry_at es i).0 below (rises n i x lt))
    (λ (x : i ≤ n). let same : n ≡ i = omega (arith, x, le) in subst (λ (k : ℕ). IsBelow key (entry_at es k).0) same below)
    (cases_lt n i) in
    ⊎_elim (λ (e : (entry_at es i).0 ≡ key). below_irrefl key (subst (λ (k : Key). IsBelow key k) e over))
    (λ (l : IsBelow (entry_at es i).0 key). below_irrefl key (below_trans key (entry_at es i).0 key over l)) reached

abbrev Leftmost : Body → Key → ℕ → Type 0
Leftmost b key c = (c ≡ b.leftmost) × StartAbove key b.entries

abbrev OfEntry : Body → Key → ℕ → Type 0
OfEntry b key c = (i : ℕ) × (i < length b.entries) × (c ≡ (entry_at b.entries i).1) × (((entry_at b.entries i).0 ≡ key) ⊎ IsBelow (entry_at b.entries i).0 key) × StartAbove key (drop (i + 1) b.entries)

not_both : (b : Body) (key : Key) (c d : ℕ) → Rises b.entries → Leftmost b key c → OfEntry b key d → ⊥
not_both b key c d rises x y = not_before b.entries key y.0 0 rises y.1 y.3 (start_at key 0 b.entries x.1 (omega (arith, y.1))) (omega arith)

not_less : (b : Body) (key : Key) (c d : ℕ) → Rises b.entries → (x : OfEntry b key c) → (y : OfEntry b key d) → x.0 < y.0 → ⊥
not_less b key c d rises x y lt = not_before b.entries key y.0 (x.0 + 1) rises y.1 y.3 (start_at key (x.0 + 1) b.entries x.4 (omega (arith, lt, y.1))) (omega (arith, lt))

pub one_child : (b : Body) (key : Key) (c d : ℕ) → Rises b.entries → IsChild b key c → IsChild b key d → c ≡ d
one_child b key c d rises one two =
    ⊎_elim
    (λ (x : Leftmost b key c). ⊎_elim (λ (y : Leftmost b key d). x.0 ∙ sym y.0) (λ (y : OfEntry b key d). absurd (not_both b key c d rises x y)) two)
    (λ (x : OfEntry b key c).
    ⊎_elim
    (λ (y : Leftmost b key d). absurd (not_both b key d c rises y x))
    (λ (y : OfEntry b key d).
    let same : x.0 ≡ y.0 = ⊎_elim (λ (l : x.0 < y.0). absurd (not_less b key c d rises x y l))
    (λ (l : y.0 ≤ x.0). ⊎_elim (λ (m : y.0 < x.0). absurd (not_less b key d c rises y x m)) (λ (m : x.0 ≤ y.0). let e : x.0 ≡ y.0 = omega (arith, l, m) in e) (cases_lt y.0 x.0)) (cases_lt x.0 y.0) in
    x.2 ∙ ap (λ (i : ℕ). (entry_at b.entries i).1) same ∙ sym y.2)
    two)
    one

-- ---- leaves stand at level 0

pub leaf_at : (k : ℕ) → is_leaf_kind (kind_at k) ≡ is_leaf_level k
leaf_at zero = refl
leaf_at (suc k) = search rules

-- ---- a step down

-- the separator of c fits into page p
module _ {dense : Bool} (pages : Pages) (key : Key) (k p c bytes : ℕ) (t : Top) (r : Bool) (good : IsGoodTree pages []) (was : IsPlaced dense pages key (suc k) p t) (child : IsChild (pages p) key c)
    (up : HasUp dense (is_leaf_level k) (pages c) bytes) (room : IsRoom false (pages p) bytes r) where
  abbrev next : OnPath
  next = record { page = c; point = up.point }

  goes : IsOnWay pages k key c
  goes = step_way pages k key p c was.way child

  path_down : IsPath dense pages key k (next ∷ was.here ∷ was.above)
  path_down = (up.at, subst (λ (x : ℕ). IsChild (pages x) key c) (sym was.page) child, was.path)

  size_is : size false (separator pages next, 0) ≡ 1 + bytes + width false
  size_is = let e : length (separator pages next) ≡ bytes = sym up.bytes_are in omega (arith, e)

  pub placed_under : r ≡ true → IsPlaced dense pages key k c (record { level = k; page = c; parent = p; root = false; pages = 1 })
  placed_under fitting =
      let le : taken false (pages p).entries + (1 + bytes + width false + 2) ≤ 4064 = room.tells.0 (search (rules, fitting)) in
      let le_up : taken false (pages p).entries + (size false (separator pages next, 0) + 2) ≤ 4064 = omega (arith, le, size_is) in
      record {
        way = goes;
        here = next;
        above = was.here ∷ was.above;
        page = refl;
        path = path_down;
        count = taken_one (subst (λ (x : ℕ). taken false (pages x).entries + (size false (separator pages next, 0) + 2) ≤ 4064) (sym was.page) le_up);
        splits = λ splits. record {
          root = λ clash. absurd (cc clash);
          under = λ none. record {
            good = good;
            way = was.way;
            child = child;
            rises = room.rises;
            point = up.point;
            at = up.at;
            room = le_up;
            splits = splits;
          };
        };
      }
    where
      taken_one : taken false (pages was.here.page).entries + (size false (separator pages next, 0) + 2) ≤ 4064 → 1 ≡ pages_taken pages (next ∷ was.here ∷ was.above)
      taken_one le = grind (arith, le)

  pub placed_over : r ≡ false → IsPlaced dense pages key k c (record t { pages = t.pages + 1 })
  placed_over full =
      let more : 4064 < taken false (pages p).entries + (1 + bytes + width false + 2) = over (cases_lt 4064 (taken false (pages p).entries + (1 + bytes + width false + 2))) in
      let more_up : 4064 < taken false (pages p).entries + (size false (separator pages next, 0) + 2) = omega (arith, more, size_is) in
      record {
        way = goes;
        here = next;
        above = was.here ∷ was.above;
        page = refl;
        path = path_down;
        count = taken_more (subst (λ (x : ℕ). 4064 < taken false (pages x).entries + (size false (separator pages next, 0) + 2)) (sym was.page) more_up);
        splits = λ splits.
            let top = was.splits (λ d other.
            subst (λ (x : ℕ). PassesUp dense pages (is_leaf_level k) x p × SplitsDown dense pages key k x) (one_child (pages p) key c d room.rises child other)
            (record { point = up.point; at = up.at; lacks = record { key = omega (arith, up.short, up.bytes_are); more = more_up } }, splits)) in
            record { root = top.root; under = top.under };
      }
    where
      over : (4064 < taken false (pages p).entries + (1 + bytes + width false + 2)) ⊎ (taken false (pages p).entries + (1 + bytes + width false + 2) ≤ 4064) → 4064 < taken false (pages p).entries + (1 + bytes + width false + 2)
      over (inl lt) = lt
      over (inr le) = let fitting : IsTrue r = room.tells.1 le in absurd (let never : ⊥ = search (rules, fitting, full) in never)

      taken_more : 4064 < taken false (pages was.here.page).entries + (size false (separator pages next, 0) + 2) → t.pages + 1 ≡ pages_taken pages (next ∷ was.here ∷ was.above)
      taken_more lt = grind (arith, lt, was.count)

  pub placed : (level number : ℕ) (top : Top) → level ≡ k → number ≡ c → (r ≡ true → top ≡ record { level = level; page = c; parent = p; root = false; pages = 1 }) → (r ≡ false → top ≡ record t { pages = t.pages + 1 })
      → IsPlaced dense pages key level number top
  placed level number top is_level is_number if_fits if_full =
      elim (cases_Bool r) [
        | inl fits_page ↦
            subst (λ (x : ℕ). IsPlaced dense pages key x number top) (sym is_level)
            (subst (λ (x : ℕ). IsPlaced dense pages key k x top) (sym is_number)
            (subst (IsPlaced dense pages key k c) (sym (if_fits fits_page ∙ ap (λ (x : ℕ). record { level = x; page = c; parent = p; root = false; pages = 1 }) is_level)) (placed_under fits_page)))
        | inr over ↦
            subst (λ (x : ℕ). IsPlaced dense pages key x number top) (sym is_level)
            (subst (λ (x : ℕ). IsPlaced dense pages key k x top) (sym is_number) (subst (IsPlaced dense pages key k c) (sym (if_full over)) (placed_over over)))
      ]

-- ---- the root and the leaf

pub root_placed : {dense : Bool} (pages : Pages) (key : Key) (h : ℕ) → IsGoodTree pages [] → h ≡ height pages
    → IsPlaced dense pages key h 1 (record { level = h; page = 1; parent = 0; root = true; pages = 2 })
root_placed pages key h good is = record {
  way = subst (λ (x : ℕ). IsOnWay pages x key 1) (sym is) (way_begins pages [] key good);
  here = record { page = 1; point = 0 };
  above = [];
  page = refl;
  path = (refl, sym is);
  count = refl;
  splits = λ splits. record {
    root = λ same. record { good = good; tall = sym is; splits = splits };
    under = λ clash. absurd (cc clash);
  };
}

module _ {dense : Bool} (pages : Pages) (key : Key) (p : ℕ) (t : Top) (r : Bool) (was : IsPlaced dense pages key zero p t) (room : IsRoom true (pages p) (length key) r) where
  leaf_fits : IsTrue r → taken true (pages p).entries + (size true (key, 0) + 2) ≤ 4064
  leaf_fits fitting = let le : taken true (pages p).entries + (1 + length key + width true + 2) ≤ 4064 = room.tells.0 fitting in le

  pub found_room : r ≡ true → IsFound dense pages key None
  found_room fitting =
      let le : taken true (pages p).entries + (size true (key, 0) + 2) ≤ 4064 = leaf_fits (search (rules, fitting)) in
      record {
        path = was.here ∷ was.above;
        is_path = was.path;
        room = λ none. (record { page = p; way = was.way; room = le }, no_pages (subst (λ (x : ℕ). taken true (pages x).entries + (size true (key, 0) + 2) ≤ 4064) (sym was.page) le));
        splits = tt;
      }
    where
      no_pages : taken true (pages was.here.page).entries + (size true (key, 0) + 2) ≤ 4064 → new_pages pages key (was.here ∷ was.above) ≡ 0
      no_pages le = grind (arith, le)

  pub found_top : r ≡ false → length key ≤ 255 → IsFound dense pages key (Some t)
  found_top full short =
      let more : 4064 < taken true (pages p).entries + (size true (key, 0) + 2) = over (cases_lt 4064 (taken true (pages p).entries + (size true (key, 0) + 2))) in
      record {
        path = was.here ∷ was.above;
        is_path = was.path;
        room = λ clash. absurd (cc clash);
        splits = (
          was.splits (record { key = short; more = more }),
          was.count ∙ sym (all_pages (subst (λ (x : ℕ). 4064 < taken true (pages x).entries + (size true (key, 0) + 2)) (sym was.page) more)),
          record { page = p; way = was.way; lacks = λ le. omega (arith, le, more) },
        );
      }
    where
      over : (4064 < taken true (pages p).entries + (size true (key, 0) + 2)) ⊎ (taken true (pages p).entries + (size true (key, 0) + 2) ≤ 4064) → 4064 < taken true (pages p).entries + (size true (key, 0) + 2)
      over (inl lt) = lt
      over (inr le) = let fitting : IsTrue r = room.tells.1 le in absurd (let never : ⊥ = search (rules, fitting, full) in never)

      all_pages : 4064 < taken true (pages was.here.page).entries + (size true (key, 0) + 2) → new_pages pages key (was.here ∷ was.above) ≡ pages_taken pages (was.here ∷ was.above)
      all_pages lt = grind (arith, lt)
