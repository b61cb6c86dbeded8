-- The root is closed: page 1 stands over it and what comes after.
use Rattle.std.proofs.Common.{◌≡◌, ◌≢◌, ◌⊎◌, ℕ, zero, suc, ◌<◌, ◌≤◌, true, List, [], ◌∷◌, ◌++◌, length, length-append, refl, sym, ◌∙◌, ap, subst, arith, ⊎_elim, inl, inr}
use Rattle.std.specs.Prelude.{set}
use Rattle.std.proofs.lemmas.Bool.{cases_eq}
use Rattle.std.proofs.lemmas.List.{get_or_append_left, get_or_push, length-set}
use Rattle.im_base_types.specs.Keys.{Key}
use Rattle.im_base_types.specs.Pages.{Entry, Body}
use Rattle.im_base_types.specs.declared.page_kind.PageKind.TheVariants.{Inner}
use Rattle.im_theory_page.specs.Header.{initial, leaf_body}
use Rattle.im_theory_page.specs.Split.{LacksRoom}
use Rattle.im_theory_tree.specs.Levels.{Pages, height}
use Rattle.im_load.specs.Edge.{risen, IsAboveAll}
use Rattle.im_load.specs.Loaded.{unlogged}
use Rattle.im_load.specs.Steps.{with_entry_last, one_page_more, inner_page, root_over, RaisesLeaf, RaisesInner}
use Rattle.im_load.proofs.Edges.{Apart}
use Rattle.im_load.proofs.Roots.{risen_top, risen_here, risen_low}
use Rattle.im_load.proofs.Closings.{steps_kept}
use Rattle.im_load.proofs.Fills.{steps_filled}
use Rattle.im_load.proofs.Ends.{rises_with}
use Rattle.im_load.specs.Files.{WritesPageAt}
use Rattle.im_load.specs.Held.{Numbered, with_new_body, held_page}
use Rattle.im_load.specs.Loading.{HasFinal, IsPlainInner, Holds, IsHeldAt, HasTakenAll, Pending}
use Rattle.im_load.proofs.Holdings.{four, four_a, four_b, four_c, four_d, four_off, apart_of, set_here, set_off, low_at, held_as, plain_new, final_more}

-- ---- a leaf

module _ (leaf after : Numbered) (count : ℕ) (tells : Type 0) (old file : List ℕ) (es : List Entry) (e : Entry) (t : HasTakenAll leaf [] count tells old es) (top : IsAboveAll e.0 es)
    (full : LacksRoom true leaf.1.body.entries) (begun : after ≡ (suc count, record { lsn = 0; body = leaf_body count 0 (e ∷ []) }))
    (written : tells → WritesPageAt old file count (with_new_body leaf.1 (record leaf.1.body { next = suc count }))) where
  abbrev pages : Pages
  pages = t.pages

  abbrev at : ℕ → ℕ
  at = t.at

  abbrev h : Holds t.pages t.at leaf [] count tells old es
  h = t.holds

  at_root : at 0 ≡ 1
  at_root = ap at (sym h.tall) ∙ h.stands.edge.root

  counted_is : (pages 0).leftmost ≡ count
  counted_is = ap (λ (b : Body). b.leftmost) h.meta

  low : 1 < count
  low = let at_low = low_at pages at count 0 (apart_of pages at es h.stands) counted_is (omega arith) in omega (arith, at_low, at_root)

  abbrev new : Pages
  new = four pages 0 (one_page_more (one_page_more (pages 0))) 1 (inner_page 1 count ((e.0, suc count) ∷ [])) (suc count) (leaf_body count 0 (e ∷ [])) count (record (pages 1) { next = suc count })

  new_meta : new 0 ≡ one_page_more (one_page_more (pages 0))
  new_meta = four_a pages 0 (one_page_more (one_page_more (pages 0))) 1 (inner_page 1 count ((e.0, suc count) ∷ [])) (suc count) (leaf_body count 0 (e ∷ [])) count (record (pages 1) { next = suc count })
      (λ z. absurd (omega (arith, z))) (λ z. absurd (omega (arith, z))) (λ z. absurd (omega (arith, z, low)))

  new_root : new 1 ≡ inner_page 1 count ((e.0, suc count) ∷ [])
  new_root = four_b pages 0 (one_page_more (one_page_more (pages 0))) 1 (inner_page 1 count ((e.0, suc count) ∷ [])) (suc count) (leaf_body count 0 (e ∷ [])) count (record (pages 1) { next = suc count })
      (λ z. absurd (omega (arith, z, low))) (λ z. absurd (omega (arith, z, low)))

  new_leaf : new (suc count) ≡ leaf_body count 0 (e ∷ [])
  new_leaf = four_c pages 0 (one_page_more (one_page_more (pages 0))) 1 (inner_page 1 count ((e.0, suc count) ∷ [])) (suc count) (leaf_body count 0 (e ∷ [])) count (record (pages 1) { next = suc count })
      (λ z. absurd (omega (arith, z)))

  new_closed : new count ≡ record (pages 1) { next = suc count }
  new_closed = four_d pages 0 (one_page_more (one_page_more (pages 0))) 1 (inner_page 1 count ((e.0, suc count) ∷ [])) (suc count) (leaf_body count 0 (e ∷ [])) count (record (pages 1) { next = suc count })

  new_off : (y : ℕ) → y ≢ 0 → y ≢ 1 → y ≢ count → y ≢ suc count → new y ≡ pages y
  new_off y y0 y1 yl yr =
      four_off pages 0 (one_page_more (one_page_more (pages 0))) 1 (inner_page 1 count ((e.0, suc count) ∷ [])) (suc count) (leaf_body count 0 (e ∷ [])) count (record (pages 1) { next = suc count }) y y0 y1 yr yl

  abbrev edge : ℕ → ℕ
  edge = risen at 0 (suc count)

  abbrev root : Numbered
  root = (1, record { lsn = 0; body = inner_page 1 count ((e.0, suc count) ∷ []) })

  plain_at : (k : ℕ) → k < 1 → IsPlainInner (new (edge (suc k)))
  plain_at zero lt = subst (λ n. IsPlainInner (new n)) (sym (risen_top at 0 (suc count))) (plain_new (new 1) 1 count ((e.0, suc count) ∷ []) new_root)
  plain_at (suc k) lt = absurd (omega (arith, lt))

  above_at : (k : ℕ) → k < 1 → IsHeldAt new edge (root ∷ []) k
  above_at zero lt = held_as new 1 (edge 1) (inner_page 1 count ((e.0, suc count) ∷ [])) new_root (risen_top at 0 (suc count))
  above_at (suc k) lt = absurd (omega (arith, lt))

  closed_page : with_new_body leaf.1 (record leaf.1.body { next = suc count }) ≡ unlogged new count
  closed_page =
      ap (λ (l : Numbered). with_new_body l.1 (record l.1.body { next = suc count })) h.last
      ∙ ap (λ (n : ℕ). record { lsn = 0; body = record (pages n) { next = suc count } }) at_root
      ∙ ap (λ (b : Body). record { lsn = 0; body = b }) (sym new_closed)

  pub leaf_raised : HasTakenAll after (root ∷ []) (suc (suc count)) tells file (es ++ e ∷ [])
  leaf_raised =
      let step : RaisesLeaf pages new e count (suc count) = record { count = counted_is; after = refl; meta = new_meta; root = new_root; closed = new_closed; opened = new_leaf; others = new_off } in
      let law = steps_kept.raises_leaf pages new at es e count (suc count) h.stands h.tall top step in
      let lacks : LacksRoom true (pages 1).entries =
      subst (λ n. LacksRoom true (pages n).entries) at_root (subst (λ (l : Numbered). LacksRoom true l.1.body.entries) h.last full) in
      record {
        pages = new;
        at = edge;
        holds = record {
          stands = law.stands;
          rises = rises_with es e h.rises top;
          dense = steps_filled.raises_leaf pages new at es e count (suc count) h.stands step lacks h.dense;
          tall = law.tall;
          last = begun ∙ held_as new (suc count) (edge 0) (leaf_body count 0 (e ∷ [])) new_leaf (risen_here at 0 (suc count));
          plain = plain_at;
          meta = new_meta ∙ ap (λ (b : Body). one_page_more (one_page_more b)) h.meta;
          past = λ y le. new_off y (λ z. absurd (omega (arith, z, le))) (λ z. absurd (omega (arith, z, le, low))) (λ z. absurd (omega (arith, z, le))) (λ z. absurd (omega (arith, z, le))) ∙ h.past y (omega (arith, le));
          final = λ told.
              final_more pages new at edge 0 1 count (suc (suc count)) count (with_new_body leaf.1 (record leaf.1.body { next = suc count })) old file (h.final told) (written told)
              (omega arith) (omega arith) closed_page
              (λ y some lt away off.
              let not_root : y ≢ 1 = λ z. away 1 (omega arith) (z ∙ sym (risen_top at 0 (suc count))) in
              let not_leaf : y ≢ suc count = λ z. away 0 (omega arith) (z ∙ sym (risen_here at 0 (suc count))) in
              (omega (arith, lt, off, not_leaf), (flat y not_root, new_off y (λ z. absurd (omega (arith, z, some))) not_root off not_leaf)));
        };
        above_are = above_at;
      }
    where
      flat : (y : ℕ) → y ≢ 1 → (k : ℕ) → k ≤ 0 → y ≢ at k
      flat y off zero le same = off (same ∙ at_root)
      flat y off (suc k) le same = absurd (omega (arith, le))

-- ---- an inner page

module _ (leaf : Numbered) (above : List Numbered) (count : ℕ) (tells : Type 0) (old file : List ℕ) (es : List Entry) (i : ℕ) (key : Key) (child : ℕ) (t : Pending leaf above count tells old es i key child)
    (highest : suc i ≡ length above) (written : tells → WritesPageAt old file count (held_page above i).1) where
  abbrev was : Pages
  was = t.pages

  abbrev on : ℕ → ℕ
  on = t.at

  abbrev kept : Holds t.pages t.at leaf above count tells old es
  kept = t.holds

  abbrev body : Body
  body = (held_page above i).1.body

  apart : Apart was on
  apart = apart_of was on es kept.stands

  high : height was ≡ suc i
  high = kept.tall ∙ sym highest

  on_root : on (suc i) ≡ 1
  on_root = ap on (sym high) ∙ kept.stands.edge.root

  inner_counted : (was 0).leftmost ≡ count
  inner_counted = ap (λ (b : Body). b.leftmost) kept.meta

  inner_low : (k : ℕ) → k ≤ height was → on k < count
  inner_low k le = low_at was on count k apart inner_counted le

  one_low : 1 < count
  one_low = let root_low = inner_low (suc i) (omega (arith, high)) in omega (arith, root_low, on_root)

  waits_root : was 1 ≡ with_entry_last body (key, child)
  waits_root = ap was (sym on_root) ∙ t.waits

  abbrev then : Pages
  then = four was 0 (one_page_more (one_page_more (was 0))) 1 (root_over (was 1) count key (suc count)) (suc count) (inner_page (suc i) child []) count (record (was 1) { entries = body.entries })

  then_meta : then 0 ≡ one_page_more (one_page_more (was 0))
  then_meta = four_a was 0 (one_page_more (one_page_more (was 0))) 1 (root_over (was 1) count key (suc count)) (suc count) (inner_page (suc i) child []) count (record (was 1) { entries = body.entries })
      (λ z. absurd (omega (arith, z))) (λ z. absurd (omega (arith, z))) (λ z. absurd (omega (arith, z, one_low)))

  then_root : then 1 ≡ root_over (was 1) count key (suc count)
  then_root = four_b was 0 (one_page_more (one_page_more (was 0))) 1 (root_over (was 1) count key (suc count)) (suc count) (inner_page (suc i) child []) count (record (was 1) { entries = body.entries })
      (λ z. absurd (omega (arith, z, one_low))) (λ z. absurd (omega (arith, z, one_low)))

  then_opened : then (suc count) ≡ inner_page (suc i) child []
  then_opened = four_c was 0 (one_page_more (one_page_more (was 0))) 1 (root_over (was 1) count key (suc count)) (suc count) (inner_page (suc i) child []) count (record (was 1) { entries = body.entries })
      (λ z. absurd (omega (arith, z)))

  then_closed : then count ≡ record (was 1) { entries = body.entries }
  then_closed = four_d was 0 (one_page_more (one_page_more (was 0))) 1 (root_over (was 1) count key (suc count)) (suc count) (inner_page (suc i) child []) count (record (was 1) { entries = body.entries })

  then_off : (y : ℕ) → y ≢ 0 → y ≢ 1 → y ≢ count → y ≢ suc count → then y ≡ was y
  then_off y y0 y1 yl yr =
      four_off was 0 (one_page_more (one_page_more (was 0))) 1 (root_over (was 1) count key (suc count)) (suc count) (inner_page (suc i) child []) count (record (was 1) { entries = body.entries }) y y0 y1 yr yl

  abbrev edge_now : ℕ → ℕ
  edge_now = risen on (suc i) (suc count)

  abbrev opened : Numbered
  opened = (suc count, record { lsn = 0; body = inner_page (suc i) child [] })

  abbrev root_now : Numbered
  root_now = (1, record { lsn = 0; body = inner_page (suc (suc i)) count ((key, suc count) ∷ []) })

  abbrev list : List Numbered
  list = set above i opened ++ root_now ∷ []

  set_long : length (set above i opened) ≡ suc i
  set_long = length-set above i opened ∙ sym highest

  list_long : length list ≡ suc (suc i)
  list_long = let joined = length-append (set above i opened) (root_now ∷ []) in omega (arith, joined, set_long)

  -- the root as it is raised: an inner page of that level, with nothing else
  root_body : then 1 ≡ inner_page (suc (suc i)) count ((key, suc count) ∷ [])
  root_body =
      let is_inner = apart.levels (suc i) (omega (arith, high)) in
      let plain = kept.plain i (omega (arith, highest)) in
      then_root
      ∙ ap (λ (n : ℕ). root_over (was n) count key (suc count)) (sym on_root)
      ∙ inner_is (was (on (suc i))) is_inner.0 is_inner.1 plain
    where
      inner_is : (b : Body) → b.kind ≡ Inner → b.level ≡ suc i → IsPlainInner b → root_over b count key (suc count) ≡ inner_page (suc (suc i)) count ((key, suc count) ∷ [])
      inner_is b kind level plain = λ j. record {
        kind = kind j;
        level = suc (level j);
        marked = plain.marked j;
        prev = plain.prev j;
        next = plain.next j;
        leftmost = count;
        entries = (key, suc count) ∷ [];
      }

  still_at : (k : ℕ) → k < suc i → then (on k) ≡ was (on k)
  still_at k lt =
      let le : k ≤ height was = omega (arith, lt, high) in
      then_off (on k) (apart.zero_off k le) (λ z. apart.from k (suc i) le (omega (arith, high)) (λ same. absurd (omega (arith, same, lt))) (z ∙ sym on_root))
      (λ z. absurd (omega (arith, z, inner_low k le))) (λ z. absurd (omega (arith, z, inner_low k le)))

  plain_here : (k : ℕ) → k < suc (suc i) → (k ≡ suc i) ⊎ (k ≡ suc i → ⊥) → (k ≡ i) ⊎ (k ≡ i → ⊥) → IsPlainInner (then (edge_now (suc k)))
  plain_here k lt (inl top) _ = subst (λ j. IsPlainInner (then (edge_now (suc j)))) (sym top)
      (subst (λ n. IsPlainInner (then n)) (sym (risen_top on (suc i) (suc count))) (plain_new (then 1) (suc (suc i)) count ((key, suc count) ∷ []) root_body))
  plain_here k lt (inr off) (inl own) = subst (λ j. IsPlainInner (then (edge_now (suc j)))) (sym own)
      (subst (λ n. IsPlainInner (then n)) (sym (risen_here on (suc i) (suc count))) (plain_new (then (suc count)) (suc i) child [] then_opened))
  plain_here k lt (inr off) (inr away) =
      let low : suc k < suc i = omega (arith, lt, off, away) in
      subst (λ n. IsPlainInner (then n)) (sym (risen_low on (suc i) (suc count) (suc k) low))
      (subst IsPlainInner (sym (still_at (suc k) low)) (kept.plain k (omega (arith, low, highest))))

  left_of : (k : ℕ) → k < suc i → held_page list k ≡ held_page (set above i opened) k
  left_of k lt = get_or_append_left (set above i opened) (root_now ∷ []) (0, initial 0) k (omega (arith, lt, set_long))

  held_here : (k : ℕ) → k < suc (suc i) → (k ≡ suc i) ⊎ (k ≡ suc i → ⊥) → (k ≡ i) ⊎ (k ≡ i → ⊥) → IsHeldAt then edge_now list k
  held_here k lt (inl top) _ = subst (λ j. IsHeldAt then edge_now list j) (sym top)
      (get_or_push (set above i opened) root_now (0, initial 0) (suc i) set_long
      ∙ held_as then 1 (edge_now (suc (suc i))) (inner_page (suc (suc i)) count ((key, suc count) ∷ [])) root_body (risen_top on (suc i) (suc count)))
  held_here k lt (inr off) (inl own) = subst (λ j. IsHeldAt then edge_now list j) (sym own)
      (left_of i (omega arith) ∙ set_here above i opened t.within ∙ held_as then (suc count) (edge_now (suc i)) (inner_page (suc i) child []) then_opened (risen_here on (suc i) (suc count)))
  held_here k lt (inr off) (inr away) =
      let low : suc k < suc i = omega (arith, lt, off, away) in
      left_of k (omega (arith, low)) ∙ set_off above i opened k away ∙ t.above_are k (omega (arith, low, highest)) away
      ∙ held_as then (on (suc k)) (edge_now (suc k)) (was (on (suc k))) (still_at (suc k) low) (risen_low on (suc i) (suc count) (suc k) low)

  final_body : then count ≡ body
  final_body = then_closed ∙ ap (λ (b : Body). record b { entries = body.entries }) waits_root

  off_edge : (y : ℕ) → ((k : ℕ) → k ≤ suc (suc i) → y ≢ edge_now k) → (k : ℕ) → k ≤ suc i → y ≢ on k
  off_edge y away k le = ⊎_elim
      (λ (own : k ≡ suc i). λ same. away (suc (suc i)) (omega arith) (same ∙ ap on own ∙ on_root ∙ sym (risen_top on (suc i) (suc count))))
      (λ (other : k ≡ suc i → ⊥). λ same. away k (omega (arith, le)) (same ∙ sym (risen_low on (suc i) (suc count) k (omega (arith, le, other)))))
      (cases_eq k (suc i))

  pub inner_raised : HasTakenAll leaf list (suc (suc count)) tells file es
  inner_raised =
      let step : RaisesInner was then (suc i) body.entries (key, child) count (suc count) = record { count = inner_counted; after = refl; was = ap (λ (b : Body). b.entries) waits_root; meta = then_meta; root = then_root; closed = then_closed; opened = then_opened; others = then_off } in
      let law = steps_kept.raises_inner was then on es i body.entries (key, child) count (suc count) kept.stands high step in
      record {
        pages = then;
        at = edge_now;
        holds = record {
          stands = law.stands;
          rises = kept.rises;
          dense = steps_filled.raises_inner was then on es i body.entries (key, child) count (suc count) kept.stands high step kept.dense;
          tall = law.tall ∙ sym list_long;
          last = kept.last ∙ held_as then (on 0) (edge_now 0) (was (on 0)) (still_at 0 (omega arith)) (risen_low on (suc i) (suc count) 0 (omega arith));
          plain = λ k lt. plain_here k (omega (arith, lt, list_long)) (cases_eq k (suc i)) (cases_eq k i);
          meta = then_meta ∙ ap (λ (b : Body). one_page_more (one_page_more b)) kept.meta;
          past = λ y le. then_off y (λ z. absurd (omega (arith, z, le))) (λ z. absurd (omega (arith, z, le, one_low))) (λ z. absurd (omega (arith, z, le))) (λ z. absurd (omega (arith, z, le)))
              ∙ kept.past y (omega (arith, le));
          final = λ told. subst (λ n. HasFinal then edge_now n (suc (suc count)) file) (sym list_long)
              (raised_final (kept.final told) (written told));
        };
        above_are = λ k lt. held_here k (omega (arith, lt, list_long)) (cases_eq k (suc i)) (cases_eq k i);
      }
    where
      raised_final : HasFinal was on (length above) count old → WritesPageAt old file count (held_page above i).1 → HasFinal then edge_now (suc (suc i)) (suc (suc count)) file
      raised_final f put =
          final_more was then on edge_now (suc i) (suc (suc i)) count (suc (suc count)) count (held_page above i).1 old file (subst (λ n. HasFinal was on n count old) (sym highest) f) put
          (omega arith) (omega arith)
          (ap (λ (l : ℕ). record { lsn = l; body = body }) t.lsn ∙ ap (λ (b : Body). record { lsn = 0; body = b }) (sym final_body))
          (λ y some lt away off.
          let not_root : y ≢ 1 = λ z. away (suc (suc i)) (omega arith) (z ∙ sym (risen_top on (suc i) (suc count))) in
          let not_right : y ≢ suc count = λ z. away (suc i) (omega arith) (z ∙ sym (risen_here on (suc i) (suc count))) in
          (omega (arith, lt, off, not_right), (off_edge y away, then_off y (λ z. absurd (omega (arith, z, some))) not_root off not_right)))
