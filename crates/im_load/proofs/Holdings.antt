-- Pages with four of them changed; how what is held goes on, step by step.
use Rattle.std.proofs.Common.{◌≡◌, ◌≢◌, ◌⊎◌, ℕ, zero, suc, ◌+◌, ◌-◌, ◌<◌, ◌≤◌, max, true, List, [], ◌∷◌, ◌++◌, length, Some, refl, sym, ◌∙◌, ap, subst, arith, ⊎_elim, inl, inr, ◌==◌}
use Rattle.std.proofs.lemmas.Bool.{cases_eq, cases_lt, cond-true, cond-false, eq-eqb, ne_eqb}
use Rattle.std.proofs.lemmas.List.{get_or-set_same, get_or-set_other, length-set}
use Rattle.std.specs.Prelude.{set}
use Rattle.im_base_types.specs.Keys.{Key}
use Rattle.im_base_types.specs.Pages.{Entry, Body, Page}
use Rattle.im_theory_log.specs.Tree.{with_body}
use Rattle.im_theory_page.specs.Header.{initial, leaf_body}
use Rattle.im_theory_page.specs.PageFile.{file_page}
use Rattle.im_theory_page.specs.Split.{LacksRoom}
use Rattle.im_theory_tree.specs.Levels.{Pages, height}
use Rattle.im_load.specs.Edge.{moved, IsAboveAll, Stands}
use Rattle.im_load.specs.Loaded.{unlogged}
use Rattle.im_load.specs.Steps.{with_entry_last, one_page_more, inner_page, ClosesLeaf, ClosesInner}
use Rattle.im_load.proofs.Edges.{Apart, edge_apart, moved_here, moved_off}
use Rattle.im_load.proofs.Closings.{steps_kept}
use Rattle.im_load.proofs.Fills.{steps_filled}
use Rattle.im_load.proofs.Ends.{rises_with}
use Rattle.im_load.specs.Files.{WritesPageAt}
use Rattle.im_load.specs.Held.{Numbered, with_new_body, with_last, held_page}
use Rattle.im_load.specs.Loading.{HasFinal, IsPlainInner, Holds, IsHeldAt, HasTakenAll, Pending}

-- ---- pages with some changed

body_here : (pages : Pages) (p : ℕ) (b : Body) → with_body pages p b p ≡ b
body_here pages p b = cond-true (p == p) b (pages p) (eq-eqb p p refl)

body_off : (pages : Pages) (p : ℕ) (b : Body) (x : ℕ) → x ≢ p → with_body pages p b x ≡ pages x
body_off pages p b x off = cond-false (p == x) b (pages x) (ne_eqb p x (λ e. off (sym e)))

module _ (pages : Pages) (a : ℕ) (ab : Body) (b : ℕ) (bb : Body) (c : ℕ) (cb : Body) (d : ℕ) (db : Body) where
  abbrev pub four : Pages
  four = with_body (with_body (with_body (with_body pages a ab) b bb) c cb) d db

  pub four_d : four d ≡ db
  four_d = body_here (with_body (with_body (with_body pages a ab) b bb) c cb) d db

  pub four_c : c ≢ d → four c ≡ cb
  four_c cd = body_off (with_body (with_body (with_body pages a ab) b bb) c cb) d db c cd ∙ body_here (with_body (with_body pages a ab) b bb) c cb

  pub four_b : b ≢ c → b ≢ d → four b ≡ bb
  four_b bc bd = body_off (with_body (with_body (with_body pages a ab) b bb) c cb) d db b bd ∙ body_off (with_body (with_body pages a ab) b bb) c cb b bc ∙ body_here (with_body pages a ab) b bb

  pub four_a : a ≢ b → a ≢ c → a ≢ d → four a ≡ ab
  four_a ab' ac ad =
      body_off (with_body (with_body (with_body pages a ab) b bb) c cb) d db a ad ∙ body_off (with_body (with_body pages a ab) b bb) c cb a ac ∙ body_off (with_body pages a ab) b bb a ab' ∙ body_here pages a ab

  pub four_off : (x : ℕ) → x ≢ a → x ≢ b → x ≢ c → x ≢ d → four x ≡ pages x
  four_off x xa xb xc xd =
      body_off (with_body (with_body (with_body pages a ab) b bb) c cb) d db x xd ∙ body_off (with_body (with_body pages a ab) b bb) c cb x xc ∙ body_off (with_body pages a ab) b bb x xb ∙ body_off pages a ab x xa

same_page : (pages new : Pages) (x : ℕ) → new x ≡ pages x → unlogged new x ≡ unlogged pages x
same_page pages new x is = ap (λ (b : Body). record { lsn = 0; body = b }) is

-- what is known of the edge's numbers beside a page count
pub apart_of : (pages : Pages) (at : ℕ → ℕ) (es : List Entry) → Stands pages at [] es → Apart pages at
apart_of pages at es s = edge_apart pages at [] s.good s.edge

-- ---- an entry more in the last leaf

pub taken_put : (leaf new : Numbered) (above : List Numbered) (count : ℕ) (tells : Type 0) (file : List ℕ) (es : List Entry) (e : Entry) → HasTakenAll leaf above count tells file es → IsAboveAll e.0 es
    → new ≡ with_last leaf e → HasTakenAll new above count tells file (es ++ e ∷ [])
taken_put leaf new above count tells file es e t top is =
    let pages = t.pages in
    let at = t.at in
    let h = t.holds in
    let apart = apart_of pages at es h.stands in
    let after : Pages = with_body pages (at 0) (with_entry_last (pages (at 0)) e) in
    let here = body_here pages (at 0) (with_entry_last (pages (at 0)) e) in
    let off : (x : ℕ) → x ≢ at 0 → after x ≡ pages x = λ x o. body_off pages (at 0) (with_entry_last (pages (at 0)) e) x o in
    let counted_is : (pages 0).leftmost ≡ count = ap (λ (b : Body). b.leftmost) h.meta in
    let upper : (k : ℕ) → k < length above → after (at (suc k)) ≡ pages (at (suc k)) = λ k lt.
    off (at (suc k)) (apart.from (suc k) 0 (omega (arith, lt, h.tall)) (omega arith) (λ z. absurd (omega (arith, z)))) in
    let step = steps_kept.puts pages after at es e h.stands top (record { leaf = here; others = off }) in
    record {
      pages = after;
      at = at;
      holds = record {
        stands = step.stands;
        rises = rises_with es e h.rises top;
        dense = steps_filled.puts pages after at es e h.stands (record { leaf = here; others = off }) h.dense;
        tall = step.tall ∙ h.tall;
        last = is ∙ ap (λ (l : Numbered). with_last l e) h.last ∙ ap (λ (b : Body). (at 0, record { lsn = 0; body = b })) (sym here);
        plain = λ k lt. subst IsPlainInner (sym (upper k lt)) (h.plain k lt);
        meta = off 0 (λ z. apart.zero_off 0 (omega arith) (sym z)) ∙ h.meta;
        past = λ x le. off x (λ z. apart.past_off 0 x (omega arith) (omega (arith, le, counted_is)) (sym z)) ∙ h.past x le;
        final = λ told.
            let f = h.final told in
            record {
              many = f.many;
              whole = f.whole;
              few = f.few;
              there = λ x some low away.
                  let was = f.there x some low away in
                  (was.0, was.1 ∙ ap Some (sym (same_page pages after x (off x (away 0 (omega arith))))));
            };
      };
      above_are = λ k lt. t.above_are k lt ∙ ap (λ (b : Body). (at (suc k), record { lsn = 0; body = b })) (sym (upper k lt));
    }

-- ---- the separator comes into its page

-- a list of held pages with one of them changed
pub set_here : (above : List Numbered) (i : ℕ) (x : Numbered) → i < length above → held_page (set above i x) i ≡ x
set_here above i x lt = get_or-set_same above i x (0, initial 0) lt

pub set_off : (above : List Numbered) (i : ℕ) (x : Numbered) (k : ℕ) → k ≢ i → held_page (set above i x) k ≡ held_page above k
set_off above i x k off = get_or-set_other above i k x (0, initial 0) off

pub pending_put : (leaf : Numbered) (above : List Numbered) (count : ℕ) (tells : Type 0) (file : List ℕ) (es : List Entry) (i : ℕ) (key : Key) (child : ℕ) → Pending leaf above count tells file es i key child
    → HasTakenAll leaf (set above i (with_last (held_page above i) (key, child))) count tells file es
pending_put leaf above count tells file es i key child t =
    let pages = t.pages in
    let at = t.at in
    let h = t.holds in
    let x : Numbered = with_last (held_page above i) (key, child) in
    let long : length (set above i x) ≡ length above = length-set above i x in
    let here : x ≡ (at (suc i), unlogged pages (at (suc i))) =
    ap (λ (n : ℕ). (n, with_new_body (held_page above i).1 (with_entry_last (held_page above i).1.body (key, child)))) t.number
    ∙ ap (λ (l : ℕ). (at (suc i), record { lsn = l; body = with_entry_last (held_page above i).1.body (key, child) })) t.lsn
    ∙ ap (λ (b : Body). (at (suc i), record { lsn = 0; body = b })) (sym t.waits) in
    record {
      pages = pages;
      at = at;
      holds = record {
        stands = h.stands;
        rises = h.rises;
        dense = h.dense;
        tall = h.tall ∙ sym long;
        last = h.last;
        plain = λ k lt. h.plain k (omega (arith, lt, long));
        meta = h.meta;
        past = h.past;
        final = λ told. subst (λ n. HasFinal pages at n count file) (sym long) (h.final told);
      };
      above_are = λ k lt. ⊎_elim
          (λ (own : k ≡ i). subst (λ j. IsHeldAt pages at (set above i x) j) (sym own) (set_here above i x t.within ∙ here))
          (λ (off : k ≡ i → ⊥). set_off above i x k off ∙ t.above_are k (omega (arith, lt, long)) off)
          (cases_eq k i);
    }

-- ---- a leaf under its parent is closed

-- the file, once a page that was held is final and the numbers are moved on
pub final_more : (pages new : Pages) (at at' : ℕ → ℕ) (levels levels' count count' p : ℕ) (page : Page) (old file : List ℕ) → HasFinal pages at levels count old → WritesPageAt old file p page
    → p < count' → count ≤ count' → page ≡ unlogged new p
    → ((x : ℕ) → 1 ≤ x → x < count' → ((k : ℕ) → k ≤ levels' → x ≢ at' k) → x ≢ p → (x < count) × (((k : ℕ) → k ≤ levels → x ≢ at k) × (new x ≡ pages x)))
    → HasFinal new at' levels' count' file
final_more pages new at at' levels levels' count count' p page old file f put low more is old_one = record {
  many = max f.many (p + 1);
  whole = put.size f.many f.whole;
  few = (let few : f.many ≤ count = f.few in omega (arith, few, low, more));
  there = λ x some lt away. ⊎_elim
      (λ (own : x ≡ p). (omega (arith, own), subst (λ y. file_page file y ≡ Some (unlogged new y)) (sym own) (put.here ∙ ap Some is)))
      (λ (off : x ≡ p → ⊥).
      let found = old_one x some lt away off in
      let was = f.there x some found.0 found.1.0 in
      (omega (arith, was.0), put.others f.many x f.whole was.0 off ∙ was.1 ∙ ap Some (sym (same_page pages new x found.1.1))))
      (cases_eq x p);
}

-- the numbers of the edge are below the page count
pub low_at : (pages : Pages) (at : ℕ → ℕ) (count k : ℕ) → Apart pages at → (pages 0).leftmost ≡ count → k ≤ height pages → at k < count
low_at pages at count k apart is le = ⊎_elim
    (λ (low : at k < count). low)
    (λ (high : count ≤ at k). absurd (apart.past_off k (at k) le (omega (arith, high, is)) refl))
    (cases_lt (at k) count)

-- what is held of a page, where the page has changed to this
abbrev pub numbered : ℕ → Body → Numbered
numbered n b = (n, record { lsn = 0; body = b })

pub held_as : (new : Pages) (n m : ℕ) (b : Body) → new n ≡ b → m ≡ n → numbered n b ≡ numbered m (new m)
held_as new n m b is same = ap (numbered n) (sym is) ∙ ap (λ (k : ℕ). numbered k (new k)) (sym same)

pub plain_put : (b c : Body) (e : Entry) → c ≡ with_entry_last b e → IsPlainInner b → IsPlainInner c
plain_put b c e is p = record { marked = ap (λ (x : Body). x.marked) is ∙ p.marked; prev = ap (λ (x : Body). x.prev) is ∙ p.prev; next = ap (λ (x : Body). x.next) is ∙ p.next }

pub plain_new : (b : Body) (level child : ℕ) (es : List Entry) → b ≡ inner_page level child es → IsPlainInner b
plain_new b level child es is = record { marked = ap (λ (x : Body). x.marked) is; prev = ap (λ (x : Body). x.prev) is; next = ap (λ (x : Body). x.next) is }

module _ (leaf after x : Numbered) (rest : List Numbered) (count : ℕ) (tells : Type 0) (old file : List ℕ) (es : List Entry) (e : Entry) (t : HasTakenAll leaf (x ∷ rest) count tells old es) (top : IsAboveAll e.0 es)
    (full : LacksRoom true leaf.1.body.entries) (begun : after ≡ (count, record { lsn = 0; body = leaf_body leaf.0 0 (e ∷ []) }))
    (written : tells → WritesPageAt old file leaf.0 (with_new_body leaf.1 (record leaf.1.body { next = count }))) where
  abbrev pages : Pages
  pages = t.pages

  abbrev at : ℕ → ℕ
  at = t.at

  abbrev h : Holds t.pages t.at leaf (x ∷ rest) count tells old es
  h = t.holds

  apart : Apart pages at
  apart = apart_of pages at es h.stands

  one_le : 1 ≤ height pages
  one_le = omega (arith, h.tall)

  counted_is : (pages 0).leftmost ≡ count
  counted_is = ap (λ (b : Body). b.leftmost) h.meta

  low : (k : ℕ) → k ≤ height pages → at k < count
  low k le = low_at pages at count k apart counted_is le

  off_count : (k : ℕ) → k ≤ height pages → at k ≢ count
  off_count k le same = absurd (omega (arith, low k le, same))

  abbrev new : Pages
  new = four pages 0 (one_page_more (pages 0)) (at 1) (with_entry_last (pages (at 1)) (e.0, count)) count (leaf_body (at 0) 0 (e ∷ [])) (at 0) (record (pages (at 0)) { next = count })

  one_zero : at 1 ≢ at 0
  one_zero = apart.from 1 0 one_le (omega arith) (λ z. absurd (omega (arith, z)))

  new_meta : new 0 ≡ one_page_more (pages 0)
  new_meta = four_a pages 0 (one_page_more (pages 0)) (at 1) (with_entry_last (pages (at 1)) (e.0, count)) count (leaf_body (at 0) 0 (e ∷ [])) (at 0) (record (pages (at 0)) { next = count })
      (λ z. apart.zero_off 1 one_le (sym z)) (λ z. absurd (omega (arith, z, low 0 (omega arith)))) (λ z. apart.zero_off 0 (omega arith) (sym z))

  new_above : new (at 1) ≡ with_entry_last (pages (at 1)) (e.0, count)
  new_above = four_b pages 0 (one_page_more (pages 0)) (at 1) (with_entry_last (pages (at 1)) (e.0, count)) count (leaf_body (at 0) 0 (e ∷ [])) (at 0) (record (pages (at 0)) { next = count })
      (off_count 1 one_le) one_zero

  new_leaf : new count ≡ leaf_body (at 0) 0 (e ∷ [])
  new_leaf = four_c pages 0 (one_page_more (pages 0)) (at 1) (with_entry_last (pages (at 1)) (e.0, count)) count (leaf_body (at 0) 0 (e ∷ [])) (at 0) (record (pages (at 0)) { next = count })
      (λ z. off_count 0 (omega arith) (sym z))

  new_closed : new (at 0) ≡ record (pages (at 0)) { next = count }
  new_closed = four_d pages 0 (one_page_more (pages 0)) (at 1) (with_entry_last (pages (at 1)) (e.0, count)) count (leaf_body (at 0) 0 (e ∷ [])) (at 0) (record (pages (at 0)) { next = count })

  new_off : (y : ℕ) → y ≢ 0 → y ≢ at 0 → y ≢ count → y ≢ at 1 → new y ≡ pages y
  new_off y y0 yl yq ya = four_off pages 0 (one_page_more (pages 0)) (at 1) (with_entry_last (pages (at 1)) (e.0, count)) count (leaf_body (at 0) 0 (e ∷ [])) (at 0) (record (pages (at 0)) { next = count }) y y0 ya yq yl

  abbrev edge : ℕ → ℕ
  edge = moved at 0 count

  edge_up : (k : ℕ) → edge (suc k) ≡ at (suc k)
  edge_up k = moved_off at 0 count (suc k) (λ z. absurd (omega (arith, z)))

  upper : (k : ℕ) → suc k < suc (length rest) → new (at (suc (suc k))) ≡ pages (at (suc (suc k)))
  upper k lt =
      let le : suc (suc k) ≤ height pages = omega (arith, lt, h.tall) in
      new_off (at (suc (suc k))) (apart.zero_off (suc (suc k)) le) (apart.from (suc (suc k)) 0 le (omega arith) (λ z. absurd (omega (arith, z)))) (off_count (suc (suc k)) le)
      (apart.from (suc (suc k)) 1 le one_le (λ z. absurd (omega (arith, z))))

  plain_at : (k : ℕ) → k < suc (length rest) → IsPlainInner (new (at (suc k)))
  plain_at zero lt = plain_put (pages (at 1)) (new (at 1)) (e.0, count) new_above (h.plain 0 lt)
  plain_at (suc k) lt = subst IsPlainInner (sym (upper k lt)) (h.plain (suc k) lt)

  above_at : (k : ℕ) → k < suc (length rest) → k ≢ 0 → IsHeldAt new edge (x ∷ rest) k
  above_at zero lt off = absurd (off refl)
  above_at (suc k) lt off = t.above_are (suc k) lt ∙ held_as new (at (suc (suc k))) (edge (suc (suc k))) (pages (at (suc (suc k)))) (upper k lt) (edge_up (suc k))

  not_edge : (y : ℕ) → ((k : ℕ) → k ≤ suc (length rest) → y ≢ edge k) → y ≢ at 0 → (k : ℕ) → k ≤ suc (length rest) → y ≢ at k
  not_edge y away off zero le = off
  not_edge y away off (suc k) le = λ same. away (suc k) le (same ∙ sym (edge_up k))

  pub leaf_closed : Pending after (x ∷ rest) (suc count) tells file (es ++ e ∷ []) 0 e.0 count
  leaf_closed =
      let first = t.above_are 0 (omega arith) in
      let step : ClosesLeaf pages new at e count = record { count = counted_is; meta = new_meta; closed = new_closed; opened = new_leaf; above = new_above; others = new_off } in
      let law = steps_kept.closes_leaf pages new at es e count (length rest) h.stands h.tall top step in
      record {
        pages = new;
        at = edge;
        holds = record {
          stands = law.stands;
          rises = rises_with es e h.rises top;
          dense = steps_filled.closes_leaf pages new at es e count h.stands one_le step (subst (λ (l : Numbered). LacksRoom true l.1.body.entries) h.last full) h.dense;
          tall = law.tall ∙ h.tall;
          last = begun ∙ ap (λ (l : Numbered). (count, record { lsn = 0; body = leaf_body l.0 0 (e ∷ []) })) h.last
              ∙ held_as new count (edge 0) (leaf_body (at 0) 0 (e ∷ [])) new_leaf (moved_here at 0 count);
          plain = λ k lt. subst (λ n. IsPlainInner (new n)) (sym (edge_up k)) (plain_at k lt);
          meta = new_meta ∙ ap one_page_more h.meta;
          past = λ y le. new_off y (λ z. absurd (omega (arith, z, le))) (λ z. absurd (omega (arith, z, le, low 0 (omega arith)))) (λ z. absurd (omega (arith, z, le))) (λ z. absurd (omega (arith, z, le, low 1 one_le)))
              ∙ h.past y (omega (arith, le));
          final = λ told. final_more pages new at edge (suc (length rest)) (suc (length rest)) count (suc count) (at 0) (with_new_body leaf.1 (record leaf.1.body { next = count })) old file (h.final told)
              (subst (λ n. WritesPageAt old file n (with_new_body leaf.1 (record leaf.1.body { next = count }))) (ap (λ (l : Numbered). l.0) h.last) (written told))
              (omega (arith, low 0 (omega arith))) (omega arith)
              (ap (λ (l : Numbered). with_new_body l.1 (record l.1.body { next = count })) h.last ∙ ap (λ (b : Body). record { lsn = 0; body = b }) (sym new_closed))
              (λ y some lt away off.
              let not_count : y ≢ count = λ z. away 0 (omega arith) (z ∙ sym (moved_here at 0 count)) in
              let not_above : y ≢ at 1 = not_edge y away off 1 (omega arith) in
              (omega (arith, lt, not_count), (not_edge y away off, new_off y (λ z. absurd (omega (arith, z, some))) off not_count not_above)));
        };
        within = omega arith;
        above_are = above_at;
        number = ap (λ (l : Numbered). l.0) first ∙ sym (edge_up 0);
        lsn = ap (λ (l : Numbered). l.1.lsn) first;
        waits = ap new (edge_up 0) ∙ new_above ∙ ap (λ (l : Numbered). with_entry_last l.1.body (e.0, count)) (sym first);
      }

-- ---- an inner page under its parent is closed

module _ (leaf : Numbered) (above : List Numbered) (count : ℕ) (tells : Type 0) (old file : List ℕ) (es : List Entry) (i : ℕ) (key : Key) (child : ℕ) (t : Pending leaf above count tells old es i key child)
    (more : suc i < length above) (written : tells → WritesPageAt old file (held_page above i).0 (held_page above i).1) where
  abbrev was : Pages
  was = t.pages

  abbrev on : ℕ → ℕ
  on = t.at

  abbrev kept : Holds t.pages t.at leaf above count tells old es
  kept = t.holds

  abbrev body : Body
  body = (held_page above i).1.body

  inner_apart : Apart was on
  inner_apart = apart_of was on es kept.stands

  mine_le : suc i ≤ height was
  mine_le = omega (arith, kept.tall, more)

  over_le : suc (suc i) ≤ height was
  over_le = omega (arith, kept.tall, more)

  inner_counted : (was 0).leftmost ≡ count
  inner_counted = ap (λ (b : Body). b.leftmost) kept.meta

  inner_low : (k : ℕ) → k ≤ height was → on k < count
  inner_low k le = low_at was on count k inner_apart inner_counted le

  inner_off_count : (k : ℕ) → k ≤ height was → on k ≢ count
  inner_off_count k le same = absurd (omega (arith, inner_low k le, same))

  abbrev then : Pages
  then = four was 0 (one_page_more (was 0)) (on (suc (suc i))) (with_entry_last (was (on (suc (suc i)))) (key, count)) count (inner_page (suc i) child []) (on (suc i)) (record (was (on (suc i))) { entries = body.entries })

  then_meta : then 0 ≡ one_page_more (was 0)
  then_meta = four_a was 0 (one_page_more (was 0)) (on (suc (suc i))) (with_entry_last (was (on (suc (suc i)))) (key, count)) count (inner_page (suc i) child []) (on (suc i)) (record (was (on (suc i))) { entries = body.entries })
      (λ z. inner_apart.zero_off (suc (suc i)) over_le (sym z)) (λ z. absurd (omega (arith, z, inner_low 0 (omega arith)))) (λ z. inner_apart.zero_off (suc i) mine_le (sym z))

  then_above : then (on (suc (suc i))) ≡ with_entry_last (was (on (suc (suc i)))) (key, count)
  then_above = four_b was 0 (one_page_more (was 0)) (on (suc (suc i))) (with_entry_last (was (on (suc (suc i)))) (key, count)) count (inner_page (suc i) child []) (on (suc i)) (record (was (on (suc i))) { entries = body.entries })
      (inner_off_count (suc (suc i)) over_le) (inner_apart.from (suc (suc i)) (suc i) over_le mine_le (λ z. absurd (omega (arith, z))))

  then_opened : then count ≡ inner_page (suc i) child []
  then_opened = four_c was 0 (one_page_more (was 0)) (on (suc (suc i))) (with_entry_last (was (on (suc (suc i)))) (key, count)) count (inner_page (suc i) child []) (on (suc i)) (record (was (on (suc i))) { entries = body.entries })
      (λ z. inner_off_count (suc i) mine_le (sym z))

  then_closed : then (on (suc i)) ≡ record (was (on (suc i))) { entries = body.entries }
  then_closed = four_d was 0 (one_page_more (was 0)) (on (suc (suc i))) (with_entry_last (was (on (suc (suc i)))) (key, count)) count (inner_page (suc i) child []) (on (suc i)) (record (was (on (suc i))) { entries = body.entries })

  then_off : (y : ℕ) → y ≢ 0 → y ≢ on (suc i) → y ≢ count → y ≢ on (suc (suc i)) → then y ≡ was y
  then_off y y0 yl yq ya = four_off was 0 (one_page_more (was 0)) (on (suc (suc i))) (with_entry_last (was (on (suc (suc i)))) (key, count)) count (inner_page (suc i) child []) (on (suc i)) (record (was (on (suc i))) { entries = body.entries }) y y0 ya yq yl

  -- the page is written as it is held
  final_body : then (on (suc i)) ≡ body
  final_body = then_closed ∙ ap (λ (b : Body). record b { entries = body.entries }) t.waits

  abbrev along : ℕ → ℕ
  along = moved on (suc i) count

  abbrev opened : Numbered
  opened = (count, record { lsn = 0; body = inner_page (suc i) child [] })

  abbrev list : List Numbered
  list = set above i opened

  list_long : length list ≡ length above
  list_long = length-set above i opened

  along_off : (k : ℕ) → k ≢ suc i → along k ≡ on k
  along_off k off = moved_off on (suc i) count k off

  still_at : (k : ℕ) → k ≤ height was → k ≢ suc i → k ≢ suc (suc i) → then (on k) ≡ was (on k)
  still_at k le a b = then_off (on k) (inner_apart.zero_off k le) (inner_apart.from k (suc i) le mine_le a) (inner_off_count k le) (inner_apart.from k (suc (suc i)) le over_le b)

  plain_here : (k : ℕ) → k < length above → (k ≡ i) ⊎ (k ≡ i → ⊥) → (k ≡ suc i) ⊎ (k ≡ suc i → ⊥) → IsPlainInner (then (along (suc k)))
  plain_here k lt (inl own) _ = subst (λ j. IsPlainInner (then (along (suc j)))) (sym own)
      (subst (λ n. IsPlainInner (then n)) (sym (moved_here on (suc i) count)) (plain_new (then count) (suc i) child [] then_opened))
  plain_here k lt (inr off) (inl over) = subst (λ j. IsPlainInner (then (along (suc j)))) (sym over)
      (subst (λ n. IsPlainInner (then n)) (sym (along_off (suc (suc i)) (λ z. absurd (omega (arith, z)))))
      (plain_put (was (on (suc (suc i)))) (then (on (suc (suc i)))) (key, count) then_above (kept.plain (suc i) more)))
  plain_here k lt (inr off) (inr away) =
      subst (λ n. IsPlainInner (then n)) (sym (along_off (suc k) (λ z. off (omega (arith, z)))))
      (subst IsPlainInner (sym (still_at (suc k) (omega (arith, lt, kept.tall)) (λ z. off (omega (arith, z))) (λ z. away (omega (arith, z))))) (kept.plain k lt))

  held_here : (k : ℕ) → k < length above → k ≢ suc i → (k ≡ i) ⊎ (k ≡ i → ⊥) → IsHeldAt then along list k
  held_here k lt away (inl own) = subst (λ j. IsHeldAt then along list j) (sym own)
      (set_here above i opened t.within ∙ held_as then count (along (suc i)) (inner_page (suc i) child []) then_opened (moved_here on (suc i) count))
  held_here k lt away (inr off) =
      set_off above i opened k off ∙ t.above_are k lt off
      ∙ held_as then (on (suc k)) (along (suc k)) (was (on (suc k))) (still_at (suc k) (omega (arith, lt, kept.tall)) (λ z. off (omega (arith, z))) (λ z. away (omega (arith, z)))) (along_off (suc k) (λ z. off (omega (arith, z))))

  off_edge : (y : ℕ) → ((k : ℕ) → k ≤ length above → y ≢ along k) → y ≢ on (suc i) → (k : ℕ) → k ≤ length above → y ≢ on k
  off_edge y away off k le = ⊎_elim
      (λ (own : k ≡ suc i). subst (λ j. y ≢ on j) (sym own) off)
      (λ (other : k ≡ suc i → ⊥). λ same. away k le (same ∙ sym (along_off k other)))
      (cases_eq k (suc i))

  pub inner_closed : Pending leaf list (suc count) tells file es (suc i) key count
  inner_closed =
      let over = t.above_are (suc i) more (λ z. absurd (omega (arith, z))) in
      let over_now : held_page list (suc i) ≡ (on (suc (suc i)), unlogged was (on (suc (suc i)))) = set_off above i opened (suc i) (λ z. absurd (omega (arith, z))) ∙ over in
      let over_edge : along (suc (suc i)) ≡ on (suc (suc i)) = along_off (suc (suc i)) (λ z. absurd (omega (arith, z))) in
      let step : ClosesInner was then on (suc i) body.entries (key, child) count = record { count = inner_counted; was = ap (λ (b : Body). b.entries) t.waits; meta = then_meta; closed = then_closed; opened = then_opened; above = then_above; others = then_off } in
      let law = steps_kept.closes_inner was then on es i (height was - suc (suc i)) body.entries (key, child) count kept.stands (omega (arith, over_le)) step in
      record {
        pages = then;
        at = along;
        holds = record {
          stands = law.stands;
          rises = kept.rises;
          dense = steps_filled.closes_inner was then on es i body.entries (key, child) count kept.stands over_le step kept.dense;
          tall = law.tall ∙ kept.tall ∙ sym list_long;
          last = kept.last ∙ held_as then (on 0) (along 0) (was (on 0)) (still_at 0 (omega arith) (λ z. absurd (omega (arith, z))) (λ z. absurd (omega (arith, z)))) (along_off 0 (λ z. absurd (omega (arith, z))));
          plain = λ k lt. plain_here k (omega (arith, lt, list_long)) (cases_eq k i) (cases_eq k (suc i));
          meta = then_meta ∙ ap one_page_more kept.meta;
          past = λ y le. then_off y (λ z. absurd (omega (arith, z, le))) (λ z. absurd (omega (arith, z, le, inner_low (suc i) mine_le))) (λ z. absurd (omega (arith, z, le)))
              (λ z. absurd (omega (arith, z, le, inner_low (suc (suc i)) over_le))) ∙ kept.past y (omega (arith, le));
          final = λ told. subst (λ n. HasFinal then along n (suc count) file) (sym list_long)
              (final_more was then on along (length above) (length above) count (suc count) (on (suc i)) (held_page above i).1 old file (kept.final told)
              (subst (λ n. WritesPageAt old file n (held_page above i).1) t.number (written told))
              (omega (arith, inner_low (suc i) mine_le)) (omega arith)
              (ap (λ (l : ℕ). record { lsn = l; body = body }) t.lsn ∙ ap (λ (b : Body). record { lsn = 0; body = b }) (sym final_body))
              (λ y some lt away off.
              let not_count : y ≢ count = λ z. away (suc i) (omega (arith, more)) (z ∙ sym (moved_here on (suc i) count)) in (
                omega (arith, lt, not_count),
                (off_edge y away off, then_off y (λ z. absurd (omega (arith, z, some))) off not_count (off_edge y away off (suc (suc i)) (omega (arith, more)))),
              )));
        };
        within = omega (arith, more, list_long);
        above_are = λ k lt off. held_here k (omega (arith, lt, list_long)) off (cases_eq k i);
        number = ap (λ (l : Numbered). l.0) over_now ∙ sym over_edge;
        lsn = ap (λ (l : Numbered). l.1.lsn) over_now;
        waits = ap then over_edge ∙ then_above ∙ ap (λ (l : Numbered). with_entry_last l.1.body (key, count)) (sym over_now);
      }
