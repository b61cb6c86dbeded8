-- The tables of a checkpoint are read as they were written.
use Rattle.std.proofs.Common.{◌≡◌, ℕ, ◌+◌, ◌*◌, ◌^◌, ◌<◌, ◌≤◌, Bool, true, false, cond, leb, eqb, List, [], ◌++◌, length, Option, Some, None, refl, sym, ap, subst, ◌∙◌, append_assoc, arith, leb-true, le-leb, length-append, append-nil}
use Rattle.std.specs.List.{flat_map}
use Rattle.std.proofs.lemmas.Option.{cond_some}
use Rattle.im_base_types.specs.declared.tables.ActiveTransaction.{ActiveTransaction}
use Rattle.im_base_types.specs.declared.tables.DirtyPage.{DirtyPage}
use Rattle.im_log_record.specs.Entry.{active_in, dirty_in}
use Rattle.im_log_record.specs.Spelling.{word16, word64, IsActive, IsDirty, IsTables, active_bytes, dirty_bytes, tables}
use Rattle.im_log_record.specs.Reading.{IsBytes, word16_at, word64_at, rows_at, actives_at, dirties_at, count_at, tables_at}
use Rattle.im_log_record.proofs.Words.{bind_some, Takes, Takes-then, word16_field, word64_field, length-word16, length-word64}
use Rattle.im_log_record.proofs.Keyed.{all_taken}
use Rattle.im_log_record.proofs.Rows.{rows_take, rows_again, active_row, dirty_row, length-actives, length-dirties}

pub chosen : {A : Type 0} (b : Bool) (x : Option A) (y : A) → cond b x None ≡ Some y → (b ≡ true) × (x ≡ Some y)
chosen true x y e = (refl, e)
chosen false x y e = absurd cc

count_takes : (most : ℕ) (bytes : List ℕ) (x : ℕ × List ℕ) → IsBytes bytes → count_at most bytes ≡ Some x → Takes bytes (word16 x.0) x.1 × (x.0 ≤ most)
unfolding count_at
count_takes most bytes x fits e =
    let a = bind_some (word16_at bytes) _ x e in
    let g = cond_some (leb a.0.0 most) a.0 x a.2 in
    let t = word16_field.takes bytes a.0 fits a.1 in
    subst (λ (y : ℕ × List ℕ). Takes bytes (word16 y.0) y.1 × (y.0 ≤ most)) g.1 (t.0, leb-true _ _ g.0)

count_again : (most n : ℕ) (rest : List ℕ) → n ≤ most → most < 2 ^ 16 → count_at most (word16 n ++ rest) ≡ Some (n, rest)
unfolding count_at
count_again most n rest le lt =
    let fits : n < 2 ^ 16 = omega arith in
    rw (word16_field.again n rest fits, le-leb n most le) refl

counts : (next m m1 n n1 : ℕ) (a b : List ℕ) → m ≡ m1 → n ≡ n1 → (((word64 next ++ word16 m) ++ a) ++ word16 n) ++ b ≡ (((word64 next ++ word16 m1) ++ a) ++ word16 n1) ++ b
counts next m m1 n n1 a b p q = cc

regroup : (a b c d e : List ℕ) → (((a ++ b) ++ c) ++ d) ++ e ≡ a ++ (b ++ (c ++ (d ++ (e ++ []))))
regroup a b c d e = simp (append_assoc, append-nil)

lengths : (a b c d e : List ℕ) → length ((((a ++ b) ++ c) ++ d) ++ e) ≡ (((length a + length b) + length c) + length d) + length e
lengths a b c d e = simp length-append

pub tables_takes : (bytes : List ℕ) (x : ℕ × List ActiveTransaction × List DirtyPage) → IsBytes bytes → tables_at bytes ≡ Some x → (bytes ≡ tables x.0 x.1 x.2) × IsTables x.0 x.1 x.2
unfolding tables_at actives_at dirties_at
tables_takes bytes x fits e =
    let a = bind_some (word64_at bytes) _ x e in
    let b = bind_some (count_at 64 a.0.1) _ x a.2 in
    let c = bind_some (rows_at 24 active_in (λ a. a.transaction) b.0.0 b.0.1) _ x b.2 in
    let d = bind_some (count_at 1024 c.0.1) _ x c.2 in
    let f = bind_some (rows_at 12 dirty_in (λ d. d.page) d.0.0 d.0.1) _ x d.2 in
    let g = cond_some (eqb (length f.0.1) 0) (a.0.0, c.0.0, f.0.0) x f.2 in
    let ta = word64_field.takes bytes a.0 fits a.1 in
    let tb = count_takes 64 a.0.1 b.0 ta.0.rest_fits b.1 in
    let tc = rows_take 24 active_in active_bytes IsActive (λ a. a.transaction) active_row b.0.0 b.0.1 c.0 tb.0.rest_fits c.1 in
    let td = count_takes 1024 c.0.1 d.0 tc.parts.rest_fits d.1 in
    let tf = rows_take 12 dirty_in dirty_bytes IsDirty (λ d. d.page) dirty_row d.0.0 d.0.1 f.0 td.0.rest_fits f.1 in
    let all = Takes-then _ _ _ _ _ (Takes-then _ _ _ _ _ (Takes-then _ _ _ _ _ (Takes-then _ _ _ _ _ ta.0 tb.0) tc.parts) td.0) tf.parts in
    let is = all_taken _ _ _ all g.0 in
    let counted : bytes ≡ tables a.0.0 c.0.0 f.0.0 = is ∙ counts a.0.0 b.0.0 (length c.0.0) d.0.0 (length f.0.0) (flat_map active_bytes c.0.0) (flat_map dirty_bytes f.0.0) (sym tc.count) (sym tf.count) in
    subst (λ (y : ℕ × List ActiveTransaction × List DirtyPage). (bytes ≡ tables y.0 y.1 y.2) × IsTables y.0 y.1 y.2) g.1
    (counted, record { next = ta.1; active_most = omega (arith, tc.count, tb.1); active_fit = tc.fit; active_rise = tc.rise; dirty_most = omega (arith, tf.count, td.1); dirty_fit = tf.fit; dirty_rise = tf.rise })

pub tables_again : (next : ℕ) (active : List ActiveTransaction) (dirty : List DirtyPage) → IsTables next active dirty → tables_at (tables next active dirty) ≡ Some (next, active, dirty)
unfolding tables_at actives_at dirties_at
tables_again next active dirty is =
    let ab = flat_map active_bytes active in
    let db = flat_map dirty_bytes dirty in
    let regrouped : tables next active dirty ≡ word64 next ++ (word16 (length active) ++ (ab ++ (word16 (length dirty) ++ (db ++ [])))) = regroup (word64 next) (word16 (length active)) ab (word16 (length dirty)) db in
    ap tables_at regrouped
    ∙ rw (
      word64_field.again next (word16 (length active) ++ (ab ++ (word16 (length dirty) ++ (db ++ [])))) is.next,
      count_again 64 (length active) (ab ++ (word16 (length dirty) ++ (db ++ []))) is.active_most (omega arith),
      rows_again 24 active_in active_bytes IsActive (λ a. a.transaction) active_row active (word16 (length dirty) ++ (db ++ [])) is.active_fit is.active_rise,
      count_again 1024 (length dirty) (db ++ []) is.dirty_most (omega arith),
      rows_again 12 dirty_in dirty_bytes IsDirty (λ d. d.page) dirty_row dirty [] is.dirty_fit is.dirty_rise,
    ) refl

pub length-tables : (next : ℕ) (active : List ActiveTransaction) (dirty : List DirtyPage) → length (tables next active dirty) ≡ 12 + 24 * length active + 12 * length dirty
length-tables next active dirty =
    let split = lengths (word64 next) (word16 (length active)) (flat_map active_bytes active) (word16 (length dirty)) (flat_map dirty_bytes dirty) in
    omega (arith, split, length-word64 next, length-word16 (length active), length-word16 (length dirty), length-actives active, length-dirties dirty)
