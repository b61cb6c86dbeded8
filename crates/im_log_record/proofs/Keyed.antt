-- What each kind adds is read as it was written.
use Rattle.std.proofs.Common.{◌≡◌, ℕ, ◌+◌, ◌≤◌, true, cond, leb, eqb, ◌&&◌, List, [], ◌∷◌, ◌++◌, length, Some, None, refl, sym, ap, subst, ◌∙◌, append_assoc, arith}
use Rattle.std.proofs.lemmas.Bool.{leb-true, le-leb, eqb-true, and_parts}
use Rattle.std.proofs.lemmas.Option.{cond_some}
use Rattle.std.proofs.lemmas.List.{length-append, append-nil, nil_from_length}
use Rattle.im_log_record.specs.Spelling.{word64, Is64, IsKey, IsBody, keyed, blank}
use Rattle.im_log_record.specs.Reading.{IsBytes, ◌>>=◌, part_at, byte_at, word64_at, keyed_at, body_at, bodies_at, last_body_at}
use Rattle.im_log_record.proofs.Words.{bind_some, Takes, Takes-then, IsField, part_takes, part_again, byte_takes, byte_again, word64_field, length-word64}

-- what was taken is all of it
pub all_taken : (bytes text rest : List ℕ) → Takes bytes text rest → eqb (length rest) 0 ≡ true → bytes ≡ text
all_taken bytes text rest t e =
    let nothing : rest ≡ [] = nil_from_length rest (eqb-true _ _ e) in
    t.parts ∙ ap (λ (r : List ℕ). text ++ r) nothing ∙ append-nil text

pub keyed_takes : (bytes : List ℕ) (x : List ℕ × ℕ) → IsBytes bytes → keyed_at bytes ≡ Some x → (bytes ≡ keyed x.0 x.1) × (IsKey x.0 × Is64 x.1)
unfolding keyed_at
keyed_takes bytes x fits e =
    let a = bind_some (byte_at bytes) _ x e in
    let b = bind_some (part_at a.0.0 a.0.1) _ x a.2 in
    let c = bind_some (word64_at b.0.1) _ x b.2 in
    let ta = byte_takes bytes a.0 fits a.1 in
    let tb = part_takes a.0.0 a.0.1 b.0 ta.0.rest_fits b.1 in
    let tc = word64_field.takes b.0.1 c.0 tb.0.rest_fits c.1 in
    let g = cond_some (leb 1 a.0.0 && eqb (length c.0.1) 0) (b.0.0, c.0.0) x c.2 in
    let p = and_parts (leb 1 a.0.0) (eqb (length c.0.1) 0) g.0 in
    let some : 1 ≤ a.0.0 = leb-true 1 a.0.0 p.0 in
    let whole = Takes-then _ _ _ _ _ (Takes-then _ _ _ _ _ ta.0 tb.0) tc.0 in
    let is : bytes ≡ ((length b.0.0 ∷ []) ++ b.0.0) ++ word64 c.0.0 = all_taken _ _ _ whole p.1 ∙ ap (λ (n : ℕ). ((n ∷ []) ++ b.0.0) ++ word64 c.0.0) (sym tb.1) in
    subst (λ (y : List ℕ × ℕ). (bytes ≡ keyed y.0 y.1) × (IsKey y.0 × Is64 y.1)) g.1
    (is, ((omega (arith, tb.1), omega (arith, tb.1, ta.1)), tc.1))

pub keyed_again : (key : List ℕ) (rid : ℕ) → IsKey key → Is64 rid → keyed_at (keyed key rid) ≡ Some (key, rid)
unfolding keyed_at
keyed_again key rid is fits =
    let regrouped : keyed key rid ≡ (length key ∷ []) ++ (key ++ (word64 rid ++ [])) = ap (λ (t : List ℕ). ((length key ∷ []) ++ key) ++ t) (sym (append-nil (word64 rid))) ∙ append_assoc (length key ∷ []) key (word64 rid ++ []) in
    let some : leb 1 (length key) ≡ true = le-leb _ _ is.0 in
    ap keyed_at regrouped ∙ rw (byte_again (length key) (key ++ (word64 rid ++ [])), part_again (length key) key (word64 rid ++ []) refl, word64_field.again rid [] fits, some) refl

pub length-keyed : (key : List ℕ) (rid : ℕ) → length (keyed key rid) ≡ length key + 9
length-keyed key rid = omega (arith, length-append ((length key ∷ []) ++ key) (word64 rid), length-append (length key ∷ []) key, length-word64 rid)

-- ---- pages

pub body_field : IsField body_at blank IsBody
unfolding body_at
body_field = record {
  takes = λ bytes x fits e.
      (let a = bind_some (word64_at bytes) (λ lsn. part_at 4088 lsn.1 >>= λ body. cond (eqb lsn.0 0) (Some body) None) x e in
      let b = bind_some (part_at 4088 a.0.1) (λ body. cond (eqb a.0.0 0) (Some body) None) x a.2 in
      let g = cond_some (eqb a.0.0 0) b.0 x b.2 in
      let ta = word64_field.takes bytes a.0 fits a.1 in
      let tb = part_takes 4088 a.0.1 b.0 ta.0.rest_fits b.1 in
      let none : a.0.0 ≡ 0 = eqb-true _ _ g.0 in
      let all = Takes-then _ _ _ _ _ ta.0 tb.0 in
      subst (λ (y : List ℕ × List ℕ). Takes bytes (blank y.0) y.1 × IsBody y.0) g.1
      (subst (λ (n : ℕ). Takes bytes (word64 n ++ b.0.0) b.0.1) none all, tb.1));
  again = λ body rest is.
      ap body_at (append_assoc (word64 0) body rest) ∙ rw (word64_field.again 0 (body ++ rest) (omega arith), part_again 4088 body rest is) refl;
}

pub bodies_takes : (bytes : List ℕ) (x : List ℕ × List ℕ) → IsBytes bytes → bodies_at bytes ≡ Some x → (bytes ≡ blank x.0 ++ blank x.1) × (IsBody x.0 × IsBody x.1)
unfolding bodies_at
bodies_takes bytes x fits e =
    let a = bind_some (body_at bytes) _ x e in
    let b = bind_some (body_at a.0.1) _ x a.2 in
    let ta = body_field.takes bytes a.0 fits a.1 in
    let tb = body_field.takes a.0.1 b.0 ta.0.rest_fits b.1 in
    let g = cond_some (eqb (length b.0.1) 0) (a.0.0, b.0.0) x b.2 in
    subst (λ (y : List ℕ × List ℕ). (bytes ≡ blank y.0 ++ blank y.1) × (IsBody y.0 × IsBody y.1)) g.1
    (all_taken _ _ _ (Takes-then _ _ _ _ _ ta.0 tb.0) g.0, (ta.1, tb.1))

pub bodies_again : (before after : List ℕ) → IsBody before → IsBody after → bodies_at (blank before ++ blank after) ≡ Some (before, after)
unfolding bodies_at
bodies_again before after b a =
    let last : body_at (blank after) ≡ Some (after, []) = ap body_at (sym (append-nil (blank after))) ∙ body_field.again after [] a in
    rw (body_field.again before (blank after) b, last) refl

pub last_body_takes : (bytes x : List ℕ) → IsBytes bytes → last_body_at bytes ≡ Some x → (bytes ≡ blank x) × IsBody x
unfolding last_body_at
last_body_takes bytes x fits e =
    let a = bind_some (body_at bytes) _ x e in
    let ta = body_field.takes bytes a.0 fits a.1 in
    let g = cond_some (eqb (length a.0.1) 0) a.0.0 x a.2 in
    subst (λ (y : List ℕ). (bytes ≡ blank y) × IsBody y) g.1 (all_taken _ _ _ ta.0 g.0, ta.1)

pub last_body_again : (after : List ℕ) → IsBody after → last_body_at (blank after) ≡ Some after
unfolding last_body_at
last_body_again after a =
    let last : body_at (blank after) ≡ Some (after, []) = ap body_at (sym (append-nil (blank after))) ∙ body_field.again after [] a in
    rw last refl

pub length-blank : (body : List ℕ) → IsBody body → length (blank body) ≡ 4096
length-blank body is = omega (arith, length-append (word64 0) body, length-word64 0)
