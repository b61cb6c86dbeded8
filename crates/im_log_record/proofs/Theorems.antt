-- What is read is spelled so, and what is spelled so is read.
use Rattle.std.proofs.Common.{◌≡◌, ℕ, ◌+◌, true, leb, eqb, ◌&&◌, List, [], ◌∷◌, ◌++◌, length, take, drop, Some, refl, sym, ap, subst, ◌∙◌, append_assoc, arith}
use Rattle.std.specs.Int.{w32, from_be_bytes}
use Rattle.std.proofs.lemmas.Bool.{leb-true, le-leb, eqb-true, eq-eqb, and_parts}
use Rattle.std.proofs.lemmas.Option.{cond_some, same_Some}
use Rattle.std.proofs.lemmas.List.{length-append, nil_from_length}
use Rattle.im_log_record.specs.declared.fields.Head.{Head}
use Rattle.im_log_record.specs.declared.kind.Kind.{Kind}
use Rattle.im_log_record.specs.declared.kind.Kind.TheVariants as kinds
use Rattle.im_log_record.specs.Kind.{number_of, kind_at}
use Rattle.im_log_record.specs.Entry.{Entry, InsertKey, DeleteKey, UndoInsert, UndoDelete, Smo, UndoSmo, DummyClr, Commit, End, Image, Checkpoint}
use Rattle.im_log_record.specs.Spelling.{word32, word64, Is32, Is64, IsOwnedHead, IsEntry, Spells, whole, keyed, blank, tables, front, spelling, size_of}
use Rattle.im_log_record.specs.Reading.{IsBytes, keyed_at, bodies_at, last_body_at, tables_at, has_owner, has_plain_owner, has_none, part_at, word32_at, head_at, entry_at, entry_of, first_entry}
use Rattle.im_log_record.proofs.Words.{bind_some, part_takes, part_again, word32_field, length-word64}
use Rattle.im_log_record.proofs.Heads.{IsHead, head_bytes, head_takes, head_again, whole_is, length-whole, length-head, kind_takes, kind_again}
use Rattle.im_log_record.proofs.Tables.{chosen, tables_takes, tables_again, length-tables}
use Rattle.im_log_record.proofs.Keyed.{keyed_takes, keyed_again, length-keyed, bodies_takes, bodies_again, last_body_takes, last_body_again, length-blank}

-- the record that a head and a payload make, and that it has a spelling
record IsSpelled (h : Head) (kind : ℕ) (payload : List ℕ) (said : Entry) : Type 0 where
  pub fits : IsEntry said
  pub spelled : whole kind h.transaction h.prev h.undo_next h.page payload ≡ spelling said

owned : (h : Head) → IsHead h → has_owner h ≡ true → IsOwnedHead h.transaction h.prev h.undo_next h.page
owned h fits e = record { transaction = (leb-true 1 h.transaction e, fits.transaction); prev = fits.prev; undo_next = fits.undo_next; page = fits.page }

plain : (h : Head) → IsHead h → has_plain_owner h ≡ true → IsOwnedHead h.transaction h.prev 0 h.page × (h.undo_next ≡ 0)
plain h fits e =
    let p = and_parts (leb 1 h.transaction) (eqb h.undo_next 0) e in
    (record { transaction = (leb-true 1 h.transaction p.0, fits.transaction); prev = fits.prev; undo_next = omega arith; page = fits.page }, eqb-true _ _ p.1)

same : (kind t t1 p p1 u u1 g g1 : ℕ) (a b : List ℕ) → t ≡ t1 → p ≡ p1 → u ≡ u1 → g ≡ g1 → a ≡ b → whole kind t p u g a ≡ whole kind t1 p1 u1 g1 b
same kind t t1 p p1 u u1 g g1 a b et ep eu eg ea = cc

entry_takes : (h : Head) (k : Kind) (payload : List ℕ) (said : Entry) → IsHead h → IsBytes payload → entry_at h k payload ≡ Some said → IsSpelled h (number_of k) payload said
unfolding entry_at
entry_takes h kinds.InsertKey payload said head fits e =
    let a = bind_some (keyed_at payload) _ said e in
    let t = keyed_takes payload a.0 fits a.1 in
    let g = cond_some (has_plain_owner h) (InsertKey h.transaction h.prev h.page a.0.0 a.0.1) said a.2 in
    let p = plain h head g.0 in
    subst (IsSpelled h 1 payload) g.1 (record { fits = (p.0, t.1); spelled = same _ _ _ _ _ _ _ _ _ _ _ refl refl p.1 refl t.0 })
entry_takes h kinds.DeleteKey payload said head fits e =
    let a = bind_some (keyed_at payload) _ said e in
    let t = keyed_takes payload a.0 fits a.1 in
    let g = cond_some (has_plain_owner h) (DeleteKey h.transaction h.prev h.page a.0.0 a.0.1) said a.2 in
    let p = plain h head g.0 in
    subst (IsSpelled h 2 payload) g.1 (record { fits = (p.0, t.1); spelled = same _ _ _ _ _ _ _ _ _ _ _ refl refl p.1 refl t.0 })
entry_takes h kinds.UndoInsert payload said head fits e =
    let a = bind_some (keyed_at payload) _ said e in
    let t = keyed_takes payload a.0 fits a.1 in
    let g = cond_some (has_owner h) (UndoInsert h.transaction h.prev h.undo_next h.page a.0.0 a.0.1) said a.2 in
    subst (IsSpelled h 3 payload) g.1 (record { fits = (owned h head g.0, t.1); spelled = same _ _ _ _ _ _ _ _ _ _ _ refl refl refl refl t.0 })
entry_takes h kinds.UndoDelete payload said head fits e =
    let a = bind_some (keyed_at payload) _ said e in
    let t = keyed_takes payload a.0 fits a.1 in
    let g = cond_some (has_owner h) (UndoDelete h.transaction h.prev h.undo_next h.page a.0.0 a.0.1) said a.2 in
    subst (IsSpelled h 4 payload) g.1 (record { fits = (owned h head g.0, t.1); spelled = same _ _ _ _ _ _ _ _ _ _ _ refl refl refl refl t.0 })
entry_takes h kinds.Smo payload said head fits e =
    let a = bind_some (bodies_at payload) _ said e in
    let t = bodies_takes payload a.0 fits a.1 in
    let g = cond_some (has_plain_owner h) (Smo h.transaction h.prev h.page a.0.0 a.0.1) said a.2 in
    let p = plain h head g.0 in
    subst (IsSpelled h 5 payload) g.1 (record { fits = (p.0, t.1); spelled = same _ _ _ _ _ _ _ _ _ _ _ refl refl p.1 refl t.0 })
entry_takes h kinds.UndoSmo payload said head fits e =
    let a = bind_some (last_body_at payload) _ said e in
    let t = last_body_takes payload a.0 fits a.1 in
    let g = cond_some (has_owner h) (UndoSmo h.transaction h.prev h.undo_next h.page a.0) said a.2 in
    subst (IsSpelled h 6 payload) g.1 (record { fits = (owned h head g.0, t.1); spelled = same _ _ _ _ _ _ _ _ _ _ _ refl refl refl refl t.0 })
entry_takes h kinds.DummyClr payload said head fits e =
    let g = cond_some (has_owner h && eqb h.page 0 && eqb (length payload) 0) (DummyClr h.transaction h.prev h.undo_next) said e in
    let p = and_parts (has_owner h && eqb h.page 0) (eqb (length payload) 0) g.0 in
    let q = and_parts (has_owner h) (eqb h.page 0) p.0 in
    let none : payload ≡ [] = nil_from_length payload (eqb-true _ _ p.1) in
    let page : h.page ≡ 0 = eqb-true _ _ q.1 in
    subst (IsSpelled h 7 payload) g.1 (record { fits = subst (IsOwnedHead h.transaction h.prev h.undo_next) page (owned h head q.0); spelled = same _ _ _ _ _ _ _ _ _ _ _ refl refl refl page none })
entry_takes h kinds.Commit payload said head fits e =
    let g = cond_some (has_plain_owner h && eqb h.page 0 && eqb (length payload) 0) (Commit h.transaction h.prev) said e in
    let p = and_parts (has_plain_owner h && eqb h.page 0) (eqb (length payload) 0) g.0 in
    let q = and_parts (has_plain_owner h) (eqb h.page 0) p.0 in
    let none : payload ≡ [] = nil_from_length payload (eqb-true _ _ p.1) in
    let page : h.page ≡ 0 = eqb-true _ _ q.1 in
    let o = plain h head q.0 in
    subst (IsSpelled h 8 payload) g.1 (record { fits = subst (IsOwnedHead h.transaction h.prev 0) page o.0; spelled = same _ _ _ _ _ _ _ _ _ _ _ refl refl o.1 page none })
entry_takes h kinds.End payload said head fits e =
    let g = cond_some (has_plain_owner h && eqb h.page 0 && eqb (length payload) 0) (End h.transaction h.prev) said e in
    let p = and_parts (has_plain_owner h && eqb h.page 0) (eqb (length payload) 0) g.0 in
    let q = and_parts (has_plain_owner h) (eqb h.page 0) p.0 in
    let none : payload ≡ [] = nil_from_length payload (eqb-true _ _ p.1) in
    let page : h.page ≡ 0 = eqb-true _ _ q.1 in
    let o = plain h head q.0 in
    subst (IsSpelled h 9 payload) g.1 (record { fits = subst (IsOwnedHead h.transaction h.prev 0) page o.0; spelled = same _ _ _ _ _ _ _ _ _ _ _ refl refl o.1 page none })
entry_takes h kinds.Image payload said head fits e =
    let g = cond_some (has_none h && eqb (length payload) 4096) (Image h.page payload) said e in
    let p = and_parts (has_none h) (eqb (length payload) 4096) g.0 in
    let q = and_parts (eqb h.transaction 0 && eqb h.prev 0) (eqb h.undo_next 0) p.0 in
    let r = and_parts (eqb h.transaction 0) (eqb h.prev 0) q.0 in
    let t : h.transaction ≡ 0 = eqb-true _ _ r.0 in
    let v : h.prev ≡ 0 = eqb-true _ _ r.1 in
    let u : h.undo_next ≡ 0 = eqb-true _ _ q.1 in
    subst (IsSpelled h 10 payload) g.1 (record { fits = (head.page, eqb-true _ _ p.1); spelled = same _ _ _ _ _ _ _ _ _ _ _ t v u refl refl })
entry_takes h kinds.Checkpoint payload said head fits e =
    let a = bind_some (tables_at payload) _ said e in
    let x = tables_takes payload a.0 fits a.1 in
    let g = cond_some (has_none h && eqb h.page 0) (Checkpoint a.0.0 a.0.1 a.0.2) said a.2 in
    let p = and_parts (has_none h) (eqb h.page 0) g.0 in
    let q = and_parts (eqb h.transaction 0 && eqb h.prev 0) (eqb h.undo_next 0) p.0 in
    let r = and_parts (eqb h.transaction 0) (eqb h.prev 0) q.0 in
    subst (IsSpelled h 11 payload) g.1
    (record { fits = x.1; spelled = same _ _ _ _ _ _ _ _ _ _ _ (eqb-true _ _ r.0) (eqb-true _ _ r.1) (eqb-true _ _ q.1) (eqb-true _ _ p.1) x.0 })

pub record_takes : (bytes : List ℕ) (said : Entry) → IsBytes bytes → entry_of bytes ≡ Some said → Spells said bytes
unfolding entry_of
record_takes bytes said fits e =
    let a = bind_some (head_at bytes) _ said e in
    let b = bind_some (kind_at a.0.0.kind) _ said a.2 in
    let g = chosen (eqb a.0.0.size (length bytes)) (entry_at a.0.0 b.0 a.0.1) said b.2 in
    let t = head_takes bytes a.0 fits a.1 in
    let s = entry_takes a.0.0 b.0 a.0.1 said t.1 t.0.rest_fits g.1 in
    let size : a.0.0.size ≡ 33 + length a.0.1 = eqb-true _ _ g.0 ∙ ap length t.0.parts ∙ length-append (head_bytes a.0.0) a.0.1 ∙ ap (λ (n : ℕ). n + length a.0.1) (length-head a.0.0) in
    record { fits = s.fits; spelled = t.0.parts ∙ whole_is a.0.0 (number_of b.0) a.0.1 (kind_takes a.0.0.kind b.0 b.1) size ∙ s.spelled }

-- ---- again

read_whole : (k : Kind) (transaction prev undo_next page : ℕ) (payload : List ℕ) → Is64 transaction → Is64 prev → Is64 undo_next → Is32 page → Is32 (33 + length payload)
    → entry_of (whole (number_of k) transaction prev undo_next page payload)
    ≡ entry_at (record { size = 33 + length payload; kind = number_of k; transaction = transaction; prev = prev; undo_next = undo_next; page = page }) k payload
unfolding entry_of
read_whole k transaction prev undo_next page payload t p u g s =
    let h : Head = record { size = 33 + length payload; kind = number_of k; transaction = transaction; prev = prev; undo_next = undo_next; page = page } in
    let again = head_again h payload (record { size = s; transaction = t; prev = p; undo_next = u; page = g }) in
    let is = whole_is h (number_of k) payload refl refl in
    let all : length (head_bytes h ++ payload) ≡ 33 + length payload = length-append (head_bytes h) payload ∙ ap (λ (n : ℕ). n + length payload) (length-head h) in
    let same : eqb (33 + length payload) (length (head_bytes h ++ payload)) ≡ true = eq-eqb _ _ (sym all) in
    ap entry_of (sym is) ∙ rw (again, kind_again k, same) refl

entry_again : (said : Entry) → IsEntry said → entry_of (spelling said) ≡ Some said
unfolding entry_at
entry_again (InsertKey t p g key rid) is =
    read_whole kinds.InsertKey t p 0 g (keyed key rid) is.0.transaction.1 is.0.prev is.0.undo_next is.0.page (omega (arith, length-keyed key rid))
    ∙ rw (keyed_again key rid is.1.0 is.1.1, le-leb 1 t is.0.transaction.0) refl
entry_again (DeleteKey t p g key rid) is =
    read_whole kinds.DeleteKey t p 0 g (keyed key rid) is.0.transaction.1 is.0.prev is.0.undo_next is.0.page (omega (arith, length-keyed key rid))
    ∙ rw (keyed_again key rid is.1.0 is.1.1, le-leb 1 t is.0.transaction.0) refl
entry_again (UndoInsert t p u g key rid) is =
    read_whole kinds.UndoInsert t p u g (keyed key rid) is.0.transaction.1 is.0.prev is.0.undo_next is.0.page (omega (arith, length-keyed key rid))
    ∙ rw (keyed_again key rid is.1.0 is.1.1, le-leb 1 t is.0.transaction.0) refl
entry_again (UndoDelete t p u g key rid) is =
    read_whole kinds.UndoDelete t p u g (keyed key rid) is.0.transaction.1 is.0.prev is.0.undo_next is.0.page (omega (arith, length-keyed key rid))
    ∙ rw (keyed_again key rid is.1.0 is.1.1, le-leb 1 t is.0.transaction.0) refl
entry_again (Smo t p g before after) is =
    read_whole kinds.Smo t p 0 g (blank before ++ blank after) is.0.transaction.1 is.0.prev is.0.undo_next is.0.page
    (omega (arith, length-append (blank before) (blank after), length-blank before is.1.0, length-blank after is.1.1))
    ∙ rw (bodies_again before after is.1.0 is.1.1, le-leb 1 t is.0.transaction.0) refl
entry_again (UndoSmo t p u g after) is =
    read_whole kinds.UndoSmo t p u g (blank after) is.0.transaction.1 is.0.prev is.0.undo_next is.0.page (omega (arith, length-blank after is.1))
    ∙ rw (last_body_again after is.1, le-leb 1 t is.0.transaction.0) refl
entry_again (DummyClr t p u) is =
    read_whole kinds.DummyClr t p u 0 [] is.transaction.1 is.prev is.undo_next is.page (omega arith) ∙ rw (le-leb 1 t is.transaction.0) refl
entry_again (Commit t p) is =
    read_whole kinds.Commit t p 0 0 [] is.transaction.1 is.prev is.undo_next is.page (omega arith) ∙ rw (le-leb 1 t is.transaction.0) refl
entry_again (End t p) is =
    read_whole kinds.End t p 0 0 [] is.transaction.1 is.prev is.undo_next is.page (omega arith) ∙ rw (le-leb 1 t is.transaction.0) refl
entry_again (Image g bytes) is =
    read_whole kinds.Image 0 0 0 g bytes (omega arith) (omega arith) (omega arith) is.0 (omega (arith, is.1)) ∙ rw (eq-eqb _ _ is.1) refl
entry_again (Checkpoint next active dirty) is =
    read_whole kinds.Checkpoint 0 0 0 0 (tables next active dirty) (omega arith) (omega arith) (omega arith) (omega arith)
    (omega (arith, length-tables next active dirty, is.active_most, is.dirty_most))
    ∙ rw (tables_again next active dirty is) refl

pub record_again : (said : Entry) (bytes : List ℕ) → Spells said bytes → entry_of bytes ≡ Some said
record_again said bytes s = ap entry_of s.spelled ∙ entry_again said s.fits

pub one_record : (said other : Entry) (bytes : List ℕ) → Spells said bytes → Spells other bytes → said ≡ other
one_record said other bytes s o = same_Some said other (sym (record_again said bytes s) ∙ record_again other bytes o)

-- a size is a number of bytes
pub size_is : (said : Entry) → length (spelling said) ≡ size_of said
size_is (InsertKey t p g key rid) = omega (arith, length-whole 1 t p 0 g (keyed key rid), length-keyed key rid)
size_is (DeleteKey t p g key rid) = omega (arith, length-whole 2 t p 0 g (keyed key rid), length-keyed key rid)
size_is (UndoInsert t p u g key rid) = omega (arith, length-whole 3 t p u g (keyed key rid), length-keyed key rid)
size_is (UndoDelete t p u g key rid) = omega (arith, length-whole 4 t p u g (keyed key rid), length-keyed key rid)
size_is (Smo t p g before after) = omega (arith, length-whole 5 t p 0 g (blank before ++ blank after), length-append (blank before) (blank after), length-append (word64 0) before, length-append (word64 0) after, length-word64 0)
size_is (UndoSmo t p u g after) = omega (arith, length-whole 6 t p u g (blank after), length-append (word64 0) after, length-word64 0)
size_is (DummyClr t p u) = length-whole 7 t p u 0 []
size_is (Commit t p) = length-whole 8 t p 0 0 []
size_is (End t p) = length-whole 9 t p 0 0 []
size_is (Image g bytes) = length-whole 10 0 0 0 g bytes
size_is (Checkpoint next active dirty) = omega (arith, length-whole 11 0 0 0 0 (tables next active dirty), length-tables next active dirty)

-- a size fits the four bytes in front
size_fits : (said : Entry) → IsEntry said → Is32 (size_of said)
size_fits (InsertKey t p g key rid) is = omega (arith, is.1.0.1)
size_fits (DeleteKey t p g key rid) is = omega (arith, is.1.0.1)
size_fits (UndoInsert t p u g key rid) is = omega (arith, is.1.0.1)
size_fits (UndoDelete t p u g key rid) is = omega (arith, is.1.0.1)
size_fits (Smo t p g before after) is = omega (arith, is.1.0, is.1.1)
size_fits (UndoSmo t p u g after) is = omega (arith, is.1)
size_fits (DummyClr t p u) is = omega arith
size_fits (Commit t p) is = omega arith
size_fits (End t p) is = omega arith
size_fits (Image g bytes) is = omega (arith, is.1)
size_fits (Checkpoint next active dirty) is = omega (arith, is.active_most, is.dirty_most)

whole_size : (kind t p u g : ℕ) (payload rest : List ℕ) → Is32 (length (whole kind t p u g payload)) → (x : ℕ × List ℕ) × (word32_at (whole kind t p u g payload ++ rest) ≡ Some x) × (x.0 ≡ length (whole kind t p u g payload))
unfolding front
whole_size kind t p u g payload rest fits =
    let more = (kind ∷ []) ++ (word64 t ++ (word64 p ++ (word64 u ++ (word32 g ++ (payload ++ rest))))) in
    let regrouped : whole kind t p u g payload ++ rest ≡ word32 (33 + length payload) ++ more = simp append_assoc in
    let size : length (whole kind t p u g payload) ≡ 33 + length payload = length-whole kind t p u g payload in
    ((33 + length payload, more), ap word32_at regrouped ∙ word32_field.again (33 + length payload) more (omega (arith, size, fits)), sym size)

-- the size stands in front of the record
leads : (said : Entry) (rest : List ℕ) → Is32 (length (spelling said)) → (x : ℕ × List ℕ) × (word32_at (spelling said ++ rest) ≡ Some x) × (x.0 ≡ length (spelling said))
leads (InsertKey t p g key rid) rest fits = whole_size 1 t p 0 g (keyed key rid) rest fits
leads (DeleteKey t p g key rid) rest fits = whole_size 2 t p 0 g (keyed key rid) rest fits
leads (UndoInsert t p u g key rid) rest fits = whole_size 3 t p u g (keyed key rid) rest fits
leads (UndoDelete t p u g key rid) rest fits = whole_size 4 t p u g (keyed key rid) rest fits
leads (Smo t p g before after) rest fits = whole_size 5 t p 0 g (blank before ++ blank after) rest fits
leads (UndoSmo t p u g after) rest fits = whole_size 6 t p u g (blank after) rest fits
leads (DummyClr t p u) rest fits = whole_size 7 t p u 0 [] rest fits
leads (Commit t p) rest fits = whole_size 8 t p 0 0 [] rest fits
leads (End t p) rest fits = whole_size 9 t p 0 0 [] rest fits
leads (Image g bytes) rest fits = whole_size 10 0 0 0 g bytes rest fits
leads (Checkpoint next active dirty) rest fits = whole_size 11 0 0 0 0 (tables next active dirty) rest fits

pub size_in_front : (said : Entry) (rest : List ℕ) → IsEntry said → (x : ℕ × List ℕ) × (word32_at (spelling said ++ rest) ≡ Some x) × (x.0 ≡ length (spelling said))
size_in_front said rest is = leads said rest (omega (arith, size_is said, size_fits said is))

pub first_again : (said : Entry) (rest : List ℕ) → IsEntry said → first_entry (spelling said ++ rest) ≡ Some (said, rest)
unfolding first_entry
first_again said rest is =
    let there = size_in_front said rest is in
    let cut : part_at there.0.0 (spelling said ++ rest) ≡ Some (spelling said, rest) = part_again there.0.0 (spelling said) rest (sym there.2) in
    rw (there.1, cut, entry_again said is) refl

pub first_takes : (bytes : List ℕ) (x : Entry × List ℕ) → IsBytes bytes → first_entry bytes ≡ Some x → (bytes ≡ spelling x.0 ++ x.1) × IsEntry x.0
unfolding first_entry
first_takes bytes x fits e =
    let a = bind_some (word32_at bytes) _ x e in
    let b = bind_some (part_at a.0.0 bytes) _ x a.2 in
    let c = bind_some (entry_of b.0.0) _ x b.2 in
    let t = part_takes a.0.0 bytes b.0 fits b.1 in
    let s = record_takes b.0.0 c.0 t.2 c.1 in
    let made : Entry × List ℕ = (c.0, b.0.1) in
    subst (λ (y : Entry × List ℕ). (bytes ≡ spelling y.0 ++ y.1) × IsEntry y.0) (same_Some made x c.2)
    (t.0.parts ∙ ap (λ (front_bytes : List ℕ). front_bytes ++ b.0.1) s.spelled, s.fits)

-- the first four bytes are the length
pub length_first : (said : Entry) (rest : List ℕ) → IsEntry said → from_be_bytes w32 (take 4 (spelling said ++ rest)) ≡ size_of said
unfolding word32_at part_at
length_first said rest is =
    let bytes = spelling said ++ rest in
    let there = size_in_front said rest is in
    let a = bind_some (part_at 4 bytes) _ there.0 there.1 in
    let g = cond_some (leb 4 (length bytes)) (take 4 bytes, drop 4 bytes) a.0 a.1 in
    ap (λ (x : List ℕ × List ℕ). from_be_bytes w32 x.0) g.1 ∙ ap (λ (x : ℕ × List ℕ). x.0) (same_Some (from_be_bytes w32 a.0.0, a.0.1) there.0 a.2) ∙ there.2 ∙ size_is said
