-- What the head of a record says of it.
use Rattle.std.proofs.Common.{◌≡◌, ℕ, ◌≤◌, ◌==◌, ◌&&◌, Bool, true, false, List, [], ◌∷◌, length, slice_index, take, drop, Option, Some, None, refl, sym, ◌∙◌, ap, subst, arith, length-drop, drop-drop, get_or-drop}
use Rattle.std.specs.Prelude.{nat_le, if◌then◌else◌}
use Rattle.std.specs.Int.{w32, from_be_bytes}
use Rattle.std.proofs.lemmas.Bool.{eqb-true, leb-true, and_parts}
use Rattle.std.proofs.lemmas.Option.{cond_some, same_Some}
use Rattle.im_log_record.specs.declared.kind.Kind.{Kind}
use Rattle.im_log_record.specs.declared.kind.Kind.TheVariants as kinds
use Rattle.im_log_record.specs.Entry.{Entry, page_of}
use Rattle.im_log_record.specs.Kind.{kind_at, kind_of, number_of}
use Rattle.im_log_record.specs.Reading.{byte_at, part_at, word32_at, word64_at, head_at, keyed_at, bodies_at, last_body_at, tables_at, entry_at, entry_of, has_owner, has_plain_owner, has_none}
use Rattle.im_log_record.proofs.Heads.{kind_takes}
use Rattle.im_log_record.proofs.Words.{bind_some}

-- ---- fields

record Part (n : ℕ) (bytes : List ℕ) (x : List ℕ × List ℕ) : Type 0 where
  fits : n ≤ length bytes
  front : x.0 ≡ take n bytes
  rest : x.1 ≡ drop n bytes

part : (n : ℕ) (bytes : List ℕ) (x : List ℕ × List ℕ) → part_at n bytes ≡ Some x → Part n bytes x
unfolding part_at
part n bytes x is =
    let g = cond_some (nat_le n (length bytes)) (take n bytes, drop n bytes) x is in
    record { fits = leb-true n (length bytes) g.0; front = ap (λ (y : List ℕ × List ℕ). y.0) (sym g.1); rest = ap (λ (y : List ℕ × List ℕ). y.1) (sym g.1) }

-- a field of so many bytes
record Field (n : ℕ) (bytes : List ℕ) (rest : List ℕ) : Type 0 where
  fits : n ≤ length bytes
  is : rest ≡ drop n bytes

word64 : (bytes : List ℕ) (x : ℕ × List ℕ) → word64_at bytes ≡ Some x → Field 8 bytes x.1
unfolding word64_at
word64 bytes x is =
    let a = bind_some (part_at 8 bytes) _ x is in
    let p = part 8 bytes a.0 a.1 in
    record { fits = p.fits; is = ap (λ (y : ℕ × List ℕ). y.1) (sym (same_Some _ x a.2)) ∙ p.rest }

record Word32 (bytes : List ℕ) (x : ℕ × List ℕ) : Type 0 where
  field : Field 4 bytes x.1
  number : x.0 ≡ from_be_bytes w32 (take 4 bytes)

word32 : (bytes : List ℕ) (x : ℕ × List ℕ) → word32_at bytes ≡ Some x → Word32 bytes x
unfolding word32_at
word32 bytes x is =
    let a = bind_some (part_at 4 bytes) _ x is in
    let p = part 4 bytes a.0 a.1 in
    let same = sym (same_Some _ x a.2) in
    record {
      field = record { fits = p.fits; is = ap (λ (y : ℕ × List ℕ). y.1) same ∙ p.rest };
      number = ap (λ (y : ℕ × List ℕ). y.0) same ∙ ap (from_be_bytes w32) p.front;
    }

record Byte (bytes : List ℕ) (x : ℕ × List ℕ) : Type 0 where
  field : Field 1 bytes x.1
  number : x.0 ≡ slice_index bytes 0

byte : (bytes : List ℕ) (x : ℕ × List ℕ) → byte_at bytes ≡ Some x → Byte bytes x
unfolding byte_at
byte [] x is = absurd (let never : None ≡ Some x = is in cc)
byte (b ∷ rest) x is =
    let same = sym (same_Some (b, rest) x is) in
    record { field = record { fits = omega arith; is = ap (λ (y : ℕ × List ℕ). y.1) same }; number = ap (λ (y : ℕ × List ℕ). y.0) same }

-- ---- the head

-- what a reader answers, beside the bytes after it
abbrev Answer : {A B : Type 0} → (List ℕ → Option (A × B)) → Type 0
Answer {A} read = A

abbrev Head : Type 0
Head = Answer head_at

pub record IsHeadOf (bytes : List ℕ) (h : Head) : Type 0 where
  pub long : 33 ≤ length bytes
  pub size : h.size ≡ from_be_bytes w32 (take 4 bytes)
  pub kind : h.kind ≡ slice_index bytes 4
  pub page : h.page ≡ from_be_bytes w32 (take 4 (drop 29 bytes))

head : (bytes : List ℕ) (x : Head × List ℕ) → head_at bytes ≡ Some x → IsHeadOf bytes x.0
unfolding head_at
head bytes x is =
    let a = bind_some (word32_at bytes) _ x is in
    let b = bind_some (byte_at a.0.1) _ x a.2 in
    let c = bind_some (word64_at b.0.1) _ x b.2 in
    let d = bind_some (word64_at c.0.1) _ x c.2 in
    let f = bind_some (word64_at d.0.1) _ x d.2 in
    let g = bind_some (word32_at f.0.1) _ x f.2 in
    let size = word32 bytes a.0 a.1 in
    let kind = byte a.0.1 b.0 b.1 in
    let transaction = word64 b.0.1 c.0 c.1 in
    let prev = word64 c.0.1 d.0 d.1 in
    let undo = word64 d.0.1 f.0 f.1 in
    let page = word32 f.0.1 g.0 g.1 in
    let five : b.0.1 ≡ drop 5 bytes = kind.field.is ∙ ap (drop 1) size.field.is ∙ drop-drop 1 4 bytes in
    let more : c.0.1 ≡ drop 13 bytes = transaction.is ∙ ap (drop 8) five ∙ drop-drop 8 5 bytes in
    let again : d.0.1 ≡ drop 21 bytes = prev.is ∙ ap (drop 8) more ∙ drop-drop 8 13 bytes in
    let at : f.0.1 ≡ drop 29 bytes = undo.is ∙ ap (drop 8) again ∙ drop-drop 8 21 bytes in
    let same = sym (same_Some _ x g.2) in
    let fits : 4 ≤ length (drop 29 bytes) = subst (λ (l : List ℕ). 4 ≤ length l) at page.field.fits in
    record {
      long = omega (arith, fits, length-drop 29 bytes);
      size = ap (λ (y : Head × List ℕ). y.0.size) same ∙ size.number;
      kind = ap (λ (y : Head × List ℕ). y.0.kind) same ∙ kind.number ∙ ap (λ (l : List ℕ). slice_index l 0) size.field.is ∙ get_or-drop 4 bytes 0 0;
      page = ap (λ (y : Head × List ℕ). y.0.page) same ∙ page.number ∙ ap (λ (l : List ℕ). from_be_bytes w32 (take 4 l)) at;
    }

-- ---- the record

record IsOf (h : Head) (k : Kind) (said : Entry) : Type 0 where
  kind : kind_of said ≡ k
  page : page_of said ≡ h.page

of : (h : Head) (k : Kind) (some said : Entry) → some ≡ said → kind_of some ≡ k → page_of some ≡ h.page → IsOf h k said
of h k some said same kind page = record { kind = ap kind_of (sym same) ∙ kind; page = ap page_of (sym same) ∙ page }

-- a record of no page, by three tests
no_page : (h : Head) (k : Kind) (one : Bool) (last : Bool) (some said : Entry) → (one && h.page == 0 && last) ≡ true → some ≡ said → kind_of some ≡ k → page_of some ≡ 0 → IsOf h k said
no_page h k one last some said tests same kind page =
    let q = and_parts (one && h.page == 0) last tests in
    let p = and_parts one (h.page == 0) q.0 in
    of h k some said same kind (page ∙ sym (eqb-true h.page 0 p.1))

entry : (h : Head) (k : Kind) (payload : List ℕ) (said : Entry) → entry_at h k payload ≡ Some said → IsOf h k said
unfolding entry_at
entry h kinds.InsertKey payload said is =
    let a = bind_some (keyed_at payload) _ said is in let g = cond_some (has_plain_owner h) _ said a.2 in of h kinds.InsertKey _ said g.1 refl refl
entry h kinds.DeleteKey payload said is =
    let a = bind_some (keyed_at payload) _ said is in let g = cond_some (has_plain_owner h) _ said a.2 in of h kinds.DeleteKey _ said g.1 refl refl
entry h kinds.UndoInsert payload said is =
    let a = bind_some (keyed_at payload) _ said is in let g = cond_some (has_owner h) _ said a.2 in of h kinds.UndoInsert _ said g.1 refl refl
entry h kinds.UndoDelete payload said is =
    let a = bind_some (keyed_at payload) _ said is in let g = cond_some (has_owner h) _ said a.2 in of h kinds.UndoDelete _ said g.1 refl refl
entry h kinds.Smo payload said is =
    let a = bind_some (bodies_at payload) _ said is in let g = cond_some (has_plain_owner h) _ said a.2 in of h kinds.Smo _ said g.1 refl refl
entry h kinds.UndoSmo payload said is =
    let a = bind_some (last_body_at payload) _ said is in let g = cond_some (has_owner h) _ said a.2 in of h kinds.UndoSmo _ said g.1 refl refl
entry h kinds.DummyClr payload said is =
    let g = cond_some (has_owner h && h.page == 0 && length payload == 0) _ said is in no_page h kinds.DummyClr (has_owner h) (length payload == 0) _ said g.0 g.1 refl refl
entry h kinds.Commit payload said is =
    let g = cond_some (has_plain_owner h && h.page == 0 && length payload == 0) _ said is in no_page h kinds.Commit (has_plain_owner h) (length payload == 0) _ said g.0 g.1 refl refl
entry h kinds.End payload said is =
    let g = cond_some (has_plain_owner h && h.page == 0 && length payload == 0) _ said is in no_page h kinds.End (has_plain_owner h) (length payload == 0) _ said g.0 g.1 refl refl
entry h kinds.Image payload said is = let g = cond_some (has_none h && length payload == 4096) _ said is in of h kinds.Image _ said g.1 refl refl
entry h kinds.Checkpoint payload said is =
    let a = bind_some (tables_at payload) _ said is in
    let g = cond_some (has_none h && h.page == 0) _ said a.2 in
    let p = and_parts (has_none h) (h.page == 0) g.0 in
    of h kinds.Checkpoint _ said g.1 refl (sym (eqb-true h.page 0 p.1))

-- What the first 33 bytes of a record say: its length, its kind and its page.
pub record Heads (bytes : List ℕ) (said : Entry) : Type 0 where
  pub long : 33 ≤ length bytes
  pub kind : slice_index bytes 4 ≡ number_of (kind_of said)
  pub page : from_be_bytes w32 (take 4 (drop 29 bytes)) ≡ page_of said

pub heads : (bytes : List ℕ) (said : Entry) → entry_of bytes ≡ Some said → Heads bytes said
unfolding entry_of
heads bytes said is =
    let a = bind_some (head_at bytes) _ said is in
    let b = bind_some (kind_at a.0.0.kind) _ said a.2 in
    let g = chosen (a.0.0.size == length bytes) (entry_at a.0.0 b.0 a.0.1) said b.2 in
    let h = head bytes a.0 a.1 in
    let e = entry a.0.0 b.0 a.0.1 said g in
    record {
      long = h.long;
      kind = sym h.kind ∙ kind_takes a.0.0.kind b.0 b.1 ∙ ap number_of (sym e.kind);
      page = sym h.page ∙ sym e.page;
    }
  where
    chosen : (t : Bool) (o : Option Entry) (y : Entry) → (if t then o else None) ≡ Some y → o ≡ Some y
    chosen true o y e = e
    chosen false o y e = absurd (let never : None ≡ Some y = e in cc)
