-- The fields in front of every record.
use Rattle.std.proofs.Common.{◌≡◌, ℕ, zero, suc, ◌+◌, List, [], ◌∷◌, ◌++◌, length, Some, refl, ap, subst, ◌∙◌, append_assoc, length-append}
use Rattle.std.proofs.lemmas.Option.{same_Some}
use Rattle.im_log_record.specs.declared.fields.Head.{Head}
use Rattle.im_log_record.specs.declared.kind.Kind.{Kind}
use Rattle.im_log_record.specs.declared.kind.Kind.TheVariants as kinds
use Rattle.im_log_record.specs.Kind.{number_of, kind_at}
use Rattle.im_log_record.specs.Spelling.{word32, word64, Is32, Is64, front, whole}
use Rattle.im_log_record.specs.Reading.{IsBytes, byte_at, word32_at, word64_at, head_at}
use Rattle.im_log_record.proofs.Words.{bind_some, Takes, Takes-then, byte_takes, byte_again, word32_field, word64_field, length-word32, length-word64}

pub record IsHead (h : Head) : Type 0 where
  pub size : Is32 h.size
  pub transaction : Is64 h.transaction
  pub prev : Is64 h.prev
  pub undo_next : Is64 h.undo_next
  pub page : Is32 h.page

pub head_bytes : Head → List ℕ
head_bytes h = word32 h.size ++ ((h.kind ∷ []) ++ (word64 h.transaction ++ (word64 h.prev ++ (word64 h.undo_next ++ word32 h.page))))

pub head_takes : (bytes : List ℕ) (x : Head × List ℕ) → IsBytes bytes → head_at bytes ≡ Some x → Takes bytes (head_bytes x.0) x.1 × IsHead x.0
unfolding head_at head_bytes
head_takes bytes x fits e =
    let a = bind_some (word32_at bytes) _ x e in
    let b = bind_some (byte_at a.0.1) _ x a.2 in
    let c = bind_some (word64_at b.0.1) _ x b.2 in
    let d = bind_some (word64_at c.0.1) _ x c.2 in
    let f = bind_some (word64_at d.0.1) _ x d.2 in
    let g = bind_some (word32_at f.0.1) _ x f.2 in
    let ta = word32_field.takes bytes a.0 fits a.1 in
    let tb = byte_takes a.0.1 b.0 ta.0.rest_fits b.1 in
    let tc = word64_field.takes b.0.1 c.0 tb.0.rest_fits c.1 in
    let td = word64_field.takes c.0.1 d.0 tc.0.rest_fits d.1 in
    let tf = word64_field.takes d.0.1 f.0 td.0.rest_fits f.1 in
    let tg = word32_field.takes f.0.1 g.0 tf.0.rest_fits g.1 in
    let all = Takes-then _ _ _ _ _ ta.0 (Takes-then _ _ _ _ _ tb.0 (Takes-then _ _ _ _ _ tc.0 (Takes-then _ _ _ _ _ td.0 (Takes-then _ _ _ _ _ tf.0 tg.0)))) in
    let made : Head × List ℕ = (record { size = a.0.0; kind = b.0.0; transaction = c.0.0; prev = d.0.0; undo_next = f.0.0; page = g.0.0 }, g.0.1) in
    subst (λ (y : Head × List ℕ). Takes bytes (head_bytes y.0) y.1 × IsHead y.0) {x = made} (same_Some made x g.2)
    (all, record { size = ta.1; transaction = tc.1; prev = td.1; undo_next = tf.1; page = tg.1 })

pub head_again : (h : Head) (rest : List ℕ) → IsHead h → head_at (head_bytes h ++ rest) ≡ Some (h, rest)
unfolding head_at head_bytes
head_again h rest fits =
    let regrouped : head_bytes h ++ rest ≡ word32 h.size ++ ((h.kind ∷ []) ++ (word64 h.transaction ++ (word64 h.prev ++ (word64 h.undo_next ++ (word32 h.page ++ rest))))) = simp append_assoc in
    ap head_at regrouped ∙ rw (word32_field.again h.size _ fits.size, byte_again h.kind _, word64_field.again h.transaction _ fits.transaction, word64_field.again h.prev _ fits.prev, word64_field.again h.undo_next _ fits.undo_next, word32_field.again h.page rest fits.page) refl

pub length-head : (h : Head) → length (head_bytes h) ≡ 33
unfolding head_bytes
length-head h = simp (length-append, length-word32, length-word64)

pub head_front : (h : Head) (kind added : ℕ) → h.kind ≡ kind → h.size ≡ 33 + added → head_bytes h ≡ front kind h.transaction h.prev h.undo_next h.page added
unfolding head_bytes front
head_front h kind added k s = rw (k, s) (simp append_assoc)

-- a record is its head and its payload
pub whole_is : (h : Head) (kind : ℕ) (payload : List ℕ) → h.kind ≡ kind → h.size ≡ 33 + length payload → head_bytes h ++ payload ≡ whole kind h.transaction h.prev h.undo_next h.page payload
whole_is h kind payload k s = ap (λ (t : List ℕ). t ++ payload) (head_front h kind (length payload) k s)

pub length-front : (kind transaction prev undo_next page added : ℕ) → length (front kind transaction prev undo_next page added) ≡ 33
unfolding front
length-front kind transaction prev undo_next page added = simp (length-append, length-word32, length-word64)

pub length-whole : (kind transaction prev undo_next page : ℕ) (payload : List ℕ) → length (whole kind transaction prev undo_next page payload) ≡ 33 + length payload
length-whole kind transaction prev undo_next page payload =
    length-append (front kind transaction prev undo_next page (length payload)) payload ∙ ap (λ (n : ℕ). n + length payload) (length-front kind transaction prev undo_next page (length payload))

-- ---- kinds

pub kind_again : (k : Kind) → kind_at (number_of k) ≡ Some k
kind_again kinds.InsertKey = refl
kind_again kinds.DeleteKey = refl
kind_again kinds.UndoInsert = refl
kind_again kinds.UndoDelete = refl
kind_again kinds.Smo = refl
kind_again kinds.UndoSmo = refl
kind_again kinds.DummyClr = refl
kind_again kinds.Commit = refl
kind_again kinds.End = refl
kind_again kinds.Image = refl
kind_again kinds.Checkpoint = refl

number_is : (j k : Kind) → Some j ≡ Some k → number_of j ≡ number_of k
number_is j k e = ap number_of (same_Some j k e)

pub kind_takes : (n : ℕ) (k : Kind) → kind_at n ≡ Some k → n ≡ number_of k
kind_takes zero k e = absurd cc
kind_takes (suc zero) k e = number_is kinds.InsertKey k e
kind_takes (suc (suc zero)) k e = number_is kinds.DeleteKey k e
kind_takes (suc (suc (suc zero))) k e = number_is kinds.UndoInsert k e
kind_takes (suc (suc (suc (suc zero)))) k e = number_is kinds.UndoDelete k e
kind_takes (suc (suc (suc (suc (suc zero))))) k e = number_is kinds.Smo k e
kind_takes (suc (suc (suc (suc (suc (suc zero)))))) k e = number_is kinds.UndoSmo k e
kind_takes (suc (suc (suc (suc (suc (suc (suc zero))))))) k e = number_is kinds.DummyClr k e
kind_takes (suc (suc (suc (suc (suc (suc (suc (suc zero)))))))) k e = number_is kinds.Commit k e
kind_takes (suc (suc (suc (suc (suc (suc (suc (suc (suc zero))))))))) k e = number_is kinds.End k e
kind_takes (suc (suc (suc (suc (suc (suc (suc (suc (suc (suc zero)))))))))) k e = number_is kinds.Image k e
kind_takes (suc (suc (suc (suc (suc (suc (suc (suc (suc (suc (suc zero))))))))))) k e = number_is kinds.Checkpoint k e
kind_takes (suc (suc (suc (suc (suc (suc (suc (suc (suc (suc (suc (suc n)))))))))))) k e = absurd cc
