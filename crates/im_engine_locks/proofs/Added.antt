-- A lock put at the end of a list beside its place, and one taken from there.
use Rattle.std.proofs.Common.{◌≡◌, ℕ, true, false, ◌||◌, List, [], ◌∷◌, ◌++◌, length, map, ap, sym, subst, ◌∙◌}
use Rattle.std.proofs.lemmas.List.{map-append, length-map}
use Rattle.im_theory_machine.specs.Locks.{Name, Lock}
use Rattle.im_theory_machine.specs.declared.lock_kind.Mode.{Mode}
use Rattle.im_engine_locks.specs.Index.{seen, same_lock, is_held, IsOnce}
use Rattle.im_engine_locks.specs.Places.{is_among, is_at, finds, places_at, Covers, KeepsAll, KeepsBut}
use Rattle.im_engine_locks.specs.declared.place.Place.{Place}
use Rattle.im_engine_locks.specs.declared.place.Span.{Span}
use Rattle.im_engine_locks.specs.declared.name_index.NameIndex.{NameIndex}
use Rattle.im_engine_locks.specs.declared.stored_lock.StoredLock.{StoredLock}
use Rattle.im_engine_locks.proofs.Held.{is_held-push, IsOnce-push, IsOnce-front, held-already}
use Rattle.im_engine_locks.proofs.Places.{finds-exactly, covers-pushed, covers-taken, at-front}

-- ---- one that was not there

pub added-known : (old new : NameIndex) (t : ℕ) (f : Span) (items : List StoredLock) (now : List Lock) (l : Lock) (place : ℕ) → Covers old t f (map seen items) → now ≡ map seen items ++ l ∷ [] → KeepsAll old new → place ≡ length items → is_among (places_at new l.name) t f place ≡ true → Covers new t f now
added-known old new t f items now l place covers list kept last there =
    covers-pushed old new t f (map seen items) now l covers list kept (subst (λ k. is_among (places_at new l.name) t f k ≡ true) (last ∙ sym (length-map items seen)) there)

pub added-once : (old : NameIndex) (t : ℕ) (f : Span) (ls now : List Lock) (l : Lock) → Covers old t f ls → IsOnce ls → finds (places_at old l.name) t f ls l.name l.mode ≡ false → now ≡ ls ++ l ∷ [] → IsOnce now
added-once old t f ls now l covers once none list = subst (λ (xs : List Lock). IsOnce xs) (sym list) (IsOnce-push ls l once (sym (finds-exactly old t f ls l.name l.mode covers) ∙ none))

pub added-held : (ls now : List Lock) (l : Lock) → now ≡ ls ++ l ∷ [] → (n : Name) (m : Mode) → is_held now n m ≡ (is_held ls n m || same_lock l n m)
added-held ls now l list n m = ap (λ (xs : List Lock). is_held xs n m) list ∙ is_held-push ls l n m

-- ---- one that was there

pub there-held : (old : NameIndex) (t : ℕ) (f : Span) (ls : List Lock) (l : Lock) → Covers old t f ls → finds (places_at old l.name) t f ls l.name l.mode ≡ true → (n : Name) (m : Mode) → is_held ls n m ≡ (is_held ls n m || same_lock l n m)
there-held old t f ls l covers found = held-already ls l (sym (finds-exactly old t f ls l.name l.mode covers) ∙ found)

-- ---- one taken from the end

pub popped-known : (old new : NameIndex) (p : Place) (items left : List StoredLock) (l : StoredLock) → items ≡ left ++ l ∷ [] → Covers old p.owner p.span (map seen items) → p.at ≡ length left → KeepsBut p old new → Covers new p.owner p.span (map seen left)
popped-known old new p items left l list covers last kept =
    covers-taken old new p (map seen left)
    (λ i n m h. covers i n m (ap (λ (xs : List Lock). is_at xs i n m) (ap (map seen) list ∙ map-append seen left (l ∷ [])) ∙ (at-front (map seen left) (seen l) i n m h).0))
    (last ∙ sym (length-map left seen))
    kept

pub popped-once : (items left : List StoredLock) (l : StoredLock) → items ≡ left ++ l ∷ [] → IsOnce (map seen items) → IsOnce (map seen left)
popped-once items left l list once = IsOnce-front (map seen left) (seen l) (subst (λ (xs : List Lock). IsOnce xs) (ap (map seen) list ∙ map-append seen left (l ∷ [])) once)

-- ---- one added and taken back

pub back-known : (old added new : NameIndex) (p : Place) (items : List StoredLock) → Covers old p.owner p.span (map seen items) → KeepsAll old added → p.at ≡ length items → KeepsBut p added new → Covers new p.owner p.span (map seen items)
back-known old added new p items covers all last but =
    covers-taken added new p (map seen items) (λ i n m h. all n p.owner p.span i (covers i n m h)) (last ∙ sym (length-map items seen)) but
