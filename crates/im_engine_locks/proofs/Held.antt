-- Lists of locks, as one is added at the end or taken from there, and as requests are kept.
use Rattle.std.proofs.Common.{◌≡◌, Bool, true, false, ◌&&◌, ◌||◌, List, [], ◌∷◌, ◌++◌, length, take, get_or, ℕ, ◌<◌, ◌+◌, refl, ap, sym, ◌∙◌, arith}
use Rattle.std.proofs.lemmas.Grind.{common_steps}
use Rattle.im_theory_machine.specs.Locks.{Name, Lock, Request}
use Rattle.im_engine_locks.specs.Requests.{row, requested}
use Rattle.im_engine_locks.specs.Index.{same_lock, is_held, IsOnce, asks_for}
use Rattle.im_engine_locks.specs.declared.request.Request.{Request as RequestInCode}
use Rattle.im_theory_machine.specs.declared.lock_kind.Mode.{Mode}
use Rattle.im_theory_machine.specs.declared.lock_kind.Duration.{Duration}
use Rattle.im_theory_machine.proofs.Bools.{or_assoc, or_false, or_true, first_of_or, second_of_or, neither, last_of_three}
use Rattle.im_engine_locks.proofs.Least.{row-step}
use Rattle.im_engine_locks.proofs.Names.{same_lock-name, same_lock-mode, same_lock-turned}

pub is_held-append : (ls ks : List Lock) (n : Name) (m : Mode) → is_held (ls ++ ks) n m ≡ (is_held ls n m || is_held ks n m)
is_held-append [] ks n m = refl
is_held-append (l ∷ ls) ks n m =
    ap (λ b. same_lock l n m || b) (is_held-append ls ks n m) ∙ sym (or_assoc (same_lock l n m) (is_held ls n m) (is_held ks n m))

pub is_held-push : (ls : List Lock) (l : Lock) (n : Name) (m : Mode) → is_held (ls ++ l ∷ []) n m ≡ (is_held ls n m || same_lock l n m)
is_held-push ls l n m = is_held-append ls (l ∷ []) n m ∙ ap (λ b. is_held ls n m || b) (or_false (same_lock l n m))

pub IsOnce-push : (ls : List Lock) (l : Lock) → IsOnce ls → is_held ls l.name l.mode ≡ false → IsOnce (ls ++ l ∷ [])
IsOnce-push [] l o h = (refl, tt)
IsOnce-push (k ∷ ks) l o h =
    (is_held-push ks l k.name k.mode ∙ neither (is_held ks k.name k.mode) (same_lock l k.name k.mode) o.0 (same_lock-turned l k ∙ first_of_or (same_lock k l.name l.mode) (is_held ks l.name l.mode) h), IsOnce-push ks l o.1 (second_of_or (same_lock k l.name l.mode) (is_held ks l.name l.mode) h))

pub IsOnce-front : (ls : List Lock) (l : Lock) → IsOnce (ls ++ l ∷ []) → IsOnce ls
IsOnce-front [] l o = tt
IsOnce-front (k ∷ ks) l o = (first_of_or (is_held ks k.name k.mode) (same_lock l k.name k.mode) (sym (is_held-push ks l k.name k.mode) ∙ o.0), IsOnce-front ks l o.1)

-- what is said of a lock holds of one that is equal
by_lock : (ks : List Lock) (l : Lock) (n : Name) (m : Mode) → same_lock l n m ≡ true → is_held ks n m ≡ is_held ks l.name l.mode
by_lock ks l n m e = ap (λ k. is_held ks k m) (sym (same_lock-name l n m e)) ∙ ap (λ k. is_held ks l.name k) (sym (same_lock-mode l n m e))

-- nothing is new where it is held already
pub held-already : (ls : List Lock) (l : Lock) → is_held ls l.name l.mode ≡ true → (n : Name) (m : Mode) → is_held ls n m ≡ (is_held ls n m || same_lock l n m)
held-already ls l there n m = go (same_lock l n m) (is_held ls n m) (λ e. by_lock ls l n m e ∙ there)
  where
    go : (x a : Bool) → (x ≡ true → a ≡ true) → a ≡ (a || x)
    go true a h = h refl ∙ sym (or_true a true refl)
    go false a h = sym (or_false a)

-- one lock more among those that last, and among those that fall back
pub held-first : (ls ks fs : List Lock) (l : Lock) → ((n : Name) (m : Mode) → is_held ks n m ≡ (is_held ls n m || same_lock l n m)) → (n : Name) (m : Mode) → is_held (ks ++ fs) n m ≡ (is_held (ls ++ fs) n m || same_lock l n m)
held-first ls ks fs l more n m =
    is_held-append ks fs n m
    ∙ (ap (λ b. b || is_held fs n m) (more n m)
    ∙ (last_of_three (is_held ls n m) (same_lock l n m) (is_held fs n m) ∙ ap (λ b. b || same_lock l n m) (sym (is_held-append ls fs n m))))

pub held-second : (ls fs ks : List Lock) (l : Lock) → ((n : Name) (m : Mode) → is_held ks n m ≡ (is_held fs n m || same_lock l n m)) → (n : Name) (m : Mode) → is_held (ls ++ ks) n m ≡ (is_held (ls ++ fs) n m || same_lock l n m)
held-second ls fs ks l more n m =
    is_held-append ls ks n m
    ∙ (ap (λ b. is_held ls n m || b) (more n m)
    ∙ (sym (or_assoc (is_held ls n m) (is_held fs n m) (same_lock l n m)) ∙ ap (λ b. b || same_lock l n m) (sym (is_held-append ls fs n m))))

-- ---- what is kept of the requests

pub asks-append : (passes : Duration → Bool) (qs rs : List Request) (n : Name) (m : Mode) → asks_for passes (qs ++ rs) n m ≡ (asks_for passes qs n m || asks_for passes rs n m)
asks-append passes [] rs n m = refl
asks-append passes (q ∷ qs) rs n m =
    ap (λ b. (passes q.duration && same_lock (record { name = q.name; mode = q.mode }) n m) || b) (asks-append passes qs rs n m)
    ∙ sym (or_assoc (passes q.duration && same_lock (record { name = q.name; mode = q.mode }) n m) (asks_for passes qs n m) (asks_for passes rs n m))

-- one request more is kept
pub held-step : (passes : Duration → Bool) (first now next : List Lock) (qs : List RequestInCode) (i : ℕ) (d : RequestInCode) → i < length qs → ((n : Name) (m : Mode) → is_held now n m ≡ (is_held first n m || asks_for passes (row (take i qs)) n m)) → ((n : Name) (m : Mode) → is_held next n m ≡ (is_held now n m || asks_for passes (requested (get_or qs i d) ∷ []) n m)) → (n : Name) (m : Mode) → is_held next n m ≡ (is_held first n m || asks_for passes (row (take (i + 1) qs)) n m)
held-step passes first now next qs i d lt h k n m =
    k n m
    ∙ (ap (λ b. b || asks_for passes (requested (get_or qs i d) ∷ []) n m) (h n m)
    ∙ (or_assoc (is_held first n m) (asks_for passes (row (take i qs)) n m) (asks_for passes (requested (get_or qs i d) ∷ []) n m)
    ∙ ap (λ b. is_held first n m || b) (sym (ap (λ rs. asks_for passes rs n m) (row-step qs i d lt) ∙ asks-append passes (row (take i qs)) (requested (get_or qs i d) ∷ []) n m))))

-- a front of a front
pub front-on : {A : Type 0} (xs ys zs : List A) → take (length xs) ys ≡ xs → take (length ys) zs ≡ ys → take (length xs) zs ≡ xs
front-on xs ys zs p q = grind (arith, common_steps)
