-- The tests of names, modes and locks decide equality.
use Rattle.std.proofs.Common.{◌≡◌, true, refl, ap}
use Rattle.std.specs.Cmp.Lexicographic.{nat_list_eq_equiv, bytes_decides}
use Rattle.im_theory_machine.specs.Locks.{Name, At, PastAll, Lock}
use Rattle.im_engine_locks.specs.Index.{same_name, same_mode, same_lock}
use Rattle.im_theory_machine.specs.declared.lock_kind.Mode.{Mode}
use Rattle.im_theory_machine.specs.declared.lock_kind.Mode.TheVariants.{Shared, Exclusive}
use Rattle.im_theory_machine.proofs.Bools.{first_of_and, second_of_and}

pub same_name-is : (a b : Name) → same_name a b ≡ true → a ≡ b
same_name-is (At a) (At b) h = ap At ((bytes_decides a b).0 h)
same_name-is (At a) PastAll h = cc
same_name-is PastAll (At b) h = cc
same_name-is PastAll PastAll h = refl

pub same_name-itself : (a : Name) → same_name a a ≡ true
same_name-itself (At a) = (bytes_decides a a).1 refl
same_name-itself PastAll = refl

pub same_name-turned : (a b : Name) → same_name a b ≡ same_name b a
same_name-turned (At a) (At b) = nat_list_eq_equiv.symm a b
same_name-turned (At a) PastAll = refl
same_name-turned PastAll (At b) = refl
same_name-turned PastAll PastAll = refl

pub same_mode-is : (a b : Mode) → same_mode a b ≡ true → a ≡ b
same_mode-is Shared Shared h = refl
same_mode-is Shared Exclusive h = cc
same_mode-is Exclusive Shared h = cc
same_mode-is Exclusive Exclusive h = refl

pub same_mode-itself : (a : Mode) → same_mode a a ≡ true
same_mode-itself Shared = refl
same_mode-itself Exclusive = refl

pub same_mode-turned : (a b : Mode) → same_mode a b ≡ same_mode b a
same_mode-turned Shared Shared = refl
same_mode-turned Shared Exclusive = refl
same_mode-turned Exclusive Shared = refl
same_mode-turned Exclusive Exclusive = refl

pub same_lock-name : (l : Lock) (n : Name) (m : Mode) → same_lock l n m ≡ true → l.name ≡ n
same_lock-name l n m h = same_name-is l.name n (first_of_and _ (same_mode l.mode m) h)

pub same_lock-mode : (l : Lock) (n : Name) (m : Mode) → same_lock l n m ≡ true → l.mode ≡ m
same_lock-mode l n m h = same_mode-is l.mode m (second_of_and (same_name l.name n) _ h)

pub same_lock-itself : (l : Lock) → same_lock l l.name l.mode ≡ true
same_lock-itself l = rw (same_name-itself l.name, same_mode-itself l.mode) refl

pub same_lock-turned : (l k : Lock) → same_lock l k.name k.mode ≡ same_lock k l.name l.mode
same_lock-turned l k = rw (same_name-turned l.name k.name, same_mode-turned l.mode k.mode) refl
