-- Keys that are asked for by number.
use Rattle.std.proofs.Common.{◌≡◌, ℕ, List, [], ap, Option, Some, None}
use Rattle.im_names.specs.declared.which.Which.{Which}
use Rattle.im_names.specs.Asked.{which_at, key_asked, key_by, key_by_number}

pub key_by_some : (number : ℕ) (name key : List ℕ) (which : Which) → which_at number ≡ Some which → key_by_number number name key ≡ key_asked which name key
key_by_some number name key which e = ap (λ (o : Option Which). key_by o name key) e

pub key_by_none : (number : ℕ) (name key : List ℕ) → which_at number ≡ None → key_by_number number name key ≡ []
key_by_none number name key e = ap (λ (o : Option Which). key_by o name key) e
