-- Who goes on with the structure change under way, and how far it is.
use Rattle.std.specs.Prelude.{◌≡◌, ◌<◌, ℕ, length, Option, Some}
use Rattle.im_base_types.specs.Keys.{Key}
use Rattle.im_engine.specs.declared.stepped.Aim.TheVariants.{Puts, Drops}
use Rattle.im_engine.specs.declared.stepped.Under.{Under}

-- It is this transaction's, and a page of it is left.
pub record OwnsPage (t : ℕ) (under : Option Under) : Type 0 where
  pub u : Under
  pub is : under ≡ Some u
  pub owner : u.begun.change.transaction ≡ t
  pub left : u.begun.change.done < length u.begun.change.images

-- It is this transaction's, and all its pages are logged.
pub record OwnsEnd (t : ℕ) (under : Option Under) : Type 0 where
  pub u : Under
  pub is : under ≡ Some u
  pub owner : u.begun.change.transaction ≡ t
  pub end : u.begun.change.done ≡ length u.begun.change.images

-- So it is, and for this Insert.
pub record EndsInsert (t : ℕ) (under : Option Under) : Type 0 where
  pub owns : OwnsEnd t under
  pub key : Key
  pub rid : ℕ
  pub leaf : ℕ
  pub aim : owns.u.aim ≡ Puts key rid leaf

-- Or for this Delete.
pub record EndsDelete (t : ℕ) (under : Option Under) : Type 0 where
  pub owns : OwnsEnd t under
  pub key : Key
  pub aim : owns.u.aim ≡ Drops key
