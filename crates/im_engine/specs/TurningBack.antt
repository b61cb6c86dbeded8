-- The end of a structure change of a rollback.
use Rattle.std.specs.Prelude.{◌≡◌, ℕ, Bool, true, false, length, Option, Some}
use Rattle.im_engine.specs.declared.stepped.Aim.{Aim}
use Rattle.im_engine.specs.declared.stepped.Aim.TheVariants.{TakesBack, TookBack}
use Rattle.im_engine.specs.declared.stepped.Under.{Under}

-- what a split of a rollback is for, and a deletion
abbrev pub aim_back : (splits : Bool) → Aim
aim_back true = TakesBack
aim_back false = TookBack

-- The transaction has one under way, which splits or not, and all of its pages are made.
pub record EndsBack (splits : Bool) (t : ℕ) (under : Option Under) : Type 0 where
  pub u : Under
  pub is : under ≡ Some u
  pub aim_is : u.aim ≡ aim_back splits
  pub owner : u.begun.change.transaction ≡ t
  pub end : u.begun.change.done ≡ length u.begun.change.images
