-- Which part of a structure change a Continue makes next.
use Rattle.std.specs.Prelude.{◌≢◌, ℕ, Option, Some}
use Rattle.im_theory_machine.specs.View.{owner_of}
use Rattle.im_engine.specs.declared.stepped.Part as parts
use Rattle.im_engine.specs.declared.stepped.Part.TheVariants.{Other, Page, Insert, Delete, Back}
use Rattle.im_engine.specs.declared.stepped.Under.{Under}
use Rattle.im_engine.specs.Aims.{under_of}
use Rattle.im_engine.specs.OwnSteps.{EndsDelete, EndsInsert, OwnsPage}
use Rattle.im_engine.specs.TurningBack.{EndsBack}

-- It is this one, by whose the change is, how many of its pages are made, and what it is for.
abbrev pub IsNextPart : ℕ → Option Under → parts.Part → Type 0
IsNextPart t under Other = owner_of (under_of under) ≢ Some t
IsNextPart t under Page = OwnsPage t under
IsNextPart t under Insert = EndsInsert t under
IsNextPart t under Delete = EndsDelete t under
IsNextPart t under (Back splits) = EndsBack splits t under
