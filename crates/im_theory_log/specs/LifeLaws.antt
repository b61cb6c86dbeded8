-- What is promised of effects.
use Rattle.std.specs.Prelude.{◌≡◌, List}
use Rattle.im_base_types.specs.Maps.{IndexMap}
use Rattle.im_base_types.specs.Changes.{Effect, apply_all, seen}

-- Effects as users see them make the same map.
abbrev pub SeenEffectsAgree : Type 0
SeenEffectsAgree = (m : IndexMap) (effects : List Effect) → apply_all m (seen effects) ≡ apply_all m effects
