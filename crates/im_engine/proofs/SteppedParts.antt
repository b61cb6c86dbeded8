-- Which part of a structure change comes next.
use Rattle.std.proofs.Common.{◌≡◌, ◌<◌, length, inl, inr, arith}
use Rattle.std.proofs.lemmas.Bool.{cases_lt}
use Rattle.im_smo_log.specs.declared.change.Change.{Change}

-- none is left
pub all_made : (c : Change) → (c.done < length c.images → ⊥) → c.done ≡ length c.images
all_made c none = elim (cases_lt c.done (length c.images)) [ inl left ↦ absurd (none left) | inr over ↦ (let within = c.within in omega (arith, over, within)) ]
