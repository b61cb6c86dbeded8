-- The store of one leaf starts lawful.
use Rattle.std.proofs.Common.{◌≡◌, ◌≤◌, ℕ, [], arith}
use Rattle.std.specs.FinMap.{entries}
use Rattle.im_base_types.specs.declared.page_kind.PageKind.TheVariants.{Leaf}
use Rattle.im_theory_log.specs.Histories.{Base}
use Rattle.im_theory_log.specs.Lawful.{IsLawful}
use Rattle.im_theory_log.specs.OneLeaf.{one_leaf}

-- an empty log is lawful over base pages with a leaf that has the base's map, of which page 0 says no greater count
pub one_leaf_start : (b : Base) → ((p : ℕ) → (b.pages p).lsn ≤ b.start) → (b.pages 1).body.kind ≡ Leaf → (b.pages 1).body.entries ≡ entries b.map → IsLawful b one_leaf []
one_leaf_start b lsns kind same = record { lsns = lsns; stands = record { good = kind; walk = same; named = omega arith } }
