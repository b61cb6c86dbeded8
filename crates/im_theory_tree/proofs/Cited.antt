-- The lemmas that the crates above cite, passed on from one place. Declares nothing.
pub use Rattle.im_theory_tree.proofs.Frame.{AllOf-append, AllOf-right, leaves_same, leaves_under-append}
pub use Rattle.im_theory_tree.proofs.Order.{AllOf-from, after_above, before_below, ordered_right}
pub use Rattle.im_theory_tree.proofs.Keeps.{times-append}
pub use Rattle.im_theory_tree.proofs.Descent.{leaves_descend, pages_above, pages_descend, times-here}
pub use Rattle.im_theory_tree.proofs.LeafSplit.{chained_right}
pub use Rattle.im_theory_tree.proofs.InnerSplit.{good_once}
pub use Rattle.im_theory_tree.proofs.Way.{split_at, step_way, way_begins}
pub use Rattle.im_theory_tree.proofs.FreeList.{first_of_tree, give_free, take_count, take_free}
pub use Rattle.im_theory_tree.proofs.DropChild.{bare_leaves, leaves_among}
pub use Rattle.im_theory_tree.proofs.LeafChange.{leaf_change}
pub use Rattle.im_theory_tree.proofs.LeafWalk.{entries_around}
pub use Rattle.im_theory_tree.proofs.MarkLemmas.{all_everywhere, marks_keep}
pub use Rattle.im_theory_tree.proofs.TheoryLaws.{changes_leaf, page_tree_laws, same_tree}
pub use Rattle.im_theory_tree.proofs.Counting.{below_count, leaves_counted, pages_counted}
pub use Rattle.im_theory_tree.proofs.Ascent.{Ascends, ascends_from_rises, at_all}
pub use Rattle.im_theory_tree.proofs.LookupLemmas.{first_behind, first_over, first_within, is_below_itself, leaf_in_tree, leaf_value, leaves_are_leaves, level_times, not_past, past, way_inner, way_known, way_leaf}
pub use Rattle.im_theory_tree.proofs.HalvesLemmas.{separator_after, splits_well}
pub use Rattle.im_theory_tree.proofs.ChildPlaces.{ChildPlace, below_at, child_place, children_were, first_child, high_behind}
pub use Rattle.im_theory_tree.proofs.LeafSplitWay.{key_leaf_split}
pub use Rattle.im_theory_tree.proofs.RootSplitWay.{key_root_inner_split, key_root_leaf_split}
pub use Rattle.im_theory_tree.proofs.Bounds.{bounds_of_level, ordered_bounds, separator_in_range}
pub use Rattle.im_theory_tree.proofs.InnerSplitWay.{key_inner_split}
pub use Rattle.im_theory_tree.proofs.StepLemmas.{below_or_not, relisted, room_of_parts}
pub use Rattle.im_theory_tree.proofs.ChildStays.{child_in_left, child_in_right}
pub use Rattle.im_theory_tree.proofs.KeyDeletionLemmas.{bare_of, drop_all, drop_entry, drop_leftmost, leaf_is}
pub use Rattle.im_theory_tree.proofs.WayStays.{way_stays}
pub use Rattle.im_theory_tree.proofs.LeafByKey.{leaf_in_leaves, listed}
pub use Rattle.im_theory_tree.proofs.KeyWays.{chain_ways, key_inner_ways, key_leaf_ways, key_root_inner_ways, key_root_leaf_ways}
pub use Rattle.im_theory_tree.proofs.WayBlind.{same_leaves_same_ways}
pub use Rattle.im_theory_tree.proofs.BehindLemmas.{behind_answers, behind_ends, behind_is_leaf, chained_last, last_over, last_under, page_last, split_last}
