use Rattle.im_theory_log.specs.Tree.{with_body}
use Rattle.im_smo_pages.specs.Bodies.{without_entry, without_leftmost}
use Rattle.im_smo_pages.proofs.Becoming.{leaf_then_link, drop_then_unlink}
use Rattle.im_smo_pages.proofs.tree_steps.steps_on_images_compose.Goals as goal

pub returns-clause-leaf : goal.returns-clause-leaf
returns-clause-leaf c dense = leaf_then_link {dense = dense}

pub returns-clause-entry : goal.returns-clause-entry
returns-clause-entry c a b d page parent leaf i pages drops unlinks is =
    drop_then_unlink a b d page leaf (λ h. with_body h parent (without_entry (h parent) i)) pages drops unlinks is

pub returns-clause-leftmost : goal.returns-clause-leftmost
returns-clause-leftmost c a b d page parent leaf pages drops unlinks is =
    drop_then_unlink a b d page leaf (λ h. with_body h parent (without_leftmost (h parent))) pages drops unlinks is

pub returns-clause-first : goal.returns-clause-first
returns-clause-first c a b page q pages takes is = takes.pages pages is
