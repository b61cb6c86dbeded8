-- The tree of pages puts keys into leaves and drops them from leaves.
use Rattle.std.proofs.Common.{◌≡◌, true, None, Some, ap, subst, ◌∙◌, sym, arith}
use Rattle.std.specs.FinMap.Entries.{find}
use Rattle.im_base_types.specs.Keys.{key_order}
use Rattle.im_base_types.specs.Pages.{Body}
use Rattle.im_theory_page.specs.Split.{HasRoom}
use Rattle.im_restart_redo.specs.Redo.{IsOnLeaves}
use Rattle.im_theory_tree.specs.Theory.{page_tree}
use Rattle.im_theory_tree.proofs.LookupLemmas.{way_leaf}

-- a key is put into its leaf or dropped from it where that leaf takes it
pub on_leaves : IsOnLeaves page_tree
on_leaves = record {
  put = λ pages g p k i good can here.
      let room : HasRoom true g.body.entries (k, i) = subst (λ (b : Body). HasRoom true b.entries (k, i)) (sym here) can.room in
      record {
        leaf = ap (λ (b : Body). b.kind) here ∙ (way_leaf pages k p can.leaf).0;
        lacks = ap (λ (b : Body). find key_order k b.entries) here ∙ can.absent;
        keyed = can.keyed;
        short = can.short;
        room = omega (arith, room);
      };
  take = λ pages g p k i good can here.
      let has : find key_order k g.body.entries ≡ Some i = ap (λ (b : Body). find key_order k b.entries) here ∙ can.there in
      record {
        leaf = ap (λ (b : Body). b.kind) here ∙ (way_leaf pages k p can.leaf).0;
        has = λ none. absurd (let clash : Some i ≡ None = sym has ∙ none in cc clash);
      };
}
