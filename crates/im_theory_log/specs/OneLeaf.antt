-- The tree of one leaf, with its laws: the store whose keys all stand in page 1.
use Rattle.std.proofs.Common.{◌≡◌, inl, ℕ, ◌∙◌, ap, arith}
use Rattle.std.specs.Prelude.{◌==◌}
use Rattle.std.proofs.lemmas.Bool.{eq-eqb, cond-true}
use Rattle.im_base_types.specs.declared.page_kind.PageKind.TheVariants.{Leaf}
use Rattle.im_base_types.specs.Pages.{Body}
use Rattle.im_base_types.specs.Maps.{with_key, without_key}
use Rattle.im_theory_log.specs.Tree.{Tree, TreeLaws, with_body}

-- page 1 is a leaf, and its entries are the walk
abbrev pub one_leaf : Tree
one_leaf = record {
  walk = λ pages. (pages 1).entries;
  Good = λ pages. (pages 1).kind ≡ Leaf;
  CanPut = λ pages p k i. p ≡ 1;
  CanDrop = λ pages p k i. p ≡ 1;
}

here : (pages : ℕ → Body) (p : ℕ) (new : Body) → p ≡ 1 → with_body pages p new 1 ≡ new
here pages p new e = cond-true (p == 1) new (pages 1) (eq-eqb p 1 e)

pub one_leaf_laws : TreeLaws one_leaf
one_leaf_laws = record {
  put_good = λ pages p k i good can. ap (λ (b : Body). b.kind) (here pages p _ can) ∙ ap (λ (q : ℕ). (pages q).kind) can ∙ good;
  put_walk = λ pages p k i good can. ap (λ (b : Body). b.entries) (here pages p _ can) ∙ ap (λ (q : ℕ). with_key k i (pages q).entries) can;
  drop_good = λ pages p k i good can. ap (λ (b : Body). b.kind) (here pages p _ can) ∙ ap (λ (q : ℕ). (pages q).kind) can ∙ good;
  drop_walk = λ pages p k i good can. ap (λ (b : Body). b.entries) (here pages p _ can) ∙ ap (λ (q : ℕ). without_key k (pages q).entries) can;
  put_within = λ pages p k i good can. inl (omega (arith, can));
  drop_within = λ pages p k i good can. inl (omega (arith, can));
}
