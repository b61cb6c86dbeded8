-- What the search for the highest page that splits answered.
use Rattle.std.proofs.Common.{◌≡◌, ℕ, ◌+◌, ◌≤◌, ◌<◌, true, Option, Some, None, refl, subst, ◌∙◌, Bool}
use Rattle.im_base_types.specs.Keys.{Key}
use Rattle.im_theory_tree.specs.Levels.{Pages, height}
use Rattle.im_smo_split.specs.Tops.{IsFound}
use Rattle.im_smo_split.specs.PendingSplits.{SplitsDown}
use Rattle.im_smo_split.specs.Plan.{IsWithin, IsOver}
use Rattle.im_smo_split.specs.declared.top.Top.{Top}

-- nothing splits
pub none_found : {dense : Bool} (pages : Pages) (key : Key) (o : Option Top) → ((t : Top) → o ≡ Some t → ⊥) → IsFound dense pages key o → IsFound dense pages key None
none_found pages key None never is = is
none_found pages key (Some t) never is = absurd (never t refl)

-- the highest page that splits
pub top_found : {dense : Bool} (pages : Pages) (key : Key) (o : Option Top) (t : Top) → o ≡ Some t → IsFound dense pages key o → IsFound dense pages key (Some t)
top_found {dense} pages key o t is found = subst (IsFound dense pages key) is found

-- the pages that it takes are few enough
pub few_found : {dense : Bool} (pages : Pages) (key : Key) (t : Top) (m : ℕ) → IsFound dense pages key (Some t) → (pages 0).leftmost + t.pages ≤ m + (pages 0).prev → IsWithin dense pages key m
few_found pages key t m found few = record {
  path = found.path;
  is_path = found.is_path;
  few = subst (λ (n : ℕ). (pages 0).leftmost + n ≤ m + (pages 0).prev) found.splits.1 few;
}

-- or too many
pub many_found : {dense : Bool} (pages : Pages) (key : Key) (t : Top) (m : ℕ) → IsFound dense pages key (Some t) → m + (pages 0).prev < (pages 0).leftmost + t.pages → IsOver dense pages key m
many_found pages key t m found many = record {
  path = found.path;
  is_path = found.is_path;
  many = subst (λ (n : ℕ). m + (pages 0).prev < (pages 0).leftmost + n) found.splits.1 many;
}

-- a root of the last level splits, with each page under it on the key's way
pub last_splits : {dense : Bool} (pages : Pages) (key : Key) (t : Top) → IsFound dense pages key (Some t) → t.root ≡ true → t.level ≡ 255 → SplitsDown dense pages key 255 1
last_splits {dense} pages key t found root level = subst (λ (k : ℕ). SplitsDown dense pages key k 1) level (found.splits.0.root root).splits

-- it splits
pub last_level : {dense : Bool} (pages : Pages) (key : Key) (t : Top) → IsFound dense pages key (Some t) → t.root ≡ true → t.level ≡ 255 → height pages ≡ 255
last_level pages key t found root level = (found.splits.0.root root).tall ∙ level
