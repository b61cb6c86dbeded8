-- Lives of a store, one after another.
use Rattle.std.proofs.Common.{◌≡◌, ◌≢◌, List, [], ◌∷◌, ◌++◌, refl, ap, subst}
use Rattle.im_base_types.specs.Changes.{Effect}
use Rattle.im_base_types.specs.Lives.{Asked, Survives, Lives}
use Rattle.im_base_types.specs.declared.fault.Fault.TheVariants.{NotAStore}
use Rattle.im_tool_lines.specs.declared.store_life.StoreLife.{StoreLife}
use Rattle.im_tool_lines.specs.declared.store_answers.StoreAnswers.{StoreAnswers}
use Rattle.im_tool_lines.specs.declared.life_answers.Opening.TheVariants as openings
use Rattle.im_tool_lines.specs.StoreShown.{asked_by_life, asked_in_each, StoreAnswered, EachStoreAnswered, AreStores}

-- one life more, of which it is known what it asked
lives_push : (before : List Effect) (lives : List (List Asked)) (mid : List Effect) (asked : List Asked) (after : List Effect) → Lives before lives mid → Survives mid asked after → Lives before (lives ++ asked ∷ []) after
lives_push before [] mid asked after is s = (after, subst (λ (b : List Effect). Survives b asked after) is s, refl)
lives_push before (first ∷ lives) mid asked after is s = (is.0, is.1, lives_push is.0 lives mid asked after is.2 s)

asked_push : (some : List StoreLife) (told : List StoreAnswers) (life : StoreLife) (answers : StoreAnswers) → EachStoreAnswered some told → asked_in_each some told ++ asked_by_life life answers ∷ [] ≡ asked_in_each (some ++ life ∷ []) (told ++ answers ∷ [])
asked_push [] [] life answers e = refl
asked_push [] (one ∷ told) life answers e = absurd e
asked_push (first ∷ some) [] life answers e = absurd e
asked_push (first ∷ some) (one ∷ told) life answers e = ap (λ (l : List (List Asked)). asked_by_life first one ∷ l) (asked_push some told life answers e.1)

-- one life more
pub store_lives_push : (some : List StoreLife) (told : List StoreAnswers) (life : StoreLife) (answers : StoreAnswers) (before mid after : List Effect) → EachStoreAnswered some told → Lives before (asked_in_each some told) mid
    → Survives mid (asked_by_life life answers) after → Lives before (asked_in_each (some ++ life ∷ []) (told ++ answers ∷ [])) after
store_lives_push some told life answers before mid after e is s =
    subst (λ (l : List (List Asked)). Lives before l after) (asked_push some told life answers e) (lives_push before (asked_in_each some told) mid (asked_by_life life answers) after is s)

pub store_answered_push : (some : List StoreLife) (told : List StoreAnswers) (life : StoreLife) (answers : StoreAnswers) → EachStoreAnswered some told → StoreAnswered answers.opening life.lines.items answers.replies.items → EachStoreAnswered (some ++ life ∷ []) (told ++ answers ∷ [])
store_answered_push [] [] life answers e is = (is, tt)
store_answered_push [] (one ∷ told) life answers e is = absurd e
store_answered_push (first ∷ some) [] life answers e is = absurd e
store_answered_push (first ∷ some) (one ∷ told) life answers e is = (e.0, store_answered_push some told life answers e.1 is)

-- one opening more that did not say that the files are no store
pub stores_push : (told : List StoreAnswers) (answers : StoreAnswers) → AreStores told → answers.opening ≢ openings.Refused NotAStore → AreStores (told ++ answers ∷ [])
stores_push [] answers s is = (is, tt)
stores_push (one ∷ told) answers s is = (s.0, stores_push told answers s.1 is)
