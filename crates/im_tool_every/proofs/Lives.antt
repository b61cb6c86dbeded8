-- Lives that are the same but for their stop, and what they asked.
use Rattle.std.proofs.Common.{◌≡◌, ◌<◌, ◌+◌, ◌++◌, ℕ, List, [], ◌∷◌, length, take, get_or, refl, sym, ◌∙◌, ap, subst}
use Rattle.std.proofs.lemmas.List.{take_more}
use Rattle.std.specs.Global.{Vec}
use Rattle.im_base_types.specs.Changes as changes
use Rattle.im_base_types.specs.Changes.{Effect}
use Rattle.im_base_types.specs.Pages.{Entry}
use Rattle.im_tool_lines.specs.declared.store_life.LifeOptions.{LifeOptions}
use Rattle.im_tool_lines.specs.declared.store_life.StoreLife.{StoreLife}
use Rattle.im_tool_lines.specs.declared.store_life.StoreLine.{StoreLine}
use Rattle.im_tool_judge.specs.declared.change.Change.{Change}
use Rattle.im_tool_judge.specs.Judged.{change_of, newest_before}
use Rattle.im_tool_every.specs.Swept.{put_before, IsSameLife}

pub same_then : (old mid new : StoreLife) → IsSameLife old mid → IsSameLife mid new → IsSameLife old new
same_then old mid new first second = record { options = second.options ∙ first.options; lines = second.lines ∙ first.lines }

-- what holds of the options and the lines of the one holds of the other's
pub by_same : (P : LifeOptions → Vec StoreLine → Type 0) (old new : StoreLife) → IsSameLife old new → P new.options new.lines → P old.options old.lines
by_same P old new same holds = subst (λ (o : LifeOptions). P o old.lines) same.options (subst (λ (l : Vec StoreLine). P new.options l) same.lines holds)

-- a change more
pub newest_push : (cs : List Change) (c : Change) (e : Effect) → newest_before (cs ++ c ∷ []) e ≡ change_of c ∷ newest_before cs e
newest_push [] c e = refl
newest_push (x ∷ cs) c e = newest_push cs c (change_of x ∷ e)

put_push : (es : List Entry) (x : Entry) (e : Effect) → put_before (es ++ x ∷ []) e ≡ changes.Put x.0 x.1 ∷ put_before es e
put_push [] x e = refl
put_push (y ∷ es) x e = put_push es x (changes.Put y.0 y.1 ∷ e)

-- an entry more
pub put_more : (all : List Entry) (i : ℕ) (x : Entry) → i < length all → x ≡ get_or all i x → put_before (take (i + 1) all) [] ≡ changes.Put x.0 x.1 ∷ put_before (take i all) []
put_more all i x within is =
    ap (λ (l : List Entry). put_before l []) (take_more all i x within ∙ ap (λ (y : Entry). take i all ++ y ∷ []) (sym is)) ∙ put_push (take i all) x []
