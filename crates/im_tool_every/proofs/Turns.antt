-- What is done one after the other, and counted.
use Rattle.std.proofs.Common.{◌≡◌, ◌<◌, ◌+◌, ◌++◌, ℕ, suc, List, [], ◌∷◌, Option, length, take, get_or, refl, sym, subst, arith}
use Rattle.std.proofs.lemmas.List.{take_more}
use Rattle.std.specs.Global.{Vec}
use Rattle.im_tool_lines.specs.declared.store_life.LifeOptions.{LifeOptions}
use Rattle.im_tool_lines.specs.declared.store_life.StoreLife.{StoreLife}
use Rattle.im_tool_lines.specs.declared.store_life.StoreLine.{StoreLine}
use Rattle.im_tool_every.specs.declared.every.Counts.{Counts}
use Rattle.im_tool_every.specs.declared.ways.Way.{Way}
use Rattle.im_tool_every.specs.Counted.{AreCalls, AreInTurn}
use Rattle.im_tool_every.specs.Failing.{failing, IsSetTo}
use Rattle.im_tool_every.specs.Swept.{IsSameLife}
use Rattle.im_tool_every.proofs.LikeLives.{by_set}
use Rattle.im_tool_every.proofs.Lives.{by_same}

in_turn_push : (each : Way → Counts → Counts → Type 0) (ways : List Way) (way : Way) (old mid new : Counts) → AreInTurn each ways old mid → each way mid new → AreInTurn each (ways ++ way ∷ []) old new
in_turn_push each [] way old mid new are next = (new, subst (λ (c : Counts). each way c new) are next, refl)
in_turn_push each (first ∷ ways) way old mid new are next = (are.0, are.1, in_turn_push each ways way are.0 mid new are.2 next)

-- one way more
pub in_turn_more : (each : Way → Counts → Counts → Type 0) (ways : List Way) (i : ℕ) (d : Way) (old mid new : Counts) → i < length ways → AreInTurn each (take i ways) old mid → each (get_or ways i d) mid new
    → AreInTurn each (take (i + 1) ways) old new
in_turn_more each ways i d old mid new within are next = subst (λ (l : List Way). AreInTurn each l old new) (sym (take_more ways i d within)) (in_turn_push each (take i ways) (get_or ways i d) old mid new are next)

-- the same of a life that has changed its stop since
pub in_turn_same : (P : LifeOptions → Vec StoreLine → Way → Counts → Counts → Type 0) (first life : StoreLife) → IsSameLife first life → (ways : List Way) (i : ℕ) (d : Way) (old mid new : Counts) → i < length ways
    → AreInTurn (P first.options first.lines) (take i ways) old mid → P life.options life.lines (get_or ways i d) mid new → AreInTurn (P first.options first.lines) (take (i + 1) ways) old new
in_turn_same P first life same ways i d old mid new within are next =
    in_turn_more (P first.options first.lines) ways i d old mid new within are (by_same (λ (o : LifeOptions) (ls : Vec StoreLine). P o ls (get_or ways i d) mid new) first life same next)

-- of one that was told before what fails
pub in_turn_set : (P : LifeOptions → Vec StoreLine → Way → Counts → Counts → Type 0) (call read : Option ℕ) (first life : StoreLife) → IsSetTo call read first life → (ways : List Way) (i : ℕ) (d : Way) (old mid new : Counts) → i < length ways
    → AreInTurn (P (failing first.options call read) first.lines) (take i ways) old mid → P life.options life.lines (get_or ways i d) mid new
    → AreInTurn (P (failing first.options call read) first.lines) (take (i + 1) ways) old new
in_turn_set P call read first life set ways i d old mid new within are next =
    in_turn_more (P (failing first.options call read) first.lines) ways i d old mid new within are
    (by_set (λ (o : LifeOptions) (ls : Vec StoreLine). P o ls (get_or ways i d) mid new) call read first life set next)

-- one call more
pub calls_more : (each : ℕ → Counts → Counts → Type 0) (n : ℕ) (old mid new : Counts) → AreCalls each n old mid → each (n + 1) mid new → AreCalls each (n + 1) old new
calls_more each n old mid new are next =
    let more : suc n ≡ n + 1 = omega arith in
    subst (λ (k : ℕ). AreCalls each k old new) more (mid, are, subst (λ (k : ℕ). each k mid new) (sym more) next)
