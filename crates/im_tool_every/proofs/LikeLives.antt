-- Lives that are the same but for what fails in them.
use Rattle.std.proofs.Common.{◌≡◌, ℕ, Option, None, refl, sym, ◌∙◌, ap, subst}
use Rattle.std.specs.Global.{Vec}
use Rattle.im_tool_lines.specs.declared.store_life.LifeOptions.{LifeOptions}
use Rattle.im_tool_lines.specs.declared.store_life.StoreLife.{StoreLife}
use Rattle.im_tool_lines.specs.declared.store_life.StoreLine.{StoreLine}
use Rattle.im_tool_every.specs.Failing.{failing, IsLikeLife, IsSetTo}
use Rattle.im_tool_every.specs.Swept.{IsSameLife}

pub like_then : (call read : Option ℕ) (old mid new : StoreLife) → IsLikeLife old mid → IsSetTo call read mid new → IsLikeLife old new
like_then call read old mid new like set = record { options = ap (λ (o : LifeOptions). failing o None None) set.options ∙ like.options; lines = set.lines ∙ like.lines }

pub like_set : (old mid new : StoreLife) → IsLikeLife old mid → IsSetTo None None mid new → IsSetTo None None old new
like_set old mid new like set = record { options = set.options ∙ like.options; lines = set.lines ∙ like.lines }

pub like_like : (old mid new : StoreLife) → IsLikeLife old mid → IsLikeLife mid new → IsLikeLife old new
like_like old mid new first second = record { options = second.options ∙ first.options; lines = second.lines ∙ first.lines }

pub set_like : (old new : StoreLife) → IsSetTo None None old new → IsLikeLife old new
set_like old new set = record { options = ap (λ (o : LifeOptions). failing o None None) set.options; lines = set.lines }

-- what holds of the lines and of the options in which nothing fails
pub by_like : (P : LifeOptions → Vec StoreLine → Type 0) (old new : StoreLife) → IsLikeLife old new → P (failing new.options None None) new.lines → P (failing old.options None None) old.lines
by_like P old new like holds = subst (λ (o : LifeOptions). P o old.lines) like.options (subst (λ (l : Vec StoreLine). P (failing new.options None None) l) like.lines holds)

-- of the options as they are set
pub by_set : (P : LifeOptions → Vec StoreLine → Type 0) (call read : Option ℕ) (old new : StoreLife) → IsSetTo call read old new → P new.options new.lines → P (failing old.options call read) old.lines
by_set P call read old new set holds = subst (λ (o : LifeOptions). P o old.lines) set.options (subst (λ (l : Vec StoreLine). P new.options l) set.lines holds)

pub set_same : (call read : Option ℕ) (old mid new : StoreLife) → IsSetTo call read old mid → IsSameLife mid new → IsSetTo call read old new
set_same call read old mid new set same = record { options = same.options ∙ set.options; lines = same.lines ∙ set.lines }
