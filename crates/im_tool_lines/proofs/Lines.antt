-- The lines of a text.
use Rattle.std.proofs.Common.{◌≡◌, ◌≢◌, ℕ, ◌+◌, ◌<◌, ◌≤◌, List, [], ◌∷◌, ◌++◌, length, Option, Some, None, Bor, MatchOption, if◌then◌else◌, ◌==◌, IfSome, Bool, true, false, suc, refl, sym, ◌∙◌, ap, subst, arith}
use Rattle.std.proofs.lemmas.Bool.Decides.{nat_tests}
use Rattle.im_tool_words.specs.Words.{LacksByte}
use Rattle.im_tool_lines.specs.Scripts.{lines_of, before_first_line}

-- the lines that are left
abbrev pub lines_left : Option (Bor (List ℕ)) → List (List ℕ)
lines_left None = []
lines_left (Some text) = lines_of text.now

other : (b : ℕ) → b ≢ 10 → (x y : List (List ℕ)) → (if b == 10 then x else y) ≡ y
other b n x y = grind (arith, nat_tests)

lone_line : (line : List ℕ) → LacksByte 10 line → lines_of line ≡ line ∷ []
lone_line [] l = refl
lone_line (b ∷ line) l = other b l.0 ([] ∷ lines_of line) (before_first_line b (lines_of line)) ∙ ap (before_first_line b) (lone_line line l.1)

first_line : (line rest : List ℕ) → LacksByte 10 line → lines_of (line ++ 10 ∷ rest) ≡ line ∷ lines_of rest
first_line [] rest l = refl
first_line (b ∷ line) rest l = other b l.0 ([] ∷ lines_of (line ++ 10 ∷ rest)) (before_first_line b (lines_of (line ++ 10 ∷ rest))) ∙ ap (before_first_line b) (first_line line rest l.1)

-- the first line and the others
pub cut_lines : (text line : List ℕ) (more : Option (Bor (List ℕ))) → MatchOption more (line ≡ text) (λ rest. text ≡ line ++ 10 ∷ rest.now) → LacksByte 10 line → lines_of text ≡ line ∷ lines_left more
cut_lines text line None cut lacks = subst (λ (t : List ℕ). lines_of t ≡ line ∷ []) cut (lone_line line lacks)
cut_lines text line (Some rest) cut lacks = ap lines_of cut ∙ first_line line rest.now lacks

-- so many lines are left at most
abbrev pub left_of : Option (Bor (List ℕ)) → ℕ
left_of None = 0
left_of (Some text) = suc (length text.now)

pub count_more : (number most : ℕ) (rest : List ℕ) (more : Option (Bor (List ℕ))) → IfSome more (λ r. length r.now < length rest) → number + suc (length rest) ≤ most → (number + 1) + left_of more ≤ most
count_more number most rest None s h = omega arith
count_more number most rest (Some r) s h = omega arith

pub not_empty : (line : List ℕ) (test : Bool) → test ≡ (length line == 0) → test ≡ false → line ≢ []
not_empty [] test is none = let e : true ≡ false = sym is ∙ none in absurd (cc)
not_empty (b ∷ line) test is none = λ (e : b ∷ line ≡ []). absurd (cc)
