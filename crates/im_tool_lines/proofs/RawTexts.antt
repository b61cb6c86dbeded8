-- Which sort of lives a text has.
use Rattle.std.proofs.Common.{◌≡◌, ◌≢◌, inl, inr, ⊎_elim, ℕ, List, [], ◌∷◌, ◌++◌, slice_index, codes, Option, None, Some, Bor, refl, sym, ◌∙◌, ap, subst, arith, append_assoc, append-nil}
use Rattle.std.specs.Prelude.{MatchOption}
use Rattle.im_tool_words.specs.Words.{LacksByte}
use Rattle.im_tool_lines.specs.StoreScripts.{BeginsLife, NoLife, IsRaw}
use Rattle.im_tool_lines.proofs.LifeWords.{life_lacks}
use Rattle.im_tool_words.proofs.Texts.{cut_once, lacks_mid}

-- none of the lines is this one
abbrev NoLine : List ℕ → List (List ℕ) → Type 0
NoLine word [] = Unit {0}
NoLine word (line ∷ rest) = (line ≢ word) × NoLine word rest

life_push : (front : List (List ℕ)) (line : List ℕ) → NoLife front → (BeginsLife line → ⊥) → NoLife (front ++ line ∷ [])
life_push [] line n other = (other, tt)
life_push (first ∷ front) line n other = (n.0, life_push front line n.1 other)

no_push : (word : List ℕ) (front : List (List ℕ)) (line : List ℕ) → NoLine word front → line ≢ word → NoLine word (front ++ line ∷ [])
no_push word [] line n other = (other, tt)
no_push word (first ∷ front) line n other = (n.0, no_push word front line n.1 other)

no_mid : (word : List ℕ) (front rest : List (List ℕ)) → NoLine word (front ++ word ∷ rest) → ⊥
no_mid word [] rest n = n.0 refl
no_mid word (first ∷ front) rest n = no_mid word front rest n.1

-- The lines in front of those that are left are neither `raw` nor `life`.
pub record Sought (all left : List (List ℕ)) : Type 0 where
  pub front : List (List ℕ)
  pub is : all ≡ front ++ left
  pub no_raw : NoLine (codes "raw") front
  pub no_life : NoLife front

pub sought_none : (all : List (List ℕ)) → Sought all all
sought_none all = record { front = []; is = refl; no_raw = tt; no_life = tt }

pub sought_more : (all : List (List ℕ)) (line : List ℕ) (left : List (List ℕ)) → Sought all (line ∷ left) → line ≢ codes "raw" → (BeginsLife line → ⊥) → Sought all left
sought_more all line left s raw life = record {
  front = s.front ++ line ∷ [];
  is = s.is ∙ sym (append_assoc s.front (line ∷ []) left);
  no_raw = no_push (codes "raw") s.front line s.no_raw raw;
  no_life = life_push s.front line s.no_life life;
}

pub found_raw : (all : List (List ℕ)) (line : List ℕ) (left : List (List ℕ)) → Sought all (line ∷ left) → line ≡ codes "raw" → IsRaw all
found_raw all line left s e = record { front = s.front; rest = left; is = s.is ∙ ap (λ (l : List ℕ). s.front ++ l ∷ left) e; lives = s.no_life }

life_is_not_raw : (line : List ℕ) → BeginsLife line → line ≡ codes "raw" → ⊥
life_is_not_raw line is e = ⊎_elim
    (λ (lone : line ≡ codes "life"). let byte = ap (λ (t : List ℕ). slice_index t 0) (sym lone ∙ e) in absurd (omega (arith, byte)))
    (λ (more : (m : List ℕ) × (line ≡ codes "life " ++ m)). let byte = ap (λ (t : List ℕ). slice_index t 0) (sym more.1 ∙ e) in absurd (omega (arith, byte)))
    is

clash : (front rest other more : List (List ℕ)) (line : List ℕ) → BeginsLife line → NoLine (codes "raw") front → NoLife other → front ++ line ∷ rest ≡ other ++ codes "raw" ∷ more → ⊥
clash [] rest [] more line is r l e = let first : line ≡ codes "raw" = cc in life_is_not_raw line is first
clash [] rest (o ∷ other) more line is r l e = let first : line ≡ o = cc in l.0 (subst BeginsLife first is)
clash (f ∷ front) rest [] more line is r l e = let first : f ≡ codes "raw" = cc in r.0 first
clash (f ∷ front) rest (o ∷ other) more line is r l e = let others : front ++ line ∷ rest ≡ other ++ codes "raw" ∷ more = cc in clash front rest other more line is r.1 l.1 others

pub found_life : (all : List (List ℕ)) (line : List ℕ) (left : List (List ℕ)) → Sought all (line ∷ left) → BeginsLife line → IsRaw all → ⊥
found_life all line left s is raw = clash s.front left raw.front raw.rest line is s.no_raw raw.lives (sym s.is ∙ raw.is)

pub found_none : (all : List (List ℕ)) → Sought all [] → IsRaw all → ⊥
found_none all s raw = no_mid (codes "raw") raw.front raw.rest (subst (λ (l : List (List ℕ)). NoLine (codes "raw") l) (sym (append-nil s.front) ∙ sym s.is ∙ raw.is) s.no_raw)

lone_life : (line : List ℕ) → LacksByte 32 line → BeginsLife line → line ≡ codes "life"
lone_life line l is = ⊎_elim
    (λ (lone : line ≡ codes "life"). lone)
    (λ (more : (m : List ℕ) × (line ≡ codes "life " ++ m)). absurd (lacks_mid 32 (codes "life") more.0 (subst (λ (t : List ℕ). LacksByte 32 t) more.1 l)))
    is

word_life : (word rest : List ℕ) → LacksByte 32 word → BeginsLife (word ++ 32 ∷ rest) → word ≡ codes "life"
word_life word rest l is = ⊎_elim
    (λ (lone : word ++ 32 ∷ rest ≡ codes "life"). absurd (lacks_mid 32 word rest (subst (λ (t : List ℕ). LacksByte 32 t) (sym lone) life_lacks)))
    (λ (more : (m : List ℕ) × (word ++ 32 ∷ rest ≡ codes "life " ++ m)). (cut_once 32 word (codes "life") rest more.0 l life_lacks more.1).0)
    is

-- a line begins a life just where its first word says so
pub life_or_not : (line word : List ℕ) (rest : Option (Bor (List ℕ))) → MatchOption rest (word ≡ line) (λ r. line ≡ word ++ 32 ∷ r.now) → LacksByte 32 word → (BeginsLife line → word ≡ codes "life") × (word ≡ codes "life" → BeginsLife line)
life_or_not line word None cut l = (
  λ is. lone_life word l (subst BeginsLife (sym cut) is),
  λ e. inl (sym cut ∙ e),
)
life_or_not line word (Some r) cut l = (
  λ is. word_life word r.now l (subst BeginsLife cut is),
  λ e. inr (r.now, cut ∙ ap (λ (w : List ℕ). w ++ 32 ∷ r.now) e),
)
