-- The lines of a script that were passed, by any grammar.
use Rattle.std.proofs.Common.{◌≡◌, ◌≢◌, ℕ, ◌+◌, List, [], ◌∷◌, ◌++◌, length, map, refl, sym, ◌∙◌, ap, subst, append_assoc, length-append}
use Rattle.std.proofs.lemmas.List.{map-append}
use Rattle.im_tool_lines.specs.Scripts.{Kind, Before, MayFollow, MayStand, place_after, SaysBy, IsFirstBadBy}
use Rattle.im_tool_lines.proofs.Standing.{stand_last}

module _ {L R : Type 0} (spells : List ℕ → L → Type 0) (kind : L → Kind) (IsReading : R → List L → Type 0) where
  says_empty : (front : List (List ℕ)) (said : List L) → SaysBy spells front said → SaysBy spells (front ++ [] ∷ []) said
  says_empty [] [] s = tt
  says_empty [] (l ∷ said) s = absurd s
  says_empty ([] ∷ front) said s = says_empty front said s
  says_empty ((b ∷ t) ∷ front) [] s = absurd s
  says_empty ((b ∷ t) ∷ front) (l ∷ said) s = (s.0, says_empty front said s.1)

  says_line : (front : List (List ℕ)) (said : List L) (line : List ℕ) (next : L) → line ≢ [] → SaysBy spells front said → spells line next → SaysBy spells (front ++ line ∷ []) (said ++ next ∷ [])
  says_line [] [] [] next n s sp = absurd (n refl)
  says_line [] [] (b ∷ t) next n s sp = (sp, tt)
  says_line [] (l ∷ said) line next n s sp = absurd s
  says_line ([] ∷ front) said line next n s sp = says_line front said line next n s sp
  says_line ((b ∷ t) ∷ front) [] line next n s sp = absurd s
  says_line ((b ∷ t) ∷ front) (l ∷ said) line next n s sp = (s.0, says_line front said line next n s.1 sp)

  says_last : (front : List (List ℕ)) (line : List ℕ) (said : List L) → line ≢ [] → SaysBy spells (front ++ line ∷ []) said → (some : List L) × (next : L) × (said ≡ some ++ next ∷ []) × SaysBy spells front some × spells line next
  says_last [] [] said n s = absurd (n refl)
  says_last [] (b ∷ t) [] n s = absurd s
  says_last [] (b ∷ t) (l ∷ []) n s = ([], l, refl, tt, s.0)
  says_last [] (b ∷ t) (l ∷ m ∷ said) n s = absurd s.1
  says_last ([] ∷ front) line said n s = says_last front line said n s
  says_last ((c ∷ u) ∷ front) line [] n s = absurd s
  says_last ((c ∷ u) ∷ front) line (l ∷ said) n s = let r = says_last front line said n s.1 in (l ∷ r.0, r.1, ap (λ (x : List L). l ∷ x) r.2, (s.0, r.3), r.4)

  -- lines are of one kind, however they are read
  kinds_once : (one : (text : List ℕ) (l m : L) → spells text l → spells text m → kind l ≡ kind m) (front : List (List ℕ)) (some others : List L) → SaysBy spells front some → SaysBy spells front others → map kind some ≡ map kind others
  kinds_once one [] [] [] s o = refl
  kinds_once one [] [] (m ∷ others) s o = absurd o
  kinds_once one [] (l ∷ some) others s o = absurd s
  kinds_once one ([] ∷ front) some others s o = kinds_once one front some others s o
  kinds_once one ((b ∷ t) ∷ front) [] others s o = absurd s
  kinds_once one ((b ∷ t) ∷ front) (l ∷ some) [] s o = absurd o
  kinds_once one ((b ∷ t) ∷ front) (l ∷ some) (m ∷ others) s o =
      ap (λ (k : Kind). k ∷ map kind some) (one (b ∷ t) l m s.0 o.0) ∙ ap (λ (ks : List Kind). kind m ∷ ks) (kinds_once one front some others s.1 o.1)

  -- So many lines were passed, and these are left.
  pub record Passed (all : List (List ℕ)) (number : ℕ) (left : List (List ℕ)) (reading : R) : Type 0 where
    pub front : List (List ℕ)
    pub is : all ≡ front ++ left
    pub counted : number ≡ length front
    pub said : List L
    pub says : SaysBy spells front said
    pub read : IsReading reading said

  counted_more : (number : ℕ) (front : List (List ℕ)) (line : List ℕ) → number ≡ length front → number + 1 ≡ length (front ++ line ∷ [])
  counted_more number front line e = ap (λ (n : ℕ). n + 1) e ∙ sym (length-append front (line ∷ []))

  pub passed_none : (all : List (List ℕ)) (reading : R) → IsReading reading [] → Passed all 0 all reading
  passed_none all reading read = record { front = []; is = refl; counted = refl; said = []; says = tt; read = read }

  -- an empty line
  pub passed_empty : (all : List (List ℕ)) (number : ℕ) (line : List ℕ) (left : List (List ℕ)) (reading : R) → line ≡ [] → Passed all number (line ∷ left) reading → Passed all (number + 1) left reading
  passed_empty all number line left reading empty p = record {
    front = p.front ++ line ∷ [];
    is = p.is ∙ sym (append_assoc p.front (line ∷ []) left);
    counted = counted_more number p.front line p.counted;
    said = p.said;
    says = subst (λ (x : List ℕ). SaysBy spells (p.front ++ x ∷ []) p.said) (sym empty) (says_empty p.front p.said p.says);
    read = p.read;
  }

  -- a line that was read
  pub passed_line : (all : List (List ℕ)) (number : ℕ) (line : List ℕ) (left : List (List ℕ)) (old new : R) → line ≢ [] → ((said : List L) → IsReading old said → (next : L) × spells line next × IsReading new (said ++ next ∷ []))
      → Passed all number (line ∷ left) old → Passed all (number + 1) left new
  passed_line all number line left old new n step p =
      let s = step p.said p.read in
      record {
        front = p.front ++ line ∷ [];
        is = p.is ∙ sym (append_assoc p.front (line ∷ []) left);
        counted = counted_more number p.front line p.counted;
        said = p.said ++ s.0 ∷ [];
        says = says_line p.front p.said line s.0 n p.says s.1;
        read = s.2;
      }

  -- a line that was refused
  pub passed_bad : (one : (text : List ℕ) (l m : L) → spells text l → spells text m → kind l ≡ kind m) (stands : (reading : R) (said : List L) → IsReading reading said → MayStand Before (map kind said)) (all : List (List ℕ)) (number : ℕ) (line : List ℕ) (left : List (List ℕ)) (reading : R) → line ≢ []
      → ((said : List L) → IsReading reading said → (next : L) → spells line next → ¬ (MayFollow (kind next) (place_after Before (map kind said)))) → Passed all number (line ∷ left) reading → IsFirstBadBy spells kind all (number + 1)
  passed_bad one stands all number line left reading n refused p = record {
    front = p.front;
    line = line;
    rest = left;
    is = p.is;
    counted = ap (λ (k : ℕ). k + 1) p.counted;
    good = (p.said, p.says, stands reading p.said p.read);
    bad = λ g.
        let last = says_last p.front line g.0 n g.1 in
        let kinds = ap (λ (x : List L). map kind x) last.2 ∙ map-append kind last.0 (last.1 ∷ []) in
        let may : MayFollow (kind last.1) (place_after Before (map kind last.0)) = stand_last Before (map kind last.0) (kind last.1) (subst (λ (ks : List Kind). MayStand Before ks) kinds g.2) in
        refused p.said p.read last.1 last.4 (subst (λ (ks : List Kind). MayFollow (kind last.1) (place_after Before ks)) (kinds_once one p.front last.0 p.said last.3 p.says) may);
  }
