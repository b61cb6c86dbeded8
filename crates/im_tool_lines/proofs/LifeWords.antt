-- The options of a life, and what stands after each.
use Rattle.std.proofs.Common.{◌≡◌, ◌≢◌, inl, inr, ℕ, List, [], ◌∷◌, ◌++◌, Bool, Option, None, Some, Bor, MatchOption, is_some, true, false, codes, refl, sym, ◌∙◌, ap, subst, append_assoc, arith, append-nil}
use Rattle.im_tool_words.specs.Words.{LacksByte, IsNumber}
use Rattle.im_tool_lines.specs.Lines.{behind_word}
use Rattle.im_tool_lines.specs.StoreScripts.{OptionSaid, Number, Word, SpellsOption, SpellsOptions, SpellsLife, IsTail, IsBehindOption, IsOption, named_options}
use Rattle.im_tool_lines.specs.declared.store_life.LifeOptions.{LifeOptions}
use Rattle.im_tool_words.proofs.Texts.{lacks_mid, cut_once, digits_lack}
use Rattle.im_tool_words.proofs.KeyWords.{number_once}

pub life_lacks : LacksByte 32 (codes "life")
life_lacks = (λ x. omega arith, (λ x. omega arith, (λ x. omega arith, (λ x. omega arith, tt))))

pub frames_lacks : LacksByte 32 (codes "frames")
frames_lacks = (λ x. omega arith, (λ x. omega arith, (λ x. omega arith, (λ x. omega arith, (λ x. omega arith, (λ x. omega arith, tt))))))

pub max_lacks : LacksByte 32 (codes "max")
max_lacks = (λ x. omega arith, (λ x. omega arith, (λ x. omega arith, tt)))

-- a word and its tail are cut in one way
pub cut_tail : (p q t u : List ℕ) → LacksByte 32 p → LacksByte 32 q → IsTail t → IsTail u → p ++ t ≡ q ++ u → (p ≡ q) × (t ≡ u)
cut_tail [] [] t u lp lq it iu e = (refl, e)
cut_tail [] (c ∷ q) t u lp lq (inl none) iu e = let e' : [] ≡ c ∷ (q ++ u) = sym none ∙ e in absurd (cc)
cut_tail [] (c ∷ q) t u lp lq (inr some) iu e = let e' : 32 ∷ some.0 ≡ c ∷ (q ++ u) = sym some.1 ∙ e in let same : c ≡ 32 = cc in absurd (lq.0 same)
cut_tail (c ∷ p) [] t u lp lq it (inl none) e = let e' : c ∷ (p ++ t) ≡ [] = e ∙ none in absurd (cc)
cut_tail (c ∷ p) [] t u lp lq it (inr some) e = let e' : c ∷ (p ++ t) ≡ 32 ∷ some.0 = e ∙ some.1 in let same : c ≡ 32 = cc in absurd (lp.0 same)
cut_tail (c ∷ p) (d ∷ q) t u lp lq it iu e =
    let head : c ≡ d = cc in
    let tail : p ++ t ≡ q ++ u = cc in
    let rest = cut_tail p q t u lp.1 lq.1 it iu tail in
    let same : p ≡ q = rest.0 in (cc, rest.1)

behind_tail : (words : Option (Bor (List ℕ))) → IsTail (behind_word words)
behind_tail None = inl refl
behind_tail (Some rest) = inr (rest.now, refl)

option_tail : (name text : List ℕ) (option : OptionSaid) → SpellsOption name text option → IsTail text
option_tail name text (Number None) s = inl s
option_tail name text (Number (Some n)) s = inr (name ++ 32 ∷ s.0, s.1)
option_tail name text (Word false) s = inl s
option_tail name text (Word true) s = inr (name, s)

tails : (t u : List ℕ) → IsTail t → IsTail u → IsTail (t ++ u)
tails t u (inl none) iu = subst (λ (x : List ℕ). IsTail (x ++ u)) (sym none) iu
tails t u (inr some) iu = inr (some.0 ++ u, ap (λ (x : List ℕ). x ++ u) some.1)

other_tail : (name text : List ℕ) → IsBehindOption name text → IsTail text
other_tail name text (inl none) = inl none
other_tail name text (inr some) = inr (some.0 ++ some.1, some.2)

-- a word cut off the front of a text
pub word_tail : (text word : List ℕ) (rest : Option (Bor (List ℕ))) → MatchOption rest (word ≡ text) (λ r. text ≡ word ++ 32 ∷ r.now) → text ≡ word ++ behind_word rest
word_tail text word None cut = sym cut ∙ sym (append-nil word)
word_tail text word (Some r) cut = cut

-- what stands after `life`
pub are_options : (rest : List ℕ) (options : LifeOptions) → SpellsLife (codes "life" ++ rest) options → SpellsOptions (named_options options) rest
are_options rest options s =
    let e : codes "life" ++ rest ≡ codes "life" ++ s.0 = s.1 in
    let same : rest ≡ s.0 = cc in subst (λ (t : List ℕ). SpellsOptions (named_options options) t) (sym same) s.2

options_tail : (some : List (List ℕ × OptionSaid)) (text : List ℕ) → SpellsOptions some text → IsTail text
options_tail [] text s = inl s
options_tail (option ∷ more) text s = subst IsTail (sym s.1.is) (tails s.1.front s.0 (option_tail option.0 s.1.front option.1 s.1.spelled) (options_tail more s.0 s.2))

-- a line of one word that begins a life is that word
pub lone_life : (word : List ℕ) (options : LifeOptions) → LacksByte 32 word → SpellsLife word options → word ≡ codes "life"
lone_life word options l s = (cut_tail word (codes "life") [] s.0 l life_lacks (inl refl) (options_tail (named_options options) s.0 s.2) (append-nil word ∙ s.1)).0

-- and so one of several begins with it
pub spaced_life : (word rest : List ℕ) (options : LifeOptions) → LacksByte 32 word → SpellsLife (word ++ 32 ∷ rest) options → word ≡ codes "life"
spaced_life word rest options l s = (cut_tail word (codes "life") (32 ∷ rest) s.0 l life_lacks (inr (rest, refl)) (options_tail (named_options options) s.0 s.2) s.1).0

-- these options have other names, none with a space
abbrev pub AreOthers : List ℕ → List (List ℕ × OptionSaid) → Type 0
AreOthers name [] = Unit {0}
AreOthers name (option ∷ more) = LacksByte 32 option.0 × (option.0 ≢ name) × AreOthers name more

-- what an option of another name begins may stand after this name's
behind_one : (name other : List ℕ) (option : OptionSaid) (text left : List ℕ) → IsOption other text option left → LacksByte 32 other → other ≢ name → IsBehindOption name left → IsBehindOption name text
behind_one name other (Number None) text left o l differ behind = subst (λ (t : List ℕ). IsBehindOption name t) (sym (o.is ∙ ap (λ (x : List ℕ). x ++ left) o.spelled)) behind
behind_one name other (Number (Some n)) text left o l differ behind =
    inr (other, 32 ∷ (o.spelled.0 ++ left), o.is ∙ ap (λ (x : List ℕ). x ++ left) o.spelled.1 ∙ ap (λ (x : List ℕ). 32 ∷ x) (append_assoc other (32 ∷ o.spelled.0) left), inr (o.spelled.0 ++ left, refl), l, differ)
behind_one name other (Word false) text left o l differ behind = subst (λ (t : List ℕ). IsBehindOption name t) (sym (o.is ∙ ap (λ (x : List ℕ). x ++ left) o.spelled)) behind
behind_one name other (Word true) text left o l differ behind = inr (other, left, o.is ∙ ap (λ (x : List ℕ). x ++ left) o.spelled, other_tail name left behind, l, differ)

behind_others : (name : List ℕ) (more : List (List ℕ × OptionSaid)) (text : List ℕ) → AreOthers name more → SpellsOptions more text → IsBehindOption name text
behind_others name [] text others s = inl s
behind_others name (option ∷ more) text others s = behind_one name option.0 option.1 text s.0 s.1 others.0 others.1 (behind_others name more s.0 others.2 s.2)

-- no words: no option
pub none_once : (name : List ℕ) (option : Option ℕ) (left : List ℕ) → IsOption name [] (Number option) left → (option ≡ None) × (left ≡ [])
none_once name None left o = (refl, sym (o.is ∙ ap (λ (x : List ℕ). x ++ left) o.spelled))
none_once name (Some n) left o = let e : [] ≡ 32 ∷ ((name ++ 32 ∷ o.spelled.0) ++ left) = o.is ∙ ap (λ (x : List ℕ). x ++ left) o.spelled.1 in absurd (cc)

-- a text of this option, after its first space
some_is : (name text : List ℕ) (n : ℕ) (left : List ℕ) (o : IsOption name (32 ∷ text) (Number (Some n)) left) → text ≡ name ++ 32 ∷ (o.spelled.0 ++ left)
some_is name text n left o =
    let e : 32 ∷ text ≡ 32 ∷ ((name ++ 32 ∷ o.spelled.0) ++ left) = o.is ∙ ap (λ (x : List ℕ). x ++ left) o.spelled.1 in
    let same : text ≡ (name ++ 32 ∷ o.spelled.0) ++ left = cc in same ∙ append_assoc name (32 ∷ o.spelled.0) left

none_is : (name text left : List ℕ) → IsOption name text (Number None) left → text ≡ left
none_is name text left o = o.is ∙ ap (λ (x : List ℕ). x ++ left) o.spelled

-- the first word is another name: no option
pub other_once : (name text word : List ℕ) (rest : Option (Bor (List ℕ))) (option : Option ℕ) (left : List ℕ) → LacksByte 32 name → text ≡ word ++ behind_word rest → LacksByte 32 word → word ≢ name
    → IsOption name (32 ∷ text) (Number option) left → (option ≡ None) × (left ≡ 32 ∷ text)
other_once name text word rest None left ln cut l other o = (refl, sym (none_is name (32 ∷ text) left o))
other_once name text word rest (Some n) left ln cut l other o =
    absurd (other (cut_tail word name (behind_word rest) (32 ∷ (o.spelled.0 ++ left)) l ln (behind_tail rest) (inr (o.spelled.0 ++ left, refl)) (sym cut ∙ some_is name text n left o)).0)

-- no option begins with its name alone, nor does what may stand after it
not_behind : (name text tail : List ℕ) → LacksByte 32 name → IsTail tail → text ≡ name ++ tail → IsBehindOption name (32 ∷ text) → ⊥
not_behind name text tail ln it cut (inl none) = absurd (cc)
not_behind name text tail ln it cut (inr some) =
    let e : 32 ∷ text ≡ 32 ∷ (some.0 ++ some.1) = some.2 in
    let same : text ≡ some.0 ++ some.1 = cc in some.5 (sym (cut_tail name some.0 tail some.1 ln some.4 it some.3 (sym cut ∙ same)).0)

pub no_number : (name text : List ℕ) (option : Option ℕ) (left : List ℕ) → LacksByte 32 name → text ≡ name → IsBehindOption name left → IsOption name (32 ∷ text) (Number option) left → ⊥
no_number name text None left ln cut behind o = not_behind name text [] ln (inl refl) (cut ∙ sym (append-nil name)) (subst (λ (x : List ℕ). IsBehindOption name x) (sym (none_is name (32 ∷ text) left o)) behind)
no_number name text (Some n) left ln cut behind o = lacks_mid 32 name (o.spelled.0 ++ left) (subst (λ (x : List ℕ). LacksByte 32 x) (sym cut ∙ some_is name text n left o) ln)

-- the option's number and what is left are those of its text
pub number_is : (name text rest digits : List ℕ) (more : Option (Bor (List ℕ))) (n : ℕ) (left : List ℕ) → LacksByte 32 name → text ≡ name ++ 32 ∷ rest → rest ≡ digits ++ behind_word more → LacksByte 32 digits
    → IsBehindOption name left → IsOption name (32 ∷ text) (Number (Some n)) left → IsNumber digits n × (left ≡ behind_word more)
number_is name text rest digits more n left ln cut next l behind o =
    let same = (cut_once 32 name name rest (o.spelled.0 ++ left) ln ln (sym cut ∙ some_is name text n left o)).1 in
    let both = cut_tail digits o.spelled.0 (behind_word more) left l (digits_lack o.spelled.0 o.spelled.2.0.1) (behind_tail more) (other_tail name left behind) (sym next ∙ same) in
    (subst (λ (x : List ℕ). IsNumber x n) (sym both.0) o.spelled.2, sym both.1)

pub number_one : (name text rest digits : List ℕ) (more : Option (Bor (List ℕ))) (m : ℕ) (option : Option ℕ) (left : List ℕ) → LacksByte 32 name → text ≡ name ++ 32 ∷ rest → rest ≡ digits ++ behind_word more → LacksByte 32 digits → IsNumber digits m
    → IsBehindOption name left → IsOption name (32 ∷ text) (Number option) left → (option ≡ Some m) × (left ≡ behind_word more)
number_one name text rest digits more m None left ln cut next l is behind o = absurd (not_behind name text (32 ∷ rest) ln (inr (rest, refl)) cut (subst (λ (x : List ℕ). IsBehindOption name x) (sym (none_is name (32 ∷ text) left o)) behind))
number_one name text rest digits more m (Some n) left ln cut next l is behind o =
    let both = number_is name text rest digits more n left ln cut next l behind o in (ap Some (number_once digits n m both.0 is), both.1)

pub number_bad : (name text rest digits : List ℕ) (more : Option (Bor (List ℕ))) (option : Option ℕ) (left : List ℕ) → LacksByte 32 name → text ≡ name ++ 32 ∷ rest → rest ≡ digits ++ behind_word more → LacksByte 32 digits → ((n : ℕ) → ¬ (IsNumber digits n))
    → IsBehindOption name left → IsOption name (32 ∷ text) (Number option) left → ⊥
number_bad name text rest digits more None left ln cut next l bad behind o = not_behind name text (32 ∷ rest) ln (inr (rest, refl)) cut (subst (λ (x : List ℕ). IsBehindOption name x) (sym (none_is name (32 ∷ text) left o)) behind)
number_bad name text rest digits more (Some n) left ln cut next l bad behind o = bad n (number_is name text rest digits more n left ln cut next l behind o).0

-- an option with its number, as it was read
pub option_is : (name text rest digits : List ℕ) (more : Option (Bor (List ℕ))) (n : ℕ) → text ≡ name ++ 32 ∷ rest → rest ≡ digits ++ behind_word more → IsNumber digits n → IsOption name (32 ∷ text) (Number (Some n)) (behind_word more)
option_is name text rest digits more n cut next is = record {
  front = 32 ∷ (name ++ 32 ∷ digits);
  is = ap (λ (x : List ℕ). 32 ∷ x) (cut ∙ ap (λ (x : List ℕ). name ++ 32 ∷ x) next ∙ sym (append_assoc name (32 ∷ digits) (behind_word more)));
  spelled = (digits, refl, is);
}

-- ---- an option that is a word alone

-- no words: it is left out
pub no_word_once : (name : List ℕ) (option : Bool) (left : List ℕ) → IsOption name [] (Word option) left → (option ≡ false) × (left ≡ [])
no_word_once name false left o = (refl, sym (o.is ∙ ap (λ (x : List ℕ). x ++ left) o.spelled))
no_word_once name true left o = let e : [] ≡ 32 ∷ (name ++ left) = o.is ∙ ap (λ (x : List ℕ). x ++ left) o.spelled in absurd (cc)

word_is : (name text left : List ℕ) → IsOption name (32 ∷ text) (Word true) left → text ≡ name ++ left
word_is name text left o =
    let e : 32 ∷ text ≡ 32 ∷ (name ++ left) = o.is ∙ ap (λ (x : List ℕ). x ++ left) o.spelled in
    let same : text ≡ name ++ left = cc in same

no_word_is : (name text left : List ℕ) → IsOption name text (Word false) left → text ≡ left
no_word_is name text left o = o.is ∙ ap (λ (x : List ℕ). x ++ left) o.spelled

-- the first word is another name: it is left out
pub other_word : (name text word : List ℕ) (rest : Option (Bor (List ℕ))) (option : Bool) (left : List ℕ) → LacksByte 32 name → text ≡ word ++ behind_word rest → LacksByte 32 word → word ≢ name
    → IsBehindOption name left → IsOption name (32 ∷ text) (Word option) left → (option ≡ false) × (left ≡ 32 ∷ text)
other_word name text word rest false left ln cut l other behind o = (refl, sym (no_word_is name (32 ∷ text) left o))
other_word name text word rest true left ln cut l other behind o =
    absurd (other (cut_tail word name (behind_word rest) left l ln (behind_tail rest) (other_tail name left behind) (sym cut ∙ word_is name text left o)).0)

-- the first word is its name: it stands there
pub this_word : (name text : List ℕ) (rest : Option (Bor (List ℕ))) (option : Bool) (left : List ℕ) → LacksByte 32 name → text ≡ name ++ behind_word rest
    → IsBehindOption name left → IsOption name (32 ∷ text) (Word option) left → (option ≡ true) × (left ≡ behind_word rest)
this_word name text rest false left ln cut behind o =
    absurd (not_behind name text (behind_word rest) ln (behind_tail rest) cut (subst (λ (x : List ℕ). IsBehindOption name x) (sym (no_word_is name (32 ∷ text) left o)) behind))
this_word name text rest true left ln cut behind o =
    (refl, (cut_tail name name left (behind_word rest) ln ln (other_tail name left behind) (behind_tail rest) (sym (word_is name text left o) ∙ cut)).1)

-- as it was read
pub word_stands : (name text : List ℕ) (rest : Option (Bor (List ℕ))) → text ≡ name ++ behind_word rest → IsOption name (32 ∷ text) (Word true) (behind_word rest)
word_stands name text rest cut = record { front = 32 ∷ name; is = ap (λ (x : List ℕ). 32 ∷ x) cut; spelled = refl }

pub word_lacks : (name text : List ℕ) → IsOption name text (Word false) text
word_lacks name text = record { front = []; is = refl; spelled = refl }

-- ---- a line that spells a life, read option by option

-- an option of this name is refused, whatever is left after it
abbrev pub IsRefused : List ℕ → List ℕ → Type 0
IsRefused name text = (option : Option ℕ) (left : List ℕ) → IsBehindOption name left → ¬ (IsOption name text (Number option) left)

-- an option of this name is this one, and leaves this
abbrev pub IsOnlyOption : List ℕ → List ℕ → Option ℕ → List ℕ → Type 0
IsOnlyOption name text only rest = (option : Option ℕ) (left : List ℕ) → IsOption name text (Number option) left → IsBehindOption name left → (option ≡ only) × (left ≡ rest)

-- and so the word alone
abbrev pub IsOnlyWord : List ℕ → List ℕ → Bool → List ℕ → Type 0
IsOnlyWord name text only rest = (option : Bool) (left : List ℕ) → IsOption name text (Word option) left → IsBehindOption name left → (option ≡ only) × (left ≡ rest)

-- the first option of a text is not refused
pub first_refused : (n name : List ℕ) (option : Option ℕ) (more : List (List ℕ × OptionSaid)) (text : List ℕ) → n ≡ name → AreOthers name more → SpellsOptions ((name, Number option) ∷ more) text → IsRefused n text → ⊥
first_refused n name option more text is others s refused = subst (λ (x : List ℕ). IsRefused x text) is refused option s.0 (behind_others name more s.0 others s.2) s.1

-- and where it is read, it is what was read, and the others stand in what is left
pub first_read : (n name : List ℕ) (option : Option ℕ) (more : List (List ℕ × OptionSaid)) (text : List ℕ) (only : Option ℕ) (left : List ℕ) → n ≡ name → AreOthers name more → SpellsOptions ((name, Number option) ∷ more) text → IsOnlyOption n text only left → SpellsOptions more left
first_read n name option more text only left is others s once =
    subst (λ (t : List ℕ). SpellsOptions more t) (subst (λ (x : List ℕ). IsOnlyOption x text only left) is once option s.0 s.1 (behind_others name more s.0 others s.2)).1 s.2

pub first_word : (n name : List ℕ) (option : Bool) (more : List (List ℕ × OptionSaid)) (text : List ℕ) (only : Bool) (left : List ℕ) → n ≡ name → AreOthers name more → SpellsOptions ((name, Word option) ∷ more) text → IsOnlyWord n text only left → SpellsOptions more left
first_word n name option more text only left is others s once =
    subst (λ (t : List ℕ). SpellsOptions more t) (subst (λ (x : List ℕ). IsOnlyWord x text only left) is once option s.0 s.1 (behind_others name more s.0 others s.2)).1 s.2

abbrev first_code : List ℕ → ℕ
first_code [] = 0
first_code (c ∷ cs) = c

-- the names of a life's options
fail_lacks : LacksByte 32 (codes "fail")
fail_lacks = (λ x. omega arith, (λ x. omega arith, (λ x. omega arith, (λ x. omega arith, tt))))

failread_lacks : LacksByte 32 (codes "failread")
failread_lacks = (λ x. omega arith, (λ x. omega arith, (λ x. omega arith, (λ x. omega arith, (λ x. omega arith, (λ x. omega arith, (λ x. omega arith, (λ x. omega arith, tt))))))))

stepped_lacks : LacksByte 32 (codes "stepped")
stepped_lacks = (λ x. omega arith, (λ x. omega arith, (λ x. omega arith, (λ x. omega arith, (λ x. omega arith, (λ x. omega arith, (λ x. omega arith, tt)))))))

group_lacks : LacksByte 32 (codes "group")
group_lacks = (λ x. omega arith, (λ x. omega arith, (λ x. omega arith, (λ x. omega arith, (λ x. omega arith, tt)))))

dense_lacks : LacksByte 32 (codes "dense")
dense_lacks = (λ x. omega arith, (λ x. omega arith, (λ x. omega arith, (λ x. omega arith, (λ x. omega arith, tt)))))

workers_lacks : LacksByte 32 (codes "workers")
workers_lacks = (λ x. omega arith, (λ x. omega arith, (λ x. omega arith, (λ x. omega arith, (λ x. omega arith, (λ x. omega arith, (λ x. omega arith, tt)))))))

module _ (o : LifeOptions) where
  -- the options after each but the last
  abbrev pub behind_frames : List (List ℕ × OptionSaid)
  behind_frames = (codes "max", Number o.max_pages) ∷ (codes "fail", Number o.failing_call) ∷ (codes "failread", Number o.failing_read) ∷ (codes "stepped", Word o.stepped) ∷ (codes "group", Word o.group) ∷ (codes "dense", Word o.dense) ∷ (codes "workers", Number o.workers) ∷ []

  abbrev pub behind_max : List (List ℕ × OptionSaid)
  behind_max = (codes "fail", Number o.failing_call) ∷ (codes "failread", Number o.failing_read) ∷ (codes "stepped", Word o.stepped) ∷ (codes "group", Word o.group) ∷ (codes "dense", Word o.dense) ∷ (codes "workers", Number o.workers) ∷ []

  abbrev pub behind_fail : List (List ℕ × OptionSaid)
  behind_fail = (codes "failread", Number o.failing_read) ∷ (codes "stepped", Word o.stepped) ∷ (codes "group", Word o.group) ∷ (codes "dense", Word o.dense) ∷ (codes "workers", Number o.workers) ∷ []

  abbrev pub behind_failread : List (List ℕ × OptionSaid)
  behind_failread = (codes "stepped", Word o.stepped) ∷ (codes "group", Word o.group) ∷ (codes "dense", Word o.dense) ∷ (codes "workers", Number o.workers) ∷ []

  abbrev pub behind_stepped : List (List ℕ × OptionSaid)
  behind_stepped = (codes "group", Word o.group) ∷ (codes "dense", Word o.dense) ∷ (codes "workers", Number o.workers) ∷ []

  abbrev pub behind_group : List (List ℕ × OptionSaid)
  behind_group = (codes "dense", Word o.dense) ∷ (codes "workers", Number o.workers) ∷ []

  abbrev pub behind_dense : List (List ℕ × OptionSaid)
  behind_dense = (codes "workers", Number o.workers) ∷ []

  pub not_frames : AreOthers (codes "frames") behind_frames
  not_frames = (max_lacks, (λ e. absurd (cc)), (fail_lacks, (λ e. absurd (cc)), (failread_lacks, (λ e. absurd (cc)), (stepped_lacks, (λ e. absurd (cc)), (group_lacks, (λ e. absurd (cc)), (dense_lacks, (λ e. absurd (cc)), (workers_lacks, (λ e. absurd (cc)), tt)))))))

  pub not_max : AreOthers (codes "max") behind_max
  not_max = (fail_lacks, (λ e. absurd (cc)), (failread_lacks, (λ e. absurd (cc)), (stepped_lacks, (λ e. absurd (cc)), (group_lacks, (λ e. absurd (cc)), (dense_lacks, (λ e. absurd (cc)), (workers_lacks, (λ e. absurd (cc)), tt))))))

  pub not_fail : AreOthers (codes "fail") behind_fail
  not_fail = (failread_lacks, (λ e. absurd (cc)), (stepped_lacks, (λ e. absurd (cc)), (group_lacks, (λ e. absurd (cc)), (dense_lacks, (λ e. absurd (cc)), (workers_lacks, (λ e. absurd (cc)), tt)))))

  pub not_failread : AreOthers (codes "failread") behind_failread
  not_failread = (stepped_lacks, (λ e. absurd (cc)), (group_lacks, (λ e. absurd (cc)), (dense_lacks, (λ e. absurd (cc)), (workers_lacks, (λ e. absurd (cc)), tt))))

  pub not_stepped : AreOthers (codes "stepped") behind_stepped
  not_stepped = (group_lacks, (λ e. absurd (cc)), (dense_lacks, (λ e. absurd (cc)), (workers_lacks, (λ e. let codes_are : 119 ≡ 115 = ap first_code e in omega (arith, codes_are)), tt)))

  pub not_group : AreOthers (codes "group") behind_group
  not_group = (dense_lacks, (λ e. let codes_are : 100 ≡ 103 = ap first_code e in omega (arith, codes_are)), (workers_lacks, (λ e. absurd (cc)), tt))

  pub not_dense : AreOthers (codes "dense") behind_dense
  not_dense = (workers_lacks, (λ e. absurd (cc)), tt)

-- a life, option by option
pub life_spelled : (text second third fourth fifth sixth seventh eighth last : List ℕ) (options : LifeOptions) → IsOption (codes "frames") text (Number options.frames) second → IsOption (codes "max") second (Number options.max_pages) third
    → IsOption (codes "fail") third (Number options.failing_call) fourth → IsOption (codes "failread") fourth (Number options.failing_read) fifth → IsOption (codes "stepped") fifth (Word options.stepped) sixth
    → IsOption (codes "group") sixth (Word options.group) seventh → IsOption (codes "dense") seventh (Word options.dense) eighth → IsOption (codes "workers") eighth (Number options.workers) last → last ≡ [] → SpellsLife (codes "life" ++ text) options
life_spelled text second third fourth fifth sixth seventh eighth last options frames most call read stepped group dense workers end =
    (text, refl, (second, frames, (third, most, (fourth, call, (fifth, read, (sixth, stepped, (seventh, group, (eighth, dense, (last, workers, end)))))))))

pub none_left : (words : Option (Bor (List ℕ))) → is_some words ≡ true → [] ≡ behind_word words → ⊥
none_left None some is = absurd (cc)
none_left (Some rest) some is = absurd (cc)

-- no words are left
pub all_read : (words : Option (Bor (List ℕ))) → is_some words ≡ false → behind_word words ≡ []
all_read None none = refl
all_read (Some rest) none = absurd (cc)
