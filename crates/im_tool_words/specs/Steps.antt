-- How the lines that ask for steps are spelled.
use Rattle.std.specs.Prelude.{◌≡◌, ◌≢◌, ◌⊎◌, ℕ, ◌≤◌, ◌==◌, ◌&&◌, Bool, true, not, List, [], ◌∷◌, ◌++◌, codes, replicate}
use Rattle.std.specs.List.{list_all}
use Rattle.std.specs.Char.{is_ascii_graphic, IsAsciiAlphanumeric}
use Rattle.im_base_steps.specs.declared.step.Step.{Step}
use Rattle.im_base_steps.specs.declared.step.Step.TheVariants as steps
use Rattle.im_tool_words.specs.Words.{IsNumber, IsPageNumber}

-- a byte that a key's text may have: printable, and no space, `+` or `*`
abbrev pub is_plain : ℕ → Bool
is_plain b = is_ascii_graphic b && not (b == 43) && not (b == 42)

-- each byte of a text is such
abbrev pub is_text : List ℕ → Bool
is_text text = list_all is_plain text

-- `C*N`: the letter or digit C, N times, N at most 1,000.
pub record IsRepeated (word : List ℕ) (letter times : ℕ) : Type 0 where
  pub digits : List ℕ
  pub is : word ≡ letter ∷ 42 ∷ digits
  pub sign : IsAsciiAlphanumeric letter
  pub number : IsNumber digits times
  pub most : times ≤ 1000

-- `T+C*N`: the text T, which may be empty, and then the letter or digit C, N times.
pub record IsRepeating (word key : List ℕ) : Type 0 where
  pub text : List ℕ
  pub more : List ℕ
  pub letter : ℕ
  pub times : ℕ
  pub is : word ≡ text ++ 43 ∷ more
  pub plain : is_text text ≡ true
  pub repeated : IsRepeated more letter times
  pub key_is : key ≡ text ++ replicate times letter

-- a text of one byte or more, which is the key
pub record IsPlainKey (word key : List ℕ) : Type 0 where
  pub plain : is_text word ≡ true
  pub some : word ≢ []
  pub key_is : key ≡ word

-- the key that a word writes
abbrev pub IsKeyWord : List ℕ → List ℕ → Type 0
IsKeyWord word key = IsPlainKey word key ⊎ IsRepeating word key

-- a number, a space, and what stands after them
pub record IsNumbered (text : List ℕ) (n : ℕ) (rest : List ℕ) : Type 0 where
  pub word : List ℕ
  pub is : text ≡ word ++ 32 ∷ rest
  pub number : IsNumber word n

-- a number, a space, and the word of a key
pub record IsKeyed (text : List ℕ) (t : ℕ) (key : List ℕ) : Type 0 where
  pub word : List ℕ
  pub numbered : IsNumbered text t word
  pub is_key : IsKeyWord word key

-- a number, the word of a key and a row id, with single spaces between them
pub record IsKeyedWith (text : List ℕ) (t : ℕ) (key : List ℕ) (rid : ℕ) : Type 0 where
  pub word : List ℕ
  pub last : List ℕ
  pub numbered : IsNumbered text t (word ++ 32 ∷ last)
  pub is_key : IsKeyWord word key
  pub is_rid : IsNumber last rid

-- the word of a key, a space, and what stands after them
pub record IsBehindKey (text key rest : List ℕ) : Type 0 where
  pub word : List ℕ
  pub is : text ≡ word ++ 32 ∷ rest
  pub is_key : IsKeyWord word key

-- a number, the words of two keys and a limit, with single spaces between them
pub record IsRanged (text : List ℕ) (t : ℕ) (lo hi : List ℕ) (limit : ℕ) : Type 0 where
  pub keys : List ℕ
  pub rest : List ℕ
  pub last : List ℕ
  pub numbered : IsNumbered text t keys
  pub low : IsBehindKey keys lo rest
  pub high : IsBehindKey rest hi last
  pub is_limit : IsNumber last limit

-- two numbers, with a space between them
pub record IsNumberedWith (text : List ℕ) (t left : ℕ) : Type 0 where
  pub last : List ℕ
  pub numbered : IsNumbered text t last
  pub is_left : IsNumber last left

-- The bytes of a line that asks for this step.
abbrev pub SpellsStep : List ℕ → Step → Type 0
SpellsStep text steps.Begin = text ≡ codes "begin"
SpellsStep text (steps.Fetch t key) = (rest : List ℕ) × (text ≡ codes "fetch " ++ rest) × IsKeyed rest t key.items
SpellsStep text (steps.Seek t key) = (rest : List ℕ) × (text ≡ codes "seek " ++ rest) × IsKeyed rest t key.items
SpellsStep text (steps.Next t key) = (rest : List ℕ) × (text ≡ codes "next " ++ rest) × IsKeyed rest t key.items
SpellsStep text (steps.Prev t key) = (rest : List ℕ) × (text ≡ codes "prev " ++ rest) × IsKeyed rest t key.items
SpellsStep text (steps.Scan t lo hi limit) = (rest : List ℕ) × (text ≡ codes "scan " ++ rest) × IsRanged rest t lo.items hi.items limit
SpellsStep text (steps.Insert t key rid) = (rest : List ℕ) × (text ≡ codes "insert " ++ rest) × IsKeyedWith rest t key.items rid
SpellsStep text (steps.Delete t key) = (rest : List ℕ) × (text ≡ codes "delete " ++ rest) × IsKeyed rest t key.items
SpellsStep text (steps.Commit t) = (rest : List ℕ) × (text ≡ codes "commit " ++ rest) × IsNumber rest t
SpellsStep text (steps.Rollback t) = (rest : List ℕ) × (text ≡ codes "rollback " ++ rest) × IsNumber rest t
SpellsStep text (steps.Continue t) = (rest : List ℕ) × (text ≡ codes "continue " ++ rest) × IsNumber rest t
SpellsStep text (steps.RollTo t left) = (rest : List ℕ) × (text ≡ codes "rollto " ++ rest) × IsNumberedWith rest t left
SpellsStep text (steps.FlushPage page) = (rest : List ℕ) × (text ≡ codes "flush " ++ rest) × IsPageNumber rest page
SpellsStep text steps.Force = text ≡ codes "force"
SpellsStep text steps.Checkpoint = text ≡ codes "checkpoint"
SpellsStep text steps.Switch = text ≡ codes "switch"
