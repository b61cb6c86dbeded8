-- What lines that ask for steps spell, and what they do not.
use Rattle.std.proofs.Common.{◌≡◌, ◌≢◌, ℕ, List, [], ◌∷◌, ◌++◌, slice_index, codes, Result, Ok, Err, IfErr, sym, ◌∙◌, ap, subst, arith}
use Rattle.im_base_steps.specs.declared.step.Step.{Step}
use Rattle.im_base_steps.specs.declared.step.Step.TheVariants as steps
use Rattle.im_tool_words.specs.Words.{LacksByte, IsNumber, IsPageNumber}
use Rattle.im_tool_words.specs.Steps.{IsKeyWord, IsNumbered, IsKeyed, IsKeyedWith, IsNumberedWith, IsBehindKey, IsRanged, SpellsStep}
use Rattle.im_tool_words.proofs.Texts.{lacks_mid, cut_once, digits_lack}
use Rattle.im_tool_words.proofs.KeyWords.{key_lacks}

-- the first word of a line that asks for a step
abbrev pub word_of : Step → List ℕ
word_of steps.Begin = codes "begin"
word_of (steps.Fetch t key) = codes "fetch"
word_of (steps.Seek t key) = codes "seek"
word_of (steps.Next t key) = codes "next"
word_of (steps.Prev t key) = codes "prev"
word_of (steps.Scan t lo hi limit) = codes "scan"
word_of (steps.Insert t key rid) = codes "insert"
word_of (steps.Delete t key) = codes "delete"
word_of (steps.Commit t) = codes "commit"
word_of (steps.Rollback t) = codes "rollback"
word_of (steps.Continue t) = codes "continue"
word_of (steps.RollTo t left) = codes "rollto"
word_of (steps.FlushPage page) = codes "flush"
word_of steps.Force = codes "force"
word_of steps.Checkpoint = codes "checkpoint"
word_of steps.Switch = codes "switch"

-- what stands after the word and a space
abbrev pub SpellsRest : Step → List ℕ → Type 0
SpellsRest steps.Begin rest = ⊥
SpellsRest (steps.Fetch t key) rest = IsKeyed rest t key.items
SpellsRest (steps.Seek t key) rest = IsKeyed rest t key.items
SpellsRest (steps.Next t key) rest = IsKeyed rest t key.items
SpellsRest (steps.Prev t key) rest = IsKeyed rest t key.items
SpellsRest (steps.Scan t lo hi limit) rest = IsRanged rest t lo.items hi.items limit
SpellsRest (steps.Insert t key rid) rest = IsKeyedWith rest t key.items rid
SpellsRest (steps.Delete t key) rest = IsKeyed rest t key.items
SpellsRest (steps.Commit t) rest = IsNumber rest t
SpellsRest (steps.Rollback t) rest = IsNumber rest t
SpellsRest (steps.Continue t) rest = IsNumber rest t
SpellsRest (steps.RollTo t left) rest = IsNumberedWith rest t left
SpellsRest (steps.FlushPage page) rest = IsPageNumber rest page
SpellsRest steps.Force rest = ⊥
SpellsRest steps.Checkpoint rest = ⊥
SpellsRest steps.Switch rest = ⊥

begin_lacks : LacksByte 32 (codes "begin")
begin_lacks = (λ x. omega arith, (λ x. omega arith, (λ x. omega arith, (λ x. omega arith, (λ x. omega arith, tt)))))

fetch_lacks : LacksByte 32 (codes "fetch")
fetch_lacks = (λ x. omega arith, (λ x. omega arith, (λ x. omega arith, (λ x. omega arith, (λ x. omega arith, tt)))))

seek_lacks : LacksByte 32 (codes "seek")
seek_lacks = (λ x. omega arith, (λ x. omega arith, (λ x. omega arith, (λ x. omega arith, tt))))

next_lacks : LacksByte 32 (codes "next")
next_lacks = (λ x. omega arith, (λ x. omega arith, (λ x. omega arith, (λ x. omega arith, tt))))

prev_lacks : LacksByte 32 (codes "prev")
prev_lacks = (λ x. omega arith, (λ x. omega arith, (λ x. omega arith, (λ x. omega arith, tt))))

scan_lacks : LacksByte 32 (codes "scan")
scan_lacks = (λ x. omega arith, (λ x. omega arith, (λ x. omega arith, (λ x. omega arith, tt))))

insert_lacks : LacksByte 32 (codes "insert")
insert_lacks = (λ x. omega arith, (λ x. omega arith, (λ x. omega arith, (λ x. omega arith, (λ x. omega arith, (λ x. omega arith, tt))))))

delete_lacks : LacksByte 32 (codes "delete")
delete_lacks = (λ x. omega arith, (λ x. omega arith, (λ x. omega arith, (λ x. omega arith, (λ x. omega arith, (λ x. omega arith, tt))))))

commit_lacks : LacksByte 32 (codes "commit")
commit_lacks = (λ x. omega arith, (λ x. omega arith, (λ x. omega arith, (λ x. omega arith, (λ x. omega arith, (λ x. omega arith, tt))))))

rollback_lacks : LacksByte 32 (codes "rollback")
rollback_lacks = (λ x. omega arith, (λ x. omega arith, (λ x. omega arith, (λ x. omega arith, (λ x. omega arith, (λ x. omega arith, (λ x. omega arith, (λ x. omega arith, tt))))))))

continue_lacks : LacksByte 32 (codes "continue")
continue_lacks = (λ x. omega arith, (λ x. omega arith, (λ x. omega arith, (λ x. omega arith, (λ x. omega arith, (λ x. omega arith, (λ x. omega arith, (λ x. omega arith, tt))))))))

rollto_lacks : LacksByte 32 (codes "rollto")
rollto_lacks = (λ x. omega arith, (λ x. omega arith, (λ x. omega arith, (λ x. omega arith, (λ x. omega arith, (λ x. omega arith, tt))))))

flush_lacks : LacksByte 32 (codes "flush")
flush_lacks = (λ x. omega arith, (λ x. omega arith, (λ x. omega arith, (λ x. omega arith, (λ x. omega arith, tt)))))

force_lacks : LacksByte 32 (codes "force")
force_lacks = (λ x. omega arith, (λ x. omega arith, (λ x. omega arith, (λ x. omega arith, (λ x. omega arith, tt)))))

checkpoint_lacks : LacksByte 32 (codes "checkpoint")
checkpoint_lacks = (λ x. omega arith, (λ x. omega arith, (λ x. omega arith, (λ x. omega arith, (λ x. omega arith, (λ x. omega arith, (λ x. omega arith, (λ x. omega arith, (λ x. omega arith, (λ x. omega arith, tt))))))))))

switch_lacks : LacksByte 32 (codes "switch")
switch_lacks = (λ x. omega arith, (λ x. omega arith, (λ x. omega arith, (λ x. omega arith, (λ x. omega arith, (λ x. omega arith, tt))))))

-- a line is cut in one way at its first space
pub words_said : (word rest : List ℕ) (step : Step) → SpellsStep (word ++ 32 ∷ rest) step → LacksByte 32 word → (word ≡ word_of step) × SpellsRest step rest
words_said word rest steps.Begin s l = absurd (lacks_mid 32 word rest (subst (λ (x : List ℕ). LacksByte 32 x) (sym s) begin_lacks))
words_said word rest (steps.Fetch t key) s l =
    let e = cut_once 32 word (codes "fetch") rest s.0 l fetch_lacks s.1 in
    (e.0, subst (λ (x : List ℕ). IsKeyed x t key.items) (sym e.1) s.2)
words_said word rest (steps.Seek t key) s l =
    let e = cut_once 32 word (codes "seek") rest s.0 l seek_lacks s.1 in
    (e.0, subst (λ (x : List ℕ). IsKeyed x t key.items) (sym e.1) s.2)
words_said word rest (steps.Next t key) s l =
    let e = cut_once 32 word (codes "next") rest s.0 l next_lacks s.1 in
    (e.0, subst (λ (x : List ℕ). IsKeyed x t key.items) (sym e.1) s.2)
words_said word rest (steps.Prev t key) s l =
    let e = cut_once 32 word (codes "prev") rest s.0 l prev_lacks s.1 in
    (e.0, subst (λ (x : List ℕ). IsKeyed x t key.items) (sym e.1) s.2)
words_said word rest (steps.Scan t lo hi limit) s l =
    let e = cut_once 32 word (codes "scan") rest s.0 l scan_lacks s.1 in
    (e.0, subst (λ (x : List ℕ). IsRanged x t lo.items hi.items limit) (sym e.1) s.2)
words_said word rest (steps.Insert t key rid) s l =
    let e = cut_once 32 word (codes "insert") rest s.0 l insert_lacks s.1 in
    (e.0, subst (λ (x : List ℕ). IsKeyedWith x t key.items rid) (sym e.1) s.2)
words_said word rest (steps.Delete t key) s l =
    let e = cut_once 32 word (codes "delete") rest s.0 l delete_lacks s.1 in
    (e.0, subst (λ (x : List ℕ). IsKeyed x t key.items) (sym e.1) s.2)
words_said word rest (steps.Commit t) s l =
    let e = cut_once 32 word (codes "commit") rest s.0 l commit_lacks s.1 in
    (e.0, subst (λ (x : List ℕ). IsNumber x t) (sym e.1) s.2)
words_said word rest (steps.Rollback t) s l =
    let e = cut_once 32 word (codes "rollback") rest s.0 l rollback_lacks s.1 in
    (e.0, subst (λ (x : List ℕ). IsNumber x t) (sym e.1) s.2)
words_said word rest (steps.Continue t) s l =
    let e = cut_once 32 word (codes "continue") rest s.0 l continue_lacks s.1 in
    (e.0, subst (λ (x : List ℕ). IsNumber x t) (sym e.1) s.2)
words_said word rest (steps.RollTo t left) s l =
    let e = cut_once 32 word (codes "rollto") rest s.0 l rollto_lacks s.1 in
    (e.0, subst (λ (x : List ℕ). IsNumberedWith x t left) (sym e.1) s.2)
words_said word rest (steps.FlushPage page) s l =
    let e = cut_once 32 word (codes "flush") rest s.0 l flush_lacks s.1 in
    (e.0, subst (λ (x : List ℕ). IsPageNumber x page) (sym e.1) s.2)
words_said word rest steps.Force s l = absurd (lacks_mid 32 word rest (subst (λ (x : List ℕ). LacksByte 32 x) (sym s) force_lacks))
words_said word rest steps.Checkpoint s l = absurd (lacks_mid 32 word rest (subst (λ (x : List ℕ). LacksByte 32 x) (sym s) checkpoint_lacks))
words_said word rest steps.Switch s l = absurd (lacks_mid 32 word rest (subst (λ (x : List ℕ). LacksByte 32 x) (sym s) switch_lacks))

-- a word alone is `begin`, `force`, `checkpoint` or `switch`, or asks for no step
pub lone_step_bad : (word : List ℕ) (step : Step) → SpellsStep word step → LacksByte 32 word → word ≢ codes "begin" → word ≢ codes "force" → word ≢ codes "checkpoint" → word ≢ codes "switch" → ⊥
lone_step_bad word steps.Begin s l b f c w = b s
lone_step_bad word (steps.Fetch t key) s l b f c w = lacks_mid 32 (codes "fetch") s.0 (subst (λ (t : List ℕ). LacksByte 32 t) s.1 l)
lone_step_bad word (steps.Seek t key) s l b f c w = lacks_mid 32 (codes "seek") s.0 (subst (λ (t : List ℕ). LacksByte 32 t) s.1 l)
lone_step_bad word (steps.Next t key) s l b f c w = lacks_mid 32 (codes "next") s.0 (subst (λ (t : List ℕ). LacksByte 32 t) s.1 l)
lone_step_bad word (steps.Prev t key) s l b f c w = lacks_mid 32 (codes "prev") s.0 (subst (λ (t : List ℕ). LacksByte 32 t) s.1 l)
lone_step_bad word (steps.Scan t lo hi limit) s l b f c w = lacks_mid 32 (codes "scan") s.0 (subst (λ (t : List ℕ). LacksByte 32 t) s.1 l)
lone_step_bad word (steps.Insert t key rid) s l b f c w = lacks_mid 32 (codes "insert") s.0 (subst (λ (t : List ℕ). LacksByte 32 t) s.1 l)
lone_step_bad word (steps.Delete t key) s l b f c w = lacks_mid 32 (codes "delete") s.0 (subst (λ (t : List ℕ). LacksByte 32 t) s.1 l)
lone_step_bad word (steps.Commit t) s l b f c w = lacks_mid 32 (codes "commit") s.0 (subst (λ (t : List ℕ). LacksByte 32 t) s.1 l)
lone_step_bad word (steps.Rollback t) s l b f c w = lacks_mid 32 (codes "rollback") s.0 (subst (λ (t : List ℕ). LacksByte 32 t) s.1 l)
lone_step_bad word (steps.Continue t) s l b f c w = lacks_mid 32 (codes "continue") s.0 (subst (λ (t : List ℕ). LacksByte 32 t) s.1 l)
lone_step_bad word (steps.RollTo t left) s l b f c w = lacks_mid 32 (codes "rollto") s.0 (subst (λ (t : List ℕ). LacksByte 32 t) s.1 l)
lone_step_bad word (steps.FlushPage page) s l b f c w = lacks_mid 32 (codes "flush") s.0 (subst (λ (t : List ℕ). LacksByte 32 t) s.1 l)
lone_step_bad word steps.Force s l b f c w = f s
lone_step_bad word steps.Checkpoint s l b f c w = c s
lone_step_bad word steps.Switch s l b f c w = w s

-- a line of several words that asks for a step begins with one of twelve
pub step_word_said : (word rest : List ℕ) (step : Step) → SpellsStep (word ++ 32 ∷ rest) step → LacksByte 32 word → word ≢ codes "commit" → word ≢ codes "rollback" → word ≢ codes "continue" → word ≢ codes "rollto" → word ≢ codes "flush" → word ≢ codes "fetch" → word ≢ codes "seek" → word ≢ codes "next" → word ≢ codes "prev" → word ≢ codes "scan" → word ≢ codes "insert" → word ≢ codes "delete" → ⊥
step_word_said word rest steps.Begin q l c r o b u f s n p a i d = (words_said word rest steps.Begin q l).1
step_word_said word rest (steps.Fetch t key) q l c r o b u f s n p a i d = f (words_said word rest (steps.Fetch t key) q l).0
step_word_said word rest (steps.Seek t key) q l c r o b u f s n p a i d = s (words_said word rest (steps.Seek t key) q l).0
step_word_said word rest (steps.Next t key) q l c r o b u f s n p a i d = n (words_said word rest (steps.Next t key) q l).0
step_word_said word rest (steps.Prev t key) q l c r o b u f s n p a i d = p (words_said word rest (steps.Prev t key) q l).0
step_word_said word rest (steps.Scan t lo hi limit) q l c r o b u f s n p a i d = a (words_said word rest (steps.Scan t lo hi limit) q l).0
step_word_said word rest (steps.Insert t key rid) q l c r o b u f s n p a i d = i (words_said word rest (steps.Insert t key rid) q l).0
step_word_said word rest (steps.Delete t key) q l c r o b u f s n p a i d = d (words_said word rest (steps.Delete t key) q l).0
step_word_said word rest (steps.Commit t) q l c r o b u f s n p a i d = c (words_said word rest (steps.Commit t) q l).0
step_word_said word rest (steps.Rollback t) q l c r o b u f s n p a i d = r (words_said word rest (steps.Rollback t) q l).0
step_word_said word rest (steps.Continue t) q l c r o b u f s n p a i d = o (words_said word rest (steps.Continue t) q l).0
step_word_said word rest (steps.RollTo t left) q l c r o b u f s n p a i d = b (words_said word rest (steps.RollTo t left) q l).0
step_word_said word rest (steps.FlushPage page) q l c r o b u f s n p a i d = u (words_said word rest (steps.FlushPage page) q l).0
step_word_said word rest steps.Force q l c r o b u f s n p a i d = (words_said word rest steps.Force q l).1
step_word_said word rest steps.Checkpoint q l c r o b u f s n p a i d = (words_said word rest steps.Checkpoint q l).1
step_word_said word rest steps.Switch q l c r o b u f s n p a i d = (words_said word rest steps.Switch q l).1

-- what stands after the first word
commit_rest : (rest : List ℕ) (step : Step) → codes "commit" ≡ word_of step → SpellsRest step rest → (n : ℕ) × IsNumber rest n
commit_rest rest steps.Begin w b = absurd b
commit_rest rest (steps.Fetch t key) w b = let e = ap (λ (x : List ℕ). slice_index x 0) w in absurd (omega (arith, e))
commit_rest rest (steps.Seek t key) w b = let e = ap (λ (x : List ℕ). slice_index x 0) w in absurd (omega (arith, e))
commit_rest rest (steps.Next t key) w b = let e = ap (λ (x : List ℕ). slice_index x 0) w in absurd (omega (arith, e))
commit_rest rest (steps.Prev t key) w b = let e = ap (λ (x : List ℕ). slice_index x 0) w in absurd (omega (arith, e))
commit_rest rest (steps.Scan t lo hi limit) w b = let e = ap (λ (x : List ℕ). slice_index x 0) w in absurd (omega (arith, e))
commit_rest rest (steps.Insert t key rid) w b = let e = ap (λ (x : List ℕ). slice_index x 0) w in absurd (omega (arith, e))
commit_rest rest (steps.Delete t key) w b = let e = ap (λ (x : List ℕ). slice_index x 0) w in absurd (omega (arith, e))
commit_rest rest (steps.Commit t) w b = (t, b)
commit_rest rest (steps.Rollback t) w b = let e = ap (λ (x : List ℕ). slice_index x 0) w in absurd (omega (arith, e))
commit_rest rest (steps.Continue t) w b = let e = ap (λ (x : List ℕ). slice_index x 2) w in absurd (omega (arith, e))
commit_rest rest (steps.RollTo t left) w b = let e = ap (λ (x : List ℕ). slice_index x 0) w in absurd (omega (arith, e))
commit_rest rest (steps.FlushPage page) w b = let e = ap (λ (x : List ℕ). slice_index x 0) w in absurd (omega (arith, e))
commit_rest rest steps.Force w b = absurd b
commit_rest rest steps.Checkpoint w b = absurd b
commit_rest rest steps.Switch w b = absurd b

pub commit_said : (rest : List ℕ) (step : Step) → SpellsStep (codes "commit " ++ rest) step → (n : ℕ) × IsNumber rest n
commit_said rest step s = let e = words_said (codes "commit") rest step s commit_lacks in commit_rest rest step e.0 e.1

rollback_rest : (rest : List ℕ) (step : Step) → codes "rollback" ≡ word_of step → SpellsRest step rest → (n : ℕ) × IsNumber rest n
rollback_rest rest steps.Begin w b = absurd b
rollback_rest rest (steps.Fetch t key) w b = let e = ap (λ (x : List ℕ). slice_index x 0) w in absurd (omega (arith, e))
rollback_rest rest (steps.Seek t key) w b = let e = ap (λ (x : List ℕ). slice_index x 0) w in absurd (omega (arith, e))
rollback_rest rest (steps.Next t key) w b = let e = ap (λ (x : List ℕ). slice_index x 0) w in absurd (omega (arith, e))
rollback_rest rest (steps.Prev t key) w b = let e = ap (λ (x : List ℕ). slice_index x 0) w in absurd (omega (arith, e))
rollback_rest rest (steps.Scan t lo hi limit) w b = let e = ap (λ (x : List ℕ). slice_index x 0) w in absurd (omega (arith, e))
rollback_rest rest (steps.Insert t key rid) w b = let e = ap (λ (x : List ℕ). slice_index x 0) w in absurd (omega (arith, e))
rollback_rest rest (steps.Delete t key) w b = let e = ap (λ (x : List ℕ). slice_index x 0) w in absurd (omega (arith, e))
rollback_rest rest (steps.Commit t) w b = let e = ap (λ (x : List ℕ). slice_index x 0) w in absurd (omega (arith, e))
rollback_rest rest (steps.Rollback t) w b = (t, b)
rollback_rest rest (steps.Continue t) w b = let e = ap (λ (x : List ℕ). slice_index x 0) w in absurd (omega (arith, e))
rollback_rest rest (steps.RollTo t left) w b = let e = ap (λ (x : List ℕ). slice_index x 4) w in absurd (omega (arith, e))
rollback_rest rest (steps.FlushPage page) w b = let e = ap (λ (x : List ℕ). slice_index x 0) w in absurd (omega (arith, e))
rollback_rest rest steps.Force w b = absurd b
rollback_rest rest steps.Checkpoint w b = absurd b
rollback_rest rest steps.Switch w b = absurd b

pub rollback_said : (rest : List ℕ) (step : Step) → SpellsStep (codes "rollback " ++ rest) step → (n : ℕ) × IsNumber rest n
rollback_said rest step s = let e = words_said (codes "rollback") rest step s rollback_lacks in rollback_rest rest step e.0 e.1

continue_rest : (rest : List ℕ) (step : Step) → codes "continue" ≡ word_of step → SpellsRest step rest → (n : ℕ) × IsNumber rest n
continue_rest rest steps.Begin w b = absurd b
continue_rest rest (steps.Fetch t key) w b = let e = ap (λ (x : List ℕ). slice_index x 0) w in absurd (omega (arith, e))
continue_rest rest (steps.Seek t key) w b = let e = ap (λ (x : List ℕ). slice_index x 0) w in absurd (omega (arith, e))
continue_rest rest (steps.Next t key) w b = let e = ap (λ (x : List ℕ). slice_index x 0) w in absurd (omega (arith, e))
continue_rest rest (steps.Prev t key) w b = let e = ap (λ (x : List ℕ). slice_index x 0) w in absurd (omega (arith, e))
continue_rest rest (steps.Scan t lo hi limit) w b = let e = ap (λ (x : List ℕ). slice_index x 0) w in absurd (omega (arith, e))
continue_rest rest (steps.Insert t key rid) w b = let e = ap (λ (x : List ℕ). slice_index x 0) w in absurd (omega (arith, e))
continue_rest rest (steps.Delete t key) w b = let e = ap (λ (x : List ℕ). slice_index x 0) w in absurd (omega (arith, e))
continue_rest rest (steps.Commit t) w b = let e = ap (λ (x : List ℕ). slice_index x 2) w in absurd (omega (arith, e))
continue_rest rest (steps.Rollback t) w b = let e = ap (λ (x : List ℕ). slice_index x 0) w in absurd (omega (arith, e))
continue_rest rest (steps.Continue t) w b = (t, b)
continue_rest rest (steps.RollTo t left) w b = let e = ap (λ (x : List ℕ). slice_index x 0) w in absurd (omega (arith, e))
continue_rest rest (steps.FlushPage page) w b = let e = ap (λ (x : List ℕ). slice_index x 0) w in absurd (omega (arith, e))
continue_rest rest steps.Force w b = absurd b
continue_rest rest steps.Checkpoint w b = absurd b
continue_rest rest steps.Switch w b = absurd b

pub continue_said : (rest : List ℕ) (step : Step) → SpellsStep (codes "continue " ++ rest) step → (n : ℕ) × IsNumber rest n
continue_said rest step s = let e = words_said (codes "continue") rest step s continue_lacks in continue_rest rest step e.0 e.1

rollto_rest : (rest : List ℕ) (step : Step) → codes "rollto" ≡ word_of step → SpellsRest step rest → (t : ℕ) × (left : ℕ) × IsNumberedWith rest t left
rollto_rest rest steps.Begin w b = absurd b
rollto_rest rest (steps.Fetch t key) w b = let e = ap (λ (x : List ℕ). slice_index x 0) w in absurd (omega (arith, e))
rollto_rest rest (steps.Seek t key) w b = let e = ap (λ (x : List ℕ). slice_index x 0) w in absurd (omega (arith, e))
rollto_rest rest (steps.Next t key) w b = let e = ap (λ (x : List ℕ). slice_index x 0) w in absurd (omega (arith, e))
rollto_rest rest (steps.Prev t key) w b = let e = ap (λ (x : List ℕ). slice_index x 0) w in absurd (omega (arith, e))
rollto_rest rest (steps.Scan t lo hi limit) w b = let e = ap (λ (x : List ℕ). slice_index x 0) w in absurd (omega (arith, e))
rollto_rest rest (steps.Insert t key rid) w b = let e = ap (λ (x : List ℕ). slice_index x 0) w in absurd (omega (arith, e))
rollto_rest rest (steps.Delete t key) w b = let e = ap (λ (x : List ℕ). slice_index x 0) w in absurd (omega (arith, e))
rollto_rest rest (steps.Commit t) w b = let e = ap (λ (x : List ℕ). slice_index x 0) w in absurd (omega (arith, e))
rollto_rest rest (steps.Rollback t) w b = let e = ap (λ (x : List ℕ). slice_index x 4) w in absurd (omega (arith, e))
rollto_rest rest (steps.Continue t) w b = let e = ap (λ (x : List ℕ). slice_index x 0) w in absurd (omega (arith, e))
rollto_rest rest (steps.RollTo t left) w b = (t, left, b)
rollto_rest rest (steps.FlushPage page) w b = let e = ap (λ (x : List ℕ). slice_index x 0) w in absurd (omega (arith, e))
rollto_rest rest steps.Force w b = absurd b
rollto_rest rest steps.Checkpoint w b = absurd b
rollto_rest rest steps.Switch w b = absurd b

pub rollto_said : (rest : List ℕ) (step : Step) → SpellsStep (codes "rollto " ++ rest) step → (t : ℕ) × (left : ℕ) × IsNumberedWith rest t left
rollto_said rest step s = let e = words_said (codes "rollto") rest step s rollto_lacks in rollto_rest rest step e.0 e.1

flush_rest : (rest : List ℕ) (step : Step) → codes "flush" ≡ word_of step → SpellsRest step rest → (n : ℕ) × IsPageNumber rest n
flush_rest rest steps.Begin w b = absurd b
flush_rest rest (steps.Fetch t key) w b = let e = ap (λ (x : List ℕ). slice_index x 1) w in absurd (omega (arith, e))
flush_rest rest (steps.Seek t key) w b = let e = ap (λ (x : List ℕ). slice_index x 0) w in absurd (omega (arith, e))
flush_rest rest (steps.Next t key) w b = let e = ap (λ (x : List ℕ). slice_index x 0) w in absurd (omega (arith, e))
flush_rest rest (steps.Prev t key) w b = let e = ap (λ (x : List ℕ). slice_index x 0) w in absurd (omega (arith, e))
flush_rest rest (steps.Scan t lo hi limit) w b = let e = ap (λ (x : List ℕ). slice_index x 0) w in absurd (omega (arith, e))
flush_rest rest (steps.Insert t key rid) w b = let e = ap (λ (x : List ℕ). slice_index x 0) w in absurd (omega (arith, e))
flush_rest rest (steps.Delete t key) w b = let e = ap (λ (x : List ℕ). slice_index x 0) w in absurd (omega (arith, e))
flush_rest rest (steps.Commit t) w b = let e = ap (λ (x : List ℕ). slice_index x 0) w in absurd (omega (arith, e))
flush_rest rest (steps.Rollback t) w b = let e = ap (λ (x : List ℕ). slice_index x 0) w in absurd (omega (arith, e))
flush_rest rest (steps.Continue t) w b = let e = ap (λ (x : List ℕ). slice_index x 0) w in absurd (omega (arith, e))
flush_rest rest (steps.RollTo t left) w b = let e = ap (λ (x : List ℕ). slice_index x 0) w in absurd (omega (arith, e))
flush_rest rest (steps.FlushPage page) w b = (page, b)
flush_rest rest steps.Force w b = absurd b
flush_rest rest steps.Checkpoint w b = absurd b
flush_rest rest steps.Switch w b = absurd b

pub flush_said : (rest : List ℕ) (step : Step) → SpellsStep (codes "flush " ++ rest) step → (n : ℕ) × IsPageNumber rest n
flush_said rest step s = let e = words_said (codes "flush") rest step s flush_lacks in flush_rest rest step e.0 e.1

fetch_rest : (rest : List ℕ) (step : Step) → codes "fetch" ≡ word_of step → SpellsRest step rest → (t : ℕ) × (key : List ℕ) × IsKeyed rest t key
fetch_rest rest steps.Begin w b = absurd b
fetch_rest rest (steps.Fetch t key) w b = (t, key.items, b)
fetch_rest rest (steps.Seek t key) w b = let e = ap (λ (x : List ℕ). slice_index x 0) w in absurd (omega (arith, e))
fetch_rest rest (steps.Next t key) w b = let e = ap (λ (x : List ℕ). slice_index x 0) w in absurd (omega (arith, e))
fetch_rest rest (steps.Prev t key) w b = let e = ap (λ (x : List ℕ). slice_index x 0) w in absurd (omega (arith, e))
fetch_rest rest (steps.Scan t lo hi limit) w b = let e = ap (λ (x : List ℕ). slice_index x 0) w in absurd (omega (arith, e))
fetch_rest rest (steps.Insert t key rid) w b = let e = ap (λ (x : List ℕ). slice_index x 0) w in absurd (omega (arith, e))
fetch_rest rest (steps.Delete t key) w b = let e = ap (λ (x : List ℕ). slice_index x 0) w in absurd (omega (arith, e))
fetch_rest rest (steps.Commit t) w b = let e = ap (λ (x : List ℕ). slice_index x 0) w in absurd (omega (arith, e))
fetch_rest rest (steps.Rollback t) w b = let e = ap (λ (x : List ℕ). slice_index x 0) w in absurd (omega (arith, e))
fetch_rest rest (steps.Continue t) w b = let e = ap (λ (x : List ℕ). slice_index x 0) w in absurd (omega (arith, e))
fetch_rest rest (steps.RollTo t left) w b = let e = ap (λ (x : List ℕ). slice_index x 0) w in absurd (omega (arith, e))
fetch_rest rest (steps.FlushPage page) w b = let e = ap (λ (x : List ℕ). slice_index x 1) w in absurd (omega (arith, e))
fetch_rest rest steps.Force w b = absurd b
fetch_rest rest steps.Checkpoint w b = absurd b
fetch_rest rest steps.Switch w b = absurd b

pub fetch_said : (rest : List ℕ) (step : Step) → SpellsStep (codes "fetch " ++ rest) step → (t : ℕ) × (key : List ℕ) × IsKeyed rest t key
fetch_said rest step s = let e = words_said (codes "fetch") rest step s fetch_lacks in fetch_rest rest step e.0 e.1

seek_rest : (rest : List ℕ) (step : Step) → codes "seek" ≡ word_of step → SpellsRest step rest → (t : ℕ) × (key : List ℕ) × IsKeyed rest t key
seek_rest rest steps.Begin w b = absurd b
seek_rest rest (steps.Fetch t key) w b = let e = ap (λ (x : List ℕ). slice_index x 0) w in absurd (omega (arith, e))
seek_rest rest (steps.Seek t key) w b = (t, key.items, b)
seek_rest rest (steps.Next t key) w b = let e = ap (λ (x : List ℕ). slice_index x 0) w in absurd (omega (arith, e))
seek_rest rest (steps.Prev t key) w b = let e = ap (λ (x : List ℕ). slice_index x 0) w in absurd (omega (arith, e))
seek_rest rest (steps.Scan t lo hi limit) w b = let e = ap (λ (x : List ℕ). slice_index x 1) w in absurd (omega (arith, e))
seek_rest rest (steps.Insert t key rid) w b = let e = ap (λ (x : List ℕ). slice_index x 0) w in absurd (omega (arith, e))
seek_rest rest (steps.Delete t key) w b = let e = ap (λ (x : List ℕ). slice_index x 0) w in absurd (omega (arith, e))
seek_rest rest (steps.Commit t) w b = let e = ap (λ (x : List ℕ). slice_index x 0) w in absurd (omega (arith, e))
seek_rest rest (steps.Rollback t) w b = let e = ap (λ (x : List ℕ). slice_index x 0) w in absurd (omega (arith, e))
seek_rest rest (steps.Continue t) w b = let e = ap (λ (x : List ℕ). slice_index x 0) w in absurd (omega (arith, e))
seek_rest rest (steps.RollTo t left) w b = let e = ap (λ (x : List ℕ). slice_index x 0) w in absurd (omega (arith, e))
seek_rest rest (steps.FlushPage page) w b = let e = ap (λ (x : List ℕ). slice_index x 0) w in absurd (omega (arith, e))
seek_rest rest steps.Force w b = absurd b
seek_rest rest steps.Checkpoint w b = absurd b
seek_rest rest steps.Switch w b = absurd b

pub seek_said : (rest : List ℕ) (step : Step) → SpellsStep (codes "seek " ++ rest) step → (t : ℕ) × (key : List ℕ) × IsKeyed rest t key
seek_said rest step s = let e = words_said (codes "seek") rest step s seek_lacks in seek_rest rest step e.0 e.1

next_rest : (rest : List ℕ) (step : Step) → codes "next" ≡ word_of step → SpellsRest step rest → (t : ℕ) × (key : List ℕ) × IsKeyed rest t key
next_rest rest steps.Begin w b = absurd b
next_rest rest (steps.Fetch t key) w b = let e = ap (λ (x : List ℕ). slice_index x 0) w in absurd (omega (arith, e))
next_rest rest (steps.Seek t key) w b = let e = ap (λ (x : List ℕ). slice_index x 0) w in absurd (omega (arith, e))
next_rest rest (steps.Next t key) w b = (t, key.items, b)
next_rest rest (steps.Prev t key) w b = let e = ap (λ (x : List ℕ). slice_index x 0) w in absurd (omega (arith, e))
next_rest rest (steps.Scan t lo hi limit) w b = let e = ap (λ (x : List ℕ). slice_index x 0) w in absurd (omega (arith, e))
next_rest rest (steps.Insert t key rid) w b = let e = ap (λ (x : List ℕ). slice_index x 0) w in absurd (omega (arith, e))
next_rest rest (steps.Delete t key) w b = let e = ap (λ (x : List ℕ). slice_index x 0) w in absurd (omega (arith, e))
next_rest rest (steps.Commit t) w b = let e = ap (λ (x : List ℕ). slice_index x 0) w in absurd (omega (arith, e))
next_rest rest (steps.Rollback t) w b = let e = ap (λ (x : List ℕ). slice_index x 0) w in absurd (omega (arith, e))
next_rest rest (steps.Continue t) w b = let e = ap (λ (x : List ℕ). slice_index x 0) w in absurd (omega (arith, e))
next_rest rest (steps.RollTo t left) w b = let e = ap (λ (x : List ℕ). slice_index x 0) w in absurd (omega (arith, e))
next_rest rest (steps.FlushPage page) w b = let e = ap (λ (x : List ℕ). slice_index x 0) w in absurd (omega (arith, e))
next_rest rest steps.Force w b = absurd b
next_rest rest steps.Checkpoint w b = absurd b
next_rest rest steps.Switch w b = absurd b

pub next_said : (rest : List ℕ) (step : Step) → SpellsStep (codes "next " ++ rest) step → (t : ℕ) × (key : List ℕ) × IsKeyed rest t key
next_said rest step s = let e = words_said (codes "next") rest step s next_lacks in next_rest rest step e.0 e.1

prev_rest : (rest : List ℕ) (step : Step) → codes "prev" ≡ word_of step → SpellsRest step rest → (t : ℕ) × (key : List ℕ) × IsKeyed rest t key
prev_rest rest steps.Begin w b = absurd b
prev_rest rest (steps.Fetch t key) w b = let e = ap (λ (x : List ℕ). slice_index x 0) w in absurd (omega (arith, e))
prev_rest rest (steps.Seek t key) w b = let e = ap (λ (x : List ℕ). slice_index x 0) w in absurd (omega (arith, e))
prev_rest rest (steps.Next t key) w b = let e = ap (λ (x : List ℕ). slice_index x 0) w in absurd (omega (arith, e))
prev_rest rest (steps.Prev t key) w b = (t, key.items, b)
prev_rest rest (steps.Scan t lo hi limit) w b = let e = ap (λ (x : List ℕ). slice_index x 0) w in absurd (omega (arith, e))
prev_rest rest (steps.Insert t key rid) w b = let e = ap (λ (x : List ℕ). slice_index x 0) w in absurd (omega (arith, e))
prev_rest rest (steps.Delete t key) w b = let e = ap (λ (x : List ℕ). slice_index x 0) w in absurd (omega (arith, e))
prev_rest rest (steps.Commit t) w b = let e = ap (λ (x : List ℕ). slice_index x 0) w in absurd (omega (arith, e))
prev_rest rest (steps.Rollback t) w b = let e = ap (λ (x : List ℕ). slice_index x 0) w in absurd (omega (arith, e))
prev_rest rest (steps.Continue t) w b = let e = ap (λ (x : List ℕ). slice_index x 0) w in absurd (omega (arith, e))
prev_rest rest (steps.RollTo t left) w b = let e = ap (λ (x : List ℕ). slice_index x 0) w in absurd (omega (arith, e))
prev_rest rest (steps.FlushPage page) w b = let e = ap (λ (x : List ℕ). slice_index x 0) w in absurd (omega (arith, e))
prev_rest rest steps.Force w b = absurd b
prev_rest rest steps.Checkpoint w b = absurd b
prev_rest rest steps.Switch w b = absurd b

pub prev_said : (rest : List ℕ) (step : Step) → SpellsStep (codes "prev " ++ rest) step → (t : ℕ) × (key : List ℕ) × IsKeyed rest t key
prev_said rest step s = let e = words_said (codes "prev") rest step s prev_lacks in prev_rest rest step e.0 e.1

scan_rest : (rest : List ℕ) (step : Step) → codes "scan" ≡ word_of step → SpellsRest step rest → (t : ℕ) × (lo : List ℕ) × (hi : List ℕ) × (limit : ℕ) × IsRanged rest t lo hi limit
scan_rest rest steps.Begin w b = absurd b
scan_rest rest (steps.Fetch t key) w b = let e = ap (λ (x : List ℕ). slice_index x 0) w in absurd (omega (arith, e))
scan_rest rest (steps.Seek t key) w b = let e = ap (λ (x : List ℕ). slice_index x 1) w in absurd (omega (arith, e))
scan_rest rest (steps.Next t key) w b = let e = ap (λ (x : List ℕ). slice_index x 0) w in absurd (omega (arith, e))
scan_rest rest (steps.Prev t key) w b = let e = ap (λ (x : List ℕ). slice_index x 0) w in absurd (omega (arith, e))
scan_rest rest (steps.Scan t lo hi limit) w b = (t, lo.items, hi.items, limit, b)
scan_rest rest (steps.Insert t key rid) w b = let e = ap (λ (x : List ℕ). slice_index x 0) w in absurd (omega (arith, e))
scan_rest rest (steps.Delete t key) w b = let e = ap (λ (x : List ℕ). slice_index x 0) w in absurd (omega (arith, e))
scan_rest rest (steps.Commit t) w b = let e = ap (λ (x : List ℕ). slice_index x 0) w in absurd (omega (arith, e))
scan_rest rest (steps.Rollback t) w b = let e = ap (λ (x : List ℕ). slice_index x 0) w in absurd (omega (arith, e))
scan_rest rest (steps.Continue t) w b = let e = ap (λ (x : List ℕ). slice_index x 0) w in absurd (omega (arith, e))
scan_rest rest (steps.RollTo t left) w b = let e = ap (λ (x : List ℕ). slice_index x 0) w in absurd (omega (arith, e))
scan_rest rest (steps.FlushPage page) w b = let e = ap (λ (x : List ℕ). slice_index x 0) w in absurd (omega (arith, e))
scan_rest rest steps.Force w b = absurd b
scan_rest rest steps.Checkpoint w b = absurd b
scan_rest rest steps.Switch w b = absurd b

pub scan_said : (rest : List ℕ) (step : Step) → SpellsStep (codes "scan " ++ rest) step → (t : ℕ) × (lo : List ℕ) × (hi : List ℕ) × (limit : ℕ) × IsRanged rest t lo hi limit
scan_said rest step s = let e = words_said (codes "scan") rest step s scan_lacks in scan_rest rest step e.0 e.1

insert_rest : (rest : List ℕ) (step : Step) → codes "insert" ≡ word_of step → SpellsRest step rest → (t : ℕ) × (key : List ℕ) × (rid : ℕ) × IsKeyedWith rest t key rid
insert_rest rest steps.Begin w b = absurd b
insert_rest rest (steps.Fetch t key) w b = let e = ap (λ (x : List ℕ). slice_index x 0) w in absurd (omega (arith, e))
insert_rest rest (steps.Seek t key) w b = let e = ap (λ (x : List ℕ). slice_index x 0) w in absurd (omega (arith, e))
insert_rest rest (steps.Next t key) w b = let e = ap (λ (x : List ℕ). slice_index x 0) w in absurd (omega (arith, e))
insert_rest rest (steps.Prev t key) w b = let e = ap (λ (x : List ℕ). slice_index x 0) w in absurd (omega (arith, e))
insert_rest rest (steps.Scan t lo hi limit) w b = let e = ap (λ (x : List ℕ). slice_index x 0) w in absurd (omega (arith, e))
insert_rest rest (steps.Insert t key rid) w b = (t, key.items, rid, b)
insert_rest rest (steps.Delete t key) w b = let e = ap (λ (x : List ℕ). slice_index x 0) w in absurd (omega (arith, e))
insert_rest rest (steps.Commit t) w b = let e = ap (λ (x : List ℕ). slice_index x 0) w in absurd (omega (arith, e))
insert_rest rest (steps.Rollback t) w b = let e = ap (λ (x : List ℕ). slice_index x 0) w in absurd (omega (arith, e))
insert_rest rest (steps.Continue t) w b = let e = ap (λ (x : List ℕ). slice_index x 0) w in absurd (omega (arith, e))
insert_rest rest (steps.RollTo t left) w b = let e = ap (λ (x : List ℕ). slice_index x 0) w in absurd (omega (arith, e))
insert_rest rest (steps.FlushPage page) w b = let e = ap (λ (x : List ℕ). slice_index x 0) w in absurd (omega (arith, e))
insert_rest rest steps.Force w b = absurd b
insert_rest rest steps.Checkpoint w b = absurd b
insert_rest rest steps.Switch w b = absurd b

pub insert_said : (rest : List ℕ) (step : Step) → SpellsStep (codes "insert " ++ rest) step → (t : ℕ) × (key : List ℕ) × (rid : ℕ) × IsKeyedWith rest t key rid
insert_said rest step s = let e = words_said (codes "insert") rest step s insert_lacks in insert_rest rest step e.0 e.1

delete_rest : (rest : List ℕ) (step : Step) → codes "delete" ≡ word_of step → SpellsRest step rest → (t : ℕ) × (key : List ℕ) × IsKeyed rest t key
delete_rest rest steps.Begin w b = absurd b
delete_rest rest (steps.Fetch t key) w b = let e = ap (λ (x : List ℕ). slice_index x 0) w in absurd (omega (arith, e))
delete_rest rest (steps.Seek t key) w b = let e = ap (λ (x : List ℕ). slice_index x 0) w in absurd (omega (arith, e))
delete_rest rest (steps.Next t key) w b = let e = ap (λ (x : List ℕ). slice_index x 0) w in absurd (omega (arith, e))
delete_rest rest (steps.Prev t key) w b = let e = ap (λ (x : List ℕ). slice_index x 0) w in absurd (omega (arith, e))
delete_rest rest (steps.Scan t lo hi limit) w b = let e = ap (λ (x : List ℕ). slice_index x 0) w in absurd (omega (arith, e))
delete_rest rest (steps.Insert t key rid) w b = let e = ap (λ (x : List ℕ). slice_index x 0) w in absurd (omega (arith, e))
delete_rest rest (steps.Delete t key) w b = (t, key.items, b)
delete_rest rest (steps.Commit t) w b = let e = ap (λ (x : List ℕ). slice_index x 0) w in absurd (omega (arith, e))
delete_rest rest (steps.Rollback t) w b = let e = ap (λ (x : List ℕ). slice_index x 0) w in absurd (omega (arith, e))
delete_rest rest (steps.Continue t) w b = let e = ap (λ (x : List ℕ). slice_index x 0) w in absurd (omega (arith, e))
delete_rest rest (steps.RollTo t left) w b = let e = ap (λ (x : List ℕ). slice_index x 0) w in absurd (omega (arith, e))
delete_rest rest (steps.FlushPage page) w b = let e = ap (λ (x : List ℕ). slice_index x 0) w in absurd (omega (arith, e))
delete_rest rest steps.Force w b = absurd b
delete_rest rest steps.Checkpoint w b = absurd b
delete_rest rest steps.Switch w b = absurd b

pub delete_said : (rest : List ℕ) (step : Step) → SpellsStep (codes "delete " ++ rest) step → (t : ℕ) × (key : List ℕ) × IsKeyed rest t key
delete_said rest step s = let e = words_said (codes "delete") rest step s delete_lacks in delete_rest rest step e.0 e.1

-- a text without a space is not numbered
pub numbered_lacks : (text : List ℕ) (n : ℕ) (rest : List ℕ) → IsNumbered text n rest → LacksByte 32 text → ⊥
numbered_lacks text n rest w l = lacks_mid 32 w.word rest (subst (λ (x : List ℕ). LacksByte 32 x) w.is l)

-- the first word of a numbered text is its number
pub numbered_cut : (text word more : List ℕ) (n : ℕ) (rest : List ℕ) → IsNumbered text n rest → text ≡ word ++ 32 ∷ more → LacksByte 32 word → IsNumber word n
numbered_cut text word more n rest w cut l =
    let e = cut_once 32 word w.word more rest l (digits_lack w.word w.number.0.1) (sym cut ∙ w.is) in
    subst (λ (x : List ℕ). IsNumber x n) (sym e.0) w.number

-- a text is numbered in one way
pub numbered_once : (text : List ℕ) (n m : ℕ) (rest other : List ℕ) → IsNumbered text n rest → IsNumbered text m other → rest ≡ other
numbered_once text n m rest other a b = (cut_once 32 a.word b.word rest other (digits_lack a.word a.number.0.1) (digits_lack b.word b.number.0.1) (sym a.is ∙ b.is)).1

-- what stands after the number is the word of the key
pub keyed_same : (text : List ℕ) (n t : ℕ) (word key : List ℕ) → IsNumbered text n word → IsKeyed text t key → IsKeyWord word key
keyed_same text n t word key a k = subst (λ (x : List ℕ). IsKeyWord x key) (sym (numbered_once text n t word k.word a k.numbered)) k.is_key

-- what stands after the first of two numbers is the other
pub left_same : (text : List ℕ) (n : ℕ) (last : List ℕ) (t left : ℕ) → IsNumbered text n last → IsNumberedWith text t left → IsNumber last left
left_same text n last t left a k = subst (λ (x : List ℕ). IsNumber x left) (sym (numbered_once text n t last k.last a k.numbered)) k.is_left

-- what stands after the number of an insert: the word of the key, and the row id
pub insert_cut : (text : List ℕ) (n : ℕ) (more word last : List ℕ) (t : ℕ) (key : List ℕ) (rid : ℕ) → IsNumbered text n more → more ≡ word ++ 32 ∷ last → LacksByte 32 word → IsKeyedWith text t key rid → IsKeyWord word key × IsNumber last rid
insert_cut text n more word last t key rid a cut l k =
    let same = numbered_once text n t more (k.word ++ 32 ∷ k.last) a k.numbered in
    let e = cut_once 32 word k.word last k.last l (key_lacks k.word key k.is_key) (sym cut ∙ same) in
    (subst (λ (x : List ℕ). IsKeyWord x key) (sym e.0) k.is_key, subst (λ (x : List ℕ). IsNumber x rid) (sym e.1) k.is_rid)

pub insert_one : (text : List ℕ) (n : ℕ) (more : List ℕ) (t : ℕ) (key : List ℕ) (rid : ℕ) → IsNumbered text n more → LacksByte 32 more → IsKeyedWith text t key rid → ⊥
insert_one text n more t key rid a l k = lacks_mid 32 k.word k.last (subst (λ (x : List ℕ). LacksByte 32 x) (numbered_once text n t more (k.word ++ 32 ∷ k.last) a k.numbered) l)

-- what stands after the word of a key
pub behind_once : (text : List ℕ) (key other rest more : List ℕ) → IsBehindKey text key rest → IsBehindKey text other more → rest ≡ more
behind_once text key other rest more a b = (cut_once 32 a.word b.word rest more (key_lacks a.word key a.is_key) (key_lacks b.word other b.is_key) (sym a.is ∙ b.is)).1

-- the word of a key in front of a space
pub behind_cut : (text word more : List ℕ) (key rest : List ℕ) → IsBehindKey text key rest → text ≡ word ++ 32 ∷ more → LacksByte 32 word → IsKeyWord word key
behind_cut text word more key rest b cut l =
    let e = cut_once 32 word b.word more rest l (key_lacks b.word key b.is_key) (sym cut ∙ b.is) in
    subst (λ (x : List ℕ). IsKeyWord x key) (sym e.0) b.is_key

pub behind_one : (text key rest : List ℕ) → IsBehindKey text key rest → LacksByte 32 text → ⊥
behind_one text key rest b l = lacks_mid 32 b.word rest (subst (λ (x : List ℕ). LacksByte 32 x) b.is l)

-- what stands after the number of a scan
pub scan_low : (text more : List ℕ) (n : ℕ) (t : ℕ) (lo hi : List ℕ) (limit : ℕ) → IsNumbered text n more → (r : IsRanged text t lo hi limit) → IsBehindKey more lo r.rest
scan_low text more n t lo hi limit a r = subst (λ (x : List ℕ). IsBehindKey x lo r.rest) (sym (numbered_once text n t more r.keys a r.numbered)) r.low

pub scan_high : (text more behind : List ℕ) (n : ℕ) (key : List ℕ) (t : ℕ) (lo hi : List ℕ) (limit : ℕ) → IsNumbered text n more → IsBehindKey more key behind → (r : IsRanged text t lo hi limit) → IsBehindKey behind hi r.last
scan_high text more behind n key t lo hi limit a low r =
    let same = behind_once more key lo behind r.rest low (scan_low text more n t lo hi limit a r) in
    subst (λ (x : List ℕ). IsBehindKey x hi r.last) (sym same) r.high

pub scan_limit : (text more behind last : List ℕ) (n : ℕ) (key other : List ℕ) (t : ℕ) (lo hi : List ℕ) (limit : ℕ) → IsNumbered text n more → IsBehindKey more key behind → IsBehindKey behind other last → (r : IsRanged text t lo hi limit) → IsNumber last limit
scan_limit text more behind last n key other t lo hi limit a low high r =
    let same = behind_once behind other hi last r.last high (scan_high text more behind n key t lo hi limit a low r) in
    subst (λ (x : List ℕ). IsNumber x limit) (sym same) r.is_limit

-- what holds whatever the error is
pub whatever : {T E : Type 0} (r : Result T E) (Q : Type 0) → Q → IfErr r (λ e. Q)
whatever (Ok x) Q q = tt
whatever (Err e) Q q = q
