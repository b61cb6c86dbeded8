-- What lines of scripts of lives of a store spell, and what they do not.
use Rattle.std.proofs.Common.{◌≡◌, ◌≢◌, ℕ, List, slice_index, ◌++◌, ◌∷◌, if◌then◌else◌, ◌==◌, codes, sym, ◌∙◌, ap, subst, arith}
use Rattle.im_base_steps.specs.declared.step.Step.{Step}
use Rattle.im_base_steps.specs.declared.step.Step.TheVariants as steps
use Rattle.im_tool_lines.specs.declared.batch.Batch.{Batch}
use Rattle.im_tool_lines.specs.declared.line.Line.{Line}
use Rattle.im_tool_lines.specs.declared.line.Line.TheVariants as raws
use Rattle.im_tool_lines.specs.declared.store_script_line.StoreScriptLine.{StoreScriptLine}
use Rattle.im_tool_lines.specs.declared.store_script_line.StoreScriptLine.TheVariants as lines
use Rattle.im_tool_lines.specs.declared.store_life.StoreLine.TheVariants as within
use Rattle.im_tool_words.specs.Words.{LacksByte, IsNumber, IsPageNumber}
use Rattle.im_tool_lines.specs.Lines.{SpellsLine}
use Rattle.im_tool_words.specs.Steps.{SpellsStep}
use Rattle.im_tool_lines.specs.Scripts.{Kind, Sets, Begins, Puts, Counts, Steps, Stops}
use Rattle.im_tool_lines.specs.StoreScripts.{SpellsLife, SpellsOptions, SpellsStore, IsPlainLine, named_options, store_kind_of}
use Rattle.im_tool_lines.specs.declared.store_life.LifeOptions.{LifeOptions}
use Rattle.im_tool_words.proofs.Texts.{cut_once, lacks_mid}
use Rattle.im_tool_lines.proofs.LifeWords.{are_options, lone_life, spaced_life}

-- the kind of a good line of a script of lives of a store, by its first bytes, and another kind for `raw` and `put`
abbrev pub store_text_kind : List ℕ → Kind
store_text_kind text =
    if slice_index text 0 == 108 then (if slice_index text 1 == 111 then Counts else Begins)
    else if slice_index text 0 == 115 then (if slice_index text 1 == 116 then Stops else if slice_index text 2 == 116 then Sets else Steps)
    else if slice_index text 0 == 99 then (if slice_index text 1 == 97 then Counts else if slice_index text 2 == 97 then Counts else Steps)
    else if slice_index text 0 == 112 then (if slice_index text 1 == 97 then Counts else if slice_index text 1 == 114 then Steps else Puts)
    else if slice_index text 0 == 114 then (if slice_index text 1 == 97 then Puts else if slice_index text 1 == 101 then Counts else Steps)
    else Steps

-- a line that asks for a step is of that kind
pub step_kind : (text : List ℕ) (step : Step) → SpellsStep text step → Steps ≡ store_text_kind text
step_kind text steps.Begin s = sym (ap store_text_kind s)
step_kind text (steps.Fetch t key) s = sym (ap store_text_kind s.1)
step_kind text (steps.Seek t key) s = sym (ap store_text_kind s.1)
step_kind text (steps.Next t key) s = sym (ap store_text_kind s.1)
step_kind text (steps.Prev t key) s = sym (ap store_text_kind s.1)
step_kind text (steps.Scan t lo hi limit) s = sym (ap store_text_kind s.1)
step_kind text (steps.Insert t key rid) s = sym (ap store_text_kind s.1)
step_kind text (steps.Delete t key) s = sym (ap store_text_kind s.1)
step_kind text (steps.Commit t) s = sym (ap store_text_kind s.1)
step_kind text (steps.Rollback t) s = sym (ap store_text_kind s.1)
step_kind text (steps.Continue t) s = sym (ap store_text_kind s.1)
step_kind text (steps.RollTo t left) s = sym (ap store_text_kind s.1)
step_kind text (steps.FlushPage page) s = sym (ap store_text_kind s.1)
step_kind text steps.Force s = sym (ap store_text_kind s)
step_kind text steps.Checkpoint s = sym (ap store_text_kind s)
step_kind text steps.Switch s = sym (ap store_text_kind s)

store_kind : (text : List ℕ) (said : StoreScriptLine) → SpellsStore text said → store_kind_of said ≡ store_text_kind text
store_kind text (lines.Life options) s = sym (ap store_text_kind s.1)
store_kind text (lines.Set file bytes) s = sym (ap store_text_kind s.1)
store_kind text (lines.Within within.Calls) s = sym (ap store_text_kind s)
store_kind text (lines.Within (within.Page page)) s = sym (ap store_text_kind s.1)
store_kind text (lines.Within within.Redo) s = sym (ap store_text_kind s)
store_kind text (lines.Within within.Log) s = sym (ap store_text_kind s)
store_kind text (lines.Within (within.Changes t)) s = sym (ap store_text_kind s.1)
store_kind text (lines.Within (within.Step step)) s = step_kind text step s
store_kind text (lines.Stop stop) s = sym (ap store_text_kind s.3)

-- a line is of one kind, however it is read
pub one_store_kind : (text : List ℕ) (l m : StoreScriptLine) → SpellsStore text l → SpellsStore text m → store_kind_of l ≡ store_kind_of m
one_store_kind text l m s o = store_kind text l s ∙ sym (store_kind text m o)

-- no line of a life of a store puts a batch
not_puts : (said : StoreScriptLine) → store_kind_of said ≢ Puts
not_puts (lines.Life options) e = absurd (cc)
not_puts (lines.Set file bytes) e = absurd (cc)
not_puts (lines.Within within.Calls) e = absurd (cc)
not_puts (lines.Within (within.Page page)) e = absurd (cc)
not_puts (lines.Within within.Redo) e = absurd (cc)
not_puts (lines.Within within.Log) e = absurd (cc)
not_puts (lines.Within (within.Changes t)) e = absurd (cc)
not_puts (lines.Within (within.Step step)) e = absurd (cc)
not_puts (lines.Stop stop) e = absurd (cc)

-- `raw` and `put` are no lines of lives of a store
pub not_raw : (text : List ℕ) (said : StoreScriptLine) → SpellsLine text raws.Raw → SpellsStore text said → ⊥
not_raw text said r s = not_puts said (store_kind text said s ∙ ap store_text_kind r)

pub not_put : (text : List ℕ) (said : StoreScriptLine) (batch : Batch) → SpellsLine text (raws.Put batch) → SpellsStore text said → ⊥
not_put text said batch p s = not_puts said (store_kind text said s ∙ ap store_text_kind p.1)

-- what is neither another line nor a step, is no plain line
pub no_store_line : (text : List ℕ) (said : StoreScriptLine) → SpellsStore text said → IsPlainLine said → ((line : Line) → ¬ (SpellsLine text line)) → ((step : Step) → ¬ (SpellsStep text step)) → ⊥
no_store_line text (lines.Life options) s plain o t = plain
no_store_line text (lines.Set file bytes) s plain o t = o (raws.Set file bytes) s
no_store_line text (lines.Within within.Calls) s plain o t = o raws.Calls s
no_store_line text (lines.Within (within.Page page)) s plain o t = plain
no_store_line text (lines.Within within.Redo) s plain o t = plain
no_store_line text (lines.Within within.Log) s plain o t = plain
no_store_line text (lines.Within (within.Changes n)) s plain o t = plain
no_store_line text (lines.Within (within.Step step)) s plain o t = t step s
no_store_line text (lines.Stop stop) s plain o t = o (raws.Stop stop) s

page_lacks : LacksByte 32 (codes "page")
page_lacks = (λ x. omega arith, (λ x. omega arith, (λ x. omega arith, (λ x. omega arith, tt))))

changes_lacks : LacksByte 32 (codes "changes")
changes_lacks = (λ x. omega arith, (λ x. omega arith, (λ x. omega arith, (λ x. omega arith, (λ x. omega arith, (λ x. omega arith, (λ x. omega arith, tt)))))))

redo_lacks : LacksByte 32 (codes "redo")
redo_lacks = (λ x. omega arith, (λ x. omega arith, (λ x. omega arith, (λ x. omega arith, tt))))

log_lacks : LacksByte 32 (codes "log")
log_lacks = (λ x. omega arith, (λ x. omega arith, (λ x. omega arith, tt)))

-- a word alone is `life`, `redo` or `log`, or what a plain line is
pub no_lone_line : (word : List ℕ) (said : StoreScriptLine) → SpellsStore word said → LacksByte 32 word → word ≢ codes "life" → word ≢ codes "redo" → word ≢ codes "log" → ((other : StoreScriptLine) → IsPlainLine other → ¬ (SpellsStore word other)) → ⊥
no_lone_line word (lines.Life options) s l other redo log plain = other (lone_life word options l s)
no_lone_line word (lines.Set file bytes) s l other redo log plain = plain (lines.Set file bytes) tt s
no_lone_line word (lines.Within within.Calls) s l other redo log plain = plain (lines.Within within.Calls) tt s
no_lone_line word (lines.Within (within.Page page)) s l other redo log plain = lacks_mid 32 (codes "page") s.0 (subst (λ (t : List ℕ). LacksByte 32 t) s.1 l)
no_lone_line word (lines.Within within.Redo) s l other redo log plain = redo s
no_lone_line word (lines.Within within.Log) s l other redo log plain = log s
no_lone_line word (lines.Within (within.Changes t)) s l other redo log plain = lacks_mid 32 (codes "changes") s.0 (subst (λ (t : List ℕ). LacksByte 32 t) s.1 l)
no_lone_line word (lines.Within (within.Step step)) s l other redo log plain = plain (lines.Within (within.Step step)) tt s
no_lone_line word (lines.Stop stop) s l other redo log plain = plain (lines.Stop stop) tt s

-- a line of more words begins with `life`, `page` or `changes`, or is what a plain line is
pub no_spaced_line : (text word rest : List ℕ) (said : StoreScriptLine) → SpellsStore text said → text ≡ word ++ 32 ∷ rest → LacksByte 32 word → word ≢ codes "life" → word ≢ codes "page" → word ≢ codes "changes" → ((other : StoreScriptLine) → IsPlainLine other → ¬ (SpellsStore text other)) → ⊥
no_spaced_line text word rest (lines.Life options) s cut l life page changes plain = life (spaced_life word rest options l (subst (λ (t : List ℕ). SpellsLife t options) cut s))
no_spaced_line text word rest (lines.Set file bytes) s cut l life page changes plain = plain (lines.Set file bytes) tt s
no_spaced_line text word rest (lines.Within within.Calls) s cut l life page changes plain = plain (lines.Within within.Calls) tt s
no_spaced_line text word rest (lines.Within (within.Page n)) s cut l life page changes plain = page (cut_once 32 word (codes "page") rest s.0 l page_lacks (sym cut ∙ s.1)).0
no_spaced_line text word rest (lines.Within within.Redo) s cut l life page changes plain = lacks_mid 32 word rest (subst (λ (t : List ℕ). LacksByte 32 t) (sym s ∙ cut) redo_lacks)
no_spaced_line text word rest (lines.Within within.Log) s cut l life page changes plain = lacks_mid 32 word rest (subst (λ (t : List ℕ). LacksByte 32 t) (sym s ∙ cut) log_lacks)
no_spaced_line text word rest (lines.Within (within.Changes n)) s cut l life page changes plain = changes (cut_once 32 word (codes "changes") rest s.0 l changes_lacks (sym cut ∙ s.1)).0
no_spaced_line text word rest (lines.Within (within.Step step)) s cut l life page changes plain = plain (lines.Within (within.Step step)) tt s
no_spaced_line text word rest (lines.Stop stop) s cut l life page changes plain = plain (lines.Stop stop) tt s

-- what stands after `life`: its options
pub life_said : (rest : List ℕ) (said : StoreScriptLine) → SpellsStore (codes "life" ++ rest) said → (options : LifeOptions) × SpellsOptions (named_options options) rest
life_said rest (lines.Life options) s = (options, are_options rest options s)
life_said rest (lines.Set file bytes) s = let e : Sets ≡ Begins = store_kind (codes "life" ++ rest) (lines.Set file bytes) s in absurd (cc)
life_said rest (lines.Within within.Calls) s = let e : Counts ≡ Begins = store_kind (codes "life" ++ rest) (lines.Within within.Calls) s in absurd (cc)
life_said rest (lines.Within (within.Page page)) s = let e : Counts ≡ Begins = store_kind (codes "life" ++ rest) (lines.Within (within.Page page)) s in absurd (cc)
life_said rest (lines.Within within.Redo) s = let e : Counts ≡ Begins = store_kind (codes "life" ++ rest) (lines.Within within.Redo) s in absurd (cc)
life_said rest (lines.Within within.Log) s = let e : Counts ≡ Begins = store_kind (codes "life" ++ rest) (lines.Within within.Log) s in absurd (cc)
life_said rest (lines.Within (within.Changes t)) s = let e : Counts ≡ Begins = store_kind (codes "life" ++ rest) (lines.Within (within.Changes t)) s in absurd (cc)
life_said rest (lines.Within (within.Step step)) s = let e : Steps ≡ Begins = store_kind (codes "life" ++ rest) (lines.Within (within.Step step)) s in absurd (cc)
life_said rest (lines.Stop stop) s = let e : Stops ≡ Begins = store_kind (codes "life" ++ rest) (lines.Stop stop) s in absurd (cc)

-- what stands after `page `
pub page_said : (rest : List ℕ) (said : StoreScriptLine) → SpellsStore (codes "page " ++ rest) said → (n : ℕ) × IsPageNumber rest n
page_said rest (lines.Within (within.Page page)) s = let e : codes "page " ++ rest ≡ codes "page " ++ s.0 = s.1 in let same : rest ≡ s.0 = cc in (page, subst (λ (t : List ℕ). IsPageNumber t page) (sym same) s.2)
page_said rest (lines.Life options) s = let e : Begins ≡ Counts = store_kind (codes "page " ++ rest) (lines.Life options) s in absurd (cc)
page_said rest (lines.Set file bytes) s = let e : Sets ≡ Counts = store_kind (codes "page " ++ rest) (lines.Set file bytes) s in absurd (cc)
page_said rest (lines.Within within.Calls) s = let e = ap (λ (t : List ℕ). slice_index t 0) s in absurd (omega (arith, e))
page_said rest (lines.Within within.Redo) s = let e = ap (λ (t : List ℕ). slice_index t 0) s in absurd (omega (arith, e))
page_said rest (lines.Within within.Log) s = let e = ap (λ (t : List ℕ). slice_index t 0) s in absurd (omega (arith, e))
page_said rest (lines.Within (within.Changes t)) s = let e = ap (λ (t : List ℕ). slice_index t 0) s.1 in absurd (omega (arith, e))
page_said rest (lines.Within (within.Step step)) s = let e : Steps ≡ Counts = store_kind (codes "page " ++ rest) (lines.Within (within.Step step)) s in absurd (cc)
page_said rest (lines.Stop stop) s = let e : Stops ≡ Counts = store_kind (codes "page " ++ rest) (lines.Stop stop) s in absurd (cc)

-- what stands after `changes `
pub changes_said : (rest : List ℕ) (said : StoreScriptLine) → SpellsStore (codes "changes " ++ rest) said → (n : ℕ) × IsNumber rest n
changes_said rest (lines.Within (within.Changes t)) s = let e : codes "changes " ++ rest ≡ codes "changes " ++ s.0 = s.1 in let same : rest ≡ s.0 = cc in (t, subst (λ (text : List ℕ). IsNumber text t) (sym same) s.2)
changes_said rest (lines.Life options) s = let e : Begins ≡ Counts = store_kind (codes "changes " ++ rest) (lines.Life options) s in absurd (cc)
changes_said rest (lines.Set file bytes) s = let e : Sets ≡ Counts = store_kind (codes "changes " ++ rest) (lines.Set file bytes) s in absurd (cc)
changes_said rest (lines.Within within.Calls) s = let e = ap (λ (t : List ℕ). slice_index t 1) s in absurd (omega (arith, e))
changes_said rest (lines.Within (within.Page page)) s = let e = ap (λ (t : List ℕ). slice_index t 0) s.1 in absurd (omega (arith, e))
changes_said rest (lines.Within within.Redo) s = let e = ap (λ (t : List ℕ). slice_index t 0) s in absurd (omega (arith, e))
changes_said rest (lines.Within within.Log) s = let e = ap (λ (t : List ℕ). slice_index t 0) s in absurd (omega (arith, e))
changes_said rest (lines.Within (within.Step step)) s = let e : Steps ≡ Counts = store_kind (codes "changes " ++ rest) (lines.Within (within.Step step)) s in absurd (cc)
changes_said rest (lines.Stop stop) s = let e : Stops ≡ Counts = store_kind (codes "changes " ++ rest) (lines.Stop stop) s in absurd (cc)
