use Rattle.std.proofs.Common.{◌≡◌, ◌<◌, ℕ, List, ◌+◌, length, get_or, drop, refl, sym, ◌∙◌, ap, arith}
use Rattle.std.specs.Prelude.{min}
use Rattle.std.proofs.lemmas.List.{at_drop_more, at_drop_all}
use Rattle.im_base_types.specs.declared.tables.DirtyPage.{DirtyPage}
use Rattle.im_theory_log.specs.RedoPoints.{least}
use Rattle.im_log_record.specs.Entry.{dirty_rows}
use Rattle.im_restart_analysis.proofs.numbers.least.Goals.{then-rec_lsn-lowest, else-rec_lsn-lowest}
use Rattle.im_restart_analysis.proofs.numbers.least.Goals as goal

-- one row more
more : (lowest next start : ℕ) (rows : List DirtyPage) (i : ℕ) (row : DirtyPage) → i < length rows → row ≡ get_or rows i row → next ≡ min lowest row.rec_lsn
    → least lowest (drop i rows) ≡ start → least next (drop (i + 1) rows) ≡ start
more lowest next start rows i row lt at is before =
    let here : least lowest (drop i rows) ≡ least (min lowest (get_or rows i row).rec_lsn) (drop (i + 1) rows) = at_drop_more (least lowest) rows i row lt in
    ap (λ (l : ℕ). least l (drop (i + 1) rows)) (is ∙ ap (λ (d : DirtyPage). min lowest d.rec_lsn) at) ∙ sym here ∙ before

pub loop-i-init : goal.loop-i-init
loop-i-init c = refl

pub loop-i-preserved : goal.loop-i-preserved
loop-i-preserved c =
    let lower : c.if-rec_lsn-lowest.lowest ≡ min c.loop-i.lowest c.row-rec_lsn.result.rec_lsn =
    elim c.if-rec_lsn-lowest.branch [ then-rec_lsn-lowest w ↦ omega (arith, w.lowest-is, w.if-rec_lsn-lowest) | else-rec_lsn-lowest w ↦ omega (arith, w.lowest-is, w.if-rec_lsn-lowest) ] in
    more c.loop-i.lowest c.if-rec_lsn-lowest.lowest (least c.args.lsn (dirty_rows c.args.dirty.now)) (dirty_rows c.args.dirty.now) c.loop-i.i c.row-rec_lsn.result (omega arith) c.row-rec_lsn.ensures lower c.loop-i.invariant

pub returns : goal.returns
returns c =
    let all : least c.loop-i.lowest (drop c.loop-i.i (dirty_rows c.args.dirty.now)) ≡ c.loop-i.lowest = at_drop_all (least c.loop-i.lowest) (dirty_rows c.args.dirty.now) c.loop-i.i (omega arith) in
    sym all ∙ c.loop-i.invariant
