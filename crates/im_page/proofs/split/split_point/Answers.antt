use Rattle.std.proofs.Common.{◌≡◌, List, take, ap, sym, ◌∙◌, arith}
use Rattle.im_base_types.specs.Pages.{Entry}
use Rattle.im_theory_page.specs.Entry.{taken}
use Rattle.im_theory_page.specs.Form.{cell_size, entries_of}
use Rattle.im_theory_page.proofs.EntryLemmas.{length-entries_of}
use Rattle.im_theory_page.proofs.SplitLemmas.{taken_more}
use Rattle.im_page.proofs.split.split_point.Goals as goal

pub returns-then-bound-used : goal.returns-then-bound-used
returns-then-bound-used c =
    let size = c.cell_len.ensures ∙ ap (cell_size c.args.leaf c.args.bytes.now) c.get_u16-at.ensures.value in
    let more = taken_more c.args.leaf c.args.bytes.now c.loop-i.i c.requires.packed (omega arith) in
    record {
      within = omega (arith, length-entries_of c.args.leaf c.args.bytes.now);
      fits = omega (arith, c.loop-i.invariant.total, c.loop-i.invariant.small);
      longest = λ lt. omega (arith, more, size, c.loop-i.invariant.total);
    }

pub loop-i-preserved : goal.loop-i-preserved
loop-i-preserved c =
    let size = c.cell_len.ensures ∙ ap (cell_size c.args.leaf c.args.bytes.now) c.get_u16-at.ensures.value in
    let more = taken_more c.args.leaf c.args.bytes.now c.loop-i.i c.requires.packed (omega arith) in
    record {
      total = omega (arith, more, size, c.loop-i.invariant.total);
      small = omega arith;
    }

pub returns : goal.returns
returns c =
    let es : List Entry = entries_of c.args.leaf c.args.bytes.now in
    let len = length-entries_of c.args.leaf c.args.bytes.now in
    let at_end : c.loop-i.i ≡ c.saturating_sub-most.result = omega arith in
    let all : take c.saturating_sub-most.result es ≡ take c.loop-i.i es = ap (λ n. take n es) (sym at_end) in
    record {
      within = omega (arith, len, c.get_u16.ensures.value);
      fits = omega (arith, ap (taken c.args.leaf) all, c.loop-i.invariant.total, c.loop-i.invariant.small);
      longest = λ lt. absurd (omega (arith, len, c.get_u16.ensures.value));
    }
