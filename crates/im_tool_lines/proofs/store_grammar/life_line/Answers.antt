use Rattle.std.proofs.Common.{◌≡◌, List, [], ℕ, codes, sym, subst, arith, rules}
use Rattle.std.proofs.lemmas.Grind.{common_steps}
use Rattle.im_tool_lines.specs.Lines.{behind_word}
use Rattle.im_tool_lines.specs.StoreScripts.{Number, Word, IsOption}
use Rattle.im_tool_lines.proofs.StoreSpelled.{life_said}
use Rattle.im_tool_lines.proofs.LifeWords.{first_refused, first_read, first_word, behind_frames, behind_max, behind_fail, behind_failread, behind_stepped, behind_group, behind_dense, not_frames, not_max, not_fail, not_failread, not_stepped, not_group, not_dense, none_left, all_read, life_spelled}
use Rattle.im_tool_lines.proofs.store_grammar.life_line.Goals as goal

pub returns-in_err-frames-clause-refused : goal.returns-in_err-frames-clause-refused
returns-in_err-frames-clause-refused c e said s =
    let text = behind_word c.args.words in
    let o = life_said text said s in
    let name : c.as_slice.result.now ≡ codes "frames" = first_of (search rules, cc, grind (arith, common_steps)) in
    first_refused c.as_slice.result.now (codes "frames") o.0.frames (behind_frames o.0) text name (not_frames o.0) o.1 c.in_err-frames.ensures.refused

pub returns-in_err-max_pages-clause-refused : goal.returns-in_err-max_pages-clause-refused
returns-in_err-max_pages-clause-refused c e said s =
    let text = behind_word c.args.words in
    let o = life_said text said s in
    let name0 : c.as_slice.result.now ≡ codes "frames" = first_of (search rules, cc, grind (arith, common_steps)) in
    let left0 = first_read c.as_slice.result.now (codes "frames") o.0.frames (behind_frames o.0) text c.in_ok-frames.frames (behind_word c.in_ok-frames.words) name0 (not_frames o.0) o.1 c.in_ok-frames.ensures.once in
    let name : c.as_slice-2.result.now ≡ codes "max" = first_of (search rules, cc, grind (arith, common_steps)) in
    first_refused c.as_slice-2.result.now (codes "max") o.0.max_pages (behind_max o.0) (behind_word c.in_ok-frames.words) name (not_max o.0) left0 c.in_err-max_pages.ensures.refused

pub returns-in_err-failing_call-clause-refused : goal.returns-in_err-failing_call-clause-refused
returns-in_err-failing_call-clause-refused c e said s =
    let text = behind_word c.args.words in
    let o = life_said text said s in
    let name0 : c.as_slice.result.now ≡ codes "frames" = first_of (search rules, cc, grind (arith, common_steps)) in
    let left0 = first_read c.as_slice.result.now (codes "frames") o.0.frames (behind_frames o.0) text c.in_ok-frames.frames (behind_word c.in_ok-frames.words) name0 (not_frames o.0) o.1 c.in_ok-frames.ensures.once in
    let name1 : c.as_slice-2.result.now ≡ codes "max" = first_of (search rules, cc, grind (arith, common_steps)) in
    let left1 = first_read c.as_slice-2.result.now (codes "max") o.0.max_pages (behind_max o.0) (behind_word c.in_ok-frames.words) c.in_ok-max_pages.max_pages (behind_word c.in_ok-max_pages.words) name1 (not_max o.0) left0 c.in_ok-max_pages.ensures.once in
    let name : c.as_slice-3.result.now ≡ codes "fail" = first_of (search rules, cc, grind (arith, common_steps)) in
    first_refused c.as_slice-3.result.now (codes "fail") o.0.failing_call (behind_fail o.0) (behind_word c.in_ok-max_pages.words) name (not_fail o.0) left1 c.in_err-failing_call.ensures.refused

pub returns-in_err-failing_read-clause-refused : goal.returns-in_err-failing_read-clause-refused
returns-in_err-failing_read-clause-refused c e said s =
    let text = behind_word c.args.words in
    let o = life_said text said s in
    let name0 : c.as_slice.result.now ≡ codes "frames" = first_of (search rules, cc, grind (arith, common_steps)) in
    let left0 = first_read c.as_slice.result.now (codes "frames") o.0.frames (behind_frames o.0) text c.in_ok-frames.frames (behind_word c.in_ok-frames.words) name0 (not_frames o.0) o.1 c.in_ok-frames.ensures.once in
    let name1 : c.as_slice-2.result.now ≡ codes "max" = first_of (search rules, cc, grind (arith, common_steps)) in
    let left1 = first_read c.as_slice-2.result.now (codes "max") o.0.max_pages (behind_max o.0) (behind_word c.in_ok-frames.words) c.in_ok-max_pages.max_pages (behind_word c.in_ok-max_pages.words) name1 (not_max o.0) left0 c.in_ok-max_pages.ensures.once in
    let name2 : c.as_slice-3.result.now ≡ codes "fail" = first_of (search rules, cc, grind (arith, common_steps)) in
    let left2 = first_read c.as_slice-3.result.now (codes "fail") o.0.failing_call (behind_fail o.0) (behind_word c.in_ok-max_pages.words) c.in_ok-failing_call.failing_call (behind_word c.in_ok-failing_call.words) name2 (not_fail o.0) left1 c.in_ok-failing_call.ensures.once in
    let name : c.as_slice-4.result.now ≡ codes "failread" = first_of (search rules, cc, grind (arith, common_steps)) in
    first_refused c.as_slice-4.result.now (codes "failread") o.0.failing_read (behind_failread o.0) (behind_word c.in_ok-failing_call.words) name (not_failread o.0) left2 c.in_err-failing_read.ensures.refused

pub returns-in_err-workers-clause-refused : goal.returns-in_err-workers-clause-refused
returns-in_err-workers-clause-refused c e said s =
    let text = behind_word c.args.words in
    let o = life_said text said s in
    let name0 : c.as_slice.result.now ≡ codes "frames" = first_of (search rules, cc, grind (arith, common_steps)) in
    let left0 = first_read c.as_slice.result.now (codes "frames") o.0.frames (behind_frames o.0) text c.in_ok-frames.frames (behind_word c.in_ok-frames.words) name0 (not_frames o.0) o.1 c.in_ok-frames.ensures.once in
    let name1 : c.as_slice-2.result.now ≡ codes "max" = first_of (search rules, cc, grind (arith, common_steps)) in
    let left1 = first_read c.as_slice-2.result.now (codes "max") o.0.max_pages (behind_max o.0) (behind_word c.in_ok-frames.words) c.in_ok-max_pages.max_pages (behind_word c.in_ok-max_pages.words) name1 (not_max o.0) left0 c.in_ok-max_pages.ensures.once in
    let name2 : c.as_slice-3.result.now ≡ codes "fail" = first_of (search rules, cc, grind (arith, common_steps)) in
    let left2 = first_read c.as_slice-3.result.now (codes "fail") o.0.failing_call (behind_fail o.0) (behind_word c.in_ok-max_pages.words) c.in_ok-failing_call.failing_call (behind_word c.in_ok-failing_call.words) name2 (not_fail o.0) left1 c.in_ok-failing_call.ensures.once in
    let name3 : c.as_slice-4.result.now ≡ codes "failread" = first_of (search rules, cc, grind (arith, common_steps)) in
    let left3 = first_read c.as_slice-4.result.now (codes "failread") o.0.failing_read (behind_failread o.0) (behind_word c.in_ok-failing_call.words) c.in_ok-failing_read.failing_read (behind_word c.in_ok-failing_read.words) name3 (not_failread o.0) left2 c.in_ok-failing_read.ensures.once in
    let name4 : c.as_slice-5.result.now ≡ codes "stepped" = first_of (search rules, cc, grind (arith, common_steps)) in
    let left4 = first_word c.as_slice-5.result.now (codes "stepped") o.0.stepped (behind_stepped o.0) (behind_word c.in_ok-failing_read.words) c.word_of-stepped.result.0 (behind_word c.word_of-stepped.result.1) name4 (not_stepped o.0) left3 c.word_of-stepped.ensures.once in
    let name5 : c.as_slice-6.result.now ≡ codes "group" = first_of (search rules, cc, grind (arith, common_steps)) in
    let left5 = first_word c.as_slice-6.result.now (codes "group") o.0.group (behind_group o.0) (behind_word c.word_of-stepped.result.1) c.word_of-group.result.0 (behind_word c.word_of-group.result.1) name5 (not_group o.0) left4 c.word_of-group.ensures.once in
    let name6 : c.as_slice-7.result.now ≡ codes "dense" = first_of (search rules, cc, grind (arith, common_steps)) in
    let left6 = first_word c.as_slice-7.result.now (codes "dense") o.0.dense (behind_dense o.0) (behind_word c.word_of-group.result.1) c.word_of-dense.result.0 (behind_word c.word_of-dense.result.1) name6 (not_dense o.0) left5 c.word_of-dense.ensures.once in
    let name : c.as_slice-8.result.now ≡ codes "workers" = first_of (search rules, cc, grind (arith, common_steps)) in
    first_refused c.as_slice-8.result.now (codes "workers") o.0.workers [] (behind_word c.word_of-dense.result.1) name tt left6 c.in_err-workers.ensures.refused

pub returns-then-is_some-clause-refused : goal.returns-then-is_some-clause-refused
returns-then-is_some-clause-refused c e said s =
    let text = behind_word c.args.words in
    let o = life_said text said s in
    let name0 : c.as_slice.result.now ≡ codes "frames" = first_of (search rules, cc, grind (arith, common_steps)) in
    let left0 = first_read c.as_slice.result.now (codes "frames") o.0.frames (behind_frames o.0) text c.in_ok-frames.frames (behind_word c.in_ok-frames.words) name0 (not_frames o.0) o.1 c.in_ok-frames.ensures.once in
    let name1 : c.as_slice-2.result.now ≡ codes "max" = first_of (search rules, cc, grind (arith, common_steps)) in
    let left1 = first_read c.as_slice-2.result.now (codes "max") o.0.max_pages (behind_max o.0) (behind_word c.in_ok-frames.words) c.in_ok-max_pages.max_pages (behind_word c.in_ok-max_pages.words) name1 (not_max o.0) left0 c.in_ok-max_pages.ensures.once in
    let name2 : c.as_slice-3.result.now ≡ codes "fail" = first_of (search rules, cc, grind (arith, common_steps)) in
    let left2 = first_read c.as_slice-3.result.now (codes "fail") o.0.failing_call (behind_fail o.0) (behind_word c.in_ok-max_pages.words) c.in_ok-failing_call.failing_call (behind_word c.in_ok-failing_call.words) name2 (not_fail o.0) left1 c.in_ok-failing_call.ensures.once in
    let name3 : c.as_slice-4.result.now ≡ codes "failread" = first_of (search rules, cc, grind (arith, common_steps)) in
    let left3 = first_read c.as_slice-4.result.now (codes "failread") o.0.failing_read (behind_failread o.0) (behind_word c.in_ok-failing_call.words) c.in_ok-failing_read.failing_read (behind_word c.in_ok-failing_read.words) name3 (not_failread o.0) left2 c.in_ok-failing_read.ensures.once in
    let name4 : c.as_slice-5.result.now ≡ codes "stepped" = first_of (search rules, cc, grind (arith, common_steps)) in
    let left4 = first_word c.as_slice-5.result.now (codes "stepped") o.0.stepped (behind_stepped o.0) (behind_word c.in_ok-failing_read.words) c.word_of-stepped.result.0 (behind_word c.word_of-stepped.result.1) name4 (not_stepped o.0) left3 c.word_of-stepped.ensures.once in
    let name5 : c.as_slice-6.result.now ≡ codes "group" = first_of (search rules, cc, grind (arith, common_steps)) in
    let left5 = first_word c.as_slice-6.result.now (codes "group") o.0.group (behind_group o.0) (behind_word c.word_of-stepped.result.1) c.word_of-group.result.0 (behind_word c.word_of-group.result.1) name5 (not_group o.0) left4 c.word_of-group.ensures.once in
    let name6 : c.as_slice-7.result.now ≡ codes "dense" = first_of (search rules, cc, grind (arith, common_steps)) in
    let left6 = first_word c.as_slice-7.result.now (codes "dense") o.0.dense (behind_dense o.0) (behind_word c.word_of-group.result.1) c.word_of-dense.result.0 (behind_word c.word_of-dense.result.1) name6 (not_dense o.0) left5 c.word_of-dense.ensures.once in
    let name7 : c.as_slice-8.result.now ≡ codes "workers" = first_of (search rules, cc, grind (arith, common_steps)) in
    let left7 = first_read c.as_slice-8.result.now (codes "workers") o.0.workers [] (behind_word c.word_of-dense.result.1) c.in_ok-workers.workers (behind_word c.in_ok-workers.words) name7 tt left6 c.in_ok-workers.ensures.once in
    none_left c.in_ok-workers.words (grind (arith, common_steps)) (sym left7)

pub returns-clause-says : goal.returns-clause-says
returns-clause-says c =
    let name0 : c.as_slice.result.now ≡ codes "frames" = first_of (search rules, cc, grind (arith, common_steps)) in
    let name1 : c.as_slice-2.result.now ≡ codes "max" = first_of (search rules, cc, grind (arith, common_steps)) in
    let name2 : c.as_slice-3.result.now ≡ codes "fail" = first_of (search rules, cc, grind (arith, common_steps)) in
    let name3 : c.as_slice-4.result.now ≡ codes "failread" = first_of (search rules, cc, grind (arith, common_steps)) in
    let name4 : c.as_slice-5.result.now ≡ codes "stepped" = first_of (search rules, cc, grind (arith, common_steps)) in
    let name5 : c.as_slice-6.result.now ≡ codes "group" = first_of (search rules, cc, grind (arith, common_steps)) in
    let name6 : c.as_slice-7.result.now ≡ codes "dense" = first_of (search rules, cc, grind (arith, common_steps)) in
    let name7 : c.as_slice-8.result.now ≡ codes "workers" = first_of (search rules, cc, grind (arith, common_steps)) in
    life_spelled (behind_word c.args.words) (behind_word c.in_ok-frames.words) (behind_word c.in_ok-max_pages.words) (behind_word c.in_ok-failing_call.words) (behind_word c.in_ok-failing_read.words) (behind_word c.word_of-stepped.result.1) (behind_word c.word_of-group.result.1) (behind_word c.word_of-dense.result.1) (behind_word c.in_ok-workers.words) _
    (subst (λ (n : List ℕ). IsOption n (behind_word c.args.words) (Number c.in_ok-frames.frames) (behind_word c.in_ok-frames.words)) name0 c.in_ok-frames.ensures.says)
    (subst (λ (n : List ℕ). IsOption n (behind_word c.in_ok-frames.words) (Number c.in_ok-max_pages.max_pages) (behind_word c.in_ok-max_pages.words)) name1 c.in_ok-max_pages.ensures.says)
    (subst (λ (n : List ℕ). IsOption n (behind_word c.in_ok-max_pages.words) (Number c.in_ok-failing_call.failing_call) (behind_word c.in_ok-failing_call.words)) name2 c.in_ok-failing_call.ensures.says)
    (subst (λ (n : List ℕ). IsOption n (behind_word c.in_ok-failing_call.words) (Number c.in_ok-failing_read.failing_read) (behind_word c.in_ok-failing_read.words)) name3 c.in_ok-failing_read.ensures.says)
    (subst (λ (n : List ℕ). IsOption n (behind_word c.in_ok-failing_read.words) (Word c.word_of-stepped.result.0) (behind_word c.word_of-stepped.result.1)) name4 c.word_of-stepped.ensures.says)
    (subst (λ (n : List ℕ). IsOption n (behind_word c.word_of-stepped.result.1) (Word c.word_of-group.result.0) (behind_word c.word_of-group.result.1)) name5 c.word_of-group.ensures.says)
    (subst (λ (n : List ℕ). IsOption n (behind_word c.word_of-group.result.1) (Word c.word_of-dense.result.0) (behind_word c.word_of-dense.result.1)) name6 c.word_of-dense.ensures.says)
    (subst (λ (n : List ℕ). IsOption n (behind_word c.word_of-dense.result.1) (Number c.in_ok-workers.workers) (behind_word c.in_ok-workers.words)) name7 c.in_ok-workers.ensures.says)
    (all_read c.in_ok-workers.words (grind (arith, common_steps)))
