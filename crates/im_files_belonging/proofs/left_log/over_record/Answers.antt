use Rattle.std.proofs.Common.{◌≡◌, ℕ, false, if◌then◌else◌, List, sym, ◌∙◌, ap, arith}
use Rattle.std.proofs.lemmas.Bool.{cond-false}
use Rattle.im_files_belonging.specs.declared.left_log.LeftLog.{LeftLog}
use Rattle.im_files_belonging.specs.LeftLog.{found_step, leaves_batch, over, says_nothing, sum}
use Rattle.im_log_record.specs.FirstBytes.{kind_in, page_in, size_in}
use Rattle.im_files_belonging.proofs.left_log.over_record.Goals as goal

pub returns : goal.returns
returns c =
    let l : LeftLog = c.args.left in
    let bytes : List ℕ = c.args.bytes.now in
    let size : c.from-size.result ≡ size_in bytes = omega (arith, c.from-size.ensures, c.size_of.ensures) in
    let within : leaves_batch l (size_in bytes) ≡ false = ap (leaves_batch l) (sym size) ∙ sym c.leaves.ensures ∙ c.if-leaves.false in
    let says : says_nothing l.is_current (kind_in bytes) ≡ false = ap (says_nothing l.is_current) (sym c.kind_of.ensures) ∙ sym c.is_passed.ensures ∙ c.if-is_passed.false in
    let place : c.saturating_add-place.result ≡ sum l.place (size_in bytes) = omega (arith, c.saturating_add-place.ensures, size) in
    let found = found_step l (sum l.place (size_in bytes)) (page_in bytes) in
    c.found.ensures
    ∙ ap (λ (p : ℕ). found_step l p c.page_of.result) place
    ∙ ap (λ (q : ℕ). found_step l (sum l.place (size_in bytes)) q) c.page_of.ensures
    ∙ sym (cond-false (says_nothing l.is_current (kind_in bytes)) (record l { place = sum l.place (size_in bytes) }) found says)
    ∙ sym (cond-false (leaves_batch l (size_in bytes)) (over l) (if says_nothing l.is_current (kind_in bytes) then record l { place = sum l.place (size_in bytes) } else found) within)
