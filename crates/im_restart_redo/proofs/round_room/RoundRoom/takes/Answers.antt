use Rattle.std.proofs.Common.{◌≡◌, ◌<◌, ◌≤◌, ℕ, List, length, false, true, ap, arith, subst, sym, ◌∙◌}
use Rattle.std.proofs.lemmas.List.{length_push}
use Rattle.im_page_rounds.specs.Hand.{AreRising, IsAmong}
use Rattle.im_restart_redo.specs.Segments.{IsLast}
use Rattle.im_restart_redo.proofs.Planned.{push_among, push_last, push_rising, pushed_is}
use Rattle.im_restart_redo.proofs.round_room.RoundRoom.takes.Goals as goal

pub returns-clause-rising : goal.returns-clause-rising
returns-clause-rising c =
    let ns : List ℕ = c.args.self.now.numbers.items in
    let ok = c.push.ensures.succeeds (omega (arith, c.if-len-most.false, c.len.ensures, c.requires.most, c.args.self.now.pages)) in
    let is = pushed_is _ _ ns c.args.page c.push.ensures.items ok in
    let above : (l : ℕ) → IsLast ns l → l < c.args.page = λ l last.
    let le : l ≤ c.args.page = c.requires.above l last in
    let other : l ≡ c.args.page → ⊥ = λ e. c.ends_with.ensures.no c.if-ends_with.false (subst (λ (ms : List ℕ). IsLast ms c.args.page) (sym c.deref.ensures.value) (subst (λ (p : ℕ). IsLast ns p) e last)) in
    omega (arith, le, other) in
    subst (λ (l : List ℕ). AreRising l) (sym is) (push_rising ns c.args.page c.requires.rising above)

pub returns-clause-few : goal.returns-clause-few
returns-clause-few c few =
    let ns : List ℕ = c.args.self.now.numbers.items in
    let ok = c.push.ensures.succeeds (omega (arith, c.if-len-most.false, c.len.ensures, c.requires.most, c.args.self.now.pages)) in
    let is = pushed_is _ _ ns c.args.page c.push.ensures.items ok in
    omega (arith, ap (λ (l : List ℕ). length l) is, length_push ns c.args.page, c.if-len-most.false, c.len.ensures)

pub returns-clause-last : goal.returns-clause-last
returns-clause-last c taken =
    let ns : List ℕ = c.args.self.now.numbers.items in
    let ok = c.push.ensures.succeeds (omega (arith, c.if-len-most.false, c.len.ensures, c.requires.most, c.args.self.now.pages)) in
    let is = pushed_is _ _ ns c.args.page c.push.ensures.items ok in
    subst (λ (l : List ℕ). IsLast l c.args.page) (sym is) (push_last ns c.args.page)

pub returns-clause-kept : goal.returns-clause-kept
returns-clause-kept c p among =
    let ns : List ℕ = c.args.self.now.numbers.items in
    let ok = c.push.ensures.succeeds (omega (arith, c.if-len-most.false, c.len.ensures, c.requires.most, c.args.self.now.pages)) in
    let is = pushed_is _ _ ns c.args.page c.push.ensures.items ok in
    subst (λ (l : List ℕ). IsAmong l p) (sym is) (push_among ns c.args.page p among)

pub returns-clause-same : goal.returns-clause-same
returns-clause-same c none =
    let ok = c.push.ensures.succeeds (omega (arith, c.if-len-most.false, c.len.ensures, c.requires.most, c.args.self.now.pages)) in
    absurd (let clash : false ≡ true = sym none ∙ c.is_ok.ensures.value ∙ ok in cc clash)

pub returns-clause-other : goal.returns-clause-other
returns-clause-other c none last =
    let ok = c.push.ensures.succeeds (omega (arith, c.if-len-most.false, c.len.ensures, c.requires.most, c.args.self.now.pages)) in
    let clash : false ≡ true = sym none ∙ c.is_ok.ensures.value ∙ ok in
    cc clash

pub returns-clause-room : goal.returns-clause-room
returns-clause-room c room = c.is_ok.ensures.value ∙ c.push.ensures.succeeds (omega (arith, c.if-len-most.false, c.len.ensures, c.requires.most, c.args.self.now.pages))
