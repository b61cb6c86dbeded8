use Rattle.std.proofs.Common.{◌≡◌, length, vec_len, ap, arith, rules}
use Rattle.im_page_pool.proofs.GuessLemmas.{noted_past}
use Rattle.im_page_pool.proofs.guesses.Guesses.note.Goals as goal

pub returns-else-i-len : goal.returns-else-i-len
returns-else-i-len c =
    let long : vec_len c.self.inside.pages ≡ length c.self.inside.pages.items = search rules in
    noted_past _ c.args.place c.args.page (omega (arith, c.if-i-len.false, c.len.ensures, ap length c.self.view_is))
