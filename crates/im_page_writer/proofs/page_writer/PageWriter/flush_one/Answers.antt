use Rattle.std.proofs.Common.{ℕ, Option, subst, sym, ap, ◌∙◌, rules, ◌≡◌, false, true}
use Rattle.im_page_pool.specs.Pool.{Held, held_of, is_changed}
use Rattle.im_page_flush.specs.Writing.{IsShown}
use Rattle.im_page_flush.proofs.Goings.{found_here, found_none}
use Rattle.im_page_writer.proofs.Outcomes.{idle_any}
use Rattle.im_page_writer.proofs.Writers.{flushed_one, goes_on_start, none_left}
use Rattle.std.specs.Option.{option_map_or}
use Rattle.im_page_writer.specs.PageWriter.{IsUnforced}
use Rattle.im_page_writer.proofs.page_writer.PageWriter.flush_one.Goals as goal

pub returns-in-None-clause-outcome : goal.returns-in-None-clause-outcome
returns-in-None-clause-outcome g c = idle_any g.D.Disk g.met.D.Disk.only_now c.args.self.now c.args.disk.now (search rules) c.requires.ready

pub returns-in-None-clause-kept : goal.returns-in-None-clause-kept
returns-in-None-clause-kept g c b base s is =
    let w = c.args.self.now in
    let old = c.args.disk.now in
    let on = goes_on_start g.D.Disk b base s w old (g.met.D.Disk.only_now old) is in
    let none = found_none (held_of w.pool c.args.number) c.args.number c.in-None.ensures.found in
    flushed_one g.D.Disk b base s old s w old on c.args.number (subst (λ (o : Option Held). IsShown o (s.pages c.args.number)) none (is.writing.pooled.shows c.args.number))

pub returns-else-is_changed-clause-outcome : goal.returns-else-is_changed-clause-outcome
returns-else-is_changed-clause-outcome g c = idle_any g.D.Disk g.met.D.Disk.only_now c.args.self.now c.args.disk.now (search rules) c.requires.ready

pub returns-else-is_changed-clause-kept : goal.returns-else-is_changed-clause-kept
returns-else-is_changed-clause-kept g c b base s is =
    let w = c.args.self.now in
    let old = c.args.disk.now in
    let on = goes_on_start g.D.Disk b base s w old (g.met.D.Disk.only_now old) is in
    let here = found_here (held_of w.pool c.args.number) c.args.number c.in-Some.frame c.in-Some.ensures.found in
    let same = ap (λ (n : ℕ). is_changed w.pool n) (sym here.number) ∙ sym c.is_changed.ensures ∙ c.if-is_changed.false in
    flushed_one g.D.Disk b base s old s w old on c.args.number (none_left g.D.Disk b base s w old c.args.number is same)

pub returns-in-None-clause-costs : goal.returns-in-None-clause-costs
returns-in-None-clause-costs g c changed =
    let none = found_none (held_of c.args.self.now.pool c.args.number) c.args.number c.in-None.ensures.found in
    let never : false ≡ true = sym (ap (λ (o : Option Held). option_map_or (λ h. h.changed) o false) none) ∙ changed in
    absurd (cc never)

pub returns-else-is_changed-clause-costs : goal.returns-else-is_changed-clause-costs
returns-else-is_changed-clause-costs g c changed =
    let w = c.args.self.now in
    let here = found_here (held_of w.pool c.args.number) c.args.number c.in-Some.frame c.in-Some.ensures.found in
    let never : true ≡ false = sym changed ∙ ap (λ (n : ℕ). is_changed w.pool n) (sym here.number) ∙ sym c.is_changed.ensures ∙ c.if-is_changed.false in
    absurd (cc never)

pub returns-in-None-clause-unforced : goal.returns-in-None-clause-unforced
returns-in-None-clause-unforced g c told within changed unforced =
    let none = found_none (held_of c.args.self.now.pool c.args.number) c.args.number c.in-None.ensures.found in
    let never : false ≡ true = sym (ap (λ (o : Option Held). option_map_or (λ h. h.changed) o false) none) ∙ changed in
    absurd (cc never)

pub returns-else-is_changed-clause-unforced : goal.returns-else-is_changed-clause-unforced
returns-else-is_changed-clause-unforced g c told within changed unforced =
    let w = c.args.self.now in
    let here = found_here (held_of w.pool c.args.number) c.args.number c.in-Some.frame c.in-Some.ensures.found in
    let never : true ≡ false = sym changed ∙ ap (λ (n : ℕ). is_changed w.pool n) (sym here.number) ∙ sym c.is_changed.ensures ∙ c.if-is_changed.false in
    absurd (cc never)

pub returns-then-is_changed-clause-unforced : goal.returns-then-is_changed-clause-unforced
returns-then-is_changed-clause-unforced g c told within changed unforced =
    let here = found_here (held_of c.args.self.now.pool c.args.number) c.args.number c.in-Some.frame c.in-Some.ensures.found in
    c.flush_changed.ensures.unforced told within (c.is_unforced-durable.ensures.1 (subst (λ (n : ℕ). IsUnforced c.args.self.now n) (sym here.number) unforced))
