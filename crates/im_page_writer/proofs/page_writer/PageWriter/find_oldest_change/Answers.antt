use Rattle.std.proofs.Common.{◌≡◌, ℕ, Option, None, Some, sym, ap, subst, ◌∙◌}
use Rattle.std.specs.Prelude.{option_map}
use Rattle.std.proofs.lemmas.Option.{IfSome_then}
use Rattle.im_base_types.specs.declared.tables.DirtyPage.{DirtyPage}
use Rattle.im_page_pool.specs.Pool.{held_of}
use Rattle.im_page_writer.proofs.TableRoom.{if_found}
use Rattle.im_page_writer.proofs.page_writer.PageWriter.find_oldest_change.Goals as goal
use Rattle.im_page_flush.proofs.Goings.{found_none as none_found}

pub returns-in-Some-clause-next : goal.returns-in-Some-clause-next
returns-in-Some-clause-next c =
    let p = c.in-Some.row.page in
    IfSome_then c.find.result (if_found (held_of c.args.self.now.pool p) p c.find.result c.find.ensures.found)
    (λ f is. ap (λ (o : Option DirtyPage). option_map (λ r. r.page) o) (sym c.in-Some.ensures.oldest) ∙ is)

pub returns-in-Some-clause-none : goal.returns-in-Some-clause-none
returns-in-Some-clause-none c p none is =
    let row = c.in-Some.row in
    let named : Some row.page ≡ Some p = ap (λ (o : Option DirtyPage). option_map (λ r. r.page) o) c.in-Some.ensures.oldest ∙ is in
    let same : row.page ≡ p = cc named in
    subst (λ (n : ℕ). held_of c.args.self.now.pool n ≡ None) same (none_found (held_of c.args.self.now.pool row.page) row.page (sym none ∙ c.find.ensures.found))

pub returns-in-None-clause-none : goal.returns-in-None-clause-none
returns-in-None-clause-none c p none is =
    absurd (let clash : None ≡ Some p = ap (λ (o : Option DirtyPage). option_map (λ r. r.page) o) c.in-None.ensures.oldest ∙ is in cc clash)
