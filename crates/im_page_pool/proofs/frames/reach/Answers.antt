use Rattle.std.proofs.Common.{◌≡◌, List, [], ◌∷◌, ◌++◌, length, ap, rules, ◌∙◌, arith}
use Rattle.std.proofs.lemmas.Grind.{common_steps}
use Rattle.std.proofs.lemmas.List.{length_push}
use Rattle.im_page_pool.specs.Frames.{Stored, no_page, frames_in}
use Rattle.im_page_pool.proofs.FrameLemmas.{frames_more}
use Rattle.im_page_pool.proofs.frames.reach.Goals as goal

pub loop-slots-preserved : goal.loop-slots-preserved
loop-slots-preserved c =
    let e : c.push_reserved.new.self.items ≡ c.loop-slots.slots.items ++ no_page ∷ [] = grind (arith, common_steps) in
    record {
      same = λ n le lt. ap (λ (ys : List Stored). frames_in ys n) e ∙ (frames_more c.loop-slots.slots.items n (omega (arith, lt)) ∙ c.loop-slots.invariant.same n le lt);
      within = λ n le lt. omega (arith, lt, ap length e, length_push c.loop-slots.slots.items no_page);
      capacity = search rules;
    }
