use Rattle.std.proofs.Common.{◌≡◌, ◌≤◌, ◌+◌, ℕ, true, List, length, take, drop, ◌-◌, ◌↔◌, inl, inr, sym, ◌∙◌, ap, subst, arith}
use Rattle.std.proofs.lemmas.Grind.{common_steps}
use Rattle.std.specs.FinMap.{entries}
use Rattle.im_base_types.specs.Lives.{NoneAcked}
use Rattle.im_base_types.specs.Maps.{IndexMap}
use Rattle.im_tool_judge.specs.Judged.{asked_in, held_entries, made_in_turn}
use Rattle.im_tool_judge.specs.declared.change.Change.{Change}
use Rattle.im_tool_judge.specs.declared.change.AskedEffect.{AskedEffect}
use Rattle.im_tool_judge.proofs.Fronts.{IsGoodFront, map_behind, map_more, front_tested, front_tells, allowed_by, front_of, last_or_before, rest_is}
use Rattle.im_tool_judge.proofs.judge.is_allowed.Goals as goal
use Rattle.im_tool_judge.proofs.judge.is_allowed.Goals.{then-good, else-good}

pub loop-i-preserved : goal.loop-i-preserved
loop-i-preserved c =
    let asked = c.args.asked.now in
    let found = c.args.found.now in
    let i = c.loop-i.i in
    let made = c.in_ok-make_all.ensures (map_behind asked i) c.loop-i.invariant.map in
    let map : held_entries c.make_all.new.self.entries.items ≡ entries (map_behind asked (i + 1)) =
    made ∙ ap (λ (l : List Change). entries (made_in_turn (map_behind asked i) l)) c.deref.ensures.value ∙ ap (λ (a : AskedEffect). entries (made_in_turn (map_behind asked i) a.changes.items)) (sym c.index-asked-i.is) ∙ ap (λ (m : IndexMap). entries m) (map_more asked i c.index-asked-i.result c.loop-i-test.true c.index-asked-i.is) in
    let rest : take (length asked - (i + 1)) (drop (i + 1) asked) ≡ drop (i + 1) asked = rest_is asked (i + 1) in
    let front : c.is_front-front.result ≡ true ↔ NoneAcked (asked_in (drop (i + 1) asked)) × (found ≡ held_entries c.make_all.new.self.entries.items) =
    subst (λ (l : List AskedEffect). c.is_front-front.result ≡ true ↔ NoneAcked (asked_in l) × (found ≡ held_entries c.make_all.new.self.entries.items)) rest c.is_front-front.ensures in
    record {
      map = map;
      sound = λ good. elim c.if-good.branch [
        | then-good w ↦ c.loop-i.invariant.sound w.if-good.true
        | else-good w ↦ allowed_by asked found (i + 1) (front_tested asked found (held_entries c.make_all.new.self.entries.items) (i + 1) map (front.0 (sym w.good-is ∙ good)))
      ];
      whole = λ n le is. elim c.if-good.branch [
        | then-good w ↦ w.good-is ∙ w.if-good.true
        | else-good w ↦ elim (last_or_before n i le) [
          | inl less ↦ let yes = c.loop-i.invariant.whole n less is in let no = w.if-good.false in absurd (cc)
          | inr same ↦ w.good-is ∙ front.1 (front_tells asked found (held_entries c.make_all.new.self.entries.items) (i + 1) map (subst (λ (k : ℕ). IsGoodFront asked found k) same is))
        ]
      ];
    }

pub returns : goal.returns
returns c =
    let end : length c.args.asked.now ≤ c.loop-i.i = grind (arith, common_steps) in (
      c.loop-i.invariant.sound,
      λ allowed. let f = front_of c.args.asked.now c.args.found.now allowed in c.loop-i.invariant.whole f.0 (let le = f.1 in omega arith) f.2,
    )
