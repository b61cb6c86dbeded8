use Rattle.std.proofs.Common.{◌≡◌, ◌<◌, List, ℕ, ◌+◌, length, get_or, [], ◌∷◌, ◌++◌, take, refl, sym, ◌∙◌, ap, subst, arith}
use Rattle.std.proofs.lemmas.Grind.{common_steps}
use Rattle.std.proofs.lemmas.List.{take_more}
use Rattle.im_base_model_disk.specs.contracts.model_disk.ModelDiskDisk.TheImpl.{ghosts}
use Rattle.im_base_disk.specs.Disk.{Files, three}
use Rattle.im_tool_lines.specs.declared.raw_life.RawLife.{RawLife}
use Rattle.im_tool_lines.specs.declared.life_answers.LifeAnswers.{LifeAnswers}
use Rattle.im_tool_lines.specs.Lives.{StandsFor, RawLives}
use Rattle.im_tool_lines.specs.Answered.{EachAnswered, AreRawStores}
use Rattle.im_tool_lines.specs.RawRuns.{AreRawLivesRun}
use Rattle.im_tool_lines.proofs.RawRunning.{raw_lives_run_push, raw_stores_push}
use Rattle.im_tool_lines.proofs.Acked.{lives_push}
use Rattle.im_tool_lines.proofs.Replied.{each_push}
use Rattle.im_tool_lines.proofs.drilling.drill.Goals as goal

pub loop-life-init : goal.loop-life-init
loop-life-init c = record {
  working = c.with_log2-disk.ensures.working;
  synced = c.with_log2-disk.ensures.synced;
  run = subst (λ (l : List LifeAnswers). AreRawLivesRun ghosts [] l c.with_log2-disk.result c.with_log2-disk.result) (sym c.new-lives.ensures.items) refl;
  stores = λ before stands. subst (λ (l : List LifeAnswers). AreRawStores l) (sym c.new-lives.ensures.items) tt;
  answered = subst (λ (l : List LifeAnswers). EachAnswered [] l) (sym c.new-lives.ensures.items) tt;
  kept = λ before stands.
      let log = c.in_ok-log.ensures.items ∙ c.deref.ensures.value in
      let pages = c.in_ok-pages.ensures.items ∙ c.deref-2.ensures.value in
      let log2 = c.in_ok-log2.ensures.items ∙ c.deref-3.ensures.value in
      let seen = c.with_log2-disk.ensures.seen ∙ ap (λ (l : List ℕ). three l c.in_ok-pages.pages.items c.in_ok-log2.log2.items) log ∙ ap (λ (l : List ℕ). three c.args.script.now.log.items l c.in_ok-log2.log2.items) pages ∙ ap (λ (l : List ℕ). three c.args.script.now.log.items c.args.script.now.pages.items l) log2 in
      (before, subst (λ (s : Files). StandsFor s before) (sym seen) stands, subst (λ (l : List LifeAnswers). RawLives [] l before before) (sym c.new-lives.ensures.items) refl);
}

pub loop-life-preserved : goal.loop-life-preserved
loop-life-preserved c = record {
  working = c.in-Ok.ensures.working;
  synced = c.in-Ok.ensures.synced;
  run =
      let within : c.loop-life.life-index < length c.args.script.now.lives.items = subst (λ (l : List RawLife). c.loop-life.life-index < length l) c.deref-life-items.ensures.value c.loop-life-test.true in
      let is : c.life-item.result ≡ get_or c.args.script.now.lives.items c.loop-life.life-index c.life-item.result =
      subst (λ (l : List RawLife). c.life-item.result ≡ get_or l c.loop-life.life-index c.life-item.result) c.deref-life-items.ensures.value c.life-item.is in
      let more : take (c.loop-life.life-index + 1) c.args.script.now.lives.items ≡ take c.loop-life.life-index c.args.script.now.lives.items ++ c.life-item.result ∷ [] =
      take_more c.args.script.now.lives.items c.loop-life.life-index c.life-item.result within ∙ ap (λ (l : RawLife). take c.loop-life.life-index c.args.script.now.lives.items ++ l ∷ []) (sym is) in
      subst (λ (l : List RawLife). AreRawLivesRun ghosts l c.push.new.self.items c.with_log2-disk.result c.in-Ok.left) (sym more)
      (subst (λ (l : List LifeAnswers). AreRawLivesRun ghosts (take c.loop-life.life-index c.args.script.now.lives.items ++ c.life-item.result ∷ []) l c.with_log2-disk.result c.in-Ok.left) (sym c.in_ok-push.ensures.items)
      (raw_lives_run_push ghosts (take c.loop-life.life-index c.args.script.now.lives.items) c.loop-life.lives.items c.life-item.result c.in_ok-told.told c.with_log2-disk.result c.loop-life.disk c.run_life.new.disk c.in-Ok.left
      c.loop-life.invariant.run c.in_ok-told.ensures.run (record { bytes = c.in-Ok.ensures.bytes; fresh = c.in-Ok.ensures.fresh })));
  stores = λ before stands.
      let k = c.loop-life.invariant.kept before stands in
      subst (λ (l : List LifeAnswers). AreRawStores l) (sym c.in_ok-push.ensures.items)
      (raw_stores_push c.loop-life.lives.items c.in_ok-told.told (c.loop-life.invariant.stores before stands) (c.in_ok-told.ensures.opened k.0 k.1));
  answered =
      let within : c.loop-life.life-index < length c.args.script.now.lives.items = subst (λ (l : List RawLife). c.loop-life.life-index < length l) c.deref-life-items.ensures.value c.loop-life-test.true in
      let is : c.life-item.result ≡ get_or c.args.script.now.lives.items c.loop-life.life-index c.life-item.result =
      subst (λ (l : List RawLife). c.life-item.result ≡ get_or l c.loop-life.life-index c.life-item.result) c.deref-life-items.ensures.value c.life-item.is in
      let more : take (c.loop-life.life-index + 1) c.args.script.now.lives.items ≡ take c.loop-life.life-index c.args.script.now.lives.items ++ c.life-item.result ∷ [] =
      take_more c.args.script.now.lives.items c.loop-life.life-index c.life-item.result within ∙ ap (λ (l : RawLife). take c.loop-life.life-index c.args.script.now.lives.items ++ l ∷ []) (sym is) in
      subst (λ (l : List RawLife). EachAnswered l c.push.new.self.items) (sym more)
      (subst (λ (l : List LifeAnswers). EachAnswered (take c.loop-life.life-index c.args.script.now.lives.items ++ c.life-item.result ∷ []) l) (sym c.in_ok-push.ensures.items)
      (each_push (take c.loop-life.life-index c.args.script.now.lives.items) c.loop-life.lives.items c.life-item.result c.in_ok-told.told c.loop-life.invariant.answered c.in_ok-told.ensures.answered));
  kept = λ before stands.
      let k = c.loop-life.invariant.kept before stands in
      let s = c.in_ok-told.ensures.kept k.0 k.1 (ghosts.seen c.in-Ok.left) c.in-Ok.ensures.left in
      let within : c.loop-life.life-index < length c.args.script.now.lives.items = subst (λ (l : List RawLife). c.loop-life.life-index < length l) c.deref-life-items.ensures.value c.loop-life-test.true in
      let is : c.life-item.result ≡ get_or c.args.script.now.lives.items c.loop-life.life-index c.life-item.result =
      subst (λ (l : List RawLife). c.life-item.result ≡ get_or l c.loop-life.life-index c.life-item.result) c.deref-life-items.ensures.value c.life-item.is in
      let more : take (c.loop-life.life-index + 1) c.args.script.now.lives.items ≡ take c.loop-life.life-index c.args.script.now.lives.items ++ c.life-item.result ∷ [] =
      take_more c.args.script.now.lives.items c.loop-life.life-index c.life-item.result within ∙ ap (λ (l : RawLife). take c.loop-life.life-index c.args.script.now.lives.items ++ l ∷ []) (sym is) in (
        s.0,
        s.1,
        subst (λ (l : List RawLife). RawLives l c.push.new.self.items before s.0) (sym more)
            (subst (λ (l : List LifeAnswers). RawLives (take c.loop-life.life-index c.args.script.now.lives.items ++ c.life-item.result ∷ []) l before s.0) (sym c.in_ok-push.ensures.items)
            (lives_push (take c.loop-life.life-index c.args.script.now.lives.items) c.loop-life.lives.items c.life-item.result c.in_ok-told.told before k.0 s.0 k.2 s.2)),
      );
}

pub returns-clause-kept : goal.returns-clause-kept
returns-clause-kept c before stands =
    let k = c.loop-life.invariant.kept before stands in
    let all : take c.loop-life.life-index c.args.script.now.lives.items ≡ c.args.script.now.lives.items = grind (arith, common_steps) in
    (k.0, subst (λ (l : List RawLife). RawLives l c.loop-life.lives.items before k.0) all k.2, c.last_batches-last.ensures.found k.0 k.1)

pub returns-clause-answered : goal.returns-clause-answered
returns-clause-answered c =
    let all : take c.loop-life.life-index c.args.script.now.lives.items ≡ c.args.script.now.lives.items = grind (arith, common_steps) in
    subst (λ (l : List RawLife). EachAnswered l c.loop-life.lives.items) all c.loop-life.invariant.answered

pub returns-clause-run : goal.returns-clause-run
returns-clause-run c =
    let all : take c.loop-life.life-index c.args.script.now.lives.items ≡ c.args.script.now.lives.items = grind (arith, common_steps) in
    let log = c.in_ok-log.ensures.items ∙ c.deref.ensures.value in
    let pages = c.in_ok-pages.ensures.items ∙ c.deref-2.ensures.value in
    let log2 = c.in_ok-log2.ensures.items ∙ c.deref-3.ensures.value in
    record {
      first = c.with_log2-disk.result;
      fresh = c.with_log2-disk.ensures.fresh;
      seen = c.with_log2-disk.ensures.seen ∙ ap (λ (l : List ℕ). three l c.in_ok-pages.pages.items c.in_ok-log2.log2.items) log ∙ ap (λ (l : List ℕ). three c.args.script.now.log.items l c.in_ok-log2.log2.items) pages ∙ ap (λ (l : List ℕ). three c.args.script.now.log.items c.args.script.now.pages.items l) log2;
      end = c.loop-life.disk;
      lives = subst (λ (l : List RawLife). AreRawLivesRun ghosts l c.loop-life.lives.items c.with_log2-disk.result c.loop-life.disk) all c.loop-life.invariant.run;
      last = c.last_batches-last.ensures.run;
    }
