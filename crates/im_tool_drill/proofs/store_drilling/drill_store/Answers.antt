use Rattle.std.proofs.Common.{◌≡◌, ◌<◌, List, ℕ, ◌+◌, length, get_or, [], ◌∷◌, ◌++◌, take, refl, sym, ◌∙◌, ap, subst, arith}
use Rattle.std.proofs.lemmas.Grind.{common_steps}
use Rattle.std.proofs.lemmas.List.{take_more}
use Rattle.im_base_types.specs.Lives.{Lives}
use Rattle.im_base_model_disk.specs.contracts.model_disk.ModelDiskDisk.TheImpl.{ghosts}
use Rattle.im_base_disk.specs.Disk.{Files, three}
use Rattle.im_engine.specs.Stands.{StandsFor}
use Rattle.im_tool_lines.specs.declared.store_life.StoreLife.{StoreLife}
use Rattle.im_tool_lines.specs.declared.store_answers.StoreAnswers.{StoreAnswers}
use Rattle.im_tool_lines.specs.StoreShown.{asked_in_each, EachStoreAnswered, AreStores}
use Rattle.im_tool_drill.specs.StoreRuns.{AreLivesRun}
use Rattle.im_tool_drill.proofs.NamedDisk.{named_ghosts}
use Rattle.im_tool_drill.proofs.StoreRunning.{lives_run_push}
use Rattle.im_tool_lines.proofs.StoreAsked.{store_lives_push, store_answered_push, stores_push}
use Rattle.im_tool_drill.proofs.store_drilling.drill_store.Goals as goal

pub loop-life-init : goal.loop-life-init
loop-life-init g c = record {
  working = c.with_log2-disk.ensures.working;
  synced = c.with_log2-disk.ensures.synced;
  run = subst (λ (l : List StoreAnswers). AreLivesRun ghosts named_ghosts [] l c.with_log2-disk.result c.with_log2-disk.result) (sym c.new-lives.ensures.items) refl;
  answered = subst (λ (l : List StoreAnswers). EachStoreAnswered [] l) (sym c.new-lives.ensures.items) tt;
  kept = λ before stands.
      let log = c.in_ok-log.ensures.items ∙ c.deref.ensures.value in
      let pages = c.in_ok-pages.ensures.items ∙ c.deref-2.ensures.value in
      let log2 = c.in_ok-log2.ensures.items ∙ c.deref-3.ensures.value in
      let seen = c.with_log2-disk.ensures.seen ∙ ap (λ (l : List ℕ). three l c.in_ok-pages.pages.items c.in_ok-log2.log2.items) log ∙ ap (λ (l : List ℕ). three c.args.script.now.log.items l c.in_ok-log2.log2.items) pages ∙ ap (λ (l : List ℕ). three c.args.script.now.log.items c.args.script.now.pages.items l) log2 in (
        before,
        subst (λ (s : Files). StandsFor before s) (sym seen) stands,
        subst (λ (l : List StoreAnswers). Lives before (asked_in_each [] l) before) (sym c.new-lives.ensures.items) refl,
      );
  stores = λ before stands. subst (λ (l : List StoreAnswers). AreStores l) (sym c.new-lives.ensures.items) tt;
}

pub loop-life-preserved : goal.loop-life-preserved
loop-life-preserved g c =
    let i = c.loop-life.life-index in
    let all = c.args.script.now.lives.items in
    let within : i < length all = subst (λ (l : List StoreLife). i < length l) c.deref-life-items.ensures.value c.loop-life-test.true in
    let is : c.life-item.result ≡ get_or all i c.life-item.result = subst (λ (l : List StoreLife). c.life-item.result ≡ get_or l i c.life-item.result) c.deref-life-items.ensures.value c.life-item.is in
    let more : take (i + 1) all ≡ take i all ++ c.life-item.result ∷ [] = take_more all i c.life-item.result within ∙ ap (λ (l : StoreLife). take i all ++ l ∷ []) (sym is) in
    record {
      working = c.in-Ok.ensures.working;
      synced = c.in-Ok.ensures.synced;
      run =
          subst (λ (l : List StoreLife). AreLivesRun ghosts named_ghosts l c.push.new.self.items c.with_log2-disk.result c.in-Ok.left) (sym more)
          (subst (λ (l : List StoreAnswers). AreLivesRun ghosts named_ghosts (take i all ++ c.life-item.result ∷ []) l c.with_log2-disk.result c.in-Ok.left) (sym c.in_ok-push.ensures.items)
          (lives_run_push ghosts named_ghosts (take i all) c.loop-life.lives.items c.life-item.result c.in_ok-told.told c.with_log2-disk.result c.loop-life.disk c.in_ok-told.after c.in-Ok.left c.loop-life.invariant.run c.in_ok-told.ensures.run
          (record { bytes = c.in-Ok.ensures.bytes; fresh = c.in-Ok.ensures.fresh })));
      answered =
          subst (λ (l : List StoreLife). EachStoreAnswered l c.push.new.self.items) (sym more)
          (subst (λ (l : List StoreAnswers). EachStoreAnswered (take i all ++ c.life-item.result ∷ []) l) (sym c.in_ok-push.ensures.items)
          (store_answered_push (take i all) c.loop-life.lives.items c.life-item.result c.in_ok-told.told c.loop-life.invariant.answered c.in_ok-told.ensures.answered));
      kept = λ before stands.
          let told = c.loop-life.lives.items in
          let k = c.loop-life.invariant.kept before stands in
          let s = c.in_ok-told.ensures.kept k.0 k.1 (ghosts.seen c.in-Ok.left) c.in-Ok.ensures.left in (
            s.0,
            s.2,
            subst (λ (l : List StoreLife). Lives before (asked_in_each l c.push.new.self.items) s.0) (sym more)
                (subst (λ (l : List StoreAnswers). Lives before (asked_in_each (take i all ++ c.life-item.result ∷ []) l) s.0) (sym c.in_ok-push.ensures.items)
                (store_lives_push (take i all) told c.life-item.result c.in_ok-told.told before k.0 s.0 c.loop-life.invariant.answered k.2 s.1)),
          );
      stores = λ before stands.
          subst (λ (l : List StoreAnswers). AreStores l) (sym c.in_ok-push.ensures.items)
          (stores_push c.loop-life.lives.items c.in_ok-told.told (c.loop-life.invariant.stores before stands) (let k = c.loop-life.invariant.kept before stands in c.in_ok-told.ensures.opened k.0 k.1));
    }

pub returns-clause-kept : goal.returns-clause-kept
returns-clause-kept g c before stands =
    let k = c.loop-life.invariant.kept before stands in
    let all : take c.loop-life.life-index c.args.script.now.lives.items ≡ c.args.script.now.lives.items = grind (arith, common_steps) in
    (k.0, subst (λ (l : List StoreLife). Lives before (asked_in_each l c.loop-life.lives.items) k.0) all k.2, c.last_entries-last.ensures.found k.0 k.1)

pub returns-clause-answered : goal.returns-clause-answered
returns-clause-answered g c =
    let all : take c.loop-life.life-index c.args.script.now.lives.items ≡ c.args.script.now.lives.items = grind (arith, common_steps) in
    subst (λ (l : List StoreLife). EachStoreAnswered l c.loop-life.lives.items) all c.loop-life.invariant.answered

pub returns-clause-run : goal.returns-clause-run
returns-clause-run g c =
    let all : take c.loop-life.life-index c.args.script.now.lives.items ≡ c.args.script.now.lives.items = grind (arith, common_steps) in
    let log = c.in_ok-log.ensures.items ∙ c.deref.ensures.value in
    let pages = c.in_ok-pages.ensures.items ∙ c.deref-2.ensures.value in
    let log2 = c.in_ok-log2.ensures.items ∙ c.deref-3.ensures.value in
    record {
      first = c.with_log2-disk.result;
      fresh = c.with_log2-disk.ensures.fresh;
      seen = c.with_log2-disk.ensures.seen ∙ ap (λ (l : List ℕ). three l c.in_ok-pages.pages.items c.in_ok-log2.log2.items) log ∙ ap (λ (l : List ℕ). three c.args.script.now.log.items l c.in_ok-log2.log2.items) pages ∙ ap (λ (l : List ℕ). three c.args.script.now.log.items c.args.script.now.pages.items l) log2;
      end = c.loop-life.disk;
      lives = subst (λ (l : List StoreLife). AreLivesRun ghosts named_ghosts l c.loop-life.lives.items c.with_log2-disk.result c.loop-life.disk) all c.loop-life.invariant.run;
      last = c.last_entries-last.ensures.run;
    }
