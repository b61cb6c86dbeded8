use Rattle.std.proofs.Common.{ℕ, List, sym, ap, subst, ◌∙◌, inl}
use Rattle.im_base_types.specs.Lives.{Shown, nothing_shown}
use Rattle.im_base_model_disk.specs.contracts.model_disk.ModelDiskDisk.TheImpl.{ghosts}
use Rattle.im_base_model_disk.specs.declared.model_disk.ModelDisk.{ModelDisk}
use Rattle.im_base_two_logs.specs.declared.renamed.Renamed.{Renamed}
use Rattle.im_base_disk.specs.Disk.{Files}
use Rattle.im_base_model_disk.specs.Model.{model_calls}
use Rattle.im_engine.specs.Stands.{StandsFor, Allowed}
use Rattle.im_engine.proofs.Named.{allowed_nameless}
use Rattle.im_tool_lines.specs.declared.life_answers.Opening.TheVariants as openings
use Rattle.im_tool_lines.specs.declared.store_life.StoreLine.{StoreLine}
use Rattle.im_tool_lines.specs.declared.store_answers.StoreReply.{StoreReply}
use Rattle.im_tool_lines.specs.declared.store_answers.StoreReply.TheVariants.{Stopped}
use Rattle.im_tool_lines.specs.Answered.{AnsweredBy}
use Rattle.im_tool_lines.specs.Stops.{IsOpenedOr}
use Rattle.im_tool_lines.specs.StoreShown.{shown_by_lines, IsStoreReply}
use Rattle.im_tool_drill.specs.StoreRuns.{AreLinesRun}
use Rattle.im_tool_lines.proofs.RawRunning.{opened_still}
use Rattle.im_tool_lines.proofs.StoreShown.{shown_none}
use Rattle.im_tool_drill.proofs.NamedDisk.{named_ghosts, left_named, own_seen, own_synced, own_working}
use Rattle.im_tool_drill.proofs.StoreRunning.{lines_report}
use Rattle.im_tool_drill.proofs.store_lives.run_store_life.Goals as goal

pub returns-in_ok-replies-in-Ok-clause-answered : goal.returns-in_ok-replies-in-Ok-clause-answered
returns-in_ok-replies-in-Ok-clause-answered g c = subst (λ (l : List StoreLine). AnsweredBy IsStoreReply Stopped l c.in_ok-replies-in-Ok.replies.items) c.deref.ensures.value c.in_ok-replies-in-Ok.ensures.answered

pub open_store-requires-clause-working : goal.open_store-requires-clause-working
open_store-requires-clause-working g c lifetimes within = own_working c.arm_life.new.disk c.new.result (c.new.ensures.disk, c.new.ensures.swapped) (c.in_ok-arm_life.ensures.failed ∙ c.requires.working)

pub open_store-requires-clause-synced : goal.open_store-requires-clause-synced
open_store-requires-clause-synced g c lifetimes within = own_synced c.arm_life.new.disk c.new.result (c.new.ensures.disk, c.new.ensures.swapped) (c.in_ok-arm_life.ensures.synced c.requires.synced)

pub returns-in_ok-replies-in-Ok-clause-kept : goal.returns-in_ok-replies-in-Ok-clause-kept
returns-in_ok-replies-in-Ok-clause-kept g c before stands files left =
    let seen = own_seen c.arm_life.new.disk c.new.result (c.new.ensures.disk, c.new.ensures.swapped) ∙ c.in_ok-arm_life.ensures.reads.seen in
    let k = c.in-Ok.ensures.opening.kept before (subst (λ (s : Files). StandsFor before s) (sym seen) stands) in
    let end = c.run_store_lines-replies.new.engine.disk in
    let now = subst (λ (disk : ModelDisk). ghosts.may_leave disk files) (c.into_disk-disk.ensures ∙ ap (λ (n : Renamed ModelDisk). n.disk) c.into_disk.ensures) left in
    let asked = shown_by_lines nothing_shown c.deref.result.now c.in_ok-replies-in-Ok.replies.items in
    subst (λ (l : List StoreLine). Allowed before (shown_by_lines nothing_shown l c.in_ok-replies-in-Ok.replies.items) files) c.deref.ensures.value
    (left_named end (Allowed before asked) (allowed_nameless before asked) (c.in_ok-replies-in-Ok.ensures.kept before (_, k.ok.0)) files now)

pub returns-in-Err-clause-kept : goal.returns-in-Err-clause-kept
returns-in-Err-clause-kept g c before stands files left =
    let seen = own_seen c.arm_life.new.disk c.new.result (c.new.ensures.disk, c.new.ensures.swapped) ∙ c.in_ok-arm_life.ensures.reads.seen in
    let k = c.in-Err.ensures.opening.kept before (subst (λ (s : Files). StandsFor before s) (sym seen) stands) in
    let now = subst (λ (disk : ModelDisk). ghosts.may_leave disk files) c.into_disk-disk-in-Err.ensures left in
    subst (λ (l : List StoreReply). Allowed before (shown_by_lines nothing_shown c.args.life.now.lines.items l) files) (sym c.new-replies.ensures.items)
    (subst (λ (s : Shown). Allowed before s files) (sym (shown_none nothing_shown c.args.life.now.lines.items))
    (left_named c.in-Err.named (Allowed before nothing_shown) (allowed_nameless before nothing_shown) (λ by_name may. k.stops.each tt by_name (inl may)) files now))

pub returns-in-Err-clause-opened : goal.returns-in-Err-clause-opened
returns-in-Err-clause-opened g c before stands is =
    let seen = own_seen c.arm_life.new.disk c.new.result (c.new.ensures.disk, c.new.ensures.swapped) ∙ c.in_ok-arm_life.ensures.reads.seen in
    let k = c.in-Err.ensures.opening.kept before (subst (λ (s : Files). StandsFor before s) (sym seen) stands) in
    opened_still c.args.life.now.stop c.into_disk-disk-in-Err.result c.refused_opening-opening.result c.in-Err.fault k.cause c.refused_opening-opening.ensures is

pub returns-in_ok-replies-in-Ok-clause-run : goal.returns-in_ok-replies-in-Ok-clause-run
returns-in_ok-replies-in-Ok-clause-run g c = record {
  armed = c.arm_life.new.disk;
  arms = c.in_ok-arm_life.ensures.armed;
  named = c.new.result;
  own = (c.new.ensures.disk, c.new.ensures.swapped);
  result = c.open_store.result;
  opening = c.open_store.ensures.opening;
  group = c.open_store.ensures.group;
  answers = rw c.in-Ok.is (
    ap (λ (n : ℕ). openings.Open n) (c.calls.ensures ∙ ap (λ (disk : ModelDisk). model_calls disk) (c.disk-in-Ok.ensures ∙ ap (λ (n : Renamed ModelDisk). n.disk) c.disk.ensures)),
    c.run_store_lines-replies.new.engine,
    subst (λ (l : List StoreLine). AreLinesRun named_ghosts c.args.life.now.stop l c.in_ok-replies-in-Ok.replies.items c.in-Ok.engine c.run_store_lines-replies.new.engine) c.deref.ensures.value c.in_ok-replies-in-Ok.ensures.run,
    c.into_disk-disk.ensures ∙ ap (λ (n : Renamed ModelDisk). n.disk) c.into_disk.ensures,
    lines_report named_ghosts c.args.life.now.stop _ c.in_ok-replies-in-Ok.replies.items c.in-Ok.engine c.run_store_lines-replies.new.engine c.in_ok-replies-in-Ok.ensures.run,
  );
}

pub returns-in-Err-clause-run : goal.returns-in-Err-clause-run
returns-in-Err-clause-run g c = record {
  armed = c.arm_life.new.disk;
  arms = c.in_ok-arm_life.ensures.armed;
  named = c.new.result;
  own = (c.new.ensures.disk, c.new.ensures.swapped);
  result = c.open_store.result;
  opening = c.open_store.ensures.opening;
  group = c.open_store.ensures.group;
  answers =
      rw c.in-Err.is (
        subst (λ (disk : ModelDisk). IsOpenedOr c.args.life.now.stop disk c.refused_opening-opening.result c.in-Err.fault) c.into_disk-disk-in-Err.ensures c.refused_opening-opening.ensures,
        c.new-replies.ensures.items,
        c.into_disk-disk-in-Err.ensures,
      );
}
