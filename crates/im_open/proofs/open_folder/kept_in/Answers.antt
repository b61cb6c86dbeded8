use Rattle.std.proofs.Common.{◌∙◌, sym}
use Rattle.im_open.proofs.Engines.{failed_same, kept_refusal, refused_so, rows_same, rule_same}
use Rattle.im_open.proofs.open_folder.kept_in.Goals as goal

-- it works, and no transaction is active
pub returns-in-None-clause-works : goal.returns-in-None-clause-works
returns-in-None-clause-works g c = (
  failed_same _ c.keep.new.self.engine c.into_engine.result c.into_engine.ensures (c.keep.ensures.works c.in-Ok.ensures.works.0 (sym c.unkept.ensures ∙ c.in-None.is)),
  rows_same _ c.keep.new.self.engine c.into_engine.result c.into_engine.ensures (c.keep.ensures.rests c.in-Ok.ensures.works.1),
)

-- nothing was refused
pub returns-in-None-clause-kept : goal.returns-in-None-clause-kept
returns-in-None-clause-kept g c = record {
  bounds = c.usual.result;
  usual = c.usual.ensures;
  s = c.in-Ok.store;
  opened = c.in-Ok.ensures.opened;
  kept = rule_same _ c.in-Ok.store.upkeep c.in-Ok.store.engine c.keep.new.self.engine c.into_engine.result c.into_engine.ensures (c.keep.ensures.kept.rule (sym c.unkept.ensures ∙ c.in-None.is));
}

-- what was due was refused, and that is said
pub returns-in-Some-clause-causes : goal.returns-in-Some-clause-causes
returns-in-Some-clause-causes g c =
    let so = refused_so _ c.in-Ok.store.upkeep c.in-Ok.store.engine c.keep.new.self c.in-Some.unkept (sym c.unkept.ensures ∙ c.in-Some.is) c.keep.ensures.kept in
    record {
      bounds = c.usual.result;
      usual = c.usual.ensures;
      why = record { s = c.in-Ok.store; opened = c.in-Ok.ensures.opened; due = c.in-Some.unkept.due; is = so.0; left = c.keep.new.self.engine; refused = so.1 };
    }

-- the opening was refused
pub returns-in-Err-clause-causes : goal.returns-in-Err-clause-causes
returns-in-Err-clause-causes g c = record { bounds = c.usual.result; usual = c.usual.ensures; why = kept_refusal _ _ _ c.args.config c.usual.result c.in-Err.error c.in-Err.ensures.causes }
