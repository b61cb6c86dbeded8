use Rattle.std.proofs.Common.{◌≡◌, ◌⊎◌, ◌↔◌, ◌<◌, Bool, length, inl, inr, ◌∷◌, [], ◌++◌, Ok, ap, subst, sym, rules}
use Rattle.im_base_types.specs.declared.fault.Fault.TheVariants.{Device, KeyLength}
use Rattle.im_load.specs.Edge.{IsAboveAll}
use Rattle.im_load.specs.HasTaken.{IsLoading}
use Rattle.im_calls.proofs.Causes.{refused_as}
use Rattle.im_calls.proofs.loading.Loading.put.Goals as goal

pub returns-then-taken-clause-put : goal.returns-then-taken-clause-put
returns-then-taken-clause-put g c = (
  search rules,
  inl (record {
    tells = c.tell.ensures.told;
    taken = λ from es goes.
        subst (λ k. IsAboveAll k es × IsLoading g.D.Disk from c.put.new.self c.put.new.disk (es ++ (k, c.args.call.now.number) ∷ [])) c.asked_key.ensures
        (c.in-Ok.ensures.taken from es goes (ap Ok c.if-taken.true));
  }),
)

pub returns-clause-put : goal.returns-clause-put
returns-clause-put g c = (
  search rules,
  inr (record {
    tells = c.tell-2.ensures.told;
    same = c.in-Ok.ensures.same (ap Ok c.if-taken.false);
    falls = λ from es goes top.
        c.in-Ok.ensures.falls from es goes (ap Ok c.if-taken.false) (subst (λ k. IsAboveAll k es) (sym c.asked_key.ensures) top);
  }),
)

pub returns-in-Err-clause-put : goal.returns-in-Err-clause-put
returns-in-Err-clause-put g c =
    let is = c.in-Err.ensures in
    record {
      fault = c.in-Err.fault;
      tells = c.refuse.ensures.told;
      left = record { loader = c.put.new.self; disk = c.put.new.disk };
      key_length = subst (λ k. (c.in-Err.fault ≡ KeyLength) ↔ ((length k < 1) ⊎ (255 < length k))) c.asked_key.ensures (refused_as Bool c.in-Err.fault KeyLength is.key_length);
      device = refused_as Bool c.in-Err.fault Device is.outcome.device;
      causes = is.outcome.causes;
      stops = is.stops;
    }
