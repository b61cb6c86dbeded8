use Rattle.im_store.proofs.copying.OpenStore+Mirrored+D+T.end_copy.Goals as goal

pub returns-clause-ended : goal.returns-clause-ended
returns-clause-ended g c =
    let is = c.end_copy.ensures in
    record {
      still = is.still;
      whole = is.whole;
      none = is.none;
      refused = record { failed = is.failed; causes = is.causes };
    }
