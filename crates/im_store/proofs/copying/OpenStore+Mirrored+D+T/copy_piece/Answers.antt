use Rattle.im_store.proofs.copying.OpenStore+Mirrored+D+T.copy_piece.Goals as goal

pub returns-clause-copied : goal.returns-clause-copied
returns-clause-copied g c =
    let is = c.copy_piece.ensures in
    record {
      still = is.still;
      none = is.none;
      same = is.next.same;
      last = is.last;
      more = is.next.more;
      gone = is.next.gone;
      refused = record { failed = is.failed; causes = is.causes };
    }
