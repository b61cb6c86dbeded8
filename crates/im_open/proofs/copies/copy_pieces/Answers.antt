use Rattle.std.proofs.Common.{rules, refl}
use Rattle.im_base_mirror_disk.specs.declared.piece.Piece.TheVariants as pieces
use Rattle.im_open.proofs.Still.{all_pieces, last_piece, next_piece, no_call, no_piece, one_call, piece_refused, then_call}
use Rattle.im_open.proofs.copies.copy_pieces.Goals as goal

pub loop-count-init : goal.loop-count-init
loop-count-init g c = record { only = no_call _ c.args.store.now; size = refl; made = no_piece _ _ _ _ _ }

pub loop-count-preserved : goal.loop-count-preserved
loop-count-preserved g c =
    let l = c.loop-count in
    record {
      only = then_call _ _ _ _ l.invariant.only (one_call _ _ _ c.copy_piece.ensures.upkeep c.copy_piece.ensures.copied.still.only);
      size = search rules;
      made = next_piece _ _ _ _ _ _ _ _ _ c.in-Ok-More.field-0 c.in-Ok-More.field-0-is l.invariant.size l.invariant.made c.in-Ok-More.ensures.copied;
    }

pub returns-in-Ok-Last-clause-only : goal.returns-in-Ok-Last-clause-only
returns-in-Ok-Last-clause-only g c = then_call _ _ _ _ c.loop-count.invariant.only (one_call _ _ _ c.copy_piece.ensures.upkeep c.copy_piece.ensures.copied.still.only)

pub returns-in-Ok-Last-clause-copied : goal.returns-in-Ok-Last-clause-copied
returns-in-Ok-Last-clause-copied g c =
    let l = c.loop-count in
    last_piece _ _ _ _ _ _ _ _ _ c.in-Ok-Last.field-0 pieces.Last c.in-Ok-Last.field-0-is (λ never. cc never) l.invariant.size l.invariant.made c.in-Ok-Last.ensures.copied

pub returns-in-Ok-None-clause-only : goal.returns-in-Ok-None-clause-only
returns-in-Ok-None-clause-only g c = then_call _ _ _ _ c.loop-count.invariant.only (one_call _ _ _ c.copy_piece.ensures.upkeep c.copy_piece.ensures.copied.still.only)

pub returns-in-Ok-None-clause-copied : goal.returns-in-Ok-None-clause-copied
returns-in-Ok-None-clause-copied g c =
    let l = c.loop-count in
    last_piece _ _ _ _ _ _ _ _ _ c.in-Ok-None.field-0 pieces.None c.in-Ok-None.field-0-is (λ never. cc never) l.invariant.size l.invariant.made c.in-Ok-None.ensures.copied

pub returns-in-Err-clause-only : goal.returns-in-Err-clause-only
returns-in-Err-clause-only g c = then_call _ _ _ _ c.loop-count.invariant.only (one_call _ _ _ c.copy_piece.ensures.upkeep c.copy_piece.ensures.copied.still.only)

pub returns-in-Err-clause-refused : goal.returns-in-Err-clause-refused
returns-in-Err-clause-refused g c =
    let l = c.loop-count in
    piece_refused _ _ _ _ _ _ _ _ _ c.in-Err.fault l.invariant.size l.invariant.made c.in-Err.ensures.copied

pub returns-clause-copied : goal.returns-clause-copied
returns-clause-copied g c =
    let l = c.loop-count in
    all_pieces _ _ _ _ _ _ _ (search rules) l.invariant.made
