-- A store of which a copy is made, call by call.
use Rattle.std.proofs.Common.{◌∙◌, inl, inr, refl, subst, sym}
use Rattle.std.specs.Prelude.{◌≡◌, ◌≢◌, ◌+◌, ◌-◌, ◌^◌, ℕ, Ok, Err}
use Rattle.im_base_types.specs.declared.fault.Fault.{Fault}
use Rattle.im_base_mirror_disk.specs.declared.mirrored.Mirrored.{Mirrored}
use Rattle.im_base_mirror_disk.specs.declared.piece.Piece.{Piece}
use Rattle.im_base_mirror_disk.specs.declared.piece.Piece.TheVariants as pieces
use Rattle.im_engine.specs.declared.engine.Engine.{Engine}
use Rattle.im_store.specs.Copies.{IsCopied}
use Rattle.im_base_disk.specs.declared.disk.Disk.{Ghosts}
use Rattle.im_engine.specs.Copied.{OnlyDisk}
use Rattle.im_store.specs.declared.open_store.OpenStore.{OpenStore}
use Rattle.im_open.specs.Copied.{ArePieces, OnlyItsDisk, WasCopied, WasPieceRefused, more, none}

module _ {D : Type 0} (d : Ghosts D) where
  -- none
  pub no_call : (a : OpenStore D d) → OnlyItsDisk d a a
  no_call a = record { upkeep = refl; unkept = refl; writer = refl; max_pages = refl; dense = refl; report = refl; txns = refl; locks = refl; failed = refl; stepped = refl; under = refl }

  -- one call
  pub one_call : (a b : OpenStore D d) → (b.upkeep ≡ a.upkeep) × (b.unkept ≡ a.unkept) → OnlyDisk d a.engine b.engine → OnlyItsDisk d a b
  one_call a b kept only = record { upkeep = kept.0; unkept = kept.1; writer = only.writer; max_pages = only.max_pages; dense = only.dense; report = only.report; txns = only.txns; locks = only.locks; failed = only.failed; stepped = only.stepped; under = only.under }

  -- and others after it
  pub then_call : (a b c : OpenStore D d) → OnlyItsDisk d a b → OnlyItsDisk d b c → OnlyItsDisk d a c
  then_call a b c x y = record { upkeep = y.upkeep ∙ x.upkeep; unkept = y.unkept ∙ x.unkept; writer = y.writer ∙ x.writer; max_pages = y.max_pages ∙ x.max_pages; dense = y.dense ∙ x.dense; report = y.report ∙ x.report; txns = y.txns ∙ x.txns; locks = y.locks ∙ x.locks; failed = y.failed ∙ x.failed; stepped = y.stepped ∙ x.stepped; under = y.under ∙ x.under }

module _ {D T : Type 0} (d : Ghosts D) (t : Ghosts T) (m : Ghosts (Mirrored D T d t)) where
  -- no piece
  pub no_piece : (n : ℕ) (old : Engine (Mirrored D T d t) m) → ArePieces d t m n old 0 old
  no_piece n old = none

  -- one more, of as many bytes
  pub next_piece : (n k count : ℕ) (old mid new : Engine (Mirrored D T d t) m) (piece : Piece) → piece ≡ pieces.More → k ≡ n → ArePieces d t m n old count mid → IsCopied d t m mid new k (Ok piece) → ArePieces d t m n old (count + 1) new
  next_piece n k count old mid new piece is_more same made is =
      more count mid new made (subst (λ (p : Piece). IsCopied d t m mid new n (Ok p)) is_more (subst (λ (x : ℕ). IsCopied d t m mid new x (Ok piece)) same is))

  -- the last one
  pub last_piece : (n k count : ℕ) (old mid new : Engine (Mirrored D T d t) m) (piece told : Piece) → piece ≡ told → told ≢ pieces.More → k ≡ n → ArePieces d t m n old count mid → IsCopied d t m mid new k (Ok piece) → WasCopied d t m n old new
  last_piece n k count old mid new piece told as_told other same made is =
      record { count = count; mid = mid; made = made; over = inl (piece, (λ is_more. other (sym as_told ∙ is_more)), subst (λ (x : ℕ). IsCopied d t m mid new x (Ok piece)) same is) }

  -- as many as a count can tell
  pub all_pieces : (n count : ℕ) (old new : Engine (Mirrored D T d t) m) → count ≡ 2 ^ 64 - 1 → ArePieces d t m n old count new → WasCopied d t m n old new
  all_pieces n count old new full made = record { count = count; mid = new; made = made; over = inr (refl, full) }

  -- one that was refused
  pub piece_refused : (n k count : ℕ) (old mid new : Engine (Mirrored D T d t) m) (fault : Fault) → k ≡ n → ArePieces d t m n old count mid → IsCopied d t m mid new k (Err fault) → WasPieceRefused d t m n old new fault
  piece_refused n k count old mid new fault same made is = record { count = count; mid = mid; made = made; refused = subst (λ (x : ℕ). IsCopied d t m mid new x (Err fault)) same is }
