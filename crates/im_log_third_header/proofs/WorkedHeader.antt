-- A worked header, by computation: of the first log of a store, with salt 0 and one sync a force. Its sum was found by another program.
use Rattle.std.proofs.Common.{◌≡◌, [], ◌∷◌, ◌++◌, false, replicate, codes, refl}
use Rattle.std.specs.Hash.DefaultHasher.{finish, initial, round, write, write_byte, write_word}
use Rattle.im_log_third_header.specs.Header.{header_sum, third_header}

worked : third_header (record { start = record { generation = 1; base = 0; next = 1 }; salt = 0 ∷ 0 ∷ 0 ∷ []; two_syncs = false })
    ≡ codes "ARIESIM3" ++ (0 ∷ 0 ∷ 16 ∷ 0 ∷ 0 ∷ 0 ∷ 0 ∷ []) ++ (replicate 7 0 ++ 1 ∷ replicate 8 0) ++ (replicate 7 0 ++ 1 ∷ []) ++ (0 ∷ 0 ∷ 0 ∷ []) ++ (229 ∷ 129 ∷ 38 ∷ 190 ∷ [])
unfolding header_sum initial write write_byte write_word round finish
worked = refl
