-- Keys as the table keeps them.
use Rattle.std.specs.Prelude.{◌≡◌, ◌≤◌, ℕ, length, take}
use Rattle.std.specs.Hash.FoldHasher as folding
use Rattle.im_base_types.specs.Keys.{Key}
use Rattle.im_engine_locks.specs.declared.key_bytes.KeyBytes.{KeyBytes}
use Rattle.im_engine_locks.specs.declared.key_bytes.KeyBytes.TheVariants.{Short, Long}
use Rattle.im_engine_locks.specs.declared.name.Name.{Name as NameInCode}
use Rattle.im_engine_locks.specs.declared.name.Name.TheVariants.{Key as KeyInCode, End as EndInCode}
use Rattle.im_engine_locks.specs.declared.stored_lock.StoredName.{StoredName}
use Rattle.im_engine_locks.specs.declared.stored_lock.StoredName.TheVariants.{Key as StoredKey, End as StoredEnd}

-- the bytes of a key
abbrev pub spelled : KeyBytes → Key
spelled (Short key) = take key.len key.bytes
spelled (Long bytes) = bytes.items

-- the number by which a key is found
abbrev pub digest : Key → ℕ
digest k = folding.finish (folding.write folding.initial k)

-- it has room for these bytes in place, or has them
abbrev pub IsSettable : KeyBytes → Key → Type 0
IsSettable (Short key) k = length k ≤ 32
IsSettable (Long bytes) k = bytes.items ≡ k

-- it has room for the name that this key is
abbrev pub IsKeyRoomFor : StoredName → Key → Type 0
IsKeyRoomFor (StoredKey key) k = IsSettable key k
IsKeyRoomFor StoredEnd k = ⊥

-- it has room for this name
abbrev pub IsRoomFor : StoredName → NameInCode → Type 0
IsRoomFor room (KeyInCode k) = IsKeyRoomFor room k.now
IsRoomFor (StoredKey key) EndInCode = ⊥
IsRoomFor StoredEnd EndInCode = Unit {0}
