-- The numbers of the refusals that definitions name.
use Rattle.std.specs.Prelude.{ℕ}

-- no active transaction of that number
abbrev pub no_transaction : ℕ
no_transaction = 1

-- the transaction was answered Die
abbrev pub must_roll_back : ℕ
must_roll_back = 2

-- a key or bound of no byte or more than 255
abbrev pub key_length : ℕ
key_length = 3

-- the transaction is rolling back
abbrev pub rolling_back : ℕ
rolling_back = 4

-- an insert needs pages past the limit
abbrev pub pages_full : ℕ
pages_full = 5

-- page numbers, levels or transaction numbers are used up
abbrev pub capacity : ℕ
capacity = 6

-- an append would pass the log's last position
abbrev pub log_full : ℕ
log_full = 7

-- a disk call failed
abbrev pub device : ℕ
device = 8

-- want of memory before the step's first record
abbrev pub memory : ℕ
memory = 9

-- the engine has failed, or fails now for want of memory after the step's first record
abbrev pub failed : ℕ
failed = 10

-- the files' bytes are no store
abbrev pub not_a_store : ℕ
not_a_store = 11

-- as many transactions are active as may be
abbrev pub too_many : ℕ
too_many = 12

-- a transaction is active
abbrev pub busy : ℕ
busy = 15

-- the transaction has an unfinished structure change
abbrev pub unfinished : ℕ
unfinished = 17
