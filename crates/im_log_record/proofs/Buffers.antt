-- The front of a buffer after a write after it.
use Rattle.std.proofs.Common.{◌≡◌, ℕ, ◌+◌, ◌≤◌, List, ◌++◌, length, take, sym, ap, ◌∙◌, append_assoc, take_at, length-append, length-take-le}
use Rattle.im_log_record.specs.Spelling.{front, whole}

pub take_put : (old bytes rest : List ℕ) (at end : ℕ) → at ≤ length old → end ≡ at + length bytes → take end (take at old ++ (bytes ++ rest)) ≡ take at old ++ bytes
take_put old bytes rest at end le e =
    let l : length (take at old ++ bytes) ≡ end = length-append (take at old) bytes ∙ ap (λ (n : ℕ). n + length bytes) (length-take-le at old le) ∙ sym e in
    ap (take end) (sym (append_assoc (take at old) bytes rest)) ∙ take_at (take at old ++ bytes) rest end l

-- two and six writes, one after the other
pub two_puts : (t0 t1 t2 a b : List ℕ) → t1 ≡ t0 ++ a → t2 ≡ t1 ++ b → t2 ≡ t0 ++ (a ++ b)
two_puts t0 t1 t2 a b e1 e2 = rw (e2, e1) (append_assoc t0 a b)

pub six_puts : (t0 t1 t2 t3 t4 t5 t6 a b c d e f : List ℕ) → t1 ≡ t0 ++ a → t2 ≡ t1 ++ b → t3 ≡ t2 ++ c → t4 ≡ t3 ++ d → t5 ≡ t4 ++ e → t6 ≡ t5 ++ f
    → t6 ≡ t0 ++ (((((a ++ b) ++ c) ++ d) ++ e) ++ f)
six_puts t0 t1 t2 t3 t4 t5 t6 a b c d e f e1 e2 e3 e4 e5 e6 = rw (e6, e5, e4, e3, e2, e1) (simp append_assoc)

-- the front of a record and its payload
pub record_puts : (t0 t1 t2 : List ℕ) (kind t p u g n : ℕ) (payload : List ℕ) → n ≡ length payload → t1 ≡ t0 ++ front kind t p u g n → t2 ≡ t1 ++ payload → t2 ≡ t0 ++ whole kind t p u g payload
record_puts t0 t1 t2 kind t p u g n payload e e1 e2 =
    two_puts t0 t1 t2 (front kind t p u g (length payload)) payload (e1 ∙ ap (λ (m : ℕ). t0 ++ front kind t p u g m) e) e2

pub five_puts : (t0 t1 t2 t3 t4 t5 a b c d e : List ℕ) → t1 ≡ t0 ++ a → t2 ≡ t1 ++ b → t3 ≡ t2 ++ c → t4 ≡ t3 ++ d → t5 ≡ t4 ++ e → t5 ≡ t0 ++ ((((a ++ b) ++ c) ++ d) ++ e)
five_puts t0 t1 t2 t3 t4 t5 a b c d e e1 e2 e3 e4 e5 = rw (e5, e4, e3, e2, e1) (simp append_assoc)
