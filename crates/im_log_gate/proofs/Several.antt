-- Several batches after one gate, through writes that a stop may tear.
use Rattle.std.proofs.Common.{◌≡◌, ◌≢◌, inl, inr, ℕ, ◌+◌, ◌<◌, ◌≤◌, List, [], ◌∷◌, ◌++◌, length, take, drop, get_or, Option, Some, None, refl, sym, ◌∙◌, ap, subst, arith, append_assoc, length-append, take-append-drop, All}
use Rattle.std.proofs.lemmas.Bool.{cases_eq}
use Rattle.std.proofs.lemmas.List.{append-nil, take_at, drop_at, drop_more, take_more, take-take, length-take-le, get_or_at, get_or-take}
use Rattle.std.proofs.lemmas.List.Elements.{All-head, All-tail}
use Rattle.std.specs.Int.{w32, to_be_bytes}
use Rattle.im_base_disk.specs.Disk.{Holds, Torn}
use Rattle.im_log_gate.specs.Batches.{in_front, batches_from, batches, with_batch, with_batches, spelled, size_of, in_front_of, Reaches, Fits, gated, laid, Lays, IsBeforeOrWithAll}
use Rattle.im_log_gate.proofs.BatchLemmas.{whole_front, in_front-in_front}
use Rattle.im_log_gate.proofs.Places.{reaches_by, same_before, carried, ends, put, put_sizes, put_batch_is, put_front}

none_in_front : (bs : Option (List (List ℕ))) → bs ≡ in_front [] bs
none_in_front None = refl
none_in_front (Some bs) = refl

-- one batch after an open gate, whatever comes after it
one_counts : (records : List ℕ) → Fits records → (rest : List ℕ) → batches_from 0 (1 ∷ to_be_bytes w32 (length records) ++ records ++ rest) ≡ in_front (records ∷ []) (batches_from 0 rest)
one_counts records f rest =
    ap (λ (l : List ℕ). batches_from 0 (1 ∷ l ++ rest)) (sym (put_front records [] f.some f.most))
    ∙ whole_front (put records []) (put_sizes records [] f.some f.most) rest
    ∙ ap (λ (l : List ℕ). in_front (l ∷ []) (batches_from 0 rest)) (put_batch_is records [] f.some f.most)

-- and several
pub all_count : (bs : List (List ℕ)) → All Fits bs → (rest : List ℕ) → batches_from 0 (gated bs ++ rest) ≡ in_front bs (batches_from 0 rest)
all_count [] fit rest = none_in_front (batches_from 0 rest)
all_count (b ∷ bs) fit rest =
    ap (batches_from 0) (append_assoc (1 ∷ to_be_bytes w32 (length b) ++ b) (gated bs) rest)
    ∙ one_counts b (All-head Fits b bs fit) (gated bs ++ rest)
    ∙ ap (in_front (b ∷ [])) (all_count bs (All-tail Fits b bs fit) rest)
    ∙ in_front-in_front (b ∷ []) bs (batches_from 0 rest)

pub gated_long : (bs : List (List ℕ)) → length (gated bs) ≡ size_of bs
gated_long [] = refl
gated_long (b ∷ bs) = omega (arith, gated_long bs, length-append (to_be_bytes w32 (length b) ++ b) (gated bs), length-append (to_be_bytes w32 (length b)) b)

pub size_of-append : (some other : List (List ℕ)) → size_of (some ++ other) ≡ size_of some + size_of other
size_of-append [] other = omega arith
size_of-append (b ∷ some) other = omega (arith, size_of-append some other)

pub one_more_gated : (bs : List (List ℕ)) (last : List ℕ) → gated (bs ++ last ∷ []) ≡ gated bs ++ (1 ∷ to_be_bytes w32 (length last) ++ last)
one_more_gated [] last = append-nil (1 ∷ to_be_bytes w32 (length last) ++ last)
one_more_gated (b ∷ bs) last =
    ap (λ (l : List ℕ). (1 ∷ to_be_bytes w32 (length b) ++ b) ++ l) (one_more_gated bs last)
    ∙ sym (append_assoc (1 ∷ to_be_bytes w32 (length b) ++ b) (gated bs) (1 ∷ to_be_bytes w32 (length last) ++ last))

-- the first gate stands in front of what is laid out
pub gate_of : (bs : List (List ℕ)) → 1 ≤ length bs → gated bs ≡ 1 ∷ drop 1 (gated bs)
gate_of [] some = absurd (omega (arith, some))
gate_of (b ∷ bs) some = refl

pub laid_long : (bs : List (List ℕ)) → 1 ≤ length bs → length (laid bs) ≡ size_of bs
laid_long bs some = omega (arith, length-append (drop 1 (gated bs)) (0 ∷ []), ap length (gate_of bs some), gated_long bs)

-- one batch is laid out as it is spelled
pub laid_one : (records : List ℕ) → laid (records ∷ []) ≡ spelled records
laid_one records = ap (λ (l : List ℕ). l ++ 0 ∷ []) (append-nil (to_be_bytes w32 (length records) ++ records))

pub with_one : (last : List ℕ) (before : Option (List (List ℕ))) → with_batches (last ∷ []) before ≡ with_batch last before
with_one last None = refl
with_one last (Some before) = refl

-- the two writes, after the gate and then over it
module _ (first : ℕ) (file : List ℕ) (place : ℕ) (r : Reaches first file place) (closed : get_or file place 0 ≢ 1) where
  -- the closed gate stands in each outcome of a write after it
  pub torn_behind : (n : ℕ) (c : List ℕ) → Torn (place + 1) n file c → batches first c ≡ batches first file
  torn_behind n c torn =
      let long = r.within in
      let within : place < length c = omega (arith, torn.no_shorter, long) in
      let same : take place c ≡ take place file =
      sym (take-take place (place + 1) c (omega arith)) ∙ ap (λ (l : List ℕ). take place l) torn.before ∙ take-take place (place + 1) file (omega arith) in
      let gate : get_or c place 0 ≡ get_or file place 0 =
      sym (get_or-take (place + 1) c place 0 (omega arith)) ∙ ap (λ (l : List ℕ). get_or l place 0) torn.before ∙ get_or-take (place + 1) file place 0 (omega arith) in
      let still : get_or c place 0 ≢ 1 = λ one. closed (sym gate ∙ one) in
      ends first c place (carried first file c place r same within) still ∙ ap Some (same_before first file c place same) ∙ sym (ends first file place r closed)

  module _ (bs : List (List ℕ)) (content : List ℕ) (l : Lays bs content) where
    abbrev last : List ℕ
    last = drop (place + 1 + length content) file

    -- what comes after the last gate
    abbrev pub junk : List ℕ
    junk = l.rest ++ last

    -- the file with the batches after this gate
    abbrev pub staged : ℕ → List ℕ
    staged gate = take place file ++ gate ∷ (laid bs ++ junk)

    front_is : length (take place file) ≡ place
    front_is = length-take-le place file (omega (arith, r.within))

    pub written_behind : (new : List ℕ) → Holds (place + 1) content file new → new ≡ staged (get_or file place 0)
    written_behind new holds =
        holds
        ∙ append_assoc (take (place + 1) file) content last
        ∙ ap (λ (c : List ℕ). take (place + 1) file ++ (c ++ last)) l.is
        ∙ ap (λ (c : List ℕ). take (place + 1) file ++ c) (append_assoc (laid bs) l.rest last)
        ∙ ap (λ (c : List ℕ). c ++ (laid bs ++ junk)) (take_more file place 0 r.within)
        ∙ append_assoc (take place file) (get_or file place 0 ∷ []) (laid bs ++ junk)

    staged_behind : (gate : ℕ) → drop (place + 1) (staged gate) ≡ laid bs ++ junk
    staged_behind gate =
        ap (λ (c : List ℕ). drop (place + 1) c) (sym (append_assoc (take place file) (gate ∷ []) (laid bs ++ junk)))
        ∙ drop_at (take place file ++ gate ∷ []) (laid bs ++ junk) (place + 1) (omega (arith, length-append (take place file) (gate ∷ []), front_is))

    staged_front : (gate : ℕ) → take place (staged gate) ≡ take place file
    staged_front gate = take_at (take place file) (gate ∷ (laid bs ++ junk)) place front_is

    staged_reaches : (gate : ℕ) → Reaches first (staged gate) place
    staged_reaches gate = carried first file (staged gate) place r (staged_front gate) (omega (arith, length-append (take place file) (gate ∷ (laid bs ++ junk)), front_is))

    staged_gate : (gate : ℕ) → get_or (staged gate) place 0 ≡ gate
    staged_gate gate = get_or_at (take place file) gate (laid bs ++ junk) 0 place front_is

    -- after the open gate stand the batches and then the closed one
    opened_is : staged 1 ≡ take place file ++ (gated bs ++ 0 ∷ junk)
    opened_is =
        ap (λ (c : List ℕ). take place file ++ 1 ∷ c) (append_assoc (drop 1 (gated bs)) (0 ∷ []) junk)
        ∙ ap (λ (c : List ℕ). take place file ++ (c ++ 0 ∷ junk)) (sym (gate_of bs l.some))

    abbrev up_to : List ℕ
    up_to = take place file ++ gated bs

    up_to_is : staged 1 ≡ up_to ++ 0 ∷ junk
    up_to_is = opened_is ∙ sym (append_assoc (take place file) (gated bs) (0 ∷ junk))

    up_to_long : length up_to ≡ place + size_of bs
    up_to_long = omega (arith, length-append (take place file) (gated bs), front_is, gated_long bs)

    pub next_closed : (m : ℕ) → m ≡ place + size_of bs → get_or (staged 1) m 0 ≢ 1
    next_closed m is one =
        let zero_is : get_or (staged 1) m 0 ≡ 0 = ap (λ (c : List ℕ). get_or c m 0) up_to_is ∙ get_or_at up_to 0 junk 0 m (omega (arith, up_to_long, is)) in
        omega (arith, zero_is, one)

    passes_front : (m : ℕ) → m ≡ place + size_of bs → (rest : List ℕ) → batches first (take m (staged 1) ++ rest) ≡ in_front (in_front_of first place file ++ bs) (batches_from 0 rest)
    passes_front m is rest =
        ap (λ (c : List ℕ). batches first (take m c ++ rest)) up_to_is
        ∙ ap (λ (c : List ℕ). batches first (c ++ rest)) (take_at up_to (0 ∷ junk) m (omega (arith, up_to_long, is)))
        ∙ ap (batches first) (append_assoc (take place file) (gated bs) rest)
        ∙ r.front (gated bs ++ rest)
        ∙ ap (in_front (in_front_of first place file)) (all_count bs l.fit rest)
        ∙ in_front-in_front (in_front_of first place file) bs (batches_from 0 rest)

    pub moves : (m : ℕ) → m ≡ place + size_of bs → Reaches first (staged 1) m
    moves m is =
        reaches_by first (staged 1) m (in_front_of first place file ++ bs) (omega (arith, ap length up_to_is, length-append up_to (0 ∷ junk), up_to_long, is))
        (omega (arith, is, r.placed, size_of-append (in_front_of first place file) bs)) (passes_front m is)

    pub adds : batches first (staged 1) ≡ with_batches bs (batches first file)
    adds =
        ap (batches first) opened_is
        ∙ r.front (gated bs ++ 0 ∷ junk)
        ∙ ap (in_front (in_front_of first place file)) (all_count bs l.fit (0 ∷ junk))
        ∙ ap (λ (c : List (List ℕ)). Some (in_front_of first place file ++ c)) (append-nil bs)
        ∙ ap (with_batches bs) (sym (ends first file place r closed))

    -- they all count if the gate is open, and none if not
    pub counts : (gate : ℕ) → IsBeforeOrWithAll first bs (batches first file) (staged gate)
    counts gate = elim (cases_eq gate 1) [
      | inl one ↦ inr (ap (λ (g : ℕ). batches first (staged g)) one ∙ adds)
      | inr other ↦ inl (ends first (staged gate) place (staged_reaches gate) (λ one. other (sym (staged_gate gate) ∙ one)) ∙ ap Some (same_before first file (staged gate) place (staged_front gate)) ∙ sym (ends first file place r closed))
    ]

    pub torn_gate : (gate : ℕ) (c : List ℕ) → Torn place 1 (staged gate) c → IsBeforeOrWithAll first bs (batches first file) c
    torn_gate gate c torn =
        let within : place < length c = omega (arith, torn.no_shorter, (staged_reaches gate).within) in
        let front_same : take place c ≡ take place file = torn.before ∙ staged_front gate in
        let back : drop place c ≡ get_or c place 0 ∷ (laid bs ++ junk) =
        drop_more c place 0 within ∙ ap (λ (k : List ℕ). get_or c place 0 ∷ k) (torn.after ∙ staged_behind gate) in
        let is : c ≡ staged (get_or c place 0) =
        sym (take-append-drop place c) ∙ ap (λ (k : List ℕ). k ++ drop place c) front_same ∙ ap (λ (k : List ℕ). take place file ++ k) back in
        subst (IsBeforeOrWithAll first bs (batches first file)) (sym is) (counts (get_or c place 0))

    pub written_gate : (gate : ℕ) (new : List ℕ) → Holds place (1 ∷ []) (staged gate) new → new ≡ staged 1
    written_gate gate new holds =
        holds
        ∙ append_assoc (take place (staged gate)) (1 ∷ []) (drop (place + 1) (staged gate))
        ∙ ap (λ (k : List ℕ). k ++ 1 ∷ drop (place + 1) (staged gate)) (staged_front gate)
        ∙ ap (λ (k : List ℕ). take place file ++ 1 ∷ k) (staged_behind gate)
