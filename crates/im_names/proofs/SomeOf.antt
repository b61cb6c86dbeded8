-- Some of the entries of a range, as one is taken out, or another one put in.
use Rattle.std.proofs.Common.{◌≡◌, ℕ, suc, zero, ◌<◌, ◌≤◌, Bool, true, false, cond, List, [], ◌∷◌, ◌++◌, length, take, refl, sym, ap, subst, ◌∙◌, arith, inl, inr, ◌⊎◌, append_assoc}
use Rattle.std.proofs.lemmas.List.{append-nil}
use Rattle.std.specs.Prelude.{not}
use Rattle.std.specs.List.{AllByRecursion}
use Rattle.std.specs.declared.cmp.Ordering.{Ordering}
use Rattle.std.specs.declared.cmp.Ordering.TheVariants.{Less, Equal, Greater}
use Rattle.std.specs.Ordering.{ordering_reverse, eq_by_cmp, is_eq}
use Rattle.std.specs.FinMap.Entries.{by_order, where_key}
use Rattle.std.specs.Cmp.{IsTotalOrder}
use Rattle.std.proofs.lemmas.Cmp.{nat_list_cmp_total, tied_itself}
use Rattle.im_base_types.specs.Keys.{key_order}
use Rattle.im_base_types.specs.Maps.{with_key, without_key}
use Rattle.im_names.specs.Parts.{Entry}
use Rattle.im_names.specs.LongValues.{IsSomeOf, IsOneOf, RisesByKey, Write, TakeOut, PutIn, with_write, with_writes, IsOut, IsPutIn, Replaces, all_put_in, all_taken_out}

pub all_of : (all : List Entry) → IsSomeOf all all
all_of [] = refl
all_of (e ∷ all) = inr (all, (refl, all_of all))

pub none_of : (all : List Entry) → IsSomeOf [] all
none_of [] = refl
none_of (e ∷ all) = inl (none_of all)

-- what holds of all holds of some
pub each_of : (P : Entry → Type 0) (all some : List Entry) → AllByRecursion P all → IsSomeOf some all → AllByRecursion P some
each_of P [] some each is = subst (AllByRecursion P) (sym is) tt
each_of P (e ∷ all) some each is =
    elim is [
      | inl s ↦ each_of P all some each.1 s
      | inr r ↦ subst (AllByRecursion P) (sym r.1.0) (each.0, each_of P all r.0 each.1 r.1.1)
    ]

-- and of one
pub one_of : (P : Entry → Type 0) (all : List Entry) (e : Entry) → AllByRecursion P all → IsOneOf e all → P e
one_of P [] e each is = absurd is
one_of P (x ∷ all) e each is = elim is [ inl same ↦ subst P (sym same) each.0 | inr one ↦ one_of P all e each.1 one ]

-- ---- one is taken out

pub some_without : (p : List ℕ → Bool) (all some : List Entry) → IsSomeOf some all → IsSomeOf (where_key key_order p some) all
some_without p [] some is = ap (where_key key_order p) is
some_without p (e ∷ all) some is =
    elim is [
      | inl s ↦ inl (some_without p all some s)
      | inr r ↦ subst (λ (l : List Entry). IsSomeOf l (e ∷ all)) (sym (ap (where_key key_order p) r.1.0)) (by (p e.0) (where_key key_order p r.0) (some_without p all r.0 r.1.1))
    ]
  where
    by : (b : Bool) (rest : List Entry) → IsSomeOf rest all → IsSomeOf (cond b (e ∷ rest) rest) (e ∷ all)
    by true rest s = inr (rest, (refl, s))
    by false rest s = inl s

-- ---- one is put in

put_first : (e x : Entry) (some : List Entry) → key_order e.0 x.0 ≡ Less → with_key e.0 e.1 (x ∷ some) ≡ e ∷ (x ∷ some)
put_first e x some l = ap (λ (o : Ordering). by_order o (e ∷ (x ∷ some)) ((x.0, e.1) ∷ some) (x ∷ with_key e.0 e.1 some)) l

put_same : (e : Entry) (some : List Entry) → with_key e.0 e.1 (e ∷ some) ≡ e ∷ some
put_same e some = ap (λ (o : Ordering). by_order o (e ∷ (e ∷ some)) (e ∷ some) (e ∷ with_key e.0 e.1 some)) (tied_itself nat_list_cmp_total e.0)

put_later : (e x : Entry) (some : List Entry) → key_order x.0 e.0 ≡ Less → with_key e.0 e.1 (x ∷ some) ≡ x ∷ with_key e.0 e.1 some
put_later e x some l =
    ap (λ (o : Ordering). by_order o (e ∷ (x ∷ some)) ((x.0, e.1) ∷ some) (x ∷ with_key e.0 e.1 some)) (nat_list_cmp_total.antisymm e.0 x.0 ∙ ap ordering_reverse l)

put_before : (e : Entry) (some : List Entry) → AllByRecursion (λ x. key_order e.0 x.0 ≡ Less) some → with_key e.0 e.1 some ≡ e ∷ some
put_before e [] each = refl
put_before e (x ∷ some) each = put_first e x some each.0

pub some_with : (e : Entry) (all some : List Entry) → RisesByKey all → IsOneOf e all → IsSomeOf some all → IsSomeOf (with_key e.0 e.1 some) all
some_with e [] some rising one is = absurd one
some_with e (x ∷ all) some rising one is =
    elim one [
      | inl same ↦ subst (λ (y : Entry). IsSomeOf (with_key y.0 y.1 some) (x ∷ all)) (sym same) (elim is [
        | inl s ↦ inr (some, (put_before x some (each_of (λ y. key_order x.0 y.0 ≡ Less) all some rising.0 s), s))
        | inr r ↦ inr (r.0, (ap (with_key x.0 x.1) r.1.0 ∙ put_same x r.0, r.1.1))
      ])
      | inr later ↦ elim is [
        | inl s ↦ inl (some_with e all some rising.1 later s)
        | inr r ↦ inr (with_key e.0 e.1 r.0, (ap (with_key e.0 e.1) r.1.0 ∙ put_later e x r.0 (one_of (λ y. key_order x.0 y.0 ≡ Less) all e rising.0 later), some_with e all r.0 rising.1 later r.1.1))
      ]
    ]

-- ---- several, in turn

pub out_some : (w : Write) (all some : List Entry) → IsOut w → IsSomeOf some all → IsSomeOf (with_write some w) all
out_some (TakeOut key) all some out is = some_without (λ x. not (eq_by_cmp key_order key x)) all some is
out_some (PutIn e) all some out is = absurd out

pub ins_some : (ws : List Write) (all some : List Entry) → RisesByKey all → AllByRecursion (IsPutIn all) ws → IsSomeOf some all → IsSomeOf (with_writes ws some) all
ins_some [] all some rising each is = is
ins_some (TakeOut key ∷ ws) all some rising each is = absurd each.0
ins_some (PutIn e ∷ ws) all some rising each is = ins_some ws all (with_key e.0 e.1 some) rising each.1 (some_with e all some rising each.0 is)

pub each_taken : (P : Write → Type 0) (n : ℕ) (ws : List Write) → AllByRecursion P ws → AllByRecursion P (take n ws)
each_taken P zero ws each = tt
each_taken P (suc n) [] each = tt
each_taken P (suc n) (w ∷ ws) each = (each.0, each_taken P n ws each.1)

-- ---- rising entries

-- no key is below itself
not_below_itself : (key : List ℕ) → key_order key key ≡ Less → ⊥
not_below_itself key l = cc (sym (tied_itself nat_list_cmp_total key) ∙ l)

pub some_rises : (all some : List Entry) → RisesByKey all → IsSomeOf some all → RisesByKey some
some_rises [] some rising is = subst RisesByKey (sym is) tt
some_rises (e ∷ all) some rising is =
    elim is [
      | inl s ↦ some_rises all some rising.1 s
      | inr r ↦ subst RisesByKey (sym r.1.0) (each_of (λ x. key_order e.0 x.0 ≡ Less) all r.0 rising.0 r.1.1, some_rises all r.0 rising.1 r.1.1)
    ]

-- what is above the first is one of the others
not_first : (e : Entry) (all some : List Entry) → AllByRecursion (λ x. key_order e.0 x.0 ≡ Less) some → AllByRecursion (λ x. IsOneOf x (e ∷ all)) some → AllByRecursion (λ x. IsOneOf x all) some
not_first e all [] high each = tt
not_first e all (x ∷ some) high each =
    (elim each.0 [ inl same ↦ absurd (not_below_itself e.0 (subst (λ (y : Entry). key_order e.0 y.0 ≡ Less) same high.0)) | inr one ↦ one ], not_first e all some high.1 each.1)

-- what is above one is above what is below that one
above_both : (a b : List ℕ) (some : List Entry) → key_order a b ≡ Less → AllByRecursion (λ x. key_order b x.0 ≡ Less) some → AllByRecursion (λ x. key_order a x.0 ≡ Less) some
above_both a b [] l high = tt
above_both a b (x ∷ some) l high = (nat_list_cmp_total.trans a b x.0 l high.0, above_both a b some l high.1)

-- rising entries, each of them one of these, are some of these in their order
pub rising_some : (all some : List Entry) → RisesByKey all → RisesByKey some → AllByRecursion (λ x. IsOneOf x all) some → IsSomeOf some all
rising_some [] [] rising also each = refl
rising_some [] (x ∷ some) rising also each = absurd each.0
rising_some (e ∷ all) [] rising also each = inl (none_of all)
rising_some (e ∷ all) (x ∷ some) rising also each =
    elim each.0 [
      | inl same ↦ inr (
        some,
        (
          ap (λ (y : Entry). y ∷ some) same,
          rising_some all some rising.1 also.1
              (not_first e all some (subst (λ (y : Entry). AllByRecursion (λ z. key_order y.0 z.0 ≡ Less) some) same also.0) each.1),
        ),
      )
      | inr one ↦ (let low = one_of (λ y. key_order e.0 y.0 ≡ Less) all x rising.0 one in
          inl (rising_some all (x ∷ some) rising.1 also (one, not_first e all some (above_both e.0 x.0 some low also.0) each.1)))
    ]

-- ---- the plainest writer

pub outs_only : (es : List Entry) → AllByRecursion IsOut (all_taken_out es)
outs_only [] = tt
outs_only (e ∷ es) = (tt, outs_only es)

weaker : (e : Entry) (all : List Entry) (ws : List Write) → AllByRecursion (IsPutIn all) ws → AllByRecursion (IsPutIn (e ∷ all)) ws
weaker e all [] each = tt
weaker e all (TakeOut key ∷ ws) each = absurd each.0
weaker e all (PutIn x ∷ ws) each = (inr each.0, weaker e all ws each.1)

pub ins_only : (es : List Entry) → AllByRecursion (IsPutIn es) (all_put_in es)
ins_only [] = tt
ins_only (e ∷ es) = (inl refl, weaker e es (all_put_in es) (ins_only es))

-- a key is taken out of those above it
out_above : (key : List ℕ) (es : List Entry) → AllByRecursion (λ x. key_order key x.0 ≡ Less) es → without_key key es ≡ es
out_above key [] high = refl
out_above key (x ∷ es) high =
    ap (λ (o : Ordering). cond (not (is_eq o)) (x ∷ without_key key es) (without_key key es)) high.0 ∙ ap (λ (l : List Entry). x ∷ l) (out_above key es high.1)

pub none_left : (es : List Entry) → RisesByKey es → with_writes (all_taken_out es) es ≡ []
none_left [] rising = refl
none_left (e ∷ es) rising =
    ap (with_writes (all_taken_out es)) (ap (λ (o : Ordering). cond (not (is_eq o)) (e ∷ without_key e.0 es) (without_key e.0 es)) (tied_itself nat_list_cmp_total e.0) ∙ out_above e.0 es rising.0)
    ∙ none_left es rising.1

-- one more is put after those below it
put_last : (e : Entry) (es : List Entry) → AllByRecursion (λ x. key_order x.0 e.0 ≡ Less) es → with_key e.0 e.1 es ≡ es ++ (e ∷ [])
put_last e [] low = refl
put_last e (x ∷ es) low = put_later e x es low.0 ∙ ap (λ (l : List Entry). x ∷ l) (put_last e es low.1)

first_below : (es : List Entry) (e : Entry) (more : List Entry) → RisesByKey (es ++ (e ∷ more)) → AllByRecursion (λ x. key_order x.0 e.0 ≡ Less) es
first_below [] e more rising = tt
first_below (x ∷ es) e more rising = (one_of (λ y. key_order x.0 y.0 ≡ Less) (es ++ (e ∷ more)) e rising.0 (there es), first_below es e more rising.1)
  where
    there : (l : List Entry) → IsOneOf e (l ++ (e ∷ more))
    there [] = inl refl
    there (y ∷ l) = inr (there l)

pub all_put : (more es : List Entry) → RisesByKey (es ++ more) → with_writes (all_put_in more) es ≡ es ++ more
all_put [] es rising = sym (append-nil es)
all_put (e ∷ more) es rising =
    ap (with_writes (all_put_in more)) (put_last e es (first_below es e more rising))
    ∙ all_put more (es ++ (e ∷ [])) (subst RisesByKey (sym (append_assoc es (e ∷ []) more)) rising) ∙ append_assoc es (e ∷ []) more

pub after_both : (ws more : List Write) (es : List Entry) → with_writes (ws ++ more) es ≡ with_writes more (with_writes ws es)
after_both [] more es = refl
after_both (w ∷ ws) more es = after_both ws more (with_write es w)

-- at each moment some of the one value are there, or some of the other
moment_from : (outs ins : List Write) (old new some : List Entry) → RisesByKey new → AllByRecursion IsOut outs → AllByRecursion (IsPutIn new) ins → IsSomeOf some old → IsSomeOf (with_writes outs some) new → (n : ℕ)
    → IsSomeOf (with_writes (take n (outs ++ ins)) some) old ⊎ IsSomeOf (with_writes (take n (outs ++ ins)) some) new
moment_from [] ins old new some rising out each is kept n = inr (ins_some (take n ins) new some rising (each_taken (IsPutIn new) n ins each) kept)
moment_from (w ∷ outs) ins old new some rising out each is kept zero = inl is
moment_from (w ∷ outs) ins old new some rising out each is kept (suc n) = moment_from outs ins old new (with_write some w) rising out.1 each (out_some w old some out.0 is) kept n

outs_some : (ws : List Write) (all some : List Entry) → AllByRecursion IsOut ws → IsSomeOf some all → IsSomeOf (with_writes ws some) all
outs_some [] all some out is = is
outs_some (w ∷ ws) all some out is = outs_some ws all (with_write some w) out.1 (out_some w all some out.0 is)

pub moment : (outs ins : List Write) (old new : List Entry) → RisesByKey old → RisesByKey new → Replaces old new outs ins → (n : ℕ)
    → IsSomeOf (with_writes (take n (outs ++ ins)) old) old ⊎ IsSomeOf (with_writes (take n (outs ++ ins)) old) new
moment outs ins old new rising also r n =
    let left = some_rises old (with_writes outs old) rising (outs_some outs old old r.first_out (all_of old)) in
    moment_from outs ins old new old also r.first_out r.then_in (all_of old) (rising_some new (with_writes outs old) also left r.of_new) n

pub plain : (old new : List Entry) → RisesByKey old → Replaces old new (all_taken_out old) (all_put_in new)
plain old new rising = record {
  first_out = outs_only old;
  then_in = ins_only new;
  of_new = subst (AllByRecursion (λ e. IsOneOf e new)) (sym (none_left old rising)) tt;
}

pub plain_ends : (old new : List Entry) → RisesByKey old → RisesByKey new → with_writes (all_taken_out old ++ all_put_in new) old ≡ new
plain_ends old new rising also = after_both (all_taken_out old) (all_put_in new) old ∙ ap (with_writes (all_put_in new)) (none_left old rising) ∙ all_put new [] also
