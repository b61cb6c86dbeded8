-- The log and the view go together.
use Rattle.std.proofs.Common.{◌≡◌, ◌≢◌, ◌⊎◌, inl, inr, ℕ, true, false, List, [], ◌∷◌, ◌++◌, refl, sym, ◌∙◌, ap, subst, append_assoc, append-nil, ne_eqb}
use Rattle.std.specs.Prelude.{◌==◌}
use Rattle.im_base_types.specs.Maps.{IndexMap}
use Rattle.im_base_types.specs.Changes.{Change, Effect, applied, undone, apply, apply_all}
use Rattle.im_base_types.specs.Answers.{Mark, Going, Committing}
use Rattle.im_theory_log.specs.Histories.{History, Base}
use Rattle.im_theory_log.specs.Transactions.{committed, net}
use Rattle.im_base_types.proofs.Changes.{apply_all_append, apply_all_push}
use Rattle.im_theory_machine.specs.View.{Txn, View, idle, set_txn, did_txn, begun, marked, committed_by, dropped_by, queued, is_among, nets_of}
use Rattle.im_theory_machine.proofs.Cited.{cases_number, cases_test, neither, or_true, by_txn, set_txn-other, among_one, among_other, among_pushed, idle_gone, idle_others}
use Rattle.im_theory_steps.specs.Seen.{IsSeen}
use Rattle.im_theory_steps.specs.Laws.{LogAndViewGoTogether}

-- ---- the nets of those that wait

pub nets_append : (txns : ℕ → Txn) (xs ys : List ℕ) → nets_of txns (xs ++ ys) ≡ nets_of txns xs ++ nets_of txns ys
nets_append txns [] ys = refl
nets_append txns (x ∷ xs) ys = ap (λ (es : List Effect). (txns x).net ∷ es) (nets_append txns xs ys)

nets_kept : (old new : ℕ → Txn) (queue : List ℕ) → ((t : ℕ) → is_among t queue ≡ true → (new t).net ≡ (old t).net) → nets_of new queue ≡ nets_of old queue
nets_kept old new [] same = refl
nets_kept old new (t ∷ ts) same =
    ap (λ (e : Effect). e ∷ nets_of new ts) (same t (among_one t t ts refl))
    ∙ ap (λ (es : List Effect). (old t).net ∷ es) (nets_kept old new ts (λ s some. same s (or_true (s == t) (is_among s ts) some)))

not_it : (s t : ℕ) (queue : List ℕ) → is_among t queue ≡ false → is_among s queue ≡ true → s ≢ t
not_it s t queue none some e = let here : is_among t queue ≡ true = subst (λ (n : ℕ). is_among n queue ≡ true) e some in let never : true ≡ false = sym here ∙ none in cc never

pub nets_else : (txns : ℕ → Txn) (t : ℕ) (x : Txn) (queue : List ℕ) → is_among t queue ≡ false → nets_of (set_txn txns t x) queue ≡ nets_of txns queue
nets_else txns t x queue none = nets_kept txns (set_txn txns t x) queue (λ s some. ap (λ (y : Txn). y.net) (set_txn-other txns t x s (not_it s t queue none some)))

pub net_marked : (txns : ℕ → Txn) (t : ℕ) (m : Mark) (s : ℕ) → (set_txn txns t (record (txns t) { mark = m }) s).net ≡ (txns s).net
net_marked txns t m = by_txn (λ s y. y.net ≡ (txns s).net) txns t (record (txns t) { mark = m }) refl (λ s differ. refl)

not_pushed : (s t : ℕ) (queue : List ℕ) → is_among s (queue ++ t ∷ []) ≡ false → (is_among s queue ≡ false) × (s ≢ t)
not_pushed s t [] none = (refl, (among_other s t [] none).0)
not_pushed s t (q ∷ qs) none =
    let out = among_other s q (qs ++ t ∷ []) none in
    let rest = not_pushed s t qs out.1 in
    (by (cases_test (is_among s (q ∷ qs))) out.0 rest.0, rest.1)
  where
    by : (is_among s (q ∷ qs) ≡ true) ⊎ (is_among s (q ∷ qs) ≡ false) → s ≢ q → is_among s qs ≡ false → is_among s (q ∷ qs) ≡ false
    by (inr is) ne no_more = is
    by (inl is) ne no_more = neither (s == q) (is_among s qs) (ne_eqb s q ne) no_more

-- one that does not wait is set, to what does not wait; the others as they were
module _ (b : Base) (older longer : History) (v : View) (t : ℕ) (x : Txn) (seen : IsSeen b older v) (new : is_among t v.queue ≡ false) (own : x.net ≡ net t longer) (others : (u : ℕ) → u ≢ t → net u longer ≡ net u older) where
  nets_set : (u : ℕ) → is_among u v.queue ≡ false → (set_txn v.txns t x u).net ≡ net u longer
  nets_set = by_txn (λ u y. is_among u v.queue ≡ false → y.net ≡ net u longer) v.txns t x (λ none. own) (λ u differ none. seen.nets u none ∙ sym (others u differ))

  over_set : (u : ℕ) → is_among u v.queue ≡ true → net u longer ≡ []
  over_set u some = others u (not_it u t v.queue new some) ∙ seen.over u some

  all_set : committed longer ≡ committed older → committed longer ≡ seen.finished ++ nets_of (set_txn v.txns t x) v.queue
  all_set same = same ∙ seen.all ∙ ap (λ (es : List Effect). seen.finished ++ es) (sym (nets_else v.txns t x v.queue new))

tail_is : (c d : Change) (cs ds : Effect) → c ∷ cs ≡ d ∷ ds → cs ≡ ds
tail_is c d cs ds e = cc

pub together : LogAndViewGoTogether
together = record {
  stays = λ b older longer v seen on. record {
    finished = seen.finished;
    all = on.commits ∙ seen.all;
    answered = seen.answered;
    walk = seen.walk ∙ sym on.walk;
    nets = λ u none. seen.nets u none ∙ sym (on.nets u);
    over = λ u some. on.nets u ∙ seen.over u some;
  };
  reads = λ b older longer v t a ls seen new none on.
      let own : (did_txn (v.txns t) a v.walk ls).net ≡ net t longer = ap (λ (cs : Effect). cs ++ (v.txns t).net) none ∙ seen.nets t new ∙ sym (on.nets t) in
      record {
        finished = seen.finished;
        all = all_set b older longer v t (did_txn (v.txns t) a v.walk ls) seen new own (λ u differ. on.nets u) on.commits;
        answered = seen.answered;
        walk = ap (λ (cs : Effect). apply v.walk cs) none ∙ seen.walk ∙ sym on.walk;
        nets = nets_set b older longer v t (did_txn (v.txns t) a v.walk ls) seen new own (λ u differ. on.nets u);
        over = over_set b older longer v t (did_txn (v.txns t) a v.walk ls) seen new own (λ u differ. on.nets u);
      };
  adds = λ b older longer v t a c ls seen new one on.
      let own : (did_txn (v.txns t) a v.walk ls).net ≡ net t longer = ap (λ (cs : Effect). cs ++ (v.txns t).net) one ∙ ap (λ (cs : Effect). c ∷ cs) (seen.nets t new) ∙ sym on.own in
      record {
        finished = seen.finished;
        all = all_set b older longer v t (did_txn (v.txns t) a v.walk ls) seen new own on.others on.commits;
        answered = seen.answered;
        walk = ap (λ (cs : Effect). apply v.walk cs) one ∙ ap (λ (m : IndexMap). applied m c) seen.walk ∙ sym on.walk;
        nets = nets_set b older longer v t (did_txn (v.txns t) a v.walk ls) seen new own on.others;
        over = over_set b older longer v t (did_txn (v.txns t) a v.walk ls) seen new own on.others;
      };
  takes_back = λ b older longer v t c cs seen new is on.
      let own : cs ≡ net t longer = tail_is c c cs (net t longer) (sym is ∙ seen.nets t new ∙ on.own) in
      record {
        finished = seen.finished;
        all = all_set b older longer v t (record (v.txns t) { net = cs }) seen new own on.others on.commits;
        answered = seen.answered;
        walk = ap (λ (m : IndexMap). undone m c) seen.walk ∙ sym on.walk;
        nets = nets_set b older longer v t (record (v.txns t) { net = cs }) seen new own on.others;
        over = over_set b older longer v t (record (v.txns t) { net = cs }) seen new own on.others;
      };
  takes_last = λ b older longer v t c seen new is on.
      let own : [] ≡ net t longer = tail_is c c [] (net t longer) (sym is ∙ seen.nets t new ∙ on.own) in
      record {
        finished = seen.finished;
        all = all_set b older longer v t idle seen new own on.others on.commits;
        answered = seen.answered;
        walk = ap (λ (m : IndexMap). undone m c) seen.walk ∙ sym on.walk;
        nets = nets_set b older longer v t idle seen new own on.others;
        over = over_set b older longer v t idle seen new own on.others;
      };
  commits = λ b older longer v t seen alone on.
      let new : is_among t v.queue ≡ false = ap (is_among t) alone in
      let none : nets_of v.txns v.queue ≡ [] = ap (nets_of v.txns) alone in
      let now : committed older ≡ seen.finished = seen.all ∙ ap (λ (es : List Effect). seen.finished ++ es) none ∙ append-nil seen.finished in
      record {
        finished = committed longer;
        all = sym (append-nil (committed longer)) ∙ ap (λ (es : List Effect). committed longer ++ es) (sym (nets_else v.txns t idle v.queue new ∙ none));
        answered = ap (λ (cs : Effect). apply v.committed cs) (seen.nets t new) ∙ ap (λ (m : IndexMap). apply m (net t older)) (seen.answered ∙ ap (apply_all b.map) (sym now))
            ∙ sym (ap (apply_all b.map) on.commits ∙ apply_all_push b.map (committed older) (net t older));
        walk = seen.walk ∙ sym on.walk;
        nets = nets_set b older longer v t idle seen new (sym on.own) on.others;
        over = over_set b older longer v t idle seen new (sym on.own) on.others;
      };
  queues = λ b older longer v t seen new on. record {
    finished = seen.finished;
    all =
        on.commits
        ∙ ap (λ (es : List Effect). es ++ net t older ∷ []) seen.all
        ∙ append_assoc seen.finished (nets_of v.txns v.queue) (net t older ∷ [])
        ∙ ap (λ (e : Effect). seen.finished ++ (nets_of v.txns v.queue ++ e ∷ [])) (sym (seen.nets t new))
        ∙ ap (λ (es : List Effect). seen.finished ++ es) (sym (nets_append v.txns v.queue (t ∷ [])))
        ∙ ap (λ (es : List Effect). seen.finished ++ es) (sym (nets_kept v.txns (queued v t).txns (v.queue ++ t ∷ []) (λ s some. net_marked v.txns t Committing s)));
    answered = seen.answered;
    walk = seen.walk ∙ sym on.walk;
    nets = λ s none. let out = not_pushed s t v.queue none in net_marked v.txns t Committing s ∙ seen.nets s out.0 ∙ sym (on.others s out.1);
    over = λ s some. elim (cases_number s t) [
      | inl e ↦ ap (λ (n : ℕ). net n longer) e ∙ on.own
      | inr ne ↦ on.others s ne ∙ elim (among_pushed s t v.queue some) [ inl before ↦ seen.over s before | inr e ↦ absurd (ne e) ]
    ];
  };
  forces = λ b log v seen. record {
    finished = committed log;
    all = sym (append-nil (committed log));
    answered =
        ap (λ (m : IndexMap). apply_all m (nets_of v.txns v.queue)) seen.answered
        ∙ sym (apply_all_append b.map seen.finished (nets_of v.txns v.queue))
        ∙ ap (apply_all b.map) (sym seen.all);
    walk = seen.walk;
    nets = λ t none. elim (cases_test (is_among t v.queue)) [
      | inl some ↦ ap (λ (x : Txn). x.net) (idle_gone v.txns v.queue t some) ∙ sym (seen.over t some)
      | inr out ↦ ap (λ (x : Txn). x.net) (idle_others v.txns v.queue t out) ∙ seen.nets t out
    ];
    over = λ t some. absurd (cc some);
  };
}

-- a transaction that is marked has the net that it had
pub marked_seen : (b : Base) (log : History) (v : View) (t : ℕ) (m : Mark) → IsSeen b log v → IsSeen b log (marked v t m)
marked_seen b log v t m seen = record {
  finished = seen.finished;
  all = seen.all ∙ ap (λ (es : List Effect). seen.finished ++ es) (sym (nets_kept v.txns (marked v t m).txns v.queue (λ s some. net_marked v.txns t m s)));
  answered = seen.answered;
  walk = seen.walk;
  nets = λ u none. net_marked v.txns t m u ∙ seen.nets u none;
  over = seen.over;
}

-- one that has no net may be taken out, and so may its effect be committed
pub dropped_seen : (b : Base) (log : History) (v : View) (t : ℕ) → IsSeen b log v → is_among t v.queue ≡ false → net t log ≡ [] → IsSeen b log (dropped_by v t)
dropped_seen b log v t seen new none = record {
  finished = seen.finished;
  all = all_set b log log v t idle seen new (sym none) (λ u differ. refl) refl;
  answered = seen.answered;
  walk = seen.walk;
  nets = nets_set b log log v t idle seen new (sym none) (λ u differ. refl);
  over = over_set b log log v t idle seen new (sym none) (λ u differ. refl);
}

pub empty_seen : (b : Base) (log : History) (v : View) (t : ℕ) → IsSeen b log v → is_among t v.queue ≡ false → net t log ≡ [] → IsSeen b log (committed_by v t)
empty_seen b log v t seen new none = record {
  finished = seen.finished;
  all = all_set b log log v t idle seen new (sym none) (λ u differ. refl) refl;
  answered = ap (λ (cs : Effect). apply v.committed cs) (seen.nets t new ∙ none) ∙ seen.answered;
  walk = seen.walk;
  nets = nets_set b log log v t idle seen new (sym none) (λ u differ. refl);
  over = over_set b log log v t idle seen new (sym none) (λ u differ. refl);
}

-- one that begins has no net
pub begun_seen : (b : Base) (log : History) (v : View) → IsSeen b log v → is_among v.next v.queue ≡ false → net v.next log ≡ [] → IsSeen b log (begun v)
begun_seen b log v seen new none = record {
  finished = seen.finished;
  all = all_set b log log v v.next (record idle { mark = Going }) seen new (sym none) (λ u differ. refl) refl;
  answered = seen.answered;
  walk = seen.walk;
  nets = nets_set b log log v v.next (record idle { mark = Going }) seen new (sym none) (λ u differ. refl);
  over = over_set b log log v v.next (record idle { mark = Going }) seen new (sym none) (λ u differ. refl);
}
