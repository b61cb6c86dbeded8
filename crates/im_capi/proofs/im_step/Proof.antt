-- `im_step` meets its contract: what lies at each pointer is lent for the call of `made`, and taken back after it, with what `made` says of both.
use Rattle.im_capi.proofs.Steps.{ℕ, [], ◌∷◌, ◌++◌, refl, ap, MutBor, proved, full_share, id⊢, ftrue, flft, flent, named, vunit, vptr, tables, ‵, raw, ◌⊛◌, some, later, prop, fact, ◌$◌, ◌∵◌, !, qed, done, move, keep, drop, use1, use2, use3, split, join, fsplit, fjoin, fpack, feq_i, feq_l, pick, await, regoal, suffices, group, enter, of_opd, unit_lit, addr, stop, no_more, and_then, returns, alloc_all, pass_all, free_all, look_at, get, through, sets, lands_as, lft_new, lft_end, Body, unit, yes, mem, heard, lends_ref, ref_back, Ptr, RawPtr, block_ptr, lies_at, in_a_block, rawptr_vals, rawptr_Tells, MutRef, plain, nothing, only, calls_at, lasts, on_entry, triple_of, Stays, walk_of, stay_dropped, Goes-dropped, ends_at, framed}
use base.Fml.{fex, fsep}
use prog.Wp.{WpFn}
use Rattle.im_capi.specs.Pointers.{store_at, call_at}
use Rattle.im_calls.specs.Made.{Makes}
use Rattle.im_calls.specs.contracts.session.Session.{the_row as P}
use Rattle.im_calls.specs.contracts.call.Call.{the_row as K}
use Rattle.im_capi.specs.contracts.im_step as f
use Rattle.im_capi.proofs.im_step.Statement.{statement}
use Rattle.im_capi.proofs.im_step.Code as code
use Rattle.im_calls.specs.contracts.session.made as g
use Rattle.im_calls.proofs.session.made.Met.{met}

abbrev stayed : Stays f.ended.signature.params f.ended.kept
stayed = (stay_dropped _ yes, (stay_dropped _ yes, tt))

pub im_step_spec : {M : Type 1} → statement M
im_step_spec 𝓤 𝓛 𝓜 𝓡 wired =
    let c = f.clauses 𝓛 𝓜.mem 𝓡.returns in let W = walk_of 𝓛 f.ended stayed c in let 𝓣 = tables 𝓤 𝓛.H 𝓜 𝓡 𝓡.env in
    let goes = Goes-dropped 𝓛 0 (plain (λ _. RawPtr)) yes (λ κs x w. refl) in
    let G = triple_of 𝓛 g.signature (g.spec 𝓛 𝓜.mem 𝓡.returns) in
    proved 𝓛 f.ended stayed c 𝓜 𝓡 (goes, (goes, tt))
    f.Key.name code.function (code.unfolded 𝓤 𝓛.H 𝓜 𝓡 wired)
    (λ κs. (rawptr_vals, (rawptr_vals, tt))) (λ κs. (rawptr_Tells, (rawptr_Tells, tt))) (λ κs qs bounds a t are.
    let y : Ptr → Ptr → W.Ghost = λ p r. ((κs, qs, bounds, (p, (r, tt)), (rawptr_vals p, (rawptr_vals r, tt))), t) in
    qed 𝓛 (raw (on_entry 𝓛 f.signature κs qs a (y a.0 a.1.0).0.4) ∷ (‵ (store_at a.0 t) ⊛ ‵ (call_at a.1.0 t)) ∷ []) ∵ drop ! $ split ! $
    let store : P.Denot = t.0 in let call : K.Denot = t.1 in
    in_a_block ! a.0 (λ p. lies_at P full_share p store) (id⊢ 𝓤 _) (λ b o e.
    regoal ! (λ p. prop (WpFn 𝓤 𝓛.H 𝓣.C 𝓣.Λ code.function (rawptr_vals p ++ (rawptr_vals a.1.0 ++ [])) (W.post (y p a.1.0)))) e refl $
    move ! (1 ∷ []) $ in_a_block ! a.1.0 (λ p. lies_at K full_share p call) (id⊢ 𝓤 _) (λ b' o' e'.
    regoal ! (λ r. prop (WpFn 𝓤 𝓛.H 𝓣.C 𝓣.Λ code.function (rawptr_vals (block_ptr b o) ++ (rawptr_vals r ++ [])) (W.post (y (block_ptr b o) r)))) e' refl $
    enter ! _ _ _ _ _ $ alloc_all ! (λ l. pass_all ! refl ((tt, tt), ((tt, tt), tt)) $
    -- [the call; the store; the locals]
    sets ! (of_opd ! (get ! refl)) refl (tt, tt) $
    sets ! (addr ! (through ! refl (stop !))) refl (tt, tt) $
    sets ! (addr ! (through ! refl (stop !))) refl (tt, tt) $
    lft_new ! tt (λ β. move ! (1 ∷ []) $
    use1 𝓛 (later (some (λ (δ : ℕ). ‵ ((MutRef (named 0) (β ∷ []) K).own_val (record { ref_ptr = (b', o'); ghost_name = δ; now = call }) (vptr b' o' ∷ [])) ⊛ ‵ (flent (β ∷ []) (Body (mem K) b' o' δ)))))
    (lends_ref 𝓛 K (named 0) (β ∷ []) call b' o') $ await ! tt $ pick ! (λ δ'. split ! $
    -- [the call's loan; what is lent of it; its token; the store]
    lft_new ! tt (λ α. move ! (4 ∷ []) $
    use1 𝓛 (later (some (λ (δ : ℕ). ‵ ((MutRef (named 0) (α ∷ []) P).own_val (record { ref_ptr = (b, o); ghost_name = δ; now = store }) (vptr b o ∷ [])) ⊛ ‵ (flent (α ∷ []) (Body (mem P) b o δ)))))
    (lends_ref 𝓛 P (named 0) (α ∷ []) store b o) $ await ! tt $ pick ! (λ δ. split ! $
    -- [the store's loan; what is lent of it; its token; the call's loan; what is lent of it; its token]
    let store_ref : MutBor P.Denot = record { ref_ptr = (b, o); ghost_name = δ; now = store } in
    let call_ref : MutBor K.Denot = record { ref_ptr = (b', o'); ghost_name = δ'; now = call } in
    let z : G.Ghost = (((α ∷ [], (β ∷ [], tt)), (full_share, (full_share, tt)), tt, (store_ref, (call_ref, tt)), (vptr b o ∷ [], (vptr b' o' ∷ [], tt))), tt) in
    nothing ! $ move ! (4 ∷ 0 ∷ []) $ join ! $ move ! (1 ∷ 0 ∷ []) $ join ! $
    -- [what the arguments own; what is lent of the store; its token; what is lent of the call; its token]
    nothing ! $ move ! (5 ∷ 0 ∷ []) $ join ! $ move ! (3 ∷ 0 ∷ []) $ join ! $ join ! $
    nothing ! $ move ! (1 ∷ 0 ∷ []) $ use2 𝓛 (raw (G.pre z)) (id⊢ 𝓤 _) $
    calls_at ! (framed 𝓤 𝓛.H 𝓜 𝓣) G (met 𝓤 𝓛 𝓜 𝓡 (code.calls-im_calls::session::made 𝓡.env wired)) z
    (and_then ! (get ! refl) (and_then ! (get ! refl) (no_more !))) (λ v.
    use1 𝓛 (later (some (λ (u : Unit {0}). ((‵ (flft (α ∷ []) full_share) ⊛ ‵ (flft (β ∷ []) full_share) ⊛ ‵ ftrue) ⊛ ‵ (unit.own_val u (v ∷ []))) ⊛
    some (λ (ws : P.Denot × (K.Denot × Unit {0})). ‵ (lasts g.ended z.0.0 z.0.3 ws) ⊛ (raw (fact 𝓤 _) ⊛ raw (fact 𝓤 _) ⊛ raw (fact 𝓤 _) ⊛ raw (fact 𝓤 _) ⊛ raw (fact 𝓤 _) ⊛ raw (fact 𝓤 _) ⊛ raw (fact 𝓤 _) ⊛ raw (fact 𝓤 _) ⊛ raw (fact 𝓤 _) ⊛ raw (fact 𝓤 _) ⊛ raw (fact 𝓤 _) ⊛ raw (fact 𝓤 _) ⊛ raw (fact 𝓤 _) ⊛ raw (fact 𝓤 _)))))) (id⊢ 𝓤 _) $
    await ! tt $ pick ! (λ u. split ! $ split ! $ split ! $ lft_end ! tt $ move ! (1 ∷ []) $ split ! $ lft_end ! tt $
    move ! (3 ∷ []) $ feq_l ! (λ is_unit. lands_as ! (ap only is_unit) refl (tt, tt) $
    -- [the call's lifetime is over; nothing; the store's is; the last values; what is lent of the store; and of the call]
    move ! (3 ∷ []) $ pick ! (λ ws. split ! $ move ! (1 ∷ []) $
    split ! $ heard ! _ (λ f0. split ! $ heard ! _ (λ f1. split ! $ heard ! _ (λ f2. split ! $ heard ! _ (λ f3. split ! $ heard ! _ (λ f4. split ! $ heard ! _ (λ f5. split ! $ heard ! _ (λ f6. split ! $ heard ! _ (λ f7. split ! $ heard ! _ (λ f8. split ! $ heard ! _ (λ f9. split ! $ heard ! _ (λ f10. split ! $ heard ! _ (λ f11. split ! $ heard ! _ (λ f12. heard ! _ (λ f13.
    nothing ! $ move ! (1 ∷ []) $ fsplit ! $ fsplit ! $ move ! (2 ∷ []) $ fsplit ! $ fsplit ! $
    move ! (6 ∷ 10 ∷ 0 ∷ []) $ use3 𝓛 (later (‵ (lies_at K full_share (block_ptr b' o') ws.1.0))) (ref_back 𝓛 K (β ∷ []) δ' ws.1.0 b' o') $ await ! tt $
    move ! (7 ∷ 8 ∷ 3 ∷ []) $ use3 𝓛 (later (‵ (lies_at P full_share (block_ptr b o) ws.0))) (ref_back 𝓛 P (α ∷ []) δ ws.0 b o) $ await ! tt $
    sets ! (of_opd ! (unit_lit !)) refl (tt, tt) $ returns ! (look_at ! 0 refl) $ free_all ! refl $ keep ! (0 ∷ 1 ∷ []) $
    let left : P.Denot = ws.0 in let told : K.Denot = ws.1.0 in
    fjoin ! $
    fpack ! (Makes call told store left) (λ _. fsep (lies_at P full_share (block_ptr b o) left) (lies_at K full_share (block_ptr b' o') told)) (record { question = f0; closed = f1; ended = f2; stat = f3; shown = f4; left = f5; begun = f6; copied = f7; whole = f8; served = f9; loads = f10; beside = f11; apart = f12; over = f13 }) $
    fpack ! K.Denot (λ c. fex (Makes call c store left) (λ _. fsep (lies_at P full_share (block_ptr b o) left) (lies_at K full_share (block_ptr b' o') c))) told $
    fpack ! P.Denot (λ s. fex K.Denot (λ c. fex (Makes call c store s) (λ _. fsep (lies_at P full_share (block_ptr b o) s) (lies_at K full_share (block_ptr b' o') c)))) left $
    suffices ! _ (ends_at 𝓛 f.ended stayed c (y (block_ptr b o) (block_ptr b' o')) vunit tt (tt, (tt, tt)) (tt, (tt, tt))) $
    feq_i ! _ (vunit ∷ []) _ refl $ nothing ! $ nothing ! $ join ! $ nothing ! $ join ! $ nothing ! $ group ! 3 $ done !))))))))))))))))))))))))))
