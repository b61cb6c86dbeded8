-- `im_init` meets its contract: what `blank` makes is written into the room at the pointer.
use Rattle.im_capi.proofs.Steps.{◌≡◌, [], ◌∷◌, ◌++◌, refl, proved, full_share, id⊢, ftrue, vunit, tables, ‵, raw, ◌⊛◌, some, later, prop, fact, ◌$◌, ◌∵◌, !, qed, done, move, keep, drop, use1, use2, split, join, fpack, feq_i, pick, await, regoal, suffices, group, enter, of_opd, unit_lit, init, stop, no_more, and_then, assigns, returns, alloc_all, pass_all, free_all, look_at, get, through, sets, lands_as, shows, yes, Ptr, RawPtr, block_ptr, lies_at, in_a_block, rawptr_vals, rawptr_Tells, plain, nothing, heard, peeks, calls_at, lasts, triple_of, Stays, walk_of, stay_dropped, Goes-dropped, ends_at, framed}
use base.Fml.{fex}
use Rattle.std.specs.Prelude.{None}
use prog.Wp.{WpFn}
use denote.Laws.{Is}
use denote.Struct.Laws as laws
use denote.Struct.Loose.{loose_lawful}
use borrow.Table.OneValue.{part_in}
use Rattle.std.specs.contracts.alloc.Global as Gl
use Rattle.std.proofs.alloc.Global.TheLaws as gl
use Rattle.im_capi.specs.Pointers.{room_for_store}
use Rattle.im_calls.specs.contracts.session.Session as P'
use Rattle.im_calls.proofs.session.Session.TheLaws as pot
use Rattle.im_capi.specs.contracts.im_init as f
use Rattle.im_capi.proofs.im_init.Statement.{statement}
use Rattle.im_capi.proofs.im_init.Code as code
use Rattle.im_calls.specs.contracts.session.blank as g
use Rattle.im_calls.proofs.session.blank.Met.{met}

abbrev stayed : Stays f.ended.signature.params f.ended.kept
stayed = (stay_dropped _ yes, (stay_dropped _ yes, tt))

pub im_init_spec : {M : Type 1} → statement M
im_init_spec 𝓤 𝓛 𝓜 𝓡 wired =
    let P = P'.the_row in
    let c = f.clauses 𝓛 𝓜.mem 𝓡.returns in let W = walk_of 𝓛 f.ended stayed c in let 𝓣 = tables 𝓤 𝓛.H 𝓜 𝓡 𝓡.env in
    let G = triple_of 𝓛 g.signature (g.spec 𝓛 𝓜.mem 𝓡.returns) in
    let vals = laws.vals Gl.the_type gl.the_laws in
    proved 𝓛 f.ended stayed c 𝓜 𝓡 (Goes-dropped 𝓛 0 (plain (λ _. Gl.the_row)) yes (λ κs x w. refl), (Goes-dropped 𝓛 0 (plain (λ _. RawPtr)) yes (λ κs x w. refl), tt))
    f.Key.name code.function (code.unfolded 𝓤 𝓛.H 𝓜 𝓡 wired)
    (λ κs. (vals, (rawptr_vals, tt))) (λ κs. (laws.tells Gl.the_type gl.the_laws, (rawptr_Tells, tt))) (λ κs qs bounds a t are.
    let y : Ptr → W.Ghost = λ p. ((κs, qs, bounds, (a.0, (p, tt)), (vals a.0, (rawptr_vals p, tt))), t) in
    let fits = ((loose_lawful Gl.the_type gl.the_loose 𝓛).typed a.0 _ are.0).0 in
    qed 𝓛 ((‵ ftrue ⊛ ‵ (Gl.the_row.own_val a.0 (vals a.0)) ⊛ ‵ (RawPtr.own_val a.1.0 (rawptr_vals a.1.0)) ⊛ ‵ ftrue) ∷ ‵ (room_for_store a.1.0) ∷ []) ∵
    split ! $ drop ! $ split ! $ move ! (2 ∷ 0 ∷ []) $
    in_a_block ! a.1.0 (λ p. room_for_store p) (id⊢ 𝓤 _) (λ b o e.
    regoal ! (λ p. prop (WpFn 𝓤 𝓛.H 𝓣.C 𝓣.Λ code.function (vals a.0 ++ (rawptr_vals p ++ [])) (W.post (y p)))) e refl $ move ! (1 ∷ 0 ∷ []) $ keep ! (0 ∷ 1 ∷ []) $
    -- [the allocator; the room]
    enter ! _ _ _ _ _ $ alloc_all ! (λ l. pass_all ! refl (fits, ((tt, tt), tt)) $
    sets ! (of_opd ! (get ! refl)) refl (tt, tt) $
    let z : G.Ghost = ((tt, tt, tt, (a.0, tt), (vals a.0, tt)), tt) in
    nothing ! $ move ! (1 ∷ 0 ∷ []) $ join ! $ nothing ! $ join ! $ nothing ! $ move ! (1 ∷ 0 ∷ []) $ use2 𝓛 (raw (G.pre z)) (id⊢ 𝓤 _) $
    calls_at ! (framed 𝓤 𝓛.H 𝓜 𝓣) G (met 𝓤 𝓛 𝓜 𝓡 (code.calls-im_calls::session::blank 𝓡.env wired)) z (and_then ! (get ! refl) (no_more !)) (λ v.
    use1 𝓛 (later (some (λ (r : P.Denot). (‵ ftrue ⊛ ‵ (P.own_val r (v ∷ []))) ⊛ some (λ (ws : Unit {0} × Unit {0}). ‵ (lasts g.ended z.0.0 z.0.3 ws) ⊛ raw (fact 𝓤 ((r.store ≡ None) × (r.load ≡ None))))))) (id⊢ 𝓤 _) $
    await ! tt $ pick ! (λ r. split ! $ split ! $ drop ! $ move ! (1 ∷ []) $ pick ! (λ ws. split ! $ drop ! $ heard ! ((r.store ≡ None) × (r.load ≡ None)) (λ is_blank.
    -- [what the store owns; the room]
    peeks ! P (Is P) (shows 𝓛 P) r (v ∷ []) (λ is. let good = ((loose_lawful P'.the_type pot.the_loose 𝓛).typed r _ is).0 in
    lands_as ! refl refl good $
    assigns ! (of_opd ! (get ! refl)) (through ! refl (stop !)) (init ! 1 refl good) $
    sets ! (of_opd ! (unit_lit !)) refl (tt, tt) $ returns ! (look_at ! 0 refl) $ free_all ! refl $ move ! (1 ∷ 0 ∷ []) $
    use2 𝓛 (‵ (lies_at P full_share (block_ptr b o) r)) (part_in 𝓛 P refl full_share r b o v) $ keep ! (0 ∷ []) $
    fpack ! ((r.store ≡ None) × (r.load ≡ None)) (λ _. lies_at P full_share (block_ptr b o) r) is_blank $
    fpack ! P.Denot (λ x. fex ((x.store ≡ None) × (x.load ≡ None)) (λ _. lies_at P full_share (block_ptr b o) x)) r $
    suffices ! _ (ends_at 𝓛 f.ended stayed c (y (block_ptr b o)) vunit tt (tt, (tt, tt)) (tt, (tt, tt))) $
    feq_i ! _ (vunit ∷ []) _ refl $ nothing ! $ nothing ! $ join ! $ nothing ! $ join ! $ nothing ! $ group ! 3 $ done !))))))))
