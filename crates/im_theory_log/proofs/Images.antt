-- Images that join a log, as evictions append them, change nothing of it that is asked above.
use Rattle.std.proofs.Common.{◌≡◌, ◌≢◌, ℕ, [], ◌∷◌, ◌++◌, true, false, refl, sym, ◌∙◌, ap, subst}
use Rattle.std.specs.Prelude.{◌==◌}
use Rattle.std.proofs.lemmas.Bool.{ne_eqb, cond-false}
use Rattle.im_theory_log.specs.Copies.{AreImages, IsImage}
use Rattle.im_theory_log.specs.Histories.{Base, History, page_after, page_at}
use Rattle.im_theory_log.specs.Lawful.{Follows, IsLawful, MayCome, has_owner}
use Rattle.im_base_types.specs.Records.{Logged, What}
use Rattle.im_theory_log.specs.Structure.{open_after, open_smo}
use Rattle.im_theory_log.specs.Transactions.{committed, committed_after, contents, contents_after, last_of, net, stack_after, to_undo, undo_from, undo_next_of}
use Rattle.im_theory_log.specs.Tree.{Tree}
use Rattle.im_theory_log.proofs.Appends.{append_image}
use Rattle.im_theory_log.proofs.Histories.{page_same}

image_follows : (b : Base) (tree : Tree) (r : Logged) (older : History) → IsImage b r older → Follows b tree r older
image_follows b tree r older image = record {
  rises = image.rises;
  chained = λ owned. absurd (let t : false ≡ true = sym (ap has_owner image.what) ∙ owned in cc t);
  may = subst (λ (w : What). MayCome b tree r older w) (sym image.what) (record { no_owner = image.no_owner; exact = image.exact; named = image.named });
}

pub lawful_images : (b : Base) (tree : Tree) (images older : History) → AreImages b images older → IsLawful b tree older → IsLawful b tree (images ++ older)
lawful_images b tree [] older all law = law
lawful_images b tree (r ∷ images) older all law =
    append_image b tree (images ++ older) r (lawful_images b tree images older all.1 law) (image_follows b tree r (images ++ older) all.0) all.0.copy all.0.what

pub images_to_undo : (b : Base) (t : ℕ) (images older : History) → t ≢ 0 → AreImages b images older → to_undo t (images ++ older) ≡ to_undo t older
images_to_undo b t [] older some all = refl
images_to_undo b t (r ∷ images) older some all =
    cond-false (r.txn == t) (stack_after r r.what (to_undo t (images ++ older))) (to_undo t (images ++ older)) (ne_eqb r.txn t (λ e. some (sym e ∙ all.0.no_owner)))
    ∙ images_to_undo b t images older some all.1

pub images_last : (b : Base) (t : ℕ) (images older : History) → t ≢ 0 → AreImages b images older → last_of t (images ++ older) ≡ last_of t older
images_last b t [] older some all = refl
images_last b t (r ∷ images) older some all = cond-false (r.txn == t) r.lsn (last_of t (images ++ older)) (ne_eqb r.txn t (λ e. some (sym e ∙ all.0.no_owner))) ∙ images_last b t images older some all.1

pub images_undo_next : (b : Base) (t : ℕ) (images older : History) → t ≢ 0 → AreImages b images older → undo_next_of t (images ++ older) ≡ undo_next_of t older
images_undo_next b t [] older some all = refl
images_undo_next b t (r ∷ images) older some all = cond-false (r.txn == t) (undo_from r r.what) (undo_next_of t (images ++ older)) (ne_eqb r.txn t (λ e. some (sym e ∙ all.0.no_owner))) ∙ images_undo_next b t images older some all.1

pub images_open : (b : Base) (images older : History) → AreImages b images older → open_smo (images ++ older) ≡ open_smo older
images_open b [] older all = refl
images_open b (r ∷ images) older all = ap (λ (w : What). open_after r w (open_smo (images ++ older))) all.0.what ∙ images_open b images older all.1

pub images_committed : (b : Base) (images older : History) → AreImages b images older → committed (images ++ older) ≡ committed older
images_committed b [] older all = refl
images_committed b (r ∷ images) older all = ap (λ (w : What). committed_after w (net r.txn (images ++ older)) (committed (images ++ older))) all.0.what ∙ images_committed b images older all.1

pub images_contents : (b : Base) (images older : History) → AreImages b images older → contents b (images ++ older) ≡ contents b older
images_contents b [] older all = refl
images_contents b (r ∷ images) older all = ap (λ (w : What). contents_after w (contents b (images ++ older))) all.0.what ∙ images_contents b images older all.1

pub images_pages : (b : Base) (images older : History) (p : ℕ) → AreImages b images older → page_at b (images ++ older) p ≡ page_at b older p
images_pages b [] older p all = refl
images_pages b (r ∷ images) older p all = page_same b r (images ++ older) (λ g. ap (λ (w : What). page_after r.lsn w g) all.0.what) p ∙ images_pages b images older p all.1
