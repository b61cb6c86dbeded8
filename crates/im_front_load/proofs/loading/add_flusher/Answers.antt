use Rattle.im_front_load.proofs.loading.add_flusher.Goals as goal

pub returns-clause-more : goal.returns-clause-more
returns-clause-more g c = λ txns. c.in_ok-add.ensures.more txns c.args.args.now.flush
