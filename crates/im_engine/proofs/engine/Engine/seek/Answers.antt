use Rattle.std.proofs.Common.{refl, ap}
use Rattle.im_base_steps.specs.declared.reply.Reply.TheVariants as replies
use Rattle.im_engine_access.specs.LockAnswers.{entry_found, seek_at}
use Rattle.im_engine.proofs.Causes.{seeks_read}
use Rattle.im_engine.proofs.Checked.{access_free}
use Rattle.im_engine.proofs.SteppedReading.{made_answered, made_otherwise, seeks_idle, seeks_search}
use Rattle.im_engine.proofs.engine.Engine.seek.Goals as goal

pub answered-requires-clause-free : goal.answered-requires-clause-free
answered-requires-clause-free g c = access_free c.args.self.now.txns.rows _ c.args.t (seek_at c.args.inclusive c.args.key.now) c.requires.checked

pub returns-in-Ok-Some : goal.returns-in-Ok-Some
returns-in-Ok-Some g c =
    let below = c.seek-came in
    made_answered g.D.Disk c.args.t (seek_at c.args.inclusive c.args.key.now) (seeks_read c.args.inclusive c.args.key.now) c.args.self.now _ c.requires.works c.requires.checked c.beside_of.result c.beside_of.ensures c.in-Ok-Some.ensures.under below.new.writer below.new.disk below.new.locks c.in-Ok-Some.ensures.rest entry_found below.result
    (record { outcome = below.ensures.outcome; kept = below.ensures.kept; table = below.ensures.table; lasting = below.ensures.lasting; quiet = λ idle. let on = seeks_idle g.D.Disk c.args.t c.args.inclusive c.args.key.now c.args.self.now idle in (below.ensures.quiet on.0 (c.args.self.now.working c.requires.works) on.1).disk }) c.in-Ok-Some.ensures.failed c.in-Ok-Some.ensures.table
    c.in-Ok-Some.field-0 c.in-Ok-Some.ensures.answer (replies.Entry c.in-Ok-Some.key c.in-Ok-Some.rid) (record { stays = λ k. refl; late = refl; answered = refl; number = tt; suits = seeks_search c.args.t c.args.inclusive c.args.key.now; at_once = λ _. seeks_search c.args.t c.args.inclusive c.args.key.now; grouped = tt }) (ap entry_found c.in-Ok-Some.field-0-is) refl

pub returns-in-Ok-None : goal.returns-in-Ok-None
returns-in-Ok-None g c =
    let below = c.seek-came in
    made_answered g.D.Disk c.args.t (seek_at c.args.inclusive c.args.key.now) (seeks_read c.args.inclusive c.args.key.now) c.args.self.now _ c.requires.works c.requires.checked c.beside_of.result c.beside_of.ensures c.in-Ok-None.ensures.under below.new.writer below.new.disk below.new.locks c.in-Ok-None.ensures.rest entry_found below.result
    (record { outcome = below.ensures.outcome; kept = below.ensures.kept; table = below.ensures.table; lasting = below.ensures.lasting; quiet = λ idle. let on = seeks_idle g.D.Disk c.args.t c.args.inclusive c.args.key.now c.args.self.now idle in (below.ensures.quiet on.0 (c.args.self.now.working c.requires.works) on.1).disk }) c.in-Ok-None.ensures.failed c.in-Ok-None.ensures.table
    c.in-Ok-None.field-0 c.in-Ok-None.ensures.answer replies.End (record { stays = λ k. refl; late = refl; answered = refl; number = tt; suits = seeks_search c.args.t c.args.inclusive c.args.key.now; at_once = λ _. seeks_search c.args.t c.args.inclusive c.args.key.now; grouped = tt }) (ap entry_found c.in-Ok-None.field-0-is) refl

pub returns-in-Err : goal.returns-in-Err
returns-in-Err g c =
    let below = c.seek-came in
    made_otherwise g.D.Disk c.args.t (seek_at c.args.inclusive c.args.key.now) (seeks_read c.args.inclusive c.args.key.now) c.args.self.now _ c.requires.works c.requires.checked c.beside_of.result c.beside_of.ensures c.in-Err.ensures.under below.new.writer below.new.disk below.new.locks c.in-Err.ensures.rest entry_found below.result
    (record { outcome = below.ensures.outcome; kept = below.ensures.kept; table = below.ensures.table; lasting = below.ensures.lasting; quiet = λ idle. let on = seeks_idle g.D.Disk c.args.t c.args.inclusive c.args.key.now c.args.self.now idle in (below.ensures.quiet on.0 (c.args.self.now.working c.requires.works) on.1).disk }) c.in-Err.ensures.failed c.in-Err.ensures.table
    (λ u f le left. g.met.D.Disk.counts_now c.answered.new.self.disk u f le left) c.in-Err.reply c.in-Err.ensures.answer
