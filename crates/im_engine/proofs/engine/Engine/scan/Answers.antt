use Rattle.std.proofs.Common.{refl}
use Rattle.im_base_types.specs.Answers as answers
use Rattle.im_base_steps.specs.declared.reply.Reply.TheVariants as replies
use Rattle.im_engine_access.specs.LockAnswers.{entries_found}
use Rattle.im_engine.proofs.Checked.{access_free}
use Rattle.im_engine.proofs.SteppedReading.{made_answered, made_otherwise, scan_most}
use Rattle.im_engine.proofs.engine.Engine.scan.Goals as goal

pub answered-requires-clause-free : goal.answered-requires-clause-free
answered-requires-clause-free g c = access_free c.args.self.now.txns.rows _ c.args.t (answers.Scan c.args.lo.now c.args.hi.now c.args.limit) c.requires.checked

pub returns-in-Ok : goal.returns-in-Ok
returns-in-Ok g c =
    let below = c.scan-came in
    made_answered g.D.Disk c.args.t (answers.Scan c.args.lo.now c.args.hi.now c.args.limit) refl c.args.self.now _ c.requires.works c.requires.checked c.beside_of.result c.beside_of.ensures c.in-Ok.ensures.under below.new.writer below.new.disk below.new.locks c.in-Ok.ensures.rest entries_found below.result
    (record { outcome = below.ensures.outcome; kept = below.ensures.kept; table = below.ensures.table; lasting = below.ensures.lasting; quiet = λ idle. (below.ensures.quiet idle.0 idle.1).disk }) c.in-Ok.ensures.failed c.in-Ok.ensures.table
    c.in-Ok.list c.in-Ok.ensures.answer (replies.Entries c.in-Ok.list) (record { stays = λ k. refl; late = refl; answered = refl; number = tt; suits = (refl, scan_most c.args.limit below.result c.in-Ok.list c.in-Ok.ensures.answer below.ensures.most); at_once = λ _. (refl, scan_most c.args.limit below.result c.in-Ok.list c.in-Ok.ensures.answer below.ensures.most); grouped = tt }) refl refl

pub returns-in-Err : goal.returns-in-Err
returns-in-Err g c =
    let below = c.scan-came in
    made_otherwise g.D.Disk c.args.t (answers.Scan c.args.lo.now c.args.hi.now c.args.limit) refl c.args.self.now _ c.requires.works c.requires.checked c.beside_of.result c.beside_of.ensures c.in-Err.ensures.under below.new.writer below.new.disk below.new.locks c.in-Err.ensures.rest entries_found below.result
    (record { outcome = below.ensures.outcome; kept = below.ensures.kept; table = below.ensures.table; lasting = below.ensures.lasting; quiet = λ idle. (below.ensures.quiet idle.0 idle.1).disk }) c.in-Err.ensures.failed c.in-Err.ensures.table
    (λ u f le left. g.met.D.Disk.counts_now c.answered.new.self.disk u f le left) c.in-Err.reply c.in-Err.ensures.answer
