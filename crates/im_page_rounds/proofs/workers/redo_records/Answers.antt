use Rattle.std.proofs.Common.{◌<◌, ℕ, subst}
use Rattle.im_page_rounds.specs.declared.worker.Worker.{Worker}
use Rattle.im_page_rounds.proofs.Places.{item_at}
use Rattle.im_page_rounds.proofs.Together.{at_most_all, dealt_of, round_of}
use Rattle.im_page_rounds.proofs.workers.redo_records.Goals as goal

pub returns-clause-redone : goal.returns-clause-redone
returns-clause-redone g c rs pages changed stand these =
    let numbers = c.args.numbers.now in
    let old = c.args.workers.now in
    let all = c.work_all.ensures in
    round_of c.args.from c.args.span.now c.args.lsns.now numbers rs pages changed old c.work_all.new.workers c.requires.some stand all.room.count
    (λ k w lt. all.redone k w rs pages changed lt stand (dealt_of numbers old pages changed these k w)) c.count_of.result c.count_of.ensures.all c.count_of.ensures.count

pub returns-clause-taken : goal.returns-clause-taken
returns-clause-taken g c rs pages changed stand these among takes =
    let old = c.args.workers.now in
    let all = c.work_all.ensures in
    c.count_of.ensures.taken (λ k w lt. all.taken k w rs pages changed (subst (λ (n : ℕ). k < n) all.room.count lt) stand (dealt_of c.args.numbers.now old pages changed these k w) among takes)

pub returns-clause-few : goal.returns-clause-few
returns-clause-few g c =
    let all = c.work_all.ensures in
    let w : Worker = item_at c.args.workers.now 0 c.requires.some in
    at_most_all c.work_all.new.workers w c.args.lsns.now c.count_of.result (c.count_of.ensures.count w)
