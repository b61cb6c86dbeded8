use Rattle.std.proofs.Common.{◌≡◌, false, ◌∙◌}
use Rattle.im_base_mirror_disk.proofs.Copies.{front_on, beyond_as, followed_as, long_on}
use Rattle.im_base_mirror_disk.specs.Marks.{mark_of}
use Rattle.im_base_mirror_disk.proofs.mirrored.MirroredDisk.write_at.Goals as goal

pub invariant_of-self-2-clause-long : goal.invariant_of-self-2-clause-long
invariant_of-self-2-clause-long g c =
    let was = mark_of c.args.self.now.marks c.args.file in
    let beyond = beyond_as c.args.self.now.copy c.follow-mark.new.copy c.args.at c.follow-mark.result c.of.result was c.of.ensures c.follow-mark.ensures.beyond in
    let followed = followed_as g.T.Disk c.args.file c.args.at c.args.bytes.now c.args.self.now.copy c.follow-mark.new.copy c.follow-mark.result c.of.result was c.of.ensures c.follow-mark.ensures.followed in
    long_on g.T.Disk c.args.self.now.marks c.with.result c.args.file c.args.at c.args.bytes.now c.args.self.now.copy c.follow-mark.new.copy c.follow-mark.result
    c.follow-mark.ensures.none beyond followed c.with.ensures.here c.with.ensures.others c.args.self.now.long

pub invariant_of-self-2-clause-front : goal.invariant_of-self-2-clause-front
invariant_of-self-2-clause-front g c x is tells told working =
    let was = mark_of c.args.self.now.marks c.args.file in
    let beyond = beyond_as c.args.self.now.copy c.follow-mark.new.copy c.args.at c.follow-mark.result c.of.result was c.of.ensures c.follow-mark.ensures.beyond in
    let followed = followed_as g.T.Disk c.args.file c.args.at c.args.bytes.now c.args.self.now.copy c.follow-mark.new.copy c.follow-mark.result c.of.result was c.of.ensures c.follow-mark.ensures.followed in
    let alive : g.D.Disk.failed c.args.self.now.disk ≡ false = c.args.self.now.known ∙ c.if-lost.false in
    front_on g.T.Disk c.args.self.now.marks c.with.result c.args.file c.args.at c.args.bytes.now c.args.self.now.copy c.follow-mark.new.copy c.follow-mark.result
    c.follow-mark.ensures.none beyond followed c.with.ensures.here c.with.ensures.others c.args.self.now.long
    (g.D.Disk.seen c.args.self.now.disk) (g.D.Disk.seen c.write_at.new.self) (c.requires.place told) (c.in_ok-write_at.ensures.written told) c.write_at.ensures.others
    (λ s there tells_s. c.args.self.now.front s there tells_s told alive) x is tells
