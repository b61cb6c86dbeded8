use Rattle.std.proofs.Common.{◌≡◌, ◌≤◌, ℕ, false, Some, length, sym, ◌∙◌, ap, subst}
use Rattle.im_base_disk.specs.Disk.{Files, Holds}
use Rattle.im_base_mirror_disk.proofs.Copies.{front_on, before, beyond_as, followed_as, long_on}
use Rattle.im_base_mirror_disk.proofs.Fronts.{holds_same}
use Rattle.im_base_mirror_disk.specs.Copies.{IsFront}
use Rattle.im_base_mirror_disk.specs.Marks.{mark_of}
use Rattle.im_base_mirror_disk.proofs.mirrored.Mirrored.piece.Goals as goal

pub invariant_of-self-2-clause-long : goal.invariant_of-self-2-clause-long
invariant_of-self-2-clause-long g c =
    let was = mark_of c.args.self.now.marks c.args.file in
    let old = c.args.self.now.copy in
    let new = c.follow-now.new.copy in
    let bytes = c.read.new.buf in
    let beyond = beyond_as old new c.of-mark.result c.follow-now.result c.of-mark.result was c.of-mark.ensures c.follow-now.ensures.beyond in
    let followed = followed_as g.T.Disk c.args.file c.of-mark.result bytes old new c.follow-now.result c.of-mark.result was c.of-mark.ensures c.follow-now.ensures.followed in
    long_on g.T.Disk c.args.self.now.marks c.with.result c.args.file c.of-mark.result bytes old new c.follow-now.result
    c.follow-now.ensures.none beyond followed c.with.ensures.here c.with.ensures.others c.args.self.now.long

pub invariant_of-self-2-clause-front : goal.invariant_of-self-2-clause-front
invariant_of-self-2-clause-front g c x is tells told working =
    let was = mark_of c.args.self.now.marks c.args.file in
    let old = c.args.self.now.copy in
    let new = c.follow-now.new.copy in
    let bytes = c.read.new.buf in
    let beyond = beyond_as old new c.of-mark.result c.follow-now.result c.of-mark.result was c.of-mark.ensures c.follow-now.ensures.beyond in
    let followed = followed_as g.T.Disk c.args.file c.of-mark.result bytes old new c.follow-now.result c.of-mark.result was c.of-mark.ensures c.follow-now.ensures.followed in
    let alive : g.D.Disk.failed c.args.self.now.disk ≡ false = c.args.self.now.known ∙ c.if-lost.false in
    let from : Files = g.D.Disk.seen c.len.new.self in
    let after : Files = g.D.Disk.seen c.read.new.self in
    let first : from ≡ g.D.Disk.seen c.args.self.now.disk = c.len.ensures.reads.seen in
    let then : after ≡ from = c.read.ensures.reads.seen in
    let front : (s : g.row.T.Denot) → old ≡ Some s → g.T.Disk.tells → IsFront c.args.self.now.marks from (g.T.Disk.seen s) =
    λ s there tells_s. subst (λ (f : Files). IsFront c.args.self.now.marks f (g.T.Disk.seen s)) (sym first) (c.args.self.now.front s there tells_s told alive) in
    let (s, there) = before g.T.Disk c.args.self.now.marks c.with.result c.args.file c.of-mark.result bytes old new c.follow-now.result
    c.follow-now.ensures.none beyond followed c.with.ensures.here c.with.ensures.others c.args.self.now.long x is in
    let place : c.of-mark.result ≤ length (from c.args.file) = subst (λ (m : ℕ). m ≤ length (from c.args.file)) (sym c.of-mark.ensures) ((front s there tells).0 c.args.file) in
    let holds : Holds c.of-mark.result bytes (from c.args.file) (after c.args.file) =
    ap (λ (f : Files). f c.args.file) then ∙ holds_same c.of-mark.result _ bytes (from c.args.file) place (c.in_ok-read.ensures.read told) in
    front_on g.T.Disk c.args.self.now.marks c.with.result c.args.file c.of-mark.result bytes old new c.follow-now.result
    c.follow-now.ensures.none beyond followed c.with.ensures.here c.with.ensures.others c.args.self.now.long
    from after place holds (λ other differ. ap (λ (f : Files). f other) then) front x is tells
