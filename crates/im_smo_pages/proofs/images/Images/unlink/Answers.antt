use Rattle.im_smo_pages.proofs.Becoming.{becomes_unlinked}
use Rattle.im_smo_pages.proofs.images.Images.unlink.Goals as goal

pub returns-clause-new : goal.returns-clause-new
returns-clause-new c =
    becomes_unlinked c.args.self.now c.link_next.new.self c.link_prev.new.self c.args.prev c.args.next c.in_ok-link_next.ensures.new c.in_ok-link_prev.ensures.new
