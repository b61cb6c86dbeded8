use Rattle.im_page.proofs.HeaderLemmas.{empty_page}
use Rattle.im_page.proofs.header.make_empty.Goals as goal

pub returns-clause-form : goal.returns-clause-form
returns-clause-form c =
    (empty_page c.args.bytes.now c.erase.new.bytes c.put_header.new.bytes c.args.kind c.code.result c.args.level c.args.prev c.args.next c.args.leftmost
    c.requires.len c.erase.ensures c.put_header.ensures c.code.ensures.kind c.code.ensures.known c.requires.header).0

pub returns-clause-page : goal.returns-clause-page
returns-clause-page c =
    (empty_page c.args.bytes.now c.erase.new.bytes c.put_header.new.bytes c.args.kind c.code.result c.args.level c.args.prev c.args.next c.args.leftmost
    c.requires.len c.erase.ensures c.put_header.ensures c.code.ensures.kind c.code.ensures.known c.requires.header).1
