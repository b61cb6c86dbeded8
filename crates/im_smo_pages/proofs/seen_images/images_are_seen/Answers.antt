use Rattle.im_smo_pages.proofs.Seeing.{page_says, page_without, put_back}
use Rattle.im_smo_pages.proofs.seen_images.images_are_seen.Goals as goal

pub returns-clause-page : goal.returns-clause-page
returns-clause-page c = page_says

pub returns-clause-others : goal.returns-clause-others
returns-clause-others c s images n m up other = page_without s n m images up other

pub returns-clause-put : goal.returns-clause-put
returns-clause-put c = put_back
