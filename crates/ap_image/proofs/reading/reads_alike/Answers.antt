use Rattle.ap_image.proofs.Alike.{images-alike}
use Rattle.ap_image.proofs.reading.reads_alike.Goals as goal

pub returns-clause-images : goal.returns-clause-images
returns-clause-images g c = λ r f h well same agree shown.
    let laws = g.met.R.Reading in
    images-alike f h (g.R.Reading.plan r f) (g.R.Reading.plan r h) (g.R.Reading.reading r f) (g.R.Reading.reading r h)
    (laws.cells r f well) (laws.cells r h well) (laws.frame r f h well same agree) shown
