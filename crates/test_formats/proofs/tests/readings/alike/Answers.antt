use Rattle.test_formats.proofs.tests.readings.alike.Goals as goal

pub returns : goal.returns
returns c = λ m page. c.reads_alike.ensures.images (record { machine = m; page = page })
