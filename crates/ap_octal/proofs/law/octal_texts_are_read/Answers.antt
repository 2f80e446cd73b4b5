use Rattle.ap_octal.proofs.OctalReads.{octal_bytes_of-some, octal_bytes_of-back}
use Rattle.ap_octal.proofs.law.octal_texts_are_read.Goals as goal

pub returns : goal.returns
returns c text bytes = (octal_bytes_of-some text bytes, octal_bytes_of-back text bytes)
