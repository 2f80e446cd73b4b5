use Rattle.ap_octal.proofs.OctalFronts.{begins-one, begins-two, begins-three}
use Rattle.ap_octal.proofs.octal.escaped_byte.Goals as goal

pub returns-in_default : goal.returns-in_default
returns-in_default c = begins-one c.args.text.now c.in_ok-a.a c.requires.backslash c.in_ok-a.ensures c.in_default.ensures

pub returns-in_default-octal_digit : goal.returns-in_default-octal_digit
returns-in_default-octal_digit c =
    begins-two c.args.text.now c.in_ok-a.a c.in-Some.b c.requires.backslash c.in_ok-a.ensures c.in-Some.ensures c.in_default-octal_digit.ensures

pub returns-else-value-gt255 : goal.returns-else-value-gt255
returns-else-value-gt255 c =
    begins-three c.args.text.now c.in_ok-a.a c.in-Some.b c.in-Some-octal_digit.c c.requires.backslash c.in_ok-a.ensures c.in-Some.ensures c.in-Some-octal_digit.ensures
    c.if-value-gt255.false
