use Rattle.std.proofs.Common.{◌∙◌, ap}
use Rattle.ap_files.specs.Files.{FileState}
use Rattle.ap_check.specs.Inputs.{symbols_at}
use Rattle.ap_check.proofs.named.seven_in.Goals as goal

pub returns : goal.returns
unfolding symbols_at
returns g c =
    let e1 = c.in_ok-symbol_in.ensures.0 in
    let e2 = c.in_ok-symbol_in-2.ensures.0 ∙ e1 in
    let e3 = c.in_ok-symbol_in-3.ensures.0 ∙ e2 in
    let e4 = c.in_ok-symbol_in-4.ensures.0 ∙ e3 in
    let e5 = c.in_ok-symbol_in-5.ensures.0 ∙ e4 in
    let e6 = c.in_ok-symbol_in-6.ensures.0 ∙ e5 in
    let e7 = c.in_ok-symbol_in-7.ensures.0 ∙ e6 in (
      e7,
      λ m b told at i. record {
        pe_entry = (c.in_ok-symbol_in.ensures.1 m b told at) i;
        mach_entry = (c.in_ok-symbol_in-2.ensures.1 m b (ap (λ (s : FileState). s.kept) e1 ∙ told) at) i;
        image_base = (c.in_ok-symbol_in-3.ensures.1 m b (ap (λ (s : FileState). s.kept) e2 ∙ told) at) i;
        idata = (c.in_ok-symbol_in-4.ensures.1 m b (ap (λ (s : FileState). s.kept) e3 ∙ told) at) i;
        idata_end = (c.in_ok-symbol_in-5.ensures.1 m b (ap (λ (s : FileState). s.kept) e4 ∙ told) at) i;
        iat = (c.in_ok-symbol_in-6.ensures.1 m b (ap (λ (s : FileState). s.kept) e5 ∙ told) at) i;
        iat_end = (c.in_ok-symbol_in-7.ensures.1 m b (ap (λ (s : FileState). s.kept) e6 ∙ told) at) i;
      },
    )
