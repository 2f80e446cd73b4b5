-- What the PE headers of a program claim of a linked file's block: the DOS fields, and the headers themselves.
use Rattle.std.specs.Prelude.{ℕ, List, [], ◌∷◌}
use Rattle.ap_fields.specs.Fields.{bytes_of}
use Rattle.ap_claims.specs.declared.owner.Owner.TheVariants.{Dos, Pe}
use Rattle.ap_claims.specs.Lists.{Claim}
use Rattle.ap_check.specs.declared.load.Load.{Load}
use Rattle.ap_layout.specs.declared.layout.Area.{Area}
use Rattle.ap_pe.specs.declared.constants.TheConstants.{IMAGE_DOS_SIGNATURE, HEADERS_PLACE}
use Rattle.ap_pe.specs.declared.program.Program.{Program}
use Rattle.ap_pe.specs.Format.{dos_mark, dos_headers}
use Rattle.ap_pe.specs.Written.{pe_headers}

-- the file's mark, and where the headers stand
abbrev pub mark_bytes : List ℕ
mark_bytes = bytes_of dos_mark.1 IMAGE_DOS_SIGNATURE

abbrev pub place_bytes : List ℕ
place_bytes = bytes_of dos_headers.1 HEADERS_PLACE

-- the claims of a program whose loads have these areas
abbrev pub pe_claims : Program → List Load → List Area → List Claim
pe_claims p loads areas =
    record { owner = Dos; at = dos_mark.0; bytes = mark_bytes }
    ∷ record { owner = Dos; at = dos_headers.0; bytes = place_bytes }
    ∷ record { owner = Pe; at = HEADERS_PLACE; bytes = pe_headers p loads areas }
    ∷ []
