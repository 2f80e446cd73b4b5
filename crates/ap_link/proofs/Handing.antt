-- How a link ends where the second input isn't taken.
use Rattle.std.proofs.Common.{◌≡◌, inl, inr, ℕ, List, Some, Err, sym, subst}
use Rattle.ap_files.specs.Files.{FileState}
use Rattle.ap_check.specs.declared.end.CheckEnd.{CheckEnd}
use Rattle.ap_check.specs.declared.end.CheckEnd.TheVariants as check
use Rattle.ap_check.specs.declared.options.Options.{Options}
use Rattle.ap_check.specs.Ends.{ChecksFile}
use Rattle.ap_check.proofs.Pairs.{second-breaks}
use Rattle.ap_link.specs.declared.end.LinkEnd.{LinkEnd}
use Rattle.ap_link.specs.declared.source.Source.{Source}
use Rattle.ap_link.specs.FileAnswers.{LinksFiles}
use Rattle.ap_link.specs.Sources.{IsSource, end_of_check}

second-ends : (options : Options) (old new : FileState) (first : Source) (second out : List ℕ) (e : CheckEnd) → IsSource old.kept 1 first → ChecksFile old new second 2 (Err e)
    → LinksFiles options old new first.name.now (Some second) out (Err (end_of_check e))
second-ends options old new first second out (check.Rule f) is h = (
  h.0,
  λ m k.
      let t = is.told m k in
      (t.0, t.1, inr (t.2.0, λ m' k'. let u = h.1 m' k' in (u.0, u.1, second-breaks options t.0 u.0 f t.2.0 u.2))),
)
second-ends options old new first second out check.ReadFault is h = inl (inr (h, λ m k. let t = is.told m k in (t.0, t.1, t.2.0)))

pub second-untaken : (options : Options) (old new : FileState) (first : Source) (second out : List ℕ) (e : CheckEnd) (x : LinkEnd) → IsSource old.kept 1 first → x ≡ end_of_check e → ChecksFile old new second 2 (Err e)
    → LinksFiles options old new first.name.now (Some second) out (Err x)
second-untaken options old new first second out e x from is h =
    subst (λ z. LinksFiles options old new first.name.now (Some second) out (Err z)) (sym is) (second-ends options old new first second out e from h)
