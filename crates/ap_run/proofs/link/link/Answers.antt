use Rattle.std.proofs.Common.{sym, ◌∙◌, subst}
use Rattle.std.specs.Prelude.{IfSome, ◌≢◌}
use Rattle.ap_run.proofs.Links.{link-first, link-second}
use Rattle.ap_run.proofs.link.link.Goals as goal

pub link_stream-requires-clause-first : goal.link_stream-requires-clause-first
link_stream-requires-clause-first g c = λ e. link-first c.args.out.now c.args.options.now c.args.names.now c.requires (sym c.first_of-first.ensures ∙ e)

pub link_stream-requires-clause-second : goal.link_stream-requires-clause-second
link_stream-requires-clause-second g c =
    subst (λ o. IfSome o (λ n. n ≢ c.args.out.now)) (sym c.second_of-second.ensures) (link-second c.args.out.now c.args.options.now c.args.names.now c.requires)
