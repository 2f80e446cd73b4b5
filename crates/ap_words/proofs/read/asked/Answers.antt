use Rattle.clap.specs.Words.{app_of}
use Rattle.ap_words.proofs.Asking.{is-simple}
use Rattle.ap_words.proofs.read.asked.Goals as goal

pub matches-requires : goal.matches-requires
matches-requires c = is-simple c.args.word (app_of c.in_ok-command.command) c.in_ok-command.ensures
