use Rattle.ap_files.proofs.MemoryLemmas.{seen_unfinished}
use Rattle.test_formats.proofs.tests.memory.finish.Goals as goal

pub finish-requires : goal.finish-requires
finish-requires c = seen_unfinished c.args.files.now c.args.name.now c.in_ok-bytes.field-0.now c.in_ok-bytes.ensures c.if-not-is_unfinished.ensures
