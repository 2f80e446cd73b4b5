use Rattle.std.proofs.Common.{false, None, Ok, Err}
use Rattle.std.specs.Option.{option_copied}
use Rattle.ap_link.specs.declared.end.LinkEnd.TheVariants.{Rule, ReadFault, WriteFault}
use Rattle.ap_link.specs.Held.{held_state}
use Rattle.ap_link.proofs.HeldLemmas.{named-links, held-linked, held-refused, held-whole, held-unread, held-lent, held-either}
use Rattle.ap_link.proofs.linker.link.Goals as goal

pub returns-in-Ok-clause-file : goal.returns-in-Ok-clause-file
returns-in-Ok-clause-file c =
    held-linked c.args.options.now c.args.first.now c.link_stream.new.files.first.now (option_copied c.args.second) (option_copied c.link_stream.new.files.second) c.new.result.items c.link_stream.new.files.out.items false c.link_stream.new.files.is_made false c.link_stream.new.files.is_open c.in-Ok.field-0
    (named-links c.args.options.now (held_state c.args.first.now (option_copied c.args.second) c.new.result.items false false) (held_state c.link_stream.new.files.first.now (option_copied c.link_stream.new.files.second) c.link_stream.new.files.out.items c.link_stream.new.files.is_made c.link_stream.new.files.is_open) (option_copied c.args.second) (option_copied c.second_name.result) (Ok c.in-Ok.field-0) c.second_name.ensures c.in-Ok.ensures.files)

pub returns-in-Ok-clause-block : goal.returns-in-Ok-clause-block
returns-in-Ok-clause-block c = held-lent c.args.options.now c.args.first.now (option_copied c.args.second) None (option_copied c.second_name.result) c.link_stream.new.block c.second_name.ensures c.in-Ok.ensures.block

pub returns-in-Err-Rule-clause-file : goal.returns-in-Err-Rule-clause-file
returns-in-Err-Rule-clause-file c =
    held-refused c.args.options.now c.args.first.now c.link_stream.new.files.first.now (option_copied c.args.second) (option_copied c.link_stream.new.files.second) c.new.result.items c.link_stream.new.files.out.items false c.link_stream.new.files.is_made false c.link_stream.new.files.is_open c.in-Err-Rule.fault
    (named-links c.args.options.now (held_state c.args.first.now (option_copied c.args.second) c.new.result.items false false) (held_state c.link_stream.new.files.first.now (option_copied c.link_stream.new.files.second) c.link_stream.new.files.out.items c.link_stream.new.files.is_made c.link_stream.new.files.is_open) (option_copied c.args.second) (option_copied c.second_name.result) (Err (Rule c.in-Err-Rule.fault)) c.second_name.ensures (rw c.in-Err-Rule.field-0-is at c.in-Err-Rule.ensures.files))

pub returns-in-Err-WriteFault-clause-file : goal.returns-in-Err-WriteFault-clause-file
returns-in-Err-WriteFault-clause-file c =
    held-whole c.args.options.now c.args.first.now c.link_stream.new.files.first.now (option_copied c.args.second) (option_copied c.link_stream.new.files.second) c.new.result.items c.link_stream.new.files.out.items false c.link_stream.new.files.is_made false c.link_stream.new.files.is_open
    (named-links c.args.options.now (held_state c.args.first.now (option_copied c.args.second) c.new.result.items false false) (held_state c.link_stream.new.files.first.now (option_copied c.link_stream.new.files.second) c.link_stream.new.files.out.items c.link_stream.new.files.is_made c.link_stream.new.files.is_open) (option_copied c.args.second) (option_copied c.second_name.result) (Err WriteFault) c.second_name.ensures (rw c.in-Err-WriteFault.field-0-is at c.in-Err-WriteFault.ensures.files))

pub returns-in-Err-WriteFault-clause-block : goal.returns-in-Err-WriteFault-clause-block
returns-in-Err-WriteFault-clause-block c =
    held-either c.args.options.now c.args.first.now (option_copied c.args.second) None (option_copied c.second_name.result) c.args.block.now c.link_stream.new.block c.second_name.ensures
    (rw c.in-Err-WriteFault.field-0-is at c.in-Err-WriteFault.ensures.block)

pub unreachable-requires : goal.unreachable-requires
unreachable-requires c =
    held-unread c.args.options.now c.args.first.now c.link_stream.new.files.first.now (option_copied c.args.second) (option_copied c.link_stream.new.files.second) c.new.result.items c.link_stream.new.files.out.items false c.link_stream.new.files.is_made false c.link_stream.new.files.is_open
    (named-links c.args.options.now (held_state c.args.first.now (option_copied c.args.second) c.new.result.items false false) (held_state c.link_stream.new.files.first.now (option_copied c.link_stream.new.files.second) c.link_stream.new.files.out.items c.link_stream.new.files.is_made c.link_stream.new.files.is_open) (option_copied c.args.second) (option_copied c.second_name.result) (Err ReadFault) c.second_name.ensures (rw c.in-Err-ReadFault.field-0-is at c.in-Err-ReadFault.ensures.files))
