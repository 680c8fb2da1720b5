use Rattle.std.proofs.Common.{take, ap, ◌∙◌}
use Rattle.tape.proofs.Encoding.{bytes_written}
use Rattle.tape.proofs.commands.Command.write.Goals as goal

pub returns : goal.returns
returns c =
    bytes_written c.args.self c.args.space.now _ _ _ _ _ c.into.ensures c.first_width-first.ensures c.second_width-second.ensures c.requires
    (c.copy_from_slice.ensures.after ∙ ap (take c.first_width-first.result) c.to_le_bytes.ensures)
    (c.copy_from_slice-2.ensures.after ∙ ap (take c.second_width-second.result) c.to_le_bytes-2.ensures)
