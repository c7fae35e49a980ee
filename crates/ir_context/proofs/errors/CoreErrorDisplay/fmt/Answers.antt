use Rattle.ir_context.proofs.errors.CoreErrorDisplay.fmt.Goals as goal

pub message-requires : goal.message-requires
message-requires g c = c.requires
