use Rattle.std.proofs.Common.{refl}
use Rattle.std.proofs.Output.{has_written_append}
use Rattle.debug_printing.proofs.rows.write_member.Goals as goal

pub returns : goal.returns
returns g c = λ name at plain ok.
    let before = c.in_ok-separate.ensures plain refl in
    has_written_append _ _ _ _ _ _ before (c.write_name.ensures name at before.plain ok)
