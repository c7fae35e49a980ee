use Rattle.std.specs.Fmt.{HasWritten, IsPlainFormatter}
use Rattle.debug_printing.specs.DebugTexts.{regions_text}
use Rattle.debug_printing.proofs.operations.write_regions.Given as goal

abbrev pub invariant-loop-region : goal.invariant-loop-region
invariant-loop-region g l =
    IsPlainFormatter l.initial.f → HasWritten g.W.Write.write_str_gives l.initial.f (regions_text l._region) l.f
