-- Why a pass on a module that a context holds is refused: something can't grow, and nothing else.
use Rattle.std.proofs.Common.{◌≡◌, inl, inr, refl, ap, ◌∙◌}
use Rattle.ir_base.specs.declared.growth.GrowError.{GrowError}
use Rattle.ir_base.specs.declared.growth.GrowError.TheVariants.{Memory as GrowMemory, CounterFull as GrowFull}
use Rattle.ir_opts.specs.Simplified.{StopsAt, while_deciding, while_removing, loses_uses, while_joining, comes_back}
use Rattle.ir_program.specs.declared.handles.Operation.{Operation}
use Rattle.ir_program.specs.declared.handles.Ptr.{Ptr}
use Rattle.kit.specs.Context.{KitProgram}
use Rattle.kit.specs.Meaning.{kit}
use Rattle.opt_dialect.specs.declared.status.OptError.{OptError}
use Rattle.opt_dialect.specs.Statuses.{error_of}
use Rattle.opt_dialect.specs.declared.status.OptError.TheVariants.{Memory, CounterFull, LiveUse, UndeterminedOperand}
use Rattle.opt_sccp.specs.Made.{IsShortage}
use Rattle.opt_sccp.specs.Sccp.{IsSccpRefusal}

pub only_short : (e : OptError) → IsSccpRefusal e → (e ≡ UndeterminedOperand → ⊥) → IsShortage e
only_short e (inl short) never = short
only_short e (inr is) never = absurd (never is)

pub stops_for_memory : (old new : KitProgram) (root : Ptr Operation) (e : OptError) → StopsAt kit old new root e
    → (StopsAt kit old new root LiveUse → ⊥) → e ≡ Memory
stops_for_memory old new root e (while_deciding is part) never = is
stops_for_memory old new root e (while_removing is decides) never = is
stops_for_memory old new root e (loses_uses is decides loses) never = absurd (never (loses_uses refl decides loses))
stops_for_memory old new root e (while_joining is mid decides removes) never = is
stops_for_memory old new root e (comes_back is mid decides removes circle) never =
    absurd (never (comes_back refl mid decides removes circle))

-- the error of a pass where a counter is full, and where there is no memory
pub full_of : (e : OptError) (g : GrowError) → e ≡ error_of g → g ≡ GrowFull → e ≡ CounterFull
full_of e g is full = is ∙ ap error_of full

pub memory_of : (e : OptError) (g : GrowError) → e ≡ error_of g → e ≡ Memory → g ≡ GrowMemory
memory_of e GrowMemory is memory = refl
memory_of e GrowFull is memory = absurd (cc)
