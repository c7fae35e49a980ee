-- Faults of a text.
use Rattle.std.specs.Prelude.{◌≡◌, ℕ, ◌<◌, ◌≤◌, ◌⊎◌, Option, Some, None}
use Rattle.ir_base.specs.declared.growth.GrowError.{GrowError}
use Rattle.ir_base.specs.declared.growth.GrowError.TheVariants as growth
use Rattle.ir_tokens.specs.declared.faults.Fault.{Fault}
use Rattle.ir_tokens.specs.declared.faults.FaultKind.{FaultKind}
use Rattle.ir_tokens.specs.declared.faults.FaultKind.TheVariants.{Syntax, Number, ResultNames, OtherConstant, TooDeep, MultipleDefinitions, UnresolvedReference, TopLevelOpRegionNotIsolatedFromAbove}
use Rattle.ir_tokens.specs.declared.faults.TextFault.{TextFault}
use Rattle.ir_tokens.specs.declared.faults.TextFault.TheVariants.{Memory, CounterFull}

-- what becomes of a refused growth
abbrev pub grown : GrowError → TextFault
grown growth.Memory = Memory
grown growth.CounterFull = CounterFull

-- which kind is named first of those that are met at one token
abbrev pub row : FaultKind → ℕ
row Syntax = 0
row Number = 1
row ResultNames = 2
row OtherConstant = 3
row TooDeep = 4
row MultipleDefinitions = 5
row UnresolvedReference = 6
row TopLevelOpRegionNotIsolatedFromAbove = 7

-- The first fault is named where both stand: by the tokens at which they are met, then by kind, then by place.
abbrev pub FaultPrecedes : Fault → Fault → Type 0
FaultPrecedes f g = (f.met < g.met) ⊎ ((f.met ≡ g.met) × ((row f.kind < row g.kind) ⊎ ((row f.kind ≡ row g.kind) × (f.place ≤ g.place))))

-- of two faults that may stand, the one that is named
abbrev pub IsFirstOf : Option Fault → Option Fault → Option Fault → Type 0
IsFirstOf None b r = r ≡ b
IsFirstOf (Some f) None r = r ≡ Some f
IsFirstOf (Some f) (Some g) r = ((r ≡ Some f) × FaultPrecedes f g) ⊎ ((r ≡ Some g) × FaultPrecedes g f)

-- the fault that is named of those that a text has: one that it has and that precedes all, or none where it has none
abbrev pub IsNamed : (Fault → Type 0) → Option Fault → Type 0
IsNamed Has None = (f : Fault) → Has f → ⊥
IsNamed Has (Some f) = Has f × ((g : Fault) → Has g → FaultPrecedes f g)
