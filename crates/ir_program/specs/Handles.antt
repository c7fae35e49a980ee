-- What contracts say of handles.
use Rattle.ir_arena.specs.declared.arena.Key.{Key}
use Rattle.ir_program.specs.declared.handles.Ptr.{Ptr}

-- the handle with this key
abbrev pub handle : {E : Type 0} → Key → Ptr E
handle k = record { key = k; of = record {} }
