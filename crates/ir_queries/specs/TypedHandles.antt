-- What contracts see of handles of types of which something is known.
use Rattle.ir_base.specs.declared.types.TypeHandle.{TypeHandle}
use Rattle.ir_queries.specs.declared.handles.TypedHandle.{TypedHandle}
use Rattle.ir_queries.specs.declared.handles.TypeInterfaceHandle.{TypeInterfaceHandle}

-- the handle as one of a type of kind T
abbrev pub typed_handle : {T : Type 0} → TypeHandle → TypedHandle T
typed_handle ty = record { handle = ty; of = record {} }

-- the handle without what is known of its type
abbrev pub untyped : {T : Type 0} → TypedHandle T → TypeHandle
untyped h = h.handle

-- the handle as one of a type that implements the interface of I
abbrev pub interface_handle : {I : Type 0} → TypeHandle → TypeInterfaceHandle I
interface_handle ty = record { handle = ty; of = record {} }

-- the handle without what is known of its type
abbrev pub plain : {I : Type 0} → TypeInterfaceHandle I → TypeHandle
plain h = h.handle
