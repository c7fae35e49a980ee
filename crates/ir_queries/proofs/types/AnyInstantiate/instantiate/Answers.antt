use Rattle.ir_queries.proofs.types.AnyInstantiate.instantiate.Goals as goal

pub returns-clause-fresh : goal.returns-clause-fresh
returns-clause-fresh g c = rw (← c.into_key.ensures) (c.in_ok-handle.ensures.fresh)

pub returns-clause-handle : goal.returns-clause-handle
returns-clause-handle g c = rw (← c.into_key.ensures) (c.in_ok-handle.ensures.handle)

pub returns-clause-ok : goal.returns-clause-ok
returns-clause-ok g c = rw (← c.into_key.ensures) (c.in_ok-handle.ensures.ok)

pub returns-clause-key : goal.returns-clause-key
returns-clause-key g c = rw (← c.into_key.ensures) (c.in_ok-handle.ensures.key)

pub returns-clause-same : goal.returns-clause-same
returns-clause-same g c = rw (← c.into_key.ensures) (c.in_ok-handle.ensures.same)

pub returns-clause-keeps : goal.returns-clause-keeps
returns-clause-keeps g c = c.in_ok-handle.ensures.keeps

pub returns-clause-program : goal.returns-clause-program
returns-clause-program g c = c.in_ok-handle.ensures.program
