use Rattle.ir_names.proofs.lazy_map.LazyMap.get_index_of.Goals as goal

pub returns-in-Some-clause-value : goal.returns-in-Some-clause-value
returns-in-Some-clause-value g c =
    rw (← c.self.view_is, c.in-Some.is, ← c.deref.ensures) c.get_index_of.ensures.value
