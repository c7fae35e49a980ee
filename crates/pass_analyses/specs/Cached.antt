-- What a cache holds: a finite map from a kind and an operation to an analysis.
use Rattle.std.specs.Prelude.{Bool, ◌&&◌, nat_eq, List, map, filter, Option, IsSome, Contains}
use Rattle.std.specs.List.{list_any}
use Rattle.std.specs.Map.{lookup}
use Rattle.ir_program.specs.declared.handles.Operation.{Operation}
use Rattle.ir_program.specs.declared.handles.Ptr.{Ptr}

-- the entries of a cache, in the order in which they came
abbrev pub Entries : Type 0 → Type 0 → Type 0
Entries K E = List ((K × Ptr Operation) × E)

-- the two handles are one
abbrev pub same_handle : Ptr Operation → Ptr Operation → Bool
same_handle p q = nat_eq p.key.slot q.key.slot && nat_eq p.key.version q.key.version

module _ {K : Type 0} (eq : K → K → Bool) where
  -- one kind of one operation
  abbrev pub same_key : K × Ptr Operation → K × Ptr Operation → Bool
  same_key a b = eq a.0 b.0 && same_handle a.1 b.1

  -- the analysis of this kind of an operation, if there is one
  abbrev pub cached : {E : Type 0} → Entries K E → K → Ptr Operation → Option E
  cached es k p = lookup (same_key (k, p)) es

  -- each of the kinds is cached of the operation
  abbrev pub AreCached : {E : Type 0} → List K → Ptr Operation → Entries K E → Type 0
  AreCached ks p es = (k : K) → Contains ks k → IsSome (cached es k p)

  -- the kind is in the list
  abbrev pub is_listed : List K → K → Bool
  is_listed ks k = list_any (eq k) ks

  -- the entries whose kind is in the list
  abbrev pub of_kinds : {E : Type 0} → List K → Entries K E → Entries K E
  of_kinds ks es = filter (λ e. is_listed ks e.0.0) es

-- the kinds that are cached, one for each entry
abbrev pub kinds_of : {K E : Type 0} → Entries K E → List K
kinds_of es = map (λ e. e.0.0) es
