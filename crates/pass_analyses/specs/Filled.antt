-- Computing an analysis of an operation, with those that it needs.
use Rattle.std.specs.Prelude.{◌≡◌, Bool, List, [], ◌∷◌, ◌++◌, None, IsSome}
use Rattle.ir_context.specs.Views.{ContextView}
use Rattle.ir_program.specs.declared.handles.Operation.{Operation}
use Rattle.ir_program.specs.declared.handles.Ptr.{Ptr}
use Rattle.pass_analyses.specs.Cached.{Entries, cached}
use Rattle.pass_analyses.specs.Fresh.{AreFresh}
use Rattle.pass_analyses.specs.Reading.{Reading}

-- computing a kind of the operation may give the analysis, where the cache is so: where what it needs is fresh, it is what computing
-- now gives
abbrev pub Computes : {K E O B T : Type 0} → (K → K → Bool) → Reading (ContextView O B T) K E → ContextView O B T → Ptr Operation
    → K → Entries K E → E → Type 0
Computes eq r c p k es a = (r.kind_of a ≡ k) × (AreFresh eq r.gives (r.needed k) c p es → r.gives c k p a)

module _ {K E : Type 0} (eq : K → K → Bool) (needed : K → List K) (Gives : K → Entries K E → E → Type 0) (p : Ptr Operation) where
  mutual
    -- the cache with a kind of the operation: as it was where it has it; else those that it needs come first, and then it
    pub data Fills : K → Entries K E → Entries K E → Type 0 where
      there : {k : K} {es : Entries K E} → IsSome (cached eq es k p) → Fills k es es
      computed : {k : K} {es mid : Entries K E} (a : E) → cached eq es k p ≡ None → FillsAll (needed k) es mid
          → cached eq mid k p ≡ None → Gives k mid a → Fills k es (mid ++ ((k, p), a) ∷ [])

    -- the cache with these kinds of the operation, one after the other
    pub data FillsAll : List K → Entries K E → Entries K E → Type 0 where
      all_filled : {es : Entries K E} → FillsAll [] es es
      one_more : {k : K} {ks : List K} {es mid new : Entries K E} → Fills k es mid → FillsAll ks mid new
          → FillsAll (k ∷ ks) es new

-- the cache with a kind of the operation, by what computing gives in the context
abbrev pub FillsIn : {K E O B T : Type 0} → (K → K → Bool) → Reading (ContextView O B T) K E → ContextView O B T → Ptr Operation
    → K → Entries K E → Entries K E → Type 0
FillsIn eq r c p k old new = Fills eq r.needed (Computes eq r c p) p k old new
