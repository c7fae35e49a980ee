-- Lists without some of their members: their types can still be written.
use Rattle.std.proofs.Common.{◌≡◌, ℕ, suc, Bool, true, false, List, [], ◌∷◌, refl, ap}
use Rattle.std.specs.Prelude.{if◌then◌else◌}
use Rattle.ir_base.specs.declared.types.TypeHandle.{TypeHandle}
use Rattle.ir_print.specs.Shown.{Pairs, ShowsType}
use Rattle.ir_trees.specs.Trees.{Defined}
use Rattle.kit_ops.specs.declared.types.KitType.{KitType}
use Rattle.kit_pass_rules.proofs.Thin.{dropped_at}
use Rattle.kit.specs.Says.{says}
use Rattle.kit_writable_trees.specs.Writable.{types_in, AreWritten}
use Rattle.opt_trees.specs.Dialect.{drop}

-- the types of definitions that are left
pub types_left : {V : Type 0} (p : ℕ → Bool) (ds : List (Defined V TypeHandle)) →
    types_in (drop p ds) ≡ drop p (types_in ds)
types_left p [] = refl
types_left {V} p (x ∷ ds) = step (p 0) (types_left (λ i. p (suc i)) ds)
  where
    step : (b : Bool) → types_in (drop (λ i. p (suc i)) ds) ≡ drop (λ i. p (suc i)) (types_in ds) →
        types_in (if b then drop (λ i. p (suc i)) ds else x ∷ drop (λ i. p (suc i)) ds)
        ≡ (if b then drop (λ i. p (suc i)) (types_in ds) else x.holds ∷ drop (λ i. p (suc i)) (types_in ds))
    step true e = e
    step false e = ap (λ tys. x.holds ∷ tys) e

-- each has its own still beside it
pub pairs_left : {X Y : Type 0} (R : X → Y → Type 0) (p : ℕ → Bool) (xs : List X) (ys : List Y) → Pairs R xs ys →
    Pairs R (drop p xs) (drop p ys)
pairs_left R p [] [] h = tt
pairs_left R p [] (y ∷ ys) h = absurd h
pairs_left R p (x ∷ xs) [] h = absurd h
pairs_left R p (x ∷ xs) (y ∷ ys) h = step (p 0) (pairs_left R (λ i. p (suc i)) xs ys h.1)
  where
    step : (b : Bool) → Pairs R (drop (λ i. p (suc i)) xs) (drop (λ i. p (suc i)) ys) →
        Pairs R (if b then drop (λ i. p (suc i)) xs else x ∷ drop (λ i. p (suc i)) xs)
        (if b then drop (λ i. p (suc i)) ys else y ∷ drop (λ i. p (suc i)) ys)
    step true e = e
    step false e = (h.0, e)

-- types that are left are written as they were
pub written_left : (types : List KitType) (d : ℕ) (p : ℕ → Bool) (tys : List TypeHandle) → AreWritten types d tys →
    AreWritten types d (drop p tys)
written_left types d p tys w = record {
  shapes = drop p w.shapes;
  shown = pairs_left (ShowsType says types) p tys w.shapes w.shown;
  flat = λ i shape e. let x = dropped_at p w.shapes i shape e in w.flat x.index shape x.here;
  bare = λ i shape e. let x = dropped_at p w.shapes i shape e in w.bare x.index shape x.here;
}
