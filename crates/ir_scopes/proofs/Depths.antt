-- Where parts stand too deep.
use Rattle.std.proofs.Common.{◌≡◌, ℕ, ◌+◌, ◌<◌, ◌≤◌, List, ◌++◌, refl, sym, ap, subst, arith, ◌⊎◌, inl, inr, Option, Some, None, option_map}
use Rattle.std.proofs.lemmas.Bool.{cases_lt}
use Rattle.ir_grammar.specs.declared.grammar.Event.{Event}
use Rattle.ir_tokens.specs.declared.faults.Fault.{Fault}
use Rattle.ir_tokens.specs.Faults.{FaultPrecedes, IsNamed}
use Rattle.ir_grammar.specs.Reading.{tooks, OpensMore}
use Rattle.ir_grammar.proofs.Depths.{opens_more, opens_stays, opens_later}
use Rattle.ir_scopes.specs.Depth.{IsTooDeep, IsFirstTooDeep, fault_deep}

in_order : (i j : ℕ) → i ≤ j → FaultPrecedes (fault_deep i) (fault_deep j)
in_order i j le = go (cases_lt i j)
  where
    go : (i < j) ⊎ (j ≤ i) → FaultPrecedes (fault_deep i) (fault_deep j)
    go (inl x) = inl x
    go (inr x) = inr (omega arith, inr (refl, omega arith))

-- where the first is known, it is named
pub deep_named : (es : List Event) (first : Option ℕ) → IsFirstTooDeep es first → IsNamed (IsTooDeep es) (option_map fault_deep first)
deep_named es None none = λ f h. none h.0 h.1
deep_named es (Some k) first = ((k, first.0, refl), λ g x. subst (FaultPrecedes (fault_deep k)) (sym x.2) (in_order k x.0 (first.1 x.0 x.1)))

-- ---- a front of events

pub deep_stays : (a b : List Event) (f : Fault) → IsTooDeep a f → IsTooDeep (a ++ b) f
deep_stays a b f h = (h.0, opens_stays 64 0 0 a b h.0 h.1, h.2)

pub deep_later : (a b : List Event) (f : Fault) → IsTooDeep (a ++ b) f → IsTooDeep a f ⊎ (tooks a ≤ f.met + 1)
deep_later a b f h = elim (opens_later 64 0 0 a b h.0 h.1) [ inl x ↦ inl (h.0, x, h.2) | inr y ↦ inr (let met : f.met ≡ h.0 = ap (λ g. g.met) h.2 in omega arith) ]

pub deep_some : (es : List Event) → OpensMore 64 0 es → (f : Fault) × IsTooDeep es f
deep_some es h = let r = opens_more 64 0 0 es h in (fault_deep r.0, (r.0, r.1, refl))
