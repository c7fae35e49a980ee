-- Handles of operations are told apart by comparing them.
use Rattle.std.proofs.Common.{◌≡◌, ◌≢◌, ◌⊎◌, inl, inr, eqb, Bool, true, false, not, ◌&&◌, refl, sym, ap, ◌∙◌, true≢false}
use Rattle.std.proofs.lemmas.Bool.{eqb-true, eq-eqb}
use Rattle.ir_program.specs.declared.handles.Operation.{Operation}
use Rattle.ir_program.specs.declared.handles.Ptr.{Ptr}

-- what `==` answers at two handles
abbrev pub same : Ptr Operation → Ptr Operation → Bool
same p q = eqb p.key.slot q.key.slot && eqb p.key.version q.key.version

both_left : (b d : Bool) → (b && d) ≡ true → b ≡ true
both_left true d e = refl
both_left false d e = e

both_right : (b d : Bool) → (b && d) ≡ true → d ≡ true
both_right true d e = e
both_right false d e = absurd (true≢false (sym e))

alike : (p q : Ptr Operation) → p.key.slot ≡ q.key.slot → p.key.version ≡ q.key.version → p ≡ q
alike p q s v = rw (s, v) refl

pub same_so : (p q : Ptr Operation) → same p q ≡ true → p ≡ q
same_so p q e = alike p q
    (eqb-true p.key.slot q.key.slot (both_left (eqb p.key.slot q.key.slot) (eqb p.key.version q.key.version) e))
    (eqb-true p.key.version q.key.version (both_right (eqb p.key.slot q.key.slot) (eqb p.key.version q.key.version) e))

pub itself : (p : Ptr Operation) → same p p ≡ true
itself p = ap (λ b. b && eqb p.key.version p.key.version) (eq-eqb p.key.slot p.key.slot refl) ∙ eq-eqb p.key.version p.key.version refl

pub differ_so : (p q : Ptr Operation) → not (same p q) ≡ true → p ≢ q
differ_so p q h is = by (same p q) (ap (λ x. same p x) (sym is) ∙ itself p) h where
  by : (b : Bool) → b ≡ true → not b ≡ true → ⊥
  by true t n = true≢false (sym n)
  by false t n = true≢false (sym t)

pub same_or_not : (p q : Ptr Operation) → (p ≡ q) ⊎ (p ≢ q)
same_or_not p q = by (same p q) refl where
  by : (b : Bool) → same p q ≡ b → (p ≡ q) ⊎ (p ≢ q)
  by true e = inl (same_so p q e)
  by false e = inr (differ_so p q (ap not e))

pub not_same : (p q : Ptr Operation) → p ≢ q → same p q ≡ false
not_same p q differs = by (same p q) refl where
  by : (b : Bool) → same p q ≡ b → b ≡ false
  by true e = absurd (differs (same_so p q e))
  by false e = refl
