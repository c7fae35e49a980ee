-- The first of some faults.
use Rattle.std.specs.Prelude.{slice_index_or}
use Rattle.std.proofs.Common.{◌≡◌, ◌<◌, ◌≤◌, ℕ, [], ◌∷◌, Option, Some, None, refl, sym, subst, ap, ◌∙◌, arith, inl, inr, ◌⊎◌}
use Rattle.std.proofs.lemmas.Bool.{cases_lt}
use Rattle.ir_tokens.specs.declared.faults.Fault.{Fault}
use Rattle.ir_tokens.specs.declared.faults.FaultKind.{FaultKind}
use Rattle.ir_tokens.specs.declared.faults.FaultKind.TheVariants.{Syntax, Number, ResultNames, OtherConstant, TooDeep, MultipleDefinitions, UnresolvedReference, TopLevelOpRegionNotIsolatedFromAbove}
use Rattle.ir_tokens.specs.Faults.{row, FaultPrecedes, IsFirstOf, IsNamed}

pub precedes_trans : (f g h : Fault) → FaultPrecedes f g → FaultPrecedes g h → FaultPrecedes f h
precedes_trans f g h (inl a) (inl b) = inl (omega arith)
precedes_trans f g h (inl a) (inr b) = inl (omega arith)
precedes_trans f g h (inr a) (inl b) = inl (omega arith)
precedes_trans f g h (inr a) (inr b) = inr (omega arith, go a.1 b.1)
  where
    go : (row f.kind < row g.kind) ⊎ ((row f.kind ≡ row g.kind) × (f.place ≤ g.place)) → (row g.kind < row h.kind) ⊎ ((row g.kind ≡ row h.kind) × (g.place ≤ h.place))
        → (row f.kind < row h.kind) ⊎ ((row f.kind ≡ row h.kind) × (f.place ≤ h.place))
    go (inl x) (inl y) = inl (omega arith)
    go (inl x) (inr y) = inl (omega arith)
    go (inr x) (inl y) = inl (omega arith)
    go (inr x) (inr y) = inr (omega arith, omega arith)

pub precedes_itself : (f : Fault) → FaultPrecedes f f
precedes_itself f = inr (refl, inr (refl, omega arith))

pub precedes_total : (f g : Fault) → FaultPrecedes f g ⊎ FaultPrecedes g f
precedes_total f g = met (cases_lt f.met g.met) (cases_lt g.met f.met)
  where
    place : f.met ≡ g.met → row f.kind ≡ row g.kind → (f.place < g.place) ⊎ (g.place ≤ f.place) → FaultPrecedes f g ⊎ FaultPrecedes g f
    place e r (inl x) = inl (inr (e, inr (r, omega arith)))
    place e r (inr x) = inr (inr (sym e, inr (sym r, x)))

    kind : f.met ≡ g.met → (row f.kind < row g.kind) ⊎ (row g.kind ≤ row f.kind) → (row g.kind < row f.kind) ⊎ (row f.kind ≤ row g.kind) → FaultPrecedes f g ⊎ FaultPrecedes g f
    kind e (inl x) y = inl (inr (e, inl x))
    kind e (inr x) (inl y) = inr (inr (sym e, inl y))
    kind e (inr x) (inr y) = place e (omega arith) (cases_lt f.place g.place)

    met : (f.met < g.met) ⊎ (g.met ≤ f.met) → (g.met < f.met) ⊎ (f.met ≤ g.met) → FaultPrecedes f g ⊎ FaultPrecedes g f
    met (inl x) y = inl (inl x)
    met (inr x) (inl y) = inr (inl y)
    met (inr x) (inr y) = kind (omega arith) (cases_lt (row f.kind) (row g.kind)) (cases_lt (row g.kind) (row f.kind))

-- the fault that is named of those of two rows is the first of those that are named of each
pub first_of_law : (P Q H : Fault → Type 0) (a b r : Option Fault) → ((f : Fault) → H f → P f ⊎ Q f) → ((f : Fault) → P f → H f) → ((f : Fault) → Q f → H f)
    → IsNamed P a → IsNamed Q b → IsFirstOf a b r → IsNamed H r
first_of_law P Q H None None r split p q ha hb e = subst (IsNamed H) (sym e) (λ f h. elim (split f h) [ inl x ↦ ha f x | inr y ↦ hb f y ])
first_of_law P Q H None (Some g) r split p q ha hb e = subst (IsNamed H) (sym e) (q g hb.0, λ f h. elim (split f h) [ inl x ↦ absurd (ha f x) | inr y ↦ hb.1 f y ])
first_of_law P Q H (Some f) None r split p q ha hb e = subst (IsNamed H) (sym e) (p f ha.0, λ g h. elim (split g h) [ inl x ↦ ha.1 g x | inr y ↦ absurd (hb g y) ])
first_of_law P Q H (Some f) (Some g) r split p q ha hb (inl e) = subst (IsNamed H) (sym e.0) (p f ha.0, λ h k. elim (split h k) [ inl x ↦ ha.1 h x | inr y ↦ precedes_trans f g h e.1 (hb.1 h y) ])
first_of_law P Q H (Some f) (Some g) r split p q ha hb (inr e) = subst (IsNamed H) (sym e.0) (q g hb.0, λ h k. elim (split h k) [ inl x ↦ precedes_trans g f h e.1 (ha.1 h x) | inr y ↦ hb.1 h y ])

-- the same for a row that has one fault more
pub first_more : (P H : Fault → Type 0) (g : Fault) (a r : Option Fault) → ((f : Fault) → H f → P f ⊎ (f ≡ g)) → ((f : Fault) → P f → H f) → H g → IsNamed P a → IsFirstOf a (Some g) r → IsNamed H r
first_more P H g a r split p here ha = first_of_law P (λ f. f ≡ g) H a (Some g) r split p (λ f e. subst H (sym e) here) ha (refl, λ h e. subst (FaultPrecedes g) (sym e) (precedes_itself g))

-- faults that are the same have the same that is named
pub named_along : (P Q : Fault → Type 0) (o : Option Fault) → ((f : Fault) → P f → Q f) → ((f : Fault) → Q f → P f) → IsNamed P o → IsNamed Q o
named_along P Q None up down h = λ f q. h f (down f q)
named_along P Q (Some f) up down h = (up f h.0, λ g q. h.1 g (down g q))

-- the kinds by their rows
abbrev kind_at : ℕ → FaultKind
kind_at n = slice_index_or (Syntax ∷ Number ∷ ResultNames ∷ OtherConstant ∷ TooDeep ∷ MultipleDefinitions ∷ UnresolvedReference ∷ TopLevelOpRegionNotIsolatedFromAbove ∷ []) n Syntax

row_back : (a : FaultKind) → kind_at (row a) ≡ a
row_back Syntax = refl
row_back Number = refl
row_back ResultNames = refl
row_back OtherConstant = refl
row_back TooDeep = refl
row_back MultipleDefinitions = refl
row_back UnresolvedReference = refl
row_back TopLevelOpRegionNotIsolatedFromAbove = refl

same_row : (a b : FaultKind) → row a ≡ row b → a ≡ b
same_row a b e = sym (row_back a) ∙ ap kind_at e ∙ row_back b

-- two that precede each other are one
pub precedes_one : (f g : Fault) → FaultPrecedes f g → FaultPrecedes g f → f ≡ g
precedes_one f g (inl a) (inl b) = absurd (omega (arith, a, b))
precedes_one f g (inl a) (inr b) = absurd (omega (arith, a, b.0))
precedes_one f g (inr a) (inl b) = absurd (omega (arith, a.0, b))
precedes_one f g (inr a) (inr b) = go a.1 b.1
  where
    go : (row f.kind < row g.kind) ⊎ ((row f.kind ≡ row g.kind) × (f.place ≤ g.place)) → (row g.kind < row f.kind) ⊎ ((row g.kind ≡ row f.kind) × (g.place ≤ f.place)) → f ≡ g
    go (inl x) (inl y) = absurd (omega (arith, x, y))
    go (inl x) (inr y) = absurd (omega (arith, x, y.0))
    go (inr x) (inl y) = absurd (omega (arith, x.0, y))
    go (inr x) (inr y) =
        let kind : f.kind ≡ g.kind = same_row f.kind g.kind x.0 in
        let place : f.place ≡ g.place = omega (arith, x.1, y.1) in
        ap (λ m. record { kind = f.kind; met = m; place = f.place }) a.0 ∙ ap (λ k. record { kind = k; met = g.met; place = f.place }) kind ∙ ap (λ p. record { kind = g.kind; met = g.met; place = p }) place

-- one fault is named
pub one_named : (Has : Fault → Type 0) (f g : Fault) → IsNamed Has (Some f) → IsNamed Has (Some g) → f ≡ g
one_named Has f g a b = precedes_one f g (a.1 g b.0) (b.1 f a.0)
