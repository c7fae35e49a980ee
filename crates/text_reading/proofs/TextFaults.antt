-- The faults of a text, and how it is refused.
use Rattle.std.proofs.Common.{◌≡◌, ℕ, List, length, Option, Some, None, Result, Ok, Err, IfErr, IsOk, refl, sym, subst, ◌∙◌, ◌⊎◌, inl, inr}
use Rattle.ir_grammar.specs.declared.grammar.Event.{Event}
use Rattle.ir_grammar.specs.declared.grammar.Stop.{Stop}
use Rattle.ir_tokens.specs.declared.tokens.Token.{Token}
use Rattle.ir_tokens.specs.declared.faults.Fault.{Fault}
use Rattle.ir_tokens.specs.declared.faults.TextFault.{TextFault}
use Rattle.ir_tokens.specs.declared.faults.TextFault.TheVariants as told
use Rattle.ir_tokens.specs.Faults.{IsFirstOf, IsNamed}
use Rattle.ir_scopes.specs.Depth.{IsTooDeep}
use Rattle.ir_scopes.specs.Scopes.{HasScopeFault}
use Rattle.ir_forest.specs.ValueFaults.{HasNumberFault, HasNamesFault}
use Rattle.ir_rereading.specs.Texts.{IsSyntaxFault, HasFault, IsTextFault, IsRefusal}
use Rattle.ir_formats.specs.Words.{token_text}
use Rattle.ir_forest.specs.Language.{Language}
use Rattle.ir_tokens.proofs.FirstFault.{first_of_law}

-- ---- the first fault

pub faults_merge : (l : Language) (cs : List ℕ) (ts : List Token) (names : List ℕ) (stop : Stop) (n : ℕ) (es : List Event) (syntax deep values scopes early late all : Option Fault)
    → IsNamed (IsSyntaxFault stop n (length ts)) syntax → IsNamed (IsTooDeep es) deep
    → IsNamed (λ f. HasNumberFault l.values (token_text cs ts) es f ⊎ HasNamesFault l.values (token_text cs ts) es f) values
    → IsNamed (HasScopeFault l.isolated names es) scopes
    → IsFirstOf syntax deep early → IsFirstOf values scopes late → IsFirstOf early late all
    → IsNamed (HasFault l cs ts names stop n es) all
faults_merge l cs ts names stop n es syntax deep values scopes early late all s d v c fe fl fa =
    first_of_law Early Late (HasFault l cs ts names stop n es) early late all split from_early from_late
    (first_of_law (IsSyntaxFault stop n (length ts)) (IsTooDeep es) Early syntax deep early (λ f h. h) (λ f h. inl h) (λ f h. inr h) s d fe)
    (first_of_law Value (HasScopeFault l.isolated names es) Late values scopes late (λ f h. h) (λ f h. inl h) (λ f h. inr h) v c fl)
    fa
  where
    Value : Fault → Type 0
    Value f = HasNumberFault l.values (token_text cs ts) es f ⊎ HasNamesFault l.values (token_text cs ts) es f

    Early : Fault → Type 0
    Early f = IsSyntaxFault stop n (length ts) f ⊎ IsTooDeep es f

    Late : Fault → Type 0
    Late f = Value f ⊎ HasScopeFault l.isolated names es f

    split : (f : Fault) → HasFault l cs ts names stop n es f → Early f ⊎ Late f
    split f (inl h) = inl (inl h)
    split f (inr (inl h)) = inr (inl (inl h))
    split f (inr (inr (inl h))) = inr (inl (inr h))
    split f (inr (inr (inr (inl h)))) = inl (inr h)
    split f (inr (inr (inr (inr h)))) = inr (inr h)

    from_early : (f : Fault) → Early f → HasFault l cs ts names stop n es f
    from_early f (inl h) = inl h
    from_early f (inr h) = inr (inr (inr (inl h)))

    from_late : (f : Fault) → Late f → HasFault l cs ts names stop n es f
    from_late f (inl (inl h)) = inr (inl h)
    from_late f (inl (inr h)) = inr (inr (inl h))
    from_late f (inr h) = inr (inr (inr (inr h)))

-- where nothing is first of two, there is neither
pub first_none : (a b r : Option Fault) → IsFirstOf a b r → r ≡ None → (a ≡ None) × (b ≡ None)
first_none None b r h e = (refl, sym h ∙ e)
first_none (Some f) None r h e = let wrong : Some f ≡ None = sym h ∙ e in cc
first_none (Some f) (Some g) r (inl h) e = let wrong : Some f ≡ None = sym h.0 ∙ e in cc
first_none (Some f) (Some g) r (inr h) e = let wrong : Some g ≡ None = sym h.0 ∙ e in cc

-- a fault of the text is a refusal
pub refusal : (l : Language) (cs : List ℕ) (fault : TextFault) → IsTextFault l cs fault → IsRefusal l cs fault
refusal l cs told.Memory h = tt
refusal l cs told.CounterFull h = tt
refusal l cs (told.Syntax line column) h = h
refusal l cs (told.TooDeep line column) h = h
refusal l cs (told.Scope line column cause) h = h

-- ---- what is known whatever is answered

pub never_wrong : {T E : Type 0} (r : Result T E) (e : E) → IsOk r → r ≡ Err e → ⊥
never_wrong (Ok x) e is w = let wrong : Ok x ≡ Err e = w in cc
never_wrong (Err d) e is w = cc

pub of_memory : {T : Type 0} (r : Result T TextFault) (l : Language) (cs : List ℕ) → IfErr r (λ f. f ≡ told.Memory) → IfErr r (IsRefusal l cs)
of_memory (Ok x) l cs h = tt
of_memory (Err f) l cs h = subst (IsRefusal l cs) (sym h) tt
