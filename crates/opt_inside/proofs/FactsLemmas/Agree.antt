-- Facts by number and facts by name that say the same.
use Rattle.std.proofs.Common.{◌≡◌, ℕ, zero, suc, List, [], ◌∷◌, Some, refl, sym, ap, ◌∙◌, subst}
use Rattle.std.specs.Prelude.{map}
use Rattle.std.proofs.lemmas.Option.{none-some, same_Some}
use Rattle.ir_program.specs.declared.handles.Ptr.{Ptr}
use Rattle.ir_program.specs.declared.handles.BasicBlock.{BasicBlock}
use Rattle.ir_program.specs.declared.handles.Value.{Value}
use Rattle.ir_trees.specs.Searched.{Lists}
use Rattle.ir_trees.specs.Stands.{by_handle}
use Rattle.opt_rows.specs.declared.known.Known.{Known}
use Rattle.opt_rows.specs.declared.known.Known.TheVariants.{Any}
use Rattle.opt_rows.specs.Known.{AtOrBelow, asked, AllBelow, AllAny}
use Rattle.opt_rows.specs.Facts.{NumberedFacts, ForwardedBelow}
use Rattle.opt_trees.specs.Facts.{Facts}
use Rattle.opt_inside.specs.Numbered.{Numbers}
use Rattle.opt_inside.specs.facts.Problem.{value_number, block_number}

pub record Agree {A : Type 0} (n : Numbers) (K : NumberedFacts A) (k : Facts by_handle A) : Type 0 where
  pub of : (v : Value) → K.of (value_number n v) ≡ k.of v
  pub runs : (b : Ptr BasicBlock) → Lists n.blocks b → K.runs (block_number n b) ≡ k.runs b

-- a fact at a type that is the same
pub cast : {S T : Type 0} → S ≡ T → S → T
cast e s = subst (λ X. X) e s

pub uncast : {S T : Type 0} → S ≡ T → T → S
uncast e t = subst (λ X. X) (sym e) t

module _ {A : Type 0} (n : Numbers) (K : NumberedFacts A) (k : Facts by_handle A) (agree : Agree n K k) where
  pub facts_of : (vs : List Value) → map K.of (map (value_number n) vs) ≡ map k.of vs
  facts_of [] = refl
  facts_of (v ∷ vs) = λ i. agree.of v i ∷ facts_of vs i

  pub asked_of : (vs : List Value) (ns : List ℕ) → ns ≡ map (value_number n) vs → asked (map K.of ns) ≡ asked (map k.of vs)
  asked_of vs ns e = ap (λ ms. asked (map K.of ms)) e ∙ ap asked (facts_of vs)

  pub below_of : (vs : List Value) (ys : List (Known A)) → AllBelow K.of (map (value_number n) vs) ys ≡ AllBelow k.of vs ys
  below_of [] ys = refl
  below_of (v ∷ vs) [] = refl
  below_of (v ∷ vs) (y ∷ ys) = λ i. AtOrBelow (agree.of v i) y × below_of vs ys i

  pub any_of : (vs : List Value) → AllAny K.of (map (value_number n) vs) ≡ AllAny k.of vs
  any_of [] = refl
  any_of (v ∷ vs) = λ i. (agree.of v i ≡ Any) × any_of vs i

  one_below : (v u : Value) → AtOrBelow (K.of (value_number n v)) (K.of (value_number n u)) ≡ AtOrBelow (k.of v) (k.of u)
  one_below v u = λ i. AtOrBelow (agree.of v i) (agree.of u i)

  -- what is forwarded, by index and one by one
  pub forwarded_to : (vs us : List Value) → ForwardedBelow K (map (value_number n) vs) (map Some (map (value_number n) us)) → AllBelow k.of vs (map k.of us)
  forwarded_to [] us f = tt
  forwarded_to (v ∷ vs) [] f = tt
  forwarded_to (v ∷ vs) (u ∷ us) f = (cast (one_below v u) (f 0 (value_number n v) (value_number n u) refl refl).0, forwarded_to vs us (λ i x y a b. f (suc i) x y a b))

  pub forwarded_from : (vs us : List Value) → AllBelow k.of vs (map k.of us) → ForwardedBelow K (map (value_number n) vs) (map Some (map (value_number n) us))
  forwarded_from [] us h i x y a b = absurd (none-some x a)
  forwarded_from (v ∷ vs) [] h i x y a b = absurd (none-some (Some y) b)
  forwarded_from (v ∷ vs) (u ∷ us) h zero x y a b =
      let first : value_number n v ≡ x = same_Some (value_number n v) x a in
      let second : value_number n u ≡ y = let e : Some (Some (value_number n u)) ≡ Some (Some y) = b in cc in
      (subst (λ z. AtOrBelow (K.of z) (K.of y)) first (subst (λ z. AtOrBelow (K.of (value_number n v)) (K.of z)) second (uncast (one_below v u) h.0)), tt)
  forwarded_from (v ∷ vs) (u ∷ us) h (suc i) x y a b = forwarded_from vs us h.1 i x y a b
