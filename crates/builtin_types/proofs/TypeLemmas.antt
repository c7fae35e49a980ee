-- No other type is made of what a type is made of.
use Rattle.std.proofs.Common.{◌≡◌, Bool, true, Option, Some, None, Ok, Err, IfOk, refl, sym, subst}
use Rattle.std.specs.Prelude.{◌↔◌, Result, option_and_then}
use Rattle.std.proofs.lemmas.Option.{none-some}
use Rattle.ir_base.specs.declared.types.TypeHandle.{TypeHandle}
use Rattle.ir_types.specs.Interned.{key_at}
use Rattle.ir_types.specs.Views.{TypesView}
use Rattle.builtin_types.specs.Got.{held_at}

-- `held` says what each key is made of: of x exactly those that equal the key that x makes
module _ {K B S X : Type 0} (eq : K → K → Bool) (held : K → Option X) (key made : K) (is : key ≡ made) (x : X)
    (law : (kept : K) → (held kept ≡ Some x) ↔ (eq made kept ≡ true)) (types : TypesView K B S) where
  by_key : (ty : TypeHandle) → ((other : TypeHandle) (kept : K) → key_at types other ≡ Some kept → (other ≡ ty) ↔ (eq key kept ≡ true))
      → (other : TypeHandle) (at : Option K) → key_at types other ≡ at → option_and_then held at ≡ Some x → other ≡ ty
  by_key ty same other None at e = absurd (none-some x e)
  by_key ty same other (Some kept) at e = (same other kept at).1 (subst (λ k. eq k kept ≡ true) (sym is) ((law kept).0 e))

  -- where handles are equal exactly as keys are, the one that was got is the only one of a type that is made of x
  pub only_got : {E : Type 0} (got : Result TypeHandle E)
      → IfOk got (λ ty. (other : TypeHandle) (kept : K) → key_at types other ≡ Some kept → (other ≡ ty) ↔ (eq key kept ≡ true))
      → IfOk got (λ ty. (other : TypeHandle) → held_at held types other ≡ Some x → other ≡ ty)
  only_got (Ok ty) same = λ other e. by_key ty same other (key_at types other) refl e
  only_got (Err e) same = same
