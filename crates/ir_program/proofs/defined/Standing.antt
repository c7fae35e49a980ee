-- The values that have a type are those that stand at their definers, each once.
use Rattle.std.proofs.Common.{◌≡◌, ◌≢◌, ⊎_elim, ℕ, zero, suc, ◌<◌, false, List, [], ◌∷◌, map, Option, Some, None, IsSome, option_map, refl, sym, ap, ◌∙◌, subst, slice_get}
use Rattle.std.proofs.lemmas.Bool.{cases_eq}
use Rattle.std.proofs.lemmas.Option.{slice_get-map}
use Rattle.ir_base.specs.declared.types.TypeHandle.{TypeHandle}
use Rattle.ir_entities.specs.Links.{has, AreDistinctNumbers}
use Rattle.ir_program.specs.Program.{Program, typed_value, definitions_of, definition_at, numbered, type_at, value_in, type_in, IsLiveValue}
use Rattle.ir_program.specs.Sound.{IsProgram}
use Rattle.ir_program.specs.Definers.{StandsAtDefiner, values_at}
use Rattle.ir_program.specs.declared.handles.Value.{Value}
use Rattle.ir_program.specs.declared.handles.DefiningEntity.{DefiningEntity}
use Rattle.ir_program.specs.declared.handles.DefiningEntity.TheVariants.{Op as ByOp, Block as ByBlock}
use Rattle.ir_program.specs.declared.records.Definition.{Definition}
use Rattle.ir_program.proofs.defined.Numbers.{numbers_of, numbered-first, numbered-other, numbered-none, found-number, stands-found}
use Rattle.ir_program.proofs.defined.Stands.{value_for, seen-stands, results-seen_as, arguments-seen_as, type-of-seen}

-- a definition that is found stands somewhere
numbered-index : (n : ℕ) (ds : List Definition) (d : Definition) → numbered n ds ≡ Some d → (k : ℕ) × (slice_get ds k ≡ Some d)
numbered-index n [] d h = cc
numbered-index n (e ∷ ds) d h = ⊎_elim
    (λ q. (0, sym (numbered-first n e ds q) ∙ h))
    (λ ne. let later : (k : ℕ) × (slice_get ds k ≡ Some d) = numbered-index n ds d (sym (numbered-other n e ds (λ q. ne (sym q))) ∙ h) in (suc later.0, later.1))
    (cases_eq e.number n)

-- no two definitions have one number
twice : (e d : Definition) (ds : List Definition) (k : ℕ) → has e.number (numbers_of ds) ≡ false → AreDistinctNumbers (numbers_of ds) → slice_get ds k ≡ Some d → d.number ≢ e.number
twice e d ds k free a h q =
    let there : numbered d.number ds ≡ Some d = stands-found ds k d a h in
    let nowhere : numbered d.number ds ≡ None = numbered-none d.number ds (subst (λ n. has n (numbers_of ds) ≡ false) (sym q) free) in
    cc

same-index : (ds : List Definition) (j k : ℕ) (d e : Definition) → AreDistinctNumbers (numbers_of ds) → slice_get ds j ≡ Some d → slice_get ds k ≡ Some e → d.number ≡ e.number → j ≡ k
same-index [] j k d e a h i q = cc
same-index (x ∷ ds) zero zero d e a h i q = refl
same-index (x ∷ ds) zero (suc k) d e a h i q = let is : x ≡ d = cc in absurd (twice x e ds k a.0 a.1 i (sym q ∙ ap (λ (y : Definition). y.number) (sym is)))
same-index (x ∷ ds) (suc j) zero d e a h i q = let is : x ≡ e = cc in absurd (twice x d ds j a.0 a.1 h (q ∙ ap (λ (y : Definition). y.number) (sym is)))
same-index (x ∷ ds) (suc j) (suc k) d e a h i q = ap suc (same-index ds j k d e a.1 h i q)

module _ {O B : Type 0} (c : Program O B) where
  values-seen_as : (e : DefiningEntity) → values_at c e ≡ map (typed_value e) (definitions_of c e)
  values-seen_as (ByOp p) = results-seen_as c p
  values-seen_as (ByBlock p) = arguments-seen_as c p

  seen : (e : DefiningEntity) (k : ℕ) (v : Value) → value_in (values_at c e) k ≡ Some v → (d : Definition) × (slice_get (definitions_of c e) k ≡ Some d) × (v ≡ value_for e d)
  seen e k v h = seen-stands e (definitions_of c e) k v (ap (λ l. value_in l k) (sym (values-seen_as e)) ∙ h)

  pub seen-definer : (e : DefiningEntity) (k : ℕ) (v : Value) → value_in (values_at c e) k ≡ Some v → v.definer ≡ e
  seen-definer e k v h = ap (λ (x : Value). x.definer) (seen e k v h).2

  pub seen-typed : IsProgram c → (e : DefiningEntity) (k : ℕ) (v : Value) → value_in (values_at c e) k ≡ Some v → type_at c v ≡ type_in (values_at c e) k
  seen-typed inv e k v h = type-of-seen c inv e (values_at c e) (values-seen_as e) k v h

  -- where the definition of a value stands
  abbrev Found : Value → Definition → Type 0
  Found v d = (k : ℕ) × (slice_get (definitions_of c v.definer) k ≡ Some d) × (d.number ≡ v.number)

  found-at : (v : Value) (d : Definition) → definition_at c v ≡ Some d → Found v d
  found-at v d h = let at : (k : ℕ) × (slice_get (definitions_of c v.definer) k ≡ Some d) = numbered-index v.number (definitions_of c v.definer) d h in (at.0, at.1, found-number v.number (definitions_of c v.definer) d h)

  pub live-stands : IsProgram c → (v : Value) (ty : TypeHandle) → type_at c v ≡ Some ty → StandsAtDefiner c v ty
  live-stands inv v ty h = by (definition_at c v) refl
    where
      stand : (d : Definition) → d.ty ≡ ty → Found v d → StandsAtDefiner c v ty
      stand d is (k, stands, number) = record {
        index = k;
        stands = ap (λ l. slice_get l k) (values-seen_as v.definer) ∙ slice_get-map (typed_value v.definer) (definitions_of c v.definer) k ∙ ap (option_map (typed_value v.definer)) stands ∙ rw (number, is) refl;
        once = λ j other. let s : (e : Definition) × (slice_get (definitions_of c v.definer) j ≡ Some e) × (v ≡ value_for v.definer e) = seen v.definer j v other in
            same-index (definitions_of c v.definer) j k s.0 d (inv.numbers v.definer).distinct s.1 stands (sym (number ∙ ap (λ (x : Value). x.number) s.2));
      }

      by : (o : Option Definition) → definition_at c v ≡ o → StandsAtDefiner c v ty
      by None none = let e : None ≡ Some ty = sym (ap (option_map (λ (x : Definition). x.ty)) none) ∙ h in cc
      by (Some d) some = let e : Some d.ty ≡ Some ty = sym (ap (option_map (λ (x : Definition). x.ty)) some) ∙ h in let is : d.ty ≡ ty = cc in stand d is (found-at v d some)

  pub live-given : IsProgram c → (v : Value) → IsLiveValue c v → v.number < c.counter
  live-given inv v live = by (definition_at c v) refl
    where
      by : (o : Option Definition) → definition_at c v ≡ o → v.number < c.counter
      by None none = let e : IsSome (option_map (λ (x : Definition). x.ty) (definition_at c v)) = live in let f : option_map (λ (x : Definition). x.ty) (definition_at c v) ≡ None = ap (option_map (λ (x : Definition). x.ty)) none in cc
      by (Some d) some = let at : Found v d = found-at v d some in subst (λ n. n < c.counter) at.2 ((inv.numbers v.definer).below at.0 d at.1)

  -- values with one number are the same
  pub live-own : IsProgram c → (v w : Value) → IsLiveValue c v → IsLiveValue c w → v.number ≡ w.number → v ≡ w
  live-own inv v w v-live w-live same =
      let d = at-live v v-live in
      let g = at-live w w-live in
      let definers : v.definer ≡ w.definer = inv.own v.definer w.definer d.1.0 g.1.0 d.0 g.0 d.1.1 g.1.1 (d.1.2 ∙ same ∙ sym g.1.2) in
      rw (definers, same) refl
    where
      at-live : (x : Value) → IsLiveValue c x → (d : Definition) × Found x d
      at-live x live = by (definition_at c x) refl
        where
          by : (o : Option Definition) → definition_at c x ≡ o → (d : Definition) × Found x d
          by None none = let e : IsSome (option_map (λ (y : Definition). y.ty) (definition_at c x)) = live in let f : option_map (λ (y : Definition). y.ty) (definition_at c x) ≡ None = ap (option_map (λ (y : Definition). y.ty)) none in cc
          by (Some d) some = (d, found-at x d some)
