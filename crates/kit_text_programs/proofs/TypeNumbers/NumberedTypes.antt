-- Types of a context have the numbers of their texts.
use Rattle.std.proofs.Common.{◌≡◌, inl, inr, ℕ, List, [], ◌∷◌, ◌++◌, map, refl, sym, ap, ◌∙◌, subst}
use Rattle.ir_base.specs.declared.types.TypeHandle.{TypeHandle}
use Rattle.ir_forest.specs.Bare.{IsBare}
use Rattle.ir_print.specs.Pieces.{ValueTree, Entity}
use Rattle.ir_print.specs.Shown.{said_type, alone, Pairs, ShowsType}
use Rattle.ir_program.specs.declared.handles.Operation.{Operation}
use Rattle.ir_program.specs.declared.handles.Ptr.{Ptr}
use Rattle.ir_types.specs.Interned.{key_at}
use Rattle.ir_types.specs.Views.{TypesView}
use Rattle.kit.specs.Context.{KitContext, KitTree}
use Rattle.kit_text_programs.specs.RuleLaws.{HasOneHandleEach}
use Rattle.kit_text_programs.proofs.SameTypes.{type_same, lists_meet}
use Rattle.kit_text_programs.proofs.WrittenTypes.{own_handles}
use Rattle.kit.specs.declared.dialect.Unused.{Unused}
use Rattle.kit_ops.specs.declared.types.KitType.{KitType}
use Rattle.kit.specs.Says.{says}
use Rattle.opt_meanings.specs.Meanings.{Bijection}
use Rattle.opt_meanings.proofs.Permuted.{Permutation, permutation}
use Rattle.opt_trees.specs.Occurrences.{Has}
use Rattle.opt_trees.proofs.NoneDead.{has-left, has-right}
use Rattle.text_dialect.specs.Seen.{seen}
use Rattle.text_dialect.specs.Standing.{HasOwnLabel}
use Rattle.text_rereading.specs.Rereading.{Named}
use Rattle.kit_text_programs.specs.SameLaws.{types_in_text, StandsAs, HaveTextNumbers, NumbersApart}
use Rattle.kit_text_programs.proofs.TypeNumbers.ShownOnce.{one_text}
use Rattle.kit_text_programs.proofs.TypeNumbers.PairedNumbers.{numbers_alike, numbers_long}
use Rattle.kit_text_programs.proofs.TypeNumbers.SaidTypes.{HaveHandles, handles_of_both, operation_handles}
use Rattle.kit_text_programs.proofs.TypeNumbers.TestedTexts.{number_test}

-- what is seen of the types of `kit`
abbrev KitTypes : Type 0
KitTypes = TypesView KitType Unused Unused

-- a map of all numbers gives handles numbers
handle_numbers : Permutation ℕ → Bijection TypeHandle ℕ
handle_numbers f = record {
  to = λ h. f.fun h.number;
  from = λ n. record { number = f.inv n };
  there = λ h i. record { number = f.there h.number i };
  back = f.back;
}

-- pairs of members of a list
pairs_within : {X Y : Type 0} (R : X → Y → Type 0) (P : Y → Type 0) (xs : List X) (ys : List Y) → Pairs R xs ys →
    ((y : Y) → Has y ys → P y) → Pairs (λ x y. R x y × P y) xs ys
pairs_within R P [] [] h k = tt
pairs_within R P [] (y ∷ ys) h k = absurd h
pairs_within R P (x ∷ xs) [] h k = absurd h
pairs_within R P (x ∷ xs) (y ∷ ys) h k =
    ((h.0, k y (inl refl)), pairs_within R P xs ys h.1 (λ z m. k z (inr m)))

module _ (s : KitContext) (own : HasOneHandleEach s) where
  abbrev Shows : TypeHandle → ValueTree → Type 0
  Shows = ShowsType says s.types.keys

  -- a text is shown by one handle
  one_handle : (r : ValueTree) (a c : TypeHandle) → Shows a r → Shows c r → a ≡ c
  one_handle r a c h k =
      let same : (a ∷ []) ≡ (c ∷ []) = lists_meet (key_at s.types) (key_at s.types) (own_handles s own) (a ∷ []) (c ∷ []) (c ∷ []) (c ∷ [])
      (type_same s.types.keys s.types.keys r a c h k) (type_same s.types.keys s.types.keys r c c k k) refl in
      cc

  -- a handle that shows a type has the number that the type has
  numbered_so : (number : ValueTree → ℕ) (code : ℕ → ℕ) (hs : List TypeHandle) (rs : List ValueTree) → Pairs Shows hs rs →
      map code (map (λ (h : TypeHandle). h.number) hs) ≡ map number rs → (h : TypeHandle) (r : ValueTree) → Shows h r →
      Has r rs → code h.number ≡ number r
  numbered_so number code [] [] p e h r shown has = absurd has
  numbered_so number code [] (q ∷ rs) p e h r shown has = absurd p
  numbered_so number code (x ∷ hs) [] p e h r shown has = absurd p
  numbered_so number code (x ∷ hs) (q ∷ rs) p e h r shown (inl same) =
      let first : code x.number ≡ number q = cc in
      let handles : h ≡ x = one_handle q h x (subst (Shows h) same shown) p.0 in
      ap (λ (a : TypeHandle). code a.number) handles ∙ first ∙ ap number (sym same)
  numbered_so number code (x ∷ hs) (q ∷ rs) p e h r shown (inr more) =
      let rest : map code (map (λ (h : TypeHandle). h.number) hs) ≡ map number rs = cc in
      numbered_so number code hs rs p.1 rest h r shown more

  module _ (all : List ValueTree) (bare : (r : ValueTree) → Has r all → IsBare r) (number : ValueTree → ℕ)
      (apart : NumbersApart number all) where
    -- a handle and a type that it shows, which is one of these
    abbrev Stands : TypeHandle → ValueTree → Type 0
    Stands h r = Shows h r × Has r all

    -- a handle has one number
    number_once : (a b : TypeHandle) (c d : ValueTree) → Stands a c → Stands b d → a.number ≡ b.number → number c ≡ number d
    number_once a b c d h k e =
        let handles : a ≡ b = λ i. record { number = e i } in
        ap number (one_text says s.types.keys c d (alone (said_type b)) (subst (λ x. Shows x c) handles h.0) k.0 (bare c h.1) (bare d k.1))

    -- a number is one handle's
    handle_once : (a b : TypeHandle) (c d : ValueTree) → Stands a c → Stands b d → number c ≡ number d → a.number ≡ b.number
    handle_once a b c d h k e =
        let texts : c ≡ d = apart c d h.1 k.1 e in
        ap (λ (x : TypeHandle). x.number) (one_handle d a b (subst (Shows a) texts h.0) k.0)

    -- handles that show types of the list can be numbered as the types are
    numbering : (rs : List ValueTree) → HaveHandles says s.types.keys rs → ((r : ValueTree) → Has r rs → Has r all) →
        (codes : Bijection TypeHandle ℕ) × ((h : TypeHandle) (r : ValueTree) → Shows h r → Has r rs → codes.to h ≡ number r)
    unfolding handle_numbers
    numbering rs handles within =
        let pairs : Pairs Stands handles.0 rs = pairs_within Shows (λ r. Has r all) handles.0 rs handles.1 within in
        let f = permutation number_test (map (λ (h : TypeHandle). h.number) handles.0) (map number rs)
        (numbers_long Stands (λ h. h.number) number number_once handle_once handles.0 rs pairs)
        (numbers_alike Stands (λ h. h.number) number number_once handle_once handles.0 rs pairs) in
        (handle_numbers f.0, λ h r shown has. numbered_so number f.0.fun handles.0 rs handles.1 f.1 h r shown has)

    -- so can those of two contexts with the same types in which operations stand for texts of such types
    pub types_numbered : (z : KitContext) (text other : Entity ℕ) (root there : Ptr Operation) (t u : KitTree) →
        z.types ≡ s.types → StandsAs text s root t → StandsAs other z there u →
        ((r : ValueTree) → Has r (types_in_text text ++ types_in_text other) → Has r all) →
        (codes : Bijection TypeHandle ℕ) × HaveTextNumbers number codes.to s text × HaveTextNumbers number codes.to z other
    types_numbered z text other root there t u same h k within =
        let both = handles_of_both says s.types.keys (types_in_text text) (types_in_text other)
        (operation_handles says (Named h.numbering) HasOwnLabel (seen s) text root h.stands)
        (subst (λ (y : KitTypes). HaveHandles says y.keys (types_in_text other)) same
        (operation_handles says (Named k.numbering) HasOwnLabel (seen z) other there k.stands)) in
        let found = numbering (types_in_text text ++ types_in_text other) both within in (
          found.0,
          (λ a r shown has. found.1 a r shown (has-left r (types_in_text text) (types_in_text other) has)),
          (λ a r shown has. found.1 a r (subst (λ (y : KitTypes). ShowsType says y.keys a r) same shown)
              (has-right r (types_in_text text) (types_in_text other) has)),
        )
