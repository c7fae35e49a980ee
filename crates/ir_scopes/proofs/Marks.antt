-- Marks of kinds with numbers.
use Rattle.std.proofs.Common.{◌≡◌, ℕ, ◌+◌, ◌<◌, ◌≤◌, List, [], ◌∷◌, ◌++◌, length, map, slice_get}
use Rattle.std.proofs.Common.{Option, Some, None, Bool, true, false, ◌&&◌, refl, sym, ap, ◌∙◌, arith, ◌⊎◌, inl, inr, zero-add}
use Rattle.std.specs.Option.{option_map}
use Rattle.std.specs.List.{range_with_len}
use Rattle.std.proofs.Math.Path.{fun_ext}
use Rattle.std.specs.Prelude.{nat_le}
use Rattle.std.proofs.lemmas.Bool.{cases_lt, leb-true}
use Rattle.std.proofs.lemmas.List.{get_or_past}
use Rattle.std.proofs.lemmas.List.FromFn.{map-range_with_len_more, get_or-map-range_with_len, length-map-range_with_len}
use Rattle.std.proofs.lemmas.Option.{slice_get_cases, slice_get_past}
use Rattle.ir_print.specs.Formats.{Formats, Kind, is_small}
use Rattle.ir_scopes.specs.Scopes.{is_isolated_kind, isolated_at, is_marked}

no_kind : {K F : Type 0} (f : K → F) (o : Option K) → None ≡ option_map f o → o ≡ None
no_kind f None e = refl
no_kind f (Some x) e = cc

first_of_three : (a b c : Bool) → a && b && c ≡ true → a ≡ true
first_of_three true b c e = refl
first_of_three false b c e = e

-- operations that can be read are few
pub few_operations : (f : Formats) → is_small f ≡ true → length f.operations ≤ 256
few_operations f e =
    let few : List Kind → Bool = λ ks. nat_le (length ks) 256 in
    leb-true (length f.operations) 256 (first_of_three (few f.operations) (few f.types) (few f.attributes) e)

-- kinds that have numbers, each with its form, as many as there are forms
module _ {K F : Type 0} (forms : List F) (form_of : K → F) (kind_at : ℕ → Option K) (isolated : K → Bool)
    (numbered : (n : ℕ) → slice_get forms n ≡ option_map form_of (kind_at n)) where
  -- where no kind has a number, none has a larger one
  pub few_kinds : (k : ℕ) → None ≡ kind_at k → length forms ≤ k
  few_kinds k e = elim (slice_get_cases forms k).1 [
    | inl p ↦ absurd (let wrong : Some p.0 ≡ None = sym p.2 ∙ (numbered k ∙ ap (option_map form_of) (sym e)) in cc)
    | inr p ↦ p.0
  ]

  none_behind : (n : ℕ) → length forms ≤ n → kind_at n ≡ None
  none_behind n le = no_kind form_of (kind_at n) (sym (slice_get_past forms n le) ∙ numbered n)

  -- one mark more
  pub mark_more : (k : ℕ) (xs ys : List Bool) (b : Bool) → xs ≡ map (isolated_at kind_at isolated) (range_with_len 0 k)
      → b ≡ isolated_at kind_at isolated k → ys ≡ xs ++ b ∷ []
      → ys ≡ map (isolated_at kind_at isolated) (range_with_len 0 (k + 1))
  mark_more k xs ys b all one e =
      let more = map-range_with_len_more (isolated_at kind_at isolated) 0 k k (zero-add k) in cc

  -- marks of all kinds say which are isolated
  pub marks_all : (k : ℕ) (marks : List Bool) → length forms ≤ k
      → marks ≡ map (isolated_at kind_at isolated) (range_with_len 0 k) → is_marked marks ≡ isolated_at kind_at isolated
  marks_all k marks few are = fun_ext (λ n. at n (cases_lt n k))
    where
      long : length marks ≡ k
      long = ap length are ∙ length-map-range_with_len (isolated_at kind_at isolated) 0 k

      at : (n : ℕ) → (n < k) ⊎ (k ≤ n) → is_marked marks n ≡ isolated_at kind_at isolated n
      at n (inl lt) =
          ap (λ ms. is_marked ms n) are
          ∙ get_or-map-range_with_len (isolated_at kind_at isolated) 0 k n n false lt (zero-add n)
      at n (inr le) =
          let none = none_behind n (omega (arith, few)) in
          get_or_past marks n false (omega (arith, long)) ∙ sym (ap (is_isolated_kind isolated) none)
