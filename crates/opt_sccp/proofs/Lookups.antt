-- What is looked up by the numbers of blocks and values.
use Rattle.std.proofs.Common.{◌≡◌, ◌≢◌, ⊎_elim, ℕ, zero, suc, ◌+◌, ◌<◌, Bool, true, false, cond, List, [], ◌∷◌, length, Some, None, slice_get, get_or, unwrap_or, refl, sym, ap, ◌∙◌, subst, arith}
use Rattle.std.specs.Prelude.{not, nat_lt}
use Rattle.std.specs.List.{position, position_or_len}
use Rattle.std.proofs.lemmas.List.Quantifiers.{position-Some}
use Rattle.std.proofs.lemmas.Option.{slice_get-get_or}
use Rattle.ir_program.specs.Replacing.{same_value, same_block}
use Rattle.ir_program.specs.declared.handles.Ptr.{Ptr}
use Rattle.ir_program.specs.declared.handles.BasicBlock.{BasicBlock}
use Rattle.ir_program.specs.declared.handles.Value.{Value}
use Rattle.ir_program.specs.declared.handles.DefiningEntity.{DefiningEntity}
use Rattle.ir_program.specs.declared.handles.DefiningEntity.TheVariants.{Op as ByOp, Block as ByBlock}
use Rattle.ir_program.specs.contracts.handles.ValuePartialEq.TheImpl.{eq-value}
use Rattle.ir_program.proofs.used.Renames.{IsTestOf}
use Rattle.ir_program.proofs.used.Renaming.{value-test, block-test}
use Rattle.ir_trees.specs.Searched.{Lists}
use Rattle.ir_trees.specs.Stands.{by_handle}
use Rattle.opt_rows.specs.declared.known.Known.{Known}
use Rattle.opt_rows.specs.declared.known.Known.TheVariants.{Any}
use Rattle.opt_inside.specs.Numbered.{Numbers}
use Rattle.opt_trees.specs.Facts.{Facts}
use Rattle.opt_inside.specs.facts.ByNumber.{AreFactsBy}

less_tested : (a b : ℕ) → a < b → nat_lt a b ≡ true
less_tested a b h = grind arith

module _ {X : Type 0} (same : X → X → Bool) (test : IsTestOf same) where
  -- where something is found, it stands there
  pub found_at : (xs : List X) (x : X) (i : ℕ) → position (same x) xs ≡ Some i → slice_get xs i ≡ Some x
  found_at xs x i h =
      let f = position-Some (same x) xs i x h in
      ⊎_elim
      (λ (e : x ≡ get_or xs i x). slice_get-get_or xs i x f.0 ∙ ap Some (sym e))
      (λ (ne : x ≢ get_or xs i x). let t : true ≡ false = sym f.1 ∙ test.no x (get_or xs i x) ne in cc)
      (test.decide x (get_or xs i x))

  within : (xs : List X) (x : X) (k : ℕ) → slice_get xs k ≡ Some x → position_or_len (same x) xs < length xs
  within [] x k h = cc
  within (y ∷ ys) x k h = ⊎_elim (λ (e : x ≡ y). here e) (λ (ne : x ≢ y). later k h ne (λ j g. within ys x j g)) (test.decide x y)
    where
      here : x ≡ y → position_or_len (same x) (y ∷ ys) < length (y ∷ ys)
      here e = subst (λ b. cond (not b) (1 + position_or_len (same x) ys) 0 < suc (length ys)) (sym (test.yes x y e)) (let less : 0 < suc (length ys) = omega arith in less)

      later : (j : ℕ) → slice_get (y ∷ ys) j ≡ Some x → x ≢ y → ((j : ℕ) → slice_get ys j ≡ Some x → position_or_len (same x) ys < length ys) → position_or_len (same x) (y ∷ ys) < length (y ∷ ys)
      later zero g ne again = let s : Some y ≡ Some x = g in let e : x ≡ y = cc in absurd (ne e)
      later (suc j) g ne again =
          let inner : position_or_len (same x) ys < length ys = again j g in
          subst (λ b. cond (not b) (1 + position_or_len (same x) ys) 0 < suc (length ys)) (sym (test.no x y ne)) (let less : 1 + position_or_len (same x) ys < suc (length ys) = omega arith in less)

  -- where nothing is found, it isn't of the list
  pub not_found : (xs : List X) (x : X) → position (same x) xs ≡ None → Lists xs x → ⊥
  not_found xs x h listed =
      let t = less_tested (position_or_len (same x) xs) (length xs) (within xs x listed.0 listed.1) in
      let s : Some (position_or_len (same x) xs) ≡ None = ap (λ b. cond b (Some (position_or_len (same x) xs)) None) (sym t) ∙ h in
      cc

abbrev value_of : DefiningEntity → ℕ → Value
value_of e m = record { definer = e; number = m }

tests_agree : (a b : DefiningEntity) (m n : ℕ) → eq-value.it (value_of a m) (value_of b n) ≡ same_value (value_of a m) (value_of b n)
tests_agree (ByOp p) (ByOp q) m n = refl
tests_agree (ByOp p) (ByBlock q) m n = refl
tests_agree (ByBlock p) (ByOp q) m n = refl
tests_agree (ByBlock p) (ByBlock q) m n = refl

-- values compare equal exactly where they are the same
pub value_tests : (v : Value) → ◌≡◌ {A = Value → Bool} (λ w. eq-value.it v w) (λ w. same_value v w)
value_tests v = λ i w. tests_agree v.definer w.definer v.number w.number i

module _ {A : Type 0} (n : Numbers) (runs : List Bool) (known : List (Known A)) (k : Facts by_handle A) (by_number : AreFactsBy n runs known k) where
  pub runs_found : (b : Ptr BasicBlock) (i : ℕ) → position (same_block b) n.blocks ≡ Some i → unwrap_or (slice_get runs i) false ≡ k.runs b
  runs_found b i h = ap (λ o. unwrap_or o false) (by_number.block i b (found_at same_block block-test n.blocks b i h))

  pub runs_not_found : (b : Ptr BasicBlock) → position (same_block b) n.blocks ≡ None → false ≡ k.runs b
  runs_not_found b h = sym (by_number.no_block b (not_found same_block block-test n.blocks b h))

  pub known_found : (v : Value) (i : ℕ) → position (same_value v) n.values ≡ Some i → unwrap_or (slice_get known i) Any ≡ k.of v
  known_found v i h = ap (λ o. unwrap_or o Any) (by_number.value i v (found_at same_value value-test n.values v i h))

  pub known_not_found : (v : Value) → position (same_value v) n.values ≡ None → Any ≡ k.of v
  known_not_found v h = sym (by_number.no_value v (not_found same_value value-test n.values v h))
