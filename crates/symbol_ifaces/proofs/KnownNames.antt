-- Which names a table knows.
use Rattle.std.proofs.Common.{◌≡◌, ℕ, List, Option, Some, None, refl, sym, ◌∙◌}
use Rattle.std.specs.Prelude.{◌↔◌, IsTrue, is_some}
use Rattle.ir_program.specs.Program.{Program}
use Rattle.ir_program.specs.declared.handles.Operation.{Operation}
use Rattle.ir_program.specs.declared.handles.Ptr.{Ptr}
use Rattle.ir_symbols.specs.Lookups.{IsFoundIn}
use Rattle.ir_symbols.specs.Symbols.{HasOneBlock}
use Rattle.symbol_ifaces.specs.Tables.{Knows}

module _ {O B : Type 0} (name_in : O → Option (List ℕ)) (c : Program O B) (table : Ptr Operation) (name : List ℕ) where
  -- what is found and what isn't differ
  not_both : (q : Ptr Operation) → IsFoundIn name_in c table name None → IsFoundIn name_in c table name (Some q) → ⊥
  not_both q a b =
      let no_block : HasOneBlock c table → ⊥ = λ h. (let e : None ≡ Some q = a.in_body h.0 h.1 ∙ sym (b.in_body h.0 h.1) in cc) in
      let e : Some q ≡ None = b.no_body no_block in cc

  -- a name is known where something is found
  pub known_found : (r : Option (Ptr Operation)) → IsFoundIn name_in c table name r → IsTrue (is_some r) ↔ Knows name_in c table name
  known_found None h = (λ t. cc, λ k. absurd (not_both k.0 h k.1))
  known_found (Some q) h = (λ t. (q, h), λ k. refl)
