-- What a scan finds.
use Rattle.std.proofs.Common.{◌≡◌, ◌≢◌, ⊎_elim, ℕ, zero, suc, Bool, true, false, List, [], ◌∷◌, ◌++◌, Option, Some, None, cond, slice_get, bytes_eq, refl, sym, subst, ap, ◌∙◌, true≢false}
use Rattle.std.specs.Option.{option_map_or}
use Rattle.std.proofs.lemmas.Slice.Eq.{bytes_eq-Decides}
use Rattle.std.proofs.lemmas.Option.{same_Some}
use Rattle.ir_program.specs.Lists.{operations_in, StandsInBlock}
use Rattle.ir_program.specs.Program.{Program}
use Rattle.ir_program.specs.declared.handles.BasicBlock.{BasicBlock}
use Rattle.ir_program.specs.declared.handles.Operation.{Operation}
use Rattle.ir_program.specs.declared.handles.Ptr.{Ptr}
use Rattle.ir_queries.proofs.Partway.{get-last}
use Rattle.ir_symbols.specs.Collecting.{IsFirstOfName, ComesLater}
use Rattle.ir_symbols.specs.Scans.{has_name, first_named}
use Rattle.ir_symbols.specs.Symbols.{name_at, HasSharedName}

module _ {O B : Type 0} (name_in : O → Option (List ℕ)) (c : Program O B) (name : List ℕ) where
  -- an operation has the name exactly where the name is its own
  named_so : (o : Option (List ℕ)) → option_map_or (bytes_eq name) o false ≡ true → o ≡ Some name
  named_so None h = absurd (true≢false (sym h))
  named_so (Some t) h = ap Some (sym ((bytes_eq-Decides name t).0 h))

  passes_so : (o : Option (List ℕ)) → o ≡ Some name → option_map_or (bytes_eq name) o false ≡ true
  passes_so None h = cc
  passes_so (Some t) h = (bytes_eq-Decides name t).1 (sym (same_Some t name h))

  -- what is found is one of them, and has the name
  pub first_found : (ops : List (Ptr Operation)) (q : Ptr Operation) → first_named name_in c name ops ≡ Some q → (k : ℕ) × (slice_get ops k ≡ Some q) × (name_at name_in c q ≡ Some name)
  first_found [] q h = cc
  first_found (p ∷ ps) q h = by (first_found ps q) (has_name name_in c name p) refl h where
    by : (first_named name_in c name ps ≡ Some q → (k : ℕ) × (slice_get ps k ≡ Some q) × (name_at name_in c q ≡ Some name)) → (b : Bool) → has_name name_in c name p ≡ b → cond b (Some p) (first_named name_in c name ps) ≡ Some q → (k : ℕ) × (slice_get (p ∷ ps) k ≡ Some q) × (name_at name_in c q ≡ Some name)
    by further true t e = let same : p ≡ q = same_Some p q e in (zero, e, subst (λ x. name_at name_in c x ≡ Some name) same (named_so (name_at name_in c p) t))
    by further false t e = let r = further e in (suc r.0, r.1, r.2)

  -- where one of them has the name, one is found
  pub first_there : (ops : List (Ptr Operation)) (k : ℕ) (p : Ptr Operation) → slice_get ops k ≡ Some p → name_at name_in c p ≡ Some name → (q : Ptr Operation) × (first_named name_in c name ops ≡ Some q)
  first_there [] k p at named = cc
  first_there (y ∷ ys) k p at named = by (λ i here. first_there ys i p here named) (has_name name_in c name y) refl k at where
    by : ((i : ℕ) → slice_get ys i ≡ Some p → (q : Ptr Operation) × (first_named name_in c name ys ≡ Some q)) → (b : Bool) → has_name name_in c name y ≡ b → (k : ℕ) → slice_get (y ∷ ys) k ≡ Some p → (q : Ptr Operation) × (cond b (Some y) (first_named name_in c name ys) ≡ Some q)
    by further true t k at = (y, refl)
    by further false t zero at = let same : y ≡ p = same_Some y p at in absurd (true≢false (sym (passes_so (name_at name_in c y) (subst (λ x. name_at name_in c x ≡ Some name) (sym same) named)) ∙ t))
    by further false t (suc i) at = further i at

module _ {O B : Type 0} (name_in : O → Option (List ℕ)) (c : Program O B) (block : Ptr BasicBlock) (listed : (block : Ptr BasicBlock) (k : ℕ) (op : Ptr Operation) → slice_get (operations_in c block) k ≡ Some op → StandsInBlock c op block) where
  -- an operation that comes later shares its name with the first one of it
  pub shares : (k : ℕ) (op : Ptr Operation) → slice_get (operations_in c block) k ≡ Some op → ComesLater name_in c (operations_in c block) op → HasSharedName name_in c block
  shares k op at later =
      let there = first_there name_in c later.name (operations_in c block) k op at later.named in
      let found = first_found name_in c later.name (operations_in c block) there.0 there.1 in
      record {
        name = later.name;
        one = there.0;
        other = op;
        apart = λ same. later.later (there.1 ∙ ap Some same);
        first = record { stands = listed block found.0 there.0 found.1; named = found.2 };
        second = record { stands = listed block k op at; named = later.named };
      }

-- each of the operations that were met is the first of all that has its name
abbrev pub AreFirst : {O B : Type 0} → (O → Option (List ℕ)) → Program O B → List (Ptr Operation) → List (Ptr Operation) → Type 0
AreFirst name_in c all met = (k : ℕ) (op : Ptr Operation) → slice_get met k ≡ Some op → IsFirstOfName name_in c all op

module _ {O B : Type 0} (name_in : O → Option (List ℕ)) (c : Program O B) where
  pub one_more : (all met : List (Ptr Operation)) (op : Ptr Operation) → AreFirst name_in c all met → IsFirstOfName name_in c all op → AreFirst name_in c all (met ++ op ∷ [])
  one_more all met op firsts first k p at = ⊎_elim (λ h. firsts k p h) (λ t. subst (IsFirstOfName name_in c all) (sym t.1) first) (get-last met op k p at)

  -- where each is the first of its name, none shares one
  pub shares_none : (block : Ptr BasicBlock) → AreFirst name_in c (operations_in c block) (operations_in c block) → HasSharedName name_in c block → ⊥
  shares_none block firsts s =
      let a = firsts s.first.stands.index s.one s.first.stands.here s.name s.first.named in
      let b = firsts s.second.stands.index s.other s.second.stands.here s.name s.second.named in
      s.apart (same_Some s.one s.other (sym a ∙ b))
