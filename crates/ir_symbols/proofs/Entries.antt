-- Names with their operations, half way through the operations of a block.
use Rattle.std.proofs.Common.{◌≡◌, ◌⊎◌, inl, inr, ⊎_elim, ℕ, ◌<◌, Bool, true, false, List, [], ◌∷◌, ◌++◌, length, Option, Some, None, IsSome, cond, slice_get, bytes_eq, refl, sym, subst, ap, ◌∙◌, arith}
use Rattle.std.specs.BTreeMap.{get_by_text}
use Rattle.std.proofs.lemmas.Slice.Eq.{bytes_eq-Decides}
use Rattle.std.proofs.lemmas.Option.{same_Some, slice_get_within}
use Rattle.ir_program.specs.Lists.{operations_in, StandsInBlock, StandOnce}
use Rattle.ir_program.specs.Program.{Program}
use Rattle.ir_program.specs.declared.handles.BasicBlock.{BasicBlock}
use Rattle.ir_program.specs.declared.handles.Operation.{Operation}
use Rattle.ir_program.specs.declared.handles.Ptr.{Ptr}
use Rattle.ir_queries.proofs.Partway.{get-last, get-front, get-middle}
use Rattle.ir_symbols.specs.Collecting.{AreSymbolsAmong, AddsSymbol, IsAmong, IsNamedAlready, IsNotCollectedBy}
use Rattle.ir_symbols.specs.Symbols.{name_at, HasSharedName}
use Rattle.ir_symbols.specs.Tables.{Names, SetsName, AreSymbolsOf}
use Rattle.ir_symbols.specs.declared.errors.SymbolTableErr.{SymbolTableErr}
use Rattle.ir_symbols.specs.declared.errors.SymbolTableErr.TheVariants as err

-- under an equal name is the operation, and under another what was there
pub set_here : (old new : Names) (name other : List ℕ) (op : Ptr Operation) → SetsName old new name op → name ≡ other → get_by_text new other ≡ Some op
set_here old new name other op sets same = sets other ∙ ap (λ b. cond b (Some op) (get_by_text old other)) ((bytes_eq-Decides name other).1 same)

pub set_apart : (old new : Names) (name other : List ℕ) (op : Ptr Operation) → SetsName old new name op → bytes_eq name other ≡ false → get_by_text new other ≡ get_by_text old other
set_apart old new name other op sets differ = sets other ∙ ap (λ b. cond b (Some op) (get_by_text old other)) differ

-- names are equal, or aren't
pub equal_or_not : (name other : List ℕ) → (name ≡ other) ⊎ (bytes_eq name other ≡ false)
equal_or_not name other = by (bytes_eq name other) refl where
  by : (b : Bool) → bytes_eq name other ≡ b → (name ≡ other) ⊎ (bytes_eq name other ≡ false)
  by true e = inl ((bytes_eq-Decides name other).0 e)
  by false e = inr e

-- what is there already in the names is shared by the block
pub not_collected : (There Shared : Type 0) → (There → Shared) → (e : SymbolTableErr) → IsNotCollectedBy There e → IsNotCollectedBy Shared e
not_collected There Shared f err.SymbolRedefined h = f h
not_collected There Shared f err.Memory h = tt
not_collected There Shared f err.DoesNotImplementSymbolTableInterface h = absurd h
not_collected There Shared f err.DoesNotImplementSymbolOpInterface h = absurd h
not_collected There Shared f err.WrongParent h = absurd h
not_collected There Shared f err.WrongInsertionPoint h = absurd h

-- a fact of operations that is told by names: `Member` says which operations there are
module _ (name_of : Ptr Operation → Option (List ℕ)) (Old New : Ptr Operation → Type 0) (old new : Names) (name : List ℕ) (op : Ptr Operation)
    (told : (t : List ℕ) (p : Ptr Operation) → ((get_by_text old t ≡ Some p) → Old p × (name_of p ≡ Some t)) × (Old p × (name_of p ≡ Some t) → get_by_text old t ≡ Some p))
    (named : name_of op ≡ Some name) (sets : SetsName old new name op)
    (kept : (p : Ptr Operation) → Old p → New p) (here : New op)
    (only : (p : Ptr Operation) → New p → Old p ⊎ (p ≡ op))
    (free : (p : Ptr Operation) → get_by_text old name ≡ Some p → p ≡ op) where
  set_forth : (t : List ℕ) (p : Ptr Operation) → get_by_text new t ≡ Some p → New p × (name_of p ≡ Some t)
  set_forth t p e = ⊎_elim
      (λ same. let is : op ≡ p = same_Some op p (sym (set_here old new name t op sets same) ∙ e) in
      (subst New is here, subst (λ x. name_of x ≡ Some t) is (named ∙ ap Some same)))
      (λ no. let r = (told t p).0 (sym (set_apart old new name t op sets no) ∙ e) in (kept p r.0, r.1))
      (equal_or_not name t)

  set_back : (t : List ℕ) (p : Ptr Operation) → New p × (name_of p ≡ Some t) → get_by_text new t ≡ Some p
  set_back t p n = ⊎_elim
      (λ was. ⊎_elim
      (λ same. let is : p ≡ op = free p (subst (λ x. get_by_text old x ≡ Some p) (sym same) ((told t p).1 (was, n.1))) in set_here old new name t op sets same ∙ ap Some (sym is))
      (λ no. set_apart old new name t op sets no ∙ (told t p).1 (was, n.1))
      (equal_or_not name t))
      (λ is. set_here old new name t op sets (same_Some name t (sym named ∙ ap name_of (sym is) ∙ n.1)) ∙ ap Some (sym is))
      (only p n.0)

  pub set_told : (t : List ℕ) (p : Ptr Operation) → ((get_by_text new t ≡ Some p) → New p × (name_of p ≡ Some t)) × (New p × (name_of p ≡ Some t) → get_by_text new t ≡ Some p)
  set_told t p = (set_forth t p, set_back t p)

module _ {O B : Type 0} (name_in : O → Option (List ℕ)) (c : Program O B) where
  pub none_among : (names : Names) → ((t : List ℕ) → get_by_text names t ≡ None) → AreSymbolsAmong name_in c [] names
  none_among names none t p = (λ e. let no : None ≡ Some p = sym (none t) ∙ e in cc, λ n. let no : None ≡ Some p = n.0.1 in cc)

  among_more : (ops : List (Ptr Operation)) (op p : Ptr Operation) → IsAmong ops p → IsAmong (ops ++ op ∷ []) p
  among_more ops op p a = (a.0, get-front ops (op ∷ []) a.0 p a.1)

  among_only : (ops : List (Ptr Operation)) (op p : Ptr Operation) → IsAmong (ops ++ op ∷ []) p → IsAmong ops p ⊎ (p ≡ op)
  among_only ops op p a = ⊎_elim (λ h. inl (a.0, h)) (λ t. inr t.1) (get-last ops op a.0 p a.1)

  pub one_more_among : (ops : List (Ptr Operation)) (op : Ptr Operation) (old new : Names) → AreSymbolsAmong name_in c ops old → AddsSymbol name_in c old new op → AreSymbolsAmong name_in c (ops ++ op ∷ []) new
  one_more_among ops op old new told adds = by (name_at name_in c op) refl where
    unnamed : name_at name_in c op ≡ None → AreSymbolsAmong name_in c (ops ++ op ∷ []) new
    unnamed n t p = subst (λ m. ((get_by_text m t ≡ Some p) → IsAmong (ops ++ op ∷ []) p × (name_at name_in c p ≡ Some t)) × (IsAmong (ops ++ op ∷ []) p × (name_at name_in c p ≡ Some t) → get_by_text m t ≡ Some p)) (sym (adds.unnamed n)) (
      λ e. let r = (told t p).0 e in (among_more ops op p r.0, r.1),
      λ r. ⊎_elim (λ a. (told t p).1 (a, r.1)) (λ is. let no : None ≡ Some t = sym n ∙ ap (name_at name_in c) (sym is) ∙ r.1 in cc) (among_only ops op p r.0),
    )

    by : (o : Option (List ℕ)) → name_at name_in c op ≡ o → AreSymbolsAmong name_in c (ops ++ op ∷ []) new
    by None n = unnamed n
    by (Some name) n = set_told (name_at name_in c) (IsAmong ops) (IsAmong (ops ++ op ∷ [])) old new name op told n (adds.named name n).1
        (among_more ops op) (length ops, get-middle ops [] op) (among_only ops op) (λ p e. let no : None ≡ Some p = sym (adds.named name n).0 ∙ e in cc)

  module _ (block : Ptr BasicBlock) (listed : (block : Ptr BasicBlock) (k : ℕ) (op : Ptr Operation) → slice_get (operations_in c block) k ≡ Some op → StandsInBlock c op block) where
    -- all were met
    pub all_among : (names : Names) → AreSymbolsAmong name_in c (operations_in c block) names → AreSymbolsOf name_in c block names
    all_among names told t p = (
      λ e. let r = (told t p).0 e in record { stands = listed block r.0.0 p r.0.1; named = r.1 },
      λ s. (told t p).1 ((s.stands.index, s.stands.here), s.named),
    )

    -- a name that is there already is one that two operations have
    pub named_twice : StandOnce (operations_in c) → (met rest next : List (Ptr Operation)) (op : Ptr Operation) (names : Names) → operations_in c block ≡ met ++ rest → rest ≡ op ∷ next → AreSymbolsAmong name_in c met names → IsNamedAlready name_in c names op → HasSharedName name_in c block
    named_twice once met rest next op names parts steps told already = by (get_by_text names already.name) refl already.there where
      behind : (xs : List (Ptr Operation)) (k : ℕ) (x : Ptr Operation) → slice_get xs k ≡ Some x → k ≡ length xs → ⊥
      behind xs k x at is = let within : k < length xs = slice_get_within xs k x at in omega (arith, within, is)

      all : operations_in c block ≡ met ++ op ∷ next
      all = parts ∙ ap (λ r. met ++ r) steps

      at : slice_get (operations_in c block) (length met) ≡ Some op
      at = subst (λ xs. slice_get xs (length met) ≡ Some op) (sym all) (get-middle met next op)

      by : (o : Option (Ptr Operation)) → get_by_text names already.name ≡ o → IsSome o → HasSharedName name_in c block
      by None e some = cc
      by (Some q) e some =
          let r = (told already.name q).0 e in
          let before : slice_get (operations_in c block) r.0.0 ≡ Some q = subst (λ xs. slice_get xs r.0.0 ≡ Some q) (sym all) (get-front met (op ∷ next) r.0.0 q r.0.1) in
          record {
            name = already.name;
            one = q;
            other = op;
            apart = λ same. behind met r.0.0 op (subst (λ x. slice_get met r.0.0 ≡ Some x) same r.0.1)
                ((once op block block r.0.0 (length met) (subst (λ x. slice_get (operations_in c block) r.0.0 ≡ Some x) same before) at).1);
            first = record { stands = listed block r.0.0 q before; named = r.1 };
            second = record { stands = listed block (length met) op at; named = already.named };
          }
