-- Tables that are kept by their operations: how they stay in step, and what look-ups in them find.
use Rattle.std.proofs.Common.{◌≡◌, ℕ, Bool, true, false, List, [], ◌∷◌, ◌++◌, Option, Some, None, IsSome, cond, slice_get, refl, sym, subst, ap, ◌∙◌}
use Rattle.std.specs.BTreeMap.{get_by_text}
use Rattle.std.specs.Map.{lookup}
use Rattle.std.proofs.lemmas.Option.{same_Some}
use Rattle.ir_program.specs.Lists.{blocks_in, operations_in, StandsInBlock}
use Rattle.ir_program.specs.Program.{Program, operation_at}
use Rattle.ir_program.specs.declared.handles.BasicBlock.{BasicBlock}
use Rattle.ir_program.specs.declared.handles.Operation.{Operation}
use Rattle.ir_program.specs.declared.handles.Ptr.{Ptr}
use Rattle.ir_symbols.specs.Collections.{same_handle, table_in, AreInStep, KeepsTable, TableEntries, kept, made}
use Rattle.ir_symbols.specs.Lookups.{IsFoundIn}
use Rattle.ir_symbols.specs.Scans.{first_named}
use Rattle.ir_symbols.specs.Symbols.{HasBody, HasOneBlock}
use Rattle.ir_symbols.specs.Tables.{AreSymbolsOf, IsTableOf, Names, SharesName, entry_at}
use Rattle.ir_symbols.specs.declared.tables.SymbolTable.{SymbolTable}
use Rattle.ir_symbols.proofs.Handles.{itself, same_so}
use Rattle.ir_symbols.proofs.NamesFound.{first_found, first_there}

module _ {K X : Type 0} (test : K → Bool) where
  -- what is found stays so in a longer list
  found_still : (es more : List (K × X)) (x : X) → lookup test es ≡ Some x → lookup test (es ++ more) ≡ Some x
  found_still [] more x h = cc
  found_still (e ∷ es) more x h = by (test e.0) (found_still es more x) h where
    by : (b : Bool) → (lookup test es ≡ Some x → lookup test (es ++ more) ≡ Some x) → cond b (Some e.1) (lookup test es) ≡ Some x → cond b (Some e.1) (lookup test (es ++ more)) ≡ Some x
    by true rest h = h
    by false rest h = rest h

  -- what isn't found may be the last
  found_last : (es : List (K × X)) (k : K) (v : X) → lookup test es ≡ None → lookup test (es ++ (k, v) ∷ []) ≡ cond (test k) (Some v) None
  found_last [] k v h = refl
  found_last (e ∷ es) k v h = by (test e.0) (found_last es k v) h where
    by : (b : Bool) → (lookup test es ≡ None → lookup test (es ++ (k, v) ∷ []) ≡ cond (test k) (Some v) None) → cond b (Some e.1) (lookup test es) ≡ None
        → cond b (Some e.1) (lookup test (es ++ (k, v) ∷ [])) ≡ cond (test k) (Some v) None
    by true rest h = cc
    by false rest h = rest h

module _ {O B : Type 0} (c : Program O B) where
  one_head : {X : Type 0} (x y : X) → x ∷ [] ≡ y ∷ [] → x ≡ y
  one_head x y e = cc

  -- an operation has one body at most
  pub one_body : (op : Ptr Operation) (a b : Ptr BasicBlock) → HasBody c op a → HasBody c op b → a ≡ b
  one_body op a b h g =
      let same = one_head h.region g.region (sym h.one_region ∙ g.one_region) in
      one_head a b (sym h.one_block ∙ ap (blocks_in c) same ∙ g.one_block)

module _ {O B : Type 0} (name_in : O → Option (List ℕ)) (holds_table : O → Bool) (c : Program O B) where
  -- where the symbols of an operation have their table, no two have one name
  pub shares_no_name : (op : Ptr Operation) (table : SymbolTable) → IsTableOf name_in holds_table c op table → SharesName name_in holds_table c op → ⊥
  shares_no_name op table is s =
      let body = one_body c op s.0 table.body s.1 is.of_body in
      let entry : (p : Ptr Operation) → StandsInBlock c p s.0 → (named : _) → get_by_text table.names s.2.name ≡ Some p
      = λ p stands named. (is.agrees s.2.name p).1 (record { stands = subst (StandsInBlock c p) body stands; named = named }) in
      s.2.apart (same_Some s.2.one s.2.other (sym (entry s.2.one s.2.first.stands s.2.first.named) ∙ entry s.2.other s.2.second.stands s.2.second.named))

  -- the table of an operation is there afterwards
  pub is_kept : (op : Ptr Operation) (old new : TableEntries) → KeepsTable name_in holds_table c op old new → IsSome (table_in new op)
  is_kept op old _ (kept s) = s
  is_kept op old _ (made none table is) = subst IsSome (sym (found_last (same_handle op) old op table none ∙ ap (λ b. cond b (Some table) None) (itself op))) refl

  -- tables that were in step are so with one more
  in_step_with_more : (op : Ptr Operation) (old : TableEntries) → table_in old op ≡ None → (table : SymbolTable) → IsTableOf name_in holds_table c op table → AreInStep name_in holds_table c old
      → AreInStep name_in holds_table c (old ++ (op, table) ∷ [])
  in_step_with_more op old none table is in_step q u at live = by (table_in old q) refl where
    last : (b : Bool) → same_handle q op ≡ b → cond b (Some table) None ≡ Some u → IsTableOf name_in holds_table c q u
    last true e l = subst (λ x. IsTableOf name_in holds_table c x u) (sym (same_so q op e)) (subst (IsTableOf name_in holds_table c op) (same_Some table u l) is)
    last false e l = cc

    by : (o : Option SymbolTable) → table_in old q ≡ o → IsTableOf name_in holds_table c q u
    by (Some v) e = in_step q u (e ∙ ap Some (same_Some v u (sym (found_still (same_handle q) old ((op, table) ∷ []) v e) ∙ at))) live
    by None e = last (same_handle q op) refl (sym (found_last (same_handle q) old op table e) ∙ at)

  pub still_in_step : (op : Ptr Operation) (old new : TableEntries) → KeepsTable name_in holds_table c op old new → AreInStep name_in holds_table c old → AreInStep name_in holds_table c new
  still_in_step op old _ (kept s) in_step = in_step
  still_in_step op old _ (made none table is) in_step = in_step_with_more op old none table is in_step

  module _ (listed : (block : Ptr BasicBlock) (k : ℕ) (op : Ptr Operation) → slice_get (operations_in c block) k ≡ Some op → StandsInBlock c op block) where
    -- what a table has under a name is what a scan of its block finds
    entry_is_first : (block : Ptr BasicBlock) (names : Names) → AreSymbolsOf name_in c block names → (name : List ℕ) → get_by_text names name ≡ first_named name_in c name (operations_in c block)
    entry_is_first block names told name = by (first_named name_in c name (operations_in c block)) refl where
      none : first_named name_in c name (operations_in c block) ≡ None → (o : Option (Ptr Operation)) → get_by_text names name ≡ o → o ≡ None
      none e None g = refl
      none e (Some q) g =
          let s = (told name q).0 g in
          let there = first_there name_in c name (operations_in c block) s.stands.index q s.stands.here s.named in
          let no : None ≡ Some there.0 = sym e ∙ there.1 in cc

      by : (o : Option (Ptr Operation)) → first_named name_in c name (operations_in c block) ≡ o → get_by_text names name ≡ o
      by (Some p) e = let r = first_found name_in c name (operations_in c block) p e in (told name p).1 (record { stands = listed block r.0 p r.1; named = r.2 })
      by None e = none e (get_by_text names name) refl

    pub found_in_table : (op : Ptr Operation) (table : SymbolTable) → IsTableOf name_in holds_table c op table → (name : List ℕ) → IsFoundIn name_in c op name (entry_at table name)
    found_in_table op table is name = record {
      in_body = λ body h. entry_is_first table.body table.names is.agrees name ∙ ap (λ b. first_named name_in c name (operations_in c b)) (one_body c op table.body body is.of_body h);
      no_body = λ none. absurd (none (table.body, is.of_body));
    }

    -- what is found in the table that is kept of an operation
    pub found_in_kept : (op : Ptr Operation) (old new : TableEntries) → KeepsTable name_in holds_table c op old new → AreInStep name_in holds_table c old → IsSome (operation_at c op)
        → (name : List ℕ) (found : Option (Ptr Operation)) → ((table : SymbolTable) → table_in new op ≡ Some table → found ≡ entry_at table name) → IsFoundIn name_in c op name found
    found_in_kept op old new keeps in_step live name found is = by (table_in new op) refl (is_kept op old new keeps) where
      by : (o : Option SymbolTable) → table_in new op ≡ o → IsSome o → IsFoundIn name_in c op name found
      by None e some = cc
      by (Some table) e some = subst (IsFoundIn name_in c op name) (sym (is table e)) (found_in_table op table (still_in_step op old new keeps in_step op table e live) name)

  -- where an operation hasn't one region with one block, nothing is found in it
  pub none_without_body : (op : Ptr Operation) (name : List ℕ) → (HasOneBlock c op → ⊥) → IsFoundIn name_in c op name None
  none_without_body op name none = record { in_body = λ body h. absurd (none (body, h)); no_body = λ _. refl }
