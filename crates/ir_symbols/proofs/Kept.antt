-- How a table stays in step with its block.
use Rattle.std.proofs.Common.{◌≡◌, ◌≢◌, ◌⊎◌, inl, inr, ⊎_elim, ℕ, List, [], ◌∷◌, ◌++◌, length, Option, Some, None, IsSome, option_map, option_and_then, unwrap_or, slice_get, insert, remove, refl, sym, subst, ap, ◌∙◌}
use Rattle.std.specs.BTreeMap.{get_by_text}
use Rattle.std.proofs.lemmas.Option.{same_Some}
use Rattle.ir_program.specs.Edits.{EditsBlock}
use Rattle.ir_program.specs.Erased.{ErasesOperation}
use Rattle.ir_program.specs.Lists.{operations_in, StandsInBlock, StandsInside, StandOnce, IsUnlinkedOperation, itself, in_block, in_region, in_operation}
use Rattle.ir_program.specs.Program.{Program, OperationView, BlockView, operation_at, block_at}
use Rattle.ir_program.specs.declared.handles.BasicBlock.{BasicBlock}
use Rattle.ir_program.specs.declared.handles.IRNode.{IRNode}
use Rattle.ir_program.specs.declared.handles.IRNode.TheVariants.{Operation as OperationNode, BasicBlock as BlockNode}
use Rattle.ir_program.specs.declared.handles.Operation.{Operation}
use Rattle.ir_program.specs.declared.handles.Ptr.{Ptr}
use Rattle.ir_queries.proofs.Partway.{get-last, get-front, get-middle}
use Rattle.ir_symbols.specs.Insertions.{CanInsert, InsertsEntry, IsMark, PutsIn, PutsSymbol, put, stays}
use Rattle.ir_symbols.specs.Symbols.{name_at}
use Rattle.ir_symbols.specs.Tables.{Agrees, AreSymbolsOf, TakesEntries}
use Rattle.ir_symbols.specs.declared.tables.SymbolTable.{SymbolTable}
use Rattle.ir_symbols.proofs.Entries.{set_told}
use Rattle.ir_symbols.proofs.Members.{in_longer, still_in, put_in, in_shorter, in_or_not, not_taken}

-- something is there
some_of : {A : Type 0} (o : Option A) → IsSome o → (x : A) × (o ≡ Some x)
some_of None h = cc
some_of (Some x) h = (x, refl)

is_some_of : {A : Type 0} (o p : Option A) → o ≡ p → IsSome p → IsSome o
is_some_of o p e h = subst IsSome (sym e) h

module _ {O B : Type 0} (name_in : O → Option (List ℕ)) (c d : Program O B) (body : Ptr BasicBlock) where
  -- the operations of a block whose list was edited
  edited_list : (f : List (Ptr Operation) → List (Ptr Operation)) → block_at d body ≡ option_map (λ (v : BlockView B). record v { operations = f v.operations }) (block_at c body) → IsSome (block_at c body) → (operations_in d body ≡ f (operations_in c body)) × IsSome (block_at d body)
  edited_list f is live = by (block_at c body) is live where
    list_of : Option (BlockView B) → List (Ptr Operation)
    list_of o = unwrap_or (option_map (λ (v : BlockView B). v.operations) o) []

    by : (o : Option (BlockView B)) → block_at d body ≡ option_map (λ (v : BlockView B). record v { operations = f v.operations }) o → IsSome o → (operations_in d body ≡ f (list_of o)) × IsSome (block_at d body)
    by None e h = cc
    by (Some v) e h = (ap list_of e, subst IsSome (sym e) h)

  -- the same name in both programs
  same_name : (p : Ptr Operation) → operation_at d p ≡ operation_at c p → name_at name_in d p ≡ name_at name_in c p
  same_name p e = ap (λ (o : Option (OperationView O)). option_and_then name_in (option_map (λ v. v.payload) o)) e

module _ {O B : Type 0} (name_in : O → Option (List ℕ)) (c d : Program O B) (table new : SymbolTable) (op : Ptr Operation) (before : Option (Ptr Operation))
    (listed : (block : Ptr BasicBlock) (k : ℕ) (p : Ptr Operation) → slice_get (operations_in c block) k ≡ Some p → StandsInBlock c p block)
    (live : IsSome (operation_at c op)) (there : IsSome (block_at c table.body))
    (can : CanInsert name_in c table op before) (inserts : InsertsEntry name_in c table op new) (agrees : Agrees name_in c table) where
  name : (t : List ℕ) × (name_at name_in c op ≡ Some t)
  name = some_of (name_at name_in c op) can.name.named

  -- the list of the block has the operation more
  abbrev Grows : Type 0
  Grows = (IsSome (block_at d table.body)) × ((p : Ptr Operation) → operation_at d p ≡ operation_at c p)
      × ((k : ℕ) (p : Ptr Operation) → slice_get (operations_in d table.body) k ≡ Some p → ((i : ℕ) × (slice_get (operations_in c table.body) i ≡ Some p)) ⊎ (p ≡ op))
      × ((i : ℕ) (p : Ptr Operation) → slice_get (operations_in c table.body) i ≡ Some p → (k : ℕ) × (slice_get (operations_in d table.body) k ≡ Some p))
      × ((k : ℕ) × (slice_get (operations_in d table.body) k ≡ Some op))

  stood : Grows → (p : Ptr Operation) → StandsInBlock c p table.body → StandsInBlock d p table.body
  stood g p s = let r = g.3 s.index p s.here in record { operation = is_some_of _ _ (g.1 p) s.operation; block = g.0; index = r.0; here = r.1 }

  stands_new : Grows → StandsInBlock d op table.body
  stands_new g = record { operation = is_some_of _ _ (g.1 op) live; block = g.0; index = g.4.0; here = g.4.1 }

  only_new : Grows → (p : Ptr Operation) → StandsInBlock d p table.body → StandsInBlock c p table.body ⊎ (p ≡ op)
  only_new g p s = ⊎_elim (λ r. inl (listed table.body r.0 p r.1)) (λ e. inr e) (g.2 s.index p s.here)

  grown : Grows → IsUnlinkedOperation c op → AreSymbolsOf name_in d table.body new.names
  grown g unlinked t p = (
    λ e. let r = (told t p).0 e in record { stands = r.0; named = same_name name_in c d table.body p (g.1 p) ∙ r.1 },
    λ s. (told t p).1 (s.stands, sym (same_name name_in c d table.body p (g.1 p)) ∙ s.named),
  ) where
    told : (t : List ℕ) (p : Ptr Operation) → ((get_by_text new.names t ≡ Some p) → StandsInBlock d p table.body × (name_at name_in c p ≡ Some t)) × (StandsInBlock d p table.body × (name_at name_in c p ≡ Some t) → get_by_text new.names t ≡ Some p)
    told = set_told (name_at name_in c) (λ p. StandsInBlock c p table.body) (λ p. StandsInBlock d p table.body) table.names new.names name.0 op
        (λ t p. (λ e. let s = (agrees t p).0 e in (s.stands, s.named), λ r. (agrees t p).1 (record { stands = r.0; named = r.1 })))
        name.1 (inserts name.0 name.1).entries (stood g) (stands_new g) (only_new g)
        (λ p e. absurd (can.name.free name.0 name.1 (record { other = p; entry = e; differs = λ same. unlinked table.body (subst (λ x. StandsInBlock c x table.body) same ((agrees name.0 p).0 e).stands) })))

  grows_last : PutsIn c d table.body op None → Grows
  grows_last e =
      let list = edited_list name_in c d table.body (λ xs. xs ++ op ∷ []) e.edited there in (
        list.1,
        e.operations,
        λ k p at. ⊎_elim (λ h. inl (k, h)) (λ t. inr t.1) (get-last (operations_in c table.body) op k p (subst (λ xs. slice_get xs k ≡ Some p) list.0 at)),
        λ i p at. (i, subst (λ xs. slice_get xs i ≡ Some p) (sym list.0) (get-front (operations_in c table.body) (op ∷ []) i p at)),
        (length (operations_in c table.body), subst (λ xs. slice_get xs (length (operations_in c table.body)) ≡ Some op) (sym list.0) (get-middle (operations_in c table.body) [] op)),
      )

  grows_before : (mark : Ptr Operation) → StandsInBlock c mark table.body → PutsIn c d table.body op (Some mark) → Grows
  grows_before mark s puts =
      let e : EditsBlock c d table.body (λ v. record v { operations = insert v.operations s.index op }) = puts table.body s.index s.here in
      let list = edited_list name_in c d table.body (λ xs. insert xs s.index op) e.edited there in
      let new_at = put_in (operations_in c table.body) s.index op in (
        list.1,
        e.operations,
        λ k p at. in_longer (operations_in c table.body) s.index op k p (subst (λ xs. slice_get xs k ≡ Some p) list.0 at),
        λ i p at. let r = still_in (operations_in c table.body) s.index op i p at in (r.0, subst (λ xs. slice_get xs r.0 ≡ Some p) (sym list.0) r.1),
        (new_at.0, subst (λ xs. slice_get xs new_at.0 ≡ Some op) (sym list.0) new_at.1),
      )

  grows : (o : Option (Ptr Operation)) → o ≡ before → PutsIn c d table.body op o → Grows
  grows None is puts = grows_last puts
  grows (Some mark) is puts = let m = subst (IsMark c table.body op) (sym is) can.place.mark in grows_before mark m.1 puts

  stayed : StandsInBlock c op table.body → AreSymbolsOf name_in c table.body new.names
  stayed s t p = (
    λ e. let r = (told t p).0 e in record { stands = r.0; named = r.1 },
    λ s. (told t p).1 (s.stands, s.named),
  ) where
    told : (t : List ℕ) (p : Ptr Operation) → ((get_by_text new.names t ≡ Some p) → StandsInBlock c p table.body × (name_at name_in c p ≡ Some t)) × (StandsInBlock c p table.body × (name_at name_in c p ≡ Some t) → get_by_text new.names t ≡ Some p)
    told = set_told (name_at name_in c) (λ p. StandsInBlock c p table.body) (λ p. StandsInBlock c p table.body) table.names new.names name.0 op
        (λ t p. (λ e. let s = (agrees t p).0 e in (s.stands, s.named), λ r. (agrees t p).1 (record { stands = r.0; named = r.1 })))
        name.1 (inserts name.0 name.1).entries (λ p s. s) s (λ p s. inl s)
        (λ p e. same_Some p op (sym e ∙ (agrees name.0 op).1 (record { stands = s; named = name.1 })))

  -- a table that was in step with its block still is, once an operation was put into both
  pub insert_agrees : PutsSymbol c d table.body op before → Agrees name_in d new
  insert_agrees (put unlinked puts) = subst (λ b. AreSymbolsOf name_in d b new.names) (sym (inserts name.0 name.1).of_same.body) (grown (grows before refl puts) unlinked)
  insert_agrees (stays s same) = subst (λ b. AreSymbolsOf name_in d b new.names) (sym (inserts name.0 name.1).of_same.body) (subst (λ q. AreSymbolsOf name_in q table.body new.names) (sym same) (stayed s))

module _ {O B : Type 0} (name_in : O → Option (List ℕ)) (c d : Program O B) (table new : SymbolTable) (op : Ptr Operation)
    (once : StandOnce (operations_in c))
    (listed : (block : Ptr BasicBlock) (k : ℕ) (p : Ptr Operation) → slice_get (operations_in c block) k ≡ Some p → StandsInBlock c p block)
    (out : StandsInside c (OperationNode op) (BlockNode table.body) → ⊥)
    (erases : ErasesOperation c d op) (takes : TakesEntries table new op) (agrees : Agrees name_in c table) where
  -- an operation of the block isn't inside the one that is erased
  beside : (p : Ptr Operation) → StandsInBlock c p table.body → p ≢ op → (n : IRNode) → n ≡ OperationNode p → StandsInside c (OperationNode op) n → ⊥
  beside p stands differs _ is itself = let same : p ≡ op = cc in differs same
  beside p stands differs _ is (in_region b r h w) = cc
  beside p stands differs _ is (in_operation r q h w) = cc
  beside p stands differs _ is (in_block q b h w) =
      let same : q ≡ p = cc in
      let here : slice_get (operations_in c b) h.index ≡ Some p = subst (λ x. slice_get (operations_in c b) h.index ≡ Some x) same h.here in
      out (subst (λ x. StandsInside c (OperationNode op) (BlockNode x)) (once p b table.body h.index stands.index here stands.here).0 w)

  kept_operation : (p : Ptr Operation) → StandsInBlock c p table.body → p ≢ op → operation_at d p ≡ operation_at c p
  kept_operation p stands differs = erases.operations p (λ w. beside p stands differs (OperationNode p) refl w)

  -- what is left in the block: all but the operation
  abbrev Leaves : Type 0
  Leaves = ((p : Ptr Operation) → StandsInBlock d p table.body → StandsInBlock c p table.body × (p ≢ op)) × ((p : Ptr Operation) → StandsInBlock c p table.body → p ≢ op → StandsInBlock d p table.body)

  -- the operation was one of the block's
  leaves_others : StandsInBlock c op table.body → Leaves
  leaves_others s = (left, leaves) where
    shorter : IsSome (block_at c table.body) → (operations_in d table.body ≡ remove (operations_in c table.body) s.index) × IsSome (block_at d table.body)
    shorter live = edited_list name_in c d table.body (λ xs. remove xs s.index) (erases.holder table.body s.index s.here) live

    left : (p : Ptr Operation) → StandsInBlock d p table.body → StandsInBlock c p table.body × (p ≢ op)
    left p h =
        let r = in_shorter (operations_in c table.body) s.index h.index p (subst (λ xs. slice_get xs h.index ≡ Some p) (shorter s.block).0 h.here) in (
          listed table.body r.0 p r.1,
          λ same. r.2 (once op table.body table.body r.0 s.index (subst (λ x. slice_get (operations_in c table.body) r.0 ≡ Some x) same r.1) s.here).1,
        )

    leaves : (p : Ptr Operation) → StandsInBlock c p table.body → p ≢ op → StandsInBlock d p table.body
    leaves p h differs =
        let r = not_taken (operations_in c table.body) s.index h.index op p s.here h.here differs in
        record { operation = is_some_of _ _ (kept_operation p h differs) h.operation; block = (shorter s.block).1; index = r.0; here = subst (λ xs. slice_get xs r.0 ≡ Some p) (sym (shorter s.block).0) r.1 }

  -- it wasn't
  leaves_all : ((k : ℕ) → slice_get (operations_in c table.body) k ≡ Some op → ⊥) → Leaves
  leaves_all absent = (
    λ p h.
        let at : slice_get (operations_in c table.body) h.index ≡ Some p = subst (λ xs. slice_get xs h.index ≡ Some p) same_list h.here in
        (listed table.body h.index p at, λ is. absent h.index (subst (λ x. slice_get (operations_in c table.body) h.index ≡ Some x) is at)),
    λ p h differs. record { operation = is_some_of _ _ (kept_operation p h differs) h.operation; block = is_some_of _ _ same_block h.block; index = h.index; here = subst (λ xs. slice_get xs h.index ≡ Some p) (sym same_list) h.here },
  ) where
    same_block : block_at d table.body ≡ block_at c table.body
    same_block = erases.blocks table.body out (λ s. absent s.index s.here)

    same_list : operations_in d table.body ≡ operations_in c table.body
    same_list = ap (λ (o : Option (BlockView B)). unwrap_or (option_map (λ (v : BlockView B). v.operations) o) []) same_block

  what_leaves : Leaves
  what_leaves = ⊎_elim (λ r. leaves_others (listed table.body r.0 op r.1)) leaves_all (in_or_not (operations_in c table.body) op)

  told : AreSymbolsOf name_in d table.body new.names
  told t p = (
    λ e.
        let r = (takes.entries t p).0 e in
        let h = (agrees t p).0 r.0 in
        record { stands = what_leaves.1 p h.stands r.1; named = same_name name_in c d table.body p (kept_operation p h.stands r.1) ∙ h.named },
    λ h.
        let was = what_leaves.0 p h.stands in
        (takes.entries t p).1 ((agrees t p).1 (record { stands = was.0; named = sym (same_name name_in c d table.body p (kept_operation p was.0 was.1)) ∙ h.named }), was.1),
  )

  -- a table that was in step with its block still is, once an operation was taken out and erased
  pub erase_agrees : Agrees name_in d new
  erase_agrees = subst (λ b. AreSymbolsOf name_in d b new.names) (sym takes.of_same.body) told
