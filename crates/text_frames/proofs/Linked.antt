-- Operations that get their operands and successors one by one.
use Rattle.std.proofs.Common.{◌≡◌, ◌≢◌, ◌⊎◌, inl, inr, ℕ, zero, suc, ◌+◌, ◌<◌, ◌≤◌, List, [], ◌∷◌, ◌++◌, length, map, take, get_or, slice_get, Option, Some, None, IsSome, option_map, unwrap_or, refl, sym, ap, subst, ◌∙◌, arith, append-nil}
use Rattle.std.proofs.Math.Nat.{eq-or-lt_of_le}
use Rattle.std.proofs.lemmas.Option.{slice_get-map}
use Rattle.ir_program.specs.declared.handles.IRNode.{IRNode}
use Rattle.ir_program.specs.declared.handles.IRNode.TheVariants.{Operation as OperationNode, Region as RegionNode, BasicBlock as BlockNode}
use Rattle.ir_program.specs.declared.handles.Ptr.{Ptr}
use Rattle.ir_program.specs.declared.handles.Operation.{Operation}
use Rattle.ir_program.specs.declared.handles.Region.{Region}
use Rattle.ir_program.specs.declared.handles.BasicBlock.{BasicBlock}
use Rattle.ir_program.specs.declared.handles.Value.{Value}
use Rattle.ir_print.specs.Shown.{Pairs}
use Rattle.text_dialect.specs.Seen.{SeenOperation, Seen}
use Rattle.text_frames.specs.building.Inside.{IsLoose, AreLoose}
use Rattle.text_frames.specs.building.Later.{IsLater}
use Rattle.text_frames.specs.building.Loose.{IsDefinedValue, AreDefined, IsDefinedBlock, AreDefinedBlocks}
use Rattle.text_frames.specs.building.Made.{LinksUses, LinksOperands, LinksSuccessors}
use Rattle.text_frames.proofs.BuildingLemmas.Came.{came_links}
use Rattle.text_frames.proofs.BuildingLemmas.Later.{no_more_uses, more_uses, links_later, defined_later, block_later, links_loose_block, links_loose_operation}
use Rattle.text_frames.proofs.BuildingLemmas.Linked.{with_uses, links_both}
use Rattle.text_frames.proofs.BuildingLemmas.Members.{only_member, take_step}
use Rattle.text_frames.proofs.BuildingLemmas.Options.{is_there, there}
use Rattle.text_frames.specs.Waiting.{Pending}
use Rattle.text_frames.specs.Linking.{meant, target, AreMeant, AreTargets, Links}
use Rattle.text_frames.specs.Raised.{AreWaiting, HoldsAllNew}
use Rattle.text_frames.specs.Worlds.{NameTokens, operands_of, successors_of}
use Rattle.text_frames.proofs.LaterWorlds.{pairs_weaker}
use Rattle.text_frames.proofs.Rising.{get_below}

-- the one beside a token
pair_at : {X : Type 0} (R : X → ℕ → Type 0) (xs : List X) (ks : List ℕ) (i : ℕ) → Pairs R xs ks → i < length ks
    → (x : X) × (slice_get xs i ≡ Some x) × R x (get_or ks i 0)
pair_at R [] [] i h lt = absurd (omega arith)
pair_at R [] (k ∷ ks) i h lt = absurd h
pair_at R (x ∷ xs) [] i h lt = absurd h
pair_at R (x ∷ xs) (k ∷ ks) zero h lt = (x, refl, h.0)
pair_at R (x ∷ xs) (k ∷ ks) (suc i) h lt = pair_at R xs ks i h.1 (omega arith)

module _ {K A T : Type 0} where
  -- ---- what tokens mean

  -- what tokens mean stays in the context
  pub meant_later : (s t : Seen K A T) (values : List (Option Value)) (numbers : List ℕ) (vs : List Value)
      (ks : List ℕ) → IsLater s t → AreMeant s values numbers vs ks → AreMeant t values numbers vs ks
  meant_later s t values numbers vs ks later h = pairs_weaker
      (λ v n. (meant values numbers n ≡ Some v) × IsDefinedValue s v)
      (λ v n. (meant values numbers n ≡ Some v) × IsDefinedValue t v)
      (λ v n x. (x.0, defined_later s t later v x.1)) vs ks h

  -- the value that the token at an index means
  pub named_value : (s : Seen K A T) (values : List (Option Value)) (numbers : List ℕ) (vs : List Value)
      (ks there : List ℕ) (i : ℕ) (o : Option Value) → there ≡ ks → AreMeant s values numbers vs ks
      → i < length there → o ≡ meant values numbers (get_or there i 0)
      → (v : Value) × (slice_get vs i ≡ Some v) × (o ≡ Some v) × IsDefinedValue s v
  named_value s values numbers vs ks there i o e said lt is =
      let here : AreMeant s values numbers vs there = rw e said in
      let p = pair_at (λ v k. (meant values numbers k ≡ Some v) × IsDefinedValue s v) vs there i here lt in
      (p.0, p.1, is ∙ p.2.0, p.2.1)

  -- a value alone that is defined
  pub one_defined : (s : Seen K A T) (v : Value) → IsDefinedValue s v → AreDefined s (v ∷ [])
  one_defined s v h k x at = subst (λ (y : Value). IsDefinedValue s y) (sym (only_member v k x at)) h

  -- an operation that is there is so later
  pub operation_later : (s t : Seen K A T) → IsLater s t → (p : Ptr Operation) → IsSome (s.operation p) → IsSome (t.operation p)
  operation_later s t later p h = let m = is_there (s.operation p) h in let f = later.operations p m.0 m.1 in there (t.operation p) _ f.2

  -- so do the blocks that labels mean
  pub targets_later : (s t : Seen K A T) (blocks : List (Ptr BasicBlock)) (numbers : List ℕ) (bs : List (Ptr BasicBlock))
      (ks : List ℕ) → IsLater s t → AreTargets s blocks numbers bs ks → AreTargets t blocks numbers bs ks
  targets_later s t blocks numbers bs ks later h = pairs_weaker
      (λ b n. (target blocks numbers n ≡ Some b) × IsDefinedBlock s b)
      (λ b n. (target blocks numbers n ≡ Some b) × IsDefinedBlock t b)
      (λ b n x. (x.0, block_later s t later b x.1)) bs ks h

  -- the block that the label at an index means
  pub named_block : (s : Seen K A T) (blocks : List (Ptr BasicBlock)) (numbers : List ℕ) (bs : List (Ptr BasicBlock))
      (ks there : List ℕ) (i : ℕ) (o : Option (Ptr BasicBlock)) → there ≡ ks → AreTargets s blocks numbers bs ks
      → i < length there → o ≡ target blocks numbers (get_or there i 0)
      → (b : Ptr BasicBlock) × (slice_get bs i ≡ Some b) × (o ≡ Some b) × IsDefinedBlock s b
  named_block s blocks numbers bs ks there i o e said lt is =
      let here : AreTargets s blocks numbers bs there = rw e said in
      let p = pair_at (λ b k. (target blocks numbers k ≡ Some b) × IsDefinedBlock s b) bs there i here lt in
      (p.0, p.1, is ∙ p.2.0, p.2.1)

  -- a block alone that is there
  pub one_block : (s : Seen K A T) (b : Ptr BasicBlock) → IsDefinedBlock s b → AreDefinedBlocks s (b ∷ [])
  one_block s b h k x at = subst (λ (y : Ptr BasicBlock). IsDefinedBlock s y) (sym (only_member b k x at)) h

  -- one operand more
  pub linked_more : (s t u : Seen K A T) (p : Ptr Operation) (vs : List Value) (i : ℕ) (v : Value)
      → LinksOperands s t p (take i vs) → slice_get vs i ≡ Some v → LinksOperands t u p (v ∷ [])
      → LinksOperands s u p (take (i + 1) vs)
  linked_more s t u p vs i v front at more = subst (λ (ws : List Value). LinksOperands s u p ws)
      (sym (take_step vs i v at)) (links_both s t u p (take i vs) (v ∷ []) [] [] front more)

  -- one successor more
  pub linked_more_blocks : (s t u : Seen K A T) (p : Ptr Operation) (bs : List (Ptr BasicBlock)) (i : ℕ) (b : Ptr BasicBlock)
      → LinksSuccessors s t p (take i bs) → slice_get bs i ≡ Some b → LinksSuccessors t u p (b ∷ [])
      → LinksSuccessors s u p (take (i + 1) bs)
  linked_more_blocks s t u p bs i b front at more = subst (λ (cs : List (Ptr BasicBlock)). LinksSuccessors s u p cs)
      (sym (take_step bs i b at)) (links_both s t u p [] [] (take i bs) (b ∷ []) front more)

  -- an operation that gets operands, and then successors, gets both
  pub linked_both : (s t u : Seen K A T) (p : Ptr Operation) (vs : List Value) (bs : List (Ptr BasicBlock))
      → LinksOperands s t p vs → LinksSuccessors t u p bs → LinksUses s u p vs bs
  linked_both s t u p vs bs f g = subst (λ (ws : List Value). LinksUses s u p ws bs) (append-nil vs)
      (links_both s t u p vs [] [] bs f g)

  -- ---- loose things

  -- loose things stay loose where an operation gets operands and successors
  pub links_loose : (s t : Seen K A T) (p : Ptr Operation) (vs : List Value) (bs : List (Ptr BasicBlock)) (xs : List IRNode)
      → LinksUses s t p vs bs → AreLoose s xs → AreLoose t xs
  links_loose s t p vs bs xs h loose = record { loose = λ k x at. still x (loose.loose k x at); once = loose.once }
    where
      still : (x : IRNode) → IsLoose s x → IsLoose t x
      still (OperationNode q) l = links_loose_operation s t p vs bs h q l
      still (BlockNode b) l = links_loose_block s t p vs bs h b l
      still (RegionNode r) l = absurd l

  -- all that came is inside them still
  pub holds_links : (start s t : Seen K A T) (p : Ptr Operation) (vs : List Value) (bs : List (Ptr BasicBlock))
      (xs : List IRNode) → LinksUses s t p vs bs → start.operation p ≡ None → HoldsAllNew start s xs → HoldsAllNew start t xs
  holds_links start s t p vs bs xs h new holds = record {
    loose = links_loose s t p vs bs xs h holds.loose;
    came = came_links start s t xs p vs bs holds.came h new;
  }

  -- whatever the start was before which the waiting operations weren't there: what holds all that came since does so
  -- still
  abbrev pub KeepsHeld : Seen K A T → Seen K A T → List Pending → Type 0
  KeepsHeld s t ps = (start : Seen K A T) (names : NameTokens) (xs : List IRNode) → AreWaiting start s ps names
      → HoldsAllNew start s xs → HoldsAllNew start t xs

  -- ---- one operation after the other

  -- The first operations have the operands that their tokens mean, and the successors that their labels mean; the others have none
  -- yet.
  pub record LinksFirst (s t : Seen K A T) (values : List (Option Value)) (labelled : List (Ptr BasicBlock)) (numbers : List ℕ)
      (ps : List Pending) (n : ℕ) : Type 0 where
    pub operations : (p : Ptr Operation) (o : SeenOperation K A) → s.operation p ≡ Some o
        → (vs : List Value) × (bs : List (Ptr BasicBlock)) × (t.operation p ≡ Some (with_uses vs bs o))
    pub operands : (i : ℕ) (x : Pending) → i < n → slice_get ps i ≡ Some x
        → AreMeant s values numbers (operands_of t x.op) x.tokens
    pub successors : (i : ℕ) (x : Pending) → i < n → slice_get ps i ≡ Some x
        → AreTargets s labelled numbers (successors_of t x.op) x.labels
    pub regions : (r : Ptr Region) → t.region r ≡ s.region r
    pub blocks : (b : Ptr BasicBlock) → t.block b ≡ s.block b
    pub types : t.types ≡ s.types
    pub rest : (i : ℕ) (x : Pending) → n ≤ i → slice_get ps i ≡ Some x → t.operation x.op ≡ s.operation x.op

  module _ (s : Seen K A T) (values : List (Option Value)) (blocks : List (Ptr BasicBlock)) (numbers : List ℕ) (ps : List Pending) where
    pub links_first_none : LinksFirst s s values blocks numbers ps 0
    links_first_none = record {
      operations = λ p o e. ([], [], e ∙ no_more_uses o);
      operands = λ i x lt at. absurd (omega (arith, lt));
      successors = λ i x lt at. absurd (omega (arith, lt));
      regions = λ r. refl;
      blocks = λ b. refl;
      types = refl;
      rest = λ i x le at. refl;
    }

    pub links_all : (t : Seen K A T) (n : ℕ) → length ps ≤ n → LinksFirst s t values blocks numbers ps n
        → Links s t values blocks numbers ps
    links_all t n le h = record {
      operations = h.operations;
      regions = h.regions;
      blocks = h.blocks;
      types = h.types;
      operands = λ i x at. let lt = get_below ps i x at in h.operands i x (omega (arith, lt, le)) at;
      successors = λ i x at. let lt = get_below ps i x at in h.successors i x (omega (arith, lt, le)) at;
    }

    -- what is whole stays so
    pub first_later : (t : Seen K A T) (n : ℕ) → LinksFirst s t values blocks numbers ps n → IsLater s t
    first_later t n h = record {
      types = λ i key e. ap (λ ts. slice_get ts i) h.types ∙ e;
      operations = h.operations;
      regions = λ r bs e. h.regions r ∙ e;
      placed = λ b v e at. h.blocks b ∙ e;
      open_blocks = λ b v e. (
        [],
        h.blocks b ∙ e
            ∙ ap (λ (qs : List (Ptr Operation)). Some (record v { operations = qs })) (sym (append-nil v.operations)),
      );
    }

    waiting_op : (i : ℕ) (x : Pending) → slice_get ps i ≡ Some x
        → slice_get (map (λ (z : Pending). z.op) ps) i ≡ Some x.op
    waiting_op i x at = slice_get-map (λ (z : Pending). z.op) ps i ∙ ap (option_map (λ z. z.op)) at

    -- two of the operations are apart
    operations_apart : (start : Seen K A T) (names : NameTokens) → AreWaiting start s ps names
        → (i j : ℕ) (x y : Pending) → slice_get ps i ≡ Some x → slice_get ps j ≡ Some y → (i ≡ j → ⊥) → y.op ≢ x.op
    operations_apart start names w i j x y at to far e = far
        (w.once i j x.op (waiting_op i x at) (waiting_op j y to ∙ ap Some e))

    -- the operands of an operation, if it is there, and its successors
    abbrev operands_or : Option (SeenOperation K A) → List Value
    operands_or z = unwrap_or (option_map (λ (v : SeenOperation K A). v.operands) z) []

    abbrev successors_or : Option (SeenOperation K A) → List (Ptr BasicBlock)
    successors_or z = unwrap_or (option_map (λ (v : SeenOperation K A). v.successors) z) []

    module _ (start : Seen K A T) (names : NameTokens) (w : AreWaiting start s ps names) (t u : Seen K A T) (n : ℕ)
        (x : Pending) (vs : List Value) (bs : List (Ptr BasicBlock))
        (h : LinksFirst s t values blocks numbers ps n) (at : slice_get ps n ≡ Some x)
        (said : AreMeant s values numbers vs x.tokens) (leads : AreTargets s blocks numbers bs x.labels)
        (linked : LinksUses t u x.op vs bs) where
      was : (o : SeenOperation K A) × (s.operation x.op ≡ Some o)
      was = is_there (s.operation x.op) (w.there n x at)

      own : u.operation x.op ≡ Some (with_uses vs bs was.0)
      own = linked.linked ∙ ap (option_map (with_uses vs bs)) (h.rest n x (omega arith) at ∙ was.1)

      linked_own : operands_of u x.op ≡ vs
      linked_own =
          let empty : was.0.operands ≡ [] = sym (ap operands_or was.1) ∙ w.empty n x at in
          ap operands_or own ∙ ap (λ (ws : List Value). ws ++ vs) empty

      linked_own_blocks : successors_of u x.op ≡ bs
      linked_own_blocks =
          let empty : was.0.successors ≡ [] = sym (ap successors_or was.1) ∙ w.no_successors n x at in
          ap successors_or own ∙ ap (λ (cs : List (Ptr BasicBlock)). cs ++ bs) empty

      linked_other : (i : ℕ) (y : Pending) → slice_get ps i ≡ Some y → (n ≡ i → ⊥) → u.operation y.op ≡ t.operation y.op
      linked_other i y to far = linked.others y.op (operations_apart start names w n i x y at to far)

      linked_operands : (i : ℕ) (y : Pending) → (i ≡ n) ⊎ (i < n) → slice_get ps i ≡ Some y
          → AreMeant s values numbers (operands_of u y.op) y.tokens
      linked_operands i y (inl e) to =
          let same : x ≡ y = cc (e, at, to) in
          subst (λ (z : Pending). AreMeant s values numbers (operands_of u z.op) z.tokens) same
          (subst (λ (ws : List Value). AreMeant s values numbers ws x.tokens) (sym linked_own) said)
      linked_operands i y (inr lt) to =
          let kept : operands_of t y.op ≡ operands_of u y.op =
          ap operands_or (sym (linked_other i y to (λ e. omega (arith, e, lt)))) in
          subst (λ (ws : List Value). AreMeant s values numbers ws y.tokens) kept (h.operands i y lt to)

      linked_successors : (i : ℕ) (y : Pending) → (i ≡ n) ⊎ (i < n) → slice_get ps i ≡ Some y
          → AreTargets s blocks numbers (successors_of u y.op) y.labels
      linked_successors i y (inl e) to =
          let same : x ≡ y = cc (e, at, to) in
          subst (λ (z : Pending). AreTargets s blocks numbers (successors_of u z.op) z.labels) same
          (subst (λ (cs : List (Ptr BasicBlock)). AreTargets s blocks numbers cs x.labels) (sym linked_own_blocks) leads)
      linked_successors i y (inr lt) to =
          let kept : successors_of t y.op ≡ successors_of u y.op =
          ap successors_or (sym (linked_other i y to (λ e. omega (arith, e, lt)))) in
          subst (λ (cs : List (Ptr BasicBlock)). AreTargets s blocks numbers cs y.labels) kept (h.successors i y lt to)

      linked_operation : (p : Ptr Operation) (o : SeenOperation K A) → s.operation p ≡ Some o
          → (ws : List Value) × (cs : List (Ptr BasicBlock)) × (u.operation p ≡ Some (with_uses ws cs o))
      linked_operation p o e =
          let before = h.operations p o e in
          let more = (links_later t u x.op vs bs linked).operations p (with_uses before.0 before.1 o) before.2 in
          (before.0 ++ more.0, before.1 ++ more.1, more.2 ∙ more_uses o before.0 more.0 before.1 more.1)

      -- one more operation gets its operands and successors
      pub links_next : LinksFirst s u values blocks numbers ps (n + 1)
      links_next = record {
        operations = linked_operation;
        operands = λ i y lt to. let le : i ≤ n = omega (arith, lt) in linked_operands i y (eq-or-lt_of_le le) to;
        successors = λ i y lt to. let le : i ≤ n = omega (arith, lt) in linked_successors i y (eq-or-lt_of_le le) to;
        regions = λ r. linked.regions r ∙ h.regions r;
        blocks = λ b. linked.blocks b ∙ h.blocks b;
        types = linked.types ∙ h.types;
        rest = λ i y le to. linked_other i y to (λ e. omega (arith, e, le)) ∙ h.rest i y (omega (arith, le)) to;
      }
