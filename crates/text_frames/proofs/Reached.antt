-- What was assembled of a text has its tree once its operands and successors are linked.
use Rattle.std.proofs.Common.{◌≡◌, ℕ, zero, suc, ◌<◌, List, [], ◌∷◌, length, Option, Some, None, option_and_then, slice_get, slice_index, refl, sym, subst, ap, ◌∙◌, arith, append-nil}
use Rattle.std.proofs.lemmas.Option.{slice_get_within, get_or_from_slice_get}
use Rattle.ir_program.specs.declared.handles.Ptr.{Ptr}
use Rattle.ir_program.specs.declared.handles.Operation.{Operation}
use Rattle.ir_program.specs.declared.handles.BasicBlock.{BasicBlock}
use Rattle.ir_program.specs.declared.handles.Value.{Value}
use Rattle.ir_print.specs.Pieces.{Values}
use Rattle.ir_print.specs.Shown.{Saying}
use Rattle.ir_grammar.specs.declared.grammar.Event.{Event}
use Rattle.ir_scopes.specs.Naming.{defined_from, mentioned_from, labelled_from, label_mentioned_from}
use Rattle.text_dialect.specs.Seen.{Seen}
use Rattle.text_dialect.specs.Standing.{HasTree, HasOwnLabel}
use Rattle.text_frames.specs.building.Later.{IsLater}
use Rattle.text_frames.specs.building.Loose.{IsDefinedValue, IsDefinedBlock}
use Rattle.text_frames.proofs.BuildingLemmas.Later.{defined_later}
use Rattle.text_frames.specs.declared.assembly.Assembly.{Assembly}
use Rattle.text_frames.specs.Waiting.{Pending}
use Rattle.text_frames.specs.Linking.{value_at, meant, target, AreMeant, AreTargets, CanLink, Links}
use Rattle.text_frames.specs.Raised.{names_in, IsAssembled}
use Rattle.text_frames.specs.Worlds.{operands_of, successors_of, End, MeansInTheEnd, MayEndAs}
use Rattle.text_frames.proofs.LaterWorlds.{pairs_weaker}
use Rattle.text_frames.proofs.Rising.{get_there}

-- ---- lists of values, all made

-- each value is made
abbrev pub AllMade : List (Option Value) → Type 0
AllMade xs = (n : ℕ) → n < length xs → (v : Value) × (slice_get xs n ≡ Some (Some v))

-- the values
abbrev pub values_in : List (Option Value) → List Value
values_in [] = []
values_in (None ∷ xs) = values_in xs
values_in (Some v ∷ xs) = v ∷ values_in xs

not_made : {A : Type 0} (v : Value) → Some None ≡ Some (Some v) → A
not_made v h = let inner : None ≡ Some v = ap (option_and_then (λ x. x)) h in cc

same_made : (v w : Value) → Some (Some v) ≡ Some (Some w) → v ≡ w
same_made v w h = let inner : Some v ≡ Some w = ap (option_and_then (λ x. x)) h in cc

rest_made : (x : Option Value) (xs : List (Option Value)) → AllMade (x ∷ xs) → AllMade xs
rest_made x xs all = λ n lt. all (suc n) (omega arith)

made_get : (xs : List (Option Value)) → AllMade xs → (n : ℕ) (v : Value) → slice_get xs n ≡ Some (Some v)
    → slice_get (values_in xs) n ≡ Some v
made_get [] all n v h = let wrong : None ≡ Some (Some v) = h in cc
made_get (None ∷ xs) all n v h = let p = all 0 (omega arith) in not_made p.0 p.1
made_get (Some w ∷ xs) all zero v h = ap (option_and_then (λ x. x)) h
made_get (Some w ∷ xs) all (suc n) v h = made_get xs (rest_made (Some w) xs all) n v h

made_back : (xs : List (Option Value)) → AllMade xs → (n : ℕ) (v : Value) → slice_get (values_in xs) n ≡ Some v
    → slice_get xs n ≡ Some (Some v)
made_back [] all n v h = let wrong : None ≡ Some v = h in cc
made_back (None ∷ xs) all n v h = let p = all 0 (omega arith) in not_made p.0 p.1
made_back (Some w ∷ xs) all zero v h = ap (λ x. Some x) h
made_back (Some w ∷ xs) all (suc n) v h = made_back xs (rest_made (Some w) xs all) n v h

made_length : (xs : List (Option Value)) → AllMade xs → length (values_in xs) ≡ length xs
made_length [] all = refl
made_length (None ∷ xs) all = let p = all 0 (omega arith) in not_made p.0 p.1
made_length (Some v ∷ xs) all = ap suc (made_length xs (rest_made (Some v) xs all))

-- ---- what tokens mean

module _ {K A T : Type 0} (s : Seen K A T) (values : List (Option Value)) (numbers : List ℕ) where
  -- where each token means a value, together they do
  all_meant : (ks : List ℕ) → ((i k : ℕ) → slice_get ks i ≡ Some k
      → (v : Value) × (meant values numbers k ≡ Some v) × IsDefinedValue s v)
      → (vs : List Value) × AreMeant s values numbers vs ks
  all_meant [] each = ([], tt)
  all_meant (k ∷ ks) each =
      let first = each 0 k refl in
      let more = all_meant ks (λ i j h. each (suc i) j h) in
      (first.0 ∷ more.0, ((first.1, first.2), more.1))

module _ {K A T : Type 0} (s : Seen K A T) (blocks : List (Ptr BasicBlock)) (numbers : List ℕ) where
  -- where each label means a block, together they do
  all_targets : (ks : List ℕ) → ((i k : ℕ) → slice_get ks i ≡ Some k
      → (b : Ptr BasicBlock) × (target blocks numbers k ≡ Some b) × IsDefinedBlock s b)
      → (bs : List (Ptr BasicBlock)) × AreTargets s blocks numbers bs ks
  all_targets [] each = ([], tt)
  all_targets (k ∷ ks) each =
      let first = each 0 k refl in
      let more = all_targets ks (λ i j h. each (suc i) j h) in
      (first.0 ∷ more.0, ((first.1, first.2), more.1))

-- the number of the block that a label means has the block
target_block : (blocks : List (Ptr BasicBlock)) (numbers : List ℕ) (b : Ptr BasicBlock) (k : ℕ)
    → target blocks numbers k ≡ Some b → slice_get blocks (slice_index numbers k) ≡ Some b
target_block blocks numbers b k h = go (slice_get numbers k) refl h
  where
    go : (o : Option ℕ) → slice_get numbers k ≡ o → option_and_then (slice_get blocks) o ≡ Some b
        → slice_get blocks (slice_index numbers k) ≡ Some b
    go None e m = let wrong : None ≡ Some b = m in cc
    go (Some n) e m = ap (slice_get blocks) (get_or_from_slice_get numbers k n 0 e) ∙ m

module _ (values : List (Option Value)) (numbers : List ℕ) where
  -- the number of the definition that a token means has the value
  meant_value : AllMade values → (v : Value) (k : ℕ) → meant values numbers k ≡ Some v
      → slice_get (values_in values) (slice_index numbers k) ≡ Some v
  meant_value all v k h = go (slice_get numbers k) refl h
    where
      at_number : (o : Option (Option Value)) (n : ℕ) → slice_get values n ≡ o → option_and_then (λ x. x) o ≡ Some v
          → slice_get (values_in values) n ≡ Some v
      at_number None n e m = let wrong : None ≡ Some v = m in cc
      at_number (Some w) n e m = made_get values all n v (e ∙ ap (λ x. Some x) m)

      go : (o : Option ℕ) → slice_get numbers k ≡ o → option_and_then (value_at values) o ≡ Some v
          → slice_get (values_in values) (slice_index numbers k) ≡ Some v
      go None e m = let wrong : None ≡ Some v = m in cc
      go (Some n) e m = ap (slice_get (values_in values)) (get_or_from_slice_get numbers k n 0 e)
          ∙ at_number (slice_get values n) n refl m

-- ---- linking keeps what is whole

module _ {K A T : Type 0} (s t : Seen K A T) (values : List (Option Value)) (blocks : List (Ptr BasicBlock))
    (numbers : List ℕ) (ps : List Pending) (links : Links s t values blocks numbers ps) where
  pub all_links_later : IsLater s t
  all_links_later = record {
    types = λ i key e. ap (λ ts. slice_get ts i) links.types ∙ e;
    operations = links.operations;
    regions = λ r bs e. links.regions r ∙ e;
    placed = λ b v e at. links.blocks b ∙ e;
    open_blocks = λ b v e. (
      [],
      links.blocks b ∙ e
          ∙ ap (λ (qs : List (Ptr Operation)). Some (record v { operations = qs })) (sym (append-nil v.operations)),
    );
  }

-- ---- the whole text

module _ {K A T : Type 0} (says : Saying K A T) (values : Values) (text : ℕ → List ℕ) (start s : Seen K A T)
    (first next : ℕ) (a : Assembly) (es : List Event)
    (made : IsAssembled says values text start s first next a es) where
  -- each definition has a value
  pub all_made : AllMade a.values.items
  all_made = λ i lt. let p = made.settled i lt in (p.0, p.1)

  -- the values of the definitions, by their numbers
  abbrev pub assembled_values : List Value
  assembled_values = values_in a.values.items

  pub assembled_many : length assembled_values ≡ length (defined_from 0 es)
  assembled_many = made_length a.values.items all_made ∙ sym made.many

  -- no two of them have one number
  pub assembled_distinct : (i j : ℕ) (v w : Value) → slice_get assembled_values i ≡ Some v
      → slice_get assembled_values j ≡ Some w → v.number ≡ w.number → i ≡ j
  assembled_distinct i j v w x y e = made.distinct i j v w (made_back a.values.items all_made i v x)
      (made_back a.values.items all_made j w y) e

  -- each is defined, and has a number below the counter
  pub assembled_defined : (i : ℕ) (v : Value) → slice_get assembled_values i ≡ Some v
      → IsDefinedValue s v × (v.number < next)
  assembled_defined i v x =
      let at = made_back a.values.items all_made i v x in
      let p = made.settled i (slice_get_within a.values.items i (Some v) at) in
      let same : p.0 ≡ v = same_made p.0 v (sym p.1 ∙ at) in
      (subst (λ (w : Value). IsDefinedValue s w) same p.2, subst (λ (w : Value). w.number < next) same p.3)

  module _ (numbers : List ℕ) where
    -- where each token that mentions a value has the number of a definition, each token of an operand means a value
    can_link_values : ((i k : ℕ) → slice_get (mentioned_from 0 es) i ≡ Some k
        → (j : ℕ) × (slice_get numbers k ≡ Some j) × (j < length (defined_from 0 es)))
        → (i : ℕ) (x : Pending) → slice_get a.pending.items i ≡ Some x
        → (vs : List Value) × AreMeant s a.values.items numbers vs x.tokens
    can_link_values mentioned = λ i x at. all_meant s a.values.items numbers x.tokens (λ j k here.
        let among = made.operands.among i x at j k here in
        let number = mentioned among.0 k among.1 in
        let value = made.settled number.0 (let lt = number.2 in omega (arith, made.many)) in (
          value.0,
          ap (option_and_then (value_at a.values.items)) number.1
              ∙ ap (option_and_then (λ v. v)) value.1,
          value.2,
        ))

    -- where each label of an edge has the number of a block's label, it means a block
    can_link_blocks : ((i k : ℕ) → slice_get (label_mentioned_from 0 es) i ≡ Some k
        → (j : ℕ) × (slice_get numbers k ≡ Some j) × (j < length (labelled_from 0 es)))
        → (i : ℕ) (x : Pending) → slice_get a.pending.items i ≡ Some x
        → (bs : List (Ptr BasicBlock)) × AreTargets s a.blocks.items numbers bs x.labels
    can_link_blocks mentioned = λ i x at. all_targets s a.blocks.items numbers x.labels (λ j k here.
        let among = made.operands.labels_among i x at j k here in
        let number = mentioned among.0 k among.1 in
        let block = get_there a.blocks.items number.0 (let lt = number.2 in omega (arith, lt, made.many_blocks)) in (
          block.0,
          ap (option_and_then (slice_get a.blocks.items)) number.1 ∙ block.1,
          made.blocks_there number.0 block.0 block.1,
        ))

    -- where both do, all can be linked
    pub can_link : ((i k : ℕ) → slice_get (mentioned_from 0 es) i ≡ Some k
        → (j : ℕ) × (slice_get numbers k ≡ Some j) × (j < length (defined_from 0 es)))
        → ((i k : ℕ) → slice_get (label_mentioned_from 0 es) i ≡ Some k
        → (j : ℕ) × (slice_get numbers k ≡ Some j) × (j < length (labelled_from 0 es)))
        → CanLink s a.values.items a.blocks.items numbers a.pending.items
    can_link mentioned edges = record { operands = can_link_values mentioned; successors = can_link_blocks edges }

    module _ (t : Seen K A T) (links : Links s t a.values.items a.blocks.items numbers a.pending.items) where
      -- where making ends
      abbrev pub the_end : End K A T
      the_end = record { ctx = t; values = assembled_values; blocks = a.blocks.items; number = slice_index numbers }

      pub assembled_later : IsLater s t
      assembled_later = all_links_later s t a.values.items a.blocks.items numbers a.pending.items links

      -- what was assembled ends so, where at the token of each definition stands its number, and at each label that of its block
      pub reached : ((i k : ℕ) → slice_get (defined_from 0 es) i ≡ Some k → slice_index numbers k ≡ i)
          → ((i k : ℕ) → slice_get (labelled_from 0 es) i ≡ Some k → slice_index numbers k ≡ i)
          → MayEndAs (record {
            ctx = s;
            values = a.values.items;
            blocks = a.blocks.items;
            names = names_in es;
            pending = a.pending.items;
          }) the_end
      reached defined labelled = record {
        ctx = assembled_later;
        values = λ i x h. made_get a.values.items all_made i x h;
        blocks = λ i b h. h;
        definitions = defined;
        labels = labelled;
        operands = λ i x h. pairs_weaker (λ v k. (meant a.values.items numbers k ≡ Some v) × IsDefinedValue s v)
            (MeansInTheEnd the_end).value
            (λ v k m. meant_value a.values.items numbers all_made v k m.0) (operands_of t x.op) x.tokens
            (links.operands i x h);
        successors = λ i x h. pairs_weaker (λ b k. (target a.blocks.items numbers k ≡ Some b) × IsDefinedBlock s b)
            (MeansInTheEnd the_end).block
            (λ b k m. target_block a.blocks.items numbers b k m.0) (successors_of t x.op) x.labels
            (links.successors i x h);
      }

      -- then the root has the tree that was built, in which each token names the value of its definition, or its block
      pub root_tree : ((i k : ℕ) → slice_get (defined_from 0 es) i ≡ Some k → slice_index numbers k ≡ i)
          → ((i k : ℕ) → slice_get (labelled_from 0 es) i ≡ Some k → slice_index numbers k ≡ i)
          → HasTree says (MeansInTheEnd the_end) HasOwnLabel t made.root made.tree
      root_tree defined labelled = made.made the_end (reached defined labelled)

      -- the values are defined still
      pub assembled_still : (i : ℕ) (v : Value) → slice_get assembled_values i ≡ Some v → IsDefinedValue t v
      assembled_still i v x = defined_later s t assembled_later v (assembled_defined i v x).0
