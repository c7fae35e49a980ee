-- What is assembled of a text has, once its operands are linked, the tree that the text says.
use Rattle.std.proofs.Common.{◌≡◌, ℕ, ◌+◌, ◌<◌, ◌≤◌, false, List, [], map, length, Some, None, slice_get, slice_index, Result, Ok, Err, OnOk, IfOk, refl, sym, subst, ap, ◌∙◌, inl, inr, arith}
use Rattle.std.proofs.lemmas.Option.{slice_get-get_or, slice_get_within}
use Rattle.std.proofs.lemmas.List.{length-map}
use Rattle.ir_program.specs.declared.handles.Ptr.{Ptr}
use Rattle.ir_program.specs.declared.handles.Operation.{Operation}
use Rattle.text_dialect.specs.Seen.{Seen}
use Rattle.text_dialect.specs.Standing.{HasOwnLabel}
use Rattle.ir_print.specs.Shown.{Saying}
use Rattle.text_frames.specs.declared.assembly.Assembly.{Assembly}
use Rattle.text_frames.specs.Linking.{CanLink, Links}
use Rattle.text_frames.specs.Raised.{HoldsAllNew, IsAssembled}
use Rattle.ir_grammar.specs.declared.grammar.Event.{Event}
use Rattle.ir_grammar.specs.declared.grammar.Stop.{Stop}
use Rattle.ir_scopes.specs.declared.scopes.Resolution.{Resolution}
use Rattle.ir_tokens.specs.declared.tokens.Token.{Token}
use Rattle.ir_tokens.specs.Faults.{IsNamed}
use Rattle.ir_forest.specs.Building.{built}
use Rattle.ir_forest.specs.Closed.{definitions_of}
use Rattle.ir_forest.specs.Language.{Language}
use Rattle.ir_forest.specs.Meaning.{renamed}
use Rattle.ir_forest.specs.Progress.{Leads}
use Rattle.ir_grammar.specs.Nesting.{at_root, at_end, OwnTokens}
use Rattle.ir_grammar.specs.Reading.{tooks}
use Rattle.ir_scopes.specs.Naming.{defined_from, mentioned_from, labelled_from, label_mentioned_from}
use Rattle.ir_scopes.specs.Scopes.{IsResolved, definitions, mentions, labels}
use Rattle.ir_rereading.specs.Texts.{IsReading, HasFault}
use Rattle.ir_formats.specs.Words.{token_text}
use Rattle.text_reading.specs.Understood.{IsSaid, IsRead}
use Rattle.ir_forest.proofs.BuiltTrees.{built_ended, built_forest, leads_nests}
use Rattle.ir_rereading.proofs.trees.Closings.{mentions_end}
use Rattle.ir_rereading.proofs.trees.DefinedTokens.{defined_tokens, many_defined, defined_site, mentioned_site, definitions_taken, mentions_taken}
use Rattle.ir_rereading.proofs.trees.LabelNumbers.{label_number, label_meant}
use Rattle.ir_rereading.proofs.trees.LabelTokens.{label_mention_site, label_mentions_taken, many_labels}
use Rattle.ir_rereading.proofs.trees.TreeRenamed.{definitions_renamed}
use Rattle.ir_rereading.proofs.trees.TreeScopes.{definition_tokens}
use Rattle.ir_rereading.proofs.verdicts.TokensTaken.{reading_taken}
use Rattle.text_frames.proofs.Reached.{assembled_values, assembled_distinct, assembled_defined, can_link, root_tree}
use Rattle.text_rereading.specs.Rereading.{Numbering, Named}
use Rattle.text_reading.proofs.Renamed.{renamed_tree}

-- ---- the whole text

module _ (l : Language) (cs : List ℕ) (ts : List Token) (names : List ℕ) (stop : Stop) (n : ℕ) (es : List Event) (r : Resolution) (reading : IsReading l cs ts names stop n es)
    (leads : Leads at_root [] es at_end []) (own : OwnTokens false es) (resolved : IsResolved l.isolated names es r) (enough : length ts ≤ length names) (many : length r.definitions ≡ length names) where
  within : (k : ℕ) → k < tooks es → k < length names
  within k lt = let few = reading_taken l cs ts names stop n es reading in omega arith

  taken_few : tooks es ≤ length names
  taken_few = let few = reading_taken l cs ts names stop n es reading in omega arith

  -- at the token of each definition stands its number
  defined_number : (i k : ℕ) → slice_get (defined_from 0 es) i ≡ Some k → slice_index r.definitions k ≡ i
  defined_number i k h =
      let d = defined_site l.isolated es i k h in
      sym (ap (slice_index r.definitions) d.2) ∙ resolved.values.defined i d.0 d.1 (within d.0.token (definitions_taken l.isolated es own i d.0 d.1))

  -- at the token of each label stands its number
  labelled_number : (i k : ℕ) → slice_get (labelled_from 0 es) i ≡ Some k → slice_index r.definitions k ≡ i
  labelled_number = label_number l.isolated names es r resolved own taken_few

  -- each token of an edge has the number of a label
  edge_number : (i k : ℕ) → slice_get (label_mentioned_from 0 es) i ≡ Some k → (j : ℕ) × (slice_get r.definitions k ≡ Some j) × (j < length (labelled_from 0 es))
  edge_number i k h =
      let m = label_mention_site l.isolated es i k h in
      let means = label_meant l.isolated names es r resolved own taken_few leads i m.0 m.1 in
      let lt = within m.0.token (label_mentions_taken l.isolated es own i m.0 m.1) in
      let at : slice_get r.definitions m.0.token ≡ Some means.0 = slice_get-get_or r.definitions m.0.token 0 (omega arith) ∙ ap (λ x. Some x) means.2 in
      (means.0, sym (ap (slice_get r.definitions) m.2) ∙ at, (let there = slice_get_within (labels l.isolated es) means.0 means.1.0 means.1.1 in omega (arith, many_labels l.isolated es)))

  -- each token that mentions a value has the number of a definition
  mentioned_number : (i k : ℕ) → slice_get (mentioned_from 0 es) i ≡ Some k → (j : ℕ) × (slice_get r.definitions k ≡ Some j) × (j < length (defined_from 0 es))
  mentioned_number i k h =
      let m = mentioned_site l.isolated es i k h in
      let c = mentions_end l.isolated es leads i m.0 m.1 in
      let means = resolved.values.resolved i c.0 m.0 c.1 m.1 c.2 c.3 in
      let lt = within m.0.token (mentions_taken l.isolated es own i m.0 m.1) in
      let number = resolved.values.mentioned i means.0 m.0 m.1 means.1 lt in
      let at : slice_get r.definitions m.0.token ≡ Some means.0 = slice_get-get_or r.definitions m.0.token 0 (omega arith) ∙ ap (λ x. Some x) number in
      (means.0, sym (ap (slice_get r.definitions) m.2) ∙ at, (let there = slice_get_within (definitions l.isolated es) means.0 means.1.0 means.1.1 in omega (arith, many_defined l.isolated es)))

  module _ {K A T : Type 0} (says : Saying K A T) (start s : Seen K A T) (first next : ℕ) (a : Assembly) (made : IsAssembled says l.values (token_text cs ts) start s first next a es) where
    -- each token of an operand means a value that is made, and each label of an edge a block
    pub can_link_all : CanLink s a.values.items a.blocks.items r.definitions a.pending.items
    can_link_all = can_link says l.values (token_text cs ts) start s first next a es made r.definitions mentioned_number edge_number

    module _ (t : Seen K A T) (links : Links s t a.values.items a.blocks.items r.definitions a.pending.items) where
      -- the counter has moved on by the number of the tree's definitions
      moved_on : IsNamed (HasFault l cs ts names stop n es) None → next ≡ first + length (definitions_of (renamed (slice_index r.definitions) (slice_index r.definitions) made.tree))
      moved_on none =
          let number = slice_index r.definitions in
          let forest = built_forest es (leads_nests es at_root [] at_end [] leads) (built_ended es leads) in
          let tokens = definition_tokens l.isolated l.values (token_text cs ts) es (built es).here made.tree forest made.says_so leads (λ f h. none f (inr (inr (inl h)))) in
          let same : definitions_of (renamed number number made.tree) ≡ map number (defined_from 0 es) = definitions_renamed number number made.tree ∙ ap (map number) (tokens ∙ defined_tokens l.isolated es) in
          let many : length (definitions_of (renamed number number made.tree)) ≡ length (defined_from 0 es) = ap (λ (xs : List ℕ). length xs) same ∙ length-map (defined_from 0 es) number in
          let before = made.counted in
          omega (arith, before, many, made.many)

      -- the root is what the text says
      is_said : IsNamed (HasFault l cs ts names stop n es) None → IsSaid says l cs t first next made.root
      is_said none =
          let number = slice_index r.definitions in
          let numbering : Numbering = record {
            values = assembled_values says l.values (token_text cs ts) start s first next a es made;
            blocks = a.blocks.items;
          } in
          let forest = built_forest es (leads_nests es at_root [] at_end [] leads) (built_ended es leads) in record {
            tree = renamed number number made.tree;
            numbering = numbering;
            said = (ts, names, stop, n, es, (built es).here, made.tree, r, reading, none, forest, made.says_so, resolved, refl);
            stands = renamed_tree says (Named numbering) HasOwnLabel number number t made.root made.tree
                (root_tree says l.values (token_text cs ts) start s first next a es made r.definitions t links defined_number labelled_number);
            distinct = assembled_distinct says l.values (token_text cs ts) start s first next a es made;
            below = λ i v x. (assembled_defined says l.values (token_text cs ts) start s first next a es made i v x).1;
            counted = moved_on none;
          }

    root_is : (p : Ptr Operation) → a.root ≡ Some p → made.root ≡ p
    root_is p e = let both : Some made.root ≡ Some p = sym made.stands ∙ e in cc

    module _ (t : Seen K A T) (last : ℕ) {E : Type 0} (result : Result (Ptr Operation) E) where
      -- what is answered was read
      pub answers_read : OnOk result (Links s t a.values.items a.blocks.items r.definitions a.pending.items) → IfOk result (λ p. a.root ≡ Some p)
          → OnOk result (HoldsAllNew start t a.loose.items) → OnOk result (last ≡ next)
          → IsNamed (HasFault l cs ts names stop n es) None → IfOk result (IsRead says l cs start t first last)
      answers_read linked root held same none = go result linked root held same
        where
          go : (result : Result (Ptr Operation) E) → OnOk result (Links s t a.values.items a.blocks.items r.definitions a.pending.items) → IfOk result (λ p. a.root ≡ Some p)
              → OnOk result (HoldsAllNew start t a.loose.items) → OnOk result (last ≡ next) → IfOk result (IsRead says l cs start t first last)
          go (Ok p) links e h k = subst (λ z. IsRead says l cs start t first z p) (sym k) (subst (IsRead says l cs start t first next) (root_is p e)
              (record { tells = is_said t links none; new = subst (HoldsAllNew start t) made.things h }))
          go (Err f) links e h k = tt
