-- What is printed is read again.
use Rattle.std.proofs.Common.{◌≡◌, ℕ, suc, ◌+◌, ◌<◌, ◌≤◌, ◌^◌, true, List, [], ◌∷◌, ◌++◌, map, length, chars, Option, Some, None, slice_get, slice_index, refl, sym, ap, subst, ◌∙◌, arith, inl, inr}
use Rattle.std.specs.Option.{option_map, option_map_or}
use Rattle.std.proofs.lemmas.Option.{slice_get-map}
use Rattle.std.proofs.lemmas.List.{length-map}
use Rattle.ir_names.specs.Tree.{Trees}
use Rattle.ir_print.specs.Pieces.{Entity, no_entity, an_entity}
use Rattle.ir_print.specs.Shown.{Pairs}
use Rattle.ir_grammar.specs.declared.grammar.Event.{Event}
use Rattle.ir_grammar.specs.declared.grammar.Grammar.{Grammar}
use Rattle.ir_grammar.specs.declared.grammar.Stop.TheVariants as stops
use Rattle.ir_tokens.specs.declared.tokens.Token.{Token}
use Rattle.ir_tokens.specs.declared.tokens.TokenKind.{TokenKind}
use Rattle.ir_tokens.specs.declared.faults.Fault.{Fault}
use Rattle.ir_scopes.specs.declared.scopes.Resolution.{Resolution}
use Rattle.ir_scopes.specs.declared.sites.Site.{Site}
use Rattle.ir_forest.specs.Closed.{IsClosedTree, IsNumbered, AllDistinct, definitions_of, unlabelled, IsLabelled, IsScopedRoot, IsIsolatedRoot, IsSameModule}
use Rattle.ir_forest.specs.Forest.{ActionSpan, IsForestOf}
use Rattle.ir_forest.specs.Meaning.{operations_in, renamed}
use Rattle.ir_grammar.specs.Nesting.{at_root, at_end, Nests}
use Rattle.ir_formats.specs.Ordered as ordered
use Rattle.ir_formats.specs.Ordered.{is_ordered}
use Rattle.ir_rereading.specs.Outer.{has_outer_operands}
use Rattle.ir_rereading.specs.Printable.{is_printable}
use Rattle.ir_forest.specs.Progress.{Leads}
use Rattle.ir_grammar.specs.Reading.{Reads}
use Rattle.ir_formats.specs.Rules.{words_of, rules_of, with_words, IsGrammarOf}
use Rattle.ir_scopes.specs.Scopes.{definitions, mentions, labels, closings, label_mentions, label_closings, value_names, label_names, name_of, Means, NamesAreApart, Resolves, IsAgain, IsUnresolvedName}
use Rattle.ir_rereading.specs.Texts.{IsReading, HasFault, Says}
use Rattle.ir_formats.specs.Words.{token_text, text_of, kind_of, name_number, spelled_texts, AlikeInNumber}
use Rattle.ir_forest.specs.Language.{Language}
use Rattle.ir_tokens.specs.Faults.{IsNamed}
use Rattle.ir_tokens.specs.Tokens.{ReadsAs, Spells, ClosesText, closing, plain, escaped, LastIfBad}
use Rattle.ir_tokens.specs.declared.tokens.TokenKind.TheVariants as kinds
use Rattle.ir_rereading.proofs.DerivedReads.{derived_reads}
use Rattle.ir_rereading.proofs.layouts.LayoutDerives.{layout_derives}
use Rattle.ir_rereading.proofs.layouts.LayoutFaults.{no_number_fault, no_names_fault, no_deep_fault}
use Rattle.ir_rereading.proofs.layouts.LayoutOperations.{IsPlainTree}
use Rattle.ir_rereading.proofs.layouts.LayoutPlain.{plain_tree, printed_bare}
use Rattle.ir_rereading.proofs.layouts.LayoutTokens.{layout_tokens}
use Rattle.ir_rereading.proofs.layouts.LayoutTrees.{layout_tree}
use Rattle.ir_rereading.proofs.layouts.Marks.{Mark, characters, tokens, events, marks, IsSpelt, kind_of_text, kind_by}
use Rattle.ir_formats.proofs.Ordered.{text_ends}
use Rattle.ir_rereading.proofs.layouts.PlainWords.{words_plain}
use Rattle.ir_formats.proofs.Spelled.{alike_by}
use Rattle.ir_rereading.proofs.verdicts.TextReadings.{orders, leads_along, read_in_order}
use Rattle.ir_rereading.proofs.trees.TreeAgain.{AtBlock, blocks_apart, tree_again, blocks_again, edges_again}
use Rattle.ir_rereading.proofs.trees.TreeAlike.{Alike}
use Rattle.ir_rereading.proofs.trees.TreeClosed.{closed_renamed}
use Rattle.ir_rereading.proofs.trees.TreeLabels.{labels_apart, labelled_renamed}
use Rattle.ir_rereading.proofs.trees.LabelTexts.{tree_blocks}
use Rattle.ir_rereading.proofs.trees.LabelTokens.{labels_taken, label_mentions_taken}
use Rattle.ir_rereading.proofs.trees.TreeEdges.{Linked, LinkedToken, edge_tokens, edges_linked}
use Rattle.ir_rereading.proofs.trees.TreeRenamed.{successors_of}
use Rattle.ir_rereading.proofs.trees.TreeSites.{In}
use Rattle.ir_rereading.proofs.trees.TreeNumbers.{resolution}
use Rattle.ir_rereading.proofs.trees.RootOpenings.{no_root_fault, isolated_of_renamed}
use Rattle.ir_rereading.proofs.trees.TreeScopes.{definition_tokens, mention_tokens}
use Rattle.ir_rereading.proofs.TreeTexts.{value_spelled, label_spelled, label_mention_spelled, spelled_alike, numbered_alike, has_own, all_numbered, names_apart, definitions_within, mentions_within, text_none_again, text_none_lacking, text_means}

-- ---- kinds of tokens

kinds_by : (ws : List (List ℕ)) (cs : List ℕ) (ts : List Token) (xs : List (List ℕ)) → map (text_of cs) ts ≡ xs → map (λ (t : Token). t.kind) ts ≡ map kind_of_text xs → map (kind_of ws cs) ts ≡ map (kind_by ws) xs
kinds_by ws cs [] [] e k = refl
kinds_by ws cs [] (x ∷ xs) e k = absurd (cc)
kinds_by ws cs (t ∷ ts) [] e k = absurd (cc)
kinds_by ws cs (t ∷ ts) (x ∷ xs) e k =
    let text : text_of cs t ≡ x = cc in
    let sort : t.kind ≡ kind_of_text x = cc in
    let texts : map (text_of cs) ts ≡ xs = cc in
    let sorts : map (λ (u : Token). u.kind) ts ≡ map kind_of_text xs = cc in
    let first : kind_of ws cs t ≡ kind_by ws x = rw (text, sort) refl in
    let rest = kinds_by ws cs ts xs texts sorts in cc

-- ---- tokens are no more than characters

closes_more : (cs : List ℕ) (i j : ℕ) → ClosesText cs i j → i < j
closes_more cs i j (closing e k) = omega arith
closes_more cs i j (plain {n = m} a b e more) = let h = closes_more cs m j more in omega arith
closes_more cs i j (escaped {n = m} a e more) = let h = closes_more cs m j more in omega arith

spells_some : (cs : List ℕ) (i j : ℕ) (k : TokenKind) → Spells cs i j k → (k ≡ kinds.Bad → ⊥) → i < j
spells_some cs i j kinds.Name s b = s.0
spells_some cs i j kinds.Dotted s b = let a = s.1.0 in let c = s.3.0 in omega arith
spells_some cs i j kinds.Digits s b = s.0
spells_some cs i j kinds.Negative s b = let a = s.1.0 in omega arith
spells_some cs i j kinds.Mark s b = let a = s.1.0 in omega arith
spells_some cs i j kinds.Text s b = let a = closes_more cs (i + 1) j s.1 in omega arith
spells_some cs i j (kinds.Sign c) s b = let a = s.2 in omega arith
spells_some cs i j kinds.Arrow s b = let a = s.2 in omega arith
spells_some cs i j kinds.InMemory s b = let a = s.1 in omega arith
spells_some cs i j kinds.Bad s b = absurd (b refl)

tokens_few : (cs : List ℕ) (i : ℕ) (ts : List Token) → i ≤ length cs → ReadsAs cs i ts → i + length ts ≤ length cs
tokens_few cs i [] le r = omega arith
tokens_few cs i (t ∷ ts) le r = go t.kind refl r.3 (tokens_few cs t.end ts r.2.inside)
  where
    more : (k : TokenKind) → t.kind ≡ k → (k ≡ kinds.Bad → ⊥) → t.end + length ts ≤ length cs → i + suc (length ts) ≤ length cs
    more k e b h =
        let low = r.0 in
        let some = spells_some cs t.start t.end t.kind r.2.spelled (λ w. b (sym e ∙ w)) in omega arith

    go : (k : TokenKind) → t.kind ≡ k → LastIfBad k (ts ≡ []) (ReadsAs cs t.end ts) → (ReadsAs cs t.end ts → t.end + length ts ≤ length cs) → i + suc (length ts) ≤ length cs
    go kinds.Bad e last again = let low = r.0 in let here = r.2.begins in let zero_more : length ts ≡ 0 = ap length last in omega arith
    go kinds.Name e rest again = more kinds.Name e (λ w. cc) (again rest)
    go kinds.Dotted e rest again = more kinds.Dotted e (λ w. cc) (again rest)
    go kinds.Digits e rest again = more kinds.Digits e (λ w. cc) (again rest)
    go kinds.Negative e rest again = more kinds.Negative e (λ w. cc) (again rest)
    go kinds.Mark e rest again = more kinds.Mark e (λ w. cc) (again rest)
    go kinds.Text e rest again = more kinds.Text e (λ w. cc) (again rest)
    go (kinds.Sign c) e rest again = more (kinds.Sign c) e (λ w. cc) (again rest)
    go kinds.Arrow e rest again = more kinds.Arrow e (λ w. cc) (again rest)
    go kinds.InMemory e rest again = more kinds.InMemory e (λ w. cc) (again rest)

-- ---- a whole text

module _ (l : Language) (lead : ordered.PartPositions) (ok : is_ordered lead (rules_of l.formats) ≡ true) (printable : is_printable l.formats ≡ true) (outer : has_outer_operands l.formats ≡ true)
    (g : Grammar) (known : IsGrammarOf l.formats g) (t : Entity ℕ) (p : Entity (List ℕ)) (ν μ : ℕ → List ℕ)
    (closed : IsClosedTree l t) (numbered : IsNumbered t) (same : unlabelled p ≡ unlabelled (renamed ν μ t)) (distinct : AllDistinct (definitions_of p)) (spelt : IsSpelt p) (labels_differ : IsLabelled p) where
  abbrev ms : List Mark
  ms = marks l.formats p

  abbrev cs : List ℕ
  cs = characters ms ++ 10 ∷ []

  abbrev es : List Event
  es = events ms

  there : IsClosedTree l p
  there = closed_renamed ν μ l t p closed same (printed_bare ν μ p t same closed.bare)

  plain_there : IsPlainTree p
  plain_there = plain_tree l.formats l.values p outer there.fits there.bare

  lexed : (ts : List Token) × ReadsAs cs 0 ts × (map (text_of cs) ts ≡ tokens ms) × (map (λ (x : Token). x.kind) ts ≡ map kind_of_text (tokens ms))
  lexed = layout_tokens l.formats l.values p printable there.fits spelt

  abbrev ts : List Token
  ts = lexed.0

  abbrev ws : List (List ℕ)
  ws = words_of l.formats

  abbrev numbers : List ℕ
  numbers = map (name_number (with_words [] (spelled_texts cs ts)) 0 cs) ts

  alike : AlikeInNumber cs ts numbers
  alike = alike_by cs [] ts 0 numbers refl

  kinds_are : map (kind_of (map chars ws) cs) ts ≡ map (kind_by ws) (tokens ms)
  kinds_are = ap (λ us. map (kind_of us cs) ts) (words_plain l.formats printable) ∙ kinds_by ws cs ts (tokens ms) lexed.2 lexed.3

  low : ((fault : Fault) → Rattle.ir_scopes.specs.Depth.IsTooDeep es fault → ⊥) × (Rattle.ir_grammar.specs.Reading.OpensMore 64 0 es → ⊥)
  low = no_deep_fault l.formats l.values p there.fits plain_there there.operation spelt there.shallow

  abbrev n : ℕ
  n = length (map (kind_by ws) (tokens ms))

  reads : Reads g 0 64 (map (kind_by ws) (tokens ms)) stops.Text n es
  reads = derived_reads g (map (kind_by ws) (tokens ms)) es known.readable (layout_derives l.formats l.values g p known printable outer there.fits there.operation spelt) low.1

  reading : IsReading l cs ts numbers stops.Text n es
  reading = record { tokens = lexed.1; numbered = (let many = length-map ts (name_number (with_words [] (spelled_texts cs ts)) 0 cs) in omega (arith, many)); alike = alike; reads = (g, known, subst (λ ks. Reads g 0 64 ks stops.Text n es) (sym kinds_are) reads) }

  abbrev text : ℕ → List ℕ
  text k = token_text cs ts k

  has_text : (k : ℕ) (x : List ℕ) → slice_get (tokens ms) k ≡ Some x → text k ≡ x
  has_text k x h =
      let at : option_map (text_of cs) (slice_get ts k) ≡ Some x = sym (slice_get-map (text_of cs) ts k) ∙ (ap (λ us. slice_get us k) lexed.2 ∙ h) in
      go (slice_get ts k) refl at
    where
      go : (o : Option Token) → slice_get ts k ≡ o → option_map (text_of cs) o ≡ Some x → option_map_or (text_of cs) o [] ≡ x
      go None e a = absurd (cc)
      go (Some u) e a = cc

  built : (forest : Trees ActionSpan) × (tree : Entity ℕ) × IsForestOf es forest × (operations_in l.values text [] forest ≡ an_entity tree no_entity) × (renamed text text tree ≡ p) × Rattle.ir_forest.specs.ValueFaults.AreSound l.values text forest
  built = layout_tree l.formats l.values p text there.fits plain_there there.operation spelt has_text

  abbrev tree : Entity ℕ
  tree = built.1

  leads : Leads at_root [] es at_end []
  leads = leads_along es at_root [] at_end [] (text_ends g (orders l lead ok cs ts numbers n es g known.rules) 64 n (map (kind_by ws) (tokens ms)) es reads)

  abbrev forest : Trees ActionSpan
  forest = built.0

  no_names : (f : Fault) → Rattle.ir_forest.specs.ValueFaults.HasNamesFault l.values text es f → ⊥
  no_names = no_names_fault l.formats l.values p text there.fits plain_there there.operation spelt has_text

  no_numbers : (f : Fault) → Rattle.ir_forest.specs.ValueFaults.HasNumberFault l.values text es f → ⊥
  no_numbers = no_number_fault l.formats l.values p text there.fits plain_there there.operation spelt has_text

  distinct_read : AllDistinct (definitions_of (renamed text text tree))
  distinct_read = subst (λ u. AllDistinct (definitions_of u)) (sym built.4) distinct

  scoped_read : IsScopedRoot l.isolated (renamed text text tree)
  scoped_read = subst (λ u. IsScopedRoot l.isolated u) (sym built.4) there.scoped

  isolated_read : IsIsolatedRoot l.isolated tree
  isolated_read = isolated_of_renamed l.isolated text text tree (subst (λ u. IsIsolatedRoot l.isolated u) (sym built.4) there.isolated)

  labelled_read : IsLabelled tree
  labelled_read = labelled_renamed text text tree (subst (λ (u : Entity (List ℕ)). IsLabelled u) (sym built.4) labels_differ)

  no_again : (f : Fault) → IsAgain numbers (definitions l.isolated es) f → ⊥
  no_again = text_none_again l cs ts numbers stops.Text n es reading forest tree built.2 built.3 leads no_names distinct_read scoped_read

  no_lacking : (f : Fault) → IsUnresolvedName numbers (definitions l.isolated es) (mentions l.isolated es) (closings l.isolated es) f → ⊥
  no_lacking = text_none_lacking l cs ts numbers stops.Text n es reading forest tree built.2 built.3 leads no_names distinct_read scoped_read

  means : (i : ℕ) (m : Site) → slice_get (mentions l.isolated es) i ≡ Some m → (j : ℕ) × Means numbers (definitions l.isolated es) m j
  means = text_means l cs ts numbers stops.Text n es reading forest tree built.2 built.3 leads no_names distinct_read scoped_read

  no_label_again : (f : Fault) → IsAgain numbers (labels l.isolated es) f → ⊥
  no_label_again = labels_apart l.isolated l.values text numbers es forest tree (read_in_order l lead ok cs ts numbers n es stops.Text reading).nests built.2 built.3
      (λ i j s u at to e. spelled_alike l cs ts numbers stops.Text n es reading s.token u.token (label_spelled l cs ts numbers stops.Text n es reading s (i, at)) (label_spelled l cs ts numbers stops.Text n es reading u (j, to)) e) labelled_read

  nests : Nests at_root [] es
  nests = (read_in_order l lead ok cs ts numbers n es stops.Text reading).nests

  apart : NamesAreApart (value_names l.isolated es) (label_names l.isolated es)
  apart = names_apart l cs ts numbers stops.Text n es reading lead ok

  -- each label is at its own block
  at_blocks : Alike (λ k m. text k ≡ ν m) (AtBlock (labels l.isolated es) text μ) tree t
  at_blocks = blocks_apart (labels l.isolated es) (label_mentions l.isolated es) text ν μ tree t (ap unlabelled built.4 ∙ same) numbered
      (tree_blocks l.isolated l.values text es forest tree nests built.2 built.3) (edge_tokens l.isolated l.values text es forest tree nests built.2 built.3) apart.labels

  linked : ((m : Site) → In m (label_mentions l.isolated es)
      → (y : ℕ) × Linked text (λ k m. text k ≡ ν m) (AtBlock (labels l.isolated es) text μ) (labels l.isolated es) (label_mentions l.isolated es) m y)
      × Pairs (LinkedToken text (λ k m. text k ≡ ν m) (AtBlock (labels l.isolated es) text μ) (labels l.isolated es) (label_mentions l.isolated es))
      (successors_of tree) (successors_of t)
  linked = edges_linked l.isolated l.values text es forest tree nests built.2 built.3 (λ k m. text k ≡ ν m) (AtBlock (labels l.isolated es) text μ) t at_blocks closed.edges

  -- a label and a mention of one text have one name
  label_named : (s m : Site) → In s (labels l.isolated es) → In m (label_mentions l.isolated es) → text s.token ≡ text m.token
      → name_of numbers s.token ≡ name_of numbers m.token
  label_named s m i j e = numbered_alike l cs ts numbers stops.Text n es reading s.token m.token
      (label_spelled l cs ts numbers stops.Text n es reading s i) (label_mention_spelled l cs ts numbers stops.Text n es reading m j) e

  -- each mention of a block means a label
  label_means : (i : ℕ) (m : Site) → slice_get (label_mentions l.isolated es) i ≡ Some m → (j : ℕ) × Means numbers (labels l.isolated es) m j
  label_means i m at =
      let found = linked.0 m (i, at) in
      let d = found.1.0 in
      let label = found.1.1 in
      (label.0, (d, label.1, (found.1.2, label_named d m label (i, at) (found.1.3.0 ∙ sym found.1.4.0))))

  no_label_lacking : (f : Fault) → IsUnresolvedName numbers (labels l.isolated es) (label_mentions l.isolated es) (label_closings l.isolated es) f → ⊥
  no_label_lacking f h = let lacks = h.3 in let found = label_means lacks.0 lacks.1 lacks.2 in lacks.4 found.0 found.1

  as_many : n ≡ length ts
  as_many =
      let a = length-map (tokens ms) (kind_by ws) in
      let b : length (map (text_of cs) ts) ≡ length (tokens ms) = ap length lexed.2 in
      let c = length-map ts (text_of cs) in
      omega arith

  none : IsNamed (HasFault l cs ts numbers stops.Text n es) None
  none f (inl h) = let less : n < length ts = h.0 in let all = as_many in absurd (omega arith)
  none f (inr (inl h)) = no_numbers f h
  none f (inr (inr (inl h))) = no_names f h
  none f (inr (inr (inr (inl h)))) = low.0 f h
  none f (inr (inr (inr (inr (inl (inl h)))))) = no_again f h
  none f (inr (inr (inr (inr (inl (inr h)))))) = no_lacking f h
  none f (inr (inr (inr (inr (inr (inl (inl h))))))) = no_label_again f h
  none f (inr (inr (inr (inr (inr (inl (inr h))))))) = no_label_lacking f h
  none f (inr (inr (inr (inr (inr (inr h)))))) = no_root_fault l.isolated l.values text es forest tree leads built.2 built.3 isolated_read f h

  -- the text says a tree that is the same but for its labels
  pub read_again : length cs < 2 ^ 63 → (again : Entity ℕ) × Says l cs again × IsSameModule again t
  read_again few = (
    renamed (slice_index found.0.definitions) (slice_index found.0.definitions) tree,
    (ts, numbers, stops.Text, n, es, forest, tree, found.0, reading, none, built.2, built.3, record { faultless = λ f h. none f (inr (inr (inr (inr h)))); values = found.1; labels = found.2 }, refl),
    tree_again l.isolated l.values numbers (definitions l.isolated es) (mentions l.isolated es) (closings l.isolated es) found.0 text ν μ tree t (ap unlabelled built.4 ∙ same)
        closed.operation numbered closed.scoped distinct_read (definition_tokens l.isolated l.values text es forest tree built.2 built.3 leads no_names)
        (mention_tokens l.isolated l.values text es forest tree built.2 built.3 leads no_names) found.1 (λ m i. means i.0 m i.1)
        (definitions_within l cs ts numbers stops.Text n es reading lead ok reading.numbered) (mentions_within l cs ts numbers stops.Text n es reading lead ok reading.numbered)
        (λ s m i j e. spelled_alike l cs ts numbers stops.Text n es reading s.token m.token (value_spelled l cs ts numbers stops.Text n es reading s.token (s, inl i, refl)) (value_spelled l cs ts numbers stops.Text n es reading m.token (m, inr j, refl)) e)
        (blocks_again numbers (labels l.isolated es) (label_mentions l.isolated es) (label_closings l.isolated es) found.0 text ν μ tree t found.2 label_here label_within at_blocks
        (tree_blocks l.isolated l.values text es forest tree nests built.2 built.3))
        (edges_again numbers (labels l.isolated es) (label_mentions l.isolated es) (label_closings l.isolated es) found.0 text ν μ tree t found.2 label_here label_within label_named linked.1),
  )
    where
      label_here : (s : Site) → In s (labels l.isolated es) → s.token < length numbers
      label_here s i =
          let lt = labels_taken l.isolated es (has_own l cs ts numbers stops.Text n es reading lead ok) i.0 s i.1 in
          let enough = all_numbered l cs ts numbers stops.Text n es reading lead ok reading.numbered in omega arith

      label_within : (m : Site) → In m (label_mentions l.isolated es) → m.token < length numbers
      label_within m i =
          let lt = label_mentions_taken l.isolated es (has_own l cs ts numbers stops.Text n es reading lead ok) i.0 m i.1 in
          let enough = all_numbered l cs ts numbers stops.Text n es reading lead ok reading.numbered in omega arith

      found : (r : Resolution) × Resolves numbers (value_names l.isolated es) r.definitions r.count × Resolves numbers (label_names l.isolated es) r.definitions r.labels
      found = resolution numbers (value_names l.isolated es) (label_names l.isolated es) means label_means apart no_again no_label_again
